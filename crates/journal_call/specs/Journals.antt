-- The check of a journal piece by piece: what holds between two pieces, and the result of a piece.
use Rattle.std.specs.Prelude.{◌≡◌, List, ℕ, ◌≤◌, ◌<◌, length, Result, Ok, Err}
use Rattle.model.specs.declared.TreeWords.{TreeWords}
use Rattle.model.specs.declared.State.{State}
use Rattle.model.specs.Trees.{tree_of}
use Rattle.model.specs.Refusals.{Refusal, refusal, accepted, tree_refusal}
use Rattle.model.specs.Laws.{Formed}
use Rattle.refusals.specs.Reasons.{number_of}
use Rattle.journal.specs.Answers.{fresh_lock, checked, journal_refusal}
use Rattle.journal_call.specs.declared.journals.Refused.{Refused}

-- the tree passes its tests, the state so far is well formed, and the rest of the journal decides the answer
pub record SoFar (tree : TreeWords) (bytes : List ℕ) (state : State) (position before : ℕ) : Type 0 where
  pub passes : (tree_refusal (tree_of tree)).number ≡ 0
  pub formed : Formed (tree_of tree) state
  pub ahead : checked (length bytes) (tree_of tree) state bytes position before ≡ checked (length bytes) (tree_of tree) (fresh_lock tree) bytes 0 0

-- what a check says as number and place: 0 and 0 if nothing is refused
abbrev pub refused_by : {A : Type 0} → Result A Refused → Refusal
refused_by (Ok _) = accepted
refused_by (Err r) = refusal (number_of r.reason) r.place

-- after a piece: the state and the position from which the next piece continues, further on and within the journal if any byte was left; or the refusal
abbrev pub Turned : {A : Type 0} (tree : TreeWords) (bytes : List ℕ) (position : ℕ) → Result A Refused → State → (next before : ℕ) → Type 0
Turned w bs p (Ok _) s q b = (p < length bs → (p < q) × (q ≤ length bs)) × SoFar w bs s q b
Turned w bs p (Err r) s q b = refusal (number_of r.reason) r.place ≡ journal_refusal w bs
