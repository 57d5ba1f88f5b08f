-- What the calls on a state that the host keeps return: everything except the state; and that they are calls of the lists of the third demand.
use Rattle.std.specs.Prelude.{◌≡◌, cond, ◌≢◌, ℕ, eqb}
use Rattle.model.specs.declared.TreeWords.{TreeWords}
use Rattle.model.specs.declared.LockState.{LockState}
use Rattle.model.specs.declared.FreshReply.{FreshReply}
use Rattle.model.specs.declared.StepReply.{StepReply}
use Rattle.model.specs.Trees.{tree_of}
use Rattle.model.specs.States.{fresh_state}
use Rattle.model.specs.Counters.{lock_state, fresh_counters}
use Rattle.model.specs.Answers.{fresh_answer, step_answer}
use Rattle.model.specs.Calls.{one_step, stepped, answer}
use Rattle.host.specs.declared.Answer.{Answer}
use Rattle.host.specs.declared.StepAnswer.{StepAnswer}

-- the reply of a fresh call without the state
abbrev pub fresh_without_state : FreshReply → Answer
fresh_without_state r = record { number = r.number; place = r.place }

-- the state that a fresh call in place leaves: the fresh state if accepted; unchanged if refused
unfoldable pub fresh_left : FreshReply → (before : LockState) → LockState
fresh_left r s = cond (eqb r.number 0) r.state s

-- the reply of a step without the state
abbrev pub step_without_state : StepReply → StepAnswer
step_without_state r = record { number = r.number; place = r.place; kind = r.kind; domain = r.domain }

-- an accepted fresh call in place leaves the fresh state, a refused one leaves the state unchanged
pub record Leaves (w : TreeWords) (start : ℕ) (s : LockState) : Type 0 where
  pub accepted : (fresh_answer w start).number ≡ 0 → fresh_left (fresh_answer w start) s ≡ lock_state (fresh_state (tree_of w) start) fresh_counters
  pub refused : (fresh_answer w start).number ≢ 0 → fresh_left (fresh_answer w start) s ≡ s

-- for every tree, start and state
unfoldable pub FreshInPlaceLaw : Type 0
FreshInPlaceLaw = (w : TreeWords) (start : ℕ) (s : LockState) → Leaves w start s

-- what a step in place returns, together with the state that it leaves
abbrev pub with_state : StepAnswer → LockState → StepReply
with_state a s = record { number = a.number; place = a.place; kind = a.kind; domain = a.domain; state = s }

-- whatever a step in place returns and leaves by its contract is the answer of that step as a call of a list, so the claim of the third demand covers it
unfoldable pub InPlaceLaw : Type 0
InPlaceLaw =
    (w : TreeWords) (s : LockState) (i : ℕ) (returned : StepAnswer) (left : LockState) → returned ≡ step_without_state (step_answer w s i) → left ≡ (step_answer w s i).state →
    stepped (with_state returned left) ≡ answer (record { tree = w; ask = one_step i }) s
