-- A row of the step table: the words that it leaves, and what it reports about its step.
use Rattle.std.specs.Prelude.{◌≡◌, ℕ, not, ◌≢◌, ◌==◌}
use Rattle.model.specs.declared.PlaceArrays.{PlaceArrays}
use Rattle.model.specs.declared.PlaceWords.{PlaceWords}
use Rattle.model.specs.declared.State.{State}
use Rattle.model.specs.Trees.{Tree, child, own_record}
use Rattle.model.specs.Steps.{kind_number, RowResult}
use Rattle.model.specs.States.{numbers_at, store_numbers}
use Rattle.rows.specs.declared.common.Member.{Member}
use Rattle.rows.specs.declared.common.rows.Moved.{Moved}
use Rattle.rows.specs.declared.kinds.Kind.{Kind}
use Rattle.rows.specs.Kinds.{number_of_kind}

-- what a row reports: the kind of its step and the thread's place after it
abbrev pub moved : Kind → PlaceWords → Moved
moved k q = record { kind = k; place = q }

-- the state with other numbers for a thread's place
abbrev pub with_place_words : (thread : ℕ) → PlaceWords → State → State
with_place_words i q s = record { tails = s.tails; nexts = s.nexts; statuses = s.statuses; places = store_numbers s.places i q; ticket = s.ticket; grant = s.grant }

-- the state with other places
abbrev pub with_places : PlaceArrays → State → State
with_places ps s = record { tails = s.tails; nexts = s.nexts; statuses = s.statuses; places = ps; ticket = s.ticket; grant = s.grant }

-- the numbers of a thread's place
abbrev pub place_at : State → (thread : ℕ) → PlaceWords
place_at s i = numbers_at s.places i

-- a row is done: it reports its kind, and the words that it leaves, with the reported place of the thread, are its state
pub record Done (x : RowResult) (i : ℕ) (m : Moved) (left : State) : Type 0 where
  pub kind_is : number_of_kind m.kind ≡ kind_number x.kind
  pub state_left : with_place_words i m.place left ≡ x.state

-- no place is written, and wherever the threads are, in every tree in which the row's inputs are what it reads, the row is done
pub record RowDone (Given : Tree → (thread : ℕ) → State → Type 0) (row : Tree → (thread : ℕ) → State → RowResult) (m : Moved) (old new : State) : Type 0 where
  pub places_kept : new.places ≡ old.places
  pub does : (t : Tree) (i : ℕ) (ps : PlaceArrays) → Given t i (with_places ps old) → Done (row t i (with_places ps old)) i m (with_places ps new)

-- thread i is this member of the domain. At its home the child is not read
pub record Stands (t : Tree) (i : ℕ) (w : Member) : Type 0 where
  pub home_is : w.home ≡ t.home i
  pub own_is : w.own ≡ own_record t i w.domain
  pub child_is : w.domain ≢ w.home → w.child ≡ child t i w.domain

-- the number stands for the tree's kind of root
abbrev pub RootIs : Tree → (kind : ℕ) → Type 0
RootIs t k = not (k == 0) ≡ t.ticket_root

-- the parent of a domain and the kind of root. For the root no parent is read
pub record Above (t : Tree) (kind domain parent : ℕ) : Type 0 where
  pub parent_is : domain ≢ 0 → parent ≡ t.parent domain
  pub root_is : RootIs t kind
