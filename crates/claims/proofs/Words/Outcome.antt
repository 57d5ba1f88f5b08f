-- The effect of a step of the table on the queues: a move, or none.
use mathlib.Core.Path.{◌≡◌, refl, ap, ◌∙◌, sym}
use mathlib.Core.Bool.{cond, Bool, true, false}
use mathlib.Core.List.{List, [], ◌∷◌, ◌++◌}
use Prim.Native.Nat.{ℕ, ◌≤◌, ◌<◌, ◌+◌}
use native.Mathlib.Omega.{arith}
use native.Mathlib.Nat.{add-zero}
use Rattle.model.specs.declared.Place.{Place}
use Rattle.model.specs.declared.State.{State as WordState}
use Rattle.model.specs.Trees.{Tree}
use Rattle.model.specs.States.{with_tail, with_next, with_status, with_place, with_ticket, with_grant}
use Rattle.model.specs.Steps.{Kind, is_entry, Standing, unchanged, begins, ends, RowResult, Step, step_from}
use Rattle.model.specs.Tenures.{given}
use Rattle.model.proofs.Trees.Accepted.{Accepted}
use Rattle.model.proofs.Trees.Records.{record_small}
use Rattle.model.proofs.Lists.{count}
use Rattle.claims.proofs.Queues.Paths.{laws}
use Rattle.claims.proofs.Queues.Moves as moves
use Rattle.claims.proofs.Queues.Moves.{State, Event}
use Rattle.claims.proofs.Queues.Changes.{Changed, change_shown, change_firsts, event_shown}
use Rattle.claims.proofs.Queues.Invariant.{Inv}
use Rattle.claims.proofs.Queues.Remaining.{acts_real}
use Rattle.claims.proofs.Words.View.{Words, words_in, Room, tail_to, next_to, status_to, place_to, ticket_to, grant_to, tail_stored, next_stored, status_stored, place_stored, ticket_stored, grant_stored, tail_room, next_room, status_room, place_room, ticket_room, grant_room}
use Rattle.claims.proofs.Words.Represents.{Represents}

-- what a step shows of the queues: members that begin or end standing ungranted, and an entry
unfoldable pub ends_shown : (domain : ℕ) → (members : List ℕ) → List Event
ends_shown d [] = []
ends_shown d (m ∷ ms) = moves.ends d m ∷ ends_shown d ms

unfoldable pub standing_shown : Standing → (domain : ℕ) → List Event
standing_shown unchanged d = []
standing_shown (begins m) d = moves.begins d m ∷ []
standing_shown (ends ms) d = ends_shown d ms

unfoldable pub entry_shown : Kind → (thread : ℕ) → List Event
entry_shown k i = cond (is_entry k) (moves.entered i ∷ []) []

-- what a row of a thread at a domain shows
unfoldable pub row_shown : (thread domain : ℕ) → RowResult → List Event
row_shown i d x = standing_shown x.standing d ++ entry_shown x.kind i

unfoldable pub shown : Step → List Event
shown x = standing_shown x.standing x.domain ++ entry_shown x.kind x.thread

-- THE ENTRIES SHOWN: the sum over events of a number that only entries have
unfoldable pub shown_sum : (Event → ℕ) → List Event → ℕ
shown_sum f [] = 0
shown_sum f (e ∷ es) = f e + shown_sum f es

pub event_sum : (f : Event → ℕ) → f moves.nothing ≡ 0 → (e : Event) → shown_sum f (event_shown e) ≡ f e
unfolding shown_sum event_shown
event_sum f z moves.nothing = sym z
event_sum f z (moves.begins d m) = add-zero _
event_sum f z (moves.ends d m) = add-zero _
event_sum f z (moves.entered i) = add-zero _

module _ (f : Event → ℕ) (begin : (d m : ℕ) → f (moves.begins d m) ≡ 0) (end : (d m : ℕ) → f (moves.ends d m) ≡ 0) where
  ends_none : (d : ℕ) (ms : List ℕ) → shown_sum f (ends_shown d ms) ≡ 0
  unfolding shown_sum ends_shown
  ends_none d [] = refl
  ends_none d (m ∷ ms) = omega (arith, end d m, ends_none d ms)

  standing_none : (x : Standing) (d : ℕ) → shown_sum f (standing_shown x d) ≡ 0
  unfolding shown_sum standing_shown
  standing_none unchanged d = refl
  standing_none (begins m) d = omega (arith, begin d m)
  standing_none (ends ms) d = ends_none d ms

  sum_append : (xs ys : List Event) → shown_sum f (xs ++ ys) ≡ shown_sum f xs + shown_sum f ys
  unfolding shown_sum
  sum_append [] ys = omega arith
  sum_append (x ∷ xs) ys = omega (arith, sum_append xs ys)

  pub row_sum : (i d : ℕ) (x : RowResult) → shown_sum f (row_shown i d x) ≡ cond (is_entry x.kind) (f (moves.entered i)) 0
  unfolding row_shown entry_shown
  row_sum i d x =
      sum_append (standing_shown x.standing d) (cond (is_entry x.kind) (moves.entered i ∷ []) []) ∙ rw (standing_none x.standing d) (by (is_entry x.kind))
    where
      by : (b : Bool) → 0 + shown_sum f (cond b (moves.entered i ∷ []) []) ≡ cond b (f (moves.entered i)) 0
      by true = unfold shown_sum in omega arith
      by false = unfold shown_sum in omega arith

-- a row of thread i from a place at domain d: the queues after it, and the moves to them, which show what the row shows. If the tree has two domains, the records that they make first are those that the row gives
pub record Outcome (t : Tree) (g : State) (i d : ℕ) (p : Place) (x : RowResult) : Type 0 where
  pub state : State
  pub room : Room x.state
  pub represents : Represents t (words_in x.state) state
  pub change : Changed t g state
  pub shows : change_shown t change ≡ row_shown i d x
  pub gives : 1 < t.domains → change_firsts t change ≡ given t (step_from t i p x)

-- stores within the arrays, as changes of the words
pub record Stored (s : WordState) (w : Words) : Type 0 where
  pub same : words_in s ≡ w
  pub room : Room s

pub outcome :
    {t : Tree} {g : State} {i d : ℕ} {p : Place} (x : RowResult) (g' : State) {w' : Words} → Stored x.state w' → Represents t w' g' → (c : Changed t g g') →
    change_shown t c ≡ row_shown i d x → change_firsts t c ≡ given t (step_from t i p x) → Outcome t g i d p x
outcome x g' e r c shows gives = record { state = g'; room = e.room; represents = rw e.same r; change = c; shows = shows; gives = λ _. gives }

module _ (s : WordState) (w : Words) (e : Stored s w) where
  pub then_tail : (d v : ℕ) → d < 64 → Stored (with_tail d v s) (tail_to d v w)
  then_tail d v b = record { same = tail_stored s e.room d v b ∙ ap (tail_to d v) e.same; room = tail_room s e.room d v }

  pub then_next : (r v : ℕ) → r < 320 → Stored (with_next r v s) (next_to r v w)
  then_next r v b = record { same = next_stored s e.room r v b ∙ ap (next_to r v) e.same; room = next_room s e.room r v }

  pub then_status : (r v : ℕ) → r < 320 → Stored (with_status r v s) (status_to r v w)
  then_status r v b = record { same = status_stored s e.room r v b ∙ ap (status_to r v) e.same; room = status_room s e.room r v }

  pub then_place : (i : ℕ) (p : Place) → i < 256 → Stored (with_place i p s) (place_to i p w)
  then_place i p b = record { same = place_stored s e.room i p b ∙ ap (place_to i p) e.same; room = place_room s e.room i p }

  pub then_ticket : (v : ℕ) → Stored (with_ticket v s) (ticket_to v w)
  then_ticket v = record { same = ticket_stored s e.room v ∙ ap (ticket_to v) e.same; room = ticket_room s e.room v }

  pub then_grant : (v : ℕ) → Stored (with_grant v s) (grant_to v w)
  then_grant v = record { same = grant_stored s e.room v ∙ ap (grant_to v) e.same; room = grant_room s e.room v }

-- the stores of the rows
module _ (s : WordState) (room : Room s) (i : ℕ) (h : i < 256) (p : Place) where
  start : Stored s (words_in s)
  start = record { same = refl; room = room }

  pub placed : Stored (with_place i p s) (place_to i p (words_in s))
  placed = then_place s _ start i p h

  pub status_placed : (r v : ℕ) → r < 320 → Stored (with_place i p (with_status r v s)) (place_to i p (status_to r v (words_in s)))
  status_placed r v b = then_place _ _ (then_status s _ start r v b) i p h

  pub next_placed : (r v : ℕ) → r < 320 → Stored (with_place i p (with_next r v s)) (place_to i p (next_to r v (words_in s)))
  next_placed r v b = then_place _ _ (then_next s _ start r v b) i p h

  pub tail_placed : (d v : ℕ) → d < 64 → Stored (with_place i p (with_tail d v s)) (place_to i p (tail_to d v (words_in s)))
  tail_placed d v b = then_place _ _ (then_tail s _ start d v b) i p h

  pub prep_placed : (r v n : ℕ) → r < 320 → Stored (with_place i p (with_next r n (with_status r v s))) (place_to i p (next_to r n (status_to r v (words_in s))))
  prep_placed r v n b = then_place _ _ (then_next _ _ (then_status s _ start r v b) r n b) i p h

  pub swap_placed :
      (d n r v : ℕ) → d < 64 → r < 320 → Stored (with_place i p (with_status r v (with_tail d n s))) (place_to i p (status_to r v (tail_to d n (words_in s))))
  swap_placed d n r v b c = then_place _ _ (then_status _ _ (then_tail s _ start d n b) r v c) i p h

  pub draw_placed :
      (r v n : ℕ) → r < 320 → Stored (with_place i p (with_ticket n (with_status r v s))) (place_to i p (ticket_to n (status_to r v (words_in s))))
  draw_placed r v n b = then_place _ _ (then_ticket _ _ (then_status s _ start r v b) n) i p h

  pub grant_placed : (n : ℕ) → Stored (with_place i p (with_grant n s)) (place_to i p (grant_to n (words_in s)))
  grant_placed n = then_place _ _ (then_grant s _ start n) i p h

-- a member in a queue has a record
pub member_small : (t : Tree) → Accepted t → (g : State) → Inv t g → (d m : ℕ) → 1 ≤ count m (g.queue d) → m < 320
member_small t valid g inv d m b =
    let a = inv.acted d m b in
    let r = acts_real t (laws t valid) g inv a.thread a.index a.acting in
    rw a.mine at (record_small t valid a.thread r.0 a.index r.2)
