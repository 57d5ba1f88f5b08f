-- Records whose next is set: no step clears it while they are in a queue.
use mathlib.Core.Path.{◌≡◌, refl, sym, ap, ◌∙◌}
use mathlib.Core.List.{List, [], ◌∷◌, ◌++◌}
use mathlib.Core.Logic.{◌≢◌}
use Prim.Native.Nat.{ℕ, ◌≤◌, ◌<◌}
use native.Mathlib.Omega.{arith}
use lib.ListN.{length}
use Rattle.model.specs.declared.Place.TheVariants.{Idle, Prep}
use Rattle.model.specs.declared.State.{State as WordState}
use Rattle.model.specs.Trees.{Tree, own_record}
use Rattle.model.specs.States.{next, place}
use Rattle.model.specs.Steps.{row}
use Rattle.model.specs.Laws.{SixteenBit}
use Rattle.model.proofs.Lists.{is_same, count, count_cons}
use Rattle.model.proofs.Trees.Index.{record_at}
use Rattle.model.proofs.Trees.Accepted.{Accepted}
use Rattle.model.proofs.Trees.Paths.{ancestor_home}
use Rattle.model.proofs.Trees.Records.{own_record_at}
use Rattle.claims.proofs.Queues.Paths.{laws}
use Rattle.claims.proofs.Queues.Moves.{down}
use Rattle.claims.proofs.Queues.Invariant.{fresh}
use Rattle.claims.proofs.Words.Outcome.{member_small}
use Rattle.bounds.proofs.starvation_freedom.Situations as situations
use Rattle.bounds.proofs.starvation_freedom.Situations.{Situation, queues, next_words}
use Rattle.bounds.proofs.starvation_freedom.Says.{Says, says}
use Rattle.bounds.proofs.starvation_freedom.Queues.{gone}
use Rattle.chain.proofs.Reached.Rows.{next_left}

-- every record of a list has a next
unfoldable pub AllLinked : WordState → List ℕ → Type 0
AllLinked s [] = Unit {0}
AllLinked s (a ∷ rs) = (next s a ≢ 0) × AllLinked s rs

pub linked_same : (s s' : WordState) (rs : List ℕ) → ((a : ℕ) → 1 ≤ count a rs → next s a ≢ 0 → next s' a ≢ 0) → AllLinked s rs → AllLinked s' rs
unfolding AllLinked
linked_same s s' [] h l = tt
linked_same s s' (a ∷ rs) h l =
    (h a (omega (arith, count_cons a a rs, is_same a a refl)) l.0, linked_same s s' rs (λ b c. h b (omega (arith, count_cons b a rs))) l.1)

pub linked_join : (s : WordState) (rs bs : List ℕ) → AllLinked s rs → AllLinked s bs → AllLinked s (rs ++ bs)
unfolding AllLinked
linked_join s [] bs l m = m
linked_join s (a ∷ rs) bs l m = (l.0, linked_join s rs bs l.1 m)

module _ (t : Tree) (valid : Accepted t) (bits : SixteenBit t) (c : Situation t) (x : ℕ) (hx : x < t.threads) where
  -- a record in a queue keeps its next
  pub next_stays : (d a : ℕ) → 1 ≤ count a ((queues c).queue d) → next c.words a ≢ 0 → next (situations.next t valid bits c x hx).words a ≢ 0
  unfolding Says down
  next_stays d a h n =
      let inv = c.queued.represents.invariant in
      let s = c.words in
      let room : a < length s.nexts = omega (arith, c.queued.room.nexts_room, member_small t valid (queues c) inv d a h) in
      let at_prep : (l : ℕ) → place s x ≡ Prep l → own_record t x l ≢ a = λ l e z.
      let y = says t valid c x hx (Prep l) e in
      let own : own_record t x l ≡ record_at t x y.0 = ap (own_record t x) y.1.0 ∙ own_record_at t valid x hx y.0 y.1.1 in
      let o = fresh t (laws t valid) (queues c) inv x y.0 d y.2 in
      let w : count a ((queues c).queue d) ≡ 0 = rw (← own, z) at o in
      omega arith in
      let at_idle : place s x ≡ Idle → own_record t x (t.home x) ≢ a = λ e z.
      let y = says t valid c x hx Idle e in
      let own : own_record t x (t.home x) ≡ record_at t x 0 = ap (own_record t x) (sym (ancestor_home t x)) ∙ own_record_at t valid x hx 0 (omega arith) in
      let o = gone t (laws t valid) (queues c) inv x 0 hx y d in
      let w : count a ((queues c).queue d) ≡ 0 = rw (← own, z) at o in
      omega arith in
      let e : next (situations.next t valid bits c x hx).words a ≡ next (row t x (place s x) s).state a = ap (λ u. next u a) (next_words t valid bits c x hx) in
      rw e (next_left t s x a (place s x) room (at_prep, at_idle) n)

  pub linked_stays : (d : ℕ) (rs : List ℕ) → ((a : ℕ) → 1 ≤ count a rs → 1 ≤ count a ((queues c).queue d)) → AllLinked c.words rs → AllLinked (situations.next t valid bits c x hx).words rs
  linked_stays d rs within l = linked_same c.words _ rs (λ a h n. next_stays d a (within a h) n) l
