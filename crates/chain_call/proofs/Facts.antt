-- What a well-formed state implies about each thread and each next.
use mathlib.Core.Path.{◌≡◌}
use mathlib.Core.Bool.{true, ◌&&◌, ◌||◌, not, cond}
use mathlib.Core.Logic.{inl, inr}
use Prim.Native.Nat.{ℕ, ◌-◌, ◌≤◌, ◌<◌}
use native.Mathlib.Omega.{arith}
use lib.Dec.{eqb, ltb, leb}
use borrow.Author.Tests.{eqb-true, lt-ltb, leb-true}
use Rattle.model.specs.declared.Place.TheVariants.{Watch}
use Rattle.model.specs.declared.State.{State}
use Rattle.model.specs.Scans.{all_below}
use Rattle.model.specs.Trees.{Tree, own_record, is_record, is_member, owner_domain}
use Rattle.model.specs.Places.{is_watch, is_idle}
use Rattle.model.specs.States.{next, status, place}
use Rattle.model.specs.WellFormed.{good_tail, good_next, good_status, good_place, good_watch, good_thread, good_counters, well_formed}
use Rattle.model.proofs.Tests.{and_both, or_cases, all_each}
use Rattle.model.proofs.Trees.Accepted.{Accepted}
use Rattle.chain_call.specs.Tables.{OwnedNexts}

module _ (t : Tree) (valid : Accepted t) (s : State) (form : well_formed t s ≡ true) where
  parts : (all_below 320 (good_next t s) ≡ true) × (all_below 256 (good_thread t s) ≡ true)
  unfolding well_formed
  parts =
      let halves = and_both (all_below 64 (good_tail t s) && all_below 320 (good_next t s)) (all_below 320 (good_status t s) && (all_below 256 (good_thread t s) && good_counters t s)) form in
      let a = and_both (all_below 64 (good_tail t s)) (all_below 320 (good_next t s)) halves.0 in
      let b = and_both (all_below 320 (good_status t s)) (all_below 256 (good_thread t s) && good_counters t s) halves.1 in
      (a.1, (and_both (all_below 256 (good_thread t s)) (good_counters t s) b.1).0)

  pub owned_nexts : OwnedNexts t s.nexts
  unfolding good_next
  owned_nexts =
      record {
        owned = λ r b n. elim (or_cases (eqb (next s r) 0) (is_record t r && is_member t (owner_domain t r) (next s r - 1)) (all_each 320 _ parts.0 r b)) [
          | inl e ↦ absurd (n (eqb-true (next s r) 0 e))
          | inr e ↦ (and_both (is_record t r) (is_member t (owner_domain t r) (next s r - 1)) e).1
        ];
      }

  module _ (i : ℕ) (h : i < t.threads) where
    both : (good_place t i (place s i) ≡ true) × (good_watch t s i ≡ true)
    unfolding good_thread
    both =
        let one : cond (ltb i t.threads) (good_place t i (place s i) && good_watch t s i) (is_idle (place s i)) ≡ true = all_each 256 _ parts.1 i (omega (arith, valid.few_threads)) in
        and_both (good_place t i (place s i)) (good_watch t s i) (rw (lt-ltb i t.threads h) at one)

    pub place_good : good_place t i (place s i) ≡ true
    place_good = both.0

    -- a watched status is a ticket
    pub watched : place s i ≡ Watch → status s (own_record t i 0) ≤ 65535
    unfolding good_watch is_watch
    watched e =
        let g : not (is_watch (place s i)) || leb (status s (own_record t i 0)) 65535 ≡ true = both.1 in
        leb-true _ _ (rw e at g)
