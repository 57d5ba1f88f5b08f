-- A thread acts at the domains of its path from a number up; its place and one status determine the number.
use mathlib.Core.Path.{◌≡◌, refl, sym, ap, ◌∙◌}
use mathlib.Core.Bool.{Bool, true, false, ◌&&◌, ◌||◌, cond, false≢true}
use Prim.Native.Nat.{ℕ, suc, ◌+◌, ◌-◌, ◌≤◌, ◌<◌}
use native.Mathlib.Omega.{arith}
use lib.Dec.{eqb, ltb, leb}
use lib.ListN.{get_or}
use borrow.Author.Tests.{eq-eqb, eqb-true, le-leb, lt-leb, lt-ltb, le-ltb, leb-true}
use Rattle.model.specs.declared.Place.{Place}
use Rattle.model.specs.declared.Place.TheVariants.{Idle, Prep, Swap, Link, Wait, Inside, Check, Help, Cas, Linger, Grant, Draw, Watch, Raise, Invalid}
use Rattle.model.specs.declared.State.{State}
use Rattle.std.specs.Prelude.{None, Some}
use Rattle.model.specs.Trees.{Tree, on_path, own_record, is_member, owner_domain}
use Rattle.model.specs.Places.{words_of}
use Rattle.model.specs.States.{acquire_parent, next, status, place, numbers_at}
use Rattle.model.specs.Acts.{sends_inside, acts_at, acts}
use Rattle.model.specs.WellFormed.{good_place}
use Rattle.model.proofs.Tests.{and_both, or_true, or_false, any_one, any_found}
use Rattle.model.proofs.Places.{words_of_place}
use Rattle.model.proofs.Trees.Index.{ancestor, height, record_at}
use Rattle.model.proofs.Trees.Accepted.{Accepted}
use Rattle.model.proofs.Trees.Paths.{ancestor_real, path_index, on_path_at, on_path_root}
use Rattle.model.proofs.Trees.Records.{record_small, own_record_at, owner_at, member_owner}
use Rattle.model.proofs.Lists.{less_or}
use Rattle.model.proofs.Laws.Form.{not_invalid}
use Rattle.chain.specs.Chain.{acts_ahead}
use Rattle.chain_call.specs.Tables.{acts_from, OwnedNexts, names_below, ticket_key}

pub same_tests : (a b : Bool) → (a ≡ true → b ≡ true) → (b ≡ true → a ≡ true) → a ≡ b
same_tests true b f g = sym (f refl)
same_tests false true f g = g refl
same_tests false false f g = refl

next_test : (l d : ℕ) → ltb l d ≡ leb (l + 1) d
next_test l d = less_or l d _ (λ h. lt-ltb l d h ∙ sym (le-leb (l + 1) d (omega arith))) (λ h. le-ltb l d h ∙ sym (lt-leb (l + 1) d (omega arith)))

everywhere_test : (b : Bool) (l d : ℕ) → leb l d || b ≡ leb (cond b 0 l) d
everywhere_test true l d = or_true (leb l d) ∙ sym (le-leb 0 d (omega arith))
everywhere_test false l d = or_false (leb l d)

module _ (t : Tree) (s : State) (i : ℕ) where
  -- the status of the record with which a thread works at the domain of its place
  abbrev pub there : (domain : ℕ) → ℕ
  there l = status s (own_record t i l)

  from_cond : (b : Bool) (l d : ℕ) → leb l d || b ≡ leb (cond b 0 (cond false (l + 1) l)) d
  from_cond b l d = everywhere_test b l d

  acts_words : (p : Place) → good_place t i p ≡ true → (d : ℕ) → d < 256 → acts_at t s i p d ≡ leb (acts_from (words_of p) (there (words_of p).domain)) d
  unfolding acts_at good_place
  acts_words Idle g d h = sym (lt-leb 256 d h)
  acts_words (Prep l) g d h = next_test l d
  acts_words (Swap l) g d h = next_test l d
  acts_words (Link l p) g d h = refl
  acts_words (Wait l) g d h = from_cond (sends_inside l (there l)) l d
  acts_words Inside g d h = sym (le-leb 0 d (omega arith))
  acts_words (Check l) g d h = sym (le-leb 0 d (omega arith))
  acts_words (Help l) g d h = refl
  acts_words (Cas l) g d h = refl
  acts_words (Linger l) g d h = refl
  acts_words (Grant l r w) g d h = from_cond (ltb w acquire_parent) l d
  acts_words Draw g d h = next_test 0 d
  acts_words Watch g d h = sym (le-leb 0 d (omega arith))
  acts_words Raise g d h = sym (le-leb 0 d (omega arith))
  acts_words Invalid g d h = absurd (false≢true g)

  module _ (valid : Accepted t) (real : i < t.threads) (good : good_place t i (place s i) ≡ true) where
    abbrev pub from : ℕ
    from = let q = numbers_at s.places i in acts_from q (there q.domain)

    pub acts_test : (d : ℕ) → d < 256 → acts_at t s i (place s i) d ≡ leb from d
    acts_test d h = rw (words_of_place (numbers_at s.places i) (not_invalid t i (place s i) good)) at (acts_words (place s i) good d h)

    -- the thread acts for a record whose next is r exactly if it does so at a domain of its path
    module _ (own : OwnedNexts t s.nexts) where
      abbrev names_at : (r k : ℕ) → Bool
      names_at r k = leb from (ancestor t i k) && eqb (get_or s.nexts (record_at t i k) 0) (r + 1)

      small : (k : ℕ) → ancestor t i k < 256
      small k = let a = ancestor_real t valid i real k in let f = valid.few_domains in omega arith

      ahead_at : (k r : ℕ) → k ≤ height t i → acts_ahead t s (ancestor t i k) r i ≡ names_at r k
      unfolding acts_ahead acts
      ahead_at k r l = rw (on_path_at t valid i real k l, acts_test (ancestor t i k) (small k), own_record_at t valid i real k l) refl

      pub names_ahead : (r : ℕ) → names_below (suc (height t i)) t s.nexts from i r ≡ acts_ahead t s (owner_domain t r) r i
      unfolding acts_ahead acts
      names_ahead r =
          same_tests _ _
          (λ e.
          let x = any_one (suc (height t i)) (names_at r) e in
          let k = x.index in
          let l : k ≤ height t i = omega (arith, x.below) in
          let named : get_or s.nexts (record_at t i k) 0 ≡ r + 1 = eqb-true _ _ (and_both (leb from (ancestor t i k)) (eqb (get_or s.nexts (record_at t i k) 0) (r + 1)) x.holds).1 in
          let m = own.owned (record_at t i k) (record_small t valid i real k l) (λ z. omega arith) in
          let z : get_or s.nexts (record_at t i k) 0 - 1 ≡ r = omega arith in
          let m' : is_member t (ancestor t i k) r ≡ true = rw (z, owner_at t valid i real k l) at m in
          rw (member_owner t valid (ancestor t i k) r m') (ahead_at k r l ∙ x.holds))
          (λ e.
          let d = owner_domain t r in
          let both = and_both (on_path t i d && acts_at t s i (place s i) d) (eqb (next s (own_record t i d)) (r + 1)) e in
          let o = path_index t valid i real d (and_both (on_path t i d) (acts_at t s i (place s i) d) both.0).0 in
          any_found (suc (height t i)) (names_at r) o.index (omega (arith, o.within)) (sym (ahead_at o.index r o.within) ∙ ap (λ x. acts_ahead t s x r i) o.there ∙ e))

    -- the same at a ticket root
    pub ticket_there : (v : ℕ) → ticket_key from v ≡ cond (acts t s i 0 && ltb v 65536) (Some v) None
    unfolding acts
    ticket_there v =
        let z : leb from 0 ≡ eqb from 0 = same_tests (leb from 0) (eqb from 0) (λ e. eq-eqb from 0 (let b = leb-true from 0 e in omega arith)) (λ e. le-leb from 0 (let b = eqb-true from 0 e in omega arith)) in
        rw (on_path_root t valid i real, acts_test 0 (omega arith), z) refl
