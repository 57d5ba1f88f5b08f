-- Members, tails and records by the table of owners: the tests agree with document 01.
use mathlib.Core.Path.{◌≡◌, refl}
use mathlib.Core.Bool.{Bool, true, false, ◌&&◌, ◌||◌, not, cond}
use mathlib.Core.List.{List}
use Prim.Native.Nat.{ℕ, ◌-◌, ◌≤◌, ◌<◌}
use native.Mathlib.Omega.{arith}
use native.Mathlib.Decide.{dec_lt}
use lib.Dec.{eqb, ltb}
use borrow.Author.Tests.{ne_eqb, lt-ltb, le-ltb, ltb-true, eqb-false, not-true}
use Rattle.model.specs.declared.State.{State}
use Rattle.model.specs.States.{tail, next, status}
use Rattle.model.specs.Trees.{Tree, is_ticket, is_child, is_record, is_member, owner_domain}
use Rattle.model.specs.WellFormed.{good_tail, good_next, good_status}
use Rattle.model.proofs.Tests.{and_both, and_grouped}
use Rattle.model.proofs.Trees.Accepted.{Accepted}
use Rattle.refusals.specs.OfRuns.Tables.{Owners, member_in, next_in, record_in}

-- a record is a domain's member exactly if the domain is its owner
member_owned : (t : Tree) (d r : ℕ) → is_member t d r ≡ is_record t r && eqb (owner_domain t r) d
unfolding is_member is_record owner_domain is_child
member_owned t d r = by (ltb r 256)
  where
    by :
        (s : Bool) →
        cond s (ltb r t.threads && eqb (t.home r) d) (ltb (r - 256) t.domains && (not (eqb (r - 256) 0) && eqb (t.parent (r - 256)) d))
        ≡ cond s (ltb r t.threads) (ltb (r - 256) t.domains && not (eqb (r - 256) 0)) && eqb (cond s (t.home r) (t.parent (r - 256))) d
    by true = refl
    by false = and_grouped (ltb (r - 256) t.domains) (not (eqb (r - 256) 0)) (eqb (t.parent (r - 256)) d)

module _ (t : Tree) (valid : Accepted t) where
  -- owners are domains of the tree
  pub owner_low : (r : ℕ) → is_record t r ≡ true → owner_domain t r < t.domains
  unfolding is_record owner_domain
  owner_low r e =
      elim (dec_lt r 256) [
        | yes p ↦
            let z = lt-ltb r 256 p in
            let h = valid.home_real r (ltb-true r t.threads (rw z at e)) in
            rw z h
        | no p ↦
            let z = le-ltb r 256 (omega arith) in
            let both = and_both (ltb (r - 256) t.domains) (not (eqb (r - 256) 0)) (rw z at e) in
            let l = ltb-true (r - 256) t.domains both.0 in
            let n = eqb-false (r - 256) 0 (not-true (eqb (r - 256) 0) both.1) in
            let h = valid.parent_lower (r - 256) (omega (arith, n)) l in
            rw z (omega (arith, h, l))
      ]

  pub owner_small : (r : ℕ) → is_record t r ≡ true → owner_domain t r < 64
  owner_small r e = omega (arith, valid.few_domains, owner_low r e)

  beyond : (r : ℕ) → 320 ≤ r → is_record t r ≡ false
  unfolding is_record
  beyond r h = rw (le-ltb r 256 (omega arith), le-ltb (r - 256) t.domains (omega (arith, valid.few_domains)))

  module _ (os : List ℕ) (owned : Owners t os) where
    pub member_is : (d r : ℕ) → d < 64 → member_in os d r ≡ is_member t d r
    member_is d r w =
        elim (dec_lt r 320) [
          | yes p ↦ rw (lt-ltb r 320 p, owned.owner r p, member_owned t d r) (by (is_record t r))
          | no p ↦ rw (le-ltb r 320 (omega arith), member_owned t d r, beyond r (omega arith))
        ]
      where
        by : (b : Bool) → eqb (cond b (owner_domain t r) 255) d ≡ b && eqb (owner_domain t r) d
        by true = refl
        by false = ne_eqb 255 d (omega arith)

    next_is : (d n : ℕ) → d < 64 → next_in os d n ≡ eqb n 0 || is_member t d (n - 1)
    next_is d n w = rw (member_is d (n - 1) w)

    -- at a ticket root there is no tail
    pub tail_is : (s : State) (d : ℕ) → d < 64 → good_tail t s d ≡ next_in os d (tail s d) && (not (is_ticket t d) || eqb (tail s d) 0)
    unfolding good_tail
    tail_is s d w = rw (next_is d (tail s d) w) (by (eqb (tail s d) 0) (is_ticket t d) (is_member t d (tail s d - 1)))
      where
        by : (a b c : Bool) → a || (not b && c) ≡ (a || c) && (not b || a)
        by true true c = refl
        by true false c = refl
        by false true true = refl
        by false true false = refl
        by false false true = refl
        by false false false = refl

    pub record_is : (s : State) (r : ℕ) → r < 320 → record_in os r (next s r) (status s r) ≡ good_next t s r && good_status t s r
    unfolding good_next good_status
    record_is s r w = rw (owned.owner r w) (by (is_record t r) refl)
      where
        none : (a b : Bool) → a && b ≡ (a || false) && (b || false)
        none true true = refl
        none true false = refl
        none false b = refl

        free : (a b c : Bool) → a || c ≡ (a || c) && (b || true)
        free true true c = refl
        free true false c = refl
        free false true true = refl
        free false true false = refl
        free false false true = refl
        free false false false = refl

        by :
            (b : Bool) → is_record t r ≡ b →
            cond (eqb (cond b (owner_domain t r) 255) 255) (eqb (next s r) 0 && eqb (status s r) 0) (next_in os (cond b (owner_domain t r) 255) (next s r))
            ≡ (eqb (next s r) 0 || (b && is_member t (owner_domain t r) (next s r - 1))) && (eqb (status s r) 0 || b)
        by true e =
            let o = owner_small r e in
            rw (ne_eqb (owner_domain t r) 255 (omega arith), next_is (owner_domain t r) (next s r) o)
            (free (eqb (next s r) 0) (eqb (status s r) 0) (is_member t (owner_domain t r) (next s r - 1)))
        by false e = none (eqb (next s r) 0) (eqb (status s r) 0)
