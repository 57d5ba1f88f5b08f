-- The length of a domain's tenures, and how many of them a number of members take.
use mathlib.Core.Path.{◌≡◌, refl, ◌∙◌}
use mathlib.Core.Bool.{Bool, true, false, cond}
use mathlib.Core.Logic.{◌≢◌}
use Prim.Native.Nat.{ℕ, suc, ◌+◌, ◌*◌, ◌-◌, ◌/◌, ◌≤◌, ◌<◌}
use native.Mathlib.Omega.{arith}
use native.Mathlib.Nat.{mul-le-mul, mul-le-mul_right}
use lib.Dec.{eqb, ltb}
use borrow.Author.Tests.{eq-eqb, ne_eqb, lt-ltb, ltb-true}
use Rattle.model.specs.Trees.{Tree, level}
use Rattle.model.proofs.Lists.{same_or}
use Rattle.model.proofs.Trees.Accepted.{Accepted}
use Rattle.bounds.specs.StarvationFreedom.Bounds.{members, effective_threshold, others_passes, entry_rounds, tenure_length, tenures_for, link_rounds, standing_rounds}
use Rattle.bounds.proofs.starvation_freedom.Arithmetic.{quotient_grows, one_tenure, by_one, fewer_tenures, no_more_tenures}

-- the tenures of a domain: of one member each, or longer ones, below the root with several members
pub data TenureLength (t : Tree) (d : ℕ) : Type 0 where
  singly : tenure_length t d ≡ 1 → TenureLength t d
  longer : 1 < tenure_length t d → 0 < d → 1 < members t d → tenure_length t d ≡ t.threshold d → TenureLength t d

module _ (t : Tree) (valid : Accepted t) (d : ℕ) (h : d < t.domains) where
  pub length_of : TenureLength t d
  unfolding tenure_length effective_threshold
  length_of = same_or d 0 _ (λ z. singly (rw (eq-eqb d 0 z) refl)) (λ z. by z (ltb 1 (members t d)) refl)
    where
      by : d ≢ 0 → (b : Bool) → ltb 1 (members t d) ≡ b → TenureLength t d
      by z false e = singly (rw (ne_eqb d 0 z, e) refl)
      by z true e =
          let is : cond (eqb d 0) 1 (cond (ltb 1 (members t d)) (t.threshold d) 1) ≡ t.threshold d = rw (ne_eqb d 0 z, e) refl in
          let some = valid.threshold_some d (omega arith) h in
          same_or (t.threshold d) 1 _
          (λ y. singly (is ∙ y))
          (λ y. longer (omega arith) (omega arith) (ltb-true 1 (members t d) e) is)

  pub length_some : 1 ≤ tenure_length t d
  length_some = by length_of
    where
      by : TenureLength t d → 1 ≤ tenure_length t d
      by (singly z) = omega arith
      by (longer l p m z) = omega arith

  -- each member has a tenure of its own
  pub tenures_singly : tenure_length t d ≡ 1 → (n : ℕ) → tenures_for t d n ≡ n
  unfolding tenures_for
  tenures_singly z n = let y : n + 1 - 1 ≡ n = omega arith in rw (z, y) (by_one n)

  pub no_link : tenure_length t d ≡ 1 → link_rounds t d ≡ 0
  unfolding link_rounds
  no_link z = rw z refl

  pub a_link : 1 < tenure_length t d → link_rounds t d ≡ 1
  unfolding link_rounds
  a_link l = rw (lt-ltb 1 (tenure_length t d) l) refl

  -- the tenures for n members are enough for those ahead of one of them, and its own
  pub tenures_enough : (p n : ℕ) → p < n → suc (p / tenure_length t d) ≤ tenures_for t d n
  unfolding tenures_for
  tenures_enough p n l =
      let k = tenure_length t d in
      let x = quotient_grows k (k + p) (n + k - 1) length_some (omega (arith, length_some)) in
      omega (arith, one_tenure k p length_some)

  pub tenures_over : (p n : ℕ) → p ≤ n → p / tenure_length t d ≤ tenures_for t d n
  unfolding tenures_for
  tenures_over p n l = quotient_grows (tenure_length t d) p (n + tenure_length t d - 1) length_some (omega (arith, length_some))

  -- fewer tenures than members; for one member less, at most as many
  pub tenures_fewer : 1 < tenure_length t d → 1 < members t d → (suc (tenures_for t d (members t d)) ≤ members t d) × (tenures_for t d (members t d - 1) ≤ members t d - 1)
  unfolding tenures_for
  tenures_fewer l m = (fewer_tenures (members t d) (tenure_length t d) m l, no_more_tenures (members t d - 1) (tenure_length t d) length_some)

  -- the rounds of a standing are enough for at most that many acquisitions, releases and entries
  pub standing_enough : (m above p q w : ℕ) → p ≤ tenures_for t d (members t d) → q ≤ tenures_for t d (members t d - 1) → w ≤ others_passes t d m →
      link_rounds t d + p * above + q * (5 * level t d) + entry_rounds t * w ≤ standing_rounds t d m above
  unfolding standing_rounds
  standing_enough m above p q w a b c =
      let x = mul-le-mul_right above a in
      let y = mul-le-mul_right (5 * level t d) b in
      let same : entry_rounds t ≤ entry_rounds t = omega arith in
      let z = mul-le-mul same c in
      omega arith

  -- they are enough to acquire the domains above
  pub standing_above : (m above : ℕ) → 1 ≤ members t d → above ≤ standing_rounds t d m above
  unfolding standing_rounds
  standing_above m above s =
      let x = tenures_enough 0 (members t d) s in
      let one : 1 ≤ tenures_for t d (members t d) = omega arith in
      let y = mul-le-mul_right above one in
      omega arith
