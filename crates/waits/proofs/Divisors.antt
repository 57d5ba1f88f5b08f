-- The greatest common divisor and the mean, by divisibility.
use mathlib.Core.Path.{◌≡◌, refl, sym, ap, subst, ◌∙◌}
use mathlib.Core.Logic.{◌≢◌}
use Prim.Native.Nat.{ℕ, zero, suc, one, ◌*◌, ◌/◌, ◌%◌, ◌≤◌, ◌<◌, ◌∣◌}
use native.Mathlib.Omega.{arith}
use native.Mathlib.Decide.{ℕ_discrete}
use native.Mathlib.Nat.{mod-lt, dvd_refl, dvd-zero, dvd-mod_iff, pos_of_dvd_of_pos, div-mul_cancel, mul-dvd-mul_right, dvd_of_mul-dvd-mul_right, eq-one_of_dvd-one, mul_comm, mul_assoc, one-mul, mul-zero, zero-div}
use borrow.Author.Tests.{eq-eqb, ne_eqb}
use Rattle.waits.specs.Rows.{divisor_in, greatest_divisor, mean}
use Rattle.waits.specs.Laws.{MeanLaw}

-- if the second number is 0 the first is the answer, otherwise the division continues
divisor_ends : (n a b : ℕ) → b ≡ 0 → divisor_in n a b ≡ a
unfolding divisor_in
divisor_ends zero a b e = refl
divisor_ends (suc n) a b e = rw (eq-eqb b 0 e)

divisor_next : (n a b : ℕ) → b ≢ 0 → divisor_in (suc n) a b ≡ divisor_in n b (a % b)
unfolding divisor_in
divisor_next n a b e = rw (ne_eqb b 0 e)

-- more divisions than are needed change nothing
enough : (n m a b : ℕ) → b ≤ n → b ≤ m → divisor_in n a b ≡ divisor_in m a b
enough zero m a b h k = let z : b ≡ 0 = omega arith in divisor_ends zero a b z ∙ sym (divisor_ends m a b z)
enough (suc n) zero a b h k = let z : b ≡ 0 = omega arith in divisor_ends (suc n) a b z ∙ sym (divisor_ends zero a b z)
enough (suc n) (suc m) a b h k =
    elim (ℕ_discrete b 0) [
      | yes z ↦ divisor_ends (suc n) a b z ∙ sym (divisor_ends (suc m) a b z)
      | no z ↦
          (let l : a % b < b = mod-lt a {m = b} (omega arith) in
          divisor_next n a b z ∙ enough n m b (a % b) (omega arith) (omega arith) ∙ sym (divisor_next m a b z))
    ]

-- one division of Euclid's algorithm
pub euclid : (a b : ℕ) → b ≢ 0 → greatest_divisor b (a % b) ≡ greatest_divisor a b
euclid a b z =
    let l : a % b < b = mod-lt a {m = b} (omega arith) in
    enough (a % b) b b (a % b) (omega arith) (omega arith) ∙ sym (divisor_next b a b z) ∙ enough (suc b) b a b (omega arith) (omega arith)

pub euclid_ends : (a b : ℕ) → b ≡ 0 → a ≡ greatest_divisor a b
euclid_ends a b z = sym (divisor_ends b a b z)

-- it divides both numbers, and every number that divides both divides it
divides_both : (n a b : ℕ) → b ≤ n → (divisor_in n a b ∣ a) × (divisor_in n a b ∣ b)
divides_both zero a b h = let z : b ≡ 0 = omega arith in rw (divisor_ends zero a b z) (dvd_refl a, rw z (dvd-zero a))
divides_both (suc n) a b h =
    elim (ℕ_discrete b 0) [
      | yes z ↦ rw (divisor_ends (suc n) a b z) (dvd_refl a, rw z (dvd-zero a))
      | no z ↦
          (let l : a % b < b = mod-lt a {m = b} (omega arith) in
          let g = divides_both n b (a % b) (omega arith) in
          rw (divisor_next n a b z) ((dvd-mod_iff (divisor_in n b (a % b)) {m = a} {n = b} g.0).0 g.1, g.0))
    ]

divided_by_all : (n a b d : ℕ) → b ≤ n → d ∣ a → d ∣ b → d ∣ divisor_in n a b
divided_by_all zero a b d h x y = let z : b ≡ 0 = omega arith in rw (divisor_ends zero a b z) x
divided_by_all (suc n) a b d h x y =
    elim (ℕ_discrete b 0) [
      | yes z ↦ rw (divisor_ends (suc n) a b z) x
      | no z ↦
          (let l : a % b < b = mod-lt a {m = b} (omega arith) in
          rw (divisor_next n a b z) (divided_by_all n b (a % b) d (omega arith) y ((dvd-mod_iff d {m = a} {n = b} y).1 x)))
    ]

module _ (w n : ℕ) where
  abbrev g : ℕ
  g = greatest_divisor w n

  both : (g ∣ w) × (g ∣ n)
  both = divides_both n w n (omega arith)

  same : w / g * n ≡ w * (n / g)
  same =
      let a : w / g * g ≡ w = div-mul_cancel g both.0 in
      let b : n / g * g ≡ n = div-mul_cancel g both.1 in
      ap (λ v. w / g * v) (sym b ∙ mul_comm (n / g) g) ∙ sym (mul_assoc (w / g) g (n / g)) ∙ ap (λ v. v * (n / g)) a

  pub positive : n ≢ 0 → 0 < g
  positive z = pos_of_dvd_of_pos both.1 (omega arith)

  lowest : (d : ℕ) → n ≢ 0 → d ∣ w / g → d ∣ n / g → d ≡ 1
  lowest d z x y =
      let a : d * g ∣ w = subst (λ v. d * g ∣ v) (div-mul_cancel g both.0) (mul-dvd-mul_right d x g) in
      let b : d * g ∣ n = subst (λ v. d * g ∣ v) (div-mul_cancel g both.1) (mul-dvd-mul_right d y g) in
      let c : d * g ∣ one * g = subst (λ v. d * g ∣ v) (sym (one-mul g)) (divided_by_all n w n (d * g) (omega arith) a b) in
      eq-one_of_dvd-one (dvd_of_mul-dvd-mul_right d (positive z) c)

pub mean_law : MeanLaw
unfolding MeanLaw mean
mean_law w n =
    elim (ℕ_discrete n 0) [
      | yes z ↦
          rw (eq-eqb n 0 z)
          (record {
            same = rw z (sym (mul-zero w));
            lowest = λ d h. absurd (h z);
            none = λ e. (refl, refl);
            nothing = λ h. absurd (h z);
          })
      | no z ↦
          rw (ne_eqb n 0 z)
          (record {
            same = same w n;
            lowest = lowest w n;
            none = λ e. absurd (z e);
            nothing =
                λ h e.
                (let top : w / g w n ≡ 0 = ap (λ v. v / g w n) e ∙ zero-div (g w n) in
                (top, lowest w n (n / g w n) h (subst (λ v. n / g w n ∣ v) (sym top) (dvd-zero (n / g w n))) (dvd_refl (n / g w n))));
          })
    ]
