-- Quotients by a threshold, rounded down, times the rounds above.
use mathlib.Core.Path.{◌≡◌, ap}
use Prim.Native.Nat.{ℕ, suc, ◌+◌, ◌*◌, ◌-◌, ◌/◌, ◌≤◌, ◌<◌}
use native.Mathlib.Omega.{arith}
use native.Mathlib.Nat.{le-div_iff_mul-le, div-lt_iff_lt-mul, div-mul-le_self, add-div_left, mul-le-mul, mul-le-mul_right}

-- more members need at least as many tenures
pub quotient_grows : (n a b : ℕ) → 0 < n → a ≤ b → a / n ≤ b / n
quotient_grows n a b h l = (le-div_iff_mul-le h).1 (let x = div-mul-le_self a n in omega arith)

pub product_grows : (n a b w : ℕ) → 0 < n → a ≤ b → (a / n) * w ≤ (b / n) * w
product_grows n a b w h l = mul-le-mul_right w (quotient_grows n a b h l)

-- one full tenure more
pub one_tenure : (n p : ℕ) → 0 < n → (n + p) / n ≡ suc (p / n)
one_tenure n p h = let x = add-div_left p {k = n} h in omega arith

pub tenure_over : (n v p w : ℕ) → 0 < n → n ≤ v → w + (p / n) * w ≤ ((v + p) / n) * w
tenure_over n v p w h l =
    let x = product_grows n (n + p) (v + p) w h (omega arith) in
    let y : ((n + p) / n) * w ≡ suc (p / n) * w = ap (λ m. m * w) (one_tenure n p h) in
    omega arith

-- if at most all except one are ahead
pub rounded_up : (n p m w : ℕ) → 0 < n → suc p ≤ m → w + (p / n) * w ≤ ((m + n - 1) / n) * w
rounded_up n p m w h l =
    let z : m + n - 1 - p + p ≡ m + n - 1 = omega arith in
    rw z at (tenure_over n (m + n - 1 - p) p w h (omega arith))

-- tenures of one member
pub by_one : (n : ℕ) → n / 1 ≡ n
by_one n =
    let some : 0 < 1 = omega arith in
    let x : n ≤ n / 1 = (le-div_iff_mul-le some).1 (omega arith) in
    let y = div-mul-le_self n 1 in
    omega arith

-- if two or more enter in a tenure, there are fewer tenures than members
pub fewer_tenures : (n k : ℕ) → 2 ≤ n → 2 ≤ k → suc ((n + k - 1) / k) ≤ n
fewer_tenures n k h l =
    let m = n - 2 in
    let same : m ≤ m = omega arith in
    let one : 1 ≤ k = omega arith in
    let x : m * 1 ≤ m * k = mul-le-mul same one in
    let all : n * k ≡ m * k + 2 * k = split m n k (omega arith) in
    let some : 0 < k = omega arith in
    let y : (n + k - 1) / k < n = (div-lt_iff_lt-mul some).1 (omega arith) in
    omega arith
  where
    split : (m n k : ℕ) → n ≡ 2 + m → n * k ≡ m * k + 2 * k
    split m n k e = rw e (omega arith)

-- and never more
pub no_more_tenures : (n k : ℕ) → 1 ≤ k → (n + k - 1) / k ≤ n
no_more_tenures n k l =
    let same : n ≤ n = omega arith in
    let x : n * 1 ≤ n * k = mul-le-mul same l in
    let some : 0 < k = omega arith in
    let y : (n + k - 1) / k < suc n = (div-lt_iff_lt-mul some).1 (omega arith) in
    omega arith
