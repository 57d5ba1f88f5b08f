-- Tests of all numbers of a range, and the lowest number that fails one.
use mathlib.Core.Path.{◌≡◌, refl, sym, ap, fun_ext, ◌∙◌}
use mathlib.Core.Bool.{Bool, true, false, ◌&&◌, cond}
use Prim.Native.Nat.{ℕ, zero, suc, ◌+◌, ◌-◌, ◌≤◌, ◌<◌}
use native.Mathlib.Omega.{arith}
use Rattle.std.proofs.Common.{Option, None, Some}
use Rattle.std.specs.Option.{option_map}
use Rattle.std.specs.List.{list_all, find, range_with_len}
use Rattle.model.specs.Scans.{all_below}
use Rattle.refusals.specs.Lowest.{Lowest, FindsLowest}
use Rattle.refusals.proofs.Scanning.{one_more}

-- the first number apart
pub all_split : (n : ℕ) (f : ℕ → Bool) → all_below (suc n) f ≡ (f 0 && all_below n (λ k. f (suc k)))
unfolding all_below
all_split zero f = by (f 0)
  where
    by : (b : Bool) → true && b ≡ (b && true)
    by true = refl
    by false = refl
all_split (suc n) f = rw (all_split n f) (by (f 0) (all_below n (λ k. f (suc k))) (f (suc n)))
  where
    by : (a b c : Bool) → (a && b) && c ≡ (a && (b && c))
    by true b c = refl
    by false b c = refl

all_from : (a n : ℕ) (f : ℕ → Bool) → list_all f (range_with_len a n) ≡ all_below n (λ k. f (a + k))
unfolding all_below
all_from a zero f = refl
all_from a (suc n) f =
    let here : a + 0 ≡ a = omega arith in
    let later : (k : ℕ) → a + 1 + k ≡ a + suc k = λ k. omega arith in
    rw (all_split n (λ k. f (a + k)), here) (ap (λ b. f a && b) (all_from (a + 1) n f ∙ ap (all_below n) (fun_ext (λ k. ap f (later k)))))

pub all_in_range : (n : ℕ) (f : ℕ → Bool) → list_all f (range_with_len 0 n) ≡ all_below n f
all_in_range n f =
    let whole : (k : ℕ) → 0 + k ≡ k = λ k. omega arith in
    all_from 0 n f ∙ ap (all_below n) (fun_ext (λ k. ap f (whole k)))

-- a search of a range from a on, below which no place is bad
find_lowest :
    (test bad : ℕ → Bool) (a k n : ℕ) → a + k ≡ n → ((j : ℕ) → j < a → bad j ≡ false) → ((j : ℕ) → a ≤ j → j < n → test j ≡ bad j) →
    FindsLowest n bad (find test (range_with_len a k))
find_lowest test bad a zero n e below same =
    (record { within = omega arith; passed = λ j l. below j (omega arith); fails = λ l. absurd (omega arith) }, tt)
find_lowest test bad a (suc k) n e below same =
    by (test a) refl (λ here. find_lowest test bad (a + 1) k n (omega arith) (one_more bad false a below here) (λ j h l. same j (omega arith) l))
  where
    by : (b : Bool) → test a ≡ b → (bad a ≡ false → FindsLowest n bad (find test (range_with_len (a + 1) k))) → FindsLowest n bad (cond b (Some a) (find test (range_with_len (a + 1) k)))
    by true f rest = (record { within = omega arith; passed = below; fails = λ l. sym (same a (omega arith) l) ∙ f }, omega arith)
    by false f rest = rest (sym (same a (omega arith) (omega arith)) ∙ f)

-- the same for the result of `find`
pub found_lowest :
    (test bad : ℕ → Bool) (a n : ℕ) (found : Option ℕ) → option_map (λ x. x) found ≡ find test (range_with_len a (n - a)) → a ≤ n →
    ((j : ℕ) → j < a → bad j ≡ false) → ((j : ℕ) → a ≤ j → j < n → test j ≡ bad j) → FindsLowest n bad found
found_lowest test bad a n found e l below same =
    rw (← (sym (itself found) ∙ e)) at (find_lowest test bad a (n - a) n (omega arith) below same)
  where
    itself : (x : Option ℕ) → option_map (λ (y : ℕ). y) x ≡ x
    itself None = refl
    itself (Some y) = refl

-- a scan that finds nothing
pub none_found : (n : ℕ) (bad : ℕ → Bool) (found : Option ℕ) → found ≡ None → FindsLowest n bad found → Lowest n bad n
none_found n bad found e L = let l = rw e at L in l.0
