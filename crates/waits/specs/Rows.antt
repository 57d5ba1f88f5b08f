-- Document 02, (vi): the row for a list of waits, and the mean as a fraction in lowest terms.
use Rattle.std.specs.Prelude.{cond, List, [], ◌∷◌, ◌++◌, ℕ, zero, suc, ◌/◌, ◌%◌, max, min, eqb, length, get_or}
use Rattle.model.specs.Trees.{Tree}
use Rattle.model.specs.Steps.{Step}
use Rattle.schedules.specs.Rows.{total}
use Rattle.waits.specs.declared.Fraction.{Fraction}
use Rattle.waits.specs.Attempts.{waits_from, waits_below_from, waits_below}

-- the largest wait; 0 if there is none
unfoldable pub largest : List ℕ → ℕ
largest [] = 0
largest (n ∷ ns) = max n (largest ns)

-- the greatest common divisor, by Euclid's algorithm with at most this many divisions
unfoldable pub divisor_in : (divisions a b : ℕ) → ℕ
divisor_in zero a b = a
divisor_in (suc n) a b = cond (eqb b 0) a (divisor_in n b (a % b))

-- the greatest common divisor. Each remainder is smaller than the divisor, so b divisions are enough
abbrev pub greatest_divisor : (a b : ℕ) → ℕ
greatest_divisor a b = divisor_in b a b

-- a total over a number of attempts in lowest terms; 0 over 0 without attempts
unfoldable pub mean : (total attempts : ℕ) → Fraction
mean w n =
    cond (eqb n 0) (record { numerator = 0; denominator = 0 })
    (record { numerator = w / greatest_divisor w n; denominator = n / greatest_divisor w n })

-- a row: attempts finished, total wait, largest wait, and the two numbers of the mean
unfoldable pub row_with : (attempts total largest : ℕ) → List ℕ
row_with n w m = let f = mean w n in n ∷ w ∷ m ∷ f.numerator ∷ f.denominator ∷ []

-- the row for a list of waits
unfoldable pub row_of : List ℕ → List ℕ
row_of ws = row_with (length ws) (total ws) (largest ws)

-- the rows of the first threads, in order, given the attempts under way before the steps
unfoldable pub rows_below_from : Tree → (under_way : List ℕ) → (threads : ℕ) → List Step → List ℕ
rows_below_from t us zero xs = []
rows_below_from t us (suc n) xs = rows_below_from t us n xs ++ row_of (waits_from t n (get_or us n 0) xs)

-- the same for attempts that begin and finish within a run
abbrev pub rows_below : Tree → (threads : ℕ) → List Step → List ℕ
rows_below t n xs = rows_below_from t [] n xs

-- one row per thread, and a last row for all threads together
unfoldable pub all_rows : Tree → List Step → List ℕ
all_rows t xs = rows_below t t.threads xs ++ row_of (waits_below t t.threads xs)

-- a number, or the largest 64-bit number if that is smaller
unfoldable pub capped : ℕ → ℕ
capped n = min n 18446744073709551615

-- the row for all threads together if attempts may be under way before the steps: the total may exceed 64 bits and is then capped; the mean uses the capped total
unfoldable pub row_of_all : List ℕ → List ℕ
row_of_all ws = row_with (length ws) (capped (total ws)) (largest ws)

-- one row per thread, and the last row, given the attempts under way before the steps
unfoldable pub all_rows_from : Tree → (under_way : List ℕ) → List Step → List ℕ
all_rows_from t us xs = rows_below_from t us t.threads xs ++ row_of_all (waits_below_from t us t.threads xs)
