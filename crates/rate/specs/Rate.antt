-- Document 02, (xiii): the rate of a busy three-level lock. Floats are IEEE 754 values as in `lib.Ieee`: `fin false m e` is m * 2 ^ e. Each operation rounds once, to the nearest value, and to even in a tie.
use Rattle.std.specs.Prelude.{ℕ, ◌-◌, ◌*◌, Bool, false, ◌&&◌, pos, negsuc, Float}
use Rattle.std.specs.Float.{fin, binary64}
use Rattle.std.specs.Float.Ieee.{add, mul, div, le, of_int}
use Rattle.rate.specs.declared.PassingTimes.{PassingTimes}

-- the range of a time, both ends included. The shortest is 1/1024, that is 1 * 2 ^ -10
abbrev pub shortest_time : Float
shortest_time = fin false 1 (negsuc 9)

-- the longest is 1,048,576, that is 1 * 2 ^ 20
abbrev pub longest_time : Float
longest_time = fin false 1 (pos 20)

-- the float is in this range; `le` is false for a NaN
unfoldable pub is_time : Float → Bool
is_time x = le shortest_time x && le x longest_time

-- THE WHOLE-NUMBER PARTS. One cycle of a busy lock, from one pass across the root to the next, has h1 * h2 entries
abbrev pub entries : (h1 h2 : ℕ) → ℕ
entries h1 h2 = h1 * h2

-- h2 - 1 passes from home to home
abbrev pub p2_passes : (h2 : ℕ) → ℕ
p2_passes h2 = h2 - 1

-- h2 * (h1 - 1) passes within homes
abbrev pub p1_passes : (h1 h2 : ℕ) → ℕ
p1_passes h1 h2 = h2 * (h1 - 1)

-- a whole number as a float
abbrev pub as_float : ℕ → Float
as_float n = of_int binary64 (pos n)

-- EACH ROUNDED ONCE: the p2 product
unfoldable pub p2_product : (h2 : ℕ) → PassingTimes → Float
p2_product h2 p = mul binary64 (as_float (p2_passes h2)) p.p2

-- the p1 product
unfoldable pub p1_product : (h1 h2 : ℕ) → PassingTimes → Float
p1_product h1 h2 p = mul binary64 (as_float (p1_passes h1 h2)) p.p1

-- p3 plus the p2 product
unfoldable pub outer_time : (h2 : ℕ) → PassingTimes → Float
outer_time h2 p = add binary64 p.p3 (p2_product h2 p)

-- that sum plus the p1 product
unfoldable pub cycle_time : (h1 h2 : ℕ) → PassingTimes → Float
cycle_time h1 h2 p = add binary64 (outer_time h2 p) (p1_product h1 h2 p)

-- the quotient
unfoldable pub passing_rate : (h1 h2 : ℕ) → PassingTimes → Float
passing_rate h1 h2 p = div binary64 (as_float (entries h1 h2)) (cycle_time h1 h2 p)
