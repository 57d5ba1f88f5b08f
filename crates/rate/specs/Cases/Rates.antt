-- Cases of the rate, in one list: rates that depend on the roundings and their order, both ends of the range and the floats next to them, and each refusal at its place. A float is written as its bit pattern; the rates were computed by a separate program.
use Rattle.std.specs.Prelude.{◌≡◌, Bool, true, false, ◌&&◌, List, [], ◌∷◌, ℕ, eqb}
use Rattle.std.specs.Float.{binary64}
use Rattle.std.specs.Float.Ieee.{of_bits, to_bits}
use Rattle.rate.specs.declared.RateReply.{RateReply}
use Rattle.rate.specs.Answers.{rate_answer, reply_of}

-- the reply for two thresholds and the bit patterns of three times
abbrev pub asked : (h1 h2 : ℕ) → (p1 p2 p3 : ℕ) → RateReply
asked h1 h2 p1 p2 p3 = reply_of (rate_answer h1 h2 (record { p1 = of_bits binary64 p1; p2 = of_bits binary64 p2; p3 = of_bits binary64 p3 }))

-- a reply with this number, place and bit pattern of the rate
abbrev pub replies : (number place : ℕ) → (rate : ℕ) → RateReply → Bool
replies n p x r = eqb r.number n && (eqb r.place p && eqb (to_bits binary64 r.rate) x)

-- every test of a list passes
abbrev pub all : List Bool → Bool
all [] = true
all (b ∷ bs) = b && all bs

-- THE BIT PATTERNS. 1/20
abbrev pub twentieth : ℕ
twentieth = 0x3fa9_9999_9999_999a

-- 1/5
abbrev pub fifth : ℕ
fifth = 0x3fc9_9999_9999_999a

-- 1
abbrev pub one : ℕ
one = 0x3ff0_0000_0000_0000

-- 1/1024
abbrev pub least : ℕ
least = 0x3f50_0000_0000_0000

-- the float below 1/1024
abbrev pub under_least : ℕ
under_least = 0x3f4f_ffff_ffff_ffff

-- 1,048,576
abbrev pub most : ℕ
most = 0x4130_0000_0000_0000

-- the float above 1,048,576
abbrev pub over_most : ℕ
over_most = 0x4130_0000_0000_0001

-- minus 1
abbrev pub minus_one : ℕ
minus_one = 0xbff0_0000_0000_0000

-- minus 0
abbrev pub minus_zero : ℕ
minus_zero = 0x8000_0000_0000_0000

-- the smallest subnormal
abbrev pub subnormal : ℕ
subnormal = 1

-- infinity
abbrev pub infinity : ℕ
infinity = 0x7ff0_0000_0000_0000

-- minus infinity
abbrev pub minus_infinity : ℕ
minus_infinity = 0xfff0_0000_0000_0000

-- a NaN
abbrev pub not_a_number : ℕ
not_a_number = 0x7ff8_0000_0000_0000

-- rates. 16 and 4 are the example of docs/RATE.md. At 4 and 19 each of these would give another pattern: the sum in another order, a product rounded twice, a product not rounded before it is added, a single rounding at the end, and the thresholds exchanged
abbrev pub rates : List Bool
rates =
    replies 0 0 0x402b_d37a_6f4d_e9be (asked 16 4 twentieth fifth one)
    ∷ replies 0 0 0x4024_6716_55e7_f242 (asked 4 19 twentieth fifth one)
    ∷ replies 0 0 0x4033_ffc3_ff38_0410 (asked 65535 65535 twentieth fifth one)
    ∷ replies 0 0 0x4090_0000_0000_0000 (asked 65535 65535 least least least)
    ∷ replies 0 0 0x3eb0_0000_0000_0000 (asked 65535 65535 most most most)
    ∷ replies 0 0 0x3eb0_0010_0020_0000 (asked 65535 1 most least least)
    ∷ replies 0 0 0x3eb0_0010_0020_0000 (asked 1 65535 least most least)
    ∷ []

-- refused thresholds
abbrev pub refused_thresholds : List Bool
refused_thresholds =
    replies 8 1 0 (asked 0 1 one one one)
    ∷ replies 8 2 0 (asked 1 0 one one one)
    ∷ replies 8 1 0 (asked 0 0 one one one)
    -- 8 comes before 24
    ∷ replies 8 2 0 (asked 1 0 minus_one minus_one minus_one)
    ∷ []

-- refused times
abbrev pub refused_times : List Bool
refused_times =
    replies 24 1 0 (asked 1 1 under_least one one)
    ∷ replies 24 2 0 (asked 1 1 one under_least one)
    ∷ replies 24 3 0 (asked 1 1 one one under_least)
    ∷ replies 24 1 0 (asked 1 1 over_most one one)
    ∷ replies 24 2 0 (asked 1 1 one over_most one)
    ∷ replies 24 3 0 (asked 1 1 one one over_most)
    ∷ replies 24 1 0 (asked 1 1 minus_one not_a_number infinity)
    ∷ replies 24 2 0 (asked 1 1 one minus_zero infinity)
    ∷ replies 24 3 0 (asked 1 1 one one subnormal)
    ∷ replies 24 1 0 (asked 1 1 infinity one one)
    ∷ replies 24 2 0 (asked 1 1 one minus_infinity one)
    ∷ replies 24 3 0 (asked 1 1 one one not_a_number)
    ∷ []

-- all cases
unfoldable pub cases : Bool
cases = all rates && (all refused_thresholds && all refused_times)

-- EVERY PART MATTERS: the right reply, and replies that are wrong only in the number, the place or the bits. A reply with these parts
abbrev pub reply : (number place bits : ℕ) → RateReply
reply n p x = record { number = n; place = p; rate = of_bits binary64 x }

-- whether each of them has the parts expected
unfoldable pub parts : List Bool
parts = replies 24 1 one (reply 24 1 one) ∷ replies 24 1 one (reply 8 1 one) ∷ replies 24 1 one (reply 24 2 one) ∷ replies 24 1 one (reply 24 1 fifth) ∷ []

-- only the right one does
unfoldable pub EveryPart : Type 0
EveryPart = parts ≡ true ∷ false ∷ false ∷ false ∷ []
