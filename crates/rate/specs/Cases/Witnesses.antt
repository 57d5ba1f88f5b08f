-- WITNESSES: inputs that meet the conditions of the laws of the rate; docs/WITNESSES.md lists them.
use Rattle.std.specs.Prelude.{◌<◌, ◌^◌, T}
use Rattle.std.specs.Float.{binary64}
use Rattle.std.specs.Float.Ieee.{fits, of_bits}
use Rattle.rate.specs.declared.PassingTimes.{PassingTimes}
use Rattle.rate.specs.Laws.{Accepted}
use Rattle.rate.specs.Cases.Rates.{twentieth, fifth, one}

-- the times of the example in docs/RATE.md
unfoldable pub example_times : PassingTimes
example_times = record { p1 = of_bits binary64 twentieth; p2 = of_bits binary64 fifth; p3 = of_bits binary64 one }

-- they meet the conditions
pub record Witnesses : Type 0 where
  -- its 16-bit thresholds; and both thresholds 1, where p3 is the value of an f64
  pub example : Accepted 16 4 example_times
  pub sixteen_bit : (16 < 2 ^ 16) × (4 < 2 ^ 16)
  pub ones : Accepted 1 1 example_times
  pub held : T (fits binary64 example_times.p3)
