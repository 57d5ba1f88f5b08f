-- The witnesses of the rate hold.
use mathlib.Core.Path.{refl}
use native.Mathlib.Omega.{arith}
use lib.Ieee.{of_bits, fits}
use Rattle.rate.specs.Rate.{is_time}
use Rattle.rate.specs.Laws.{TimeLaw}
use Rattle.rate.specs.Cases.Witnesses.{example_times, Witnesses}
use Rattle.rate.proofs.Tests.{time_law}

pub witnesses : Witnesses
unfolding TimeLaw example_times is_time lib.Ieee.le of_bits fits
witnesses =
    let a = (time_law example_times.p1).0 refl in
    let b = (time_law example_times.p2).0 refl in
    let c = (time_law example_times.p3).0 refl in
    record {
      example = record { h1_above_zero = omega arith; h2_above_zero = omega arith; p1_in_range = a; p2_in_range = b; p3_in_range = c };
      sixteen_bit = (omega arith, omega arith);
      ones = record { h1_above_zero = omega arith; h2_above_zero = omega arith; p1_in_range = a; p2_in_range = b; p3_in_range = c };
      held = tt;
    }
