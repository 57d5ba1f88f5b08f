-- The witnesses of the printed listing hold.
use Prim.Native.Nat.{ℕ, zero, suc, ◌<◌}
use native.Mathlib.Omega.{arith}
use lib.ListN.{get_or}
use Rattle.lock_file.specs.Cases.PrintedListingWitnesses.{example_counts, example_trace, Witnesses}

short : (k : ℕ) → get_or example_trace k 0 < 1000
short zero = omega arith
short (suc zero) = omega arith
short (suc (suc zero)) = omega arith
short (suc (suc (suc k))) = omega arith

pub witnesses : Witnesses
unfolding example_counts
witnesses =
    record {
      counts = record { steps = omega arith; entries = omega arith; stays = omega arith; root = omega arith; passed = omega arith; crossed = omega arith };
      trace = short;
    }
