-- `rate::in_range` meets its contract. The compiled code has the two ends as bit patterns, and `of_bits` computes them.
use mathlib.Core.Path.{◌≡◌, refl}
use lib.Ieee.{of_bits, binary64}
use Rattle.rate.specs.Rate.{shortest_time, longest_time, is_time}
use Rattle.rate.proofs.in_range.Goals as goal

shortest-is : of_bits binary64 0x3f50_0000_0000_0000 ≡ shortest_time
unfolding of_bits
shortest-is = refl

longest-is : of_bits binary64 0x4130_0000_0000_0000 ≡ longest_time
unfolding of_bits
longest-is = refl

pub returns-then-x : goal.returns-then-x
unfolding is_time
returns-then-x c = rw (← shortest-is, ← longest-is, c.if-x.true)

pub returns-else-x : goal.returns-else-x
unfolding is_time
returns-else-x c = rw (← shortest-is, c.if-x.false)
