-- The threads so far are counted.
use mathlib.Core.Path.{◌≡◌}
use lib.ListN.{get_or}
use Rattle.std.specs.Prelude.{None}
use Rattle.chain_call.specs.Tables.{count_below, has_key}
use Rattle.chain_call.proofs.links.only_with.Given as goal

abbrev pub invariant-loop-j : goal.invariant-loop-j
invariant-loop-j l = l.count ≡ count_below l.j (λ k. has_key (get_or l.keys k None) l.key)
