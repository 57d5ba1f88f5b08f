-- `rate::rate_of` meets its contract: the two products fit in 32 bits, and the result is the definition.
use mathlib.Core.Path.{refl}
use native.Mathlib.Omega.{arith}
use borrow.Author.Rules.{rules}
use Rattle.rate.specs.Rate.{p2_product, p1_product, outer_time, cycle_time, passing_rate}
use Rattle.rate.proofs.Bounds.{product_fits}
use Rattle.rate.proofs.rate_of.Goals as goal

pub overflow_mul-entries : goal.overflow_mul-entries
overflow_mul-entries c = record { fits = product_fits _ _ (search rules) (search rules) }

pub overflow_mul-p1_passes : goal.overflow_mul-p1_passes
overflow_mul-p1_passes c = record { fits = product_fits _ _ (search rules) (omega arith) }

pub returns : goal.returns
unfolding p2_product p1_product outer_time cycle_time passing_rate
returns c = refl
