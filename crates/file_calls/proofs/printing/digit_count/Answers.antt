-- By the logarithm to the base ten.
use Rattle.std.proofs.Common.{ap, ◌∙◌, ◌+◌}
use Rattle.file_calls.proofs.printing.Digits.{length_logarithm}
use Rattle.file_calls.proofs.printing.digit_count.Goals as goal

pub returns-clause-value : goal.returns-clause-value
returns-clause-value c = ap (λ n. n + 1) c.unwrap_or.ensures ∙ length_logarithm c.args.value c.checked_ilog10.result c.checked_ilog10.ensures.none c.checked_ilog10.ensures.power_le c.checked_ilog10.ensures.next_power_gt
