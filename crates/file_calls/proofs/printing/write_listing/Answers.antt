-- 0 in place of nothing.
use Rattle.std.proofs.Common.{◌∙◌, ap, unwrap_or, rules}
use Rattle.file_calls.proofs.printing.Printing.{fitted_or_none}
use Rattle.file_calls.proofs.printing.write_listing.Goals as goal

pub returns : goal.returns
returns c =
    record {
      value = c.unwrap_or.ensures ∙ ap (λ o. unwrap_or o 0) c.put_listing.ensures.value ∙ fitted_or_none _ _;
      upper_bound = search rules;
      output_after = c.put_listing.ensures.output_after;
    }
