-- Stopped without a first digit; with one, reading continues digit by digit.
use Rattle.std.proofs.Common.{◌≡◌, sym, ◌∙◌, ap, min, Err, ◌+◌, get_or, rules, arith}
use Rattle.text_tree.specs.Reading.{in_count}
use Rattle.text_tree.proofs.Digits.{first_digit_bounds}
use Rattle.text_tree_call.specs.Inner.{from}
use Rattle.text_tree_call.proofs.Limits.{min_least, digit_same}
use Rattle.text_tree_call.proofs.Moving.{count_begins, count_goes_on}
use Rattle.text_tree_call.proofs.Parts.{count_none}
use Rattle.text_tree_call.proofs.numbers.read_count.Goals as goal

pub returns-in_err-number : goal.returns-in_err-number
returns-in_err-number c =
    let e : c.from_residual.result ≡ Err c.in_err-number.field-0.0 = search rules in
    rw e (count_none _ _ _ c.in_err-number.ensures)

pub loop-i-init : goal.loop-i-init
loop-i-init c =
    let h = c.in_ok-number.ensures in (
      λ d ds w. count_begins _ _ d ds w h.0 ∙ ap (λ n. from c.args.text.now (c.args.at + 1) (in_count n d ds (c.args.at + 1) w)) (sym h.1),
      omega (arith, h.1, first_digit_bounds (get_or c.args.text.now c.args.at 0) h.0),
    )

pub loop-i-preserved : goal.loop-i-preserved
loop-i-preserved c =
    let grew = c.min-number.ensures ∙ ap (λ x. min x 257) c.grow.ensures in (
      λ d ds w. c.loop-i.invariant.0 d ds w ∙ count_goes_on _ _ d ds w _ (sym (digit_same (get_or c.args.text.now c.loop-i.i 0)) ∙ sym c.is_ascii_digit.ensures.value ∙ c.if-not-is_ascii_digit.false) ∙ rw (grew, min_least 257 _),
      search rules,
    )
