-- Stopped without a first digit; with one, reading continues digit by digit.
use Rattle.std.proofs.Common.{◌≡◌, sym, ◌∙◌, ap, Err, ◌+◌, get_or, rules, arith}
use Rattle.text_tree.specs.Reading.{in_threshold}
use Rattle.text_tree.proofs.Digits.{first_digit_bounds, grows_limit}
use Rattle.text_tree_call.specs.Inner.{from}
use Rattle.text_tree_call.proofs.Moving.{threshold_begins, threshold_goes_on}
use Rattle.text_tree_call.proofs.Parts.{threshold_none}
use Rattle.text_tree_call.proofs.numbers.read_threshold.Goals as goal

pub returns-in_err-number : goal.returns-in_err-number
returns-in_err-number c =
    let e : c.from_residual.result ≡ Err c.in_err-number.field-0.0 = search rules in
    rw e (threshold_none _ _ _ c.in_err-number.ensures)

pub loop-i-init : goal.loop-i-init
loop-i-init c =
    let h = c.in_ok-number.ensures in (
      λ d ds w. threshold_begins _ _ d ds w h.0 ∙ ap (λ n. from c.args.text.now (c.args.at + 1) (in_threshold n d ds (c.args.at + 1) w)) (sym h.1),
      omega (arith, h.1, first_digit_bounds (get_or c.args.text.now c.args.at 0) h.0),
    )

pub loop-i-preserved : goal.loop-i-preserved
loop-i-preserved c =
    let grows_on = sym c.if-not-grows_with.ensures in (
      λ d ds w. c.loop-i.invariant.0 d ds w ∙ threshold_goes_on _ _ d ds w _ grows_on ∙ rw c.grow-number.ensures,
      rw c.grow-number.ensures (grows_limit _ _ grows_on),
    )
