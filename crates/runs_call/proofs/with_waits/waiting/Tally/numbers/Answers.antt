-- `runs_call::with_waits::waiting::Tally::numbers` meets its contract: the numbers stored so far.
use mathlib.Core.Path.{sym, ap, ◌∙◌}
use native.Mathlib.Omega.{arith}
use Rattle.runs_call.specs.WithWaits.Tallies.{number_of}
use Rattle.runs_call.proofs.with_waits.Kept.{mark_read}
use Rattle.runs_call.proofs.with_waits.Writing.{numbered_start, numbered_turn, numbered_ends}
use Rattle.runs_call.proofs.with_waits.waiting.Tally.numbers.Goals as goal

pub loop-k-init : goal.loop-k-init
loop-k-init c = numbered_start _ _ _ _

pub number_of-requires : goal.number_of-requires
number_of-requires c = record { entered_bound = c.requires.marks_fit.few; mark_bound = omega (arith, mark_read c.args.self.now.threads c.loop-k.k, c.requires.marks_fit.each c.loop-k.k (omega (arith, c.requires.threads_bound, c.loop-k-test.true))) }

pub loop-k-preserved : goal.loop-k-preserved
loop-k-preserved c = numbered_turn _ _ _ _ _ _ c.loop-k.invariant c.loop-k-test.true _ (c.number_of.ensures ∙ ap (number_of _) (sym (mark_read c.args.self.now.threads c.loop-k.k)))

pub returns : goal.returns
returns c = numbered_ends _ _ _ _ _ _ c.loop-k.invariant (omega arith)
