-- `refusals::of_runs::states::good_threads` meets its contract: all threads so far have good records and places.
use mathlib.Core.Path.{sym}
use mathlib.Core.Bool.{false}
use native.Mathlib.Omega.{arith}
use borrow.Author.Rules.{rules}
use Rattle.refusals.proofs.Scanning.{all_fails, by_answer}
use Rattle.refusals.proofs.of_runs.states.good_threads.Goals as goal

pub returns-then-not-good_thread_at : goal.returns-then-not-good_thread_at
returns-then-not-good_thread_at c = sym (all_fails _ _ c.loop-i.i (omega arith) (by_answer _ false c.good_thread_at.ensures (search rules)))
