-- `journal_call::step_check::pieces::stretch_of` meets its contract: 19 stops it, or an unknown thread, or nothing.
use mathlib.Core.Path.{refl}
use Rattle.journal_call.proofs.step_check.Stretching.{known_front, early, counter_stops, counters_pass}
use Rattle.journal_call.proofs.step_check.pieces.stretch_of.Goals as goal

pub lent_counter_refusal_of-requires : goal.lent_counter_refusal_of-requires
lent_counter_refusal_of-requires c = early _ _ _ c.requires.ready c.requires.threads_len_bound _ (known_front _ _ c.first_unknown.result c.first_unknown.ensures _ c.unwrap_or-known.ensures)

pub returns-in-Err : goal.returns-in-Err
returns-in-Err c = counter_stops _ _ _ c.requires.ready c.requires.threads_len_bound _ (known_front _ _ c.first_unknown.result c.first_unknown.ensures _ c.unwrap_or-known.ensures) c.in-Err.refusal c.in-Err.ensures _ refl

pub returns-in-Ok : goal.returns-in-Ok
returns-in-Ok c = rw c.then_some.ensures (counters_pass _ _ _ c.requires.ready c.requires.threads_len_bound _ (known_front _ _ c.first_unknown.result c.first_unknown.ensures _ c.unwrap_or-known.ensures) c.in-Ok.ensures)
