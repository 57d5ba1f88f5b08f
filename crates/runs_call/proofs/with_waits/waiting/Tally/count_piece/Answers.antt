-- `runs_call::with_waits::waiting::Tally::count_piece` meets its contract: the steps so far are counted.
use mathlib.Core.Path.{ap, ◌∙◌}
use Prim.Native.Nat.{◌+◌, ◌≤◌}
use native.Mathlib.Omega.{arith}
use lib.ListN.{set}
use Rattle.lock.proofs.steps.SoFar.{at_most}
use Rattle.runs_call.proofs.with_waits.Counting.{one_if, counted_start, thread_small, codes_long, entered_few, note_fits, counted_read, counted_ends}
use Rattle.runs_call.proofs.with_waits.waiting.Tally.count_piece.Goals as goal

pub loop-k-init : goal.loop-k-init
loop-k-init c = counted_start _ _ _ _ _

pub bounds-codes-k : goal.bounds-codes-k
bounds-codes-k c = codes_long _ _ _ _ _ _ _ _ c.loop-k.invariant c.loop-k-test.true c.requires

pub bounds-tree-at : goal.bounds-tree-at
bounds-tree-at c = rw c.from-at.ensures (thread_small _ _ _ _ _ _ _ _ c.loop-k.invariant c.loop-k-test.true c.requires)

pub bounds-self-at : goal.bounds-self-at
bounds-self-at c = rw c.from-at.ensures (thread_small _ _ _ _ _ _ _ _ c.loop-k.invariant c.loop-k-test.true c.requires)

pub note-requires : goal.note-requires
note-requires c = rw c.from-at.ensures (note_fits _ _ _ _ _ _ _ _ c.loop-k.invariant c.loop-k-test.true c.requires)

pub overflow_add-entered : goal.overflow_add-entered
overflow_add-entered c = let more : c.from-entered.result ≤ 1 = rw (c.from-entered.ensures, one_if _) (at_most _) in
    omega (arith, more, entered_few _ _ _ _ _ _ _ _ c.loop-k.invariant c.loop-k-test.true c.requires)

pub loop-k-preserved : goal.loop-k-preserved
loop-k-preserved c = counted_read _ _ _ _ _ _ _ _ c.loop-k.invariant c.loop-k-test.true c.requires _ c.from-at.ensures _ _ _
    c.is_ticket_home.ensures c.begins_at-begins.ensures _ c.kind_of_code.ensures c.is_entry-enters.ensures _ _ (ap (λ v. c.loop-k.entered + v) (c.from-entered.ensures ∙ one_if _))
    (ap (set _ _) c.note.ensures)

pub returns : goal.returns
returns c = counted_ends _ _ _ _ _ _ _ _ c.loop-k.invariant (omega arith)
