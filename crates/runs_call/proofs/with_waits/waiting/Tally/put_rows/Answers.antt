-- `runs_call::with_waits::waiting::Tally::put_rows` meets its contract: the rows stored so far.
use mathlib.Core.Path.{◌≡◌, sym}
use Prim.Native.Nat.{◌+◌, ◌*◌}
use native.Mathlib.Omega.{arith}
use Rattle.waits.specs.Rows.{capped}
use Rattle.runs_call.proofs.with_waits.Kept.{attempts_read, total_read, longest_read}
use Rattle.runs_call.proofs.with_waits.Writing.{written_start, written_turn, written_ends, row_room}
use Rattle.runs_call.proofs.with_waits.waiting.Tally.put_rows.Goals as goal

pub loop-k-init : goal.loop-k-init
loop-k-init c = written_start _ _ _ _ _

pub put_row-requires : goal.put_row-requires
put_row-requires c = row_room _ _ _ _ _ _ _ _ _ _ _ c.loop-k.invariant c.requires.threads_in_bounds

pub overflow_add-attempts : goal.overflow_add-attempts
overflow_add-attempts c = let more = c.loop-k-test.true in
    omega (arith, attempts_read c.args.self.now.threads c.loop-k.k, c.loop-k.invariant.attempts_small, c.requires.small.small c.loop-k.k (omega (arith, more, c.requires.threads_bound)), more, c.requires.threads_bound)

pub loop-k-preserved : goal.loop-k-preserved
unfolding capped
loop-k-preserved c = let next : 5 * (c.loop-k.k + 1) ≡ 5 * c.loop-k.k + 5 = omega arith in
    rw next
    (written_turn _ _ _ _ _ _ _ _ _ _ _ c.loop-k.invariant c.loop-k-test.true c.requires.threads_bound c.requires.small _ _ _ (sym (attempts_read c.args.self.now.threads c.loop-k.k)) (sym (total_read c.args.self.now.threads c.loop-k.k)) (sym (longest_read c.args.self.now.threads c.loop-k.k)) _ c.put_row.ensures _ _ c.saturating_add-total.ensures c.max-most.ensures)

pub put_row-requires-2 : goal.put_row-requires-2
put_row-requires-2 c = let all : c.loop-k.k ≡ c.args.threads = omega arith in
    row_room _ _ _ _ _ _ _ _ _ _ _ (rw all at c.loop-k.invariant) c.requires.threads_in_bounds

pub returns : goal.returns
returns c = let all : c.loop-k.k ≡ c.args.threads = omega arith in
    written_ends _ _ _ _ _ _ _ _ _ _ _ (rw all at c.loop-k.invariant) (omega arith) _ c.put_row-2.ensures
