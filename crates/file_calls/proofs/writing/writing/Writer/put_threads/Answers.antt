-- At each turn of the loop, what remains to write gives the result of the whole.
use Rattle.std.proofs.Common.{refl, get_or}
use native.Mathlib.Nat.{sub-zero}
use Rattle.model.specs.Trees.{tree_of}
use Rattle.file_calls.proofs.writing.Stored.{threads_over, thread_stored}
use Rattle.file_calls.proofs.writing.Trees.{home_read}
use Rattle.file_calls.proofs.writing.Writers.{room_first, rest_after, none_left}
use Rattle.file_calls.proofs.writing.writing.Writer.put_threads.Goals as goal

pub loop-i-init : goal.loop-i-init
unfolding tree_of
loop-i-init c = rw sub-zero refl

pub put_thread-requires : goal.put_thread-requires
put_thread-requires c =
    let w = c.args.tree.now in
    let next = thread_stored (tree_of w).home w.threads c.loop-i.i c.loop-i.before (get_or w.homes c.loop-i.i 0) c.loop-i-test.true (home_read w c.loop-i.i c.loop-i-test.true) in
    room_first _ _ _ _ _ _ next c.loop-i.invariant c.requires.threads_in_bounds

pub loop-i-preserved : goal.loop-i-preserved
loop-i-preserved c =
    let w = c.args.tree.now in
    let next = thread_stored (tree_of w).home w.threads c.loop-i.i c.loop-i.before (get_or w.homes c.loop-i.i 0) c.loop-i-test.true (home_read w c.loop-i.i c.loop-i-test.true) in
    rest_after _ _ _ _ _ _ next c.loop-i.invariant c.put_thread.ensures

pub returns : goal.returns
returns c =
    let w = c.args.tree.now in
    none_left _ _ _ (threads_over (tree_of w).home w.threads c.loop-i.i c.loop-i.before c.loop-i-test.false) c.loop-i.invariant
