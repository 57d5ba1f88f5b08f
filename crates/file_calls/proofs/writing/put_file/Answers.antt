-- `file_calls::writing::put_file` meets its contract: the tests of the tree, the schedule, the file's length and the buffer's length; then the tree is written, and the schedule after it.
use mathlib.Core.Path.{ap, ◌∙◌}
use Prim.Native.Nat.{◌≤◌, ◌<◌}
use native.Mathlib.Omega.{arith}
use lib.ListN.{length}
use Rattle.std.proofs.lemmas.Result.{err_from_is_err_and}
use Rattle.model.specs.Trees.{tree_of}
use Rattle.model.specs.Refusals.{refusal, first_refusal, schedule_tests, tree_refusal}
use Rattle.model.proofs.Trees.Accepted as trees
use Rattle.refusals.proofs.Refusing.{error_numbered, ok_numbered}
use Rattle.lock_file.specs.FileWriter.Writing.{written_file}
use Rattle.lock_file.proofs.file_writer.Lengths.{tree_short, file_length}
use Rattle.file_calls.proofs.writing.Trees.{file_stored}
use Rattle.lock_file.proofs.file_writer.Refusing.{tree_refused, schedule_refused, length_refused, room_refused, accepts}
use Rattle.file_calls.proofs.writing.Testing.{schedule_tested, short_schedule}
use Rattle.lock_file.proofs.file_writer.Answering.{replied, answer_refused, answer_accepted}
use borrow.Author.Rules.{rules}
use Rattle.file_calls.proofs.writing.put_file.Goals as goal

pub returns-in_err-tree_refusal_of : goal.returns-in_err-tree_refusal_of
unfolding refusal
returns-in_err-tree_refusal_of c = let a = c.args in
    let w = a.tree.now in
    let is = a.schedule.now in
    let b = a.file.now in
    let e = c.in_err-tree_refusal_of.ensures in
    let n = error_numbered _ e in
    let y = err_from_is_err_and c.from_residual.result c.from_residual.ensures.1 in
    let answered = answer_refused w is b (tree_refusal (tree_of w)) (tree_refused (tree_of w) is (length b) n) n in
    record { value = rw (y.1, y.2) (ap (λ q. replied q.number q.place 0) e ∙ answered.0); file_after = answered.1 }

pub returns-in_err-schedule_refusal_of : goal.returns-in_err-schedule_refusal_of
unfolding refusal
returns-in_err-schedule_refusal_of c = let a = c.args in
    let w = a.tree.now in
    let is = a.schedule.now in
    let b = a.file.now in
    let tree_passes = (ok_numbered c.in_ok-tree_refusal_of.ensures) in
    let e = schedule_tested w is _ tree_passes c.in_err-schedule_refusal_of.ensures in
    let n = error_numbered _ e in
    let y = err_from_is_err_and c.from_residual-in_err-schedule_refusal_of.result c.from_residual-in_err-schedule_refusal_of.ensures.1 in
    let answered = answer_refused w is b (first_refusal (schedule_tests (tree_of w) is)) (schedule_refused (tree_of w) is (length b) tree_passes n) n in
    record { value = rw (y.1, y.2) (ap (λ q. replied q.number q.place 0) e ∙ answered.0); file_after = answered.1 }

pub put_tree-requires : goal.put_tree-requires
unfolding tree_of
put_tree-requires c = let t = trees.accepted (tree_of c.args.tree.now) (ok_numbered c.in_ok-tree_refusal_of.ensures) in
    record { domains_nonzero = (t.some_domain, t.few_domains); threads_bound = t.few_threads; tree_in_bounds = tree_short (tree_of c.args.tree.now) t.few_domains t.few_threads }

pub overflow_add-length : goal.overflow_add-length
unfolding tree_of
overflow_add-length c = let a = c.args in
    let w = a.tree.now in
    let is = a.schedule.now in
    let b = a.file.now in
    let short = short_schedule (tree_of w) is (ok_numbered (schedule_tested w is _ (ok_numbered c.in_ok-tree_refusal_of.ensures) c.in_ok-schedule_refusal_of.ensures)) in
    let t = trees.accepted (tree_of w) (ok_numbered c.in_ok-tree_refusal_of.ensures) in
    search (rules, c.put_tree.ensures.value, short, tree_short (tree_of w) t.few_domains t.few_threads)

pub returns-then-length-gt65536 : goal.returns-then-length-gt65536
unfolding refusal
returns-then-length-gt65536 c = let a = c.args in
    let w = a.tree.now in
    let is = a.schedule.now in
    let b = a.file.now in
    let long = file_length (tree_of w) is in
    let more : 65536 < length (written_file (tree_of w) is) = omega (arith, long, c.put_tree.ensures.value, c.if-length-gt65536.true) in
    let answered = answer_refused w is b (refusal 1 0) (length_refused (tree_of w) is (length b) (ok_numbered c.in_ok-tree_refusal_of.ensures) (ok_numbered (schedule_tested w is _ (ok_numbered c.in_ok-tree_refusal_of.ensures) c.in_ok-schedule_refusal_of.ensures)) more) (λ e. omega arith) in
    record { value = rw c.at.ensures answered.0; file_after = answered.1 }

pub returns-then-file-length : goal.returns-then-file-length
unfolding refusal
returns-then-file-length c = let a = c.args in
    let w = a.tree.now in
    let is = a.schedule.now in
    let b = a.file.now in
    let long = file_length (tree_of w) is in
    let measured = c.put_tree.ensures.value in
    let short : length (written_file (tree_of w) is) ≤ 65536 = omega (arith, long, measured, c.if-length-gt65536.false) in
    let more : length b < length (written_file (tree_of w) is) = omega (arith, long, measured, c.if-file-length.true) in
    let answered = answer_refused w is b (refusal 17 0) (room_refused (tree_of w) is (length b) (ok_numbered c.in_ok-tree_refusal_of.ensures) (ok_numbered (schedule_tested w is _ (ok_numbered c.in_ok-tree_refusal_of.ensures) c.in_ok-schedule_refusal_of.ensures)) short more) (λ e. omega arith) in
    record { value = rw c.at-then-file-length.ensures answered.0; file_after = answered.1 }

pub put_tree-after_tree-requires : goal.put_tree-after_tree-requires
unfolding tree_of
put_tree-after_tree-requires c = let t = trees.accepted (tree_of c.args.tree.now) (ok_numbered c.in_ok-tree_refusal_of.ensures) in
    record { domains_nonzero = (t.some_domain, t.few_domains); threads_bound = t.few_threads; tree_in_bounds = omega (arith, c.put_tree.ensures.value, c.if-file-length.false) }

pub put_schedule-requires : goal.put_schedule-requires
put_schedule-requires c = let first = c.put_tree.ensures.value in
    omega (arith, first, c.put_tree-after_tree.ensures.value, c.put_tree-after_tree.auto.buffer, c.if-file-length.false)

pub returns : goal.returns
returns c = let a = c.args in
    let w = a.tree.now in
    let is = a.schedule.now in
    let b = a.file.now in
    let long = file_length (tree_of w) is in
    let measured = c.put_tree.ensures.value in
    let short : length (written_file (tree_of w) is) ≤ 65536 = omega (arith, long, measured, c.if-length-gt65536.false) in
    let fits : length (written_file (tree_of w) is) ≤ length b = omega (arith, long, measured, c.if-file-length.false) in
    let answered = answer_accepted w is b (accepts (tree_of w) is (length b) (ok_numbered c.in_ok-tree_refusal_of.ensures) (ok_numbered (schedule_tested w is _ (ok_numbered c.in_ok-tree_refusal_of.ensures) c.in_ok-schedule_refusal_of.ensures)) short fits) in
    record { value = ap (replied 0 0) (omega (arith, long, measured, c.put_tree-after_tree.ensures.value)) ∙ answered.0; file_after = c.put_schedule.ensures ∙ rw (c.put_tree-after_tree.ensures.buffer_after, c.put_tree-after_tree.ensures.value) (file_stored (tree_of w) is b fits) ∙ answered.1 }
