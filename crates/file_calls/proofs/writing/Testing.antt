-- What the code's tests of a schedule imply about the definition's.
use mathlib.Core.Path.{◌≡◌, sym, ◌∙◌}
use mathlib.Core.List.{List}
use Prim.Native.Nat.{ℕ, ◌≤◌}
use native.Mathlib.Omega.{arith}
use lib.ListN.{length}
use borrow.Author.Tests.{ltb-false}
use Rattle.model.specs.declared.TreeWords.{TreeWords}
use Rattle.model.specs.Trees.{Tree, tree_of}
use Rattle.model.specs.Refusals.{Refusal, first_refusal, bad_length, bad_entry, schedule_tests, tree_refusal}
use Rattle.model.proofs.Refusing.{tests_pass}
use Rattle.refusals.specs.Arrays.{threads_in, schedule_room_tests}
use Rattle.schedules.proofs.Alone.{schedule_decides, alone_decides}

-- the code tests a schedule with a trace buffer of the schedule's length, so 13 refuses nothing
pub schedule_tested :
    (w : TreeWords) (is : List ℕ) (q : Refusal) → (tree_refusal (tree_of w)).number ≡ 0 →
    q ≡ first_refusal (schedule_room_tests (threads_in w.threads) is (length is)) → q ≡ first_refusal (schedule_tests (tree_of w) is)
unfolding bad_entry tree_of
schedule_tested w is q ok e = e ∙ sym (schedule_decides w ok is (length is)) ∙ alone_decides w ok is (length is) (omega arith)

-- a schedule that passes 11 is short
pub short_schedule : (t : Tree) (is : List ℕ) → (first_refusal (schedule_tests t is)).number ≡ 0 → length is ≤ 65536
unfolding bad_length
short_schedule t is e = ltb-false 65536 (length is) ((tests_pass _ _ (omega arith) e).0 0 (omega arith))
