-- The check of a state that a host has kept: what refuses it, and its answer, for every input.
use Rattle.std.specs.Prelude.{List, ◌++◌}
use Rattle.model.specs.declared.TreeWords.{TreeWords}
use Rattle.model.specs.declared.LockState.{LockState}
use Rattle.model.specs.Trees.{Tree, tree_of}
use Rattle.model.specs.Refusals.{Refusal, Test, first_refusal, tree_tests, state_tests}

-- 4 to 9 and 16 for the tree, then 10 for the state
unfoldable pub check_tests : Tree → LockState → List Test
check_tests t s = tree_tests t ++ state_tests t s

-- the refusal of the check
unfoldable pub check_refusal : Tree → LockState → Refusal
check_refusal t s = first_refusal (check_tests t s)

-- what the call answers: number and place
unfoldable pub check_answer : TreeWords → LockState → Refusal
check_answer w s = check_refusal (tree_of w) s
