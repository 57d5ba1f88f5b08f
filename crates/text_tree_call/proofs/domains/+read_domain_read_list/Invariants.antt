-- Each call of a list has one level less left than its domain; the measure is twice the levels left, plus one for a list.
use Rattle.std.proofs.Common.{◌+◌, ◌-◌, ◌*◌, length}
use Rattle.text_tree_call.proofs.Parts.{DueAgain}
use Rattle.text_tree_call.proofs.domains.+read_domain_read_list.Given as goal

abbrev pub decreases-read_domain : goal.decreases-read_domain
decreases-read_domain l = l.left * 2

abbrev pub decreases-read_list : goal.decreases-read_list
decreases-read_list l = l.left * 2 + 1

abbrev pub invariant-read_list-loop-inside : goal.invariant-read_list-loop-inside
invariant-read_list-loop-inside l = DueAgain l.text l.start l.initial.tree l.domain l.left l.at l.tree

abbrev pub decreases-read_list-loop-inside : goal.decreases-read_list-loop-inside
decreases-read_list-loop-inside l = length l.text - l.at
