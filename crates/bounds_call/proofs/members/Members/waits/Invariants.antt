-- W of the threads so far.
use Rattle.bounds_call.proofs.WaitWords.{WaitsSoFar}
use Rattle.bounds_call.proofs.members.Members.waits.Given as goal

abbrev pub invariant-loop-i : goal.invariant-loop-i
invariant-loop-i l = WaitsSoFar l.self.tree.words.now l.self.tree.accepted l.i l.waits
