-- Digit by digit, the result of the text is the same.
use Rattle.std.proofs.Common.{◌≡◌, ℕ, List, ◌≤◌}
use Rattle.model.specs.declared.TreeWords.{TreeWords}
use Rattle.text_tree.specs.Reading.{domain_due, in_threshold}
use Rattle.text_tree_call.specs.Inner.{from}
use Rattle.text_tree_call.proofs.numbers.read_threshold.Given as goal

abbrev pub invariant-loop-i : goal.invariant-loop-i
invariant-loop-i l =
    ((d : ℕ) (ds : List ℕ) (w : TreeWords) → from l.text l.at (domain_due d ds l.at w) ≡ from l.text l.i (in_threshold l.number d ds l.i w)) × (l.number ≤ 65535)
