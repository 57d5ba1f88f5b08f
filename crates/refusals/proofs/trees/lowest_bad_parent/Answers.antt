-- `refusals::trees::lowest_bad_parent` meets its contract: the parent of a domain other than the root is the word that is read.
use native.Mathlib.Omega.{arith}
use Rattle.std.proofs.Common.{rules, tests, ℕ, Bool, false, leb, get_or, refl}
use Rattle.std.proofs.lemmas.Iterator.{YieldsList-from_range}
use Rattle.std.proofs.lemmas.Iterator.Search.{find_from_yields_List}
use Rattle.model.specs.Trees.{tree_of}
use borrow.Author.Tests.{ne_eqb}
use Rattle.model.specs.Refusals.{bad_parent}
use Rattle.refusals.proofs.Reading.{parent_of}
use Rattle.refusals.proofs.Scanning.{single}
use Rattle.refusals.proofs.Ranges.{found_lowest}
use Rattle.refusals.proofs.trees.lowest_bad_parent.Goals as goal

pub returns : goal.returns
unfolding bad_parent
returns c =
    let w = c.args.tree.now.words.now in
    let test : ℕ → Bool = λ d. leb d (get_or w.parents d 0) in
    found_lowest test (bad_parent (tree_of w)) 1 w.domains c.find.result
    (find_from_yields_List test _ _ c.find.result c.find.ensures.ran (YieldsList-from_range 1 w.domains _ (cc) refl) (λ x b q k. search (rules, tests)))
    (omega arith) (single _ false refl)
    (λ d p l. rw (ne_eqb d 0 (omega arith), parent_of w d (omega arith) l))
