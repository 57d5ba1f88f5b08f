-- `refusals::trees::lowest_empty` meets its contract: each test reads the table.
use native.Mathlib.Omega.{arith}
use Rattle.std.proofs.Common.{rules, tests, ℕ, Bool, false, not, get_or, refl}
use Rattle.std.proofs.lemmas.Iterator.{YieldsList-from_range}
use Rattle.std.proofs.lemmas.Iterator.Search.{find_from_yields_List}
use Rattle.refusals.proofs.Ranges.{found_lowest}
use Rattle.refusals.proofs.trees.lowest_empty.Goals as goal

pub returns : goal.returns
returns c =
    let test : ℕ → Bool = λ d. not (get_or c.args.occupied.now d false) in
    found_lowest test (λ d. not (get_or c.args.occupied.now d false)) 0 c.args.domains c.find.result
    (find_from_yields_List test _ _ c.find.result c.find.ensures.ran (YieldsList-from_range 0 c.args.domains _ (cc) refl) (λ x b q k. search (rules, tests)))
    (omega arith) (λ j l. absurd (omega arith))
    (λ d p l. refl)
