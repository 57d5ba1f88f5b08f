-- `refusals::homes_refusal` meets its contract: the lowest bad home, then the lowest empty domain.
use Rattle.std.proofs.Common.{sym, arith, rules}
use Rattle.refusals.proofs.Ranges.{none_found}
use Rattle.refusals.proofs.TreeTests.{shape, home_refused, facts, empty_refused, tree_passes}
use Rattle.refusals.proofs.Occupying.{homes_real, occupied_lowest}
use Rattle.refusals.proofs.homes_refusal.Goals as goal

pub lowest_bad_home-requires : goal.lowest_bad_home-requires
lowest_bad_home-requires c = c.unfit_homes-unfit.ensures

pub returns-in-Some : goal.returns-in-Some
returns-in-Some c = let i = c.in-Some.ensures in
    rw c.at.ensures (sym (home_refused c.args.tree.now.words.now c.requires _ i.0 i.1))

pub occupied-occupied-requires : goal.occupied-occupied-requires
occupied-occupied-requires c = let w = c.args.tree.now.words.now in
    let k = shape w c.requires in
    let l₉ = none_found _ _ c.lowest_bad_home.result (search rules) c.lowest_bad_home.ensures in
    record { lower = k.low; real_homes = homes_real w (facts w c.requires _ l₉ (omega arith)) }

pub returns-in-Some-lowest_empty : goal.returns-in-Some-lowest_empty
returns-in-Some-lowest_empty c = let w = c.args.tree.now.words.now in
    let l₉ = none_found _ _ c.lowest_bad_home.result (search rules) c.lowest_bad_home.ensures in
    let d = c.in-Some-lowest_empty.ensures in
    let l₁₆ = occupied_lowest w (facts w c.requires _ l₉ (omega arith)) _ c.occupied-occupied.ensures _ d.0 in
    rw c.at-in-Some-lowest_empty.ensures (sym (empty_refused w c.requires _ l₉ (omega arith) _ l₁₆ d.1))

pub returns : goal.returns
returns c = let w = c.args.tree.now.words.now in
    let l₉ = none_found _ _ c.lowest_bad_home.result (search rules) c.lowest_bad_home.ensures in
    let none = none_found _ _ c.lowest_empty.result (search rules) c.lowest_empty.ensures in
    let l₁₆ = occupied_lowest w (facts w c.requires _ l₉ (omega arith)) _ c.occupied-occupied.ensures _ none in
    sym (tree_passes w c.requires _ l₉ (omega arith) _ l₁₆ (omega arith))
