-- `journal_call::step_check::pieces::check_piece` meets its contract: what can be stepped is stepped and compared; if one step is wrong, those before it are taken again.
use mathlib.Core.Path.{◌∙◌}
use native.Mathlib.Omega.{arith}
use Prim.Native.Nat.{◌<◌}
use lib.Seq.{length-take-le}
use Rattle.journal_call.proofs.step_check.Piecing.{tests, front_long, front_small, codes_long, lowest_of_front, stepped, piece_passes, piece_stops}
use Rattle.journal_call.proofs.step_check.pieces.check_piece.Goals as goal

pub run_lent-requires : goal.run_lent-requires
run_lent-requires c = let a = c.args.named.now in
    let g = c.requires.ready in
    let q = c.requires.piece_fits in
    let S = c.stretch_of-stretch.ensures in
    tests _ _ _ a.kinds.now a.domains.now g _ S c.stretch_of-stretch.result.steps _ (omega arith) (omega (arith, S.within, q.few)) (omega (arith, S.within, q.few, q.trace_room))

pub invariant_of-reported-clause-kinds_long : goal.invariant_of-reported-clause-kinds_long
invariant_of-reported-clause-kinds_long c = let a = c.args.named.now in
    let q = c.requires.piece_fits in
    let S = c.stretch_of-stretch.ensures in
    front_long _ _ _ a.kinds.now a.domains.now c.requires.ready _ S a.kinds.now (omega (arith, S.within, a.kinds_long))

pub invariant_of-reported-clause-domains_long : goal.invariant_of-reported-clause-domains_long
invariant_of-reported-clause-domains_long c = let a = c.args.named.now in
    let q = c.requires.piece_fits in
    let S = c.stretch_of-stretch.ensures in
    front_long _ _ _ a.kinds.now a.domains.now c.requires.ready _ S a.domains.now (omega (arith, S.within, a.domains_long))

pub invariant_of-reported-clause-codes_long : goal.invariant_of-reported-clause-codes_long
invariant_of-reported-clause-codes_long c = let a = c.args.named.now in
    let g = c.requires.ready in
    let q = c.requires.piece_fits in
    let S = c.stretch_of-stretch.ensures in
    front_long _ _ _ a.kinds.now a.domains.now g _ S _ (codes_long _ _ _ a.kinds.now a.domains.now g _ S a.kinds_long a.domains_long _ _ q.codes_room q.few c.run_lent.ensures.codes_after)

pub invariant_of-reported-clause-small : goal.invariant_of-reported-clause-small
invariant_of-reported-clause-small c = let a = c.args.named.now in
    front_small _ _ _ a.kinds.now a.domains.now c.requires.ready _ c.stretch_of-stretch.ensures

pub run_lent-requires-in-Some : goal.run_lent-requires-in-Some
run_lent-requires-in-Some c = let a = c.args.named.now in
    let g = c.requires.ready in
    let q = c.requires.piece_fits in
    let S = c.stretch_of-stretch.ensures in
    let h : c.in-Some.same < c.stretch_of-stretch.result.steps = omega (arith, c.in-Some.ensures.inside, length-take-le c.stretch_of-stretch.result.steps a.threads.now S.within) in
    tests _ _ _ a.kinds.now a.domains.now g _ S c.in-Some.same _ (omega (arith, h)) (omega (arith, h, S.within, q.few)) (omega (arith, h, S.within, q.few, q.trace_room, c.run_lent.auto.trace))

pub returns-in-None-clause-number : goal.returns-in-None-clause-number
returns-in-None-clause-number c = let a = c.args.named.now in
    let g = c.requires.ready in
    let q = c.requires.piece_fits in
    let S = c.stretch_of-stretch.ensures in
    let L = lowest_of_front _ _ a.threads.now a.kinds.now a.domains.now g _ S a.kinds_long a.domains_long _ _ q.codes_room q.few c.run_lent.ensures.codes_after _ c.in-None.ensures.lowest in
    (piece_passes _ _ _ a.kinds.now a.domains.now g _ S a.kinds_long a.domains_long _ _ q.codes_room q.few c.run_lent.ensures.codes_after _ L (omega (arith, length-take-le c.stretch_of-stretch.result.steps a.threads.now S.within))).number

pub returns-in-None-clause-steps : goal.returns-in-None-clause-steps
returns-in-None-clause-steps c = let a = c.args.named.now in
    let g = c.requires.ready in
    let q = c.requires.piece_fits in
    let S = c.stretch_of-stretch.ensures in
    let L = lowest_of_front _ _ a.threads.now a.kinds.now a.domains.now g _ S a.kinds_long a.domains_long _ _ q.codes_room q.few c.run_lent.ensures.codes_after _ c.in-None.ensures.lowest in
    (piece_passes _ _ _ a.kinds.now a.domains.now g _ S a.kinds_long a.domains_long _ _ q.codes_room q.few c.run_lent.ensures.codes_after _ L (omega (arith, length-take-le c.stretch_of-stretch.result.steps a.threads.now S.within))).steps

pub returns-in-None-clause-state_after : goal.returns-in-None-clause-state_after
returns-in-None-clause-state_after c = let a = c.args.named.now in
    let g = c.requires.ready in
    let q = c.requires.piece_fits in
    let S = c.stretch_of-stretch.ensures in
    let L = lowest_of_front _ _ a.threads.now a.kinds.now a.domains.now g _ S a.kinds_long a.domains_long _ _ q.codes_room q.few c.run_lent.ensures.codes_after _ c.in-None.ensures.lowest in
    stepped _ _ a.threads.now _ _ c.run_lent.ensures.words_after c.run_lent.ensures.counters_after ∙ (piece_passes _ _ _ a.kinds.now a.domains.now g _ S a.kinds_long a.domains_long _ _ q.codes_room q.few c.run_lent.ensures.codes_after _ L (omega (arith, length-take-le c.stretch_of-stretch.result.steps a.threads.now S.within))).state

pub returns-in-Some-clause-number : goal.returns-in-Some-clause-number
returns-in-Some-clause-number c = let a = c.args.named.now in
    let g = c.requires.ready in
    let q = c.requires.piece_fits in
    let S = c.stretch_of-stretch.ensures in
    let L = lowest_of_front _ _ a.threads.now a.kinds.now a.domains.now g _ S a.kinds_long a.domains_long _ _ q.codes_room q.few c.run_lent.ensures.codes_after _ c.in-Some.ensures.lowest in
    (piece_stops _ _ _ a.kinds.now a.domains.now g _ S a.kinds_long a.domains_long _ _ q.codes_room q.few c.run_lent.ensures.codes_after _ L (omega (arith, c.in-Some.ensures.inside, length-take-le c.stretch_of-stretch.result.steps a.threads.now S.within)) c.reason_of-refused.result c.reason_of-refused.ensures).number

pub returns-in-Some-clause-steps : goal.returns-in-Some-clause-steps
returns-in-Some-clause-steps c = let a = c.args.named.now in
    let g = c.requires.ready in
    let q = c.requires.piece_fits in
    let S = c.stretch_of-stretch.ensures in
    let L = lowest_of_front _ _ a.threads.now a.kinds.now a.domains.now g _ S a.kinds_long a.domains_long _ _ q.codes_room q.few c.run_lent.ensures.codes_after _ c.in-Some.ensures.lowest in
    (piece_stops _ _ _ a.kinds.now a.domains.now g _ S a.kinds_long a.domains_long _ _ q.codes_room q.few c.run_lent.ensures.codes_after _ L (omega (arith, c.in-Some.ensures.inside, length-take-le c.stretch_of-stretch.result.steps a.threads.now S.within)) c.reason_of-refused.result c.reason_of-refused.ensures).steps

pub returns-in-Some-clause-state_after : goal.returns-in-Some-clause-state_after
returns-in-Some-clause-state_after c = let a = c.args.named.now in
    let g = c.requires.ready in
    let q = c.requires.piece_fits in
    let S = c.stretch_of-stretch.ensures in
    let L = lowest_of_front _ _ a.threads.now a.kinds.now a.domains.now g _ S a.kinds_long a.domains_long _ _ q.codes_room q.few c.run_lent.ensures.codes_after _ c.in-Some.ensures.lowest in
    stepped _ _ a.threads.now _ _ c.run_lent-in-Some.ensures.words_after c.run_lent-in-Some.ensures.counters_after ∙ (piece_stops _ _ _ a.kinds.now a.domains.now g _ S a.kinds_long a.domains_long _ _ q.codes_room q.few c.run_lent.ensures.codes_after _ L (omega (arith, c.in-Some.ensures.inside, length-take-le c.stretch_of-stretch.result.steps a.threads.now S.within)) c.reason_of-refused.result c.reason_of-refused.ensures).state
