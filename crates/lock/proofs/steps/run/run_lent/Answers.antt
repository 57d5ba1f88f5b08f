-- `lock::steps::run::run_lent` meets its contract: the entries so far have given the state, the trace, how many steps are of each kind and the counters of the domains.
use mathlib.Core.Path.{sym, ap}
use Rattle.model.specs.declared.PlaceArrays.{PlaceArrays}
use Rattle.rows.proofs.step.TakenHere.{done_here}
use native.Mathlib.Omega.{arith}
use Rattle.model.specs.Trees.{tree_of}
use Rattle.model.proofs.Laws.Calls.{early_facts}
use Rattle.model.proofs.Trees.Accepted.{sixteen_bit}
use Rattle.refusals.proofs.of_runs.Passing.{shape_of}
use Rattle.lock.proofs.steps.SoFar.{start, kind_room, turn, state_ends, trace_ends, kinds_end, thread_at}
use Rattle.lock.proofs.steps.Reporting.{codes_start, codes_turn, codes_end}
use Rattle.lock.proofs.steps.Tallying.{tallied_start, tallied_turn, tallied_ends}
use Rattle.lock.proofs.steps.Turns.{thread_small, ready}
use Rattle.rows.proofs.common.Shown.{clear_none}
use Rattle.lock.proofs.steps.StepCounts.{step_counted}
use Rattle.lock.proofs.steps.Looking.{entries_room, tenures_room, marks_cleared, shown_for, looked_few, home_is, raise_marked}
use Rattle.lock.proofs.steps.run.run_lent.Goals as goal

pub loop-k-init : goal.loop-k-init
loop-k-init c = (start _ _ _ _ (record { typed = c.fits_its_type.ensures; form = (early_facts _ _ _ _ c.requires).form }), codes_start _ _ _ _, tallied_start _ _ _ _, clear_none)

pub place_at-before-requires : goal.place_at-before-requires
place_at-before-requires c = thread_small _ _ _ _ _ (early_facts _ _ _ _ c.requires) c.loop-k-test.true

pub looked_at-looked-requires : goal.looked_at-looked-requires
looked_at-looked-requires c = (shape_of c.args.tree.now (early_facts _ _ _ _ c.requires).tree).few_domains

pub mark_watching-requires-clause-tree_value : goal.mark_watching-requires-clause-tree_value
mark_watching-requires-clause-tree_value c = (early_facts _ _ _ _ c.requires).tree

pub mark_watching-requires-clause-threads_bound : goal.mark_watching-requires-clause-threads_bound
mark_watching-requires-clause-threads_bound c = looked_few c.looked_at-looked.ensures

pub mark_watching-requires-clause-clear : goal.mark_watching-requires-clause-clear
mark_watching-requires-clause-clear c = c.loop-k.invariant.3

pub take-m-requires-clause-ready : goal.take-m-requires-clause-ready
take-m-requires-clause-ready c = rw c.place_at-before.ensures (ready _ _ c.loop-k.state.words _ _ _ (early_facts _ _ _ _ c.requires) c.loop-k.invariant.0.formed c.loop-k-test.true)

pub take-m-requires-clause-room_above : goal.take-m-requires-clause-room_above
unfolding tree_of
take-m-requires-clause-room_above c = let w = c.args.tree.now in
    let r = early_facts _ _ _ _ c.requires in
    (entries_room _ (sixteen_bit w) _ _ _ r _ _ c.loop-k.invariant.0.within c.loop-k.invariant.2, tenures_room _ (sixteen_bit w) _ _ _ r _ _ c.loop-k.invariant.0.within c.loop-k.invariant.2)

pub take-m-requires-clause-shown_for : goal.take-m-requires-clause-shown_for
take-m-requires-clause-shown_for c = shown_for c.args.tree.now (early_facts _ _ _ _ c.requires).tree _ _ _ _ _ _ _ c.looked_at-looked.ensures (omega arith) (omega arith) c.mark_watching.ensures

pub count_in-requires : goal.count_in-requires
count_in-requires c = let r = early_facts _ _ _ _ c.requires in
    let does = rw c.place_at-before.ensures at (done_here c.take-m.ensures.fact (sym c.place_at-before.ensures)) in
    kind_room _ _ _ _ _ c.loop-k.state.words _ _ _ _ _ c.loop-k.invariant.0 does c.loop-k-test.true r.short

pub put_place-requires : goal.put_place-requires
put_place-requires c = thread_small _ _ _ _ _ (early_facts _ _ _ _ c.requires) c.loop-k-test.true

pub trace_at-entered-requires : goal.trace_at-entered-requires
trace_at-entered-requires c = let g = c.loop-k.invariant.0 in
    omega (arith, c.loop-k-test.true, g.entries_fit, g.long, (early_facts _ _ _ _ c.requires).fits)

pub loop-k-preserved : goal.loop-k-preserved
unfolding tree_of
loop-k-preserved c = let test = c.loop-k-test.true in
    let stands = c.place_at-before.ensures in
    let look = rw stands at c.looked_at-looked.ensures in
    let marks = c.mark_watching.ensures in
    let tallied = c.count_in.ensures in
    let codes = rw stands at c.put_code.ensures in
    let w = c.args.tree.now in
    let r = early_facts _ _ _ _ c.requires in
    let n = c.loop-k.state.words in
    let m = c.take-m.result in
    let does = rw stands at (done_here c.take-m.ensures.fact (sym stands)) in
    let kept = c.take-m.ensures.fact.places_kept in
    let th = thread_at _ _ r.threads _ test in
    let so_far = c.loop-k.invariant.0 in
    let left = c.take-m.new.words in
    let words = ap (λ (qs : PlaceArrays). record { tails = left.tails; nexts = left.nexts; statuses = left.statuses; places = qs; ticket = left.ticket; grant = left.grant }) c.put_place.ensures in
    let counts = step_counted w r.tree _ th n so_far.formed m _ kept does _ (home_is w r.tree _ th) _ _ _ (rw stands at c.take-m.ensures.counted_step) c.take-m.ensures.entered (λ z. raise_marked w r.tree _ th n so_far.formed _ _ _ look (omega arith) (omega arith) z marks) in
    (rw tallied (turn _ _ _ _ _ n _ _ _ m _ _ _ _ r.tree (sixteen_bit w) r.threads r.fits test so_far does words c.trace_at-entered.ensures.value c.trace_at-entered.ensures.trace_after), codes_turn _ _ _ _ _ n _ m _ _ r.threads test so_far.formed so_far.state_is does c.loop-k.invariant.1 codes, tallied_turn _ _ _ _ _ _ n _ test so_far.state_is c.loop-k.invariant.2 counts, marks_cleared w r.tree _ _ _ _ _ _ _ _ look (omega arith) marks (rw stands at c.take-m.ensures.shown_left))

pub returns-clause-words_after : goal.returns-clause-words_after
returns-clause-words_after c = state_ends _ _ _ _ _ _ _ _ _ c.loop-k.invariant.0 c.loop-k-test.false

pub returns-clause-trace_after : goal.returns-clause-trace_after
returns-clause-trace_after c = trace_ends _ _ _ _ _ _ _ _ _ c.loop-k.invariant.0 c.loop-k-test.false

pub returns-clause-kinds_after : goal.returns-clause-kinds_after
returns-clause-kinds_after c = kinds_end _ _ _ _ _ _ _ _ _ c.loop-k.invariant.0 c.loop-k-test.false

pub returns-clause-codes_after : goal.returns-clause-codes_after
returns-clause-codes_after c = codes_end _ _ _ _ _ _ c.loop-k.invariant.1 c.loop-k-test.false

pub returns-clause-counters_after : goal.returns-clause-counters_after
returns-clause-counters_after c = tallied_ends _ _ _ _ _ _ c.loop-k.invariant.2 c.loop-k-test.false
