-- The domains so far are entered.
use native.Mathlib.Omega.{arith}
use Rattle.model.proofs.Trees.Accepted.{accepted}
use Rattle.model.proofs.Trees.Reading.{few_threads, few_domains}
use Rattle.chain_call.proofs.Facts.{owned_nexts}
use Rattle.chain_call.proofs.Walking.{at_real, at_record, at_falls}
use Rattle.chain_call.proofs.Noting.{noting_first, next_small, noting_root, noting_up, noting_rest}
use Rattle.chain_call.proofs.tables.note_path.Goals as goal

pub bounds-lock-from : goal.bounds-lock-from
bounds-lock-from c = omega (arith, few_threads _ c.args.lock.now.accepted, c.requires.j_lt_threads, c.from.ensures)

pub loop-ahead-init : goal.loop-ahead-init
loop-ahead-init c = rw (c.from-r.ensures, c.from.ensures) (noting_first _ c.args.lock.now.accepted _ (owned_nexts _ (accepted _ c.args.lock.now.accepted) c.args.lock.now.state.now c.args.lock.now.formed) _ _ c.requires.j_lt_threads _ c.requires.ahead_len)

pub offset_bounds-lock-r : goal.offset_bounds-lock-r
offset_bounds-lock-r c = let l = c.loop-ahead.invariant in
    omega (arith, few_threads _ c.args.lock.now.accepted, few_domains _ c.args.lock.now.accepted, at_real _ c.args.lock.now.accepted _ c.requires.j_lt_threads _ _ l.at, at_record _ c.args.lock.now.accepted _ c.requires.j_lt_threads _ _ l.at)

pub bounds-lock-r : goal.bounds-lock-r
bounds-lock-r c = let l = c.loop-ahead.invariant in
    omega (arith, few_threads _ c.args.lock.now.accepted, few_domains _ c.args.lock.now.accepted, at_real _ c.args.lock.now.accepted _ c.requires.j_lt_threads _ _ l.at, at_record _ c.args.lock.now.accepted _ c.requires.j_lt_threads _ _ l.at)

pub note_next-requires : goal.note_next-requires
note_next-requires c = let l = c.loop-ahead.invariant in
    (next_small _ c.args.lock.now.accepted _ (owned_nexts _ (accepted _ c.args.lock.now.accepted) c.args.lock.now.state.now c.args.lock.now.formed) _ _ c.requires.j_lt_threads _ _ _ _ l, omega (arith, few_threads _ c.args.lock.now.accepted, c.requires.j_lt_threads))

pub returns-then-c-eq0-clause-fact : goal.returns-then-c-eq0-clause-fact
returns-then-c-eq0-clause-fact c = let l = c.loop-ahead.invariant in
    rw c.note_next.ensures (noting_root _ c.args.lock.now.accepted _ (owned_nexts _ (accepted _ c.args.lock.now.accepted) c.args.lock.now.state.now c.args.lock.now.formed) _ _ c.requires.j_lt_threads _ _ _ _ l (rw c.from-in-loop-ahead.ensures at c.loop-ahead-test.true) c.if-c-eq0.true)

pub bounds-lock-from-in-loop-ahead : goal.bounds-lock-from-in-loop-ahead
bounds-lock-from-in-loop-ahead c = let l = c.loop-ahead.invariant in
    omega (arith, few_threads _ c.args.lock.now.accepted, few_domains _ c.args.lock.now.accepted, at_real _ c.args.lock.now.accepted _ c.requires.j_lt_threads _ _ l.at, at_record _ c.args.lock.now.accepted _ c.requires.j_lt_threads _ _ l.at, c.from-in-loop-ahead-2.ensures)

pub loop-ahead-smaller : goal.loop-ahead-smaller
loop-ahead-smaller c = let l = c.loop-ahead.invariant in
    rw c.from-in-loop-ahead-2.ensures (at_falls _ c.args.lock.now.accepted _ c.requires.j_lt_threads _ _ l.at (omega (arith, c.if-c-eq0.false)))

pub loop-ahead-preserved : goal.loop-ahead-preserved
loop-ahead-preserved c = let l = c.loop-ahead.invariant in
    rw (c.note_next.ensures, c.from-in-loop-ahead-2.ensures, c.from-r-in-loop-ahead.ensures) (noting_up _ c.args.lock.now.accepted _ (owned_nexts _ (accepted _ c.args.lock.now.accepted) c.args.lock.now.state.now c.args.lock.now.formed) _ _ c.requires.j_lt_threads _ _ _ _ l (rw c.from-in-loop-ahead.ensures at c.loop-ahead-test.true) c.if-c-eq0.false)

pub returns-clause-fact : goal.returns-clause-fact
returns-clause-fact c = let l = c.loop-ahead.invariant in
    noting_rest _ c.args.lock.now.accepted _ (owned_nexts _ (accepted _ c.args.lock.now.accepted) c.args.lock.now.state.now c.args.lock.now.formed) _ _ c.requires.j_lt_threads _ _ _ _ l (rw c.from-in-loop-ahead.ensures at c.loop-ahead-test.false)
