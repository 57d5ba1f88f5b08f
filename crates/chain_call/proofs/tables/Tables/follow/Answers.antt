-- The chain continues from the last thread found.
use native.Mathlib.Omega.{arith}
use Rattle.model.proofs.Trees.Reading.{few_threads}
use Rattle.chain_call.proofs.Turning.{turn_first, turn_real, turn_within, turn_sound, turn_ends, turn_nobody, turn_small, turn_full, turn_back, turn_next}
use Rattle.chain_call.proofs.tables.Tables.follow.Goals.{then-n-threads-via-then-n-threads, then-n-threads-via-else-n-threads+then-seen-next}
use Rattle.chain_call.proofs.tables.Tables.follow.Goals as goal

pub bounds-seen-from : goal.bounds-seen-from
bounds-seen-from c = omega (arith, few_threads _ c.args.lock.now.accepted, c.requires.thread_lt_threads, c.from.ensures)

pub loop-n-init : goal.loop-n-init
loop-n-init c = rw c.from.ensures (turn_first c.args.lock.now.tree.now c.args.lock.now.accepted c.args.lock.now.state.now c.args.lock.now.formed _ _ _ c.requires.filled _ c.requires.thread_lt_threads)

pub link-requires-clause-i_lt_threads : goal.link-requires-clause-i_lt_threads
link-requires-clause-i_lt_threads c = turn_real c.args.lock.now.tree.now c.args.lock.now.accepted c.args.lock.now.state.now c.args.lock.now.formed _ _ _ c.requires.filled _ c.requires.thread_lt_threads _ _ _ _ c.loop-n.invariant

pub link-requires-clause-sound_place : goal.link-requires-clause-sound_place
link-requires-clause-sound_place c = turn_sound c.args.lock.now.tree.now c.args.lock.now.accepted c.args.lock.now.state.now c.args.lock.now.formed _ _ _ c.requires.filled _ c.requires.thread_lt_threads _ _ _ _ c.loop-n.invariant

pub returns-in-Moves : goal.returns-in-Moves
returns-in-Moves c = turn_ends c.args.lock.now.tree.now c.args.lock.now.accepted c.args.lock.now.state.now c.args.lock.now.formed _ _ _ c.requires.filled _ c.requires.thread_lt_threads _ _ _ _ c.loop-n.invariant _ c.link.ensures c.in-Moves.is

pub returns-in-Broken : goal.returns-in-Broken
returns-in-Broken c = turn_nobody c.args.lock.now.tree.now c.args.lock.now.accepted c.args.lock.now.state.now c.args.lock.now.formed _ _ _ c.requires.filled _ c.requires.thread_lt_threads _ _ _ _ c.loop-n.invariant _ c.link.ensures c.in-Broken.is

pub bounds-seen-next : goal.bounds-seen-next
bounds-seen-next c = omega (arith, few_threads _ c.args.lock.now.accepted, turn_small c.args.lock.now.tree.now c.args.lock.now.accepted c.args.lock.now.state.now c.args.lock.now.formed _ _ _ c.requires.filled _ c.requires.thread_lt_threads _ _ _ _ c.loop-n.invariant _ c.link.ensures _ c.in-To.is, c.from-next.ensures)

pub returns-then-n-threads : goal.returns-then-n-threads
returns-then-n-threads c = elim c.then-n-threads.branch [
  | then-n-threads-via-then-n-threads w ↦ turn_full c.args.lock.now.tree.now c.args.lock.now.accepted c.args.lock.now.state.now c.args.lock.now.formed _ _ _ c.requires.filled _ c.requires.thread_lt_threads _ _ _ _ c.loop-n.invariant _ c.link.ensures _ c.in-To.is w.if-n-threads.true
  | then-n-threads-via-else-n-threads+then-seen-next w ↦ turn_back c.args.lock.now.tree.now c.args.lock.now.accepted c.args.lock.now.state.now c.args.lock.now.formed _ _ _ c.requires.filled _ c.requires.thread_lt_threads _ _ _ _ c.loop-n.invariant _ c.link.ensures _ c.in-To.is (rw c.from-next.ensures at w.if-seen-next.true)
]

pub bounds-seen-next-in-To : goal.bounds-seen-next-in-To
bounds-seen-next-in-To c = omega (arith, few_threads _ c.args.lock.now.accepted, turn_small c.args.lock.now.tree.now c.args.lock.now.accepted c.args.lock.now.state.now c.args.lock.now.formed _ _ _ c.requires.filled _ c.requires.thread_lt_threads _ _ _ _ c.loop-n.invariant _ c.link.ensures _ c.in-To.is, c.from-next.ensures)

pub bounds-found-n : goal.bounds-found-n
bounds-found-n c = omega (arith, few_threads _ c.args.lock.now.accepted, turn_within c.args.lock.now.tree.now c.args.lock.now.accepted c.args.lock.now.state.now c.args.lock.now.formed _ _ _ c.requires.filled _ c.requires.thread_lt_threads _ _ _ _ c.loop-n.invariant, c.if-n-threads.false)

pub loop-n-preserved : goal.loop-n-preserved
loop-n-preserved c = rw c.from-next.ensures (turn_next c.args.lock.now.tree.now c.args.lock.now.accepted c.args.lock.now.state.now c.args.lock.now.formed _ _ _ c.requires.filled _ c.requires.thread_lt_threads _ _ _ _ c.loop-n.invariant _ c.link.ensures _ c.in-To.is c.if-n-threads.false (rw c.from-next.ensures at c.if-seen-next.false))

pub returns : goal.returns
returns c = absurd (omega (arith, turn_within c.args.lock.now.tree.now c.args.lock.now.accepted c.args.lock.now.state.now c.args.lock.now.formed _ _ _ c.requires.filled _ c.requires.thread_lt_threads _ _ _ _ c.loop-n.invariant, c.loop-n-test.false))
