-- The thread is in the tables.
use mathlib.Core.Path.{ap, ◌∙◌}
use native.Mathlib.Omega.{arith}
use Rattle.model.specs.States.{numbers_at}
use Rattle.model.proofs.Trees.Reading.{few_threads}
use Rattle.chain_call.proofs.Filling.{fill_turn}
use Rattle.chain_call.proofs.tables.Tables.enter.Goals as goal

pub place_at-q-requires : goal.place_at-q-requires
place_at-q-requires c = omega (arith, few_threads _ c.args.lock.now.accepted, c.requires.j_lt_threads, c.from-at.ensures)

pub bounds-self-at : goal.bounds-self-at
bounds-self-at c = omega (arith, few_threads _ c.args.lock.now.accepted, c.requires.j_lt_threads, c.from-at.ensures)

pub bounds-self-at-2 : goal.bounds-self-at-2
bounds-self-at-2 c = omega (arith, few_threads _ c.args.lock.now.accepted, c.requires.j_lt_threads, c.from-at.ensures)

pub returns : goal.returns
returns c =
    let stands = c.place_at-q.ensures ∙ ap (λ k. numbers_at c.args.lock.now.state.now.places k) c.from-at.ensures in
    rw c.from-at.ensures
    (fill_turn c.args.lock.now.tree.now c.args.lock.now.accepted c.args.lock.now.state.now c.args.lock.now.formed _ c.requires.j_lt_threads _ _ _ _ _ (rw stands at c.own_record-there.ensures.0) (rw (stands, c.from.ensures) at c.acts_from-from.ensures)
    c.own_record-root.ensures.0 (rw stands at c.link_key.ensures) (rw c.from-2.ensures at c.ticket_key.ensures) _ _ _ _ c.requires.filled c.note_path.ensures.fact c.note_path.ensures.ahead_len_2)
