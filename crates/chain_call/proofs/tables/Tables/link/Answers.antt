-- The words of the place and of the record there.
use mathlib.Core.Path.{ap, ◌∙◌}
use native.Mathlib.Omega.{arith}
use Rattle.model.specs.Trees.{tree_of}
use Rattle.model.specs.States.{numbers_at}
use Rattle.model.proofs.Trees.Reading.{few_threads}
use Rattle.chain_call.proofs.tables.Tables.link.Goals as goal

pub place_at-q-requires : goal.place_at-q-requires
place_at-q-requires c = omega (arith, few_threads _ c.args.lock.now.accepted, c.requires.i_lt_threads, c.from.ensures)

pub link_in-requires : goal.link_in-requires
link_in-requires c =
    let stands = c.place_at-q.ensures ∙ ap (λ k. numbers_at c.args.lock.now.state.now.places k) c.from.ensures in
    record { r_bound = (c.own_record-r.ensures.1, few_threads _ c.args.lock.now.accepted); v_bound = rw (c.own_record-r.ensures.0, stands) c.requires.sound_place.ticket }

pub returns : goal.returns
unfolding tree_of
returns c =
    let stands = c.place_at-q.ensures ∙ ap (λ k. numbers_at c.args.lock.now.state.now.places k) c.from.ensures in
    rw (c.own_record-r.ensures.0, stands) at c.link_in.ensures
