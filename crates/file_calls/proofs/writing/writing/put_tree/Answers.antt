-- Its four parts in order.
use Rattle.std.proofs.Common.{ap, rules, arith}
use Rattle.model.specs.Trees.{tree_of}
use Rattle.file_calls.proofs.writing.Trees.{parts_length, room_domains, room_count, room_threads, tree_stored}
use Rattle.file_calls.proofs.writing.writing.put_tree.Goals as goal

pub put_byte-requires : goal.put_byte-requires
put_byte-requires c = omega (arith, parts_length (tree_of c.args.tree.now), c.requires.tree_in_bounds)

pub put_domains-requires : goal.put_domains-requires
put_domains-requires c = record { domains_nonzero = c.requires.domains_nonzero; domains_in_bounds = room_domains (tree_of c.args.tree.now) _ _ _ c.first_byte_of.ensures c.put_byte.ensures (omega (arith, c.requires.tree_in_bounds)) }

pub put_two_bytes-requires : goal.put_two_bytes-requires
put_two_bytes-requires c = room_count (tree_of c.args.tree.now) _ _ _ c.first_byte_of.ensures c.put_byte.ensures (omega (arith, c.requires.tree_in_bounds)) _ c.put_domains.ensures

pub put_threads-requires : goal.put_threads-requires
unfolding tree_of
put_threads-requires c = record { threads_bound = c.requires.threads_bound; threads_in_bounds = room_threads (tree_of c.args.tree.now) _ _ _ c.first_byte_of.ensures c.put_byte.ensures (omega (arith, c.requires.tree_in_bounds)) _ c.put_domains.ensures _ c.put_two_bytes.ensures }

pub returns : goal.returns
unfolding tree_of
returns c =
    let done = tree_stored (tree_of c.args.tree.now) _ _ _ c.first_byte_of.ensures c.put_byte.ensures (omega (arith, c.requires.tree_in_bounds)) _ c.put_domains.ensures _ c.put_two_bytes.ensures _ c.put_threads.ensures in
    let at = ap (λ w. w.at) done in
    let name = ap (λ w. w.buffer.ghost_name) done in
    let last = ap (λ w. w.buffer.now) done in
    record { value = omega (arith, at); buffer_after = search (rules, name, last) }
