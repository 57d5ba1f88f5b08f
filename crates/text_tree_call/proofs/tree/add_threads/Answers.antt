-- The counts are capped at 257 and 256 as in the definition.
use Rattle.std.proofs.Common.{◌≡◌, ◌∙◌, ap, min, ◌+◌, replicate, ◌-◌, rules}
use Rattle.text_tree.specs.Words.{least, filled_from, threads_added, threads_after}
use Rattle.text_tree_call.proofs.Limits.{min_least, homes_put, homes_from}
use Rattle.text_tree_call.proofs.tree.add_threads.Goals as goal

pub returns : goal.returns
unfolding threads_added threads_after
returns c =
    let t = c.args.tree.now.threads in
    let h = c.args.home in
    let before = c.min-before.ensures ∙ min_least 257 t in
    let more = c.min.ensures ∙ min_least (257 - c.min-before.result) c.args.count in
    let threads : c.min-before.result + c.min.result ≡ threads_after t c.args.count =
    ap (λ m. c.min-before.result + m) more ∙ ap (λ k. k + least (257 - k) c.args.count) before in
    let end = c.min-end.ensures ∙ min_least 256 _ ∙ ap (least 256) threads in
    let from = c.min-from.ensures ∙ ap (λ k. min k 256) c.min-before.ensures in
    let e : c.fill.new.self ≡ replicate (c.min-end.result - c.min-from.result) h = search rules in
    let put = homes_put c.args.tree.now.homes c.fill.new.self c.min-from.result c.min-end.result h e (search rules) (search rules) in
    let homes =
    put ∙ ap (λ k. filled_from c.args.tree.now.homes k c.min-end.result h) from ∙ homes_from c.args.tree.now.homes t c.min-end.result h (search rules)
    ∙ ap (λ k. filled_from c.args.tree.now.homes (least 257 t) k h) end in
    rw (threads, homes)
