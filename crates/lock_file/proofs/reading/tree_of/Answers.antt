-- Each word is what its own function reads; where one of them stops, reading stops.
use Rattle.std.proofs.Common.{◌≡◌, Err, rules}
use Rattle.lock_file.proofs.Within.{domains_end_within}
use Rattle.lock_file.proofs.Results.{tree_empty, tree_domains_stopped, tree_count_stopped, tree_threads_stopped, tree_odd, tree_whole}
use Rattle.lock_file.proofs.reading.tree_of.Goals as goal

pub returns-then-is_empty : goal.returns-then-is_empty
returns-then-is_empty c = rw (c.from.ensures, c.from-2.ensures, c.byte_at-first.ensures) (tree_empty _ (search rules))

pub returns-in_err-at : goal.returns-in_err-at
returns-in_err-at c =
    let e : c.from_residual.result ≡ Err c.in_err-at.field-0.0 = search rules in
    rw (e, c.from.ensures, c.from-2.ensures, c.byte_at-first.ensures) (tree_domains_stopped _ (search rules) _ _ _ (search rules))

pub two_bytes_at-threads-requires : goal.two_bytes_at-threads-requires
two_bytes_at-threads-requires c = domains_end_within _ _ c.read_domains.new.parents c.read_domains.new.thresholds (search rules) (search rules)

pub returns-in_err-after_count : goal.returns-in_err-after_count
returns-in_err-after_count c =
    let e : c.from_residual-in_err-after_count.result ≡ Err c.in_err-after_count.field-0.0 = search rules in
    rw (e, c.from.ensures, c.from-2.ensures, c.byte_at-first.ensures, c.from-tree.ensures, c.two_bytes_at-threads.ensures)
    (tree_count_stopped _ (search rules) _ _ _ (search rules) _ c.in_err-after_count.ensures)

pub returns-in_err-start : goal.returns-in_err-start
returns-in_err-start c =
    let e : c.from_residual-in_err-start.result ≡ Err c.in_err-start.field-0.0 = search rules in
    rw (e, c.from.ensures, c.from-2.ensures, c.byte_at-first.ensures, c.from-tree.ensures, c.two_bytes_at-threads.ensures)
    (tree_threads_stopped _ (search rules) _ _ _ (search rules) _ c.in_ok-after_count.ensures _ _ (search rules))

pub returns-then-saturating_sub-eq1 : goal.returns-then-saturating_sub-eq1
returns-then-saturating_sub-eq1 c =
    rw (c.from.ensures, c.from-2.ensures, c.byte_at-first.ensures, c.from-tree.ensures, c.two_bytes_at-threads.ensures)
    (tree_odd _ (search rules) _ _ _ (search rules) _ c.in_ok-after_count.ensures c.in_ok-start.start _ (search rules) (search rules))

pub returns : goal.returns
returns c =
    rw (c.from.ensures, c.from-2.ensures, c.byte_at-first.ensures, c.from-tree.ensures, c.two_bytes_at-threads.ensures)
    (tree_whole _ (search rules) _ _ _ (search rules) _ c.in_ok-after_count.ensures _ _ (search rules) (search rules))
