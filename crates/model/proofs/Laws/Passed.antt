-- PASSED AND CROSSED entries together are the entries from Wait below the root.
use mathlib.Core.Path.{◌≡◌, refl}
use mathlib.Core.Bool.{◌&&◌, cond}
use mathlib.Core.List.{List, [], ◌∷◌}
use Prim.Native.Nat.{ℕ, ◌+◌}
use native.Mathlib.Omega.{arith}
use borrow.Author.Tests.{eq-eqb, ne_eqb}
use Rattle.model.specs.declared.Place.{Place}
use Rattle.model.specs.declared.State.{State}
use Rattle.model.specs.Trees.{Tree}
use Rattle.model.specs.States.{place}
use Rattle.model.specs.Steps.{passed_entry, crossed_entry, is_kind, is_entry, RowResult, row, step}
use Rattle.model.specs.Runs.{steps, how_many, counts_of, run_of, run}
use Rattle.model.specs.Laws.{waits_below, entries_from_below, PassedLaw}
use Rattle.model.proofs.Branches.{Branch, idle_draws, idle_prepares, prepares, swap_root, swap_inner, swap_joins, link_writes, wait_root_locked, wait_root_granted, wait_ungranted, wait_acquires, wait_passed, wait_crossed, inside_leaves, check_passes, check_releases, help_alone, help_linked, cas_last, cas_not_last, linger_alone, linger_linked, grant_writes, draw_shown, draw_unshown, watch_shown, watch_unshown, raise_counts, invalid_stays, branch}

-- one of the two is counted exactly for an entry from Wait below the root
abbrev KindsApart : Place → RowResult → Type 0
KindsApart p x = cond (is_kind passed_entry x.kind) 1 0 + cond (is_kind crossed_entry x.kind) 1 0 ≡ cond (is_entry x.kind && waits_below p) 1 0

row_apart : {t : Tree} {i : ℕ} {s : State} {p : Place} {x : RowResult} → Branch t i s p x → KindsApart p x
unfolding is_kind is_entry waits_below
row_apart (idle_draws z (draw_shown e)) = refl
row_apart (idle_draws z (draw_unshown e)) = refl
row_apart (idle_prepares z (prepares l v c)) = refl
row_apart (prepares l v c) = refl
row_apart (swap_root l z e) = refl
row_apart (swap_inner l z e) = refl
row_apart (swap_joins l e) = refl
row_apart (link_writes l p) = refl
row_apart (wait_root_locked l z e) = refl
row_apart (wait_root_granted l z e) = rw (eq-eqb l 0 z)
row_apart (wait_ungranted l z e) = refl
row_apart (wait_acquires l z e) = refl
row_apart (wait_passed l z e f a) = rw (ne_eqb l 0 z)
row_apart (wait_crossed l z e f a) = rw (ne_eqb l 0 z)
row_apart inside_leaves = refl
row_apart (check_passes l e n) = refl
row_apart (check_releases l e) = refl
row_apart (help_alone l n) = refl
row_apart (help_linked l v n c) = refl
row_apart (cas_last l e) = refl
row_apart (cas_not_last l e) = refl
row_apart (linger_alone l n) = refl
row_apart (linger_linked l v n c) = refl
row_apart (grant_writes l r w) = refl
row_apart (draw_shown e) = refl
row_apart (draw_unshown e) = refl
row_apart (watch_shown e) = refl
row_apart (watch_unshown e) = refl
row_apart raise_counts = refl
row_apart invalid_stays = refl

steps_apart :
    (t : Tree) (is : List ℕ) (s : State) →
    how_many (is_kind passed_entry) (steps t is s) + how_many (is_kind crossed_entry) (steps t is s) ≡ entries_from_below (steps t is s)
unfolding steps step how_many entries_from_below
steps_apart t [] s = refl
steps_apart t (i ∷ is) s = omega (arith, row_apart (branch t i s (place s i)), steps_apart t is (row t i (place s i) s).state)

pub passed_law : PassedLaw
unfolding PassedLaw run run_of counts_of
passed_law t is s = steps_apart t is s
