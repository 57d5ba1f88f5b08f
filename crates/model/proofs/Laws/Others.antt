-- A step changes no place but its own thread's: each branch of a row stores at most that place.
use mathlib.Core.Path.{◌≡◌, refl}
use mathlib.Core.Logic.{◌≢◌}
use Prim.Native.Nat.{ℕ, ◌+◌, ◌-◌}
use Rattle.model.specs.declared.Place.{Place}
use Rattle.model.specs.declared.Place.TheVariants.{Swap, Link, Wait, Inside, Cas, Linger, Grant, Watch}
use Rattle.model.specs.declared.State.{State}
use Rattle.model.specs.Trees.{Tree, own_record}
use Rattle.model.specs.Places.{words_of}
use Rattle.model.specs.States.{tail, next, status, place, numbers_at, store_numbers}
use Rattle.model.specs.Steps.{RowResult, acquired_place, release_place, done_place, row, step}
use Rattle.model.specs.Laws.{OwnPlaceLaw}
use Rattle.model.proofs.Branches.{Branch, idle_draws, idle_prepares, prepares, swap_root, swap_inner, swap_joins, link_writes, wait_root_locked, wait_root_granted, wait_ungranted, wait_acquires, wait_passed, wait_crossed, inside_leaves, check_passes, check_releases, help_alone, help_linked, cas_last, cas_not_last, linger_alone, linger_linked, grant_writes, draw_shown, draw_unshown, watch_shown, watch_unshown, raise_counts, invalid_stays, branch}
use Rattle.model.proofs.Places.{numbers_other}

module _ (t : Tree) (i j : ℕ) (s : State) (n : j ≢ i) where
  stored : (p : Place) → numbers_at (store_numbers s.places i (words_of p)) j ≡ numbers_at s.places j
  stored p = numbers_other s.places i j (words_of p) n

  others : {p : Place} {x : RowResult} → Branch t i s p x → numbers_at x.state.places j ≡ numbers_at s.places j
  others (idle_draws z b) = others b
  others (idle_prepares z b) = others b
  others (prepares l v at) = stored (Swap l)
  others (swap_root l z e) = stored Inside
  others (swap_inner l z e) = stored (acquired_place t l)
  others (swap_joins l e) = stored (Link l (tail s l - 1))
  others (link_writes l p) = stored (Wait l)
  others (wait_root_locked l z e) = refl
  others (wait_root_granted l z e) = stored Inside
  others (wait_ungranted l z e) = refl
  others (wait_acquires l z e) = stored (acquired_place t l)
  others (wait_passed l z e f a) = stored Inside
  others (wait_crossed l z e f a) = stored Inside
  others inside_leaves = stored (release_place t (t.home i))
  others (check_passes l e m) = stored (Grant l (next s (own_record t i l) - 1) (status s (own_record t i l) + 1))
  others (check_releases l e) = stored (release_place t (t.parent l))
  others (help_alone l m) = stored (Cas l)
  others (help_linked l v m at) = stored (Grant l (next s (own_record t i l) - 1) v)
  others (cas_last l e) = stored (done_place t i l)
  others (cas_not_last l e) = stored (Linger l)
  others (linger_alone l m) = refl
  others (linger_linked l v m at) = stored (Grant l (next s (own_record t i l) - 1) v)
  others (grant_writes l p w) = stored (done_place t i l)
  others (draw_shown e) = stored Inside
  others (draw_unshown e) = stored Watch
  others (watch_shown e) = stored Inside
  others (watch_unshown e) = refl
  others raise_counts = stored (done_place t i 0)
  others invalid_stays = refl

  pub row_others : (p : Place) → numbers_at (row t i p s).state.places j ≡ numbers_at s.places j
  row_others p = others (branch t i s p)

pub own_place_law : OwnPlaceLaw
unfolding OwnPlaceLaw step
own_place_law t i j s n = row_others t i j s n (place s i)
