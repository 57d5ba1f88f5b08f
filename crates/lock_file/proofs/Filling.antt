-- The schedule entries at the front of a buffer that is long enough; otherwise the buffer is unchanged.
use mathlib.Core.Path.{◌≡◌}
use mathlib.Core.List.{List}
use Prim.Native.Nat.{ℕ, ◌-◌, ◌/◌, ◌≤◌, ◌<◌}
use native.Mathlib.Omega.{arith}
use lib.ListN.{length}
use lib.Seq.{sets}
use borrow.Author.Tests.{lt-ltb, le-ltb}
use Rattle.lock_file.specs.Reading.{entries_from, entries_at, filled}
use Rattle.lock_file.proofs.Positions.{entries_length}
use Rattle.model.proofs.Storing.{sets_front}

pub short_filled :
    (bs : List ℕ) (at : ℕ) (l : List ℕ) → length l < (length bs - at) / 2 → filled (entries_at bs at) l ≡ l
unfolding filled entries_at
short_filled bs at l h =
    let n = (length bs - at) / 2 in
    rw (lt-ltb (length l) (length (entries_from bs n at)) (omega (arith, entries_length bs n at)))

pub whole_filled :
    (bs : List ℕ) (at : ℕ) (l : List ℕ) → (length bs - at) / 2 ≤ length l →
    sets l 0 (entries_from bs ((length bs - at) / 2) at) ≡ filled (entries_at bs at) l
unfolding filled entries_at
whole_filled bs at l h =
    let n = (length bs - at) / 2 in
    let fits : length (entries_from bs n at) ≤ length l = omega (arith, entries_length bs n at) in
    rw (le-ltb (length l) (length (entries_from bs n at)) fits) (sets_front l (entries_from bs n at) fits)
