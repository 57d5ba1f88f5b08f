-- The schedule entries: reading them succeeds exactly if their bytes are there.
use mathlib.Core.Path.{◌≡◌, refl, ap}
use mathlib.Core.List.{List, ◌∷◌}
use Prim.Native.Nat.{ℕ, zero, suc, ◌+◌, ◌*◌, ◌-◌, ◌/◌, ◌%◌, ◌≤◌}
use native.Mathlib.Omega.{arith}
use lib.ListN.{length, drop, length-drop, drop_of_length-le}
use Rattle.lock_file.specs.Reading.{byte, entries_from, entries_at}
use Rattle.lock_file.specs.Format.{ScheduleEntries, no_entry, next_entry}
use Rattle.lock_file.proofs.Bytes.{next_byte, starts}

entries_bytes :
    (bs : List ℕ) (k at : ℕ) → length bs ≡ at + 2 * k → ScheduleEntries (entries_from bs k at) (drop at bs)
unfolding entries_from
entries_bytes bs zero at h = rw (drop_of_length-le bs {i = at} (omega arith)) no_entry
entries_bytes bs (suc k) at h =
    let z : at + 1 + 1 ≡ at + 2 = omega arith in
    rw (next_byte bs at (omega arith), next_byte bs (at + 1) (omega arith), z)
    (next_entry (byte bs at) (byte bs (at + 1)) (entries_from bs k (at + 2)) (drop (at + 2) bs) (entries_bytes bs k (at + 2) (omega arith)))

-- if the number of bytes left is even, they are the bytes of the entries that are read
pub schedule_bytes :
    (bs : List ℕ) (at : ℕ) → at ≤ length bs → (length bs - at) % 2 ≡ 0 → ScheduleEntries (entries_at bs at) (drop at bs)
unfolding entries_at
schedule_bytes bs at h e = entries_bytes bs ((length bs - at) / 2) at (omega arith)

-- the converse
pub record EntriesRead (bs : List ℕ) (at : ℕ) (is ss : List ℕ) : Type 0 where
  pub doubled : length ss ≡ 2 * length is
  pub read : entries_from bs (length is) at ≡ is

entries_stored : (bs : List ℕ) (at : ℕ) (is ss : List ℕ) → ScheduleEntries is ss → drop at bs ≡ ss → EntriesRead bs at is ss
unfolding entries_from
entries_stored bs at is ss no_entry e = record { doubled = refl; read = refl }
entries_stored bs at is ss (next_entry low high js ts entries) e =
    let a = starts bs at low (high ∷ ts) e in
    let b = starts bs (at + 1) high ts a.after in
    let z : at + 1 + 1 ≡ at + 2 = omega arith in
    let others = entries_stored bs (at + 2) js ts entries (rw z at b.after) in
    record { doubled = omega arith; read = rw (a.first, b.first, others.read) }

pub record ScheduleRead (bs : List ℕ) (at : ℕ) (is : List ℕ) : Type 0 where
  pub even : (length bs - at) % 2 ≡ 0
  pub read : entries_at bs at ≡ is

pub schedule_stored : (bs : List ℕ) (at : ℕ) (is ss : List ℕ) → ScheduleEntries is ss → drop at bs ≡ ss → ScheduleRead bs at is
unfolding entries_at
schedule_stored bs at is ss entries e =
    let all = entries_stored bs at is ss entries e in
    let long : length bs - at ≡ 2 * length is = omega (arith, length-drop at bs, ap length e) in
    let half : (length bs - at) / 2 ≡ length is = omega arith in
    record { even = omega arith; read = rw half all.read }
