-- Reading the journal by positions; proofs/ shows that this agrees with the relation of Entries.
use Rattle.std.specs.Prelude.{cond, List, ℕ, ◌+◌, ◌-◌, ◌*◌, ◌%◌, ◌/◌, eqb, ltb, length, get_or}
use Rattle.journal.specs.declared.Entry.{Entry}
use Rattle.journal.specs.declared.Entry.TheVariants.{Named, Broken, End}

-- how many bytes an entry has, by its bit map: one for the map, two for bit 0, one for bit 1
abbrev pub entry_size : (bits : ℕ) → ℕ
entry_size m = 1 + 2 * (m % 2) + m / 2

-- the thread of the entry at a position
abbrev pub entry_thread : (bytes : List ℕ) → (position before bits : ℕ) → ℕ
entry_thread bs p b m = cond (eqb (m % 2) 1) (get_or bs (p + 1) 0 + 256 * get_or bs (p + 2) 0) b

-- the kind of the entry at a position
abbrev pub entry_kind : (bytes : List ℕ) → (position bits : ℕ) → ℕ
entry_kind bs p m = cond (eqb (m / 2) 1) (get_or bs (p + (1 + 2 * (m % 2))) 0) 0

-- the entry at a position with this bit map, if there are enough bytes
abbrev pub entry_of : (bytes : List ℕ) → (position before bits : ℕ) → Entry
entry_of bs p b m = Named (entry_thread bs p b m) (entry_kind bs p m) (p + entry_size m)

-- the entry at a position with this bit map, or why there is none
abbrev pub entry_by : (bytes : List ℕ) → (position before bits : ℕ) → Entry
entry_by bs p b m =
    cond (ltb 3 m) Broken
    (cond (ltb (length bs - p) (entry_size m)) Broken (entry_of bs p b m))

-- the entry at a position, or the end of the journal
abbrev pub entry_at : (bytes : List ℕ) → (position before : ℕ) → Entry
entry_at bs p b = cond (ltb p (length bs)) (entry_by bs p b (get_or bs p 0)) End
