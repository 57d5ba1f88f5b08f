-- A complete entry for each bit map; and every complete entry advances the position.
use mathlib.Core.Path.{◌≡◌, refl, subst}
use mathlib.Core.Bool.{Bool, true, false, cond}
use mathlib.Core.List.{List}
use Prim.Native.Nat.{ℕ, ◌-◌, ◌≤◌, ◌<◌}
use native.Mathlib.Omega.{arith}
use lib.Dec.{ltb}
use lib.ListN.{length, get_or}
use borrow.Author.Tests.{lt-ltb, le-ltb, ltb-true, ltb-false}
use Rattle.journal.specs.declared.Entry.{Entry}
use Rattle.journal.specs.declared.Entry.TheVariants.{Named, Broken, End}
use Rattle.journal.specs.Reading.{entry_size, entry_of, entry_at}

-- an entry whose bit map has no other bit, with enough bytes for its fields
pub whole_entry :
    (bs : List ℕ) (p b m : ℕ) → p < length bs → get_or bs p 0 ≡ m → m ≤ 3 → entry_size m ≤ length bs - p →
    entry_at bs p b ≡ entry_of bs p b m
whole_entry bs p b m h e k f = rw (lt-ltb p (length bs) h, e, le-ltb 3 m k, le-ltb (length bs - p) (entry_size m) f)

-- what follows a whole entry is further on and within the journal; at the end no byte is left
abbrev pub Ahead : (bytes : List ℕ) → (position : ℕ) → Entry → Type 0
Ahead bs p (Named i k next) = (p < next) × (next ≤ length bs)
Ahead bs p Broken = Unit
Ahead bs p End = length bs ≤ p

pub ahead : (bs : List ℕ) (p b : ℕ) → Ahead bs p (entry_at bs p b)
ahead bs p b = by (ltb p (length bs)) (ltb 3 (get_or bs p 0)) (ltb (length bs - p) (entry_size (get_or bs p 0))) refl refl
  where
    by : (x y z : Bool) → ltb p (length bs) ≡ x → ltb (length bs - p) (entry_size (get_or bs p 0)) ≡ z
        → Ahead bs p (cond x (cond y Broken (cond z Broken (entry_of bs p b (get_or bs p 0)))) End)
    by false y z e f = ltb-false p (length bs) e
    by true true z e f = tt
    by true false true e f = tt
    by true false false e f = (omega arith, omega (arith, ltb-true p (length bs) e, ltb-false (length bs - p) (entry_size (get_or bs p 0)) f))

pub moves_on : (bs : List ℕ) (p b i k next : ℕ) → entry_at bs p b ≡ Named i k next → (p < next) × (next ≤ length bs)
moves_on bs p b i k next e = subst (Ahead bs p) e (ahead bs p b)

pub at_end : (bs : List ℕ) (p b : ℕ) → entry_at bs p b ≡ End → length bs ≤ p
at_end bs p b e = subst (Ahead bs p) e (ahead bs p b)
