-- The bytes of a file from a position on: the next byte, and what follows it.
use mathlib.Core.Path.{◌≡◌, sym, ◌∙◌, ap}
use mathlib.Core.List.{List, ◌∷◌}
use Prim.Native.Nat.{ℕ, ◌+◌, ◌-◌, ◌≤◌, ◌<◌}
use native.Mathlib.Omega.{arith}
use native.Mathlib.Numerals.{add-one}
use lib.ListN.{length, drop, length-drop}
use lib.Seq.{drop-cons}
use borrow.Author.Tests.{lt-leb, le-ltb}
use Rattle.lock_file.specs.Reading.{At, byte, field_end, entry_end}

-- a byte, and those after it
pub next_byte : (bs : List ℕ) (at : ℕ) → at < length bs → drop at bs ≡ byte bs at ∷ drop (at + 1) bs
next_byte bs at h = rw add-one (drop-cons bs at 0 h)

-- what is known about a file whose bytes from a position on start with a given byte
pub record Starts (bs : List ℕ) (at x : ℕ) (ys : List ℕ) : Type 0 where
  pub first : byte bs at ≡ x
  pub after : drop (at + 1) bs ≡ ys
  pub long : length bs ≡ at + 1 + length ys

pub starts : (bs : List ℕ) (at x : ℕ) (ys : List ℕ) → drop at bs ≡ x ∷ ys → Starts bs at x ys
starts bs at x ys e =
    let inside : at < length bs = omega (arith, length-drop at bs, ap length e) in
    let both = sym (next_byte bs at inside) ∙ e in
    let after : drop (at + 1) bs ≡ ys = cc in
    record { first = cc; after = after; long = omega (arith, length-drop (at + 1) bs, ap length after) }

-- a field, and an entry whose map has a meaning, end after their size
pub field_reached : (bs : List ℕ) (at size : ℕ) → at + size ≤ length bs → field_end bs at size ≡ At (at + size)
unfolding field_end
field_reached bs at size h = let enough : size ≤ length bs - at = omega arith in rw (le-ltb (length bs - at) size enough)

pub entry_reached :
    (bs : List ℕ) (largest at size : ℕ) → 0 < size → byte bs at ≤ largest → at + size ≤ length bs →
    entry_end bs largest at size ≡ At (at + size)
unfolding entry_end
entry_reached bs largest at size p m h =
    let inside : at < length bs = omega arith in
    rw (lt-leb (length bs) at inside, le-ltb largest (byte bs at) m) (field_reached bs at size h)
