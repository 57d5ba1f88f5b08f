-- An entry with enough bytes after it.
use mathlib.Core.Path.{◌≡◌, sym}
use mathlib.Core.List.{List}
use Prim.Native.Nat.{ℕ, ◌+◌, ◌≤◌, ◌<◌}
use native.Mathlib.Omega.{arith}
use lib.ListN.{length, get_or}
use borrow.Author.Tests.{lt-ltb}
use Rattle.journal.specs.declared.Entry.TheVariants.{Named, Broken}
use Rattle.journal.specs.Reading.{entry_size, entry_thread, entry_kind, entry_at}
use Rattle.journal.proofs.Facts.{whole_entry}

-- an entry with at least four bytes left, from what is read of it
module _ (bs : List ℕ) (p b m : ℕ) (left : p + 4 ≤ length bs) (here : m ≡ get_or bs p 0) where
  pub entry_read :
      (i k next : ℕ) → m ≤ 3 → i ≡ entry_thread bs p b m → k ≡ entry_kind bs p m → next ≡ p + entry_size m →
      entry_at bs p b ≡ Named i k next
  entry_read i k next h e f g = rw (e, f, g) (whole_entry bs p b m (omega arith) (sym here) h (omega arith))

  pub no_entry : 3 < m → entry_at bs p b ≡ Broken
  no_entry h = rw (lt-ltb p (length bs) (omega arith), ← here, lt-ltb 3 m h)
