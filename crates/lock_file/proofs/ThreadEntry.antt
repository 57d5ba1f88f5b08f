-- One thread's entry: reading it at a position succeeds exactly if its bytes are there.
use mathlib.Core.Path.{◌≡◌, refl}
use mathlib.Core.List.{List, [], ◌∷◌, ◌++◌}
use Prim.Native.Nat.{ℕ, zero, suc, ◌+◌, ◌%◌, ◌≤◌}
use native.Mathlib.Omega.{arith}
use lib.ListN.{length, drop}
use Rattle.lock_file.specs.Reading.{At, byte, thread_end, home_at}
use Rattle.lock_file.specs.Format.{ThreadEntry, home_before, home_given}
use Rattle.lock_file.proofs.Positions.{thread_within}
use Rattle.lock_file.proofs.Bytes.{next_byte, starts, entry_reached}

-- an entry's bytes at a position, and where they end
pub record ThreadAt (bs : List ℕ) (at next before h : ℕ) : Type 0 where
  pub bytes : List ℕ
  pub entry : ThreadEntry before h bytes
  pub split : drop at bs ≡ bytes ++ drop next bs

-- by the bit map
thread_map :
    (bs : List ℕ) (before at next m : ℕ) → byte bs at ≡ m → m ≤ 1 → at + (1 + m % 2) ≡ next → next ≤ length bs →
    ThreadAt bs at next before (home_at bs before at)
unfolding home_at
thread_map bs before at next zero e a b c =
    let z : at + 1 ≡ next = b in
    rw e (record { bytes = 0 ∷ []; entry = home_before before; split = rw (next_byte bs at (omega arith), e, z) })
thread_map bs before at next (suc zero) e a b c =
    let z : at + 1 + 1 ≡ next = omega arith in
    rw e
    (record {
      bytes = 1 ∷ byte bs (at + 1) ∷ [];
      entry = home_given before (byte bs (at + 1));
      split = rw (next_byte bs at (omega arith), e, next_byte bs (at + 1) (omega arith), z);
    })
thread_map bs before at next (suc (suc m)) e a b c = absurd (omega arith)

pub thread_bytes : (bs : List ℕ) (before at next : ℕ) → thread_end bs at ≡ At next → ThreadAt bs at next before (home_at bs before at)
thread_bytes bs before at next e =
    let w = thread_within bs at next e in
    thread_map bs before at next (byte bs at) refl w.meaningful w.reaches w.within

-- conversely, an entry's bytes at a position are read as its home, and reading continues after them
pub record ThreadRead (bs : List ℕ) (at before h : ℕ) (bytes rest : List ℕ) : Type 0 where
  pub reached : thread_end bs at ≡ At (at + length bytes)
  pub home : home_at bs before at ≡ h
  pub after : drop (at + length bytes) bs ≡ rest

pub thread_fields :
    (bs : List ℕ) (at before h : ℕ) (xs rest : List ℕ) → ThreadEntry before h xs → drop at bs ≡ xs ++ rest →
    ThreadRead bs at before h xs rest
unfolding thread_end home_at
thread_fields bs at before h xs rest (home_before g) e =
    let a = starts bs at 0 rest e in
    record {
      reached = rw a.first (entry_reached bs 1 at 1 (omega arith) (omega arith) (omega arith));
      home = rw a.first;
      after = a.after;
    }
thread_fields bs at before h xs rest (home_given f g) e =
    let a = starts bs at 1 (g ∷ rest) e in
    let b = starts bs (at + 1) g rest a.after in
    let z : at + 1 + 1 ≡ at + 2 = omega arith in
    record {
      reached = rw a.first (entry_reached bs 1 at 2 (omega arith) (omega arith) (omega arith));
      home = rw a.first b.first;
      after = rw z at b.after;
    }
