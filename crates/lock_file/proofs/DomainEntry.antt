-- One domain's entry: reading it at a position succeeds exactly if its bytes are there.
use mathlib.Core.Path.{◌≡◌, refl}
use mathlib.Core.List.{List, [], ◌∷◌, ◌++◌}
use Prim.Native.Nat.{ℕ, zero, suc, ◌+◌, ◌≤◌}
use native.Mathlib.Omega.{arith}
use lib.ListN.{length, drop}
use Rattle.lock_file.specs.Reading.{At, byte, domain_size, domain_end, parent_at, threshold_at}
use Rattle.lock_file.specs.Format.{DomainEntry, no_field, parent_only, threshold_only, both_fields}
use Rattle.lock_file.proofs.Positions.{domain_within}
use Rattle.lock_file.proofs.Bytes.{next_byte, starts, entry_reached}

-- an entry's bytes at a position, and where they end
pub record DomainAt (bs : List ℕ) (at next p h : ℕ) : Type 0 where
  pub bytes : List ℕ
  pub entry : DomainEntry p h bytes
  pub split : drop at bs ≡ bytes ++ drop next bs

-- by the bit map
domain_map :
    (bs : List ℕ) (at next m : ℕ) → byte bs at ≡ m → m ≤ 3 → at + domain_size m ≡ next → next ≤ length bs →
    DomainAt bs at next (parent_at bs at) (threshold_at bs at)
unfolding domain_size parent_at threshold_at
domain_map bs at next zero e a b c =
    let z : at + 1 ≡ next = b in
    rw e (record { bytes = 0 ∷ []; entry = no_field; split = rw (next_byte bs at (omega arith), e, z) })
domain_map bs at next (suc zero) e a b c =
    let z : at + 1 + 1 ≡ next = omega arith in
    rw e
    (record {
      bytes = 1 ∷ byte bs (at + 1) ∷ [];
      entry = parent_only (byte bs (at + 1));
      split = rw (next_byte bs at (omega arith), e, next_byte bs (at + 1) (omega arith), z);
    })
domain_map bs at next (suc (suc zero)) e a b c =
    let y : at + 1 + 0 ≡ at + 1 = omega arith in
    let z : at + 1 + 1 + 1 ≡ next = omega arith in
    rw (e, y)
    (record {
      bytes = 2 ∷ byte bs (at + 1) ∷ byte bs (at + 1 + 1) ∷ [];
      entry = threshold_only (byte bs (at + 1)) (byte bs (at + 1 + 1));
      split = rw (next_byte bs at (omega arith), e, next_byte bs (at + 1) (omega arith), next_byte bs (at + 1 + 1) (omega arith), z);
    })
domain_map bs at next (suc (suc (suc zero))) e a b c =
    let z : at + 1 + 1 + 1 + 1 ≡ next = omega arith in
    rw e
    (record {
      bytes = 3 ∷ byte bs (at + 1) ∷ byte bs (at + 1 + 1) ∷ byte bs (at + 1 + 1 + 1) ∷ [];
      entry = both_fields (byte bs (at + 1)) (byte bs (at + 1 + 1)) (byte bs (at + 1 + 1 + 1));
      split =
          rw (
            next_byte bs at (omega arith),
            e,
            next_byte bs (at + 1) (omega arith),
            next_byte bs (at + 1 + 1) (omega arith),
            next_byte bs (at + 1 + 1 + 1) (omega arith),
            z,
          );
    })
domain_map bs at next (suc (suc (suc (suc m)))) e a b c = absurd (omega arith)

pub domain_bytes : (bs : List ℕ) (at next : ℕ) → domain_end bs at ≡ At next → DomainAt bs at next (parent_at bs at) (threshold_at bs at)
domain_bytes bs at next e =
    let w = domain_within bs at next e in
    domain_map bs at next (byte bs at) refl w.meaningful w.reaches w.within

-- conversely, an entry's bytes at a position are read as its fields, and reading continues after them
pub record DomainRead (bs : List ℕ) (at p h : ℕ) (bytes rest : List ℕ) : Type 0 where
  pub reached : domain_end bs at ≡ At (at + length bytes)
  pub parent : parent_at bs at ≡ p
  pub threshold : threshold_at bs at ≡ h
  pub after : drop (at + length bytes) bs ≡ rest

pub domain_fields :
    (bs : List ℕ) (at p h : ℕ) (xs rest : List ℕ) → DomainEntry p h xs → drop at bs ≡ xs ++ rest → DomainRead bs at p h xs rest
unfolding domain_end domain_size parent_at threshold_at
domain_fields bs at p h xs rest no_field e =
    let a = starts bs at 0 rest e in
    record {
      reached = rw a.first (entry_reached bs 3 at 1 (omega arith) (omega arith) (omega arith));
      parent = rw a.first;
      threshold = rw a.first;
      after = a.after;
    }
domain_fields bs at p h xs rest (parent_only q) e =
    let a = starts bs at 1 (q ∷ rest) e in
    let b = starts bs (at + 1) q rest a.after in
    let z : at + 1 + 1 ≡ at + 2 = omega arith in
    record {
      reached = rw a.first (entry_reached bs 3 at 2 (omega arith) (omega arith) (omega arith));
      parent = rw a.first b.first;
      threshold = rw a.first;
      after = rw z at b.after;
    }
domain_fields bs at p h xs rest (threshold_only low high) e =
    let a = starts bs at 2 (low ∷ high ∷ rest) e in
    let b = starts bs (at + 1) low (high ∷ rest) a.after in
    let c = starts bs (at + 1 + 1) high rest b.after in
    let y : at + 1 + 0 ≡ at + 1 = omega arith in
    let z : at + 1 + 1 + 1 ≡ at + 3 = omega arith in
    record {
      reached = rw a.first (entry_reached bs 3 at 3 (omega arith) (omega arith) (omega arith));
      parent = rw a.first;
      threshold = rw (a.first, y, b.first, c.first);
      after = rw z at c.after;
    }
domain_fields bs at p h xs rest (both_fields q low high) e =
    let a = starts bs at 3 (q ∷ low ∷ high ∷ rest) e in
    let b = starts bs (at + 1) q (low ∷ high ∷ rest) a.after in
    let c = starts bs (at + 1 + 1) low (high ∷ rest) b.after in
    let d = starts bs (at + 1 + 1 + 1) high rest c.after in
    let z : at + 1 + 1 + 1 + 1 ≡ at + 4 = omega arith in
    record {
      reached = rw a.first (entry_reached bs 3 at 4 (omega arith) (omega arith) (omega arith));
      parent = rw a.first b.first;
      threshold = rw (a.first, c.first, d.first);
      after = rw z at d.after;
    }
