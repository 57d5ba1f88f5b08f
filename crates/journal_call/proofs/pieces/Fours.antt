-- Four consecutive entries with the same bit map, and what they leave in the arrays.
use mathlib.Core.Path.{◌≡◌, refl}
use mathlib.Core.List.{List, [], ◌∷◌}
use Prim.Native.Nat.{ℕ, ◌+◌, ◌*◌, ◌≤◌, ◌<◌}
use native.Mathlib.Omega.{arith}
use lib.Dec.{lit≤}
use lib.ListN.{length, get_or}
use lib.Seq.{sets}
use Rattle.journal.specs.declared.Entry.TheVariants.{Named}
use Rattle.journal.specs.Reading.{entry_at}
use Rattle.journal_call.specs.Reader.Stretches.{Stretch, none_read, one_read, ReadOn}
use Rattle.journal_call.specs.Pieces.Pieces.{AllAre, AllBelow}
use Rattle.journal.proofs.Facts.{whole_entry}

pub four_read :
    (known : ℕ) (bs : List ℕ) (p b : ℕ) (is ks : List ℕ) (n : ℕ) {is' ks' : List ℕ} {i₀ i₁ i₂ i₃ k₀ k₁ k₂ k₃ e l : ℕ} → n + 4 ≤ length is → n + 4 ≤ length ks →
    is' ≡ sets is n (i₀ ∷ i₁ ∷ i₂ ∷ i₃ ∷ []) → ks' ≡ sets ks n (k₀ ∷ k₁ ∷ k₂ ∷ k₃ ∷ []) →
    Stretch known bs p b (i₀ ∷ i₁ ∷ i₂ ∷ i₃ ∷ []) (k₀ ∷ k₁ ∷ k₂ ∷ k₃ ∷ []) e l → ReadOn known bs p b is ks n is' ks' (n + 4) e l
four_read known bs p b is ks n h g t u s =
    record { new_threads = _; new_kinds = _; read = s; threads_stored = t; kinds_stored = u; counted = refl; threads_fit = h; kinds_fit = g }

module _ (bs : List ℕ) where
  -- an entry of each bit map, by where its fields are
  move_at : (p b q k : ℕ) → get_or bs p 0 ≡ 2 → p + 2 ≤ length bs → k ≡ p + 1 → q ≡ p + 2 → entry_at bs p b ≡ Named b (get_or bs k 0) q
  move_at p b q k e h f g = rw (f, g) (whole_entry bs p b 2 (omega arith) e (lit≤ tt) (omega arith))

  stay_at : (p b q : ℕ) → get_or bs p 0 ≡ 0 → p + 1 ≤ length bs → q ≡ p + 1 → entry_at bs p b ≡ Named b 0 q
  stay_at p b q e h g = rw g (whole_entry bs p b 0 (omega arith) e (lit≤ tt) (omega arith))

  other_at :
      (p b q low high i : ℕ) → get_or bs p 0 ≡ 1 → p + 3 ≤ length bs → low ≡ p + 1 → high ≡ p + 2 → q ≡ p + 3 → i ≡ get_or bs low 0 + 256 * get_or bs high 0 →
      entry_at bs p b ≡ Named i 0 q
  other_at p b q low high i e h f g j k = rw (k, f, g, j) (whole_entry bs p b 1 (omega arith) e (lit≤ tt) (omega arith))

  module _ (p b known : ℕ) where
    pub four_moves :
        b < known → p + 8 ≤ length bs → AllAre 2 (get_or bs p 0 ∷ get_or bs (p + 2) 0 ∷ get_or bs (p + 4) 0 ∷ get_or bs (p + 6) 0 ∷ []) →
        Stretch known bs p b (b ∷ b ∷ b ∷ b ∷ []) (get_or bs (p + 1) 0 ∷ get_or bs (p + 3) 0 ∷ get_or bs (p + 5) 0 ∷ get_or bs (p + 7) 0 ∷ []) (p + 8) b
    four_moves h g all =
        one_read (move_at p b (p + 2) (p + 1) (all 0 (omega arith)) (omega arith) (omega arith) (omega arith)) h
        (one_read (move_at (p + 2) b (p + 4) (p + 3) (all 1 (omega arith)) (omega arith) (omega arith) (omega arith)) h
        (one_read (move_at (p + 4) b (p + 6) (p + 5) (all 2 (omega arith)) (omega arith) (omega arith) (omega arith)) h
        (one_read (move_at (p + 6) b (p + 8) (p + 7) (all 3 (omega arith)) (omega arith) (omega arith) (omega arith)) h none_read)))

    pub four_stays :
        b < known → p + 4 ≤ length bs → AllAre 0 (get_or bs p 0 ∷ get_or bs (p + 1) 0 ∷ get_or bs (p + 2) 0 ∷ get_or bs (p + 3) 0 ∷ []) →
        Stretch known bs p b (b ∷ b ∷ b ∷ b ∷ []) (0 ∷ 0 ∷ 0 ∷ 0 ∷ []) (p + 4) b
    four_stays h g all =
        one_read (stay_at p b (p + 1) (all 0 (omega arith)) (omega arith) (omega arith)) h
        (one_read (stay_at (p + 1) b (p + 2) (all 1 (omega arith)) (omega arith) (omega arith)) h
        (one_read (stay_at (p + 2) b (p + 3) (all 2 (omega arith)) (omega arith) (omega arith)) h
        (one_read (stay_at (p + 3) b (p + 4) (all 3 (omega arith)) (omega arith) (omega arith)) h none_read)))

    pub four_others :
        p + 12 ≤ length bs → AllAre 1 (get_or bs p 0 ∷ get_or bs (p + 3) 0 ∷ get_or bs (p + 6) 0 ∷ get_or bs (p + 9) 0 ∷ []) → (i₀ i₁ i₂ i₃ : ℕ) →
        i₀ ≡ get_or bs (p + 1) 0 + 256 * get_or bs (p + 2) 0 → i₁ ≡ get_or bs (p + 4) 0 + 256 * get_or bs (p + 5) 0 →
        i₂ ≡ get_or bs (p + 7) 0 + 256 * get_or bs (p + 8) 0 → i₃ ≡ get_or bs (p + 10) 0 + 256 * get_or bs (p + 11) 0 → AllBelow known (i₀ ∷ i₁ ∷ i₂ ∷ i₃ ∷ []) →
        Stretch known bs p b (i₀ ∷ i₁ ∷ i₂ ∷ i₃ ∷ []) (0 ∷ 0 ∷ 0 ∷ 0 ∷ []) (p + 12) i₃
    four_others g all i₀ i₁ i₂ i₃ e₀ e₁ e₂ e₃ below =
        one_read (other_at p b (p + 3) (p + 1) (p + 2) i₀ (all 0 (omega arith)) (omega arith) (omega arith) (omega arith) (omega arith) e₀) (below 0 (omega arith))
        (one_read (other_at (p + 3) i₀ (p + 6) (p + 4) (p + 5) i₁ (all 1 (omega arith)) (omega arith) (omega arith) (omega arith) (omega arith) e₁) (below 1 (omega arith))
        (one_read (other_at (p + 6) i₁ (p + 9) (p + 7) (p + 8) i₂ (all 2 (omega arith)) (omega arith) (omega arith) (omega arith) (omega arith) e₂) (below 2 (omega arith))
        (one_read (other_at (p + 9) i₂ (p + 12) (p + 10) (p + 11) i₃ (all 3 (omega arith)) (omega arith) (omega arith) (omega arith) (omega arith) e₃) (below 3 (omega arith)) none_read)))
