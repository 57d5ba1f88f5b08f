-- What one step counts, by the row of its place.
use Rattle.std.proofs.Common.{◌≡◌, ℕ, Bool, cond, eqb, List, ap, ◌∙◌, arith}
use Rattle.model.specs.declared.Counters.{Counters}
use Rattle.model.specs.declared.PlaceWords.{PlaceWords}
use Rattle.rows.specs.Common.Counting.{added_at, raised_at, Started, CountedShown}
use Rattle.rows.specs.Step.Counting.{started_in, CountedStep}

-- ONE STEP, by its row
module _ (m : ℕ) (ps : List ℕ) (h : ℕ) (before after : PlaceWords) (kind : ℕ) (shown : List Bool) (old new : Counters) where
  pub raise_counted : before.row ≡ 13 → CountedShown shown 64 old new → CountedStep m ps h before after kind shown old new
  raise_counted e g = record { raise = λ z. g; check = λ z. absurd (omega arith); other = λ n o. absurd (n e) }

  pub check_counted :
      before.row ≡ 6 → (c : ℕ) → c ≡ cond (eqb after.row 10) before.domain 0 → new.tenures ≡ old.tenures → new.longest ≡ raised_at old.longest c after.word →
      CountedStep m ps h before after kind shown old new
  check_counted e c f s g =
      record { raise = λ z. absurd (omega arith); check = λ z. (s, g ∙ ap (λ d. raised_at old.longest d after.word) f); other = λ n o. absurd (o e) }

  pub other_counted :
      (before.row ≡ 13 → ⊥) → (before.row ≡ 6 → ⊥) → (d : ℕ) → d ≡ started_in m ps h before after.row kind → Started d old new →
      CountedStep m ps h before after kind shown old new
  other_counted n o d f s =
      record { raise = λ z. absurd (n z); check = λ z. absurd (o z); other = λ x y. (s.added ∙ ap (added_at old.tenures) f, s.raised ∙ ap (λ v. raised_at old.longest v 1) f) }
