-- One number per step becomes two, starting from the last step.
use mathlib.Core.Path.{◌≡◌, refl, ap, ◌∙◌}
use mathlib.Core.List.{List}
use mathlib.Core.Logic.{◌≢◌}
use Prim.Native.Nat.{ℕ, ◌+◌, ◌*◌, ◌/◌, ◌%◌, ◌≤◌, ◌<◌}
use native.Mathlib.Omega.{arith}
use native.Mathlib.Decide.{ℕ_discrete}
use lib.ListN.{length, get_or, set, length-set}
use lib.Seq.{get_or-set_same, get_or-set_other}
use Rattle.rows.specs.Common.Standing.{row_domain}
use Rattle.runs_call.specs.WithKinds.Spreading.{Spread}

module _ (homes schedule before : List ℕ) where
  pub spread_none : Spread homes schedule before (length schedule) before
  spread_none =
      record { long = refl; ahead = λ j h. refl; kind = λ j h l. absurd (omega arith); domain = λ j h l. absurd (omega arith); rest = λ j h. refl }

  -- one more step, from the last to the first
  pub spread_one :
      (rows : List ℕ) (k : ℕ) → k < length schedule → 2 * length schedule ≤ length before → Spread homes schedule before (k + 1) rows → (i home domain : ℕ) → i ≡ get_or schedule k 0 →
      home ≡ get_or homes i 0 → domain ≡ row_domain home ((get_or rows k 0 / 8) % 16) (get_or rows k 0 / 128) →
      Spread homes schedule before k (set (set rows (2 * k) (get_or rows k 0 % 8)) (2 * k + 1) domain)
  spread_one rows k h room g i home domain at there e =
      let code = get_or rows k 0 in
      let same : code ≡ get_or before k 0 = g.ahead k (omega arith) in
      let once = set rows (2 * k) (code % 8) in
      let l : length once ≡ length rows = length-set rows (2 * k) (code % 8) in
      let other : (j : ℕ) → j ≢ 2 * k → j ≢ 2 * k + 1 → get_or (set once (2 * k + 1) domain) j 0 ≡ get_or rows j 0 =
      λ j a b. get_or-set_other once (2 * k + 1) j domain 0 b ∙ get_or-set_other rows (2 * k) j (code % 8) 0 a in
      record {
        long = length-set once (2 * k + 1) domain ∙ l ∙ g.long;
        ahead = λ j a. other j (λ z. absurd (omega arith)) (λ z. absurd (omega arith)) ∙ g.ahead j (omega arith);
        kind = λ j a b.
            elim (ℕ_discrete j k) [
              | yes z ↦
                  rw z
                  (get_or-set_other once (2 * k + 1) (2 * k) domain 0 (λ y. absurd (omega arith))
                  ∙ get_or-set_same rows (2 * k) (code % 8) 0 (omega (arith, g.long)) ∙ ap (λ v. v % 8) same)
              | no z ↦ other (2 * j) (λ y. z (omega arith)) (λ y. absurd (omega arith)) ∙ g.kind j (omega arith) b
            ];
        domain = λ j a b.
            elim (ℕ_discrete j k) [
              | yes z ↦
                  rw z
                  (get_or-set_same once (2 * k + 1) domain 0 (omega (arith, l, g.long))
                  ∙ e ∙ ap (λ v. row_domain v ((code / 8) % 16) (code / 128)) there ∙ ap (λ v. row_domain (get_or homes i 0) ((v / 8) % 16) (v / 128)) same ∙ ap (λ v. row_domain (get_or homes v 0) ((get_or before k 0 / 8) % 16) (get_or before k 0 / 128)) at)
              | no z ↦ other (2 * j + 1) (λ y. absurd (omega arith)) (λ y. z (omega arith)) ∙ g.domain j (omega arith) b
            ];
        rest = λ j a. other j (λ z. absurd (omega arith)) (λ z. absurd (omega arith)) ∙ g.rest j a;
      }
