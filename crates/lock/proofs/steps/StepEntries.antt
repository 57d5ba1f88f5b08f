-- The entries that one step counts along a thread's path are those that the model counts.
use mathlib.Core.Path.{◌≡◌, refl, sym, ap, ◌∙◌}
use mathlib.Core.Bool.{Bool, true, false, ◌&&◌, not, cond}
use mathlib.Core.List.{List, [], ◌∷◌}
use mathlib.Core.Logic.{◌≢◌}
use Prim.Native.Nat.{ℕ, zero, suc, ◌+◌, ◌-◌, ◌≤◌, ◌<◌}
use native.Mathlib.Omega.{arith}
use native.Mathlib.Decide.{ℕ_discrete}
use lib.Dec.{eqb}
use lib.ListN.{get_or, set}
use borrow.Author.Tests.{eqb-false, eq-eqb, ne_eqb, le-ltb}
use Rattle.model.specs.declared.State.{State}
use Rattle.model.specs.Trees.{Tree, depth, meets, on_path, under}
use Rattle.model.specs.Steps.{kind_number, is_entry, step}
use Rattle.model.specs.Runs.{entries_under}
use Rattle.model.specs.Tenures.{domain_entries}
use Rattle.model.specs.Counters.{each_with_index}
use Rattle.model.proofs.Trees.Accepted.{Accepted}
use Rattle.model.proofs.Trees.Paths.{depth_child, depth_few}
use Rattle.model.proofs.Counted.{indexed_same, indexed_kept, indexed_twice}
use Rattle.rows.specs.Common.Standing.{is_entry_number}
use Rattle.rows.specs.Common.Counting.{Climbed, at_root, one_up, Entered}
use Rattle.lock.proofs.steps.SoFar.{entry_number}
use Rattle.rows.proofs.common.Counts.{set_indexed}

abbrev number : Bool → ℕ
number b = cond b 1 0

-- from a domain up: one more entry for each domain on the way, except the root
module _ (t : Tree) (valid : Accepted t) where
  abbrev met : (levels from domain : ℕ) → Bool
  met f c d = not (eqb d 0) && meets f t c d

  -- a domain higher up has a lower number, so the way up meets no domain twice
  meets_lower : (f c d : ℕ) → c < t.domains → c < d → meets f t c d ≡ false
  unfolding meets
  meets_lower zero c d r l = ne_eqb c d (λ z. absurd (omega arith))
  meets_lower (suc f) c d r l = rw (ne_eqb c d (λ z. absurd (omega arith))) (by (eqb c 0) refl (λ p. meets_lower f (t.parent c) d (omega arith) (omega arith)))
    where
      by : (b : Bool) → eqb c 0 ≡ b → (t.parent c < c → meets f t (t.parent c) d ≡ false) → not b && meets f t (t.parent c) d ≡ false
      by true e g = refl
      by false e g = let n = eqb-false c 0 e in g (valid.parent_lower c (omega (arith, n)) r)

  root_meets : (f d : ℕ) → met f 0 d ≡ false
  unfolding meets
  root_meets zero d = elim (ℕ_discrete d 0) [ yes z ↦ rw z | no z ↦ rw (ne_eqb d 0 z, ne_eqb 0 d (λ y. z (sym y))) ]
  root_meets (suc f) d = elim (ℕ_discrete d 0) [ yes z ↦ rw z | no z ↦ rw (ne_eqb d 0 z, ne_eqb 0 d (λ y. z (sym y))) ]

  one_level : (g c : ℕ) → c ≢ 0 → c < t.domains → (d v : ℕ) → cond (eqb d c) (v + 1) v + number (met g (t.parent c) d) ≡ v + number (met (suc g) c d)
  unfolding meets
  one_level g c n r d v =
      let p = valid.parent_lower c (omega (arith, n)) r in
      elim (ℕ_discrete d c) [
        | yes z ↦ rw (z, ne_eqb c 0 n, eq-eqb c c refl, meets_lower g (t.parent c) c (omega arith) p) (omega arith)
        | no z ↦ rw (ne_eqb d c z, ne_eqb c d (λ y. z (sym y)), ne_eqb c 0 n)
      ]

  climbed_counts :
      (f c : ℕ) (vs ws : List ℕ) → Climbed t.parent c vs ws → c < t.domains → depth t c ≤ f →
      ws ≡ each_with_index (λ d v. v + number (met f c d)) 0 vs
  climbed_counts f c vs ws (at_root v) r h = sym (indexed_kept _ 0 vs (λ d v. rw (root_meets f d) (omega arith)))
  climbed_counts f c vs ws (one_up c' vs' ws' n k) r h = by f h (λ g a b. climbed_counts g (t.parent c) (set vs c (get_or vs c 0 + 1)) ws k a b)
    where
      p : t.parent c < c
      p = valid.parent_lower c (omega (arith, n)) r

      deeper : depth t c ≡ suc (depth t (t.parent c))
      deeper = depth_child t valid c (omega (arith, n)) r

      by :
          (f : ℕ) → depth t c ≤ f →
          ((g : ℕ) → t.parent c < t.domains → depth t (t.parent c) ≤ g → ws ≡ each_with_index (λ d v. v + number (met g (t.parent c) d)) 0 (set vs c (get_or vs c 0 + 1))) →
          ws ≡ each_with_index (λ d v. v + number (met f c d)) 0 vs
      by zero h up = absurd (omega (arith, deeper))
      by (suc g) h up =
          up g (omega (arith, p)) (omega (arith, deeper))
          ∙ ap (each_with_index (λ d v. v + number (met g (t.parent c) d)) 0) (set_indexed (λ v. v + 1) vs c)
          ∙ indexed_twice (λ j v. cond (eqb j c) (v + 1) v) (λ d v. v + number (met g (t.parent c) d)) 0 vs
          ∙ indexed_same _ _ 0 vs (λ d v. one_level g c n r d v)

  -- what the model counts for one step
  module _ (i : ℕ) (b : i < t.threads) (s : State) where
    entered_counts : (x : Bool) (d : ℕ) → is_entry (step t i s).kind ≡ x → domain_entries t d (step t i s ∷ []) ≡ cond x (number (met 6 (t.home i) d)) 0
    unfolding domain_entries entries_under under on_path step
    entered_counts x d e =
        let z : 256 + d - 256 ≡ d = omega arith in
        rw (le-ltb (256 + d) 256 (omega arith), z, e) (by (eqb d 0) x (meets 6 t (t.home i) d))
      where
        by : (a x m : Bool) → cond a 0 (cond x (cond m 1 0) 0 + 0) ≡ cond x (number (not a && m)) 0
        by true true m = refl
        by true false m = refl
        by false true true = refl
        by false true false = refl
        by false false m = refl

    pub entries_counted :
        (kind : ℕ) (es es' : List ℕ) → kind ≡ kind_number (step t i s).kind → Entered t.parent kind (t.home i) es es' →
        es' ≡ each_with_index (λ d v. v + domain_entries t d (step t i s ∷ [])) 0 es
    entries_counted kind es es' e g = by (is_entry (step t i s).kind) refl
      where
        numbered : (x : Bool) → is_entry (step t i s).kind ≡ x → is_entry_number kind ≡ x
        numbered x z = ap is_entry_number e ∙ entry_number (step t i s).kind ∙ z

        by : (x : Bool) → is_entry (step t i s).kind ≡ x → es' ≡ each_with_index (λ d v. v + domain_entries t d (step t i s ∷ [])) 0 es
        by true z =
            climbed_counts 6 (t.home i) es es' (g.entry (numbered true z)) (valid.home_real i b) (omega (arith, depth_few t valid (t.home i) (valid.home_real i b)))
            ∙ indexed_same _ _ 0 es (λ d v. ap (λ n. v + n) (sym (entered_counts true d z)))
        by false z = g.other (numbered false z) ∙ sym (indexed_kept _ 0 es (λ d v. omega (arith, entered_counts false d z)))
