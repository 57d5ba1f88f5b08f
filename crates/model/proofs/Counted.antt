-- Counters after steps, index by index; and how much a step adds at most.
use mathlib.Core.Path.{◌≡◌, refl, sym, ap, ◌∙◌}
use mathlib.Core.Bool.{Bool, true, false, cond}
use mathlib.Core.List.{List, [], ◌∷◌, ◌++◌}
use mathlib.Core.Logic.{◌≢◌}
use Prim.Native.Nat.{ℕ, zero, suc, ◌+◌, ◌≤◌, ◌<◌, max}
use native.Mathlib.Omega.{arith}
use native.Mathlib.Nat.{add-zero}
use native.Mathlib.Decide.{ℕ_discrete, dec_lt}
use lib.Dec.{eqb, ltb}
use lib.ListN.{length, get_or, get_or-eq_default}
use borrow.Author.Tests.{eq-eqb, ne_eqb, lt-ltb, le-ltb}
use Rattle.model.specs.declared.Counters.{Counters}
use Rattle.model.specs.Scans.{filter_below}
use Rattle.model.specs.Trees.{Tree}
use Rattle.model.specs.Steps.{Kind, Step}
use Rattle.model.specs.Runs.{how_many, entries_under, occurrences}
use Rattle.model.specs.Tenures.{domain_entries, domain_tenures, longest_tenure}
use Rattle.model.specs.Counters.{each_with_index, counters_after}
use Rattle.model.proofs.Lists.{same_or}
use Rattle.model.proofs.Laws.Runs.{entries_under_join}

-- EACH ELEMENT BY ITS INDEX
pub indexed_long : (f : ℕ → ℕ → ℕ) (k : ℕ) (vs : List ℕ) → length (each_with_index f k vs) ≡ length vs
unfolding each_with_index
indexed_long f k [] = refl
indexed_long f k (v ∷ vs) = ap suc (indexed_long f (suc k) vs)

pub indexed_at : (f : ℕ → ℕ → ℕ) (k : ℕ) (vs : List ℕ) (d : ℕ) → d < length vs → get_or (each_with_index f k vs) d 0 ≡ f (k + d) (get_or vs d 0)
unfolding each_with_index
indexed_at f k [] d h = absurd (omega arith)
indexed_at f k (v ∷ vs) zero h = ap (λ j. f j v) (sym (add-zero k))
indexed_at f k (v ∷ vs) (suc d) h = indexed_at f (suc k) vs d (omega arith) ∙ ap (λ j. f j (get_or vs d 0)) (omega arith)

pub indexed_same : (f g : ℕ → ℕ → ℕ) (k : ℕ) (vs : List ℕ) → ((d v : ℕ) → f d v ≡ g d v) → each_with_index f k vs ≡ each_with_index g k vs
unfolding each_with_index
indexed_same f g k [] h = refl
indexed_same f g k (v ∷ vs) h = rw (h k v, indexed_same f g (suc k) vs h)

pub indexed_kept : (f : ℕ → ℕ → ℕ) (k : ℕ) (vs : List ℕ) → ((d v : ℕ) → f d v ≡ v) → each_with_index f k vs ≡ vs
unfolding each_with_index
indexed_kept f k [] h = refl
indexed_kept f k (v ∷ vs) h = rw (h k v, indexed_kept f (suc k) vs h)

pub indexed_twice : (f g : ℕ → ℕ → ℕ) (k : ℕ) (vs : List ℕ) → each_with_index g k (each_with_index f k vs) ≡ each_with_index (λ d v. g d (f d v)) k vs
unfolding each_with_index
indexed_twice f g k [] = refl
indexed_twice f g k (v ∷ vs) = ap (λ ws. g k (f k v) ∷ ws) (indexed_twice f g (suc k) vs)

-- a fact about the value at each index, and about 0
pub indexed_fact :
    (P : ℕ → ℕ → Type 0) (f : ℕ → ℕ → ℕ) (vs : List ℕ) → ((d : ℕ) → P d 0) → ((d : ℕ) → P d (f d (get_or vs d 0))) →
    (d : ℕ) → P d (get_or (each_with_index f 0 vs) d 0)
indexed_fact P f vs zeros each d =
    elim (dec_lt d (length vs)) [
      | yes h ↦ let z : 0 + d ≡ d = omega arith in rw (indexed_at f 0 vs d h, z) (each d)
      | no h ↦ rw (get_or-eq_default (each_with_index f 0 vs) 0 {n = d} (omega (arith, indexed_long f 0 vs))) (zeros d)
    ]

-- COUNTS OF JOINED LISTS OF STEPS
domain_entries_none : (t : Tree) (d : ℕ) → domain_entries t d [] ≡ 0
unfolding domain_entries entries_under
domain_entries_none t d = by (eqb d 0)
  where
    by : (b : Bool) → ◌≡◌ {A = ℕ} (cond b 0 0) 0
    by true = refl
    by false = refl

pub domain_entries_join : (t : Tree) (d : ℕ) (xs ys : List Step) → domain_entries t d (xs ++ ys) ≡ domain_entries t d xs + domain_entries t d ys
unfolding domain_entries
domain_entries_join t d xs ys = by (eqb d 0)
  where
    by : (b : Bool) → cond b 0 (entries_under t (256 + d) (xs ++ ys)) ≡ cond b 0 (entries_under t (256 + d) xs) + cond b 0 (entries_under t (256 + d) ys)
    by true = refl
    by false = entries_under_join t (256 + d) xs ys

pub domain_tenures_join : (t : Tree) (d : ℕ) (xs ys : List Step) → domain_tenures t d (xs ++ ys) ≡ domain_tenures t d xs + domain_tenures t d ys
unfolding domain_tenures
domain_tenures_join t d [] ys = omega arith
domain_tenures_join t d (x ∷ xs) ys = omega (arith, domain_tenures_join t d xs ys)

pub longest_tenure_join : (t : Tree) (d : ℕ) (xs ys : List Step) → longest_tenure t d (xs ++ ys) ≡ max (longest_tenure t d xs) (longest_tenure t d ys)
unfolding longest_tenure
longest_tenure_join t d [] ys = omega arith
longest_tenure_join t d (x ∷ xs) ys = omega (arith, longest_tenure_join t d xs ys)

pub counters_none : (t : Tree) (c : Counters) → counters_after t c [] ≡ c
unfolding counters_after domain_tenures longest_tenure
counters_none t c =
    rw (
      indexed_kept (λ d v. v + domain_entries t d []) 0 c.entries (λ d v. omega (arith, domain_entries_none t d)),
      indexed_kept (λ d v. v + 0) 0 c.tenures (λ d v. omega arith),
      indexed_kept (λ d v. max v 0) 0 c.longest (λ d v. omega arith),
    )

pub counters_join : (t : Tree) (c : Counters) (xs ys : List Step) → counters_after t c (xs ++ ys) ≡ counters_after t (counters_after t c xs) ys
unfolding counters_after
counters_join t c xs ys =
    rw (
      indexed_twice (λ d v. v + domain_entries t d xs) (λ d v. v + domain_entries t d ys) 0 c.entries,
      indexed_twice (λ d v. v + domain_tenures t d xs) (λ d v. v + domain_tenures t d ys) 0 c.tenures,
      indexed_twice (λ d v. max v (longest_tenure t d xs)) (λ d v. max v (longest_tenure t d ys)) 0 c.longest,
      indexed_same (λ d v. v + domain_entries t d (xs ++ ys)) (λ d v. v + domain_entries t d xs + domain_entries t d ys) 0 c.entries (λ d v. omega (arith, domain_entries_join t d xs ys)),
      indexed_same (λ d v. v + domain_tenures t d (xs ++ ys)) (λ d v. v + domain_tenures t d xs + domain_tenures t d ys) 0 c.tenures (λ d v. omega (arith, domain_tenures_join t d xs ys)),
      indexed_same (λ d v. max v (longest_tenure t d (xs ++ ys))) (λ d v. max (max v (longest_tenure t d xs)) (longest_tenure t d ys)) 0 c.longest (λ d v. omega (arith, longest_tenure_join t d xs ys)),
    )

-- at most as many steps are of a kind as there are steps
pub how_many_most : (f : Kind → Bool) (xs : List Step) → how_many f xs ≤ length xs
unfolding how_many
how_many_most f [] = omega arith
how_many_most f (x ∷ xs) = by (f x.kind) (how_many_most f xs)
  where
    by : (b : Bool) → how_many f xs ≤ length xs → cond b 1 0 + how_many f xs ≤ suc (length xs)
    by true h = omega arith
    by false h = omega arith

-- OCCURRENCES of a number in a list, and among the numbers that pass a test
pub occurrences_one : (a n : ℕ) → 1 ≤ occurrences a (n ∷ []) → a ≡ n
unfolding occurrences
occurrences_one a n h = same_or a n _ (λ e. e) (λ e. absurd (let z : 1 ≤ 0 + 0 = rw (ne_eqb a n e) at h in omega arith))

pub occurrences_join : (m : ℕ) (xs ys : List ℕ) → occurrences m (xs ++ ys) ≡ occurrences m xs + occurrences m ys
unfolding occurrences
occurrences_join m [] ys = omega arith
occurrences_join m (x ∷ xs) ys = omega (arith, occurrences_join m xs ys)

pub filter_occurs : (n : ℕ) (f : ℕ → Bool) (m : ℕ) → occurrences m (filter_below n f) ≡ cond (ltb m n) (cond (f m) 1 0) 0
unfolding occurrences filter_below
filter_occurs zero f m = rw (le-ltb m 0 (omega arith))
filter_occurs (suc n) f m = occurrences_join m (filter_below n f) (cond (f n) (n ∷ []) []) ∙ rw (filter_occurs n f m) (by (f n) refl)
  where
    last : (b : Bool) → m ≢ n → occurrences m (cond b (n ∷ []) []) ≡ 0
    last true h = rw (ne_eqb m n h)
    last false h = refl

    here : (b : Bool) → m ≡ n → occurrences m (cond b (n ∷ []) []) ≡ cond b 1 0
    here true h = rw (eq-eqb m n h)
    here false h = refl

    by : (b : Bool) → f n ≡ b → cond (ltb m n) (cond (f m) 1 0) 0 + occurrences m (cond (f n) (n ∷ []) []) ≡ cond (ltb m (suc n)) (cond (f m) 1 0) 0
    by b e =
        elim (ℕ_discrete m n) [
          | yes z ↦ rw (here (f n) z, le-ltb m n (omega arith), lt-ltb m (suc n) (omega arith), z) (omega arith)
          | no z ↦
              rw (last (f n) z)
              (elim (dec_lt m n) [
                | yes l ↦ rw (lt-ltb m n l, lt-ltb m (suc n) (omega arith)) (omega arith)
                | no l ↦ rw (le-ltb m n (omega arith), le-ltb m (suc n) (omega arith)) refl
              ])
        ]
