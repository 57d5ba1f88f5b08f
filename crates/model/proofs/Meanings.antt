-- The meaning of the claim's definitions: under, allowances, prefixes, stretches, places.
use mathlib.Core.Path.{◌≡◌, refl, sym, ap, ◌∙◌}
use mathlib.Core.Bool.{Bool, true, false, cond, false≢true}
use mathlib.Core.List.{List, [], ◌∷◌, ◌++◌}
use Prim.Native.Nat.{ℕ, zero, suc, ◌+◌, ◌*◌, ◌≤◌, ◌<◌}
use native.Mathlib.Omega.{arith}
use native.Mathlib.Decide.{ℕ_discrete, dec_lt}
use lib.Dec.{eqb}
use lib.ListN.{length, take, drop}
use lib.Seq.{take-append_seam, drop-drop, drop-length}
use borrow.Author.Tests.{not-false, eqb-true, eq-eqb, ne_eqb, lt-ltb}
use Rattle.model.specs.Scans.{any_below, largest_below}
use Rattle.model.specs.declared.LockState.{LockState}
use Rattle.model.specs.Trees.{Tree, is_child, is_leaf, on_path, under, allowance}
use Rattle.model.specs.Answers.{run_reply}
use Rattle.model.specs.Calls.{Call, added, lock_at, Stretches}
use Rattle.model.specs.Meanings.{Within, itself, below, ReportsUnder, UnderLaw, LargestChild, AllowanceLaw, PrefixLaw, own_entries, StretchesLaw, RefusedRunLaw, PlaceLaw}
use Rattle.model.proofs.Tests.{or_neither, largest_ge}
use Rattle.model.proofs.Places.{words_fit, place_of_words, words_of_place}
use Rattle.model.proofs.Trees.Index.{ancestor, height, member_allowance}
use Rattle.model.proofs.Trees.Accepted.{Accepted, accepted}
use Rattle.model.proofs.Trees.Paths.{ancestor_home, ancestor_inner, ancestor_not_root, ancestor_parent_of, path_index, on_path_at}
use Rattle.model.proofs.Trees.Allowances.{thread_allowance, allowance_domain}
use Rattle.model.proofs.Laws.Empty.{under_domain}

-- UNDER, by index on the thread's path
module _ (t : Tree) (valid : Accepted t) (i : ℕ) (h : i < t.threads) where
  within_at : (f j k : ℕ) → j ≤ k → k ≤ height t i → k ≤ j + f → Within t (ancestor t i k) (ancestor t i j)
  within_at zero j k a b c = let z : j ≡ k = omega arith in rw z itself
  within_at (suc f) j k a b c =
      elim (ℕ_discrete j k) [
        | yes e ↦ rw e itself
        | no n ↦
            let p = ancestor_inner t valid i h j (omega arith) in
            below (ancestor t i j) (λ z. absurd (omega arith)) (rw (ancestor_parent_of t valid i h j (omega arith)) (within_at f (suc j) k (omega arith) b (omega arith)))
      ]

  path_from : (d k e : ℕ) → k ≤ height t i → ancestor t i k ≡ e → Within t d e → on_path t i d ≡ true
  path_from d k e l q itself = rw q at (on_path_at t valid i h k l)
  path_from d k e l q (below d' n w) =
      let m = ancestor_not_root t valid i h k l (omega (arith, n, q)) in
      path_from d (suc k) (t.parent e) m (sym (ancestor_parent_of t valid i h k m) ∙ ap t.parent q) w

  path_within : (d : ℕ) → on_path t i d ≡ true → Within t d (t.home i)
  path_within d e =
      let o = path_index t valid i h d e in
      rw (o.there, ancestor_home t i) at (within_at o.index 0 o.index (omega arith) o.within (omega arith))

  within_path : (d : ℕ) → Within t d (t.home i) → on_path t i d ≡ true
  within_path d w = path_from d 0 (t.home i) (omega arith) (ancestor_home t i) w

  thread_under : (j : ℕ) → j < 256 → under t j i ≡ eqb j i
  unfolding under
  thread_under j s = rw (lt-ltb j 256 s)

  reports_under : ReportsUnder t i
  reports_under =
      record {
        path = λ d. (path_within d, within_path d);
        under_thread = λ j s. (λ e. eqb-true j i (sym (thread_under j s) ∙ e), λ e. thread_under j s ∙ eq-eqb j i e);
        under_domain = λ d. (λ e. path_within d (sym (under_domain t d i) ∙ e), λ w. under_domain t d i ∙ within_path d w);
      }

pub under_law : UnderLaw
unfolding UnderLaw
under_law t ok i h = reports_under t (accepted t ok) i h

-- ALLOWANCES
-- if some number passes, one of those that pass has the largest value
record Best (n : ℕ) (p : ℕ → Bool) (f : ℕ → ℕ) : Type 0 where
  index : ℕ
  small : index < n
  passes : p index ≡ true
  value : f index ≡ largest_below n (λ c. cond (p c) (f c) 0)

none_largest : (n : ℕ) (p : ℕ → Bool) (f : ℕ → ℕ) → any_below n p ≡ false → largest_below n (λ c. cond (p c) (f c) 0) ≡ 0
unfolding any_below largest_below
none_largest zero p f e = refl
none_largest (suc n) p f e =
    let both = or_neither (any_below n p) (p n) e in
    rw (none_largest n p f both.0, both.1)

best : (n : ℕ) (p : ℕ → Bool) (f : ℕ → ℕ) → any_below n p ≡ true → Best n p f
unfolding any_below largest_below
best zero p f e = absurd (false≢true e)
best (suc n) p f e = by (p n) (any_below n p) refl refl (best n p f)
  where
    here : p n ≡ true → largest_below n (λ c. cond (p c) (f c) 0) ≤ f n → Best (suc n) p f
    here a l = record { index = n; small = omega arith; passes = a; value = rw a (omega arith) }

    before : Best n p f → cond (p n) (f n) 0 ≤ largest_below n (λ c. cond (p c) (f c) 0) → Best (suc n) p f
    before b l = record { index = b.index; small = omega (arith, b.small); passes = b.passes; value = omega (arith, b.value) }

    by : (a b : Bool) → p n ≡ a → any_below n p ≡ b → (any_below n p ≡ true → Best n p f) → Best (suc n) p f
    by true true q r lower =
        elim (dec_lt (f n) (largest_below n (λ c. cond (p c) (f c) 0))) [
          | yes l ↦ before (lower r) (rw q (omega arith))
          | no l ↦ here q (omega arith)
        ]
    by true false q r lower = here q (omega (arith, none_largest n p f r))
    by false true q r lower = before (lower r) (rw q (omega arith))
    by false false q r lower = absurd (false≢true (rw (r, q) at e))

module _ (t : Tree) (valid : Accepted t) where
  leaf_allows : (d : ℕ) → is_leaf t d ≡ true → allowance t (256 + d) ≡ t.threshold d
  unfolding member_allowance
  leaf_allows d e = allowance_domain t valid d ∙ rw e (omega arith)

  inner_allows : (d : ℕ) → is_leaf t d ≡ false → (x : LargestChild t d) × (allowance t (256 + d) ≡ t.threshold d * allowance t (256 + x.child))
  unfolding member_allowance is_leaf
  inner_allows d e =
      let b = best t.domains (is_child t d) (λ c. allowance t (256 + c)) (not-false _ e) in
      let ge : (c : ℕ) → c < t.domains → is_child t d c ≡ true → allowance t (256 + c) ≤ largest_below t.domains (λ c. cond (is_child t d c) (allowance t (256 + c)) 0) =
      λ c s k. rw k at (largest_ge t.domains (λ c. cond (is_child t d c) (allowance t (256 + c)) 0) c s) in (
        record { child = b.index; real = b.small; its_child = b.passes; largest = λ c s k. rw b.value (ge c s k) },
        allowance_domain t valid d ∙ rw (e, b.value) refl,
      )

pub allowance_law : AllowanceLaw
unfolding AllowanceLaw
allowance_law t ok =
    let valid = accepted t ok in
    record { of_thread = λ i h. thread_allowance t i (omega (arith, valid.few_threads)); of_leaf = leaf_allows t valid; of_inner = inner_allows t valid }

-- PREFIXES AND STRETCHES
take_drop : (n : ℕ) (l : List ℕ) → take n l ++ drop n l ≡ l
take_drop zero l = refl
take_drop (suc n) [] = refl
take_drop (suc n) (x ∷ l) = ap (λ r. x ∷ r) (take_drop n l)

pub prefix_law : PrefixLaw
unfolding PrefixLaw
prefix_law xs ys = (
  λ p. rw (← p.joins) (take-append_seam xs p.remainder),
  λ e. record { remainder = drop (length xs) ys; joins = rw e at (take_drop (length xs) ys) },
)

stretches_own : (t : Tree) (f : LockState) (S : List ℕ) (k : ℕ) (cs : List Call) → Stretches t f S k cs → drop k S ≡ own_entries t f S k cs
unfolding Stretches own_entries
stretches_own t f S k [] e = rw e (drop-length S)
stretches_own t f S k (c ∷ cs) e =
    let own = added c (lock_at t f S k) in
    sym (take_drop (length own) (drop k S)) ∙ rw (e.0, drop-drop (length own) k S) (ap (λ r. own ++ r) (stretches_own t f S (k + length own) cs e.1))

pub stretches_law : StretchesLaw
unfolding StretchesLaw
stretches_law t f S cs e = stretches_own t f S 0 cs e

-- REFUSED RUNS
pub refused_run_law : RefusedRunLaw
unfolding RefusedRunLaw run_reply
refused_run_law r s x c n = let e = ne_eqb r.number 0 n in (rw e, rw e, rw e, rw e, rw e, rw e)

-- PLACES
pub place_law : PlaceLaw
place_law = record { fitting = words_fit; back = place_of_words; only = words_of_place }
