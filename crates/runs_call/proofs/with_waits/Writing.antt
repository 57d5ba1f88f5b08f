-- The rows of waits, stored in order from the tables.
use mathlib.Core.Path.{◌≡◌, refl, ap, ◌∙◌}
use mathlib.Core.List.{List, [], ◌∷◌, ◌++◌}
use Prim.Native.Nat.{ℕ, zero, suc, ◌+◌, ◌*◌, ◌≤◌, ◌<◌, max}
use native.Mathlib.Omega.{arith}
use native.Mathlib.Numerals.{add-one}
use lib.ListN.{get_or, length, length-append, set}
use lib.Seq.{sets, length-sets}
use Rattle.model.specs.Scans.{largest_below}
use Rattle.waits.specs.Rows.{row_with, capped}
use Rattle.runs_call.specs.WithWaits.Tallies.{table_rows, sum_below, rows_by, number_of, numbers_by}
use Rattle.runs_call.specs.WithWaits.Waiting.{Small}

-- stores in a row, and more after them
sets_join : (l xs ys : List ℕ) (at : ℕ) → sets l at (xs ++ ys) ≡ sets (sets l at xs) (at + length xs) ys
sets_join l [] ys at = let z : at + 0 ≡ at = omega arith in rw z
sets_join l (x ∷ xs) ys at = let z : at + suc (length xs) ≡ suc at + length xs = omega arith in rw z (sets_join _ xs ys (suc at))

rows_long : (k : ℕ) (A W L : List ℕ) → length (table_rows k A W L) ≡ 5 * k
unfolding table_rows row_with
rows_long zero A W L = refl
rows_long (suc k) A W L = length-append (table_rows k A W L) (row_with (get_or A k 0) (get_or W k 0) (get_or L k 0)) ∙ (let e = rows_long k A W L in omega arith)

-- capping one summand first does not change a capped sum
capped_twice : (a b : ℕ) → capped (capped a + b) ≡ capped (a + b)
unfolding capped
capped_twice a b = omega arith

-- the rows of the first k threads are stored, and their sums are known
pub record Written (threads : ℕ) (A W L before now : List ℕ) (k at attempts totals most : ℕ) : Type 0 where
  pub within : k ≤ threads
  pub place : at ≡ 5 * k
  pub stored : now ≡ sets before 0 (table_rows k A W L)
  pub attempts_add : attempts ≡ sum_below k A
  pub totals_add : totals ≡ capped (sum_below k W)
  pub largest_is : most ≡ largest_below k (λ i. get_or L i 0)
  pub attempts_small : attempts ≤ 65536 * k

pub written_start : (threads : ℕ) (A W L b : List ℕ) → Written threads A W L b b 0 0 0 0 0
unfolding table_rows sum_below largest_below capped
written_start threads A W L b =
    record {
      within = omega arith;
      place = refl;
      stored = refl;
      attempts_add = refl;
      totals_add = refl;
      largest_is = refl;
      attempts_small = omega arith;
    }

module _ (threads : ℕ) (A W L b l : List ℕ) (k at a w m : ℕ) (S : Written threads A W L b l k at a w m) where
  pub long : length l ≡ length b
  long = ap length S.stored ∙ length-sets b 0 (table_rows k A W L)

  -- one more row fits
  pub row_room : 5 * (threads + 1) ≤ length b → at + 5 ≤ length l
  row_room h = omega (arith, S.place, S.within, long)

  written_next :
      k < threads → threads ≤ 256 → Small A → (l' : List ℕ) → l' ≡ sets l at (row_with (get_or A k 0) (get_or W k 0) (get_or L k 0)) → (w' m' : ℕ) → w' ≡ capped (w + get_or W k 0) →
      m' ≡ max m (get_or L k 0) → Written threads A W L b l' (k + 1) (at + 5) (a + get_or A k 0) w' m'
  unfolding table_rows sum_below largest_below
  written_next h few sa l' e w' m' ew em =
      let z : k + 1 ≡ suc k = add-one k in
      let place : 0 + length (table_rows k A W L) ≡ at = omega (arith, rows_long k A W L, S.place) in
      let x = sa.small k (omega arith) in
      record {
        within = omega arith;
        place = omega (arith, S.place);
        stored =
            e ∙ ap (λ (r : List ℕ). sets r at (row_with (get_or A k 0) (get_or W k 0) (get_or L k 0))) S.stored
            ∙ rw (z, sets_join b (table_rows k A W L) (row_with (get_or A k 0) (get_or W k 0) (get_or L k 0)) 0, place);
        attempts_add = rw z (ap (λ v. v + get_or A k 0) S.attempts_add);
        totals_add = rw z (ew ∙ ap (λ v. capped (v + get_or W k 0)) S.totals_add ∙ capped_twice (sum_below k W) (get_or W k 0));
        largest_is = rw z (em ∙ ap (λ v. max v (get_or L k 0)) S.largest_is);
        attempts_small = omega (arith, S.attempts_small);
      }

  -- the same with the numbers that the code has read
  pub written_turn :
      k < threads → threads ≤ 256 → Small A → (va vw vl : ℕ) → va ≡ get_or A k 0 → vw ≡ get_or W k 0 → vl ≡ get_or L k 0 → (l' : List ℕ) → l' ≡ sets l at (row_with va vw vl) →
      (w' m' : ℕ) → w' ≡ capped (w + vw) → m' ≡ max m vl → Written threads A W L b l' (k + 1) (at + 5) (a + va) w' m'
  written_turn h few sa va vw vl ea ev el l' e w' m' ew em =
      rw ea (written_next h few sa l' (e ∙ rw (ea, ev, el) refl) w' m' (ew ∙ ap (λ v. capped (w + v)) ev) (em ∙ ap (max m) el))

  pub written_ends : threads ≤ k → (l' : List ℕ) → l' ≡ sets l at (row_with a w m) → l' ≡ sets b 0 (rows_by threads A W L)
  unfolding rows_by
  written_ends h l' e =
      let all : k ≡ threads = omega (arith, S.within) in
      let place : 0 + length (table_rows k A W L) ≡ at = omega (arith, rows_long k A W L, S.place) in
      e ∙ ap (λ (r : List ℕ). sets r at (row_with a w m)) S.stored
      ∙ rw (sets_join b (table_rows threads A W L) (row_with (sum_below threads A) (capped (sum_below threads W)) (largest_below threads (λ i. get_or L i 0))) 0, ← all, place, ← S.attempts_add, ← S.totals_add, ← S.largest_is)

-- THE NUMBERS, stored in order from the marks
numbers_long : (k n : ℕ) (M : List ℕ) → length (numbers_by k n M) ≡ k
unfolding numbers_by
numbers_long zero n M = refl
numbers_long (suc k) n M = length-append (numbers_by k n M) (number_of n (get_or M k 0) ∷ []) ∙ (let e = numbers_long k n M in omega arith)

pub record Numbered (threads n : ℕ) (M before now : List ℕ) (k : ℕ) : Type 0 where
  pub within : k ≤ threads
  pub stored : now ≡ sets before 0 (numbers_by k n M)

pub numbered_start : (threads n : ℕ) (M b : List ℕ) → Numbered threads n M b b 0
unfolding numbers_by
numbered_start threads n M b = record { within = omega arith; stored = refl }

module _ (threads n : ℕ) (M b l : List ℕ) (k : ℕ) (S : Numbered threads n M b l k) where
  pub numbered_turn : k < threads → (v : ℕ) → v ≡ number_of n (get_or M k 0) → Numbered threads n M b (set l k v) (k + 1)
  unfolding numbers_by
  numbered_turn h v e =
      let z : k + 1 ≡ suc k = add-one k in
      let place : 0 + length (numbers_by k n M) ≡ k = omega (arith, numbers_long k n M) in
      record {
        within = omega arith;
        stored = rw (z, e, S.stored, sets_join b (numbers_by k n M) (number_of n (get_or M k 0) ∷ []) 0, place);
      }

  pub numbered_ends : threads ≤ k → l ≡ sets b 0 (numbers_by threads n M)
  numbered_ends h = let all : k ≡ threads = omega (arith, S.within) in rw (← all) S.stored
