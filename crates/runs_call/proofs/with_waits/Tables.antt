-- The tables of all threads, step by step, and the rows that they give.
use mathlib.Core.Path.{◌≡◌, refl, sym, ap, ◌∙◌}
use mathlib.Core.Bool.{Bool, true, false, cond}
use mathlib.Core.List.{List, [], ◌∷◌, ◌++◌}
use mathlib.Core.Logic.{◌≢◌, ⊎_elim}
use Prim.Native.Nat.{ℕ, zero, suc, ◌+◌, ◌≤◌, ◌<◌, max}
use native.Mathlib.Omega.{arith}
use native.Mathlib.Decide.{ℕ_discrete}
use lib.ListN.{length, get_or, set, replicate, get_or-replicate, length-append, length-set, length-replicate}
use lib.Seq.{get_or-set_same, get_or-set_other}
use Rattle.model.specs.Trees.{Tree}
use Rattle.model.specs.Scans.{largest_below}
use Rattle.model.specs.Steps.{is_entry, Step}
use Rattle.model.specs.Runs.{how_many}
use Rattle.schedules.specs.Rows.{total}
use Rattle.waits.specs.Attempts.{begins_from, waits_from, under_way_from, waits_below_from, under_way_below}
use Rattle.waits.specs.Rows.{largest, row_of, rows_below_from, row_of_all, all_rows_from}
use Rattle.runs_call.specs.WithWaits.Tallies.{first, mark_with, mark_of, finishes, wait_of, noted, Tallied, Tallies, table_rows, sum_below, rows_by, numbers_by}
use Rattle.waits.proofs.Sums.{total_join, largest_join}
use Rattle.waits.proofs.Bounds.{bounded}
use Rattle.runs_call.specs.WithWaits.Waiting.{mark_at, MarksOf, HandedIn}
use Rattle.runs_call.proofs.with_waits.Tallying.{marked_first, number_reported, counted_next, other_turn, own_turn}

-- A TABLE with another number at an index
noted_there : (b : Bool) (l : List ℕ) (k v : ℕ) → k < length l → get_or (noted b l k v) k 0 ≡ cond b v (get_or l k 0)
noted_there true l k v h = get_or-set_same l k v 0 h
noted_there false l k v h = refl

noted_long : (b : Bool) (l : List ℕ) (k v : ℕ) → length (noted b l k v) ≡ length l
noted_long true l k v = length-set l k v
noted_long false l k v = refl

noted_elsewhere : (b : Bool) (l : List ℕ) (k v j : ℕ) → j ≢ k → get_or (noted b l k v) j 0 ≡ get_or l j 0
noted_elsewhere true l k v j n = get_or-set_other l k j v 0 n
noted_elsewhere false l k v j n = refl

-- ONE MORE STEP, if the tables have a slot for its thread
module _ (t : Tree) (us : List ℕ) (xs : List Step) (M A W L : List ℕ) (n : ℕ) (T : Tallies t us xs M A W L n) (x : Step) (at : ℕ) (mine : x.thread ≡ at) (small : at < 256)
    (b e : Bool) (f : begins_from t at x.place ≡ b) (g : is_entry x.kind ≡ e) where
  abbrev mark : ℕ
  mark = mark_with b n (get_or M at 0)

  abbrev done : Bool
  done = finishes e mark

  pub turn :
      (M' A' W' L' : List ℕ) → M' ≡ set M at (cond e 0 mark) → A' ≡ noted done A at (get_or A at 0 + 1) → W' ≡ noted done W at (get_or W at 0 + wait_of n mark) →
      L' ≡ noted done L at (max (get_or L at 0) (wait_of n mark)) → Tallies t us (xs ++ (x ∷ [])) M' A' W' L' (n + cond e 1 0)
  turn M' A' W' L' em ea ew el =
      record {
        rooms = (
          ap length em ∙ length-set M at (cond e 0 mark) ∙ T.rooms.0,
          (
            ap length ea ∙ noted_long done A at (get_or A at 0 + 1) ∙ T.rooms.1.0,
            (
              ap length ew ∙ noted_long done W at (get_or W at 0 + wait_of n mark) ∙ T.rooms.1.1.0,
              ap length el ∙ noted_long done L at (max (get_or L at 0) (wait_of n mark)) ∙ T.rooms.1.1.1,
            ),
          ),
        );
        entered_are = rw (counted_next t at (get_or us at 0) xs x, g) (ap (λ v. v + cond e 1 0) T.entered_are);
        small = T.small;
        each = λ i h. elim (ℕ_discrete i at) [
          | yes z ↦ rw z own
          | no z ↦
              rw (
                em,
                ea,
                ew,
                el,
                noted_elsewhere true M at (cond e 0 mark) i z,
                noted_elsewhere done A at (get_or A at 0 + 1) i z,
                noted_elsewhere done W at (get_or W at 0 + wait_of n mark) i z,
                noted_elsewhere done L at (max (get_or L at 0) (wait_of n mark)) i z,
              )
              (other_turn t i (get_or us i 0) xs x _ _ _ _ (λ q. z (sym q ∙ mine)) (T.each i h))
        ];
      }
    where
      own : Tallied t (get_or us at 0) (xs ++ (x ∷ [])) at (get_or M' at 0) (get_or A' at 0) (get_or W' at 0) (get_or L' at 0)
      own =
          let o = T.each at small in
          let r = T.rooms in
          rw (
            em,
            ea,
            ew,
            el,
            noted_there true M at (cond e 0 mark) (omega (arith, r.0)),
            noted_there done A at (get_or A at 0 + 1) (omega (arith, r.1.0)),
            noted_there done W at (get_or W at 0 + wait_of n mark) (omega (arith, r.1.1.0)),
            noted_there done L at (max (get_or L at 0) (wait_of n mark)) (omega (arith, r.1.1.1)),
            T.entered_are,
          )
          (own_turn t at (get_or us at 0) xs x mine _ _ _ _ o b e f g (under_way_from t at (get_or us at 0) xs) refl o.marked)

-- WHAT THE CODE NEEDS so that no number overflows, after a number of steps
module _ (t : Tree) (us : List ℕ) (xs : List Step) (M A W L : List ℕ) (n : ℕ) (T : Tallies t us xs M A W L n) where
  pub mark_small : (at : ℕ) → at < 256 → get_or M at 0 ≤ n + 1
  mark_small at h = let q = T.entered_are in ⊎_elim (λ z. omega (arith, z.1)) (λ z. omega (arith, z.0, z.1.0)) (T.each at h).marked

  pub attempts_small : (at : ℕ) → at < 256 → get_or A at 0 + first ≤ n
  attempts_small at h = let o = T.each at h in omega (arith, o.attempts_are, T.entered_are, (bounded t at (get_or us at 0) xs).0)

  pub total_small : n ≤ first + 65536 → (at : ℕ) → at < 256 → (begins : Bool) → mark_at M at n begins ≢ 0 → get_or W at 0 + wait_of n (mark_at M at n begins) ≤ 18446744073709551615
  total_small few at h true z =
      let o = T.each at h in
      omega (arith, o.total_is, T.entered_are, few, T.small at h, (bounded t at (get_or us at 0) xs).1.0)
  total_small few at h false z =
      let o = T.each at h in
      let b = (bounded t at (get_or us at 0) xs).1.0 in
      ⊎_elim (λ y. absurd (z y.1)) (λ y. omega (arith, y.0, y.1.0, o.total_is, T.entered_are, few, T.small at h, b)) o.marked

-- AT THE START the tables are 0, except for the marks of the given numbers
zeros : (i : ℕ) → i < 256 → get_or {A = ℕ} (replicate 256 0) i 0 ≡ 0
zeros i h = get_or-replicate 256 i 0 0 h

pub start : (t : Tree) (us M : List ℕ) → HandedIn us → MarksOf us M → Tallies t us [] M (replicate 256 0) (replicate 256 0) (replicate 256 0) first
unfolding waits_from under_way_from total largest how_many
start t us M H K =
    record { rooms = (K.long, (long, (long, long))); entered_are = omega arith; small = H.small; each = λ i h. rw (zeros i h, K.each i h) (none i h) }
  where
    long : length {A = ℕ} (replicate 256 0) ≡ 256
    long = length-replicate {A = ℕ} 256 0

    none : (i : ℕ) → i < 256 → Tallied t (get_or us i 0) [] i (mark_of (get_or us i 0)) 0 0 0
    none i h = record { attempts_are = refl; total_is = refl; largest_is = refl; marked = marked_first (get_or us i 0) (H.small i h) }

-- AT THE END the tables give the rows of the waits, and the marks the numbers
module _ (t : Tree) (us : List ℕ) (xs : List Step) (M A W L : List ℕ) (n : ℕ) (T : Tallies t us xs M A W L n) where
  abbrev ws : ℕ → List ℕ
  ws k = waits_from t k (get_or us k 0) xs

  rows_are : (k : ℕ) → k ≤ 256 → table_rows k A W L ≡ rows_below_from t us k xs
  unfolding table_rows rows_below_from row_of
  rows_are zero h = refl
  rows_are (suc k) h =
      let o = T.each k (omega arith) in
      rw (rows_are k (omega arith), o.attempts_are, o.total_is, o.largest_is)

  attempts_add : (k : ℕ) → k ≤ 256 → sum_below k A ≡ length (waits_below_from t us k xs)
  unfolding sum_below waits_below_from
  attempts_add zero h = refl
  attempts_add (suc k) h = rw (attempts_add k (omega arith), (T.each k (omega arith)).attempts_are) (sym (length-append (waits_below_from t us k xs) (ws k)))

  totals_add : (k : ℕ) → k ≤ 256 → sum_below k W ≡ total (waits_below_from t us k xs)
  unfolding sum_below waits_below_from total
  totals_add zero h = refl
  totals_add (suc k) h = rw (totals_add k (omega arith), (T.each k (omega arith)).total_is) (sym (total_join (waits_below_from t us k xs) (ws k)))

  largest_of : (k : ℕ) → k ≤ 256 → largest_below k (λ i. get_or L i 0) ≡ largest (waits_below_from t us k xs)
  unfolding largest_below waits_below_from largest
  largest_of zero h = refl
  largest_of (suc k) h = rw (largest_of k (omega arith), (T.each k (omega arith)).largest_is) (sym (largest_join (waits_below_from t us k xs) (ws k)))

  pub rows_end : t.threads ≤ 256 → rows_by t.threads A W L ≡ all_rows_from t us xs
  unfolding rows_by all_rows_from row_of_all
  rows_end h = rw (rows_are t.threads h, attempts_add t.threads h, totals_add t.threads h, largest_of t.threads h)

  pub numbers_end : (k : ℕ) → k ≤ 256 → numbers_by k n M ≡ under_way_below t us k xs
  unfolding numbers_by under_way_below
  numbers_end zero h = refl
  numbers_end (suc k) h =
      rw (numbers_end k (omega arith), T.entered_are, number_reported _ (under_way_from t k (get_or us k 0) xs) (get_or M k 0) (T.each k (omega arith)).marked)
