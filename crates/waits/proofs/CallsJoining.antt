-- Two consecutive calls give the same as one call on the joined schedule.
use mathlib.Core.Path.{◌≡◌, refl, sym, ap, ◌∙◌}
use mathlib.Core.List.{List, ◌++◌}
use Prim.Native.Nat.{ℕ, zero, suc, ◌+◌, ◌-◌, ◌≤◌, ◌<◌, max}
use native.Mathlib.Omega.{arith}
use lib.ListN.{length, get_or, replicate, length-append}
use borrow.Author.Tests.{eq-eqb}
use Rattle.model.specs.declared.TreeWords.{TreeWords}
use Rattle.model.specs.declared.LockState.{LockState}
use Rattle.model.specs.Trees.{Tree, tree_of}
use Rattle.model.specs.Steps.{Step}
use Rattle.model.specs.Runs.{steps, state_after, run_of, run}
use Rattle.model.specs.Counters.{lock_state, counters_after}
use Rattle.model.specs.Answers.{counters_after_run, run_reply}
use Rattle.model.proofs.Counted.{counters_join}
use Rattle.model.proofs.Laws.Runs.{steps_join, state_after_join}
use Rattle.schedules.specs.Rows.{total}
use Rattle.waits.specs.Attempts.{waits_from, under_way_from, waits_below_from, under_way_below}
use Rattle.waits.specs.Rows.{largest, row_with, row_of, capped, row_of_all}
use Rattle.waits.specs.Answers.{waits_reply, refused_on, waits_on_answer, waits_on_rows}
use Rattle.waits.specs.Laws.{row_at}
use Rattle.waits.specs.GoingOn.{joined_row, joined_last_row, left_by, CallsJoin, WaitsJoinLaw, RowOnLaw}
use Rattle.waits.proofs.Sums.{total_join, largest_join}
use Rattle.waits.proofs.Joining.{under_way_join, waits_join}
use Rattle.waits.proofs.BuffersOn.{numbers_accepted, last_row, row_on_law}

-- ROWS of waits and more waits
row_joined : (ws vs : List ℕ) → row_of (ws ++ vs) ≡ joined_row (row_of ws) (row_of vs)
unfolding row_of row_with
row_joined ws vs = rw (length-append ws vs, total_join ws vs, largest_join ws vs)

capped_both : (a b : ℕ) → capped (a + b) ≡ capped (capped a + capped b)
unfolding capped
capped_both a b = omega arith

-- ALL THREADS; the second call starts with the numbers that the first left
module _ (t : Tree) (us us' : List ℕ) (xs ys : List Step) (n : ℕ) (handed_on : (i : ℕ) → i < n → get_or us' i 0 ≡ under_way_from t i (get_or us i 0) xs) where
  thread_joined : (i : ℕ) → i < n → waits_from t i (get_or us i 0) (xs ++ ys) ≡ waits_from t i (get_or us i 0) xs ++ waits_from t i (get_or us' i 0) ys
  thread_joined i h = waits_join t i (get_or us i 0) xs ys ∙ ap (λ a. waits_from t i (get_or us i 0) xs ++ waits_from t i a ys) (sym (handed_on i h))

  -- length, total and largest of the waits, from those of the two calls
  lengths_joined : (k : ℕ) → k ≤ n → length (waits_below_from t us k (xs ++ ys)) ≡ length (waits_below_from t us k xs) + length (waits_below_from t us' k ys)
  unfolding waits_below_from
  lengths_joined zero h = refl
  lengths_joined (suc k) h =
      let ws = waits_from t k (get_or us k 0) xs in
      let vs = waits_from t k (get_or us' k 0) ys in
      length-append (waits_below_from t us k (xs ++ ys)) (waits_from t k (get_or us k 0) (xs ++ ys))
      ∙ omega (
        arith,
        lengths_joined k (omega arith),
        ap length (thread_joined k (omega arith)),
        length-append ws vs,
        length-append (waits_below_from t us k xs) ws,
        length-append (waits_below_from t us' k ys) vs,
      )

  totals_joined : (k : ℕ) → k ≤ n → total (waits_below_from t us k (xs ++ ys)) ≡ total (waits_below_from t us k xs) + total (waits_below_from t us' k ys)
  unfolding waits_below_from total
  totals_joined zero h = refl
  totals_joined (suc k) h =
      let ws = waits_from t k (get_or us k 0) xs in
      let vs = waits_from t k (get_or us' k 0) ys in
      total_join (waits_below_from t us k (xs ++ ys)) (waits_from t k (get_or us k 0) (xs ++ ys))
      ∙ omega (
        arith,
        totals_joined k (omega arith),
        ap total (thread_joined k (omega arith)),
        total_join ws vs,
        total_join (waits_below_from t us k xs) ws,
        total_join (waits_below_from t us' k ys) vs,
      )

  largest_joined : (k : ℕ) → k ≤ n → largest (waits_below_from t us k (xs ++ ys)) ≡ max (largest (waits_below_from t us k xs)) (largest (waits_below_from t us' k ys))
  unfolding waits_below_from largest
  largest_joined zero h = refl
  largest_joined (suc k) h =
      let ws = waits_from t k (get_or us k 0) xs in
      let vs = waits_from t k (get_or us' k 0) ys in
      largest_join (waits_below_from t us k (xs ++ ys)) (waits_from t k (get_or us k 0) (xs ++ ys))
      ∙ omega (
        arith,
        largest_joined k (omega arith),
        ap largest (thread_joined k (omega arith)),
        largest_join ws vs,
        largest_join (waits_below_from t us k xs) ws,
        largest_join (waits_below_from t us' k ys) vs,
      )

  last_joined : row_of_all (waits_below_from t us n (xs ++ ys)) ≡ joined_last_row (row_of_all (waits_below_from t us n xs)) (row_of_all (waits_below_from t us' n ys))
  unfolding row_of_all row_with
  last_joined =
      rw (
        lengths_joined n (omega arith),
        totals_joined n (omega arith),
        largest_joined n (omega arith),
        capped_both (total (waits_below_from t us n xs)) (total (waits_below_from t us' n ys)),
      )

  numbers_joined : (k : ℕ) → k ≤ n → under_way_below t us k (xs ++ ys) ≡ under_way_below t us' k ys
  unfolding under_way_below
  numbers_joined zero h = refl
  numbers_joined (suc k) h = rw (numbers_joined k (omega arith), under_way_join t k (get_or us k 0) xs ys, handed_on k (omega arith))

-- AN ACCEPTED CALL leaves the state after its steps
left_state : (w : TreeWords) (s : LockState) (is b rs us : List ℕ) → (refused_on w s is b rs us).number ≡ 0 → (left_by w s is b rs us).state ≡ lock_state (state_after s.words (steps (tree_of w) is s.words)) (counters_after (tree_of w) s.counters (steps (tree_of w) is s.words))
unfolding waits_on_answer waits_reply run_reply run run_of counters_after_run
left_state w s is b rs us e = rw (eq-eqb (refused_on w s is b rs us).number 0 e)

module _ (w : TreeWords) (s : LockState) (is js b rs b' rs' b'' rs'' us : List ℕ) (e : (refused_on w s is b rs us).number ≡ 0) where
  abbrev t : Tree
  t = tree_of w

  abbrev s' : LockState
  s' = (left_by w s is b rs us).state

  abbrev us' : List ℕ
  us' = (left_by w s is b rs us).under_way

  abbrev xs : List Step
  xs = steps t is s.words

  abbrev ys : List Step
  ys = steps t js s'.words

  both : steps t (is ++ js) s.words ≡ xs ++ ys
  both = steps_join t is js s.words ∙ ap (λ v. xs ++ steps t js v.words) (sym (left_state w s is b rs us e))

  handed : (i : ℕ) → i < t.threads → get_or us' i 0 ≡ under_way_from t i (get_or us i 0) xs
  unfolding RowOnLaw
  handed = (row_on_law w s is b rs us e).number

  module _ (f : (refused_on w s' js b' rs' us').number ≡ 0) (g : (refused_on w s (is ++ js) b'' rs'' us).number ≡ 0) where
    states : (left_by w s (is ++ js) b'' rs'' us).state ≡ (left_by w s' js b' rs' us').state
    states =
        let e' = left_state w s is b rs us e in
        left_state w s (is ++ js) b'' rs'' us g ∙ rw both (rw (state_after_join s.words xs ys, counters_join t s.counters xs ys))
        ∙ ap (λ v. lock_state (state_after v.words ys) (counters_after t v.counters ys)) (sym e') ∙ sym (left_state w s' js b' rs' us' f)

    calls : CallsJoin t.threads (left_by w s is b rs us) (left_by w s' js b' rs' us') (left_by w s (is ++ js) b'' rs'' us)
    unfolding RowOnLaw
    calls =
        let n = t.threads in
        let first = row_on_law w s is b rs us e in
        let second = row_on_law w s' js b' rs' us' f in
        let whole = row_on_law w s (is ++ js) b'' rs'' us g in
        record {
          of_thread = λ i h.
              whole.of_thread i h ∙ ap (λ v. row_of (waits_from t i (get_or us i 0) v)) both ∙ ap row_of (thread_joined t us us' xs ys n handed i h)
              ∙ row_joined (waits_from t i (get_or us i 0) xs) (waits_from t i (get_or us' i 0) ys)
              ∙ sym (ap (λ r. joined_row r (row_of (waits_from t i (get_or us' i 0) ys))) (first.of_thread i h))
              ∙ sym (ap (joined_row (row_at i (waits_on_rows w s is b rs us))) (second.of_thread i h));
          of_all =
              last_row w s (is ++ js) b'' rs'' us g ∙ ap (λ v. row_of_all (waits_below_from t us n v)) both ∙ last_joined t us us' xs ys n handed
              ∙ sym (ap (λ r. joined_last_row r (row_of_all (waits_below_from t us' n ys))) (last_row w s is b rs us e))
              ∙ sym (ap (joined_last_row (row_at n (waits_on_rows w s is b rs us))) (last_row w s' js b' rs' us' f));
          under_way =
              numbers_accepted w s (is ++ js) b'' rs'' us g ∙ ap (λ v. under_way_below t us n v ++ replicate (256 - n) 0) both
              ∙ ap (λ v. v ++ replicate (256 - n) 0) (numbers_joined t us us' xs ys n handed n (omega arith)) ∙ sym (numbers_accepted w s' js b' rs' us' f);
          state = states;
        }

pub waits_join_law : WaitsJoinLaw
unfolding WaitsJoinLaw
waits_join_law w s is js b rs b' rs' b'' rs'' us e f g = calls w s is js b rs b' rs' b'' rs'' us e f g
