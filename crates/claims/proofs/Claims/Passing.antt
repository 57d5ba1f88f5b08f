-- Below the root the lock is passed on only if the threshold is at least 2.
use mathlib.Core.Path.{◌≡◌, refl, sym, ap, ◌∙◌}
use mathlib.Core.Bool.{Bool, true, false, ◌&&◌, not, false≢true}
use mathlib.Core.List.{List, [], ◌∷◌, ◌++◌}
use mathlib.Core.Logic.{◌≢◌}
use Prim.Native.Nat.{ℕ, suc, ◌≤◌, ◌<◌}
use native.Mathlib.Omega.{arith}
use lib.Dec.{eqb}
use borrow.Author.Tests.{ne_eqb, eqb-false}
use Rattle.model.specs.declared.Place.{Place}
use Rattle.model.specs.declared.Place.TheVariants.{Idle, Prep, Swap, Link, Wait, Inside, Check, Help, Cas, Linger, Grant, Draw, Watch, Raise, Invalid}
use Rattle.model.specs.declared.State.{State as WordState}
use Rattle.model.specs.Trees.{Tree, own_record}
use Rattle.model.specs.States.{acquire_parent, wait_word, status, place, fresh_state}
use Rattle.model.specs.Steps.{is_entry, wait_row, row, step}
use Rattle.model.specs.Runs.{steps, state_after, run_of, run}
use Rattle.model.specs.Refusals.{tree_refusal}
use Rattle.model.specs.Laws.{AllThreads, SixteenBit, FromFresh, then_run, waits_below, entries_from_below, PassedLaw}
use Rattle.claims.specs.Reached.{PassingLaw, ThresholdOneLaw}
use Rattle.model.proofs.Tests.{and_false}
use Rattle.model.proofs.Waiting.{ungranted_row, acquiring_row}
use Rattle.model.proofs.Trees.Index.{ancestor, height, record_at}
use Rattle.model.proofs.Trees.Accepted.{Accepted, accepted}
use Rattle.model.proofs.Trees.Paths.{ancestor_not_root}
use Rattle.model.proofs.Trees.Records.{own_record_at}
use Rattle.claims.proofs.Queues.Moves.{low}
use Rattle.claims.proofs.Words.View.{Words, words_in}
use Rattle.claims.proofs.Words.Represents.{waiting_word}
use Rattle.claims.proofs.Words.Says.{Waiting, stands, woken, granted, At, Says, says_at}
use Rattle.model.proofs.Laws.Runs.{run_join}
use Rattle.model.proofs.Laws.Passed.{passed_law}
use Rattle.model.proofs.Laws.FromFresh.{left_from_fresh}
use Rattle.claims.proofs.Claims.Reached.{Queued, queued_from_fresh, threads_join}

module _ (t : Tree) (valid : Accepted t) (s : WordState) (q : Queued t s) (i l : ℕ) (h : i < t.threads) (n : l ≢ 0) where
  abbrev w : Words
  w = words_in s

  own : (k : ℕ) → k ≤ height t i → l ≡ ancestor t i k → own_record t i l ≡ record_at t i k
  own k b z = ap (own_record t i) z ∙ own_record_at t valid i h k b

  -- if the status stays or is ACQUIRE_PARENT, the step is no entry
  stays_out : status s (own_record t i l) ≡ wait_word → is_entry (wait_row t i l s).kind ≡ false
  unfolding is_entry
  stays_out v = rw (ungranted_row t i s l (rw (ne_eqb l 0 n) v))

  climbs : status s (own_record t i l) ≡ acquire_parent → is_entry (wait_row t i l s).kind ≡ false
  unfolding is_entry
  climbs v = rw (acquiring_row t i s l n v)

  enough : (k : ℕ) → At t i l k → Waiting t w q.queues i k (q.queues.stage i) → is_entry (wait_row t i l s).kind ≡ true → 2 ≤ t.threshold l
  unfolding words_in low
  enough k (z, b) (stands y v) e = absurd (false≢true (sym (stays_out (ap (status s) (own k b z) ∙ v ∙ ap waiting_word (sym z) ∙ rw (ne_eqb l 0 n))) ∙ e))
  enough k (z, b) (woken o y v) e = absurd (false≢true (sym (climbs (ap (status s) (own k b z) ∙ v)) ∙ e))
  enough k (z, b) (granted r v p) e =
      let inv = q.represents.invariant in
      let inner : ancestor t i k ≢ 0 = λ y. n (z ∙ y) in
      let below : k < height t i = ancestor_not_root t valid i h k b (omega (arith, inner)) in
      let all : low (height t i) (q.queues.stage i) ≡ suc (height t i) = ap (low (height t i)) r in
      let limit = (inv.counts (ancestor t i k) (record_at t i k) inner ((inv.threads i).heads k (omega arith))).1 in
      rw z (omega (arith, (p below).1, limit))

pub passing_law : PassingLaw
unfolding PassingLaw step row words_in Says
passing_law t s f i l h e n entry =
    let q = queued_from_fresh t s f in
    let x : Says t (words_in s) q.queues i (Wait l) (q.queues.stage i) = says_at e (q.represents.fits i h) in
    enough t (accepted t f.fresh_run.tree_accepted) s q i l h n x.0 x.1 x.2 (rw e at entry)

-- ALL THRESHOLDS 1
-- one more entry after a schedule
after_one : (t : Tree) (f : WordState) (pre : List ℕ) (i : ℕ) → (run t (pre ++ (i ∷ [])) f).state ≡ (step t i (run t pre f).state).state
unfolding then_run run run_of steps state_after
after_one t f pre i = ap (λ x. x.state) (run_join t pre (i ∷ []) f)

module _ (t : Tree) (ok : (tree_refusal t).number ≡ 0) (ones : (d : ℕ) → t.threshold d ≤ 1) (v : ℕ) where
  abbrev f : WordState
  f = fresh_state t v

  sixteen : SixteenBit t
  sixteen d = omega (arith, ones d)

  reached_by : (pre : List ℕ) → AllThreads t pre → FromFresh t (run t pre f).state
  reached_by pre all = left_from_fresh t v pre (record { sixteen_bit = sixteen; tree_accepted = ok; threads = all })

  -- no step from a state reached from fresh is an entry from Wait below the root
  none_below : (pre : List ℕ) → AllThreads t pre → (i : ℕ) → i < t.threads → (p : Place) → place (run t pre f).state i ≡ p →
      is_entry (step t i (run t pre f).state).kind && waits_below p ≡ false
  unfolding waits_below PassingLaw
  none_below pre all i h (Wait l) e = by (eqb l 0) (is_entry (step t i (run t pre f).state).kind) refl refl
    where
      by : (b c : Bool) → eqb l 0 ≡ b → is_entry (step t i (run t pre f).state).kind ≡ c → c && not b ≡ false
      by true true z y = refl
      by true false z y = refl
      by false false z y = refl
      by false true z y = absurd (let two = passing_law t (run t pre f).state (reached_by pre all) i l h e (eqb-false l 0 z) y in omega (arith, ones l))
  none_below pre all i h Idle e = and_false (is_entry (step t i (run t pre f).state).kind)
  none_below pre all i h (Prep l) e = and_false (is_entry (step t i (run t pre f).state).kind)
  none_below pre all i h (Swap l) e = and_false (is_entry (step t i (run t pre f).state).kind)
  none_below pre all i h (Link l p) e = and_false (is_entry (step t i (run t pre f).state).kind)
  none_below pre all i h Inside e = and_false (is_entry (step t i (run t pre f).state).kind)
  none_below pre all i h (Check l) e = and_false (is_entry (step t i (run t pre f).state).kind)
  none_below pre all i h (Help l) e = and_false (is_entry (step t i (run t pre f).state).kind)
  none_below pre all i h (Cas l) e = and_false (is_entry (step t i (run t pre f).state).kind)
  none_below pre all i h (Linger l) e = and_false (is_entry (step t i (run t pre f).state).kind)
  none_below pre all i h (Grant l r w) e = and_false (is_entry (step t i (run t pre f).state).kind)
  none_below pre all i h Draw e = and_false (is_entry (step t i (run t pre f).state).kind)
  none_below pre all i h Watch e = and_false (is_entry (step t i (run t pre f).state).kind)
  none_below pre all i h Raise e = and_false (is_entry (step t i (run t pre f).state).kind)
  none_below pre all i h Invalid e = and_false (is_entry (step t i (run t pre f).state).kind)

  step_none : (pre : List ℕ) → AllThreads t pre → (i : ℕ) → i < t.threads →
      is_entry (step t i (run t pre f).state).kind && waits_below (step t i (run t pre f).state).place ≡ false
  unfolding step
  step_none pre all i h = none_below pre all i h (place (run t pre f).state i) refl

  along : (pre is : List ℕ) → AllThreads t pre → AllThreads t is → entries_from_below (steps t is (run t pre f).state) ≡ 0
  unfolding steps entries_from_below AllThreads
  along pre [] all later = refl
  along pre (i ∷ is) all later =
      let s = (run t pre f).state in
      let x = step t i s in
      let next : (run t (pre ++ (i ∷ [])) f).state ≡ x.state = after_one t f pre i in
      let rest : entries_from_below (steps t is x.state) ≡ 0 = rw next at (along (pre ++ (i ∷ [])) is (threads_join t pre (i ∷ []) all (later.0, tt)) later.1) in
      rw (step_none pre all i later.0) (omega (arith, rest))

  pub fresh_none : (is : List ℕ) → AllThreads t is → entries_from_below (steps t is f) ≡ 0
  unfolding run run_of steps state_after AllThreads
  fresh_none is all = along [] is tt all

pub threshold_one_law : ThresholdOneLaw
unfolding ThresholdOneLaw PassedLaw
threshold_one_law t ok ones v is all =
    let none = fresh_none t ok ones v is all in
    let both = passed_law t is (fresh_state t v) in
    (omega arith, omega arith)
