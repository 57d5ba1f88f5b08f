-- The kind, row and domain of a step, decoded from the number that the run's loop reports.
use mathlib.Core.Path.{◌≡◌, sym, ap, ◌∙◌}
use mathlib.Core.Bool.{true, ◌&&◌}
use mathlib.Core.Logic.{◌≢◌}
use Prim.Native.Nat.{ℕ, ◌/◌, ◌%◌, ◌<◌}
use native.Mathlib.Omega.{arith}
use lib.ListN.{get_or}
use borrow.Author.Tests.{lt-ltb}
use Rattle.model.specs.declared.TreeWords.{TreeWords}
use Rattle.model.specs.declared.State.{State}
use Rattle.model.specs.declared.Place.{Place}
use Rattle.model.specs.declared.Place.TheVariants.{Idle, Prep, Swap, Link, Wait, Inside, Check, Help, Cas, Linger, Grant, Draw, Watch, Raise, Invalid}
use Rattle.model.specs.Scans.{all_below}
use Rattle.model.specs.Trees.{tree_of}
use Rattle.model.specs.Places.{words_of}
use Rattle.model.specs.States.{place}
use Rattle.model.specs.Steps.{kind_number, Step, step}
use Rattle.model.specs.WellFormed.{good_tail, good_next, good_status, good_place, good_watch, good_thread, good_counters, well_formed}
use Rattle.model.proofs.Laws.Form.{not_invalid}
use Rattle.model.proofs.Tests.{and_both, all_each}
use Rattle.model.proofs.Trees.Reading.{home_read, threads_read}
use Rattle.rows.specs.Common.Standing.{row_domain}
use Rattle.lock.specs.Steps.Running.{step_code}
use Rattle.rows.proofs.common.RowPlaces.{place_by_row}
use Rattle.lock.proofs.steps.SoFar.{kind_small}

-- a step is reported by its kind, its row and its domain, each in bits of its own
row_small : (p : Place) → (words_of p).row < 16
row_small Idle = omega arith
row_small (Prep l) = omega arith
row_small (Swap l) = omega arith
row_small (Link l p) = omega arith
row_small (Wait l) = omega arith
row_small Inside = omega arith
row_small (Check l) = omega arith
row_small (Help l) = omega arith
row_small (Cas l) = omega arith
row_small (Linger l) = omega arith
row_small (Grant l r w) = omega arith
row_small Draw = omega arith
row_small Watch = omega arith
row_small Raise = omega arith
row_small Invalid = omega arith

pub code_kind : (x : Step) → step_code x % 8 ≡ kind_number x.kind
unfolding step_code
code_kind x = omega (arith, kind_small x.kind)

pub code_row : (x : Step) → (step_code x / 8) % 16 ≡ (words_of x.place).row
unfolding step_code
code_row x = omega (arith, kind_small x.kind, row_small x.place)

code_domain : (x : Step) → step_code x / 128 ≡ (words_of x.place).domain
unfolding step_code
code_domain x = omega (arith, kind_small x.kind, row_small x.place)

-- the domain of a step, from the home of its thread and the number that reports it
module _ (w : TreeWords) (s : State) (i : ℕ) (form : well_formed (tree_of w) s ≡ true) (h : i < (tree_of w).threads) (small : i < 256) where
  -- the thread's place is in the step table
  place_valid : place s i ≢ Invalid
  unfolding well_formed good_thread
  place_valid =
      let t = tree_of w in
      let halves = and_both (all_below 64 (good_tail t s) && all_below 320 (good_next t s)) (all_below 320 (good_status t s) && (all_below 256 (good_thread t s) && good_counters t s)) form in
      let second = (and_both (all_below 320 (good_status t s)) (all_below 256 (good_thread t s) && good_counters t s) halves.1).1 in
      let threads = (and_both (all_below 256 (good_thread t s)) (good_counters t s) second).0 in
      let good = rw (lt-ltb i t.threads h) at (all_each 256 (good_thread t s) threads i small) in
      not_invalid t i (place s i) (and_both (good_place t i (place s i)) (good_watch t s i) good).0

  pub domain_of_code : (let c = step_code (step (tree_of w) i s) in row_domain (get_or w.homes i 0) ((c / 8) % 16) (c / 128) ≡ (step (tree_of w) i s).domain)
  unfolding step
  domain_of_code =
      let t = tree_of w in
      let x = step t i s in
      let p = place s i in
      rw (code_row x, code_domain x) (ap (λ v. row_domain v (words_of p).row (words_of p).domain) (sym (home_read w i (rw (threads_read w) at h))) ∙ place_by_row (t.home i) p place_valid)
