-- THE THIRD DEMAND, proved.
use mathlib.Core.Path.{◌≡◌}
use mathlib.Core.List.{List, []}
use Prim.Native.Nat.{ℕ}
use lib.ListN.{take}
use Rattle.model.specs.declared.LockState.{LockState}
use Rattle.model.specs.Trees.{Tree, tree_of}
use Rattle.model.specs.States.{fresh_state}
use Rattle.model.specs.Runs.{steps, run_of, run}
use Rattle.model.specs.Counters.{lock_state, fresh_counters}
use Rattle.model.specs.Refusals.{tree_refusal}
use Rattle.model.specs.Answers.{fresh_answer}
use Rattle.model.specs.Laws.{AllThreads, SixteenBit, FormLaw}
use Rattle.model.specs.Calls.{Call, joined, Names, state_at}
use Rattle.claims.specs.Claim.{Claim, DemandThree}
use Rattle.model.proofs.Trees.Accepted.{accepted, sixteen_bit}
use Rattle.model.proofs.Laws.Runs.{steps_take}
use Rattle.model.proofs.Laws.Facts.{well_formed_facts}
use Rattle.model.proofs.Laws.Form.{form_law}
use Rattle.claims.proofs.Claims.Reached.{from_fresh, threads_take}
use Rattle.claims.proofs.Claims.Alone.{alone}
use Rattle.claims.proofs.Claims.InOrder.{ordered}
use Rattle.claims.proofs.Claims.Bounded.{bounded}
use Rattle.claims.proofs.Claims.Calls.{reached, starts_here, each_from, stretches_from, joined_threads}

module _ (t : Tree) (bits : SixteenBit t) (ok : (tree_refusal t).number ≡ 0) (v : ℕ) (cs : List Call) (n : Names t cs (lock_state (fresh_state t v) fresh_counters)) where
  abbrev f : LockState
  f = lock_state (fresh_state t v) fresh_counters

  -- the list's schedule
  abbrev S : List ℕ
  S = joined cs f

  start : f ≡ reached t f []
  start = starts_here t f

  threads : AllThreads t S
  threads = joined_threads t f cs [] f start n

  claim : Claim t f cs S
  unfolding state_at FormLaw run run_of
  claim =
      let valid = accepted t ok in
      let whole = from_fresh t valid bits v S threads in
      let front : (k : ℕ) → AllThreads t (take k S) = λ k. threads_take t k S threads in
      record {
        each = each_from t f cs [] f start n;
        stretches = stretches_from t f cs [] f start n;
        alone = λ k.
            let x = from_fresh t valid bits v (take k S) (front k) in
            let formed = (form_law t bits ok).of_run (take k S) f.words (front k) ((form_law t bits ok).of_fresh v) in
            alone t valid (run t (take k S) f.words).state (well_formed_facts t _ formed) x.there;
        in_order = λ k d.
            let x = from_fresh t valid bits v (take k S) (front k) in
            rw (steps_take t k S f.words) at (ordered t d (steps t (take k S) f.words) x.there.queues x.follows);
        bounded = bounded t valid (steps t S f.words) whole.there.queues whole.real whole.follows;
      }

pub demand_three : DemandThree
unfolding DemandThree fresh_answer
demand_three w start cs ok n = claim (tree_of w) (sixteen_bit w) ok _ cs n
