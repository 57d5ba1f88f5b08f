-- Each call of a list answers what the refusals and the step table give at its point of the whole schedule.
use mathlib.Core.Path.{subst, ◌≡◌, refl, sym, ap, ◌∙◌}
use mathlib.Core.Bool.{Bool, true, false, cond}
use mathlib.Core.List.{List, [], ◌∷◌, ◌++◌, append_assoc, append-nil}
use Prim.Native.Nat.{ℕ, ◌+◌}
use lib.Dec.{eqb}
use lib.ListN.{length, take, length-append}
use lib.Seq.{take-append_seam, drop-append_seam, take-append-add}
use borrow.Author.Tests.{eqb-true}
use Rattle.model.specs.declared.TreeWords.{TreeWords}
use Rattle.model.specs.declared.State.{State}
use Rattle.model.specs.declared.LockState.{LockState}
use Rattle.model.specs.Trees.{Tree, tree_of}
use Rattle.model.specs.Steps.{step}
use Rattle.model.specs.Runs.{steps, state_after, run_of, run}
use Rattle.model.specs.Counters.{lock_state, counters_after}
use Rattle.model.specs.Refusals.{step_refusal, run_refusal}
use Rattle.model.specs.Answers.{counters_after_run, step_reply, step_answer, run_reply, run_buffer, run_answer, trace_answer}
use Rattle.model.specs.Laws.{AllThreads, then_run}
use Rattle.model.specs.Calls.{Ask, one_step, a_run, Call, stepped, ran, state_in, answer_to, answer, ask_refusal, call_refusal, asked_entries, added, answers, joined, Names, state_at, stretch, counters_at, lock_at, expected_ask, expected, expected_answers, Stretches}
use Rattle.model.proofs.Laws.Runs.{steps_join, steps_take, steps_drop, state_after_join, run_join}
use Rattle.model.proofs.Counted.{counters_none, counters_join}
use Rattle.model.proofs.Laws.Calls.{step_facts, run_facts}
use Rattle.claims.proofs.Claims.Reached.{threads_join}

-- the lock state after a schedule
abbrev pub reached : Tree → (fresh : LockState) → (schedule : List ℕ) → LockState
reached t f pre = lock_state (run t pre f.words).state (counters_after_run t pre f)

-- after no entries it is the fresh one
pub starts_here : (t : Tree) (f : LockState) → f ≡ reached t f []
unfolding run run_of steps state_after counters_after_run
starts_here t f = rw (counters_none t f.counters)

-- THE STEP TABLE where two parts of the schedule meet
module _ (t : Tree) (f : LockState) (pre own rest : List ℕ) where
  words_at_seam : state_at t f.words (pre ++ rest) (length pre) ≡ (run t pre f.words).state
  unfolding state_at
  words_at_seam = ap (λ is. (run t is f.words).state) (take-append_seam pre rest)

  counters_at_seam : counters_at t f (pre ++ rest) (length pre) ≡ counters_after_run t pre f
  unfolding counters_at stretch counters_after_run
  counters_at_seam = ap (counters_after t f.counters) (sym (steps_take t (length pre) (pre ++ rest) f.words) ∙ ap (λ is. steps t is f.words) (take-append_seam pre rest))

  pub at_seam : lock_at t f (pre ++ rest) (length pre) ≡ reached t f pre
  at_seam = rw (words_at_seam, counters_at_seam)

  pub counters_between : counters_at t f (pre ++ (own ++ rest)) (length pre + length own) ≡ counters_after_run t own (reached t f pre)
  unfolding counters_at stretch counters_after_run run run_of
  counters_between =
      ap (counters_after t f.counters)
      (sym (steps_take t (length pre + length own) (pre ++ (own ++ rest)) f.words)
      ∙ ap (λ is. steps t is f.words) (take-append-add pre (own ++ rest) (length own) ∙ ap (λ is. pre ++ is) (take-append_seam own rest))
      ∙ steps_join t pre own f.words)
      ∙ counters_join t f.counters (steps t pre f.words) (steps t own (state_after f.words (steps t pre f.words)))

  pub stretch_between : stretch t f.words (pre ++ (own ++ rest)) (length pre) (length own) ≡ steps t own (run t pre f.words).state
  unfolding stretch run run_of
  stretch_between =
      ap (take (length own)) (steps_drop t (length pre) (pre ++ (own ++ rest)) f.words)
      ∙ rw (take-append_seam pre (own ++ rest), drop-append_seam pre (own ++ rest)) (sym (steps_take t (length own) (own ++ rest) (state_after f.words (steps t pre f.words))))
      ∙ ap (λ is. steps t is (state_after f.words (steps t pre f.words))) (take-append_seam own rest)

  pub reached_after : reached t f (pre ++ own) ≡ reached t (reached t f pre) own
  unfolding counters_after_run run run_of
  reached_after =
      let s = f.words in
      rw (steps_join t pre own s, state_after_join s (steps t pre s) (steps t own (state_after s (steps t pre s))), counters_join t f.counters (steps t pre s) (steps t own (state_after s (steps t pre s))))

-- the words after one schedule and then another
module _ (t : Tree) (f : State) (pre own rest : List ℕ) where
  pub run_after : (run t (pre ++ own) f).state ≡ (run t own (run t pre f).state).state
  unfolding then_run
  run_after = ap (λ x. x.state) (run_join t pre own f)

pub run_one : (t : Tree) (i : ℕ) (s : State) → (run t (i ∷ []) s).state ≡ (step t i s).state
unfolding run run_of steps state_after
run_one t i s = refl

-- ONE CALL, on the table's state at its point of the schedule
module _ (t : Tree) (f : LockState) (w : TreeWords) (pre rest : List ℕ) (s : LockState) (here : s ≡ reached t f pre) where
  abbrev u : Tree
  u = tree_of w

  own : Ask → List ℕ
  own a = cond (eqb (ask_refusal u a s).number 0) (asked_entries a) []

  -- accepted: the stretch consists of the call's own entries
  accepted_expected :
      (a : Ask) → u ≡ t → eqb (ask_refusal u a s).number 0 ≡ true →
      answer_to w a s ≡ expected_ask t f (pre ++ (asked_entries a ++ rest)) (length pre) u a
  unfolding answer_to expected_ask asked_entries step_answer run_answer trace_answer run run_of
  accepted_expected (one_step i) e z =
      let r = reached t f pre in
      rw (here, at_seam t f pre [] ((i ∷ []) ++ rest), stretch_between t f pre (i ∷ []) rest, counters_between t f pre (i ∷ []) rest)
      (ap (λ (v : Tree). stepped (step_reply (step_refusal u r i) r (steps v (i ∷ []) r.words) (counters_after_run v (i ∷ []) r))) e)
  accepted_expected (a_run is b) e z =
      let r = reached t f pre in
      rw (here, at_seam t f pre [] (is ++ rest), words_at_seam t f pre [] (is ++ rest), stretch_between t f pre is rest, counters_between t f pre is rest)
      (ap (λ (v : Tree). ran (run_reply (run_refusal u r is (length b)) r (run_of r.words (steps v is r.words)) (counters_after_run v is r)) (run_buffer (run_refusal u r is (length b)) b (run_of r.words (steps v is r.words)))) e)

  -- refused: the answer does not depend on the table's steps
  refused_expected :
      (a : Ask) → eqb (ask_refusal u a s).number 0 ≡ false → answer_to w a s ≡ expected_ask t f (pre ++ rest) (length pre) u a
  unfolding answer_to expected_ask ask_refusal step_answer run_answer trace_answer step_reply run_reply run_buffer
  refused_expected (one_step i) z = let y : eqb (step_refusal u (reached t f pre) i).number 0 ≡ false = rw here at z in rw (here, at_seam t f pre [] rest, y)
  refused_expected (a_run is b) z = let y : eqb (run_refusal u (reached t f pre) is (length b)).number 0 ≡ false = rw here at z in rw (here, at_seam t f pre [] rest, y)

  call_expected_by :
      (a : Ask) → ((ask_refusal u a s).number ≡ 0 → u ≡ t) → (b : Bool) → eqb (ask_refusal u a s).number 0 ≡ b →
      answer_to w a s ≡ expected_ask t f (pre ++ (cond b (asked_entries a) [] ++ rest)) (length pre) u a
  call_expected_by a n true z = accepted_expected a (n (eqb-true _ _ z)) z
  call_expected_by a n false z = refused_expected a z

  -- the state that the call returns is the table's after its entries
  returned_by :
      (a : Ask) → ((ask_refusal u a s).number ≡ 0 → u ≡ t) → (b : Bool) → eqb (ask_refusal u a s).number 0 ≡ b →
      state_in (answer_to w a s) ≡ reached t f (pre ++ cond b (asked_entries a) [])
  unfolding state_in answer_to asked_entries ask_refusal step_answer run_answer step_reply run_reply run run_of
  returned_by (one_step i) n true z =
      rw (z, reached_after t f pre (i ∷ []) []) (ap (λ (v : Tree). reached v s (i ∷ [])) (n (eqb-true _ _ z)) ∙ ap (λ (v : LockState). reached t v (i ∷ [])) here)
  returned_by (one_step i) n false z = rw (z, append-nil pre) here
  returned_by (a_run is b) n true z = rw (z, reached_after t f pre is []) (ap (λ (v : Tree). reached v s is) (n (eqb-true _ _ z)) ∙ ap (λ (v : LockState). reached t v is) here)
  returned_by (a_run is b) n false z = rw (z, append-nil pre) here

  own_threads_by : (a : Ask) → ((ask_refusal u a s).number ≡ 0 → u ≡ t) → (b : Bool) → eqb (ask_refusal u a s).number 0 ≡ b → AllThreads t (cond b (asked_entries a) [])
  unfolding asked_entries ask_refusal AllThreads
  own_threads_by (one_step i) n true z = let e = eqb-true _ _ z in let real = (step_facts u s i e).thread in (rw (n e) at real, tt)
  own_threads_by (one_step i) n false z = tt
  own_threads_by (a_run is b) n true z = let e = eqb-true _ _ z in rw (n e) at (run_facts u s is (length b) e).threads
  own_threads_by (a_run is b) n false z = tt

module _ (t : Tree) (f : LockState) (c : Call) (pre rest : List ℕ) (s : LockState) (here : s ≡ reached t f pre) (n : (call_refusal c s).number ≡ 0 → tree_of c.tree ≡ t) where
  pub call_expected : answer c s ≡ expected t f (pre ++ (added c s ++ rest)) (length pre) c
  unfolding answer expected added call_refusal
  call_expected = call_expected_by t f c.tree pre rest s here c.ask n _ refl

  pub returned : state_in (answer c s) ≡ reached t f (pre ++ added c s)
  unfolding answer added call_refusal
  returned = returned_by t f c.tree pre rest s here c.ask n _ refl

  pub own_threads : AllThreads t (added c s)
  unfolding added call_refusal
  own_threads = own_threads_by t f c.tree pre rest s here c.ask n _ refl

-- THE LIST
pub each_from :
    (t : Tree) (f : LockState) (cs : List Call) (pre : List ℕ) (s : LockState) → s ≡ reached t f pre → Names t cs s →
    answers cs s ≡ expected_answers t f (pre ++ joined cs s) (length pre) cs
unfolding answers expected_answers joined Names
each_from t f [] pre s here n = refl
each_from t f (c ∷ cs) pre s here n =
    let own = added c s in
    let s' = state_in (answer c s) in
    let rest = joined cs s' in
    let next = each_from t f cs (pre ++ own) s' (returned t f c pre rest s here n.0) n.1 in
    let at : lock_at t f (pre ++ (own ++ rest)) (length pre) ≡ s = at_seam t f pre [] (own ++ rest) ∙ sym here in
    let seam : (pre ++ own) ++ rest ≡ pre ++ joined (c ∷ cs) s = append_assoc pre own rest in
    let counted : answers cs s' ≡ expected_answers t f ((pre ++ own) ++ rest) (length pre + length own) cs = rw (length-append pre own) at next in
    let whole : answers cs s' ≡ expected_answers t f (pre ++ joined (c ∷ cs) s) (length pre + length own) cs = subst (λ (S : List ℕ). answers cs s' ≡ expected_answers t f S (length pre + length own) cs) seam counted in
    rw (at, ← call_expected t f c pre rest s here n.0) (ap (λ others. answer c s ∷ others) whole)

pub stretches_from :
    (t : Tree) (f : LockState) (cs : List Call) (pre : List ℕ) (s : LockState) → s ≡ reached t f pre → Names t cs s →
    Stretches t f (pre ++ joined cs s) (length pre) cs
unfolding Stretches joined Names
stretches_from t f [] pre s here n = ap length (sym (append-nil pre))
stretches_from t f (c ∷ cs) pre s here n =
    let own = added c s in
    let s' = state_in (answer c s) in
    let rest = joined cs s' in
    let next = stretches_from t f cs (pre ++ own) s' (returned t f c pre rest s here n.0) n.1 in
    let at : lock_at t f (pre ++ (own ++ rest)) (length pre) ≡ s = at_seam t f pre [] (own ++ rest) ∙ sym here in
    let seam : (pre ++ own) ++ rest ≡ pre ++ joined (c ∷ cs) s = append_assoc pre own rest in
    rw at (
      ap (take (length own)) (drop-append_seam pre (own ++ rest)) ∙ take-append_seam own rest,
      subst (λ (S : List ℕ). Stretches t f S (length pre + length own) cs) seam (rw (length-append pre own) at next),
    )

pub joined_threads :
    (t : Tree) (f : LockState) (cs : List Call) (pre : List ℕ) (s : LockState) → s ≡ reached t f pre → Names t cs s → AllThreads t (joined cs s)
unfolding joined Names AllThreads
joined_threads t f [] pre s here n = tt
joined_threads t f (c ∷ cs) pre s here n =
    let own = added c s in
    let s' = state_in (answer c s) in
    threads_join t own (joined cs s') (own_threads t f c pre [] s here n.0) (joined_threads t f cs (pre ++ own) s' (returned t f c pre [] s here n.0) n.1)
