-- RUNS. A run equals its steps in sequence, and its counts add up.
use mathlib.Core.Path.{◌≡◌, refl, ap, ◌∙◌}
use mathlib.Core.Bool.{Bool, true, false, cond}
use mathlib.Core.List.{List, [], ◌∷◌, ◌++◌, append_assoc}
use Prim.Native.Nat.{ℕ, zero, suc, ◌+◌, ◌<◌}
use native.Mathlib.Omega.{arith}
use lib.ListN.{length, take, drop, length-append}
use Rattle.model.specs.declared.State.{State}
use Rattle.model.specs.Trees.{Tree}
use Rattle.model.specs.Steps.{Kind, stay, other, root_entry, passed_entry, crossed_entry, leaving, is_kind, is_entry, Step, step}
use Rattle.model.specs.Runs.{steps, state_after, how_many, entering, counts_of, run_of, run, entries_under}
use Rattle.model.specs.Laws.{AllThreads, add_counts, then_run, RunLaw, CountLaw}

-- STEPS of two schedules, the second from the state after the first
pub steps_join : (t : Tree) (is js : List ℕ) (s : State) → steps t (is ++ js) s ≡ steps t is s ++ steps t js (state_after s (steps t is s))
unfolding steps state_after
steps_join t [] js s = refl
steps_join t (i ∷ is) js s = ap (λ xs. step t i s ∷ xs) (steps_join t is js (step t i s).state)

pub steps_length : (t : Tree) (is : List ℕ) (s : State) → length (steps t is s) ≡ length is
unfolding steps
steps_length t [] s = refl
steps_length t (i ∷ is) s = ap suc (steps_length t is (step t i s).state)

pub steps_take : (t : Tree) (k : ℕ) (is : List ℕ) (s : State) → steps t (take k is) s ≡ take k (steps t is s)
unfolding steps
steps_take t zero is s = refl
steps_take t (suc k) [] s = refl
steps_take t (suc k) (i ∷ is) s = ap (λ xs. step t i s ∷ xs) (steps_take t k is (step t i s).state)

pub steps_drop : (t : Tree) (k : ℕ) (is : List ℕ) (s : State) → drop k (steps t is s) ≡ steps t (drop k is) (state_after s (steps t (take k is) s))
unfolding steps state_after
steps_drop t zero is s = refl
steps_drop t (suc k) [] s = refl
steps_drop t (suc k) (i ∷ is) s = steps_drop t k is (step t i s).state

-- COUNTS OF JOINED LISTS OF STEPS
pub state_after_join : (s : State) (xs ys : List Step) → state_after s (xs ++ ys) ≡ state_after (state_after s xs) ys
unfolding state_after
state_after_join s [] ys = refl
state_after_join s (x ∷ xs) ys = state_after_join x.state xs ys

pub how_many_join : (f : Kind → Bool) (xs ys : List Step) → how_many f (xs ++ ys) ≡ how_many f xs + how_many f ys
unfolding how_many
how_many_join f [] ys = omega arith
how_many_join f (x ∷ xs) ys = omega (arith, how_many_join f xs ys)

pub entering_join : (xs ys : List Step) → entering (xs ++ ys) ≡ entering xs ++ entering ys
unfolding entering
entering_join [] ys = refl
entering_join (x ∷ xs) ys = rw (entering_join xs ys) (simp append_assoc)

pub entries_under_join : (t : Tree) (q : ℕ) (xs ys : List Step) → entries_under t q (xs ++ ys) ≡ entries_under t q xs + entries_under t q ys
unfolding entries_under
entries_under_join t q [] ys = omega arith
entries_under_join t q (x ∷ xs) ys = omega (arith, entries_under_join t q xs ys)

-- the run of joined steps
pub run_of_join : (s : State) (xs ys : List Step) → run_of s (xs ++ ys) ≡ then_run (run_of s xs) (run_of (state_after s xs) ys)
unfolding run_of then_run counts_of add_counts
run_of_join s xs ys =
    rw (length-append xs ys, how_many_join is_entry xs ys, how_many_join (is_kind stay) xs ys, how_many_join (is_kind root_entry) xs ys, how_many_join (is_kind passed_entry) xs ys, how_many_join (is_kind crossed_entry) xs ys, entering_join xs ys, state_after_join s xs ys)

pub run_join : (t : Tree) (is js : List ℕ) (s : State) → run t (is ++ js) s ≡ then_run (run t is s) (run t js (run t is s).state)
unfolding run run_of
run_join t is js s = ap (run_of s) (steps_join t is js s) ∙ run_of_join s (steps t is s) (steps t js (state_after s (steps t is s)))

-- a fact that every step keeps is kept by a run
pub run_keeps :
    (t : Tree) (P : State → Type 0) → ((i : ℕ) (s : State) → i < t.threads → P s → P (step t i s).state) → (is : List ℕ) (s : State) →
    AllThreads t is → P s → P (run t is s).state
unfolding run run_of steps state_after AllThreads
run_keeps t P keeps [] s all p = p
run_keeps t P keeps (i ∷ is) s all p = run_keeps t P keeps is (step t i s).state all.1 (keeps i s all.0 p)

pub run_law : RunLaw
unfolding RunLaw run steps
run_law t s = record { none = refl; one = λ i. refl; joined = λ is js. run_join t is js s }

-- COUNTS. Each entry is a root entry, a passed entry or a crossed entry
entry_one : (k : Kind) → cond (is_kind root_entry k) 1 0 + cond (is_kind passed_entry k) 1 0 + cond (is_kind crossed_entry k) 1 0 ≡ cond (is_entry k) 1 0
unfolding is_kind is_entry
entry_one stay = refl
entry_one other = refl
entry_one root_entry = refl
entry_one passed_entry = refl
entry_one crossed_entry = refl
entry_one leaving = refl

pub entries_all : (xs : List Step) → how_many (is_kind root_entry) xs + how_many (is_kind passed_entry) xs + how_many (is_kind crossed_entry) xs ≡ how_many is_entry xs
unfolding how_many
entries_all [] = refl
entries_all (x ∷ xs) = omega (arith, entry_one x.kind, entries_all xs)

entering_length : (xs : List Step) → length (entering xs) ≡ how_many is_entry xs
unfolding entering how_many
entering_length [] = refl
entering_length (x ∷ xs) = length-append (cond (is_entry x.kind) (x.thread ∷ []) []) (entering xs) ∙ rw (one (is_entry x.kind)) (omega (arith, entering_length xs))
  where
    one : (b : Bool) → length (cond b (x.thread ∷ []) []) ≡ cond b 1 0
    one true = refl
    one false = refl

pub count_law : CountLaw
unfolding CountLaw run run_of counts_of
count_law t is s =
    record {
      all_entries = entries_all (steps t is s);
      traced = entering_length (steps t is s);
      all_steps = steps_length t is s;
    }
