-- The refusals 4 to 13 of document 01, "When a call says no"; and from document 02, 16 of (iv), and 19 and the additions to 10 of (vii).
use Rattle.std.specs.Prelude.{Bool, false, ◌&&◌, ◌||◌, not, cond, List, [], ◌∷◌, ◌++◌, ℕ, zero, suc, ◌+◌, ltb, leb, eqb, length, get_or, take}
use Rattle.model.specs.declared.LockState.{LockState}
use Rattle.model.specs.Scans.{any_below}
use Rattle.model.specs.Trees.{Tree, is_leaf, level, under}
use Rattle.model.specs.Runs.{steps}
use Rattle.model.specs.Counters.{counters_after, good_counts, any_above}
use Rattle.model.specs.WellFormed.{well_formed}

-- the number and place of an answer; 0 and 0 if accepted
pub record Refusal : Type 0 where
  pub number : ℕ
  pub place : ℕ

-- a refusal with this number and place
unfoldable pub refusal : (number place : ℕ) → Refusal
refusal n p = record { number = n; place = p }

-- no refusal
unfoldable pub accepted : Refusal
accepted = refusal 0 0

-- a test: its number, how many places it looks at, and which of them are bad. A test that names no place looks only at place 0
pub record Test : Type 0 where
  pub number : ℕ
  pub places : ℕ
  pub bad : ℕ → Bool

-- a test with these parts
abbrev pub test : (number places : ℕ) → (ℕ → Bool) → Test
test n k f = record { number = n; places = k; bad = f }

-- the lowest bad place, starting at a place and looking at a given number of places; if none is bad, another refusal
unfoldable pub lowest_bad : (number : ℕ) → (bad : ℕ → Bool) → (left at : ℕ) → (otherwise : Refusal) → Refusal
lowest_bad n f zero p r = r
lowest_bad n f (suc k) p r = let higher = lowest_bad n f k (suc p) r in cond (f p) (refusal n p) higher

-- the first test with a bad place refuses, at its lowest bad place
unfoldable pub first_refusal : List Test → Refusal
first_refusal [] = accepted
first_refusal (x ∷ xs) = lowest_bad x.number x.bad x.places 0 (first_refusal xs)

-- 4: no domains, or more than 64
unfoldable pub bad_domains : Tree → ℕ → Bool
bad_domains t p = eqb t.domains 0 || ltb 64 t.domains

-- 5: no threads, or more than 256
unfoldable pub bad_threads : Tree → ℕ → Bool
bad_threads t p = eqb t.threads 0 || ltb 256 t.threads

-- 6: the parent of a domain other than 0 is not below the domain's own number
unfoldable pub bad_parent : Tree → (domain : ℕ) → Bool
bad_parent t d = not (eqb d 0) && leb d (t.parent d)

-- 7: a domain is below level 6
unfoldable pub too_deep : Tree → (domain : ℕ) → Bool
too_deep t d = ltb 6 (level t d)

-- 8: the threshold of a domain other than 0 is 0
unfoldable pub no_threshold : Tree → (domain : ℕ) → Bool
no_threshold t d = not (eqb d 0) && eqb (t.threshold d) 0

-- 9: a home is not a domain of the tree, or is not a leaf
unfoldable pub bad_home : Tree → (thread : ℕ) → Bool
bad_home t i = leb t.domains (t.home i) || not (is_leaf t (t.home i))

-- 16: no thread is under a domain
unfoldable pub empty_domain : Tree → (domain : ℕ) → Bool
empty_domain t d = not (any_below t.threads (under t (256 + d)))

-- 10: the given state is not well formed, or its counters are not: a counter of the root or of an unused slot is not 0, a longest tenure is above the threshold, or a counter is above 2^63
unfoldable pub bad_state : Tree → LockState → ℕ → Bool
bad_state t s p = not (well_formed t s.words && good_counts t s.counters)

-- 11: the schedule is longer than 65,536 entries
unfoldable pub bad_length : (schedule : List ℕ) → ℕ → Bool
bad_length is p = ltb 65536 (length is)

-- 12: a schedule entry is not a thread; the place is its position
unfoldable pub bad_entry : Tree → (schedule : List ℕ) → (position : ℕ) → Bool
bad_entry t is p = leb t.threads (get_or is p 0)

-- 13: the trace buffer is shorter than the schedule
unfoldable pub bad_room : (schedule : List ℕ) → (room : ℕ) → ℕ → Bool
bad_room is room p = ltb room (length is)

-- 19: a counter is above 2^63 after the step of the schedule entry at this position
unfoldable pub bad_counter : Tree → LockState → (schedule : List ℕ) → (position : ℕ) → Bool
bad_counter t s is p = any_above (counters_after t s.counters (take (p + 1) (steps t is s.words)))

-- THE GROUPS OF TESTS. The numbers of domains and threads
abbrev pub count_tests : Tree → List Test
count_tests t = test 4 1 (bad_domains t) ∷ test 5 1 (bad_threads t) ∷ []

-- the domains of a tree
abbrev pub domain_tests : Tree → List Test
domain_tests t = test 6 t.domains (bad_parent t) ∷ test 7 t.domains (too_deep t) ∷ test 8 t.domains (no_threshold t) ∷ []

-- the homes of a tree
abbrev pub home_tests : Tree → List Test
home_tests t = test 9 t.threads (bad_home t) ∷ []

-- the threads under each domain
abbrev pub empty_tests : Tree → List Test
empty_tests t = test 16 t.domains (empty_domain t) ∷ []

-- a given state
abbrev pub state_tests : Tree → LockState → List Test
state_tests t s = test 10 1 (bad_state t s) ∷ []

-- the entries of a schedule
abbrev pub entry_tests : Tree → (schedule : List ℕ) → List Test
entry_tests t is = test 12 (length is) (bad_entry t is) ∷ []

-- the length of a schedule, then its entries
abbrev pub schedule_tests : Tree → (schedule : List ℕ) → List Test
schedule_tests t is = test 11 1 (bad_length is) ∷ entry_tests t is

-- the length of the trace buffer
abbrev pub room_tests : (schedule : List ℕ) → (room : ℕ) → List Test
room_tests is room = test 13 1 (bad_room is room) ∷ []

-- THE TESTS OF EACH CALL. The tests of a tree before 16
abbrev pub tests_before_16 : Tree → List Test
tests_before_16 t = count_tests t ++ (domain_tests t ++ home_tests t)

-- the tests of a tree, and of the fresh call: 4 to 9 and 16
unfoldable pub tree_tests : Tree → List Test
tree_tests t = tests_before_16 t ++ empty_tests t

-- the counters after each step of a schedule
abbrev pub counter_tests : Tree → LockState → (schedule : List ℕ) → List Test
counter_tests t s is = test 19 (length is) (bad_counter t s is) ∷ []

-- the tests of a step before 19: 4 to 9, 16, 10 and 12
abbrev pub step_tests_before_19 : Tree → LockState → (thread : ℕ) → List Test
step_tests_before_19 t s i = tree_tests t ++ (state_tests t s ++ entry_tests t (i ∷ []))

-- the tests of a step
unfoldable pub step_tests : Tree → LockState → (thread : ℕ) → List Test
step_tests t s i = step_tests_before_19 t s i ++ counter_tests t s (i ∷ [])

-- the tests of a run before 19: 4 to 9, 16 and 10 to 13
abbrev pub run_tests_before_19 : Tree → LockState → (schedule : List ℕ) → (room : ℕ) → List Test
run_tests_before_19 t s is room = tree_tests t ++ (state_tests t s ++ (schedule_tests t is ++ room_tests is room))

-- the tests of a run
unfoldable pub run_tests : Tree → LockState → (schedule : List ℕ) → (room : ℕ) → List Test
run_tests t s is room = run_tests_before_19 t s is room ++ counter_tests t s is

-- some test of a list has this number
unfoldable pub has_number : List Test → (number : ℕ) → Bool
has_number [] n = false
has_number (x ∷ xs) n = eqb x.number n || has_number xs n

-- the refusal of a tree
unfoldable pub tree_refusal : Tree → Refusal
tree_refusal t = first_refusal (tree_tests t)

-- the refusal of a step
unfoldable pub step_refusal : Tree → LockState → (thread : ℕ) → Refusal
step_refusal t s i = first_refusal (step_tests t s i)

-- the refusal of a run
unfoldable pub run_refusal : Tree → LockState → (schedule : List ℕ) → (room : ℕ) → Refusal
run_refusal t s is room = first_refusal (run_tests t s is room)
