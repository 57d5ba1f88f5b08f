-- THE LAWS OF THE STEP TABLE AND THE REFUSALS, for the second demand. Each is a statement; proofs/ has its proof.
use Rattle.std.specs.Prelude.{◌≡◌, Bool, true, false, ◌&&◌, not, cond, List, [], ◌∷◌, ◌++◌, ◌≢◌, ◌⊎◌, ℕ, ◌+◌, ◌≤◌, ◌<◌, eqb, length, get_or}
use Rattle.model.specs.declared.TreeWords.{TreeWords}
use Rattle.model.specs.declared.State.{State}
use Rattle.model.specs.declared.LockState.{LockState}
use Rattle.model.specs.declared.Counts.{Counts}
use Rattle.model.specs.declared.Place.{Place}
use Rattle.model.specs.declared.Place.TheVariants.{Idle, Swap, Wait, Inside, Draw, Watch}
use Rattle.model.specs.Trees.{Tree, tree_of, is_ticket, on_path, is_member, under}
use Rattle.model.specs.Places.{words_of, same_row}
use Rattle.model.specs.States.{acquire_parent, wait_word, status, place, fresh_state, numbers_at, PlacesRoom}
use Rattle.model.specs.Steps.{stay, root_entry, passed_entry, crossed_entry, leaving, is_entry, Step, step}
use Rattle.model.specs.Runs.{steps, Run, run_of, run, occurrences}
use Rattle.model.specs.WellFormed.{well_formed}
use Rattle.model.specs.Answers.{step_answer, run_answer}
use Rattle.model.specs.Refusals.{refusal, accepted, Test, first_refusal, tests_before_16, tree_tests, step_tests, run_tests, tree_refusal}

-- both ways
infixl 10 ◌⟺◌
abbrev pub ◌⟺◌ : Type 0 → Type 0 → Type 0
A ⟺ B = (A → B) × (B → A)

-- every entry of a schedule is a thread of the tree
unfoldable pub AllThreads : Tree → (schedule : List ℕ) → Type 0
AllThreads t [] = Unit {0}
AllThreads t (i ∷ is) = (i < t.threads) × AllThreads t is

-- thresholds are 16-bit numbers, as in every tree that a call names
abbrev pub SixteenBit : Tree → Type 0
SixteenBit t = (d : ℕ) → t.threshold d ≤ 65535

-- a schedule of threads of an accepted tree, to be run on a fresh lock
pub record FreshRun (t : Tree) (schedule : List ℕ) : Type 0 where
  pub sixteen_bit : SixteenBit t
  pub tree_accepted : (tree_refusal t).number ≡ 0
  pub threads : AllThreads t schedule

-- a state that a fresh lock of an accepted tree reaches by turns of its threads
pub record FromFresh (t : Tree) (s : State) : Type 0 where
  pub start : ℕ
  pub schedule : List ℕ
  pub fresh_run : FreshRun t schedule
  pub reached : s ≡ (run t schedule (fresh_state t start)).state

-- what the type of a state fixes: the room of its arrays, that statuses and words are below 2^64, and the counters below 2^16
pub record Typed (s : State) : Type 0 where
  pub tails_room : length s.tails ≡ 64
  pub nexts_room : length s.nexts ≡ 320
  pub statuses_room : length s.statuses ≡ 320
  pub places_room : PlacesRoom s.places
  pub statuses_fit : (r : ℕ) → status s r < 18446744073709551616
  pub ticket_fits : s.ticket < 65536
  pub grant_fits : s.grant < 65536
  pub words_fit : (i : ℕ) → (numbers_at s.places i).word < 18446744073709551616

-- a state that a call may hand over: well formed, unused room included
pub record Formed (t : Tree) (s : State) : Type 0 where
  pub typed : Typed s
  pub form : well_formed t s ≡ true

-- 1. FORM. Fresh states are well formed, and steps and runs keep a state well formed
pub record KeepsForm (t : Tree) : Type 0 where
  pub of_fresh : (start : ℕ) → Formed t (fresh_state t start)
  pub of_step : (i : ℕ) (s : State) → i < t.threads → Formed t s → Formed t (step t i s).state
  pub of_run : (is : List ℕ) (s : State) → AllThreads t is → Formed t s → Formed t (run t is s).state

unfoldable pub FormLaw : Type 0
FormLaw = (t : Tree) → SixteenBit t → (tree_refusal t).number ≡ 0 → KeepsForm t

-- 2. RUNS. One run after another: counts are added, one by one
unfoldable pub add_counts : Counts → Counts → Counts
add_counts x y =
    record {
      steps = x.steps + y.steps;
      entries = x.entries + y.entries;
      stays = x.stays + y.stays;
      root = x.root + y.root;
      passed = x.passed + y.passed;
      crossed = x.crossed + y.crossed;
    }

unfoldable pub then_run : Run → Run → Run
then_run x y = record { counts = add_counts x.counts y.counts; trace = x.trace ++ y.trace; state = y.state }

-- a run equals its steps one after another
pub record EqualsSteps (t : Tree) (s : State) : Type 0 where
  pub none : run t [] s ≡ run_of s []
  pub one : (i : ℕ) → run t (i ∷ []) s ≡ run_of s (step t i s ∷ [])
  pub joined : (is js : List ℕ) → run t (is ++ js) s ≡ then_run (run t is s) (run t js (run t is s).state)

unfoldable pub RunLaw : Type 0
RunLaw = (t : Tree) (s : State) → EqualsSteps t s

-- root entries, passed entries and crossed entries add up to the entries, which are as many as the trace has; steps are as many as the schedule has entries
pub record AddsUp (schedule : List ℕ) (x : Run) : Type 0 where
  pub all_entries : x.counts.root + x.counts.passed + x.counts.crossed ≡ x.counts.entries
  pub traced : length x.trace ≡ x.counts.entries
  pub all_steps : x.counts.steps ≡ length schedule

unfoldable pub CountLaw : Type 0
CountLaw = (t : Tree) (is : List ℕ) (s : State) → AddsUp is (run t is s)

-- 3. KINDS. An entry from the root: from Swap or Wait at a queue root; at a ticket root from Draw or Watch, or from Idle where it is home
pub data EntersRoot (t : Tree) (i : ℕ) (p : Place) : Type 0 where
  by_swap : p ≡ Swap 0 → EntersRoot t i p
  by_wait : p ≡ Wait 0 → EntersRoot t i p
  by_draw : p ≡ Draw → EntersRoot t i p
  by_watch : p ≡ Watch → EntersRoot t i p
  by_own_draw : p ≡ Idle → is_ticket t (t.home i) ≡ true → EntersRoot t i p

-- a stay changes nothing, and only a stay; an entry arrives Inside; a root entry came from the root, a passed entry from Wait at the home, other than the root, a crossed entry from Wait between home and root; leaving are exactly the steps from Inside
pub record ReportsKind (t : Tree) (i : ℕ) (s : State) : Type 0 where
  pub stays_exactly : ((step t i s).kind ≡ stay) ⟺ ((step t i s).state ≡ s)
  pub enters_exactly : (is_entry (step t i s).kind ≡ true) ⟺ ((place (step t i s).state i ≡ Inside) × (place s i ≢ Inside))
  pub root_exactly :
      ((step t i s).kind ≡ root_entry)
      ⟺ ((place (step t i s).state i ≡ Inside) × EntersRoot t i (place s i))
  pub passed_exactly :
      ((step t i s).kind ≡ passed_entry)
      ⟺ ((place (step t i s).state i ≡ Inside) × ((t.home i ≢ 0) × (place s i ≡ Wait (t.home i))))
  pub crossed_exactly :
      ((step t i s).kind ≡ crossed_entry)
      ⟺ ((place (step t i s).state i ≡ Inside) × ((l : ℕ) × (l ≢ 0) × (l ≢ t.home i) × (place s i ≡ Wait l)))
  pub leaving_exactly : ((step t i s).kind ≡ leaving) ⟺ (place s i ≡ Inside)

unfoldable pub KindLaw : Type 0
KindLaw = (t : Tree) (i : ℕ) (s : State) → (tree_refusal t).number ≡ 0 → i < t.threads → Formed t s → ReportsKind t i s

-- the domain that a step was at: home for Idle and leaving, else the domain that its place names; in every well-formed state one of its path
pub record ReportsDomain (t : Tree) (i : ℕ) (s : State) : Type 0 where
  pub at_home : (place s i ≡ Idle) ⊎ (place s i ≡ Inside) → (step t i s).domain ≡ t.home i
  pub at_place : place s i ≢ Idle → place s i ≢ Inside → (step t i s).domain ≡ (numbers_at s.places i).domain
  pub path : on_path t i (step t i s).domain ≡ true

unfoldable pub DomainLaw : Type 0
DomainLaw = (t : Tree) (i : ℕ) (s : State) → (tree_refusal t).number ≡ 0 → i < t.threads → Formed t s → ReportsDomain t i s

-- a step changes no place but its own thread's
unfoldable pub OwnPlaceLaw : Type 0
OwnPlaceLaw = (t : Tree) (i j : ℕ) (s : State) → j ≢ i → numbers_at (step t i s).state.places j ≡ numbers_at s.places j

-- an accepted step says the kind and the domain of the step table's step; a run's counts are those of the kinds that single calls say, each on the state that the one before returned
unfoldable pub answered_kinds : TreeWords → (schedule : List ℕ) → LockState → List ℕ
answered_kinds w [] s = []
answered_kinds w (i ∷ is) s = let r = step_answer w s i in r.kind ∷ answered_kinds w is r.state

unfoldable pub counts_of_kinds : (kinds : List ℕ) → Counts
counts_of_kinds ks =
    record {
      steps = length ks;
      entries = occurrences 2 ks + occurrences 3 ks + occurrences 4 ks;
      stays = occurrences 0 ks;
      root = occurrences 2 ks;
      passed = occurrences 3 ks;
      crossed = occurrences 4 ks;
    }

unfoldable pub AnsweredKindsLaw : Type 0
AnsweredKindsLaw =
    (w : TreeWords) (s : LockState) (is b : List ℕ) → Formed (tree_of w) s.words → (run_answer w s is b).number ≡ 0 → (run_answer w s is b).counts ≡ counts_of_kinds (answered_kinds w is s)

-- What document 01 counted as passed, before document 02 distinguished crossed entries: an entry from Wait at any domain but the root
unfoldable pub waits_below : Place → Bool
waits_below p = same_row p (Wait 0) && not (eqb (words_of p).domain 0)

unfoldable pub entries_from_below : List Step → ℕ
entries_from_below [] = 0
entries_from_below (x ∷ xs) = cond (is_entry x.kind && waits_below x.place) 1 0 + entries_from_below xs

-- passed and crossed together are what it counted
unfoldable pub PassedLaw : Type 0
PassedLaw =
    (t : Tree) (is : List ℕ) (s : State) → (run t is s).counts.passed + (run t is s).counts.crossed ≡ entries_from_below (steps t is s)

-- 4. REFUSALS. Number n at place p exactly if every earlier test passes, p is bad and none below p is
abbrev pub Passes : Test → Type 0
Passes x = (p : ℕ) → p < x.places → x.bad p ≡ false

pub data Refuses : List Test → (number place : ℕ) → Type 0 where
  here :
      (x : Test) (xs : List Test) (p : ℕ) → p < x.places → x.bad p ≡ true → ((q : ℕ) → q < p → x.bad q ≡ false) →
      Refuses (x ∷ xs) x.number p
  later : (x : Test) (xs : List Test) (n p : ℕ) → Passes x → Refuses xs n p → Refuses (x ∷ xs) n p

unfoldable pub AllPass : List Test → Type 0
AllPass [] = Unit {0}
AllPass (x ∷ xs) = Passes x × AllPass xs

-- no test has number 0, which means accepted
unfoldable pub Numbered : List Test → Type 0
Numbered [] = Unit {0}
Numbered (x ∷ xs) = (0 < x.number) × Numbered xs

pub record RefusesExactly (xs : List Test) : Type 0 where
  pub refused : (n p : ℕ) → 0 < n → (first_refusal xs ≡ refusal n p) ⟺ Refuses xs n p
  pub passed : (first_refusal xs ≡ accepted) ⟺ AllPass xs
  pub zero_accepted : (first_refusal xs).number ≡ 0 → first_refusal xs ≡ accepted

unfoldable pub RefusalLaw : Type 0
RefusalLaw = (xs : List Test) → Numbered xs → RefusesExactly xs

-- the tests of the three calls are such lists
pub record CallsRefuseExactly (t : Tree) : Type 0 where
  pub of_fresh : RefusesExactly (tree_tests t)
  pub of_step : (s : LockState) (i : ℕ) → RefusesExactly (step_tests t s i)
  pub of_run : (s : LockState) (is : List ℕ) (room : ℕ) → RefusesExactly (run_tests t s is room)

unfoldable pub CallRefusalLaw : Type 0
CallRefusalLaw = (t : Tree) → CallsRefuseExactly t

-- EMPTY DOMAINS. A thread of the tree is under the domain
pub record HasThread (t : Tree) (domain : ℕ) : Type 0 where
  pub thread : ℕ
  pub real : thread < t.threads
  pub below : under t (256 + domain) thread ≡ true

-- accepted, every domain has a thread under it, and nothing more is asked than before; refused by 16, the place is the lowest that has none; the root always has one
pub record RefusesEmpty (t : Tree) : Type 0 where
  pub accepted_exactly :
      ((tree_refusal t).number ≡ 0) ⟺ (AllPass (tests_before_16 t) × ((d : ℕ) → d < t.domains → HasThread t d))
  pub refused_exactly :
      (p : ℕ) →
      (tree_refusal t ≡ refusal 16 p)
      ⟺ (AllPass (tests_before_16 t) × (p < t.domains) × (¬ HasThread t p) × ((q : ℕ) → q < p → HasThread t q))
  pub root_has_one : AllPass (tests_before_16 t) → HasThread t 0

unfoldable pub EmptyLaw : Type 0
EmptyLaw = (t : Tree) → RefusesEmpty t

-- THE KIND OF ROOT is read by no test of a tree: both kinds refuse the same trees
abbrev pub with_root : Bool → Tree → Tree
with_root b t =
    record {
      domains = t.domains;
      threads = t.threads;
      parent = t.parent;
      threshold = t.threshold;
      home = t.home;
      ticket_root = b;
    }

unfoldable pub RootLaw : Type 0
RootLaw = (t : Tree) (b : Bool) → tree_refusal (with_root b t) ≡ tree_refusal t

-- UNREAD WORDS distinguish no trees: the root's parent and threshold, room that the tree lacks, and which number but 0 names a ticket root
pub record ReadAlike (w v : TreeWords) : Type 0 where
  pub domains : v.domains ≡ w.domains
  pub threads : v.threads ≡ w.threads
  pub parents : (d : ℕ) → 0 < d → d < w.domains → get_or v.parents d 0 ≡ get_or w.parents d 0
  pub thresholds : (d : ℕ) → 0 < d → d < w.domains → get_or v.thresholds d 0 ≡ get_or w.thresholds d 0
  pub homes : (i : ℕ) → i < w.threads → get_or v.homes i 0 ≡ get_or w.homes i 0
  pub root : (v.ticket_root ≡ 0) ⟺ (w.ticket_root ≡ 0)

unfoldable pub UnreadLaw : Type 0
UnreadLaw = (w v : TreeWords) → ReadAlike w v → tree_of v ≡ tree_of w

-- 5. WORDS. In every state reached from fresh: the status of a member of a domain other than the root is ACQUIRE_PARENT, WAIT or at most the threshold
unfoldable pub WordLaw : Type 0
WordLaw =
    (t : Tree) (s : State) → FromFresh t s → (d r : ℕ) → d ≢ 0 → is_member t d r ≡ true →
    (status s r ≡ acquire_parent) ⊎ (status s r ≡ wait_word) ⊎ (status s r ≤ t.threshold d)
