-- THE LAWS OF THE CHECK OF STEPS. These are statements; their proofs are in proofs/.
use Rattle.std.specs.Prelude.{◌≡◌, true, false, List, [], ◌∷◌, ◌++◌, ◌≢◌, ℕ, ◌+◌, ◌≤◌, ◌<◌, length, take, get_or}
use Rattle.model.specs.declared.TreeWords.{TreeWords}
use Rattle.model.specs.declared.LockState.{LockState}
use Rattle.model.specs.Trees.{Tree, tree_of}
use Rattle.model.specs.Steps.{kind_number, Step, step}
use Rattle.model.specs.Runs.{steps}
use Rattle.model.specs.Counters.{lock_after, good_counts, fresh_lock, most_counted}
use Rattle.model.specs.Refusals.{accepted, bad_counter, tree_refusal}
use Rattle.model.specs.Answers.{run_answer}
use Rattle.model.specs.Laws.{◌⟺◌, AllThreads, Formed, RefusesExactly}
use Rattle.journal.specs.Entries.{NamedStep, Journal, threads_of, kinds_of}
use Rattle.journal.specs.Answers.{journal_refusal}
use Rattle.journal.specs.StepCheck.Answers.{early_tests, early_refusal, refused, steps_answer}

-- the kind numbers of steps
unfoldable pub kinds_reported : List Step → List ℕ
kinds_reported [] = []
kinds_reported (x ∷ xs) = kind_number x.kind ∷ kinds_reported xs

-- the domains of steps
unfoldable pub domains_reported : List Step → List ℕ
domains_reported [] = []
domains_reported (x ∷ xs) = x.domain ∷ domains_reported xs

-- 1. BEFORE THE STEPS. The general law of refusals covers the list of tests; if one refuses, nothing is checked and the state is unchanged
pub record RefusesEarly (w : TreeWords) (s : LockState) (threads kinds domains : List ℕ) : Type 0 where
  pub exactly : RefusesExactly (early_tests (tree_of w) s threads kinds domains)
  pub lengths : (early_refusal (tree_of w) s threads kinds domains).number ≡ 0 → (length kinds ≡ length threads) × (length domains ≡ length threads)
  pub untouched :
      (early_refusal (tree_of w) s threads kinds domains).number ≢ 0 →
      steps_answer w s threads kinds domains ≡ refused (early_refusal (tree_of w) s threads kinds domains) s

-- for every call
unfoldable pub EarlyLaw : Type 0
EarlyLaw = (w : TreeWords) (s : LockState) (threads kinds domains : List ℕ) → RefusesEarly w s threads kinds domains

-- 2. EXACTLY. The named steps are those of the step table from a state: all threads are in the tree, no step raises a counter above 2^63, and kinds and domains are those of the table's steps over these threads
pub record OfTheTable (t : Tree) (s : LockState) (threads kinds domains : List ℕ) : Type 0 where
  pub threads_known : AllThreads t threads
  pub counters_fit : (p : ℕ) → p < length threads → bad_counter t s threads p ≡ false
  pub kinds_given : kinds ≡ kinds_reported (steps t threads s.words)
  pub domains_given : domains ≡ domains_reported (steps t threads s.words)

-- why a number refuses a named step in a state
pub data RefusedStep (t : Tree) (s : LockState) (thread kind domain : ℕ) : (number : ℕ) → Type 0 where
  no_thread : t.threads ≤ thread → RefusedStep t s thread kind domain 12
  counter_full : thread < t.threads → bad_counter t s (thread ∷ []) 0 ≡ true → RefusedStep t s thread kind domain 19
  other_kind :
      thread < t.threads → bad_counter t s (thread ∷ []) 0 ≡ false → kind ≢ kind_number (step t thread s.words).kind →
      RefusedStep t s thread kind domain 26
  other_domain :
      thread < t.threads → bad_counter t s (thread ∷ []) 0 ≡ false → kind ≡ kind_number (step t thread s.words).kind →
      domain ≢ (step t thread s.words).domain → RefusedStep t s thread kind domain 29

-- the state after the first steps of a list of threads
abbrev pub after_first : Tree → LockState → (threads : List ℕ) → (count : ℕ) → LockState
after_first t s is n = lock_after t s (steps t (take n is) s.words)

-- a number refuses at a place: the steps before it are steps of the table, and the step there is refused in the state after them
pub record RefusedAt (t : Tree) (s : LockState) (threads kinds domains : List ℕ) (number place : ℕ) : Type 0 where
  pub within : place < length threads
  pub before : OfTheTable t s (take place threads) (take place kinds) (take place domains)
  pub refused_step : RefusedStep t (after_first t s threads place) (get_or threads place 0) (get_or kinds place 0) (get_or domains place 0) number

-- the check accepts exactly the steps of the table, and refuses exactly at the first other step
pub record ChecksExactly (w : TreeWords) (s : LockState) (threads kinds domains : List ℕ) : Type 0 where
  pub accepts : ((steps_answer w s threads kinds domains).number ≡ 0) ⟺ OfTheTable (tree_of w) s threads kinds domains
  pub refuses :
      (n p : ℕ) → n ≢ 0 →
      (((steps_answer w s threads kinds domains).number ≡ n) × ((steps_answer w s threads kinds domains).place ≡ p))
      ⟺ RefusedAt (tree_of w) s threads kinds domains n p

-- for every call that is not refused before the steps
unfoldable pub ExactlyLaw : Type 0
ExactlyLaw =
    (w : TreeWords) (s : LockState) (threads kinds domains : List ℕ) → (early_refusal (tree_of w) s threads kinds domains).number ≡ 0 →
    ChecksExactly w s threads kinds domains

-- 3. THE STATE is the one after the right steps: all of them if the check accepts, those before the place if it refuses. An accepted run of these steps returns the same state
pub record Leaves (w : TreeWords) (s : LockState) (threads kinds domains : List ℕ) : Type 0 where
  pub few : (steps_answer w s threads kinds domains).checked ≤ length threads
  pub all : (early_refusal (tree_of w) s threads kinds domains).number ≡ 0 → (steps_answer w s threads kinds domains).number ≡ 0 → (steps_answer w s threads kinds domains).checked ≡ length threads
  pub before_place :
      (early_refusal (tree_of w) s threads kinds domains).number ≡ 0 → (steps_answer w s threads kinds domains).number ≢ 0 →
      (steps_answer w s threads kinds domains).place ≡ (steps_answer w s threads kinds domains).checked
  pub state : (steps_answer w s threads kinds domains).state ≡ after_first (tree_of w) s threads (steps_answer w s threads kinds domains).checked
  pub as_run :
      (trace : List ℕ) → (run_answer w s (take (steps_answer w s threads kinds domains).checked threads) trace).number ≡ 0 →
      (steps_answer w s threads kinds domains).state ≡ (run_answer w s (take (steps_answer w s threads kinds domains).checked threads) trace).state

-- for every call
unfoldable pub StateLaw : Type 0
StateLaw = (w : TreeWords) (s : LockState) (threads kinds domains : List ℕ) → Leaves w s threads kinds domains

-- the next call accepts this state: it is well formed, with good counters
pub record Acceptable (t : Tree) (s : LockState) : Type 0 where
  pub form : Formed t s.words
  pub counts : good_counts t s.counters ≡ true

-- for every call on a well-formed state that is not refused before the steps
unfoldable pub ReturnedStateLaw : Type 0
ReturnedStateLaw =
    (w : TreeWords) (s : LockState) (threads kinds domains : List ℕ) → Formed (tree_of w) s.words →
    (early_refusal (tree_of w) s threads kinds domains).number ≡ 0 → Acceptable (tree_of w) (steps_answer w s threads kinds domains).state

-- 4. PIECES. Two lists of named steps, the second checked from the state that the first check returned. If the first is refused, the whole is refused in the same way; if it is accepted, the whole answers what the second does, with the place shifted
pub record Pieces (w : TreeWords) (s : LockState) (threads kinds domains threads' kinds' domains' : List ℕ) : Type 0 where
  pub first_refused :
      (steps_answer w s threads kinds domains).number ≢ 0 →
      steps_answer w s (threads ++ threads') (kinds ++ kinds') (domains ++ domains') ≡ steps_answer w s threads kinds domains
  pub number :
      (let first = steps_answer w s threads kinds domains in
      first.number ≡ 0 →
      (steps_answer w s (threads ++ threads') (kinds ++ kinds') (domains ++ domains')).number ≡ (steps_answer w first.state threads' kinds' domains').number)
  pub place :
      (let first = steps_answer w s threads kinds domains in
      let second = steps_answer w first.state threads' kinds' domains' in
      first.number ≡ 0 → second.number ≢ 0 →
      (steps_answer w s (threads ++ threads') (kinds ++ kinds') (domains ++ domains')).place ≡ length threads + second.place)
  pub as_many :
      (let first = steps_answer w s threads kinds domains in
      first.number ≡ 0 →
      (steps_answer w s (threads ++ threads') (kinds ++ kinds') (domains ++ domains')).checked
      ≡ length threads + (steps_answer w first.state threads' kinds' domains').checked)
  pub state :
      (let first = steps_answer w s threads kinds domains in
      first.number ≡ 0 →
      (steps_answer w s (threads ++ threads') (kinds ++ kinds') (domains ++ domains')).state ≡ (steps_answer w first.state threads' kinds' domains').state)

-- for lists of equal lengths, from a well-formed state with arrays of the right lengths
unfoldable pub PiecesLaw : Type 0
PiecesLaw =
    (w : TreeWords) (s : LockState) (threads kinds domains threads' kinds' domains' : List ℕ) → Formed (tree_of w) s.words →
    (early_refusal (tree_of w) s threads kinds domains).number ≡ 0 → length kinds' ≡ length threads' → length domains' ≡ length threads' →
    Pieces w s threads kinds domains threads' kinds' domains'

-- 5. THE CHECK OF A JOURNAL agrees: a journal is accepted exactly if its threads and kinds, with the domains of the table's steps, are accepted here from a fresh lock. Journals of more than 2^63 entries are excluded, since 19 would refuse them
unfoldable pub JournalLaw : Type 0
JournalLaw =
    (w : TreeWords) (bytes : List ℕ) (xs : List NamedStep) → (tree_refusal (tree_of w)).number ≡ 0 → Journal bytes xs → length xs ≤ most_counted →
    (journal_refusal w bytes ≡ accepted)
    ⟺ ((steps_answer w fresh_lock (threads_of xs) (kinds_of xs) (domains_reported (steps (tree_of w) (threads_of xs) fresh_lock.words))).number ≡ 0)
