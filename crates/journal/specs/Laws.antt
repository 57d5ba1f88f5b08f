-- THE LAWS OF THE CHECK OF A JOURNAL. These are statements; their proofs are in proofs/. None is about the reader.
use Rattle.std.specs.Prelude.{◌≡◌, List, [], ◌∷◌, ◌++◌, ◌≢◌, ℕ, ◌%◌, ◌/◌, ◌≤◌, ◌<◌, length}
use Rattle.model.specs.declared.TreeWords.{TreeWords}
use Rattle.model.specs.declared.State.{State}
use Rattle.model.specs.Trees.{Tree, tree_of}
use Rattle.model.specs.Steps.{kind_number, Step, step}
use Rattle.model.specs.Runs.{steps, state_after}
use Rattle.model.specs.Refusals.{refusal, accepted, tree_refusal}
use Rattle.model.specs.Laws.{◌⟺◌, AllThreads}
use Rattle.journal.specs.Entries.{NamedStep, EntryBytes, Journal, threads_of, kinds_of, last_thread}
use Rattle.journal.specs.Answers.{fresh_lock, journal_refusal}

-- the kind numbers of steps
unfoldable pub kind_numbers : List Step → List ℕ
kind_numbers [] = []
kind_numbers (x ∷ xs) = kind_number x.kind ∷ kind_numbers xs

-- the named steps are those of the step table from a state: all threads are in the tree, and the kinds are those of the table's steps over these threads
pub record OfTheTable (t : Tree) (s : State) (xs : List NamedStep) : Type 0 where
  pub threads_known : AllThreads t (threads_of xs)
  pub kinds_given : kinds_of xs ≡ kind_numbers (steps t (threads_of xs) s)

-- the bytes are the entries of such steps from a fresh lock
pub record StepsOf (w : TreeWords) (bytes : List ℕ) : Type 0 where
  pub entries : List NamedStep
  pub journal : Journal bytes entries
  pub of_the_table : OfTheTable (tree_of w) (fresh_lock w) entries

-- the state after the steps of the entries
abbrev pub after_entries : TreeWords → List NamedStep → State
after_entries w xs = state_after (fresh_lock w) (steps (tree_of w) (threads_of xs) (fresh_lock w))

-- the bytes begin with an entry that names x
pub record BeginsWith (before : ℕ) (bytes : List ℕ) (x : NamedStep) : Type 0 where
  pub front : List ℕ
  pub further : List ℕ
  pub together : bytes ≡ front ++ further
  pub entry : EntryBytes before front x

-- why a number refuses the entry at the front of the bytes
pub data RefusedEntry (t : Tree) (s : State) (before : ℕ) (bytes : List ℕ) : (number : ℕ) → Type 0 where
  -- 25: there are bytes but no entry: it is cut off or has another bit set
  no_entry : bytes ≢ [] → ((x : NamedStep) → ¬ BeginsWith before bytes x) → RefusedEntry t s before bytes 25
  -- 12: the thread is not in the tree
  no_thread : (x : NamedStep) → BeginsWith before bytes x → t.threads ≤ x.thread → RefusedEntry t s before bytes 12
  -- 26: the thread is in the tree, but the kind is not the step's
  other_kind :
      (x : NamedStep) → BeginsWith before bytes x → x.thread < t.threads → x.kind ≢ kind_number (step t x.thread s).kind →
      RefusedEntry t s before bytes 26

-- a number refuses at a place: the entries before the place are steps of the table, and the entry there is the first that is not
pub record RefusedBy (w : TreeWords) (bytes : List ℕ) (number place : ℕ) : Type 0 where
  pub front : List ℕ
  pub rest : List ℕ
  pub together : bytes ≡ front ++ rest
  pub there : place ≡ length front
  pub steps_before : StepsOf w front
  pub refused_entry : RefusedEntry (tree_of w) (after_entries w steps_before.entries) (last_thread 0 steps_before.entries) rest number

-- 1. THE CHECK. 4 to 9 and 16 for the tree; otherwise accepted exactly if the bytes are the entries of steps of the table, and refused exactly at the first entry that is not
pub record ChecksExactly (w : TreeWords) (bytes : List ℕ) : Type 0 where
  pub tree_refused : (tree_refusal (tree_of w)).number ≢ 0 → journal_refusal w bytes ≡ tree_refusal (tree_of w)
  pub accepts : (tree_refusal (tree_of w)).number ≡ 0 → (journal_refusal w bytes ≡ accepted) ⟺ StepsOf w bytes
  pub refuses : (tree_refusal (tree_of w)).number ≡ 0 → (n p : ℕ) → n ≢ 0 → (journal_refusal w bytes ≡ refusal n p) ⟺ RefusedBy w bytes n p

-- for every tree and journal
unfoldable pub CheckLaw : Type 0
CheckLaw = (w : TreeWords) (bytes : List ℕ) → ChecksExactly w bytes

-- 2. ONE READING. The same bytes are the entries of at most one list
unfoldable pub OneReadingLaw : Type 0
OneReadingLaw = (bytes : List ℕ) (xs ys : List NamedStep) → Journal bytes xs → Journal bytes ys → xs ≡ ys

-- 3. EVERY SCHEDULE HAS A JOURNAL: the bytes with thread and kind of every step written
unfoldable pub written_out : (threads kinds : List ℕ) → List ℕ
written_out [] ks = []
written_out (i ∷ is) [] = []
written_out (i ∷ is) (k ∷ ks) = 3 ∷ i % 256 ∷ i / 256 ∷ k ∷ written_out is ks

-- the journal of a schedule's steps is accepted
unfoldable pub WrittenLaw : Type 0
WrittenLaw =
    (w : TreeWords) (is : List ℕ) → (tree_refusal (tree_of w)).number ≡ 0 → AllThreads (tree_of w) is →
    journal_refusal w (written_out is (kind_numbers (steps (tree_of w) is (fresh_lock w)))) ≡ accepted
