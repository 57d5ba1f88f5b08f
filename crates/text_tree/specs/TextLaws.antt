-- THE LAWS OF TREES AS TEXT. These are statements; their proofs are in proofs/.
use Rattle.std.specs.Prelude.{◌≡◌, true, List, ◌≢◌, ◌⊎◌, ℕ, ◌+◌, ◌≤◌, ◌<◌, length, take, replicate}
use Rattle.model.specs.declared.TreeWords.{TreeWords}
use Rattle.model.specs.Trees.{Tree, tree_of, under}
use Rattle.model.specs.Refusals.{accepted, tree_refusal}
use Rattle.model.specs.Laws.{◌⟺◌}
use Rattle.text_tree.specs.Grammar.{Shape, Text, SomeText, Beginning, domains_in, threads_in, words_of}
use Rattle.text_tree.specs.Answers.{refused_by, accepted_reply, text_answer}

-- 1. ACCEPTED. The reader accepts exactly the texts of the grammar within the limits of document 01, and returns their words
pub record AcceptedText (bytes : List ℕ) (w : TreeWords) : Type 0 where
  pub shape : Shape
  pub text : Text bytes shape
  pub domains_fit : domains_in shape ≤ 64
  pub threads_fit : threads_in shape ≤ 256
  pub words : w ≡ words_of shape

-- for every text and tree
unfoldable pub AcceptedLaw : Type 0
AcceptedLaw = (bytes : List ℕ) (w : TreeWords) → (text_answer bytes ≡ accepted_reply w) ⟺ AcceptedText bytes w

-- 2. ONE READING. A text is the text of only one tree
unfoldable pub OneReadingLaw : Type 0
OneReadingLaw = (bytes : List ℕ) (t u : Shape) → Text bytes t → Text bytes u → t ≡ u

-- 3. REFUSED. A text of the grammar with too many domains
pub record ManyDomains (bytes : List ℕ) : Type 0 where
  pub shape : Shape
  pub text : Text bytes shape
  pub too_many : 64 < domains_in shape

-- a text of the grammar with too many threads, but not too many domains
pub record ManyThreads (bytes : List ℕ) : Type 0 where
  pub shape : Shape
  pub text : Text bytes shape
  pub domains_fit : domains_in shape ≤ 64
  pub too_many : 256 < threads_in shape

-- all words are 0
pub record AllZero (w : TreeWords) : Type 0 where
  pub no_domains : w.domains ≡ 0
  pub no_threads : w.threads ≡ 0
  pub no_parents : w.parents ≡ replicate 64 0
  pub no_thresholds : w.thresholds ≡ replicate 64 0
  pub no_homes : w.homes ≡ replicate 256 0
  pub queue_root : w.ticket_root ≡ 0

-- when a text is refused
pub record RefusesExactly (bytes : List ℕ) : Type 0 where
  -- 15: the bytes are not a text of the grammar
  pub no_text : ((text_answer bytes).number ≡ 15) ⟺ (¬ SomeText bytes)
  -- its place is the first byte with which no text continues
  pub leaves :
      (p : ℕ) → p < length bytes →
      (text_answer bytes ≡ refused_by 15 p) ⟺ (Beginning (take p bytes) × (¬ Beginning (take (p + 1) bytes)))
  -- or the length, if the text ends too early
  pub ends : (text_answer bytes ≡ refused_by 15 (length bytes)) ⟺ (Beginning bytes × (¬ SomeText bytes))
  pub no_place_after : (text_answer bytes).number ≡ 15 → (text_answer bytes).place ≤ length bytes
  -- 4, then 5
  pub many_domains : (text_answer bytes ≡ refused_by 4 0) ⟺ ManyDomains bytes
  pub many_threads : (text_answer bytes ≡ refused_by 5 0) ⟺ ManyThreads bytes
  -- no other number refuses
  pub no_other :
      ((text_answer bytes).number ≡ 0) ⊎ (((text_answer bytes).number ≡ 15) ⊎ (((text_answer bytes).number ≡ 4) ⊎ ((text_answer bytes).number ≡ 5)))
  -- a refused text gives no domains and no threads
  pub no_words_left : (text_answer bytes).number ≢ 0 → AllZero (text_answer bytes).tree

-- for every text
unfoldable pub RefusedLaw : Type 0
RefusedLaw = (bytes : List ℕ) → RefusesExactly bytes

-- 4. NOTHING ELSE REFUSES. A domain has a thread under it
pub record HasThreads (t : Tree) (domain : ℕ) : Type 0 where
  pub thread : ℕ
  pub of_tree : thread < t.threads
  pub below : under t (256 + domain) thread ≡ true

-- the tree passes the tests of a fresh lock, and every domain has a thread under it
pub record Passes (t : Tree) : Type 0 where
  pub tests : tree_refusal t ≡ accepted
  pub has_threads : (d : ℕ) → d < t.domains → HasThreads t d

-- this holds for the tree of every accepted text
unfoldable pub PassesLaw : Type 0
PassesLaw = (bytes : List ℕ) (w : TreeWords) → text_answer bytes ≡ accepted_reply w → Passes (tree_of w)
