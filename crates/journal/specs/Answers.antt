-- Document 02, (xiv): what the check of a journal answers, for every input.
use Rattle.std.specs.Prelude.{cond, List, ℕ, zero, suc, eqb, leb, length}
use Rattle.model.specs.declared.TreeWords.{TreeWords}
use Rattle.model.specs.declared.State.{State}
use Rattle.model.specs.Trees.{Tree, tree_of}
use Rattle.model.specs.Steps.{kind_number, Step, step}
use Rattle.model.specs.Refusals.{Refusal, refusal, accepted, tree_refusal}
use Rattle.model.specs.Answers.{fresh_answer}
use Rattle.journal.specs.declared.Entry.{Entry}
use Rattle.journal.specs.declared.Entry.TheVariants.{Named, Broken, End}
use Rattle.journal.specs.declared.JournalReply.{JournalReply}
use Rattle.journal.specs.Reading.{entry_at}

-- the words of a fresh lock: what a fresh call with start 0 returns, at both kinds of root, without its counters, which no step reads
abbrev pub fresh_lock : TreeWords → State
fresh_lock w = (fresh_answer w 0).state.words

-- 26 if the kind is not the step's; otherwise what follows
unfoldable pub kind_checked : (kind position : ℕ) → Step → (following : State → Refusal) → Refusal
kind_checked k p x f = cond (eqb (kind_number x.kind) k) (f x.state) (refusal 26 p)

-- one entry: 25 if it is cut off or has another bit set; then 12 for its thread; then 26. The place is that of its first byte
unfoldable pub entry_checked : Entry → Tree → State → (position : ℕ) → (following : State → (next thread : ℕ) → Refusal) → Refusal
entry_checked (Named i k next) t s p f =
    cond (leb t.threads i) (refusal 12 p) (kind_checked k p (step t i s) (λ s'. f s' next i))
entry_checked Broken t s p f = refusal 25 p
entry_checked End t s p f = accepted

-- the entries from a position on, whose steps follow one another from a state; at most `left` entries
unfoldable pub checked : (left : ℕ) → Tree → State → (bytes : List ℕ) → (position before : ℕ) → Refusal
checked zero t s bs p b = accepted
checked (suc n) t s bs p b = entry_checked (entry_at bs p b) t s p (λ s' next i. checked n t s' bs next i)

-- 4 to 9 and 16 for the tree, then the entries, from a fresh lock. A journal has at most as many entries as bytes
unfoldable pub journal_refusal : TreeWords → (bytes : List ℕ) → Refusal
journal_refusal w bs =
    let r = tree_refusal (tree_of w) in
    cond (eqb r.number 0) (checked (length bs) (tree_of w) (fresh_lock w) bs 0 0) r

-- the reply with the number and place of a refusal
abbrev pub replied : Refusal → JournalReply
replied r = record { number = r.number; place = r.place }

-- what the call answers
unfoldable pub journal_answer : TreeWords → (bytes : List ℕ) → JournalReply
journal_answer w bs = replied (journal_refusal w bs)
