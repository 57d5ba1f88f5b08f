-- A FILE THAT DESCRIBES A TREE AND A SCHEDULE: what the file call answers, and that its run is a list of calls.
use mathlib.Core.Path.{◌≡◌, refl, sym, ap, ◌∙◌}
use mathlib.Core.Bool.{Bool, true, false, cond, true≢false}
use mathlib.Core.List.{List, [], ◌∷◌, ◌++◌}
use Prim.Native.Nat.{ℕ}
use lib.Dec.{eqb}
use lib.ListN.{length, take, replicate}
use borrow.Author.Tests.{le-ltb, eq-eqb}
use Rattle.model.specs.declared.TreeWords.{TreeWords}
use Rattle.model.specs.declared.RunReply.{RunReply}
use Rattle.model.specs.Trees.{tree_of}
use Rattle.model.specs.States.{fresh_words, fresh_state}
use Rattle.model.specs.Counters.{lock_state, fresh_counters, fresh_lock}
use Rattle.model.specs.Refusals.{tree_refusal, run_refusal}
use Rattle.model.specs.Answers.{fresh_answer, run_reply, run_answer, run_buffer, trace_answer}
use Rattle.model.specs.Laws.{CountLaw}
use Rattle.claims.specs.Reached.{LoneRunLaw}
use Rattle.model.proofs.Laws.Form.{fresh_at_zero}
use Rattle.model.proofs.Laws.Runs.{count_law}
use Rattle.claims.proofs.Claims.Accepts.{lone_run_law}
use Rattle.model.specs.Calls.{state_in, answer_to, answer, answers}
use Rattle.lock_file.specs.FileAnswers.FileAnswers.{file_run, file_trace, reading_outcome, file_outcome}
use Rattle.lock_file.specs.ReadingLaws.{FormatLaw}
use Rattle.lock_file.specs.FileAnswers.FileLaws.{DescribedLaw, FileClaimLaw}
use Rattle.lock_file.proofs.FormatLaw.{format_law}

pub described_law : DescribedLaw
unfolding DescribedLaw FormatLaw file_outcome reading_outcome
described_law bs w is room h x = rw (le-ltb 65536 (length bs) h, (format_law bs w is).1 x)

take_front : (xs ys : List ℕ) → take (length xs) (xs ++ ys) ≡ xs
take_front [] ys = refl
take_front (x ∷ xs) ys = ap (λ zs. x ∷ zs) (take_front xs ys)

-- the trace buffer of an accepted run, up to the number of its entries, is its trace
front_listed : (b : Bool) (n : ℕ) (x : RunReply) (y : RunReply) (trace rest buffer : List ℕ) →
    eqb n 0 ≡ b → y.number ≡ n → length trace ≡ x.counts.entries → (cond b x y).number ≡ 0 → take (cond b x y).counts.entries (cond b (trace ++ rest) buffer) ≡ trace
front_listed true n x y trace rest buffer e f l z = rw (← l) (take_front trace rest)
front_listed false n x y trace rest buffer e f l z = absurd (true≢false (sym (eq-eqb n 0 (sym f ∙ z)) ∙ e))

listed_law : (w : TreeWords) (is : List ℕ) → (file_run w is).number ≡ 0 → take (file_run w is).counts.entries (trace_answer w fresh_lock is (replicate (length is) 0)) ≡ file_trace w is
unfolding file_run file_trace run_answer run_reply trace_answer run_buffer CountLaw
listed_law w is h =
    front_listed (eqb (run_refusal (tree_of w) fresh_lock is (length (replicate (length is) 0))).number 0) _ _ _ _ _ _ refl refl (count_law (tree_of w) is fresh_words).traced h

-- a fresh call that starts at 0 returns a state that is 0 throughout, accepted or refused
pub zero_start : (w : TreeWords) → (fresh_answer w 0).state ≡ fresh_lock
unfolding fresh_answer
zero_start w = by (eqb (tree_refusal (tree_of w)).number 0)
  where
    by : (a : Bool) → lock_state (fresh_state (tree_of w) (cond a 0 0)) fresh_counters ≡ fresh_lock
    by true = ap (λ s. lock_state s fresh_counters) (fresh_at_zero (tree_of w))
    by false = ap (λ s. lock_state s fresh_counters) (fresh_at_zero (tree_of w))

pub file_claim_law : FileClaimLaw
unfolding FileClaimLaw LoneRunLaw answers answer answer_to state_in file_run
file_claim_law w is h = record { answered = refl; listed = listed_law w is; claimed = rw (zero_start w) at (lone_run_law w 0 is (replicate (length is) 0) h) }
