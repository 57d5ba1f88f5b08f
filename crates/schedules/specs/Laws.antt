-- THE LAWS OF MANY SCHEDULES IN ONE CALL. These are statements; their proofs are in proofs/.
use Rattle.std.specs.Prelude.{◌≡◌, List, [], ◌∷◌, ◌≢◌, ◌⊎◌, ℕ, ◌*◌, ◌≤◌, ◌<◌, length, take, drop, get_or, replicate}
use Rattle.model.specs.declared.TreeWords.{TreeWords}
use Rattle.model.specs.Trees.{Tree, tree_of}
use Rattle.model.specs.Refusals.{refusal, accepted, first_refusal, schedule_tests, tree_refusal}
use Rattle.model.specs.Answers.{fresh_answer, run_answer}
use Rattle.model.specs.Calls.{joined}
use Rattle.claims.specs.Claim.{Claim}
use Rattle.model.specs.Laws.{RefusesExactly}
use Rattle.claims.specs.Reached.{lone_run}
use Rattle.schedules.specs.Rows.{total, cut, row_of, after_one_another}
use Rattle.schedules.specs.Refusals.{many_tests, many_refusal}
use Rattle.schedules.specs.Answers.{many_answer, many_reply, rows_answer}

-- 1. REFUSALS. The general law of refusals covers the list of tests; in plain numbers, one of these four holds for every call
pub record RefusesMany (t : Tree) (lengths : List ℕ) (entries room : ℕ) : Type 0 where
  pub exactly : RefusesExactly (many_tests t lengths entries room)
  pub tree_refused : (tree_refusal t).number ≢ 0 → many_refusal t lengths entries room ≡ tree_refusal t
  pub total_refused : (tree_refusal t).number ≡ 0 → total lengths ≢ entries → many_refusal t lengths entries room ≡ refusal 22 0
  pub room_refused :
      (tree_refusal t).number ≡ 0 → total lengths ≡ entries → room < 8 * length lengths → many_refusal t lengths entries room ≡ refusal 23 0
  pub accepts :
      (tree_refusal t).number ≡ 0 → total lengths ≡ entries → 8 * length lengths ≤ room → many_refusal t lengths entries room ≡ accepted

-- for every tree, lengths, number of entries and buffer length
unfoldable pub ManyRefusalLaw : Type 0
ManyRefusalLaw = (t : Tree) (lengths : List ℕ) (entries room : ℕ) → RefusesMany t lengths entries room

-- no lengths and no entries: accepted, and nothing is written
unfoldable pub NoneLaw : Type 0
NoneLaw =
    (w : TreeWords) (buffer : List ℕ) → (tree_refusal (tree_of w)).number ≡ 0 →
    (many_answer w [] [] buffer ≡ accepted) × (rows_answer w [] [] buffer ≡ buffer)

-- 2. SCHEDULES. The k-th has the k-th length and starts where those before it end
abbrev pub schedule_at : (lengths entries : List ℕ) → (k : ℕ) → List ℕ
schedule_at ns es k = take (get_or ns k 0) (drop (total (take k ns)) es)

-- if the lengths add up, the entries are the schedules one after another, each with its own length
pub record Cuts (lengths entries : List ℕ) : Type 0 where
  pub as_many : length (cut lengths entries) ≡ length lengths
  pub in_order : (k : ℕ) → k < length lengths → get_or (cut lengths entries) k [] ≡ schedule_at lengths entries k
  pub long : (k : ℕ) → k < length lengths → length (schedule_at lengths entries k) ≡ get_or lengths k 0
  pub all_entries : after_one_another (cut lengths entries) ≡ entries

-- this holds if the lengths add up to the number of entries
unfoldable pub CutLaw : Type 0
CutLaw = (lengths entries : List ℕ) → total lengths ≡ length entries → Cuts lengths entries

-- 3. ROWS. The k-th row of a buffer
abbrev pub row_at : (k : ℕ) → (buffer : List ℕ) → List ℕ
row_at k b = take 8 (drop (8 * k) b)

-- what a row says about its schedule
pub record Says (w : TreeWords) (schedule row : List ℕ) : Type 0 where
  -- it is what a run of this schedule alone answers, from the state that a fresh call with start 0 returns, with any trace buffer of its length
  pub alone : (trace : List ℕ) → length trace ≡ length schedule → row ≡ row_of (run_answer w (fresh_answer w 0).state schedule trace)
  -- its number and place come only from the tests of the schedule, so 10 and 13 do not occur, and the place of 12 is a position in this schedule
  pub refused : refusal (get_or row 0 0) (get_or row 1 0) ≡ first_refusal (schedule_tests (tree_of w) schedule)
  pub number : (get_or row 0 0 ≡ 0) ⊎ ((get_or row 0 0 ≡ 11) ⊎ (get_or row 0 0 ≡ 12))
  pub no_counts : get_or row 0 0 ≢ 0 → drop 2 row ≡ replicate 6 0
  -- the claim of the third demand, for a list of one run on its own lock
  pub claimed : (trace : List ℕ) → Claim (tree_of w) (fresh_answer w 0).state (lone_run w schedule trace ∷ []) (joined (lone_run w schedule trace ∷ []) (fresh_answer w 0).state)

-- this holds for every row of an accepted call
unfoldable pub RowLaw : Type 0
RowLaw =
    (w : TreeWords) (lengths entries buffer : List ℕ) → (many_answer w lengths entries buffer).number ≡ 0 → (k : ℕ) → k < length lengths →
    Says w (schedule_at lengths entries k) (row_at k (rows_answer w lengths entries buffer))

-- 4. THE BUFFER keeps its length and what is after the rows; a refused call changes nothing in it. The reply reports how many rows are at its front
pub record KeepsRest (w : TreeWords) (lengths entries buffer : List ℕ) : Type 0 where
  pub long : length (rows_answer w lengths entries buffer) ≡ length buffer
  pub after : drop (8 * length lengths) (rows_answer w lengths entries buffer) ≡ drop (8 * length lengths) buffer
  pub refused : (many_answer w lengths entries buffer).number ≢ 0 → rows_answer w lengths entries buffer ≡ buffer
  pub rows_counted : (many_answer w lengths entries buffer).number ≡ 0 → (many_reply w lengths entries buffer).rows ≡ length lengths
  pub none_reported : (many_answer w lengths entries buffer).number ≢ 0 → (many_reply w lengths entries buffer).rows ≡ 0

-- for every call
unfoldable pub BufferLaw : Type 0
BufferLaw = (w : TreeWords) (lengths entries buffer : List ℕ) → KeepsRest w lengths entries buffer
