-- A run by its steps: what is counted, traced and reported.
use Rattle.std.specs.Prelude.{cond, List, [], ◌∷◌, ◌++◌, ℕ, ◌+◌, ◌*◌, eqb, ltb, get_or, set, length, drop}
use Rattle.model.specs.declared.State.{State}
use Rattle.model.specs.Places.{words_of}
use Rattle.model.specs.States.{fresh_words, with_ticket, with_grant}
use Rattle.model.specs.declared.Counts.{Counts}
use Rattle.model.specs.Steps.{stay, other, root_entry, passed_entry, crossed_entry, leaving, kind_number, is_kind, Step}
use Rattle.model.specs.Runs.{how_many, Run}
use Rattle.rows.specs.Common.Standing.{is_entry_number}

-- how many steps are of each kind, in the order of the kind numbers
unfoldable pub kinds_of : List Step → List ℕ
kinds_of xs =
    how_many (is_kind stay) xs ∷ how_many (is_kind other) xs ∷ how_many (is_kind root_entry) xs ∷ how_many (is_kind passed_entry) xs
    ∷ how_many (is_kind crossed_entry) xs ∷ how_many (is_kind leaving) xs ∷ []

-- one more step of a kind
abbrev pub counted : (kinds : List ℕ) → (kind : ℕ) → List ℕ
counted ks k = set ks k (get_or ks k 0 + 1)

-- the counts of a run, given how many of its steps are of each kind
abbrev pub counts_by : (kinds : List ℕ) → Counts
counts_by ks =
    record {
      steps = get_or ks 0 0 + get_or ks 1 0 + get_or ks 2 0 + get_or ks 3 0 + get_or ks 4 0 + get_or ks 5 0;
      entries = get_or ks 2 0 + get_or ks 3 0 + get_or ks 4 0;
      stays = get_or ks 0 0;
      root = get_or ks 2 0;
      passed = get_or ks 3 0;
      crossed = get_or ks 4 0;
    }

-- the buffer with an entering thread at an index
abbrev pub traced_at : List ℕ → (at kind thread : ℕ) → List ℕ
traced_at b n k i = cond (is_entry_number k) (set b n i) b

-- the buffer with a run's trace at its front
abbrev pub trace_front : List ℕ → Run → List ℕ
trace_front b x = x.trace ++ drop (length x.trace) b

-- a step encoded in one number: its kind, the row of its place before, and the domain that this place names
abbrev pub code_of : (kind row domain : ℕ) → ℕ
code_of k r d = k + 8 * r + 128 * d

-- the number of a step
unfoldable pub step_code : Step → ℕ
step_code x = code_of (kind_number x.kind) (words_of x.place).row (words_of x.place).domain

-- the buffer with a number at an index; unchanged if the index is beyond its end
abbrev pub code_stored : List ℕ → (at code : ℕ) → List ℕ
code_stored b n v = cond (ltb n (length b)) (set b n v) b

-- the buffer with the numbers of the first steps at its front, as many as fit
unfoldable pub codes_front : List ℕ → List Step → List ℕ
codes_front [] xs = []
codes_front (b ∷ bs) [] = b ∷ bs
codes_front (b ∷ bs) (x ∷ xs) = step_code x ∷ codes_front bs xs

-- a fresh state whose ticket counters have this value
abbrev pub fresh_from : (first : ℕ) → State
fresh_from v = with_grant v (with_ticket v fresh_words)

-- that value, given the number of a refusal, the number of the kind of root, and the start
abbrev pub first_number : (number kind start : ℕ) → ℕ
first_number n k v = cond (eqb n 0) (cond (eqb k 0) 0 v) 0
