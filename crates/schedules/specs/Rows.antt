-- Document 02, (xi): the schedules of a call, and the row of each.
use Rattle.std.specs.Prelude.{List, [], ◌∷◌, ◌++◌, ℕ, ◌+◌, take, drop}
use Rattle.model.specs.declared.TreeWords.{TreeWords}
use Rattle.model.specs.declared.RunReply.{RunReply}
use Rattle.model.specs.Answers.{lone_answer}

-- the sum of the lengths
unfoldable pub total : (lengths : List ℕ) → ℕ
total [] = 0
total (n ∷ ns) = n + total ns

-- the schedules: consecutive parts of the entries, with these lengths
unfoldable pub cut : (lengths entries : List ℕ) → List (List ℕ)
cut [] es = []
cut (n ∷ ns) es = take n es ∷ cut ns (drop n es)

-- the answer to a schedule run alone, from its own fresh lock and with a trace buffer of its length
unfoldable pub alone : TreeWords → (schedule : List ℕ) → RunReply
alone w is = lone_answer w is

-- a row: number, place and counts
unfoldable pub row_of : RunReply → List ℕ
row_of r =
    r.number ∷ r.place ∷ r.counts.steps ∷ r.counts.entries ∷ r.counts.stays ∷ r.counts.root ∷ r.counts.passed
    ∷ r.counts.crossed ∷ []

-- one row for each schedule, in their order
unfoldable pub rows_of : TreeWords → (schedules : List (List ℕ)) → List (List ℕ)
rows_of w [] = []
rows_of w (is ∷ iss) = row_of (alone w is) ∷ rows_of w iss

-- the lists joined in order
unfoldable pub after_one_another : List (List ℕ) → List ℕ
after_one_another [] = []
after_one_another (xs ∷ xss) = xs ++ after_one_another xss

-- the numbers of all rows
abbrev pub all_rows : TreeWords → (schedules : List (List ℕ)) → List ℕ
all_rows w iss = after_one_another (rows_of w iss)
