-- What the code keeps for each thread while it counts, and the rows that it writes from it.
use Rattle.std.specs.Prelude.{◌≡◌, Bool, false, not, cond, ◌||◌, List, [], ◌∷◌, ◌++◌, ◌⊎◌, ℕ, zero, suc, ◌+◌, ◌-◌, ◌*◌, ◌≤◌, ◌<◌, eqb, length, get_or, set}
use Rattle.model.specs.Trees.{Tree}
use Rattle.model.specs.Steps.{is_entry, Step}
use Rattle.model.specs.Runs.{how_many}
use Rattle.model.specs.Scans.{largest_below}
use Rattle.model.specs.Counters.{most_counted}
use Rattle.schedules.specs.Rows.{total}
use Rattle.waits.specs.Attempts.{waits_from, under_way_from}
use Rattle.waits.specs.Rows.{largest, row_with, capped}

-- A STEP begins an attempt, given the thread's home and the number of its place: the row plus 16 times the domain
unfoldable pub begins_number : (ticket_home : Bool) → (home place : ℕ) → Bool
begins_number b h p = cond b (eqb p 0 || eqb p 11) (eqb p (2 + 16 * h))

-- THE ENTRIES are counted from 2^63 on, so that there is a mark for every number that may be under way before them
abbrev pub first : ℕ
first = most_counted

-- THE MARK of a thread: one more than the entries counted before its attempt began; 0 if none is under way. A step may begin one
abbrev pub mark_with : (begins : Bool) → (entered mark : ℕ) → ℕ
mark_with b n m = cond b (n + 1) m

-- the mark for a number under way before the steps
unfoldable pub mark_of : (under_way : ℕ) → ℕ
mark_of a = cond (eqb a 0) 0 (first + 2 - a)

-- the number under way for a mark after the steps
unfoldable pub number_of : (entered mark : ℕ) → ℕ
number_of n m = cond (eqb m 0) 0 (n + 2 - m)

-- an entry finishes an attempt that is under way
abbrev pub finishes : (enters : Bool) → (mark : ℕ) → Bool
finishes e m = cond e (not (eqb m 0)) false

-- its wait: the entries since it began, all by other threads
abbrev pub wait_of : (entered mark : ℕ) → ℕ
wait_of n m = n + 1 - m

-- the table with another number at an index, or unchanged
abbrev pub noted : Bool → List ℕ → (at number : ℕ) → List ℕ
noted b l k v = cond b (set l k v) l

-- a mark and a number under way agree, given the entries so far
abbrev pub Marked : (entered under_way mark : ℕ) → Type 0
Marked n a m = ((a ≡ 0) × (m ≡ 0)) ⊎ ((0 < a) × ((a + m ≡ n + 2) × (0 < m)))

-- what is kept for a thread after some steps, given the number under way before them
pub record Tallied (t : Tree) (under_way : ℕ) (done : List Step) (i mark attempts whole most : ℕ) : Type 0 where
  pub attempts_are : attempts ≡ length (waits_from t i under_way done)
  pub total_is : whole ≡ total (waits_from t i under_way done)
  pub largest_is : most ≡ largest (waits_from t i under_way done)
  pub marked : Marked (first + how_many is_entry done) (under_way_from t i under_way done) mark

-- what is kept for all threads, with the entries so far
pub record Tallies (t : Tree) (under_way : List ℕ) (done : List Step) (marks attempts totals longest : List ℕ) (entered : ℕ) : Type 0 where
  pub rooms : (length marks ≡ 256) × ((length attempts ≡ 256) × ((length totals ≡ 256) × (length longest ≡ 256)))
  pub entered_are : entered ≡ first + how_many is_entry done
  pub small : (i : ℕ) → i < 256 → get_or under_way i 0 ≤ most_counted
  pub each : (i : ℕ) → i < 256 → Tallied t (get_or under_way i 0) done i (get_or marks i 0) (get_or attempts i 0) (get_or totals i 0) (get_or longest i 0)

-- ROWS from the tables: those of the first threads
unfoldable pub table_rows : (threads : ℕ) → (attempts totals longest : List ℕ) → List ℕ
table_rows zero a w m = []
table_rows (suc n) a w m = table_rows n a w m ++ row_with (get_or a n 0) (get_or w n 0) (get_or m n 0)

-- the sum of the first numbers of a table
unfoldable pub sum_below : ℕ → List ℕ → ℕ
sum_below zero l = 0
sum_below (suc n) l = sum_below n l + get_or l n 0

-- all rows, with the last row for all threads together
unfoldable pub rows_by : (threads : ℕ) → (attempts totals longest : List ℕ) → List ℕ
rows_by n a w m = table_rows n a w m ++ row_with (sum_below n a) (capped (sum_below n w)) (largest_below n (λ i. get_or m i 0))

-- THE NUMBERS UNDER WAY of the first threads, from their marks
unfoldable pub numbers_by : (threads entered : ℕ) → (marks : List ℕ) → List ℕ
numbers_by zero n ms = []
numbers_by (suc k) n ms = numbers_by k n ms ++ (number_of n (get_or ms k 0) ∷ [])
