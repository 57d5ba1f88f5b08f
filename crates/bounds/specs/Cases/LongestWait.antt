-- COMPUTED CASES: values of W; attempts with exactly W entries in line, all of them prompt, so that no lower number is a bound; and a stalled releaser, which lets more than W enter.
use Rattle.std.specs.Prelude.{◌≡◌, Bool, true, ◌&&◌, List, [], ◌∷◌, ◌++◌, ℕ, ◌+◌, ◌*◌, ◌-◌, ◌/◌, eqb, replicate}
use Rattle.model.specs.declared.TreeWords.{TreeWords}
use Rattle.model.specs.declared.State.{State}
use Rattle.model.specs.Trees.{tree_of}
use Rattle.model.specs.States.{fresh_state}
use Rattle.model.specs.Steps.{Step, step}
use Rattle.model.specs.Runs.{steps, run, entering, occurrences}
use Rattle.model.specs.Laws.{AllThreads}
use Rattle.model.specs.Cases.Marked.{tree, at_ticket_root, two_homes, two_in_root}
use Rattle.claims.specs.Cases.Moving.{three_in_root}
use Rattle.model.specs.Cases.Ticket.{three_in_ticket}
use Rattle.bounds.specs.Cases.StarvationFreedom.{all_threads}
use Rattle.waits.specs.Attempts.{begins}
use Rattle.bounds.specs.LongestWait.Bounds.{wait_bound}
use Rattle.bounds.specs.LongestWait.InLine.{in_line, bypass, late_entry, count_steps}
use Rattle.bounds.specs.LongestWait.Laws.{Attempt}

-- W of a thread
pub record BoundCase : Type 0 where
  pub words : TreeWords
  pub thread : ℕ
  pub bound : ℕ

-- a case with these parts
abbrev pub bound_case : TreeWords → (thread bound : ℕ) → BoundCase
bound_case w i b = record { words = w; thread = i; bound = b }

-- whether a case holds
unfoldable pub bound_holds : BoundCase → Bool
bound_holds c = eqb (wait_bound (tree_of c.words) c.thread) c.bound

-- whether every case of a list holds
unfoldable pub all_bounds : List BoundCase → Bool
all_bounds [] = true
all_bounds (c ∷ cs) = bound_holds c && all_bounds cs

-- two sockets with four groups of eight threads each; the threshold of the groups is given first, then that of the sockets
unfoldable pub two_sockets : (groups sockets : ℕ) → TreeWords
two_sockets g h =
    tree 11 64 (0 ∷ 0 ∷ 0 ∷ replicate 4 1 ++ replicate 4 2) (0 ∷ h ∷ h ∷ replicate 8 g)
    (replicate 8 3 ++ replicate 8 4 ++ replicate 8 5 ++ replicate 8 6 ++ replicate 8 7 ++ replicate 8 8 ++ replicate 8 9 ++ replicate 8 10)

-- the cases of W
unfoldable pub bound_cases : List BoundCase
bound_cases =
    -- two threads in the root, of either kind
    bound_case two_in_root 0 1
    ∷ bound_case (at_ticket_root two_in_root) 1 1
    -- a leaf with two threads and threshold 2, and one with one thread and threshold 16, which has nobody to pass to
    ∷ bound_case two_homes 0 2
    ∷ bound_case two_homes 2 2
    -- thresholds equal to the numbers of members: every other thread enters once
    ∷ bound_case (two_sockets 8 4) 0 63
    ∷ bound_case (two_sockets 16 1) 0 119
    ∷ bound_case (two_sockets 16 4) 63 119
    ∷ bound_case (two_sockets 16 8) 0 183
    ∷ bound_case (two_sockets 16 8) 63 183
    ∷ bound_case (two_sockets 16 64) 0 1079
    ∷ []

-- AN ATTEMPT: a schedule from fresh, the first step, which is the thread's, and the schedule after it; how many entries are in line for it, how many are bypasses, and how many are not prompt
pub record WaitCase : Type 0 where
  pub words : TreeWords
  pub start : ℕ
  pub thread : ℕ
  pub before : List ℕ
  pub meanwhile : List ℕ
  pub entries_in_line : ℕ
  pub bypasses : ℕ
  pub late : ℕ

-- an attempt in which all entries are prompt and their number is W
abbrev pub reaches : TreeWords → (start thread : ℕ) → (before meanwhile : List ℕ) → (bound : ℕ) → WaitCase
reaches w v i bs ms n = record { words = w; start = v; thread = i; before = bs; meanwhile = ms; entries_in_line = n; bypasses = 0; late = 0 }

-- the state before the first step
abbrev pub state_before : WaitCase → State
state_before c = (run (tree_of c.words) c.before (fresh_state (tree_of c.words) c.start)).state

-- the first step
abbrev pub first_step : WaitCase → Step
first_step c = step (tree_of c.words) c.thread (state_before c)

-- the steps after it
abbrev pub steps_on : WaitCase → List Step
steps_on c = steps (tree_of c.words) c.meanwhile (first_step c).state

-- it is an attempt, with these numbers of entries
unfoldable pub wait_holds : WaitCase → Bool
wait_holds c =
    let t = tree_of c.words in
    let i = c.thread in
    let x = first_step c in
    let xs = steps_on c in
    (all_threads t (c.before ++ (i ∷ c.meanwhile)) && (begins t i x && eqb (occurrences i (entering (x ∷ xs))) 0))
    && (eqb (count_steps (in_line t i) x.state xs) c.entries_in_line
    && (eqb (count_steps (bypass t i) x.state xs) c.bypasses && eqb (count_steps (late_entry t i) x.state xs) c.late))

-- whether every case of a list holds
unfoldable pub all_waits : List WaitCase → Bool
all_waits [] = true
all_waits (c ∷ cs) = wait_holds c && all_waits cs

-- the number of entries in line is W
unfoldable pub all_reach : List WaitCase → Bool
all_reach [] = true
all_reach (c ∷ cs) = eqb c.entries_in_line (wait_bound (tree_of c.words) c.thread) && all_reach cs

-- a case that passes is an attempt as in the laws, made by threads of the tree
unfoldable pub DecidesAttempts : Type 0
DecidesAttempts =
    (c : WaitCase) → wait_holds c ≡ true →
    (let t = tree_of c.words in
    let schedule = c.before ++ (c.thread ∷ c.meanwhile) in
    AllThreads t schedule × Attempt t schedule c.start c.thread (first_step c) (steps_on c))

-- a leaf with three threads and threshold 2, which does not divide three, and one with one thread
unfoldable pub three_and_one : TreeWords
three_and_one = tree 3 4 (0 ∷ 0 ∷ 0 ∷ []) (0 ∷ 2 ∷ 1 ∷ []) (1 ∷ 1 ∷ 1 ∷ 2 ∷ [])

-- below the root, domain 1 and a leaf with one thread; below domain 1, two leaves with one thread each; all thresholds 1
unfoldable pub two_below_one : TreeWords
two_below_one = tree 5 3 (0 ∷ 0 ∷ 0 ∷ 1 ∷ 1 ∷ []) (0 ∷ 1 ∷ 1 ∷ 1 ∷ 1 ∷ []) (3 ∷ 4 ∷ 2 ∷ [])

-- below the root, domain 1 and a leaf with one thread; below domain 1, one leaf with two threads; the thresholds of domain 1 and this leaf are given
unfoldable pub one_below_one : (domain leaf : ℕ) → TreeWords
one_below_one h g = tree 4 3 (0 ∷ 0 ∷ 0 ∷ 1 ∷ []) (0 ∷ h ∷ 1 ∷ g ∷ []) (3 ∷ 3 ∷ 2 ∷ [])

-- leaf 1 with threads 0 and 1, and leaf 2 with thread 2; thresholds 1
unfoldable pub ones : TreeWords
ones = tree 3 3 (0 ∷ 0 ∷ 0 ∷ []) (0 ∷ 1 ∷ 1 ∷ []) (1 ∷ 1 ∷ 2 ∷ [])

-- attempts that reach W
unfoldable pub reaching_cases : List WaitCase
reaching_cases =
    -- in the root, of either kind
    reaches three_in_root 0 2 (replicate 3 0 ++ replicate 3 1 ++ replicate 5 0 ++ 2 ∷ []) (2 ∷ replicate 4 1 ++ 0 ∷ []) 2
    ∷ reaches three_in_ticket 65534 2 (0 ∷ 0 ∷ 1 ∷ 0 ∷ 0 ∷ []) (1 ∷ 1 ∷ 1 ∷ 0 ∷ []) 2
    -- in a leaf; the other domain has one member, so its threshold of 16 has no effect
    ∷ reaches two_homes 0 0 (replicate 5 0 ++ replicate 3 1 ++ replicate 3 0) (0 ∷ replicate 3 1 ++ replicate 5 2 ++ replicate 4 1 ++ replicate 4 0 ++ 2 ∷ []) 2
    ∷ reaches (at_ticket_root two_homes) 65535 0 (replicate 5 0 ++ 1 ∷ replicate 3 2 ++ replicate 4 0 ++ 1 ∷ []) (0 ∷ 1 ∷ replicate 6 2 ++ 1 ∷ []) 2
    -- a threshold that does not divide the number of members: two tenures for three members
    ∷ reaches three_and_one 0 2 (replicate 6 0 ++ 1 ∷ 2 ∷ replicate 5 3 ++ replicate 9 0 ++ 1 ∷ 1 ∷ [])
    (2 ∷ replicate 7 3 ++ replicate 4 0 ++ replicate 3 1 ++ replicate 5 3 ++ replicate 4 1 ++ replicate 4 2 ++ 3 ∷ []) 4
    -- two tenures of an inner domain
    ∷ reaches two_below_one 0 0 (replicate 9 0 ++ replicate 3 1 ++ replicate 5 2 ++ replicate 7 0)
    (0 ∷ 1 ∷ 0 ∷ 0 ∷ replicate 3 1 ++ replicate 7 2 ++ replicate 4 1 ++ replicate 5 2 ++ replicate 4 1 ++ replicate 4 0 ++ 1 ∷ 1 ∷ 2 ∷ []) 3
    -- all passes of an inner domain; it has one member, so its own threshold has no effect
    ∷ reaches (one_below_one 1 4) 0 2 (replicate 4 2 ++ replicate 7 0 ++ replicate 3 1 ++ replicate 7 2)
    (replicate 3 2 ++ replicate 7 0 ++ replicate 4 1 ++ 0 ∷ 0 ∷ replicate 3 1 ++ 0 ∷ 0 ∷ 1 ∷ []) 4
    ∷ reaches (one_below_one 5 2) 0 2 (replicate 4 2 ++ replicate 7 0 ++ replicate 3 1 ++ replicate 7 2) (replicate 3 2 ++ replicate 4 0 ++ 1 ∷ []) 2
    ∷ []

-- THREE EQUAL LEVELS: two threads per home with threshold 1, three homes per socket with threshold 2, and two sockets
unfoldable pub two_by_three_by_two : TreeWords
two_by_three_by_two =
    tree 9 12 (0 ∷ 0 ∷ 0 ∷ replicate 3 1 ++ replicate 3 2) (0 ∷ 2 ∷ 2 ∷ replicate 6 1) (3 ∷ 3 ∷ 4 ∷ 4 ∷ 5 ∷ 5 ∷ 6 ∷ 6 ∷ 7 ∷ 7 ∷ 8 ∷ 8 ∷ [])

-- a quotient rounded up
unfoldable pub rounded_up : (number by : ℕ) → ℕ
rounded_up n d = (n + d - 1) / d

-- the longest wait by source document 000, section 4.2, equation 19: the other threads, and their unfair entries. There are a threads per home, b homes per socket and c sockets; the thresholds are h and k
unfoldable pub equation_19 : (a b c h k : ℕ) → ℕ
equation_19 a b c h k =
    let homes = rounded_up a h in
    let sockets = rounded_up (homes * b) k in
    (a * b * c - 1) + (sockets * (h * k) - a * b) * (c - 1) + (homes * h - a) * (b - 1)

-- with only prompt entries, thread 8 waits for W = 13 entries, although that equation allows 11: a socket whose queue is empty for a moment releases the root early
unfoldable pub beyond_equation_19 : WaitCase
beyond_equation_19 =
    reaches two_by_three_by_two 0 8
    (replicate 6 3 ++ replicate 7 11 ++ replicate 5 9 ++ replicate 5 1 ++ replicate 6 3 ++ replicate 9 1 ++ replicate 7 5 ++ replicate 6 1 ++ replicate 10 11
    ++ replicate 5 2 ++ replicate 10 9 ++ replicate 7 6 ++ replicate 5 8 ++ replicate 3 9 ++ replicate 2 11 ++ replicate 8 5 ++ replicate 5 4 ++ replicate 15 1
    ++ replicate 2 5 ++ replicate 4 2 ++ replicate 12 6 ++ replicate 11 8)
    (8 ∷ replicate 4 11 ++ replicate 4 9 ++ replicate 7 2 ++ replicate 5 3 ++ replicate 10 4 ++ replicate 4 1 ++ replicate 4 5 ++ replicate 7 11 ++ replicate 10 6
    ++ replicate 4 9 ++ replicate 7 1 ++ replicate 10 3 ++ replicate 4 5 ++ replicate 13 9 ++ replicate 5 2 ++ replicate 5 1 ++ replicate 7 11 ++ replicate 5 6
    ++ replicate 4 8 ++ replicate 7 5 ++ replicate 5 4 ++ replicate 10 2 ++ replicate 4 1 ++ replicate 7 11 ++ replicate 10 6 ++ replicate 4 8 ++ replicate 7 1 ++ 4 ∷ [])
    13

-- the releaser, thread 0, gets no turn before its Help at home: thread 2 enters four times, and W of thread 1 is 3. None of these entries is in line
unfoldable pub stalled_case : WaitCase
stalled_case =
    let round : List ℕ = replicate 10 2 ++ (1 ∷ []) in
    record {
      words = ones;
      start = 0;
      thread = 1;
      before = replicate 4 0 ++ (1 ∷ []);
      meanwhile = 1 ∷ replicate 4 0 ++ (round ++ (round ++ (round ++ round)));
      entries_in_line = 0;
      bypasses = 4;
      late = 4;
    }

-- all cases hold
pub record CasesHold : Type 0 where
  pub bounds : all_bounds bound_cases ≡ true
  pub attempts_decided : DecidesAttempts
  pub attempts : all_waits reaching_cases ≡ true
  pub reached : all_reach reaching_cases ≡ true
  pub stalled : wait_holds stalled_case ≡ true
  pub stalled_bound : wait_bound (tree_of ones) 1 ≡ 3
  pub beyond : wait_holds beyond_equation_19 ≡ true
  pub beyond_bound : wait_bound (tree_of two_by_three_by_two) 8 ≡ 13
  pub allowed : equation_19 2 3 2 1 2 ≡ 11
  -- the paper's own example of that equation: 9 more than the 23 other threads
  pub example : equation_19 3 4 2 2 3 ≡ 32
