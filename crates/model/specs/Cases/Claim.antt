-- COMPUTED CASES OF THE THIRD DEMAND: allowances that are reached, so no smaller allowance and no narrower "under" would do; and a list with refused calls that the claim covers.
use Rattle.std.specs.Prelude.{◌≡◌, Bool, true, ◌&&◌, not, List, [], ◌∷◌, ◌++◌, ℕ, eqb, replicate}
use Rattle.model.specs.declared.TreeWords.{TreeWords}
use Rattle.model.specs.Trees.{tree_of, is_member, allowance}
use Rattle.model.specs.States.{fresh_words}
use Rattle.model.specs.Steps.{step}
use Rattle.model.specs.Runs.{steps, run, begun_in, ended, entries_under, occurrences}
use Rattle.model.specs.Counters.{fresh_lock}
use Rattle.model.specs.Refusals.{Refusal, refusal, accepted}
use Rattle.model.specs.Answers.{fresh_answer}
use Rattle.model.specs.Calls.{Ask, one_step, a_run, Call, Answer, stepped, ran, answers, joined, Names}
use Rattle.model.specs.Cases.Marked.{tree, count_up, same_numbers, two_homes}

-- ALLOWANCES. After the schedule `until`, member m begins to stand ungranted with a step of the beginner; while it stands, the entries under q are as many as q's allowance, which is the number given. All conditions of the claim's `bounded` hold
unfoldable pub reaches : TreeWords → (until : List ℕ) → (beginner : ℕ) → (meanwhile : List ℕ) → (m q number : ℕ) → Bool
reaches w until i meanwhile m q n =
    let t = tree_of w in
    let x = step t i (run t until fresh_words).state in
    let later = steps t meanwhile x.state in
    (same_numbers (begun_in x.standing) (m ∷ []) && eqb (occurrences m (ended x.domain later)) 0)
    && ((is_member t x.domain q && not (eqb q m)) && (eqb (entries_under t q later) n && eqb (allowance t q) n))

-- a leaf below the root, threshold 2, with threads 0 and 1
unfoldable pub one_leaf : TreeWords
one_leaf = tree 2 2 (0 ∷ 0 ∷ []) (0 ∷ 2 ∷ []) (1 ∷ 1 ∷ [])

-- the allowance of a thread, 1: thread 1 begins to stand in the leaf after thread 0, which goes on to the root and enters
unfoldable pub thread_allowance_reached : Bool
thread_allowance_reached = reaches one_leaf (0 ∷ 0 ∷ 1 ∷ []) 1 (0 ∷ 0 ∷ []) 1 0 1

-- below the root: domain 1 with threshold 2, and the leaves 4 and 5 with threshold 1. Below domain 1: the leaves 2 and 3 with threshold 2. Threads 0 and 1 are in leaf 2, threads 2 and 3 in leaf 3, thread 4 in leaf 4, thread 5 in leaf 5
unfoldable pub two_leaves_below : TreeWords
two_leaves_below = tree 6 6 (0 ∷ 0 ∷ 1 ∷ 1 ∷ 0 ∷ 0 ∷ []) (0 ∷ 2 ∷ 2 ∷ 2 ∷ 1 ∷ 1 ∷ []) (2 ∷ 2 ∷ 3 ∷ 3 ∷ 4 ∷ 5 ∷ [])

-- thread 5 is Inside; domain 1 stands in the root's queue, leaf 3 in domain 1's queue, threads 1 and 3 in the queues of their leaves; thread 4's next step is Swap at the root
unfoldable pub until_leaf_stands : List ℕ
until_leaf_stands = replicate 4 5 ++ replicate 7 0 ++ replicate 3 1 ++ replicate 5 2 ++ replicate 3 3 ++ replicate 3 4

-- while leaf 4 stands: thread 5 leaves and grants domain 1; threads 0 and 1 enter, leaf 2 passes the lock to leaf 3, threads 2 and 3 enter
unfoldable pub while_leaf_stands : List ℕ
while_leaf_stands = replicate 4 5 ++ replicate 4 0 ++ replicate 5 1 ++ replicate 4 2 ++ 3 ∷ []

-- the allowance of an inner domain, 2 times 2, with entries from both leaves below it
unfoldable pub inner_allowance_reached : Bool
inner_allowance_reached = reaches two_leaves_below until_leaf_stands 4 while_leaf_stands 260 257 4

-- both allowances are reached
unfoldable pub AllowancesReached : Type 0
AllowancesReached = (thread_allowance_reached ≡ true) × (inner_allowance_reached ≡ true)

-- A LIST WITH REFUSED CALLS, some of which name other trees. A call with these parts
abbrev pub call : TreeWords → Ask → Call
call w a = record { tree = w; ask = a }

-- 65 domains
unfoldable pub too_many_domains : TreeWords
too_many_domains = tree 65 63 (replicate 64 0) (replicate 64 1) (count_up 1 63)

-- other words for the same tree: they differ only where they are not read
unfoldable pub two_homes_again : TreeWords
two_homes_again = tree 3 3 (9 ∷ 0 ∷ 0 ∷ 7 ∷ []) (5 ∷ 2 ∷ 16 ∷ 7 ∷ []) (1 ∷ 1 ∷ 2 ∷ 7 ∷ [])

-- accepted and refused calls
unfoldable pub mixed_calls : List Call
mixed_calls =
    call two_homes (one_step 0)
    ∷ call too_many_domains (one_step 0)
    ∷ call two_homes (a_run (0 ∷ 0 ∷ 0 ∷ 1 ∷ 1 ∷ []) (replicate 6 999))
    -- there is no thread 3
    ∷ call two_homes (a_run (1 ∷ 3 ∷ []) (replicate 6 999))
    ∷ call two_homes_again (one_step 1)
    ∷ call two_homes (a_run (0 ∷ 0 ∷ 0 ∷ 1 ∷ []) (replicate 4 999))
    ∷ []

-- the entries of the accepted calls
unfoldable pub mixed_schedule : List ℕ
mixed_schedule = (0 ∷ []) ++ (0 ∷ 0 ∷ 0 ∷ 1 ∷ 1 ∷ []) ++ (1 ∷ []) ++ (0 ∷ 0 ∷ 0 ∷ 1 ∷ [])

-- the number and place of an answer
unfoldable pub refusal_in : Answer → Refusal
refusal_in (stepped r) = refusal r.number r.place
refusal_in (ran r b) = refusal r.number r.place

-- the numbers and places of a list of answers
unfoldable pub refusals_in : List Answer → List Refusal
refusals_in [] = []
refusals_in (a ∷ rest) = refusal_in a ∷ refusals_in rest

-- the fresh call is accepted, the list names its tree, some calls are refused, and the list's schedule is that of the others
pub record MixedCallsAnswered : Type 0 where
  pub fresh : (fresh_answer two_homes 0).number ≡ 0
  pub names : Names (tree_of two_homes) mixed_calls fresh_lock
  pub refused :
      refusals_in (answers mixed_calls fresh_lock)
      ≡ accepted ∷ refusal 4 0 ∷ accepted ∷ refusal 12 1 ∷ accepted ∷ accepted ∷ []
  pub schedule : joined mixed_calls fresh_lock ≡ mixed_schedule
