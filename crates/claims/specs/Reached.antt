-- WHAT HOLDS IN EVERY STATE REACHED FROM FRESH, beside the claim. Each is a statement; proofs/ has its proof.
use Rattle.std.specs.Prelude.{◌≡◌, true, ◌&&◌, not, cond, List, [], ◌∷◌, ◌++◌, ◌≢◌, ℕ, suc, ◌+◌, ◌-◌, ◌≤◌, ◌<◌, eqb, length, drop, replicate}
use Rattle.model.specs.declared.TreeWords.{TreeWords}
use Rattle.model.specs.declared.State.{State}
use Rattle.model.specs.declared.LockState.{LockState}
use Rattle.model.specs.declared.Place.TheVariants.{Idle, Wait, Check, Grant}
use Rattle.model.specs.Trees.{Tree, tree_of, is_ticket, own_record, is_member}
use Rattle.model.specs.States.{none, tail, next, status, place, wrap, fresh_state, with_place}
use Rattle.model.specs.Steps.{stay, is_entry, RowResult, step_from, moves, release_place, check_row, step}
use Rattle.model.specs.Runs.{steps, run, begun, ended, occurrences}
use Rattle.model.specs.Acts.{acts}
use Rattle.model.specs.Counters.{most_counted}
use Rattle.model.specs.Refusals.{accepted, tree_refusal}
use Rattle.model.specs.Answers.{fresh_answer}
use Rattle.model.specs.Laws.{AllThreads, FreshRun, FromFresh}
use Rattle.model.specs.Calls.{Ask, one_step, a_run, Call, state_in, answer, ask_refusal, call_refusal, asked_entries, joined, Names}
use Rattle.claims.specs.Claim.{Claim}

-- NOT EMPTY: in a list, a call that names the tree and existing threads, with room, is accepted, so long as the list's schedule together with the call's own has at most 2^63 entries
-- the state that the last call of a list returned
unfoldable pub last_state : List Call → LockState → LockState
last_state [] s = s
last_state (c ∷ cs) s = last_state cs (state_in (answer c s))

-- existing threads, no more entries than are allowed, and a trace buffer at least as long as the schedule
unfoldable pub ValidAsk : Tree → Ask → Type 0
ValidAsk t (one_step i) = i < t.threads
ValidAsk t (a_run is b) = AllThreads t is × (length is ≤ 65536) × (length is ≤ length b)

unfoldable pub NeverRefused : Type 0
NeverRefused =
    (w : TreeWords) (start : ℕ) (cs : List Call) → (fresh_answer w start).number ≡ 0 → Names (tree_of w) cs (fresh_answer w start).state →
    (c : Call) → tree_of c.tree ≡ tree_of w → ValidAsk (tree_of w) c.ask →
    length (joined cs (fresh_answer w start).state) + length (asked_entries c.ask) ≤ most_counted → call_refusal c (last_state cs (fresh_answer w start).state) ≡ accepted

-- in any state, a call that is accepted asks so; and the longest run that is allowed does
unfoldable pub ValidAskLaw : Type 0
ValidAskLaw = (t : Tree) (a : Ask) (s : LockState) → (ask_refusal t a s).number ≡ 0 → ValidAsk t a

unfoldable pub LongestRunLaw : Type 0
LongestRunLaw = (t : Tree) → 0 < t.threads → ValidAsk t (a_run (replicate 65536 0) (replicate 65536 0))

-- THE LISTING'S TEST. Check as the listing has it, by equality with the threshold
unfoldable pub equality_check_row : Tree → (thread domain : ℕ) → State → RowResult
equality_check_row t i l s =
    let I = own_record t i l in
    let v = status s I in
    let n = next s I in
    cond (not (eqb v (t.threshold l)) && not (eqb n none))
    (moves (with_place i (Grant l (n - 1) (v + 1)) s))
    (moves (with_place i (release_place t (t.parent l)) s))

-- at every Check the status is a count from 1 to the threshold, so both tests give the same step
pub record CountsAtCheck (t : Tree) (s : State) (i l : ℕ) : Type 0 where
  pub started : 1 ≤ status s (own_record t i l)
  pub within : status s (own_record t i l) ≤ t.threshold l
  pub same_row : check_row t i l s ≡ equality_check_row t i l s
  pub same_step : step t i s ≡ step_from t i (Check l) (equality_check_row t i l s)

unfoldable pub EqualityLaw : Type 0
EqualityLaw =
    (t : Tree) (s : State) → FromFresh t s → (i l : ℕ) → i < t.threads → place s i ≡ Check l → CountsAtCheck t s i l

-- COUNTS PASSED ON. From fresh, the count that Check passes on is one more than a count that has started, so from 2 to the threshold
unfoldable pub PassedCountLaw : Type 0
PassedCountLaw =
    (t : Tree) (s : State) → FromFresh t s → (i l r v : ℕ) → i < t.threads → place s i ≡ Check l → place (step t i s).state i ≡ Grant l r v →
    (2 ≤ v) × (v ≤ t.threshold l)

-- PASSING ON. From fresh, an entry from Wait below the root is at a domain whose threshold is at least 2
unfoldable pub PassingLaw : Type 0
PassingLaw =
    (t : Tree) (s : State) → FromFresh t s → (i l : ℕ) → i < t.threads → place s i ≡ Wait l → l ≢ 0 → is_entry (step t i s).kind ≡ true →
    2 ≤ t.threshold l

-- so with every threshold 1 no run from fresh makes a passed or a crossed entry
unfoldable pub ThresholdOneLaw : Type 0
ThresholdOneLaw =
    (t : Tree) → (tree_refusal t).number ≡ 0 → ((d : ℕ) → t.threshold d ≤ 1) → (start : ℕ) (is : List ℕ) → AllThreads t is →
    ((run t is (fresh_state t start)).counts.passed ≡ 0) × ((run t is (fresh_state t start)).counts.crossed ≡ 0)

-- QUEUES. One more than the last of a list, or none
unfoldable pub last_or_none : List ℕ → ℕ
last_or_none [] = none
last_or_none (m ∷ []) = suc m
last_or_none (m ∷ n ∷ ms) = last_or_none (n ∷ ms)

-- thread i acts for the record m at the domain d
pub record ActsFor (t : Tree) (s : State) (d m i : ℕ) : Type 0 where
  pub real : i < t.threads
  pub acting : acts t s i d ≡ true
  pub record_there : own_record t i d ≡ m

pub record ActedOnce (t : Tree) (s : State) (d m : ℕ) : Type 0 where
  pub thread : ℕ
  pub acting : ActsFor t s d m thread
  pub only : (j : ℕ) → ActsFor t s d m j → j ≡ thread

-- members hold consecutive tickets from a number on, and the ticket counter is the one after the last
unfoldable pub Consecutive : State → (from : ℕ) → List ℕ → Type 0
Consecutive s v [] = s.ticket ≡ v
Consecutive s v (m ∷ ms) = (status s m ≡ v) × Consecutive s (wrap (v + 1)) ms

-- each domain has a queue of members, none twice: the tail names its last, and at a ticket root there is none, but the members hold consecutive tickets from the grant on; after its first are those who stand ungranted, in order; and exactly one thread acts for each of its members, and none for a member that is not in it
pub record HasQueues (t : Tree) (f : State) (S : List ℕ) (s : State) : Type 0 where
  pub queue : (domain : ℕ) → List ℕ
  pub tails : (d : ℕ) → tail s d ≡ cond (is_ticket t d) none (last_or_none (queue d))
  pub tickets : t.ticket_root ≡ true → Consecutive s s.grant (queue 0)
  pub standing : (d : ℕ) → begun d (steps t S f) ≡ ended d (steps t S f) ++ drop 1 (queue d)
  pub members : (d m : ℕ) → 1 ≤ occurrences m (queue d) → is_member t d m ≡ true
  pub once : (d m : ℕ) → occurrences m (queue d) ≤ 1
  pub acted : (d m : ℕ) → 1 ≤ occurrences m (queue d) → ActedOnce t s d m
  pub acted_only : (d m i : ℕ) → ActsFor t s d m i → 1 ≤ occurrences m (queue d)

unfoldable pub QueueLaw : Type 0
QueueLaw =
    (t : Tree) (start : ℕ) (is : List ℕ) → FreshRun t is → HasQueues t (fresh_state t start) is (run t is (fresh_state t start)).state

-- AT MOST 256 WAIT: no queue has more members, that of a ticket root included; so 16-bit counters distinguish their tickets
unfoldable pub FewWaitingLaw : Type 0
FewWaitingLaw =
    (t : Tree) → (tree_refusal t).number ≡ 0 → (f : State) (S : List ℕ) (s : State) → (x : HasQueues t f S s) → (d : ℕ) → length (x.queue d) ≤ 256

-- SOMEONE CAN MOVE: a thread of the tree that is not Idle, and whose next step, which is what the step table gives, is no stay and so changes the state
pub record CanMove (t : Tree) (s : State) : Type 0 where
  pub thread : ℕ
  pub real : thread < t.threads
  pub not_idle : place s thread ≢ Idle
  pub no_stay : (step t thread s).kind ≢ stay
  pub changes : (step t thread s).state ≢ s

-- for both kinds of root, in every state reached from fresh in which some thread is not Idle
unfoldable pub MoveLaw : Type 0
MoveLaw = (t : Tree) (s : State) → FromFresh t s → (i : ℕ) → place s i ≢ Idle → CanMove t s

-- and after every list of steps and runs on one fresh lock
unfoldable pub ListMoveLaw : Type 0
ListMoveLaw =
    (w : TreeWords) (start : ℕ) (cs : List Call) → (fresh_answer w start).number ≡ 0 → Names (tree_of w) cs (fresh_answer w start).state →
    (i : ℕ) → place (last_state cs (fresh_answer w start).state).words i ≢ Idle → CanMove (tree_of w) (last_state cs (fresh_answer w start).state).words

-- A RUN ON A LOCK OF ITS OWN, as the file call makes it, is such a list
abbrev pub lone_run : TreeWords → (schedule buffer : List ℕ) → Call
lone_run w is b = record { tree = w; ask = a_run is b }

unfoldable pub LoneRunLaw : Type 0
LoneRunLaw =
    (w : TreeWords) (start : ℕ) (is b : List ℕ) → (fresh_answer w start).number ≡ 0 →
    Claim (tree_of w) (fresh_answer w start).state (lone_run w is b ∷ []) (joined (lone_run w is b ∷ []) (fresh_answer w start).state)
