-- Document 02, (x) and the sentence about chains in (xii): the chain of threads that a thread waits for.
use Rattle.std.specs.Prelude.{Bool, false, ◌&&◌, ◌||◌, cond, List, [], ◌∷◌, ◌++◌, ℕ, zero, suc, ◌+◌, ◌-◌, eqb, ltb}
use Rattle.model.specs.declared.Place.{Place}
use Rattle.model.specs.declared.Place.TheVariants.{Idle, Prep, Swap, Link, Wait, Inside, Check, Help, Cas, Linger, Grant, Draw, Watch, Raise, Invalid}
use Rattle.model.specs.declared.State.{State}
use Rattle.model.specs.Scans.{filter_below}
use Rattle.model.specs.Trees.{Tree, own_record}
use Rattle.model.specs.Places.{words_of}
use Rattle.model.specs.States.{next, status, place, wrap}
use Rattle.model.specs.Steps.{stay, is_kind, step}
use Rattle.model.specs.Runs.{occurrences}
use Rattle.model.specs.Acts.{acts}

-- the thread's next step, by the step table, is a stay
unfoldable pub stays : Tree → State → (thread : ℕ) → Bool
stays t s i = is_kind stay (step t i s).kind

-- thread j acts at the domain for a record whose next is r, that is, for the record ahead of r in the queue
unfoldable pub acts_ahead : Tree → State → (domain number thread : ℕ) → Bool
acts_ahead t s l r j = acts t s j l && eqb (next s (own_record t j l)) (r + 1)

-- the place is Link with record r
abbrev pub links : Place → (number : ℕ) → Bool
links p r = eqb (words_of p).row 3 && eqb (words_of p).peer r

-- the ticket just before another; 65,535 comes before 0
abbrev pub ticket_before : (ticket : ℕ) → ℕ
ticket_before v = wrap (v + 65535)

-- thread j acts at the root (which includes watching and raising) for a record with this ticket
unfoldable pub acts_holding : Tree → State → (ticket thread : ℕ) → Bool
acts_holding t s v j = acts t s j 0 && eqb (status s (own_record t j 0)) v

-- thread i, at a place, looks to thread j: in Wait, if j acts for the record ahead of its own; in Linger, if j is in Link with its record; in Watch, if j acts for a record with the ticket just before its own
unfoldable pub looked_to : Tree → State → (thread : ℕ) → Place → (other : ℕ) → Bool
looked_to t s i Idle j = false
looked_to t s i (Prep l) j = false
looked_to t s i (Swap l) j = false
looked_to t s i (Link l p) j = false
looked_to t s i (Wait l) j = acts_ahead t s l (own_record t i l) j
looked_to t s i Inside j = false
looked_to t s i (Check l) j = false
looked_to t s i (Help l) j = false
looked_to t s i (Cas l) j = false
looked_to t s i (Linger l) j = links (place s j) (own_record t i l)
looked_to t s i (Grant l r w) j = false
looked_to t s i Draw j = false
looked_to t s i Watch j = acts_holding t s (ticket_before (status s (own_record t i 0))) j
looked_to t s i Raise j = false
looked_to t s i Invalid j = false

-- the threads that a thread looks to, in order of their numbers; none if its next step is not a stay
unfoldable pub looks_to : Tree → State → (thread : ℕ) → List ℕ
looks_to t s i = cond (stays t s i) (filter_below t.threads (looked_to t s i (place s i))) []

-- 0 unless the list has exactly one element; otherwise one more than that element
unfoldable pub only : List ℕ → ℕ
only [] = 0
only (j ∷ []) = suc j
only (j ∷ k ∷ js) = 0

-- the thread is in the list
unfoldable pub among : (thread : ℕ) → List ℕ → Bool
among j xs = ltb 0 (occurrences j xs)

-- the chain continues from its last thread while that thread looks to exactly one thread that is not on it, and ends at a thread whose next step is not a stay; it is empty if it can do neither. No thread occurs twice, so as many links as threads are enough
unfoldable pub chain_from : (fuel : ℕ) → Tree → State → (chain : List ℕ) → (last : ℕ) → List ℕ
chain_from zero t s c i = []
chain_from (suc k) t s c i =
    let one = only (looks_to t s i) in
    let j = one - 1 in
    let longer = chain_from k t s (c ++ (j ∷ [])) j in
    cond (stays t s i) (cond (eqb one 0 || among j c) [] longer) c

-- the chain of a thread, starting with the thread itself
unfoldable pub chain : Tree → State → (thread : ℕ) → List ℕ
chain t s i = chain_from t.threads t s (i ∷ []) i
