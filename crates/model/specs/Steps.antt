-- The step table of document 01, one row per schedule entry; and the rows of a ticket lock at the root, document 02, (xii).
use Rattle.std.specs.Prelude.{Bool, true, false, ◌&&◌, not, cond, List, [], ◌∷◌, ℕ, ◌+◌, ◌-◌, eqb, ltb}
use Rattle.model.specs.declared.Place.{Place}
use Rattle.model.specs.declared.Place.TheVariants.{Idle, Prep, Swap, Link, Wait, Inside, Check, Help, Cas, Linger, Grant, Draw, Watch, Raise, Invalid}
use Rattle.model.specs.declared.State.{State}
use Rattle.model.specs.Scans.{any_below, filter_below}
use Rattle.model.specs.Trees.{Tree, is_ticket, child, own_record}
use Rattle.model.specs.Places.{is_watch, place_domain}
use Rattle.model.specs.States.{cohort_start, acquire_parent, wait_word, unlocked, locked, root_word, none, tail, next, status, place, wrap, with_tail, with_next, with_status, with_place, with_ticket, with_grant}

-- the kind of a step: a stay, another move, a root entry, a passed entry, a crossed entry, or leaving
pub data Kind : Type 0 where
  stay other root_entry passed_entry crossed_entry leaving : Kind

-- the number of a kind
abbrev pub kind_number : Kind → ℕ
kind_number stay = 0
kind_number other = 1
kind_number root_entry = 2
kind_number passed_entry = 3
kind_number crossed_entry = 4
kind_number leaving = 5

-- a kind equals the named one
unfoldable pub is_kind : (named kind : Kind) → Bool
is_kind a b = eqb (kind_number a) (kind_number b)

-- the kind is an entry: the step arrives Inside
unfoldable pub is_entry : Kind → Bool
is_entry stay = false
is_entry other = false
is_entry root_entry = true
is_entry passed_entry = true
is_entry crossed_entry = true
is_entry leaving = false

-- what a step does to standing ungranted: nothing, begin it for one member, or end it for some members
pub data Standing : Type 0 where
  unchanged : Standing
  begins : (member : ℕ) → Standing
  ends : (members : List ℕ) → Standing

-- the result of a row: the kind of the step, what it does to standing ungranted in its domain, and the state after it
pub record RowResult : Type 0 where
  pub kind : Kind
  pub standing : Standing
  pub state : State

-- a step: its thread, its place before, its domain (the home for Idle and Inside), and the result of its row
pub record Step : Type 0 where
  pub thread : ℕ
  pub place : Place
  pub domain : ℕ
  pub kind : Kind
  pub standing : Standing
  pub state : State

-- the step of a thread from a place, with the result of its row
abbrev pub step_from : Tree → (thread : ℕ) → Place → RowResult → Step
step_from t i p r =
    record { thread = i; place = p; domain = place_domain (t.home i) p; kind = r.kind; standing = r.standing; state = r.state }

-- the thread stays
abbrev pub stays : State → RowResult
stays s = record { kind = stay; standing = unchanged; state = s }

-- the thread moves on without entering or leaving
abbrev pub moves : State → RowResult
moves s = record { kind = other; standing = unchanged; state = s }

-- the thread goes Inside, with this kind of entry
abbrev pub enters : Kind → (thread : ℕ) → State → RowResult
enters k i s = record { kind = k; standing = unchanged; state = with_place i Inside s }

-- the place where acquiring a domain starts: Draw at a ticket root, else Prep
abbrev pub acquire_place : Tree → (domain : ℕ) → Place
acquire_place t d = cond (is_ticket t d) Draw (Prep d)

-- the place after a domain other than the root is acquired: acquiring its parent starts
abbrev pub acquired_place : Tree → (domain : ℕ) → Place
acquired_place t l = acquire_place t (t.parent l)

-- the place where releasing a domain starts: Raise at a ticket root, Help at a queue root, else Check
abbrev pub release_place : Tree → (domain : ℕ) → Place
release_place t d = cond (is_ticket t d) Raise (cond (eqb d 0) (Help d) (Check d))

-- the place after releasing a domain: Idle if it is the home, else Help at its child on the thread's path
abbrev pub done_place : Tree → (thread domain : ℕ) → Place
done_place t i l = cond (eqb l (t.home i)) Idle (Help (child t i l))

-- Prep(L): the status of the thread's record becomes a given word, its next none; Swap(L) follows
abbrev pub prep_with : Tree → (thread domain word : ℕ) → State → RowResult
prep_with t i l w s = let I = own_record t i l in moves (with_place i (Swap l) (with_next I none (with_status I w s)))

-- Prep at the root: the word is LOCKED
abbrev pub prep_at_root : Tree → (thread domain : ℕ) → State → RowResult
prep_at_root t i l s = prep_with t i l locked s

-- Prep at another domain: the word is WAIT
abbrev pub prep_elsewhere : Tree → (thread domain : ℕ) → State → RowResult
prep_elsewhere t i l s = prep_with t i l wait_word s

-- the row of Prep(L), and of Idle with the home as L
unfoldable pub prep_row : Tree → (thread domain : ℕ) → State → RowResult
prep_row t i l s = cond (eqb l 0) (prep_at_root t i l s) (prep_elsewhere t i l s)

-- a domain other than the root is acquired: the status becomes 1, and acquiring the parent starts
abbrev pub acquires_parent : Tree → (thread domain : ℕ) → State → RowResult
acquires_parent t i l s = moves (with_place i (acquired_place t l) (with_status (own_record t i l) cohort_start s))

-- Swap at the root that finds no tail: the status becomes UNLOCKED and the thread goes Inside
abbrev pub swap_at_root : Tree → (thread domain : ℕ) → State → RowResult
swap_at_root t i l s = enters root_entry i (with_status (own_record t i l) unlocked s)

-- Swap(L): the tail becomes the thread's record. If the old tail was p, Link(L, p) follows. If it was none, the thread enters at the root, and acquires any other domain
unfoldable pub swap_row : Tree → (thread domain : ℕ) → State → RowResult
swap_row t i l s =
    let I = own_record t i l in
    let old = tail s l in
    let swapped = with_tail l (I + 1) s in
    cond (eqb old none)
    (cond (eqb l 0) (swap_at_root t i l swapped) (acquires_parent t i l swapped))
    (record { kind = other; standing = begins I; state = with_place i (Link l (old - 1)) swapped })

-- Link(L, p): the next of p becomes the thread's record; Wait(L) follows
unfoldable pub link_row : Tree → (thread domain before : ℕ) → State → RowResult
link_row t i l p s = moves (with_place i (Wait l) (with_next p (own_record t i l + 1) s))

-- the kind of an entry from Wait below the root: passed at the thread's home, crossed between home and root
abbrev pub passing_kind : Tree → (thread domain : ℕ) → Kind
passing_kind t i l = cond (eqb l (t.home i)) passed_entry crossed_entry

-- Wait at the root: it stays while the status is LOCKED, and goes Inside with any other
abbrev pub wait_at_root : Tree → (thread domain : ℕ) → State → RowResult
wait_at_root t i l s = cond (eqb (status s (own_record t i l)) locked) (stays s) (enters root_entry i s)

-- Wait at another domain: it stays with WAIT, acquires the domain with ACQUIRE_PARENT, and goes Inside with any lower status
abbrev pub wait_elsewhere : Tree → (thread domain : ℕ) → State → RowResult
wait_elsewhere t i l s =
    let v = status s (own_record t i l) in
    cond (eqb v wait_word) (stays s) (cond (eqb v acquire_parent) (acquires_parent t i l s) (enters (passing_kind t i l) i s))

-- Wait(L), by the status of the thread's record
unfoldable pub wait_row : Tree → (thread domain : ℕ) → State → RowResult
wait_row t i l s = cond (eqb l 0) (wait_at_root t i l s) (wait_elsewhere t i l s)

-- Inside: the thread leaves. If its home is the root, Raise or Help follows, else Check(home)
unfoldable pub leave_row : Tree → (thread : ℕ) → State → RowResult
leave_row t i s = record { kind = leaving; standing = unchanged; state = with_place i (release_place t (t.home i)) s }

-- Check(L): with a status below the threshold and a next s, Grant(L, s, status + 1) follows. Otherwise releasing the parent starts
unfoldable pub check_row : Tree → (thread domain : ℕ) → State → RowResult
check_row t i l s =
    let I = own_record t i l in
    let v = status s I in
    let n = next s I in
    cond (ltb v (t.threshold l) && not (eqb n none))
    (moves (with_place i (Grant l (n - 1) (v + 1)) s))
    (moves (with_place i (release_place t (t.parent l)) s))

-- the word that Help and Linger grant: UNLOCKED at the root, ACQUIRE_PARENT below it
abbrev pub release_word : (domain : ℕ) → ℕ
release_word l = root_word l unlocked acquire_parent

-- Help(L): with a next s, Grant(L, s, v) follows; without a next, Cas(L)
unfoldable pub help_row : Tree → (thread domain : ℕ) → State → RowResult
help_row t i l s =
    let n = next s (own_record t i l) in
    cond (eqb n none) (moves (with_place i (Cas l) s)) (moves (with_place i (Grant l (n - 1) (release_word l)) s))

-- Cas(L): if the tail is still the thread's record, it becomes none and L is released; otherwise Linger(L) follows
unfoldable pub cas_row : Tree → (thread domain : ℕ) → State → RowResult
cas_row t i l s =
    cond (eqb (tail s l) (own_record t i l + 1))
    (moves (with_place i (done_place t i l) (with_tail l none s)))
    (moves (with_place i (Linger l) s))

-- Linger(L): it stays without a next; with a next s, Grant(L, s, v) follows
unfoldable pub linger_row : Tree → (thread domain : ℕ) → State → RowResult
linger_row t i l s =
    let n = next s (own_record t i l) in
    cond (eqb n none) (stays s) (moves (with_place i (Grant l (n - 1) (release_word l)) s))

-- Grant(L, s, w): w is written to the status of s, and L is released
unfoldable pub grant_row : Tree → (thread domain to word : ℕ) → State → RowResult
grant_row t i l r w s =
    record { kind = other; standing = ends (r ∷ []); state = with_place i (done_place t i l) (with_status r w s) }

-- Draw: the status becomes the ticket, and the ticket counter goes up by one. The thread goes Inside if its ticket equals the grant; otherwise Watch follows
unfoldable pub draw_row : Tree → (thread : ℕ) → State → RowResult
draw_row t i s =
    let I = own_record t i 0 in
    let drawn = with_ticket (wrap (s.ticket + 1)) (with_status I s.ticket s) in
    cond (eqb s.ticket s.grant)
    (enters root_entry i drawn)
    (record { kind = other; standing = begins I; state = with_place i Watch drawn })

-- Watch: it stays until the status equals the grant, and then goes Inside
unfoldable pub watch_row : Tree → (thread : ℕ) → State → RowResult
watch_row t i s = cond (eqb (status s (own_record t i 0)) s.grant) (enters root_entry i s) (stays s)

-- some thread watches for this record
unfoldable pub is_watched : Tree → State → (number : ℕ) → Bool
is_watched t s r = any_below t.threads (λ j. is_watch (place s j) && eqb (own_record t j 0) r)

-- the members whose ticket equals this grant and for which a thread watches
unfoldable pub shown_members : Tree → State → (grant : ℕ) → List ℕ
shown_members t s v = filter_below 320 (λ r. eqb (status s r) v && is_watched t s r)

-- Raise: the grant goes up by one, and the root is released
unfoldable pub raise_row : Tree → (thread : ℕ) → State → RowResult
raise_row t i s =
    let raised = wrap (s.grant + 1) in
    record { kind = other; standing = ends (shown_members t s raised); state = with_place i (done_place t i 0) (with_grant raised s) }

-- Idle: the thread draws if its home is a ticket root; otherwise it does Prep at home
abbrev pub idle_row : Tree → (thread : ℕ) → State → RowResult
idle_row t i s = cond (is_ticket t (t.home i)) (draw_row t i s) (prep_row t i (t.home i) s)

-- the row of a place; Invalid, which no well-formed state contains, stays
unfoldable pub row : Tree → (thread : ℕ) → Place → State → RowResult
row t i Idle s = idle_row t i s
row t i (Prep l) s = prep_row t i l s
row t i (Swap l) s = swap_row t i l s
row t i (Link l p) s = link_row t i l p s
row t i (Wait l) s = wait_row t i l s
row t i Inside s = leave_row t i s
row t i (Check l) s = check_row t i l s
row t i (Help l) s = help_row t i l s
row t i (Cas l) s = cas_row t i l s
row t i (Linger l) s = linger_row t i l s
row t i (Grant l r w) s = grant_row t i l r w s
row t i Draw s = draw_row t i s
row t i Watch s = watch_row t i s
row t i Raise s = raise_row t i s
row t i Invalid s = stays s

-- one step of a thread
unfoldable pub step : Tree → (thread : ℕ) → State → Step
step t i s = step_from t i (place s i) (row t i (place s i) s)
