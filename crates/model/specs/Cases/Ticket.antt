-- CASES OF A TICKET LOCK AT THE ROOT, document 02, (xii): steps with their whole states, runs, and each reason to refuse, in one table.
use Rattle.std.specs.Prelude.{◌≡◌, List, [], ◌∷◌, ◌++◌, ℕ, replicate, take}
use Rattle.model.specs.declared.TreeWords.{TreeWords}
use Rattle.model.specs.declared.PlaceWords.{PlaceWords}
use Rattle.model.specs.declared.Place.TheVariants.{Idle, Prep, Swap, Link, Wait, Inside, Check, Help, Cas, Linger, Grant, Draw, Watch, Raise}
use Rattle.model.specs.declared.State.{State}
use Rattle.model.specs.Trees.{tree_of}
use Rattle.model.specs.Places.{place_words}
use Rattle.model.specs.States.{wait_word, fresh_words, with_tail, with_status, with_place, store_numbers}
use Rattle.model.specs.Steps.{shown_members}
use Rattle.model.specs.Runs.{steps, begun, ended}
use Rattle.model.specs.Cases.Marked.{tree, at_ticket_root, counters, ok, refused, Case, fresh_call, fresh_starts, step_call, step_gives, run_call, two_homes, root_alone, two_in_root, one_home}

-- one thread at a ticket root
unfoldable pub ticket_alone : TreeWords
ticket_alone = at_ticket_root root_alone

-- two threads at a ticket root
unfoldable pub two_in_ticket : TreeWords
two_in_ticket = at_ticket_root two_in_root

-- three threads at a ticket root
unfoldable pub three_in_ticket : TreeWords
three_in_ticket = at_ticket_root (tree 1 3 (0 ∷ []) (0 ∷ []) (0 ∷ 0 ∷ 0 ∷ []))

-- two threads in one domain below a ticket root, threshold 2
unfoldable pub ticket_above : TreeWords
ticket_above = at_ticket_root one_home

-- a state with these four numbers as a thread's place, which may be no place
unfoldable pub with_numbers : (thread : ℕ) → PlaceWords → State → State
with_numbers i p s =
    record { tails = s.tails; nexts = s.nexts; statuses = s.statuses; places = store_numbers s.places i p; ticket = s.ticket; grant = s.grant }

-- the cases
unfoldable pub ticket_cases : List Case
ticket_cases =
    -- the start of a fresh call; it is not used at a queue root, nor by a refused call
    fresh_starts ticket_alone 65535 65535
    ∷ fresh_starts root_alone 65535 0
    ∷ fresh_call (at_ticket_root (tree 0 1 [] [] (0 ∷ []))) (refused 4 0)
    -- home at a ticket root: Idle draws, and enters if the ticket equals the grant
    ∷ step_gives ticket_alone (counters 5 5 fresh_words) 0 2 0 (with_place 0 Inside (with_status 0 5 (counters 6 5 fresh_words)))
    -- the grant is another number: it watches
    ∷ step_gives two_in_ticket (counters 6 5 fresh_words) 1 1 0 (with_place 1 Watch (with_status 1 6 (counters 7 5 fresh_words)))
    -- the ticket goes from 65,535 to 0
    ∷ step_gives ticket_alone (counters 65535 9 fresh_words) 0 1 0 (with_place 0 Watch (with_status 0 65535 (counters 0 9 fresh_words)))
    -- the domain below is acquired: Draw is next, with its record
    ∷ step_gives ticket_above (with_place 0 (Swap 1) (with_status 0 wait_word fresh_words)) 0 1 1 (with_place 0 Draw (with_status 0 1 (with_tail 1 1 fresh_words)))
    ∷ step_gives ticket_above (with_place 0 Draw (counters 7 7 fresh_words)) 0 2 0 (with_place 0 Inside (with_status 257 7 (counters 8 7 fresh_words)))
    -- Watch stays while the status differs from the grant, and enters when they are equal
    ∷ step_gives two_in_ticket (with_place 1 Watch (with_status 1 6 (counters 7 5 fresh_words))) 1 0 0 (with_place 1 Watch (with_status 1 6 (counters 7 5 fresh_words)))
    ∷ step_gives two_in_ticket (with_place 1 Watch (with_status 1 6 (counters 7 6 fresh_words))) 1 2 0 (with_place 1 Inside (with_status 1 6 (counters 7 6 fresh_words)))
    -- leaving, and a failed Check: Raise is next
    ∷ step_gives ticket_alone (with_place 0 Inside fresh_words) 0 5 0 (with_place 0 Raise fresh_words)
    ∷ step_gives ticket_above (with_place 0 (Check 1) fresh_words) 0 1 1 (with_place 0 Raise fresh_words)
    -- Raise: the grant goes up by one, or from 65,535 to 0, and the root is done
    ∷ step_gives ticket_alone (with_place 0 Raise (counters 9 8 fresh_words)) 0 1 0 (with_place 0 Idle (counters 9 9 fresh_words))
    ∷ step_gives ticket_above (with_place 0 Raise (counters 9 65535 fresh_words)) 0 1 0 (with_place 0 (Help 1) (counters 9 0 fresh_words))
    -- one thread: it draws and enters, leaves, raises
    ∷ run_call ticket_alone fresh_words (replicate 6 0) (ok 6 2 0 2 0 0 (0 ∷ 0 ∷ []))
    -- two members: the second watches, stays three times, is shown its ticket and enters
    ∷ run_call two_in_ticket fresh_words (0 ∷ replicate 4 1 ++ 0 ∷ 0 ∷ 1 ∷ []) (ok 8 2 3 2 0 0 (0 ∷ 1 ∷ []))
    -- three draws from 65,535 on
    ∷ run_call three_in_ticket (counters 65535 65535 fresh_words) (0 ∷ 1 ∷ 2 ∷ 0 ∷ 0 ∷ 2 ∷ 1 ∷ 1 ∷ 1 ∷ 2 ∷ []) (ok 10 3 1 3 0 0 (0 ∷ 1 ∷ 2 ∷ []))
    -- the lock is passed on below a ticket root while another domain watches
    ∷ run_call (at_ticket_root two_homes) fresh_words (replicate 3 0 ++ replicate 4 1 ++ replicate 4 2 ++ replicate 3 0 ++ replicate 4 1 ++ 2 ∷ []) (ok 19 3 2 2 1 0 (0 ∷ 1 ∷ 2 ∷ []))
    -- REFUSED: Draw, Watch or Raise at a queue root, or at a domain other than the root
    ∷ step_call root_alone (with_place 0 Draw fresh_words) 0 (refused 10 0)
    ∷ step_call root_alone (with_place 0 Watch fresh_words) 0 (refused 10 0)
    ∷ step_call root_alone (with_place 0 Raise fresh_words) 0 (refused 10 0)
    ∷ step_call ticket_above (with_numbers 0 (place_words 11 1 0 0) fresh_words) 0 (refused 10 0)
    ∷ step_call ticket_above (with_numbers 0 (place_words 14 0 0 0) fresh_words) 0 (refused 10 0)
    -- a queue place at a ticket root
    ∷ step_call ticket_alone (with_place 0 (Prep 0) fresh_words) 0 (refused 10 0)
    ∷ step_call ticket_alone (with_place 0 (Swap 0) fresh_words) 0 (refused 10 0)
    ∷ step_call ticket_alone (with_place 0 (Link 0 0) fresh_words) 0 (refused 10 0)
    ∷ step_call ticket_alone (with_place 0 (Wait 0) fresh_words) 0 (refused 10 0)
    ∷ step_call ticket_alone (with_place 0 (Help 0) fresh_words) 0 (refused 10 0)
    ∷ step_call ticket_alone (with_place 0 (Cas 0) fresh_words) 0 (refused 10 0)
    ∷ step_call ticket_alone (with_place 0 (Linger 0) fresh_words) 0 (refused 10 0)
    ∷ step_call ticket_alone (with_place 0 (Grant 0 0 0) fresh_words) 0 (refused 10 0)
    -- a tail at a ticket root
    ∷ step_call ticket_alone (with_tail 0 1 fresh_words) 0 (refused 10 0)
    -- a watched status above 65,535; a status that nobody watches may be any number
    ∷ step_call ticket_alone (with_place 0 Watch (with_status 0 65536 fresh_words)) 0 (refused 10 0)
    ∷ step_gives ticket_alone (with_place 0 Raise (with_status 0 65536 fresh_words)) 0 1 0 (with_place 0 Idle (with_status 0 65536 (counters 0 1 fresh_words)))
    -- a counter other than 0 at a queue root
    ∷ step_call root_alone (counters 1 0 fresh_words) 0 (refused 10 0)
    ∷ step_call root_alone (counters 0 1 fresh_words) 0 (refused 10 0)
    ∷ []

-- A RAISE MAY SHOW THE TICKETS OF SEVERAL MEMBERS: threads 0 and 2 watch with ticket 6; thread 1 has ticket 6 but does not watch
unfoldable pub SeveralShown : Type 0
SeveralShown =
    shown_members (tree_of three_in_ticket)
    (with_place 0 Watch (with_place 2 Watch (with_status 0 6 (with_status 1 6 (with_status 2 6 fresh_words))))) 6
    ≡ 0 ∷ 2 ∷ []

-- THE BEGINNINGS AND ENDS OF STANDING UNGRANTED at a ticket root, with three draws from 65,535 on: threads 1 and 2 begin; the raise of thread 0 ends the standing of thread 1, the raise of thread 1 that of thread 2
unfoldable pub RaisesInOrder : Type 0
RaisesInOrder =
    let t = tree_of three_in_ticket in
    let xs = steps t (0 ∷ 1 ∷ 2 ∷ 0 ∷ 0 ∷ 1 ∷ 1 ∷ 1 ∷ []) (counters 65535 65535 fresh_words) in
    (begun 0 xs ≡ 1 ∷ 2 ∷ []) × (ended 0 (take 4 xs) ≡ []) × (ended 0 (take 5 xs) ≡ 1 ∷ []) × (ended 0 xs ≡ 1 ∷ 2 ∷ [])
