-- Cases of the chain, in one list: states reached from fresh at both kinds of root, altered states that show whom a thread looks to, each reason for 21, the refusals before it, and counters at and above 2^63.
use Rattle.std.specs.Prelude.{Bool, true, ◌&&◌, List, [], ◌∷◌, ◌++◌, ℕ, ◌+◌, eqb, length, drop, replicate, set}
use Rattle.model.specs.declared.TreeWords.{TreeWords}
use Rattle.model.specs.declared.State.{State}
use Rattle.model.specs.declared.Counters.{Counters}
use Rattle.model.specs.declared.Place.TheVariants.{Swap, Link, Wait, Inside, Check, Linger, Watch, Raise}
use Rattle.model.specs.Trees.{tree_of}
use Rattle.model.specs.States.{acquire_parent, wait_word, fresh_words, with_tail, with_next, with_status, with_place}
use Rattle.model.specs.Runs.{run}
use Rattle.model.specs.Counters.{lock_state, most_counted}
use Rattle.model.specs.Cases.Marked.{tree, at_ticket_root, uncounted, counters, two_homes, root_alone, two_in_root, same_numbers}
use Rattle.chain.specs.declared.ChainReply.{ChainReply}
use Rattle.chain.specs.Chain.{looks_to}
use Rattle.chain.specs.Answers.{chain_answer, buffer_answer}

-- a buffer of sevens
abbrev pub sevens : (room : ℕ) → List ℕ
sevens n = replicate n 7

-- THE FORMS OF A CASE. A state is given by the words of a lock; its counters are fresh unless they are given
pub data Case : Type 0 where
  -- accepted, with the chain at the front of a buffer that has one element more than there are threads
  gives : TreeWords → State → (thread : ℕ) → (chain : List ℕ) → Case
  -- refused at place 0, with the buffer unchanged
  refuses : TreeWords → State → (thread room number : ℕ) → Case
  -- refused at a place of the tree
  refuses_at : TreeWords → State → (thread room number place : ℕ) → Case
  -- refused by 21, with a buffer long enough: the chain ends at this last thread, which looks to these
  breaks : TreeWords → State → (thread last : ℕ) → (looked : List ℕ) → Case
  -- with these counters, and a buffer as in `gives`: the number, and the chain, empty if refused
  counted : TreeWords → State → Counters → (thread number : ℕ) → (chain : List ℕ) → Case

-- WHEN A LINE HOLDS. A reply has this number, place and length
abbrev pub replies : (number place length : ℕ) → ChainReply → Bool
replies n p k r = eqb r.number n && (eqb r.place p && eqb r.length k)

-- a reply with this number at place 0, and this chain at the front of the buffer
abbrev pub gave : ChainReply → (after before : List ℕ) → (number : ℕ) → (chain : List ℕ) → Bool
gave r a b n c = replies n 0 (length c) r && same_numbers a (c ++ drop (length c) b)

-- a refusal with this number and place, and the buffer unchanged
abbrev pub refused_at : ChainReply → (after before : List ℕ) → (number place : ℕ) → Bool
refused_at r a b n p = replies n p 0 r && same_numbers a b

-- a refusal with this number at place 0
abbrev pub refused : ChainReply → (after before : List ℕ) → (number : ℕ) → Bool
refused r a b n = refused_at r a b n 0

-- a buffer with one element more than there are threads
abbrev pub long_buffer : TreeWords → List ℕ
long_buffer w = sevens (w.threads + 1)

-- whether a case holds
unfoldable pub holds : Case → Bool
holds (gives w s i c) = gave (chain_answer w (uncounted s) i (long_buffer w)) (buffer_answer w (uncounted s) i (long_buffer w)) (long_buffer w) 0 c
holds (refuses w s i room n) =
    refused (chain_answer w (uncounted s) i (sevens room)) (buffer_answer w (uncounted s) i (sevens room)) (sevens room) n
holds (refuses_at w s i room n p) =
    refused_at (chain_answer w (uncounted s) i (sevens room)) (buffer_answer w (uncounted s) i (sevens room)) (sevens room) n p
holds (breaks w s i last c) =
    refused (chain_answer w (uncounted s) i (sevens w.threads)) (buffer_answer w (uncounted s) i (sevens w.threads)) (sevens w.threads) 21
    && same_numbers (looks_to (tree_of w) s last) c
holds (counted w s k i n c) =
    gave (chain_answer w (lock_state s k) i (long_buffer w)) (buffer_answer w (lock_state s k) i (long_buffer w)) (long_buffer w) n c

-- whether every case of a list holds
unfoldable pub all_hold : List Case → Bool
all_hold [] = true
all_hold (c ∷ cs) = holds c && all_hold cs

-- the state after a schedule from fresh
abbrev pub after : TreeWords → (schedule : List ℕ) → State
after w is = (run (tree_of w) is fresh_words).state

-- one domain, three threads
unfoldable pub three_in_root : TreeWords
three_in_root = tree 1 3 (0 ∷ []) (0 ∷ []) (0 ∷ 0 ∷ 0 ∷ [])

-- the same with a ticket root
unfoldable pub three_in_ticket : TreeWords
three_in_ticket = at_ticket_root three_in_root

-- thread 2 in Wait at the root
abbrev pub third_waits : State → State
third_waits s = with_place 2 (Wait 0) (with_status 2 1 s)

-- REACHED FROM FRESH
abbrev pub reached : List Case
reached =
    -- a thread that can move looks to nobody
    gives two_in_root fresh_words 0 (0 ∷ [])
    -- thread 0 Inside, thread 1 waits
    ∷ gives two_in_root (after two_in_root (0 ∷ 0 ∷ 1 ∷ 1 ∷ 1 ∷ [])) 1 (1 ∷ 0 ∷ [])
    ∷ gives two_in_root (after two_in_root (0 ∷ 0 ∷ 1 ∷ 1 ∷ 1 ∷ [])) 0 (0 ∷ [])
    -- thread 0 lingers for thread 1, which is in Link and can move
    ∷ gives two_in_root (after two_in_root (0 ∷ 0 ∷ 1 ∷ 1 ∷ 0 ∷ 0 ∷ 0 ∷ [])) 0 (0 ∷ 1 ∷ [])
    ∷ gives two_in_root (after two_in_root (0 ∷ 0 ∷ 1 ∷ 1 ∷ 0 ∷ 0 ∷ 0 ∷ [])) 1 (1 ∷ [])
    -- across two domains: thread 1 waits at its home for thread 0, which waits at the root for thread 2, which is Inside and later in Check below the root
    ∷ gives two_homes (after two_homes (replicate 4 2 ++ replicate 5 0 ++ replicate 3 1)) 1 (1 ∷ 0 ∷ 2 ∷ [])
    ∷ gives two_homes (after two_homes (replicate 4 2 ++ replicate 5 0 ++ replicate 3 1 ++ 2 ∷ [])) 1 (1 ∷ 0 ∷ 2 ∷ [])
    -- three in a queue
    ∷ gives three_in_root (after three_in_root (0 ∷ 0 ∷ 1 ∷ 1 ∷ 1 ∷ 2 ∷ 2 ∷ 2 ∷ [])) 2 (2 ∷ 1 ∷ 0 ∷ [])
    -- a ticket root: thread 2 watches for thread 1, which watches for thread 0, which is Inside and later in Raise
    ∷ gives three_in_ticket (after three_in_ticket (0 ∷ 1 ∷ 2 ∷ [])) 2 (2 ∷ 1 ∷ 0 ∷ [])
    ∷ gives three_in_ticket (after three_in_ticket (0 ∷ 1 ∷ 2 ∷ 0 ∷ [])) 2 (2 ∷ 1 ∷ 0 ∷ [])
    -- once its ticket is shown, thread 1 can move
    ∷ gives three_in_ticket (after three_in_ticket (0 ∷ 1 ∷ 2 ∷ 0 ∷ 0 ∷ [])) 2 (2 ∷ 1 ∷ [])
    -- tickets that wrap from 65,535 to 0
    ∷ gives three_in_ticket (run (tree_of three_in_ticket) (0 ∷ 1 ∷ 2 ∷ []) (counters 65535 65535 fresh_words)).state 2 (2 ∷ 1 ∷ 0 ∷ [])
    -- below a ticket root
    ∷ gives (at_ticket_root two_homes) (after (at_ticket_root two_homes) (replicate 3 2 ++ replicate 3 0 ++ replicate 3 1)) 1 (1 ∷ 0 ∷ 2 ∷ [])
    ∷ []

-- WHOM A THREAD LOOKS TO, in states that are well formed but not reached from fresh
abbrev pub looked : List Case
looked =
    -- a record whose next names the waiting thread's record counts only if a thread acts for it
    gives three_in_root (third_waits (with_place 0 Inside (with_next 0 3 (with_next 1 3 fresh_words)))) 2 (2 ∷ 0 ∷ [])
    -- granted, to acquire the parent: not a stay
    ∷ gives two_homes (with_place 0 (Wait 1) (with_status 0 acquire_parent fresh_words)) 0 (0 ∷ [])
    -- two threads in Raise, one with a number above 65,535 that is no ticket, the other with a ticket
    ∷ gives three_in_ticket (with_place 2 Watch (with_place 0 Raise (with_place 1 Raise (with_status 2 6 (with_status 0 5 (with_status 1 65541 (counters 7 4 fresh_words))))))) 2 (2 ∷ 0 ∷ [])
    ∷ []

-- 21: LOOKS TO NOBODY
abbrev pub nobody : List Case
nobody =
    -- no next names the waiting thread's record
    breaks root_alone (with_place 0 (Wait 0) (with_status 0 1 fresh_words)) 0 0 []
    -- one does, but its thread is only in Swap
    ∷ breaks two_in_root (with_place 1 (Wait 0) (with_status 1 1 (with_next 0 2 (with_place 0 (Swap 0) fresh_words)))) 1 1 []
    -- the tail names thread 1, which is not in Link
    ∷ breaks two_in_root (with_place 0 (Linger 0) (with_tail 0 2 (with_place 1 (Wait 0) (with_status 1 1 fresh_words)))) 0 0 []
    -- in Link with another record
    ∷ breaks three_in_root (with_place 0 (Linger 0) (with_place 1 (Link 0 2) fresh_words)) 0 0 []
    -- nobody has the ticket just before
    ∷ breaks three_in_ticket (with_place 2 Watch (with_place 0 Inside (with_status 2 6 (with_status 0 4 (counters 7 4 fresh_words))))) 2 2 []
    -- further along the chain
    ∷ breaks three_in_root (third_waits (with_next 1 3 (with_place 1 (Wait 0) (with_status 1 1 fresh_words)))) 2 1 []
    ∷ []

-- 21: LOOKS TO SEVERAL
abbrev pub several : List Case
several =
    breaks three_in_root (third_waits (with_next 0 3 (with_next 1 3 (with_place 0 Inside (with_place 1 Inside fresh_words))))) 2 2 (0 ∷ 1 ∷ [])
    ∷ breaks three_in_root (with_place 0 (Linger 0) (with_place 1 (Link 0 0) (with_place 2 (Link 0 0) fresh_words))) 0 0 (1 ∷ 2 ∷ [])
    ∷ breaks three_in_ticket (with_place 2 Watch (with_place 0 Inside (with_place 1 Inside (with_status 2 6 (with_status 0 5 (with_status 1 5 (counters 7 4 fresh_words))))))) 2 2 (0 ∷ 1 ∷ [])
    ∷ []

-- threads 1 and 2 wait at the root for each other, each with its domain's record; thread 0 waits at home for thread 1
abbrev pub circle_ahead : State
circle_ahead =
    with_place 0 (Wait 1) (with_place 1 (Wait 0) (with_place 2 (Wait 0) (with_status 0 wait_word (with_status 257 1 (with_status 258 1 (with_next 1 1 (with_next 257 259 (with_next 258 258 fresh_words))))))))

-- 21: RETURNS TO A THREAD ON THE CHAIN
abbrev pub comes_back : List Case
comes_back =
    -- to itself
    breaks root_alone (with_place 0 (Wait 0) (with_status 0 1 (with_next 0 1 fresh_words))) 0 0 (0 ∷ [])
    -- to the first
    ∷ breaks two_in_root (with_next 0 2 (with_next 1 1 (with_place 0 (Wait 0) (with_place 1 (Wait 0) (with_status 0 1 (with_status 1 1 fresh_words)))))) 0 1 (0 ∷ [])
    -- to another
    ∷ breaks two_homes circle_ahead 0 2 (1 ∷ [])
    ∷ []

-- THE REFUSALS BEFORE 21
abbrev pub earlier : List Case
earlier =
    -- 20 if the buffer has fewer elements than there are threads, even if the chain would fit; 20 comes before 21
    refuses two_in_root fresh_words 0 1 20
    ∷ refuses two_in_root (with_place 0 (Wait 0) (with_status 0 1 fresh_words)) 0 1 20
    -- 12 comes before 20, 10 before 12
    ∷ refuses two_in_root fresh_words 2 0 12
    ∷ refuses two_in_root (with_place 0 (Check 0) fresh_words) 2 0 10
    ∷ refuses (tree 0 1 [] [] (0 ∷ [])) (with_place 0 (Check 0) fresh_words) 2 0 4
    -- the second leaf has no thread: its number is the place
    ∷ refuses_at (tree 3 1 (0 ∷ 0 ∷ 0 ∷ []) (0 ∷ 2 ∷ 16 ∷ []) (1 ∷ [])) fresh_words 0 1 16 2
    ∷ []

-- counters with this number of entries of domain 1; all others are 0
abbrev pub entered : ℕ → Counters
entered n = record { entries = set (replicate 64 0) 1 n; tenures = replicate 64 0; longest = replicate 64 0 }

-- COUNTERS. Above 2^63 they are refused by 10. At 2^63, where the thread's next step would be an entry and refused by 19, the chain is given, since it takes no step
abbrev pub counting : List Case
counting =
    counted two_homes (after two_homes (replicate 3 0)) (entered (most_counted + 1)) 0 10 []
    ∷ counted two_homes (after two_homes (replicate 3 0)) (entered most_counted) 0 0 (0 ∷ [])
    ∷ []

-- all cases
unfoldable pub cases : List Case
cases = reached ++ looked ++ nobody ++ several ++ comes_back ++ earlier ++ counting
