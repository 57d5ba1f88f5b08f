-- What the tables of a state contain, from which the links of a chain are read. proofs/ shows that the links agree with the definition.
use Rattle.std.specs.Prelude.{◌≡◌, Bool, true, false, ◌&&◌, cond, List, [], ◌∷◌, Option, None, Some, ◌≢◌, ℕ, zero, suc, ◌+◌, ◌-◌, ◌≤◌, ◌<◌, eqb, ltb, leb, get_or, set, length, take}
use Rattle.model.specs.declared.PlaceWords.{PlaceWords}
use Rattle.model.specs.declared.State.{State}
use Rattle.chain_call.specs.declared.tables.Count.{Count}
use Rattle.chain_call.specs.declared.tables.Count.TheVariants.{Nobody, Only, Several}
use Rattle.chain_call.specs.declared.links.Link.{Link}
use Rattle.chain_call.specs.declared.links.Link.TheVariants.{Moves, To, Broken}
use Rattle.model.specs.Scans.{any_below}
use Rattle.model.specs.Trees.{Tree, on_path, own_record, owner_domain, is_member}
use Rattle.model.specs.States.{acquire_parent, status, numbers_at}
use Rattle.model.specs.Acts.{sends_inside, acts}
use Rattle.model.proofs.Trees.Index.{ancestor, record_at}
use Rattle.chain.specs.Chain.{acts_ahead, ticket_before}
use Rattle.chain.proofs.Stays.{waits_in}

-- A COUNT OF THREADS, with one more thread
abbrev pub more : Count → (thread : ℕ) → Count
more Nobody j = Only j
more (Only k) j = Several
more Several j = Several

-- the count with one more thread if it passes
abbrev pub more_if : (hit : Bool) → Count → (thread : ℕ) → Count
more_if b x j = cond b (more x j) x

-- the count of the threads below n that pass
unfoldable pub count_below : (n : ℕ) → (ℕ → Bool) → Count
count_below zero f = Nobody
count_below (suc n) f = more_if (f n) (count_below n f) n

-- the thread for exactly one
abbrev pub only_in : Count → Option ℕ
only_in Nobody = None
only_in (Only j) = Some j
only_in Several = None

-- ACTING, as one number. A thread that has the lock acts everywhere on its path: in Wait with a status that sends it Inside, in a Grant that passes the lock on, in Check
abbrev pub acts_everywhere : PlaceWords → (status : ℕ) → Bool
acts_everywhere q v = cond (eqb q.row 4) (sends_inside q.domain v) (cond (eqb q.row 10) (ltb q.word acquire_parent) (eqb q.row 6))

-- Prep, Swap and Draw, which do not yet act at their domain
abbrev pub joins : (row : ℕ) → Bool
joins r = cond (eqb r 1) true (cond (eqb r 2) true (eqb r 11))

-- the domain from which a thread acts, at all domains of its path from there down to its home; 256 if it acts at none. Inside, Watch and Raise have domain 0
abbrev pub acts_from : PlaceWords → (status : ℕ) → ℕ
acts_from q v =
    cond (eqb q.row 0) 256
    (cond (acts_everywhere q v) 0
    (cond (joins q.row) (q.domain + 1)
    q.domain))

-- a next names a member of the same domain as its owner
pub record OwnedNexts (t : Tree) (nexts : List ℕ) : Type 0 where
  pub owned : (r : ℕ) → r < 320 → get_or nexts r 0 ≢ 0 → is_member t (owner_domain t r) (get_or nexts r 0 - 1) ≡ true

-- a table with one more thread at the record that a next names
abbrev pub noted : (table : List Count) → (next thread : ℕ) → List Count
noted xs n j = cond (eqb n 0) xs (set xs (n - 1) (more (get_or xs (n - 1) Nobody) j))

-- at one of the first n domains of its path, a thread acts for a record whose next is r
abbrev pub names_below : (n : ℕ) → Tree → (nexts : List ℕ) → (from thread number : ℕ) → Bool
names_below n t ns from j r = any_below n (λ k. leb from (ancestor t j k) && eqb (get_or ns (record_at t j k) 0) (r + 1))

-- the table after a thread's path is entered in it
pub record Noted (t : Tree) (nexts : List ℕ) (from thread n : ℕ) (before after : List Count) : Type 0 where
  pub count : (r : ℕ) → r < 320 → get_or after r Nobody ≡ more_if (names_below n t nexts from thread r) (get_or before r Nobody) thread

-- the record in Link
abbrev pub link_key : PlaceWords → Option ℕ
link_key q = cond (eqb q.row 3) (Some q.peer) None

-- the ticket, if the thread acts at the root with one
abbrev pub ticket_key : (from status : ℕ) → Option ℕ
ticket_key from v = cond (eqb from 0 && ltb v 65536) (Some v) None

-- the entry is this key
abbrev pub has_key : (entry : Option ℕ) → (key : ℕ) → Bool
has_key None k = false
has_key (Some x) k = eqb x k

-- the tables of a state, for the first n threads
pub record Filled (t : Tree) (s : State) (n : ℕ) (ahead : List Count) (linking tickets : List (Option ℕ)) : Type 0 where
  pub ahead_room : length ahead ≡ 320
  pub linking_room : length linking ≡ 256
  pub tickets_room : length tickets ≡ 256
  pub ahead_counts : (r : ℕ) → r < 320 → get_or ahead r Nobody ≡ count_below n (acts_ahead t s (owner_domain t r) r)
  pub linking_keys : (j : ℕ) → j < n → get_or linking j None ≡ link_key (numbers_at s.places j)
  pub ticket_keys : (j : ℕ) → j < n → get_or tickets j None ≡ cond (acts t s j 0 && ltb (status s (own_record t j 0)) 65536) (Some (status s (own_record t j 0))) None

-- A LINK to the only thread looked to, if there is one; otherwise the chain breaks off
abbrev pub to : Option ℕ → Link
to None = Broken
to (Some j) = To j

-- the only thread with a key
abbrev pub only_with : (keys : List (Option ℕ)) → (threads key : ℕ) → Option ℕ
only_with ks m k = only_in (count_below m (λ j. has_key (get_or ks j None) k))

-- the link of a thread in Watch: it moves on if its ticket is the grant
abbrev pub watch_link : (status grant : ℕ) → (tickets : List (Option ℕ)) → (threads : ℕ) → Link
watch_link v g vs m = cond (eqb v g) Moves (to (only_with vs m (ticket_before v)))

-- a link, given the words of a place, the status and the next of the record there, the grant, the count of threads ahead, and the tables
abbrev pub link_in : PlaceWords → (number status next grant : ℕ) → (count : Count) → (linking tickets : List (Option ℕ)) → (threads : ℕ) → Link
link_in q r v n g x ks vs m =
    cond (eqb q.row 4) (cond (waits_in q.domain v) (to (only_in x)) Moves)
    (cond (eqb q.row 9) (cond (eqb n 0) (to (only_with ks m r)) Moves)
    (cond (eqb q.row 12) (watch_link v g vs m)
    Moves))

-- what a link requires of a thread's place: a domain on its path, and in Watch a ticket
pub record SoundPlace (t : Tree) (statuses : List ℕ) (i : ℕ) (q : PlaceWords) : Type 0 where
  pub there : on_path t i q.domain ≡ true
  pub ticket : q.row ≡ 12 → get_or statuses (own_record t i q.domain) 0 ≤ 65535

-- a link, given a thread's place and the arrays
abbrev pub link_by : Tree → State → (ahead : List Count) → (linking tickets : List (Option ℕ)) → (thread : ℕ) → Link
link_by t s xs ks ts i =
    let q = numbers_at s.places i in
    let r = own_record t i q.domain in
    link_in q r (get_or s.statuses r 0) (get_or s.nexts r 0) s.grant (get_or xs r Nobody) ks ts t.threads

-- the length of a chain; nothing if it breaks off
abbrev pub some_length : (chain : List ℕ) → Option ℕ
some_length [] = None
some_length (j ∷ js) = Some (length (j ∷ js))

-- the result of following the links: the length of the chain, and the chain at the front of an array
pub record Followed (threads : ℕ) (chain found : List ℕ) (answer : Option ℕ) : Type 0 where
  pub length_is : answer ≡ some_length chain
  pub front : take (length chain) found ≡ chain
  pub room : length found ≡ 256
  pub few : length chain ≤ threads
