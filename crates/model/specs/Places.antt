-- A thread's place as four numbers: row, domain, the other record, word.
use Rattle.std.specs.Prelude.{Bool, ◌&&◌, ◌||◌, cond, List, [], ◌∷◌, ℕ, eqb, ltb, get_or}
use Rattle.model.specs.declared.PlaceWords.{PlaceWords}
use Rattle.model.specs.declared.Place.{Place}
use Rattle.model.specs.declared.Place.TheVariants.{Idle, Prep, Swap, Link, Wait, Inside, Check, Help, Cas, Linger, Grant, Draw, Watch, Raise, Invalid}

-- the four numbers of a place
abbrev pub place_words : (row domain peer word : ℕ) → PlaceWords
place_words r d p w = record { row = r; domain = d; peer = p; word = w }

-- the numbers of a place
abbrev pub words_of : Place → PlaceWords
words_of Idle = place_words 0 0 0 0
words_of (Prep l) = place_words 1 l 0 0
words_of (Swap l) = place_words 2 l 0 0
words_of (Link l p) = place_words 3 l p 0
words_of (Wait l) = place_words 4 l 0 0
words_of Inside = place_words 5 0 0 0
words_of (Check l) = place_words 6 l 0 0
words_of (Help l) = place_words 7 l 0 0
words_of (Cas l) = place_words 8 l 0 0
words_of (Linger l) = place_words 9 l 0 0
words_of (Grant l s w) = place_words 10 l s w
words_of Draw = place_words 11 0 0 0
words_of Watch = place_words 12 0 0 0
words_of Raise = place_words 13 0 0 0
words_of Invalid = place_words 14 0 0 0

-- THE TABLE OF ROWS: where a place of each row is, and which parts it has. The parts are the arguments of the place's constructor
pub data Shape : Type 0 where
  -- at the thread's home: no part
  at_home : Place → Shape
  -- in the queue of a domain
  at_queue : ((domain : ℕ) → Place) → Shape
  -- in a domain other than the root
  below_root : ((domain : ℕ) → Place) → Shape
  -- in the queue of a domain, with another member's record
  with_record : ((domain peer : ℕ) → Place) → Shape
  -- in the queue of a domain, with another member's record and a word for it
  with_word : ((domain peer word : ℕ) → Place) → Shape
  -- at a ticket root: no part
  at_ticket_lock : Place → Shape
  -- no row of the table
  no_row : Shape

-- the shapes of rows 0 to 13
abbrev pub shapes : List Shape
shapes =
    at_home Idle ∷ at_queue Prep ∷ at_queue Swap ∷ with_record Link ∷ at_queue Wait ∷ at_home Inside ∷ below_root Check ∷ at_queue Help ∷ at_queue Cas
    ∷ at_queue Linger ∷ with_word Grant ∷ at_ticket_lock Draw ∷ at_ticket_lock Watch ∷ at_ticket_lock Raise ∷ []

-- the shape of a row
abbrev pub shape : (row : ℕ) → Shape
shape r = get_or shapes r no_row

-- how many parts a shape has, out of domain, record and word in this order
abbrev pub parts : Shape → ℕ
parts (at_home x) = 0
parts (at_queue f) = 1
parts (below_root f) = 1
parts (with_record f) = 2
parts (with_word f) = 3
parts (at_ticket_lock x) = 0
parts no_row = 0

-- places of this row name a domain
abbrev pub has_domain : (row : ℕ) → Bool
has_domain r = ltb 0 (parts (shape r))

-- places of this row name another record
abbrev pub has_peer : (row : ℕ) → Bool
has_peer r = ltb 1 (parts (shape r))

-- places of this row have a word
abbrev pub has_word : (row : ℕ) → Bool
has_word r = ltb 2 (parts (shape r))

-- each part that the row does not have is 0
abbrev pub fits : PlaceWords → Bool
fits q = (has_domain q.row || eqb q.domain 0) && ((has_peer q.row || eqb q.peer 0) && (has_word q.row || eqb q.word 0))

-- the place of a row, from the parts that it has
abbrev pub shaped : Shape → (domain peer word : ℕ) → Place
shaped (at_home x) d p w = x
shaped (at_queue f) d p w = f d
shaped (below_root f) d p w = f d
shaped (with_record f) d p w = f d p
shaped (with_word f) d p w = f d p w
shaped (at_ticket_lock x) d p w = x
shaped no_row d p w = Invalid

-- the place that four numbers stand for; Invalid if there is no such row, or if a part that the row does not have is not 0
unfoldable pub place_of : PlaceWords → Place
place_of q = cond (fits q) (shaped (shape q.row) q.domain q.peer q.word) Invalid

-- two places are of the same row, whatever their parts are
abbrev pub same_row : Place → Place → Bool
same_row p q = eqb (words_of p).row (words_of q).row

-- the place is Idle
unfoldable pub is_idle : Place → Bool
is_idle p = same_row p Idle

-- the place is Inside
unfoldable pub is_inside : Place → Bool
is_inside p = same_row p Inside

-- the place is Watch: the thread watches the grant of a ticket lock
unfoldable pub is_watch : Place → Bool
is_watch p = same_row p Watch

-- the domain of a place: the home for Idle and Inside, the root for the places of a ticket lock
abbrev pub place_domain : (home : ℕ) → Place → ℕ
place_domain h Idle = h
place_domain h (Prep l) = l
place_domain h (Swap l) = l
place_domain h (Link l p) = l
place_domain h (Wait l) = l
place_domain h Inside = h
place_domain h (Check l) = l
place_domain h (Help l) = l
place_domain h (Cas l) = l
place_domain h (Linger l) = l
place_domain h (Grant l r w) = l
place_domain h Draw = 0
place_domain h Watch = 0
place_domain h Raise = 0
place_domain h Invalid = h
