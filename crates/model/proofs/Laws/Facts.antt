-- A well-formed state as facts, and what each store must meet to keep them.
use mathlib.Core.Path.{◌≡◌, refl, sym, ap, ◌∙◌}
use mathlib.Core.Bool.{Bool, true, false, ◌&&◌, ◌||◌, not, false≢true}
use mathlib.Core.List.{List, [], ◌∷◌}
use mathlib.Core.Logic.{◌≢◌, ◌⊎◌, inl, inr}
use Prim.Native.Nat.{ℕ, zero, suc, ◌-◌, ◌≤◌, ◌<◌}
use native.Mathlib.Omega.{arith}
use native.Mathlib.Decide.{dec_lt}
use lib.Dec.{eqb, leb}
use lib.ListN.{length, get_or, set, length-set, get_or-eq_default}
use borrow.Author.Tests.{eqb-true, eq-eqb, lt-ltb, le-ltb, leb-true, le-leb, not-true}
use Rattle.model.specs.declared.PlaceWords.{PlaceWords}
use Rattle.model.specs.declared.Place.{Place}
use Rattle.model.specs.declared.Place.TheVariants.{Idle, Watch}
use Rattle.model.specs.declared.State.{State}
use Rattle.model.specs.declared.PlaceArrays.{PlaceArrays}
use Rattle.model.specs.Scans.{all_below}
use Rattle.model.specs.Trees.{Tree, is_ticket, own_record, is_record, is_member, owner_domain}
use Rattle.model.specs.Places.{place_words, words_of, place_of, is_idle, is_watch}
use Rattle.model.specs.States.{tail, next, status, place, with_tail, with_next, with_status, with_place, with_ticket, with_grant, numbers_at, PlacesRoom, HasRoom}
use Rattle.model.specs.WellFormed.{good_tail, good_next, good_status, good_place, good_watch, good_thread, good_counters, well_formed}
use Rattle.model.specs.Laws.{Typed, Formed}
use Rattle.model.proofs.Tests.{and_both, or_cases, or_right, all_each, all_true}
use Rattle.model.proofs.Places.{place_of_words, idle_facts, watch_facts, numbers_all, room_kept, numbers_beyond}

-- a word of 64 bits
abbrev pub SixtyFourBit : (word : ℕ) → Type 0
SixtyFourBit v = v < 18446744073709551616

-- what a well-formed state has at each index, unused slots included
abbrev pub GoodTail : Tree → (domain value : ℕ) → Type 0
GoodTail t d v = (v ≡ 0) ⊎ ((is_ticket t d ≡ false) × (is_member t d (v - 1) ≡ true))

abbrev pub GoodNext : Tree → (number value : ℕ) → Type 0
GoodNext t r v = (v ≡ 0) ⊎ ((is_record t r ≡ true) × (is_member t (owner_domain t r) (v - 1) ≡ true))

abbrev pub GoodStatus : Tree → (number value : ℕ) → Type 0
GoodStatus t r v = (v ≡ 0) ⊎ (is_record t r ≡ true)

pub record GoodThread (t : Tree) (i : ℕ) (x : PlaceWords) : Type 0 where
  pub used : i < t.threads → good_place t i (place_of x) ≡ true
  pub unused : t.threads ≤ i → place_of x ≡ Idle

pub record Facts (t : Tree) (s : State) : Type 0 where
  pub typed : Typed s
  pub tails : (d : ℕ) → GoodTail t d (tail s d)
  pub nexts : (r : ℕ) → GoodNext t r (next s r)
  pub statuses : (r : ℕ) → GoodStatus t r (status s r)
  pub places : (i : ℕ) → GoodThread t i (numbers_at s.places i)
  pub watched : (i : ℕ) → i < t.threads → place s i ≡ Watch → status s (own_record t i 0) ≤ 65535
  pub counters : (t.ticket_root ≡ true) ⊎ ((s.ticket ≡ 0) × (s.grant ≡ 0))

-- FROM THE TEST TO THE FACTS
-- what holds for every element of a list of known length and for the default holds at every index
everywhere :
    {A : Type 0} (Q : ℕ → A → Type 0) (xs : List A) (n : ℕ) (d : A) → length xs ≡ n → ((j : ℕ) → j < n → Q j (get_or xs j d)) →
    ((j : ℕ) → n ≤ j → Q j d) → (j : ℕ) → Q j (get_or xs j d)
everywhere Q xs n d e f g j =
    elim (dec_lt j n) [ yes h ↦ f j h | no h ↦ rw (get_or-eq_default xs d {n = j} (omega arith)) (g j (omega arith)) ]

in_all_room :
    (Q : ℕ → PlaceWords → Type 0) (q : PlaceArrays) → PlacesRoom q → ((j : ℕ) → j < 256 → Q j (numbers_at q j)) → ((j : ℕ) → 256 ≤ j → Q j (place_words 0 0 0 0)) →
    (j : ℕ) → Q j (numbers_at q j)
in_all_room Q q r f g j = elim (dec_lt j 256) [ yes h ↦ f j h | no h ↦ rw (numbers_beyond q j r (omega arith)) (g j (omega arith)) ]

tail_fact : (t : Tree) (s : State) (d : ℕ) → good_tail t s d ≡ true → GoodTail t d (tail s d)
unfolding good_tail
tail_fact t s d e =
    elim (or_cases (eqb (tail s d) 0) (not (is_ticket t d) && is_member t d (tail s d - 1)) e) [
      | inl z ↦ inl (eqb-true _ _ z)
      | inr m ↦ let both = and_both (not (is_ticket t d)) (is_member t d (tail s d - 1)) m in inr (not-true (is_ticket t d) both.0, both.1)
    ]

tail_test : (t : Tree) (s : State) (d : ℕ) → GoodTail t d (tail s d) → good_tail t s d ≡ true
unfolding good_tail
tail_test t s d (inl z) = rw (eq-eqb (tail s d) 0 z)
tail_test t s d (inr m) = or_right (eqb (tail s d) 0) _ (rw (m.0, m.1))

next_fact : (t : Tree) (s : State) (r : ℕ) → good_next t s r ≡ true → GoodNext t r (next s r)
unfolding good_next
next_fact t s r e =
    elim (or_cases (eqb (next s r) 0) (is_record t r && is_member t (owner_domain t r) (next s r - 1)) e) [
      | inl z ↦ inl (eqb-true _ _ z)
      | inr m ↦ inr (and_both (is_record t r) (is_member t (owner_domain t r) (next s r - 1)) m)
    ]

next_test : (t : Tree) (s : State) (r : ℕ) → GoodNext t r (next s r) → good_next t s r ≡ true
unfolding good_next
next_test t s r (inl z) = rw (eq-eqb (next s r) 0 z)
next_test t s r (inr m) = or_right (eqb (next s r) 0) _ (rw (m.0, m.1))

status_fact : (t : Tree) (s : State) (r : ℕ) → good_status t s r ≡ true → GoodStatus t r (status s r)
unfolding good_status
status_fact t s r e =
    elim (or_cases (eqb (status s r) 0) (is_record t r) e) [ inl z ↦ inl (eqb-true _ _ z) | inr m ↦ inr m ]

status_test : (t : Tree) (s : State) (r : ℕ) → GoodStatus t r (status s r) → good_status t s r ≡ true
unfolding good_status
status_test t s r (inl z) = rw (eq-eqb (status s r) 0 z)
status_test t s r (inr m) = or_right (eqb (status s r) 0) _ m

idle_test : is_idle Idle ≡ true
unfolding is_idle
idle_test = refl

idle_good : (t : Tree) (i : ℕ) → good_place t i Idle ≡ true
unfolding good_place
idle_good t i = refl

idle_words : place_of (place_words 0 0 0 0) ≡ Idle
idle_words = place_of_words Idle

idle_not_watch : Idle ≢ Watch
unfolding is_watch
idle_not_watch e = false≢true (ap is_watch e)

thread_fact : (t : Tree) (s : State) (i : ℕ) → good_thread t s i ≡ true → GoodThread t i (numbers_at s.places i)
unfolding good_thread
thread_fact t s i e =
    record {
      used = λ h. (and_both (good_place t i (place s i)) (good_watch t s i) (rw (lt-ltb i t.threads h) at e)).0;
      unused = λ h. idle_facts (place s i) (rw (le-ltb i t.threads h) at e);
    }

watch_fact : (t : Tree) (s : State) (i : ℕ) → i < t.threads → good_thread t s i ≡ true → place s i ≡ Watch → status s (own_record t i 0) ≤ 65535
unfolding good_thread good_watch is_watch
watch_fact t s i h e w =
    let both = and_both (good_place t i (place s i)) (good_watch t s i) (rw (lt-ltb i t.threads h) at e) in
    leb-true _ 65535 (rw w at both.1)

watch_test : (t : Tree) (s : State) (i : ℕ) → (place s i ≡ Watch → status s (own_record t i 0) ≤ 65535) → good_watch t s i ≡ true
unfolding good_watch
watch_test t s i f = by (is_watch (place s i)) refl
  where
    by : (b : Bool) → is_watch (place s i) ≡ b → not (is_watch (place s i)) || leb (status s (own_record t i 0)) 65535 ≡ true
    by true e = rw e (le-leb _ 65535 (f (watch_facts (place s i) e)))
    by false e = rw e

thread_test :
    (t : Tree) (s : State) (i : ℕ) → GoodThread t i (numbers_at s.places i) →
    (i < t.threads → place s i ≡ Watch → status s (own_record t i 0) ≤ 65535) → good_thread t s i ≡ true
unfolding good_thread
thread_test t s i g w =
    elim (dec_lt i t.threads) [
      | yes h ↦ rw (lt-ltb i t.threads h, g.used h) (watch_test t s i (w h))
      | no h ↦ let l : t.threads ≤ i = omega arith in rw (le-ltb i t.threads l, g.unused l) idle_test
    ]

counters_fact : (t : Tree) (s : State) → good_counters t s ≡ true → (t.ticket_root ≡ true) ⊎ ((s.ticket ≡ 0) × (s.grant ≡ 0))
unfolding good_counters
counters_fact t s e =
    elim (or_cases t.ticket_root (eqb s.ticket 0 && eqb s.grant 0) e) [
      | inl z ↦ inl z
      | inr m ↦ let both = and_both (eqb s.ticket 0) (eqb s.grant 0) m in inr (eqb-true _ _ both.0, eqb-true _ _ both.1)
    ]

counters_test : (t : Tree) (s : State) → (t.ticket_root ≡ true) ⊎ ((s.ticket ≡ 0) × (s.grant ≡ 0)) → good_counters t s ≡ true
unfolding good_counters
counters_test t s (inl z) = rw z
counters_test t s (inr m) = or_right t.ticket_root _ (rw (eq-eqb s.ticket 0 m.0, eq-eqb s.grant 0 m.1))

-- the default: Idle is good at every index
pub thread_idle : (t : Tree) (i : ℕ) → GoodThread t i (place_words 0 0 0 0)
thread_idle t i = record { used = λ h. rw idle_words (idle_good t i); unused = λ h. idle_words }

pub well_formed_facts : (t : Tree) (s : State) → Formed t s → Facts t s
unfolding well_formed
well_formed_facts t s f =
    let y = f.typed in
    let halves = and_both (all_below 64 (good_tail t s) && all_below 320 (good_next t s)) (all_below 320 (good_status t s) && (all_below 256 (good_thread t s) && good_counters t s)) f.form in
    let a = and_both (all_below 64 (good_tail t s)) (all_below 320 (good_next t s)) halves.0 in
    let b = and_both (all_below 320 (good_status t s)) (all_below 256 (good_thread t s) && good_counters t s) halves.1 in
    let c = and_both (all_below 256 (good_thread t s)) (good_counters t s) b.1 in
    record {
      typed = y;
      tails = everywhere (GoodTail t) s.tails 64 0 y.tails_room (λ d h. tail_fact t s d (all_each 64 _ a.0 d h)) (λ d h. inl refl);
      nexts = everywhere (GoodNext t) s.nexts 320 0 y.nexts_room (λ r h. next_fact t s r (all_each 320 _ a.1 r h)) (λ r h. inl refl);
      statuses = everywhere (GoodStatus t) s.statuses 320 0 y.statuses_room (λ r h. status_fact t s r (all_each 320 _ b.0 r h)) (λ r h. inl refl);
      places = in_all_room (GoodThread t) s.places y.places_room (λ i h. thread_fact t s i (all_each 256 _ c.0 i h)) (λ i h. thread_idle t i);
      watched = in_all_room (λ j x. j < t.threads → place_of x ≡ Watch → status s (own_record t j 0) ≤ 65535) s.places y.places_room
          (λ j h l. watch_fact t s j l (all_each 256 _ c.0 j h)) (λ j h l e. absurd (idle_not_watch (sym idle_words ∙ e)));
      counters = counters_fact t s c.1;
    }

-- FROM THE FACTS TO THE TEST
pub facts_well_formed : (t : Tree) (s : State) → Facts t s → Formed t s
unfolding well_formed
facts_well_formed t s k =
    let a = all_true 64 (good_tail t s) (λ d h. tail_test t s d (k.tails d)) in
    let b = all_true 320 (good_next t s) (λ r h. next_test t s r (k.nexts r)) in
    let c = all_true 320 (good_status t s) (λ r h. status_test t s r (k.statuses r)) in
    let d = all_true 256 (good_thread t s) (λ i h. thread_test t s i (k.places i) (k.watched i)) in
    record { typed = k.typed; form = rw (a, b, c, d, counters_test t s k.counters) }

-- STORES
-- a store keeps what holds for every element
pub set_all :
    {A : Type 0} (Q : ℕ → A → Type 0) (xs : List A) (i : ℕ) (v d : A) → Q i v → ((j : ℕ) → Q j (get_or xs j d)) → (j : ℕ) →
    Q j (get_or (set xs i v) j d)
set_all Q [] i v d q h j = h j
set_all Q (x ∷ xs) zero v d q h zero = q
set_all Q (x ∷ xs) zero v d q h (suc j) = h (suc j)
set_all Q (x ∷ xs) (suc i) v d q h zero = h zero
set_all Q (x ∷ xs) (suc i) v d q h (suc j) = set_all (λ k. Q (suc k)) xs i v d q (λ k. h (suc k)) j

module _ (t : Tree) (s : State) (k : Facts t s) where
  abbrev y : Typed s
  y = k.typed

  pub tail_keeps : (d v : ℕ) → GoodTail t d v → Facts t (with_tail d v s)
  tail_keeps d v f =
      record {
        typed = record {
          tails_room = length-set s.tails d v ∙ y.tails_room;
          nexts_room = y.nexts_room;
          statuses_room = y.statuses_room;
          places_room = y.places_room;
          statuses_fit = y.statuses_fit;
          ticket_fits = y.ticket_fits;
          grant_fits = y.grant_fits;
          words_fit = y.words_fit;
        };
        tails = set_all (GoodTail t) s.tails d v 0 f k.tails;
        nexts = k.nexts;
        statuses = k.statuses;
        places = k.places;
        watched = k.watched;
        counters = k.counters;
      }

  pub next_keeps : (r v : ℕ) → GoodNext t r v → Facts t (with_next r v s)
  next_keeps r v f =
      record {
        typed = record {
          tails_room = y.tails_room;
          nexts_room = length-set s.nexts r v ∙ y.nexts_room;
          statuses_room = y.statuses_room;
          places_room = y.places_room;
          statuses_fit = y.statuses_fit;
          ticket_fits = y.ticket_fits;
          grant_fits = y.grant_fits;
          words_fit = y.words_fit;
        };
        tails = k.tails;
        nexts = set_all (GoodNext t) s.nexts r v 0 f k.nexts;
        statuses = k.statuses;
        places = k.places;
        watched = k.watched;
        counters = k.counters;
      }

  -- a status that a thread may watch stays a 16-bit number
  pub status_keeps :
      (r v : ℕ) → is_record t r ≡ true → SixtyFourBit v → ((i : ℕ) → i < t.threads → place s i ≡ Watch → own_record t i 0 ≡ r → v ≤ 65535) →
      Facts t (with_status r v s)
  status_keeps r v f h g =
      record {
        typed = record {
          tails_room = y.tails_room;
          nexts_room = y.nexts_room;
          statuses_room = length-set s.statuses r v ∙ y.statuses_room;
          places_room = y.places_room;
          statuses_fit = set_all (λ _. SixtyFourBit) s.statuses r v 0 h y.statuses_fit;
          ticket_fits = y.ticket_fits;
          grant_fits = y.grant_fits;
          words_fit = y.words_fit;
        };
        tails = k.tails;
        nexts = k.nexts;
        statuses = set_all (GoodStatus t) s.statuses r v 0 (inr f) k.statuses;
        places = k.places;
        watched = λ i l w.
            set_all (λ q x. own_record t i 0 ≡ q → x ≤ 65535) s.statuses r v 0 (g i l w) (λ q e. rw (← e) (k.watched i l w)) (own_record t i 0) refl;
        counters = k.counters;
      }

  pub place_keeps :
      (i : ℕ) (p : Place) → i < t.threads → t.threads ≤ 256 → good_place t i p ≡ true → SixtyFourBit (words_of p).word →
      (p ≡ Watch → status s (own_record t i 0) ≤ 65535) → Facts t (with_place i p s)
  place_keeps i p l few f h g =
      let room : HasRoom s.places i = (y.places_room, omega arith) in
      record {
        typed = record {
          tails_room = y.tails_room;
          nexts_room = y.nexts_room;
          statuses_room = y.statuses_room;
          places_room = room_kept s.places i (words_of p) y.places_room;
          statuses_fit = y.statuses_fit;
          ticket_fits = y.ticket_fits;
          grant_fits = y.grant_fits;
          words_fit = numbers_all (λ _ x. SixtyFourBit x.word) s.places i (words_of p) room h y.words_fit;
        };
        tails = k.tails;
        nexts = k.nexts;
        statuses = k.statuses;
        places = numbers_all (GoodThread t) s.places i (words_of p) room
            (record { used = λ _. rw (place_of_words p) f; unused = λ m. absurd (omega arith) }) k.places;
        watched = numbers_all (λ j x. j < t.threads → place_of x ≡ Watch → status s (own_record t j 0) ≤ 65535) s.places i (words_of p) room
            (λ _ e. g (sym (place_of_words p) ∙ e)) k.watched;
        counters = k.counters;
      }

  pub ticket_keeps : (v : ℕ) → v < 65536 → t.ticket_root ≡ true → Facts t (with_ticket v s)
  ticket_keeps v h e =
      record {
        typed = record {
          tails_room = y.tails_room;
          nexts_room = y.nexts_room;
          statuses_room = y.statuses_room;
          places_room = y.places_room;
          statuses_fit = y.statuses_fit;
          ticket_fits = h;
          grant_fits = y.grant_fits;
          words_fit = y.words_fit;
        };
        tails = k.tails;
        nexts = k.nexts;
        statuses = k.statuses;
        places = k.places;
        watched = k.watched;
        counters = inl e;
      }

  pub grant_keeps : (v : ℕ) → v < 65536 → t.ticket_root ≡ true → Facts t (with_grant v s)
  grant_keeps v h e =
      record {
        typed = record {
          tails_room = y.tails_room;
          nexts_room = y.nexts_room;
          statuses_room = y.statuses_room;
          places_room = y.places_room;
          statuses_fit = y.statuses_fit;
          ticket_fits = y.ticket_fits;
          grant_fits = h;
          words_fit = y.words_fit;
        };
        tails = k.tails;
        nexts = k.nexts;
        statuses = k.statuses;
        places = k.places;
        watched = k.watched;
        counters = inl e;
      }
