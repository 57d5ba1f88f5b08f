-- The words of a state as functions, and the effect of a store on them.
use mathlib.Core.Path.{◌≡◌, refl, sym, ap, ◌∙◌, fun_ext}
use mathlib.Core.List.{List}
use Prim.Native.Nat.{ℕ, ◌<◌}
use native.Mathlib.Omega.{arith}
use lib.ListN.{length, get_or, set, length-set}
use lib.Seq.{get_or-set_same, get_or-set_other}
use Rattle.model.specs.declared.Place.{Place}
use Rattle.model.specs.declared.State.{State}
use Rattle.model.specs.Places.{words_of}
use Rattle.model.specs.States.{tail, next, status, place, with_tail, with_next, with_status, with_place, with_ticket, with_grant, PlacesRoom}
use Rattle.model.proofs.Places.{room_kept, place_stored as model_place_stored, place_elsewhere}
use Rattle.model.proofs.Lists.{same_or, put, put_same, put_other}

-- tails by domain, nexts and statuses by record, places by thread, and the two counters
pub record Words : Type 0 where
  pub tails : ℕ → ℕ
  pub nexts : ℕ → ℕ
  pub statuses : ℕ → ℕ
  pub places : ℕ → Place
  pub ticket : ℕ
  pub grant : ℕ

unfoldable pub words_in : State → Words
words_in s = record { tails = λ d. tail s d; nexts = λ r. next s r; statuses = λ r. status s r; places = λ i. place s i; ticket = s.ticket; grant = s.grant }

-- the lengths of the arrays
pub record Room (s : State) : Type 0 where
  pub tails_room : length s.tails ≡ 64
  pub nexts_room : length s.nexts ≡ 320
  pub statuses_room : length s.statuses ≡ 320
  pub places_room : PlacesRoom s.places

-- a store to a list changes one element
stored_at : {A : Type 0} (xs : List A) (k : ℕ) (v d : A) → k < length xs → (j : ℕ) → get_or (set xs k v) j d ≡ put (λ n. get_or xs n d) k v j
stored_at xs k v d h j =
    same_or j k _
    (λ z. rw z (get_or-set_same xs k v d h ∙ sym (put_same (λ n. get_or xs n d) k v k refl)))
    (λ z. get_or-set_other xs k j v d z ∙ sym (put_other (λ n. get_or xs n d) k v j z))

-- the words with one of them changed
abbrev pub tail_to : (domain value : ℕ) → Words → Words
tail_to d v w = record { tails = put w.tails d v; nexts = w.nexts; statuses = w.statuses; places = w.places; ticket = w.ticket; grant = w.grant }

abbrev pub next_to : (number value : ℕ) → Words → Words
next_to r v w = record { tails = w.tails; nexts = put w.nexts r v; statuses = w.statuses; places = w.places; ticket = w.ticket; grant = w.grant }

abbrev pub status_to : (number value : ℕ) → Words → Words
status_to r v w = record { tails = w.tails; nexts = w.nexts; statuses = put w.statuses r v; places = w.places; ticket = w.ticket; grant = w.grant }

abbrev pub place_to : (thread : ℕ) → Place → Words → Words
place_to i p w = record { tails = w.tails; nexts = w.nexts; statuses = w.statuses; places = put w.places i p; ticket = w.ticket; grant = w.grant }

abbrev pub ticket_to : (value : ℕ) → Words → Words
ticket_to v w = record { tails = w.tails; nexts = w.nexts; statuses = w.statuses; places = w.places; ticket = v; grant = w.grant }

abbrev pub grant_to : (value : ℕ) → Words → Words
grant_to v w = record { tails = w.tails; nexts = w.nexts; statuses = w.statuses; places = w.places; ticket = w.ticket; grant = v }

-- the stores to arrays, each within the array
module _ (s : State) (room : Room s) where
  pub tail_stored : (d v : ℕ) → d < 64 → words_in (with_tail d v s) ≡ tail_to d v (words_in s)
  unfolding words_in
  tail_stored d v h =
      let f = fun_ext (stored_at s.tails d v 0 (omega (arith, room.tails_room))) in
      ap (λ (x : ℕ → ℕ). record { tails = x; nexts = λ r. next s r; statuses = λ r. status s r; places = λ i. place s i; ticket = s.ticket; grant = s.grant }) f

  pub next_stored : (r v : ℕ) → r < 320 → words_in (with_next r v s) ≡ next_to r v (words_in s)
  unfolding words_in
  next_stored r v h =
      let f = fun_ext (stored_at s.nexts r v 0 (omega (arith, room.nexts_room))) in
      ap (λ (x : ℕ → ℕ). record { tails = λ d. tail s d; nexts = x; statuses = λ r. status s r; places = λ i. place s i; ticket = s.ticket; grant = s.grant }) f

  pub status_stored : (r v : ℕ) → r < 320 → words_in (with_status r v s) ≡ status_to r v (words_in s)
  unfolding words_in
  status_stored r v h =
      let f = fun_ext (stored_at s.statuses r v 0 (omega (arith, room.statuses_room))) in
      ap (λ (x : ℕ → ℕ). record { tails = λ d. tail s d; nexts = λ r. next s r; statuses = x; places = λ i. place s i; ticket = s.ticket; grant = s.grant }) f

  pub place_stored : (i : ℕ) (p : Place) → i < 256 → words_in (with_place i p s) ≡ place_to i p (words_in s)
  unfolding words_in
  place_stored i p h =
      let one : (j : ℕ) → place (with_place i p s) j ≡ put (λ k. place s k) i p j =
      λ j. same_or j i _
      (λ z. rw z (model_place_stored i p s (room.places_room, h) ∙ sym (put_same (λ k. place s k) i p i refl)))
      (λ z. place_elsewhere i j p s z ∙ sym (put_other (λ k. place s k) i p j z)) in
      ap (λ (x : ℕ → Place). record { tails = λ d. tail s d; nexts = λ r. next s r; statuses = λ r. status s r; places = x; ticket = s.ticket; grant = s.grant }) (fun_ext one)

  pub tail_room : (d v : ℕ) → Room (with_tail d v s)
  tail_room d v =
      record { tails_room = length-set s.tails d v ∙ room.tails_room; nexts_room = room.nexts_room; statuses_room = room.statuses_room; places_room = room.places_room }

  pub next_room : (r v : ℕ) → Room (with_next r v s)
  next_room r v =
      record { tails_room = room.tails_room; nexts_room = length-set s.nexts r v ∙ room.nexts_room; statuses_room = room.statuses_room; places_room = room.places_room }

  pub status_room : (r v : ℕ) → Room (with_status r v s)
  status_room r v =
      record { tails_room = room.tails_room; nexts_room = room.nexts_room; statuses_room = length-set s.statuses r v ∙ room.statuses_room; places_room = room.places_room }

  pub place_room : (i : ℕ) (p : Place) → Room (with_place i p s)
  place_room i p =
      record { tails_room = room.tails_room; nexts_room = room.nexts_room; statuses_room = room.statuses_room; places_room = room_kept s.places i (words_of p) room.places_room }

  pub ticket_stored : (v : ℕ) → words_in (with_ticket v s) ≡ ticket_to v (words_in s)
  unfolding words_in
  ticket_stored v = refl

  pub grant_stored : (v : ℕ) → words_in (with_grant v s) ≡ grant_to v (words_in s)
  unfolding words_in
  grant_stored v = refl

  pub ticket_room : (v : ℕ) → Room (with_ticket v s)
  ticket_room v =
      record { tails_room = room.tails_room; nexts_room = room.nexts_room; statuses_room = room.statuses_room; places_room = room.places_room }

  pub grant_room : (v : ℕ) → Room (with_grant v s)
  grant_room v =
      record { tails_room = room.tails_room; nexts_room = room.nexts_room; statuses_room = room.statuses_room; places_room = room.places_room }
