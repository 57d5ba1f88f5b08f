-- A place and its four numbers determine each other; a stored place is read back.
use mathlib.Core.Path.{◌≡◌, refl, sym, ap, ◌∙◌}
use mathlib.Core.Bool.{Bool, true, false, ◌&&◌, cond, false≢true}
use mathlib.Core.Logic.{◌≢◌}
use Prim.Native.Nat.{ℕ, zero, suc, ◌≤◌, ◌<◌}
use native.Mathlib.Omega.{arith}
use native.Mathlib.Decide.{ℕ_discrete}
use lib.Dec.{eqb}
use lib.ListN.{get_or, replicate, length-set, get_or-eq_default}
use lib.Seq.{get_or-set_same, get_or-set_other, set-get_or}
use borrow.Author.Tests.{eqb-true, eqb-false, ne_eqb}
use Rattle.model.specs.declared.PlaceWords.{PlaceWords}
use Rattle.model.specs.declared.Place.{Place}
use Rattle.model.specs.declared.Place.TheVariants.{Idle, Prep, Swap, Link, Wait, Inside, Check, Help, Cas, Linger, Grant, Draw, Watch, Raise, Invalid}
use Rattle.model.specs.declared.State.{State}
use Rattle.model.specs.declared.PlaceArrays.{PlaceArrays}
use Rattle.model.specs.Trees.{Tree}
use Rattle.model.specs.Places.{place_words, words_of, no_row, shapes, shape, parts, fits, shaped, place_of, is_idle, is_watch}
use Rattle.model.specs.States.{numbers_at, store_numbers, PlacesRoom, HasRoom, fresh_words, fresh_state, place, with_place}
use Rattle.model.proofs.Tests.{by_test, and_both, and_true, and_false}

-- the numbers of a place give the place back, also for Invalid
pub place_of_words : (p : Place) → place_of (words_of p) ≡ p
unfolding place_of
place_of_words Idle = refl
place_of_words (Prep l) = refl
place_of_words (Swap l) = refl
place_of_words (Link l p) = refl
place_of_words (Wait l) = refl
place_of_words Inside = refl
place_of_words (Check l) = refl
place_of_words (Help l) = refl
place_of_words (Cas l) = refl
place_of_words (Linger l) = refl
place_of_words (Grant l s w) = refl
place_of_words Draw = refl
place_of_words Watch = refl
place_of_words Raise = refl
place_of_words Invalid = refl

pub words_fit : (p : Place) → fits (words_of p) ≡ true
words_fit Idle = refl
words_fit (Prep l) = refl
words_fit (Swap l) = refl
words_fit (Link l p) = refl
words_fit (Wait l) = refl
words_fit Inside = refl
words_fit (Check l) = refl
words_fit (Help l) = refl
words_fit (Cas l) = refl
words_fit (Linger l) = refl
words_fit (Grant l s w) = refl
words_fit Draw = refl
words_fit Watch = refl
words_fit Raise = refl
words_fit Invalid = refl

-- a place whose row is known
pub row_place : (p : Place) (r : ℕ) → (words_of p).row ≡ r → p ≡ shaped (shape r) (words_of p).domain (words_of p).peer (words_of p).word
unfolding place_of
row_place p r e = sym (place_of_words p) ∙ rw (words_fit p, e) refl

-- a row is one of the table's, or has a higher number
pub by_row :
    (C : ℕ → Type 0) (r : ℕ) → C 0 → C 1 → C 2 → C 3 → C 4 → C 5 → C 6 → C 7 → C 8 → C 9 → C 10 → C 11 → C 12 → C 13 → (13 < r → C r) → C r
by_row C r c₀ c₁ c₂ c₃ c₄ c₅ c₆ c₇ c₈ c₉ c₁₀ c₁₁ c₁₂ c₁₃ more =
    at 0 (omega arith) c₀ (λ h. at 1 h c₁ (λ h. at 2 h c₂ (λ h. at 3 h c₃ (λ h. at 4 h c₄ (λ h. at 5 h c₅ (λ h.
    at 6 h c₆ (λ h. at 7 h c₇ (λ h. at 8 h c₈ (λ h. at 9 h c₉ (λ h. at 10 h c₁₀ (λ h.
    at 11 h c₁₁ (λ h. at 12 h c₁₂ (λ h. at 13 h c₁₃ more)))))))))))))
  where
    at : (k : ℕ) → k ≤ r → C k → (k < r → C r) → C r
    at k h c f = elim (ℕ_discrete r k) [ yes e ↦ rw e c | no e ↦ f (omega arith) ]

-- a higher number has no shape, and so no place
pub beyond : (r : ℕ) → 13 < r → shape r ≡ no_row
beyond r h = get_or-eq_default shapes no_row {n = r} h

pub no_place : (q : PlaceWords) → 13 < q.row → place_of q ≡ Invalid
unfolding place_of
no_place q h = rw (beyond q.row h) (by_test (λ p. p ≡ Invalid) (eqb q.domain 0 && (eqb q.peer 0 && eqb q.word 0)) Invalid Invalid (λ _. refl) (λ _. refl))

-- if four numbers are a place, each part that the row does not have is 0, and the row's shape is the place
pub place_fits : (q : PlaceWords) → place_of q ≢ Invalid → fits q ≡ true
unfolding place_of
place_fits q n = by (fits q) n
  where
    by : (b : Bool) → cond b (shaped (shape q.row) q.domain q.peer q.word) Invalid ≢ Invalid → b ≡ true
    by true n = refl
    by false n = absurd (n refl)

pub place_shaped : (q : PlaceWords) → place_of q ≢ Invalid → place_of q ≡ shaped (shape q.row) q.domain q.peer q.word
unfolding place_of
place_shaped q n = rw (place_fits q n)

-- the numbers of a row without parts, with a domain, with a domain and a record
bare_words : (r d p w : ℕ) → eqb d 0 && (eqb p 0 && eqb w 0) ≡ true → place_words r 0 0 0 ≡ place_words r d p w
bare_words r d p w e =
    let a = and_both (eqb d 0) (eqb p 0 && eqb w 0) e in
    let b = and_both (eqb p 0) (eqb w 0) a.1 in
    rw (eqb-true d 0 a.0, eqb-true p 0 b.0, eqb-true w 0 b.1)

plain_words : (r d p w : ℕ) → eqb p 0 && eqb w 0 ≡ true → place_words r d 0 0 ≡ place_words r d p w
plain_words r d p w e = let b = and_both (eqb p 0) (eqb w 0) e in rw (eqb-true p 0 b.0, eqb-true w 0 b.1)

linked_words : (r d p w : ℕ) → eqb w 0 ≡ true → place_words r d p 0 ≡ place_words r d p w
linked_words r d p w e = rw (eqb-true w 0 e)

-- if four numbers give a place, they are the numbers of that place
pub words_of_place : (q : PlaceWords) → place_of q ≢ Invalid → words_of (place_of q) ≡ q
words_of_place q n = rw (place_shaped q n) (by q.row q.domain q.peer q.word (place_fits q n) (λ z. n (no_place q z)))
  where
    by : (r d p w : ℕ) → fits (place_words r d p w) ≡ true → (13 < r → ⊥) → words_of (shaped (shape r) d p w) ≡ place_words r d p w
    by r d p w =
        by_row (λ r. fits (place_words r d p w) ≡ true → (13 < r → ⊥) → words_of (shaped (shape r) d p w) ≡ place_words r d p w) r
        (λ e _. bare_words 0 d p w e)
        (λ e _. plain_words 1 d p w e)
        (λ e _. plain_words 2 d p w e)
        (λ e _. linked_words 3 d p w e)
        (λ e _. plain_words 4 d p w e)
        (λ e _. bare_words 5 d p w e)
        (λ e _. plain_words 6 d p w e)
        (λ e _. plain_words 7 d p w e)
        (λ e _. plain_words 8 d p w e)
        (λ e _. plain_words 9 d p w e)
        (λ _ _. refl)
        (λ e _. bare_words 11 d p w e)
        (λ e _. bare_words 12 d p w e)
        (λ e _. bare_words 13 d p w e)
        (λ h _ m. absurd (m h))

-- TESTS OF A PLACE. A test that Invalid fails is a test of the numbers: that they fit, and that their place passes
pub where_fits : (f : Place → Bool) → f Invalid ≡ false → (x : Place) (c b : Bool) → f x ≡ c → f (cond b x Invalid) ≡ b && c
where_fits f n x c true e = e
where_fits f n x c false e = n

-- a test that only one row passes, a row without parts
pub one_row :
    (f : Place → Bool) (k : ℕ) → f Invalid ≡ false → parts (shape k) ≡ 0 → ((r d p w : ℕ) → f (shaped (shape r) d p w) ≡ eqb r k) → (q : PlaceWords) →
    eqb q.row k && (eqb q.domain 0 && (eqb q.peer 0 && eqb q.word 0)) ≡ f (place_of q)
unfolding place_of
one_row f k n none each q =
    by (eqb q.row k) refl ∙ sym (where_fits f n (shaped (shape q.row) q.domain q.peer q.word) (eqb q.row k) (fits q) (each _ _ _ _))
  where
    by : (b : Bool) → eqb q.row k ≡ b → b && (eqb q.domain 0 && (eqb q.peer 0 && eqb q.word 0)) ≡ fits q && b
    by true e = rw (eqb-true q.row k e, none) (sym (and_true (eqb q.domain 0 && (eqb q.peer 0 && eqb q.word 0))))
    by false e = sym (and_false (fits q))

pub idle_numbers : (q : PlaceWords) → eqb q.row 0 && (eqb q.domain 0 && (eqb q.peer 0 && eqb q.word 0)) ≡ is_idle (place_of q)
unfolding is_idle
idle_numbers = one_row is_idle 0 refl refl (λ r d p w. by_row (λ r. is_idle (shaped (shape r) d p w) ≡ eqb r 0) r refl refl refl refl refl refl refl refl refl refl refl refl refl refl (λ m. rw (beyond r m, ne_eqb r 0 (omega arith))))

pub watch_numbers : (q : PlaceWords) → eqb q.row 12 && (eqb q.domain 0 && (eqb q.peer 0 && eqb q.word 0)) ≡ is_watch (place_of q)
unfolding is_watch
watch_numbers = one_row is_watch 12 refl refl (λ r d p w. by_row (λ r. is_watch (shaped (shape r) d p w) ≡ eqb r 12) r refl refl refl refl refl refl refl refl refl refl refl refl refl refl (λ m. rw (beyond r m, ne_eqb r 12 (omega arith))))

-- a place with another row number is not Idle
pub not_idle : (p : Place) → eqb (words_of p).row 0 ≡ false → p ≢ Idle
not_idle p f e = eqb-false _ _ f (ap (λ x. (words_of x).row) e)

pub idle_facts : (p : Place) → is_idle p ≡ true → p ≡ Idle
unfolding is_idle
idle_facts Idle e = refl
idle_facts (Prep l) e = absurd (false≢true e)
idle_facts (Swap l) e = absurd (false≢true e)
idle_facts (Link l p) e = absurd (false≢true e)
idle_facts (Wait l) e = absurd (false≢true e)
idle_facts Inside e = absurd (false≢true e)
idle_facts (Check l) e = absurd (false≢true e)
idle_facts (Help l) e = absurd (false≢true e)
idle_facts (Cas l) e = absurd (false≢true e)
idle_facts (Linger l) e = absurd (false≢true e)
idle_facts (Grant l s w) e = absurd (false≢true e)
idle_facts Draw e = absurd (false≢true e)
idle_facts Watch e = absurd (false≢true e)
idle_facts Raise e = absurd (false≢true e)
idle_facts Invalid e = absurd (false≢true e)

pub watch_facts : (p : Place) → is_watch p ≡ true → p ≡ Watch
unfolding is_watch
watch_facts Idle e = absurd (false≢true e)
watch_facts (Prep l) e = absurd (false≢true e)
watch_facts (Swap l) e = absurd (false≢true e)
watch_facts (Link l p) e = absurd (false≢true e)
watch_facts (Wait l) e = absurd (false≢true e)
watch_facts Inside e = absurd (false≢true e)
watch_facts (Check l) e = absurd (false≢true e)
watch_facts (Help l) e = absurd (false≢true e)
watch_facts (Cas l) e = absurd (false≢true e)
watch_facts (Linger l) e = absurd (false≢true e)
watch_facts (Grant l s w) e = absurd (false≢true e)
watch_facts Draw e = absurd (false≢true e)
watch_facts Watch e = refl
watch_facts Raise e = absurd (false≢true e)
watch_facts Invalid e = absurd (false≢true e)

-- STORES of a place
pub numbers_stored : (q : PlaceArrays) (i : ℕ) (x : PlaceWords) → HasRoom q i → numbers_at (store_numbers q i x) i ≡ x
unfolding numbers_at store_numbers
numbers_stored q i x h =
    rw (get_or-set_same q.rows i x.row 0 (omega (arith, h.0.rows, h.1)), get_or-set_same q.domains i x.domain 0 (omega (arith, h.0.domains, h.1)), get_or-set_same q.peers i x.peer 0 (omega (arith, h.0.peers, h.1)), get_or-set_same q.words i x.word 0 (omega (arith, h.0.words, h.1)))

-- another thread's place stays
pub numbers_other : (q : PlaceArrays) (i j : ℕ) (x : PlaceWords) → j ≢ i → numbers_at (store_numbers q i x) j ≡ numbers_at q j
unfolding numbers_at store_numbers
numbers_other q i j x n =
    rw (get_or-set_other q.rows i j x.row 0 n, get_or-set_other q.domains i j x.domain 0 n, get_or-set_other q.peers i j x.peer 0 n, get_or-set_other q.words i j x.word 0 n)

-- storing a thread's numbers again changes nothing
pub numbers_again : (q : PlaceArrays) (i : ℕ) → store_numbers q i (numbers_at q i) ≡ q
unfolding numbers_at store_numbers
numbers_again q i = rw (set-get_or q.rows i 0, set-get_or q.domains i 0, set-get_or q.peers i 0, set-get_or q.words i 0)

-- a store keeps what holds for every place, and the lengths of the arrays
pub numbers_all :
    (Q : ℕ → PlaceWords → Type 0) (q : PlaceArrays) (i : ℕ) (x : PlaceWords) → HasRoom q i → Q i x → ((j : ℕ) → Q j (numbers_at q j)) → (j : ℕ) →
    Q j (numbers_at (store_numbers q i x) j)
numbers_all Q q i x h f g j =
    elim (ℕ_discrete j i) [ yes z ↦ rw (z, numbers_stored q i x h) f | no n ↦ rw (numbers_other q i j x n) (g j) ]

pub room_kept : (q : PlaceArrays) (i : ℕ) (x : PlaceWords) → PlacesRoom q → PlacesRoom (store_numbers q i x)
unfolding store_numbers
room_kept q i x r =
    record {
      rows = length-set q.rows i x.row ∙ r.rows;
      domains = length-set q.domains i x.domain ∙ r.domains;
      peers = length-set q.peers i x.peer ∙ r.peers;
      words = length-set q.words i x.word ∙ r.words;
    }

-- fresh places: the numbers of Idle everywhere
pub zero_everywhere : (n j : ℕ) → get_or {A = ℕ} (replicate n 0) j 0 ≡ 0
zero_everywhere zero j = refl
zero_everywhere (suc n) zero = refl
zero_everywhere (suc n) (suc j) = zero_everywhere n j

pub fresh_numbers : (i : ℕ) → numbers_at fresh_words.places i ≡ place_words 0 0 0 0
unfolding numbers_at fresh_words
fresh_numbers i = rw (zero_everywhere 256 i)

-- every thread is Idle in a fresh state
pub fresh_idle : (t : Tree) (v i : ℕ) → place (fresh_state t v) i ≡ Idle
unfolding fresh_state
fresh_idle t v i = ap place_of (fresh_numbers i) ∙ place_of_words Idle

pub fresh_room : PlacesRoom fresh_words.places
unfolding fresh_words
fresh_room = record { rows = refl; domains = refl; peers = refl; words = refl }

-- beyond the arrays every place has the numbers of Idle
pub numbers_beyond : (q : PlaceArrays) (i : ℕ) → PlacesRoom q → 256 ≤ i → numbers_at q i ≡ place_words 0 0 0 0
unfolding numbers_at
numbers_beyond q i r h =
    rw (get_or-eq_default q.rows 0 {n = i} (omega (arith, r.rows)), get_or-eq_default q.domains 0 {n = i} (omega (arith, r.domains)), get_or-eq_default q.peers 0 {n = i} (omega (arith, r.peers)), get_or-eq_default q.words 0 {n = i} (omega (arith, r.words)))

pub place_stored : (i : ℕ) (p : Place) (s : State) → HasRoom s.places i → place (with_place i p s) i ≡ p
place_stored i p s h = rw (numbers_stored s.places i (words_of p) h) (place_of_words p)

pub place_elsewhere : (i j : ℕ) (p : Place) (s : State) → j ≢ i → place (with_place i p s) j ≡ place s j
place_elsewhere i j p s n = ap place_of (numbers_other s.places i j (words_of p) n)
