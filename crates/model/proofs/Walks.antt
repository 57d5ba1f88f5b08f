-- SINGLE PASSES: testing every word of an array by its index goes through the array once for each word. A single pass gives the same result, so well-formedness is computed by single passes.
use mathlib.Core.Path.{◌≡◌, refl, sym, ap, ◌∙◌}
use mathlib.Core.Bool.{Bool, true, false, ◌&&◌, cond}
use mathlib.Core.List.{List, [], ◌∷◌}
use Prim.Native.Nat.{ℕ, zero, suc, ◌+◌, ◌≤◌, ◌<◌}
use native.Mathlib.Omega.{arith}
use native.Mathlib.Decide.{ℕ_discrete}
use lib.Dec.{eqb, leb, leb-zero}
use lib.ListN.{length, get_or, drop}
use borrow.Author.Tests.{eqb-true, leb-true, le-ltb}
use Rattle.model.specs.declared.PlaceWords.{PlaceWords}
use Rattle.model.specs.declared.State.{State}
use Rattle.model.specs.declared.Counters.{Counters}
use Rattle.model.specs.declared.PlaceArrays.{PlaceArrays}
use Rattle.model.specs.Scans.{any_below, all_below}
use Rattle.model.specs.Trees.{Tree}
use Rattle.model.specs.Places.{place_words, place_of, is_idle}
use Rattle.model.specs.States.{tail, numbers_at, PlacesRoom}
use Rattle.model.specs.WellFormed.{good_tail, next_fits, good_next, status_fits, good_status, watch_fits, good_watch, thread_fits, good_thread, good_counters, well_formed}
use Rattle.model.specs.Counters.{good_count, good_counts, count_above, any_above}
use Rattle.model.proofs.Tests.{and_both, and_true, or_false, all_same}
use Rattle.model.proofs.Laws.Counters.{zero_fits_test}

-- every element passes a test with its index; the first index is given
unfoldable pub walked : {A : Type 0} → (ℕ → A → Bool) → ℕ → List A → Bool
walked f k [] = true
walked f k (x ∷ xs) = f k x && walked f (suc k) xs

and_assoc : (a b c : Bool) → (a && b) && c ≡ a && (b && c)
and_assoc true b c = refl
and_assoc false b c = refl

-- the first number is split off instead of the last
first_apart : (n : ℕ) (f : ℕ → Bool) → all_below (suc n) f ≡ f 0 && all_below n (λ k. f (suc k))
unfolding all_below
first_apart zero f = sym (and_true (f 0))
first_apart (suc n) f = ap (λ b. b && f (suc n)) (first_apart n f) ∙ and_assoc (f 0) (all_below n (λ k. f (suc k))) (f (suc n))

-- a test of every index of an array is a single pass over it
pub walk : {A : Type 0} (f : ℕ → A → Bool) (d : A) (k : ℕ) (xs : List A) → all_below (length xs) (λ n. f (k + n) (get_or xs n d)) ≡ walked f k xs
unfolding all_below walked
walk f d k [] = refl
walk f d k (x ∷ xs) =
    let g : ℕ → Bool = λ n. f (k + n) (get_or (x ∷ xs) n d) in
    let here : k + 0 ≡ k = omega arith in
    first_apart (length xs) g
    ∙ ap (λ b. b && all_below (length xs) (λ n. g (suc n))) (ap (λ j. f j x) here)
    ∙ ap (λ b. f k x && b)
    (all_same (length xs) (λ n. g (suc n)) (λ n. f (suc k + n) (get_or xs n d)) (λ n _. ap (λ j. f j (get_or xs n d)) (omega arith)) ∙ walk f d (suc k) xs)

-- the same for a whole array
whole : {A : Type 0} (f : ℕ → A → Bool) (d : A) (n : ℕ) (xs : List A) → length xs ≡ n → all_below n (λ k. f k (get_or xs k d)) ≡ walked f 0 xs
whole f d n xs h =
    all_same n (λ k. f k (get_or xs k d)) (λ k. f (0 + k) (get_or xs k d)) (λ k _. ap (λ j. f j (get_or xs k d)) (omega arith))
    ∙ rw (sym h) (walk f d 0 xs)

-- A TAIL OF ZEROS passes, so it is not tested: every number after the first n is 0
unfoldable pub zero_from : (first : ℕ) → List ℕ → Bool
zero_from n [] = true
zero_from zero (v ∷ vs) = eqb v 0 && zero_from zero vs
zero_from (suc n) (v ∷ vs) = zero_from n vs

zero_at : (n : ℕ) (l : List ℕ) → zero_from n l ≡ true → (d : ℕ) → n ≤ d → get_or l d 0 ≡ 0
unfolding zero_from
zero_at n [] e d h = refl
zero_at zero (v ∷ vs) e zero h = eqb-true v 0 (and_both (eqb v 0) (zero_from zero vs) e).0
zero_at zero (v ∷ vs) e (suc d) h = zero_at zero vs (and_both (eqb v 0) (zero_from zero vs) e).1 d (omega arith)
zero_at (suc n) (v ∷ vs) e zero h = absurd (omega arith)
zero_at (suc n) (v ∷ vs) e (suc d) h = zero_at n vs e d (omega arith)

-- a test of the 64 domains, reduced to the first n if those after them are known to pass
unfoldable pub first_pass : (zeros : Bool) → (n : ℕ) → (ℕ → Bool) → Bool
first_pass b n f = cond (b && leb n 64) (all_below n f) (all_below 64 f)

fewer : (n m : ℕ) (f : ℕ → Bool) → n ≤ m → ((d : ℕ) → n ≤ d → f d ≡ true) → all_below m f ≡ all_below n f
unfolding all_below
fewer n zero f h p = let z : n ≡ 0 = omega arith in rw z
fewer n (suc m) f h p =
    elim (ℕ_discrete n (suc m)) [
      | yes z ↦ rw z
      | no z ↦ rw (p m (omega arith)) (and_true (all_below m f) ∙ fewer n m f (omega arith) p)
    ]

same_first : (b : Bool) (n : ℕ) (f : ℕ → Bool) → (b ≡ true → (d : ℕ) → n ≤ d → f d ≡ true) → all_below 64 f ≡ first_pass b n f
unfolding first_pass
same_first b n f p = by (b && leb n 64) refl
  where
    by : (c : Bool) → b && leb n 64 ≡ c → all_below 64 f ≡ cond c (all_below n f) (all_below 64 f)
    by true e = let both = and_both b (leb n 64) e in fewer n 64 f (leb-true n 64 both.1) (p both.0)
    by false e = refl

-- the same for a test that some domain must pass
unfoldable pub first_meets : (zeros : Bool) → (n : ℕ) → (ℕ → Bool) → Bool
first_meets b n f = cond (b && leb n 64) (any_below n f) (any_below 64 f)

fewer_met : (n m : ℕ) (f : ℕ → Bool) → n ≤ m → ((d : ℕ) → n ≤ d → f d ≡ false) → any_below m f ≡ any_below n f
unfolding any_below
fewer_met n zero f h p = let z : n ≡ 0 = omega arith in rw z
fewer_met n (suc m) f h p =
    elim (ℕ_discrete n (suc m)) [
      | yes z ↦ rw z
      | no z ↦ rw (p m (omega arith)) (or_false (any_below m f) ∙ fewer_met n m f (omega arith) p)
    ]

same_met : (b : Bool) (n : ℕ) (f : ℕ → Bool) → (b ≡ true → (d : ℕ) → n ≤ d → f d ≡ false) → any_below 64 f ≡ first_meets b n f
unfolding first_meets
same_met b n f p = by (b && leb n 64) refl
  where
    by : (c : Bool) → b && leb n 64 ≡ c → any_below 64 f ≡ cond c (any_below n f) (any_below 64 f)
    by true e = let both = and_both b (leb n 64) e in fewer_met n 64 f (leb-true n 64 both.1) (p both.0)
    by false e = refl

-- THE LENGTHS of a state's long arrays
pub record Sized (s : State) : Type 0 where
  pub nexts : length s.nexts ≡ 320
  pub statuses : length s.statuses ≡ 320
  pub places : PlacesRoom s.places

-- the numbers of all places, as one list
unfoldable pub zipped : (rows domains peers words : List ℕ) → List PlaceWords
zipped [] ds ps ws = []
zipped (r ∷ rs) ds ps ws = place_words r (get_or ds 0 0) (get_or ps 0 0) (get_or ws 0 0) ∷ zipped rs (drop 1 ds) (drop 1 ps) (drop 1 ws)

zipped_length : (rs ds ps ws : List ℕ) → length (zipped rs ds ps ws) ≡ length rs
unfolding zipped
zipped_length [] ds ps ws = refl
zipped_length (r ∷ rs) ds ps ws = ap suc (zipped_length rs (drop 1 ds) (drop 1 ps) (drop 1 ws))

next_of : (l : List ℕ) (j : ℕ) → get_or (drop 1 l) j 0 ≡ get_or l (suc j) 0
next_of [] j = refl
next_of (x ∷ xs) j = refl

zipped_at :
    (rs ds ps ws : List ℕ) (j : ℕ) → j < length rs →
    get_or (zipped rs ds ps ws) j (place_words 0 0 0 0) ≡ place_words (get_or rs j 0) (get_or ds j 0) (get_or ps j 0) (get_or ws j 0)
unfolding zipped
zipped_at [] ds ps ws j h = absurd (omega arith)
zipped_at (r ∷ rs) ds ps ws zero h = refl
zipped_at (r ∷ rs) ds ps ws (suc j) h =
    rw (← next_of ds j, ← next_of ps j, ← next_of ws j) (zipped_at rs (drop 1 ds) (drop 1 ps) (drop 1 ws) j (omega arith))

abbrev pub all_numbers : PlaceArrays → List PlaceWords
all_numbers q = zipped q.rows q.domains q.peers q.words

-- a tail that is none is good
none_good : (t : Tree) (s : State) (d : ℕ) → tail s d ≡ 0 → good_tail t s d ≡ true
unfolding good_tail
none_good t s d z = rw z

abbrev pub tails_walked : Tree → State → Bool
tails_walked t s = first_pass (zero_from t.domains s.tails) t.domains (good_tail t s)

tails_same : (t : Tree) (s : State) → all_below 64 (good_tail t s) ≡ tails_walked t s
tails_same t s =
    same_first (zero_from t.domains s.tails) t.domains (good_tail t s) (λ z d h. none_good t s d (zero_at t.domains s.tails z d h))

abbrev pub thread_walked : Tree → State → (thread : ℕ) → PlaceWords → Bool
thread_walked t s i q = thread_fits t i (place_of q) (watch_fits t s i (place_of q))

places_same : (f : ℕ → PlaceWords → Bool) (q : PlaceArrays) → PlacesRoom q → all_below 256 (λ i. f i (numbers_at q i)) ≡ walked f 0 (all_numbers q)
unfolding numbers_at
places_same f q r =
    all_same 256 (λ i. f i (numbers_at q i)) (λ i. f i (get_or (all_numbers q) i (place_words 0 0 0 0)))
    (λ i h. ap (f i) (sym (zipped_at q.rows q.domains q.peers q.words i (omega (arith, r.rows)))))
    ∙ whole f (place_words 0 0 0 0) 256 (all_numbers q) (zipped_length q.rows q.domains q.peers q.words ∙ r.rows)

-- UNUSED SLOTS of zeros are Idle, so only the threads' places are tested
abbrev pub idle_from : (first : ℕ) → PlaceArrays → Bool
idle_from n q = (zero_from n q.rows && zero_from n q.domains) && (zero_from n q.peers && zero_from n q.words)

abbrev pub places_walked : Tree → State → Bool
places_walked t s =
    cond (idle_from t.threads s.places && leb t.threads 256) (all_below t.threads (λ i. thread_walked t s i (numbers_at s.places i)))
    (walked (thread_walked t s) 0 (all_numbers s.places))

unused_good : (t : Tree) (s : State) → idle_from t.threads s.places ≡ true → (i : ℕ) → t.threads ≤ i → thread_walked t s i (numbers_at s.places i) ≡ true
unfolding numbers_at place_of is_idle
unused_good t s e i h =
    let q = s.places in
    let n = t.threads in
    let a = and_both (zero_from n q.rows && zero_from n q.domains) (zero_from n q.peers && zero_from n q.words) e in
    let b = and_both (zero_from n q.rows) (zero_from n q.domains) a.0 in
    let c = and_both (zero_from n q.peers) (zero_from n q.words) a.1 in
    rw (le-ltb i n h, zero_at n q.rows b.0 i h, zero_at n q.domains b.1 i h, zero_at n q.peers c.0 i h, zero_at n q.words c.1 i h)

threads_same : (t : Tree) (s : State) → PlacesRoom s.places → all_below 256 (λ i. thread_walked t s i (numbers_at s.places i)) ≡ places_walked t s
threads_same t s r = by (idle_from t.threads s.places && leb t.threads 256) refl
  where
    f : ℕ → Bool
    f i = thread_walked t s i (numbers_at s.places i)

    by : (c : Bool) → idle_from t.threads s.places && leb t.threads 256 ≡ c → all_below 256 f ≡ cond c (all_below t.threads f) (walked (thread_walked t s) 0 (all_numbers s.places))
    by true e =
        let both = and_both (idle_from t.threads s.places) (leb t.threads 256) e in
        fewer t.threads 256 f (leb-true t.threads 256 both.1) (unused_good t s both.0)
    by false e = places_same (thread_walked t s) s.places r

-- well-formedness by single passes
unfoldable pub formed_by_walks : Tree → State → Bool
formed_by_walks t s =
    (tails_walked t s && walked (next_fits t) 0 s.nexts)
    && (walked (status_fits t) 0 s.statuses && (places_walked t s && good_counters t s))

pub same_formed : (t : Tree) (s : State) → Sized s → well_formed t s ≡ formed_by_walks t s
unfolding well_formed formed_by_walks good_next good_status good_thread good_watch
same_formed t s h =
    rw (tails_same t s, whole (next_fits t) 0 320 s.nexts h.nexts, whole (status_fits t) 0 320 s.statuses h.statuses, threads_same t s h.places)

-- THE COUNTERS; their slots after the domains of the tree are 0
abbrev pub zeros_from : (first : ℕ) → Counters → Bool
zeros_from n c = zero_from n c.entries && (zero_from n c.tenures && zero_from n c.longest)

record Zeros (c : Counters) (d : ℕ) : Type 0 where
  entries : get_or c.entries d 0 ≡ 0
  tenures : get_or c.tenures d 0 ≡ 0
  longest : get_or c.longest d 0 ≡ 0

zeros_at : (n : ℕ) (c : Counters) → zeros_from n c ≡ true → (d : ℕ) → n ≤ d → Zeros c d
zeros_at n c e d h =
    let a = and_both (zero_from n c.entries) (zero_from n c.tenures && zero_from n c.longest) e in
    let b = and_both (zero_from n c.tenures) (zero_from n c.longest) a.1 in
    record { entries = zero_at n c.entries a.0 d h; tenures = zero_at n c.tenures b.0 d h; longest = zero_at n c.longest b.1 d h }

-- counters that are 0 are good, and not above 2^63
zeros_good : (t : Tree) (c : Counters) (d : ℕ) → Zeros c d → good_count t c d ≡ true
unfolding good_count
zeros_good t c d z = rw (z.entries, z.tenures, z.longest, zero_fits_test t d, leb-zero _)

zeros_below : (c : Counters) (d : ℕ) → Zeros c d → count_above c d ≡ false
unfolding count_above
zeros_below c d z = rw (z.entries, z.tenures, z.longest)

unfoldable pub counts_by_walks : Tree → Counters → Bool
counts_by_walks t c = first_pass (zeros_from t.domains c) t.domains (good_count t c)

pub same_counted : (t : Tree) (c : Counters) → good_counts t c ≡ counts_by_walks t c
unfolding good_counts counts_by_walks
same_counted t c = same_first (zeros_from t.domains c) t.domains (good_count t c) (λ z d h. zeros_good t c d (zeros_at t.domains c z d h))

unfoldable pub above_by_walks : Tree → Counters → Bool
above_by_walks t c = first_meets (zeros_from t.domains c) t.domains (count_above c)

pub same_above : (t : Tree) (c : Counters) → any_above c ≡ above_by_walks t c
unfolding any_above above_by_walks
same_above t c = same_met (zeros_from t.domains c) t.domains (count_above c) (λ z d h. zeros_below c d (zeros_at t.domains c z d h))
