-- What a step gives: at most once to a record, and only to a member's record; and the length that it reports.
use mathlib.Core.Path.{◌≡◌, refl, ap}
use mathlib.Core.Bool.{Bool, true, false, ◌&&◌, not, cond, false≢true}
use mathlib.Core.List.{List, [], ◌∷◌, ◌++◌, append-nil}
use mathlib.Core.Logic.{◌≢◌}
use Prim.Native.Nat.{ℕ, zero, suc, ◌+◌, ◌-◌, ◌≤◌, ◌<◌, max}
use native.Mathlib.Omega.{arith}
use lib.Dec.{eqb, ltb}
use lib.ListN.{get_or, set}
use borrow.Author.Tests.{eqb-true, eqb-false, eq-eqb, ne_eqb, ltb-true, le-ltb, not-true}
use Rattle.model.specs.declared.PlaceWords.{PlaceWords}
use Rattle.model.specs.declared.Place.{Place}
use Rattle.model.specs.declared.Place.TheVariants.{Idle, Prep, Swap, Link, Wait, Inside, Check, Help, Cas, Linger, Grant, Draw, Watch, Raise, Invalid}
use Rattle.model.specs.declared.State.{State}
use Rattle.model.specs.Trees.{Tree, is_ticket, on_path, own_record, is_record, is_member}
use Rattle.model.specs.Places.{words_of, shape, fits, shaped, place_of, is_watch}
use Rattle.model.specs.States.{numbers_at, store_numbers, none, tail, next, status, place, wrap, with_place}
use Rattle.model.specs.Steps.{is_entry, RowResult, step_from, release_place, is_watched, shown_members, row, step}
use Rattle.model.specs.Runs.{ended_in, occurrences}
use Rattle.model.specs.WellFormed.{queue_on_path, good_place}
use Rattle.model.specs.Tenures.{finds_none, taken_from, given, starts, checks_at, word_to_grant, tenure_length}
use Rattle.model.proofs.Tests.{and_both, by_test, any_one}
use Rattle.model.proofs.Places.{by_row, beyond}
use Rattle.model.proofs.Branches.{Branch, idle_draws, idle_prepares, prepares, swap_root, swap_inner, swap_joins, link_writes, wait_root_locked, wait_root_granted, wait_ungranted, wait_acquires, wait_passed, wait_crossed, inside_leaves, check_passes, check_releases, help_alone, help_linked, cas_last, cas_not_last, linger_alone, linger_linked, grant_writes, draw_shown, draw_unshown, watch_shown, watch_unshown, raise_counts, invalid_stays, branch}
use Rattle.model.proofs.Trees.Accepted.{Accepted}
use Rattle.model.proofs.Trees.Paths.{on_path_root, path_real}
use Rattle.model.proofs.Trees.Records.{own_record_member, member_record}
use Rattle.model.proofs.Trees.Tickets.{queue_facts}
use Rattle.model.proofs.Counted.{filter_occurs}

-- a step gives the records that it grants or shows, and one that it takes at once; here for a row, by its place
abbrev given_by : Tree → (thread : ℕ) → Place → RowResult → List ℕ
given_by t i p x = ended_in x.standing ++ taken_from t (step_from t i p x) p

abbrev pub given_from : Tree → (thread : ℕ) → Place → State → List ℕ
given_from t i p s = given_by t i p (row t i p s)

-- the record of a Swap that finds the queue empty, and of a draw that enters
abbrev pub swap_given : Tree → (thread domain : ℕ) → State → List ℕ
swap_given t i l s = cond (eqb (tail s l) none) (own_record t i l ∷ []) []

abbrev pub draw_given : Tree → (thread : ℕ) → State → List ℕ
draw_given t i s = cond (eqb s.ticket s.grant) (own_record t i 0 ∷ []) []

-- the records that the row of a place gives
unfoldable pub given_at : Tree → (thread : ℕ) → Place → State → List ℕ
given_at t i Idle s = []
given_at t i (Prep l) s = []
given_at t i (Swap l) s = swap_given t i l s
given_at t i (Link l p) s = []
given_at t i (Wait l) s = []
given_at t i Inside s = []
given_at t i (Check l) s = []
given_at t i (Help l) s = []
given_at t i (Cas l) s = []
given_at t i (Linger l) s = []
given_at t i (Grant l r w) s = r ∷ []
given_at t i Draw s = draw_given t i s
given_at t i Watch s = []
given_at t i Raise s = shown_members t s (wrap (s.grant + 1))
given_at t i Invalid s = []

branch_gives : {t : Tree} {i : ℕ} {s : State} {p : Place} {x : RowResult} → Branch t i s p x → given_by t i p x ≡ given_at t i p s
unfolding given_at taken_from ended_in finds_none is_entry
branch_gives (idle_draws z (draw_shown e)) = refl
branch_gives (idle_draws z (draw_unshown e)) = refl
branch_gives (idle_prepares z (prepares l v c)) = refl
branch_gives (prepares l v c) = refl
branch_gives {s = s} (swap_root l z e) = rw (eq-eqb (tail s l) none e)
branch_gives {s = s} (swap_inner l z e) = rw (eq-eqb (tail s l) none e)
branch_gives {s = s} (swap_joins l e) = rw (ne_eqb (tail s l) none e)
branch_gives (link_writes l p) = refl
branch_gives (wait_root_locked l z e) = refl
branch_gives (wait_root_granted l z e) = refl
branch_gives (wait_ungranted l z e) = refl
branch_gives (wait_acquires l z e) = refl
branch_gives (wait_passed l z e f a) = refl
branch_gives (wait_crossed l z e f a) = refl
branch_gives inside_leaves = refl
branch_gives (check_passes l e n) = refl
branch_gives (check_releases l e) = refl
branch_gives (help_alone l n) = refl
branch_gives (help_linked l v n c) = refl
branch_gives (cas_last l e) = refl
branch_gives (cas_not_last l e) = refl
branch_gives (linger_alone l n) = refl
branch_gives (linger_linked l v n c) = refl
branch_gives (grant_writes l r w) = refl
branch_gives {s = s} (draw_shown e) = rw (eq-eqb s.ticket s.grant e)
branch_gives {s = s} (draw_unshown e) = rw (ne_eqb s.ticket s.grant e)
branch_gives (watch_shown e) = refl
branch_gives (watch_unshown e) = refl
branch_gives {t = t} {s = s} raise_counts = append-nil (shown_members t s (wrap (s.grant + 1)))
branch_gives invalid_stays = refl

pub gives : (t : Tree) (i : ℕ) (p : Place) (s : State) → given_from t i p s ≡ given_at t i p s
gives t i p s = branch_gives (branch t i s p)

-- AT MOST ONCE
one_occurs : (b : Bool) (m r : ℕ) → occurrences m (cond b (r ∷ []) []) ≤ 1
unfolding occurrences
one_occurs true m r = by_test (λ n. n + 0 ≤ 1) (eqb m r) 1 0 (λ e. omega arith) (λ e. omega arith)
one_occurs false m r = omega arith

shown_once : (t : Tree) (s : State) (v m : ℕ) → occurrences m (shown_members t s v) ≤ 1
unfolding shown_members
shown_once t s v m =
    let f : ℕ → Bool = λ r. eqb (status s r) v && is_watched t s r in
    rw (filter_occurs 320 f m)
    (by_test (λ n. n ≤ 1) (ltb m 320) (cond (f m) 1 0) 0 (λ e. by_test (λ n. n ≤ 1) (f m) 1 0 (λ y. omega arith) (λ y. omega arith)) (λ e. omega arith))

given_few : (t : Tree) (i : ℕ) (p : Place) (s : State) (m : ℕ) → occurrences m (given_at t i p s) ≤ 1
unfolding occurrences given_at
given_few t i Idle s m = omega arith
given_few t i (Prep l) s m = omega arith
given_few t i (Swap l) s m = one_occurs (eqb (tail s l) none) m (own_record t i l)
given_few t i (Link l p) s m = omega arith
given_few t i (Wait l) s m = omega arith
given_few t i Inside s m = omega arith
given_few t i (Check l) s m = omega arith
given_few t i (Help l) s m = omega arith
given_few t i (Cas l) s m = omega arith
given_few t i (Linger l) s m = omega arith
given_few t i (Grant l r w) s m = one_occurs true m r
given_few t i Draw s m = one_occurs (eqb s.ticket s.grant) m (own_record t i 0)
given_few t i Watch s m = omega arith
given_few t i Raise s m = shown_once t s (wrap (s.grant + 1)) m
given_few t i Invalid s m = omega arith

pub starts_few : (t : Tree) (i : ℕ) (s : State) (d : ℕ) → starts t d (step t i s) ≤ 1
unfolding starts given step
starts_few t i s d = by_test (λ n. n ≤ 1) (eqb d 0) 0 (occurrences (256 + d) (given_from t i (place s i) s)) (λ e. omega arith) (λ e. rw (gives t i (place s i) s) (given_few t i (place s i) s (256 + d)))

-- ONLY TO A MEMBER'S RECORD, if a thread of the tree steps from a good place
record MemberOfSome (t : Tree) (m : ℕ) : Type 0 where
  domain : ℕ
  member : is_member t domain m ≡ true

one_member : (t : Tree) (b : Bool) (m r d : ℕ) → is_member t d r ≡ true → 1 ≤ occurrences m (cond b (r ∷ []) []) → MemberOfSome t m
unfolding occurrences
one_member t true m r d e h = by (eqb m r) refl h
  where
    by : (b : Bool) → eqb m r ≡ b → 1 ≤ cond b 1 0 + 0 → MemberOfSome t m
    by true z h = record { domain = d; member = rw (eqb-true m r z) e }
    by false z h = absurd (omega arith)
one_member t false m r d e h = absurd (omega arith)

module _ (t : Tree) (valid : Accepted t) where
  shown_member : (s : State) (v m : ℕ) → 1 ≤ occurrences m (shown_members t s v) → MemberOfSome t m
  unfolding shown_members is_watched
  shown_member s v m h = by (ltb m 320) (f m) refl (rw (filter_occurs 320 f m) at h)
    where
      f : ℕ → Bool
      f = λ r. eqb (status s r) v && is_watched t s r

      watched : is_watched t s m ≡ true → MemberOfSome t m
      watched e =
          let x = any_one t.threads (λ j. is_watch (place s j) && eqb (own_record t j 0) m) e in
          let both = and_both (is_watch (place s x.index)) (eqb (own_record t x.index 0) m) x.holds in
          record { domain = 0; member = rw (← eqb-true (own_record t x.index 0) m both.1) (own_record_member t valid x.index x.below 0 (on_path_root t valid x.index x.below)) }

      by : (a b : Bool) → f m ≡ b → 1 ≤ cond a (cond b 1 0) 0 → MemberOfSome t m
      by true true z h = watched (and_both (eqb (status s m) v) (is_watched t s m) z).1
      by true false z h = absurd (omega arith)
      by false b z h = absurd (omega arith)

  given_member : (i : ℕ) → i < t.threads → (p : Place) → good_place t i p ≡ true → (s : State) (m : ℕ) → 1 ≤ occurrences m (given_at t i p s) → MemberOfSome t m
  unfolding occurrences good_place given_at
  given_member i b Idle g s m h = absurd (omega arith)
  given_member i b (Prep l) g s m h = absurd (omega arith)
  given_member i b (Swap l) g s m h = one_member t (eqb (tail s l) none) m (own_record t i l) l (own_record_member t valid i b l (queue_facts t i l g).0) h
  given_member i b (Link l p) g s m h = absurd (omega arith)
  given_member i b (Wait l) g s m h = absurd (omega arith)
  given_member i b Inside g s m h = absurd (omega arith)
  given_member i b (Check l) g s m h = absurd (omega arith)
  given_member i b (Help l) g s m h = absurd (omega arith)
  given_member i b (Cas l) g s m h = absurd (omega arith)
  given_member i b (Linger l) g s m h = absurd (omega arith)
  given_member i b (Grant l r w) g s m h = one_member t true m r l (and_both (queue_on_path t i l) (is_member t l r) g).1 h
  given_member i b Draw g s m h = one_member t (eqb s.ticket s.grant) m (own_record t i 0) 0 (own_record_member t valid i b 0 (on_path_root t valid i b)) h
  given_member i b Watch g s m h = absurd (omega arith)
  given_member i b Raise g s m h = shown_member s (wrap (s.grant + 1)) m h
  given_member i b Invalid g s m h = absurd (omega arith)

  record_domain : (d : ℕ) → is_record t (256 + d) ≡ true → d < t.domains
  unfolding is_record
  record_domain d e =
      let z : 256 + d - 256 ≡ d = omega arith in
      let e' : ltb d t.domains && not (eqb d 0) ≡ true = rw (le-ltb (256 + d) 256 (omega arith), z) at e in
      ltb-true d t.domains (and_both (ltb d t.domains) (not (eqb d 0)) e').0

  -- so tenures start only for domains of the tree other than the root
  pub starts_real : (i : ℕ) → i < t.threads → (s : State) → good_place t i (place s i) ≡ true → (d : ℕ) → 1 ≤ starts t d (step t i s) → (d ≢ 0) × (d < t.domains)
  unfolding starts given step
  starts_real i b s g d h = by (eqb d 0) refl h
    where
      by : (c : Bool) → eqb d 0 ≡ c → 1 ≤ cond c 0 (occurrences (256 + d) (given_from t i (place s i) s)) → (d ≢ 0) × (d < t.domains)
      by true e h = absurd (omega arith)
      by false e h =
          let m = given_member i b (place s i) g s (256 + d) (rw (gives t i (place s i) s) at h) in
          (eqb-false d 0 e, record_domain d (member_record t valid m.domain (256 + d) m.member))

-- the word that a place will grant is its fourth number
granted_word : (p : Place) → word_to_grant p ≡ (words_of p).word
unfolding word_to_grant
granted_word Idle = refl
granted_word (Prep l) = refl
granted_word (Swap l) = refl
granted_word (Link l p) = refl
granted_word (Wait l) = refl
granted_word Inside = refl
granted_word (Check l) = refl
granted_word (Help l) = refl
granted_word (Cas l) = refl
granted_word (Linger l) = refl
granted_word (Grant l r w) = refl
granted_word Draw = refl
granted_word Watch = refl
granted_word Raise = refl
granted_word Invalid = refl

numbers_word : (x : PlaceWords) → (words_of (place_of x)).word ≤ x.word
unfolding place_of
numbers_word x = by (fits x)
  where
    shaped_word : (r d p w : ℕ) → (words_of (shaped (shape r) d p w)).word ≤ w
    shaped_word r d p w =
        by_row (λ r. (words_of (shaped (shape r) d p w)).word ≤ w) r (omega arith) (omega arith) (omega arith) (omega arith) (omega arith) (omega arith) (omega arith)
        (omega arith) (omega arith) (omega arith) (omega arith) (omega arith) (omega arith) (omega arith) (λ h. rw (beyond r h) (omega arith))

    by : (b : Bool) → (words_of (cond b (shaped (shape x.row) x.domain x.peer x.word) Invalid)).word ≤ x.word
    by true = shaped_word x.row x.domain x.peer x.word
    by false = omega arith

-- a stored number, or 0 beyond the array
stored_most : (l : List ℕ) (i v : ℕ) → get_or (set l i v) i 0 ≤ v
stored_most [] i v = omega arith
stored_most (x ∷ xs) zero v = omega arith
stored_most (x ∷ xs) (suc i) v = stored_most xs i v

-- THE REPORTED LENGTH. The word that a stored place will grant is the place's, or none if there is no such thread
stored_word : (i : ℕ) (p : Place) (s : State) → word_to_grant (place (with_place i p s) i) ≤ word_to_grant p
unfolding numbers_at store_numbers
stored_word i p s =
    let x = numbers_at (with_place i p s).places i in
    omega (arith, granted_word (place_of x), numbers_word x, stored_most s.places.words i (words_of p).word, granted_word p)

release_word_none : (t : Tree) (d : ℕ) → word_to_grant (release_place t d) ≡ 0
unfolding word_to_grant
release_word_none t d = by (is_ticket t d) (eqb d 0)
  where
    by : (a b : Bool) → word_to_grant (cond a Raise (cond b (Help d) (Check d))) ≡ 0
    by true b = refl
    by false true = refl
    by false false = refl

check_word : {t : Tree} {i l : ℕ} {s : State} {x : RowResult} → Branch t i s (Check l) x → word_to_grant (place x.state i) ≤ t.threshold l
unfolding word_to_grant
check_word {t} {i} {l} {s} (check_passes _ less n) = omega (arith, stored_word i (Grant l (next s (own_record t i l) - 1) (status s (own_record t i l) + 1)) s)
check_word {t} {i} {l} {s} (check_releases _ e) = omega (arith, stored_word i (release_place t (t.parent l)) s, release_word_none t (t.parent l))

-- the length that a Check at the domain reports
abbrev pub checked_length : (domain : ℕ) → Place → (after : State) → (thread : ℕ) → ℕ
checked_length d p n i = cond (checks_at d p) (word_to_grant (place n i)) 0

-- a Check at the domain, from the test
pub check_there : (d : ℕ) (p : Place) → checks_at d p ≡ true → p ≡ Check d
unfolding checks_at
check_there d (Check l) e = ap Check (eqb-true l d e)
check_there d Idle e = absurd (false≢true e)
check_there d (Prep l) e = absurd (false≢true e)
check_there d (Swap l) e = absurd (false≢true e)
check_there d (Link l p) e = absurd (false≢true e)
check_there d (Wait l) e = absurd (false≢true e)
check_there d Inside e = absurd (false≢true e)
check_there d (Help l) e = absurd (false≢true e)
check_there d (Cas l) e = absurd (false≢true e)
check_there d (Linger l) e = absurd (false≢true e)
check_there d (Grant l r w) e = absurd (false≢true e)
check_there d Draw e = absurd (false≢true e)
check_there d Watch e = absurd (false≢true e)
check_there d Raise e = absurd (false≢true e)
check_there d Invalid e = absurd (false≢true e)

checked_within : (t : Tree) (i : ℕ) (p : Place) (s : State) (d : ℕ) → checked_length d p (row t i p s).state i ≤ t.threshold d
checked_within t i p s d = by (checks_at d p) refl
  where
    by : (b : Bool) → checks_at d p ≡ b → cond b (word_to_grant (place (row t i p s).state i)) 0 ≤ t.threshold d
    by true e = rw (check_there d p e) (check_word (branch t i s (Check d)))
    by false e = omega arith

-- a Check is at a domain of the tree other than the root
checks_real : (t : Tree) (valid : Accepted t) (i : ℕ) → i < t.threads → (p : Place) → good_place t i p ≡ true → (d : ℕ) → checks_at d p ≡ true → (d ≢ 0) × (d < t.domains)
unfolding good_place
checks_real t valid i b p g d e =
    let good : good_place t i (Check d) ≡ true = rw (check_there d p e) at g in
    let both = and_both (on_path t i d) (not (eqb d 0)) good in
    (eqb-false d 0 (not-true (eqb d 0) both.1), path_real t valid i b d both.0)

started_one : (n : ℕ) → cond (eqb n 0) 0 1 ≤ 1
started_one n = by_test (λ v. v ≤ 1) (eqb n 0) 0 1 (λ e. omega arith) (λ e. omega arith)

-- a step reports at most the larger of 1 and the threshold
pub tenure_length_few : (t : Tree) (i : ℕ) (s : State) (d : ℕ) → tenure_length t d (step t i s) ≤ max 1 (t.threshold d)
unfolding tenure_length step
tenure_length_few t i s d = omega (arith, started_one (starts t d (step t i s)), checked_within t i (place s i) s d)

module _ (t : Tree) (valid : Accepted t) (i : ℕ) (b : i < t.threads) (s : State) (g : good_place t i (place s i) ≡ true) (d : ℕ) where
  -- from a good place it reports at most the threshold
  pub tenure_length_within : tenure_length t d (step t i s) ≤ t.threshold d
  unfolding tenure_length step
  tenure_length_within = by (eqb (starts t d (step t i s)) 0) refl
    where
      by : (c : Bool) → eqb (starts t d (step t i s)) 0 ≡ c → max (cond c 0 1) (checked_length d (place s i) (row t i (place s i) s).state i) ≤ t.threshold d
      by true e = omega (arith, checked_within t i (place s i) s d)
      by false e =
          let n = eqb-false (starts t d (step t i s)) 0 e in
          let real = starts_real t valid i b s g d (omega arith) in
          omega (arith, checked_within t i (place s i) s d, valid.threshold_some d (omega (arith, real.0)) real.1)

  -- it reports no length for the root, nor for a number that is no domain of the tree
  pub tenure_length_real : 1 ≤ tenure_length t d (step t i s) → (d ≢ 0) × (d < t.domains)
  unfolding tenure_length step
  tenure_length_real h = by (eqb (starts t d (step t i s)) 0) (checks_at d (place s i)) refl refl h
    where
      by : (a c : Bool) → eqb (starts t d (step t i s)) 0 ≡ a → checks_at d (place s i) ≡ c → 1 ≤ max (cond a 0 1) (cond c (word_to_grant (place (row t i (place s i) s).state i)) 0) → (d ≢ 0) × (d < t.domains)
      by a true e f h = checks_real t valid i b (place s i) g d f
      by true false e f h = absurd (omega arith)
      by false false e f h = let n = eqb-false (starts t d (step t i s)) 0 e in starts_real t valid i b s g d (omega arith)
