-- FORM. Fresh states are well formed, and steps and runs keep a state well formed.
use mathlib.Core.Path.{◌≡◌, refl, sym, ap, ◌∙◌}
use mathlib.Core.Bool.{Bool, true, false, not, cond, false≢true}
use mathlib.Core.Logic.{◌≢◌, ◌⊎◌, inl, inr}
use Prim.Native.Nat.{ℕ, zero, suc, ◌+◌, ◌-◌, ◌≤◌, ◌<◌}
use native.Mathlib.Omega.{arith}
use lib.Dec.{eqb}
use lib.ListN.{get_or, replicate, length-replicate}
use lib.Seq.{get_or-set_same}
use borrow.Author.Tests.{eqb-false, not-true}
use Rattle.model.specs.declared.Place.{Place}
use Rattle.model.specs.declared.Place.TheVariants.{Idle, Prep, Swap, Link, Wait, Inside, Check, Help, Cas, Linger, Grant, Draw, Watch, Raise, Invalid}
use Rattle.model.specs.declared.State.{State}
use Rattle.model.specs.Trees.{Tree, is_ticket, on_path, child, own_record, is_record, is_member, owner_domain}
use Rattle.model.specs.Places.{words_of, place_of, is_watch}
use Rattle.model.specs.States.{unlocked, cohort_start, none, tail, next, status, place, wrap, with_tail, with_status, with_place, with_ticket, with_grant, fresh_words, fresh_state, numbers_at}
use Rattle.model.specs.Steps.{RowResult, prep_with, acquired_place, release_place, done_place, step}
use Rattle.model.specs.WellFormed.{queue_on_path, good_place, well_formed}
use Rattle.model.specs.Laws.{SixteenBit, Formed, FormLaw}
use Rattle.model.proofs.Tests.{by_test, and_both}
use Rattle.model.proofs.Places.{words_of_place, fresh_room, fresh_numbers}
use Rattle.model.proofs.Branches.{about_to_grant, Branch, idle_draws, idle_prepares, prepares, swap_root, swap_inner, swap_joins, link_writes, wait_root_locked, wait_root_granted, wait_ungranted, wait_acquires, wait_passed, wait_crossed, inside_leaves, check_passes, check_releases, help_alone, help_linked, cas_last, cas_not_last, linger_alone, linger_linked, grant_writes, draw_shown, draw_unshown, watch_shown, watch_unshown, raise_counts, invalid_stays, branch, at_root, below_root}
use Rattle.model.proofs.Trees.Accepted.{Accepted, accepted}
use Rattle.model.proofs.Trees.Tickets.{ticket_facts, ticket_lower, queue_lower, queue_facts, queue_yes}
use Rattle.model.proofs.Trees.Paths.{on_path_home, on_path_root, on_path_parent}
use Rattle.model.proofs.Trees.Records.{member_owner, member_once, member_record, member_small, own_record_member, on_path_child, child_inner}
use Rattle.model.proofs.Laws.Facts.{SixtyFourBit, GoodTail, GoodNext, GoodStatus, Facts, thread_idle, well_formed_facts, facts_well_formed, tail_keeps, next_keeps, status_keeps, place_keeps, ticket_keeps, grant_keeps}
use Rattle.model.proofs.Laws.Runs.{run_keeps}

-- FRESH
pub replicate_all : {A : Type 0} (Q : A → Type 0) (n j : ℕ) (d : A) → Q d → Q (get_or (replicate n d) j d)
replicate_all Q zero j d q = q
replicate_all Q (suc n) zero d q = q
replicate_all Q (suc n) (suc j) d q = replicate_all Q n j d q

-- the counters of a fresh lock
pub wrap_fits : (v : ℕ) → wrap v < 65536
wrap_fits v = omega arith

start_fits : (t : Tree) (v : ℕ) → cond t.ticket_root (wrap v) 0 < 65536
start_fits t v = by_test (λ n. n < 65536) t.ticket_root (wrap v) 0 (λ _. wrap_fits v) (λ _. omega arith)

start_counters : (t : Tree) (v : ℕ) → (t.ticket_root ≡ true) ⊎ ((cond t.ticket_root (wrap v) 0 ≡ 0) × (cond t.ticket_root (wrap v) 0 ≡ 0))
start_counters t v = by t.ticket_root refl
  where
    by : (b : Bool) → t.ticket_root ≡ b → (t.ticket_root ≡ true) ⊎ ((cond t.ticket_root (wrap v) 0 ≡ 0) × (cond t.ticket_root (wrap v) 0 ≡ 0))
    by true e = inl e
    by false e = inr (rw e, rw e)

-- a fresh state with start 0 is 0 throughout, for both kinds of root
pub fresh_at_zero : (t : Tree) → fresh_state t 0 ≡ fresh_words
unfolding fresh_state fresh_words
fresh_at_zero t = by t.ticket_root
  where
    by : (b : Bool) → (let first = cond b (wrap 0) 0 in with_grant first (with_ticket first fresh_words)) ≡ fresh_words
    by true = refl
    by false = refl

pub fresh_facts : (t : Tree) (v : ℕ) → Facts t (fresh_state t v)
unfolding fresh_words fresh_state
fresh_facts t v =
    record {
      typed = record {
        tails_room = length-replicate {A = ℕ} 64 0;
        nexts_room = length-replicate {A = ℕ} 320 0;
        statuses_room = length-replicate {A = ℕ} 320 0;
        places_room = fresh_room;
        statuses_fit = λ r. replicate_all SixtyFourBit 320 r 0 (omega arith);
        ticket_fits = start_fits t v;
        grant_fits = start_fits t v;
        words_fit = λ i. rw (fresh_numbers i) (omega arith);
      };
      tails = λ d. replicate_all (GoodTail t d) 64 d 0 (inl refl);
      nexts = λ r. replicate_all (GoodNext t r) 320 r 0 (inl refl);
      statuses = λ r. replicate_all (GoodStatus t r) 320 r 0 (inl refl);
      places = λ i. rw (fresh_numbers i) (thread_idle t i);
      watched = λ i h w. replicate_all (λ x. x ≤ 65535) 320 (own_record t i 0) 0 (omega arith);
      counters = start_counters t v;
    }

-- fresh words are well formed for every tree
pub fresh_well_formed : (t : Tree) → well_formed t fresh_words ≡ true
fresh_well_formed t = rw (← fresh_at_zero t) (facts_well_formed t (fresh_state t 0) (fresh_facts t 0)).form

-- a tail or a next that is not none names a member
some_tail : (t : Tree) (d v : ℕ) → GoodTail t d v → v ≢ 0 → is_member t d (v - 1) ≡ true
some_tail t d v (inl z) n = absurd (n z)
some_tail t d v (inr m) n = m.1

some_next : (t : Tree) (r v : ℕ) → GoodNext t r v → v ≢ 0 → is_member t (owner_domain t r) (v - 1) ≡ true
some_next t r v (inl z) n = absurd (n z)
some_next t r v (inr m) n = m.1

one_more : (n : ℕ) → n + 1 - 1 ≡ n
one_more n = omega arith

-- the facts after a step
abbrev Kept : Tree → RowResult → Type 0
Kept t x = Facts t x.state

-- Invalid is never good
pub not_invalid : (t : Tree) (i : ℕ) (p : Place) → good_place t i p ≡ true → p ≢ Invalid
unfolding good_place
not_invalid t i p g e = false≢true (rw e at g)

-- a good place other than Watch, with a word that fits
abbrev Fits : Tree → (thread : ℕ) → Place → Type 0
Fits t i p = (good_place t i p ≡ true) × (SixtyFourBit (words_of p).word) × (is_watch p ≡ false)

module _ (t : Tree) (b : SixteenBit t) (valid : Accepted t) (i : ℕ) (h : i < t.threads) where
  record_good : (l : ℕ) → on_path t i l ≡ true → is_record t (own_record t i l) ≡ true
  record_good l o = member_record t valid l (own_record t i l) (own_record_member t valid i h l o)

  climb_fits : (l : ℕ) → l ≢ 0 → on_path t i l ≡ true → Fits t i (acquired_place t l)
  unfolding good_place is_watch
  climb_fits l n o =
      let p = on_path_parent t valid i h l (omega arith) o in
      by_test (Fits t i) (is_ticket t (t.parent l)) Draw (Prep (t.parent l))
      (λ z. ((ticket_facts t (t.parent l) z).0, omega arith, refl))
      (λ z. (queue_yes t i (t.parent l) p z, omega arith, refl))

  release_fits : (d : ℕ) → on_path t i d ≡ true → Fits t i (release_place t d)
  unfolding good_place is_watch
  release_fits d o =
      by_test (Fits t i) (is_ticket t d) Raise _
      (λ z. ((ticket_facts t d z).0, omega arith, refl))
      (λ n. by_test (Fits t i) (eqb d 0) (Help d) (Check d) (λ z. (queue_yes t i d o n, omega arith, refl))
      (λ z. (rw (o, z), omega arith, refl)))

  done_fits : (l : ℕ) → on_path t i l ≡ true → Fits t i (done_place t i l)
  unfolding good_place is_watch
  done_fits l o =
      by_test (Fits t i) (eqb l (t.home i)) Idle (Help (child t i l)) (λ z. (refl, omega arith, refl))
      (λ z.
      let n = eqb-false l (t.home i) z in
      (queue_yes t i (child t i l) (on_path_child t valid i h l o n) (ticket_lower t (child t i l) (child_inner t valid i h l o n)), omega arith, refl))

  placed : {n : State} → Facts t n → (p : Place) → Fits t i p → Facts t (with_place i p n)
  unfolding is_watch
  placed {n} k p f = place_keeps t n k i p h valid.few_threads f.0 f.1 (λ e. absurd (false≢true (sym f.2 ∙ ap is_watch e)))

  module _ (s : State) (k : Facts t s) where
    -- the successor that a record names is a member of the record's domain
    successor : (l : ℕ) → on_path t i l ≡ true → next s (own_record t i l) ≢ 0 → is_member t l (next s (own_record t i l) - 1) ≡ true
    successor l o n =
        let I = own_record t i l in
        let e = member_owner t valid l I (own_record_member t valid i h l o) in
        rw e at (some_next t I (next s I) (k.nexts I) n)

    -- no thread watches a record of a domain with a queue
    unwatched :
        (l r v : ℕ) → is_ticket t l ≡ false → is_member t l r ≡ true → (j : ℕ) → j < t.threads → place s j ≡ Watch → own_record t j 0 ≡ r → v ≤ 65535
    unfolding good_place
    unwatched l r v n m j hj w e =
        let root : t.ticket_root ≡ true = rw w at ((k.places j).used hj) in
        let there = own_record_member t valid j hj 0 (on_path_root t valid j hj) in
        absurd (queue_lower t l n root (member_once t valid l 0 r m (rw e at there)))

    -- a status is stored to a record of such a domain
    marked : (l r v : ℕ) → is_ticket t l ≡ false → is_member t l r ≡ true → SixtyFourBit v → Facts t (with_status r v s)
    marked l r v n m f = status_keeps t s k r v (member_record t valid l r m) f (unwatched l r v n m)

    grant_fits :
        (l w : ℕ) → on_path t i l ≡ true → is_ticket t l ≡ false → next s (own_record t i l) ≢ 0 → SixtyFourBit w →
        Fits t i (Grant l (next s (own_record t i l) - 1) w)
    unfolding good_place is_watch
    grant_fits l w o q n f = (rw (queue_yes t i l o q, successor l o n), f, refl)

    -- the thread's record at a domain with a queue is prepared with a word
    prepared_keeps : (l v : ℕ) → on_path t i l ≡ true → is_ticket t l ≡ false → SixtyFourBit v → Kept t (prep_with t i l v s)
    unfolding good_place is_watch
    prepared_keeps l v o q f =
        let I = own_record t i l in
        let a = marked l I v q (own_record_member t valid i h l o) f in
        let c = next_keeps t _ a I none (inl refl) in
        placed c (Swap l) (queue_yes t i l o q, omega arith, refl)

    -- the thread's record gets a status and becomes the tail
    swapped_in : (l v : ℕ) → on_path t i l ≡ true → is_ticket t l ≡ false → SixtyFourBit v → Facts t (with_tail l (own_record t i l + 1) (with_status (own_record t i l) v s))
    swapped_in l v o q f =
        let I = own_record t i l in
        let m = own_record_member t valid i h l o in
        tail_keeps t _ (marked l I v q m f) l (I + 1) (inr (q, rw (one_more I) m))

    -- the thread is about to grant its successor a word
    grant_next : (l w : ℕ) → on_path t i l ≡ true → is_ticket t l ≡ false → next s (own_record t i l) ≢ 0 → SixtyFourBit w → Kept t (about_to_grant t i s l w)
    grant_next l w o q n f = placed k (Grant l (next s (own_record t i l) - 1) w) (grant_fits l w o q n f)

    -- the rows of a ticket lock at the root
    root_there : on_path t i 0 ≡ true
    root_there = on_path_root t valid i h

    root_small : own_record t i 0 < 320
    root_small = member_small t valid 0 (own_record t i 0) (own_record_member t valid i h 0 root_there)

    drawn_keeps : t.ticket_root ≡ true → Facts t (with_ticket (wrap (s.ticket + 1)) (with_status (own_record t i 0) s.ticket s))
    drawn_keeps e =
        let I = own_record t i 0 in
        let f = k.typed.ticket_fits in
        ticket_keeps t _ (status_keeps t s k I s.ticket (record_good 0 root_there) (omega arith) (λ j hj w q. omega arith))
        (wrap (s.ticket + 1)) (wrap_fits (s.ticket + 1)) e

    row_keeps : {p : Place} {x : RowResult} → good_place t i p ≡ true → SixtyFourBit (words_of p).word → Branch t i s p x → Kept t x
    unfolding good_place is_watch
    row_keeps g f (idle_draws z b) = row_keeps (ticket_facts t (t.home i) z).0 (omega arith) b
    row_keeps g f (idle_prepares z b) = row_keeps (queue_yes t i (t.home i) (on_path_home t valid i h) z) (omega arith) b
    row_keeps g f (prepares l v (at_root z)) = let q = queue_facts t i l g in prepared_keeps l _ q.0 q.1 (omega arith)
    row_keeps g f (prepares l v (below_root z)) = let q = queue_facts t i l g in prepared_keeps l _ q.0 q.1 (omega arith)
    row_keeps g f (swap_root l z e) = let q = queue_facts t i l g in placed (swapped_in l unlocked q.0 q.1 (omega arith)) Inside (refl, omega arith, refl)
    row_keeps g f (swap_inner l z e) =
        let q = queue_facts t i l g in
        placed (swapped_in l cohort_start q.0 q.1 (omega arith)) (acquired_place t l) (climb_fits l z q.0)
    row_keeps g f (swap_joins l e) =
        let q = queue_facts t i l g in
        let I = own_record t i l in
        placed (tail_keeps t s k l (I + 1) (inr (q.1, rw (one_more I) (own_record_member t valid i h l q.0)))) (Link l (tail s l - 1))
        (rw (queue_yes t i l q.0 q.1, some_tail t l (tail s l) (k.tails l) e), omega arith, refl)
    row_keeps g f (link_writes l p) =
        let c = and_both (queue_on_path t i l) (is_member t l p) g in
        let q = queue_facts t i l c.0 in
        let n = own_record_member t valid i h l q.0 in
        let I = own_record t i l in
        let a = next_keeps t s k p (I + 1) (inr (member_record t valid l p c.1, rw (one_more I, member_owner t valid l p c.1) n)) in
        placed a (Wait l) (queue_yes t i l q.0 q.1, omega arith, refl)
    row_keeps g f (wait_root_locked l z e) = k
    row_keeps g f (wait_root_granted l z e) = placed k Inside (refl, omega arith, refl)
    row_keeps g f (wait_ungranted l z e) = k
    row_keeps g f (wait_acquires l z e) =
        let q = queue_facts t i l g in
        placed (marked l (own_record t i l) cohort_start q.1 (own_record_member t valid i h l q.0) (omega arith)) (acquired_place t l) (climb_fits l z q.0)
    row_keeps g f (wait_passed l z e y a) = placed k Inside (refl, omega arith, refl)
    row_keeps g f (wait_crossed l z e y a) = placed k Inside (refl, omega arith, refl)
    row_keeps g f inside_leaves = placed k (release_place t (t.home i)) (release_fits (t.home i) (on_path_home t valid i h))
    row_keeps g f (check_passes l e n) =
        let c = and_both (on_path t i l) (not (eqb l 0)) g in
        grant_next l (status s (own_record t i l) + 1) c.0 (ticket_lower t l (eqb-false l 0 (not-true (eqb l 0) c.1))) n (omega (arith, b l))
    row_keeps g f (check_releases l e) =
        let c = and_both (on_path t i l) (not (eqb l 0)) g in
        let n = eqb-false l 0 (not-true (eqb l 0) c.1) in
        placed k (release_place t (t.parent l)) (release_fits (t.parent l) (on_path_parent t valid i h l (omega arith) c.0))
    row_keeps g f (help_alone l n) = placed k (Cas l) (g, omega arith, refl)
    row_keeps g f (help_linked l v n (at_root z)) = let q = queue_facts t i l g in grant_next l _ q.0 q.1 n (omega arith)
    row_keeps g f (help_linked l v n (below_root z)) = let q = queue_facts t i l g in grant_next l _ q.0 q.1 n (omega arith)
    row_keeps g f (cas_last l e) = placed (tail_keeps t s k l none (inl refl)) (done_place t i l) (done_fits l (queue_facts t i l g).0)
    row_keeps g f (cas_not_last l e) = placed k (Linger l) (g, omega arith, refl)
    row_keeps g f (linger_alone l n) = k
    row_keeps g f (linger_linked l v n (at_root z)) = let q = queue_facts t i l g in grant_next l _ q.0 q.1 n (omega arith)
    row_keeps g f (linger_linked l v n (below_root z)) = let q = queue_facts t i l g in grant_next l _ q.0 q.1 n (omega arith)
    row_keeps g f (grant_writes l r w) =
        let c = and_both (queue_on_path t i l) (is_member t l r) g in
        let q = queue_facts t i l c.0 in
        placed (marked l r w q.1 c.1 f) (done_place t i l) (done_fits l q.0)
    row_keeps g f (draw_shown e) = placed (drawn_keeps g) Inside (refl, omega arith, refl)
    row_keeps g f (draw_unshown e) =
        let small = k.typed.ticket_fits in
        place_keeps t _ (drawn_keeps g) i Watch h valid.few_threads g (omega arith)
        (λ _. rw (get_or-set_same s.statuses (own_record t i 0) s.ticket 0 (omega (arith, k.typed.statuses_room, root_small))) (omega arith))
    row_keeps g f (watch_shown e) = placed k Inside (refl, omega arith, refl)
    row_keeps g f (watch_unshown e) = k
    row_keeps g f raise_counts = placed (grant_keeps t s k (wrap (s.grant + 1)) (wrap_fits (s.grant + 1)) g) (done_place t i 0) (done_fits 0 root_there)
    row_keeps g f invalid_stays = absurd (false≢true g)

    pub step_keeps : Facts t (step t i s).state
    unfolding step
    step_keeps =
        let x = numbers_at s.places i in
        let good = (k.places i).used h in
        row_keeps good (rw (words_of_place x (not_invalid t i (place_of x) good)) (k.typed.words_fit i)) (branch t i s (place s i))

pub form_law : FormLaw
unfolding FormLaw
form_law t b e =
    let valid = accepted t e in
    let one : (i : ℕ) (s : State) → i < t.threads → Formed t s → Formed t (step t i s).state =
    λ i s h f. facts_well_formed t _ (step_keeps t b valid i h s (well_formed_facts t s f)) in
    record {
      of_fresh = λ v. facts_well_formed t (fresh_state t v) (fresh_facts t v);
      of_step = one;
      of_run = run_keeps t (Formed t) one;
    }
