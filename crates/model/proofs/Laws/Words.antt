-- WORDS. In states reached from fresh: the statuses of members of domains other than the root, and the words that Grant writes there.
use mathlib.Core.Path.{◌≡◌, refl, sym, ◌∙◌}
use mathlib.Core.Bool.{true}
use mathlib.Core.List.{List}
use mathlib.Core.Logic.{◌≢◌, ◌⊎◌, inl, inr}
use Prim.Native.Nat.{ℕ, ◌+◌, ◌-◌, ◌≤◌, ◌<◌}
use native.Mathlib.Omega.{arith}
use lib.Dec.{eqb}
use Rattle.model.specs.declared.Place.{Place}
use Rattle.model.specs.declared.Place.TheVariants.{Idle, Prep, Swap, Link, Wait, Inside, Check, Help, Cas, Linger, Grant, Draw, Watch, Raise, Invalid}
use Rattle.model.specs.declared.State.{State}
use Rattle.model.specs.Trees.{Tree, is_ticket, on_path, child, own_record, is_member}
use Rattle.model.specs.Places.{words_of, place_of}
use Rattle.model.specs.States.{acquire_parent, wait_word, unlocked, cohort_start, none, tail, next, status, place, with_tail, with_next, with_status, with_place, with_ticket, with_grant, wrap, fresh_words, fresh_state, PlacesRoom}
use Rattle.model.specs.Steps.{RowResult, prep_with, acquire_place, acquired_place, release_place, done_place, step}
use Rattle.model.specs.Runs.{run}
use Rattle.model.specs.WellFormed.{queue_on_path, good_place}
use Rattle.model.specs.Laws.{SixteenBit, AllThreads, WordLaw}
use Rattle.model.proofs.Tests.{by_test, and_both}
use Rattle.model.proofs.Places.{place_of_words, numbers_all, room_kept, fresh_room, fresh_numbers}
use Rattle.model.proofs.Branches.{about_to_grant, drawn, Branch, idle_draws, idle_prepares, prepares, swap_root, swap_inner, swap_joins, link_writes, wait_root_locked, wait_root_granted, wait_ungranted, wait_acquires, wait_passed, wait_crossed, inside_leaves, check_passes, check_releases, help_alone, help_linked, cas_last, cas_not_last, linger_alone, linger_linked, grant_writes, draw_shown, draw_unshown, watch_shown, watch_unshown, raise_counts, invalid_stays, branch, at_root, below_root}
use Rattle.model.proofs.Trees.Accepted.{Accepted, accepted}
use Rattle.model.proofs.Trees.Tickets.{ticket_facts, queue_facts, queue_yes}
use Rattle.model.proofs.Trees.Paths.{on_path_home, on_path_root, path_real}
use Rattle.model.proofs.Trees.Records.{member_once, own_record_member}
use Rattle.model.proofs.Laws.Facts.{Facts, set_all}
use Rattle.model.proofs.Laws.Form.{replicate_all, fresh_facts, step_keeps}
use Rattle.model.proofs.Laws.Runs.{run_keeps}

-- a word of a domain other than the root
abbrev pub GoodWord : Tree → (domain word : ℕ) → Type 0
GoodWord t d v = (v ≡ acquire_parent) ⊎ (v ≡ wait_word) ⊎ (v ≤ t.threshold d)

-- what a record's status may be, by the domain whose member owns it
abbrev pub GoodStatusWord : Tree → (number word : ℕ) → Type 0
GoodStatusWord t r v = (d : ℕ) → d ≢ 0 → is_member t d r ≡ true → GoodWord t d v

-- what Grant's word may be; no other place has one
unfoldable pub GoodGrant : Tree → Place → Type 0
GoodGrant t Idle = Unit {0}
GoodGrant t (Prep l) = Unit {0}
GoodGrant t (Swap l) = Unit {0}
GoodGrant t (Link l p) = Unit {0}
GoodGrant t (Wait l) = Unit {0}
GoodGrant t Inside = Unit {0}
GoodGrant t (Check l) = Unit {0}
GoodGrant t (Help l) = Unit {0}
GoodGrant t (Cas l) = Unit {0}
GoodGrant t (Linger l) = Unit {0}
GoodGrant t (Grant l r w) = l ≢ 0 → GoodWord t l w
GoodGrant t Draw = Unit {0}
GoodGrant t Watch = Unit {0}
GoodGrant t Raise = Unit {0}
GoodGrant t Invalid = Unit {0}

pub record GoodWords (t : Tree) (s : State) : Type 0 where
  pub statuses : (r : ℕ) → GoodStatusWord t r (status s r)
  pub grants : (i : ℕ) → GoodGrant t (place s i)
  pub room : PlacesRoom s.places

pub fresh_good_words : (t : Tree) (v : ℕ) → GoodWords t (fresh_state t v)
unfolding fresh_words fresh_state GoodGrant
fresh_good_words t v =
    record {
      statuses = λ r. replicate_all (GoodStatusWord t r) 320 r 0 (λ d n m. inr (inr (omega arith)));
      grants = λ i. rw (fresh_numbers i, place_of_words Idle) tt;
      room = fresh_room;
    }

-- the stores; tails, nexts and counters may have any value
module _ (t : Tree) (s : State) (k : GoodWords t s) where
  place_store : (i : ℕ) (p : Place) → i < 256 → GoodGrant t p → GoodWords t (with_place i p s)
  place_store i p h f =
      record {
        statuses = k.statuses;
        grants = numbers_all (λ _ x. GoodGrant t (place_of x)) s.places i (words_of p) (k.room, h) (rw (place_of_words p) f) k.grants;
        room = room_kept s.places i (words_of p) k.room;
      }

  status_store : (r v : ℕ) → GoodStatusWord t r v → GoodWords t (with_status r v s)
  status_store r v f = record { statuses = set_all (GoodStatusWord t) s.statuses r v 0 f k.statuses; grants = k.grants; room = k.room }

  tail_store : (d v : ℕ) → GoodWords t (with_tail d v s)
  tail_store d v = record { statuses = k.statuses; grants = k.grants; room = k.room }

  next_store : (r v : ℕ) → GoodWords t (with_next r v s)
  next_store r v = record { statuses = k.statuses; grants = k.grants; room = k.room }

  ticket_store : (v : ℕ) → GoodWords t (with_ticket v s)
  ticket_store v = record { statuses = k.statuses; grants = k.grants; room = k.room }

  grant_store : (v : ℕ) → GoodWords t (with_grant v s)
  grant_store v = record { statuses = k.statuses; grants = k.grants; room = k.room }

abbrev Kept : Tree → RowResult → Type 0
Kept t x = GoodWords t x.state

module _ (t : Tree) (valid : Accepted t) (i : ℕ) (h : i < t.threads) where
  -- a word for a member of a domain
  for_member : (l r v : ℕ) → is_member t l r ≡ true → (l ≢ 0 → GoodWord t l v) → GoodStatusWord t r v
  for_member l r v m f d n e =
      let z : l ≡ d = member_once t valid l d r m e in
      rw z at (f (λ y. n (sym z ∙ y)))

  own_word : (l v : ℕ) → on_path t i l ≡ true → (l ≢ 0 → GoodWord t l v) → GoodStatusWord t (own_record t i l) v
  own_word l v o f = for_member l (own_record t i l) v (own_record_member t valid i h l o) f

  -- 1 is at most a threshold
  start_word : (l : ℕ) → on_path t i l ≡ true → l ≢ 0 → GoodWord t l cohort_start
  start_word l o n = inr (inr (valid.threshold_some l (omega arith) (path_real t valid i h l o)))

  acquire_good : (d : ℕ) → GoodGrant t (acquire_place t d)
  unfolding GoodGrant
  acquire_good d = by_test (GoodGrant t) (is_ticket t d) Draw (Prep d) (λ _. tt) (λ _. tt)

  release_good : (d : ℕ) → GoodGrant t (release_place t d)
  unfolding GoodGrant
  release_good d =
      by_test (GoodGrant t) (is_ticket t d) Raise _ (λ _. tt) (λ _. by_test (GoodGrant t) (eqb d 0) (Help d) (Check d) (λ _. tt) (λ _. tt))

  done_good : (l : ℕ) → GoodGrant t (done_place t i l)
  unfolding GoodGrant
  done_good l = by_test (GoodGrant t) (eqb l (t.home i)) Idle (Help (child t i l)) (λ _. tt) (λ _. tt)

  placed : {n : State} → GoodWords t n → (p : Place) → GoodGrant t p → GoodWords t (with_place i p n)
  placed {n} k p f = place_store t n k i p (omega (arith, valid.few_threads)) f

  -- the own status is set to 1 when a domain other than the root is acquired
  started : {n : State} → GoodWords t n → (l : ℕ) → on_path t i l ≡ true → GoodWords t (with_status (own_record t i l) cohort_start n)
  started {n} a l o = status_store t n a (own_record t i l) cohort_start (own_word l cohort_start o (start_word l o))

  module _ (s : State) (k : GoodWords t s) where
    -- the thread's record at a domain is prepared with a word
    prepared_keeps : (l v : ℕ) → on_path t i l ≡ true → (l ≢ 0 → GoodWord t l v) → Kept t (prep_with t i l v s)
    unfolding GoodGrant
    prepared_keeps l v o f =
        let a = status_store t s k (own_record t i l) v (own_word l v o f) in
        placed (next_store t _ a (own_record t i l) none) (Swap l) tt

    -- the thread is about to grant its successor a word
    grant_next : (l v : ℕ) → (l ≢ 0 → GoodWord t l v) → Kept t (about_to_grant t i s l v)
    unfolding GoodGrant
    grant_next l v f = placed k (Grant l (next s (own_record t i l) - 1) v) f

    -- a ticket is drawn only at the root
    drawn_keeps : GoodWords t (drawn t i s)
    drawn_keeps =
        let marked = status_store t s k (own_record t i 0) s.ticket (own_word 0 s.ticket (on_path_root t valid i h) (λ n. absurd (n refl))) in
        ticket_store t _ marked (wrap (s.ticket + 1))

    -- Check grants one more than a status below the threshold
    row_keeps : {p : Place} {x : RowResult} → good_place t i p ≡ true → GoodGrant t p → Branch t i s p x → Kept t x
    unfolding good_place GoodGrant
    row_keeps g f (idle_draws z b) = row_keeps (ticket_facts t (t.home i) z).0 tt b
    row_keeps g f (idle_prepares z b) = row_keeps (queue_yes t i (t.home i) (on_path_home t valid i h) z) tt b
    row_keeps g f (prepares l v (at_root z)) = prepared_keeps l _ (queue_facts t i l g).0 (λ n. absurd (n z))
    row_keeps g f (prepares l v (below_root z)) = prepared_keeps l _ (queue_facts t i l g).0 (λ _. inr (inl refl))
    row_keeps g f (swap_root l z e) =
        let I = own_record t i l in
        placed (status_store t _ (tail_store t s k l (I + 1)) I unlocked (own_word l unlocked (queue_facts t i l g).0 (λ n. absurd (n z)))) Inside tt
    row_keeps g f (swap_inner l z e) =
        placed (started (tail_store t s k l (own_record t i l + 1)) l (queue_facts t i l g).0) (acquired_place t l) (acquire_good (t.parent l))
    row_keeps g f (swap_joins l e) = placed (tail_store t s k l (own_record t i l + 1)) (Link l (tail s l - 1)) tt
    row_keeps g f (link_writes l p) = placed (next_store t s k p (own_record t i l + 1)) (Wait l) tt
    row_keeps g f (wait_root_locked l z e) = k
    row_keeps g f (wait_root_granted l z e) = placed k Inside tt
    row_keeps g f (wait_ungranted l z e) = k
    row_keeps g f (wait_acquires l z e) = placed (started k l (queue_facts t i l g).0) (acquired_place t l) (acquire_good (t.parent l))
    row_keeps g f (wait_passed l z e y a) = placed k Inside tt
    row_keeps g f (wait_crossed l z e y a) = placed k Inside tt
    row_keeps g f inside_leaves = placed k (release_place t (t.home i)) (release_good (t.home i))
    row_keeps g f (check_passes l e n) = grant_next l (status s (own_record t i l) + 1) (λ _. inr (inr (omega arith)))
    row_keeps g f (check_releases l e) = placed k (release_place t (t.parent l)) (release_good (t.parent l))
    row_keeps g f (help_alone l n) = placed k (Cas l) tt
    row_keeps g f (help_linked l v n (at_root z)) = grant_next l _ (λ y. absurd (y z))
    row_keeps g f (help_linked l v n (below_root z)) = grant_next l _ (λ _. inl refl)
    row_keeps g f (cas_last l e) = placed (tail_store t s k l none) (done_place t i l) (done_good l)
    row_keeps g f (cas_not_last l e) = placed k (Linger l) tt
    row_keeps g f (linger_alone l n) = k
    row_keeps g f (linger_linked l v n (at_root z)) = grant_next l _ (λ y. absurd (y z))
    row_keeps g f (linger_linked l v n (below_root z)) = grant_next l _ (λ _. inl refl)
    row_keeps g f (grant_writes l r w) =
        placed (status_store t s k r w (for_member l r w (and_both (queue_on_path t i l) (is_member t l r) g).1 f)) (done_place t i l) (done_good l)
    row_keeps g f (draw_shown e) = placed drawn_keeps Inside tt
    row_keeps g f (draw_unshown e) = placed drawn_keeps Watch tt
    row_keeps g f (watch_shown e) = placed k Inside tt
    row_keeps g f (watch_unshown e) = k
    row_keeps g f raise_counts = placed (grant_store t s k (wrap (s.grant + 1))) (done_place t i 0) (done_good 0)
    row_keeps g f invalid_stays = k

    pub words_kept : Facts t s → GoodWords t (step t i s).state
    unfolding step
    words_kept f = row_keeps ((f.places i).used h) (k.grants i) (branch t i s (place s i))

-- in every state reached from fresh
pub reached_good_words : (t : Tree) → SixteenBit t → Accepted t → (start : ℕ) (is : List ℕ) → AllThreads t is → GoodWords t (run t is (fresh_state t start)).state
reached_good_words t b valid v is all =
    (run_keeps t (λ s. Facts t s × GoodWords t s) (λ i s h k. (step_keeps t b valid i h s k.0, words_kept t valid i h s k.1 k.0)) is (fresh_state t v) all
    (fresh_facts t v, fresh_good_words t v)).1

pub word_law : WordLaw
unfolding WordLaw
word_law t s f d r n m =
    let k = f.fresh_run in
    rw f.reached ((reached_good_words t k.sixteen_bit (accepted t k.tree_accepted) f.start f.schedule k.threads).statuses r d n m)
