-- Where a thread's own step leads, place by place, with domains by their index on its path.
use mathlib.Core.Path.{◌≡◌, refl, sym, ap, ◌∙◌}
use mathlib.Core.Bool.{true}
use mathlib.Core.Logic.{◌≢◌, ◌⊎◌, inl, inr}
use Prim.Native.Nat.{ℕ, suc, ◌+◌, ◌-◌, ◌≤◌, ◌<◌}
use native.Mathlib.Omega.{arith}
use lib.Dec.{eqb}
use borrow.Author.Tests.{eqb-true, eqb-false}
use Rattle.model.specs.declared.Place.{Place}
use Rattle.model.specs.declared.Place.TheVariants.{Idle, Prep, Swap, Link, Wait, Inside, Check, Help, Cas, Linger, Grant, Draw, Watch, Raise}
use Rattle.model.specs.declared.State.{State as WordState}
use Rattle.model.specs.Trees.{Tree, is_ticket, own_record}
use Rattle.model.specs.Places.{words_of, place_of}
use Rattle.model.specs.States.{acquire_parent, tail, next, status, place, numbers_at, store_numbers}
use Rattle.model.specs.Steps.{RowResult, acquire_place, acquired_place, release_place, release_word, done_place, row}
use Rattle.model.specs.Laws.{SixteenBit}
use Rattle.model.proofs.Tests.{by_test}
use Rattle.model.proofs.Branches.{word_is, Branch, idle_draws, idle_prepares, prepares, swap_root, swap_inner, swap_joins, link_writes, wait_root_locked, wait_root_granted, wait_ungranted, wait_acquires, wait_passed, wait_crossed, inside_leaves, check_passes, check_releases, help_alone, help_linked, cas_last, cas_not_last, linger_alone, linger_linked, grant_writes, draw_shown, draw_unshown, watch_shown, watch_unshown, raise_counts, branch}
use Rattle.model.proofs.Waiting.{ungranted_row}
use Rattle.model.proofs.Trees.Index.{ancestor, height, record_at}
use Rattle.model.proofs.Trees.Accepted.{Accepted}
use Rattle.model.proofs.Trees.Tickets.{ticket_facts}
use Rattle.model.proofs.Trees.Paths.{ancestor_home, ancestor_root, ancestor_inner, ancestor_zero, ancestor_not_root, ancestor_parent_of}
use Rattle.model.proofs.Trees.Records.{own_record_at, root_record}
use Rattle.model.proofs.Places.{place_stored}
use Rattle.claims.proofs.Words.Represents.{waiting_word}
use Rattle.claims.proofs.Words.Releasing.{done_at, done_place_at}
use Rattle.bounds.proofs.starvation_freedom.Situations as situations
use Rattle.bounds.proofs.starvation_freedom.Situations.{Situation, next_words}

-- the thread begins to acquire the domain at an index of its path, from Prep or Draw
pub data Acquires (t : Tree) (i k : ℕ) (p : Place) : Type 0 where
  by_prep : p ≡ Prep (ancestor t i k) → Acquires t i k p
  by_draw : p ≡ Draw → k ≡ height t i → t.ticket_root ≡ true → Acquires t i k p

-- it releases the domain at an index: Check, or at the root Help or Raise
pub data Releases (t : Tree) (i k : ℕ) (p : Place) : Type 0 where
  by_check : p ≡ Check (ancestor t i k) → k < height t i → Releases t i k p
  by_help : p ≡ Help (ancestor t i k) → k ≡ height t i → Releases t i k p
  by_raise : p ≡ Raise → k ≡ height t i → Releases t i k p

-- the place after Idle: Swap at home, or what follows Draw
pub data FromIdle (t : Tree) (i : ℕ) : Place → Type 0 where
  to_swap : {p : Place} → p ≡ Swap (ancestor t i 0) → FromIdle t i p
  drawn_inside : {p : Place} → p ≡ Inside → FromIdle t i p
  drawn_watch : {p : Place} → p ≡ Watch → 0 ≡ height t i → FromIdle t i p

-- the place after Swap: Inside, the next domain, or Link
pub data FromSwap (t : Tree) (i k : ℕ) : Place → Type 0 where
  entered : {p : Place} → p ≡ Inside → FromSwap t i k p
  alone : {p : Place} → k < height t i → Acquires t i (suc k) p → FromSwap t i k p
  to_link : {p : Place} (q : ℕ) → p ≡ Link (ancestor t i k) q → FromSwap t i k p

-- the place after Check: a pass, or the release of the parent
pub data FromCheck (t : Tree) (i k : ℕ) : Place → Type 0 where
  passes : {p : Place} (r v : ℕ) → p ≡ Grant (ancestor t i k) r v → v ≤ 65535 → FromCheck t i k p
  goes_up : {p : Place} → Releases t i (suc k) p → FromCheck t i k p

-- the place after Help: Cas, or Grant with the word of a release
pub data FromHelp (l : ℕ) : Place → Type 0 where
  to_cas : {p : Place} → p ≡ Cas l → FromHelp l p
  to_grant : {p : Place} (r : ℕ) → p ≡ Grant l r (release_word l) → FromHelp l p

module _ (t : Tree) (valid : Accepted t) (bits : SixteenBit t) (c : Situation t) (i : ℕ) (h : i < t.threads) where
  abbrev s : WordState
  s = c.words

  -- the place of the thread after its step
  abbrev pub after : Place
  after = place (situations.next t valid bits c i h).words i

  lands : (Q : Place → Type 0) (p : Place) → Q p → Q (place_of (numbers_at (store_numbers s.places i (words_of p)) i))
  lands Q p q =
      let e : place_of (numbers_at (store_numbers s.places i (words_of p)) i) ≡ p =
      place_stored i p s (c.queued.room.places_room, omega (arith, valid.few_threads)) in
      rw e q

  -- where its step leads, by the branches of the row
  turn : (Q : Place → Type 0) (p : Place) → place s i ≡ p → ((x : RowResult) → Branch t i s p x → Q (place x.state i)) → Q after
  turn Q p e by =
      let z : after ≡ place (row t i p s).state i = ap (λ x. place x i) (next_words t valid bits c i h) ∙ ap (λ x. place (row t i x s).state i) e in
      rw z (by _ (branch t i s p))

  here : (p : Place) → place_of (numbers_at (store_numbers s.places i (words_of p)) i) ≡ p
  here p = lands (λ q. q ≡ p) p refl

  -- the places from which the next domain is acquired, and a domain is released
  acquires_at : (k : ℕ) → k ≤ height t i → Acquires t i k (acquire_place t (ancestor t i k))
  acquires_at k l = by_test (Acquires t i k) (is_ticket t (ancestor t i k)) Draw (Prep (ancestor t i k))
      (λ e. let f = ticket_facts t (ancestor t i k) e in by_draw refl (ancestor_zero t valid i h k l f.1) f.0) (λ _. by_prep refl)

  releases_at : (k : ℕ) → k ≤ height t i → Releases t i k (release_place t (ancestor t i k))
  releases_at k l =
      by_test (Releases t i k) (is_ticket t (ancestor t i k)) Raise _
      (λ e. by_raise refl (ancestor_zero t valid i h k l (ticket_facts t (ancestor t i k) e).1))
      (λ _. by_test (Releases t i k) (eqb (ancestor t i k) 0) (Help (ancestor t i k)) (Check (ancestor t i k))
      (λ e. by_help refl (ancestor_zero t valid i h k l (eqb-true _ _ e)))
      (λ e. by_check refl (let n = eqb-false (ancestor t i k) 0 e in ancestor_not_root t valid i h k l (omega arith))))

  -- ACQUIRING
  pub prep_turn : (l : ℕ) → place s i ≡ Prep l → after ≡ Swap l
  prep_turn l e = turn (λ p. p ≡ Swap l) (Prep l) e (λ _. by)
    where
      by : {x : RowResult} → Branch t i s (Prep l) x → place x.state i ≡ Swap l
      by (prepares _ v at) = here (Swap l)

  pub draw_turn : place s i ≡ Draw → (after ≡ Inside) ⊎ (after ≡ Watch)
  draw_turn e = turn (λ p. (p ≡ Inside) ⊎ (p ≡ Watch)) Draw e (λ _. by)
    where
      by : {x : RowResult} → Branch t i s Draw x → (place x.state i ≡ Inside) ⊎ (place x.state i ≡ Watch)
      by (draw_shown _) = inl (here Inside)
      by (draw_unshown _) = inr (here Watch)

  pub idle_turn : place s i ≡ Idle → FromIdle t i after
  unfolding ancestor
  idle_turn e = turn (FromIdle t i) Idle e (λ _. by)
    where
      by : {x : RowResult} → Branch t i s Idle x → FromIdle t i (place x.state i)
      by (idle_draws y (draw_shown _)) = drawn_inside (here Inside)
      by (idle_draws y (draw_unshown _)) = drawn_watch (here Watch) (ancestor_zero t valid i h 0 (omega arith) (ancestor_home t i ∙ (ticket_facts t (t.home i) y).1))
      by (idle_prepares _ (prepares _ v at)) = to_swap (here (Swap (t.home i)))

  -- the next domain's place, after Swap and Wait
  climbs : (k : ℕ) (b : k < height t i) → Acquires t i (suc k) (place_of (numbers_at (store_numbers s.places i (words_of (acquired_place t (ancestor t i k)))) i))
  climbs k b = lands (Acquires t i (suc k)) (acquired_place t (ancestor t i k)) (rw (ancestor_parent_of t valid i h k b) (acquires_at (suc k) b))

  pub swap_turn : (k : ℕ) → k ≤ height t i → place s i ≡ Swap (ancestor t i k) → FromSwap t i k after
  swap_turn k l e = turn (FromSwap t i k) (Swap (ancestor t i k)) e (λ _. by)
    where
      by : {x : RowResult} → Branch t i s (Swap (ancestor t i k)) x → FromSwap t i k (place x.state i)
      by (swap_root _ _ _) = entered (here Inside)
      by (swap_inner _ n _) = let b = ancestor_not_root t valid i h k l (omega (arith, n)) in alone b (climbs k b)
      by (swap_joins _ _) = let q = tail s (ancestor t i k) - 1 in to_link q (here (Link (ancestor t i k) q))

  pub link_turn : (l q : ℕ) → place s i ≡ Link l q → after ≡ Wait l
  link_turn l q e = turn (λ p. p ≡ Wait l) (Link l q) e (λ _. by)
    where
      by : {x : RowResult} → Branch t i s (Link l q) x → place x.state i ≡ Wait l
      by (link_writes _ _) = here (Wait l)

  -- WAIT: Inside, the next domain, or it stays
  pub woken_turn : (k : ℕ) → k < height t i → place s i ≡ Wait (ancestor t i k) → status s (record_at t i k) ≡ acquire_parent → Acquires t i (suc k) after
  woken_turn k b e v = turn (Acquires t i (suc k)) (Wait (ancestor t i k)) e (λ _. by)
    where
      word : status s (own_record t i (ancestor t i k)) ≡ acquire_parent
      word = rw (own_record_at t valid i h k (omega arith)) v

      root : {C : Type 0} → ancestor t i k ≡ 0 → C
      root z = absurd (omega (arith, ancestor_inner t valid i h k b))

      by : {x : RowResult} → Branch t i s (Wait (ancestor t i k)) x → Acquires t i (suc k) (place x.state i)
      by (wait_acquires _ _ _) = climbs k b
      by (wait_root_locked _ z _) = root z
      by (wait_root_granted _ z _) = root z
      by (wait_ungranted _ _ w) = absurd (omega (arith, word))
      by (wait_passed _ _ _ n _) = absurd (n word)
      by (wait_crossed _ _ _ n _) = absurd (n word)

  -- a status that sends Inside: at the root UNLOCKED, below it a count
  pub ready_turn :
      (k : ℕ) → k ≤ height t i → place s i ≡ Wait (ancestor t i k) → (k ≡ height t i → status s (record_at t i k) ≡ 0) → (k < height t i → status s (record_at t i k) ≤ 65535) → after ≡ Inside
  ready_turn k l e top low = turn (λ p. p ≡ Inside) (Wait (ancestor t i k)) e (λ _. by)
    where
      own : own_record t i (ancestor t i k) ≡ record_at t i k
      own = own_record_at t valid i h k l

      count : ancestor t i k ≢ 0 → status s (own_record t i (ancestor t i k)) ≤ 65535
      count n = rw own (low (ancestor_not_root t valid i h k l (omega (arith, n))))

      by : {x : RowResult} → Branch t i s (Wait (ancestor t i k)) x → place x.state i ≡ Inside
      by (wait_root_granted _ _ _) = here Inside
      by (wait_passed _ _ _ _ _) = here Inside
      by (wait_crossed _ _ _ _ _) = here Inside
      by (wait_root_locked _ z w) = absurd (let free = top (ancestor_zero t valid i h k l z) in let w' = rw own at w in omega arith)
      by (wait_ungranted _ n w) = absurd (omega (arith, count n))
      by (wait_acquires _ n w) = absurd (omega (arith, count n))

  -- a status that stays
  pub wait_turn : (k : ℕ) → k ≤ height t i → place s i ≡ Wait (ancestor t i k) → status s (record_at t i k) ≡ waiting_word (ancestor t i k) → after ≡ Wait (ancestor t i k)
  unfolding row
  wait_turn k l e v =
      let z : after ≡ place (row t i (Wait (ancestor t i k)) s).state i = ap (λ x. place x i) (next_words t valid bits c i h) ∙ ap (λ x. place (row t i x s).state i) e in
      z ∙ rw (ungranted_row t i s (ancestor t i k) (rw (own_record_at t valid i h k l) v)) e

  pub watch_turn : place s i ≡ Watch → (after ≡ Inside) ⊎ (after ≡ Watch)
  watch_turn e = turn (λ p. (p ≡ Inside) ⊎ (p ≡ Watch)) Watch e (λ _. by)
    where
      by : {x : RowResult} → Branch t i s Watch x → (place x.state i ≡ Inside) ⊎ (place x.state i ≡ Watch)
      by (watch_shown _) = inl (here Inside)
      by (watch_unshown _) = inr e

  pub shown_turn : place s i ≡ Watch → status s (record_at t i (height t i)) ≡ s.grant → after ≡ Inside
  shown_turn e v = turn (λ p. p ≡ Inside) Watch e (λ _. by)
    where
      by : {x : RowResult} → Branch t i s Watch x → place x.state i ≡ Inside
      by (watch_shown _) = here Inside
      by (watch_unshown n) = absurd ((rw (root_record t valid i h) at n) v)

  -- RELEASING
  pub inside_turn : place s i ≡ Inside → Releases t i 0 after
  unfolding ancestor
  inside_turn e = turn (Releases t i 0) Inside e (λ _. by)
    where
      by : {x : RowResult} → Branch t i s Inside x → Releases t i 0 (place x.state i)
      by inside_leaves = lands (Releases t i 0) (release_place t (t.home i)) (releases_at 0 (omega arith))

  pub check_turn : (k : ℕ) → k < height t i → place s i ≡ Check (ancestor t i k) → FromCheck t i k after
  check_turn k b e = turn (FromCheck t i k) (Check (ancestor t i k)) e (λ _. by)
    where
      by : {x : RowResult} → Branch t i s (Check (ancestor t i k)) x → FromCheck t i k (place x.state i)
      by (check_passes _ less _) =
          let L = ancestor t i k in
          let I = own_record t i L in
          passes (next s I - 1) (status s I + 1) (here (Grant L (next s I - 1) (status s I + 1))) (omega (arith, bits L))
      by (check_releases _ _) =
          goes_up (lands (Releases t i (suc k)) (release_place t (t.parent (ancestor t i k))) (rw (ancestor_parent_of t valid i h k b) (releases_at (suc k) b)))

  pub help_turn : (l : ℕ) → place s i ≡ Help l → FromHelp l after
  help_turn l e = turn (FromHelp l) (Help l) e (λ _. by)
    where
      by : {x : RowResult} → Branch t i s (Help l) x → FromHelp l (place x.state i)
      by (help_alone _ _) = to_cas (here (Cas l))
      by (help_linked _ v _ at) = let m = next s (own_record t i l) - 1 in to_grant m (here (Grant l m v) ∙ ap (Grant l m) (word_is at))

  pub linger_turn : (l : ℕ) → place s i ≡ Linger l → next s (own_record t i l) ≢ 0 → (r : ℕ) × (after ≡ Grant l r (release_word l))
  linger_turn l e n = turn (λ p. (r : ℕ) × (p ≡ Grant l r (release_word l))) (Linger l) e (λ _. by)
    where
      by : {x : RowResult} → Branch t i s (Linger l) x → (r : ℕ) × (place x.state i ≡ Grant l r (release_word l))
      by (linger_alone _ z) = absurd (n z)
      by (linger_linked _ v _ at) = let m = next s (own_record t i l) - 1 in (m, here (Grant l m v) ∙ ap (Grant l m) (word_is at))

  pub linger_stays : (l : ℕ) → place s i ≡ Linger l → next s (own_record t i l) ≡ 0 → after ≡ Linger l
  linger_stays l e n = turn (λ q. q ≡ Linger l) (Linger l) e (λ _. by)
    where
      by : {x : RowResult} → Branch t i s (Linger l) x → place x.state i ≡ Linger l
      by (linger_alone _ _) = e
      by (linger_linked _ v z at) = absurd (z n)

  pub cas_turn : (k : ℕ) → k ≤ height t i → place s i ≡ Cas (ancestor t i k) → (after ≡ Linger (ancestor t i k)) ⊎ (after ≡ done_at t i k)
  cas_turn k b e = turn (λ p. (p ≡ Linger (ancestor t i k)) ⊎ (p ≡ done_at t i k)) (Cas (ancestor t i k)) e (λ _. by)
    where
      by : {x : RowResult} → Branch t i s (Cas (ancestor t i k)) x → (place x.state i ≡ Linger (ancestor t i k)) ⊎ (place x.state i ≡ done_at t i k)
      by (cas_last _ _) = inr (here (done_place t i (ancestor t i k)) ∙ done_place_at t valid i h k b)
      by (cas_not_last _ _) = inl (here (Linger (ancestor t i k)))

  pub grant_turn : (k r v : ℕ) → k ≤ height t i → place s i ≡ Grant (ancestor t i k) r v → after ≡ done_at t i k
  grant_turn k r v b e = turn (λ p. p ≡ done_at t i k) (Grant (ancestor t i k) r v) e (λ _. by)
    where
      by : {x : RowResult} → Branch t i s (Grant (ancestor t i k) r v) x → place x.state i ≡ done_at t i k
      by (grant_writes _ _ _) = here (done_place t i (ancestor t i k)) ∙ done_place_at t valid i h k b

  pub raise_turn : place s i ≡ Raise → after ≡ done_at t i (height t i)
  raise_turn e = turn (λ p. p ≡ done_at t i (height t i)) Raise e (λ _. by)
    where
      by : {x : RowResult} → Branch t i s Raise x → place x.state i ≡ done_at t i (height t i)
      by raise_counts = here (done_place t i 0) ∙ ap (done_place t i) (sym (ancestor_root t valid i h)) ∙ done_place_at t valid i h (height t i) (omega arith)
