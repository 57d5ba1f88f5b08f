-- A member of a queue below the root is linked after one round, and so is everybody ahead of it.
use mathlib.Core.Path.{◌≡◌, refl, sym, ap, ◌∙◌}
use mathlib.Core.List.{List, [], ◌∷◌, ◌++◌}
use mathlib.Core.Logic.{◌≢◌, inl, inr}
use Prim.Native.Nat.{ℕ, zero, suc, ◌+◌, ◌≤◌, ◌<◌}
use native.Mathlib.Omega.{arith}
use lib.ListN.{length}
use Rattle.model.specs.declared.Place.{Place}
use Rattle.model.specs.declared.Place.TheVariants.{Link, Wait, Inside}
use Rattle.model.specs.Trees.{Tree}
use Rattle.model.specs.Places.{words_of}
use Rattle.model.specs.States.{place}
use Rattle.model.specs.Runs.{occurrences}
use Rattle.model.specs.Laws.{AllThreads, SixteenBit}
use Rattle.model.proofs.Lists.{same_or, rest, rest_cons, rest_nil, is, is_same, is_other, count, count_nil, count_cons, count_rest}
use Rattle.model.proofs.Trees.Index.{ancestor, height, record_at}
use Rattle.model.proofs.Trees.Accepted.{Accepted}
use Rattle.model.proofs.Trees.Paths.{ancestor_root}
use Rattle.claims.proofs.Queues.Paths.{Laws, laws}
use Rattle.claims.proofs.Queues.Moves.{queued, ready, low, acts, Event}
use Rattle.claims.proofs.Queues.Invariant.{fresh}
use Rattle.claims.proofs.Queues.Order.{Change, stays, opens, grows, moves, closes}
use Rattle.claims.proofs.Queues.Remaining.{acts_real}
use Rattle.claims.proofs.Words.View.{words_in}
use Rattle.claims.proofs.Words.Links.{after_in}
use Rattle.claims.proofs.Words.Says.{Ungranted, linking, waiting, watching, ungranted}
use Rattle.chain.proofs.Reached.Orders.{position, position_here, position_past, position_next}
use Rattle.bounds.proofs.starvation_freedom.Situations.{Situation, queues, next, next_change, place_other}
use Rattle.bounds.proofs.starvation_freedom.Queues.{tag, gone, queue_change}
use Rattle.bounds.proofs.starvation_freedom.Stages.{before_queued}
use Rattle.bounds.proofs.starvation_freedom.Within.{Within, Reaches, now, later, Covers, occurrences_other}
use Rattle.bounds.proofs.starvation_freedom.Turns.{link_turn, wait_turn}
use Rattle.bounds.proofs.starvation_freedom.Says.{Waiting, stands, woken, granted, wait_stage, link_stage}
use Rattle.bounds.proofs.starvation_freedom.Waiting.{Woken, stands_on, is_ready, is_woken, is_inside, stands_step}
use Rattle.bounds.proofs.starvation_freedom.Positions.{position_within, position_snoc}
use Rattle.bounds.proofs.starvation_freedom.Line.{Lined, line_after}

-- POSITIONS: a number added at the end brings nobody nearer to the front; a number that is not in the list is after all of them
position_longer : (r z : ℕ) (q : List ℕ) → position r q ≤ position r (q ++ (z ∷ []))
unfolding position
position_longer r z [] = omega arith
position_longer r z (x ∷ xs) =
    same_or r x _
    (λ e. omega (arith, position_here r x xs e))
    (λ n. omega (arith, position_past r x xs n, position_past r x (xs ++ (z ∷ [])) n, position_longer r z xs))

position_absent : (r : ℕ) (q : List ℕ) → count r q ≡ 0 → position r q ≡ length q
unfolding position
position_absent r [] h = refl
position_absent r (x ∷ xs) h =
    let n : r ≢ x = λ e. omega (arith, count_cons r x xs, is_same r x e) in
    position_past r x xs n ∙ ap suc (position_absent r xs (omega (arith, count_cons r x xs, is_other r x n)))

-- a member that is not after m now was not after it before the step
order_kept :
    (d m r : ℕ) (e : Event) (q q' : List ℕ) → Change d e q q' → 1 ≤ count m (rest q) → count m q ≤ 1 → position r q' ≤ position m q' → position r q ≤ position m q
order_kept d m r e q q' (stays z b g) h o p = let u = ap (position m) z in let v = ap (position r) z in omega arith
order_kept d m r e q q' (opens x y z b g) h o p = absurd (let w : count m (rest q) ≡ 0 = rw (y, rest_nil) (count_nil m) in omega arith)
order_kept d m r e q q' (grows x a v z b g) h o p =
    let u : position m q' ≡ position m q = ap (position m) z ∙ position_snoc m x q (omega (arith, count_rest m q)) in
    let w = ap (position r) z in
    omega (arith, position_longer r x q)
order_kept d m r e q q' (moves a x xs y z b g n) h o p =
    let h' : 1 ≤ count m (x ∷ xs) = rw (y, rest_cons a (x ∷ xs)) at h in
    let c : count m q ≡ is m a + count m (x ∷ xs) = ap (count m) y ∙ count_cons m a (x ∷ xs) in
    let apart : m ≢ a = λ v. omega (arith, is_same m a v) in
    let u : position m q ≡ suc (position m (x ∷ xs)) = ap (position m) y ∙ position_past m a (x ∷ xs) apart in
    let u' = ap (position m) z in
    let v' = ap (position r) z in
    same_or r a _
    (λ w. let v : position r q ≡ 0 = ap (position r) y ∙ position_here r a (x ∷ xs) w in omega arith)
    (λ w. let v : position r q ≡ suc (position r (x ∷ xs)) = ap (position r) y ∙ position_past r a (x ∷ xs) w in omega arith)
order_kept d m r e q q' (closes a y z b g) h o p = absurd (let w : count m (rest q) ≡ 0 = rw (y, rest_cons a []) (count_nil m) in omega arith)

-- a thread that stands at an index is after the first there
pub standing :
    (t : Tree) → Accepted t → SixteenBit t → (a m : ℕ) → a < t.threads → m ≤ height t a → (c : Situation t) → (queues c).stage a ≡ queued m →
    1 ≤ count (record_at t a m) (rest ((queues c).queue (ancestor t a m)))
unfolding low acts
standing t valid bits a m ha l c e = let s = (c.queued.represents.invariant.threads a).stands (rw e (omega arith)) in rw e at s

module _ (t : Tree) (valid : Accepted t) (bits : SixteenBit t) (a m : ℕ) (ha : a < t.threads) (l : m ≤ height t a) (inner : 0 < ancestor t a m) where
  tree_laws : Laws t
  tree_laws = laws t valid

  abbrev d : ℕ
  d = ancestor t a m

  abbrev mine : ℕ
  mine = record_at t a m

  abbrev there : (member : ℕ) → Situation t → ℕ
  there r c = position r ((queues c).queue d)

  -- every thread that still has to link, up to a itself, has a turn in the schedule
  abbrev Pending : List ℕ → Situation t → Type 0
  Pending S c =
      (y k q : ℕ) → y < t.threads → k ≤ height t y → ancestor t y k ≡ d → place c.words y ≡ Link d q → there (record_at t y k) c ≤ there mine c → 1 ≤ occurrences y S

  -- NOBODY HAS TO LINK: all are linked, from the first on
  module _ (c : Situation t) (none : Pending [] c) where
    abbrev Up : (thread index : ℕ) → Type 0
    Up i j = Lined t valid bits c (λ _. Unit {0}) i j

    -- given this for the members before
    line_with :
        (n : ℕ) → ((b k : ℕ) → b < t.threads → k ≤ height t b → (queues c).stage b ≡ queued k → ancestor t b k ≡ d → there (record_at t b k) c < n → there (record_at t b k) c ≤ there mine c → Up b k) →
        (i j : ℕ) → i < t.threads → j ≤ height t i → (queues c).stage i ≡ queued j → ancestor t i j ≡ d → there (record_at t i j) c ≤ n → there (record_at t i j) c ≤ there mine c → Up i j
    unfolding words_in occurrences
    line_with n rec i j h u e z p o = by (ungranted j e (c.queued.represents.fits i h))
      where
        by : Ungranted t (words_in c.words) (queues c) i j (place c.words i) → Up i j
        by (linking q y nt f v) = absurd (let w = none i j q h u z (y ∙ ap (λ x. Link x q) z) o in omega arith)
        by (watching y v r w) = absurd (let x : ancestor t i j ≡ 0 = ap (ancestor t i) v ∙ ancestor_root t valid i h in omega arith)
        by (waiting q y w f v) =
            let inv = c.queued.represents.invariant in
            let x = inv.acted (ancestor t i j) q (after_in ((queues c).queue (ancestor t i j)) q (record_at t i j) f) in
            let r = acts_real t tree_laws (queues c) inv x.thread x.index x.acting in
            let next_there : there (record_at t i j) c ≡ suc (there q c) = rw z at (position_next ((queues c).queue (ancestor t i j)) q (record_at t i j) f (inv.once (ancestor t i j))) in
            line_after t valid bits c (λ _. Unit {0}) i j x.thread x.index q e r.0 x.acting x.place x.mine f (λ nt k. omega arith) tt
            (λ s. rec x.thread x.index r.0 r.2 s (x.place ∙ z) (rw x.mine (omega arith)) (rw x.mine (omega arith)))

    line_up :
        (n i j : ℕ) → i < t.threads → j ≤ height t i → (queues c).stage i ≡ queued j → ancestor t i j ≡ d → there (record_at t i j) c ≤ n → there (record_at t i j) c ≤ there mine c → Up i j
    line_up zero = line_with zero (λ b k hb ub s z p o. absurd (omega arith))
    line_up (suc n) = line_with (suc n) (λ b k hb ub s z p o. line_up n b k hb ub s z (omega arith) o)

    pub all_linked : (queues c).stage a ≡ queued m → Up a m
    all_linked e = line_up (there mine c) a m ha l e refl (omega arith) (omega arith)

  -- ONE STEP of a thread after which it is in Link at d: it was not in the queue before
  module _ (c : Situation t) (e : (queues c).stage a ≡ queued m) (x : ℕ) (h : x < t.threads) where
    abbrev c' : Situation t
    c' = next t valid bits c x h

    abbrev row_of : Place → ℕ
    row_of p = (words_of p).row

    not_linking : (k q : ℕ) → k ≤ height t x → ancestor t x k ≡ d → (queues c).stage x ≡ queued k → place c'.words x ≡ Link d q → ⊥
    unfolding words_in tag
    not_linking k q u z s p = by (ungranted k s (c.queued.represents.fits x h))
      where
        waits : place c.words x ≡ Wait (ancestor t x k) → Waiting t (words_in c.words) (queues c) x k ((queues c).stage x) → ⊥
        waits y (stands v w) = let o = ap row_of (sym (wait_turn t valid bits c x h k u y w) ∙ p) in omega arith
        waits y (woken b v w) = let o = ap tag (sym s ∙ v) in omega arith
        waits y (granted v w n) = let o = ap tag (sym s ∙ v) in omega arith

        by : Ungranted t (words_in c.words) (queues c) x k (place c.words x) → ⊥
        by (linking r y nt f v) = let o = ap row_of (sym (link_turn t valid bits c x h (ancestor t x k) r y) ∙ p) in omega arith
        by (waiting r y w f v) = waits y (wait_stage t valid c x h k u y)
        by (watching y v r w) = let o : ancestor t x k ≡ 0 = ap (ancestor t x) v ∙ ancestor_root t valid x h in omega arith

    abbrev inv_before : there mine c < length ((queues c).queue d)
    inv_before = position_within mine ((queues c).queue d) (let s = standing t valid bits a m ha l c e in omega (arith, count_rest mine ((queues c).queue d)))

    not_new : (k q : ℕ) → k ≤ height t x → ancestor t x k ≡ d → place c'.words x ≡ Link d q → there (record_at t x k) c ≤ there mine c → ⊥
    unfolding Rattle.claims.proofs.Queues.Moves.down
    not_new k q u z p o =
        let inv = c.queued.represents.invariant in
        let s = link_stage t valid c' x h k q u (p ∙ ap (λ y. Link y q) (sym z)) in
        let far : count (record_at t x k) ((queues c).queue d) ≡ 0 → ⊥ = λ n. let y = position_absent (record_at t x k) ((queues c).queue d) n in let w = inv_before in omega arith in
        elim (before_queued t (next_change t valid bits c x h) x k s) [
          | inl y ↦ not_linking k q u z y p
          | inr (inl y) ↦ far (fresh t tree_laws (queues c) inv x k d y)
          | inr (inr (y, n)) ↦ far (rw n (gone t tree_laws (queues c) inv x 0 h y d))
        ]

    pending_step : (S : List ℕ) → Pending (x ∷ S) c → Pending S c'
    pending_step S more y k q hy u z p o =
        let ch = queue_change t d (next_change t valid bits c x h) in
        let before = order_kept d mine (record_at t y k) ch.0 ((queues c).queue d) ((queues c').queue d) ch.1 (standing t valid bits a m ha l c e) (c.queued.represents.invariant.once d mine) o in
        same_or x y _
        (λ w. absurd (let new : (k : ℕ) → k ≤ height t y → ancestor t y k ≡ d → place c'.words y ≡ Link d q → there (record_at t y k) c ≤ there mine c → ⊥ = rw (← w) (λ k. not_new k q) in new k u z p before))
        (λ w.
        let some = more y k q hy u z (sym (place_other t valid bits c x h y (λ v. w (sym v))) ∙ p) before in
        omega (arith, occurrences_other y x S w))

  -- ONE ROUND: a is linked, or its standing has ended
  pub data LinkedUp (c : Situation t) : Type 0 where
    all_up : Lined t valid bits c (λ _. Unit {0}) a m → LinkedUp c
    has_lock : (queues c).stage a ≡ ready → LinkedUp c
    has_domain : Woken t valid bits a ha m c → LinkedUp c
    has_entered : place c.words a ≡ Inside → LinkedUp c

  walk : (S S' : List ℕ) (c : Situation t) → (queues c).stage a ≡ queued m → Pending S c → AllThreads t (S ++ S') → Reaches t valid bits LinkedUp (S ++ S') c
  unfolding AllThreads
  walk [] S' c e p all = now (all_up (all_linked c p e))
  walk (x ∷ S) S' c e p all =
      elim (stands_step t valid bits a ha m l c e x all.0) [
        | stands_on e' ↦ later x all.0 (walk S S' (next t valid bits c x all.0) e' (pending_step c e x all.0 S p) all.1)
        | is_ready y ↦ later x all.0 (now (has_lock y))
        | is_woken y ↦ later x all.0 (now (has_domain y))
        | is_inside y ↦ later x all.0 (now (has_entered y))
      ]

  pub link_round : (c : Situation t) → (queues c).stage a ≡ queued m → Within t valid bits 1 LinkedUp c
  unfolding Covers
  link_round c e S all (r, S', z, every, cov) =
      let all' : AllThreads t (r ++ S') = rw z at all in
      rw z (walk r S' c e (λ y k q hy u w p o. every y hy) all')
