-- In a state reached from fresh: who acts for which record of a queue, and what a thread's place is if its next step is a stay.
use mathlib.Core.Path.{◌≡◌, refl, sym, ap, ◌∙◌}
use mathlib.Core.Bool.{true, false, false≢true}
use mathlib.Core.Logic.{◌≢◌}
use Prim.Native.Nat.{ℕ, suc, ◌≤◌, ◌<◌}
use native.Mathlib.Omega.{arith}
use lib.Dec.{eqb}
use borrow.Author.Tests.{eqb-true}
use Rattle.model.specs.declared.Place.{Place}
use Rattle.model.specs.declared.Place.TheVariants.{Wait, Linger, Watch}
use Rattle.model.specs.declared.State.{State as WordState}
use Rattle.model.specs.Trees.{Tree, is_ticket, own_record}
use Rattle.model.specs.Places.{place_domain}
use Rattle.model.specs.States.{next, status, place}
use Rattle.model.specs.Steps.{stay, is_kind, row, step}
use Rattle.model.specs.Acts.{acts}
use Rattle.model.specs.WellFormed.{good_place}
use Rattle.model.specs.Laws.{SixteenBit}
use Rattle.claims.specs.Reached.{ActsFor}
use Rattle.model.proofs.Trees.Index.{ancestor, height, record_at}
use Rattle.model.proofs.Trees.Accepted.{Accepted}
use Rattle.model.proofs.Trees.Paths.{ancestor_home, ancestor_root}
use Rattle.model.proofs.Trees.Records.{own_record_at}
use Rattle.model.proofs.Lists.{count}
use Rattle.claims.proofs.Queues.Paths.{laws}
use Rattle.claims.proofs.Queues.Moves.{Stage, queued, low, State}
use Rattle.claims.proofs.Queues.Moves as moves
use Rattle.claims.proofs.Queues.Invariant.{Inv, unique}
use Rattle.claims.proofs.Words.Links.{after}
use Rattle.claims.proofs.Words.View.{Words, words_in}
use Rattle.claims.proofs.Words.Represents.{waiting_word, letting_go_low, Fits, at_idle, at_prep, at_swap, at_link, at_wait, at_woken, at_ready, at_inside, at_check, at_pass, at_help, at_cas, at_linger, at_grant, at_draw, at_watch, at_shown, at_raise}
use Rattle.claims.proofs.Claims.Reached.{Queued}
use Rattle.claims.proofs.Claims.QueueLaw.{Acting, acting_index, index_acting, in_queue}
use Rattle.model.proofs.Laws.Kinds.{may_stay, stay_named}
use Rattle.claims.proofs.Claims.Moving.{woken_moves, ready_moves, shown_moves}
use Rattle.chain.specs.Chain.{stays}
use Rattle.chain.proofs.Stays.{stays_at, linger_stays, moves_on}

-- a thread's next step is a stay exactly if the row of its place is one
pub row_stays : (t : Tree) (s : WordState) (i : ℕ) → stays t s i ≡ true → (row t i (place s i) s).kind ≡ stay
unfolding stays step
row_stays t s i e = stay_named (row t i (place s i) s).kind e

pub stays_row : (t : Tree) (s : WordState) (i : ℕ) → (row t i (place s i) s).kind ≡ stay → stays t s i ≡ true
unfolding stays step is_kind
stays_row t s i e = rw e refl

-- the place is on the thread's path
pub record Placed (t : Tree) (g : State) (i : ℕ) (p : Place) (x : Stage) : Type 0 where
  pub index : ℕ
  pub within : index ≤ height t i
  pub low_there : index ≤ low (height t i) x
  pub there : place_domain (t.home i) p ≡ ancestor t i index

module _ (t : Tree) (valid : Accepted t) (w : Words) (g : State) (i : ℕ) (h : i < t.threads) where
  placed_at : {p : Place} {x : Stage} (k : ℕ) → k ≤ height t i → k ≤ low (height t i) x → place_domain (t.home i) p ≡ ancestor t i k → Placed t g i p x
  placed_at k a b e = record { index = k; within = a; low_there = b; there = e }

  pub placed : {p : Place} {x : Stage} → Fits t w g i p x → Placed t g i p x
  unfolding low
  placed at_idle = placed_at 0 (omega arith) (omega arith) (sym (ancestor_home t i))
  placed (at_prep k l c) = placed_at k l (omega arith) refl
  placed (at_swap k l c n v) = placed_at k l (omega arith) refl
  placed (at_link k p l c d a n v) = placed_at k l (omega arith) refl
  placed (at_wait k p l c d a n v) = placed_at k l (omega arith) refl
  placed (at_woken k l c v z) = placed_at k (omega arith) (omega arith) refl
  placed (at_ready k l c v p) = placed_at k l (omega arith) refl
  placed (at_inside c) = placed_at 0 (omega arith) (omega arith) (sym (ancestor_home t i))
  placed (at_check k l c) = placed_at k (omega arith) (omega arith) refl
  placed (at_pass k r v l c n z f) = placed_at k (omega arith) (omega arith) refl
  placed (at_help k l c) = placed_at k l (omega (arith, letting_go_low (height t i) k)) refl
  placed (at_cas k l c) = placed_at k l (omega (arith, letting_go_low (height t i) k)) refl
  placed (at_linger k l c n) = placed_at k l (omega (arith, letting_go_low (height t i) k)) refl
  placed (at_grant k r l c n) = placed_at k l (omega (arith, letting_go_low (height t i) k)) refl
  placed (at_draw k l r c) = placed_at (height t i) (omega arith) (omega arith) (sym (ancestor_root t valid i h))
  placed (at_watch k l r c) = placed_at (height t i) (omega arith) (omega arith) (sym (ancestor_root t valid i h))
  placed (at_shown r c) = placed_at (height t i) (omega arith) (omega arith) (sym (ancestor_root t valid i h))
  placed (at_raise r c) = placed_at (height t i) (omega arith) (omega arith) (sym (ancestor_root t valid i h))

module _ (t : Tree) (valid : Accepted t) (bits : SixteenBit t) (s : WordState) (q : Queued t s) where
  abbrev pub g : State
  g = q.queues

  abbrev pub w : Words
  w = words_in s

  abbrev pub inv : Inv t g
  inv = q.represents.invariant

  -- WAITING, by place: a thread whose next step is a stay is after another member, lingers, or watches
  pub data Waits (i : ℕ) : Place → Type 0 where
    waits : (k p : ℕ) → k ≤ height t i → g.stage i ≡ queued k → is_ticket t (ancestor t i k) ≡ false → after (g.queue (ancestor t i k)) p ≡ suc (record_at t i k) →
        next s p ≡ suc (record_at t i k) → status s (record_at t i k) ≡ waiting_word (ancestor t i k) → Waits i (Wait (ancestor t i k))
    lingers : (k : ℕ) → k ≤ height t i → k < low (height t i) (g.stage i) → w.tails (ancestor t i k) ≢ suc (record_at t i k) → next s (record_at t i k) ≡ 0 → Waits i (Linger (ancestor t i k))
    watches : g.stage i ≡ queued (height t i) → t.ticket_root ≡ true → Waits i Watch

  module _ (i : ℕ) (h : i < t.threads) (still : stays t s i ≡ true) where
    no_stay : {C : Type 0} (p : Place) → place s i ≡ p → may_stay p ≡ false → C
    no_stay p e f = absurd (false≢true (sym (stays_at t s i p e ∙ moves_on t s i p f) ∙ still))

    kind_there : (p : Place) → place s i ≡ p → (row t i p s).kind ≡ stay
    kind_there p e = rw e at (row_stays t s i still)

    waits_at : {p : Place} {x : Stage} → place s i ≡ p → g.stage i ≡ x → good_place t i p ≡ true → Fits t w g i p x → Waits i p
    unfolding words_in row may_stay
    waits_at e y o at_idle = no_stay _ e refl
    waits_at e y o (at_prep k l c) = no_stay _ e refl
    waits_at e y o (at_swap k l c n v) = no_stay _ e refl
    waits_at e y o (at_link k p l c d a n v) = no_stay _ e refl
    waits_at e y o (at_wait k p l c d a n v) = waits k p l y d a n v
    waits_at e y o (at_woken k b c v z) = absurd (woken_moves t valid bits s q i h k b v (kind_there _ e))
    waits_at e y o (at_ready k l c v p) = absurd (ready_moves t valid bits s q i h k l y (λ b. c k b b) v (kind_there _ e))
    waits_at e y o (at_inside c) = no_stay _ e refl
    waits_at e y o (at_check k b c) = no_stay _ e refl
    waits_at e y o (at_pass k r v b c n z f) = no_stay _ e refl
    waits_at e y o (at_help k l c) = no_stay _ e refl
    waits_at e y o (at_cas k l c) = no_stay _ e refl
    waits_at e y o (at_linger k l c n) =
        let z : eqb (next s (own_record t i (ancestor t i k))) 0 ≡ true = sym (stays_at t s i (Linger (ancestor t i k)) e ∙ linger_stays t s i (ancestor t i k)) ∙ still in
        lingers k l (rw y (omega (arith, letting_go_low (height t i) k))) n (rw (own_record_at t valid i h k l) at (eqb-true (next s (own_record t i (ancestor t i k))) 0 z))
    waits_at e y o (at_grant k r l c n) = no_stay _ e refl
    waits_at e y o (at_draw k l r c) = no_stay _ e refl
    waits_at e y o (at_watch k l r c) = watches (y ∙ ap queued l) r
    waits_at e y o (at_shown r c) = absurd (shown_moves t valid bits s q i h r y (kind_there _ e))
    waits_at e y o (at_raise r c) = no_stay _ e refl

    pub stay_waits : Waits i (place s i)
    unfolding words_in
    stay_waits = waits_at refl refl ((q.facts.places i).used h) (q.represents.fits i h)

  -- WHICH THREAD ACTS for a record
  pub same_thread : (b c n m : ℕ) → n < moves.acts (height t b) (g.stage b) → m < moves.acts (height t c) (g.stage c) → record_at t b n ≡ record_at t c m → b ≡ c
  same_thread b c n m x y e = (unique t (laws t valid) g inv b c n m x y e).0

  pub acting_there : (d b : ℕ) → b < t.threads → acts t s b d ≡ true → Acting t valid bits s q d (own_record t b d) b
  acting_there d b h e = acting_index t valid bits s q d (own_record t b d) b (record { real = h; acting = e; record_there = refl })

  -- the thread that acts for a member of a queue
  pub record Actor (d m : ℕ) : Type 0 where
    pub thread : ℕ
    pub index : ℕ
    pub within : index < moves.acts (height t thread) (g.stage thread)
    pub place_there : ancestor t thread index ≡ d
    pub mine : record_at t thread index ≡ m
    pub real : thread < t.threads
    pub acting : acts t s thread d ≡ true
    pub own : own_record t thread d ≡ m

  pub actor : (d m : ℕ) → 1 ≤ count m (g.queue d) → Actor d m
  actor d m c =
      let a = inv.acted d m c in
      let f : ActsFor t s d m a.thread = rw (a.place, a.mine) at (index_acting t valid bits s q a.thread a.index a.acting) in
      record { thread = a.thread; index = a.index; within = a.acting; place_there = a.place; mine = a.mine; real = f.real; acting = f.acting; own = f.record_there }

  pub queued_there : (d b : ℕ) (a : Acting t valid bits s q d (own_record t b d) b) → 1 ≤ count (own_record t b d) (g.queue d)
  queued_there d b a = rw (a.mine, a.there) at (in_queue t valid bits s q b a.index a.within)

  -- a thread that acts for a record whose next is r acts for the record just before r
  pub stands_before : (d r b : ℕ) → is_ticket t d ≡ false → b < t.threads → acts t s b d ≡ true → next s (own_record t b d) ≡ suc r → after (g.queue d) (own_record t b d) ≡ suc r
  unfolding words_in
  stands_before d r b nt h e n =
      let a = acting_there d b h e in
      sym ((q.represents.linked d nt).chain (own_record t b d) (queued_there d b a) (λ z. omega arith)) ∙ n
