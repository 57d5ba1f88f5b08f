-- What a thread's place implies about its stage and the words, place by place; and its place, given its stage.
use mathlib.Core.Path.{◌≡◌, refl, ap}
use mathlib.Core.Bool.{true, false}
use mathlib.Core.Logic.{◌⊎◌, inl, inr}
use Prim.Native.Nat.{ℕ, suc, ◌≤◌, ◌<◌}
use native.Mathlib.Omega.{arith}
use Rattle.model.specs.declared.Place.{Place}
use Rattle.model.specs.declared.Place.TheVariants.{Idle, Prep, Swap, Link, Wait, Inside, Check, Help, Cas, Linger, Grant, Draw, Watch, Raise, Invalid}
use Rattle.model.specs.Trees.{Tree, is_ticket}
use Rattle.model.specs.States.{acquire_parent}
use Rattle.model.specs.Steps.{release_word}
use Rattle.model.proofs.Trees.Index.{ancestor, height, record_at}
use Rattle.model.proofs.Tests.{by_test}
use Rattle.claims.proofs.Queues.Moves.{Stage, out, climb, queued, ready, inside, holding, State, releasing}
use Rattle.claims.proofs.Words.Links.{after}
use Rattle.claims.proofs.Words.View.{Words}
use Rattle.claims.proofs.Words.Represents.{waiting_word, Counted, letting_go, Fits, at_idle, at_prep, at_swap, at_link, at_wait, at_woken, at_ready, at_inside, at_check, at_pass, at_help, at_cas, at_linger, at_grant, at_draw, at_watch, at_shown, at_raise}
use lib.Dec.{eqb}

-- in Wait: ungranted, granted only the domain, or granted the lock
pub data Waiting (t : Tree) (w : Words) (g : State) (i k : ℕ) (x : Stage) : Type 0 where
  stands : x ≡ queued k → w.statuses (record_at t i k) ≡ waiting_word (ancestor t i k) → Waiting t w g i k x
  woken : k < height t i → x ≡ climb (suc k) → w.statuses (record_at t i k) ≡ acquire_parent → Waiting t w g i k x
  granted :
      x ≡ ready → (k ≡ height t i → w.statuses (record_at t i k) ≡ 0) →
      (k < height t i → (w.statuses (record_at t i k) ≡ g.tally (record_at t i k)) × (2 ≤ g.tally (record_at t i k))) → Waiting t w g i k x

-- in Grant: a pass, or a release
pub data Granting (t : Tree) (g : State) (i k v : ℕ) (x : Stage) : Type 0 where
  pass : k < height t i → x ≡ holding → (v ≡ suc (g.tally (record_at t i k))) × (v ≤ t.threshold (ancestor t i k)) → Granting t g i k v x
  release : x ≡ letting_go (height t i) k → v ≡ release_word (ancestor t i k) → Granting t g i k v x

-- a domain by its index on the thread's path
abbrev pub At : Tree → (thread domain index : ℕ) → Type 0
At t i l k = (l ≡ ancestor t i k) × (k ≤ height t i)

unfoldable pub Says : Tree → Words → State → (thread : ℕ) → Place → Stage → Type 0
Says t w g i Idle x = x ≡ out
Says t w g i (Prep l) x = (k : ℕ) × At t i l k × (x ≡ climb k)
Says t w g i (Swap l) x = (k : ℕ) × At t i l k × (x ≡ climb k)
Says t w g i (Link l p) x = (k : ℕ) × At t i l k × (x ≡ queued k) × (after (g.queue (ancestor t i k)) p ≡ suc (record_at t i k)) × (w.nexts p ≡ 0)
Says t w g i (Wait l) x = (k : ℕ) × At t i l k × Waiting t w g i k x
Says t w g i Inside x = x ≡ inside
Says t w g i (Check l) x = (k : ℕ) × At t i l k × (k < height t i) × (x ≡ holding) × Counted t w g i (height t i)
Says t w g i (Help l) x = (k : ℕ) × At t i l k × (x ≡ letting_go (height t i) k)
Says t w g i (Cas l) x = (k : ℕ) × At t i l k × (x ≡ letting_go (height t i) k)
Says t w g i (Linger l) x = (k : ℕ) × At t i l k × (x ≡ letting_go (height t i) k)
Says t w g i (Grant l r v) x = (k : ℕ) × At t i l k × Granting t g i k v x × (w.nexts (record_at t i k) ≡ suc r)
Says t w g i Draw x = (x ≡ climb (height t i)) × (t.ticket_root ≡ true)
Says t w g i Watch x = ((x ≡ queued (height t i)) ⊎ (x ≡ ready)) × (t.ticket_root ≡ true)
Says t w g i Raise x = x ≡ holding
Says t w g i Invalid x = ⊥

fits_says : {t : Tree} {w : Words} {g : State} {i : ℕ} {p : Place} {x : Stage} → Fits t w g i p x → Says t w g i p x
unfolding Says
fits_says at_idle = refl
fits_says (at_prep k l c) = (k, (refl, l), refl)
fits_says (at_swap k l c n v) = (k, (refl, l), refl)
fits_says (at_link k p l c d a n v) = (k, (refl, l), refl, a, n)
fits_says (at_wait k p l c d a n v) = (k, (refl, l), stands refl v)
fits_says (at_woken k b c v z) = (k, (refl, omega arith), woken b refl v)
fits_says (at_ready k l c v p) = (k, (refl, l), granted refl v (λ b. (c k b b, p b)))
fits_says (at_inside c) = refl
fits_says (at_check k b c) = (k, (refl, omega arith), b, refl, c)
fits_says (at_pass k r v b c n z f) = (k, (refl, omega arith), pass b refl (z, f), n)
fits_says (at_help k l c) = (k, (refl, l), refl)
fits_says (at_cas k l c) = (k, (refl, l), refl)
fits_says (at_linger k l c n) = (k, (refl, l), refl)
fits_says (at_grant k r l c n) = (k, (refl, l), release refl refl, n)
fits_says (at_draw k l r c) = (ap climb l, r)
fits_says (at_watch k l r c) = (inl (ap queued l), r)
fits_says (at_shown r c) = (inr refl, r)
fits_says (at_raise r c) = refl

-- at a known place
pub says_at : {t : Tree} {w : Words} {g : State} {i : ℕ} {p q : Place} {x : Stage} → p ≡ q → Fits t w g i p x → Says t w g i q x
says_at {t} {w} {g} {i} {x = x} e f = rw e at (let y : Says t w g i _ x = fits_says f in y)

-- WHAT A STAGE IMPLIES about its thread's place
-- a thread that stands ungranted is in Link or Wait, or in Watch at a ticket root
pub data Ungranted (t : Tree) (w : Words) (g : State) (s n : ℕ) (p : Place) : Type 0 where
  linking :
      (q : ℕ) → p ≡ Link (ancestor t s n) q → is_ticket t (ancestor t s n) ≡ false → after (g.queue (ancestor t s n)) q ≡ suc (record_at t s n) → w.nexts q ≡ 0 →
      Ungranted t w g s n p
  waiting :
      (q : ℕ) → p ≡ Wait (ancestor t s n) → Counted t w g s n → after (g.queue (ancestor t s n)) q ≡ suc (record_at t s n) → w.nexts q ≡ suc (record_at t s n) →
      Ungranted t w g s n p
  watching : p ≡ Watch → n ≡ height t s → t.ticket_root ≡ true → Counted t w g s n → Ungranted t w g s n p

-- the place of a thread that is ready: Wait with a status that sends Inside, or Watch
pub data ReadyPlace (t : Tree) (w : Words) (g : State) (i : ℕ) (p : Place) : Type 0 where
  in_wait :
      (k : ℕ) → k ≤ height t i → p ≡ Wait (ancestor t i k) → (k ≡ height t i → w.statuses (record_at t i k) ≡ 0) →
      (k < height t i → w.statuses (record_at t i k) ≡ g.tally (record_at t i k)) → ReadyPlace t w g i p
  in_watch : p ≡ Watch → t.ticket_root ≡ true → ReadyPlace t w g i p

-- a thread that is acquiring acquires the domain at an index, or was granted only the one below
pub data ClimbsAt (t : Tree) (w : Words) (i j : ℕ) (p : Place) : Type 0 where
  preparing : j ≤ height t i → p ≡ Prep (ancestor t i j) → ClimbsAt t w i j p
  swapping : j ≤ height t i → p ≡ Swap (ancestor t i j) → ClimbsAt t w i j p
  going_on : (k : ℕ) → j ≡ suc k → k < height t i → p ≡ Wait (ancestor t i k) → ClimbsAt t w i j p
  drawing : j ≡ height t i → t.ticket_root ≡ true → p ≡ Draw → ClimbsAt t w i j p

-- a thread that lets go of the domain at an index
pub data LetsGo (t : Tree) (i k : ℕ) (p : Place) : Type 0 where
  helping : p ≡ Help (ancestor t i k) → LetsGo t i k p
  comparing : p ≡ Cas (ancestor t i k) → LetsGo t i k p
  lingering : p ≡ Linger (ancestor t i k) → LetsGo t i k p
  granting : (r : ℕ) → p ≡ Grant (ancestor t i k) r (release_word (ancestor t i k)) → LetsGo t i k p

unfoldable pub Staged : Tree → Words → State → (thread : ℕ) → Place → Stage → Type 0
Staged t w g i p out = p ≡ Idle
Staged t w g i p (climb j) = ClimbsAt t w i j p
Staged t w g i p (queued n) = Ungranted t w g i n p
Staged t w g i p ready = ReadyPlace t w g i p
Staged t w g i p inside = p ≡ Inside
Staged t w g i p holding = Unit {0}
Staged t w g i p (releasing j) = LetsGo t i j p

last_staged : (t : Tree) (w : Words) (g : State) (i : ℕ) (p : Place) (k : ℕ) → LetsGo t i k p → Staged t w g i p (letting_go (height t i) k)
unfolding Staged letting_go
last_staged t w g i p k x = by_test (λ y. Staged t w g i p y) (eqb k (height t i)) holding (releasing k) (λ _. tt) (λ _. x)

fits_staged : {t : Tree} {w : Words} {g : State} {i : ℕ} {p : Place} {x : Stage} → Fits t w g i p x → Staged t w g i p x
unfolding Staged
fits_staged at_idle = refl
fits_staged (at_prep k l c) = preparing l refl
fits_staged (at_swap k l c n v) = swapping l refl
fits_staged (at_link k p l c d a n v) = linking p refl d a n
fits_staged (at_wait k p l c d a n v) = waiting p refl c a n
fits_staged (at_woken k b c v z) = going_on k refl b refl
fits_staged (at_ready k l c v p) = in_wait k l refl v (λ b. c k b b)
fits_staged (at_inside c) = refl
fits_staged (at_check k b c) = tt
fits_staged (at_pass k r v b c n z f) = tt
fits_staged {t} {w} {g} {i} (at_help k l c) = last_staged t w g i _ k (helping refl)
fits_staged {t} {w} {g} {i} (at_cas k l c) = last_staged t w g i _ k (comparing refl)
fits_staged {t} {w} {g} {i} (at_linger k l c n) = last_staged t w g i _ k (lingering refl)
fits_staged {t} {w} {g} {i} (at_grant k r l c n) = last_staged t w g i _ k (granting r refl)
fits_staged (at_draw k l r c) = drawing l r refl
fits_staged (at_watch k l r c) = watching refl l r c
fits_staged (at_shown r c) = in_watch refl r
fits_staged (at_raise r c) = tt

pub staged_at : {t : Tree} {w : Words} {g : State} {i : ℕ} {p : Place} {x y : Stage} → x ≡ y → Fits t w g i p x → Staged t w g i p y
staged_at {t} {w} {g} {i} {p} {x} e f = rw e at (let z : Staged t w g i p x = fits_staged f in z)

pub ungranted : {t : Tree} {w : Words} {g : State} {i : ℕ} (n : ℕ) {p : Place} {x : Stage} → x ≡ queued n → Fits t w g i p x → Ungranted t w g i n p
unfolding Staged
ungranted n e f = staged_at e f

pub ready_place : {t : Tree} {w : Words} {g : State} {i : ℕ} {p : Place} {x : Stage} → x ≡ ready → Fits t w g i p x → ReadyPlace t w g i p
unfolding Staged
ready_place e f = staged_at e f
