-- When the words of a state represent queues, stages and counts; and which changes leave a thread's part of this intact.
use mathlib.Core.Path.{◌≡◌, refl, sym, ap, ◌∙◌}
use mathlib.Core.Bool.{Bool, true, false, cond}
use mathlib.Core.List.{List, [], ◌∷◌}
use mathlib.Core.Logic.{◌≢◌}
use Prim.Native.Nat.{ℕ, suc, ◌+◌, ◌≤◌, ◌<◌}
use native.Mathlib.Omega.{arith}
use lib.Dec.{eqb}
use borrow.Author.Tests.{eq-eqb, ne_eqb, eqb-true}
use Rattle.model.specs.declared.Place.{Place}
use Rattle.model.specs.declared.Place.TheVariants.{Idle, Prep, Swap, Link, Wait, Inside, Check, Help, Cas, Linger, Grant, Draw, Watch, Raise}
use Rattle.model.specs.Trees.{Tree, is_ticket}
use Rattle.model.specs.States.{acquire_parent, wait_word, unlocked, locked, root_word, wrap}
use Rattle.model.specs.Steps.{release_word}
use Rattle.model.proofs.Trees.Index.{ancestor, height, record_at}
use Rattle.model.proofs.Lists.{count}
use Rattle.claims.proofs.Queues.Moves.{Stage, out, climb, queued, ready, inside, holding, releasing, low, State}
use Rattle.claims.proofs.Queues.Invariant.{Inv}
use Rattle.claims.proofs.Words.Links.{final, after}
use Rattle.claims.proofs.Words.View.{Words}

-- the status of a member that stands ungranted in a domain
abbrev pub waiting_word : (domain : ℕ) → ℕ
waiting_word l = root_word l locked wait_word

-- an MCS queue in words: the tail is the last member; a next that is not none names the member after it
pub record Linked (w : Words) (q : List ℕ) (d : ℕ) : Type 0 where
  pub last : w.tails d ≡ final q
  pub chain : (a : ℕ) → 1 ≤ count a q → w.nexts a ≢ 0 → w.nexts a ≡ after q a

-- a ticket lock in words: the members hold consecutive tickets from the grant on, and the ticket counter is one after the last
unfoldable pub Tickets : (statuses : ℕ → ℕ) → (from end : ℕ) → List ℕ → Type 0
Tickets f v b [] = b ≡ v
Tickets f v b (m ∷ ms) = (f m ≡ v) × Tickets f (wrap (v + 1)) b ms

pub record Numbered (w : Words) (q : List ℕ) : Type 0 where
  pub small : w.grant < 65536
  pub held : Tickets w.statuses w.grant w.ticket q

-- below an index, the statuses of a thread's records are their counts
abbrev pub Counted : Tree → Words → State → (thread index : ℕ) → Type 0
Counted t w g i n = (m : ℕ) → m < n → m < height t i → w.statuses (record_at t i m) ≡ g.tally (record_at t i m)

-- the stage of a thread that lets go of the domain at an index, after those above: holding at the root, releasing below it
unfoldable pub letting_go : (height index : ℕ) → Stage
letting_go h k = cond (eqb k h) holding (releasing k)

pub letting_go_root : (h k : ℕ) → k ≡ h → letting_go h k ≡ holding
unfolding letting_go
letting_go_root h k e = let z = eq-eqb k h e in rw z

pub letting_go_lower : (h k : ℕ) → k < h → letting_go h k ≡ releasing k
unfolding letting_go
letting_go_lower h k e = let z = ne_eqb k h (omega arith) in rw z

pub letting_go_low : (h k : ℕ) → low h (letting_go h k) ≡ suc k
unfolding low letting_go
letting_go_low h k = by (eqb k h) refl
  where
    by : (b : Bool) → eqb k h ≡ b → low h (cond b holding (releasing k)) ≡ suc k
    by true e = ap suc (sym (eqb-true k h e))
    by false e = refl

-- what a thread's place implies about the queues and the words, given its stage. In Link the record before has no next yet; in Wait its next is the thread's own record
pub data Fits (t : Tree) (w : Words) (g : State) (i : ℕ) : Place → Stage → Type 0 where
  at_idle : Fits t w g i Idle out
  at_prep : (k : ℕ) → k ≤ height t i → Counted t w g i k → Fits t w g i (Prep (ancestor t i k)) (climb k)
  at_swap :
      (k : ℕ) → k ≤ height t i → Counted t w g i k → w.nexts (record_at t i k) ≡ 0 → w.statuses (record_at t i k) ≡ waiting_word (ancestor t i k) →
      Fits t w g i (Swap (ancestor t i k)) (climb k)
  at_link :
      (k p : ℕ) → k ≤ height t i → Counted t w g i k → is_ticket t (ancestor t i k) ≡ false → after (g.queue (ancestor t i k)) p ≡ suc (record_at t i k) →
      w.nexts p ≡ 0 → w.statuses (record_at t i k) ≡ waiting_word (ancestor t i k) → Fits t w g i (Link (ancestor t i k) p) (queued k)
  at_wait :
      (k p : ℕ) → k ≤ height t i → Counted t w g i k → is_ticket t (ancestor t i k) ≡ false → after (g.queue (ancestor t i k)) p ≡ suc (record_at t i k) →
      w.nexts p ≡ suc (record_at t i k) → w.statuses (record_at t i k) ≡ waiting_word (ancestor t i k) → Fits t w g i (Wait (ancestor t i k)) (queued k)
  -- granted the domain only, so the parent is next
  at_woken :
      (k : ℕ) → k < height t i → Counted t w g i k → w.statuses (record_at t i k) ≡ acquire_parent → g.tally (record_at t i k) ≡ 1 →
      Fits t w g i (Wait (ancestor t i k)) (climb (suc k))
  -- granted the lock: with a count that was passed on, so at least 2, or at the root with UNLOCKED
  at_ready :
      (k : ℕ) → k ≤ height t i → Counted t w g i (height t i) → (k ≡ height t i → w.statuses (record_at t i k) ≡ unlocked) →
      (k < height t i → 2 ≤ g.tally (record_at t i k)) → Fits t w g i (Wait (ancestor t i k)) ready
  at_inside : Counted t w g i (height t i) → Fits t w g i Inside inside
  at_check : (k : ℕ) → k < height t i → Counted t w g i (height t i) → Fits t w g i (Check (ancestor t i k)) holding
  -- about to pass the lock on, with a count one higher
  at_pass :
      (k r v : ℕ) → k < height t i → Counted t w g i (height t i) → w.nexts (record_at t i k) ≡ suc r → v ≡ suc (g.tally (record_at t i k)) →
      v ≤ t.threshold (ancestor t i k) → Fits t w g i (Grant (ancestor t i k) r v) holding
  at_help : (k : ℕ) → k ≤ height t i → Counted t w g i (suc k) → Fits t w g i (Help (ancestor t i k)) (letting_go (height t i) k)
  at_cas : (k : ℕ) → k ≤ height t i → Counted t w g i (suc k) → Fits t w g i (Cas (ancestor t i k)) (letting_go (height t i) k)
  -- the thread's own record is not the last there
  at_linger :
      (k : ℕ) → k ≤ height t i → Counted t w g i (suc k) → w.tails (ancestor t i k) ≢ suc (record_at t i k) →
      Fits t w g i (Linger (ancestor t i k)) (letting_go (height t i) k)
  at_grant :
      (k r : ℕ) → k ≤ height t i → Counted t w g i (suc k) → w.nexts (record_at t i k) ≡ suc r →
      Fits t w g i (Grant (ancestor t i k) r (release_word (ancestor t i k))) (letting_go (height t i) k)
  -- at a ticket root: about to draw, watching, shown its ticket, about to raise
  at_draw : (k : ℕ) → k ≡ height t i → t.ticket_root ≡ true → Counted t w g i k → Fits t w g i Draw (climb k)
  at_watch : (k : ℕ) → k ≡ height t i → t.ticket_root ≡ true → Counted t w g i k → Fits t w g i Watch (queued k)
  at_shown : t.ticket_root ≡ true → Counted t w g i (height t i) → Fits t w g i Watch ready
  at_raise : t.ticket_root ≡ true → Counted t w g i (height t i) → Fits t w g i Raise holding

pub record Represents (t : Tree) (w : Words) (g : State) : Type 0 where
  pub invariant : Inv t g
  pub linked : (d : ℕ) → is_ticket t d ≡ false → Linked w (g.queue d) d
  pub numbered : t.ticket_root ≡ true → Numbered w (g.queue 0)
  pub fits : (i : ℕ) → i < t.threads → Fits t w g i (w.places i) (g.stage i)

-- CHANGES THAT DO NOT AFFECT A THREAD
pub record Apart (t : Tree) (w : Words) (g : State) (w' : Words) (g' : State) (j : ℕ) : Type 0 where
  pub same_place : w'.places j ≡ w.places j
  pub same_stage : g'.stage j ≡ g.stage j
  pub same_status : (k : ℕ) → k ≤ low (height t j) (g.stage j) → w'.statuses (record_at t j k) ≡ w.statuses (record_at t j k)
  pub same_tally : (k : ℕ) → k < low (height t j) (g.stage j) → g'.tally (record_at t j k) ≡ g.tally (record_at t j k)
  pub next_set : (k r : ℕ) → k < low (height t j) (g.stage j) → w.nexts (record_at t j k) ≡ suc r → w'.nexts (record_at t j k) ≡ suc r
  pub next_none : (k : ℕ) → g.stage j ≡ climb k → w.nexts (record_at t j k) ≡ 0 → w'.nexts (record_at t j k) ≡ 0
  pub same_link :
      (k p : ℕ) → g.stage j ≡ queued k → is_ticket t (ancestor t j k) ≡ false → after (g.queue (ancestor t j k)) p ≡ suc (record_at t j k) →
      (after (g'.queue (ancestor t j k)) p ≡ suc (record_at t j k)) × (w'.nexts p ≡ w.nexts p)
  pub not_last :
      (k : ℕ) → k < low (height t j) (g.stage j) → w.tails (ancestor t j k) ≢ suc (record_at t j k) → w'.tails (ancestor t j k) ≢ suc (record_at t j k)

module _ {t : Tree} {w : Words} {g : State} {w' : Words} {g' : State} {j : ℕ} (a : Apart t w g w' g' j) where
  counted_kept : (n : ℕ) → n ≤ low (height t j) (g.stage j) → Counted t w g j n → Counted t w' g' j n
  counted_kept n b c m h l = a.same_status m (omega arith) ∙ c m h l ∙ sym (a.same_tally m (omega arith))

  stage_low : (x : Stage) → g.stage j ≡ x → low (height t j) (g.stage j) ≡ low (height t j) x
  stage_low x e = ap (low (height t j)) e

  fits_kept : {p : Place} {x : Stage} → g.stage j ≡ x → Fits t w g j p x → Fits t w' g' j p x
  unfolding low
  fits_kept e at_idle = at_idle
  fits_kept e (at_prep k l c) = at_prep k l (counted_kept k (omega (arith, stage_low (climb k) e)) c)
  fits_kept e (at_swap k l c n s) =
      let z = stage_low (climb k) e in
      at_swap k l (counted_kept k (omega arith) c) (a.next_none k e n) (a.same_status k (omega arith) ∙ s)
  fits_kept e (at_link k p l c q f n s) =
      let z = stage_low (queued k) e in
      let both = a.same_link k p e q f in
      at_link k p l (counted_kept k (omega arith) c) q both.0 (both.1 ∙ n) (a.same_status k (omega arith) ∙ s)
  fits_kept e (at_wait k p l c q f n s) =
      let z = stage_low (queued k) e in
      let both = a.same_link k p e q f in
      at_wait k p l (counted_kept k (omega arith) c) q both.0 (both.1 ∙ n) (a.same_status k (omega arith) ∙ s)
  fits_kept e (at_woken k l c s v) =
      let z = stage_low (climb (suc k)) e in
      at_woken k l (counted_kept k (omega arith) c) (a.same_status k (omega arith) ∙ s) (a.same_tally k (omega arith) ∙ v)
  fits_kept e (at_ready k l c s p) =
      let z = stage_low ready e in
      at_ready k l (counted_kept (height t j) (omega arith) c) (λ q. a.same_status k (omega arith) ∙ s q)
      (λ q. let same = a.same_tally k (omega arith) in omega (arith, p q, same))
  fits_kept e (at_inside c) = let z = stage_low inside e in at_inside (counted_kept (height t j) (omega arith) c)
  fits_kept e (at_check k l c) = let z = stage_low holding e in at_check k l (counted_kept (height t j) (omega arith) c)
  fits_kept e (at_pass k r v l c n q b) =
      let z = stage_low holding e in
      at_pass k r v l (counted_kept (height t j) (omega arith) c) (a.next_set k r (omega arith) n) (q ∙ ap suc (sym (a.same_tally k (omega arith)))) b
  fits_kept e (at_help k l c) =
      let z = stage_low (letting_go (height t j) k) e in at_help k l (counted_kept (suc k) (omega (arith, letting_go_low (height t j) k)) c)
  fits_kept e (at_cas k l c) =
      let z = stage_low (letting_go (height t j) k) e in at_cas k l (counted_kept (suc k) (omega (arith, letting_go_low (height t j) k)) c)
  fits_kept e (at_linger k l c n) =
      let z = stage_low (letting_go (height t j) k) e in
      let y = letting_go_low (height t j) k in
      at_linger k l (counted_kept (suc k) (omega arith) c) (a.not_last k (omega arith) n)
  fits_kept e (at_grant k r l c n) =
      let z = stage_low (letting_go (height t j) k) e in
      let y = letting_go_low (height t j) k in
      at_grant k r l (counted_kept (suc k) (omega arith) c) (a.next_set k r (omega arith) n)
  fits_kept e (at_draw k l r c) = let z = stage_low (climb k) e in at_draw k l r (counted_kept k (omega arith) c)
  fits_kept e (at_watch k l r c) = let z = stage_low (queued k) e in at_watch k l r (counted_kept k (omega arith) c)
  fits_kept e (at_shown r c) = let z = stage_low ready e in at_shown r (counted_kept (height t j) (omega arith) c)
  fits_kept e (at_raise r c) = let z = stage_low holding e in at_raise r (counted_kept (height t j) (omega arith) c)

  pub left_alone : Fits t w g j (w.places j) (g.stage j) → Fits t w' g' j (w'.places j) (g'.stage j)
  left_alone f = rw (a.same_place, a.same_stage) (fits_kept refl f)
