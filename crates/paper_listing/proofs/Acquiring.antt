-- The lines of Acquire, entry by entry, do what the rows from Idle to Inside do.
use mathlib.Core.Path.{◌≡◌, refl, ap}
use mathlib.Core.Bool.{Bool, true, false, cond}
use mathlib.Core.List.{[]}
use mathlib.Core.Logic.{◌≢◌}
use Prim.Native.Nat.{ℕ, suc, ◌+◌, ◌-◌, ◌≤◌, ◌<◌}
use native.Mathlib.Omega.{arith}
use lib.Dec.{eqb}
use borrow.Author.Tests.{eq-eqb, ne_eqb, lt-ltb, le-ltb}
use Rattle.model.specs.declared.Place.{Place}
use Rattle.model.specs.declared.Place.TheVariants.{Prep, Swap, Link, Wait, Inside, Draw}
use Rattle.model.specs.declared.State.{State}
use Rattle.model.specs.Trees.{Tree, is_ticket, own_record}
use Rattle.model.specs.Places.{words_of, place_of}
use Rattle.model.specs.States.{acquire_parent, wait_word, locked, tail, status, place, store_numbers, HasRoom}
use Rattle.model.specs.Steps.{Kind, passed_entry, crossed_entry, RowResult, enters, acquire_place}
use Rattle.model.proofs.Branches as branches
use Rattle.model.proofs.Branches.{stood_after, Branch, prepares, swap_root, swap_inner, swap_joins, link_writes, wait_root_locked, wait_root_granted, wait_ungranted, wait_acquires, wait_passed, wait_crossed, below_root}
use Rattle.model.proofs.Trees.Index.{ancestor, height, record_at}
use Rattle.model.proofs.Trees.Accepted.{Accepted}
use Rattle.model.proofs.Trees.Tickets.{ticket_facts}
use Rattle.model.proofs.Trees.Paths.{ancestor_not_root, ancestor_parent_of}
use Rattle.model.proofs.Trees.Records.{own_record_at}
use Rattle.model.proofs.Places.{place_stored, numbers_other}
use Rattle.paper_listing.specs.Calls.{After, goes, Control, control, after_17, acquire_real, outside, critical, line_7, line_9, line_11, line_13, line_66, line_67, line_71, line_72, ticket_lock, line_90}
use Rattle.paper_listing.specs.Agreement.{entry, memory_of}
use Rattle.paper_listing.proofs.Entries.{idle_elsewhere, idle_root, prep_elsewhere, prep_root, swap_none, swap_some, swap_root_none, swap_root_some, link_elsewhere, link_root, wait_stays, wait_enters, wait_climbs, wait_root_stays, wait_root_enters}
use Rattle.paper_listing.proofs.Stacks.{acquire_back, acquire_callers, acquire_stack, acquired, at_root, Corresponds, c_prep, c_swap, c_link, c_wait, c_inside, c_draw}

-- an entry of the listing and a step of the table: the same memory, and places that correspond
pub record Together (t : Tree) (i : ℕ) (s : State) (x : RowResult) (y : After) : Type 0 where
  pub memory : y.memory ≡ memory_of x.state
  pub place_there : Place
  pub there : place x.state i ≡ place_there
  pub elsewhere : (j : ℕ) → j ≢ i → place x.state j ≡ place s j
  pub corresponds : Corresponds t i y.thread place_there

abbrev pub standing : Control → State → After
standing c s = record { thread = c; memory = memory_of s }

-- what a step does to the places: it stores thread i's, or changes none
pub data Puts (s n : State) (i : ℕ) (p : Place) : Type 0 where
  moved : n.places ≡ store_numbers s.places i (words_of p) → Puts s n i p
  stayed : n.places ≡ s.places → place s i ≡ p → Puts s n i p

puts_there : {s n : State} {i : ℕ} {p : Place} → HasRoom s.places i → Puts s n i p → place n i ≡ p
puts_there {s} {n} {i} {p} b (moved e) = rw e (place_stored i p s b)
puts_there {s} {n} {i} {p} b (stayed e q) = rw e q

puts_elsewhere : {s n : State} {i : ℕ} {p : Place} → Puts s n i p → (j : ℕ) → j ≢ i → place n j ≡ place s j
puts_elsewhere {s} {n} {i} {p} (moved e) j d = rw e (ap place_of (numbers_other s.places i j (words_of p) d))
puts_elsewhere {s} {n} {i} {p} (stayed e q) j d = rw e

module _ (t : Tree) (valid : Accepted t) (i : ℕ) (h : i < t.threads) (s : State) (room : HasRoom s.places i) where
  -- the control after a domain's lines corresponds to a place, at the root or elsewhere
  swap_control : (k : ℕ) → k ≤ height t i → Corresponds t i (control (at_root (ancestor t i k) line_67 line_9) (acquire_stack t i k)) (Swap (ancestor t i k))
  swap_control k l = c_swap k l

  link_control : (k p : ℕ) → k ≤ height t i → Corresponds t i (control (at_root (ancestor t i k) (line_71 p) (line_11 p)) (acquire_stack t i k)) (Link (ancestor t i k) p)
  link_control k p l = c_link k p l

  wait_control : (k : ℕ) → k ≤ height t i → Corresponds t i (control (at_root (ancestor t i k) line_72 line_13) (acquire_stack t i k)) (Wait (ancestor t i k))
  wait_control k l = c_wait k l

  -- the result of an entry of the listing, compared with a step whose state is known
  pub together : {x : RowResult} {y : After} (z : After) (p : Place) → y ≡ z → z.memory ≡ memory_of x.state → Puts s x.state i p → Corresponds t i z.thread p → Together t i s x y
  together z p e m q c = rw e (record { memory = m; place_there = p; there = puts_there room q; elsewhere = puts_elsewhere q; corresponds = c })

  -- the control at the call of AcquireReal for the parent
  climb_control : (k : ℕ) → k < height t i →
      Corresponds t i (acquire_real t (ancestor t i (suc k)) (256 + ancestor t i k) after_17 (acquire_stack t i k)) (acquire_place t (ancestor t i (suc k)))
  unfolding acquire_real acquire_back acquire_callers record_at
  climb_control k b = either _ refl
    where
      either :
          (c : Bool) → is_ticket t (ancestor t i (suc k)) ≡ c →
          Corresponds t i (control (cond c (ticket_lock line_90) (at_root (ancestor t i (suc k)) line_66 line_7)) (acquire_stack t i (suc k))) (cond c Draw (Prep (ancestor t i (suc k))))
      either true e = c_draw k b (ticket_facts t (ancestor t i (suc k)) e).1
      either false e = c_prep k b

  -- PREP
  pub prep_together :
      (k : ℕ) → k ≤ height t i → {x : RowResult} → Branch t i s (Prep (ancestor t i k)) x →
      Together t i s x (entry t i (standing (control (at_root (ancestor t i k) line_66 line_7) (acquire_stack t i k)) s))
  unfolding memory_of
  prep_together k l (prepares _ _ (branches.at_root z)) =
      let e = eq-eqb (ancestor t i k) 0 z in
      rw (own_record_at t valid i h k l, e)
      (together (goes line_67 (acquire_stack t i k) _) (Swap (ancestor t i k)) (prep_root t i (ancestor t i k) (record_at t i k) (acquire_back k) (acquire_callers t i k) (memory_of s)) refl
      (moved refl) (rw e at (swap_control k l)))
  prep_together k l (prepares _ _ (below_root z)) =
      let e = ne_eqb (ancestor t i k) 0 z in
      rw (own_record_at t valid i h k l, e)
      (together (goes line_9 (acquire_stack t i k) _) (Swap (ancestor t i k)) (prep_elsewhere t i (ancestor t i k) (record_at t i k) (acquire_back k) (acquire_callers t i k) (memory_of s)) refl
      (moved refl) (rw e at (swap_control k l)))

  -- IDLE, if the home has a queue
  pub idle_together : is_ticket t (t.home i) ≡ false → {x : RowResult} → Branch t i s (Prep (t.home i)) x → Together t i s x (entry t i (standing (control outside []) s))
  unfolding memory_of ancestor record_at acquire_back acquire_callers
  idle_together n (prepares _ _ (branches.at_root z)) =
      let e = eq-eqb (t.home i) 0 z in
      let own : own_record t i (t.home i) ≡ i = own_record_at t valid i h 0 (omega arith) in
      let c : Corresponds t i (control (at_root (t.home i) line_67 line_9) (acquire_stack t i 0)) (Swap (t.home i)) = swap_control 0 (omega arith) in
      rw own
      (together (goes line_67 (acquire_stack t i 0) _) (Swap (t.home i)) (idle_root t i (memory_of s) n e) refl (moved refl) (rw e at c))
  idle_together n (prepares _ _ (below_root z)) =
      let e = ne_eqb (t.home i) 0 z in
      let own : own_record t i (t.home i) ≡ i = own_record_at t valid i h 0 (omega arith) in
      let c : Corresponds t i (control (at_root (t.home i) line_67 line_9) (acquire_stack t i 0)) (Swap (t.home i)) = swap_control 0 (omega arith) in
      rw own
      (together (goes line_9 (acquire_stack t i 0) _) (Swap (t.home i)) (idle_elsewhere t i (memory_of s) n e) refl (moved refl) (rw e at c))

  -- SWAP, after another record: at the root and elsewhere
  after_together :
      (k : ℕ) → k ≤ height t i → eqb (tail s (ancestor t i k)) 0 ≡ false → (b : Bool) → eqb (ancestor t i k) 0 ≡ b →
      Together t i s (stood_after t i s (ancestor t i k)) (entry t i (standing (control (cond b line_67 line_9) (acquire_stack t i k)) s))
  unfolding memory_of
  after_together k l e true z =
      let p = tail s (ancestor t i k) - 1 in
      rw (own_record_at t valid i h k l)
      (together (goes (line_71 p) (acquire_stack t i k) _) (Link (ancestor t i k) p)
      (swap_root_some t i (ancestor t i k) (record_at t i k) (acquire_back k) (acquire_callers t i k) (memory_of s) e) refl
      (moved refl) (rw z at (link_control k p l)))
  after_together k l e false z =
      let p = tail s (ancestor t i k) - 1 in
      rw (own_record_at t valid i h k l)
      (together (goes (line_11 p) (acquire_stack t i k) _) (Link (ancestor t i k) p)
      (swap_some t i (ancestor t i k) (record_at t i k) (acquire_back k) (acquire_callers t i k) (memory_of s) e) refl
      (moved refl) (rw z at (link_control k p l)))

  pub swap_together :
      (k : ℕ) → k ≤ height t i → {x : RowResult} → Branch t i s (Swap (ancestor t i k)) x →
      Together t i s x (entry t i (standing (control (at_root (ancestor t i k) line_67 line_9) (acquire_stack t i k)) s))
  unfolding memory_of
  swap_together k l (swap_root _ z y) =
      rw (own_record_at t valid i h k l, eq-eqb (ancestor t i k) 0 z)
      (together (goes critical [] _) Inside
      (swap_root_none t i (ancestor t i k) (record_at t i k) (acquire_back k) (acquire_callers t i k) (memory_of s) (eq-eqb (tail s (ancestor t i k)) 0 y) (acquired t i k)) refl
      (moved refl) c_inside)
  swap_together k l (swap_inner _ z y) =
      let b = ancestor_not_root t valid i h k l (omega (arith, z)) in
      rw (own_record_at t valid i h k l, ne_eqb (ancestor t i k) 0 z, ancestor_parent_of t valid i h k b)
      (together (record { thread = acquire_real t (ancestor t i (suc k)) (256 + ancestor t i k) after_17 (acquire_stack t i k); memory = _ }) (acquire_place t (ancestor t i (suc k)))
      (rw (ancestor_parent_of t valid i h k b) at (swap_none t i (ancestor t i k) (record_at t i k) (acquire_back k) (acquire_callers t i k) (memory_of s) (eq-eqb (tail s (ancestor t i k)) 0 y))) refl
      (moved refl) (climb_control k b))
  swap_together k l (swap_joins _ y) = after_together k l (ne_eqb (tail s (ancestor t i k)) 0 y) _ refl

  -- LINK
  link_by :
      (k p : ℕ) → k ≤ height t i → (b : Bool) → eqb (ancestor t i k) 0 ≡ b → {x : RowResult} → Branch t i s (Link (ancestor t i k) p) x →
      Together t i s x (entry t i (standing (control (cond b (line_71 p) (line_11 p)) (acquire_stack t i k)) s))
  unfolding memory_of
  link_by k p l true z (link_writes _ _) =
      rw (own_record_at t valid i h k l)
      (together (goes line_72 (acquire_stack t i k) _) (Wait (ancestor t i k))
      (link_root t i (ancestor t i k) (record_at t i k) (acquire_back k) (acquire_callers t i k) (memory_of s) p) refl
      (moved refl) (rw z at (wait_control k l)))
  link_by k p l false z (link_writes _ _) =
      rw (own_record_at t valid i h k l)
      (together (goes line_13 (acquire_stack t i k) _) (Wait (ancestor t i k))
      (link_elsewhere t i (ancestor t i k) (record_at t i k) (acquire_back k) (acquire_callers t i k) (memory_of s) p) refl
      (moved refl) (rw z at (wait_control k l)))

  pub link_together :
      (k p : ℕ) → k ≤ height t i → {x : RowResult} → Branch t i s (Link (ancestor t i k) p) x →
      Together t i s x (entry t i (standing (control (at_root (ancestor t i k) (line_71 p) (line_11 p)) (acquire_stack t i k)) s))
  link_together k p l b = link_by k p l _ refl b

  -- WAIT below the root, granted the lock
  granted_together :
      (k : ℕ) (l : k ≤ height t i) (kind : Kind) → status s (record_at t i k) ≤ wait_word → status s (record_at t i k) ≢ wait_word → status s (record_at t i k) ≢ acquire_parent →
      Together t i s (enters kind i s) (entry t i (standing (control line_13 (acquire_stack t i k)) s))
  unfolding memory_of
  granted_together k l kind w n o =
      let v = status s (record_at t i k) in
      together (goes critical [] _) Inside
      (wait_enters t i (ancestor t i k) (record_at t i k) (acquire_back k) (acquire_callers t i k) (memory_of s) (ne_eqb v wait_word n) (lt-ltb v acquire_parent (omega (arith, n, o)))
      (acquired t i k)) refl (moved refl) c_inside

  -- WAIT
  pub wait_together :
      (k : ℕ) → k ≤ height t i → place s i ≡ Wait (ancestor t i k) → status s (record_at t i k) ≤ wait_word → {x : RowResult} → Branch t i s (Wait (ancestor t i k)) x →
      Together t i s x (entry t i (standing (control (at_root (ancestor t i k) line_72 line_13) (acquire_stack t i k)) s))
  unfolding memory_of
  wait_together k l q w (wait_root_locked _ z v) =
      let e = eq-eqb (ancestor t i k) 0 z in
      rw e
      (together (goes line_72 (acquire_stack t i k) _) (Wait (ancestor t i k))
      (wait_root_stays t i (ancestor t i k) (record_at t i k) (acquire_back k) (acquire_callers t i k) (memory_of s) (rw (own_record_at t valid i h k l) at (eq-eqb _ locked v))) refl
      (stayed refl q) (rw e at (wait_control k l)))
  wait_together k l q w (wait_root_granted _ z v) =
      rw (eq-eqb (ancestor t i k) 0 z)
      (together (goes critical [] _) Inside
      (wait_root_enters t i (ancestor t i k) (record_at t i k) (acquire_back k) (acquire_callers t i k) (memory_of s) (rw (own_record_at t valid i h k l) at (ne_eqb _ locked v)) (acquired t i k)) refl
      (moved refl) c_inside)
  wait_together k l q w (wait_ungranted _ z v) =
      let e = ne_eqb (ancestor t i k) 0 z in
      rw e
      (together (goes line_13 (acquire_stack t i k) _) (Wait (ancestor t i k))
      (wait_stays t i (ancestor t i k) (record_at t i k) (acquire_back k) (acquire_callers t i k) (memory_of s) (rw (own_record_at t valid i h k l) at (eq-eqb _ wait_word v))) refl
      (stayed refl q) (rw e at (wait_control k l)))
  wait_together k l q w (wait_acquires _ z y) =
      let b = ancestor_not_root t valid i h k l (omega (arith, z)) in
      let v = status s (record_at t i k) in
      let y' : v ≡ acquire_parent = rw (own_record_at t valid i h k l) at y in
      rw (own_record_at t valid i h k l, ne_eqb (ancestor t i k) 0 z, ancestor_parent_of t valid i h k b)
      (together (record { thread = acquire_real t (ancestor t i (suc k)) (256 + ancestor t i k) after_17 (acquire_stack t i k); memory = _ }) (acquire_place t (ancestor t i (suc k)))
      (rw (ancestor_parent_of t valid i h k b) at (wait_climbs t i (ancestor t i k) (record_at t i k) (acquire_back k) (acquire_callers t i k) (memory_of s) (ne_eqb v wait_word (λ f. omega arith)) (le-ltb v acquire_parent (omega arith)))) refl
      (moved refl) (climb_control k b))
  wait_together k l q w (wait_passed _ z n o _) =
      rw (ne_eqb (ancestor t i k) 0 z) (granted_together k l passed_entry w (rw (own_record_at t valid i h k l) at n) (rw (own_record_at t valid i h k l) at o))
  wait_together k l q w (wait_crossed _ z n o _) =
      rw (ne_eqb (ancestor t i k) 0 z) (granted_together k l crossed_entry w (rw (own_record_at t valid i h k l) at n) (rw (own_record_at t valid i h k l) at o))
