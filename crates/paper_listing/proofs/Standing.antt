-- Where a thread is, by its calls and by the index on its path: each determines the other.
use mathlib.Core.Path.{◌≡◌, refl, sym, ap, ◌∙◌}
use mathlib.Core.Bool.{true, not, false≢true}
use mathlib.Core.List.{List, ◌∷◌}
use mathlib.Core.Logic.{◌≢◌}
use Prim.Native.Nat.{ℕ, zero, suc, ◌+◌, ◌≤◌, ◌<◌}
use native.Mathlib.Omega.{arith}
use lib.Dec.{eqb}
use borrow.Author.Tests.{eqb-false, not-true}
use Rattle.model.specs.declared.Place.{Place}
use Rattle.model.specs.declared.Place.TheVariants.{Idle, Prep, Swap, Link, Wait, Inside, Check, Help, Cas, Linger, Grant, Draw, Watch, Raise, Invalid}
use Rattle.model.specs.Trees.{Tree, on_path}
use Rattle.model.specs.WellFormed.{queue_on_path, good_place}
use Rattle.model.proofs.Tests.{and_both}
use Rattle.model.proofs.Trees.Index.{ancestor, height, record_at}
use Rattle.model.proofs.Trees.Accepted.{Accepted}
use Rattle.model.proofs.Trees.Tickets.{queue_facts}
use Rattle.model.proofs.Trees.Paths.{ancestor_home, ancestor_inner, ancestor_root, ancestor_not_root, ancestor_parent_of, path_index}
use Rattle.paper_listing.specs.Calls.{Return, after_17, after_29, after_41, Frame, frame, Control}
use Rattle.paper_listing.specs.Listing.{top_node}
use Rattle.paper_listing.specs.Agreement.{Acquiring, acquire_home, by_17, Releasing, release_home, by_29, by_41, Helping, by_31, by_43, by_82, StandsAt, at_idle, at_prep, at_swap, at_link, at_wait, at_inside, at_check, at_37, at_help, at_cas, at_linger, at_55, at_59, at_draw, at_watch, at_raise}
use Rattle.paper_listing.proofs.Stacks.{acquire_back, acquire_callers, acquire_stack, ReleaseStack, at_home, top_node_at, HelperBack, of_31, of_43, of_82, helper_stack, Corresponds, c_idle, c_prep, c_swap, c_link, c_wait, c_inside, c_check, c_pass, c_help, c_cas, c_linger, c_55, c_59, c_draw, c_watch, c_raise}
use Rattle.paper_listing.proofs.Stacks as stacks

-- an index on the thread's path, with the calls made there
pub record Acquires (t : Tree) (i L : ℕ) (fs : List Frame) : Type 0 where
  pub index : ℕ
  pub within : index ≤ height t i
  pub there : ancestor t i index ≡ L
  pub calls : acquire_stack t i index ≡ fs

pub record Releases (t : Tree) (i L : ℕ) (fs : List Frame) : Type 0 where
  pub index : ℕ
  pub within : index ≤ height t i
  pub there : ancestor t i index ≡ L
  pub stack : ReleaseStack t i index fs

pub record Helps (t : Tree) (i L : ℕ) (fs : List Frame) : Type 0 where
  pub index : ℕ
  pub within : index ≤ height t i
  pub there : ancestor t i index ≡ L
  pub back : Return
  pub helps : HelperBack back
  pub callers : List Frame
  pub stack : ReleaseStack t i index callers
  pub calls : helper_stack t i index back callers ≡ fs

module _ (t : Tree) (valid : Accepted t) (i : ℕ) (h : i < t.threads) where
  higher_calls : (k : ℕ) → k < height t i → acquire_stack t i (suc k) ≡ frame (t.parent (ancestor t i k)) (256 + ancestor t i k) after_17 ∷ acquire_stack t i k
  unfolding record_at acquire_back acquire_callers
  higher_calls k b = rw (ancestor_parent_of t valid i h k b)

  -- FROM CALLS TO THE INDEX
  pub acquires : {L : ℕ} {fs : List Frame} → Acquiring t i L fs → Acquires t i L fs
  unfolding ancestor record_at acquire_back acquire_callers
  acquires acquire_home = record { index = 0; within = omega arith; there = refl; calls = refl }
  acquires (by_17 L fs n a) =
      let x = acquires a in
      let b = ancestor_not_root t valid i h x.index x.within (omega (arith, n, x.there)) in
      record {
        index = suc x.index;
        within = b;
        there = sym (ancestor_parent_of t valid i h x.index b) ∙ ap t.parent x.there;
        calls = higher_calls x.index b ∙ rw (x.calls, x.there);
      }

  higher : (a : Return) (k L : ℕ) (fs : List Frame) → k < height t i → ancestor t i k ≡ L →
      ReleaseStack t i (suc k) (frame (ancestor t i (suc k)) (record_at t i (suc k)) a ∷ fs) → Releases t i (t.parent L) (frame (t.parent L) (256 + L) a ∷ fs)
  unfolding record_at
  higher a k L fs b e x =
      let up : ancestor t i (suc k) ≡ t.parent L = sym (ancestor_parent_of t valid i h k b) ∙ ap t.parent e in
      record { index = suc k; within = b; there = up; stack = rw (up, e) at x }

  pub releases : {L : ℕ} {fs : List Frame} → Releasing t i L fs → Releases t i L fs
  unfolding ancestor record_at
  releases release_home = record { index = 0; within = omega arith; there = refl; stack = at_home }
  releases (by_29 L fs n a) =
      let x = releases a in
      let b = ancestor_not_root t valid i h x.index x.within (omega (arith, n, x.there)) in
      higher after_29 x.index L fs b x.there (stacks.by_29 x.index fs x.stack)
  releases (by_41 L fs n a) =
      let x = releases a in
      let b = ancestor_not_root t valid i h x.index x.within (omega (arith, n, x.there)) in
      higher after_41 x.index L fs b x.there (stacks.by_41 x.index fs x.stack)

  helper : (b : Return) (L : ℕ) (fs : List Frame) → HelperBack b → Releases t i L fs → Helps t i L (frame L (top_node fs) b ∷ fs)
  helper b L fs y x =
      record {
        index = x.index;
        within = x.within;
        there = x.there;
        back = b;
        helps = y;
        callers = fs;
        stack = x.stack;
        calls = rw (x.there, top_node_at x.stack);
      }

  pub helps : {L : ℕ} {fs : List Frame} → Helping t i L fs → Helps t i L fs
  helps (by_31 L fs a) = helper _ L fs of_31 (releases a)
  helps (by_43 L fs a) = helper _ L fs of_43 (releases a)
  helps (by_82 L fs a) = helper _ L fs of_82 (releases a)

  -- FROM THE INDEX TO THE CALLS
  inner : (k : ℕ) → k < height t i → ancestor t i k ≢ 0
  inner k b e = absurd (omega (arith, ancestor_inner t valid i h k b, e))

  pub acquiring : (k : ℕ) → k ≤ height t i → Acquiring t i (ancestor t i k) (acquire_stack t i k)
  unfolding ancestor record_at acquire_back acquire_callers
  acquiring zero l = acquire_home
  acquiring (suc k) l =
      rw (ancestor_parent_of t valid i h k l) at (by_17 (ancestor t i k) (acquire_stack t i k) (inner k l) (acquiring k (omega arith)))

  pub releasing : {k : ℕ} {fs : List Frame} → k ≤ height t i → ReleaseStack t i k fs → Releasing t i (ancestor t i k) fs
  unfolding record_at
  releasing l at_home = rw (ancestor_home t i) release_home
  releasing l (stacks.by_29 k fs x) = rw (ancestor_parent_of t valid i h k l) at (by_29 (ancestor t i k) fs (inner k l) (releasing (omega arith) x))
  releasing l (stacks.by_41 k fs x) = rw (ancestor_parent_of t valid i h k l) at (by_41 (ancestor t i k) fs (inner k l) (releasing (omega arith) x))

  pub helping : {b : Return} (k : ℕ) (fs : List Frame) → k ≤ height t i → ReleaseStack t i k fs → HelperBack b → Helping t i (ancestor t i k) (helper_stack t i k b fs)
  helping k fs l x of_31 = rw (top_node_at x) at (by_31 (ancestor t i k) fs (releasing l x))
  helping k fs l x of_43 = rw (top_node_at x) at (by_43 (ancestor t i k) fs (releasing l x))
  helping k fs l x of_82 = rw (top_node_at x) at (by_82 (ancestor t i k) fs (releasing l x))

  acquired_there : {L M : ℕ} {fs : List Frame} → L ≡ M → Acquiring t i L fs → Acquiring t i M fs
  acquired_there e a = rw (← e) a

  released_there : {L M : ℕ} {fs : List Frame} → L ≡ M → Releasing t i L fs → Releasing t i M fs
  released_there e a = rw (← e) a

  pub stands : {c : Control} {p : Place} → Corresponds t i c p → StandsAt t i c p
  stands c_idle = at_idle
  stands (c_prep k l) = at_prep _ _ (acquiring (suc k) l)
  stands (c_swap k l) = at_swap _ _ (acquiring k l)
  stands (c_link k p l) = at_link _ p _ (acquiring k l)
  stands (c_wait k l) = at_wait _ _ (acquiring k l)
  stands c_inside = at_inside
  stands (c_check k fs b x) = at_check _ fs (inner k b) (releasing (omega arith) x)
  stands (c_pass k c r fs b x) = at_37 _ c r fs (inner k b) (releasing (omega arith) x)
  stands (c_help k b fs l x y) = at_help _ _ (helping k fs l x y)
  stands (c_cas k b fs l x y) = at_cas _ _ (helping k fs l x y)
  stands (c_linger k b fs l x y) = at_linger _ _ (helping k fs l x y)
  stands (c_55 k r w b fs l x y) = at_55 _ r w _ (helping k fs l x y)
  stands (c_59 k r w b fs l x y) = at_59 _ r w _ (helping k fs l x y)
  stands (c_draw k l e) = at_draw _ (acquired_there e (acquiring (suc k) l))
  stands (c_watch k l e) = at_watch _ (acquired_there e (acquiring k l))
  stands (c_raise k fs l e x) = at_raise fs (released_there e (releasing l x))

  -- EACH DOMAIN of the path has such calls
  record Calls (A : List Frame → Type 0) : Type 0 where
    made : List Frame
    so : A made

  release_calls : (k : ℕ) → Calls (ReleaseStack t i k)
  release_calls zero = record { made = _; so = at_home }
  release_calls (suc k) = record { made = _; so = stacks.by_41 k (release_calls k).made (release_calls k).so }

  acquire_at : (L : ℕ) → queue_on_path t i L ≡ true → Calls (Acquiring t i L)
  acquire_at L e = let o = path_index t valid i h L (queue_facts t i L e).0 in record { made = acquire_stack t i o.index; so = acquired_there o.there (acquiring o.index o.within) }

  release_at : (L : ℕ) → on_path t i L ≡ true → Calls (Releasing t i L)
  release_at L e =
      let o = path_index t valid i h L e in
      let x = release_calls o.index in
      record { made = x.made; so = released_there o.there (releasing o.within x.so) }

  help_at : (L : ℕ) → queue_on_path t i L ≡ true → Calls (Helping t i L)
  help_at L e = let x = release_at L (queue_facts t i L e).0 in record { made = _; so = by_31 L x.made x.so }

  -- and so does the root
  acquire_root : Acquiring t i 0 (acquire_stack t i (height t i))
  acquire_root = acquired_there (ancestor_root t valid i h) (acquiring (height t i) (omega arith))

  release_root : Releasing t i 0 (release_calls (height t i)).made
  release_root = released_there (ancestor_root t valid i h) (releasing (omega arith) (release_calls (height t i)).so)

  -- so each good place has a control
  pub record Stood (p : Place) : Type 0 where
    pub by : Control
    pub standing : StandsAt t i by p

  pub stood : (p : Place) → good_place t i p ≡ true → Stood p
  unfolding good_place
  stood Idle e = record { by = _; standing = at_idle }
  stood (Prep l) e = record { by = _; standing = at_prep l _ (acquire_at l e).so }
  stood (Swap l) e = record { by = _; standing = at_swap l _ (acquire_at l e).so }
  stood (Link l p) e = record { by = _; standing = at_link l p _ (acquire_at l (and_both (queue_on_path t i l) _ e).0).so }
  stood (Wait l) e = record { by = _; standing = at_wait l _ (acquire_at l e).so }
  stood Inside e = record { by = _; standing = at_inside }
  stood (Check l) e =
      let both = and_both (on_path t i l) (not (eqb l 0)) e in
      record { by = _; standing = at_check l _ (eqb-false l 0 (not-true (eqb l 0) both.1)) (release_at l both.0).so }
  stood (Help l) e = record { by = _; standing = at_help l _ (help_at l e).so }
  stood (Cas l) e = record { by = _; standing = at_cas l _ (help_at l e).so }
  stood (Linger l) e = record { by = _; standing = at_linger l _ (help_at l e).so }
  stood (Grant l r w) e = record { by = _; standing = at_55 l r w _ (help_at l (and_both (queue_on_path t i l) _ e).0).so }
  stood Draw e = record { by = _; standing = at_draw _ acquire_root }
  stood Watch e = record { by = _; standing = at_watch _ acquire_root }
  stood Raise e = record { by = _; standing = at_raise _ release_root }
  stood Invalid e = absurd (false≢true e)
