-- The calls of a thread at an index of its path, and how its control corresponds to a place of the step table.
use mathlib.Core.Path.{◌≡◌, refl}
use mathlib.Core.Bool.{cond}
use mathlib.Core.List.{List, [], ◌∷◌}
use Prim.Native.Nat.{ℕ, zero, suc, ◌+◌, ◌≤◌, ◌<◌}
use lib.Dec.{eqb}
use Rattle.model.specs.declared.Place.{Place}
use Rattle.model.specs.declared.Place.TheVariants.{Idle, Prep, Swap, Link, Wait, Inside, Check, Help, Cas, Linger, Grant, Draw, Watch, Raise}
use Rattle.model.specs.Trees.{Tree}
use Rattle.model.specs.Steps.{release_word}
use Rattle.model.proofs.Trees.Index.{ancestor, height, record_at}
use Rattle.paper_listing.specs.Calls.{Return, from_acquire, from_release, after_17, after_29, after_31, after_41, after_43, after_82, Frame, frame, Point, outside, critical, line_7, line_9, line_11, line_13, line_25, line_37, line_53, line_55, line_57, line_58, line_59, line_66, line_67, line_71, line_72, ticket_lock, line_90, line_91_again, line_92, Control, control, goes_back, returns}
use Rattle.paper_listing.specs.Listing.{top_domain, top_node}

-- CALLS OF AcquireReal, from an index down to the home
unfoldable pub acquire_back : (index : ℕ) → Return
acquire_back zero = from_acquire
acquire_back (suc k) = after_17

unfoldable pub acquire_callers : Tree → (thread index : ℕ) → List Frame
acquire_callers t i zero = []
acquire_callers t i (suc k) = frame (ancestor t i k) (record_at t i k) (acquire_back k) ∷ acquire_callers t i k

abbrev pub acquire_stack : Tree → (thread index : ℕ) → List Frame
acquire_stack t i k = frame (ancestor t i k) (record_at t i k) (acquire_back k) ∷ acquire_callers t i k

-- all of them return together
pub acquired : (t : Tree) (i k : ℕ) → returns (acquire_stack t i k) ≡ control critical []
unfolding returns goes_back acquire_back acquire_callers
acquired t i zero = refl
acquired t i (suc k) = acquired t i k

-- CALLS OF ReleaseReal: each call at a higher domain is made by line 29 or 41
pub data ReleaseStack (t : Tree) (i : ℕ) : ℕ → List Frame → Type 0 where
  at_home : ReleaseStack t i 0 (frame (ancestor t i 0) (record_at t i 0) from_release ∷ [])
  by_29 : (k : ℕ) (fs : List Frame) → ReleaseStack t i k fs → ReleaseStack t i (suc k) (frame (ancestor t i (suc k)) (record_at t i (suc k)) after_29 ∷ fs)
  by_41 : (k : ℕ) (fs : List Frame) → ReleaseStack t i k fs → ReleaseStack t i (suc k) (frame (ancestor t i (suc k)) (record_at t i (suc k)) after_41 ∷ fs)

pub top_domain_at : {t : Tree} {i k : ℕ} {fs : List Frame} → ReleaseStack t i k fs → top_domain fs ≡ ancestor t i k
unfolding top_domain
top_domain_at at_home = refl
top_domain_at (by_29 k fs x) = refl
top_domain_at (by_41 k fs x) = refl

pub top_node_at : {t : Tree} {i k : ℕ} {fs : List Frame} → ReleaseStack t i k fs → top_node fs ≡ record_at t i k
unfolding top_node
top_node_at at_home = refl
top_node_at (by_29 k fs x) = refl
top_node_at (by_41 k fs x) = refl

-- a call of ReleaseHelper whose caller returns after it
pub data HelperBack : Return → Type 0 where
  of_31 : HelperBack after_31
  of_43 : HelperBack after_43
  of_82 : HelperBack after_82

abbrev pub helper_stack : Tree → (thread index : ℕ) → Return → List Frame → List Frame
helper_stack t i k b fs = frame (ancestor t i k) (record_at t i k) b ∷ fs

pub helper_returns : (l r : ℕ) {b : Return} (fs : List Frame) → HelperBack b → returns (frame l r b ∷ fs) ≡ returns fs
unfolding returns goes_back
helper_returns l r fs of_31 = refl
helper_returns l r fs of_43 = refl
helper_returns l r fs of_82 = refl

-- the line of the first template, or of the root's
abbrev pub at_root : (domain : ℕ) → (root elsewhere : Point) → Point
at_root l a b = cond (eqb l 0) a b

-- CORRESPONDENCE of a thread's control with its place
pub data Corresponds (t : Tree) (i : ℕ) : Control → Place → Type 0 where
  c_idle : Corresponds t i (control outside []) Idle
  c_prep : (k : ℕ) → suc k ≤ height t i → Corresponds t i (control (at_root (ancestor t i (suc k)) line_66 line_7) (acquire_stack t i (suc k))) (Prep (ancestor t i (suc k)))
  c_swap : (k : ℕ) → k ≤ height t i → Corresponds t i (control (at_root (ancestor t i k) line_67 line_9) (acquire_stack t i k)) (Swap (ancestor t i k))
  c_link : (k p : ℕ) → k ≤ height t i → Corresponds t i (control (at_root (ancestor t i k) (line_71 p) (line_11 p)) (acquire_stack t i k)) (Link (ancestor t i k) p)
  c_wait : (k : ℕ) → k ≤ height t i → Corresponds t i (control (at_root (ancestor t i k) line_72 line_13) (acquire_stack t i k)) (Wait (ancestor t i k))
  c_inside : Corresponds t i (control critical []) Inside
  c_check : (k : ℕ) (fs : List Frame) → k < height t i → ReleaseStack t i k fs → Corresponds t i (control line_25 fs) (Check (ancestor t i k))
  c_pass : (k c r : ℕ) (fs : List Frame) → k < height t i → ReleaseStack t i k fs → Corresponds t i (control (line_37 c r) fs) (Grant (ancestor t i k) r (c + 1))
  c_help :
      (k : ℕ) (b : Return) (fs : List Frame) → k ≤ height t i → ReleaseStack t i k fs → HelperBack b →
      Corresponds t i (control (line_53 (release_word (ancestor t i k))) (helper_stack t i k b fs)) (Help (ancestor t i k))
  c_cas :
      (k : ℕ) (b : Return) (fs : List Frame) → k ≤ height t i → ReleaseStack t i k fs → HelperBack b →
      Corresponds t i (control (line_57 (release_word (ancestor t i k))) (helper_stack t i k b fs)) (Cas (ancestor t i k))
  c_linger :
      (k : ℕ) (b : Return) (fs : List Frame) → k ≤ height t i → ReleaseStack t i k fs → HelperBack b →
      Corresponds t i (control (line_58 (release_word (ancestor t i k))) (helper_stack t i k b fs)) (Linger (ancestor t i k))
  c_55 :
      (k r w : ℕ) (b : Return) (fs : List Frame) → k ≤ height t i → ReleaseStack t i k fs → HelperBack b →
      Corresponds t i (control (line_55 r w) (helper_stack t i k b fs)) (Grant (ancestor t i k) r w)
  c_59 :
      (k r w : ℕ) (b : Return) (fs : List Frame) → k ≤ height t i → ReleaseStack t i k fs → HelperBack b →
      Corresponds t i (control (line_59 r w) (helper_stack t i k b fs)) (Grant (ancestor t i k) r w)
  c_draw : (k : ℕ) → suc k ≤ height t i → ancestor t i (suc k) ≡ 0 → Corresponds t i (control (ticket_lock line_90) (acquire_stack t i (suc k))) Draw
  c_watch : (k : ℕ) → k ≤ height t i → ancestor t i k ≡ 0 → Corresponds t i (control (ticket_lock line_91_again) (acquire_stack t i k)) Watch
  c_raise : (k : ℕ) (fs : List Frame) → k ≤ height t i → ancestor t i k ≡ 0 → ReleaseStack t i k fs → Corresponds t i (control (ticket_lock line_92) fs) Raise

-- the innermost call of ReleaseReal
pub record Shape (t : Tree) (i k : ℕ) (fs : List Frame) : Type 0 where
  pub back : Return
  pub callers : List Frame
  pub shape : fs ≡ frame (ancestor t i k) (record_at t i k) back ∷ callers

pub shaped : {t : Tree} {i k : ℕ} {fs : List Frame} → ReleaseStack t i k fs → Shape t i k fs
shaped at_home = record { back = from_release; callers = []; shape = refl }
shaped (by_29 k fs x) = record { back = after_29; callers = fs; shape = refl }
shaped (by_41 k fs x) = record { back = after_41; callers = fs; shape = refl }
