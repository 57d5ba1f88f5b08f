-- What one schedule entry executes of Release, ReleaseReal and ReleaseHelper.
use mathlib.Core.Path.{◌≡◌, refl, ◌∙◌}
use mathlib.Core.Bool.{Bool, true, false, cond}
use mathlib.Core.List.{List, [], ◌∷◌}
use Prim.Native.Nat.{ℕ, suc, ◌+◌, ◌-◌, ◌≤◌, ◌<◌}
use native.Mathlib.Omega.{arith}
use lib.Dec.{eqb}
use borrow.Author.Tests.{ne_eqb}
use Rattle.model.specs.Trees.{Tree, is_ticket}
use Rattle.model.specs.States.{acquire_parent, unlocked}
use Rattle.model.specs.Steps.{release_word}
use Rattle.model.proofs.Trees.Index.{ancestor, height, record_at}
use Rattle.model.proofs.Trees.Accepted.{Accepted}
use Rattle.model.proofs.Trees.Paths.{ancestor_inner}
use Rattle.claims.proofs.Words.Releasing.{done_at}
use Rattle.paper_listing.specs.Calls.{Memory, lock_at, next_at, status_at, Return, from_release, after_29, after_31, after_41, after_43, after_82, Frame, frame, critical, line_25, line_27, line_29, line_31, line_35, line_36, line_37, line_41, line_43, line_53, line_54, line_55, line_57, line_58, line_59, line_82, ticket_lock, line_92, Control, control, After, goes, release_real, release_helper, goes_back, returns}
use Rattle.paper_listing.specs.Listing.{line, top_domain, top_node, next_line}
use Rattle.paper_listing.specs.Agreement.{ticket_place, place_at, place_of_control, is_place, settle, entry}
use Rattle.paper_listing.proofs.Stacks.{ReleaseStack, at_home, by_29, by_41, top_domain_at, top_node_at, of_31, of_43, Corresponds, c_idle, c_help}
use Rattle.paper_listing.proofs.Entries.{through, there, begins}

-- the point after a call of ReleaseReal: at a queue root it has called ReleaseHelper
abbrev pub released_at : Tree → (domain node : ℕ) → Return → List Frame → Control
released_at t d n b fs =
    cond (is_ticket t d) (control (ticket_lock line_92) (frame d n b ∷ fs))
    (cond (eqb d 0) (control (line_53 unlocked) (frame d n after_82 ∷ frame d n b ∷ fs)) (control line_25 (frame d n b ∷ fs)))

module _ (t : Tree) (i : ℕ) where
  call_by :
      (n d r : ℕ) (b : Return) (fs : List Frame) (m : Memory) (a c : Bool) →
      settle (suc (suc n)) t i (record { thread = control (cond a (ticket_lock line_92) (cond c line_82 line_25)) (frame d r b ∷ fs); memory = m })
      ≡ record {
        thread =
            cond a (control (ticket_lock line_92) (frame d r b ∷ fs))
            (cond c (control (line_53 unlocked) (frame d r after_82 ∷ frame d r b ∷ fs)) (control line_25 (frame d r b ∷ fs)));
        memory = m;
      }
  unfolding next_line line release_helper top_domain top_node place_of_control place_at ticket_place is_place
  call_by n d r b fs m true c = there t i (suc n) (goes (ticket_lock line_92) (frame d r b ∷ fs) m) refl
  call_by n d r b fs m false true =
      through t i (suc n) (goes line_82 (frame d r b ∷ fs) m) (goes (line_53 unlocked) (frame d r after_82 ∷ frame d r b ∷ fs) m) refl refl ∙ there t i n _ refl
  call_by n d r b fs m false false = there t i (suc n) (goes line_25 (frame d r b ∷ fs) m) refl

  release_called :
      (n d r : ℕ) (b : Return) (fs : List Frame) (m : Memory) →
      settle (suc (suc n)) t i (record { thread = release_real t d r b fs; memory = m }) ≡ record { thread = released_at t d r b fs; memory = m }
  unfolding release_real
  release_called n d r b fs m = call_by n d r b fs m (is_ticket t d) (eqb d 0)

  -- LEAVING
  pub leaves : (m : Memory) → entry t i (goes critical [] m) ≡ record { thread = released_at t (t.home i) i from_release []; memory = m }
  unfolding next_line line
  leaves m =
      begins t i (goes critical [] m) (record { thread = release_real t (t.home i) i from_release []; memory = m }) refl
      ∙ release_called 6 (t.home i) i from_release [] m

  module _ (l r : ℕ) (b : Return) (fs : List Frame) (m : Memory) where
    abbrev all : List Frame
    all = frame l r b ∷ fs

    -- CHECK
    pub check_reached :
        eqb (status_at m r) (t.threshold l) ≡ true →
        entry t i (goes line_25 all m) ≡ record { thread = released_at t (t.parent l) (256 + l) after_29 all; memory = m }
    unfolding next_line line top_domain top_node place_of_control place_at is_place
    check_reached e =
        let v = status_at m r in
        begins t i (goes line_25 all m) (goes (line_27 v) all m) refl
        ∙ through t i 7 (goes (line_27 v) all m) (goes line_29 all m) refl (rw e)
        ∙ through t i 6 (goes line_29 all m) (record { thread = release_real t (t.parent l) (256 + l) after_29 all; memory = m }) refl refl
        ∙ release_called 4 (t.parent l) (256 + l) after_29 all m

    pub check_alone :
        eqb (status_at m r) (t.threshold l) ≡ false → eqb (next_at m r) 0 ≡ true →
        entry t i (goes line_25 all m) ≡ record { thread = released_at t (t.parent l) (256 + l) after_41 all; memory = m }
    unfolding next_line line top_domain top_node place_of_control place_at is_place
    check_alone e f =
        let v = status_at m r in
        let n = next_at m r in
        begins t i (goes line_25 all m) (goes (line_27 v) all m) refl
        ∙ through t i 7 (goes (line_27 v) all m) (goes (line_35 v) all m) refl (rw e)
        ∙ through t i 6 (goes (line_35 v) all m) (goes (line_36 v n) all m) refl refl
        ∙ through t i 5 (goes (line_36 v n) all m) (goes line_41 all m) refl (rw f)
        ∙ through t i 4 (goes line_41 all m) (record { thread = release_real t (t.parent l) (256 + l) after_41 all; memory = m }) refl refl
        ∙ release_called 2 (t.parent l) (256 + l) after_41 all m

    pub check_passes :
        eqb (status_at m r) (t.threshold l) ≡ false → eqb (next_at m r) 0 ≡ false →
        entry t i (goes line_25 all m) ≡ goes (line_37 (status_at m r) (next_at m r - 1)) all m
    unfolding next_line line top_domain top_node place_of_control place_at is_place
    check_passes e f =
        let v = status_at m r in
        let n = next_at m r in
        begins t i (goes line_25 all m) (goes (line_27 v) all m) refl
        ∙ through t i 7 (goes (line_27 v) all m) (goes (line_35 v) all m) refl (rw e)
        ∙ through t i 6 (goes (line_35 v) all m) (goes (line_36 v n) all m) refl refl
        ∙ through t i 5 (goes (line_36 v n) all m) (goes (line_37 v (n - 1)) all m) refl (rw f)
        ∙ there t i 4 _ refl

    -- HELP, CAS THAT FAILS, LINGER
    pub help_none : (v : ℕ) → eqb (next_at m r) 0 ≡ true → entry t i (goes (line_53 v) all m) ≡ goes (line_57 v) all m
    unfolding next_line line top_domain top_node place_of_control place_at is_place
    help_none v e =
        begins t i (goes (line_53 v) all m) (goes (line_54 (next_at m r) v) all m) refl
        ∙ through t i 7 (goes (line_54 (next_at m r) v) all m) (goes (line_57 v) all m) refl (rw e) ∙ there t i 6 _ refl

    pub help_some : (v : ℕ) → eqb (next_at m r) 0 ≡ false → entry t i (goes (line_53 v) all m) ≡ goes (line_55 (next_at m r - 1) v) all m
    unfolding next_line line top_domain top_node place_of_control place_at is_place
    help_some v e =
        begins t i (goes (line_53 v) all m) (goes (line_54 (next_at m r) v) all m) refl
        ∙ through t i 7 (goes (line_54 (next_at m r) v) all m) (goes (line_55 (next_at m r - 1) v) all m) refl (rw e) ∙ there t i 6 _ refl

    pub cas_fails : (v : ℕ) → eqb (lock_at m l) (r + 1) ≡ false → entry t i (goes (line_57 v) all m) ≡ goes (line_58 v) all m
    unfolding next_line line top_domain top_node place_of_control place_at is_place
    cas_fails v e = begins t i (goes (line_57 v) all m) (goes (line_58 v) all m) (rw e) ∙ there t i 7 _ refl

    pub linger_stays : (v : ℕ) → eqb (next_at m r) 0 ≡ true → entry t i (goes (line_58 v) all m) ≡ goes (line_58 v) all m
    unfolding next_line line top_domain top_node place_of_control place_at is_place
    linger_stays v e = begins t i (goes (line_58 v) all m) (goes (line_58 v) all m) (rw e) ∙ there t i 7 _ refl

    pub linger_sees : (v : ℕ) → eqb (next_at m r) 0 ≡ false → entry t i (goes (line_58 v) all m) ≡ goes (line_59 (next_at m r - 1) v) all m
    unfolding next_line line top_domain top_node place_of_control place_at is_place
    linger_sees v e = begins t i (goes (line_58 v) all m) (goes (line_59 (next_at m r - 1) v) all m) (rw e) ∙ there t i 7 _ refl

  -- THE END of a domain's release: the thread is outside, or helps one domain lower
  pub record Ended (k : ℕ) (x : After) (m : Memory) : Type 0 where
    pub thread : Control
    pub same : settle 8 t i x ≡ record { thread = thread; memory = m }
    pub corresponds : Corresponds t i thread (done_at t i k)

  module _ (valid : Accepted t) (h : i < t.threads) where
    lower_word : (k : ℕ) → k < height t i → release_word (ancestor t i k) ≡ acquire_parent
    lower_word k b = let z = ne_eqb (ancestor t i k) 0 (omega (arith, ancestor_inner t valid i h k b)) in rw z

    pub ended : (k : ℕ) (fs : List Frame) (m : Memory) → k ≤ height t i → ReleaseStack t i k fs → Ended k (record { thread = returns fs; memory = m }) m
    unfolding returns goes_back next_line line release_helper place_of_control place_at is_place
    ended k fs m l at_home = record { thread = _; same = there t i 7 _ refl; corresponds = c_idle }
    ended k fs m l (by_29 k' fs' x) =
        let w = lower_word k' l in
        record {
          thread = control (line_53 (release_word (ancestor t i k'))) (frame (ancestor t i k') (record_at t i k') after_31 ∷ fs');
          same = through t i 7 (goes line_31 fs' m) (goes (line_53 acquire_parent) (frame (ancestor t i k') (record_at t i k') after_31 ∷ fs') m) refl
              (rw (top_domain_at x, top_node_at x)) ∙ there t i 6 _ refl ∙ rw w;
          corresponds = c_help k' after_31 fs' (omega arith) x of_31;
        }
    ended k fs m l (by_41 k' fs' x) =
        let w = lower_word k' l in
        record {
          thread = control (line_53 (release_word (ancestor t i k'))) (frame (ancestor t i k') (record_at t i k') after_43 ∷ fs');
          same = through t i 7 (goes line_43 fs' m) (goes (line_53 acquire_parent) (frame (ancestor t i k') (record_at t i k') after_43 ∷ fs') m) refl
              (rw (top_domain_at x, top_node_at x)) ∙ there t i 6 _ refl ∙ rw w;
          corresponds = c_help k' after_43 fs' (omega arith) x of_43;
        }
