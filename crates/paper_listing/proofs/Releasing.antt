-- The lines of Release, entry by entry, do what the rows from Inside to Idle do.
use mathlib.Core.Path.{◌≡◌, refl, ◌∙◌}
use mathlib.Core.Bool.{Bool, true, false, cond}
use mathlib.Core.List.{List, [], ◌∷◌}
use Prim.Native.Nat.{ℕ, suc, ◌+◌, ◌-◌, ◌≤◌, ◌<◌}
use native.Mathlib.Omega.{arith}
use lib.Dec.{eqb}
use borrow.Author.Tests.{eqb-false, eq-eqb, ne_eqb}
use Rattle.model.specs.declared.Place.TheVariants.{Inside, Check, Help, Cas, Linger, Grant, Raise}
use Rattle.model.specs.declared.State.{State}
use Rattle.model.specs.Trees.{Tree, is_ticket, own_record}
use Rattle.model.specs.States.{unlocked, none, tail, next, status, place, HasRoom}
use Rattle.model.specs.Steps.{RowResult, release_place, release_word}
use Rattle.claims.specs.Reached.{equality_check_row}
use Rattle.model.proofs.Branches.{word_is, Branch, inside_leaves, help_alone, help_linked, cas_last, cas_not_last, linger_alone, linger_linked, grant_writes}
use Rattle.model.proofs.Trees.Index.{ancestor, height, record_at}
use Rattle.model.proofs.Trees.Accepted.{Accepted}
use Rattle.model.proofs.Trees.Tickets.{ticket_facts}
use Rattle.model.proofs.Trees.Paths.{ancestor_parent_of, ancestor_not_root}
use Rattle.model.proofs.Trees.Records.{own_record_at}
use Rattle.claims.proofs.Words.Releasing.{done_at, done_place_at}
use Rattle.paper_listing.specs.Calls.{store_lock, store_status, Return, from_release, after_29, after_41, after_82, Frame, frame, critical, line_25, line_37, line_53, line_55, line_57, line_58, line_59, ticket_lock, line_92, control, goes, returns}
use Rattle.paper_listing.specs.Listing.{line, next_line, top_domain, top_node}
use Rattle.paper_listing.specs.Agreement.{entry, memory_of}
use Rattle.paper_listing.proofs.Stacks.{ReleaseStack, at_home, by_29, by_41, shaped, HelperBack, of_82, helper_stack, helper_returns, Corresponds, c_check, c_pass, c_help, c_cas, c_linger, c_55, c_59, c_raise}
use Rattle.paper_listing.proofs.Entries.{begins}
use Rattle.paper_listing.proofs.Returning.{released_at, leaves, check_reached, check_alone, check_passes, help_none, help_some, cas_fails, linger_stays, linger_sees, ended}
use Rattle.paper_listing.proofs.Acquiring.{Together, standing, moved, stayed, together}

module _ (t : Tree) (valid : Accepted t) (i : ℕ) (h : i < t.threads) (s : State) (room : HasRoom s.places i) where
  -- the control at a call of ReleaseReal at an index
  released :
      (k : ℕ) (b : Return) (fs : List Frame) → k ≤ height t i → ReleaseStack t i k (frame (ancestor t i k) (record_at t i k) b ∷ fs) → (a c : Bool) → is_ticket t (ancestor t i k) ≡ a → eqb (ancestor t i k) 0 ≡ c →
      Corresponds t i
      (cond a (control (ticket_lock line_92) (frame (ancestor t i k) (record_at t i k) b ∷ fs))
      (cond c (control (line_53 unlocked) (frame (ancestor t i k) (record_at t i k) after_82 ∷ frame (ancestor t i k) (record_at t i k) b ∷ fs))
      (control line_25 (frame (ancestor t i k) (record_at t i k) b ∷ fs))))
      (cond a Raise (cond c (Help (ancestor t i k)) (Check (ancestor t i k))))
  released k b fs l x true c n e = c_raise k (frame (ancestor t i k) (record_at t i k) b ∷ fs) l (ticket_facts t (ancestor t i k) n).1 x
  released k b fs l x false true n e =
      let c : Corresponds t i (control (line_53 (cond (eqb (ancestor t i k) 0) 0 _)) _) (Help (ancestor t i k)) = c_help k after_82 (frame (ancestor t i k) (record_at t i k) b ∷ fs) l x of_82 in
      rw e at c
  released k b fs l x false false n e = c_check k (frame (ancestor t i k) (record_at t i k) b ∷ fs) (ancestor_not_root t valid i h k l (omega (arith, eqb-false (ancestor t i k) 0 e))) x

  -- LEAVING
  pub leave_together : {x : RowResult} → Branch t i s Inside x → Together t i s x (entry t i (standing (control critical []) s))
  unfolding memory_of ancestor record_at
  leave_together inside_leaves =
      let p = release_place t (t.home i) in
      together t valid i h s room (record { thread = released_at t (t.home i) i from_release []; memory = memory_of s }) p (leaves t i (memory_of s)) refl
      (moved refl) (released 0 from_release [] (omega arith) at_home _ _ refl refl)

  -- CHECK, by equality as in the listing
  module _ (k : ℕ) (b : k < height t i) where
    abbrev L : ℕ
    L = ancestor t i k

    abbrev R : ℕ
    R = record_at t i k

    check_by :
        (back : Return) (fs : List Frame) → ReleaseStack t i k (frame L R back ∷ fs) → (c d : Bool) → eqb (status s R) (t.threshold L) ≡ c → eqb (next s R) 0 ≡ d →
        Together t i s (equality_check_row t i L s) (entry t i (standing (control line_25 (frame L R back ∷ fs)) s))
    unfolding equality_check_row memory_of
    check_by back fs x true d e f =
        let p = release_place t (ancestor t i (suc k)) in
        let same = check_reached t i L R back fs (memory_of s) e in
        rw (own_record_at t valid i h k (omega arith), e, ancestor_parent_of t valid i h k b)
        (together t valid i h s room (record { thread = released_at t (ancestor t i (suc k)) (256 + L) after_29 (frame L R back ∷ fs); memory = memory_of s }) p
        (rw (ancestor_parent_of t valid i h k b) at same) refl (moved refl) (next_call after_29 (by_29 k (frame L R back ∷ fs) x)))
      where
        next_call : (a : Return) → ReleaseStack t i (suc k) (frame (ancestor t i (suc k)) (record_at t i (suc k)) a ∷ frame L R back ∷ fs) →
            Corresponds t i (released_at t (ancestor t i (suc k)) (256 + L) a (frame L R back ∷ fs)) (release_place t (ancestor t i (suc k)))
        next_call a y = unfold record_at in released (suc k) a (frame L R back ∷ fs) b y _ _ refl refl
    check_by back fs x false true e f =
        let p = release_place t (ancestor t i (suc k)) in
        let same = check_alone t i L R back fs (memory_of s) e f in
        rw (own_record_at t valid i h k (omega arith), e, f, ancestor_parent_of t valid i h k b)
        (together t valid i h s room (record { thread = released_at t (ancestor t i (suc k)) (256 + L) after_41 (frame L R back ∷ fs); memory = memory_of s }) p
        (rw (ancestor_parent_of t valid i h k b) at same) refl (moved refl) (next_call after_41 (by_41 k (frame L R back ∷ fs) x)))
      where
        next_call : (a : Return) → ReleaseStack t i (suc k) (frame (ancestor t i (suc k)) (record_at t i (suc k)) a ∷ frame L R back ∷ fs) →
            Corresponds t i (released_at t (ancestor t i (suc k)) (256 + L) a (frame L R back ∷ fs)) (release_place t (ancestor t i (suc k)))
        next_call a y = unfold record_at in released (suc k) a (frame L R back ∷ fs) b y _ _ refl refl
    check_by back fs x false false e f =
        let v = status s R in
        let n = next s R in
        let p = Grant L (n - 1) (v + 1) in
        rw (own_record_at t valid i h k (omega arith), e, f)
        (together t valid i h s room (goes (line_37 v (n - 1)) (frame L R back ∷ fs) (memory_of s)) p (check_passes t i L R back fs (memory_of s) e f) refl
        (moved refl) (c_pass k v (n - 1) (frame L R back ∷ fs) b x))

    pub check_together : (fs : List Frame) → ReleaseStack t i k fs → Together t i s (equality_check_row t i L s) (entry t i (standing (control line_25 fs) s))
    check_together fs x =
        let y = shaped x in
        let x' : ReleaseStack t i k (frame L R y.back ∷ y.callers) = rw y.shape at x in
        rw y.shape (check_by y.back y.callers x' _ _ refl refl)

    -- PASS
    pub pass_together :
        (c r : ℕ) (fs : List Frame) → ReleaseStack t i k fs → {x : RowResult} → Branch t i s (Grant L r (c + 1)) x →
        Together t i s x (entry t i (standing (control (line_37 c r) fs) s))
    unfolding memory_of next_line line
    pass_together c r fs x (grant_writes _ _ _) =
        let z = ended t i valid h k fs (store_status r (c + 1) (memory_of s)) (omega arith) x in
        rw (done_place_at t valid i h k (omega arith))
        (together t valid i h s room (record { thread = z.thread; memory = store_status r (c + 1) (memory_of s) }) (done_at t i k)
        (begins t i (goes (line_37 c r) fs (memory_of s)) (record { thread = returns fs; memory = store_status r (c + 1) (memory_of s) }) refl ∙ z.same) refl
        (moved refl) z.corresponds)

  -- ReleaseHelper
  module _ (k : ℕ) (l : k ≤ height t i) (back : Return) (fs : List Frame) (x : ReleaseStack t i k fs) (helps : HelperBack back) where
    abbrev M : ℕ
    M = ancestor t i k

    abbrev Q : ℕ
    Q = record_at t i k

    abbrev W : ℕ
    W = release_word (ancestor t i k)

    own : own_record t i M ≡ Q
    own = own_record_at t valid i h k l

    pub help_together : {x : RowResult} → Branch t i s (Help M) x → Together t i s x (entry t i (standing (control (line_53 W) (helper_stack t i k back fs)) s))
    unfolding memory_of
    help_together (help_alone _ n) =
        together t valid i h s room (goes (line_57 W) (helper_stack t i k back fs) (memory_of s)) (Cas M)
        (help_none t i M Q back fs (memory_of s) W (rw own at (eq-eqb _ none n))) refl (moved refl) (c_cas k back fs l x helps)
    help_together (help_linked _ v n at) =
        let p = Grant M (next s Q - 1) W in
        rw (word_is at, own)
        (together t valid i h s room (goes (line_55 (next s Q - 1) W) (helper_stack t i k back fs) (memory_of s)) p
        (help_some t i M Q back fs (memory_of s) W (rw own at (ne_eqb _ none n))) refl (moved refl) (c_55 k (next s Q - 1) W back fs l x helps))

    pub cas_together : {x : RowResult} → Branch t i s (Cas M) x → Together t i s x (entry t i (standing (control (line_57 W) (helper_stack t i k back fs)) s))
    unfolding memory_of next_line line top_domain top_node
    cas_together (cas_last _ y) =
        let e : eqb (tail s M) (Q + 1) ≡ true = rw own at (eq-eqb (tail s M) (own_record t i M + 1) y) in
        let m = store_lock M none (memory_of s) in
        let z = ended t i valid h k fs m l x in
        rw (done_place_at t valid i h k l)
        (together t valid i h s room (record { thread = z.thread; memory = m }) (done_at t i k)
        (begins t i (goes (line_57 W) (helper_stack t i k back fs) (memory_of s)) (record { thread = returns fs; memory = m }) (rw (e, helper_returns M Q fs helps)) ∙ z.same) refl
        (moved refl) z.corresponds)
    cas_together (cas_not_last _ y) =
        together t valid i h s room (goes (line_58 W) (helper_stack t i k back fs) (memory_of s)) (Linger M)
        (cas_fails t i M Q back fs (memory_of s) W (rw own at (ne_eqb (tail s M) (own_record t i M + 1) y))) refl (moved refl) (c_linger k back fs l x helps)

    pub linger_together : place s i ≡ Linger M → {x : RowResult} → Branch t i s (Linger M) x → Together t i s x (entry t i (standing (control (line_58 W) (helper_stack t i k back fs)) s))
    unfolding memory_of
    linger_together q (linger_alone _ n) =
        together t valid i h s room (goes (line_58 W) (helper_stack t i k back fs) (memory_of s)) (Linger M)
        (linger_stays t i M Q back fs (memory_of s) W (rw own at (eq-eqb _ none n))) refl (stayed refl q) (c_linger k back fs l x helps)
    linger_together q (linger_linked _ v n at) =
        let p = Grant M (next s Q - 1) W in
        rw (word_is at, own)
        (together t valid i h s room (goes (line_59 (next s Q - 1) W) (helper_stack t i k back fs) (memory_of s)) p
        (linger_sees t i M Q back fs (memory_of s) W (rw own at (ne_eqb _ none n))) refl (moved refl) (c_59 k (next s Q - 1) W back fs l x helps))

    pub line_55_together : (r w : ℕ) {x : RowResult} → Branch t i s (Grant M r w) x → Together t i s x (entry t i (standing (control (line_55 r w) (helper_stack t i k back fs)) s))
    unfolding memory_of next_line line
    line_55_together r w (grant_writes _ _ _) =
        let m = store_status r w (memory_of s) in
        let z = ended t i valid h k fs m l x in
        rw (done_place_at t valid i h k l)
        (together t valid i h s room (record { thread = z.thread; memory = m }) (done_at t i k)
        (begins t i (goes (line_55 r w) (helper_stack t i k back fs) (memory_of s)) (record { thread = returns fs; memory = m }) (rw (helper_returns M Q fs helps)) ∙ z.same) refl
        (moved refl) z.corresponds)

    pub line_59_together : (r w : ℕ) {x : RowResult} → Branch t i s (Grant M r w) x → Together t i s x (entry t i (standing (control (line_59 r w) (helper_stack t i k back fs)) s))
    unfolding memory_of next_line line
    line_59_together r w (grant_writes _ _ _) =
        let m = store_status r w (memory_of s) in
        let z = ended t i valid h k fs m l x in
        rw (done_place_at t valid i h k l)
        (together t valid i h s room (record { thread = z.thread; memory = m }) (done_at t i k)
        (begins t i (goes (line_59 r w) (helper_stack t i k back fs) (memory_of s)) (record { thread = returns fs; memory = m }) (rw (helper_returns M Q fs helps)) ∙ z.same) refl
        (moved refl) z.corresponds)
