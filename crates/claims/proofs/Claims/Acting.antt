-- A thread acts for its record at a domain, as document 01 says, exactly if its stage acts there.
use mathlib.Core.Path.{◌≡◌, refl, sym, ap, ◌∙◌}
use mathlib.Core.Bool.{Bool, true, false, ◌||◌, not, cond}
use Prim.Native.Nat.{ℕ, suc, ◌≤◌, ◌<◌}
use native.Mathlib.Omega.{arith}
use lib.Dec.{eqb, ltb, leb}
use borrow.Author.Tests.{eqb-true, eqb-false, eq-eqb, ne_eqb, lt-ltb, le-ltb, le-leb, lt-leb}
use Rattle.model.specs.declared.Place.{Place}
use Rattle.model.specs.declared.State.{State as WordState}
use Rattle.model.specs.Trees.{Tree}
use Rattle.model.specs.States.{acquire_parent, wait_word, locked}
use Rattle.model.specs.Acts.{sends_inside, acts_at}
use Rattle.model.specs.Laws.{SixteenBit}
use Rattle.model.proofs.Tests.{or_right, or_none}
use Rattle.model.proofs.Trees.Index.{ancestor, height, record_at}
use Rattle.model.proofs.Trees.Accepted.{Accepted}
use Rattle.model.proofs.Trees.Paths.{ancestor_inner, ancestor_root, ancestor_strict, ancestor_zero, ancestor_not_root}
use Rattle.model.proofs.Trees.Records.{own_record_at}
use Rattle.model.proofs.Lists.{same_or, less_or}
use Rattle.claims.proofs.Queues.Moves.{Stage, low, acts, State}
use Rattle.claims.proofs.Queues.Invariant.{Inv}
use Rattle.claims.proofs.Words.View.{words_in}
use Rattle.claims.proofs.Words.Represents.{waiting_word, Fits, at_idle, at_prep, at_swap, at_link, at_wait, at_woken, at_ready, at_inside, at_check, at_pass, at_help, at_cas, at_linger, at_grant, at_draw, at_watch, at_shown, at_raise}
use Rattle.claims.proofs.Words.Releasing.{letting_go_acts}

module _ (t : Tree) (valid : Accepted t) (i : ℕ) (h : i < t.threads) (n : ℕ) (ln : n ≤ height t i) where
  -- on a path, the higher index has the lower number
  falls : (j k : ℕ) → j ≤ k → k ≤ height t i → ancestor t i k ≤ ancestor t i j
  falls j k a b =
      same_or j k (ancestor t i k ≤ ancestor t i j) (λ z. rw z (omega arith)) (λ z. let s = ancestor_strict t valid i h j k (omega arith) b in omega arith)

  higher_test : (k : ℕ) → k ≤ height t i → ltb (ancestor t i k) (ancestor t i n) ≡ ltb n k
  higher_test k l =
      less_or n k _
      (λ b. rw (lt-ltb n k b) (lt-ltb _ _ (ancestor_strict t valid i h n k b l)))
      (λ b. rw (le-ltb n k b) (le-ltb _ _ (falls k n b ln)))

  there_test : (k : ℕ) → k ≤ height t i → leb (ancestor t i k) (ancestor t i n) ≡ ltb n (suc k)
  there_test k l =
      less_or k n _
      (λ b. rw (le-ltb n (suc k) b) (lt-leb _ _ (ancestor_strict t valid i h k n b ln)))
      (λ b. rw (lt-ltb n (suc k) (omega arith)) (le-leb _ _ (falls n k b l)))

  everywhere : true ≡ ltb n (suc (height t i))
  everywhere = sym (lt-ltb n (suc (height t i)) (omega arith))

  -- the waiting word and ACQUIRE_PARENT do not send a thread in Wait inside
  stays_out : (k v : ℕ) → v ≡ waiting_word (ancestor t i k) → sends_inside (ancestor t i k) v ≡ false
  unfolding sends_inside
  stays_out k v e = by (eqb (ancestor t i k) 0) refl
    where
      by : (b : Bool) → eqb (ancestor t i k) 0 ≡ b → cond (eqb (ancestor t i k) 0) (not (eqb v locked)) (ltb v acquire_parent) ≡ false
      by true z = let y : v ≡ 1 = rw z at e in rw (z, eq-eqb v 1 y)
      by false z = let y : v ≡ wait_word = rw z at e in rw z (le-ltb v acquire_parent (omega arith))

  woken_out : (k v : ℕ) → k < height t i → v ≡ acquire_parent → sends_inside (ancestor t i k) v ≡ false
  unfolding sends_inside
  woken_out k v b e =
      let p = ancestor_inner t valid i h k b in
      rw (ne_eqb (ancestor t i k) 0 (omega arith)) (le-ltb v acquire_parent (omega arith))

  -- a 16-bit word, or UNLOCKED at the root, does
  goes_in : (k v : ℕ) → k ≤ height t i → (k ≡ height t i → v ≡ 0) → (k < height t i → v ≤ 65535) → sends_inside (ancestor t i k) v ≡ true
  unfolding sends_inside
  goes_in k v l a b = by (eqb (ancestor t i k) 0) refl
    where
      by : (c : Bool) → eqb (ancestor t i k) 0 ≡ c → cond (eqb (ancestor t i k) 0) (not (eqb v locked)) (ltb v acquire_parent) ≡ true
      by true z =
          let y = a (ancestor_zero t valid i h k l (eqb-true (ancestor t i k) 0 z)) in
          rw (z, ne_eqb v 1 (omega arith))
      by false z =
          let y = eqb-false (ancestor t i k) 0 z in
          let w = b (ancestor_not_root t valid i h k l (omega arith)) in
          rw z (lt-ltb v acquire_parent (omega arith))

  module _ (bits : SixteenBit t) (s : WordState) (g : State) (inv : Inv t g) where
    count_small : (k : ℕ) → k < height t i → k < low (height t i) (g.stage i) → g.tally (record_at t i k) ≤ 65535
    count_small k b a =
        let p = ancestor_inner t valid i h k b in
        let c = (inv.counts (ancestor t i k) (record_at t i k) (λ z. omega arith) ((inv.threads i).heads k a)).1 in
        omega (arith, bits (ancestor t i k))

    pub acts_stage : {p : Place} {x : Stage} → g.stage i ≡ x → Fits t (words_in s) g i p x → acts_at t s i p (ancestor t i n) ≡ ltb n (acts (height t i) x)
    unfolding acts_at acts low words_in
    acts_stage e at_idle = sym (le-ltb n 0 (omega arith))
    acts_stage e (at_prep k l c) = higher_test k l
    acts_stage e (at_swap k l c a v) = higher_test k l
    acts_stage e (at_link k p l c d a z v) = there_test k l
    acts_stage e (at_wait k p l c d a z v) =
        rw (own_record_at t valid i h k l) (or_none _ _ (stays_out k _ v) ∙ there_test k l)
    acts_stage e (at_woken k b c v y) =
        let l : k ≤ height t i = omega arith in
        rw (own_record_at t valid i h k l) (or_none _ _ (woken_out k _ b v) ∙ there_test k l)
    acts_stage e (at_ready k l c v p) =
        let all : low (height t i) (g.stage i) ≡ suc (height t i) = ap (low (height t i)) e in
        rw (own_record_at t valid i h k l)
        (or_right (leb (ancestor t i k) (ancestor t i n)) _ (goes_in k _ l v (λ b. let y = c k b b in omega (arith, count_small k b (omega arith)))) ∙ everywhere)
    acts_stage e (at_draw k l r c) =
        let root : ancestor t i k ≡ 0 = ap (ancestor t i) l ∙ ancestor_root t valid i h in
        rw root at (higher_test k (omega arith))
    acts_stage e (at_watch k l r c) = rw l everywhere
    acts_stage e (at_shown r c) = everywhere
    acts_stage e (at_raise r c) = everywhere
    acts_stage e (at_inside c) = everywhere
    acts_stage e (at_check k b c) = everywhere
    acts_stage e (at_pass k r v b c a q y) =
        or_right (leb (ancestor t i k) (ancestor t i n)) _ (lt-ltb v acquire_parent (omega (arith, bits (ancestor t i k)))) ∙ everywhere
    acts_stage e (at_help k l c) = there_test k l ∙ ap (ltb n) (sym (letting_go_acts (height t i) k))
    acts_stage e (at_cas k l c) = there_test k l ∙ ap (ltb n) (sym (letting_go_acts (height t i) k))
    acts_stage e (at_linger k l c z) = there_test k l ∙ ap (ltb n) (sym (letting_go_acts (height t i) k))
    acts_stage e (at_grant k r l c a) = by (eqb (ancestor t i k) 0) refl ∙ ap (ltb n) (sym (letting_go_acts (height t i) k))
      where
        by : (b : Bool) → eqb (ancestor t i k) 0 ≡ b → leb (ancestor t i k) (ancestor t i n) || ltb (cond (eqb (ancestor t i k) 0) 0 acquire_parent) acquire_parent ≡ ltb n (suc k)
        by true z =
            let root = ancestor_zero t valid i h k l (eqb-true (ancestor t i k) 0 z) in
            rw z (or_right (leb (ancestor t i k) (ancestor t i n)) _ (lt-ltb 0 acquire_parent (omega arith)) ∙ sym (lt-ltb n (suc k) (omega arith)))
        by false z = rw z (or_none _ _ (le-ltb acquire_parent acquire_parent (omega arith)) ∙ there_test k l)
