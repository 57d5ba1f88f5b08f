-- A thread's records by index, and the members of a domain.
use mathlib.Core.Path.{◌≡◌, refl, sym, ap, ◌∙◌}
use mathlib.Core.Bool.{true, false}
use mathlib.Core.Logic.{◌≢◌}
use Prim.Native.Nat.{ℕ, zero, suc, ◌+◌, ◌-◌, ◌≤◌, ◌<◌}
use native.Mathlib.Omega.{arith}
use native.Mathlib.Decide.{ℕ_discrete, dec_lt}
use lib.Dec.{eqb, ltb}
use borrow.Author.Tests.{eqb-true, eq-eqb, ne_eqb, ltb-true, lt-ltb, le-ltb}
use Rattle.model.specs.Trees.{Tree, child, child_from, own_record, is_child, is_member, owner_domain, is_record, under, on_path}
use Rattle.model.proofs.Trees.Index.{ancestor, height, record_at}
use Rattle.model.proofs.Tests.{and_both}
use Rattle.model.proofs.Trees.Accepted.{Accepted, child_yes, child_facts}
use Rattle.model.proofs.Trees.Paths.{ancestor_home, height_few, ancestor_real, ancestor_inner, ancestor_root, ancestor_not_root, ancestor_parent_of, ancestor_strict, ancestor_injective, path_index, on_path_at}

-- MEMBERS
minus_256 : (c : ℕ) → 256 + c - 256 ≡ c
minus_256 c = omega arith

domain_record : (c : ℕ) → ltb (256 + c) 256 ≡ false
domain_record c = le-ltb (256 + c) 256 (omega arith)

-- a member is a thread whose home is there, or a child domain
pub data Member (t : Tree) (d : ℕ) : ℕ → Type 0 where
  a_thread : (i : ℕ) → i < t.threads → t.home i ≡ d → Member t d i
  a_domain : (c : ℕ) → 0 < c → c < t.domains → t.parent c ≡ d → Member t d (256 + c)

pub member_facts : (t : Tree) (d r : ℕ) → is_member t d r ≡ true → Member t d r
unfolding is_member
member_facts t d r e =
    elim (dec_lt r 256) [
      | yes p ↦
          let both = and_both (ltb r t.threads) (eqb (t.home r) d) (rw (lt-ltb r 256 p) at e) in
          a_thread r (ltb-true _ _ both.0) (eqb-true _ _ both.1)
      | no p ↦
          let both = and_both (ltb (r - 256) t.domains) (is_child t d (r - 256)) (rw (le-ltb r 256 (omega arith)) at e) in
          let c = child_facts t d (r - 256) both.1 in
          let z : 256 + (r - 256) ≡ r = omega arith in
          let m : Member t d (256 + (r - 256)) = a_domain (r - 256) c.no_root (ltb-true _ _ both.0) c.its_child in
          rw z at m
    ]

pub member_domain : (t : Tree) (d c : ℕ) → 0 < c → c < t.domains → t.parent c ≡ d → is_member t d (256 + c) ≡ true
unfolding is_member
member_domain t d c p s e = rw (domain_record c, minus_256 c, lt-ltb c t.domains s, child_yes t d c p e)

pub member_thread : (t : Tree) → Accepted t → (d i : ℕ) → i < t.threads → t.home i ≡ d → is_member t d i ≡ true
unfolding is_member
member_thread t valid d i h e = rw (lt-ltb i 256 (omega arith), lt-ltb i t.threads h, eq-eqb (t.home i) d e)

-- a member has one record and belongs to one domain of the tree; each record belongs to a member of its owner's domain
module _ (t : Tree) (valid : Accepted t) where
  pub member_owner : (d r : ℕ) → is_member t d r ≡ true → owner_domain t r ≡ d
  unfolding owner_domain
  member_owner d r m = go r (member_facts t d r m)
    where
      go : (r : ℕ) → Member t d r → owner_domain t r ≡ d
      go r (a_thread i s q) = rw (lt-ltb i 256 (omega arith)) q
      go r (a_domain c p s q) = rw (domain_record c, minus_256 c) q

  pub member_once : (d e r : ℕ) → is_member t d r ≡ true → is_member t e r ≡ true → d ≡ e
  member_once d e r m n = sym (member_owner d r m) ∙ member_owner e r n

  pub member_record : (d r : ℕ) → is_member t d r ≡ true → is_record t r ≡ true
  unfolding is_record
  member_record d r m = go r (member_facts t d r m)
    where
      go : (r : ℕ) → Member t d r → is_record t r ≡ true
      go r (a_thread i s q) = rw (lt-ltb i 256 (omega arith)) (lt-ltb i t.threads s)
      go r (a_domain c p s q) = rw (domain_record c, minus_256 c, lt-ltb c t.domains s, ne_eqb c 0 (omega arith))

  pub member_small : (d r : ℕ) → is_member t d r ≡ true → r < 320
  member_small d r m = go r (member_facts t d r m)
    where
      go : (r : ℕ) → Member t d r → r < 320
      go r (a_thread i s q) = omega arith
      go r (a_domain c p s q) = omega arith

-- RECORDS OF A THREAD
pub record_own : (t : Tree) (i : ℕ) → record_at t i 0 ≡ i
unfolding record_at
record_own t i = refl

pub record_suc : (t : Tree) (i k : ℕ) → record_at t i (suc k) ≡ 256 + ancestor t i k
unfolding record_at
record_suc t i k = refl

-- a thread works at a domain, with a record there, at an index of its path
pub record Works (t : Tree) (i d r : ℕ) : Type 0 where
  pub index : ℕ
  pub within : index ≤ height t i
  pub there : ancestor t i index ≡ d
  pub with_record : record_at t i index ≡ r

module _ (t : Tree) (valid : Accepted t) (i : ℕ) (h : i < t.threads) where
  child_found : (f j k : ℕ) → j ≤ k → k < height t i → k < j + f → child_from f t (ancestor t i (suc k)) (ancestor t i j) ≡ ancestor t i k
  unfolding child_from
  child_found zero j k a b c = absurd (omega arith)
  child_found (suc f) j k a b c =
      let p = ancestor_inner t valid i h j (omega arith) in
      let z = ne_eqb (ancestor t i j) 0 (omega arith) in
      elim (ℕ_discrete j k) [
        | yes e ↦ rw (z, ancestor_parent_of t valid i h j (omega arith), eq-eqb (ancestor t i (suc j)) (ancestor t i (suc k)) (ap (λ n. ancestor t i (suc n)) e)) (ap (ancestor t i) e)
        | no n ↦
            let q = ancestor_strict t valid i h (suc j) (suc k) (omega arith) (omega arith) in
            let rest = child_found f (suc j) k (omega arith) b (omega arith) in
            rw (z, ancestor_parent_of t valid i h j (omega arith), ne_eqb (ancestor t i (suc j)) (ancestor t i (suc k)) (omega arith)) rest
      ]

  pub child_at : (k : ℕ) → k < height t i → child t i (ancestor t i (suc k)) ≡ ancestor t i k
  unfolding child
  child_at k l = rw (← ancestor_home t i) (child_found 6 0 k (omega arith) l (omega (arith, height_few t valid i h)))

  pub own_record_at : (k : ℕ) → k ≤ height t i → own_record t i (ancestor t i k) ≡ record_at t i k
  unfolding own_record record_at
  own_record_at zero l = rw (eq-eqb (ancestor t i 0) (t.home i) (ancestor_home t i))
  own_record_at (suc k) l =
      let q = ancestor_strict t valid i h 0 (suc k) (omega arith) l in
      rw (ne_eqb (ancestor t i (suc k)) (t.home i) (omega (arith, ancestor_home t i)), child_at k l)

  pub root_record : own_record t i 0 ≡ record_at t i (height t i)
  root_record = rw (ancestor_root t valid i h) at (own_record_at (height t i) (omega arith))

  pub member_at : (k : ℕ) → k ≤ height t i → is_member t (ancestor t i k) (record_at t i k) ≡ true
  unfolding record_at
  member_at zero l = member_thread t valid (ancestor t i 0) i h (sym (ancestor_home t i))
  member_at (suc k) l = member_domain t (ancestor t i (suc k)) (ancestor t i k) (ancestor_inner t valid i h k l) (ancestor_real t valid i h k) (ancestor_parent_of t valid i h k l)

  pub owner_at : (k : ℕ) → k ≤ height t i → owner_domain t (record_at t i k) ≡ ancestor t i k
  owner_at k l = member_owner t valid (ancestor t i k) (record_at t i k) (member_at k l)

  pub record_small : (k : ℕ) → k ≤ height t i → record_at t i k < 320
  record_small k l = member_small t valid (ancestor t i k) (record_at t i k) (member_at k l)

  -- a member with this thread under it is the record with which the thread works there
  pub member_works : (d r : ℕ) → is_member t d r ≡ true → under t r i ≡ true → Works t i d r
  unfolding under
  member_works d r e u = go r (member_facts t d r e) u
    where
      go : (r : ℕ) → Member t d r → under t r i ≡ true → Works t i d r
      go r (a_thread j s p) u =
          let same = eqb-true j i (rw (lt-ltb j 256 (omega arith)) at u) in
          record { index = 0; within = omega arith; there = ancestor_home t i ∙ ap t.home (sym same) ∙ p; with_record = record_own t i ∙ sym same }
      go r (a_domain c p s q) u =
          let o = path_index t valid i h c (rw (domain_record c, minus_256 c) at u) in
          let k = o.index in
          let below = ancestor_not_root t valid i h k o.within (omega (arith, o.there)) in
          record {
            index = suc k;
            within = below;
            there = sym (ancestor_parent_of t valid i h k below) ∙ ap t.parent o.there ∙ q;
            with_record = record_suc t i k ∙ ap (λ n. 256 + n) o.there;
          }

  -- by domain: the thread's record there is a member's, and the child is on the path
  pub works_at : (d : ℕ) → on_path t i d ≡ true → Works t i d (own_record t i d)
  works_at d e =
      let o = path_index t valid i h d e in
      record { index = o.index; within = o.within; there = o.there; with_record = sym (own_record_at o.index o.within) ∙ ap (own_record t i) o.there }

  pub own_record_member : (d : ℕ) → on_path t i d ≡ true → is_member t d (own_record t i d) ≡ true
  own_record_member d e = let w = works_at d e in rw (w.there, w.with_record) at (member_at w.index w.within)

  pub on_path_child : (d : ℕ) → on_path t i d ≡ true → d ≢ t.home i → on_path t i (child t i d) ≡ true
  on_path_child d e n = let o = path_index t valid i h d e in go o.index o.within o.there
    where
      go : (k : ℕ) → k ≤ height t i → ancestor t i k ≡ d → on_path t i (child t i d) ≡ true
      go zero l q = absurd (n (sym q ∙ ancestor_home t i))
      go (suc k) l q = rw (← q, child_at k l) (on_path_at t valid i h k (omega arith))

  pub record_injective : (k l : ℕ) → k ≤ height t i → l ≤ height t i → record_at t i k ≡ record_at t i l → k ≡ l
  unfolding record_at
  record_injective zero zero a b e = refl
  record_injective zero (suc l) a b e = absurd (omega (arith, valid.few_threads))
  record_injective (suc k) zero a b e = absurd (omega (arith, valid.few_threads))
  record_injective (suc k) (suc l) a b e = ap suc (ancestor_injective t valid i h k l (omega arith) (omega arith) (omega arith))

  -- the child of a domain above the home is not the root
  pub child_inner : (d : ℕ) → on_path t i d ≡ true → d ≢ t.home i → child t i d ≢ 0
  child_inner d e n = let o = path_index t valid i h d e in go o.index o.within o.there
    where
      go : (k : ℕ) → k ≤ height t i → ancestor t i k ≡ d → child t i d ≢ 0
      go zero l q = absurd (n (sym q ∙ ancestor_home t i))
      go (suc k) l q = λ z. let p = ancestor_inner t valid i h k l in let e = sym (child_at k l) ∙ ap (child t i) q ∙ z in omega arith
