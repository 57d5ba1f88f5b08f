-- The words of the domains from a given one on are their allowances, and each domain's word comes from those of its children.
use mathlib.Core.Path.{◌≡◌, refl, sym, ap, ◌∙◌}
use mathlib.Core.Bool.{Bool, true, false, cond}
use mathlib.Core.List.{List, [], ◌∷◌}
use Prim.Native.Nat.{ℕ, zero, suc, ◌+◌, ◌*◌, ◌≤◌, ◌<◌, max}
use native.Mathlib.Omega.{arith}
use native.Mathlib.Nat.{mul_comm, le-mul_of_pos_right}
use lib.Dec.{eqb, ltb}
use borrow.Author.Tests.{eqb-true, eqb-false, ltb-true, ltb-false}
use lib.ListN.{get_or, length, set, replicate}
use lib.Seq.{get_or-set_same, get_or-set_other}
use Rattle.model.specs.Scans.{largest_below}
use Rattle.model.specs.Trees.{Tree, is_child, is_leaf, allowance}
use Rattle.model.proofs.Lists.{same_or, less_or}
use Rattle.model.proofs.Trees.Accepted.{Accepted, child_facts}
use Rattle.model.proofs.Trees.Allowances.{allowance_domain}
use Rattle.model.proofs.Trees.Index.{member_allowance}
use Rattle.model.proofs.Laws.Counters.{zeros}
use Rattle.bounds.specs.Answers.{capped, allowance_word, words_from}

pub capped_small : (n : ℕ) → n ≤ 18446744073709551615 → capped n ≡ n
unfolding capped
capped_small n h = omega arith

pub capped_large : (n : ℕ) → 18446744073709551615 ≤ n → capped n ≡ 18446744073709551615
unfolding capped
capped_large n h = omega arith

-- multiplying by a capped number and capping gives the capped product
pub capped_times : (h n : ℕ) → 1 ≤ h → capped (h * capped n) ≡ capped (h * n)
capped_times h n p =
    less_or n 18446744073709551615 (capped (h * capped n) ≡ capped (h * n)) (λ s. rw (capped_small n (omega arith)))
    (λ l.
    let top = le-mul_of_pos_right 18446744073709551615 p in
    let more = le-mul_of_pos_right n p in
    rw (capped_large n l, mul_comm h 18446744073709551615, mul_comm h n) (capped_large _ top ∙ sym (capped_large _ (omega (arith, more)))))

-- the largest of capped numbers is the capped largest
pub capped_largest : (n : ℕ) (f g : ℕ → ℕ) → ((c : ℕ) → c < n → f c ≡ capped (g c)) → largest_below n f ≡ capped (largest_below n g)
unfolding largest_below capped
capped_largest zero f g e = refl
capped_largest (suc n) f g e = rw (capped_largest n f g (λ c h. e c (omega arith)), e n (omega arith)) (omega arith)

-- the largest of one more number, and of all
pub largest_next : (n : ℕ) (f : ℕ → ℕ) (a b r : ℕ) → a ≡ largest_below n f → b ≡ f n → r ≡ max a b → r ≡ largest_below (n + 1) f
unfolding largest_below
largest_next n f a b r e g m = let z : n + 1 ≡ suc n = omega arith in rw (z, m, e, g)

pub largest_all : (n m : ℕ) (f : ℕ → ℕ) (a : ℕ) → n ≡ m → a ≡ largest_below n f → a ≡ largest_below m f
largest_all n m f a e g = rw (← e) g

-- a list from its words
pub listed : (f : ℕ → ℕ) (ws : List ℕ) (k d : ℕ) → length ws ≡ k → ((x : ℕ) → x < k → get_or ws x 0 ≡ f (d + x)) → ws ≡ words_from f k d
unfolding words_from
listed f [] zero d l e = refl
listed f [] (suc k) d l e = absurd (omega arith)
listed f (w ∷ ws) zero d l e = absurd (omega arith)
listed f (w ∷ ws) (suc k) d l e =
    let z : d + 0 ≡ d = omega arith in
    let front : w ≡ f d = rw z at (e 0 (omega arith)) in
    let back = listed f ws k (d + 1) (omega arith) (λ x h. let y : d + suc x ≡ d + 1 + x = omega arith in rw y at (e (suc x) (omega arith))) in
    ap (λ y. y ∷ ws) front ∙ ap (λ r. f d ∷ r) back

-- the words from domain d on are allowances
pub record Filled (t : Tree) (d : ℕ) (words : List ℕ) : Type 0 where
  pub done : (c : ℕ) → d ≤ c → c < t.domains → get_or words c 0 ≡ capped (allowance t (256 + c))
  pub rest : (c : ℕ) → c < d → get_or words c 0 ≡ 0
  pub after : (c : ℕ) → t.domains ≤ c → get_or words c 0 ≡ 0

-- no domain is done yet
pub filled_none : (t : Tree) → t.domains ≤ 64 → Filled t t.domains (replicate 64 0)
filled_none t few = record { done = λ c a b. absurd (omega arith); rest = λ c h. zeros 64 c; after = λ c h. zeros 64 c }

-- one more domain is done
pub filled_next :
    (t : Tree) (d : ℕ) (ws : List ℕ) (x : ℕ) → Filled t (suc d) ws → d < length ws → d < t.domains → x ≡ capped (allowance t (256 + d)) →
    Filled t d (set ws d x)
filled_next t d ws x filled l s e =
    record {
      done = λ c a b. same_or c d _ (λ z. rw z (get_or-set_same ws d x 0 l ∙ e)) (λ z. get_or-set_other ws d c x 0 z ∙ filled.done c (omega arith) b);
      rest = λ c h. get_or-set_other ws d c x 0 (omega arith) ∙ filled.rest c (omega arith);
      after = λ c h. get_or-set_other ws d c x 0 (omega arith) ∙ filled.after c h;
    }

-- all domains but the root are done: the words of the buffer
word_of :
    (t : Tree) (ws : List ℕ) → Filled t 1 ws → (x : ℕ) (a b : Bool) → eqb x 0 ≡ a → ltb x t.domains ≡ b →
    get_or ws x 0 ≡ allowance_word t (0 + x)
unfolding allowance_word
word_of t ws filled x true b e g = let z : 0 + x ≡ x = omega arith in rw (z, e) (filled.rest x (omega (arith, eqb-true x 0 e)))
word_of t ws filled x false true e g =
    let z : 0 + x ≡ x = omega arith in
    rw (z, e, g) (filled.done x (omega (arith, eqb-false x 0 e)) (ltb-true x t.domains g))
word_of t ws filled x false false e g = let z : 0 + x ≡ x = omega arith in rw (z, e, g) (filled.after x (ltb-false x t.domains g))

pub filled_all : (t : Tree) (ws : List ℕ) → Filled t 1 ws → length ws ≡ 64 → ws ≡ words_from (allowance_word t) 64 0
filled_all t ws filled l = listed (allowance_word t) ws 64 0 l (λ x h. word_of t ws filled x (eqb x 0) (ltb x t.domains) refl refl)

module _ (t : Tree) (valid : Accepted t) where
  -- the children of d have higher numbers, so their words are there
  pub member_word :
      (d : ℕ) (ws : List ℕ) → Filled t (suc d) ws →
      cond (is_leaf t d) 1 (largest_below t.domains (λ c. cond (is_child t d c) (get_or ws c 0) 0)) ≡ capped (member_allowance t d)
  unfolding member_allowance
  member_word d ws filled = go (is_leaf t d) refl
    where
      child : (c : ℕ) → c < t.domains → (b : Bool) → is_child t d c ≡ b → cond (is_child t d c) (get_or ws c 0) 0 ≡ capped (cond (is_child t d c) (allowance t (256 + c)) 0)
      child c s true e =
          let k = child_facts t d c e in
          rw e (filled.done c (omega (arith, valid.parent_lower c k.no_root s, k.its_child)) s)
      child c s false e = rw e (sym (capped_small 0 (omega arith)))

      go :
          (b : Bool) → is_leaf t d ≡ b →
          cond (is_leaf t d) 1 (largest_below t.domains (λ c. cond (is_child t d c) (get_or ws c 0) 0))
          ≡ capped (cond (is_leaf t d) 1 (largest_below t.domains (λ c. cond (is_child t d c) (allowance t (256 + c)) 0)))
      go true e = rw e (sym (capped_small 1 (omega arith)))
      go false e = rw e (capped_largest t.domains _ _ (λ c s. child c s (is_child t d c) refl))

  pub next_word :
      (d : ℕ) (ws : List ℕ) → Filled t (suc d) ws → 0 < d → d < t.domains →
      capped (t.threshold d * capped (member_allowance t d)) ≡ capped (allowance t (256 + d))
  next_word d ws filled p s = capped_times (t.threshold d) (member_allowance t d) (valid.threshold_some d p s) ∙ ap capped (sym (allowance_domain t valid d))
