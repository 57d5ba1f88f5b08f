-- Sums over the members of a domain, as the call for wait bounds keeps them: from the first record up, from the last one down, and without one member.
use mathlib.Core.Path.{◌≡◌, refl, sym, ap, ◌∙◌}
use mathlib.Core.Logic.{◌≢◌}
use mathlib.Core.Bool.{Bool, true, false, ◌&&◌, not, cond, false≢true}
use Rattle.std.specs.Prelude.{Option, None, Some}
use mathlib.Core.List.{List, [], ◌∷◌}
use Prim.Native.Nat.{ℕ, zero, suc, ◌+◌, ◌-◌, ◌≤◌, ◌<◌}
use native.Mathlib.Omega.{arith}
use lib.Dec.{eqb}
use lib.ListN.{get_or, length, set, replicate, length-set, length-append}
use lib.Seq.{get_or-set_same, get_or-set_other}
use borrow.Author.Tests.{eqb-true, eq-eqb, ne_eqb}
use Rattle.model.specs.Scans.{filter_below}
use Rattle.model.specs.Trees.{Tree, is_member}
use Rattle.model.proofs.Lists.{same_or}
use Rattle.model.proofs.Laws.Counters.{zeros}
use Rattle.bounds.specs.StarvationFreedom.Bounds.{members}
use Rattle.bounds.specs.LongestWait.Bounds.{sum_below, passes, others_passes}
use Rattle.bounds.specs.Answers.{capped}
use Rattle.bounds_call.specs.Waits.{is_owner, weight, Owned, Counted, Before, Others}
use Rattle.bounds_call.proofs.Filling.{capped_small}
use Rattle.bounds_call.proofs.Capped.{capped_sum}

-- ONE MORE NUMBER
-- the sums with a number added for the owner of a record, capped; no change without an owner
abbrev pub added : (sums : List ℕ) → (owner : Option ℕ) → (number : ℕ) → List ℕ
added ws None x = ws
added ws (Some o) x = set ws o (capped (get_or ws o 0 + x))

pub added_room : (ws : List ℕ) (o : Option ℕ) (x : ℕ) → length (added ws o x) ≡ length ws
added_room ws None x = refl
added_room ws (Some o) x = length-set ws o _

kept : (s : ℕ) → capped s ≡ capped (s + 0)
kept s = ap capped (let y : s ≡ s + 0 = omega arith in y)

-- a domain's sum after a number is added to the sum of the owner
pub added_at :
    (ws : List ℕ) (o : Option ℕ) (x d s n : ℕ) → length ws ≡ 64 → d < 64 → get_or ws d 0 ≡ capped s → (is_owner o d ≡ true → x ≡ capped n) →
    get_or (added ws o x) d 0 ≡ capped (s + cond (is_owner o d) n 0)
added_at ws None x d s n l h e f = e ∙ kept s
added_at ws (Some o) x d s n l h e f =
    same_or o d _
    (λ z. rw (eq-eqb o d z) (ap (λ k. get_or (set ws o (capped (get_or ws o 0 + x))) k 0) (sym z) ∙ get_or-set_same ws o (capped (get_or ws o 0 + x)) 0 (omega arith) ∙ here z))
    (λ z. rw (ne_eqb o d z) (get_or-set_other ws o d (capped (get_or ws o 0 + x)) 0 (λ y. z (sym y)) ∙ e ∙ kept s))
  where
    here : o ≡ d → capped (get_or ws o 0 + x) ≡ capped (s + n)
    here z = rw (z, e, f (eq-eqb o d z)) (capped_sum s n)

-- FROM THE FIRST RECORD UP
pub record Summed (t : Tree) (f : ℕ → ℕ) (m : ℕ) (ws : List ℕ) : Type 0 where
  pub sums : (d : ℕ) → d < 64 → get_or ws d 0 ≡ capped (sum_below m (λ q. cond (is_member t d q) (f q) 0))
  pub room : length ws ≡ 64

pub summed_none : (t : Tree) (f : ℕ → ℕ) → Summed t f 0 (replicate 64 0)
unfolding sum_below
summed_none t f = record { sums = λ d h. zeros 64 d ∙ sym (capped_small 0 (omega arith)); room = refl }

pub summed_next :
    (t : Tree) (f : ℕ → ℕ) (m n : ℕ) (o : Option ℕ) (x : ℕ) (ws after : List ℕ) → n ≡ m + 1 → Summed t f m ws → Owned t m o →
    ((d : ℕ) → d < 64 → is_member t d m ≡ true → x ≡ capped (f m)) → after ≡ added ws o x → Summed t f n after
unfolding sum_below
summed_next t f m n o x ws after z summed owned e g =
    let y : n ≡ suc m = omega arith in
    rw g
    (record {
      sums = λ d h. rw (y, owned.owns d h) (added_at ws o x d (sum_below m (λ q. cond (is_member t d q) (f q) 0)) (f m) summed.room h (summed.sums d h) (λ b. e d h (owned.owns d h ∙ b)));
      room = added_room ws o x ∙ summed.room;
    })

-- the members, counted as a sum
count_sum : (n : ℕ) (f : ℕ → Bool) → sum_below n (λ q. cond (f q) 1 0) ≡ length (filter_below n f)
unfolding sum_below filter_below
count_sum zero f = refl
count_sum (suc n) f = rw (count_sum n f, length-append (filter_below n f) (cond (f n) (n ∷ []) [])) (go (f n))
  where
    go : (b : Bool) → length (filter_below n f) + cond b 1 0 ≡ length (filter_below n f) + length (cond b (n ∷ []) [])
    go true = refl
    go false = refl

count_small : (n : ℕ) (f : ℕ → Bool) → length (filter_below n f) ≤ n
unfolding filter_below
count_small zero f = omega arith
count_small (suc n) f = let l = length-append (filter_below n f) (cond (f n) (n ∷ []) []) in let r = count_small n f in let s = go (f n) in omega arith
  where
    go : (b : Bool) → length (cond b (n ∷ []) []) ≤ 1
    go true = omega arith
    go false = omega arith

pub few_members : (t : Tree) (d : ℕ) → members t d ≤ 320
unfolding members
few_members t d = count_small 320 (is_member t d)

-- so far no domain has more members than there are records
pub summed_few : (t : Tree) (m d : ℕ) (ws : List ℕ) → Summed t (λ q. 1) m ws → d < 64 → get_or ws d 0 ≤ m
unfolding capped
summed_few t m d ws summed h = let s = summed.sums d h in let c = count_sum m (is_member t d) in let k = count_small m (is_member t d) in omega arith

pub counted_all : (t : Tree) (n : ℕ) (ws : List ℕ) → n ≡ 320 → Summed t (λ q. 1) n ws → Counted t ws
unfolding members
counted_all t n ws z summed =
    record {
      counted = λ d h. let s = summed.sums d h in let c = count_sum 320 (is_member t d) in let k = count_small 320 (is_member t d) in (rw z at s) ∙ rw c (capped_small (length (filter_below 320 (is_member t d))) (omega arith));
      room = summed.room;
    }

-- for each record so far, the sum before it
pub record BeforeSoFar (t : Tree) (m : ℕ) (before : List ℕ) : Type 0 where
  pub lower : (d q : ℕ) → d < 64 → q < m → is_member t d q ≡ true → get_or before q 0 ≡ capped (sum_below q (weight t d))
  pub room : length before ≡ 320

pub before_none : (t : Tree) → BeforeSoFar t 0 (replicate 320 0)
before_none t = record { lower = λ d q h b e. absurd (omega arith); room = refl }

-- the owner of a member's record is its domain
owner_is : (t : Tree) (m o d : ℕ) → Owned t m (Some o) → d < 64 → is_member t d m ≡ true → o ≡ d
owner_is t m o d owned h e = eqb-true o d (sym (owned.owns d h) ∙ e)

-- a record without an owner is no member's
pub no_owner : (t : Tree) (m d : ℕ) → Owned t m None → d < 64 → is_member t d m ≡ true → ⊥
no_owner t m d owned h e = false≢true (sym (owned.owns d h) ∙ e)

pub before_next :
    (t : Tree) (m n o x : ℕ) (before sums : List ℕ) → n ≡ m + 1 → m < 320 → BeforeSoFar t m before → Summed t (passes t) m sums → Owned t m (Some o) → x ≡ get_or sums o 0 →
    BeforeSoFar t n (set before m x)
unfolding weight
before_next t m n o x before sums z s so_far summed owned e =
    record {
      lower = λ d q h b k.
          same_or q m _
          (λ y. rw y (get_or-set_same before m x 0 (omega (arith, so_far.room)) ∙ e ∙ ap (λ c. get_or sums c 0) (owner_is t m o d owned h (rw y at k)) ∙ summed.sums d h))
          (λ y. get_or-set_other before m q x 0 y ∙ so_far.lower d q h (omega arith) k);
      room = length-set before m x ∙ so_far.room;
    }

pub before_skip : (t : Tree) (m n : ℕ) (before : List ℕ) → n ≡ m + 1 → BeforeSoFar t m before → Owned t m None → BeforeSoFar t n before
before_skip t m n before z so_far owned =
    record {
      lower = λ d q h b k. same_or q m _ (λ y. absurd (no_owner t m d owned h (rw y at k))) (λ y. so_far.lower d q h (omega arith) k);
      room = so_far.room;
    }

pub before_all : (t : Tree) (n : ℕ) (before : List ℕ) → n ≡ 320 → BeforeSoFar t n before → Before t before
before_all t n before z so_far = record { lower = λ d m h b e. so_far.lower d m h (omega arith) e; room = so_far.room }

-- FROM THE LAST RECORD DOWN
sum_grows : (f : ℕ → ℕ) (m n : ℕ) → m ≤ n → sum_below m f ≤ sum_below n f
unfolding sum_below
sum_grows f m zero h = let z : m ≡ 0 = omega arith in rw z (omega arith)
sum_grows f m (suc n) h = same_or m (suc n) _ (λ z. rw z (omega arith)) (λ z. let r = sum_grows f m n (omega arith) in omega arith)

unfoldable pub rest_sum : Tree → (domain from : ℕ) → ℕ
rest_sum t d m = sum_below 320 (weight t d) - sum_below m (weight t d)

rest_next : (t : Tree) (d k : ℕ) → k < 320 → rest_sum t d k ≡ rest_sum t d (suc k) + weight t d k
unfolding rest_sum sum_below
rest_next t d k h = let g = sum_grows (weight t d) (suc k) 320 (omega arith) in split (sum_below 320 (weight t d)) (sum_below k (weight t d)) (weight t d k) g
  where
    split : (a b c : ℕ) → b + c ≤ a → a - b ≡ a - (b + c) + c
    split a b c h = omega arith

pub record Rest (t : Tree) (m : ℕ) (ws : List ℕ) : Type 0 where
  pub rests : (d : ℕ) → d < 64 → get_or ws d 0 ≡ capped (rest_sum t d m)
  pub room : length ws ≡ 64

pub rest_none : (t : Tree) → Rest t 320 (replicate 64 0)
unfolding rest_sum
rest_none t = record { rests = λ d h. zeros 64 d ∙ sym (none (sum_below 320 (weight t d))); room = refl }
  where
    none : (a : ℕ) → capped (a - a) ≡ 0
    none a = let z : a - a ≡ 0 = omega arith in rw z (capped_small 0 (omega arith))

pub rest_down :
    (t : Tree) (m k : ℕ) (o : Option ℕ) (x : ℕ) (ws after : List ℕ) → m ≡ suc k → k < 320 → Rest t m ws → Owned t k o →
    ((d : ℕ) → d < 64 → is_member t d k ≡ true → x ≡ capped (passes t k)) → after ≡ added ws o x → Rest t k after
unfolding weight
rest_down t m k o x ws after z s rest owned e g =
    rw g
    (record {
      rests = λ d h.
          added_at ws o x d (rest_sum t d (suc k)) (passes t k) rest.room h (rw z at (rest.rests d h)) (λ b. e d h (owned.owns d h ∙ b))
          ∙ ap (λ b. capped (rest_sum t d (suc k) + cond b (passes t k) 0)) (sym (owned.owns d h)) ∙ ap capped (sym (rest_next t d k s));
      room = added_room ws o x ∙ rest.room;
    })

-- WITHOUT ONE MEMBER
module _ (t : Tree) (d k : ℕ) where
  abbrev without : ℕ → ℕ
  without q = cond (is_member t d q && not (eqb q k)) (passes t q) 0

  other : (q : ℕ) → q ≢ k → without q ≡ weight t d q
  unfolding weight
  other q n = rw (ne_eqb q k n) (go (is_member t d q))
    where
      go : (b : Bool) → cond (b && true) (passes t q) 0 ≡ cond b (passes t q) 0
      go true = refl
      go false = refl

  itself : (q : ℕ) → q ≡ k → without q ≡ 0
  itself q z = rw (eq-eqb q k z) (go (is_member t d q))
    where
      go : (b : Bool) → cond (b && false) (passes t q) 0 ≡ 0
      go true = refl
      go false = refl

  without_before : (n : ℕ) → n ≤ k → sum_below n without ≡ sum_below n (weight t d)
  unfolding sum_below
  without_before zero h = refl
  without_before (suc n) h = rw (without_before n (omega arith), other n (omega arith))

  without_after : (n : ℕ) → k < n → sum_below n without + weight t d k ≡ sum_below n (weight t d)
  unfolding sum_below
  without_after zero h = absurd (omega arith)
  without_after (suc n) h =
      same_or n k _
      (λ z. let a = without_before n (omega arith) in let b = itself n z in let c : weight t d n ≡ weight t d k = ap (weight t d) z in omega arith)
      (λ z. let a = without_after n (omega arith) in let b = other n z in omega arith)

  others_split : k < 320 → others_passes t d k ≡ sum_below k (weight t d) + rest_sum t d (suc k)
  unfolding others_passes rest_sum sum_below
  others_split h =
      let a = without_after 320 h in
      let g = sum_grows (weight t d) (suc k) 320 (omega arith) in
      split (sum_below 320 without) (sum_below 320 (weight t d)) (sum_below k (weight t d)) (weight t d k) a g
    where
      split : (o a b c : ℕ) → o + c ≡ a → b + c ≤ a → o ≡ b + (a - (b + c))
      split o a b c e h = omega arith

pub record OthersSoFar (t : Tree) (m : ℕ) (others : List ℕ) : Type 0 where
  pub others_of : (d q : ℕ) → d < 64 → m ≤ q → q < 320 → is_member t d q ≡ true → get_or others q 0 ≡ capped (others_passes t d q)
  pub room : length others ≡ 320

pub others_none : (t : Tree) → OthersSoFar t 320 (replicate 320 0)
others_none t = record { others_of = λ d q h a b e. absurd (omega arith); room = refl }

pub others_down :
    (t : Tree) (m k o x y : ℕ) (others before ws : List ℕ) → m ≡ suc k → k < 320 → OthersSoFar t m others → Before t before → Rest t m ws → Owned t k (Some o) →
    y ≡ get_or ws o 0 → x ≡ capped (get_or before k 0 + y) → OthersSoFar t k (set others k x)
others_down t m k o x y others before ws z s so_far lower rest owned e g =
    record {
      others_of = λ d q h a b j.
          same_or q k _
          (λ v.
          let own = owner_is t k o d owned h (rw v at j) in
          rw v (get_or-set_same others k x 0 (omega (arith, so_far.room)) ∙ g ∙ here d h (rw v at j) own))
          (λ v. get_or-set_other others k q x 0 v ∙ so_far.others_of d q h (omega arith) b j);
      room = length-set others k x ∙ so_far.room;
    }
  where
    here : (d : ℕ) → d < 64 → is_member t d k ≡ true → o ≡ d → capped (get_or before k 0 + y) ≡ capped (others_passes t d k)
    here d h j own =
        let r : get_or ws d 0 ≡ capped (rest_sum t d (suc k)) = rw z at (rest.rests d h) in
        rw (lower.lower d k h s j, e, own, r) (capped_sum (sum_below k (weight t d)) (rest_sum t d (suc k)) ∙ ap capped (sym (others_split t d k s)))

pub others_skip : (t : Tree) (m k : ℕ) (others : List ℕ) → m ≡ suc k → OthersSoFar t m others → Owned t k None → OthersSoFar t k others
others_skip t m k others z so_far owned =
    record {
      others_of = λ d q h a b j. same_or q k _ (λ v. absurd (no_owner t k d owned h (rw v at j))) (λ v. so_far.others_of d q h (omega arith) b j);
      room = so_far.room;
    }

pub others_all : (t : Tree) (m : ℕ) (others : List ℕ) → m ≡ 0 → OthersSoFar t m others → Others t others
others_all t m others z so_far = record { others = λ d q h b e. so_far.others_of d q h (omega arith) b e; room = so_far.room }
