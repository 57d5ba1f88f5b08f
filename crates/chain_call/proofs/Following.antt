-- The links of a chain, followed in order.
use mathlib.Core.Path.{◌≡◌, refl, sym, ap, ◌∙◌}
use mathlib.Core.Bool.{Bool, true, false, cond}
use mathlib.Core.List.{List, [], ◌∷◌, ◌++◌}
use mathlib.Core.Logic.{◌≢◌}
use Prim.Native.Nat.{ℕ, zero, suc, ◌+◌, ◌-◌, ◌≤◌, ◌<◌}
use native.Mathlib.Omega.{arith}
use lib.ListN.{get_or, set, length, take, replicate, length-set}
use lib.Seq.{get_or-set_same, get_or-set_other}
use borrow.Author.Tests.{eq-eqb, ne_eqb, lt-ltb}
use Rattle.model.specs.declared.State.{State}
use Rattle.std.specs.Prelude.{None, Some}
use Rattle.model.specs.Trees.{Tree}
use Rattle.model.specs.Runs.{occurrences}
use Rattle.model.proofs.Lists.{same_or}
use Rattle.chain.specs.Chain.{stays, looks_to, only, among, chain_from, chain}
use Rattle.chain.proofs.Chains.{occurrences_snoc}
use Rattle.chain_call.specs.Tables.{some_length, Followed}

-- LISTS
pub take_set : (xs : List ℕ) (n v : ℕ) → n < length xs → take (suc n) (set xs n v) ≡ take n xs ++ (v ∷ [])
take_set [] n v h = absurd (omega arith)
take_set (x ∷ xs) zero v h = refl
take_set (x ∷ xs) (suc n) v h = ap (λ ys. x ∷ ys) (take_set xs n v (omega arith))

take-length : (xs : List ℕ) (n : ℕ) → n ≤ length xs → length (take n xs) ≡ n
take-length xs zero h = refl
take-length [] (suc n) h = absurd (omega arith)
take-length (x ∷ xs) (suc n) h = ap suc (take-length xs n (omega arith))

among_snoc_same : (j : ℕ) (c : List ℕ) → among j (c ++ (j ∷ [])) ≡ true
unfolding among
among_snoc_same j c = lt-ltb 0 (occurrences j (c ++ (j ∷ []))) (rw (occurrences_snoc j j c, eq-eqb j j refl) (omega arith))

among_snoc_other : (x j : ℕ) (c : List ℕ) → x ≢ j → among x (c ++ (j ∷ [])) ≡ among x c
unfolding among
among_snoc_other x j c n = let z : occurrences x (c ++ (j ∷ [])) ≡ occurrences x c = rw (occurrences_snoc x j c, ne_eqb x j n) (omega arith) in rw z refl

-- ONE LINK of the definition
module _ (t : Tree) (s : State) (k : ℕ) (c : List ℕ) (i : ℕ) where
  pub chain_ends : stays t s i ≡ false → chain_from (suc k) t s c i ≡ c
  unfolding chain_from
  chain_ends e = rw e refl

  pub chain_nobody : stays t s i ≡ true → only (looks_to t s i) ≡ 0 → chain_from (suc k) t s c i ≡ []
  unfolding chain_from
  chain_nobody e f = rw (e, f) refl

  module _ (j : ℕ) (e : stays t s i ≡ true) (f : only (looks_to t s i) ≡ suc j) where
    onward : chain_from (suc k) t s c i ≡ cond (among j c) [] (chain_from k t s (c ++ (j ∷ [])) j)
    unfolding chain_from
    onward =
        let z : suc j - 1 ≡ j = omega arith in
        rw (e, f, ne_eqb (suc j) 0 (λ y. omega arith), z) refl

    pub chain_comes_back : among j c ≡ true → chain_from (suc k) t s c i ≡ []
    chain_comes_back g = onward ∙ rw g refl

    pub chain_goes_on : among j c ≡ false → chain_from (suc k) t s c i ≡ chain_from k t s (c ++ (j ∷ [])) j
    chain_goes_on g = onward ∙ rw g refl

-- the length of a chain with a thread on it
some_is : (c : List ℕ) (n : ℕ) → length c ≡ n → 1 ≤ n → Some n ≡ some_length c
some_is [] n e h = absurd (omega arith)
some_is (x ∷ xs) n e h = ap (λ (m : ℕ). Some m) (sym e)

-- THE LOOP: the threads found so far, of which i is the last; the chain continues from i
pub record Follows (t : Tree) (s : State) (start : ℕ) (found : List ℕ) (seen : List Bool) (i n : ℕ) : Type 0 where
  pub some : 1 ≤ n
  pub within : n ≤ t.threads
  pub real : i < t.threads
  pub found_room : length found ≡ 256
  pub seen_room : length seen ≡ 256
  pub marked : (j : ℕ) → j < 256 → get_or seen j false ≡ among j (take n found)
  pub leads : (k : ℕ) → k + n ≡ suc t.threads → chain_from k t s (take n found) i ≡ chain t s start

module _ (t : Tree) (s : State) (start : ℕ) (few : t.threads ≤ 256) (h : start < t.threads) where
  pub follow_first : Follows t s start (set (replicate 256 0) 0 start) (set (replicate 256 false) start true) start 1
  unfolding chain among occurrences
  follow_first =
      record {
        some = omega arith;
        within = omega arith;
        real = h;
        found_room = refl;
        seen_room = length-set (replicate 256 false) start true;
        marked = λ j b. same_or j start _
            (λ e. rw e (get_or-set_same (replicate 256 false) start true false (omega arith) ∙ rw (eq-eqb start start refl) refl))
            (λ e. get_or-set_other (replicate 256 false) start j true false e ∙ never 256 j ∙ rw (ne_eqb j start e) refl);
        leads = λ k e. let z : k ≡ t.threads = omega arith in rw z refl;
      }
    where
      never : (n j : ℕ) → get_or (replicate n false) j false ≡ false
      never zero j = refl
      never (suc n) zero = refl
      never (suc n) (suc j) = never n j

  module _ (found : List ℕ) (seen : List Bool) (i n : ℕ) (x : Follows t s start found seen i n) where
    abbrev k : ℕ
    k = t.threads - n

    abbrev c : List ℕ
    c = take n found

    leads_here : chain_from (suc k) t s c i ≡ chain t s start
    leads_here = x.leads (suc k) (omega (arith, x.within))

    pub follow_ends : stays t s i ≡ false → Followed t.threads (chain t s start) found (Some n)
    follow_ends e =
        let z = sym leads_here ∙ chain_ends t s k c i e in
        let l = take-length found n (omega (arith, x.found_room, x.within)) in
        rw z (record { length_is = some_is c n l x.some; front = rw l refl; room = x.found_room; few = omega (arith, x.within, l) })

    broken : chain_from (suc k) t s c i ≡ [] → Followed t.threads (chain t s start) found None
    broken e =
        let z : chain t s start ≡ [] = sym leads_here ∙ e in
        rw z (record { length_is = refl; front = refl; room = x.found_room; few = omega arith })

    pub follow_nobody : stays t s i ≡ true → only (looks_to t s i) ≡ 0 → Followed t.threads (chain t s start) found None
    follow_nobody e f = broken (chain_nobody t s k c i e f)

    module _ (ahead : ℕ) (e : stays t s i ≡ true) (p : only (looks_to t s i) ≡ suc ahead) (next_real : ahead < t.threads) where
      pub follow_full : n ≡ t.threads → Followed t.threads (chain t s start) found None
      unfolding chain_from
      follow_full z = broken (by (among ahead c) refl)
        where
          by : (b : Bool) → among ahead c ≡ b → chain_from (suc k) t s c i ≡ []
          by true f = chain_comes_back t s k c i ahead e p f
          by false f = chain_goes_on t s k c i ahead e p f ∙ (let y : k ≡ 0 = omega arith in rw y refl)

      pub follow_back : get_or seen ahead false ≡ true → Followed t.threads (chain t s start) found None
      follow_back f = broken (chain_comes_back t s k c i ahead e p (sym (x.marked ahead (omega (arith, next_real))) ∙ f))

      pub follow_next : n ≢ t.threads → get_or seen ahead false ≡ false → Follows t s start (set found n ahead) (set seen ahead true) ahead (n + 1)
      follow_next z f =
          let one_more : n + 1 ≡ suc n = omega arith in
          let b : n < t.threads = omega (arith, x.within, z) in
          let longer : take (suc n) (set found n ahead) ≡ c ++ (ahead ∷ []) = take_set found n ahead (omega (arith, x.found_room)) in
          rw one_more (record {
            some = omega arith;
            within = omega arith;
            real = next_real;
            found_room = length-set found n ahead ∙ x.found_room;
            seen_room = length-set seen ahead true ∙ x.seen_room;
            marked = λ m a. same_or m ahead _
                (λ y. rw (y, longer) (get_or-set_same seen ahead true false (omega (arith, next_real, x.seen_room)) ∙ sym (among_snoc_same ahead c)))
                (λ y. rw longer (get_or-set_other seen ahead m true false y ∙ x.marked m a ∙ sym (among_snoc_other m ahead c y)));
            leads = λ q d.
                let w : q ≡ k = omega arith in
                rw (w, longer) (sym (chain_goes_on t s k c i ahead e p (sym (x.marked ahead (omega (arith, next_real))) ∙ f)) ∙ leads_here);
          })
