-- The chain without fuel, and the refusals of the call.
use mathlib.Core.Path.{◌≡◌, refl, ap, ◌∙◌}
use mathlib.Core.Bool.{Bool, true, false, ◌||◌, cond}
use mathlib.Core.List.{List, [], ◌∷◌, ◌++◌, append-nil}
use mathlib.Core.Logic.{◌≢◌}
use Prim.Native.Nat.{ℕ, zero, suc, ◌+◌, ◌-◌, ◌≤◌, ◌<◌}
use native.Mathlib.Omega.{arith}
use lib.Dec.{eqb}
use lib.ListN.{length}
use borrow.Author.Tests.{eqb-false, eq-eqb, ne_eqb, ltb-false, le-ltb}
use Rattle.model.specs.declared.State.{State}
use Rattle.model.specs.Scans.{filter_below}
use Rattle.model.specs.Trees.{Tree}
use Rattle.model.specs.States.{place}
use Rattle.model.specs.Runs.{occurrences}
use Rattle.model.specs.Refusals.{has_number, tree_tests}
use Rattle.model.specs.Laws.{RefusalLaw}
use Rattle.model.proofs.Tests.{or_neither}
use Rattle.model.proofs.Refusing.{numbered}
use Rattle.model.proofs.Laws.Refusals.{refusal_law}
use Rattle.model.proofs.Lists.{same_or}
use Rattle.claims.proofs.Words.Tickets.{list_short}
use Rattle.claims.proofs.Claims.Bounded.{same_count}
use Rattle.model.proofs.Counted.{occurrences_one}
use Rattle.chain.specs.Chain.{stays, looked_to, looks_to, only, among, chain_from, chain}
use Rattle.chain.specs.Answers.{chain_tests}
use Rattle.chain.specs.Laws.{ChainOn, ends, goes_on, ChainLaw, ChainRefusalLaw}

-- LISTS
pub only_one : (xs : List ℕ) → only xs ≢ 0 → xs ≡ (only xs - 1) ∷ []
unfolding only
only_one [] n = absurd (n refl)
only_one (j ∷ []) n = ap (λ x. x ∷ []) (let z : j ≡ suc j - 1 = omega arith in z)
only_one (j ∷ k ∷ js) n = absurd (n refl)

only_of : (j : ℕ) → only (j ∷ []) ≡ suc j
unfolding only
only_of j = refl

pub among_none : (j : ℕ) (c : List ℕ) → among j c ≡ false → occurrences j c ≡ 0
unfolding among
among_none j c e = let b = ltb-false 0 (occurrences j c) e in omega arith

pub none_among : (j : ℕ) (c : List ℕ) → occurrences j c ≡ 0 → among j c ≡ false
unfolding among
none_among j c e = le-ltb 0 (occurrences j c) (omega arith)

pub length_snoc : (c : List ℕ) (j : ℕ) → length (c ++ (j ∷ [])) ≡ suc (length c)
length_snoc [] j = refl
length_snoc (x ∷ c) j = ap suc (length_snoc c j)

pub occurrences_snoc : (x j : ℕ) (c : List ℕ) → occurrences x (c ++ (j ∷ [])) ≡ occurrences x c + cond (eqb x j) 1 0
unfolding occurrences
occurrences_snoc x j [] = omega arith
occurrences_snoc x j (y ∷ c) = omega (arith, occurrences_snoc x j c)

-- the numbers that pass a test below a bound are below the bound
filter_small : (n : ℕ) (f : ℕ → Bool) (a : ℕ) → 1 ≤ occurrences a (filter_below n f) → a < n
unfolding filter_below occurrences
filter_small zero f a h = absurd (omega arith)
filter_small (suc n) f a h = by (filter_small n f a) (f n) refl
  where
    by : (1 ≤ occurrences a (filter_below n f) → a < n) → (b : Bool) → f n ≡ b → a < suc n
    by rec true e =
        let h' : 1 ≤ occurrences a (filter_below n f ++ (n ∷ [])) = rw e at h in
        same_or a n _ (λ z. omega arith) (λ z. let y : 1 ≤ occurrences a (filter_below n f) = (let u = occurrences_snoc a n (filter_below n f) in let v = ne_eqb a n z in let k : occurrences a (filter_below n f ++ (n ∷ [])) ≡ occurrences a (filter_below n f) + cond false 1 0 = rw v at u in omega arith) in let r = rec y in omega arith)
    by rec false e =
        let h' : 1 ≤ occurrences a (filter_below n f) = rw (e, append-nil (filter_below n f)) at h in
        let r = rec h' in omega arith

-- threads of the tree, none twice
pub record SomeThreads (t : Tree) (c : List ℕ) : Type 0 where
  pub once : (j : ℕ) → occurrences j c ≤ 1
  pub real : (j : ℕ) → 1 ≤ occurrences j c → j < t.threads

module _ (t : Tree) where
  pub threads_short : (c : List ℕ) → SomeThreads t c → length c ≤ t.threads
  threads_short c x = list_short t.threads c (λ a h. x.real a (rw (same_count a c) at h)) (λ a. rw (same_count a c) (x.once a))

  pub threads_one : (i : ℕ) → i < t.threads → SomeThreads t (i ∷ [])
  unfolding occurrences
  threads_one i h =
      record {
        once = λ j. same_or j i _ (λ e. rw (eq-eqb j i e) (omega arith)) (λ e. rw (ne_eqb j i e) (omega arith));
        real = λ j b. let e = occurrences_one j i b in omega arith;
      }

  pub threads_more : (c : List ℕ) (j : ℕ) → SomeThreads t c → j < t.threads → occurrences j c ≡ 0 → SomeThreads t (c ++ (j ∷ []))
  threads_more c j x h e =
      record {
        once = λ a. same_or a j _
            (λ z. let y : occurrences a c ≡ 0 = rw z e in rw (occurrences_snoc a j c, eq-eqb a j z) (omega arith))
            (λ z. rw (occurrences_snoc a j c, ne_eqb a j z) (omega (arith, x.once a)));
        real = λ a b. same_or a j _ (λ z. omega arith)
            (λ z. x.real a (let u : occurrences a (c ++ (j ∷ [])) ≡ occurrences a c + 0 = occurrences_snoc a j c ∙ ap (λ v. occurrences a c + cond v 1 0) (ne_eqb a j z) in omega arith));
      }

module _ (t : Tree) (s : State) where
  pub looks_small : (i j : ℕ) → looks_to t s i ≡ j ∷ [] → j < t.threads
  unfolding looks_to occurrences
  looks_small i j e = by (stays t s i) refl
    where
      by : (b : Bool) → stays t s i ≡ b → j < t.threads
      by true z =
          let e' : filter_below t.threads (looked_to t s i (place s i)) ≡ j ∷ [] = rw z at e in
          filter_small t.threads (looked_to t s i (place s i)) j (rw (e', eq-eqb j j refl) (omega arith))
      by false z = let e' : [] ≡ j ∷ [] = rw z at e in absurd (let y : ◌≡◌ {A = ℕ} 0 1 = ap length e' in omega arith)

  -- ONE LINK of the definition
  pub from_end : (k : ℕ) (c : List ℕ) (i : ℕ) → stays t s i ≡ false → chain_from (suc k) t s c i ≡ c
  unfolding chain_from
  from_end k c i e = rw e refl

  pub from_link : (k : ℕ) (c : List ℕ) (i j : ℕ) → stays t s i ≡ true → looks_to t s i ≡ j ∷ [] → occurrences j c ≡ 0 → chain_from (suc k) t s c i ≡ chain_from k t s (c ++ (j ∷ [])) j
  unfolding chain_from
  from_link k c i j e l o =
      let one : only (looks_to t s i) ≡ suc j = ap only l ∙ only_of j in
      let z : suc j - 1 ≡ j = omega arith in
      rw (e, one, ne_eqb (suc j) 0 (λ y. omega arith), z, none_among j c o) refl

  found_from : (k : ℕ) (c : List ℕ) (i : ℕ) → chain_from k t s c i ≢ [] → ChainOn t s c i (chain_from k t s c i)
  unfolding chain_from
  found_from zero c i n = absurd (n refl)
  found_from (suc k) c i n = by (found_from k) (stays t s i) refl
    where
      by : ((c : List ℕ) (i : ℕ) → chain_from k t s c i ≢ [] → ChainOn t s c i (chain_from k t s c i)) → (b : Bool) → stays t s i ≡ b → ChainOn t s c i (chain_from (suc k) t s c i)
      by rec false e = rw e (ends c i e)
      by rec true e = on (eqb (only (looks_to t s i)) 0 || among (only (looks_to t s i) - 1) c) refl
        where
          on : (b : Bool) → eqb (only (looks_to t s i)) 0 || among (only (looks_to t s i) - 1) c ≡ b → ChainOn t s c i (chain_from (suc k) t s c i)
          on true f = absurd (n (rw (e, f) refl))
          on false f =
              let both = or_neither (eqb (only (looks_to t s i)) 0) (among (only (looks_to t s i) - 1) c) f in
              let j = only (looks_to t s i) - 1 in
              let n' : chain_from k t s (c ++ (j ∷ [])) j ≢ [] = rw (e, f) at n in
              rw (e, f) (goes_on c i j _ e (only_one (looks_to t s i) (eqb-false _ 0 both.0)) (among_none j c both.1) (rec (c ++ (j ∷ [])) j n'))

  exactly_from : {c all : List ℕ} {i : ℕ} → ChainOn t s c i all → (k : ℕ) → SomeThreads t c → k + length c ≡ suc t.threads → chain_from k t s c i ≡ all
  exactly_from (ends c i e) zero x f = absurd (let b = threads_short t c x in omega arith)
  exactly_from (ends c i e) (suc k) x f = from_end k c i e
  exactly_from (goes_on c i j all e l o r) zero x f = absurd (let b = threads_short t c x in omega arith)
  exactly_from (goes_on c i j all e l o r) (suc k) x f =
      from_link k c i j e l o ∙ exactly_from r k (threads_more t c j x (looks_small i j l) o) (omega (arith, length_snoc c j))

pub chain_law : ChainLaw
unfolding ChainLaw chain
chain_law t s i h =
    record {
      found = found_from t s t.threads (i ∷ []) i;
      exactly = λ c r. exactly_from t s r t.threads (threads_one t i h) (omega arith);
    }

pub chain_refusal_law : ChainRefusalLaw
unfolding ChainRefusalLaw RefusalLaw chain_tests tree_tests has_number
chain_refusal_law t s i room = refusal_law (chain_tests t s i room) (numbered (chain_tests t s i room) refl)
