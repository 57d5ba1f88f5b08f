-- EMPTY DOMAINS: 16 refuses a tree exactly if a domain has no thread under it and no earlier test refuses.
use mathlib.Core.Path.{◌≡◌, refl, sym, ap, ◌∙◌}
use mathlib.Core.Bool.{Bool, true, false, true≢false}
use mathlib.Core.List.{List, [], ◌∷◌, ◌++◌}
use mathlib.Core.Logic.{inl, inr}
use Prim.Native.Nat.{ℕ, ◌+◌, ◌-◌, ◌<◌}
use native.Mathlib.Omega.{arith}
use lib.Dec.{eqb}
use borrow.Author.Tests.{eq-eqb, not-false, le-ltb}
use Rattle.model.specs.Trees.{Tree, on_path, under}
use Rattle.model.specs.Refusals.{refusal, Test, empty_domain, empty_tests, tests_before_16, tree_tests, has_number, tree_refusal}
use Rattle.model.specs.Laws.{Refuses, here, later, AllPass, RefusesExactly, RefusalLaw, HasThread, RefusesEmpty, EmptyLaw}
use Rattle.model.proofs.Tests.{or_right, any_found, any_one}
use Rattle.model.proofs.Refusing.{numbered}
use Rattle.model.proofs.Trees.Accepted.{accepted_before}
use Rattle.model.proofs.Trees.Index.{height}
use Rattle.model.proofs.Trees.Paths.{ancestor_root, on_path_at}
use Rattle.model.proofs.Laws.Refusals.{lowest, Outcome, all_pass, refuses, outcome, same_number, same_place, accepted_number, refusal_law, tree_refuses_exactly}
use Rattle.model.proofs.Laws.Calls.{pass_split, pass_join, tree_passes, tree_passed}

-- UNDER A DOMAIN
pub under_domain : (t : Tree) (d i : ℕ) → under t (256 + d) i ≡ on_path t i d
unfolding under
under_domain t d i = let z : 256 + d - 256 ≡ d = omega arith in rw (le-ltb (256 + d) 256 (omega arith), z)

-- the test as a fact: a thread under the domain, or none
pub has_one : (t : Tree) (d : ℕ) → empty_domain t d ≡ false → HasThread t d
unfolding empty_domain
has_one t d e =
    let r = any_one t.threads (under t (256 + d)) (not-false _ e) in
    record { thread = r.index; real = r.below; below = r.holds }

pub one_there : (t : Tree) (d : ℕ) → HasThread t d → empty_domain t d ≡ false
unfolding empty_domain
one_there t d h = rw (any_found t.threads (under t (256 + d)) h.thread h.real h.below)

pub none_there : (t : Tree) (d : ℕ) → (HasThread t d → ⊥) → empty_domain t d ≡ true
none_there t d h = by (empty_domain t d) refl
  where
    by : (b : Bool) → empty_domain t d ≡ b → b ≡ true
    by true e = refl
    by false e = absurd (h (has_one t d e))

has_none : (t : Tree) (d : ℕ) → empty_domain t d ≡ true → HasThread t d → ⊥
has_none t d e h = true≢false (sym e ∙ one_there t d h)

-- TESTS AFTER OTHERS
refuses_after : (xs ys : List Test) (n p : ℕ) → AllPass xs → Refuses ys n p → Refuses (xs ++ ys) n p
unfolding AllPass
refuses_after [] ys n p g r = r
refuses_after (x ∷ xs) ys n p g r = later x (xs ++ ys) n p g.0 (refuses_after xs ys n p g.1 r)

refuses_before : (xs ys : List Test) (n p : ℕ) → Refuses xs n p → Refuses (xs ++ ys) n p
refuses_before xs ys n p (here x zs k h b l) = here x (zs ++ ys) k h b l
refuses_before xs ys n p (later x zs m k g r) = later x (zs ++ ys) m k g (refuses_before zs ys m k r)

-- a list refuses only with its own numbers
own_number : (xs : List Test) (n p : ℕ) → Refuses xs n p → has_number xs n ≡ true
unfolding has_number
own_number xs n p (here x zs k h b l) = rw (eq-eqb x.number x.number refl)
own_number xs n p (later x zs m k g r) = or_right (eqb x.number m) (has_number zs m) (own_number zs m k r)

module _ (t : Tree) where
  abbrev before : List Test
  before = tests_before_16 t

  law : RefusesExactly before
  unfolding RefusalLaw has_number
  law = refusal_law before (numbered before refl)

  not_before : has_number before 16 ≡ false
  unfolding has_number
  not_before = refl

  -- the tree's tests are those before 16, then 16
  split : AllPass (tree_tests t) → AllPass before × AllPass (empty_tests t)
  unfolding tree_tests
  split g = pass_split before (empty_tests t) g

  join : AllPass before → AllPass (empty_tests t) → AllPass (tree_tests t)
  unfolding tree_tests
  join f g = pass_join before (empty_tests t) f g

  passes_16 : AllPass (empty_tests t) → (d : ℕ) → d < t.domains → HasThread t d
  unfolding AllPass
  passes_16 g d l = has_one t d (g.0 d l)

  all_there : ((d : ℕ) → d < t.domains → HasThread t d) → AllPass (empty_tests t)
  unfolding AllPass
  all_there h = (λ d l. one_there t d (h d l), tt)

  refused_there : AllPass before → (p : ℕ) → p < t.domains → empty_domain t p ≡ true → ((q : ℕ) → q < p → empty_domain t q ≡ false) → tree_refusal t ≡ refusal 16 p
  unfolding tree_refusal tree_tests
  refused_there g p l b none =
      ((tree_refuses_exactly t).refused 16 p (omega arith)).1 (refuses_after before (empty_tests t) 16 p g (here _ _ p l b none))

  -- if 16 refuses, the tests before it pass
  passed_before : (p : ℕ) → tree_refusal t ≡ refusal 16 p → AllPass before
  unfolding tree_refusal tree_tests has_number
  passed_before p e = by (outcome before (numbered before refl))
    where
      by : Outcome before → AllPass before
      by (all_pass g) = g
      by (refuses n q z r) =
          let f = ((tree_refuses_exactly t).refused n q z).1 (refuses_before before (empty_tests t) n q r) in
          let same : n ≡ 16 = same_number n q 16 p (sym f ∙ e) in
          absurd (true≢false (sym (rw same at (own_number before n q r)) ∙ not_before))

  record LowestEmpty (p : ℕ) : Type 0 where
    within : p < t.domains
    none : HasThread t p → ⊥
    lower : (q : ℕ) → q < p → HasThread t q

  lowest_empty : (p : ℕ) → tree_refusal t ≡ refusal 16 p → LowestEmpty p
  unfolding refusal
  lowest_empty p e =
      let g = passed_before p e in
      elim (lowest (empty_domain t) t.domains) [
        | inl all ↦
            let z = tree_passes t (join g (all_there (λ d l. has_one t d (all d l)))) in
            absurd (let y : (tree_refusal t).number ≡ 16 = ap (λ r. r.number) e in omega arith)
        | inr l ↦
            let f = refused_there g l.place l.within l.bad l.none_below in
            let same : l.place ≡ p = same_place 16 l.place 16 p (sym f ∙ e) in
            let found : LowestEmpty l.place =
            record { within = l.within; none = has_none t l.place l.bad; lower = λ q m. has_one t q (l.none_below q m) }
            in
            rw same at found
      ]

  -- each thread's path ends at the root
  root_there : AllPass before → HasThread t 0
  root_there g =
      let valid = accepted_before t (ap (λ r. r.number) (law.passed.1 g) ∙ accepted_number) in
      let at = on_path_at t valid 0 valid.some_thread (height t 0) (omega arith) in
      record { thread = 0; real = valid.some_thread; below = under_domain t 0 0 ∙ rw (ancestor_root t valid 0 valid.some_thread) at at }

  refuses_empty : RefusesEmpty t
  refuses_empty =
      record {
        accepted_exactly = (
          λ e. let both = split (tree_passed t e) in (both.0, passes_16 both.1),
          λ h. tree_passes t (join h.0 (all_there h.1)),
        );
        refused_exactly = λ p. (
          λ e. let l = lowest_empty p e in (passed_before p e, l.within, l.none, l.lower),
          λ h. refused_there h.0 p h.1 (none_there t p h.2) (λ q m. one_there t q (h.3 q m)),
        );
        root_has_one = root_there;
      }

pub empty_law : EmptyLaw
unfolding EmptyLaw
empty_law t = refuses_empty t
