-- Domains and threads that are laid out keep their places, whatever is laid out after them.
use mathlib.Core.Path.{◌≡◌, refl, sym, ◌∙◌, ap}
use mathlib.Core.List.{List, [], ◌∷◌, ◌++◌, append_assoc, append-nil}
use Prim.Native.Nat.{ℕ, ◌+◌, ◌≤◌, ◌<◌}
use native.Mathlib.Omega.{arith}
use lib.ListN.{length, get_or, replicate, length-append, get_or-append}
use Rattle.text_tree.specs.Grammar.{Shape, leaf, inner, Domains, last, more, Laid, domain_laid, threads_laid, tree_laid, domains_laid}

pub record Extends (l m : Laid) : Type 0 where
  pub more_parents : List ℕ
  pub more_thresholds : List ℕ
  pub more_homes : List ℕ
  pub parents_extend : m.parents ≡ l.parents ++ more_parents
  pub thresholds_extend : m.thresholds ≡ l.thresholds ++ more_thresholds
  pub homes_extend : m.homes ≡ l.homes ++ more_homes
  pub as_many_more : length more_thresholds ≡ length more_parents

extends_again : (l m n : Laid) → Extends l m → Extends m n → Extends l n
extends_again l m n a b =
    record {
      more_parents = a.more_parents ++ b.more_parents;
      more_thresholds = a.more_thresholds ++ b.more_thresholds;
      more_homes = a.more_homes ++ b.more_homes;
      parents_extend = rw (b.parents_extend, a.parents_extend, append_assoc);
      thresholds_extend = rw (b.thresholds_extend, a.thresholds_extend, append_assoc);
      homes_extend = rw (b.homes_extend, a.homes_extend, append_assoc);
      as_many_more =
          omega
          (arith, length-append a.more_thresholds b.more_thresholds, length-append a.more_parents b.more_parents, a.as_many_more, b.as_many_more);
    }

pub domain_extends : (l : Laid) (p h : ℕ) → Extends l (domain_laid l p h)
unfolding domain_laid
domain_extends l p h =
    record {
      more_parents = p ∷ [];
      more_thresholds = h ∷ [];
      more_homes = [];
      parents_extend = refl;
      thresholds_extend = refl;
      homes_extend = sym (append-nil l.homes);
      as_many_more = refl;
    }

leaf_extends : (n d : ℕ) (l : Laid) → Extends l (tree_laid (leaf n) d l)
unfolding tree_laid threads_laid
leaf_extends n d l =
    record {
      more_parents = [];
      more_thresholds = [];
      more_homes = replicate n d;
      parents_extend = sym (append-nil l.parents);
      thresholds_extend = sym (append-nil l.thresholds);
      homes_extend = refl;
      as_many_more = refl;
    }

inner_extends : (es : Domains) (d : ℕ) (l : Laid) → Extends l (domains_laid es d l) → Extends l (tree_laid (inner es) d l)
unfolding tree_laid
inner_extends es d l a = a

last_extends :
    (h : ℕ) (t : Shape) (p : ℕ) (l : Laid) → Extends (domain_laid l p h) (tree_laid t (length l.parents) (domain_laid l p h)) →
    Extends l (domains_laid (last h t) p l)
unfolding tree_laid
last_extends h t p l a = extends_again l (domain_laid l p h) _ (domain_extends l p h) a

more_extends :
    (h : ℕ) (t : Shape) (es : Domains) (p : ℕ) (l : Laid) →
    Extends (domain_laid l p h) (tree_laid t (length l.parents) (domain_laid l p h)) →
    Extends (tree_laid t (length l.parents) (domain_laid l p h)) (domains_laid es p (tree_laid t (length l.parents) (domain_laid l p h))) →
    Extends l (domains_laid (more h t es) p l)
unfolding tree_laid
more_extends h t es p l a b = extends_again l _ _ (extends_again l (domain_laid l p h) _ (domain_extends l p h) a) b

mutual
  pub tree_extends : (t : Shape) (d : ℕ) (l : Laid) → Extends l (tree_laid t d l)
  tree_extends (leaf n) d l = leaf_extends n d l
  tree_extends (inner es) d l = inner_extends es d l (domains_extend es d l)

  pub domains_extend : (es : Domains) (p : ℕ) (l : Laid) → Extends l (domains_laid es p l)
  domains_extend (last h t) p l = last_extends h t p l (tree_extends t (length l.parents) (domain_laid l p h))
  domains_extend (more h t es) p l =
      more_extends h t es p l (tree_extends t (length l.parents) (domain_laid l p h))
      (domains_extend es p (tree_laid t (length l.parents) (domain_laid l p h)))

pub parents_longer : (l m : Laid) → Extends l m → length l.parents ≤ length m.parents
parents_longer l m a = omega (arith, ap length a.parents_extend, length-append l.parents a.more_parents)

-- one threshold for each domain
abbrev pub AsMany : Laid → Type 0
AsMany l = length l.thresholds ≡ length l.parents

pub as_many_still : (l m : Laid) → Extends l m → AsMany l → AsMany m
as_many_still l m a e =
    omega (
      arith,
      ap length a.parents_extend,
      ap length a.thresholds_extend,
      length-append l.parents a.more_parents,
      length-append l.thresholds a.more_thresholds,
      a.as_many_more,
    )

pub one_longer : (l : Laid) (p h : ℕ) → length (domain_laid l p h).parents ≡ length l.parents + 1
unfolding domain_laid
one_longer l p h = length-append l.parents (p ∷ [])

-- functions that give the words of domains and threads
pub record Agrees (parent threshold home : ℕ → ℕ) (l : Laid) : Type 0 where
  pub parents_agree : (x : ℕ) → 0 < x → x < length l.parents → parent x ≡ get_or l.parents x 0
  pub thresholds_agree : (x : ℕ) → 0 < x → x < length l.thresholds → threshold x ≡ get_or l.thresholds x 0
  pub homes_agree : (x : ℕ) → x < length l.homes → home x ≡ get_or l.homes x 0

kept : (xs ys zs : List ℕ) (x : ℕ) → zs ≡ xs ++ ys → x < length xs → (x < length zs) × (get_or zs x 0 ≡ get_or xs x 0)
kept xs ys zs x e h = (omega (arith, ap length e, length-append xs ys), ap (λ l. get_or l x 0) e ∙ get_or-append xs ys 0 x h)

pub agrees_before : (f g k : ℕ → ℕ) (l m : Laid) → Extends l m → Agrees f g k m → Agrees f g k l
agrees_before f g k l m a b =
    record {
      parents_agree = λ x p h. let r = kept l.parents a.more_parents m.parents x a.parents_extend h in b.parents_agree x p r.0 ∙ r.1;
      thresholds_agree = λ x p h.
          let r = kept l.thresholds a.more_thresholds m.thresholds x a.thresholds_extend h in
          b.thresholds_agree x p r.0 ∙ r.1;
      homes_agree = λ x h. let r = kept l.homes a.more_homes m.homes x a.homes_extend h in b.homes_agree x r.0 ∙ r.1;
    }
