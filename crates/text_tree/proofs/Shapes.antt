-- A text's tree is laid out in blocks.
use mathlib.Core.Path.{◌≡◌, refl, ◌∙◌, ap}
use mathlib.Core.List.{List, [], ◌∷◌, ◌++◌}
use Prim.Native.Nat.{ℕ, suc, ◌+◌, ◌-◌, ◌≤◌, ◌<◌}
use native.Mathlib.Omega.{arith}
use lib.ListN.{length, get_or, replicate, length-append, length-replicate, get_or-replicate}
use lib.Seq.{get_or-append_seam, get_or-append-add}
use Rattle.text_tree.specs.Grammar.{Shape, leaf, inner, Domains, last, more, Numeral, numeral, TreeText, leaf_text, inner_text, DomainsText, last_text, more_text, Laid, domain_laid, threads_laid, tree_laid, domains_laid}
use Rattle.text_tree.proofs.Complete.{first_value, value_grows}
use Rattle.text_tree.proofs.Laying.{domain_extends, tree_extends, domains_extend, parents_longer, AsMany, as_many_still, one_longer, Agrees, agrees_before}
use Rattle.text_tree.proofs.Blocks.{Block, leaf_block, inner_block, child_block, joined_block}

numeral_some : {xs : List ℕ} {n : ℕ} → Numeral xs n → 1 ≤ n
numeral_some (numeral {b} {bs} lo hi x) = rw (first_value b bs) (omega (arith, value_grows (b - 48) bs))

module _ (f g k : ℕ → ℕ) where
  -- the block of a domain's tree; the domains below it have the next numbers
  abbrev TreeBlock : Shape → (domain : ℕ) → Laid → (levels : ℕ) → Type 0
  TreeBlock t d l n =
      Block f g k d d (length l.parents) (length (tree_laid t d l).parents) (length l.homes) (length (tree_laid t d l).homes) n

  abbrev ListBlock : Domains → (domain : ℕ) → Laid → (levels : ℕ) → Type 0
  ListBlock es d l n =
      Block f g k d (length l.parents) (length l.parents) (length (domains_laid es d l).parents) (length l.homes) (length (domains_laid es d l).homes) n

  leaf_laid : (n d : ℕ) (l : Laid) (levels : ℕ) → 1 ≤ n → length l.parents ≡ d + 1 → Agrees f g k (tree_laid (leaf n) d l) → TreeBlock (leaf n) d l levels
  unfolding tree_laid threads_laid
  leaf_laid n d l levels some newest a =
      let many : length (l.homes ++ replicate n d) ≡ length l.homes + n =
      length-append l.homes (replicate n d) ∙ ap (λ m. length l.homes + m) (length-replicate n d) in
      rw newest
      (leaf_block f g k d (length l.homes) (length (l.homes ++ replicate n d)) levels (omega (arith, many))
      (λ x lo hi.
      let z : length l.homes + (x - length l.homes) ≡ x = omega arith in
      let there : get_or (l.homes ++ replicate n d) (length l.homes + (x - length l.homes)) 0 ≡ d =
      get_or-append-add l.homes (replicate n d) (x - length l.homes) 0 ∙ get_or-replicate n (x - length l.homes) d 0 (omega (arith, many)) in
      a.homes_agree x hi ∙ rw z at there))

  inner_laid : (es : Domains) (d : ℕ) (l : Laid) (levels : ℕ) → length l.parents ≡ d + 1 → ListBlock es d l levels → TreeBlock (inner es) d l levels
  unfolding tree_laid
  inner_laid es d l levels newest b = inner_block f g k d _ _ _ _ levels (omega arith) b

  -- a child: its parent and threshold are those that it was laid out with
  parent_laid : (h p : ℕ) (l : Laid) → 0 < length l.parents → Agrees f g k (domain_laid l p h) → f (length l.parents) ≡ p
  unfolding domain_laid
  parent_laid h p l some a =
      a.parents_agree (length l.parents) some (omega (arith, one_longer l p h)) ∙ get_or-append_seam l.parents p [] 0

  threshold_laid : (h p : ℕ) (l : Laid) → 0 < length l.parents → AsMany l → Agrees f g k (domain_laid l p h) → g (length l.parents) ≡ h
  unfolding domain_laid
  threshold_laid h p l some many a =
      rw (← many)
      (a.thresholds_agree (length l.thresholds) (omega arith) (omega (arith, length-append l.thresholds (h ∷ [])))
      ∙ get_or-append_seam l.thresholds h [] 0)

  homes_kept : (l : Laid) (p h : ℕ) → length (domain_laid l p h).homes ≡ length l.homes
  unfolding domain_laid
  homes_kept l p h = refl

  child_laid :
      (h : ℕ) (t : Shape) (p : ℕ) (l : Laid) (levels : ℕ) → p < length l.parents → AsMany l → (1 ≤ h) × (h ≤ 65535) →
      Agrees f g k (domain_laid l p h) → TreeBlock t (length l.parents) (domain_laid l p h) levels →
      Block f g k p (length l.parents) (length l.parents) (length (tree_laid t (length l.parents) (domain_laid l p h)).parents)
      (length l.homes) (length (tree_laid t (length l.parents) (domain_laid l p h)).homes) (suc levels)
  child_laid h t p l levels under many good a b =
      let some : 0 < length l.parents = omega arith in
      let is = threshold_laid h p l some many a in
      child_block f g k p (length l.parents) _ _ _ levels (rw (one_longer l p h, homes_kept l p h) at b) under (parent_laid h p l some a) (rw is good)

  last_laid :
      (h : ℕ) (t : Shape) (p : ℕ) (l : Laid) (levels : ℕ) → p < length l.parents → AsMany l → (1 ≤ h) × (h ≤ 65535) →
      Agrees f g k (domains_laid (last h t) p l) →
      (Agrees f g k (tree_laid t (length l.parents) (domain_laid l p h)) → TreeBlock t (length l.parents) (domain_laid l p h) levels) →
      ListBlock (last h t) p l (suc levels)
  unfolding tree_laid
  last_laid h t p l levels under many good a tree =
      let before = agrees_before f g k (domain_laid l p h) _ (tree_extends t (length l.parents) (domain_laid l p h)) a in
      child_laid h t p l levels under many good before (tree a)

  more_laid :
      (h : ℕ) (t : Shape) (es : Domains) (p : ℕ) (l : Laid) (levels : ℕ) → p < length l.parents → AsMany l → (1 ≤ h) × (h ≤ 65535) →
      Agrees f g k (domains_laid (more h t es) p l) →
      (Agrees f g k (tree_laid t (length l.parents) (domain_laid l p h)) → TreeBlock t (length l.parents) (domain_laid l p h) levels) →
      (Agrees f g k (domains_laid es p (tree_laid t (length l.parents) (domain_laid l p h))) →
      ListBlock es p (tree_laid t (length l.parents) (domain_laid l p h)) (suc levels)) → ListBlock (more h t es) p l (suc levels)
  unfolding tree_laid
  more_laid h t es p l levels under many good a tree others =
      let first = tree_laid t (length l.parents) (domain_laid l p h) in
      let in_first = agrees_before f g k first _ (domains_extend es p first) a in
      let before = agrees_before f g k (domain_laid l p h) first (tree_extends t (length l.parents) (domain_laid l p h)) in_first in
      joined_block f g k p _ _ _ _ _ _ (suc levels) (child_laid h t p l levels under many good before (tree in_first)) (others a) under

  inner_agrees : (es : Domains) (d : ℕ) (l : Laid) → Agrees f g k (tree_laid (inner es) d l) → Agrees f g k (domains_laid es d l)
  unfolding tree_laid
  inner_agrees es d l a = a

  -- there is one threshold per domain, and a parent is among the domains, also after more is laid out
  child_many : (l : Laid) (p h : ℕ) → AsMany l → AsMany (domain_laid l p h)
  child_many l p h many = as_many_still l (domain_laid l p h) (domain_extends l p h) many

  tree_many : (t : Shape) (l : Laid) (d p h : ℕ) → AsMany l → AsMany (tree_laid t d (domain_laid l p h))
  tree_many t l d p h many = as_many_still (domain_laid l p h) _ (tree_extends t d (domain_laid l p h)) (child_many l p h many)

  still_under : (t : Shape) (l : Laid) (d p h : ℕ) → p < length l.parents → p < length (tree_laid t d (domain_laid l p h)).parents
  still_under t l d p h under =
      omega (arith, parents_longer l (domain_laid l p h) (domain_extends l p h), parents_longer (domain_laid l p h) _ (tree_extends t d (domain_laid l p h)))

  mutual
    pub tree_block :
        {n : ℕ} {bytes : List ℕ} {t : Shape} → TreeText n bytes t → (d : ℕ) (l : Laid) → length l.parents ≡ d + 1 → AsMany l →
        Agrees f g k (tree_laid t d l) → TreeBlock t d l n
    tree_block (leaf_text {k = n} {n = m} e x) d l newest many a = leaf_laid m d l n (numeral_some x) newest a
    tree_block (inner_text {k = n} {es = es} e x) d l newest many a =
        inner_laid es d l (suc n) newest (list_block x d l (omega arith) many (inner_agrees es d l a))

    list_block :
        {n : ℕ} {bytes : List ℕ} {es : Domains} → DomainsText n bytes es → (p : ℕ) (l : Laid) → p < length l.parents → AsMany l →
        Agrees f g k (domains_laid es p l) → ListBlock es p l (suc n)
    list_block (last_text {k = n} {h = h} {t = t} e x fits y) p l under many a =
        last_laid h t p l n under many (numeral_some x, fits) a
        (λ b. tree_block y (length l.parents) (domain_laid l p h) (one_longer l p h) (child_many l p h many) b)
    list_block (more_text {k = n} {h = h} {t = t} {es = es} e x fits y z) p l under many a =
        more_laid h t es p l n under many (numeral_some x, fits) a
        (λ b. tree_block y (length l.parents) (domain_laid l p h) (one_longer l p h) (child_many l p h many) b)
        (λ b. list_block z p (tree_laid t (length l.parents) (domain_laid l p h)) (still_under t l (length l.parents) p h under) (tree_many t l (length l.parents) p h many) b)
