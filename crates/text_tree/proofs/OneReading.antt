-- A text is the text of only one tree.
use mathlib.Core.Path.{◌≡◌, refl, sym, ◌∙◌, ap}
use mathlib.Core.List.{List, [], ◌∷◌, ◌++◌, append_assoc}
use Prim.Native.Nat.{ℕ, ◌≤◌, ◌<◌}
use native.Mathlib.Omega.{arith}
use lib.Dec.{lit<}
use Rattle.text_tree.specs.Grammar.{Shape, leaf, inner, Domains, last, more, value_from, Digits, no_digit, next_digit, Numeral, numeral, TreeText, leaf_text, inner_text, DomainsText, last_text, more_text}
use Rattle.text_tree.specs.TextLaws.{OneReadingLaw}

heads : (a b : ℕ) (xs ys : List ℕ) → a ∷ xs ≡ b ∷ ys → a ≡ b
heads a b xs ys e = cc

tails : (a b : ℕ) (xs ys : List ℕ) → a ∷ xs ≡ b ∷ ys → xs ≡ ys
tails a b xs ys e = cc

-- digits end at the first byte that is no digit
digits_one :
    {xs ys : List ℕ} → Digits xs → Digits ys → (b c : ℕ) (x y : List ℕ) → b < 48 → c < 48 → xs ++ (b ∷ x) ≡ ys ++ (c ∷ y) →
    (xs ≡ ys) × (b ∷ x ≡ c ∷ y)
digits_one no_digit no_digit b c x y l m e = (refl, e)
digits_one no_digit (next_digit {b = a} {bs = ys} lo hi h) b c x y l m e = let z = heads b a x (ys ++ (c ∷ y)) e in absurd (omega arith)
digits_one (next_digit {b = a} {bs = xs} lo hi h) no_digit b c x y l m e = let z = heads a c (xs ++ (b ∷ x)) y e in absurd (omega arith)
digits_one (next_digit {b = a} {bs = xs} lo hi h) (next_digit {b = d} {bs = ys} lo2 hi2 g) b c x y l m e =
    let rest = digits_one h g b c x y l m (tails a d (xs ++ (b ∷ x)) (ys ++ (c ∷ y)) e) in
    let same = heads a d (xs ++ (b ∷ x)) (ys ++ (c ∷ y)) e in
    let first = rest.0 in
    (cc, rest.1)

numeral_one :
    {xs ys : List ℕ} {m n : ℕ} → Numeral xs m → Numeral ys n → (b c : ℕ) (x y : List ℕ) → b < 48 → c < 48 → xs ++ (b ∷ x) ≡ ys ++ (c ∷ y) →
    (m ≡ n) × (b ∷ x ≡ c ∷ y)
numeral_one (numeral {b = a} {bs = xs} lo hi h) (numeral {b = d} {bs = ys} lo2 hi2 g) b c x y l m e =
    let rest = digits_one h g b c x y l m (tails a d (xs ++ (b ∷ x)) (ys ++ (c ∷ y)) e) in
    let same = heads a d (xs ++ (b ∷ x)) (ys ++ (c ∷ y)) e in
    let first = rest.0 in
    let both : a ∷ xs ≡ d ∷ ys = cc in
    (ap (value_from 0) both, rest.1)

-- what a text begins with
record Opens (bytes : List ℕ) : Type 0 where
  pub after : List ℕ
  pub opens : bytes ≡ 40 ∷ after

tree_opens : {k : ℕ} {bytes : List ℕ} {t : Shape} → TreeText k bytes t → Opens bytes
tree_opens (leaf_text {xs = xs} e x) = record { after = 35 ∷ (xs ++ (41 ∷ [])); opens = e }
tree_opens (inner_text {xs = xs} e x) = record { after = xs ++ (41 ∷ []); opens = e }

record Begins (bytes : List ℕ) : Type 0 where
  pub first : ℕ
  pub after : List ℕ
  pub begins : bytes ≡ first ∷ after
  pub digit : 49 ≤ first

numeral_begins : {xs : List ℕ} {n : ℕ} → Numeral xs n → (ys : List ℕ) → Begins (xs ++ ys)
numeral_begins (numeral {b} {bs} lo hi h) ys = record { first = b; after = bs ++ ys; begins = refl; digit = lo }

list_begins : {k : ℕ} {bytes : List ℕ} {es : Domains} → DomainsText k bytes es → Begins bytes
list_begins (last_text {ys = ys} e x f y) = rw e (numeral_begins x ys)
list_begins (more_text {ys = ys} {zs = zs} e x f y z) = rw e (numeral_begins x (ys ++ (32 ∷ zs)))

-- one lemma per case
leaf_leaf :
    {m n : ℕ} {ps qs xs ys : List ℕ} (x y : List ℕ) → ps ≡ 40 ∷ 35 ∷ (xs ++ (41 ∷ [])) → Numeral xs m → qs ≡ 40 ∷ 35 ∷ (ys ++ (41 ∷ [])) →
    Numeral ys n → ps ++ x ≡ qs ++ y → (leaf m ≡ leaf n) × (x ≡ y)
leaf_leaf {m} {n} {ps} {qs} {xs} {ys} x y p a q b e =
    let whole : 40 ∷ 35 ∷ ((xs ++ (41 ∷ [])) ++ x) ≡ 40 ∷ 35 ∷ ((ys ++ (41 ∷ [])) ++ y) = ap (λ l. l ++ x) (sym p) ∙ e ∙ ap (λ l. l ++ y) q in
    let inside : (xs ++ (41 ∷ [])) ++ x ≡ (ys ++ (41 ∷ [])) ++ y = cc in
    let r = numeral_one a b 41 41 x y (lit< tt) (lit< tt) (sym (append_assoc xs (41 ∷ []) x) ∙ inside ∙ append_assoc ys (41 ∷ []) y) in
    (ap leaf r.0, tails 41 41 x y r.1)

leaf_inner :
    {k : ℕ} {ps qs ys : List ℕ} {es : Domains} {C : Type 0} (xs x y : List ℕ) → ps ≡ 40 ∷ 35 ∷ (xs ++ (41 ∷ [])) → qs ≡ 40 ∷ (ys ++ (41 ∷ [])) →
    DomainsText k ys es → ps ++ x ≡ qs ++ y → C
leaf_inner {ps = ps} {qs} {ys} xs x y p q b e =
    let g = list_begins b in
    let whole : 40 ∷ 35 ∷ ((xs ++ (41 ∷ [])) ++ x) ≡ 40 ∷ (g.first ∷ ((g.after ++ (41 ∷ [])) ++ y)) =
    ap (λ l. l ++ x) (sym p) ∙ e ∙ ap (λ l. l ++ y) (q ∙ ap (λ l. 40 ∷ (l ++ (41 ∷ []))) g.begins) in
    let same : 35 ≡ g.first = cc in
    absurd (omega (arith, g.digit))

inner_inner :
    {es fs : Domains} {ps qs : List ℕ} (xs ys x y : List ℕ) → ps ≡ 40 ∷ (xs ++ (41 ∷ [])) → qs ≡ 40 ∷ (ys ++ (41 ∷ [])) → ps ++ x ≡ qs ++ y →
    (xs ++ (41 ∷ x) ≡ ys ++ (41 ∷ y) → (es ≡ fs) × (x ≡ y)) → (inner es ≡ inner fs) × (x ≡ y)
inner_inner {es} {fs} {ps} {qs} xs ys x y p q e ih =
    let whole : 40 ∷ ((xs ++ (41 ∷ [])) ++ x) ≡ 40 ∷ ((ys ++ (41 ∷ [])) ++ y) = ap (λ l. l ++ x) (sym p) ∙ e ∙ ap (λ l. l ++ y) q in
    let inside : (xs ++ (41 ∷ [])) ++ x ≡ (ys ++ (41 ∷ [])) ++ y = cc in
    let r = ih (sym (append_assoc xs (41 ∷ []) x) ∙ inside ∙ append_assoc ys (41 ∷ []) y) in
    (ap inner r.0, r.1)

-- two domains with the same bytes, whatever follows them: their thresholds, their trees and what follows are the same
domain_domain :
    {k l g h : ℕ} {xs ys us vs : List ℕ} {t u : Shape} (x y : List ℕ) → Numeral xs g → TreeText k us t → Numeral ys h → TreeText l vs u →
    xs ++ (us ++ x) ≡ ys ++ (vs ++ y) → (us ++ x ≡ vs ++ y → (t ≡ u) × (x ≡ y)) → (g ≡ h) × ((t ≡ u) × (x ≡ y))
domain_domain {xs = xs} {ys} {us} {vs} x y a t b u e ih =
    let o = tree_opens t in
    let q = tree_opens u in
    let open_us : us ++ x ≡ 40 ∷ (o.after ++ x) = ap (λ l. l ++ x) o.opens in
    let open_vs : vs ++ y ≡ 40 ∷ (q.after ++ y) = ap (λ l. l ++ y) q.opens in
    let r =
    numeral_one a b 40 40 (o.after ++ x) (q.after ++ y) (lit< tt) (lit< tt)
    (ap (λ l. xs ++ l) (sym open_us) ∙ e ∙ ap (λ l. ys ++ l) open_vs) in
    (r.0, ih (open_us ∙ r.1 ∙ sym open_vs))

-- after a domain the list continues or is closed
regroup : (xs ys zs rest : List ℕ) → (xs ++ (ys ++ (32 ∷ zs))) ++ rest ≡ xs ++ (ys ++ (32 ∷ (zs ++ rest)))
regroup xs ys zs rest = simp append_assoc

last_last :
    {k l g h : ℕ} {ps qs xs ys us vs : List ℕ} {t u : Shape} (x y : List ℕ) → ps ≡ xs ++ us → Numeral xs g → TreeText k us t → qs ≡ ys ++ vs →
    Numeral ys h → TreeText l vs u → ps ++ (41 ∷ x) ≡ qs ++ (41 ∷ y) →
    (us ++ (41 ∷ x) ≡ vs ++ (41 ∷ y) → (t ≡ u) × (41 ∷ x ≡ 41 ∷ y)) → (last g t ≡ last h u) × (x ≡ y)
last_last {xs = xs} {ys} {us} {vs} {t} {u} x y p a tt1 q b uu e ih =
    let whole : xs ++ (us ++ (41 ∷ x)) ≡ ys ++ (vs ++ (41 ∷ y)) =
    sym (append_assoc xs us (41 ∷ x)) ∙ ap (λ l. l ++ (41 ∷ x)) (sym p) ∙ e ∙ ap (λ l. l ++ (41 ∷ y)) q ∙ append_assoc ys vs (41 ∷ y) in
    let r = domain_domain (41 ∷ x) (41 ∷ y) a tt1 b uu whole ih in
    let first = r.0 in
    let second = r.1.0 in
    (cc, tails 41 41 x y r.1.1)

last_more :
    {k l g h : ℕ} {ps qs xs ys us vs : List ℕ} {t u : Shape} {C : Type 0} (zs x y : List ℕ) → ps ≡ xs ++ us → Numeral xs g → TreeText k us t →
    qs ≡ ys ++ (vs ++ (32 ∷ zs)) → Numeral ys h → TreeText l vs u → ps ++ (41 ∷ x) ≡ qs ++ (41 ∷ y) →
    (us ++ (41 ∷ x) ≡ vs ++ (32 ∷ (zs ++ (41 ∷ y))) → (t ≡ u) × (41 ∷ x ≡ 32 ∷ (zs ++ (41 ∷ y)))) → C
last_more {xs = xs} {ys} {us} {vs} zs x y p a tt1 q b uu e ih =
    let whole : xs ++ (us ++ (41 ∷ x)) ≡ ys ++ (vs ++ (32 ∷ (zs ++ (41 ∷ y)))) =
    sym (append_assoc xs us (41 ∷ x)) ∙ ap (λ l. l ++ (41 ∷ x)) (sym p) ∙ e ∙ ap (λ l. l ++ (41 ∷ y)) q ∙ regroup ys vs zs (41 ∷ y) in
    let r = domain_domain (41 ∷ x) (32 ∷ (zs ++ (41 ∷ y))) a tt1 b uu whole ih in
    let same = heads 41 32 x (zs ++ (41 ∷ y)) r.1.1 in
    absurd (omega arith)

more_more :
    {k l g h : ℕ} {ps qs xs ys us vs : List ℕ} {t u : Shape} {es fs : Domains} (zs ws x y : List ℕ) → ps ≡ xs ++ (us ++ (32 ∷ zs)) → Numeral xs g →
    TreeText k us t → qs ≡ ys ++ (vs ++ (32 ∷ ws)) → Numeral ys h → TreeText l vs u → ps ++ (41 ∷ x) ≡ qs ++ (41 ∷ y) →
    (us ++ (32 ∷ (zs ++ (41 ∷ x))) ≡ vs ++ (32 ∷ (ws ++ (41 ∷ y))) → (t ≡ u) × (32 ∷ (zs ++ (41 ∷ x)) ≡ 32 ∷ (ws ++ (41 ∷ y)))) →
    (zs ++ (41 ∷ x) ≡ ws ++ (41 ∷ y) → (es ≡ fs) × (x ≡ y)) → (more g t es ≡ more h u fs) × (x ≡ y)
more_more {xs = xs} {ys} {us} {vs} zs ws x y p a tt1 q b uu e ih jh =
    let whole : xs ++ (us ++ (32 ∷ (zs ++ (41 ∷ x)))) ≡ ys ++ (vs ++ (32 ∷ (ws ++ (41 ∷ y)))) =
    sym (regroup xs us zs (41 ∷ x)) ∙ ap (λ l. l ++ (41 ∷ x)) (sym p) ∙ e ∙ ap (λ l. l ++ (41 ∷ y)) q ∙ regroup ys vs ws (41 ∷ y) in
    let r = domain_domain (32 ∷ (zs ++ (41 ∷ x))) (32 ∷ (ws ++ (41 ∷ y))) a tt1 b uu whole ih in
    let rest = jh (tails 32 32 (zs ++ (41 ∷ x)) (ws ++ (41 ∷ y)) r.1.1) in
    let first = r.0 in
    let second = r.1.0 in
    let third = rest.0 in
    (cc, rest.1)

mutual
  tree_one :
      {k l : ℕ} {ps qs : List ℕ} {t u : Shape} → TreeText k ps t → TreeText l qs u → (x y : List ℕ) → ps ++ x ≡ qs ++ y → (t ≡ u) × (x ≡ y)
  tree_one (leaf_text p a) (leaf_text q b) x y e = leaf_leaf x y p a q b e
  tree_one (leaf_text {xs = xs} p a) (inner_text q b) x y e = leaf_inner xs x y p q b e
  tree_one (inner_text p a) (leaf_text {xs = xs} q b) x y e = leaf_inner xs y x q p a (sym e)
  tree_one (inner_text {xs = xs} p a) (inner_text {xs = ys} q b) x y e = inner_inner xs ys x y p q e (λ i. domains_one a b x y i)

  domains_one :
      {k l : ℕ} {ps qs : List ℕ} {es fs : Domains} → DomainsText k ps es → DomainsText l qs fs → (x y : List ℕ) →
      ps ++ (41 ∷ x) ≡ qs ++ (41 ∷ y) → (es ≡ fs) × (x ≡ y)
  domains_one (last_text p a f t) (last_text q b g u) x y e = last_last x y p a t q b u e (λ i. tree_one t u _ _ i)
  domains_one (last_text p a f t) (more_text {zs = zs} q b g u z) x y e = last_more zs x y p a t q b u e (λ i. tree_one t u _ _ i)
  domains_one (more_text {zs = zs} p a f t z) (last_text q b g u) x y e = last_more zs y x q b u p a t (sym e) (λ i. let r = tree_one t u _ _ (sym i) in (sym r.0, sym r.1))
  domains_one (more_text {zs = zs} p a f t z) (more_text {zs = ws} q b g u o) x y e =
      more_more zs ws x y p a t q b u e (λ i. tree_one t u _ _ i) (λ i. domains_one z o x y i)

pub one_reading : OneReadingLaw
unfolding OneReadingLaw
one_reading bytes t u a b = (tree_one a b [] [] refl).0
