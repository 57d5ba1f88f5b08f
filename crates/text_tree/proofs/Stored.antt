-- The words that reading adds are those of the tree, as long as the arrays are long enough.
use mathlib.Core.Path.{◌≡◌, refl, sym, ◌∙◌, ap}
use mathlib.Core.Bool.{Bool, true, false}
use mathlib.Core.List.{List, [], ◌∷◌, ◌++◌, append_assoc}
use mathlib.Core.Logic.{⊎_elim}
use Prim.Native.Nat.{ℕ, zero, suc, ◌+◌, ◌-◌, ◌≤◌, ◌<◌}
use native.Mathlib.Omega.{arith}
use lib.Dec.{ltb}
use lib.ListN.{length, drop, set, replicate, length-append, length-replicate}
use lib.Seq.{sets, sets-eq, set_at, take_at, drop-append-add}
use borrow.Author.Tests.{ltb-true, ltb-false, lt-ltb, le-leb, lt-leb}
use Rattle.model.specs.declared.TreeWords.{TreeWords}
use Rattle.text_tree.specs.Words.{least, root_words, new_number, domain_added, threads_after, filled_from, threads_added}
use Rattle.text_tree.specs.Grammar.{Shape, leaf, inner, Domains, last, more, Laid, root_laid, domain_laid, threads_laid, tree_laid, domains_laid, laid_out, domains_in, threads_in, in_room, words_of}
use Rattle.text_tree.proofs.Digits.{least_limit, least_below, least_above, least_cases}
use Rattle.text_tree.proofs.Laying.{domain_extends, tree_extends, parents_longer}
use Rattle.text_tree.proofs.Complete.{tree_added, domains_added}

pub record Holds (w : TreeWords) (l : Laid) : Type 0 where
  pub domains_counted : w.domains ≡ least 65 (length l.parents)
  pub threads_counted : w.threads ≡ least 257 (length l.homes)
  pub as_many : length l.thresholds ≡ length l.parents
  pub parents_held : length l.parents ≤ 64 → w.parents ≡ in_room 64 l.parents
  pub thresholds_held : length l.parents ≤ 64 → w.thresholds ≡ in_room 64 l.thresholds
  pub homes_held : length l.parents ≤ 64 → length l.homes ≤ 256 → w.homes ≡ in_room 256 l.homes
  pub queue_root : w.ticket_root ≡ 0

pub root_holds : Holds root_words root_laid
unfolding root_words root_laid
root_holds =
    record {
      domains_counted = sym (least_below 65 1 (omega arith));
      threads_counted = sym (least_below 257 0 (omega arith));
      as_many = refl;
      parents_held = λ h. refl;
      thresholds_held = λ h. refl;
      homes_held = λ h g. refl;
      queue_root = refl;
    }

-- ONE DOMAIN
one_longer : (xs : List ℕ) (v : ℕ) → length (xs ++ (v ∷ [])) ≡ length xs + 1
one_longer xs v = length-append xs (v ∷ [])

store_next : (room : ℕ) (xs : List ℕ) (n v : ℕ) → n ≡ length xs → length xs < room → set (in_room room xs) n v ≡ in_room room (xs ++ (v ∷ []))
store_next room xs n v e h =
    let z : room - length xs ≡ suc (room - (length xs + 1)) = omega arith in
    rw (z, set_at xs 0 (replicate (room - (length xs + 1)) 0) v n (sym e), one_longer xs v, append_assoc xs (v ∷ []))

module _ (w : TreeWords) (l : Laid) (p q h : ℕ) (a : Holds w l) where
  domain_fits : length l.parents < 64 → p ≡ q → Holds (domain_added w p h) (domain_laid l q h)
  unfolding domain_added domain_laid
  domain_fits f same =
      let many : w.domains ≡ length l.parents = a.domains_counted ∙ least_below 65 (length l.parents) (omega arith) in
      let below : w.domains < 64 = omega arith in
      let longer = one_longer l.parents q in
      let counted : w.domains + 1 ≡ least 65 (length l.parents + 1) =
      ap (λ n. n + 1) many ∙ sym (least_below 65 (length l.parents + 1) (omega arith)) in
      rw (lt-leb 64 w.domains below)
      (record {
        domains_counted = rw longer counted;
        threads_counted = a.threads_counted;
        as_many = omega (arith, longer, one_longer l.thresholds h, a.as_many);
        parents_held = λ k. rw (a.parents_held (omega arith), same) (store_next 64 l.parents w.domains q many f);
        thresholds_held =
            λ k. rw (a.thresholds_held (omega arith))
            (store_next 64 l.thresholds w.domains h (many ∙ sym a.as_many) (omega (arith, a.as_many)));
        homes_held = λ k g. a.homes_held (omega arith) g;
        queue_root = refl;
      })

  domain_over : 64 ≤ length l.parents → Holds (domain_added w p h) (domain_laid l q h)
  unfolding domain_added domain_laid
  domain_over f =
      let longer = one_longer l.parents q in
      let many : 64 ≤ w.domains =
      ⊎_elim (λ c. omega (arith, c.0, c.1, a.domains_counted)) (λ c. omega (arith, c.0, c.1, a.domains_counted))
      (least_cases 65 (length l.parents)) in
      rw (le-leb 64 w.domains many)
      (record {
        domains_counted = rw longer (sym (least_above 65 (length l.parents + 1) (omega arith)));
        threads_counted = a.threads_counted;
        as_many = omega (arith, longer, one_longer l.thresholds h, a.as_many);
        parents_held = λ k. absurd (omega arith);
        thresholds_held = λ k. absurd (omega arith);
        homes_held = λ k g. absurd (omega arith);
        queue_root = refl;
      })

  pub domain_holds : (length l.parents < 64 → p ≡ q) → Holds (domain_added w p h) (domain_laid l q h)
  domain_holds same = go (ltb (length l.parents) 64) refl
    where
      go : (b : Bool) → ltb (length l.parents) 64 ≡ b → Holds (domain_added w p h) (domain_laid l q h)
      go true e = let f = ltb-true (length l.parents) 64 e in domain_fits f (same f)
      go false e = domain_over (ltb-false (length l.parents) 64 e)

-- the number that the next domain gets in reading
pub number_held : (w : TreeWords) (l : Laid) → Holds w l → length l.parents < 64 → new_number w.domains ≡ length l.parents
unfolding new_number
number_held w l a f =
    let many : w.domains ≡ length l.parents = a.domains_counted ∙ least_below 65 (length l.parents) (omega arith) in
    rw (many, lt-ltb (length l.parents) 64 f)

-- THREADS
rest_of_room : (n k : ℕ) → drop {A = ℕ} n (replicate (n + k) 0) ≡ replicate k 0
rest_of_room zero k = let z : 0 + k ≡ k = omega arith in rw z
rest_of_room (suc n) k = let z : suc n + k ≡ suc (n + k) = omega arith in rw z (rest_of_room n k)

fill_next :
    (room : ℕ) (xs : List ℕ) (n d : ℕ) → length xs + n ≤ room → sets (in_room room xs) (length xs) (replicate n d) ≡ in_room room (xs ++ replicate n d)
fill_next room xs n d h =
    let z : room - length xs ≡ n + (room - (length xs + n)) = omega arith in
    let long : length (in_room room xs) ≡ room =
    length-append xs (replicate (room - length xs) 0) ∙ ap (λ k. length xs + k) (length-replicate (room - length xs) 0) ∙ omega arith in
    let many : length (replicate n d) ≡ n = length-replicate n d in
    let both : length (xs ++ replicate n d) ≡ length xs + n = length-append xs (replicate n d) ∙ ap (λ k. length xs + k) many in
    sets-eq (replicate n d) (in_room room xs) (length xs) (omega (arith, long, many))
    ∙ ap (λ l. (l ++ replicate n d) ++ drop (length xs + length (replicate n d)) (in_room room xs)) (take_at xs (replicate (room - length xs) 0) (length xs) refl)
    ∙ ap (λ l. (xs ++ replicate n d) ++ l)
    (ap (λ k. drop (length xs + k) (in_room room xs)) many ∙ drop-append-add xs (replicate (room - length xs) 0) n
    ∙ ap (λ k. drop n (replicate k 0)) z ∙ rest_of_room n (room - (length xs + n)) ∙ ap (λ k. replicate (room - k) 0) (sym both))

pub by_least : {C : Type 0} (m n : ℕ) → (n ≤ m → least m n ≡ n → C) → (m ≤ n → least m n ≡ m → C) → C
by_least m n f g = ⊎_elim (λ c. f c.0 c.1) (λ c. g c.0 c.1) (least_cases m n)

-- capped counts add up to the capped sum
counts_add : (m n : ℕ) → threads_after (least 257 m) (least 257 n) ≡ least 257 (m + n)
unfolding threads_after
counts_add m n =
    let again : least 257 (least 257 m) ≡ least 257 m = least_below 257 (least 257 m) (least_limit 257 m) in
    rw again
    (by_least 257 m
    (λ a b. by_least 257 n
    (λ c d. by_least (257 - least 257 m) (least 257 n)
    (λ e f. by_least 257 (m + n) (λ g h. omega arith) (λ g h. omega arith))
    (λ e f. by_least 257 (m + n) (λ g h. omega arith) (λ g h. omega arith)))
    (λ c d. by_least (257 - least 257 m) (least 257 n)
    (λ e f. by_least 257 (m + n) (λ g h. omega arith) (λ g h. omega arith))
    (λ e f. by_least 257 (m + n) (λ g h. omega arith) (λ g h. omega arith))))
    (λ a b. by_least 257 n
    (λ c d. by_least (257 - least 257 m) (least 257 n)
    (λ e f. by_least 257 (m + n) (λ g h. omega arith) (λ g h. omega arith))
    (λ e f. by_least 257 (m + n) (λ g h. omega arith) (λ g h. omega arith)))
    (λ c d. by_least (257 - least 257 m) (least 257 n)
    (λ e f. by_least 257 (m + n) (λ g h. omega arith) (λ g h. omega arith))
    (λ e f. by_least 257 (m + n) (λ g h. omega arith) (λ g h. omega arith)))))

module _ (w : TreeWords) (l : Laid) (d e n : ℕ) (a : Holds w l) where
  count_held : threads_after w.threads (least 257 n) ≡ least 257 (length l.homes + n)
  count_held = rw a.threads_counted (counts_add (length l.homes) n)

  homes_longer_by : length (l.homes ++ replicate n e) ≡ length l.homes + n
  homes_longer_by = length-append l.homes (replicate n e) ∙ ap (λ k. length l.homes + k) (length-replicate n e)

  filled_held :
      length l.parents ≤ 64 → length l.homes + n ≤ 256 → d ≡ e →
      filled_from w.homes (least 257 w.threads) (least 256 (threads_after w.threads (least 257 n))) d
      ≡ in_room 256 (l.homes ++ replicate n e)
  filled_held k g same =
      let m = length l.homes in
      let many : w.threads ≡ m = a.threads_counted ∙ least_below 257 m (omega arith) in
      let from : least 257 w.threads ≡ m = ap (least 257) many ∙ least_below 257 m (omega arith) in
      let end : least 256 (threads_after w.threads (least 257 n)) ≡ m + n =
      ap (least 256) (count_held ∙ least_below 257 (m + n) (omega arith)) ∙ least_below 256 (m + n) g in
      let z : m + n - m ≡ n = omega arith in
      rw (from, end, a.homes_held k (omega arith), same, z) (fill_next 256 l.homes n e g)

  pub threads_hold : (length l.parents ≤ 64 → d ≡ e) → Holds (threads_added w d (least 257 n)) (threads_laid l e n)
  unfolding threads_added threads_laid
  threads_hold same =
      record {
        domains_counted = a.domains_counted;
        threads_counted = count_held ∙ ap (least 257) (sym homes_longer_by);
        as_many = a.as_many;
        parents_held = a.parents_held;
        thresholds_held = a.thresholds_held;
        homes_held = λ k g. filled_held k (omega (arith, homes_longer_by)) (same k);
        queue_root = refl;
      }

-- TREES
leaf_holds :
    (n d e : ℕ) (w : TreeWords) (l : Laid) → Holds w l → (length l.parents ≤ 64 → d ≡ e) →
    Holds (tree_added (leaf n) d w) (tree_laid (leaf n) e l)
unfolding tree_added tree_laid
leaf_holds n d e w l a same = threads_hold w l d e n a same

inner_holds :
    (es : Domains) (d e : ℕ) (w : TreeWords) (l : Laid) → Holds (domains_added es d w) (domains_laid es e l) →
    Holds (tree_added (inner es) d w) (tree_laid (inner es) e l)
unfolding tree_added tree_laid
inner_holds es d e w l a = a

last_holds :
    (h : ℕ) (t : Shape) (p q : ℕ) (w : TreeWords) (l : Laid) →
    Holds (tree_added t (new_number w.domains) (domain_added w p h)) (tree_laid t (length l.parents) (domain_laid l q h)) →
    Holds (domains_added (last h t) p w) (domains_laid (last h t) q l)
unfolding tree_added tree_laid
last_holds h t p q w l a = a

more_holds :
    (h : ℕ) (t : Shape) (es : Domains) (p q : ℕ) (w : TreeWords) (l : Laid) →
    Holds (domains_added es p (tree_added t (new_number w.domains) (domain_added w p h)))
    (domains_laid es q (tree_laid t (length l.parents) (domain_laid l q h))) →
    Holds (domains_added (more h t es) p w) (domains_laid (more h t es) q l)
unfolding tree_added tree_laid
more_holds h t es p q w l a = a

-- the numbers agree as long as one more domain fits
number_same :
    (w : TreeWords) (l : Laid) (q h : ℕ) → Holds w l → length (domain_laid l q h).parents ≤ 64 → new_number w.domains ≡ length l.parents
unfolding domain_laid
number_same w l q h a f = number_held w l a (omega (arith, one_longer l.parents q))

still_same :
    (t : Shape) (d p q h : ℕ) (l : Laid) → (length l.parents ≤ 64 → p ≡ q) → length (tree_laid t d (domain_laid l q h)).parents ≤ 64 → p ≡ q
still_same t d p q h l same f =
    same (omega (arith, parents_longer l (domain_laid l q h) (domain_extends l q h), parents_longer (domain_laid l q h) _ (tree_extends t d (domain_laid l q h))))

mutual
  pub tree_holds :
      (t : Shape) (d e : ℕ) (w : TreeWords) (l : Laid) → Holds w l → (length l.parents ≤ 64 → d ≡ e) → Holds (tree_added t d w) (tree_laid t e l)
  tree_holds (leaf n) d e w l a same = leaf_holds n d e w l a same
  tree_holds (inner es) d e w l a same = inner_holds es d e w l (domains_hold es d e w l a same)

  pub domains_hold :
      (es : Domains) (p q : ℕ) (w : TreeWords) (l : Laid) → Holds w l → (length l.parents ≤ 64 → p ≡ q) →
      Holds (domains_added es p w) (domains_laid es q l)
  domains_hold (last h t) p q w l a same =
      last_holds h t p q w l
      (tree_holds t (new_number w.domains) (length l.parents) (domain_added w p h) (domain_laid l q h)
      (domain_holds w l p q h a (λ f. same (omega arith))) (number_same w l q h a))
  domains_hold (more h t es) p q w l a same =
      more_holds h t es p q w l
      (domains_hold es p q (tree_added t (new_number w.domains) (domain_added w p h)) (tree_laid t (length l.parents) (domain_laid l q h))
      (tree_holds t (new_number w.domains) (length l.parents) (domain_added w p h) (domain_laid l q h)
      (domain_holds w l p q h a (λ f. same (omega arith))) (number_same w l q h a))
      (still_same t (length l.parents) p q h l same))

-- the words of a whole tree
pub whole_holds : (t : Shape) → Holds (tree_added t 0 root_words) (laid_out t)
unfolding laid_out
whole_holds t = tree_holds t 0 0 root_words root_laid root_holds (λ f. refl)

pub whole_words : (t : Shape) → domains_in t ≤ 64 → threads_in t ≤ 256 → tree_added t 0 root_words ≡ words_of t
unfolding words_of
whole_words t d i =
    let a = whole_holds t in
    let domains_same = a.domains_counted ∙ least_below 65 (domains_in t) (omega arith) in
    let threads_same = a.threads_counted ∙ least_below 257 (threads_in t) (omega arith) in
    let parents_same = a.parents_held d in
    let thresholds_same = a.thresholds_held d in
    let homes_same = a.homes_held d i in
    let root_same = a.queue_root in
    λ j. record {
      domains = domains_same j;
      threads = threads_same j;
      parents = parents_same j;
      thresholds = thresholds_same j;
      homes = homes_same j;
      ticket_root = root_same j;
    }
