-- Every text of the grammar is read to its end, and its words are added one by one.
use mathlib.Core.Path.{◌≡◌, refl, sym, ◌∙◌, ap}
use mathlib.Core.Bool.{true}
use mathlib.Core.List.{List, [], ◌∷◌, ◌++◌, append_assoc, append-nil}
use Prim.Native.Nat.{ℕ, ◌+◌, ◌*◌, ◌-◌, ◌≤◌, ◌<◌}
use native.Mathlib.Omega.{arith}
use lib.ListN.{length}
use borrow.Author.Tests.{lt-ltb, le-leb, ne_eqb}
use Rattle.model.specs.declared.TreeWords.{TreeWords}
use Rattle.text_tree.specs.Words.{least, root_words, new_number, domain_added, threads_added}
use Rattle.text_tree.specs.Grammar.{Shape, leaf, inner, Domains, last, more, value_from, Digits, no_digit, next_digit, Numeral, numeral, TreeText, leaf_text, inner_text, DomainsText, last_text, more_text, Text}
use Rattle.text_tree.specs.Reading.{Position, at_start, opened, count_due, in_count, domain_due, in_threshold, closed, to, is_digit, is_first_digit, grown, move, whole, ended, read_on, text_read}
use Rattle.text_tree.proofs.Digits.{least_below, least_grown}

-- the words of a tree, as reading adds them
unfoldable mutual
  pub tree_added : Shape → (domain : ℕ) → TreeWords → TreeWords
  tree_added (leaf n) d w = threads_added w d (least 257 n)
  tree_added (inner ds) d w = domains_added ds d w

  pub domains_added : Domains → (parent : ℕ) → TreeWords → TreeWords
  domains_added (last h t) p w = tree_added t (new_number w.domains) (domain_added w p h)
  domains_added (more h t ds) p w = domains_added ds p (tree_added t (new_number w.domains) (domain_added w p h))

digit_test : (b : ℕ) → 48 ≤ b → b ≤ 57 → is_digit b ≡ true
digit_test b l u = rw (le-leb 48 b l, lt-ltb b 58 (omega arith))

first_digit_test : (b : ℕ) → 49 ≤ b → b ≤ 57 → is_first_digit b ≡ true
first_digit_test b l u = rw (le-leb 49 b l, lt-ltb b 58 (omega arith))

-- one more byte
goes : (b : ℕ) (rest : List ℕ) (q r : Position) → move q b ≡ to r → read_on (b ∷ rest) (to q) ≡ read_on rest (to r)
unfolding read_on
goes b rest q r e = ap (read_on rest) e

module _ (d : ℕ) (ds : List ℕ) (p : ℕ) (w : TreeWords) where
  begins_list : (b : ℕ) → 49 ≤ b → b ≤ 57 → length ds < 5 → move (opened d ds p w) b ≡ move (domain_due d ds p w) b
  unfolding move
  begins_list b l u h = let n : b ≡ 35 → ⊥ = λ e. omega arith in rw (ne_eqb b 35 n, lt-ltb (length ds) 5 h)

  begins_threshold : (b : ℕ) → 49 ≤ b → b ≤ 57 → move (domain_due d ds p w) b ≡ to (in_threshold (b - 48) d ds (p + 1) w)
  unfolding move
  begins_threshold b l u = rw (first_digit_test b l u)

  begins_count : (b : ℕ) → 49 ≤ b → b ≤ 57 → move (count_due d ds p w) b ≡ to (in_count (b - 48) d ds (p + 1) w)
  unfolding move
  begins_count b l u = rw (first_digit_test b l u)

  grows_count : (n b : ℕ) → 48 ≤ b → b ≤ 57 → move (in_count n d ds p w) b ≡ to (in_count (least 257 (grown n b)) d ds (p + 1) w)
  unfolding move
  grows_count n b l u = rw (digit_test b l u)

  grows_threshold :
      (h b : ℕ) → 48 ≤ b → b ≤ 57 → grown h b ≤ 65535 → move (in_threshold h d ds p w) b ≡ to (in_threshold (grown h b) d ds (p + 1) w)
  unfolding move
  grows_threshold h b l u f = rw (digit_test b l u, lt-ltb (grown h b) 65536 (omega arith))

-- NUMBERS
-- some bytes lead from one position to another
pub record Reads (bytes rest : List ℕ) (q : Position) (there : ℕ → Position) : Type 0 where
  pub place : ℕ
  pub same : read_on (bytes ++ rest) (to q) ≡ read_on rest (to (there place))

count_digits :
    {xs : List ℕ} → Digits xs → (rest : List ℕ) (v d : ℕ) (ds : List ℕ) (p : ℕ) (w : TreeWords) →
    Reads xs rest (in_count (least 257 v) d ds p w) (λ q. in_count (least 257 (value_from v xs)) d ds q w)
unfolding value_from
count_digits no_digit rest v d ds p w = record { place = p; same = refl }
count_digits (next_digit {b} {bs} l u xs) rest v d ds p w =
    let r = count_digits xs rest (grown v b) d ds (p + 1) w in
    record {
      place = r.place;
      same =
          goes b (bs ++ rest) _ _ (grows_count d ds p w (least 257 v) b l u)
          ∙ ap (λ n. read_on (bs ++ rest) (to (in_count n d ds (p + 1) w))) (least_grown v b) ∙ r.same;
    }

pub value_grows : (v : ℕ) (xs : List ℕ) → v ≤ value_from v xs
unfolding value_from
value_grows v [] = omega arith
value_grows v (b ∷ xs) = omega (arith, value_grows (grown v b) xs)

threshold_digits :
    {xs : List ℕ} → Digits xs → (rest : List ℕ) (h d : ℕ) (ds : List ℕ) (p : ℕ) (w : TreeWords) → value_from h xs ≤ 65535 →
    Reads xs rest (in_threshold h d ds p w) (λ q. in_threshold (value_from h xs) d ds q w)
unfolding value_from
threshold_digits no_digit rest h d ds p w f = record { place = p; same = refl }
threshold_digits (next_digit {b} {bs} l u xs) rest h d ds p w f =
    let r = threshold_digits xs rest (grown h b) d ds (p + 1) w f in
    record {
      place = r.place;
      same =
          goes b (bs ++ rest) _ _ (grows_threshold d ds p w h b l u (omega (arith, value_grows (grown h b) bs))) ∙ r.same;
    }

pub first_value : (b : ℕ) (bs : List ℕ) → value_from 0 (b ∷ bs) ≡ value_from (b - 48) bs
unfolding value_from
first_value b bs = let z : 10 * 0 + (b - 48) ≡ b - 48 = omega arith in ap (λ v. value_from v bs) z

count_reads :
    {xs : List ℕ} {n : ℕ} → Numeral xs n → (rest : List ℕ) (d : ℕ) (ds : List ℕ) (p : ℕ) (w : TreeWords) →
    Reads xs rest (count_due d ds p w) (λ q. in_count (least 257 n) d ds q w)
count_reads (numeral {b} {bs} l u xs) rest d ds p w =
    let r = count_digits xs rest (b - 48) d ds (p + 1) w in
    let z : b - 48 ≤ 257 = omega arith in
    record {
      place = r.place;
      same =
          goes b (bs ++ rest) _ _ (begins_count d ds p w b l u)
          ∙ ap (λ n. read_on (bs ++ rest) (to (in_count n d ds (p + 1) w))) (sym (least_below 257 (b - 48) z)) ∙ r.same
          ∙ ap (λ n. read_on rest (to (in_count (least 257 n) d ds r.place w))) (sym (first_value b bs));
    }

threshold_reads :
    {xs : List ℕ} {h : ℕ} → Numeral xs h → (rest : List ℕ) (d : ℕ) (ds : List ℕ) (p : ℕ) (w : TreeWords) → h ≤ 65535 →
    Reads xs rest (domain_due d ds p w) (λ q. in_threshold h d ds q w)
threshold_reads (numeral {b} {bs} l u xs) rest d ds p w f =
    let r = threshold_digits xs rest (b - 48) d ds (p + 1) w (rw (first_value b bs) at f) in
    record {
      place = r.place;
      same =
          goes b (bs ++ rest) _ _ (begins_threshold d ds p w b l u) ∙ r.same
          ∙ ap (λ n. read_on rest (to (in_threshold n d ds r.place w))) (sym (first_value b bs));
    }

-- TREES, read from after their first parenthesis
pub record TreeReads (bytes rest : List ℕ) (q : Position) (ds : List ℕ) (w : TreeWords) : Type 0 where
  pub inner_bytes : List ℕ
  pub opens : bytes ≡ 40 ∷ inner_bytes
  pub place : ℕ
  pub same : read_on (inner_bytes ++ rest) (to q) ≡ read_on rest (to (closed ds place w))

-- the bytes between numbers
module _ (d : ℕ) (ds : List ℕ) (p : ℕ) (w : TreeWords) (rest : List ℕ) where
  count_opens : read_on (35 ∷ rest) (to (opened d ds p w)) ≡ read_on rest (to (count_due d ds (p + 1) w))
  unfolding read_on move
  count_opens = refl

  count_closes : (n : ℕ) → read_on (41 ∷ rest) (to (in_count n d ds p w)) ≡ read_on rest (to (closed ds (p + 1) (threads_added w d n)))
  unfolding read_on move
  count_closes n = refl

  threshold_closes :
      (h : ℕ) →
      read_on (40 ∷ rest) (to (in_threshold h d ds p w))
      ≡ read_on rest (to (opened (new_number w.domains) (d ∷ ds) (p + 1) (domain_added w d h)))
  unfolding read_on move
  threshold_closes h = refl

  list_closes : read_on (41 ∷ rest) (to (closed (d ∷ ds) p w)) ≡ read_on rest (to (closed ds (p + 1) w))
  unfolding read_on move
  list_closes = refl

  list_goes_on : read_on (32 ∷ rest) (to (closed (d ∷ ds) p w)) ≡ read_on rest (to (domain_due d ds (p + 1) w))
  unfolding read_on move
  list_goes_on = refl

root_opens : (rest : List ℕ) → read_on (40 ∷ rest) (to at_start) ≡ read_on rest (to (opened 0 [] 1 root_words))
unfolding read_on move
root_opens rest = refl

-- a domain: its threshold, and its tree
domain_reads :
    {xs ys : List ℕ} {h : ℕ} → Numeral xs h → h ≤ 65535 → (rest : List ℕ) (d : ℕ) (ds : List ℕ) (p : ℕ) (w v : TreeWords) →
    ((q : ℕ) → TreeReads ys rest (opened (new_number w.domains) (d ∷ ds) q (domain_added w d h)) (d ∷ ds) v) →
    Reads (xs ++ ys) rest (domain_due d ds p w) (λ q. closed (d ∷ ds) q v)
domain_reads {xs} {ys} {h} n f rest d ds p w v tree =
    let r = threshold_reads n (ys ++ rest) d ds p w f in
    let t = tree (r.place + 1) in
    record {
      place = t.place;
      same =
          ap (λ l. read_on l (to (domain_due d ds p w))) (append_assoc xs ys rest) ∙ r.same
          ∙ ap (λ l. read_on (l ++ rest) (to (in_threshold h d ds r.place w))) t.opens
          ∙ threshold_closes d ds r.place w (t.inner_bytes ++ rest) h ∙ t.same;
    }

-- a list begins with a digit
first_byte :
    {xs : List ℕ} {h : ℕ} → Numeral xs h → (ys : List ℕ) (d : ℕ) (ds : List ℕ) (p : ℕ) (w : TreeWords) → length ds < 5 →
    read_on (xs ++ ys) (to (opened d ds p w)) ≡ read_on (xs ++ ys) (to (domain_due d ds p w))
unfolding read_on
first_byte (numeral {b} {bs} l u xs) ys d ds p w h = ap (read_on (bs ++ ys)) (begins_list d ds p w b l u h)

list_begins :
    {k : ℕ} {xs : List ℕ} {es : Domains} → DomainsText k xs es → (rest : List ℕ) (d : ℕ) (ds : List ℕ) (p : ℕ) (w : TreeWords) → length ds < 5 →
    read_on (xs ++ rest) (to (opened d ds p w)) ≡ read_on (xs ++ rest) (to (domain_due d ds p w))
list_begins (last_text {xs = xs} {ys = ys} e x f y) rest d ds p w h = rw (e, append_assoc) (first_byte x (ys ++ rest) d ds p w h)
list_begins (more_text {xs = xs} {ys = ys} {zs = zs} e x f y z) rest d ds p w h =
    rw (e, append_assoc) (first_byte x ((ys ++ (32 ∷ zs)) ++ rest) d ds p w h)

joined : (xs ys zs rest : List ℕ) → (xs ++ (ys ++ (32 ∷ zs))) ++ rest ≡ (xs ++ ys) ++ (32 ∷ (zs ++ rest))
joined xs ys zs rest = simp append_assoc

-- one lemma per case, given the readings of the parts
module _ (rest : List ℕ) (d : ℕ) (ds : List ℕ) (p : ℕ) (w : TreeWords) where
  leaf_case :
      {n : ℕ} {bytes xs : List ℕ} → bytes ≡ 40 ∷ 35 ∷ (xs ++ (41 ∷ [])) → Numeral xs n →
      TreeReads bytes rest (opened d ds p w) ds (tree_added (leaf n) d w)
  unfolding tree_added
  leaf_case {n} {bytes} {xs} e x =
      let r = count_reads x (41 ∷ rest) d ds (p + 1) w in
      record {
        inner_bytes = 35 ∷ (xs ++ (41 ∷ []));
        opens = e;
        place = r.place + 1;
        same =
            count_opens d ds p w ((xs ++ (41 ∷ [])) ++ rest)
            ∙ ap (λ l. read_on l (to (count_due d ds (p + 1) w))) (append_assoc xs (41 ∷ []) rest)
            ∙ r.same ∙ count_closes d ds r.place w rest (least 257 n);
      }

  inner_case :
      {k : ℕ} {bytes xs : List ℕ} {es : Domains} → bytes ≡ 40 ∷ (xs ++ (41 ∷ [])) → DomainsText k xs es → length ds < 5 →
      Reads xs (41 ∷ rest) (domain_due d ds p w) (λ q. closed (d ∷ ds) q (domains_added es d w)) →
      TreeReads bytes rest (opened d ds p w) ds (tree_added (inner es) d w)
  unfolding tree_added
  inner_case {k} {bytes} {xs} {es} e x l r =
      record {
        inner_bytes = xs ++ (41 ∷ []);
        opens = e;
        place = r.place + 1;
        same =
            ap (λ l. read_on l (to (opened d ds p w))) (append_assoc xs (41 ∷ []) rest) ∙ list_begins x (41 ∷ rest) d ds p w l ∙ r.same
            ∙ list_closes d ds r.place (domains_added es d w) rest;
      }

  last_case :
      {h : ℕ} {bytes xs ys : List ℕ} (t : Shape) → bytes ≡ xs ++ ys → Numeral xs h → h ≤ 65535 →
      ((q : ℕ) → TreeReads ys rest (opened (new_number w.domains) (d ∷ ds) q (domain_added w d h)) (d ∷ ds) (tree_added t (new_number w.domains) (domain_added w d h))) →
      Reads bytes rest (domain_due d ds p w) (λ q. closed (d ∷ ds) q (domains_added (last h t) d w))
  unfolding tree_added
  last_case t e x f tree =
      let r = domain_reads x f rest d ds p w _ tree in
      record { place = r.place; same = rw e r.same }

  more_case :
      {h : ℕ} {bytes xs ys zs : List ℕ} (t : Shape) (es : Domains) → bytes ≡ xs ++ (ys ++ (32 ∷ zs)) → Numeral xs h → h ≤ 65535 →
      ((q : ℕ) → TreeReads ys (32 ∷ (zs ++ rest)) (opened (new_number w.domains) (d ∷ ds) q (domain_added w d h)) (d ∷ ds) (tree_added t (new_number w.domains) (domain_added w d h))) →
      ((q : ℕ) → Reads zs rest (domain_due d ds q (tree_added t (new_number w.domains) (domain_added w d h))) (λ q. closed (d ∷ ds) q (domains_added es d (tree_added t (new_number w.domains) (domain_added w d h))))) →
      Reads bytes rest (domain_due d ds p w) (λ q. closed (d ∷ ds) q (domains_added (more h t es) d w))
  unfolding tree_added
  more_case {h} {bytes} {xs} {ys} {zs} t es e x f tree others =
      let v = tree_added t (new_number w.domains) (domain_added w d h) in
      let r = domain_reads x f (32 ∷ (zs ++ rest)) d ds p w v tree in
      let s = others (r.place + 1) in
      record {
        place = s.place;
        same =
            ap (λ l. read_on (l ++ rest) (to (domain_due d ds p w))) e
            ∙ ap (λ l. read_on l (to (domain_due d ds p w))) (joined xs ys zs rest) ∙ r.same
            ∙ list_goes_on d ds r.place v (zs ++ rest) ∙ s.same;
      }

mutual
  tree_reads :
      {k : ℕ} {bytes : List ℕ} {t : Shape} → TreeText k bytes t → (rest : List ℕ) (d : ℕ) (ds : List ℕ) (p : ℕ) (w : TreeWords) →
      length ds + k ≡ 5 → TreeReads bytes rest (opened d ds p w) ds (tree_added t d w)
  tree_reads (leaf_text e x) rest d ds p w l = leaf_case rest d ds p w e x
  tree_reads (inner_text e x) rest d ds p w l =
      inner_case rest d ds p w e x (omega arith) (domains_read x (41 ∷ rest) d ds p w (omega arith))

  domains_read :
      {k : ℕ} {bytes : List ℕ} {es : Domains} → DomainsText k bytes es → (rest : List ℕ) (d : ℕ) (ds : List ℕ) (p : ℕ) (w : TreeWords) →
      length ds + k ≡ 4 → Reads bytes rest (domain_due d ds p w) (λ q. closed (d ∷ ds) q (domains_added es d w))
  domains_read (last_text {h = h} {t = t} e x f y) rest d ds p w l =
      last_case rest d ds p w t e x f (λ q. tree_reads y rest (new_number w.domains) (d ∷ ds) q (domain_added w d h) (omega arith))
  domains_read (more_text {h = h} {zs = zs} {t = t} {es = es} e x f y z) rest d ds p w l =
      more_case rest d ds p w t es e x f
      (λ q. tree_reads y (32 ∷ (zs ++ rest)) (new_number w.domains) (d ∷ ds) q (domain_added w d h) (omega arith))
      (λ q. domains_read z rest d ds q (tree_added t (new_number w.domains) (domain_added w d h)) l)

-- every text is read whole
pub text_whole : (bytes : List ℕ) (t : Shape) → Text bytes t → text_read bytes ≡ whole (tree_added t 0 root_words)
unfolding text_read
text_whole bytes t x =
    let r = tree_reads x [] 0 [] 1 root_words refl in
    ap (λ l. read_on l (to at_start)) r.opens
    ∙ root_opens r.inner_bytes
    ∙ ap (λ l. read_on l (to (opened 0 [] 1 root_words))) (sym (append-nil r.inner_bytes))
    ∙ r.same ∙ unfold read_on ended in refl
