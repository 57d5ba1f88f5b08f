-- At every position of the reader, bytes can follow that make a text: the bytes read so far are the beginning of one.
use mathlib.Core.Path.{◌≡◌, refl}
use mathlib.Core.Bool.{cond}
use mathlib.Core.List.{List, [], ◌∷◌, ◌++◌, append_assoc, append-nil}
use Prim.Native.Nat.{ℕ, zero, suc, ◌+◌, ◌-◌, ◌≤◌, ◌<◌}
use native.Mathlib.Omega.{arith}
use lib.Dec.{ltb, eqb, lit≤}
use lib.ListN.{length}
use borrow.Author.Tests.{ltb-true, eqb-true}
use Rattle.model.proofs.Tests.{by_test}
use Rattle.model.specs.declared.TreeWords.{TreeWords}
use Rattle.text_tree.specs.Words.{least, root_words, new_number, domain_added, threads_added}
use Rattle.text_tree.specs.Grammar.{Shape, leaf, inner, Domains, last, more, value_from, Digits, no_digit, next_digit, Numeral, numeral, TreeText, leaf_text, inner_text, DomainsText, last_text, more_text, Text, SomeText, Beginning}
use Rattle.text_tree.specs.Reading.{Position, at_start, opened, count_due, in_count, domain_due, in_threshold, closed, Moved, stuck, to, is_digit, is_first_digit, grown, grows, threshold_begun, list_begun, move}
use Rattle.text_tree.proofs.Digits.{digit_bounds, first_digit_bounds, grows_digit, grows_limit}
use Rattle.text_tree.proofs.Complete.{first_value}

-- what may follow a domain, given the number of open parentheses
pub data Rest : (open_above : ℕ) → (bytes : List ℕ) → Type 0 where
  at_end : Rest 0 []
  closes : {j : ℕ} {z : List ℕ} → Rest j z → Rest (suc j) (41 ∷ z)
  goes_on : {j k : ℕ} {x z : List ℕ} {es : Domains} → j + k ≡ 4 → DomainsText k x es → Rest j z → Rest (suc j) (32 ∷ (x ++ (41 ∷ z)))

-- the bytes read so far become a text with any bytes that may follow at this position
abbrev pub Reaches : Position → (bytes : List ℕ) → Type 0
Reaches at_start u = (ys : List ℕ) (t : Shape) → Text ys t → SomeText (u ++ ys)
Reaches (opened d ds p w) u =
    (length ds ≤ 5)
    × ((k : ℕ) (ys z : List ℕ) (t : Shape) → length ds + k ≡ 5 → TreeText k (40 ∷ ys) t → Rest (length ds) z → SomeText (u ++ (ys ++ z)))
Reaches (count_due d ds p w) u =
    (length ds ≤ 5) × ((xs z : List ℕ) (n : ℕ) → Numeral xs n → Rest (length ds) z → SomeText (u ++ (xs ++ (41 ∷ z))))
Reaches (in_count n d ds p w) u =
    (length ds ≤ 5) × ((xs z : List ℕ) → Digits xs → Rest (length ds) z → SomeText (u ++ (xs ++ (41 ∷ z))))
Reaches (domain_due d ds p w) u =
    (length ds ≤ 4)
    × ((k : ℕ) (x z : List ℕ) (es : Domains) → length ds + k ≡ 4 → DomainsText k x es → Rest (length ds) z → SomeText (u ++ (x ++ (41 ∷ z))))
Reaches (in_threshold h d ds p w) u =
    (h ≤ 65535) × (length ds ≤ 4)
    × ((k : ℕ) (xs ys z : List ℕ) (t : Shape) → Digits xs → value_from h xs ≤ 65535 → length ds + k ≡ 4 → TreeText k ys t → Rest (suc (length ds)) z →
    SomeText (u ++ (xs ++ (ys ++ z))))
Reaches (closed ds p w) u = (length ds ≤ 5) × ((z : List ℕ) → Rest (length ds) z → SomeText (u ++ z))

abbrev pub MovesTo : Moved → (bytes : List ℕ) → Type 0
MovesTo (stuck p) u = Unit
MovesTo (to q) u = Reaches q u

-- a byte that was read, grouped with the bytes before it
byte_read : (u : List ℕ) (b : ℕ) (rest : List ℕ) → SomeText (u ++ (b ∷ rest)) → SomeText ((u ++ (b ∷ [])) ++ rest)
byte_read u b rest s = rw (append_assoc u (b ∷ []) rest) s

regroup : (xs ys zs rest : List ℕ) → (xs ++ (ys ++ (32 ∷ zs))) ++ (41 ∷ rest) ≡ xs ++ (ys ++ (32 ∷ (zs ++ (41 ∷ rest))))
regroup xs ys zs rest = simp append_assoc

-- the moves from position to position
module _ (u : List ℕ) (d : ℕ) (ds : List ℕ) (p : ℕ) (w : TreeWords) where
  open_count : Reaches (opened d ds p w) u → Reaches (count_due d ds (p + 1) w) (u ++ (35 ∷ []))
  open_count r = (
    r.0,
    λ xs z n x rest. byte_read u 35 (xs ++ (41 ∷ z))
        (rw (append_assoc xs (41 ∷ []) z) at (r.1 (5 - length ds) (35 ∷ (xs ++ (41 ∷ []))) z (leaf n) (omega (arith, r.0)) (leaf_text refl x) rest)),
  )

  open_list : Reaches (opened d ds p w) u → length ds < 5 → Reaches (domain_due d ds p w) u
  open_list r h = (
    omega arith,
    λ k x z es l list rest. rw (append_assoc x (41 ∷ []) z) at (r.1 (suc k) (x ++ (41 ∷ [])) z (inner es) (omega arith) (inner_text refl list) rest),
  )

  begin_count : (b : ℕ) → 49 ≤ b → b ≤ 57 → Reaches (count_due d ds p w) u → Reaches (in_count (b - 48) d ds (p + 1) w) (u ++ (b ∷ []))
  begin_count b lo hi r = (
    r.0,
    λ xs z x rest. byte_read u b (xs ++ (41 ∷ z)) (r.1 (b ∷ xs) z (value_from 0 (b ∷ xs)) (numeral lo hi x) rest),
  )

  go_on_count : (n m b : ℕ) → 48 ≤ b → b ≤ 57 → Reaches (in_count n d ds p w) u → Reaches (in_count m d ds (p + 1) w) (u ++ (b ∷ []))
  go_on_count n m b lo hi r = (r.0, λ xs z x rest. byte_read u b (xs ++ (41 ∷ z)) (r.1 (b ∷ xs) z (next_digit lo hi x) rest))

  close_count : (n : ℕ) (v : TreeWords) → Reaches (in_count n d ds p w) u → Reaches (closed ds (p + 1) v) (u ++ (41 ∷ []))
  close_count n v r = (r.0, λ z rest. byte_read u 41 z (r.1 [] z no_digit rest))

  -- a domain that begins with a digit, and what follows it
  begin_threshold : (b : ℕ) → 49 ≤ b → b ≤ 57 → Reaches (domain_due d ds p w) u → Reaches (in_threshold (b - 48) d ds (p + 1) w) (u ++ (b ∷ []))
  begin_threshold b lo hi r = (
    omega arith,
    r.0,
    λ k xs ys z t x f l tree rest. byte_read u b (xs ++ (ys ++ z)) (any_rest k xs ys z t x (rw (first_value b xs) f) l tree rest),
  )
    where
      any_rest :
          (k : ℕ) (xs ys z : List ℕ) (t : Shape) → Digits xs → value_from 0 (b ∷ xs) ≤ 65535 → length ds + k ≡ 4 → TreeText k ys t → Rest (suc (length ds)) z →
          SomeText (u ++ (b ∷ (xs ++ (ys ++ z))))
      any_rest k xs ys z t x f l tree (closes {z = z2} rest) =
          rw (append_assoc xs ys (41 ∷ z2)) at (r.1 k ((b ∷ xs) ++ ys) z2 (last (value_from 0 (b ∷ xs)) t) l (last_text refl (numeral lo hi x) f tree) rest)
      any_rest k xs ys z t x f l tree (goes_on {k = k2} {x = x2} {z = z2} {es = es} m list rest) =
          let same : k2 ≡ k = omega arith in
          rw (regroup xs ys x2 z2) at
          (r.1 k ((b ∷ xs) ++ (ys ++ (32 ∷ x2))) z2 (more (value_from 0 (b ∷ xs)) t es) l (more_text refl (numeral lo hi x) f tree (rw same at list)) rest)

  go_on_threshold :
      (h b : ℕ) → 48 ≤ b → b ≤ 57 → grown h b ≤ 65535 → Reaches (in_threshold h d ds p w) u → Reaches (in_threshold (grown h b) d ds (p + 1) w) (u ++ (b ∷ []))
  go_on_threshold h b lo hi f r = (
    f,
    r.1,
    λ k xs ys z t x g l tree rest. byte_read u b (xs ++ (ys ++ z)) (r.2 k (b ∷ xs) ys z t (next_digit lo hi x) (unfold value_from in g) l tree rest),
  )

  open_domain :
      (h n : ℕ) (v : TreeWords) → Reaches (in_threshold h d ds p w) u → Reaches (opened n (d ∷ ds) (p + 1) v) (u ++ (40 ∷ []))
  open_domain h n v r = (
    omega (arith, r.1),
    λ k ys z t l tree rest. byte_read u 40 (ys ++ z) (r.2 k [] (40 ∷ ys) z t no_digit (unfold value_from in r.0) (omega arith) tree rest),
  )

  next_domain : Reaches (closed (d ∷ ds) p w) u → Reaches (domain_due d ds (p + 1) w) (u ++ (32 ∷ []))
  next_domain r = (
    omega (arith, r.0),
    λ k x z es l list rest. byte_read u 32 (x ++ (41 ∷ z)) (r.1 (32 ∷ (x ++ (41 ∷ z))) (goes_on l list rest)),
  )

  close_list : Reaches (closed (d ∷ ds) p w) u → Reaches (closed ds (p + 1) w) (u ++ (41 ∷ []))
  close_list r = (omega (arith, r.0), λ z rest. byte_read u 41 z (r.1 (41 ∷ z) (closes rest)))

open_root : (u : List ℕ) → Reaches at_start u → Reaches (opened 0 [] 1 root_words) (u ++ (40 ∷ []))
open_root u r = (lit≤ tt, λ k ys z t l tree rest. byte_read u 40 (ys ++ z) (only k ys z t l tree rest))
  where
    only : (k : ℕ) (ys z : List ℕ) (t : Shape) → 0 + k ≡ 5 → TreeText k (40 ∷ ys) t → Rest 0 z → SomeText (u ++ (40 ∷ (ys ++ z)))
    only k ys z t l tree at_end =
        let same : k ≡ 5 = omega arith in
        rw (append-nil ys) (r (40 ∷ ys) t (rw same at tree))

-- after every byte that can be read, a text can still be reached
pub moves : (q : Position) (b : ℕ) (u : List ℕ) → Reaches q u → MovesTo (move q b) (u ++ (b ∷ []))
unfolding move
moves at_start b u r =
    by_test (λ m. MovesTo m (u ++ (b ∷ []))) (eqb b 40) (to (opened 0 [] 1 root_words)) (stuck 0)
    (λ e. rw (eqb-true b 40 e) (open_root u r)) (λ e. tt)
moves (opened d ds p w) b u r =
    by_test (λ m. MovesTo m (u ++ (b ∷ []))) (eqb b 35) (to (count_due d ds (p + 1) w)) (list_begun d ds p w b)
    (λ e. rw (eqb-true b 35 e) (open_count u d ds p w r))
    (λ e. by_test (λ m. MovesTo m (u ++ (b ∷ []))) (ltb (length ds) 5) (threshold_begun d ds p w b) (stuck p)
    (λ h. by_test (λ m. MovesTo m (u ++ (b ∷ []))) (is_first_digit b) (to (in_threshold (b - 48) d ds (p + 1) w)) (stuck p)
    (λ f. let g = first_digit_bounds b f in begin_threshold u d ds p w b g.0 g.1 (open_list u d ds p w r (ltb-true (length ds) 5 h))) (λ f. tt))
    (λ h. tt))
moves (count_due d ds p w) b u r =
    by_test (λ m. MovesTo m (u ++ (b ∷ []))) (is_first_digit b) (to (in_count (b - 48) d ds (p + 1) w)) (stuck p)
    (λ f. let g = first_digit_bounds b f in begin_count u d ds p w b g.0 g.1 r) (λ f. tt)
moves (in_count n d ds p w) b u r =
    by_test (λ m. MovesTo m (u ++ (b ∷ []))) (is_digit b) (to (in_count (least 257 (grown n b)) d ds (p + 1) w))
    (cond (eqb b 41) (to (closed ds (p + 1) (threads_added w d n))) (stuck p))
    (λ f. let g = digit_bounds b f in go_on_count u d ds p w n (least 257 (grown n b)) b g.0 g.1 r)
    (λ f. by_test (λ m. MovesTo m (u ++ (b ∷ []))) (eqb b 41) (to (closed ds (p + 1) (threads_added w d n))) (stuck p)
    (λ e. rw (eqb-true b 41 e) (close_count u d ds p w n (threads_added w d n) r)) (λ e. tt))
moves (domain_due d ds p w) b u r =
    by_test (λ m. MovesTo m (u ++ (b ∷ []))) (is_first_digit b) (to (in_threshold (b - 48) d ds (p + 1) w)) (stuck p)
    (λ f. let g = first_digit_bounds b f in begin_threshold u d ds p w b g.0 g.1 r) (λ f. tt)
moves (in_threshold h d ds p w) b u r =
    by_test (λ m. MovesTo m (u ++ (b ∷ []))) (grows h b) (to (in_threshold (grown h b) d ds (p + 1) w))
    (cond (eqb b 40) (to (opened (new_number w.domains) (d ∷ ds) (p + 1) (domain_added w d h))) (stuck p))
    (λ f. let g = digit_bounds b (grows_digit h b f) in go_on_threshold u d ds p w h b g.0 g.1 (grows_limit h b f) r)
    (λ f. by_test (λ m. MovesTo m (u ++ (b ∷ []))) (eqb b 40) (to (opened (new_number w.domains) (d ∷ ds) (p + 1) (domain_added w d h))) (stuck p)
    (λ e. rw (eqb-true b 40 e) (open_domain u d ds p w h (new_number w.domains) (domain_added w d h) r)) (λ e. tt))
moves (closed [] p w) b u r = tt
moves (closed (d ∷ ds) p w) b u r =
    by_test (λ m. MovesTo m (u ++ (b ∷ []))) (eqb b 32) (to (domain_due d ds (p + 1) w)) (cond (eqb b 41) (to (closed ds (p + 1) w)) (stuck p))
    (λ e. rw (eqb-true b 32 e) (next_domain u d ds p w r))
    (λ f. by_test (λ m. MovesTo m (u ++ (b ∷ []))) (eqb b 41) (to (closed ds (p + 1) w)) (stuck p)
    (λ e. rw (eqb-true b 41 e) (close_list u d ds p w r)) (λ e. tt))

one_fits : value_from 0 (49 ∷ []) ≤ 65535
unfolding value_from
one_fits = lit≤ tt

-- at every position the bytes that were read are the beginning of a text
all_close : (j : ℕ) → (z : List ℕ) × Rest j z
all_close zero = ([], at_end)
all_close (suc j) = let r = all_close j in (41 ∷ r.0, closes r.1)

begun : (u x : List ℕ) → SomeText (u ++ x) → Beginning u
begun u x s = record { further = x; some_text = s }

one : Numeral (49 ∷ []) (value_from 0 (49 ∷ []))
one = numeral (lit≤ tt) (lit≤ tt) no_digit

one_thread : (k : ℕ) → TreeText k (40 ∷ 35 ∷ 49 ∷ 41 ∷ []) (leaf (value_from 0 (49 ∷ [])))
one_thread k = leaf_text refl one

pub beginning : (q : Position) (u : List ℕ) → Reaches q u → Beginning u
beginning at_start u r = begun u _ (r _ _ (one_thread 5))
beginning (opened d ds p w) u r =
    let z = all_close (length ds) in begun u _ (r.1 (5 - length ds) _ z.0 _ (omega (arith, r.0)) (one_thread (5 - length ds)) z.1)
beginning (count_due d ds p w) u r = let z = all_close (length ds) in begun u _ (r.1 _ z.0 _ one z.1)
beginning (in_count n d ds p w) u r = let z = all_close (length ds) in begun u _ (r.1 [] z.0 no_digit z.1)
beginning (domain_due d ds p w) u r =
    let z = all_close (length ds) in
    begun u _ (r.1 (4 - length ds) _ z.0 _ (omega (arith, r.0)) (last_text refl one one_fits (one_thread (4 - length ds))) z.1)
beginning (in_threshold h d ds p w) u r =
    let z = all_close (suc (length ds)) in
    begun u _ (r.2 (4 - length ds) [] _ z.0 _ no_digit (unfold value_from in r.0) (omega (arith, r.1)) (one_thread (4 - length ds)) z.1)
beginning (closed ds p w) u r = let z = all_close (length ds) in begun u z.0 (r.1 z.0 z.1)
