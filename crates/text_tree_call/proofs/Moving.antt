-- One more byte is read: the position after it. The end of a text is read as a byte that no text contains.
use mathlib.Core.Path.{◌≡◌, refl, sym, ◌∙◌}
use mathlib.Core.Bool.{Bool, true, false, cond}
use mathlib.Core.List.{List, [], ◌∷◌}
use mathlib.Core.Logic.{◌≢◌}
use Prim.Native.Nat.{ℕ, suc, ◌+◌, ◌-◌, ◌≤◌, ◌<◌}
use native.Mathlib.Omega.{arith}
use native.Mathlib.Numerals.{add-one}
use lib.Dec.{ltb}
use lib.ListN.{length, drop, get_or, length-drop, get_or-eq_default}
use lib.Seq.{drop-cons}
use borrow.Author.Tests.{ltb-true, ltb-false, lt-ltb, le-ltb, eq-eqb, ne_eqb}
use Rattle.model.specs.declared.TreeWords.{TreeWords}
use Rattle.text_tree.specs.Words.{least, root_words, new_number, domain_added, threads_added}
use Rattle.text_tree.specs.Reading.{Position, at_start, opened, count_due, in_count, domain_due, in_threshold, closed, stuck, to, is_digit, is_first_digit, grown, grows, move, leaves, whole, ended, read_on, text_read}
use Rattle.text_tree_call.specs.Inner.{from}
use Rattle.text_tree.proofs.Digits.{digit_bounds, first_digit_bounds}
use Rattle.text_tree.proofs.Places.{left_at}

-- a byte that is not 0 is in the text
pub in_text : (bs : List ℕ) (at : ℕ) → 0 < get_or bs at 0 → at < length bs
in_text bs at h = go (ltb at (length bs)) refl
  where
    go : (b : Bool) → ltb at (length bs) ≡ b → at < length bs
    go true e = ltb-true at (length bs) e
    go false e = let z = get_or-eq_default bs 0 (ltb-false at (length bs) e) in absurd (omega (arith, z))

pub digit_in_text : (bs : List ℕ) (at : ℕ) → is_digit (get_or bs at 0) ≡ true → at < length bs
digit_in_text bs at e = in_text bs at (omega (arith, (digit_bounds (get_or bs at 0) e).0))

pub first_digit_in_text : (bs : List ℕ) (at : ℕ) → is_first_digit (get_or bs at 0) ≡ true → at < length bs
first_digit_in_text bs at e = in_text bs at (omega (arith, (first_digit_bounds (get_or bs at 0) e).0))

pub byte_in_text : (bs : List ℕ) (at b : ℕ) → 0 < b → get_or bs at 0 ≡ b → at < length bs
byte_in_text bs at b h e = in_text bs at (omega arith)

nothing_left : (at : ℕ) (bs : List ℕ) → length bs ≤ at → drop at bs ≡ []
nothing_left at bs h = empty (drop at bs) (omega (arith, length-drop at bs))
  where
    empty : (xs : List ℕ) → length xs ≡ 0 → xs ≡ []
    empty [] e = refl
    empty (x ∷ xs) e = absurd (omega arith)

-- every position except the one after a whole text
abbrev pub Unfinished : Position → Type 0
Unfinished at_start = Unit
Unfinished (opened d ds p w) = Unit
Unfinished (count_due d ds p w) = Unit
Unfinished (in_count n d ds p w) = Unit
Unfinished (domain_due d ds p w) = Unit
Unfinished (in_threshold h d ds p w) = Unit
Unfinished (closed [] p w) = ⊥
Unfinished (closed (d ∷ ds) p w) = Unit

no_list : (b : Bool) (p : ℕ) → leaves p ≡ read_on [] (cond b (stuck p) (stuck p))
unfolding read_on
no_list true p = refl
no_list false p = refl

ends_stuck : (q : Position) → Unfinished q → ended q ≡ read_on [] (move q 0)
unfolding ended move read_on
ends_stuck at_start u = refl
ends_stuck (opened d ds p w) u = no_list (ltb (length ds) 5) p
ends_stuck (count_due d ds p w) u = refl
ends_stuck (in_count n d ds p w) u = refl
ends_stuck (domain_due d ds p w) u = refl
ends_stuck (in_threshold h d ds p w) u = refl
ends_stuck (closed [] p w) u = absurd u
ends_stuck (closed (d ∷ ds) p w) u = refl

pub next : (bs : List ℕ) (at : ℕ) (q : Position) → Unfinished q → from bs at q ≡ read_on (drop (at + 1) bs) (move q (get_or bs at 0))
unfolding from
next bs at q u = go (ltb at (length bs)) refl
  where
    go : (b : Bool) → ltb at (length bs) ≡ b → read_on (drop at bs) (to q) ≡ read_on (drop (at + 1) bs) (move q (get_or bs at 0))
    go true e =
        let h = ltb-true at (length bs) e in
        let d : drop at bs ≡ get_or bs at 0 ∷ drop (at + 1) bs = rw add-one (drop-cons bs at 0 h) in
        rw d (unfold read_on in refl)
    go false e =
        let h = ltb-false at (length bs) e in
        let k : length bs ≤ at + 1 = omega arith in
        rw (nothing_left at bs h, nothing_left (at + 1) bs k, get_or-eq_default bs 0 h) (unfold read_on in ends_stuck q u)

-- the first parenthesis
pub start_opens : (bs : List ℕ) → get_or bs 0 0 ≡ 40 → text_read bs ≡ from bs 1 (opened 0 [] 1 root_words)
unfolding text_read from move
start_opens bs e = next bs 0 at_start tt ∙ rw (eq-eqb _ _ e)

pub start_stuck : (bs : List ℕ) → get_or bs 0 0 ≢ 40 → text_read bs ≡ leaves 0
unfolding text_read from move
start_stuck bs n = next bs 0 at_start tt ∙ rw (ne_eqb _ _ n) (left_at (drop 1 bs) 0)

module _ (bs : List ℕ) (at : ℕ) (d : ℕ) (ds : List ℕ) (w : TreeWords) where
  -- after an opening parenthesis
  pub opened_count : get_or bs at 0 ≡ 35 → from bs at (opened d ds at w) ≡ from bs (at + 1) (count_due d ds (at + 1) w)
  unfolding from move
  opened_count e = next bs at (opened d ds at w) tt ∙ rw (eq-eqb _ _ e)

  pub opened_too_deep : get_or bs at 0 ≢ 35 → 5 ≤ length ds → from bs at (opened d ds at w) ≡ leaves at
  unfolding from move
  opened_too_deep n l = next bs at (opened d ds at w) tt ∙ rw (ne_eqb _ _ n, le-ltb _ _ l) (left_at (drop (at + 1) bs) at)

  pub opened_list : get_or bs at 0 ≢ 35 → length ds < 5 → from bs at (opened d ds at w) ≡ from bs at (domain_due d ds at w)
  unfolding from move
  opened_list n l =
      next bs at (opened d ds at w) tt ∙ rw (ne_eqb _ _ n, lt-ltb _ _ l) refl ∙ sym (next bs at (domain_due d ds at w) tt)

  -- a thread count
  pub count_begins :
      is_first_digit (get_or bs at 0) ≡ true → from bs at (count_due d ds at w) ≡ from bs (at + 1) (in_count (get_or bs at 0 - 48) d ds (at + 1) w)
  unfolding from move
  count_begins e = next bs at (count_due d ds at w) tt ∙ rw e

  pub count_missing : is_first_digit (get_or bs at 0) ≡ false → from bs at (count_due d ds at w) ≡ leaves at
  unfolding from move
  count_missing e = next bs at (count_due d ds at w) tt ∙ rw e (left_at (drop (at + 1) bs) at)

  pub count_goes_on :
      (n : ℕ) → is_digit (get_or bs at 0) ≡ true →
      from bs at (in_count n d ds at w) ≡ from bs (at + 1) (in_count (least 257 (grown n (get_or bs at 0))) d ds (at + 1) w)
  unfolding from move
  count_goes_on n e = next bs at (in_count n d ds at w) tt ∙ rw e

  pub count_closes :
      (n : ℕ) → get_or bs at 0 ≡ 41 → from bs at (in_count n d ds at w) ≡ from bs (at + 1) (closed ds (at + 1) (threads_added w d n))
  unfolding from move
  count_closes n e = next bs at (in_count n d ds at w) tt ∙ rw e

  pub count_stuck :
      (n : ℕ) → is_digit (get_or bs at 0) ≡ false → get_or bs at 0 ≢ 41 → from bs at (in_count n d ds at w) ≡ leaves at
  unfolding from move
  count_stuck n e k = next bs at (in_count n d ds at w) tt ∙ rw (e, ne_eqb _ _ k) (left_at (drop (at + 1) bs) at)

  -- a threshold
  pub threshold_begins :
      is_first_digit (get_or bs at 0) ≡ true →
      from bs at (domain_due d ds at w) ≡ from bs (at + 1) (in_threshold (get_or bs at 0 - 48) d ds (at + 1) w)
  unfolding from move
  threshold_begins e = next bs at (domain_due d ds at w) tt ∙ rw e

  pub threshold_missing : is_first_digit (get_or bs at 0) ≡ false → from bs at (domain_due d ds at w) ≡ leaves at
  unfolding from move
  threshold_missing e = next bs at (domain_due d ds at w) tt ∙ rw e (left_at (drop (at + 1) bs) at)

  pub threshold_goes_on :
      (h : ℕ) → grows h (get_or bs at 0) ≡ true →
      from bs at (in_threshold h d ds at w) ≡ from bs (at + 1) (in_threshold (grown h (get_or bs at 0)) d ds (at + 1) w)
  unfolding from move
  threshold_goes_on h e = next bs at (in_threshold h d ds at w) tt ∙ rw e

  pub threshold_opens :
      (h : ℕ) → get_or bs at 0 ≡ 40 →
      from bs at (in_threshold h d ds at w) ≡ from bs (at + 1) (opened (new_number w.domains) (d ∷ ds) (at + 1) (domain_added w d h))
  unfolding from move
  threshold_opens h e = next bs at (in_threshold h d ds at w) tt ∙ rw e

  pub threshold_stuck :
      (h : ℕ) → grows h (get_or bs at 0) ≡ false → get_or bs at 0 ≢ 40 → from bs at (in_threshold h d ds at w) ≡ leaves at
  unfolding from move
  threshold_stuck h e k = next bs at (in_threshold h d ds at w) tt ∙ rw (e, ne_eqb _ _ k) (left_at (drop (at + 1) bs) at)

  -- after a closing parenthesis
  pub closed_space : get_or bs at 0 ≡ 32 → from bs at (closed (d ∷ ds) at w) ≡ from bs (at + 1) (domain_due d ds (at + 1) w)
  unfolding from move
  closed_space e = next bs at (closed (d ∷ ds) at w) tt ∙ rw e

  pub closed_again : get_or bs at 0 ≡ 41 → from bs at (closed (d ∷ ds) at w) ≡ from bs (at + 1) (closed ds (at + 1) w)
  unfolding from move
  closed_again e = next bs at (closed (d ∷ ds) at w) tt ∙ rw e

  pub closed_stuck : get_or bs at 0 ≢ 32 → get_or bs at 0 ≢ 41 → from bs at (closed (d ∷ ds) at w) ≡ leaves at
  unfolding from move
  closed_stuck n k =
      next bs at (closed (d ∷ ds) at w) tt ∙ rw (ne_eqb _ _ n, ne_eqb _ _ k) (left_at (drop (at + 1) bs) at)

-- after a whole text
pub text_over : (bs : List ℕ) (at : ℕ) (w : TreeWords) → at ≡ length bs → from bs at (closed [] at w) ≡ whole w
unfolding from read_on ended
text_over bs at w e = let h : length bs ≤ at = omega arith in rw (nothing_left at bs h)

pub text_goes_on : (bs : List ℕ) (at : ℕ) (w : TreeWords) → at < length bs → from bs at (closed [] at w) ≡ leaves at
unfolding from read_on move
text_goes_on bs at w h = rw (drop-cons bs at 0 h) (left_at (drop (suc at) bs) at)
