-- The result of a text in terms of the grammar: it is a text, or the place is where it can no longer become one.
use mathlib.Core.Path.{◌≡◌, refl, sym, ◌∙◌}
use mathlib.Core.Bool.{Bool, true, false, cond}
use mathlib.Core.List.{List, [], ◌∷◌, ◌++◌, append_assoc, append-nil}
use Prim.Native.Nat.{ℕ, zero, suc, ◌+◌, ◌-◌, ◌≤◌, ◌<◌}
use native.Mathlib.Omega.{arith}
use native.Mathlib.Numerals.{add-one}
use lib.Dec.{ltb, eqb}
use lib.ListN.{length, take, length-append}
use Rattle.model.specs.declared.TreeWords.{TreeWords}
use Rattle.text_tree.specs.Words.{least, root_words, new_number, domain_added, threads_added}
use Rattle.text_tree.specs.Grammar.{SomeText, Beginning}
use Rattle.text_tree.specs.Reading.{Position, at_start, opened, count_due, in_count, domain_due, in_threshold, closed, Moved, stuck, to, is_digit, is_first_digit, grown, grows, threshold_begun, list_begun, move, Outcome, leaves, whole, ended, read_on, text_read}
use Rattle.text_tree.proofs.Complete.{text_whole}
use Rattle.text_tree.proofs.Sound.{at_end, Reaches, MovesTo, moves, beginning}

abbrev place_of : Position → ℕ
place_of at_start = 0
place_of (opened d ds p w) = p
place_of (count_due d ds p w) = p
place_of (in_count n d ds p w) = p
place_of (domain_due d ds p w) = p
place_of (in_threshold h d ds p w) = p
place_of (closed ds p w) = p

-- each byte read advances the position; if reading is stuck, it stays there
abbrev Counts : Moved → (place : ℕ) → Type 0
Counts (stuck p) n = p ≡ n
Counts (to q) n = place_of q ≡ n + 1

module _ (n : ℕ) where
  counts_either : (b : Bool) (x y : Moved) → Counts x n → Counts y n → Counts (cond b x y) n
  counts_either true x y h k = h
  counts_either false x y h k = k

counts : (q : Position) (b : ℕ) → Counts (move q b) (place_of q)
unfolding move
counts at_start b = counts_either 0 (eqb b 40) (to (opened 0 [] 1 root_words)) (stuck 0) refl refl
counts (opened d ds p w) b =
    counts_either p (eqb b 35) (to (count_due d ds (p + 1) w)) (list_begun d ds p w b) refl
    (counts_either p (ltb (length ds) 5) (threshold_begun d ds p w b) (stuck p)
    (counts_either p (is_first_digit b) (to (in_threshold (b - 48) d ds (p + 1) w)) (stuck p) refl refl) refl)
counts (count_due d ds p w) b = counts_either p (is_first_digit b) (to (in_count (b - 48) d ds (p + 1) w)) (stuck p) refl refl
counts (in_count n d ds p w) b =
    counts_either p (is_digit b) (to (in_count (least 257 (grown n b)) d ds (p + 1) w)) (cond (eqb b 41) (to (closed ds (p + 1) (threads_added w d n))) (stuck p)) refl
    (counts_either p (eqb b 41) (to (closed ds (p + 1) (threads_added w d n))) (stuck p) refl refl)
counts (domain_due d ds p w) b = counts_either p (is_first_digit b) (to (in_threshold (b - 48) d ds (p + 1) w)) (stuck p) refl refl
counts (in_threshold h d ds p w) b =
    counts_either p (grows h b) (to (in_threshold (grown h b) d ds (p + 1) w))
    (cond (eqb b 40) (to (opened (new_number w.domains) (d ∷ ds) (p + 1) (domain_added w d h))) (stuck p)) refl
    (counts_either p (eqb b 40) (to (opened (new_number w.domains) (d ∷ ds) (p + 1) (domain_added w d h))) (stuck p) refl refl)
counts (closed [] p w) b = refl
counts (closed (d ∷ ds) p w) b =
    counts_either p (eqb b 32) (to (domain_due d ds (p + 1) w)) (cond (eqb b 41) (to (closed ds (p + 1) w)) (stuck p)) refl
    (counts_either p (eqb b 41) (to (closed ds (p + 1) w)) (stuck p) refl refl)

-- once reading is stuck, the bytes after that do not matter
pub left_at : (bs : List ℕ) (p : ℕ) → read_on bs (stuck p) ≡ leaves p
unfolding read_on
left_at [] p = refl
left_at (b ∷ bs) p = refl

-- WHOLE, OR A BEGINNING
pub record Left (u bs : List ℕ) (p : ℕ) : Type 0 where
  pub upto : ℕ
  pub within : upto ≤ length bs
  pub place : p ≡ length u + upto
  pub begins : Beginning (u ++ take upto bs)

abbrev pub ComesTo : (u bs : List ℕ) → Outcome → Type 0
ComesTo u bs (whole w) = SomeText (u ++ bs)
ComesTo u bs (leaves p) = Left u bs p

left_here : (q : Position) (u bs : List ℕ) (p : ℕ) → Reaches q u → p ≡ length u → Left u bs p
left_here q u bs p r e =
    record { upto = 0; within = omega arith; place = omega arith; begins = rw (append-nil u) (beginning q u r) }

at_the_end : (q : Position) (u : List ℕ) → Reaches q u → place_of q ≡ length u → ComesTo u [] (ended q)
unfolding ended
at_the_end at_start u r e = left_here at_start u [] 0 r e
at_the_end (opened d ds p w) u r e = left_here (opened d ds p w) u [] p r e
at_the_end (count_due d ds p w) u r e = left_here (count_due d ds p w) u [] p r e
at_the_end (in_count n d ds p w) u r e = left_here (in_count n d ds p w) u [] p r e
at_the_end (domain_due d ds p w) u r e = left_here (domain_due d ds p w) u [] p r e
at_the_end (in_threshold h d ds p w) u r e = left_here (in_threshold h d ds p w) u [] p r e
at_the_end (closed [] p w) u r e = r.1 [] at_end
at_the_end (closed (d ∷ ds) p w) u r e = left_here (closed (d ∷ ds) p w) u [] p r e

one_more : (u bs : List ℕ) (b : ℕ) (o : Outcome) → ComesTo (u ++ (b ∷ [])) bs o → ComesTo u (b ∷ bs) o
one_more u bs b (whole w) s = rw (append_assoc u (b ∷ []) bs) at s
one_more u bs b (leaves p) l =
    record {
      upto = suc l.upto;
      within = omega (arith, l.within);
      place = omega (arith, l.place, length-append u (b ∷ []));
      begins = rw (append_assoc u (b ∷ []) (take l.upto bs)) at l.begins;
    }

by_move :
    (q : Position) (u bs : List ℕ) (b : ℕ) (m : Moved) → Reaches q u → place_of q ≡ length u → MovesTo m (u ++ (b ∷ [])) → Counts m (place_of q) →
    ((r : Position) → Reaches r (u ++ (b ∷ [])) → place_of r ≡ length (u ++ (b ∷ [])) → ComesTo (u ++ (b ∷ [])) bs (read_on bs (to r))) →
    ComesTo u (b ∷ bs) (read_on bs m)
by_move q u bs b (stuck p) r e f c ih = rw (left_at bs p) (left_here q u (b ∷ bs) p r (c ∙ e))
by_move q u bs b (to s) r e f c ih = one_more u bs b (read_on bs (to s)) (ih s f (omega (arith, length-append u (b ∷ []))))

comes_to : (bs : List ℕ) (q : Position) (u : List ℕ) → Reaches q u → place_of q ≡ length u → ComesTo u bs (read_on bs (to q))
unfolding read_on
comes_to [] q u r e = at_the_end q u r e
comes_to (b ∷ bs) q u r e = by_move q u bs b (move q b) r e (moves q b u r) (counts q b) (λ s f g. comes_to bs s (u ++ (b ∷ [])) f g)

pub text_comes_to : (bs : List ℕ) → ComesTo [] bs (text_read bs)
unfolding text_read
text_comes_to bs = comes_to bs at_start [] (λ ys t x. record { shape = t; text = x }) refl

-- STUCK, WHATEVER BYTES FOLLOW
same_place : (p q : ℕ) → leaves p ≡ leaves q → p ≤ q
same_place p q e = let same : p ≡ q = cc in omega arith

pub not_whole : {C : Type 0} (w : TreeWords) (p : ℕ) → whole w ≡ leaves p → C
not_whole w p e = let z : ◌≡◌ {A = ℕ} 0 1 = cc in absurd (omega arith)

ends_there : (q : Position) (p : ℕ) → ended q ≡ leaves p → place_of q ≤ p
unfolding ended
ends_there at_start p e = omega arith
ends_there (opened d ds o w) p e = same_place o p e
ends_there (count_due d ds o w) p e = same_place o p e
ends_there (in_count n d ds o w) p e = same_place o p e
ends_there (domain_due d ds o w) p e = same_place o p e
ends_there (in_threshold h d ds o w) p e = same_place o p e
ends_there (closed [] o w) p e = not_whole w p e
ends_there (closed (d ∷ ds) o w) p e = same_place o p e

moved_later :
    (n p : ℕ) (bs : List ℕ) (m : Moved) → Counts m n → read_on bs m ≡ leaves p → ((r : Position) → read_on bs (to r) ≡ leaves p → place_of r ≤ p) → n ≤ p
moved_later n p bs (stuck o) c e ih = omega (arith, same_place o p (sym (left_at bs o) ∙ e))
moved_later n p bs (to r) c e ih = omega (arith, ih r e)

no_earlier : (bs : List ℕ) (q : Position) (p : ℕ) → read_on bs (to q) ≡ leaves p → place_of q ≤ p
unfolding read_on
no_earlier [] q p e = ends_there q p e
no_earlier (b ∷ bs) q p e = moved_later (place_of q) p bs (move q b) (counts q b) e (λ r f. no_earlier bs r p f)

stuck_move :
    (n : ℕ) (bs further : List ℕ) (k p : ℕ) (m : Moved) → Counts m n → p ≡ n + k → k ≤ length bs → read_on bs m ≡ leaves p →
    ((r : Position) (j : ℕ) → p ≡ place_of r + j → j < length bs → read_on bs (to r) ≡ leaves p → read_on (take (suc j) bs ++ further) (to r) ≡ leaves p) →
    read_on (take k bs ++ further) m ≡ leaves p
stuck_move n bs further k p (stuck o) c z l e ih = left_at (take k bs ++ further) o ∙ sym (left_at bs o) ∙ e
stuck_move n bs further zero p (to r) c z l e ih = let early = no_earlier bs r p e in absurd (omega arith)
stuck_move n bs further (suc j) p (to r) c z l e ih = ih r j (omega arith) (omega arith) e

stuck_again :
    (bs further : List ℕ) (q : Position) (k p : ℕ) → p ≡ place_of q + k → k < length bs → read_on bs (to q) ≡ leaves p →
    read_on (take (suc k) bs ++ further) (to q) ≡ leaves p
unfolding read_on
stuck_again [] further q k p z l e = absurd (omega arith)
stuck_again (b ∷ bs) further q k p z l e =
    stuck_move (place_of q) bs further k p (move q b) (counts q b) z (omega arith) e (λ r j y m f. stuck_again bs further r j p y m f)

pub no_beginning : (bs : List ℕ) (p : ℕ) → text_read bs ≡ leaves p → p < length bs → Beginning (take (p + 1) bs) → ⊥
unfolding text_read
no_beginning bs p e l b =
    let s : SomeText (take (suc p) bs ++ b.further) = rw (add-one p) at b.some_text in
    let again = stuck_again bs b.further at_start p p (omega arith) l e in
    let read = text_whole (take (suc p) bs ++ b.further) s.shape s.text in
    not_whole _ p (sym read ∙ again)
