-- THE ANSWERS: accepted, 15, 4 and 5, each exactly when stated.
use mathlib.Core.Path.{◌≡◌, refl, sym, ◌∙◌, ap}
use mathlib.Core.Bool.{Bool, true, false}
use mathlib.Core.List.{List, [], ◌++◌, append_assoc}
use mathlib.Core.Logic.{◌≢◌, ◌⊎◌, inl, inr}
use Prim.Native.Nat.{ℕ, ◌+◌, ◌≤◌, ◌<◌}
use native.Mathlib.Omega.{arith}
use native.Mathlib.Decide.{ℕ_discrete}
use lib.Dec.{ltb}
use lib.ListN.{length, take, drop, take-append-drop}
use lib.Seq.{take-take, take-length}
use borrow.Author.Tests.{ltb-true, ltb-false, lt-ltb, le-ltb}
use Rattle.model.specs.declared.TreeWords.{TreeWords}
use Rattle.text_tree.specs.Words.{no_words, root_words}
use Rattle.text_tree.specs.Grammar.{Shape, Text, SomeText, Beginning, domains_in, threads_in, words_of}
use Rattle.text_tree.specs.Reading.{Outcome, leaves, whole, text_read}
use Rattle.text_tree.specs.Answers.{refused_by, accepted_reply, counted_reply, outcome_reply, text_answer}
use Rattle.text_tree.specs.TextLaws.{AcceptedText, AcceptedLaw, ManyDomains, ManyThreads, AllZero, RefusedLaw}
use Rattle.text_tree.proofs.Digits.{least_below, least_above}
use Rattle.text_tree.proofs.Complete.{tree_added, text_whole}
use Rattle.text_tree.proofs.Stored.{whole_holds, whole_words}
use Rattle.text_tree.proofs.Places.{Left, ComesTo, text_comes_to, no_beginning}

-- A TEXT OF THE GRAMMAR
answer_of_text : (bytes : List ℕ) (t : Shape) → Text bytes t → text_answer bytes ≡ counted_reply (tree_added t 0 root_words)
unfolding text_answer outcome_reply
answer_of_text bytes t x = ap outcome_reply (text_whole bytes t x)

module _ (bytes : List ℕ) (t : Shape) (x : Text bytes t) where
  answer_fits : domains_in t ≤ 64 → threads_in t ≤ 256 → text_answer bytes ≡ accepted_reply (words_of t)
  unfolding counted_reply words_of
  answer_fits d i =
      answer_of_text bytes t x ∙ ap counted_reply (whole_words t d i) ∙ rw (le-ltb 64 (domains_in t) d, le-ltb 256 (threads_in t) i)

  answer_many_domains : 64 < domains_in t → text_answer bytes ≡ refused_by 4 0
  unfolding counted_reply
  answer_many_domains d =
      let many = (whole_holds t).domains_counted ∙ least_above 65 (domains_in t) d in
      let over : 64 < (tree_added t 0 root_words).domains = omega arith in
      answer_of_text bytes t x ∙ rw (lt-ltb 64 (tree_added t 0 root_words).domains over)

  answer_many_threads : domains_in t ≤ 64 → 256 < threads_in t → text_answer bytes ≡ refused_by 5 0
  unfolding counted_reply
  answer_many_threads d i =
      let few = (whole_holds t).domains_counted ∙ least_below 65 (domains_in t) (omega arith) in
      let many = (whole_holds t).threads_counted ∙ least_above 257 (threads_in t) i in
      let fit : (tree_added t 0 root_words).domains ≤ 64 = omega arith in
      let over : 256 < (tree_added t 0 root_words).threads = omega arith in
      answer_of_text bytes t x ∙ rw (le-ltb 64 (tree_added t 0 root_words).domains fit, lt-ltb 256 (tree_added t 0 root_words).threads over)

data Counted (bytes : List ℕ) : Type 0 where
  fits : (w : TreeWords) → AcceptedText bytes w → text_answer bytes ≡ accepted_reply w → Counted bytes
  domains_over : ManyDomains bytes → text_answer bytes ≡ refused_by 4 0 → Counted bytes
  threads_over : ManyThreads bytes → text_answer bytes ≡ refused_by 5 0 → Counted bytes

counted : (bytes : List ℕ) → SomeText bytes → Counted bytes
counted bytes s = go (ltb 64 (domains_in s.shape)) (ltb 256 (threads_in s.shape)) refl refl
  where
    go : (a b : Bool) → ltb 64 (domains_in s.shape) ≡ a → ltb 256 (threads_in s.shape) ≡ b → Counted bytes
    go true b e f =
        let d = ltb-true 64 (domains_in s.shape) e in
        domains_over (record { shape = s.shape; text = s.text; too_many = d }) (answer_many_domains bytes s.shape s.text d)
    go false true e f =
        let d = ltb-false 64 (domains_in s.shape) e in
        let i = ltb-true 256 (threads_in s.shape) f in
        threads_over (record { shape = s.shape; text = s.text; domains_fit = d; too_many = i }) (answer_many_threads bytes s.shape s.text d i)
    go false false e f =
        let d = ltb-false 64 (domains_in s.shape) e in
        let i = ltb-false 256 (threads_in s.shape) f in
        fits (words_of s.shape) (record { shape = s.shape; text = s.text; domains_fit = d; threads_fit = i; words = refl })
        (answer_fits bytes s.shape s.text d i)

-- EVERY TEXT
data Answered (bytes : List ℕ) : Type 0 where
  left : (p : ℕ) → Left [] bytes p → text_read bytes ≡ leaves p → text_answer bytes ≡ refused_by 15 p → Answered bytes
  of_grammar : SomeText bytes → Counted bytes → Answered bytes

left_answer : (bytes : List ℕ) (p : ℕ) → text_read bytes ≡ leaves p → text_answer bytes ≡ refused_by 15 p
unfolding text_answer outcome_reply
left_answer bytes p e = ap outcome_reply e

answered : (bytes : List ℕ) → Answered bytes
answered bytes = go (text_read bytes) refl (text_comes_to bytes)
  where
    go : (o : Outcome) → text_read bytes ≡ o → ComesTo [] bytes o → Answered bytes
    go (leaves p) e l = left p l e (left_answer bytes p e)
    go (whole w) e s = of_grammar s (counted bytes s)

-- THE NUMBERS DISTINGUISH THE ANSWERS
refused_number : (bytes : List ℕ) (n p : ℕ) → text_answer bytes ≡ refused_by n p → (text_answer bytes).number ≡ n
unfolding refused_by
refused_number bytes n p e = ap (λ r. r.number) e

refused_place : (bytes : List ℕ) (n p : ℕ) → text_answer bytes ≡ refused_by n p → (text_answer bytes).place ≡ p
unfolding refused_by
refused_place bytes n p e = ap (λ r. r.place) e

refused_words : (bytes : List ℕ) (n p : ℕ) → text_answer bytes ≡ refused_by n p → AllZero (text_answer bytes).tree
unfolding refused_by no_words
refused_words bytes n p e =
    let same : (text_answer bytes).tree ≡ no_words = ap (λ r. r.tree) e in
    record {
      no_domains = ap (λ w. w.domains) same;
      no_threads = ap (λ w. w.threads) same;
      no_parents = ap (λ w. w.parents) same;
      no_thresholds = ap (λ w. w.thresholds) same;
      no_homes = ap (λ w. w.homes) same;
      queue_root = ap (λ w. w.ticket_root) same;
    }

accepted_number : (bytes : List ℕ) (w : TreeWords) → text_answer bytes ≡ accepted_reply w → (text_answer bytes).number ≡ 0
unfolding accepted_reply
accepted_number bytes w e = ap (λ r. r.number) e

accepted_tree : (bytes : List ℕ) (w : TreeWords) → text_answer bytes ≡ accepted_reply w → (text_answer bytes).tree ≡ w
unfolding accepted_reply
accepted_tree bytes w e = ap (λ r. r.tree) e

module _ (bytes : List ℕ) where
  not_15 : Counted bytes → (text_answer bytes).number ≢ 15
  not_15 (fits w a answer) e = omega (arith, accepted_number bytes w answer)
  not_15 (domains_over a answer) e = omega (arith, refused_number bytes 4 0 answer)
  not_15 (threads_over a answer) e = omega (arith, refused_number bytes 5 0 answer)

  -- a text of the grammar is never answered with 15
  text_not_15 : SomeText bytes → (text_answer bytes).number ≢ 15
  text_not_15 s = not_15 (counted bytes s)

-- 1. ACCEPTED
pub accepted_law : AcceptedLaw
unfolding AcceptedLaw
accepted_law bytes w = (λ e. by e (answered bytes), λ a. back a)
  where
    by : text_answer bytes ≡ accepted_reply w → Answered bytes → AcceptedText bytes w
    by e (left p l read answer) = absurd (omega (arith, accepted_number bytes w e, refused_number bytes 15 p answer))
    by e (of_grammar s (fits v a answer)) =
        let same : v ≡ w = sym (accepted_tree bytes v answer) ∙ accepted_tree bytes w e in
        rw same at a
    by e (of_grammar s (domains_over a answer)) = absurd (omega (arith, accepted_number bytes w e, refused_number bytes 4 0 answer))
    by e (of_grammar s (threads_over a answer)) = absurd (omega (arith, accepted_number bytes w e, refused_number bytes 5 0 answer))

    back : AcceptedText bytes w → text_answer bytes ≡ accepted_reply w
    back a = answer_fits bytes a.shape a.text a.domains_fit a.threads_fit ∙ ap accepted_reply (sym a.words)

-- 2. BEGINNINGS OF BEGINNINGS
shorter : (bs : List ℕ) (m n : ℕ) → m ≤ n → Beginning (take n bs) → Beginning (take m bs)
shorter bs m n h b =
    let same : take m bs ++ (drop m (take n bs) ++ b.further) ≡ take n bs ++ b.further =
    ap (λ l. l ++ (drop m (take n bs) ++ b.further)) (sym (take-take m n bs h))
    ∙ sym (append_assoc (take m (take n bs)) (drop m (take n bs)) b.further)
    ∙ ap (λ l. l ++ b.further) (take-append-drop m (take n bs)) in
    record { further = drop m (take n bs) ++ b.further; some_text = rw same b.some_text }

all_of : (bs : List ℕ) → Beginning bs → Beginning (take (length bs) bs)
all_of bs b = rw (take-length bs) b

text_begins : (bs : List ℕ) → SomeText bs → (n : ℕ) → Beginning (take n bs)
text_begins bs s n = record { further = drop n bs; some_text = rw (take-append-drop n bs) s }

-- 3. REFUSED
left_within : (bytes : List ℕ) (p : ℕ) → Left [] bytes p → (p ≤ length bytes) × Beginning (take p bytes)
left_within bytes p l = let same : p ≡ l.upto = omega (arith, l.place) in (omega (arith, l.within), rw same l.begins)

module _ (bytes : List ℕ) where
  no_text_law : (((text_answer bytes).number ≡ 15) → SomeText bytes → ⊥) × ((SomeText bytes → ⊥) → (text_answer bytes).number ≡ 15)
  no_text_law = (λ e s. text_not_15 bytes s e, λ n. by n (answered bytes))
    where
      by : (SomeText bytes → ⊥) → Answered bytes → (text_answer bytes).number ≡ 15
      by n (left p l read answer) = refused_number bytes 15 p answer
      by n (of_grammar s c) = absurd (n s)

  leaves_only : (p : ℕ) → p < length bytes → text_answer bytes ≡ refused_by 15 p → Beginning (take p bytes) × (Beginning (take (p + 1) bytes) → ⊥)
  leaves_only p h e = by (answered bytes)
    where
      by : Answered bytes → Beginning (take p bytes) × (Beginning (take (p + 1) bytes) → ⊥)
      by (left q l read answer) =
          let same : q ≡ p = sym (refused_place bytes 15 q answer) ∙ refused_place bytes 15 p e in
          let there : Beginning (take q bytes) × (Beginning (take (q + 1) bytes) → ⊥) =
          ((left_within bytes q l).1, no_beginning bytes q read (omega arith)) in
          rw same at there
      by (of_grammar s c) = absurd (text_not_15 bytes s (refused_number bytes 15 p e))

  leaves_there : (p : ℕ) → p < length bytes → Beginning (take p bytes) → (Beginning (take (p + 1) bytes) → ⊥) → text_answer bytes ≡ refused_by 15 p
  leaves_there p h b n = by (answered bytes)
    where
      order : (q : ℕ) → Left [] bytes q → text_read bytes ≡ leaves q → q ≢ p → (c : Bool) → ltb q p ≡ c → ⊥
      order q l read k true e =
          let f = ltb-true q p e in no_beginning bytes q read (omega arith) (shorter bytes (q + 1) p (omega arith) b)
      order q l read k false e =
          let f = ltb-false q p e in n (shorter bytes (p + 1) q (omega (arith, k)) (left_within bytes q l).1)

      at_place : (q : ℕ) → Left [] bytes q → text_read bytes ≡ leaves q → q ≡ p
      at_place q l read = elim (ℕ_discrete q p) [ yes e ↦ e | no e ↦ absurd (order q l read e (ltb q p) refl) ]

      by : Answered bytes → text_answer bytes ≡ refused_by 15 p
      by (left q l read answer) = rw (at_place q l read) at answer
      by (of_grammar s c) = absurd (n (text_begins bytes s (p + 1)))

  ends_only : text_answer bytes ≡ refused_by 15 (length bytes) → Beginning bytes × (SomeText bytes → ⊥)
  ends_only e = by (answered bytes)
    where
      by : Answered bytes → Beginning bytes × (SomeText bytes → ⊥)
      by (left q l read answer) =
          let same : q ≡ length bytes = sym (refused_place bytes 15 q answer) ∙ refused_place bytes 15 (length bytes) e in
          let there : Beginning (take (length bytes) bytes) = rw same at (left_within bytes q l).1 in
          (rw (take-length bytes) at there, λ s. text_not_15 bytes s (refused_number bytes 15 (length bytes) e))
      by (of_grammar s c) = absurd (text_not_15 bytes s (refused_number bytes 15 (length bytes) e))

  ends_there : Beginning bytes → (SomeText bytes → ⊥) → text_answer bytes ≡ refused_by 15 (length bytes)
  ends_there b n = by (answered bytes)
    where
      inside : (q : ℕ) → text_read bytes ≡ leaves q → q < length bytes → ⊥
      inside q read h = no_beginning bytes q read h (shorter bytes (q + 1) (length bytes) (omega arith) (all_of bytes b))

      at_place : (q : ℕ) → Left [] bytes q → text_read bytes ≡ leaves q → q ≡ length bytes
      at_place q l read =
          elim (ℕ_discrete q (length bytes)) [ yes e ↦ e | no e ↦ absurd (inside q read (omega (arith, e, (left_within bytes q l).0))) ]

      by : Answered bytes → text_answer bytes ≡ refused_by 15 (length bytes)
      by (left q l read answer) = rw (at_place q l read) at answer
      by (of_grammar s c) = absurd (n s)

  place_within : (text_answer bytes).number ≡ 15 → (text_answer bytes).place ≤ length bytes
  place_within e = by (answered bytes)
    where
      by : Answered bytes → (text_answer bytes).place ≤ length bytes
      by (left q l read answer) = omega (arith, refused_place bytes 15 q answer, (left_within bytes q l).0)
      by (of_grammar s c) = absurd (text_not_15 bytes s e)

  domains_only : text_answer bytes ≡ refused_by 4 0 → ManyDomains bytes
  domains_only e = by (answered bytes)
    where
      by : Answered bytes → ManyDomains bytes
      by (left q l read answer) = absurd (omega (arith, refused_number bytes 4 0 e, refused_number bytes 15 q answer))
      by (of_grammar s (fits w a answer)) = absurd (omega (arith, refused_number bytes 4 0 e, accepted_number bytes w answer))
      by (of_grammar s (domains_over a answer)) = a
      by (of_grammar s (threads_over a answer)) = absurd (omega (arith, refused_number bytes 4 0 e, refused_number bytes 5 0 answer))

  threads_only : text_answer bytes ≡ refused_by 5 0 → ManyThreads bytes
  threads_only e = by (answered bytes)
    where
      by : Answered bytes → ManyThreads bytes
      by (left q l read answer) = absurd (omega (arith, refused_number bytes 5 0 e, refused_number bytes 15 q answer))
      by (of_grammar s (fits w a answer)) = absurd (omega (arith, refused_number bytes 5 0 e, accepted_number bytes w answer))
      by (of_grammar s (domains_over a answer)) = absurd (omega (arith, refused_number bytes 5 0 e, refused_number bytes 4 0 answer))
      by (of_grammar s (threads_over a answer)) = a

  one_of_four :
      ((text_answer bytes).number ≡ 0) ⊎ (((text_answer bytes).number ≡ 15) ⊎ (((text_answer bytes).number ≡ 4) ⊎ ((text_answer bytes).number ≡ 5)))
  one_of_four = by (answered bytes)
    where
      by : Answered bytes → ((text_answer bytes).number ≡ 0) ⊎ (((text_answer bytes).number ≡ 15) ⊎ (((text_answer bytes).number ≡ 4) ⊎ ((text_answer bytes).number ≡ 5)))
      by (left q l read answer) = inr (inl (refused_number bytes 15 q answer))
      by (of_grammar s (fits w a answer)) = inl (accepted_number bytes w answer)
      by (of_grammar s (domains_over a answer)) = inr (inr (inl (refused_number bytes 4 0 answer)))
      by (of_grammar s (threads_over a answer)) = inr (inr (inr (refused_number bytes 5 0 answer)))

  words_gone : (text_answer bytes).number ≢ 0 → AllZero (text_answer bytes).tree
  words_gone k = by (answered bytes)
    where
      by : Answered bytes → AllZero (text_answer bytes).tree
      by (left q l read answer) = refused_words bytes 15 q answer
      by (of_grammar s (fits w a answer)) = absurd (k (accepted_number bytes w answer))
      by (of_grammar s (domains_over a answer)) = refused_words bytes 4 0 answer
      by (of_grammar s (threads_over a answer)) = refused_words bytes 5 0 answer

pub refused_law : RefusedLaw
unfolding RefusedLaw
refused_law bytes =
    record {
      no_text = no_text_law bytes;
      leaves = λ p h. (leaves_only bytes p h, λ b. leaves_there bytes p h b.0 b.1);
      ends = (ends_only bytes, λ b. ends_there bytes b.0 b.1);
      no_place_after = place_within bytes;
      many_domains = (domains_only bytes, λ a. answer_many_domains bytes a.shape a.text a.too_many);
      many_threads = (threads_only bytes, λ a. answer_many_threads bytes a.shape a.text a.domains_fit a.too_many);
      no_other = one_of_four bytes;
      no_words_left = words_gone bytes;
    }
