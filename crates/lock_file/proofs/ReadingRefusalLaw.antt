-- REFUSALS OF READING: 2 exactly if the file only ends too early, 3 exactly at the first byte where the bytes so far are not the beginning of a lock file.
use mathlib.Core.Path.{◌≡◌, refl, sym, ◌∙◌, ap}
use mathlib.Core.Bool.{Bool, true, false, cond}
use mathlib.Core.List.{List, [], ◌∷◌, ◌++◌, append-nil}
use mathlib.Core.Logic.{◌≢◌, ◌⊎◌, inl, inr}
use Prim.Native.Nat.{ℕ, zero, suc, ◌+◌, ◌-◌, ◌%◌, ◌≤◌, ◌<◌}
use native.Mathlib.Omega.{arith}
use native.Mathlib.Decide.{ℕ_discrete}
use lib.Dec.{eqb}
use lib.ListN.{length, take, replicate, length-append, length-replicate, get_or-append}
use lib.Seq.{get_or-take, length-take-le}
use borrow.Author.Tests.{eq-eqb, eqb-false}
use Rattle.model.specs.Refusals.{Refusal, refusal}
use Rattle.model.specs.Laws.{◌⟺◌}
use Rattle.model.proofs.Laws.Counters.{zeros}
use Rattle.lock_file.specs.Reading.{Reached, At, Ended, BadMap, byte, schedule_start, tree_read, entries_at, reached_refusal, refused, described, reading_of, file_read}
use Rattle.lock_file.specs.ReadingLaws.{FormatLaw, LockFile, Beginning, ReadingRefusalLaw}
use Rattle.lock_file.proofs.Positions.{reached_cases}
use Rattle.lock_file.proofs.Accepted.{reading_accepted}
use Rattle.lock_file.proofs.FormatLaw.{format_law}
use Rattle.lock_file.proofs.Parts.{SameBefore}
use Rattle.lock_file.proofs.TreeParts.{tree_reader, tree_part, tree_reach}

-- how far reading a file comes
abbrev reached_in : (bytes : List ℕ) → Reached
reached_in bs = (tree_read bs).reached

-- THE RESULT OF READING
read_at : (bs : List ℕ) (at : ℕ) → reached_in bs ≡ At at → file_read bs ≡ described (tree_read bs).tree (entries_at bs at)
unfolding file_read reading_of
read_at bs at e = rw e

read_ended : (bs : List ℕ) → reached_in bs ≡ Ended → file_read bs ≡ refused (refusal 2 (length bs))
unfolding file_read reading_of reached_refusal
read_ended bs e = rw e

read_bad : (bs : List ℕ) (p : ℕ) → reached_in bs ≡ BadMap p → file_read bs ≡ refused (refusal 3 p)
unfolding file_read reading_of reached_refusal
read_bad bs p e = rw e

-- reading reaches the schedule exactly in the lock files
lock_file_at : (bs : List ℕ) (at : ℕ) → reached_in bs ≡ At at → LockFile bs
unfolding FormatLaw
lock_file_at bs at e =
    record {
      tree = (tree_read bs).tree;
      schedule = entries_at bs at;
      describes = (format_law bs (tree_read bs).tree (entries_at bs at)).0 (read_at bs at e);
    }

not_lock_file : (bs : List ℕ) → ((at : ℕ) → reached_in bs ≢ At at) → ¬ LockFile bs
unfolding FormatLaw file_read
not_lock_file bs none l =
    let a =
    reading_accepted bs (reached_in bs) (tree_read bs).tree l.tree l.schedule ((format_law bs l.tree l.schedule).1 l.describes)
    in
    none a.at a.reached

-- THE SCHEDULE AFTER THE TREE
start_ended : (bs : List ℕ) (at : ℕ) → schedule_start bs (At at) ≡ Ended → (length bs - at) % 2 ≢ 0
unfolding schedule_start
start_ended bs at e = by (eqb ((length bs - at) % 2) 0) refl e
  where
    by : (b : Bool) → eqb ((length bs - at) % 2) 0 ≡ b → cond b (At at) Ended ≡ Ended → (length bs - at) % 2 ≢ 0
    by true t q = absurd (let z : ◌≡◌ {A = ℕ} 0 1 = cc in omega arith)
    by false t q = eqb-false ((length bs - at) % 2) 0 t

start_not_bad : (bs : List ℕ) (at p : ℕ) → schedule_start bs (At at) ≡ BadMap p → ⊥
unfolding schedule_start
start_not_bad bs at p e = by (eqb ((length bs - at) % 2) 0) e
  where
    by : (b : Bool) → cond b (At at) Ended ≡ BadMap p → ⊥
    by true q = let z : ◌≡◌ {A = ℕ} 0 1 = cc in omega arith
    by false q = let z : ◌≡◌ {A = ℕ} 0 1 = cc in omega arith

reached_even : (bs : List ℕ) (at : ℕ) → tree_reader bs 0 ≡ At at → (length bs - at) % 2 ≡ 0 → reached_in bs ≡ At at
unfolding schedule_start
reached_even bs at e even = tree_reach bs ∙ rw (e, eq-eqb ((length bs - at) % 2) 0 even)

reached_bad : (bs : List ℕ) (p : ℕ) → tree_reader bs 0 ≡ BadMap p → reached_in bs ≡ BadMap p
unfolding schedule_start
reached_bad bs p e = tree_reach bs ∙ rw e

tree_bad : (bs : List ℕ) (p : ℕ) → reached_in bs ≡ BadMap p → tree_reader bs 0 ≡ BadMap p
unfolding schedule_start
tree_bad bs p e =
    let f = sym (tree_reach bs) ∙ e in
    reached_cases (tree_reader bs 0) (λ at g. absurd (start_not_bad bs at p (rw g at f)))
    (λ g. absurd (let z : Ended ≡ BadMap p = rw g at f in let y : ◌≡◌ {A = ℕ} 0 1 = cc in omega arith))
    (λ q g. let z : BadMap q ≡ BadMap p = rw g at f in g ∙ z)

-- A BIT MAP WITHOUT A MEANING is in the file, and is found in every file with the same bytes up to it
bad_inside : (bs : List ℕ) (p : ℕ) → reached_in bs ≡ BadMap p → p < length bs
bad_inside bs p e = (tree_part.bad bs 0 p (tree_bad bs p e)).inside

bad_alike : (bs cs : List ℕ) (p : ℕ) → reached_in bs ≡ BadMap p → SameBefore (p + 1) bs cs → p < length cs → reached_in cs ≡ BadMap p
bad_alike bs cs p e same long = reached_bad cs p ((tree_part.bad bs 0 p (tree_bad bs p e)).alike cs same long)

bad_no_beginning : (bs : List ℕ) (p : ℕ) → reached_in bs ≡ BadMap p → ¬ Beginning bs
bad_no_beginning bs p e b =
    let inside = bad_inside bs p e in
    let long : p < length (bs ++ b.more) = omega (arith, length-append bs b.more) in
    let same : SameBefore (p + 1) bs (bs ++ b.more) = λ j h. sym (get_or-append bs b.more 0 j (omega arith)) in
    let whole = bad_alike bs (bs ++ b.more) p e same long in
    not_lock_file (bs ++ b.more)
    (λ at f. let both : BadMap p ≡ At at = sym whole ∙ f in let z : ◌≡◌ {A = ℕ} 0 1 = cc in omega arith)
    b.lock_file

-- A FILE THAT ENDS TOO EARLY is the beginning of one with bytes 0 after it
zeros_after : (bs : List ℕ) (n j : ℕ) → byte bs j ≡ byte (bs ++ replicate n 0) j
zeros_after [] n j = sym (zeros n j)
zeros_after (x ∷ xs) n zero = refl
zeros_after (x ∷ xs) n (suc j) = zeros_after xs n j

length_filled : (bs : List ℕ) (n : ℕ) → length (bs ++ replicate n 0) ≡ length bs + n
length_filled bs n = length-append bs (replicate n 0) ∙ rw (length-replicate {A = ℕ} n 0)

filled_beginning : (bs : List ℕ) (n at : ℕ) → reached_in (bs ++ replicate n 0) ≡ At at → Beginning bs
filled_beginning bs n at e =
    record {
      more = replicate n 0;
      more_bytes = λ k h. rw (zeros n k) (omega arith);
      lock_file = lock_file_at (bs ++ replicate n 0) at e;
    }

whole_beginning : (bs : List ℕ) (at : ℕ) → reached_in bs ≡ At at → Beginning bs
whole_beginning bs at e = filled_beginning bs 0 at (rw append-nil e)

-- if the number of bytes left is odd, one more byte is needed
odd_beginning : (bs : List ℕ) (at : ℕ) → tree_reader bs 0 ≡ At at → (length bs - at) % 2 ≢ 0 → Beginning bs
odd_beginning bs at e odd =
    let cs = bs ++ replicate 1 0 in
    let long = length_filled bs 1 in
    let inside : at < length bs = omega arith in
    let same : SameBefore at bs cs = λ j h. zeros_after bs 1 j in
    let here = (tree_part.reached bs 0 at e).alike cs same (omega arith) in
    filled_beginning bs 1 at (reached_even cs at here (omega arith))

-- a tree that is cut short needs as many bytes as are missing
short_beginning : (bs : List ℕ) → tree_reader bs 0 ≡ Ended → Beginning bs
short_beginning bs e =
    let a = tree_part.ended bs 0 e in
    let complete = a.complete in
    let n = a.end - length bs in
    let cs = bs ++ replicate n 0 in
    let long : length cs ≡ a.end = omega (arith, length_filled bs n) in
    let here = a.filled cs (λ j. zeros_after bs n j) (omega arith) in
    filled_beginning bs n a.end (reached_even cs a.end here (omega arith))

ended_beginning : (bs : List ℕ) → reached_in bs ≡ Ended → Beginning bs
unfolding schedule_start
ended_beginning bs e =
    let f = sym (tree_reach bs) ∙ e in
    reached_cases (tree_reader bs 0) (λ at g. odd_beginning bs at g (start_ended bs at (rw g at f))) (λ g. short_beginning bs g)
    (λ p g. absurd (let z : BadMap p ≡ Ended = rw g at f in let y : ◌≡◌ {A = ℕ} 0 1 = cc in omega arith))

-- every file is a beginning, or has a bit map without a meaning
data BeginsOrBad (bs : List ℕ) : Type 0 where
  begins : Beginning bs → BeginsOrBad bs
  bad_at : (p : ℕ) → reached_in bs ≡ BadMap p → BeginsOrBad bs

begins_or_bad : (bs : List ℕ) → BeginsOrBad bs
begins_or_bad bs =
    reached_cases (reached_in bs) (λ at e. begins (whole_beginning bs at e)) (λ e. begins (ended_beginning bs e)) (λ p e. bad_at p e)

-- THE FIRST BYTES OF A FILE
take_same : (bs : List ℕ) (n end : ℕ) → end ≤ n → SameBefore end (take n bs) bs
take_same bs n end h j l = get_or-take n bs j 0 (omega arith)

-- if the first bytes have a bit map without a meaning, so has the file
bad_of_first : (bs : List ℕ) (n p : ℕ) → n ≤ length bs → reached_in (take n bs) ≡ BadMap p → (p < n) × (reached_in bs ≡ BadMap p)
bad_of_first bs n p h e =
    let long = length-take-le n bs h in
    let inside : p < n = omega (arith, bad_inside (take n bs) p e) in
    (inside, bad_alike (take n bs) bs p e (take_same bs n (p + 1) (omega arith)) (omega arith))

-- conversely, all first bytes that include it have it too
first_of_bad : (bs : List ℕ) (n p : ℕ) → n ≤ length bs → p < n → reached_in bs ≡ BadMap p → reached_in (take n bs) ≡ BadMap p
first_of_bad bs n p h l e =
    let long = length-take-le n bs h in
    bad_alike bs (take n bs) p e (λ j m. sym (take_same bs n (p + 1) (omega arith) j m)) (omega arith)

same_place : (bs : List ℕ) (p q : ℕ) → reached_in bs ≡ BadMap p → reached_in bs ≡ BadMap q → p ≡ q
same_place bs p q e f = let both : BadMap p ≡ BadMap q = sym e ∙ f in cc

bad_exactly :
    (bs : List ℕ) (p : ℕ) → (reached_in bs ≡ BadMap p) ⟺ ((p < length bs) × Beginning (take p bs) × (¬ Beginning (take (p + 1) bs)))
bad_exactly bs p = (there, back)
  where
    there : reached_in bs ≡ BadMap p → (p < length bs) × Beginning (take p bs) × (¬ Beginning (take (p + 1) bs))
    there e =
        let inside = bad_inside bs p e in (
          inside,
          before inside e (begins_or_bad (take p bs)),
          bad_no_beginning (take (p + 1) bs) p (first_of_bad bs (p + 1) p (omega arith) (omega arith) e),
        )
      where
        before : p < length bs → reached_in bs ≡ BadMap p → BeginsOrBad (take p bs) → Beginning (take p bs)
        before inside e (begins b) = b
        before inside e (bad_at q f) =
            let earlier = bad_of_first bs p q (omega arith) f in
            let lower = earlier.0 in
            let same = same_place bs p q e earlier.1 in
            absurd (omega arith)

    back : (p < length bs) × Beginning (take p bs) × (¬ Beginning (take (p + 1) bs)) → reached_in bs ≡ BadMap p
    back x = at_first x.0 x.1 x.2 (begins_or_bad (take (p + 1) bs))
      where
        at_first :
            p < length bs → Beginning (take p bs) → ¬ Beginning (take (p + 1) bs) → BeginsOrBad (take (p + 1) bs) → reached_in bs ≡ BadMap p
        at_first inside b none (begins c) = absurd (none c)
        at_first inside b none (bad_at q f) =
            let whole = bad_of_first bs (p + 1) q (omega arith) f in
            let lower = whole.0 in
            elim (ℕ_discrete q p) [
              | yes z ↦ rw z at whole.1
              | no z ↦ absurd (bad_no_beginning (take p bs) q (first_of_bad bs p q (omega arith) (omega arith) whole.1) b)
            ]

ended_exactly : (bs : List ℕ) → (reached_in bs ≡ Ended) ⟺ ((¬ LockFile bs) × Beginning bs)
ended_exactly bs = (there, back)
  where
    there : reached_in bs ≡ Ended → (¬ LockFile bs) × Beginning bs
    there e = (
      not_lock_file bs (λ at f. let both : Ended ≡ At at = sym e ∙ f in let z : ◌≡◌ {A = ℕ} 0 1 = cc in omega arith),
      ended_beginning bs e,
    )

    back : (¬ LockFile bs) × Beginning bs → reached_in bs ≡ Ended
    back x =
        reached_cases (reached_in bs) (λ at e. absurd (x.0 (lock_file_at bs at e))) (λ e. e) (λ p e. absurd (bad_no_beginning bs p e x.1))

-- THE REFUSALS: their numbers show how far reading came
same_refusal : (n p m q : ℕ) → refused (refusal n p) ≡ refused (refusal m q) → (n ≡ m) × (p ≡ q)
unfolding refusal
same_refusal n p m q e =
    let same : refusal n p ≡ refusal m q = cc in
    (ap (λ r. r.number) same, ap (λ r. r.place) same)

not_refused : (bs : List ℕ) (at : ℕ) (r : Refusal) → reached_in bs ≡ At at → file_read bs ≡ refused r → ⊥
not_refused bs at r e f =
    let both : described (tree_read bs).tree (entries_at bs at) ≡ refused r = sym (read_at bs at e) ∙ f in
    let z : ◌≡◌ {A = ℕ} 0 1 = cc in
    omega arith

refused_ended : (bs : List ℕ) (p : ℕ) → file_read bs ≡ refused (refusal 2 p) → (p ≡ length bs) × (reached_in bs ≡ Ended)
refused_ended bs p e =
    reached_cases (reached_in bs) (λ at f. absurd (not_refused bs at (refusal 2 p) f e))
    (λ f. (sym (same_refusal 2 (length bs) 2 p (sym (read_ended bs f) ∙ e)).1, f))
    (λ q f. let other = (same_refusal 3 q 2 p (sym (read_bad bs q f) ∙ e)).0 in absurd (omega arith))

refused_bad : (bs : List ℕ) (p : ℕ) → file_read bs ≡ refused (refusal 3 p) → reached_in bs ≡ BadMap p
refused_bad bs p e =
    reached_cases (reached_in bs) (λ at f. absurd (not_refused bs at (refusal 3 p) f e))
    (λ f. let other = (same_refusal 2 (length bs) 3 p (sym (read_ended bs f) ∙ e)).0 in absurd (omega arith))
    (λ q f. let same = (same_refusal 3 q 3 p (sym (read_bad bs q f) ∙ e)).1 in rw same at f)

refused_number : (bs : List ℕ) (r : Refusal) → file_read bs ≡ refused r → (r.number ≡ 2) ⊎ (r.number ≡ 3)
unfolding refusal
refused_number bs r e =
    reached_cases (reached_in bs) (λ at f. absurd (not_refused bs at r f e))
    (λ f.
    let both : refused (refusal 2 (length bs)) ≡ refused r = sym (read_ended bs f) ∙ e in
    let same : refusal 2 (length bs) ≡ r = cc in
    inl (sym (ap (λ x. x.number) same)))
    (λ q f.
    let both : refused (refusal 3 q) ≡ refused r = sym (read_bad bs q f) ∙ e in
    let same : refusal 3 q ≡ r = cc in
    inr (sym (ap (λ x. x.number) same)))

pub reading_refusal_law : ReadingRefusalLaw
unfolding ReadingRefusalLaw
reading_refusal_law bs =
    record {
      ended = λ p. (
        (λ e. let f = refused_ended bs p e in let x = (ended_exactly bs).0 f.1 in (f.0, x.0, x.1)),
        (λ x. read_ended bs ((ended_exactly bs).1 (x.1, x.2)) ∙ ap (λ n. refused (refusal 2 n)) (sym x.0)),
      );
      bad_map = λ p. ((λ e. (bad_exactly bs p).0 (refused_bad bs p e)), (λ x. read_bad bs p ((bad_exactly bs p).1 x)));
      no_other = λ r e. refused_number bs r e;
    }
