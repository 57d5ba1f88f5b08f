-- The test of the counters by arrays is the model's.
use mathlib.Core.Path.{◌≡◌, refl}
use mathlib.Core.Bool.{Bool, true, false, ◌&&◌, not, cond, false≢true}
use mathlib.Core.List.{List}
use Prim.Native.Nat.{ℕ, ◌≤◌, ◌<◌, ◌%◌}
use native.Mathlib.Omega.{arith}
use native.Mathlib.Nat.{mod-eq_of_lt}
use lib.Dec.{eqb, ltb, leb}
use lib.ListN.{get_or}
use borrow.Author.Tests.{eqb-true, eqb-false, le-leb, leb-true}
use Rattle.model.specs.declared.TreeWords.{TreeWords}
use Rattle.model.specs.declared.Counters.{Counters}
use Rattle.model.specs.Trees.{read_word, tree_of}
use Rattle.model.specs.Counters.{most_counted, good_count}
use Rattle.model.proofs.Tests.{and_both, and_false}
use Rattle.refusals.specs.OfRuns.Counts.{count_in}

-- a test against a bound of at most 2^63 includes the test against 2^63
low_enough : (l h : ℕ) → h ≤ most_counted → leb l most_counted && leb l h ≡ leb l h
low_enough l h b = by (leb l h) refl
  where
    by : (x : Bool) → leb l h ≡ x → leb l most_counted && leb l h ≡ leb l h
    by true e = rw (e, le-leb l most_counted (omega (arith, leb-true l h e)))
    by false e = rw e (and_false (leb l most_counted))

zero_low : (l h : ℕ) → eqb l 0 && leb l h ≡ eqb l 0
zero_low l h = by (eqb l 0) refl
  where
    by : (x : Bool) → eqb l 0 ≡ x → x && leb l h ≡ x
    by true e = le-leb l h (omega (arith, eqb-true l 0 e))
    by false e = refl

pub count_same :
    (w : TreeWords) (c : Counters) (d : ℕ) → get_or w.thresholds d 0 < 65536 →
    good_count (tree_of w) c d ≡ count_in w.domains d (get_or w.thresholds d 0) (get_or c.entries d 0) (get_or c.tenures d 0) (get_or c.longest d 0)
unfolding good_count tree_of read_word
count_same w c d small = by (not (eqb d 0) && ltb d m) refl
  where
    m : ℕ
    m = w.domains

    hs : List ℕ
    hs = w.thresholds

    e : ℕ
    e = get_or c.entries d 0

    n : ℕ
    n = get_or c.tenures d 0

    l : ℕ
    l = get_or c.longest d 0

    real : not (eqb d 0) && ltb d m ≡ true → cond (leb 1 d && ltb d m) (get_or hs d 0) 0 % 65536 ≡ get_or hs d 0
    real z =
        let both = and_both (not (eqb d 0)) (ltb d m) z in
        rw (both.1, above (eqb d 0) refl both.0) (mod-eq_of_lt small)
      where
        above : (b : Bool) → eqb d 0 ≡ b → not b ≡ true → leb 1 d ≡ true
        above true y h = absurd (false≢true h)
        above false y h = le-leb 1 d (omega (arith, eqb-false d 0 y))

    by :
        (b : Bool) → not (eqb d 0) && ltb d m ≡ b →
        cond b (leb e most_counted) (eqb e 0) && (cond b (leb n most_counted) (eqb n 0) && (cond b (leb l most_counted) (eqb l 0) && leb l (cond (leb 1 d && ltb d m) (get_or hs d 0) 0 % 65536)))
        ≡ cond b (leb e most_counted && (leb n most_counted && leb l (get_or hs d 0))) (eqb e 0 && (eqb n 0 && eqb l 0))
    by true z = rw (real z, low_enough l (get_or hs d 0) (omega arith))
    by false z = rw (zero_low l (cond (leb 1 d && ltb d m) (get_or hs d 0) 0 % 65536))
