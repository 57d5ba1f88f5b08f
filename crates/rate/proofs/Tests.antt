-- The answer, given its five tests, and the laws of times and answers.
use mathlib.Core.Path.{◌≡◌, refl, sym, ap, ◌∙◌, subst}
use mathlib.Core.Bool.{Bool, true, false, not, cond}
use Prim.Native.Nat.{ℕ, ◌<◌}
use native.Mathlib.Omega.{arith}
use lib.Dec.{T, eqb, lit<}
use lib.Ieee.{Float, le}
use lib.Ieee.Fits.{and_i, and_l, and_r}
use lib.Ieee.Positive.{between, le→cross, cross→le}
use borrow.Author.Tests.{eqb-false, ne_eqb}
use Rattle.model.specs.Refusals.{Refusal, refusal, accepted, lowest_bad, first_refusal}
use Rattle.model.specs.Laws.{Numbered, RefusalLaw}
use Rattle.model.proofs.Laws.Refusals.{refusal_law}
use Rattle.rate.specs.declared.PassingTimes.{PassingTimes}
use Rattle.std.specs.Prelude.{Result, Ok, Err}
use Rattle.rate.specs.Rate.{shortest_time, longest_time, is_time, passing_rate}
use Rattle.rate.specs.Answers.{zero_threshold, bad_time, rate_tests, rate_refusal, answer_of, rate_answer}
use Rattle.rate.specs.Laws.{InRange, TimeLaw, Accepted, AnswerLaw}

-- the answer by the results of its tests, in their order: whether a threshold is 0, twice, and whether a time is in range, three times
abbrev pub tested : (h1_zero h2_zero p1_good p2_good p3_good : Bool) → (rate : Float) → Result Float Refusal
tested true b c d e x = Err (refusal 8 1)
tested false true c d e x = Err (refusal 8 2)
tested false false false d e x = Err (refusal 24 1)
tested false false true false e x = Err (refusal 24 2)
tested false false true true false x = Err (refusal 24 3)
tested false false true true true x = Ok x

by_tests :
    (a b c d e : Bool) (x : Float) →
    answer_of (cond a (refusal 8 1) (cond b (refusal 8 2) (cond (not c) (refusal 24 1) (cond (not d) (refusal 24 2) (cond (not e) (refusal 24 3) accepted))))) x
    ≡ tested a b c d e x
unfolding answer_of refusal accepted
by_tests true b c d e x = refl
by_tests false true c d e x = refl
by_tests false false false d e x = refl
by_tests false false true false e x = refl
by_tests false false true true false x = refl
by_tests false false true true true x = refl

pub answer_tested :
    (h1 h2 : ℕ) (p : PassingTimes) →
    rate_answer h1 h2 p ≡ tested (eqb h1 0) (eqb h2 0) (is_time p.p1) (is_time p.p2) (is_time p.p3) (passing_rate h1 h2 p)
unfolding rate_answer rate_refusal rate_tests first_refusal lowest_bad zero_threshold bad_time
answer_tested h1 h2 p = by_tests (eqb h1 0) (eqb h2 0) (is_time p.p1) (is_time p.p2) (is_time p.p3) (passing_rate h1 h2 p)

-- an answer that is a rate
abbrev IsRate : Result Float Refusal → Type 0
IsRate (Ok x) = Unit {0}
IsRate (Err r) = ⊥

-- the results with which the answer is a rate
pub record AllGood (a b c d e : Bool) : Type 0 where
  pub h1_not_zero : a ≡ false
  pub h2_not_zero : b ≡ false
  pub p1_good : c ≡ true
  pub p2_good : d ≡ true
  pub p3_good : e ≡ true

all_good : (a b c d e : Bool) (x y : Float) → tested a b c d e x ≡ Ok y → AllGood a b c d e × (x ≡ y)
all_good true b c d e x y q = absurd (subst IsRate (sym q) tt)
all_good false true c d e x y q = absurd (subst IsRate (sym q) tt)
all_good false false false d e x y q = absurd (subst IsRate (sym q) tt)
all_good false false true false e x y q = absurd (subst IsRate (sym q) tt)
all_good false false true true false x y q = absurd (subst IsRate (sym q) tt)
all_good false false true true true x y q = (
  record { h1_not_zero = refl; h2_not_zero = refl; p1_good = refl; p2_good = refl; p3_good = refl },
  ap rate_in q,
)
  where
    rate_in : Result Float Refusal → Float
    rate_in (Ok z) = z
    rate_in (Err r) = x

-- TIMES
to_true : (b : Bool) → T b → b ≡ true
to_true true t = refl
to_true false t = absurd t

in_range_of : (x : Float) → is_time x ≡ true → InRange x
unfolding is_time
in_range_of x h =
    let t : T (is_time x) = subst T (sym h) tt in
    let low = and_l (le shortest_time x) (le x longest_time) t in
    let high = and_r (le shortest_time x) (le x longest_time) t in
    let z = between shortest_time x longest_time tt tt low high in
    let least = le→cross shortest_time x tt z low in
    let most = le→cross x longest_time z tt high in
    record { finite_above_zero = z; from_least = omega (arith, least); to_most = omega (arith, most) }

is_time_of : (x : Float) → InRange x → is_time x ≡ true
unfolding is_time
is_time_of x r =
    let least = r.from_least in
    let most = r.to_most in
    to_true (is_time x)
    (and_i (le shortest_time x) (le x longest_time) (cross→le shortest_time x tt r.finite_above_zero (omega (arith, least))) (cross→le x longest_time r.finite_above_zero tt (omega (arith, most))))

pub time_law : TimeLaw
unfolding TimeLaw
time_law x = (in_range_of x, is_time_of x)

-- ANSWERS
above_zero : (h : ℕ) → eqb h 0 ≡ false → 0 < h
above_zero h e = let n = eqb-false h 0 e in omega arith

not_zero : (h : ℕ) → 0 < h → eqb h 0 ≡ false
not_zero h p = ne_eqb h 0 (λ e. omega arith)

accepted_of : (h1 h2 : ℕ) (p : PassingTimes) (y : Float) → rate_answer h1 h2 p ≡ Ok y → Accepted h1 h2 p × (y ≡ passing_rate h1 h2 p)
accepted_of h1 h2 p y q =
    let g =
    all_good (eqb h1 0) (eqb h2 0) (is_time p.p1) (is_time p.p2) (is_time p.p3) (passing_rate h1 h2 p) y
    (sym (answer_tested h1 h2 p) ∙ q) in (
      record {
        h1_above_zero = above_zero h1 g.0.h1_not_zero;
        h2_above_zero = above_zero h2 g.0.h2_not_zero;
        p1_in_range = in_range_of p.p1 g.0.p1_good;
        p2_in_range = in_range_of p.p2 g.0.p2_good;
        p3_in_range = in_range_of p.p3 g.0.p3_good;
      },
      sym g.1,
    )

rate_accepted : (h1 h2 : ℕ) (p : PassingTimes) → Accepted h1 h2 p → rate_answer h1 h2 p ≡ Ok (passing_rate h1 h2 p)
rate_accepted h1 h2 p g =
    rw (answer_tested h1 h2 p, not_zero h1 g.h1_above_zero, not_zero h2 g.h2_above_zero, is_time_of p.p1 g.p1_in_range, is_time_of p.p2 g.p2_in_range, is_time_of p.p3 g.p3_in_range)

-- a refusal is answered with its own number and place
refused_of : (b : Bool) (r : Refusal) (x : Float) (n q : ℕ) → eqb r.number 0 ≡ b → answer_of r x ≡ Err (refusal n q) → r ≡ refusal n q
unfolding answer_of refusal
refused_of true r x n q e a = absurd (subst IsRate (rw e at a) tt)
refused_of false r x n q e a = ap refusal_in (rw e at a)
  where
    refusal_in : Result Float Refusal → Refusal
    refusal_in (Ok y) = accepted
    refusal_in (Err m) = m

answer_refused : (r : Refusal) (x : Float) (n q : ℕ) → 0 < n → r ≡ refusal n q → answer_of r x ≡ Err (refusal n q)
unfolding answer_of refusal
answer_refused r x n q h e = rw (e, not_zero n h)

numbered : (h1 h2 : ℕ) (p : PassingTimes) → Numbered (rate_tests h1 h2 p)
unfolding Numbered rate_tests
numbered h1 h2 p = (lit< tt, (lit< tt, tt))

pub answer_law : AnswerLaw
unfolding AnswerLaw RefusalLaw rate_answer rate_refusal
answer_law h1 h2 p =
    let refuses_law = refusal_law (rate_tests h1 h2 p) (numbered h1 h2 p) in
    record {
      refuses = refuses_law;
      refused =
          λ n q h. (
            λ a. (refuses_law.refused n q h).0 (refused_of _ (rate_refusal h1 h2 p) (passing_rate h1 h2 p) n q refl a),
            λ a. answer_refused (rate_refusal h1 h2 p) (passing_rate h1 h2 p) n q h ((refuses_law.refused n q h).1 a),
          );
      accepts = (λ q. (accepted_of h1 h2 p (passing_rate h1 h2 p) q).0, rate_accepted h1 h2 p);
      no_other = λ y q. (accepted_of h1 h2 p y q).1;
    }
