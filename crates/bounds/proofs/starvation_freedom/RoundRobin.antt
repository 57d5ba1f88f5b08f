-- In round robin every thread occurs in each window of as many entries as there are threads.
use mathlib.Core.Path.{◌≡◌, refl, sym, ap, ◌∙◌}
use mathlib.Core.List.{◌++◌}
use Prim.Native.Nat.{ℕ, zero, suc, ◌+◌, ◌-◌, ◌≤◌, ◌<◌}
use native.Mathlib.Omega.{arith}
use native.Mathlib.Decide.{dec_lt}
use lib.ListN.{length, take, drop, length-append, length-drop, take-append-drop}
use lib.Seq.{take-append-le, drop-append-le, take-append-add, drop-append-add}
use Rattle.model.specs.Runs.{occurrences}
use Rattle.model.proofs.Counted.{occurrences_join}
use Rattle.bounds.specs.StarvationFreedom.Laws.{in_order, round_robin, RoundRobinLaw}
use Rattle.bounds.proofs.starvation_freedom.Law.{in_order_everyone, in_order_length, robin_rounds, rounds_threads}

-- its first entries, up to one round, are the threads in order
front : (m n k : ℕ) → k ≤ length (round_robin m n) → k ≤ m → take k (round_robin m n) ≡ take k (in_order m)
unfolding round_robin
front m zero zero h l = refl
front m zero (suc k) h l = absurd (omega arith)
front m (suc n) k h l = take-append-le k (in_order m) (round_robin m n) (omega (arith, in_order_length m))

-- a window that begins in the first round has the rest of that round, and from the next one the threads that are missing
first_window :
    (m n k i : ℕ) → k < m → k ≤ length (round_robin m n) → i < m → 1 ≤ occurrences i (take m (drop k (in_order m ++ round_robin m n)))
first_window m n k i l room h =
    let A = in_order m in
    let B = round_robin m n in
    let whole = in_order_length m in
    let rest = length-drop k A in
    let many : m ≡ length (drop k A) + k = omega arith in
    let split : take m (drop k (A ++ B)) ≡ drop k A ++ take k A =
    ap (take m) (drop-append-le k A B (omega arith)) ∙ ap (λ z. take z (drop k A ++ B)) many ∙ take-append-add (drop k A) B k ∙ ap (λ z. drop k A ++ z) (front m n k room (omega arith)) in
    let joined = occurrences_join i (drop k A) (take k A) in
    let all = sym (occurrences_join i (take k A) (drop k A)) ∙ ap (occurrences i) (take-append-drop k A) in
    rw split (omega (arith, joined, all, in_order_everyone m i h))

window : (m n k i : ℕ) → k + m ≤ length (round_robin m n) → i < m → 1 ≤ occurrences i (take m (drop k (round_robin m n)))
unfolding round_robin
window m zero k i room h = absurd (omega arith)
window m (suc n) k i room h =
    let A = in_order m in
    let B = round_robin m n in
    let whole = in_order_length m in
    let both = length-append A B in
    elim (dec_lt k m) [
      | yes l ↦ first_window m n k i l (omega arith) h
      | no l ↦
          let far : k ≡ length A + (k - m) = omega arith in
          rw (ap (λ z. drop z (A ++ B)) far ∙ drop-append-add A B (k - m)) (window m n (k - m) i (omega arith) h)
    ]

pub round_robin_law : RoundRobinLaw
unfolding RoundRobinLaw
round_robin_law t n = record { threads = rounds_threads t (robin_rounds t n); everyone = λ k i room h. window t.threads n k i (omega arith) h }
