-- What is counted if no domain from a number on is marked, and marks that are all cleared.
use Rattle.std.proofs.Common.{◌≡◌, ℕ, ◌+◌, ◌<◌, ◌≤◌, max, Bool, false, cond, List, get_or, replicate, refl, ap, ◌∙◌, arith, le-ltb, lt-ltb}
use native.Mathlib.Decide.{dec_lt}
use lib.ListN.{length-replicate}
use Rattle.model.specs.declared.Counters.{Counters}
use Rattle.model.proofs.Counted.{indexed_same}
use Rattle.model.proofs.Laws.Form.{replicate_all}
use Rattle.rows.specs.Common.Counting.{is_shown, CountedShown, Clear, ShownFor}
use Rattle.rows.proofs.common.Counts.{counted_none}

-- no mark
pub clear_none : Clear (replicate 64 false)
clear_none = record { room = length-replicate {A = Bool} 64 false; none = λ d h. replicate_all (λ (x : Bool). x ≡ false) 64 d false refl }

-- if no domain from k on is marked, all that are shown are below k
shown_all : (shown : List Bool) (k : ℕ) → k ≤ 64 → ((d : ℕ) → k ≤ d → d < 64 → get_or shown d false ≡ false) → (d : ℕ) → is_shown shown k d ≡ is_shown shown 64 d
shown_all shown k l h d =
    elim (dec_lt d k) [
      | yes p ↦ rw (lt-ltb d k p, lt-ltb d 64 (omega arith))
      | no p ↦
          elim (dec_lt d 64) [
            | yes q ↦ rw (le-ltb d k (omega (arith, p)), lt-ltb d 64 q, h d (omega (arith, p)) q)
            | no q ↦ rw (le-ltb d k (omega (arith, p)), le-ltb d 64 (omega (arith, q)))
          ]
    ]

pub counted_all :
    (shown : List Bool) (k : ℕ) (old new : Counters) → k ≤ 64 → ((d : ℕ) → k ≤ d → d < 64 → get_or shown d false ≡ false) →
    CountedShown shown k old new → CountedShown shown 64 old new
counted_all shown k old new l h g =
    record {
      added = g.added ∙ indexed_same _ _ 0 old.tenures (λ d v. ap (λ b. v + cond b 1 0) (shown_all shown k l h d));
      raised = g.raised ∙ indexed_same _ _ 0 old.longest (λ d v. ap (λ b. max v (cond b 1 0)) (shown_all shown k l h d));
    }

-- without marks nothing is counted, and the marks stay cleared
pub unmarked_counted : (shown : List Bool) (k : Counters) → ((d : ℕ) → d < 64 → get_or shown d false ≡ false) → CountedShown shown 64 k k
unmarked_counted shown k h = counted_all shown 1 k k (omega arith) (λ d l b. h d b) (counted_none shown k)

pub unmarked_clear : (l m : ℕ) (shown : List Bool) → ShownFor l m shown → l ≡ 0 → Clear shown
unmarked_clear l m shown g z = record { room = g.room; none = g.nobody z }
