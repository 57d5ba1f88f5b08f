-- `runs_call::with_waits::waiting::Tally::new` meets its contract: the marks so far are those of their numbers.
use mathlib.Core.Path.{◌≡◌, refl, sym, ap, ◌∙◌}
use mathlib.Core.List.{List}
use Prim.Native.Nat.{ℕ, ◌+◌, ◌<◌}
use native.Mathlib.Omega.{arith}
use native.Mathlib.Decide.{ℕ_discrete}
use lib.ListN.{get_or, set, length-set, length-map, get_or-map}
use Rattle.std.specs.Prelude.{map}
use lib.Seq.{get_or-set_same, get_or-set_other, set-get_or, map-set}
use Rattle.runs_call.proofs.with_waits.Kept.{nothing}
use Rattle.runs_call.specs.declared.with_waits.waiting.ThreadTally.{ThreadTally}
use Rattle.runs_call.specs.WithWaits.Waiting.{marks_of}
use Rattle.runs_call.specs.WithWaits.Tallies.{mark_of}
use Rattle.runs_call.proofs.with_waits.waiting.Tally.new.Invariants.{SetSoFar}
use Rattle.runs_call.proofs.with_waits.waiting.Tally.new.Goals as goal

one_more :
    (us : List ℕ) (K : List ThreadTally) (k : ℕ) → SetSoFar us K k → k < 256 → (v : ℕ) → v ≡ mark_of (get_or us k 0) →
    SetSoFar us (set K k (record { mark = v; attempts = (get_or K k nothing).attempts; total = (get_or K k nothing).total; longest = (get_or K k nothing).longest })) (k + 1)
one_more us K k S h v e =
    let q : ThreadTally = record { mark = v; attempts = (get_or K k nothing).attempts; total = (get_or K k nothing).total; longest = (get_or K k nothing).longest } in
    let same : (f : ThreadTally → ℕ) → f q ≡ f (get_or K k nothing) → map f (set K k q) ≡ map f K =
    λ f z. map-set f K k q ∙ ap (set (map f K) k) (z ∙ sym (get_or-map f K k nothing)) ∙ set-get_or (map f K) k (f nothing) in
    let marks : marks_of (set K k q) ≡ set (marks_of K) k v = map-set (λ r. r.mark) K k q in
    record {
      long = length-set K k q ∙ S.long;
      each = λ i l. ap (λ m. get_or m i 0) marks ∙ elim (ℕ_discrete i k) [
        | yes z ↦ rw z (get_or-set_same (marks_of K) k v 0 (omega (arith, S.long, length-map K (λ r. r.mark))) ∙ e)
        | no z ↦ get_or-set_other (marks_of K) k i v 0 z ∙ S.each i (omega arith)
      ];
      attempts = same (λ r. r.attempts) refl ∙ S.attempts;
      totals = same (λ r. r.total) refl ∙ S.totals;
      longest = same (λ r. r.longest) refl ∙ S.longest;
    }

pub loop-k-init : goal.loop-k-init
loop-k-init c = record { long = refl; each = λ i l. absurd (omega arith); attempts = refl; totals = refl; longest = refl }

pub mark_of-requires : goal.mark_of-requires
mark_of-requires c = c.requires.small c.loop-k.k (omega arith)

pub loop-k-preserved : goal.loop-k-preserved
loop-k-preserved c = one_more _ _ _ c.loop-k.invariant (omega arith) _ c.mark_of.ensures

pub returns-clause-marks : goal.returns-clause-marks
returns-clause-marks c = let S = c.loop-k.invariant in record { long = length-map _ (λ r. r.mark) ∙ S.long; each = λ i h. S.each i (omega (arith, c.loop-k-test.false)) }

pub returns-clause-attempts : goal.returns-clause-attempts
returns-clause-attempts c = c.loop-k.invariant.attempts

pub returns-clause-totals : goal.returns-clause-totals
returns-clause-totals c = c.loop-k.invariant.totals

pub returns-clause-longest : goal.returns-clause-longest
returns-clause-longest c = c.loop-k.invariant.longest
