-- At every Check reached from fresh the status is a count from 1 to the threshold.
use mathlib.Core.Path.{◌≡◌, ap, ◌∙◌}
use mathlib.Core.Logic.{◌⊎◌, inl, inr}
use Prim.Native.Nat.{ℕ, suc, ◌≤◌, ◌<◌}
use native.Mathlib.Omega.{arith}
use borrow.Author.Tests.{eq-eqb, ne_eqb}
use Rattle.model.specs.declared.Place.TheVariants.{Check}
use Rattle.model.specs.declared.State.{State as WordState}
use Rattle.model.specs.Trees.{Tree, own_record}
use Rattle.model.specs.States.{none, next, status, place}
use Rattle.model.specs.Steps.{RowResult, step_from, step}
use Rattle.claims.specs.Reached.{equality_check_row, CountsAtCheck, EqualityLaw}
use Rattle.model.proofs.Branches.{Branch, check_passes, check_releases, check_branch, branch}
use Rattle.model.proofs.Trees.Index.{ancestor, height, record_at}
use Rattle.model.proofs.Trees.Accepted.{Accepted, accepted}
use Rattle.model.proofs.Trees.Paths.{ancestor_inner}
use Rattle.model.proofs.Trees.Records.{own_record_at}
use Rattle.model.proofs.Lists.{same_or}
use Rattle.claims.proofs.Queues.Moves.{low}
use Rattle.claims.proofs.Words.View.{words_in}
use Rattle.claims.proofs.Words.Says.{Says, says_at}
use Rattle.claims.proofs.Claims.Reached.{Queued, queued_from_fresh}

-- up to the threshold, "below it" and "different from it" are the same test, and without a next the lock cannot be passed on; so the row by equality has the same result
pub same_by_equality :
    (t : Tree) (i l : ℕ) (s : WordState) → (status s (own_record t i l) ≤ t.threshold l) ⊎ (next s (own_record t i l) ≡ none) → {x : RowResult} → Branch t i s (Check l) x →
    x ≡ equality_check_row t i l s
unfolding equality_check_row
same_by_equality t i l s (inl within) (check_passes _ less some) =
    rw (ne_eqb (status s (own_record t i l)) (t.threshold l) (λ z. omega arith), ne_eqb (next s (own_record t i l)) none some)
same_by_equality t i l s (inr alone) (check_passes _ less some) = absurd (some alone)
same_by_equality t i l s (inl within) (check_releases _ why) =
    let v = status s (own_record t i l) in
    let h = t.threshold l in
    let n = next s (own_record t i l) in
    same_or v h _ (λ z. rw (eq-eqb v h z))
    (λ z. elim why [ inl reached ↦ absurd (z (omega arith)) | inr alone ↦ rw (ne_eqb v h z, eq-eqb n none alone) ])
same_by_equality t i l s (inr alone) (check_releases _ why) =
    let v = status s (own_record t i l) in
    let h = t.threshold l in
    same_or v h _ (λ z. rw (eq-eqb v h z)) (λ z. rw (ne_eqb v h z, eq-eqb (next s (own_record t i l)) none alone))

counts_at_check :
    (t : Tree) → Accepted t → (s : WordState) → Queued t s → (i l : ℕ) → i < t.threads → place s i ≡ Check l → CountsAtCheck t s i l
unfolding words_in low step Says
counts_at_check t valid s q i l h e =
    let rep = q.represents in
    let x : Says t (words_in s) q.queues i (Check l) (q.queues.stage i) = says_at e (rep.fits i h) in
    let k = x.0 in
    let below = x.2 in
    let own : own_record t i l ≡ record_at t i k = ap (own_record t i) x.1.0 ∙ own_record_at t valid i h k (omega arith) in
    let all : low (height t i) (q.queues.stage i) ≡ suc (height t i) = ap (low (height t i)) x.3 in
    let first = (rep.invariant.threads i).heads k (omega arith) in
    let inner = ancestor_inner t valid i h k below in
    let counts = rep.invariant.counts (ancestor t i k) (record_at t i k) (λ z. omega arith) first in
    let limit : t.threshold l ≡ t.threshold (ancestor t i k) = ap t.threshold x.1.0 in
    let value : status s (own_record t i l) ≡ q.queues.tally (record_at t i k) = ap (status s) own ∙ x.4 k below below in
    let within : status s (own_record t i l) ≤ t.threshold l = omega (arith, counts.1) in
    record {
      started = omega (arith, counts.0);
      within = within;
      same_row = same_by_equality t i l s (inl within) (check_branch t i s l);
      same_step = rw e (ap (step_from t i (Check l)) (same_by_equality t i l s (inl within) (branch t i s (Check l))));
    }

pub equality_law : EqualityLaw
unfolding EqualityLaw
equality_law t s f i l h e = counts_at_check t (accepted t f.fresh_run.tree_accepted) s (queued_from_fresh t s f) i l h e
