-- What the queues use of an accepted tree.
use mathlib.Core.Path.{◌≡◌}
use mathlib.Core.Logic.{◌≢◌}
use Prim.Native.Nat.{ℕ, ◌+◌, ◌*◌, ◌≤◌, ◌<◌}
use native.Mathlib.Omega.{arith}
use Rattle.model.specs.Trees.{Tree, owner_domain, allowance}
use Rattle.model.proofs.Trees.Index.{ancestor, height, record_at, member_allowance}
use Rattle.model.proofs.Trees.Accepted.{Accepted}
use Rattle.model.proofs.Trees.Paths.{ancestor_root, ancestor_inner, ancestor_real}
use Rattle.model.proofs.Trees.Records.{owner_at}
use Rattle.model.proofs.Trees.Allowances.{thread_allowance, allowance_domain, allowance_within}

pub record Laws (T : Tree) : Type 0 where
  pub few : T.threads ≤ 256
  pub top : (i : ℕ) → i < T.threads → ancestor T i (height T i) ≡ 0
  pub inner : (i k : ℕ) → i < T.threads → k < height T i → ancestor T i k ≢ 0
  pub positive : (i k : ℕ) → i < T.threads → k < height T i → 1 ≤ T.threshold (ancestor T i k)
  pub of_thread : (i : ℕ) → i < T.threads → 1 ≤ allowance T i
  pub of_domain : (i k : ℕ) → i < T.threads → k < height T i → T.threshold (ancestor T i k) * member_allowance T (ancestor T i k) ≤ allowance T (256 + ancestor T i k)
  pub owner : (i k : ℕ) → i < T.threads → k ≤ height T i → owner_domain T (record_at T i k) ≡ ancestor T i k
  pub at_most : (i k : ℕ) → i < T.threads → k < height T i → allowance T (record_at T i k) ≤ member_allowance T (ancestor T i k)

pub laws : (T : Tree) → Accepted T → Laws T
laws T valid =
    let deep : (i k : ℕ) → i < T.threads → k < height T i → 0 < ancestor T i k = λ i k h b. ancestor_inner T valid i h k b in
    record {
      few = valid.few_threads;
      top = λ i h. ancestor_root T valid i h;
      inner = λ i k h b e. omega (arith, deep i k h b);
      positive = λ i k h b. valid.threshold_some (ancestor T i k) (deep i k h b) (ancestor_real T valid i h k);
      of_thread = λ i h. omega (arith, thread_allowance T i (omega (arith, valid.few_threads)));
      of_domain = λ i k h b. omega (arith, allowance_domain T valid (ancestor T i k));
      owner = λ i k h b. owner_at T valid i h k b;
      at_most = λ i k h b. allowance_within T valid i h k (omega arith);
    }
