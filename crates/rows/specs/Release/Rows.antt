-- What a row of the release reads.
use Rattle.std.specs.Prelude.{◌≡◌, ℕ, ◌%◌, ◌≢◌}
use Rattle.model.specs.Trees.{Tree}
use Rattle.rows.specs.declared.common.Member.{Member}
use Rattle.rows.specs.Common.Rows.{Stands, Above}

-- what Check reads of the tree; Check is never at the root
pub record CheckReads (t : Tree) (i : ℕ) (w : Member) (kind parent threshold : ℕ) : Type 0 where
  pub stands : Stands t i w
  pub inner : w.domain ≢ 0
  pub above : Above t kind w.domain parent
  pub threshold_is : threshold % 65536 ≡ t.threshold w.domain
