-- `rows::common::counting::count_entry` counts level by level up to the root.
use Rattle.rows.proofs.common.Counts.{climbs_on, climbs_end}
use Rattle.rows.proofs.common.counting.count_entry.Goals as goal

pub loop-c-preserved : goal.loop-c-preserved
loop-c-preserved c = climbs_on _ _ _ _ _ _ c.requires.leads_up.lower c.loop-c-test.true c.loop-c.invariant

pub returns : goal.returns
returns c = climbs_end _ _ _ _ _ _ c.loop-c-test.false c.loop-c.invariant
