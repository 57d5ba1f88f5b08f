-- `rows::common::counting::count_shown` meets its contract: the domains so far are counted where they are marked.
use Rattle.std.proofs.Common.{refl, arith, ◌∙◌, get_or-set_other}
use Rattle.rows.proofs.common.Counts.{counted_none, counted_past, counted_here}
use Rattle.rows.proofs.common.Shown.{clear_none, unmarked_counted, unmarked_clear}
use Rattle.rows.proofs.common.counting.count_shown.Goals.{then-shown-d, else-shown-d}
use Rattle.rows.proofs.common.counting.count_shown.Goals as goal

pub returns-then-looked-eq0-clause-counted_shown : goal.returns-then-looked-eq0-clause-counted_shown
returns-then-looked-eq0-clause-counted_shown c = unmarked_counted _ _ (unmarked_clear _ _ _ c.requires.shown_for c.if-looked-eq0.true).none

pub loop-d-init : goal.loop-d-init
loop-d-init c = (counted_none _ _, refl, λ j l. refl)

pub loop-d-preserved : goal.loop-d-preserved
loop-d-preserved c =
    let g = c.loop-d.invariant in
    elim c.if-shown-d.branch [
      | then-shown-d w ↦ rw (w.counters-is, w.max.ensures) (counted_here _ _ _ _ w.if-shown-d.true (λ z. absurd (omega arith)) g.0, g.1, λ j l. get_or-set_other c.loop-d.counters.tenures c.loop-d.d j _ 0 (λ z. absurd (omega arith)) ∙ g.2 j (omega arith))
      | else-shown-d w ↦ rw w.counters-is (counted_past _ _ _ _ w.if-shown-d.false g.0, g.1, λ j l. g.2 j (omega arith))
    ]

pub returns-clause-clear : goal.returns-clause-clear
returns-clause-clear c = clear_none
