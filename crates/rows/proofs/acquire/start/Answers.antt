-- `rows::acquire::start` meets its contract: it draws at a ticket root, and does Prep elsewhere.
use Rattle.std.proofs.Common.{sym, ◌∙◌, eq-eqb, ne_eqb}
use Rattle.model.proofs.Trees.Tickets.{ticket_yes, ticket_lower, ticket_none}
use Rattle.rows.proofs.acquire.start.Goals.{then-w-ne0-via-then-w-ne0, then-w-ne0-via-else-w-ne0+then-tree-eq0}
use Rattle.rows.proofs.acquire.start.Goals as goal

pub returns-then-w-ne0-clause-row_done : goal.returns-then-w-ne0-clause-row_done
returns-then-w-ne0-clause-row_done c =
    record {
      places_kept = c.prep.ensures.row_done.places_kept;
      does = λ t i ps S.
          elim c.then-w-ne0.branch [
            | then-w-ne0-via-then-w-ne0 w ↦ rw (ticket_lower t _ w.if-w-ne0.true) (c.prep.ensures.row_done.does t i ps S.0)
            | then-w-ne0-via-else-w-ne0+then-tree-eq0 w ↦ rw (ticket_none t _ (sym S.1 ∙ rw (eq-eqb _ _ w.if-tree-eq0.true))) (c.prep.ensures.row_done.does t i ps S.0)
          ];
    }

pub returns-clause-row_done : goal.returns-clause-row_done
returns-clause-row_done c =
    record {
      places_kept = c.draw.ensures.row_done.places_kept;
      does = λ t i ps S. rw (ticket_yes t _ (sym S.1 ∙ rw (ne_eqb _ _ c.if-tree-eq0.false)) c.if-w-ne0.false) (c.draw.ensures.row_done.does t i ps S.0);
    }
