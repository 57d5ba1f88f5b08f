-- The row with which a thread starts.
use Rattle.std.specs.Prelude.{ℕ, cond}
use Rattle.model.specs.declared.State.{State}
use Rattle.model.specs.Trees.{Tree, is_ticket}
use Rattle.model.specs.Steps.{RowResult, prep_row, draw_row}

-- the row of a thread that starts at a domain: Draw at a ticket root, else Prep
abbrev pub start_row : Tree → (thread domain : ℕ) → State → RowResult
start_row t i l s = cond (is_ticket t l) (draw_row t i s) (prep_row t i l s)
