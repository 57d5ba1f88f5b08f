-- The record that a thread uses at a domain, computed from its home.
use Rattle.std.specs.Prelude.{cond, ℕ, ◌+◌, eqb}
use Rattle.model.specs.Trees.{Tree, child_from}

-- its own record at home, otherwise that of the domain's child on its path
abbrev pub own_record_in : Tree → (thread home domain : ℕ) → ℕ
own_record_in t i h l = cond (eqb l h) i (256 + child_from 6 t l h)
