-- The numbers of the kinds of a step.
use Rattle.std.specs.Prelude.{ℕ}
use Rattle.rows.specs.declared.kinds.Kind.{Kind}
use Rattle.rows.specs.declared.kinds.Kind.TheVariants.{Stay, OtherMove, RootEntry, PassedEntry, CrossedEntry, Leaving}

-- the number of a kind, which is the model's
abbrev pub number_of_kind : Kind → ℕ
number_of_kind Stay = 0
number_of_kind OtherMove = 1
number_of_kind RootEntry = 2
number_of_kind PassedEntry = 3
number_of_kind CrossedEntry = 4
number_of_kind Leaving = 5
