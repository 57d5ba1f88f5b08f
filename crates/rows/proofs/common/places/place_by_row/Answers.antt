-- `rows::common::places::place_by_row` meets its contract, row by row.
use Rattle.std.proofs.Common.{refl, arith}
use Rattle.model.specs.declared.Place.TheVariants.{Idle, Prep, Swap, Link, Wait, Inside, Check, Help, Cas, Linger, Grant, Draw, Watch, Raise}
use Rattle.model.proofs.Places.{no_place}
use Rattle.rows.proofs.common.RowPlaces.{at_row}
use Rattle.rows.proofs.common.places.place_by_row.Goals as goal

pub returns-in-0 : goal.returns-in-0
returns-in-0 c = at_row _ c.requires 0 Idle refl c.in-0.is

pub returns-in-1 : goal.returns-in-1
returns-in-1 c = at_row _ c.requires 1 (Prep _) refl c.in-1.is

pub returns-in-2 : goal.returns-in-2
returns-in-2 c = at_row _ c.requires 2 (Swap _) refl c.in-2.is

pub returns-in-3 : goal.returns-in-3
returns-in-3 c = at_row _ c.requires 3 (Link _ _) refl c.in-3.is

pub returns-in-4 : goal.returns-in-4
returns-in-4 c = at_row _ c.requires 4 (Wait _) refl c.in-4.is

pub returns-in-5 : goal.returns-in-5
returns-in-5 c = at_row _ c.requires 5 Inside refl c.in-5.is

pub returns-in-6 : goal.returns-in-6
returns-in-6 c = at_row _ c.requires 6 (Check _) refl c.in-6.is

pub returns-in-7 : goal.returns-in-7
returns-in-7 c = at_row _ c.requires 7 (Help _) refl c.in-7.is

pub returns-in-8 : goal.returns-in-8
returns-in-8 c = at_row _ c.requires 8 (Cas _) refl c.in-8.is

pub returns-in-9 : goal.returns-in-9
returns-in-9 c = at_row _ c.requires 9 (Linger _) refl c.in-9.is

pub returns-in-10 : goal.returns-in-10
returns-in-10 c = at_row _ c.requires 10 (Grant _ _ _) refl c.in-10.is

pub returns-in-11 : goal.returns-in-11
returns-in-11 c = at_row _ c.requires 11 Draw refl c.in-11.is

pub returns-in-12 : goal.returns-in-12
returns-in-12 c = at_row _ c.requires 12 Watch refl c.in-12.is

pub returns-in-13 : goal.returns-in-13
returns-in-13 c = at_row _ c.requires 13 Raise refl c.in-13.is

pub returns-in_default : goal.returns-in_default
returns-in_default c = absurd (c.requires (no_place _ (omega arith)))
