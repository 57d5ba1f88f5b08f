-- WITNESSES: named steps in two pieces that meet the conditions of the laws of the check of steps; docs/WITNESSES.md lists them.
use Rattle.std.specs.Prelude.{◌≡◌, ◌≤◌, length, take, drop}
use Rattle.model.specs.Trees.{tree_of}
use Rattle.model.specs.Counters.{fresh_lock, most_counted}
use Rattle.model.specs.Laws.{Formed}
use Rattle.model.specs.Cases.Marked.{two_homes}
use Rattle.journal.specs.StepCheck.Answers.{early_refusal}
use Rattle.journal.specs.Cases.StepCheck.{passing, passing_kinds, passing_domains}

-- the first eleven steps of the trace in the cases, and the twelfth
pub record Witnesses : Type 0 where
  pub formed : Formed (tree_of two_homes) fresh_lock.words
  pub first : (early_refusal (tree_of two_homes) fresh_lock (take 11 passing) (take 11 passing_kinds) (take 11 passing_domains)).number ≡ 0
  pub kinds : length (drop 11 passing_kinds) ≡ length (drop 11 passing)
  pub domains : length (drop 11 passing_domains) ≡ length (drop 11 passing)
  pub few : length passing ≤ most_counted
