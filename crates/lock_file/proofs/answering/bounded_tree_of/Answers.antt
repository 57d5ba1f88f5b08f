-- By how far reading came.
use Rattle.std.proofs.Common.{◌∙◌, ap, sym, arith}
use Rattle.lock_file.proofs.Bounded.{read_long, read_at, read_ended, read_bad, place_within, start_within}
use Rattle.lock_file.proofs.Results.{stopped}
use Rattle.lock_file.proofs.answering.bounded_tree_of.Goals as goal

pub returns-then-file-gt65536-clause-value : goal.returns-then-file-gt65536-clause-value
returns-then-file-gt65536-clause-value c = rw (c.at.ensures, read_long _ c.if-file-gt65536.true)

pub overflow_cast-at : goal.overflow_cast-at
overflow_cast-at c = record { fits = omega (arith, place_within _ _ (sym c.in-Err-FileBit.ensures.start ∙ ap stopped c.in-Err-FileBit.field-0-is)) }

pub returns-in-Ok-clause-value : goal.returns-in-Ok-clause-value
returns-in-Ok-clause-value c = rw c.in-Ok.ensures.tree_after (sym (read_at _ (omega arith) _ (sym c.in-Ok.ensures.start)))

pub returns-in-Ok-clause-start_within : goal.returns-in-Ok-clause-start_within
returns-in-Ok-clause-start_within c = start_within _ _ (sym c.in-Ok.ensures.start)

pub returns-in-Err-FileCut-clause-value : goal.returns-in-Err-FileCut-clause-value
returns-in-Err-FileCut-clause-value c =
    rw c.at-in-Err-FileCut.ensures (sym (read_ended _ (omega arith) (sym c.in-Err-FileCut.ensures.start ∙ ap stopped c.in-Err-FileCut.field-0-is)))

pub returns-in-Err-FileBit-clause-value : goal.returns-in-Err-FileBit-clause-value
returns-in-Err-FileBit-clause-value c =
    rw (c.at-in-Err-FileBit.ensures, c.in-Err-FileBit.at-is) (sym (read_bad _ (omega arith) _ (sym c.in-Err-FileBit.ensures.start ∙ ap stopped c.in-Err-FileBit.field-0-is)))
