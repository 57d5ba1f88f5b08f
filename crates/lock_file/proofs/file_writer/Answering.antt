-- What the call answers, given the results of its tests.
use mathlib.Core.Path.{◌≡◌, refl}
use mathlib.Core.List.{List, ◌++◌}
use mathlib.Core.Logic.{◌≢◌}
use Prim.Native.Nat.{ℕ}
use lib.ListN.{length, drop}
use borrow.Author.Tests.{ne_eqb}
use Rattle.model.specs.declared.TreeWords.{TreeWords}
use Rattle.model.specs.Trees.{tree_of}
use Rattle.model.specs.Refusals.{Refusal, refusal, accepted}
use Rattle.lock_file.specs.declared.file_writer.WriteReply.{WriteReply}
use Rattle.lock_file.specs.FileWriter.Writing.{written_file}
use Rattle.lock_file.specs.FileWriter.Refusals.{write_refusal}
use Rattle.lock_file.specs.FileWriter.Answers.{write_reply, answered_length, file_buffer, write_answer, file_buffer_answer}

abbrev pub replied : (number place length : ℕ) → WriteReply
replied n p l = record { number = n; place = p; length = l }

module _ (w : TreeWords) (is b : List ℕ) where
  pub answer_refused :
      (r : Refusal) → write_refusal (tree_of w) is (length b) ≡ r → r.number ≢ 0 →
      (replied r.number r.place 0 ≡ write_answer w is b) × (b ≡ file_buffer_answer w is b)
  unfolding write_answer file_buffer_answer write_reply file_buffer
  answer_refused r e n = rw (e, ne_eqb r.number 0 n) (refl, refl)

  pub answer_accepted :
      write_refusal (tree_of w) is (length b) ≡ accepted →
      (replied 0 0 (answered_length (tree_of w) is) ≡ write_answer w is b)
      × (written_file (tree_of w) is ++ drop (length (written_file (tree_of w) is)) b ≡ file_buffer_answer w is b)
  unfolding write_answer file_buffer_answer write_reply file_buffer accepted refusal
  answer_accepted e = rw e (refl, refl)
