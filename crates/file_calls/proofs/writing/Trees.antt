-- A tree stored part by part is the written tree.
use mathlib.Core.Path.{◌≡◌, refl, sym, ◌∙◌}
use mathlib.Core.List.{List, [], ◌∷◌, ◌++◌}
use Prim.Native.Nat.{ℕ, ◌+◌, ◌≤◌, ◌<◌}
use native.Mathlib.Omega.{arith}
use lib.ListN.{length, drop, get_or}
use lib.Seq.{sets}
use Rattle.model.specs.declared.TreeWords.{TreeWords}
use Rattle.model.specs.Trees.{Tree, tree_of}
use Rattle.model.proofs.Storing.{sets_append, sets_front}
use native.Mathlib.Nat.{mod-eq_of_lt}
use Rattle.model.proofs.Trees.Reading.{read_in}
use Rattle.file_calls.specs.Writers.{written}
use Rattle.file_calls.specs.declared.writing.writing.Writer.{Writer}
use Rattle.file_calls.proofs.writing.Writers.{HasRoom, room_after, written_both, room_first}
use Rattle.lock_file.specs.FileWriter.Writing.{low_first_bytes, domains_of, threads_of, written_schedule, first_byte, written_tree, written_file}
use Rattle.lock_file.proofs.file_writer.Lengths.{tree_length}

pub parts_length : (t : Tree) → length (written_tree t) ≡ 3 + length (domains_of t) + length (threads_of t)
parts_length t = tree_length t

-- what the code reads from the arrays is the tree's
pub parent_read : (w : TreeWords) (d : ℕ) → 0 < d → d < w.domains → (tree_of w).parent d ≡ get_or w.parents d 0
unfolding tree_of
parent_read w d p q = read_in 1 w.domains w.parents d (omega arith) q

pub threshold_read :
    (w : TreeWords) (d : ℕ) → 0 < d → d < w.domains → get_or w.thresholds d 0 < 65536 → (tree_of w).threshold d ≡ get_or w.thresholds d 0
unfolding tree_of
threshold_read w d p q f = rw (read_in 1 w.domains w.thresholds d (omega arith) q) (mod-eq_of_lt f)

pub home_read : (w : TreeWords) (i : ℕ) → i < w.threads → (tree_of w).home i ≡ get_or w.homes i 0
unfolding tree_of
home_read w i q = read_in 0 w.threads w.homes i (omega arith) q

-- the four parts of a tree in order
module _ (t : Tree) (w one : Writer) (byte : ℕ) (read : byte ≡ first_byte t) (first : one ≡ written w (byte ∷ [])) (h : HasRoom w (written_tree t)) where
  pub room_domains : HasRoom one (domains_of t)
  unfolding written_tree
  room_domains =
      let rest = low_first_bytes t.threads ++ threads_of t in
      let r = room_after w one (written_tree t) (byte ∷ []) (domains_of t ++ rest) (rw read refl) first h in
      room_first one one (domains_of t ++ rest) (domains_of t ++ rest) (domains_of t) rest refl refl r

  module _ (two : Writer) (second : two ≡ written one (domains_of t)) where
    pub room_count : HasRoom two (low_first_bytes t.threads)
    unfolding written_tree
    room_count =
        let rest = low_first_bytes t.threads ++ threads_of t in
        let r = room_after w one (written_tree t) (byte ∷ []) (domains_of t ++ rest) (rw read refl) first h in
        room_first two two rest rest (low_first_bytes t.threads) (threads_of t) refl refl (room_after one two (domains_of t ++ rest) (domains_of t) rest refl second r)

    module _ (three : Writer) (third : three ≡ written two (low_first_bytes t.threads)) where
      pub room_threads : HasRoom three (threads_of t)
      unfolding written_tree
      room_threads =
          let rest = low_first_bytes t.threads ++ threads_of t in
          let r = room_after w one (written_tree t) (byte ∷ []) (domains_of t ++ rest) (rw read refl) first h in
          room_after two three rest (low_first_bytes t.threads) (threads_of t) refl third (room_after one two (domains_of t ++ rest) (domains_of t) rest refl second r)

      pub tree_stored : (four : Writer) → four ≡ written three (threads_of t) → four ≡ written w (written_tree t)
      unfolding written_tree
      tree_stored four fourth =
          let rest = low_first_bytes t.threads ++ threads_of t in
          written_both w one (written_tree t) (byte ∷ []) (domains_of t ++ rest) (rw read refl) first four
          (written_both one two (domains_of t ++ rest) (domains_of t) rest refl second four (written_both two three rest (low_first_bytes t.threads) (threads_of t) refl third four fourth))

-- the tree and then the schedule: the file at the front of the buffer
pub file_stored :
    (t : Tree) (is l : List ℕ) → length (written_file t is) ≤ length l →
    sets (sets l 0 (written_tree t)) (length (written_tree t)) (written_schedule is) ≡ written_file t is ++ drop (length (written_file t is)) l
unfolding written_file
file_stored t is l h =
    let z : 0 + length (written_tree t) ≡ length (written_tree t) = omega arith in
    rw z at (sym (sets_append l 0 (written_tree t) (written_schedule is))) ∙ sets_front l (written_tree t ++ written_schedule is) h
