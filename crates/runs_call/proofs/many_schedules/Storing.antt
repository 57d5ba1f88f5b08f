-- Rows that the code stores in order are those at the front of the call's buffer.
use mathlib.Core.Path.{◌≡◌, refl, sym, ap, ◌∙◌}
use mathlib.Core.List.{List, [], ◌++◌}
use Prim.Native.Nat.{ℕ, suc, ◌+◌, ◌*◌, ◌≤◌, ◌<◌}
use native.Mathlib.Omega.{arith}
use native.Mathlib.Numerals.{add-one}
use lib.ListN.{length, take, drop, get_or, drop_of_length-le}
use lib.Seq.{sets, sets-eq, length-sets, drop-cons, drop-drop}
use borrow.Author.Tests.{ne_eqb}
use Rattle.model.specs.declared.TreeWords.{TreeWords}
use Rattle.model.specs.declared.RunReply.{RunReply}
use Rattle.model.specs.Trees.{tree_of}
use Rattle.schedules.specs.Rows.{total, cut, alone, row_of, rows_of, after_one_another, all_rows}
use Rattle.model.specs.Refusals.{refusal, accepted}
use Rattle.refusals.specs.declared.reasons.Refusal as refusals
use Rattle.refusals.specs.Reasons.{number_of}
use Rattle.refusals.proofs.Refusing.{reason_numbered, error_numbered, ok_numbered}
use Rattle.schedules.specs.Refusals.{many_refusal}
use Rattle.schedules.specs.Answers.{many_answer, many_reply, rows_answer}
use Rattle.runs_call.proofs.many_schedules.Adding.{total_next}
use Rattle.schedules.proofs.Cutting.{as_many}
use Rattle.schedules.proofs.Answering.{GoodCall, call_facts, rows_length, rows_accepted, rows_refused}

row_first : (l : List ℕ) (at : ℕ) (r : RunReply) (xs : List ℕ) → sets l at (row_of r ++ xs) ≡ sets (sets l at (row_of r)) (at + 8) xs
unfolding row_of
row_first l at r xs = let z : at + 8 ≡ suc (suc (suc (suc (suc (suc (suc (suc at))))))) = omega arith in rw z

-- the next row, and those after it
rows_next :
    (w : TreeWords) (ns es l : List ℕ) (k from at : ℕ) → k < length ns →
    sets l at (all_rows w (cut (drop k ns) (drop from es)))
    ≡ sets (sets l at (row_of (alone w (take (get_or ns k 0) (drop from es))))) (at + 8) (all_rows w (cut (drop (k + 1) ns) (drop (from + get_or ns k 0) es)))
unfolding rows_of after_one_another cut
rows_next w ns es l k from at h =
    rw (add-one, drop-cons ns k 0 h, drop-drop) (row_first l at (alone w (take (get_or ns k 0) (drop from es))) _)

-- after the last length there are no rows
rows_end : (w : TreeWords) (ns es : List ℕ) (k : ℕ) → length ns ≤ k → all_rows w (cut (drop k ns) es) ≡ []
unfolding rows_of after_one_another cut
rows_end w ns es k h = rw (drop_of_length-le ns h)

-- after k schedules: the rows stored so far, and those still to come
pub record SoFar (w : TreeWords) (ns es before now : List ℕ) (k from at : ℕ) : Type 0 where
  pub together : sets now at (all_rows w (cut (drop k ns) (drop from es))) ≡ sets before 0 (all_rows w (cut ns es))
  pub ahead : total (drop k ns) + from ≡ length es
  pub row_place : at ≡ 8 * k
  pub long : length now ≡ length before

pub start : (w : TreeWords) (ns es b : List ℕ) → total ns ≡ length es → SoFar w ns es b b 0 0 0
start w ns es b e = record { together = refl; ahead = omega arith; row_place = refl; long = refl }

module _ (w : TreeWords) (ns es b l : List ℕ) (k from at : ℕ) (s : SoFar w ns es b l k from at) where
  -- the next schedule's entries are among those given
  pub next_fits : k < length ns → from + get_or ns k 0 ≤ length es
  next_fits h = omega (arith, s.ahead, total_next ns k h)

  pub turn :
      k < length ns → (is l' : List ℕ) → is ≡ take (get_or ns k 0) (drop from es) → l' ≡ sets l at (row_of (alone w is)) →
      SoFar w ns es b l' (k + 1) (from + get_or ns k 0) (at + 8)
  turn h is l' e f =
      record {
        together = rw (f, e) (sym (rows_next w ns es l k from at h) ∙ s.together);
        ahead = omega (arith, s.ahead, total_next ns k h);
        row_place = omega (arith, s.row_place);
        long = ap length f ∙ length-sets l at (row_of (alone w is)) ∙ s.long;
      }

  pub ends : length ns ≤ k → l ≡ sets b 0 (all_rows w (cut ns es))
  ends h = sym (ap (sets l at) (rows_end w ns (drop from es) k h)) ∙ s.together

-- all of them, stored from the front on
rows_written : (w : TreeWords) (ns es b : List ℕ) → (many_answer w ns es b).number ≡ 0 → sets b 0 (all_rows w (cut ns es)) ≡ rows_answer w ns es b
unfolding many_answer
rows_written w ns es b e =
    let g = call_facts (tree_of w) ns (length es) (length b) e in
    let n : length (all_rows w (cut ns es)) ≤ length b = omega (arith, rows_length w (cut ns es), as_many ns es, g.fits) in
    let z : 0 + length (all_rows w (cut ns es)) ≡ length (all_rows w (cut ns es)) = omega arith in
    rw (sets-eq (all_rows w (cut ns es)) b 0 (omega arith), z) (sym (rows_accepted w ns es b e))

-- THE CALL, by the result of its tests
module _ (w : TreeWords) (ns es b : List ℕ) where
  module _ (x : refusals.Refusal) (e : refusal (number_of x.reason) x.place ≡ many_refusal (tree_of w) ns (length es) (length b)) where
    pub call_refuses : record { number = number_of x.reason; place = x.place; rows = 0 } ≡ many_reply w ns es b
    unfolding many_answer many_reply refusal
    call_refuses = rw (sym e, ne_eqb (number_of x.reason) 0 (reason_numbered x.reason))

    pub rows_kept : b ≡ rows_answer w ns es b
    unfolding many_answer many_refusal
    rows_kept = sym (rows_refused w ns es b (error_numbered x e))

  module _ (z : accepted ≡ many_refusal (tree_of w) ns (length es) (length b)) where
    pub call_good : GoodCall (tree_of w) ns (length es) (length b)
    call_good = call_facts (tree_of w) ns (length es) (length b) (ok_numbered z)

    pub call_replies : record { number = 0; place = 0; rows = length ns } ≡ many_reply w ns es b
    unfolding many_answer many_reply accepted refusal
    call_replies = rw (sym z)

    pub call_answered : (b' : List ℕ) → b' ≡ sets b 0 (all_rows w (cut ns es)) → b' ≡ rows_answer w ns es b
    unfolding many_answer
    call_answered b' f = f ∙ rows_written w ns es b (ok_numbered z)
