-- THE ROW BUFFER after a call: each row is at its place, and the rest is unchanged.
use mathlib.Core.Path.{◌≡◌, refl, sym, ap, ◌∙◌}
use mathlib.Core.List.{List, [], ◌∷◌, ◌++◌, append_assoc}
use mathlib.Core.Logic.{◌≢◌}
use Prim.Native.Nat.{ℕ, zero, suc, ◌+◌, ◌*◌, ◌≤◌, ◌<◌}
use native.Mathlib.Omega.{arith, by_contra}
use native.Mathlib.Decide.{ℕ_discrete}
use lib.ListN.{length, take, drop, get_or, length-append, length-drop}
use lib.Seq.{drop_at, drop-append-add}
use borrow.Author.Tests.{eq-eqb, ne_eqb}
use Rattle.model.specs.declared.TreeWords.{TreeWords}
use Rattle.model.specs.declared.RunReply.{RunReply}
use Rattle.model.specs.Trees.{Tree, tree_of}
use Rattle.model.specs.Refusals.{refusal, accepted, tree_refusal}
use Rattle.schedules.specs.Rows.{total, cut, alone, row_of, rows_of, after_one_another, all_rows}
use Rattle.schedules.specs.Refusals.{many_refusal}
use Rattle.schedules.specs.Answers.{many_answer, many_reply, row_buffer, rows_answer}
use Rattle.schedules.specs.Laws.{ManyRefusalLaw, NoneLaw, schedule_at, row_at, RowLaw, KeepsRest, BufferLaw}
use Rattle.schedules.proofs.Cutting.{as_many, in_order}
use Rattle.schedules.proofs.Refusing.{many_refusal_law}
use Rattle.schedules.proofs.Alone.{row_says}

-- an accepted call: its tree passes, the lengths add up and the rows fit
pub record GoodCall (t : Tree) (ns : List ℕ) (n room : ℕ) : Type 0 where
  pub tree : (tree_refusal t).number ≡ 0
  pub adds_up : total ns ≡ n
  pub fits : 8 * length ns ≤ room

pub call_facts : (t : Tree) (ns : List ℕ) (n room : ℕ) → (many_refusal t ns n room).number ≡ 0 → GoodCall t ns n room
unfolding ManyRefusalLaw refusal
call_facts t ns n room e =
    elim (ℕ_discrete (tree_refusal t).number 0) [
      | no z ↦ absurd (z (sym (ap (λ r. r.number) ((many_refusal_law t ns n room).tree_refused z)) ∙ e))
      | yes z ↦
          elim (ℕ_discrete (total ns) n) [
            | no y ↦ absurd (let m = ap (λ r. r.number) ((many_refusal_law t ns n room).total_refused z y) in omega arith)
            | yes y ↦ record { tree = z; adds_up = y; fits = fits z y }
          ]
    ]
  where
    fits : (tree_refusal t).number ≡ 0 → total ns ≡ n → 8 * length ns ≤ room
    fits z y =
        by_contra (8 * length ns) room
        (λ h. let m = ap (λ r. r.number) ((many_refusal_law t ns n room).room_refused z y h) in omega arith)

-- ROWS, each of eight numbers
take_row : (r : RunReply) (l : List ℕ) → take 8 (row_of r ++ l) ≡ row_of r
unfolding row_of
take_row r l = refl

drop_row : (r : RunReply) (n : ℕ) (l : List ℕ) → drop (8 + n) (row_of r ++ l) ≡ drop n l
unfolding row_of
drop_row r n l = drop-append-add (row_of r) l n

pub rows_length : (w : TreeWords) (iss : List (List ℕ)) → length (all_rows w iss) ≡ 8 * length iss
unfolding rows_of after_one_another row_of
rows_length w [] = refl
rows_length w (is ∷ iss) = let e = rows_length w iss in omega arith

row_in : (w : TreeWords) (iss : List (List ℕ)) (rest : List ℕ) (k : ℕ) → k < length iss → row_at k (all_rows w iss ++ rest) ≡ row_of (alone w (get_or iss k []))
unfolding rows_of after_one_another
row_in w [] rest k h = absurd (omega arith)
row_in w (is ∷ iss) rest zero h = rw append_assoc (take_row (alone w is) (all_rows w iss ++ rest))
row_in w (is ∷ iss) rest (suc k) h =
    let z : 8 * suc k ≡ 8 + 8 * k = omega arith in
    rw (z, append_assoc, drop_row (alone w is) (8 * k) (all_rows w iss ++ rest)) (row_in w iss rest k (omega arith))

-- in an accepted call the rows are at the front
pub rows_accepted :
    (w : TreeWords) (ns es b : List ℕ) → (many_answer w ns es b).number ≡ 0 →
    rows_answer w ns es b ≡ all_rows w (cut ns es) ++ drop (length (all_rows w (cut ns es))) b
unfolding rows_answer row_buffer
rows_accepted w ns es b e = rw (eq-eqb (many_answer w ns es b).number 0 e)

pub rows_refused : (w : TreeWords) (ns es b : List ℕ) → (many_answer w ns es b).number ≢ 0 → rows_answer w ns es b ≡ b
unfolding rows_answer row_buffer
rows_refused w ns es b n = rw (ne_eqb (many_answer w ns es b).number 0 n)

pub row_law : RowLaw
unfolding RowLaw many_answer
row_law w ns es b e k h =
    let g = call_facts (tree_of w) ns (length es) (length b) e in
    let l : k < length (cut ns es) = omega (arith, as_many ns es) in
    let there : row_at k (rows_answer w ns es b) ≡ row_of (alone w (schedule_at ns es k)) =
    ap (row_at k) (rows_accepted w ns es b e) ∙ row_in w (cut ns es) _ k l ∙ ap (λ is. row_of (alone w is)) (in_order ns es k h) in
    rw there (row_says w g.tree (schedule_at ns es k))

-- THE REST of the buffer
module _ (w : TreeWords) (ns es b : List ℕ) where
  abbrev xs : List ℕ
  xs = all_rows w (cut ns es)

  length_rows : length xs ≡ 8 * length ns
  length_rows = rows_length w (cut ns es) ∙ ap (λ n. 8 * n) (as_many ns es)

  rest_accepted : (many_answer w ns es b).number ≡ 0 → KeepsRest w ns es b
  unfolding many_answer many_reply
  rest_accepted e =
      let g = call_facts (tree_of w) ns (length es) (length b) e in
      let a = rows_accepted w ns es b e in
      record {
        long = ap length a ∙ simp (length-append, length-drop) (omega (arith, length_rows, g.fits));
        after = ap (drop (8 * length ns)) a ∙ drop_at xs (drop (length xs) b) (8 * length ns) length_rows ∙ rw length_rows;
        refused = λ n. absurd (n e);
        rows_counted = λ _. rw (eq-eqb (many_refusal (tree_of w) ns (length es) (length b)).number 0 e);
        none_reported = λ n. absurd (n e);
      }

  rest_refused : (many_answer w ns es b).number ≢ 0 → KeepsRest w ns es b
  unfolding many_reply
  rest_refused n =
      let a = rows_refused w ns es b n in
      record {
        long = ap length a;
        after = ap (drop (8 * length ns)) a;
        refused = λ _. a;
        rows_counted = λ e. absurd (n e);
        none_reported = λ _. rw (ne_eqb (many_answer w ns es b).number 0 n);
      }

pub buffer_law : BufferLaw
unfolding BufferLaw
buffer_law w ns es b = elim (ℕ_discrete (many_answer w ns es b).number 0) [ yes z ↦ rest_accepted w ns es b z | no z ↦ rest_refused w ns es b z ]

pub none_law : NoneLaw
unfolding NoneLaw many_answer ManyRefusalLaw total rows_of after_one_another cut accepted refusal
none_law w b ok =
    let e = (many_refusal_law (tree_of w) [] 0 (length b)).accepts ok refl (omega arith) in
    (e, rows_accepted w [] [] b (ap (λ r. r.number) e))
