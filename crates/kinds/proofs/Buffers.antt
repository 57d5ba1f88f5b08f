-- THE BUFFERS after a call: each row is at its place, and the rest is unchanged; and consecutive calls.
use mathlib.Core.Path.{◌≡◌, refl, sym, ap, ◌∙◌}
use mathlib.Core.List.{List, [], ◌∷◌, ◌++◌}
use mathlib.Core.Logic.{◌≢◌}
use Prim.Native.Nat.{ℕ, zero, suc, ◌*◌, ◌≤◌, ◌<◌}
use native.Mathlib.Omega.{arith, by_contra}
use native.Mathlib.Decide.{ℕ_discrete}
use lib.ListN.{length, take, drop, get_or, length-append, length-drop}
use lib.Seq.{take_at, drop_at}
use borrow.Author.Tests.{eq-eqb, ne_eqb}
use Rattle.model.specs.declared.TreeWords.{TreeWords}
use Rattle.model.specs.declared.State.{State}
use Rattle.model.specs.declared.LockState.{LockState}
use Rattle.model.specs.Trees.{Tree, tree_of}
use Rattle.model.specs.Steps.{kind_number, Step, step}
use Rattle.model.specs.Runs.{steps, state_after, run_of, run}
use Rattle.model.specs.Counters.{lock_state, counters_after}
use Rattle.model.specs.Refusals.{refusal, first_refusal, run_tests_before_19, run_refusal}
use Rattle.model.specs.Answers.{counters_after_run, run_reply, run_buffer, run_answer, trace_answer}
use Rattle.model.proofs.Counted.{counters_join}
use Rattle.model.proofs.Laws.Runs.{steps_join, steps_length, state_after_join}
use Rattle.schedules.specs.Answers.{row_buffer}
use Rattle.kinds.specs.Answers.{rows_of, kinds_reply, refused_by, kinds_answer, kinds_trace, kinds_rows}
use Rattle.kinds.specs.Laws.{KindsRefusalLaw, RunsAs, KindsRunLaw, row_at, RowLaw, KeepsRest, KindsBufferLaw, written, KindsJoinLaw}
use Rattle.kinds.proofs.Refusing.{early_passes, early_zero, kinds_refusal_law}

-- ROWS and where they are in the buffer
pub rows_long : (xs : List Step) → length (rows_of xs) ≡ 2 * length xs
unfolding rows_of
rows_long [] = refl
rows_long (x ∷ xs) = let e = rows_long xs in omega arith

rows_join : (xs ys : List Step) → rows_of (xs ++ ys) ≡ rows_of xs ++ rows_of ys
unfolding rows_of
rows_join [] ys = refl
rows_join (x ∷ xs) ys = ap (λ (l : List ℕ). kind_number x.kind ∷ x.domain ∷ l) (rows_join xs ys)

row_in :
    (t : Tree) (is : List ℕ) (s : State) (k : ℕ) (rest : List ℕ) → k < length is →
    (let x = step t (get_or is k 0) (state_after s (steps t (take k is) s)) in row_at k (rows_of (steps t is s) ++ rest) ≡ kind_number x.kind ∷ x.domain ∷ [])
unfolding steps state_after rows_of
row_in t [] s k rest h = absurd (omega arith)
row_in t (i ∷ is) s zero rest h = refl
row_in t (i ∷ is) s (suc k) rest h = let z : 2 * suc k ≡ suc (suc (2 * k)) = omega arith in rw z (row_in t is (step t i s).state k rest (omega arith))

-- THE CALL by its refusal
module _ (w : TreeWords) (s : LockState) (is b rs : List ℕ) where
  abbrev t : Tree
  t = tree_of w

  abbrev xs : List Step
  xs = steps t is s.words

  all_long : length (rows_of xs) ≡ 2 * length is
  all_long = rows_long xs ∙ ap (λ n. 2 * n) (steps_length t is s.words)

  pub rows_accepted : (refused_by w s is b rs).number ≡ 0 → kinds_rows w s is b rs ≡ rows_of xs ++ drop (length (rows_of xs)) rs
  unfolding kinds_rows row_buffer
  rows_accepted e = rw (eq-eqb (refused_by w s is b rs).number 0 e)

  rows_refused : (refused_by w s is b rs).number ≢ 0 → kinds_rows w s is b rs ≡ rs
  unfolding kinds_rows row_buffer
  rows_refused n = rw (ne_eqb (refused_by w s is b rs).number 0 n)

  rows_fit : (refused_by w s is b rs).number ≡ 0 → 2 * length is ≤ length rs
  unfolding refused_by
  rows_fit e = (early_passes t s is (length b) (length rs) (early_zero t s is (length b) (length rs) e)).1

  all_reported : (refused_by w s is b rs).number ≡ 0 → (kinds_answer w s is b rs).rows ≡ length is
  unfolding kinds_answer kinds_reply
  all_reported e = rw (eq-eqb (refused_by w s is b rs).number 0 e)

  rest_kept : KeepsRest w s is b rs
  unfolding kinds_answer kinds_reply kinds_trace run_reply run_buffer
  rest_kept =
      elim (ℕ_discrete (refused_by w s is b rs).number 0) [
        | yes e ↦
            record {
              long = ap length (rows_accepted e) ∙ length-append (rows_of xs) (drop (length (rows_of xs)) rs) ∙ omega (arith, length-drop (length (rows_of xs)) rs, all_long, rows_fit e);
              after = ap (drop (2 * length is)) (rows_accepted e) ∙ drop_at (rows_of xs) (drop (length (rows_of xs)) rs) (2 * length is) all_long ∙ rw all_long;
              rows_counted = all_reported;
              refused = λ n. absurd (n e);
            }
        | no n ↦
            record {
              long = ap length (rows_refused n);
              after = ap (drop (2 * length is)) (rows_refused n);
              rows_counted = all_reported;
              refused = λ _.
                  record {
                    reply = rw (ne_eqb (refused_by w s is b rs).number 0 n);
                    traced = rw (ne_eqb (refused_by w s is b rs).number 0 n);
                    written = rows_refused n;
                  };
            }
      ]

  -- if 28 does not refuse, refusal, reply and trace are the run's
  module _ (n : (refused_by w s is b rs).number ≢ 28) where
    pub same_refusal : refused_by w s is b rs ≡ run_refusal t s is (length b)
    unfolding KindsRefusalLaw refusal refused_by
    same_refusal =
        elim (ℕ_discrete (first_refusal (run_tests_before_19 t s is (length b))).number 0) [
          | no z ↦ (kinds_refusal_law t s is (length b) (length rs)).run_refused z
          | yes z ↦
              (kinds_refusal_law t s is (length b) (length rs)).rows_fit z
              (by_contra (2 * length is) (length rs) (λ h. n (ap (λ r. r.number) ((kinds_refusal_law t s is (length b) (length rs)).room_refused z h))))
        ]

    runs_as : RunsAs w s is b rs
    unfolding kinds_answer kinds_reply kinds_trace run_answer trace_answer
    runs_as = record { reply = ap (λ r. run_reply r s (run t is s.words) (counters_after_run t is s)) same_refusal; traced = ap (λ r. run_buffer r b (run t is s.words)) same_refusal }

  -- an accepted call writes the rows of its steps, and returns the state after them
  module _ (e : (refused_by w s is b rs).number ≡ 0) where
    written_rows : written w s is b rs ≡ rows_of xs
    written_rows = rw (all_reported e, rows_accepted e) (take_at (rows_of xs) (drop (length (rows_of xs)) rs) (2 * length is) all_long)

    left_state : (kinds_answer w s is b rs).state ≡ lock_state (state_after s.words xs) (counters_after t s.counters xs)
    unfolding kinds_answer kinds_reply run_reply run run_of counters_after_run
    left_state = rw (eq-eqb (refused_by w s is b rs).number 0 e)

pub row_law : RowLaw
unfolding RowLaw run run_of
row_law w s is b rs e k h = ap (row_at k) (rows_accepted w s is b rs e) ∙ row_in (tree_of w) is s.words k _ h

pub kinds_buffer_law : KindsBufferLaw
unfolding KindsBufferLaw
kinds_buffer_law w s is b rs = rest_kept w s is b rs

pub kinds_run_law : KindsRunLaw
unfolding KindsRunLaw
kinds_run_law w s is b rs n = runs_as w s is b rs n

pub kinds_join_law : KindsJoinLaw
unfolding KindsJoinLaw
kinds_join_law w s is js b rs b' rs' b'' rs'' e f g =
    let t = tree_of w in
    let s' = (kinds_answer w s is b rs).state in
    let xs = steps t is s.words in
    let ys = steps t js s'.words in
    let left = left_state w s is b rs e in
    let both : steps t (is ++ js) s.words ≡ xs ++ ys = steps_join t is js s.words ∙ ap (λ v. xs ++ steps t js v.words) (sym left) in
    record {
      rows_joined =
          written_rows w s (is ++ js) b'' rs'' g ∙ ap rows_of both ∙ rows_join xs ys
          ∙ sym (ap (λ v. v ++ rows_of ys) (written_rows w s is b rs e)) ∙ sym (ap (λ v. written w s is b rs ++ v) (written_rows w s' js b' rs' f));
      as_many = all_reported w s (is ++ js) b'' rs'' g ∙ length-append is js ∙ sym (rw (all_reported w s is b rs e, all_reported w s' js b' rs' f));
      state =
          left_state w s (is ++ js) b'' rs'' g ∙ rw both (rw (state_after_join s.words xs ys, counters_join t s.counters xs ys))
          ∙ ap (λ v. lock_state (state_after v.words ys) (counters_after t v.counters ys)) (sym left) ∙ sym (left_state w s' js b' rs' f);
    }
