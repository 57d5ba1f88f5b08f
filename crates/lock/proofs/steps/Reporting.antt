-- The run's loop reports each step, as long as the buffer is long enough.
use mathlib.Core.Path.{◌≡◌, refl, sym, ap, ◌∙◌}
use mathlib.Core.Bool.{Bool, true, false, cond}
use mathlib.Core.List.{List, [], ◌∷◌, ◌++◌}
use Prim.Native.Nat.{ℕ, suc, ◌+◌, ◌≤◌, ◌<◌}
use native.Mathlib.Omega.{arith}
use lib.Dec.{ltb}
use lib.ListN.{get_or, length, take, set, length-set}
use lib.Seq.{length-take-le, take_all}
use borrow.Author.Tests.{lt-ltb, le-ltb, ltb-true, ltb-false}
use Rattle.model.specs.declared.PlaceWords.{PlaceWords}
use Rattle.model.specs.declared.State.{State}
use Rattle.model.specs.Places.{words_of, place_of}
use Rattle.model.specs.States.{place, numbers_at}
use Rattle.model.specs.Trees.{Tree}
use Rattle.model.specs.Steps.{kind_number, Step, row, step}
use Rattle.model.specs.Runs.{steps, state_after}
use Rattle.model.specs.Laws.{AllThreads, Formed}
use Rattle.model.proofs.Laws.Facts.{well_formed_facts}
use Rattle.model.proofs.Laws.Form.{not_invalid}
use Rattle.model.proofs.Laws.Runs.{steps_length}
use Rattle.model.proofs.Places.{words_of_place}
use Rattle.rows.specs.declared.common.rows.Moved.{Moved}
use Rattle.rows.specs.Kinds.{number_of_kind}
use Rattle.rows.specs.Common.Rows.{Done}
use Rattle.lock.specs.Steps.Running.{code_of, step_code, code_stored, codes_front}
use Rattle.lock.proofs.steps.SoFar.{next_step, thread_at}

codes_none : (b : List ℕ) → codes_front b [] ≡ b
unfolding codes_front
codes_none [] = refl
codes_none (c ∷ bs) = refl

-- one more number in front moves the index by one
code_after : (c : ℕ) (b : List ℕ) (n v : ℕ) → c ∷ code_stored b n v ≡ code_stored (c ∷ b) (suc n) v
code_after c b n v = by (ltb n (length b)) refl
  where
    by : (t : Bool) → ltb n (length b) ≡ t → c ∷ cond t (set b n v) b ≡ code_stored (c ∷ b) (suc n) v
    by true e = let h = ltb-true n (length b) e in rw (lt-ltb (suc n) (suc (length b)) (omega arith))
    by false e = let h = ltb-false n (length b) e in rw (le-ltb (suc n) (suc (length b)) (omega arith))

-- each step is reported at the index after the steps before it
pub reported_front_length : (b : List ℕ) (xs : List Step) → length (codes_front b xs) ≡ length b
unfolding codes_front
reported_front_length [] xs = refl
reported_front_length (c ∷ b) [] = refl
reported_front_length (c ∷ b) (x ∷ xs) = ap suc (reported_front_length b xs)

codes_next : (b : List ℕ) (xs : List Step) (x : Step) → codes_front b (xs ++ (x ∷ [])) ≡ code_stored (codes_front b xs) (length xs) (step_code x)
unfolding codes_front
codes_next [] xs x = rw (le-ltb (length xs) 0 (omega arith))
codes_next (c ∷ bs) [] x = rw (codes_none bs, lt-ltb 0 (suc (length bs)) (omega arith))
codes_next (c ∷ bs) (y ∷ ys) x = ap (λ (r : List ℕ). step_code y ∷ r) (codes_next bs ys x) ∙ code_after (step_code y) (codes_front bs ys) (length ys) (step_code x)

pub codes_long : (b : List ℕ) (n v : ℕ) → length (code_stored b n v) ≡ length b
codes_long b n v = by (ltb n (length b))
  where
    by : (t : Bool) → length (cond t (set b n v) b) ≡ length b
    by true = length-set b n v
    by false = refl

module _ (t : Tree) (is : List ℕ) (s₀ : State) (b₀ : List ℕ) where
  -- the steps of the first k entries are reported
  pub record Coded (b : List ℕ) (k : ℕ) : Type 0 where
    pub codes_are : b ≡ codes_front b₀ (steps t (take k is) s₀)
    pub codes_room : length b ≡ length b₀

  pub codes_start : Coded b₀ 0
  unfolding steps
  codes_start = record { codes_are = sym (codes_none b₀); codes_room = refl }

  -- one turn of the loop: the number stored for the step is that of its kind and its place
  pub codes_turn :
      (b : List ℕ) (s : State) (k : ℕ) (m : Moved) (left : State) (b' : List ℕ) → AllThreads t is → k < length is → Formed t s → s ≡ state_after s₀ (steps t (take k is) s₀) →
      Done (row t (get_or is k 0) (place s (get_or is k 0)) s) (get_or is k 0) m left → Coded b k →
      (let q = numbers_at s.places (get_or is k 0) in b' ≡ code_stored b k (code_of (number_of_kind m.kind) q.row q.domain)) → Coded b' (k + 1)
  unfolding step step_code
  codes_turn b s k m left b' all h f st D g eb =
      let i = get_or is k 0 in
      let q = numbers_at s.places i in
      let x = step t i s in
      let xs = steps t (take k is) s₀ in
      let words : words_of (place_of q) ≡ q = words_of_place q (not_invalid t i (place s i) (((well_formed_facts t s f).places i).used (thread_at t is all k h))) in
      let code : code_of (number_of_kind m.kind) q.row q.domain ≡ step_code x = ap (λ v. code_of v q.row q.domain) D.kind_is ∙ ap (λ (w : PlaceWords). code_of (kind_number x.kind) w.row w.domain) (sym words) in
      let long : k ≡ length xs = sym (steps_length t (take k is) s₀ ∙ length-take-le k is (omega arith)) in
      let joined : steps t (take (k + 1) is) s₀ ≡ xs ++ (x ∷ []) = next_step t is [] s₀ k h ∙ ap (λ v. xs ++ (step t i v ∷ [])) (sym st) in
      record {
        codes_are =
            eb ∙ ap (λ v. code_stored b k v) code ∙ ap (λ v. code_stored v k (step_code x)) g.codes_are ∙ ap (λ v. code_stored (codes_front b₀ xs) v (step_code x)) long
            ∙ sym (ap (codes_front b₀) joined ∙ codes_next b₀ xs x);
        codes_room = ap length eb ∙ codes_long b k _ ∙ g.codes_room;
      }

  pub codes_end : (b : List ℕ) (k : ℕ) → Coded b k → length is ≤ k → b ≡ codes_front b₀ (steps t is s₀)
  codes_end b k g h = g.codes_are ∙ ap (λ v. codes_front b₀ (steps t v s₀)) (take_all k is h)
