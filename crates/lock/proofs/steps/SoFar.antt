-- The run's loop: what holds at each turn.
use mathlib.Core.Path.{◌≡◌, refl, sym, ap, ◌∙◌}
use mathlib.Core.Bool.{Bool, true, false, cond}
use mathlib.Core.List.{List, [], ◌∷◌, ◌++◌, append-nil, append_assoc}
use Prim.Native.Nat.{ℕ, zero, suc, ◌+◌, ◌≤◌, ◌<◌}
use native.Mathlib.Omega.{arith}
use native.Mathlib.Nat.{add-zero}
use native.Mathlib.Numerals.{add-one}
use lib.ListN.{get_or, length, take, drop, set, length-set, length-append}
use lib.Seq.{length-take-le, take-suc, take_all, drop-cons, set-append_seam}
use Rattle.model.specs.declared.State.{State}
use Rattle.model.specs.Trees.{Tree}
use Rattle.model.specs.States.{place}
use Rattle.model.specs.Refusals.{tree_refusal}
use Rattle.model.specs.Steps.{Kind, stay, other, root_entry, passed_entry, crossed_entry, leaving, kind_number, is_kind, is_entry, Step, row, step}
use Rattle.model.specs.Runs.{steps, state_after, how_many, entering, counts_of, run_of, run}
use Rattle.model.specs.Laws.{AllThreads, SixteenBit, Formed, FormLaw}
use Rattle.model.proofs.Trees.Accepted.{accepted}
use Rattle.model.proofs.Laws.Runs.{steps_join, steps_length, how_many_join, entering_join, state_after_join, entries_all}
use Rattle.model.proofs.Laws.Form.{form_law}
use Rattle.model.proofs.Counted.{how_many_most}
use Rattle.rows.specs.declared.common.rows.Moved.{Moved}
use Rattle.rows.specs.Kinds.{number_of_kind}
use Rattle.rows.specs.Common.Rows.{with_place_words, Done}
use Rattle.rows.specs.Common.Standing.{is_entry_number}
use Rattle.lock.specs.Steps.Running.{kinds_of, counted, counts_by, traced_at, trace_front}

-- KINDS by their numbers
pub kind_small : (k : Kind) → kind_number k < 6
kind_small stay = omega arith
kind_small other = omega arith
kind_small root_entry = omega arith
kind_small passed_entry = omega arith
kind_small crossed_entry = omega arith
kind_small leaving = omega arith

pub entry_number : (k : Kind) → is_entry_number (kind_number k) ≡ is_entry k
unfolding is_entry
entry_number stay = refl
entry_number other = refl
entry_number root_entry = refl
entry_number passed_entry = refl
entry_number crossed_entry = refl
entry_number leaving = refl

-- COUNTS by kind, with one more step
count_kind :
    (k : Kind) (a b c d f g : ℕ) →
    (a + cond (is_kind stay k) 1 0) ∷ (b + cond (is_kind other k) 1 0) ∷ (c + cond (is_kind root_entry k) 1 0) ∷ (d + cond (is_kind passed_entry k) 1 0)
    ∷ (f + cond (is_kind crossed_entry k) 1 0) ∷ (g + cond (is_kind leaving k) 1 0) ∷ []
    ≡ counted (a ∷ b ∷ c ∷ d ∷ f ∷ g ∷ []) (kind_number k)
unfolding is_kind
count_kind stay a b c d f g = rw (add-zero b, add-zero c, add-zero d, add-zero f, add-zero g)
count_kind other a b c d f g = rw (add-zero a, add-zero c, add-zero d, add-zero f, add-zero g)
count_kind root_entry a b c d f g = rw (add-zero a, add-zero b, add-zero d, add-zero f, add-zero g)
count_kind passed_entry a b c d f g = rw (add-zero a, add-zero b, add-zero c, add-zero f, add-zero g)
count_kind crossed_entry a b c d f g = rw (add-zero a, add-zero b, add-zero c, add-zero d, add-zero g)
count_kind leaving a b c d f g = rw (add-zero a, add-zero b, add-zero c, add-zero d, add-zero f)

kinds_next : (xs : List Step) (x : Step) → kinds_of (xs ++ (x ∷ [])) ≡ counted (kinds_of xs) (kind_number x.kind)
unfolding kinds_of how_many
kinds_next xs x =
    let one : (f : Kind → Bool) → how_many f (xs ++ (x ∷ [])) ≡ how_many f xs + cond (f x.kind) 1 0 =
    λ f. how_many_join f xs (x ∷ []) ∙ ap (λ v. how_many f xs + v) (add-zero (cond (f x.kind) 1 0)) in
    rw (one (is_kind stay), one (is_kind other), one (is_kind root_entry), one (is_kind passed_entry), one (is_kind crossed_entry), one (is_kind leaving))
    (count_kind x.kind (how_many (is_kind stay) xs) (how_many (is_kind other) xs) (how_many (is_kind root_entry) xs) (how_many (is_kind passed_entry) xs) (how_many (is_kind crossed_entry) xs) (how_many (is_kind leaving) xs))

-- no kind has more steps than there are
pub at_most : (b : Bool) → cond b 1 0 ≤ 1
at_most true = omega arith
at_most false = omega arith

kind_at : (k : Kind) (xs : List Step) → get_or (kinds_of xs) (kind_number k) 0 ≡ how_many (is_kind k) xs
unfolding kinds_of
kind_at stay xs = refl
kind_at other xs = refl
kind_at root_entry xs = refl
kind_at passed_entry xs = refl
kind_at crossed_entry xs = refl
kind_at leaving xs = refl

one_long : (b : Bool) (i : ℕ) → length (cond b (i ∷ []) [] ++ []) ≡ cond b 1 0
one_long true i = refl
one_long false i = refl

one_kind : (k : Kind) → cond (is_kind stay k) 1 0 + cond (is_kind other k) 1 0 + cond (is_kind root_entry k) 1 0 + cond (is_kind passed_entry k) 1 0 + cond (is_kind crossed_entry k) 1 0 + cond (is_kind leaving k) 1 0 ≡ 1
unfolding is_kind
one_kind stay = refl
one_kind other = refl
one_kind root_entry = refl
one_kind passed_entry = refl
one_kind crossed_entry = refl
one_kind leaving = refl

-- the counts of all kinds add up to the steps, and those of the entry kinds to the entries
kinds_all : (xs : List Step) → how_many (is_kind stay) xs + how_many (is_kind other) xs + how_many (is_kind root_entry) xs + how_many (is_kind passed_entry) xs + how_many (is_kind crossed_entry) xs + how_many (is_kind leaving) xs ≡ length xs
unfolding how_many
kinds_all [] = refl
kinds_all (x ∷ xs) = omega (arith, kinds_all xs, one_kind x.kind)

pub counts_kinds : (xs : List Step) → counts_by (kinds_of xs) ≡ counts_of xs
unfolding kinds_of counts_of
counts_kinds xs = rw (kinds_all xs, entries_all xs)

-- THE TRACE: one more thread at the end of what is written
front_next :
    (T b : List ℕ) (n i : ℕ) → n ≡ length T → n < length b →
    set (T ++ drop (length T) b) n i ≡ (T ++ (i ∷ [])) ++ drop (length (T ++ (i ∷ []))) b
front_next T b n i e h =
    let long : length (T ++ (i ∷ [])) ≡ suc (length T) = length-append T (i ∷ []) ∙ add-one (length T) in
    rw (e, drop-cons b (length T) 0 (omega arith), set-append_seam, long) (sym (append_assoc T (i ∷ []) (drop (suc (length T)) b)))

front_kind :
    (k : Kind) (T b : List ℕ) (n i : ℕ) → n ≡ length T → n < length b →
    traced_at (T ++ drop (length T) b) n (kind_number k) i
    ≡ (let U = T ++ (cond (is_entry k) (i ∷ []) [] ++ []) in U ++ drop (length U) b)
unfolding is_entry
front_kind stay T b n i e h = rw (append-nil T)
front_kind other T b n i e h = rw (append-nil T)
front_kind root_entry T b n i e h = front_next T b n i e h
front_kind passed_entry T b n i e h = front_next T b n i e h
front_kind crossed_entry T b n i e h = front_next T b n i e h
front_kind leaving T b n i e h = rw (append-nil T)

traced_long : (b : List ℕ) (n k i : ℕ) → length (traced_at b n k i) ≡ length b
traced_long b n k i = by (is_entry_number k)
  where
    by : (c : Bool) → length (cond c (set b n i) b) ≡ length b
    by true = length-set b n i
    by false = refl

pub thread_at : (t : Tree) (is : List ℕ) → AllThreads t is → (k : ℕ) → k < length is → get_or is k 0 < t.threads
unfolding AllThreads
thread_at t [] a k h = absurd (omega arith)
thread_at t (i ∷ is) a zero h = a.0
thread_at t (i ∷ is) a (suc k) h = thread_at t is a.1 k (omega arith)

pub below : (t : Tree) (is : List ℕ) → (tree_refusal t).number ≡ 0 → AllThreads t is → (k : ℕ) → k < length is → get_or is k 0 < 256
below t is z a k h = omega (arith, (accepted t z).few_threads, thread_at t is a k h)

module _ (t : Tree) (is b₀ : List ℕ) (s₀ : State) where
  -- the steps of the first k entries
  abbrev pub first_steps : ℕ → List Step
  first_steps k = steps t (take k is) s₀

  -- k entries of the schedule are done
  pub record SoFar (b : List ℕ) (s : State) (kinds : List ℕ) (entries k : ℕ) : Type 0 where
    pub within : k ≤ length is
    pub long : length b ≡ length b₀
    pub formed : Formed t s
    pub state_is : s ≡ state_after s₀ (first_steps k)
    pub kinds_are : kinds ≡ kinds_of (first_steps k)
    pub entries_are : entries ≡ length (entering (first_steps k))
    pub entries_fit : entries ≤ k
    pub trace_is : b ≡ trace_front b₀ (run t (take k is) s₀)

  pub start : Formed t s₀ → SoFar b₀ s₀ (0 ∷ 0 ∷ 0 ∷ 0 ∷ 0 ∷ 0 ∷ []) 0 0
  unfolding run run_of steps state_after how_many entering kinds_of
  start f =
      record {
        within = omega arith;
        long = refl;
        formed = f;
        state_is = refl;
        kinds_are = refl;
        entries_are = refl;
        entries_fit = omega arith;
        trace_is = refl;
      }

  -- one more entry: the steps so far, then one
  pub next_step : (k : ℕ) → k < length is → first_steps (k + 1) ≡ first_steps k ++ (step t (get_or is k 0) (state_after s₀ (first_steps k)) ∷ [])
  unfolding steps
  next_step k h =
      let z : k + 1 ≡ suc k = add-one k in
      rw (z, take-suc is k 0 h) (steps_join t (take k is) (get_or is k 0 ∷ []) s₀)

  -- no kind has more steps than there are entries done
  pub kind_room :
      (b : List ℕ) (s : State) (kinds : List ℕ) (entries k : ℕ) (m : Moved) (left : State) → SoFar b s kinds entries k →
      Done (row t (get_or is k 0) (place s (get_or is k 0)) s) (get_or is k 0) m left → k < length is → length is ≤ 65536 →
      get_or kinds (number_of_kind m.kind) 0 < 65536
  kind_room b s kinds entries k m left g D h short =
      let x = (row t (get_or is k 0) (place s (get_or is k 0)) s).kind in
      let few : how_many (is_kind x) (first_steps k) ≤ k = omega (arith, how_many_most (is_kind x) (first_steps k), steps_length t (take k is) s₀, length-take-le k is g.within) in
      let at : get_or kinds (number_of_kind m.kind) 0 ≡ how_many (is_kind x) (first_steps k) = ap (λ v. get_or v (number_of_kind m.kind) 0) g.kinds_are ∙ ap (λ v. get_or (kinds_of (first_steps k)) v 0) D.kind_is ∙ kind_at x (first_steps k) in
      omega (arith, at, few)

  -- one turn of the loop
  pub turn :
      (b : List ℕ) (s : State) (kinds : List ℕ) (entries k : ℕ) (m : Moved) (left : State) (b' : List ℕ) (s' : State) (entries' : ℕ) →
      (tree_refusal t).number ≡ 0 → SixteenBit t → AllThreads t is → length is ≤ length b₀ → k < length is → SoFar b s kinds entries k →
      Done (row t (get_or is k 0) (place s (get_or is k 0)) s) (get_or is k 0) m left → s' ≡ with_place_words (get_or is k 0) m.place left →
      entries' ≡ entries + cond (is_entry_number (number_of_kind m.kind)) 1 0 → b' ≡ traced_at b entries (number_of_kind m.kind) (get_or is k 0) →
      SoFar b' s' (counted kinds (number_of_kind m.kind)) entries' (k + 1)
  unfolding run run_of steps step state_after how_many entering FormLaw
  turn b s kinds entries k m left b' s' entries' accepted sixteen all room h g D es ee eb =
      let i = get_or is k 0 in
      let x = step t i s in
      let kind : (number_of_kind m.kind) ≡ kind_number x.kind = D.kind_is in
      let after : s' ≡ x.state = es ∙ D.state_left in
      let c = at_most (is_entry x.kind) in
      let n : entries' ≡ entries + cond (is_entry x.kind) 1 0 = ee ∙ ap (λ v. entries + cond v 1 0) (ap is_entry_number kind ∙ entry_number x.kind) in
      let xs = first_steps k in
      let joined : first_steps (k + 1) ≡ xs ++ (x ∷ []) = next_step k h ∙ ap (λ v. xs ++ (step t i v ∷ [])) (sym g.state_is) in
      let traces : entering (first_steps (k + 1)) ≡ entering xs ++ (cond (is_entry x.kind) (i ∷ []) [] ++ []) = ap entering joined ∙ entering_join xs (x ∷ []) in
      record {
        within = omega arith;
        long = rw eb (traced_long b entries (number_of_kind m.kind) i) ∙ g.long;
        formed = rw after ((form_law t sixteen accepted).of_step i s (thread_at t is all k h) g.formed);
        state_is = after ∙ sym (ap (state_after s₀) joined ∙ state_after_join s₀ xs (x ∷ []));
        kinds_are = ap (λ v. counted v (number_of_kind m.kind)) g.kinds_are ∙ ap (counted (kinds_of xs)) kind ∙ sym (ap kinds_of joined ∙ kinds_next xs x);
        entries_are = n ∙ rw (traces, length-append, one_long (is_entry x.kind) i) (ap (λ v. v + cond (is_entry x.kind) 1 0) g.entries_are);
        entries_fit = omega (arith, g.entries_fit);
        trace_is =
            eb ∙ ap (λ v. traced_at v entries (number_of_kind m.kind) i) g.trace_is ∙ ap (λ v. traced_at (trace_front b₀ (run t (take k is) s₀)) entries v i) kind
            ∙ front_kind x.kind (entering xs) b₀ entries i g.entries_are (omega (arith, g.entries_fit))
            ∙ sym (ap (λ v. v ++ drop (length v) b₀) traces);
      }

  -- the end
  module _ (b : List ℕ) (s : State) (kinds : List ℕ) (entries k : ℕ) (g : SoFar b s kinds entries k) (h : length is ≤ k) where
    whole : take k is ≡ is
    whole = take_all k is h

    pub state_ends : s ≡ (run t is s₀).state
    unfolding run run_of
    state_ends = g.state_is ∙ ap (λ v. state_after s₀ (steps t v s₀)) whole

    pub kinds_end : kinds ≡ kinds_of (steps t is s₀)
    kinds_end = g.kinds_are ∙ ap (λ v. kinds_of (steps t v s₀)) whole

    pub trace_ends : b ≡ trace_front b₀ (run t is s₀)
    trace_ends = g.trace_is ∙ ap (λ v. trace_front b₀ (run t v s₀)) whole
