-- A run in pieces: what holds between two of them.
use mathlib.Core.Path.{◌≡◌, refl, sym, ap, ◌∙◌}
use mathlib.Core.Bool.{true}
use mathlib.Core.List.{List, [], ◌∷◌, ◌++◌, append_assoc, append-nil}
use Prim.Native.Nat.{ℕ, zero, suc, ◌+◌, ◌-◌, ◌≤◌, ◌<◌}
use native.Mathlib.Omega.{arith}
use lib.ListN.{get_or, length, take, drop, replicate, drop_of_length-le, length-drop, length-append, length-replicate, take-append-drop}
use lib.Seq.{length-take-le, take-take, take_all, drop-cons, take-append_seam, drop-append_seam, drop-drop, sets}
use Rattle.model.specs.declared.TreeWords.{TreeWords}
use Rattle.model.specs.declared.State.{State}
use Rattle.model.specs.declared.Counters.{Counters}
use Rattle.model.specs.declared.LockState.{LockState}
use Rattle.model.specs.Trees.{Tree, tree_of}
use Rattle.model.specs.Steps.{stay, other, root_entry, passed_entry, crossed_entry, leaving, is_kind, is_entry, Step, step}
use Rattle.model.specs.Runs.{steps, state_after, how_many, entering, counts_of, run_of, run}
use Rattle.model.specs.Counters.{lock_state, counters_after, good_counts, any_above}
use Rattle.model.specs.Refusals.{first_refusal, bad_counter, tree_refusal, run_tests_before_19, run_refusal}
use Rattle.model.specs.Answers.{counters_after_run}
use Rattle.model.specs.CounterLaws.{CounterFormLaw}
use Rattle.model.proofs.Trees.Accepted.{accepted, sixteen_bit}
use Rattle.model.specs.Laws.{AllThreads, Formed, FormLaw, CountLaw}
use Rattle.model.proofs.Laws.Runs.{steps_join, steps_take, steps_length, state_after_join, entering_join, how_many_join, count_law}
use Rattle.model.proofs.Laws.Refusals.{accepted_number}
use Rattle.model.proofs.Laws.Form.{form_law}
use Rattle.model.proofs.Counted.{counters_none, counters_join, how_many_most}
use Rattle.model.proofs.Laws.Counters.{counter_form_law}
use Rattle.model.proofs.Laws.Calls.{GoodRun, run_facts, run_counted, early_accepted}
use Rattle.waits.specs.Attempts.{under_way_below}
use Rattle.waits.specs.Rows.{all_rows_from}
use Rattle.runs_call.specs.WithWaits.Tallies.{first, Tallies, rows_by, numbers_by}
use Rattle.runs_call.proofs.with_waits.Tables.{start, mark_small, attempts_small, rows_end, numbers_end}
use Rattle.lock.specs.Steps.Running.{kinds_of, counts_by, trace_front, step_code, codes_front}
use Rattle.runs_call.specs.WithWaits.Waiting.{kinds_added, marks_of, attempts_of, totals_of, longest_of, Counting, Countable, Counted, Small, MarksOf, HandedIn, MarksFit}
use Rattle.runs_call.specs.declared.with_waits.waiting.ThreadTally.{ThreadTally}
use Rattle.lock.proofs.steps.SoFar.{counts_kinds}
use Rattle.lock.proofs.steps.Reporting.{reported_front_length}

-- pieces of a schedule
pub all_take : (t : Tree) (is : List ℕ) (m : ℕ) → AllThreads t is → AllThreads t (take m is)
unfolding AllThreads
all_take t is zero a = Prim.tt
all_take t [] (suc m) a = Prim.tt
all_take t (i ∷ is) (suc m) a = (a.0, all_take t is m a.1)

pub all_drop : (t : Tree) (is : List ℕ) (m : ℕ) → AllThreads t is → AllThreads t (drop m is)
unfolding AllThreads
all_drop t is zero a = a
all_drop t [] (suc m) a = Prim.tt
all_drop t (i ∷ is) (suc m) a = all_drop t is m a.1

none_taken : (m : ℕ) → ◌≡◌ {A = List ℕ} [] (take m [])
none_taken zero = refl
none_taken (suc m) = refl

take_more : (l : List ℕ) (a m : ℕ) → take (a + m) l ≡ take a l ++ take m (drop a l)
take_more l zero m = let z : 0 + m ≡ m = omega arith in rw z
take_more [] (suc a) m = let z : suc a + m ≡ suc (a + m) = omega arith in rw z (none_taken m)
take_more (x ∷ l) (suc a) m = let z : suc a + m ≡ suc (a + m) = omega arith in rw z (ap (λ (r : List ℕ). x ∷ r) (take_more l a m))

-- THE KINDS of two consecutive lists of steps
kinds_join : (xs ys : List Step) → kinds_of (xs ++ ys) ≡ kinds_added (kinds_of xs) (kinds_of ys)
unfolding kinds_of
kinds_join xs ys =
    rw (
      how_many_join (is_kind stay) xs ys,
      how_many_join (is_kind other) xs ys,
      how_many_join (is_kind root_entry) xs ys,
      how_many_join (is_kind passed_entry) xs ys,
      how_many_join (is_kind crossed_entry) xs ys,
      how_many_join (is_kind leaving) xs ys,
    )

all_counted : (xs : List Step) → (counts_by (kinds_of xs)).steps ≡ length xs
unfolding counts_of
all_counted xs = ap (λ v. v.steps) (counts_kinds xs)

-- THE TRACE of a second run after the trace of a first
trace_after :
    (b₀ b T U ys : List ℕ) (n : ℕ) → b ≡ T ++ drop (length T) b₀ → n ≡ length T → n ≤ length b → ys ≡ U ++ drop (length U) (take (length b - n) (drop n b)) →
    take n b ++ (ys ++ drop (length b - n) (drop n b)) ≡ (T ++ U) ++ drop (length (T ++ U)) b₀
trace_after b₀ b T U ys n eb en h ey =
    let front : take n b ≡ T = rw (eb, en) (take-append_seam T (drop (length T) b₀)) in
    let rest : drop n b ≡ drop (length T) b₀ = rw (eb, en) (drop-append_seam T (drop (length T) b₀)) in
    let long : length (drop n b) ≡ length b - n = length-drop n b in
    let all : take (length b - n) (drop n b) ≡ drop n b = take_all (length b - n) (drop n b) (omega arith) in
    let over : drop (length b - n) (drop n b) ≡ [] = drop_of_length-le (drop n b) {i = length b - n} (omega arith) in
    rw (front, over, ey, all, rest, append-nil, drop-drop, length-append T U, append_assoc T U (drop (length T + length U) b₀))

-- WHAT WAS REPORTED for a step
code_at_seam : (b : List ℕ) (ps : List Step) (x : Step) (qs : List Step) → length ps < length b → get_or (codes_front b (ps ++ (x ∷ qs))) (length ps) 0 ≡ step_code x
unfolding codes_front
code_at_seam [] ps x qs h = absurd (omega arith)
code_at_seam (c ∷ b) [] x qs h = refl
code_at_seam (c ∷ b) (p ∷ ps) x qs h = code_at_seam b ps x qs (omega arith)

steps_split :
    (t : Tree) (is : List ℕ) (s : State) (k : ℕ) → k < length is →
    (let x = step t (get_or is k 0) (state_after s (steps t (take k is) s)) in steps t is s ≡ steps t (take k is) s ++ (x ∷ steps t (drop (suc k) is) x.state))
unfolding steps
steps_split t is s k h =
    sym (ap (λ (r : List ℕ). steps t r s) (take-append-drop k is)) ∙ steps_join t (take k is) (drop k is) s
    ∙ ap (λ (r : List ℕ). steps t (take k is) s ++ steps t r (state_after s (steps t (take k is) s))) (drop-cons is k 0 h)

pub threads_few : (w : TreeWords) → (tree_refusal (tree_of w)).number ≡ 0 → (tree_of w).threads ≤ 256
threads_few w z = (accepted (tree_of w) z).few_threads

module _ (w : TreeWords) (us is b₀ : List ℕ) (s₀ : State) (c₀ : Counters) where
  abbrev t : Tree
  t = tree_of w

  abbrev handed : LockState
  handed = lock_state s₀ c₀

  abbrev done : ℕ → List Step
  done k = steps t (take k is) s₀

  -- the first entries are done, in pieces
  pub record InPieces (b : List ℕ) (K : List ThreadTally) (s : State) (c : Counters) (kinds : List ℕ) (n from : ℕ) : Type 0 where
    pub within : from ≤ length is
    pub formed : Formed t s
    pub first_formed : Formed t s₀
    pub state_is : s ≡ state_after s₀ (done from)
    pub counters_are : c ≡ counters_after t c₀ (done from)
    pub kinds_are : kinds ≡ kinds_of (done from)
    pub trace_is : b ≡ trace_front b₀ (run t (take from is) s₀)
    pub tallies : Tallies t us (done from) (marks_of K) (attempts_of K) (totals_of K) (longest_of K) n

  pub pieces_start :
      (K : List ThreadTally) → HandedIn us → MarksOf us (marks_of K) → attempts_of K ≡ replicate 256 0 → totals_of K ≡ replicate 256 0 → longest_of K ≡ replicate 256 0 → Formed t s₀ →
      InPieces b₀ K s₀ c₀ (0 ∷ 0 ∷ 0 ∷ 0 ∷ 0 ∷ 0 ∷ []) first 0
  unfolding run run_of steps state_after how_many entering kinds_of
  pieces_start K H m ea ew el f = record { within = omega arith; formed = f; first_formed = f; state_is = refl; counters_are = sym (counters_none t c₀); kinds_are = refl; trace_is = refl; tallies = rw (ea, ew, el) (start t us (marks_of K) H m) }

  module _ (b : List ℕ) (K : List ThreadTally) (s : State) (c : Counters) (kinds : List ℕ) (n from : ℕ) (G : InPieces b K s c kinds n from) (ok : (run_refusal t handed is (length b₀)).number ≡ 0) where
    abbrev M : List ℕ
    M = marks_of K

    abbrev A : List ℕ
    A = attempts_of K

    abbrev W : List ℕ
    W = totals_of K

    abbrev L : List ℕ
    L = longest_of K

    abbrev R : GoodRun t handed is (length b₀)
    R = run_facts t handed is (length b₀) ok

    abbrev T : List ℕ
    T = (run t (take from is) s₀).trace

    done_long : length (done from) ≡ from
    done_long = steps_length t (take from is) s₀ ∙ length-take-le from is G.within

    entered_few : n ≤ first + from
    entered_few = omega (arith, G.tallies.entered_are, how_many_most is_entry (done from), done_long)

    traced : n - first ≡ length T
    unfolding run run_of counts_of CountLaw
    traced = let c = (count_law t (take from is) s₀).traced in let e = G.tallies.entered_are in omega (arith, c, e)

    pub trace_long : length b ≡ length b₀
    trace_long = ap length G.trace_is ∙ length-append T (drop (length T) b₀) ∙ (let e = length-drop (length T) b₀ in omega (arith, traced, entered_few, G.within, R.fits))

    pub from_first : first ≤ n
    from_first = omega (arith, G.tallies.entered_are)

    pub part_room : n - first ≤ length b
    part_room = omega (arith, trace_long, entered_few, G.within, R.fits)

    pub entered_small : n ≤ first + 65536
    entered_small = omega (arith, entered_few, G.within, R.short)

    pub attempts_table : Small A
    attempts_table = record { small = λ i h. omega (arith, attempts_small t us (done from) M A W L n G.tallies i h, entered_small) }

    pub marks_fit : MarksFit M n
    marks_fit = record { few = entered_small; each = mark_small t us (done from) M A W L n G.tallies }

    -- at the end
    module _ (h : length is ≤ from) where
      whole : take from is ≡ is
      whole = take_all from is h

      pub state_ends : s ≡ (run t is s₀).state
      unfolding run run_of
      state_ends = G.state_is ∙ ap (λ v. state_after s₀ (steps t v s₀)) whole

      pub counters_end : c ≡ counters_after t c₀ (steps t is s₀)
      counters_end = G.counters_are ∙ ap (λ v. counters_after t c₀ (steps t v s₀)) whole

      pub kinds_end : kinds ≡ kinds_of (steps t is s₀)
      kinds_end = G.kinds_are ∙ ap (λ v. kinds_of (steps t v s₀)) whole

      pub trace_ends : b ≡ trace_front b₀ (run t is s₀)
      trace_ends = G.trace_is ∙ ap (λ v. trace_front b₀ (run t v s₀)) whole

      pub rows_are : t.threads ≤ 256 → (l l' : List ℕ) → l' ≡ sets l 0 (rows_by t.threads A W L) → l' ≡ sets l 0 (all_rows_from t us (steps t is s₀))
      rows_are few l l' e = e ∙ ap (λ (r : List ℕ). sets l 0 r) (rows_end t us (done from) M A W L n G.tallies few ∙ ap (λ v. all_rows_from t us (steps t v s₀)) whole)

      pub numbers_are : t.threads ≤ 256 → (l l' : List ℕ) → l' ≡ sets l 0 (numbers_by t.threads n M) → l' ≡ sets l 0 (under_way_below t us t.threads (steps t is s₀))
      numbers_are few l l' e =
          e ∙ ap (λ (r : List ℕ). sets l 0 r) (numbers_end t us (done from) M A W L n G.tallies t.threads few ∙ ap (λ v. under_way_below t us t.threads (steps t v s₀)) whole)

    -- one piece
    module _ (end : ℕ) (more : from < end) (fit : end ≤ length is) (short : end ≤ from + 1024) where
      abbrev piece : List ℕ
      piece = take (end - from) (drop from is)

      piece_long : length piece ≡ end - from
      piece_long = length-take-le (end - from) (drop from is) (omega (arith, length-drop from is))

      piece_threads : AllThreads t piece
      piece_threads = all_take t (drop from is) (end - from) (all_drop t is from R.threads)

      -- no counter is above 2^63 after the pieces so far
      counts_good : good_counts t c ≡ true
      unfolding CounterFormLaw counters_after_run bad_counter
      counts_good =
          rw G.counters_are
          ((counter_form_law t R.tree (sixteen_bit w)).of_run (take from is) handed (all_take t is from R.threads) G.first_formed R.counts
          (λ p h.
          let k : p + 1 ≤ from = omega (arith, length-take-le from is G.within) in
          ap (λ v. any_above (counters_after t c₀ v)) (sym (steps_take t (p + 1) (take from is) s₀) ∙ ap (λ v. steps t v s₀) (take-take (p + 1) from is k) ∙ steps_take t (p + 1) is s₀)
          ∙ run_counted t handed is (length b₀) ok p (omega (arith, G.within))))

      pub piece_runs : (first_refusal (run_tests_before_19 t (lock_state s c) piece (length (take (length b - (n - first)) (drop (n - first) b))))).number ≡ 0
      piece_runs =
          let room : length (take (length b - (n - first)) (drop (n - first) b)) ≡ length b - (n - first) = length-take-le (length b - (n - first)) (drop (n - first) b) (omega (arith, length-drop (n - first) b)) in
          ap (λ r. r.number)
          (early_accepted t (lock_state s c) piece (length (take (length b - (n - first)) (drop (n - first) b)))
          (record {
            tree = R.tree;
            form = G.formed.form;
            counts = counts_good;
            short = omega (arith, piece_long, R.short, fit);
            threads = piece_threads;
            fits = omega (arith, piece_long, room, trace_long, entered_few, fit, R.fits, more);
          }))
          ∙ accepted_number

      joined : done end ≡ done from ++ steps t piece s
      joined =
          let z : end ≡ from + (end - from) = omega arith in
          ap (λ k. done k) z ∙ ap (λ (r : List ℕ). steps t r s₀) (take_more is from (end - from)) ∙ steps_join t (take from is) piece s₀
          ∙ ap (λ v. done from ++ steps t piece v) (sym G.state_is)

      pub kinds_fit : (pk : List ℕ) → pk ≡ kinds_of (steps t piece s) → (counts_by kinds).steps + (counts_by pk).steps ≤ 65536
      kinds_fit pk e =
          let a : (counts_by kinds).steps ≡ from = ap (λ v. (counts_by v).steps) G.kinds_are ∙ all_counted (done from) ∙ done_long in
          let c : (counts_by pk).steps ≡ end - from = ap (λ v. (counts_by v).steps) e ∙ all_counted (steps t piece s) ∙ steps_length t piece s ∙ piece_long in
          omega (arith, a, c, more, fit, R.short)

      -- what was reported for the piece can be counted
      module _ (codes : List ℕ) (et : codes ≡ codes_front (replicate 1024 0) (steps t piece s)) where
        room : length codes ≡ 1024
        room = ap length et ∙ reported_front_length (replicate 1024 0) (steps t piece s) ∙ length-replicate {A = ℕ} 1024 0

        code : (k : ℕ) → k < length piece → get_or codes k 0 ≡ step_code (step t (get_or piece k 0) (state_after s (steps t (take k piece) s)))
        code k h =
            let x = step t (get_or piece k 0) (state_after s (steps t (take k piece) s)) in
            let qs = steps t (drop (suc k) piece) x.state in
            let long : length (steps t (take k piece) s) ≡ k = steps_length t (take k piece) s ∙ length-take-le k piece (omega arith) in
            ap (λ v. get_or v k 0) (et ∙ ap (codes_front (replicate 1024 0)) (steps_split t piece s k h))
            ∙ ap (λ j. get_or (codes_front (replicate 1024 0) (steps t (take k piece) s ++ (x ∷ qs))) j 0) (sym long)
            ∙ code_at_seam (replicate 1024 0) (steps t (take k piece) s) x qs (omega (arith, long, length-replicate {A = ℕ} 1024 0, piece_long, short))

        counting : Counting t piece codes M A W L n us (done from) s
        counting =
            record {
              tree = R.tree;
              threads = piece_threads;
              long = omega (arith, room, piece_long, short);
              short = omega (arith, entered_few, piece_long, fit, R.short, more);
              each_code = code;
              tallied = G.tallies;
            }

        pub countable : Countable t piece codes K n
        countable = record { under_way = us; done = done from; state = s; counting = counting }

        pub pieces_turn :
            (s' : State) (c' : Counters) → s' ≡ (run t piece s).state → c' ≡ counters_after t c (steps t piece s) → (ys : List ℕ) → ys ≡ trace_front (take (length b - (n - first)) (drop (n - first) b)) (run t piece s) → (pk kinds' : List ℕ) →
            pk ≡ kinds_of (steps t piece s) → kinds' ≡ kinds_added kinds pk → (K' : List ThreadTally) (n' : ℕ) → Counted t piece codes K n K' n' →
            InPieces (take (n - first) b ++ (ys ++ drop (length b - (n - first)) (drop (n - first) b))) K' s' c' kinds' n' end
        unfolding run run_of FormLaw
        pieces_turn s' c' es ec ys ey pk kinds' ek em K' n' C =
            record {
              within = fit;
              formed = rw es ((form_law t (sixteen_bit w) R.tree).of_run piece s piece_threads G.formed);
              first_formed = G.first_formed;
              state_is = es ∙ ap (λ v. state_after v (steps t piece s)) G.state_is ∙ sym (ap (state_after s₀) joined ∙ state_after_join s₀ (done from) (steps t piece s));
              counters_are = ec ∙ ap (λ v. counters_after t v (steps t piece s)) G.counters_are ∙ sym (ap (counters_after t c₀) joined ∙ counters_join t c₀ (done from) (steps t piece s));
              kinds_are = em ∙ ap (λ v. kinds_added v pk) G.kinds_are ∙ ap (kinds_added (kinds_of (done from))) ek ∙ sym (ap kinds_of joined ∙ kinds_join (done from) (steps t piece s));
              trace_is =
                  trace_after b₀ b T (entering (steps t piece s)) ys (n - first) G.trace_is traced part_room ey
                  ∙ sym (ap (λ v. v ++ drop (length v) b₀) (ap entering joined ∙ entering_join (done from) (steps t piece s)));
              tallies = rw joined (C.counted us (done from) s counting);
            }
