-- Entries that are steps of the table, read in order by the check; and the result of the check of some bytes.
use mathlib.Core.Path.{◌≡◌, refl, sym, ap, ◌∙◌, subst}
use mathlib.Core.List.{List, [], ◌∷◌, ◌++◌, append_assoc}
use mathlib.Core.Logic.{◌≢◌}
use Prim.Native.Nat.{ℕ, zero, suc, ◌+◌, ◌≤◌, ◌<◌}
use native.Mathlib.Omega.{arith}
use lib.ListN.{length, get_or, drop, length-append}
use Rattle.model.specs.declared.State.{State}
use Rattle.model.specs.Trees.{Tree}
use Rattle.model.specs.Steps.{kind_number, step}
use Rattle.model.specs.Runs.{steps, state_after}
use Rattle.model.specs.Refusals.{Refusal, refusal, accepted}
use Rattle.model.specs.Laws.{AllThreads}
use Rattle.model.proofs.Lists.{same_or, less_or}
use Rattle.journal.specs.Entries.{NamedStep, Entries, no_entry, next_entry, threads_of, kinds_of, last_thread}
use Rattle.journal.specs.declared.Entry.TheVariants.{Named}
use Rattle.journal.specs.Reading.{entry_at}
use Rattle.journal.specs.Answers.{checked}
use Rattle.journal.specs.Laws as laws
use Rattle.journal.specs.Laws.{kind_numbers, OfTheTable, BeginsWith, RefusedEntry}
use Rattle.journal.proofs.Fronts.{end_there, broken_there, entry_there, entry_long, nothing_left, whole, broken, front_of}
use Rattle.journal.proofs.Checking.{unknown_thread, same_kind, other_kind, broken_entry, journal_end}

-- STEPS OF THE TABLE: the first, and those after it
module _ (t : Tree) (s : State) where
  pub none_taken : OfTheTable t s []
  unfolding steps threads_of kinds_of kind_numbers AllThreads
  none_taken = record { threads_known = tt; kinds_given = refl }

  module _ (x : NamedStep) (xs : List NamedStep) where
    pub first_known : OfTheTable t s (x ∷ xs) → x.thread < t.threads
    unfolding threads_of AllThreads
    first_known o = o.threads_known.0

    pub first_kind : OfTheTable t s (x ∷ xs) → x.kind ≡ kind_number (step t x.thread s).kind
    unfolding steps threads_of kinds_of kind_numbers
    first_kind o = ap (λ ks. get_or ks 0 0) o.kinds_given

    pub others_taken : OfTheTable t s (x ∷ xs) → OfTheTable t (step t x.thread s).state xs
    unfolding steps threads_of kinds_of kind_numbers AllThreads
    others_taken o = record { threads_known = o.threads_known.1; kinds_given = ap (drop 1) o.kinds_given }

    pub one_taken :
        x.thread < t.threads → x.kind ≡ kind_number (step t x.thread s).kind → OfTheTable t (step t x.thread s).state xs → OfTheTable t s (x ∷ xs)
    unfolding steps threads_of kinds_of kind_numbers AllThreads
    one_taken h e o = record { threads_known = (h, o.threads_known); kinds_given = rw (e, o.kinds_given) }

-- the state after some steps
abbrev pub after : Tree → State → List NamedStep → State
after t s xs = state_after s (steps t (threads_of xs) s)

module _ (t : Tree) (bs : List ℕ) where
  -- the check passes over entries that are steps of the table
  pub passes_over :
      {b : ℕ} {bytes : List ℕ} {xs : List NamedStep} → Entries b bytes xs → (done rest : List ℕ) → bs ≡ done ++ (bytes ++ rest) → (s : State) →
      OfTheTable t s xs → (n : ℕ) →
      checked (length xs + n) t s bs (length done) b ≡ checked n t (after t s xs) bs (length done + length bytes) (last_thread b xs)
  unfolding steps state_after threads_of last_thread
  passes_over no_entry done rest e s o n = let z : 0 + n ≡ n = omega arith in let y : length done + 0 ≡ length done = omega arith in rw (z, y)
  passes_over {b} {bytes} (next_entry {front = f} {rest = r} {x = x} {xs = xs} g h es) done rest e s o n =
      let together : bs ≡ done ++ (f ++ (r ++ rest)) = e ∙ ap (λ y. done ++ (y ++ rest)) g ∙ ap (λ y. done ++ y) (simp append_assoc) in
      let here = entry_there bs done (r ++ rest) b h together in
      let turns : suc (length xs) + n ≡ suc (length xs + n) = omega arith in
      let there : length done + length f ≡ length (done ++ f) = sym (length-append done f) in
      let end : length (done ++ f) + length r ≡ length done + length bytes = omega (arith, there, ap length g, length-append f r) in
      rw turns
      (same_kind t bs (length xs + n) s (length done) b x.thread x.kind (length done + length f) here (first_known t s x xs o) (first_kind t s x xs o)
      ∙ ap (λ p. checked (length xs + n) t (step t x.thread s).state bs p x.thread) there
      ∙ passes_over es (done ++ f) rest (together ∙ simp append_assoc) (step t x.thread s).state (others_taken t s x xs o) n
      ∙ ap (λ p. checked n t (after t (step t x.thread s).state xs) bs p (last_thread x.thread xs)) end)

-- THE RESULT OF CHECKING SOME BYTES, from a state and after a thread
pub data Outcome (t : Tree) (s : State) (before : ℕ) (bytes : List ℕ) (offset : ℕ) (r : Refusal) : Type 0 where
  all_taken : (xs : List NamedStep) → Entries before bytes xs → OfTheTable t s xs → r ≡ accepted → Outcome t s before bytes offset r
  stopped :
      (front rest : List ℕ) (xs : List NamedStep) (n : ℕ) → bytes ≡ front ++ rest → Entries before front xs → OfTheTable t s xs →
      RefusedEntry t (after t s xs) (last_thread before xs) rest n → n ≢ 0 → r ≡ refusal n (offset + length front) → Outcome t s before bytes offset r

module _ (t : Tree) (bs : List ℕ) where
  -- refused at once
  at_once :
      (s : State) (b : ℕ) (rest : List ℕ) (offset n : ℕ) (r : Refusal) → RefusedEntry t s b rest n → n ≢ 0 → r ≡ refusal n offset → Outcome t s b rest offset r
  unfolding steps state_after threads_of last_thread
  at_once s b rest offset n r f z e =
      let y : offset + 0 ≡ offset = omega arith in
      stopped [] rest [] n refl no_entry (none_taken t s) f z (rw y e)

  -- one step of the table, then the result of the check of the bytes after it
  one_more :
      (s : State) (b : ℕ) (rest : List ℕ) (offset : ℕ) (r : Refusal) (x : NamedStep) (g : BeginsWith b rest x) → x.thread < t.threads →
      x.kind ≡ kind_number (step t x.thread s).kind → Outcome t (step t x.thread s).state x.thread g.further (offset + length g.front) r →
      Outcome t s b rest offset r
  unfolding steps state_after threads_of last_thread
  one_more s b rest offset r x g h k (all_taken xs es o e) = all_taken (x ∷ xs) (next_entry g.together g.entry es) (one_taken t s x xs h k o) e
  one_more s b rest offset r x g h k (stopped front rest' xs n e es o f z d) =
      let place : offset + length g.front + length front ≡ offset + length (g.front ++ front) = omega (arith, length-append g.front front) in
      stopped (g.front ++ front) rest' (x ∷ xs) n (g.together ∙ ap (λ y. g.front ++ y) e ∙ simp append_assoc) (next_entry refl g.entry es)
      (one_taken t s x xs h k o) f z (d ∙ ap (refusal n) place)

  -- the first entry decides, or the check of the bytes after it
  module _ (n : ℕ) (done rest : List ℕ) (s : State) (b : ℕ) (e : bs ≡ done ++ rest) where
    abbrev ComesTo : Type 0
    ComesTo = Outcome t s b rest (length done) (checked (suc n) t s bs (length done) b)

    ends_here : rest ≡ [] → ComesTo
    ends_here z =
        all_taken [] (subst (λ y. Entries b y []) (sym z) no_entry) (none_taken t s) (journal_end t bs (suc n) s (length done) b (end_there bs done rest e b z))

    module _ (x : NamedStep) (g : BeginsWith b rest x) where
      taken : bs ≡ done ++ (g.front ++ g.further)
      taken = e ∙ ap (λ y. done ++ y) g.together

      here : entry_at bs (length done) b ≡ Named x.thread x.kind (length done + length g.front)
      here = entry_there bs done g.further b g.entry taken

      no_thread_here : t.threads ≤ x.thread → ComesTo
      no_thread_here h =
          at_once s b rest (length done) 12 _ (laws.no_thread x g h) (λ z. absurd (omega arith))
          (unknown_thread t bs n s (length done) b x.thread x.kind (length done + length g.front) here h)

      module _ (h : x.thread < t.threads) where
        other_kind_here : x.kind ≢ kind_number (step t x.thread s).kind → ComesTo
        other_kind_here f =
            at_once s b rest (length done) 26 _ (laws.other_kind x g h f) (λ z. absurd (omega arith))
            (other_kind t bs n s (length done) b x.thread x.kind (length done + length g.front) here h f)

        goes_on :
            x.kind ≡ kind_number (step t x.thread s).kind →
            (let p = length (done ++ g.front) in let s' = (step t x.thread s).state in Outcome t s' x.thread g.further p (checked n t s' bs p x.thread)) → ComesTo
        goes_on f o =
            let s' = (step t x.thread s).state in
            one_more s b rest (length done) _ x g h f
            (subst (λ r. Outcome t s' x.thread g.further (length done + length g.front) r)
            (sym (same_kind t bs n s (length done) b x.thread x.kind (length done + length g.front) here h f))
            (subst (λ p. Outcome t s' x.thread g.further p (checked n t s' bs p x.thread)) (length-append done g.front) o))

  pub comes_to :
      (n : ℕ) (done rest : List ℕ) (s : State) (b : ℕ) → bs ≡ done ++ rest → length rest < n → Outcome t s b rest (length done) (checked n t s bs (length done) b)
  comes_to zero done rest s b e h = absurd (omega arith)
  comes_to (suc n) done rest s b e h = elim (front_of b rest) [
    | nothing_left z ↦ ends_here n done rest s b e z
    | whole x g ↦
        less_or x.thread t.threads _
        (λ l.
        same_or x.kind (kind_number (step t x.thread s).kind) _
        (λ f.
        goes_on n done rest s b e x g l f
        (comes_to n (done ++ g.front) g.further (step t x.thread s).state x.thread (taken n done rest s b e x g ∙ simp append_assoc)
        (omega (arith, entry_long g.entry, ap length g.together, length-append g.front g.further))))
        (λ f. other_kind_here n done rest s b e x g l f))
        (λ l. no_thread_here n done rest s b e x g l)
    | broken ne none short f ↦
        at_once s b rest (length done) 25 _ (laws.no_entry ne none) (λ z. absurd (omega arith))
        (broken_entry t bs n s (length done) b (broken_there bs done rest e b short f))
  ]
