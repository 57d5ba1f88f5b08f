-- Bytes are the entries of at most one list, and every schedule has a journal.
use mathlib.Core.Path.{◌≡◌, refl, sym, ap, ◌∙◌, subst}
use mathlib.Core.List.{List, [], ◌∷◌, ◌++◌}
use Prim.Native.Nat.{ℕ, ◌+◌, ◌*◌, ◌%◌, ◌/◌}
use native.Mathlib.Omega.{arith}
use lib.ListN.{length, drop, length-append}
use Rattle.model.specs.declared.State.{State}
use Rattle.model.specs.Trees.{Tree, tree_of}
use Rattle.model.specs.Steps.{kind_number, step}
use Rattle.model.specs.Runs.{steps}
use Rattle.model.specs.Laws.{AllThreads}
use Rattle.journal.specs.declared.Entry.{Entry}
use Rattle.journal.specs.declared.Entry.TheVariants.{Named, Broken, End}
use Rattle.journal.specs.Entries.{NamedStep, named, EntryBytes, both_given, Entries, no_entry, next_entry}
use Rattle.journal.specs.Answers.{fresh_lock}
use Rattle.journal.specs.Laws.{kind_numbers, OfTheTable, OneReadingLaw, written_out, WrittenLaw, CheckLaw}
use Rattle.journal.proofs.Fronts.{entry_there, entry_long}
use Rattle.journal.proofs.Walking.{none_taken, one_taken}
use Rattle.journal.proofs.Deciding.{check_law}

-- ONE READING. What an entry names, and how long it is
abbrev thread_in : Entry → ℕ
thread_in (Named i k p) = i
thread_in Broken = 0
thread_in End = 0

abbrev kind_in : Entry → ℕ
kind_in (Named i k p) = k
kind_in Broken = 0
kind_in End = 0

abbrev size_in : Entry → ℕ
size_in (Named i k p) = p
size_in Broken = 0
size_in End = 0

further_is : (f r : List ℕ) → drop (length f) (f ++ r) ≡ r
further_is [] r = refl
further_is (x ∷ f) r = further_is f r

-- two entries at the front of the same bytes
module _ (b : ℕ) (bs f g r q : List ℕ) (x y : NamedStep) (e : bs ≡ f ++ r) (d : bs ≡ g ++ q) (h : EntryBytes b f x) (k : EntryBytes b g y) where
  both : Named x.thread x.kind (0 + length f) ≡ Named y.thread y.kind (0 + length g)
  both = sym (entry_there bs [] r b h e) ∙ entry_there bs [] q b k d

  same_step : x ≡ y
  same_step = ap (λ i. record { thread = i; kind = x.kind }) (ap thread_in both) ∙ ap (λ j. record { thread = y.thread; kind = j }) (ap kind_in both)

  same_rest : r ≡ q
  same_rest =
      let z : length f ≡ length g = omega (arith, ap size_in both) in
      sym (further_is f r) ∙ ap (drop (length f)) (sym e ∙ d) ∙ ap (λ n. drop n (g ++ q)) z ∙ further_is g q

-- no entry is empty
some_bytes : (b : ℕ) (bs f r : List ℕ) (x : NamedStep) → bs ≡ f ++ r → EntryBytes b f x → bs ≡ [] → ⊥
some_bytes b bs f r x e h z = omega (arith, entry_long h, sym (ap length e) ∙ ap length z, length-append f r)

one_reading : {b c : ℕ} {bs cs : List ℕ} {xs ys : List NamedStep} → Entries b bs xs → Entries c cs ys → b ≡ c → bs ≡ cs → xs ≡ ys
one_reading no_entry no_entry e d = refl
one_reading no_entry (next_entry {front = f} {rest = r} {x = x} g h es) e d = absurd (some_bytes _ _ f r x g h (sym d))
one_reading (next_entry {front = f} {rest = r} {x = x} g h es) no_entry e d = absurd (some_bytes _ _ f r x g h d)
one_reading {b} {c} {bs} (next_entry {front = f} {rest = r} {x = x} g h es) (next_entry {front = f'} {rest = r'} {x = y} g' h' es') e d =
    let k : EntryBytes b f' y = rw e h' in
    let same = same_step b bs f f' r r' x y g (d ∙ g') h k in
    let others = one_reading es es' (ap (λ z. z.thread) same) (same_rest b bs f f' r r' x y g (d ∙ g') h k) in
    rw (same, others)

pub one_reading_law : OneReadingLaw
unfolding OneReadingLaw
one_reading_law bs xs ys j k = one_reading j k refl refl

-- EVERY SCHEDULE HAS A JOURNAL. The named steps of a schedule from a state
unfoldable steps_named : Tree → List ℕ → State → List NamedStep
steps_named t [] s = []
steps_named t (i ∷ is) s = named i (kind_number (step t i s).kind) ∷ steps_named t is (step t i s).state

-- a number from its low and its high byte
parts : (i k : ℕ) → named (i % 256 + 256 * (i / 256)) k ≡ named i k
parts i k = let z : i % 256 + 256 * (i / 256) ≡ i = omega arith in rw z

are_written : (t : Tree) (is : List ℕ) (s : State) (b : ℕ) → Entries b (written_out is (kind_numbers (steps t is s))) (steps_named t is s)
unfolding steps kind_numbers written_out steps_named
are_written t [] s b = no_entry
are_written t (i ∷ is) s b =
    let k = kind_number (step t i s).kind in
    let bytes : List ℕ = 3 ∷ i % 256 ∷ i / 256 ∷ k ∷ [] in
    next_entry refl (subst (λ x. EntryBytes b bytes x) (parts i k) (both_given (i % 256) (i / 256) k)) (are_written t is (step t i s).state _)

are_taken : (t : Tree) (is : List ℕ) (s : State) → AllThreads t is → OfTheTable t s (steps_named t is s)
unfolding named steps_named AllThreads
are_taken t [] s a = none_taken t s
are_taken t (i ∷ is) s a = one_taken t s (named i (kind_number (step t i s).kind)) _ a.0 refl (are_taken t is (step t i s).state a.1)

pub written_law : WrittenLaw
unfolding WrittenLaw CheckLaw
written_law w is z a =
    ((check_law w _).accepts z).1
    (record { entries = steps_named (tree_of w) is (fresh_lock w); journal = are_written (tree_of w) is (fresh_lock w) 0; of_the_table = are_taken (tree_of w) is (fresh_lock w) a })
