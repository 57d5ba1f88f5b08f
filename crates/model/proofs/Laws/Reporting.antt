-- What a step reports: its domain, and the kinds that make up a run's counts.
use mathlib.Core.Path.{◌≡◌, refl, sym, ap, ◌∙◌}
use mathlib.Core.Bool.{true, false, not, cond, false≢true}
use mathlib.Core.List.{List, [], ◌∷◌}
use mathlib.Core.Logic.{◌≢◌, ◌⊎◌, inl, inr}
use Prim.Native.Nat.{ℕ, suc, ◌+◌, ◌<◌}
use native.Mathlib.Omega.{arith}
use lib.Dec.{eqb}
use lib.ListN.{length}
use borrow.Author.Tests.{eq-eqb}
use Rattle.model.specs.declared.Place.{Place}
use Rattle.model.specs.declared.Place.TheVariants.{Idle, Prep, Swap, Link, Wait, Inside, Check, Help, Cas, Linger, Grant, Draw, Watch, Raise, Invalid}
use Rattle.model.specs.declared.TreeWords.{TreeWords}
use Rattle.model.specs.declared.LockState.{LockState}
use Rattle.model.specs.Trees.{Tree, tree_of, on_path, is_member}
use Rattle.model.specs.Places.{words_of, place_domain}
use Rattle.model.specs.States.{place, numbers_at}
use Rattle.model.specs.Steps.{Kind, stay, root_entry, passed_entry, crossed_entry, kind_number, is_kind, Step, step}
use Rattle.model.specs.Runs.{steps, state_after, how_many, counts_of, run_of, run, occurrences}
use Rattle.model.specs.WellFormed.{queue_on_path, good_place}
use Rattle.model.specs.Counters.{lock_state, counters_after, good_counts, any_above}
use Rattle.model.specs.Refusals.{tree_refusal, run_refusal, accepted, refusal}
use Rattle.model.specs.Answers.{counters_after_run, first_kind, step_reply, step_answer, run_reply, run_answer}
use Rattle.model.specs.Laws.{AllThreads, Formed, FormLaw, DomainLaw, answered_kinds, counts_of_kinds, AnsweredKindsLaw}
use Rattle.model.proofs.Tests.{and_both}
use Rattle.model.proofs.Places.{words_of_place}
use Rattle.model.proofs.Trees.Accepted.{Accepted, accepted as accepted_tree, sixteen_bit}
use Rattle.model.proofs.Trees.Tickets.{queue_facts}
use Rattle.model.proofs.Trees.Paths.{on_path_home, on_path_root}
use Rattle.model.proofs.Laws.Facts.{well_formed_facts}
use Rattle.model.proofs.Laws.Form.{not_invalid, form_law}
use Rattle.model.proofs.Laws.Runs.{entries_all}
use Rattle.model.proofs.Laws.Calls.{CountsPass, step_accepted, run_facts, run_counted, run_reply_number}
use Rattle.model.proofs.Laws.Counters.{one_kept, count_first, count_later}

-- THE DOMAIN. If a place names a domain, it is the number in its words
named : (h : ℕ) (p : Place) → p ≢ Idle → p ≢ Inside → place_domain h p ≡ (words_of p).domain ⊎ (p ≡ Invalid)
named h Idle a b = absurd (a refl)
named h (Prep l) a b = inl refl
named h (Swap l) a b = inl refl
named h (Link l p) a b = inl refl
named h (Wait l) a b = inl refl
named h Inside a b = absurd (b refl)
named h (Check l) a b = inl refl
named h (Help l) a b = inl refl
named h (Cas l) a b = inl refl
named h (Linger l) a b = inl refl
named h (Grant l r w) a b = inl refl
named h Draw a b = inl refl
named h Watch a b = inl refl
named h Raise a b = inl refl
named h Invalid a b = inr refl

-- a good place's domain is on the path
good_domain : (t : Tree) → Accepted t → (i : ℕ) → i < t.threads → (p : Place) → good_place t i p ≡ true → on_path t i (place_domain (t.home i) p) ≡ true
unfolding good_place
good_domain t valid i h Idle g = on_path_home t valid i h
good_domain t valid i h (Prep l) g = (queue_facts t i l g).0
good_domain t valid i h (Swap l) g = (queue_facts t i l g).0
good_domain t valid i h (Link l p) g = (queue_facts t i l (and_both (queue_on_path t i l) (is_member t l p) g).0).0
good_domain t valid i h (Wait l) g = (queue_facts t i l g).0
good_domain t valid i h Inside g = on_path_home t valid i h
good_domain t valid i h (Check l) g = (and_both (on_path t i l) (not (eqb l 0)) g).0
good_domain t valid i h (Help l) g = (queue_facts t i l g).0
good_domain t valid i h (Cas l) g = (queue_facts t i l g).0
good_domain t valid i h (Linger l) g = (queue_facts t i l g).0
good_domain t valid i h (Grant l r w) g = (queue_facts t i l (and_both (queue_on_path t i l) (is_member t l r) g).0).0
good_domain t valid i h Draw g = on_path_root t valid i h
good_domain t valid i h Watch g = on_path_root t valid i h
good_domain t valid i h Raise g = on_path_root t valid i h
good_domain t valid i h Invalid g = absurd (false≢true g)

pub domain_law : DomainLaw
unfolding DomainLaw step
domain_law t i s ok h f =
    let valid = accepted_tree t ok in
    let x = numbers_at s.places i in
    let good : good_place t i (place s i) ≡ true = ((well_formed_facts t s f).places i).used h in
    let right = not_invalid t i (place s i) good in
    record {
      at_home = λ e. elim e [ inl z ↦ ap (place_domain (t.home i)) z | inr z ↦ ap (place_domain (t.home i)) z ];
      at_place = λ a b. elim (named (t.home i) (place s i) a b) [ inl z ↦ z ∙ ap (λ y. y.domain) (words_of_place x right) | inr z ↦ absurd (right z) ];
      path = good_domain t valid i h (place s i) good;
    }

-- THE KINDS that steps report, by their numbers
unfoldable numbers : List Step → List ℕ
numbers [] = []
numbers (x ∷ xs) = kind_number x.kind ∷ numbers xs

numbers_length : (xs : List Step) → length (numbers xs) ≡ length xs
unfolding numbers
numbers_length [] = refl
numbers_length (x ∷ xs) = ap suc (numbers_length xs)

numbers_count : (k : Kind) (xs : List Step) → occurrences (kind_number k) (numbers xs) ≡ how_many (is_kind k) xs
unfolding numbers occurrences how_many is_kind
numbers_count k [] = refl
numbers_count k (x ∷ xs) = ap (λ v. cond (eqb (kind_number k) (kind_number x.kind)) 1 0 + v) (numbers_count k xs)

answered_all :
    (w : TreeWords) → (tree_refusal (tree_of w)).number ≡ 0 → (is : List ℕ) → AllThreads (tree_of w) is → (s : LockState) → Formed (tree_of w) s.words →
    good_counts (tree_of w) s.counters ≡ true → CountsPass (tree_of w) s is → answered_kinds w is s ≡ numbers (steps (tree_of w) is s.words)
unfolding numbers answered_kinds steps state_after AllThreads step_answer step_reply first_kind counters_after_run accepted refusal FormLaw
answered_all w ok [] all s f g low = refl
answered_all w ok (i ∷ is) all s f g low =
    let t = tree_of w in
    let x = step t i s.words in
    let first : any_above (counters_after t s.counters (x ∷ [])) ≡ false = rw (count_first t s i is) at (low 0 (omega arith)) in
    let one : CountsPass t s (i ∷ []) = λ p h. let z : p ≡ 0 = omega arith in rw (z, count_first t s i []) first in
    let next = (form_law t (sixteen_bit w) ok).of_step i s.words all.0 f in
    rw (step_accepted t s i (record { tree = ok; form = f.form; counts = g; thread = all.0 }) one)
    (ap (λ ks. kind_number x.kind ∷ ks)
    (answered_all w ok is all.1 (lock_state x.state (counters_after t s.counters (x ∷ []))) next (one_kept t ok (sixteen_bit w) i s all.0 f g first)
    (λ p h. rw (count_later t s i is p) at (low (suc p) (omega arith)))))

counted : (xs : List Step) → counts_of xs ≡ counts_of_kinds (numbers xs)
unfolding counts_of counts_of_kinds
counted xs =
    rw (numbers_length xs, numbers_count root_entry xs, numbers_count passed_entry xs, numbers_count crossed_entry xs, numbers_count stay xs, entries_all xs)

pub answered_kinds_law : AnsweredKindsLaw
unfolding AnsweredKindsLaw run_answer run_reply run run_of
answered_kinds_law w s is b f e =
    let t = tree_of w in
    let r = run_refusal t s is (length b) in
    let zero : r.number ≡ 0 = sym (run_reply_number r s (run t is s.words) (counters_after_run t is s)) ∙ e in
    let facts = run_facts t s is (length b) zero in
    rw (eq-eqb r.number 0 zero)
    (counted (steps t is s.words) ∙ ap counts_of_kinds (sym (answered_all w facts.tree is facts.threads s f facts.counts (run_counted t s is (length b) zero))))
