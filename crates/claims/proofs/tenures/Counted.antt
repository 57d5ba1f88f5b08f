-- The counters of a lock state are what the steps of a list's schedule give.
use mathlib.Core.Path.{◌≡◌, refl, sym, ap, ◌∙◌}
use mathlib.Core.Bool.{cond}
use mathlib.Core.List.{List, []}
use Prim.Native.Nat.{ℕ, ◌+◌, ◌≤◌, ◌<◌, max}
use native.Mathlib.Omega.{arith}
use native.Mathlib.Nat.{zero-add, zero-max}
use lib.ListN.{get_or, length, replicate, length-replicate}
use Rattle.model.specs.declared.LockState.{LockState}
use Rattle.model.specs.Trees.{Tree, tree_of, is_child}
use Rattle.model.specs.Steps.{Step}
use Rattle.model.specs.Runs.{steps}
use Rattle.model.specs.Tenures.{domain_entries, domain_tenures, longest_tenure}
use Rattle.model.specs.Counters.{fresh_counters, counters_after}
use Rattle.model.specs.CounterLaws.{CounterLaw}
use Rattle.model.specs.Answers.{fresh_answer, counters_after_run}
use Rattle.model.specs.Calls.{joined}
use Rattle.claims.specs.Reached.{last_state}
use Rattle.model.proofs.Trees.Accepted.{accepted, sixteen_bit}
use Rattle.model.proofs.Laws.Form.{replicate_all}
use Rattle.model.proofs.Laws.Counters.{counter_law}
use Rattle.claims.proofs.Claims.Calls.{starts_here, joined_threads}
use Rattle.claims.proofs.Claims.Accepts.{last_reached}
use Rattle.claims.specs.Tenures.Laws.{children_sum, ChildrenLaw, HasTenures, TenureLaw, CountersHold, CountedLaw}
use Rattle.claims.proofs.Sums.{sum_same}
use Rattle.claims.proofs.tenures.Children.{children_law}
use Rattle.claims.proofs.tenures.Law.{tenure_law}

-- the counters after steps from fresh counters
counters_from_fresh : (t : Tree) (xs : List Step) → CountersHold t xs (counters_after t fresh_counters xs)
unfolding CounterLaw fresh_counters
counters_from_fresh t xs =
    let g = counter_law t fresh_counters xs in
    let zeros : (d : ℕ) → get_or (replicate {A = ℕ} 64 0) d 0 ≡ 0 = λ d. replicate_all (λ (x : ℕ). x ≡ 0) 64 d 0 refl in
    let room : length (replicate {A = ℕ} 64 0) ≡ 64 = length-replicate {A = ℕ} 64 0 in
    record {
      entries = λ d h. g.entries d (omega (arith, room)) ∙ ap (λ v. v + domain_entries t d xs) (zeros d) ∙ zero-add (domain_entries t d xs);
      tenures = λ d h. g.tenures d (omega (arith, room)) ∙ ap (λ v. v + domain_tenures t d xs) (zeros d) ∙ zero-add (domain_tenures t d xs);
      longest = λ d h. g.longest d (omega (arith, room)) ∙ ap (λ v. max v (longest_tenure t d xs)) (zeros d) ∙ zero-max (longest_tenure t d xs);
    }

children_same : (t : Tree) (d : ℕ) (f g : ℕ → ℕ) → ((k : ℕ) → k < t.domains → f k ≡ g k) → children_sum t d f ≡ children_sum t d g
unfolding children_sum
children_same t d f g h = sum_same t.domains _ _ (λ k l. ap (λ v. cond (is_child t d k) v 0) (h k l))

pub counted_law : CountedLaw
unfolding CountedLaw ChildrenLaw TenureLaw fresh_answer counters_after_run
counted_law w start cs ok n =
    let t = tree_of w in
    let f = (fresh_answer w start).state in
    let is = joined cs f in
    let xs = steps t is f.words in
    let all = joined_threads t f cs [] f (starts_here t f) n in
    let here : (last_state cs f).counters ≡ counters_after t fresh_counters xs = ap (λ (s : LockState). s.counters) (last_reached t f cs [] f (starts_here t f) n) in
    let few : t.domains ≤ 64 = (accepted t ok).few_domains in
    let holds : CountersHold t xs (last_state cs f).counters = rw here (counters_from_fresh t xs) in
    let sums = children_law t ok is f.words all in
    let sum : (d : ℕ) → children_sum t d (λ k. domain_entries t k xs) ≡ children_sum t d (λ k. get_or (last_state cs f).counters.entries k 0) =
    λ d. children_same t d _ _ (λ k l. sym (holds.entries k (omega arith))) in
    let has : (d : ℕ) → 0 < d → d < t.domains → HasTenures t xs d = λ d p r. tenure_law t _ is (record { sixteen_bit = sixteen_bit w; tree_accepted = ok; threads = all }) d p r in
    record {
      holds = holds;
      counted = record {
        inner = λ d o r e. holds.entries d (omega arith) ∙ sums.inner d o e ∙ sum d;
        root = λ e. sums.root e ∙ sum 0;
        none_exactly = λ d p r. rw (holds.longest d (omega arith), holds.tenures d (omega arith)) (has d p r).none_exactly;
        within = λ d p r. rw (holds.longest d (omega arith)) (has d p r).within;
        leaf_entries = λ d p r e. rw (holds.entries d (omega arith), holds.tenures d (omega arith), holds.longest d (omega arith)) ((has d p r).leaf_entries e);
        leaf_tenures = λ d p r e. rw (holds.tenures d (omega arith), holds.entries d (omega arith)) ((has d p r).leaf_tenures e);
      };
    }
