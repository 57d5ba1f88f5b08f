-- Document 02, (vii): what holds of a domain's entries, tenures and longest tenure, as the steps report them, and of the counters in a lock's state.
use Rattle.std.specs.Prelude.{◌≡◌, true, false, cond, List, ◌≢◌, ℕ, zero, suc, ◌+◌, ◌*◌, ◌≤◌, ◌<◌, get_or}
use Rattle.model.specs.declared.TreeWords.{TreeWords}
use Rattle.model.specs.declared.State.{State}
use Rattle.model.specs.declared.Counters.{Counters}
use Rattle.model.specs.declared.LockState.{LockState}
use Rattle.model.specs.Trees.{Tree, tree_of, is_child, is_leaf}
use Rattle.model.specs.States.{fresh_state}
use Rattle.model.specs.Steps.{Step}
use Rattle.model.specs.Runs.{steps, run}
use Rattle.model.specs.Tenures.{domain_entries, domain_tenures, longest_tenure}
use Rattle.model.specs.Refusals.{tree_refusal}
use Rattle.model.specs.Laws.{◌⟺◌, AllThreads, FreshRun}
use Rattle.model.specs.Answers.{fresh_answer}
use Rattle.model.specs.Calls.{Call, joined, Names}
use Rattle.claims.specs.Reached.{last_state}

-- the sum of a number of each child domain
unfoldable pub sum_below : (bound : ℕ) → (ℕ → ℕ) → ℕ
sum_below zero f = 0
sum_below (suc n) f = sum_below n f + f n

unfoldable pub children_sum : Tree → (domain : ℕ) → (ℕ → ℕ) → ℕ
children_sum t d f = sum_below t.domains (λ c. cond (is_child t d c) (f c) 0)

-- ENTRIES. At every domain with children except the root, entries are the sum of its children's; if the root has child domains, all entries are the sum over them. It holds of every run, so of the history from fresh
pub record AddsChildren (t : Tree) (is : List ℕ) (s : State) : Type 0 where
  pub inner : (d : ℕ) → d ≢ 0 → is_leaf t d ≡ false → domain_entries t d (steps t is s) ≡ children_sum t d (λ c. domain_entries t c (steps t is s))
  pub root : is_leaf t 0 ≡ false → (run t is s).counts.entries ≡ children_sum t 0 (λ c. domain_entries t c (steps t is s))

unfoldable pub ChildrenLaw : Type 0
ChildrenLaw = (t : Tree) → (tree_refusal t).number ≡ 0 → (is : List ℕ) (s : State) → AllThreads t is → AddsChildren t is s

-- TENURES, from fresh. The longest tenure is 0 exactly if the domain has had none, and never exceeds the threshold; of a leaf other than the root, entries are at most its tenures times its longest, and its tenures at most its entries and one more
pub record HasTenures (t : Tree) (xs : List Step) (d : ℕ) : Type 0 where
  pub none_exactly : (longest_tenure t d xs ≡ 0) ⟺ (domain_tenures t d xs ≡ 0)
  pub within : longest_tenure t d xs ≤ t.threshold d
  pub leaf_entries : is_leaf t d ≡ true → domain_entries t d xs ≤ domain_tenures t d xs * longest_tenure t d xs
  pub leaf_tenures : is_leaf t d ≡ true → domain_tenures t d xs ≤ domain_entries t d xs + 1

unfoldable pub TenureLaw : Type 0
TenureLaw =
    (t : Tree) (start : ℕ) (is : List ℕ) → FreshRun t is → (d : ℕ) → 0 < d → d < t.domains → HasTenures t (steps t is (fresh_state t start)) d

-- IN A LOCK'S STATE. The state that a list of calls on a fresh lock returns holds what the steps of the list's schedule report
pub record CountersHold (t : Tree) (xs : List Step) (c : Counters) : Type 0 where
  pub entries : (d : ℕ) → d < 64 → get_or c.entries d 0 ≡ domain_entries t d xs
  pub tenures : (d : ℕ) → d < 64 → get_or c.tenures d 0 ≡ domain_tenures t d xs
  pub longest : (d : ℕ) → d < 64 → get_or c.longest d 0 ≡ longest_tenure t d xs

-- so its counters are: at every domain with children except the root, entries are the sum of its children's; if the root has child domains, all entries, of which the list has so many, are the sum over them; and tenures as above
pub record CountsTenures (t : Tree) (all : ℕ) (c : Counters) : Type 0 where
  pub inner : (d : ℕ) → d ≢ 0 → d < t.domains → is_leaf t d ≡ false → get_or c.entries d 0 ≡ children_sum t d (λ k. get_or c.entries k 0)
  pub root : is_leaf t 0 ≡ false → all ≡ children_sum t 0 (λ k. get_or c.entries k 0)
  pub none_exactly : (d : ℕ) → 0 < d → d < t.domains → (get_or c.longest d 0 ≡ 0) ⟺ (get_or c.tenures d 0 ≡ 0)
  pub within : (d : ℕ) → 0 < d → d < t.domains → get_or c.longest d 0 ≤ t.threshold d
  pub leaf_entries : (d : ℕ) → 0 < d → d < t.domains → is_leaf t d ≡ true → get_or c.entries d 0 ≤ get_or c.tenures d 0 * get_or c.longest d 0
  pub leaf_tenures : (d : ℕ) → 0 < d → d < t.domains → is_leaf t d ≡ true → get_or c.tenures d 0 ≤ get_or c.entries d 0 + 1

pub record Counted (t : Tree) (f : LockState) (cs : List Call) : Type 0 where
  pub holds : CountersHold t (steps t (joined cs f) f.words) (last_state cs f).counters
  pub counted : CountsTenures t (run t (joined cs f) f.words).counts.entries (last_state cs f).counters

unfoldable pub CountedLaw : Type 0
CountedLaw =
    (w : TreeWords) (start : ℕ) (cs : List Call) → (fresh_answer w start).number ≡ 0 → Names (tree_of w) cs (fresh_answer w start).state →
    Counted (tree_of w) (fresh_answer w start).state cs
