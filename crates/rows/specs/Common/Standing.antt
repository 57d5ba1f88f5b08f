-- Where a thread is: the domain of its place, its record there, and the places before and after.
use Rattle.std.specs.Prelude.{◌≡◌, ℕ, ◌+◌, ◌<◌, ◌≤◌, Bool, cond, ◌||◌, ◌≢◌, List, ◌==◌}
use Rattle.model.specs.declared.Place.{Place}
use Rattle.model.specs.declared.TreeWords.{TreeWords}
use Rattle.model.specs.declared.Place.TheVariants.{Idle, Help, Prep, Check, Draw, Raise}
use Rattle.model.specs.Trees.{child_from}
use Rattle.refusals.specs.Arrays.{parents_in, Lower}
use Rattle.rows.specs.declared.common.Member.{Member}

-- the number is that of an entry kind
abbrev pub is_entry_number : (kind : ℕ) → Bool
is_entry_number k = k == 2 || k == 3 || k == 4

-- every path of the tree leads up to the root: its domains fit in the arrays, and each parent is lower than its domain
pub record LeadsUp (tree : TreeWords) : Type 0 where
  pub few_domains : tree.domains ≤ 64
  pub lower : Lower tree.domains tree.parents

-- the indices at which a row stores are within the arrays
pub record Within (w : Member) : Type 0 where
  pub domain_fits : w.domain < 64
  pub own_fits : w.own < 320

-- the domain of a place, given its row and the domain it names; Idle and Inside are at home
abbrev pub row_domain : (home row domain : ℕ) → ℕ
row_domain h r d = cond (r == 0) h (cond (r == 5) h d)

-- the place after releasing a domain
abbrev pub done_at : (home domain child : ℕ) → Place
done_at h l c = cond (l == h) Idle (Help c)

-- the place where acquiring a domain starts, given the number of the kind of root
abbrev pub acquire_at : (kind domain : ℕ) → Place
acquire_at k d = cond (d == 0) (cond (k == 0) (Prep d) Draw) (Prep d)

-- the place where releasing a domain starts
abbrev pub release_at : (kind domain : ℕ) → Place
release_at k d = cond (d == 0) (cond (k == 0) (Help d) Raise) (Check d)

-- a thread as a member of a domain: with its own record at home, else with that of the domain's child on its path
pub record MemberOf (domains : ℕ) (parents : List ℕ) (i home domain : ℕ) (w : Member) : Type 0 where
  pub home_is : w.home ≡ home
  pub domain_is : w.domain ≡ domain
  pub within : Within w
  pub at_home : domain ≡ home → w.own ≡ i
  pub above_home : domain ≢ home → (w.child ≡ child_from 6 (parents_in domains parents) domain home) × (w.own ≡ 256 + w.child)
