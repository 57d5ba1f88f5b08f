-- What the inner functions of the call for wait bounds read from and leave in their arrays.
use Rattle.std.specs.Prelude.{◌≡◌, Bool, true, false, Option, None, Some, cond, List, ℕ, ◌+◌, ◌-◌, ◌*◌, ◌<◌, eqb, ltb, get_or, length}
use Rattle.model.specs.Trees.{Tree, is_member}
use Rattle.bounds.specs.StarvationFreedom.Bounds.{members}
use Rattle.bounds.specs.LongestWait.Bounds.{sum_below, passes, others_passes, tenures_for_all, member_wait}
use Rattle.bounds.specs.Answers.{capped}

-- the domain is the one that owns, if one does
abbrev pub is_owner : Option ℕ → (domain : ℕ) → Bool
is_owner None d = false
is_owner (Some o) d = eqb o d

-- the owner of a record: the record is that of a member of this domain and of no other, or of no domain
pub record Owned (t : Tree) (number : ℕ) (owner : Option ℕ) : Type 0 where
  pub owns : (d : ℕ) → d < 64 → is_member t d number ≡ is_owner owner d
  pub within : (d : ℕ) → owner ≡ Some d → d < 64

-- the passes of a record, from the words of the domains; 1 for a thread
unfoldable pub word_of : (words : List ℕ) → (number : ℕ) → ℕ
word_of ws m = cond (ltb m 256) 1 (get_or ws (m - 256) 0)

-- the passes of a record in the domain of which it is a member; 0 in others
unfoldable pub weight : Tree → (domain number : ℕ) → ℕ
weight t d q = cond (is_member t d q) (passes t q) 0

-- for each domain, how many members it has
pub record Counted (t : Tree) (counts : List ℕ) : Type 0 where
  pub counted : (d : ℕ) → d < 64 → get_or counts d 0 ≡ members t d
  pub room : length counts ≡ 64

-- for each member, the passes of those in its domain with a lower record
pub record Before (t : Tree) (sums : List ℕ) : Type 0 where
  pub lower : (d m : ℕ) → d < 64 → m < 320 → is_member t d m ≡ true → get_or sums m 0 ≡ capped (sum_below m (weight t d))
  pub room : length sums ≡ 320

-- for each member, the passes of the others in its domain
pub record Others (t : Tree) (sums : List ℕ) : Type 0 where
  pub others : (d m : ℕ) → d < 64 → m < 320 → is_member t d m ≡ true → get_or sums m 0 ≡ capped (others_passes t d m)
  pub room : length sums ≡ 320

-- what a domain adds to the wait of each of its members; nothing at the root
unfoldable pub added_above : Tree → (domain : ℕ) → ℕ
added_above t d = cond (eqb d 0) 0 (tenures_for_all t d * member_wait t (t.parent d) (256 + d))

-- for each domain below a number, what it adds
pub record Above (t : Tree) (domains : ℕ) (words : List ℕ) : Type 0 where
  pub above : (d : ℕ) → d < domains → get_or words d 0 ≡ capped (added_above t d)
  pub room : length words ≡ 64
