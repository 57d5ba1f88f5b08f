-- What the inner functions of the calls for allowances and rounds read from and leave in their arrays.
use Rattle.std.specs.Prelude.{◌≡◌, cond, List, ℕ, ◌+◌, ◌<◌, eqb, get_or, length}
use Rattle.model.specs.Trees.{Tree, allowance}
use Rattle.bounds.specs.StarvationFreedom.Bounds.{others_passes, acquire_rounds}
use Rattle.bounds.specs.Answers.{capped}

-- the word of each domain other than the root is its allowance
pub record Allowed (t : Tree) (words : List ℕ) : Type 0 where
  pub allowed : (c : ℕ) → 0 < c → c < t.domains → get_or words c 0 ≡ capped (allowance t (256 + c))

-- the rounds above a domain: at the root the one that enters, elsewhere those of its own record in its parent
unfoldable pub rounds_above : Tree → (domain : ℕ) → ℕ
rounds_above t d = cond (eqb d 0) 1 (acquire_rounds t (t.parent d) (256 + d))

-- the rounds of every member of a domain, given those above the domain and the passes of its other members
pub record Acquires (t : Tree) (domain above passes rounds : ℕ) : Type 0 where
  pub acquires : (m : ℕ) → above ≡ capped (rounds_above t domain) → passes ≡ capped (others_passes t domain m) → rounds ≡ capped (acquire_rounds t domain m)

-- the word of each domain below a number is the rounds above it
pub record RoundsAbove (t : Tree) (domains : ℕ) (words : List ℕ) : Type 0 where
  pub above : (c : ℕ) → c < domains → get_or words c 0 ≡ capped (rounds_above t c)
  pub room : length words ≡ 64
