-- The result of a scan.
use Rattle.std.specs.Prelude.{◌≡◌, Bool, true, false, ℕ, ◌≤◌, ◌<◌, Option, Some, None, IfSome}

-- the lowest bad place of n places; n if none is bad
pub record Lowest (n : ℕ) (bad : ℕ → Bool) (found : ℕ) : Type 0 where
  pub within : found ≤ n
  pub passed : (j : ℕ) → j < found → bad j ≡ false
  pub fails : found < n → bad found ≡ true

-- the place that a scan returns; n if it returns none
abbrev pub or_end : Option ℕ → (n : ℕ) → ℕ
or_end (Some place) n = place
or_end None n = n

-- a scan of n places finds the lowest bad one; none if none is bad
abbrev pub FindsLowest : (n : ℕ) → (bad : ℕ → Bool) → Option ℕ → Type 0
FindsLowest n bad found = Lowest n bad (or_end found n) × IfSome found (λ place. place < n)
