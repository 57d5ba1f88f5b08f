-- The run's loop reports one number per step; two numbers per step replace it.
use Rattle.std.specs.Prelude.{◌≡◌, List, ℕ, ◌+◌, ◌*◌, ◌/◌, ◌%◌, ◌≤◌, ◌<◌, length, get_or}
use Rattle.rows.specs.Common.Standing.{row_domain}

-- each entry of a schedule is below 256, so it has a home
pub record ThreadsFit (schedule : List ℕ) : Type 0 where
  pub fits : (k : ℕ) → k < length schedule → get_or schedule k 0 < 256

-- from a given step on, two numbers replace what was reported for each step; before it, and after the last, nothing has changed
pub record Spread (homes schedule before : List ℕ) (from : ℕ) (after : List ℕ) : Type 0 where
  pub long : length after ≡ length before
  pub ahead : (j : ℕ) → j < 2 * from → get_or after j 0 ≡ get_or before j 0
  pub kind : (j : ℕ) → from ≤ j → j < length schedule → get_or after (2 * j) 0 ≡ get_or before j 0 % 8
  pub domain :
      (j : ℕ) → from ≤ j → j < length schedule →
      get_or after (2 * j + 1) 0 ≡ row_domain (get_or homes (get_or schedule j 0) 0) ((get_or before j 0 / 8) % 16) (get_or before j 0 / 128)
  pub rest : (j : ℕ) → 2 * length schedule ≤ j → get_or after j 0 ≡ get_or before j 0
