-- Reading what is kept for a thread from the tables of its four numbers.
use mathlib.Core.Path.{◌≡◌}
use mathlib.Core.List.{List}
use Prim.Native.Nat.{ℕ}
use lib.ListN.{get_or, get_or-map}
use Rattle.runs_call.specs.declared.with_waits.waiting.ThreadTally.{ThreadTally}
use Rattle.runs_call.specs.WithWaits.Waiting.{marks_of, attempts_of, totals_of, longest_of}

-- nothing is counted, and no attempt is under way
abbrev pub nothing : ThreadTally
nothing = record { mark = 0; attempts = 0; total = 0; longest = 0 }

module _ (K : List ThreadTally) (k : ℕ) where
  pub mark_read : get_or (marks_of K) k 0 ≡ (get_or K k nothing).mark
  mark_read = get_or-map (λ (r : ThreadTally). r.mark) K k nothing

  pub attempts_read : get_or (attempts_of K) k 0 ≡ (get_or K k nothing).attempts
  attempts_read = get_or-map (λ (r : ThreadTally). r.attempts) K k nothing

  pub total_read : get_or (totals_of K) k 0 ≡ (get_or K k nothing).total
  total_read = get_or-map (λ (r : ThreadTally). r.total) K k nothing

  pub longest_read : get_or (longest_of K) k 0 ≡ (get_or K k nothing).longest
  longest_read = get_or-map (λ (r : ThreadTally). r.longest) K k nothing
