-- WITNESSES: calls that meet all conditions of a law of `kinds` at once, where no case in the list does; docs/WITNESSES.md lists them.
use Rattle.std.specs.Prelude.{◌≡◌, [], ◌∷◌, replicate}
use Rattle.model.specs.Counters.{fresh_lock}
use Rattle.model.specs.Cases.Marked.{two_in_root}
use Rattle.kinds.specs.Answers.{refused_by, kinds_answer}

-- TWO CALLS, the second from the state that the first returns, and one call on the joined schedule: all three are accepted
pub record CallsMeet : Type 0 where
  pub first : (refused_by two_in_root fresh_lock (0 ∷ 0 ∷ []) (replicate 2 9) (replicate 4 7)).number ≡ 0
  pub second :
      (refused_by two_in_root (kinds_answer two_in_root fresh_lock (0 ∷ 0 ∷ []) (replicate 2 9) (replicate 4 7)).state (1 ∷ []) (9 ∷ []) (replicate 2 7)).number ≡ 0
  pub whole : (refused_by two_in_root fresh_lock (0 ∷ 0 ∷ 1 ∷ []) (replicate 3 9) (replicate 6 7)).number ≡ 0
