-- ENTRIES IN LINE for a thread, bypasses and prompt entries, by the chain of document 02, (x), just before the step.
use Rattle.std.specs.Prelude.{Bool, false, ◌&&◌, ◌||◌, not, cond, List, [], ◌∷◌, ℕ, ◌+◌, eqb}
use Rattle.model.specs.declared.State.{State}
use Rattle.model.specs.Scans.{all_below}
use Rattle.model.specs.Trees.{Tree}
use Rattle.model.specs.Places.{is_idle}
use Rattle.model.specs.States.{place}
use Rattle.model.specs.Steps.{is_entry, Step}
use Rattle.chain.specs.Chain.{stays, chain}

-- the last thread of a list is this one
unfoldable pub ends_at : (thread : ℕ) → List ℕ → Bool
ends_at j [] = false
ends_at j (k ∷ []) = eqb k j
ends_at j (k ∷ l ∷ ks) = ends_at j (l ∷ ks)

-- the step is an entry of another thread
unfoldable pub others_entry : (thread : ℕ) → Step → Bool
others_entry i x = is_entry x.kind && not (eqb x.thread i)

-- such an entry is in line for thread i, where s is the state just before it: the chain of i ends at the entering thread
unfoldable pub in_line : Tree → (thread : ℕ) → State → Step → Bool
in_line t i s x = others_entry i x && ends_at x.thread (chain t s i)

-- otherwise it is a bypass: the last thread of i's chain could have moved but had no turn
unfoldable pub bypass : Tree → (thread : ℕ) → State → Step → Bool
bypass t i s x = others_entry i x && not (ends_at x.thread (chain t s i))

-- an entry is prompt if, just before it, every other thread is Idle or can only stay
unfoldable pub prompt : Tree → State → Step → Bool
prompt t s x = all_below t.threads (λ k. eqb k x.thread || (is_idle (place s k) || stays t s k))

-- an entry of another thread that is not prompt
unfoldable pub late_entry : Tree → (thread : ℕ) → State → Step → Bool
late_entry t i s x = others_entry i x && not (prompt t s x)

-- how many steps from a state pass a test, each together with the state just before it
unfoldable pub count_steps : (State → Step → Bool) → State → List Step → ℕ
count_steps f s [] = 0
count_steps f s (x ∷ xs) = cond (f s x) 1 0 + count_steps f x.state xs
