-- THE DEFINITION OF WAITS MEANS WHAT IT SAYS: laws. These are statements; their proofs are in proofs/.
use Rattle.std.specs.Prelude.{◌≡◌, true, false, List, [], ◌∷◌, ◌++◌, ◌≢◌, ℕ, ◌+◌}
use Rattle.model.specs.Trees.{Tree}
use Rattle.model.specs.Steps.{is_entry, Step}
use Rattle.model.specs.Runs.{how_many}
use Rattle.waits.specs.Attempts.{begins, enters, waits_from, under_way_from}

-- in these steps the thread neither begins an attempt nor enters, so each entry among them is by another thread
unfoldable pub Between : Tree → (thread : ℕ) → List Step → Type 0
Between t i [] = Prim.Unit
Between t i (x ∷ xs) = (begins t i x ≡ false) × ((enters i x ≡ false) × Between t i xs)

-- the wait of an attempt that begins with one step and finishes with a later one is the number of entries between the two; an attempt that begins and finishes with the same step has wait 0; an entry without a beginning is no attempt
pub record Measures (t : Tree) (i : ℕ) (after : List Step) : Type 0 where
  pub attempt :
      (a : ℕ) (x y : Step) (between : List Step) → begins t i x ≡ true → enters i x ≡ false → Between t i between → begins t i y ≡ false → enters i y ≡ true →
      waits_from t i a (x ∷ (between ++ (y ∷ after))) ≡ how_many is_entry between ∷ waits_from t i 0 after
  pub at_once : (a : ℕ) (x : Step) → begins t i x ≡ true → enters i x ≡ true → waits_from t i a (x ∷ after) ≡ 0 ∷ waits_from t i 0 after
  pub no_attempt : (y : Step) (between : List Step) → Between t i between → begins t i y ≡ false → enters i y ≡ true → waits_from t i 0 (between ++ (y ∷ after)) ≡ waits_from t i 0 after

-- for every tree and thread
unfoldable pub WaitLaw : Type 0
WaitLaw = (t : Tree) (i : ℕ) (after : List Step) → Measures t i after

-- the number of an attempt under way is one more than the entries since the step that began it, all by other threads. An attempt from before the steps continues; without a beginning, or after the thread's own entry, the number is 0
pub record Numbers (t : Tree) (i : ℕ) (since : List Step) : Type 0 where
  pub begun :
      (a : ℕ) (before : List Step) (x : Step) → begins t i x ≡ true → enters i x ≡ false → Between t i since →
      under_way_from t i a (before ++ (x ∷ since)) ≡ how_many is_entry since + 1
  pub goes_on : (a : ℕ) → a ≢ 0 → Between t i since → under_way_from t i a since ≡ a + how_many is_entry since
  pub none : Between t i since → under_way_from t i 0 since ≡ 0
  pub entered : (a : ℕ) (before : List Step) (y : Step) → enters i y ≡ true → Between t i since → under_way_from t i a (before ++ (y ∷ since)) ≡ 0

-- for every tree and thread
unfoldable pub UnderWayLaw : Type 0
UnderWayLaw = (t : Tree) (i : ℕ) (since : List Step) → Numbers t i since
