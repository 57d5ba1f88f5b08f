-- THE DEFINITIONS THAT THE CLAIM USES, each stated a second time in another way, so that a weaker definition fails. These are statements; their proofs are in proofs/.
use Rattle.std.specs.Prelude.{◌≡◌, true, false, List, [], ◌∷◌, ◌++◌, ◌≢◌, ℕ, ◌+◌, ◌*◌, ◌≤◌, ◌<◌, length, take}
use Rattle.model.specs.declared.PlaceWords.{PlaceWords}
use Rattle.model.specs.declared.Place.{Place}
use Rattle.model.specs.declared.Place.TheVariants.{Inside, Invalid}
use Rattle.model.specs.declared.State.{State}
use Rattle.model.specs.declared.Counters.{Counters}
use Rattle.model.specs.declared.LockState.{LockState}
use Rattle.model.specs.Trees.{Tree, is_child, is_leaf, on_path, under, allowance}
use Rattle.model.specs.Places.{words_of, fits, place_of}
use Rattle.model.specs.States.{place, inside_count}
use Rattle.model.specs.Runs.{Run}
use Rattle.model.specs.Refusals.{Refusal, tree_refusal}
use Rattle.model.specs.Answers.{run_reply}
use Rattle.model.specs.Laws.{◌⟺◌}
use Rattle.model.specs.Calls.{Call, added, lock_at, Stretches, Prefix}

-- UNDER. A domain lies within another if it is that domain, or if its parent lies within it
pub data Within (t : Tree) (other : ℕ) : (domain : ℕ) → Type 0 where
  itself : Within t other other
  below : (d : ℕ) → d ≢ 0 → Within t other (t.parent d) → Within t other d

-- a domain is on a thread's path exactly if the thread's home lies within it; the only thread under a thread is itself; a thread is under a domain exactly if its home lies within the domain
pub record ReportsUnder (t : Tree) (i : ℕ) : Type 0 where
  pub path : (d : ℕ) → (on_path t i d ≡ true) ⟺ Within t d (t.home i)
  pub under_thread : (j : ℕ) → j < 256 → (under t j i ≡ true) ⟺ (j ≡ i)
  pub under_domain : (d : ℕ) → (under t (256 + d) i ≡ true) ⟺ Within t d (t.home i)

-- in every accepted tree, for every thread
unfoldable pub UnderLaw : Type 0
UnderLaw = (t : Tree) → (tree_refusal t).number ≡ 0 → (i : ℕ) → i < t.threads → ReportsUnder t i

-- ALLOWANCES. A child domain with the largest allowance
pub record LargestChild (t : Tree) (d : ℕ) : Type 0 where
  pub child : ℕ
  pub real : child < t.domains
  pub its_child : is_child t d child ≡ true
  pub largest : (c : ℕ) → c < t.domains → is_child t d c ≡ true → allowance t (256 + c) ≤ allowance t (256 + child)

-- the allowance is 1 for a thread; the threshold for a leaf; and the threshold times the largest allowance of a child domain otherwise
pub record Allows (t : Tree) : Type 0 where
  pub of_thread : (i : ℕ) → i < t.threads → allowance t i ≡ 1
  pub of_leaf : (d : ℕ) → is_leaf t d ≡ true → allowance t (256 + d) ≡ t.threshold d
  pub of_inner : (d : ℕ) → is_leaf t d ≡ false → (x : LargestChild t d) × (allowance t (256 + d) ≡ t.threshold d * allowance t (256 + x.child))

-- in every accepted tree
unfoldable pub AllowanceLaw : Type 0
AllowanceLaw = (t : Tree) → (tree_refusal t).number ≡ 0 → Allows t

-- INSIDE. The count of threads at Inside, over all slots, is at most 1 exactly if any two threads at Inside are the same thread
unfoldable pub InsideCountLaw : Type 0
InsideCountLaw =
    (s : State) → (inside_count s ≤ 1) ⟺ ((i j : ℕ) → i < 256 → j < 256 → place s i ≡ Inside → place s j ≡ Inside → i ≡ j)

-- A PREFIX: ys begins with xs
unfoldable pub PrefixLaw : Type 0
PrefixLaw = (xs ys : List ℕ) → Prefix xs ys ⟺ (take (length xs) ys ≡ xs)

-- STRETCHES. The schedule consists of the entries of the accepted calls, in the order of the calls
unfoldable pub own_entries : Tree → (fresh : LockState) → (schedule : List ℕ) → (k : ℕ) → List Call → List ℕ
own_entries t f S k [] = []
own_entries t f S k (c ∷ cs) = let own = added c (lock_at t f S k) in own ++ own_entries t f S (k + length own) cs

-- a schedule that is divided into stretches is these entries
unfoldable pub StretchesLaw : Type 0
StretchesLaw = (t : Tree) (f : LockState) (S : List ℕ) (cs : List Call) → Stretches t f S 0 cs → S ≡ own_entries t f S 0 cs

-- A REFUSED RUN counts nothing
unfoldable pub RefusedRunLaw : Type 0
RefusedRunLaw =
    (r : Refusal) (s : LockState) (x : Run) (c : Counters) → r.number ≢ 0 →
    ((run_reply r s x c).counts.steps ≡ 0) × ((run_reply r s x c).counts.entries ≡ 0) × ((run_reply r s x c).counts.stays ≡ 0)
    × ((run_reply r s x c).counts.root ≡ 0) × ((run_reply r s x c).counts.passed ≡ 0) × ((run_reply r s x c).counts.crossed ≡ 0)

-- PLACES. The numbers of a place fit its row and give the place back; numbers that give a place are the numbers of that place
pub record PlaceLaw : Type 0 where
  pub fitting : (p : Place) → fits (words_of p) ≡ true
  pub back : (p : Place) → place_of (words_of p) ≡ p
  pub only : (q : PlaceWords) → place_of q ≢ Invalid → words_of (place_of q) ≡ q
