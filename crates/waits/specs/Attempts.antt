-- Document 02, (vi): the attempts of a thread and their waits, from the list of a run's steps, and the attempt that is under way after them.
use Rattle.std.specs.Prelude.{Bool, ◌&&◌, ◌||◌, cond, List, [], ◌∷◌, ◌++◌, ℕ, zero, suc, ◌+◌, eqb, get_or}
use Rattle.model.specs.declared.Place.{Place}
use Rattle.model.specs.declared.Place.TheVariants.{Idle, Swap, Draw}
use Rattle.model.specs.Trees.{Tree, is_ticket}
use Rattle.model.specs.Places.{words_of, same_row}
use Rattle.model.specs.Steps.{is_entry, Step}

-- a place is Swap at a domain
unfoldable pub swaps_at : (domain : ℕ) → Place → Bool
swaps_at d p = same_row p (Swap d) && eqb (words_of p).domain d

-- a thread whose home is a ticket root draws from this place: Idle's own step, or Draw
unfoldable pub draws : Place → Bool
draws p = same_row p Idle || same_row p Draw

-- from this place a thread begins an attempt: Swap at its home; at a ticket root that is its home, its draw
unfoldable pub begins_from : Tree → (thread : ℕ) → Place → Bool
begins_from t i p = cond (is_ticket t (t.home i)) (draws p) (swaps_at (t.home i) p)

-- a step is this thread's, and an attempt begins with it
unfoldable pub begins : Tree → (thread : ℕ) → Step → Bool
begins t i x = eqb x.thread i && begins_from t i x.place

-- a step is this thread's entry
unfoldable pub enters : (thread : ℕ) → Step → Bool
enters i x = eqb x.thread i && is_entry x.kind

-- THE ATTEMPT UNDER WAY, of one thread: none is 0; else one more than the other threads' entries since it began
-- an attempt begins: none has entered since
unfoldable pub begun : Tree → (thread : ℕ) → Step → (under_way : ℕ) → ℕ
begun t i x a = cond (begins t i x) 1 a

-- another thread's entry is counted in an attempt that is under way
unfoldable pub counted : Step → (under_way : ℕ) → ℕ
counted x zero = 0
counted x (suc n) = suc n + cond (is_entry x.kind) 1 0

-- the attempt that is under way after a step: the thread's own entry finishes it
unfoldable pub under_way_after : Tree → (thread : ℕ) → Step → (under_way : ℕ) → ℕ
under_way_after t i x a = cond (enters i x) 0 (counted x (begun t i x a))

-- the wait of the attempt that an entry finishes; none where none was under way
unfoldable pub finished : (under_way : ℕ) → List ℕ
finished zero = []
finished (suc n) = n ∷ []

-- the waits that a step finishes: the thread's own entry, which may be the step that began the attempt
unfoldable pub finished_by : Tree → (thread : ℕ) → Step → (under_way : ℕ) → List ℕ
finished_by t i x a = cond (enters i x) (finished (begun t i x a)) []

-- the waits of a thread's attempts that finish within some steps, in their order
unfoldable pub waits_from : Tree → (thread under_way : ℕ) → List Step → List ℕ
waits_from t i a [] = []
waits_from t i a (x ∷ xs) = finished_by t i x a ++ waits_from t i (under_way_after t i x a) xs

-- the attempt that is under way after some steps, by the one that is under way before them
unfoldable pub under_way_from : Tree → (thread under_way : ℕ) → List Step → ℕ
under_way_from t i a [] = a
under_way_from t i a (x ∷ xs) = under_way_from t i (under_way_after t i x a) xs

-- those that begin and finish within a run: at its start none is under way
abbrev pub waits : Tree → (thread : ℕ) → List Step → List ℕ
waits t i xs = waits_from t i 0 xs

-- ALL THREADS, by a list with one number for each: its attempt under way before the steps; none where the list has no number for it
-- the waits of the first threads, in their order
unfoldable pub waits_below_from : Tree → (under_way : List ℕ) → (threads : ℕ) → List Step → List ℕ
waits_below_from t us zero xs = []
waits_below_from t us (suc n) xs = waits_below_from t us n xs ++ waits_from t n (get_or us n 0) xs

-- their attempts under way after the steps
unfoldable pub under_way_below : Tree → (under_way : List ℕ) → (threads : ℕ) → List Step → List ℕ
under_way_below t us zero xs = []
under_way_below t us (suc n) xs = under_way_below t us n xs ++ (under_way_from t n (get_or us n 0) xs ∷ [])

-- the waits of the first threads whose attempts begin and finish within a run
abbrev pub waits_below : Tree → (threads : ℕ) → List Step → List ℕ
waits_below t n xs = waits_below_from t [] n xs
