-- Document 02, (vii): for every domain except the root, the entries of its threads, its tenures and its longest tenure, computed from the steps. No step reads them.
use Rattle.std.specs.Prelude.{Bool, true, false, ◌&&◌, cond, List, [], ◌∷◌, ◌++◌, ℕ, ◌+◌, max, eqb}
use Rattle.model.specs.declared.Place.{Place}
use Rattle.model.specs.declared.Place.TheVariants.{Idle, Prep, Swap, Link, Wait, Inside, Check, Help, Cas, Linger, Grant, Draw, Watch, Raise, Invalid}
use Rattle.model.specs.Trees.{Tree, own_record}
use Rattle.model.specs.Places.{words_of, same_row}
use Rattle.model.specs.States.{place}
use Rattle.model.specs.Steps.{is_entry, Standing, unchanged, begins, ends, Step}
use Rattle.model.specs.Runs.{ended_in, entries_under, occurrences}

-- for a Swap: no member begins to stand ungranted, so it found no tail
unfoldable pub finds_none : Standing → Bool
finds_none unchanged = true
finds_none (begins m) = false
finds_none (ends ms) = false

-- the record with which a step takes a lock at once: in a Swap that finds no tail, or a draw that goes Inside. A draw from Idle is left out: it is for a thread's record and starts no tenure of a domain
unfoldable pub taken_from : Tree → Step → Place → List ℕ
taken_from t x Idle = []
taken_from t x (Prep l) = []
taken_from t x (Swap l) = cond (finds_none x.standing) (own_record t x.thread l ∷ []) []
taken_from t x (Link l p) = []
taken_from t x (Wait l) = []
taken_from t x Inside = []
taken_from t x (Check l) = []
taken_from t x (Help l) = []
taken_from t x (Cas l) = []
taken_from t x (Linger l) = []
taken_from t x (Grant l r w) = []
taken_from t x Draw = cond (is_entry x.kind) (own_record t x.thread 0 ∷ []) []
taken_from t x Watch = []
taken_from t x Raise = []
taken_from t x Invalid = []

-- the records that a step gives a lock to: those that it grants, those whose ticket a raise shows, and the one that takes it at once
unfoldable pub given : Tree → Step → List ℕ
given t x = ended_in x.standing ++ taken_from t x x.place

-- how many tenures of a domain a step starts. A tenure starts when the domain's record gets the lock above it; the root has none
unfoldable pub starts : Tree → (domain : ℕ) → Step → ℕ
starts t d x = cond (eqb d 0) 0 (occurrences (256 + d) (given t x))

-- the place is Check at this domain
unfoldable pub checks_at : (domain : ℕ) → Place → Bool
checks_at d p = same_row p (Check d) && eqb (words_of p).domain d

-- the word of a Grant place; 0 for any other place
unfoldable pub word_to_grant : Place → ℕ
word_to_grant p = (words_of p).word

-- the length that a step reports for a domain's running tenure: 1 if it starts one, the word to be granted if it is a Check at the domain that finds a successor, else 0
unfoldable pub tenure_length : Tree → (domain : ℕ) → Step → ℕ
tenure_length t d x =
    max (cond (eqb (starts t d x) 0) 0 1) (cond (checks_at d x.place) (word_to_grant (place x.state x.thread)) 0)

-- OVER A LIST OF STEPS. The entries of a domain's threads; 0 for the root
unfoldable pub domain_entries : Tree → (domain : ℕ) → List Step → ℕ
domain_entries t d xs = cond (eqb d 0) 0 (entries_under t (256 + d) xs)

-- the number of tenures that start
unfoldable pub domain_tenures : Tree → (domain : ℕ) → List Step → ℕ
domain_tenures t d [] = 0
domain_tenures t d (x ∷ xs) = starts t d x + domain_tenures t d xs

-- the largest reported length
unfoldable pub longest_tenure : Tree → (domain : ℕ) → List Step → ℕ
longest_tenure t d [] = 0
longest_tenure t d (x ∷ xs) = max (tenure_length t d x) (longest_tenure t d xs)
