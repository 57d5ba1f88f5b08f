-- Four numbers that are a place: their row decides which place, and at which domain.
use Rattle.std.proofs.Common.{◌≡◌, ℕ, ◌≢◌, sym, refl, ◌∙◌}
use Rattle.model.specs.declared.PlaceWords.{PlaceWords}
use Rattle.model.specs.declared.Place.{Place}
use Rattle.model.specs.declared.Place.TheVariants.{Idle, Prep, Swap, Link, Wait, Inside, Check, Help, Cas, Linger, Grant, Draw, Watch, Raise, Invalid}
use Rattle.model.specs.Places.{shape, shaped, place_of, words_of, place_domain}
use Rattle.model.proofs.Places.{place_shaped}
use Rattle.rows.specs.Common.Standing.{row_domain}

-- the place with the shape of its row
pub at_row :
    (q : PlaceWords) → place_of q ≢ Invalid → (k : ℕ) (x : Place) → shaped (shape k) q.domain q.peer q.word ≡ x → q.row ≡ k → x ≡ place_of q
at_row q given k x e f = sym (place_shaped q given ∙ rw f e)

-- the domain of a place, from the row and the domain in its words
pub place_by_row : (h : ℕ) (p : Place) → p ≢ Invalid → row_domain h (words_of p).row (words_of p).domain ≡ place_domain h p
place_by_row h Idle n = refl
place_by_row h (Prep l) n = refl
place_by_row h (Swap l) n = refl
place_by_row h (Link l p) n = refl
place_by_row h (Wait l) n = refl
place_by_row h Inside n = refl
place_by_row h (Check l) n = refl
place_by_row h (Help l) n = refl
place_by_row h (Cas l) n = refl
place_by_row h (Linger l) n = refl
place_by_row h (Grant l r w) n = refl
place_by_row h Draw n = refl
place_by_row h Watch n = refl
place_by_row h Raise n = refl
place_by_row h Invalid n = absurd (n refl)
