-- The outcome of the file call, case by case.
use mathlib.Core.Path.{◌≡◌, refl}
use mathlib.Core.Bool.{Bool, true, false, cond}
use mathlib.Core.List.{List}
use Prim.Native.Nat.{ℕ, ◌≤◌, ◌<◌}
use lib.Dec.{ltb}
use lib.ListN.{length}
use borrow.Author.Tests.{lt-ltb, le-ltb}
use Rattle.std.specs.Result.{IsErrAnd}
use Rattle.std.specs.Prelude.{Result}
use Rattle.std.proofs.lemmas.Result.{err_from_is_err_and}
use Rattle.model.specs.Refusals.{refusal}
use Rattle.refusals.specs.declared.reasons.Refusal.{Refusal}
use Rattle.refusals.specs.Reasons.{number_of}
use Rattle.lock_file.specs.FileAnswers.FileAnswers.{Outcome, refused_by, lists, listing_outcome, reading_outcome, file_outcome, outcome_reply}
use Rattle.file_calls.specs.Replies.{file_reply}
use Rattle.lock_file.specs.Reading.{refused, file_read}
use Rattle.lock_file.specs.Answers.{bounded_read}

pub listing_short : (ls : List ℕ) (room : ℕ) → room < length ls → listing_outcome ls room ≡ refused_by (refusal 14 0)
unfolding listing_outcome
listing_short ls room h = rw (lt-ltb room (length ls) h)

pub listing_fits : (ls : List ℕ) (room : ℕ) → length ls ≤ room → listing_outcome ls room ≡ lists ls
unfolding listing_outcome
listing_fits ls room h = rw (le-ltb room (length ls) h)

-- the outcome of the file call is that of the bounded reading
pub bounded_outcome : (bs : List ℕ) (room : ℕ) → reading_outcome (bounded_read bs) room ≡ file_outcome bs room
unfolding bounded_read file_outcome reading_outcome
bounded_outcome bs room = go (ltb 65536 (length bs))
  where
    go :
        (b : Bool) →
        reading_outcome (cond b (refused (refusal 1 0)) (file_read bs)) room ≡ cond b (refused_by (refusal 1 0)) (reading_outcome (file_read bs) room)
    go true = refl
    go false = refl

-- the reply that `?` passes on
pub error_replied :
    (r : Result ℕ Refusal) (x : Refusal) (o : Outcome) → IsErrAnd r (λ y. y ≡ x) → o ≡ refused_by (refusal (number_of x.reason) x.place) →
    file_reply r ≡ outcome_reply o
unfolding outcome_reply refusal
error_replied r x o h e = let y = err_from_is_err_and r h in rw (y.1, y.2, e) refl
