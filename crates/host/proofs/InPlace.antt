-- What a fresh call in place leaves, and that a step in place is a call of a list.
use borrow.Author.Tests.{eq-eqb, ne_eqb}
use Rattle.model.specs.Answers.{fresh_answer}
use Rattle.model.specs.Calls.{answer_to, answer}
use Rattle.host.specs.InPlace.{fresh_left, FreshInPlaceLaw, InPlaceLaw}

pub fresh_in_place_law : FreshInPlaceLaw
unfolding FreshInPlaceLaw fresh_left fresh_answer
fresh_in_place_law w v s =
    record { accepted = λ e. rw (eq-eqb (fresh_answer w v).number 0 e); refused = λ n. rw (ne_eqb (fresh_answer w v).number 0 n) }

pub in_place_law : InPlaceLaw
unfolding InPlaceLaw answer answer_to
in_place_law w s i returned left e f = rw (e, f)
