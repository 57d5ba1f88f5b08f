-- The cases of trees as text hold, by computation.
use mathlib.Core.Path.{◌≡◌, refl}
use mathlib.Core.Bool.{true}
use Rattle.model.specs.Scans.{all}
use Rattle.model.specs.Cases.Marked.{same_numbers}
use Rattle.text_tree.specs.Words.{least, no_words, root_words, new_number, domain_added, threads_after, threads_added}
use Rattle.text_tree.specs.Reading.{move, ended, read_on, text_read}
use Rattle.text_tree.specs.Answers.{refused_by, accepted_reply, counted_reply, outcome_reply, text_answer}
use Rattle.text_tree.specs.Cases.Texts.{cases}

pub cases_hold : all cases ≡ true
unfolding same_numbers least no_words root_words new_number domain_added threads_after threads_added move ended read_on text_read refused_by accepted_reply counted_reply outcome_reply text_answer cases
cases_hold = refl
