-- What reading a text answers, for every text.
use Rattle.std.specs.Prelude.{cond, List, ℕ, ltb}
use Rattle.model.specs.declared.TreeWords.{TreeWords}
use Rattle.text_tree.specs.declared.TextReply.{TextReply}
use Rattle.text_tree.specs.Words.{no_words}
use Rattle.text_tree.specs.Reading.{Outcome, leaves, whole, text_read}

-- the reply to a refused text: number and place, no domains and no threads
unfoldable pub refused_by : (number place : ℕ) → TextReply
refused_by n p = record { number = n; place = p; tree = no_words }

-- the reply to an accepted text
unfoldable pub accepted_reply : TreeWords → TextReply
accepted_reply w = record { number = 0; place = 0; tree = w }

-- the reply to a text of the grammar: 4 for too many domains, then 5 for too many threads
unfoldable pub counted_reply : TreeWords → TextReply
counted_reply w =
    cond (ltb 64 w.domains) (refused_by 4 0) (cond (ltb 256 w.threads) (refused_by 5 0) (accepted_reply w))

-- 15, the text leaves the grammar, comes before 4
unfoldable pub outcome_reply : Outcome → TextReply
outcome_reply (leaves p) = refused_by 15 p
outcome_reply (whole w) = counted_reply w

-- what the call answers
unfoldable pub text_answer : (bytes : List ℕ) → TextReply
text_answer bs = outcome_reply (text_read bs)
