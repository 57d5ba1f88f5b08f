-- The words of a tree while its text is read: counts stop at one more than the limit, and words beyond the arrays are not stored.
use Rattle.std.specs.Prelude.{cond, List, ℕ, ◌+◌, ◌-◌, ltb, leb, set, replicate}
use Rattle.std.proofs.lemmas.List.Edits.{sets}
use Rattle.model.specs.declared.TreeWords.{TreeWords}

-- the smaller of a limit and a number
unfoldable pub least : (limit number : ℕ) → ℕ
least limit n = cond (ltb n limit) n limit

-- the words of a refused text: no domains and no threads
unfoldable pub no_words : TreeWords
no_words = record { domains = 0; threads = 0; parents = replicate 64 0; thresholds = replicate 64 0; homes = replicate 256 0; ticket_root = 0 }

-- after the first parenthesis: only the root
unfoldable pub root_words : TreeWords
root_words = record { domains = 1; threads = 0; parents = replicate 64 0; thresholds = replicate 64 0; homes = replicate 256 0; ticket_root = 0 }

-- the number of the domain whose parenthesis opens next
unfoldable pub new_number : (domains : ℕ) → ℕ
new_number n = cond (ltb n 64) n 64

-- the tree with one more domain, its parent and threshold
unfoldable pub domain_added : TreeWords → (parent threshold : ℕ) → TreeWords
domain_added w p h =
    cond (leb 64 w.domains)
    (record { domains = 65; threads = w.threads; parents = w.parents; thresholds = w.thresholds; homes = w.homes; ticket_root = 0 })
    (record {
      domains = w.domains + 1;
      threads = w.threads;
      parents = set w.parents w.domains p;
      thresholds = set w.thresholds w.domains h;
      homes = w.homes;
      ticket_root = 0;
    })

-- the number of threads after some are added
unfoldable pub threads_after : (threads count : ℕ) → ℕ
threads_after t n = least 257 t + least (257 - least 257 t) n

-- the array with one home for a range of threads; `end` is not included
abbrev pub filled_from : (homes : List ℕ) → (thread end home : ℕ) → List ℕ
filled_from hs i end d = sets hs i (replicate (end - i) d)

-- the tree with more threads, all with the same home
unfoldable pub threads_added : TreeWords → (home count : ℕ) → TreeWords
threads_added w d n =
    record {
      domains = w.domains;
      threads = threads_after w.threads n;
      parents = w.parents;
      thresholds = w.thresholds;
      homes = filled_from w.homes (least 257 w.threads) (least 256 (threads_after w.threads n)) d;
      ticket_root = 0;
    }
