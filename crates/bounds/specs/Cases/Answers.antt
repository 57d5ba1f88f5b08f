-- Cases of the calls, one list each. Wait bounds: threads in the root, thresholds below, at and above the number of members, one member, capped numbers, unused slots, a refused tree. Allowances: leaves, levels, the largest child, capped words, the root and unused slots. Rounds: threads in the root, leaves, levels, capped numbers, a refused tree.
use Rattle.std.specs.Prelude.{Bool, ◌&&◌, List, [], ◌∷◌, ℕ, eqb, replicate}
use Rattle.model.specs.declared.TreeWords.{TreeWords}
use Rattle.model.specs.Cases.Marked.{same_numbers}
use Rattle.bounds.specs.Answers.{allowances_answer, allowances_left, rounds_answer, wait_bounds_answer, wait_bounds_left}

-- a tree with a queue root and these words
abbrev pub tree : (domains threads : ℕ) → (parents thresholds homes : List ℕ) → TreeWords
tree n m ps ts hs = record { domains = n; threads = m; parents = ps; thresholds = ts; homes = hs; ticket_root = 0 }

-- the printed example; the root's parent and threshold and the unused slots have words that are not read
abbrev pub example : TreeWords
example = tree 3 3 (9 ∷ 0 ∷ 0 ∷ 9 ∷ []) (9 ∷ 2 ∷ 16 ∷ 9 ∷ []) (1 ∷ 1 ∷ 2 ∷ [])

-- two leaves with thresholds 3 and 2 below domain 1, which has threshold 5
abbrev pub two_levels : TreeWords
two_levels = tree 4 2 (0 ∷ 0 ∷ 1 ∷ 1 ∷ []) (0 ∷ 5 ∷ 3 ∷ 2 ∷ []) (2 ∷ 3 ∷ [])

-- five domains, each below the one before, all with the largest threshold: the fifth product exceeds 64 bits
abbrev pub deep : TreeWords
deep = tree 6 1 (0 ∷ 0 ∷ 1 ∷ 2 ∷ 3 ∷ 4 ∷ []) (0 ∷ 65535 ∷ 65535 ∷ 65535 ∷ 65535 ∷ 65535 ∷ []) (5 ∷ [])

-- the allowances of a tree are these words
abbrev pub answers : (words : List ℕ) → TreeWords → Bool
answers ws w = eqb (allowances_answer w).number 0 && same_numbers (allowances_left w []) ws

-- the cases of allowances
unfoldable pub cases : List Bool
cases =
    answers (0 ∷ 2 ∷ 16 ∷ replicate 61 0) example
    ∷ answers (0 ∷ 15 ∷ 3 ∷ 2 ∷ replicate 60 0) two_levels
    ∷ answers (0 ∷ 18446744073709551615 ∷ 18445618199572250625 ∷ 281462092005375 ∷ 4294836225 ∷ 65535 ∷ replicate 58 0) deep
    -- a root without children has no word
    ∷ answers (replicate 64 0) (tree 1 1 [] [] (0 ∷ []))
    -- refused by 16 at domain 2: the buffer is unchanged
    ∷ (eqb (allowances_answer (tree 3 1 (0 ∷ 0 ∷ 0 ∷ []) (0 ∷ 2 ∷ 2 ∷ []) (1 ∷ []))).number 16
    && same_numbers (allowances_left (tree 3 1 (0 ∷ 0 ∷ 0 ∷ []) (0 ∷ 2 ∷ 2 ∷ []) (1 ∷ [])) (7 ∷ 8 ∷ [])) (7 ∷ 8 ∷ [])) ∷ []

-- two domains with two threads each, thresholds 3 and 2
abbrev pub two_pairs : TreeWords
two_pairs = tree 3 4 (0 ∷ 0 ∷ 0 ∷ []) (0 ∷ 3 ∷ 2 ∷ []) (1 ∷ 1 ∷ 2 ∷ 2 ∷ [])

-- a domain with three threads and threshold 2, and one with one thread and threshold 9
abbrev pub not_divided : TreeWords
not_divided = tree 3 4 (0 ∷ 0 ∷ 0 ∷ []) (0 ∷ 2 ∷ 9 ∷ []) (1 ∷ 1 ∷ 1 ∷ 2 ∷ [])

-- five domains, each below the one before, all with the largest threshold; each except the last has a leaf with a thread as its sibling
abbrev pub deep_with_leaves : TreeWords
deep_with_leaves =
    tree 11 7 (0 ∷ 0 ∷ 1 ∷ 2 ∷ 3 ∷ 4 ∷ 4 ∷ 3 ∷ 2 ∷ 1 ∷ 0 ∷ []) (0 ∷ 65535 ∷ 65535 ∷ 65535 ∷ 65535 ∷ 65535 ∷ 1 ∷ 1 ∷ 1 ∷ 1 ∷ 1 ∷ [])
    (5 ∷ 5 ∷ 6 ∷ 7 ∷ 8 ∷ 9 ∷ 10 ∷ [])

-- the same with one level less and a lower threshold: the rounds fit in 64 bits, the turns do not
abbrev pub less_deep : TreeWords
less_deep =
    tree 9 6 (0 ∷ 0 ∷ 1 ∷ 2 ∷ 3 ∷ 3 ∷ 2 ∷ 1 ∷ 0 ∷ []) (0 ∷ 65535 ∷ 65535 ∷ 65535 ∷ 8192 ∷ 1 ∷ 1 ∷ 1 ∷ 1 ∷ []) (4 ∷ 4 ∷ 5 ∷ 6 ∷ 7 ∷ 8 ∷ [])

-- the reply for a tree has these numbers
abbrev pub rounds_are : (number place rounds turns : ℕ) → TreeWords → Bool
rounds_are n p r u w =
    let a = rounds_answer w in
    eqb a.number n && (eqb a.place p && (eqb a.rounds r && eqb a.turns u))

-- the cases of rounds
unfoldable pub rounds_cases : List Bool
rounds_cases =
    -- two threads in the root
    rounds_are 0 0 19 38 (tree 1 2 [] [] (0 ∷ 0 ∷ []))
    ∷ rounds_are 0 0 44 132 example
    ∷ rounds_are 0 0 44 88 two_levels
    ∷ rounds_are 0 0 52 208 two_pairs
    ∷ rounds_are 0 0 62 248 not_divided
    -- a single thread
    ∷ rounds_are 0 0 55 55 deep
    ∷ rounds_are 0 0 18446744073709551615 18446744073709551615 deep_with_leaves
    ∷ rounds_are 0 0 16140162203956224025 18446744073709551615 less_deep
    ∷ rounds_are 16 2 0 0 (tree 3 1 (0 ∷ 0 ∷ 0 ∷ []) (0 ∷ 2 ∷ 2 ∷ []) (1 ∷ [])) ∷ []

-- the wait bounds of a tree are these words
abbrev pub waits : (words : List ℕ) → TreeWords → Bool
waits ws w = eqb (wait_bounds_answer w).number 0 && same_numbers (wait_bounds_left w []) ws

-- the cases of wait bounds
unfoldable pub wait_cases : List Bool
wait_cases =
    waits (2 ∷ 2 ∷ 2 ∷ replicate 253 0) (tree 1 3 [] [] (0 ∷ 0 ∷ 0 ∷ []))
    -- the threshold of a domain with one member counts as 1
    ∷ waits (2 ∷ 2 ∷ 2 ∷ replicate 253 0) example
    ∷ waits (3 ∷ 3 ∷ 4 ∷ 4 ∷ replicate 252 0) two_pairs
    -- two tenures for three members
    ∷ waits (4 ∷ 4 ∷ 4 ∷ 2 ∷ replicate 252 0) not_divided
    ∷ waits
    (6 ∷ 6 ∷ 65539 ∷ 4294836228 ∷ 281462092005377 ∷ 18445618199572250626 ∷ 18446744073709551615 ∷ replicate 249 0) deep_with_leaves
    -- refused by 16 at domain 2: the buffer is unchanged
    ∷ (eqb (wait_bounds_answer (tree 3 1 (0 ∷ 0 ∷ 0 ∷ []) (0 ∷ 2 ∷ 2 ∷ []) (1 ∷ []))).number 16
    && same_numbers (wait_bounds_left (tree 3 1 (0 ∷ 0 ∷ 0 ∷ []) (0 ∷ 2 ∷ 2 ∷ []) (1 ∷ [])) (7 ∷ 8 ∷ [])) (7 ∷ 8 ∷ [])) ∷ []
