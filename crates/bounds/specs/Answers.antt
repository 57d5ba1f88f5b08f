-- What the calls answer, for every tree: the allowances of document 01, the rounds of a fair schedule in which every thread enters, and W of every thread, each capped at the largest 64-bit number.
use Rattle.std.specs.Prelude.{◌&&◌, not, cond, List, [], ◌∷◌, ℕ, zero, suc, ◌+◌, ◌*◌, min, eqb, ltb}
use Rattle.model.specs.declared.TreeWords.{TreeWords}
use Rattle.model.specs.Trees.{Tree, tree_of, allowance}
use Rattle.model.specs.Refusals.{Refusal, tree_refusal}
use Rattle.bounds.specs.StarvationFreedom.Bounds.{everyone_bound}
use Rattle.bounds.specs.LongestWait.Bounds.{wait_bound}
use Rattle.bounds.specs.declared.RoundsReply.{RoundsReply}

-- a number, or the largest 64-bit number if that is smaller
unfoldable pub capped : ℕ → ℕ
capped n = min n 18446744073709551615

-- the allowance of a domain of the tree other than the root, which is no member; otherwise 0
unfoldable pub allowance_word : Tree → (domain : ℕ) → ℕ
allowance_word t d = cond (not (eqb d 0) && ltb d t.domains) (capped (allowance t (256 + d))) 0

-- one word for each of `left` domains, starting at a given one
unfoldable pub words_from : (ℕ → ℕ) → (left from : ℕ) → List ℕ
words_from f zero d = []
words_from f (suc k) d = f d ∷ words_from f k (d + 1)

-- the number and place of the answer: those of a fresh lock
unfoldable pub allowances_answer : TreeWords → Refusal
allowances_answer w = tree_refusal (tree_of w)

-- the buffer of 64 words after the call; if refused, unchanged
unfoldable pub allowances_left : TreeWords → (buffer : List ℕ) → List ℕ
allowances_left w b = cond (eqb (allowances_answer w).number 0) (words_from (allowance_word (tree_of w)) 64 0) b

-- the number and place of a fresh lock. If accepted: how many joined rounds contain an entry of every thread, and how many turns they are in round robin; if refused, 0
unfoldable pub rounds_answer : TreeWords → RoundsReply
rounds_answer w =
    let r = tree_refusal (tree_of w) in
    let everyone = everyone_bound (tree_of w) in
    let answered : ℕ → ℕ = λ n. cond (eqb r.number 0) (capped n) 0 in
    record { number = r.number; place = r.place; rounds = answered everyone; turns = answered (everyone * w.threads) }

-- for a thread of the tree W, the largest number of entries of others that it waits for while nobody stalls; otherwise 0
unfoldable pub wait_word : Tree → (thread : ℕ) → ℕ
wait_word t i = cond (ltb i t.threads) (capped (wait_bound t i)) 0

-- the number and place of the answer: those of a fresh lock
unfoldable pub wait_bounds_answer : TreeWords → Refusal
wait_bounds_answer w = tree_refusal (tree_of w)

-- the buffer of 256 words after the call; if refused, unchanged
unfoldable pub wait_bounds_left : TreeWords → (buffer : List ℕ) → List ℕ
wait_bounds_left w b = cond (eqb (wait_bounds_answer w).number 0) (words_from (wait_word (tree_of w)) 256 0) b
