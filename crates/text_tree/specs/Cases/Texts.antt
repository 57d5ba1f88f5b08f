-- Cases of trees as text, in one list. The bytes are: space 32, # 35, ( 40, ) 41, digits 48 to 57.
use Rattle.std.specs.Prelude.{Bool, ◌&&◌, List, [], ◌∷◌, ◌++◌, ℕ, zero, suc, eqb, take, replicate}
use Rattle.model.specs.Scans.{all}
use Rattle.model.specs.Cases.Marked.{same_numbers}
use Rattle.text_tree.specs.declared.TextReply.{TextReply}
use Rattle.text_tree.specs.Answers.{text_answer}

-- a reply with these parts
abbrev pub answers : (number place domains threads : ℕ) → (parents thresholds homes : List ℕ) → TextReply → Bool
answers n p d t ps hs ms r =
    eqb r.number n && eqb r.place p && eqb r.tree.domains d && eqb r.tree.threads t && same_numbers r.tree.parents ps
    && same_numbers r.tree.thresholds hs && same_numbers r.tree.homes ms

-- the text is refused with this number and place, and all words are 0
abbrev pub refuses : (number place : ℕ) → (bytes : List ℕ) → Bool
refuses n p bs = answers n p 0 0 (replicate 64 0) (replicate 64 0) (replicate 256 0) (text_answer bs)

-- the text is accepted with this tree
abbrev pub gives : (domains threads : ℕ) → (parents thresholds homes : List ℕ) → (bytes : List ℕ) → Bool
gives d t ps hs ms bs = answers 0 0 d t ps hs ms (text_answer bs)

-- (2(#2) 16(#1))
abbrev pub example : List ℕ
example = 40 ∷ 50 ∷ 40 ∷ 35 ∷ 50 ∷ 41 ∷ 32 ∷ 49 ∷ 54 ∷ 40 ∷ 35 ∷ 49 ∷ 41 ∷ 41 ∷ []

-- the example, cut after each of its first bytes, ends too early
abbrev pub cut : ℕ → List Bool
cut zero = refuses 15 0 [] ∷ []
cut (suc n) = refuses 15 (suc n) (take (suc n) example) ∷ cut n

-- domains with threshold 1 and one thread each; their number is one more than the argument
abbrev pub children : ℕ → List ℕ
children zero = 49 ∷ 40 ∷ 35 ∷ 49 ∷ 41 ∷ []
children (suc n) = 49 ∷ 40 ∷ 35 ∷ 49 ∷ 41 ∷ 32 ∷ children n

-- a chain of domains with threshold 1 above one thread
abbrev pub chain : ℕ → List ℕ
chain zero = 40 ∷ 35 ∷ 49 ∷ 41 ∷ []
chain (suc n) = 40 ∷ 49 ∷ (chain n ++ (41 ∷ []))

-- consecutive numbers
abbrev pub counts_from : (number left : ℕ) → List ℕ
counts_from n zero = []
counts_from n (suc k) = n ∷ counts_from (suc n) k

-- a tree with only a root and a thread count of these digits
abbrev pub root_with : (digits : List ℕ) → List ℕ
root_with ds = 40 ∷ 35 ∷ (ds ++ (41 ∷ []))

-- the cases
unfoldable pub cases : List Bool
cases =
    -- the printed example; cut, it ends too early; with a byte after it, it is refused at that byte
    gives 3 3 (replicate 64 0) (0 ∷ 2 ∷ 16 ∷ replicate 61 0) (1 ∷ 1 ∷ 2 ∷ replicate 253 0) example
    ∷ all (cut 13)
    ∷ refuses 15 14 (example ++ (10 ∷ []))
    -- (#1)
    ∷ gives 1 1 (replicate 64 0) (replicate 64 0) (replicate 256 0) (root_with (49 ∷ []))
    -- six levels, and a seventh opening parenthesis: only # may follow the sixth
    ∷ gives 6 1 (0 ∷ 0 ∷ 1 ∷ 2 ∷ 3 ∷ 4 ∷ replicate 58 0) (0 ∷ 1 ∷ 1 ∷ 1 ∷ 1 ∷ 1 ∷ replicate 58 0) (5 ∷ replicate 255 0) (chain 5)
    ∷ refuses 15 11 (chain 6)
    -- thresholds 65,535 and 65,536; the place is that of the last digit
    ∷ gives 2 1 (replicate 64 0) (0 ∷ 65535 ∷ replicate 62 0) (1 ∷ replicate 255 0) (40 ∷ 54 ∷ 53 ∷ 53 ∷ 51 ∷ 53 ∷ 40 ∷ 35 ∷ 49 ∷ 41 ∷ 41 ∷ [])
    ∷ refuses 15 5 (40 ∷ 54 ∷ 53 ∷ 53 ∷ 51 ∷ 54 ∷ 40 ∷ 35 ∷ 49 ∷ 41 ∷ 41 ∷ [])
    -- two spaces, (), (#0), (#01), (0(#1)) and a space before the closing parenthesis
    ∷ refuses 15 7 (40 ∷ 50 ∷ 40 ∷ 35 ∷ 50 ∷ 41 ∷ 32 ∷ 32 ∷ 49 ∷ 40 ∷ 35 ∷ 49 ∷ 41 ∷ 41 ∷ [])
    ∷ refuses 15 1 (40 ∷ 41 ∷ [])
    ∷ refuses 15 2 (root_with (48 ∷ []))
    ∷ refuses 15 2 (root_with (48 ∷ 49 ∷ []))
    ∷ refuses 15 1 (40 ∷ 48 ∷ 40 ∷ 35 ∷ 49 ∷ 41 ∷ 41 ∷ [])
    ∷ refuses 15 7 (40 ∷ 50 ∷ 40 ∷ 35 ∷ 50 ∷ 41 ∷ 32 ∷ 41 ∷ [])
    -- a space or a threshold before the first parenthesis
    ∷ refuses 15 0 (32 ∷ example)
    ∷ refuses 15 0 (49 ∷ example)
    -- domains are numbered by opening parentheses, threads leaf by leaf: (1(2(#1) 3(#1)) 4(#2))
    ∷ gives 5 4 (0 ∷ 0 ∷ 1 ∷ 1 ∷ 0 ∷ replicate 59 0) (0 ∷ 1 ∷ 2 ∷ 3 ∷ 4 ∷ replicate 59 0) (2 ∷ 3 ∷ 4 ∷ 4 ∷ replicate 252 0)
    (40 ∷ 49 ∷ 40 ∷ 50 ∷ 40 ∷ 35 ∷ 49 ∷ 41 ∷ 32 ∷ 51 ∷ 40 ∷ 35 ∷ 49 ∷ 41 ∷ 41 ∷ 32 ∷ 52 ∷ 40 ∷ 35 ∷ 50 ∷ 41 ∷ 41 ∷ [])
    -- 64 and 65 domains
    ∷ gives 64 63 (replicate 64 0) (0 ∷ replicate 63 1) (counts_from 1 63 ++ replicate 193 0) (40 ∷ (children 62 ++ (41 ∷ [])))
    ∷ refuses 4 0 (40 ∷ (children 63 ++ (41 ∷ [])))
    -- 256 and 257 threads, and a count of 300 digits
    ∷ gives 1 256 (replicate 64 0) (replicate 64 0) (replicate 256 0) (root_with (50 ∷ 53 ∷ 54 ∷ []))
    ∷ refuses 5 0 (root_with (50 ∷ 53 ∷ 55 ∷ []))
    ∷ refuses 5 0 (root_with (replicate 300 57))
    -- 15 comes before 4, and 4 before 5
    ∷ refuses 4 0 (40 ∷ 49 ∷ 40 ∷ 35 ∷ 57 ∷ 57 ∷ 57 ∷ 41 ∷ 32 ∷ (children 63 ++ (41 ∷ [])))
    ∷ refuses 15 384 (40 ∷ children 63) ∷ []
