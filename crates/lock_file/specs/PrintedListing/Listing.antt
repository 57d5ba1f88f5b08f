-- Document 01, "Program and host": decimal numerals, the listing and the refusal line.
use Rattle.std.specs.Prelude.{cond, List, [], ◌∷◌, ◌++◌, ℕ, zero, suc, ◌+◌, ◌/◌, ◌%◌, ltb, length, drop, Option, Some, None}
use Rattle.model.specs.declared.Counts.{Counts}

-- the byte of a decimal digit
abbrev pub digit : ℕ → ℕ
digit d = 48 + d

-- the decimal digits of a value, the last one after those of the quotient; the value itself is enough fuel
unfoldable pub digits : (fuel value : ℕ) → List ℕ
digits zero v = digit v ∷ []
digits (suc k) v = let others = digits k (v / 10) in cond (ltb v 10) (digit v ∷ []) (others ++ (digit (v % 10) ∷ []))

-- the decimal numeral of a value
unfoldable pub numeral : ℕ → List ℕ
numeral v = digits v v

-- a space
abbrev pub space : ℕ
space = 32

-- a line feed
abbrev pub line_feed : ℕ
line_feed = 10

-- a numeral and one byte after it
unfoldable pub number_then : (value following : ℕ) → List ℕ
number_then v b = numeral v ++ (b ∷ [])

-- one line per trace element
unfoldable pub trace_lines : (trace : List ℕ) → List ℕ
trace_lines [] = []
trace_lines (i ∷ is) = number_then i line_feed ++ trace_lines is

-- numbers, each after a space, and a line feed at the end
unfoldable pub spaced : (numbers : List ℕ) → List ℕ
spaced [] = line_feed ∷ []
spaced (n ∷ ns) = (space ∷ numeral n) ++ spaced ns

-- the numbers of the first line: steps, entries, stays, root, passed and crossed entries
abbrev pub count_numbers : Counts → List ℕ
count_numbers c = c.steps ∷ c.entries ∷ c.stays ∷ c.root ∷ c.passed ∷ c.crossed ∷ []

-- "ok" and the counts
unfoldable pub first_line : Counts → List ℕ
first_line c = (111 ∷ 107 ∷ []) ++ spaced (count_numbers c)

-- the listing of an accepted run: its counts, then its trace
unfoldable pub listing : Counts → (trace : List ℕ) → List ℕ
listing c trace = first_line c ++ trace_lines trace

-- "refused", number and place
unfoldable pub refusal_line : (number place : ℕ) → List ℕ
refusal_line n p = (114 ∷ 101 ∷ 102 ∷ 117 ∷ 115 ∷ 101 ∷ 100 ∷ []) ++ spaced (n ∷ p ∷ [])

-- the buffer with a text at its front and the rest unchanged; a buffer shorter than the text is unchanged
unfoldable pub printed : (text buffer : List ℕ) → List ℕ
printed ls b = cond (ltb (length b) (length ls)) b (ls ++ drop (length ls) b)

-- how many bytes are printed: none if the buffer is shorter than the text
unfoldable pub printed_length : (text : List ℕ) → (room : ℕ) → ℕ
printed_length ls room = cond (ltb room (length ls)) 0 (length ls)

-- the length of a text, or nothing if the buffer is shorter than the text
unfoldable pub fitted : (text : List ℕ) → (room : ℕ) → Option ℕ
fitted ls room = cond (ltb room (length ls)) None (Some (length ls))
