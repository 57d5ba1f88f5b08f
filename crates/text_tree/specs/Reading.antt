-- Reading a text byte by byte, from left to right.
use Rattle.std.specs.Prelude.{Bool, ◌&&◌, cond, List, [], ◌∷◌, ℕ, ◌+◌, ◌*◌, ◌-◌, ltb, leb, eqb, length}
use Rattle.model.specs.declared.TreeWords.{TreeWords}
use Rattle.text_tree.specs.Words.{least, root_words, new_number, domain_added, threads_added}

-- where the reader is: the innermost open domain, the open domains above it from the inside out, the position, and the tree read so far
pub data Position : Type 0 where
  -- nothing is read yet
  at_start : Position
  -- after an opening parenthesis
  opened : (domain : ℕ) → (above : List ℕ) → (at : ℕ) → TreeWords → Position
  -- after `#`
  count_due : (domain : ℕ) → (above : List ℕ) → (at : ℕ) → TreeWords → Position
  -- in a thread count
  in_count : (count domain : ℕ) → (above : List ℕ) → (at : ℕ) → TreeWords → Position
  -- a domain must follow
  domain_due : (domain : ℕ) → (above : List ℕ) → (at : ℕ) → TreeWords → Position
  -- in a threshold
  in_threshold : (threshold domain : ℕ) → (above : List ℕ) → (at : ℕ) → TreeWords → Position
  -- after a closing parenthesis
  closed : (above : List ℕ) → (at : ℕ) → TreeWords → Position

-- the result of one byte: no text continues with the byte at this place, or the next position
pub data Moved : Type 0 where
  stuck : (place : ℕ) → Moved
  to : Position → Moved

-- the byte is a digit
abbrev pub is_digit : (byte : ℕ) → Bool
is_digit b = leb 48 b && ltb b 58

-- the byte is a digit other than 0
abbrev pub is_first_digit : (byte : ℕ) → Bool
is_first_digit b = leb 49 b && ltb b 58

-- a number with one more digit
abbrev pub grown : (number byte : ℕ) → ℕ
grown n b = 10 * n + (b - 48)

-- a threshold with one more digit is still at most 65,535
abbrev pub grows : (threshold byte : ℕ) → Bool
grows h b = is_digit b && ltb (grown h b) 65536

-- the first byte of a threshold
abbrev pub threshold_begun : (domain : ℕ) → (above : List ℕ) → (at : ℕ) → TreeWords → (byte : ℕ) → Moved
threshold_begun d ds p w b = cond (is_first_digit b) (to (in_threshold (b - 48) d ds (p + 1) w)) (stuck p)

-- the byte after an opening parenthesis; at level 6 it can only be `#`
abbrev pub list_begun : (domain : ℕ) → (above : List ℕ) → (at : ℕ) → TreeWords → (byte : ℕ) → Moved
list_begun d ds p w b = cond (ltb (length ds) 5) (threshold_begun d ds p w b) (stuck p)

-- one byte read at a position
unfoldable pub move : Position → (byte : ℕ) → Moved
move at_start b = cond (eqb b 40) (to (opened 0 [] 1 root_words)) (stuck 0)
move (opened d ds p w) b = cond (eqb b 35) (to (count_due d ds (p + 1) w)) (list_begun d ds p w b)
move (count_due d ds p w) b = cond (is_first_digit b) (to (in_count (b - 48) d ds (p + 1) w)) (stuck p)
move (in_count n d ds p w) b =
    cond (is_digit b) (to (in_count (least 257 (grown n b)) d ds (p + 1) w))
    (cond (eqb b 41) (to (closed ds (p + 1) (threads_added w d n))) (stuck p))
move (domain_due d ds p w) b = threshold_begun d ds p w b
move (in_threshold h d ds p w) b =
    cond (grows h b) (to (in_threshold (grown h b) d ds (p + 1) w))
    (cond (eqb b 40) (to (opened (new_number w.domains) (d ∷ ds) (p + 1) (domain_added w d h))) (stuck p))
move (closed [] p w) b = stuck p
move (closed (d ∷ ds) p w) b =
    cond (eqb b 32) (to (domain_due d ds (p + 1) w)) (cond (eqb b 41) (to (closed ds (p + 1) w)) (stuck p))

-- the result for a text: it leaves the grammar at a place, or it is read whole
pub data Outcome : Type 0 where
  leaves : (place : ℕ) → Outcome
  whole : TreeWords → Outcome

-- the end of the text: too early, unless every parenthesis is closed
unfoldable pub ended : Position → Outcome
ended at_start = leaves 0
ended (opened d ds p w) = leaves p
ended (count_due d ds p w) = leaves p
ended (in_count n d ds p w) = leaves p
ended (domain_due d ds p w) = leaves p
ended (in_threshold h d ds p w) = leaves p
ended (closed [] p w) = whole w
ended (closed (d ∷ ds) p w) = leaves p

-- the remaining bytes, read from a position
unfoldable pub read_on : (bytes : List ℕ) → Moved → Outcome
read_on [] (stuck p) = leaves p
read_on [] (to q) = ended q
read_on (b ∷ bs) (stuck p) = leaves p
read_on (b ∷ bs) (to q) = read_on bs (move q b)

-- the result of reading a text
unfoldable pub text_read : (bytes : List ℕ) → Outcome
text_read bs = read_on bs (to at_start)
