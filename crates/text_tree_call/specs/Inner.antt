-- What the functions inside the reader promise: the rest of the text gives the same result from where they stop as from where they start.
use Rattle.std.specs.Prelude.{◌≡◌, ◌≢◌, true, false, List, ◌∷◌, ℕ, ◌+◌, ◌-◌, ◌≤◌, length, drop, get_or, Result, Ok, Err}
use Rattle.model.specs.declared.TreeWords.{TreeWords}
use Rattle.text_tree_call.specs.declared.Stuck.{Stuck}
use Rattle.text_tree.specs.Words.{new_number}
use Rattle.text_tree.specs.Reading.{is_digit, is_first_digit, grows, Position, opened, count_due, in_count, domain_due, in_threshold, closed, to, Outcome, leaves, whole, read_on, text_read}

-- the result of a text from a position on
unfoldable pub from : (bytes : List ℕ) → (at : ℕ) → Position → Outcome
from bs at q = read_on (drop at bs) (to q)

-- the position after a byte, if this byte is there
abbrev pub Passed : (bytes : List ℕ) → (at byte : ℕ) → Result ℕ Stuck → Type 0
Passed bs at b (Ok end) = (get_or bs at 0 ≡ b) × (end ≡ at + 1)
Passed bs at b (Err p) = (get_or bs at 0 ≢ b) × (p.0 ≡ at)

-- NUMBERS. A digit other than 0 has its value; without one, no text continues
abbrev pub FirstDigit : (bytes : List ℕ) → (at : ℕ) → Result ℕ Stuck → Type 0
FirstDigit bs at (Ok n) = (is_first_digit (get_or bs at 0) ≡ true) × (n ≡ get_or bs at 0 - 48)
FirstDigit bs at (Err p) = (is_first_digit (get_or bs at 0) ≡ false) × (p.0 ≡ at)

-- the result after a thread count
abbrev pub counted : (bytes : List ℕ) → (domain : ℕ) → (above : List ℕ) → TreeWords → Result (ℕ × ℕ) Stuck → Outcome
counted bs d ds w (Ok r) = from bs r.0 (in_count r.1 d ds r.0 w)
counted bs d ds w (Err p) = leaves p.0

-- the result after a threshold
abbrev pub measured : (bytes : List ℕ) → (domain : ℕ) → (above : List ℕ) → TreeWords → Result (ℕ × ℕ) Stuck → Outcome
measured bs d ds w (Ok r) = from bs r.0 (in_threshold r.1 d ds r.0 w)
measured bs d ds w (Err p) = leaves p.0

-- a count ends no earlier than it starts, at the first byte that is no digit
abbrev pub CountStopped : (bytes : List ℕ) → (at : ℕ) → Result (ℕ × ℕ) Stuck → Type 0
CountStopped bs at (Ok r) = (at ≤ r.0) × (is_digit (get_or bs r.0 0) ≡ false)
CountStopped bs at (Err p) = Unit

-- a threshold ends no earlier than it starts, at the first byte that does not continue it
abbrev pub ThresholdStopped : (bytes : List ℕ) → (at : ℕ) → Result (ℕ × ℕ) Stuck → Type 0
ThresholdStopped bs at (Ok r) = (at ≤ r.0) × (grows r.1 (get_or bs r.0 0) ≡ false)
ThresholdStopped bs at (Err p) = Unit

-- a count is read
pub record CountRead (bytes : List ℕ) (at : ℕ) (r : Result (ℕ × ℕ) Stuck) : Type 0 where
  pub same : (d : ℕ) (ds : List ℕ) (w : TreeWords) → from bytes at (count_due d ds at w) ≡ counted bytes d ds w r
  pub stopped : CountStopped bytes at r

-- a threshold is read
pub record ThresholdRead (bytes : List ℕ) (at : ℕ) (r : Result (ℕ × ℕ) Stuck) : Type 0 where
  pub same : (d : ℕ) (ds : List ℕ) (w : TreeWords) → from bytes at (domain_due d ds at w) ≡ measured bytes d ds w r
  pub stopped : ThresholdStopped bytes at r

-- DOMAINS. The result after a domain, given those above it
abbrev pub resumed : (bytes : List ℕ) → (above : List ℕ) → TreeWords → Result ℕ Stuck → Outcome
resumed bs ds w (Ok end) = from bs end (closed ds end w)
resumed bs ds w (Err p) = leaves p.0

-- a reading ends no earlier than it starts, and within the text
abbrev pub Within : (bytes : List ℕ) → (at : ℕ) → Result ℕ Stuck → Type 0
Within bs at (Ok end) = (at ≤ end) × (end ≤ length bs)
Within bs at (Err p) = Unit

-- the thread count of a leaf is read; `w` is the tree before, `v` the tree after
pub record LeafRead (bytes : List ℕ) (at : ℕ) (w : TreeWords) (domain : ℕ) (r : Result ℕ Stuck) (v : TreeWords) : Type 0 where
  pub same : (ds : List ℕ) → from bytes at (count_due domain ds at w) ≡ resumed bytes ds v r
  pub within : Within bytes at r

-- the result after the opening parenthesis of a domain
abbrev pub inside : (bytes : List ℕ) → (number parent : ℕ) → (above : List ℕ) → TreeWords → Result ℕ Stuck → Outcome
inside bs n p ds w (Ok end) = from bs end (opened n (p ∷ ds) end w)
inside bs n p ds w (Err q) = leaves q.0

-- a threshold and an opening parenthesis are read
pub record Begun (bytes : List ℕ) (at : ℕ) (w : TreeWords) (parent : ℕ) (r : Result ℕ Stuck) (v : TreeWords) : Type 0 where
  pub same : (ds : List ℕ) → from bytes at (domain_due parent ds at w) ≡ inside bytes (new_number w.domains) parent ds v r
  pub within : Within bytes at r

-- a domain is read from its opening parenthesis. There are six levels: those above the domain and those left below it
pub record DomainRead (bytes : List ℕ) (at : ℕ) (w : TreeWords) (domain left : ℕ) (r : Result ℕ Stuck) (v : TreeWords) : Type 0 where
  pub same : (ds : List ℕ) → length ds + left ≡ 5 → from bytes at (opened domain ds at w) ≡ resumed bytes ds v r
  pub within : Within bytes at r

-- the rest of a list of domains is read
pub record ListRead (bytes : List ℕ) (at : ℕ) (w : TreeWords) (domain left : ℕ) (r : Result ℕ Stuck) (v : TreeWords) : Type 0 where
  pub same : (ds : List ℕ) → length ds + left ≡ 4 → from bytes at (domain_due domain ds at w) ≡ resumed bytes ds v r
  pub within : Within bytes at r

-- what the whole text gives: the tree, or the place where no text continues
abbrev pub outcome : Result TreeWords Stuck → Outcome
outcome (Ok w) = whole w
outcome (Err p) = leaves p.0

-- the whole text is read
abbrev pub RootRead : (bytes : List ℕ) → Result TreeWords Stuck → Type 0
RootRead bs r = text_read bs ≡ outcome r
