-- THE LAWS OF NUMERALS AND OF A LISTING'S LENGTH. Their proofs are in proofs/.
use Rattle.std.specs.Prelude.{◌≡◌, List, [], ◌∷◌, ◌≢◌, ℕ, ◌+◌, ◌*◌, ◌-◌, ◌≤◌, ◌<◌, length, get_or}
use Rattle.model.specs.declared.Counts.{Counts}
use Rattle.lock_file.specs.PrintedListing.Listing.{numeral, listing}

-- the value of decimal digits, given the value of those before them
unfoldable pub value_from : (value : ℕ) → (digits : List ℕ) → ℕ
value_from v [] = v
value_from v (b ∷ bs) = value_from (10 * v + (b - 48)) bs

-- a numeral consists of digits, has at least one, reads back as its value, and starts with 0 only if it is the numeral of 0
pub record Decimal (v : ℕ) (bytes : List ℕ) : Type 0 where
  pub not_empty : 0 < length bytes
  pub reads_back : value_from 0 bytes ≡ v
  pub digits_only : (k : ℕ) → k < length bytes → (48 ≤ get_or bytes k 0) × (get_or bytes k 0 ≤ 57)
  pub no_leading_zero : v ≢ 0 → get_or bytes 0 0 ≢ 48

-- for every value
unfoldable pub NumeralLaw : Type 0
NumeralLaw = (v : ℕ) → Decimal v (numeral v)

-- for a value above 0 there is only one such numeral
unfoldable pub OneNumeralLaw : Type 0
OneNumeralLaw = (v : ℕ) (bytes : List ℕ) → v ≢ 0 → Decimal v bytes → bytes ≡ numeral v

-- counts of at most five digits
pub record FiveDigits (c : Counts) : Type 0 where
  pub steps : c.steps < 100000
  pub entries : c.entries < 100000
  pub stays : c.stays < 100000
  pub root : c.root < 100000
  pub passed : c.passed < 100000
  pub crossed : c.crossed < 100000

-- the length of a listing with such counts and with threads of at most three digits: 39 bytes for the first line, 4 for each entering thread
unfoldable pub LengthLaw : Type 0
LengthLaw = (c : Counts) (trace : List ℕ) → FiveDigits c → ((k : ℕ) → get_or trace k 0 < 1000) → length (listing c trace) ≤ 39 + 4 * length trace
