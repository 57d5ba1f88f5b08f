-- THE LAWS OF THE LOCK FILE. These are statements; their proofs are in proofs/.
use Rattle.std.specs.Prelude.{◌≡◌, List, ◌++◌, ◌⊎◌, ℕ, ◌+◌, ◌<◌, length, take, get_or}
use Rattle.model.specs.declared.TreeWords.{TreeWords}
use Rattle.model.specs.Refusals.{Refusal, refusal}
use Rattle.model.specs.Laws.{◌⟺◌}
use Rattle.lock_file.specs.Reading.{refused, described, file_read}
use Rattle.lock_file.specs.Format.{Describes}

-- 1. FORMAT. Reading accepts a file, with a tree and a schedule, exactly if the file describes them
unfoldable pub FormatLaw : Type 0
FormatLaw =
    (bytes : List ℕ) (w : TreeWords) (schedule : List ℕ) → (file_read bytes ≡ described w schedule) ⟺ Describes bytes w schedule

-- 2. REFUSALS OF READING. A lock file: the bytes describe some tree and some schedule
pub record LockFile (bytes : List ℕ) : Type 0 where
  pub tree : TreeWords
  pub schedule : List ℕ
  pub describes : Describes bytes tree schedule

-- the beginning of a lock file: the bytes can be continued, perhaps by none, to a lock file. Lock files above 65,536 bytes count too
pub record Beginning (bytes : List ℕ) : Type 0 where
  pub more : List ℕ
  pub more_bytes : (k : ℕ) → k < length more → get_or more k 0 < 256
  pub lock_file : LockFile (bytes ++ more)

-- when reading refuses
pub record ReadingRefusesExactly (bytes : List ℕ) : Type 0 where
  -- 2: the file ends too early, and no bit map before its end is bad: it is not a lock file, but the beginning of one; the place is its length
  pub ended : (p : ℕ) → (file_read bytes ≡ refused (refusal 2 p)) ⟺ ((p ≡ length bytes) × (¬ LockFile bytes) × Beginning bytes)
  -- 3: the bytes before the place are the beginning of a lock file; with the byte at the place they are not (in Format every byte except a bit map may have any value)
  pub bad_map :
      (p : ℕ) →
      (file_read bytes ≡ refused (refusal 3 p))
      ⟺ ((p < length bytes) × Beginning (take p bytes) × (¬ Beginning (take (p + 1) bytes)))
  -- reading refuses by no other number
  pub no_other : (r : Refusal) → file_read bytes ≡ refused r → (r.number ≡ 2) ⊎ (r.number ≡ 3)

-- for every file
unfoldable pub ReadingRefusalLaw : Type 0
ReadingRefusalLaw = (bytes : List ℕ) → ReadingRefusesExactly bytes
