-- WHAT A JOURNAL IS, independent of reading it: document 02, (xiv). Which bytes are the entries of which threads and kinds.
use Rattle.std.specs.Prelude.{◌≡◌, List, [], ◌∷◌, ◌++◌, ℕ, ◌+◌, ◌*◌}

-- what an entry names: the thread that took a step, and the number of the step's kind
pub record NamedStep : Type 0 where
  pub thread : ℕ
  pub kind : ℕ

-- a named step with these parts
unfoldable pub named : (thread kind : ℕ) → NamedStep
named i k = record { thread = i; kind = k }

-- the bytes of one entry: a bit map, and then the fields whose bit is set. Bit 0 is for the thread, two bytes, low byte first; without it, the thread is that of the entry before. Bit 1 is for the kind, one byte; without it, the kind is 0
pub data EntryBytes (before : ℕ) : (bytes : List ℕ) → NamedStep → Type 0 where
  neither : EntryBytes before (0 ∷ []) (named before 0)
  thread_given : (low high : ℕ) → EntryBytes before (1 ∷ low ∷ high ∷ []) (named (low + 256 * high) 0)
  kind_given : (kind : ℕ) → EntryBytes before (2 ∷ kind ∷ []) (named before kind)
  both_given : (low high kind : ℕ) → EntryBytes before (3 ∷ low ∷ high ∷ kind ∷ []) (named (low + 256 * high) kind)

-- consecutive entries: the thread of each is the default of the next
pub data Entries : (before : ℕ) → (bytes : List ℕ) → List NamedStep → Type 0 where
  no_entry : {before : ℕ} → Entries before [] []
  next_entry :
      {before : ℕ} {front rest bytes : List ℕ} {x : NamedStep} {xs : List NamedStep} → bytes ≡ front ++ rest → EntryBytes before front x →
      Entries x.thread rest xs → Entries before bytes (x ∷ xs)

-- a journal: the default thread of the first entry is 0
abbrev pub Journal : (bytes : List ℕ) → List NamedStep → Type 0
Journal bytes xs = Entries 0 bytes xs

-- the threads of named steps
unfoldable pub threads_of : List NamedStep → List ℕ
threads_of [] = []
threads_of (x ∷ xs) = x.thread ∷ threads_of xs

-- the kinds of named steps
unfoldable pub kinds_of : List NamedStep → List ℕ
kinds_of [] = []
kinds_of (x ∷ xs) = x.kind ∷ kinds_of xs

-- the default thread after named steps
unfoldable pub last_thread : (before : ℕ) → List NamedStep → ℕ
last_thread b [] = b
last_thread b (x ∷ xs) = last_thread x.thread xs
