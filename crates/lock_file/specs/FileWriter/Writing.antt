-- Document 02, (v): the lock file of a tree and a schedule. A bit is set only if the value differs from the default of an absent field.
use Rattle.std.specs.Prelude.{cond, List, [], ◌∷◌, ◌++◌, ℕ, zero, suc, ◌+◌, ◌-◌, ◌/◌, ◌%◌, eqb}
use Rattle.model.specs.Trees.{Tree}

-- a number in two bytes, low byte first
abbrev pub low_first_bytes : (value : ℕ) → List ℕ
low_first_bytes v = v % 256 ∷ v / 256 ∷ []

-- THE DEFAULTS of absent fields. The parent is 0
abbrev pub absent_parent : ℕ
absent_parent = 0

-- the threshold is 16
abbrev pub absent_threshold : ℕ
absent_threshold = 16

-- the home is that of the thread before
abbrev pub absent_home : (before : ℕ) → ℕ
absent_home b = b

-- a domain's entry: bit 0 for a parent, bit 1 for a threshold, each only if the value is not the default
unfoldable pub written_domain : (parent threshold : ℕ) → List ℕ
written_domain p h =
    cond (eqb p absent_parent) (cond (eqb h absent_threshold) (0 ∷ []) (2 ∷ low_first_bytes h))
    (cond (eqb h absent_threshold) (1 ∷ p ∷ []) (3 ∷ p ∷ low_first_bytes h))

-- the entries of `left` domains, starting at a given one
unfoldable pub written_domains : (parent threshold : ℕ → ℕ) → (left domain : ℕ) → List ℕ
written_domains parent threshold zero d = []
written_domains parent threshold (suc k) d = written_domain (parent d) (threshold d) ++ written_domains parent threshold k (d + 1)

-- a thread's entry: bit 0 for a home, only if it is not the default
unfoldable pub written_thread : (before home : ℕ) → List ℕ
written_thread b h = cond (eqb h (absent_home b)) (0 ∷ []) (1 ∷ h ∷ [])

-- the entries of `left` threads, starting at a given one; the home before it is given
unfoldable pub written_threads : (home : ℕ → ℕ) → (left thread before : ℕ) → List ℕ
written_threads home zero i b = []
written_threads home (suc k) i b = written_thread b (home i) ++ written_threads home k (i + 1) (home i)

-- two bytes per schedule entry
unfoldable pub written_schedule : (schedule : List ℕ) → List ℕ
written_schedule [] = []
written_schedule (i ∷ is) = low_first_bytes i ++ written_schedule is

-- D, and 128 more for a ticket root
unfoldable pub first_byte : Tree → ℕ
first_byte t = t.domains + cond t.ticket_root 128 0

-- the entries of the domains 1 to D − 1
abbrev pub domains_of : Tree → List ℕ
domains_of t = written_domains t.parent t.threshold (t.domains - 1) 1

-- the entries of the threads 0 to T − 1; the home before the first is 0
abbrev pub threads_of : Tree → List ℕ
threads_of t = written_threads t.home t.threads 0 0

-- the tree: the first byte, the domains, T in two bytes, the threads
unfoldable pub written_tree : Tree → List ℕ
written_tree t = first_byte t ∷ (domains_of t ++ (low_first_bytes t.threads ++ threads_of t))

-- the whole file
unfoldable pub written_file : Tree → (schedule : List ℕ) → List ℕ
written_file t is = written_tree t ++ written_schedule is
