-- WHAT THE TEXT OF A TREE IS, independent of reading it: document 02, (i). Which bytes are the text of which tree, and the words of that tree.
use Rattle.std.specs.Prelude.{◌≡◌, List, [], ◌∷◌, ◌++◌, ℕ, suc, ◌+◌, ◌*◌, ◌-◌, ◌≤◌, length, replicate}
use Rattle.model.specs.declared.TreeWords.{TreeWords}

-- a tree is one or more domains, or a thread count; a domain is a threshold and a tree
mutual
  pub data Shape : Type 0 where
    leaf : (threads : ℕ) → Shape
    inner : Domains → Shape

  pub data Domains : Type 0 where
    last : (threshold : ℕ) → Shape → Domains
    more : (threshold : ℕ) → Shape → Domains → Domains

-- the value of decimal digits, given the value of those before them
unfoldable pub value_from : (value : ℕ) → (digits : List ℕ) → ℕ
value_from v [] = v
value_from v (b ∷ bs) = value_from (10 * v + (b - 48)) bs

-- a list of decimal digits
pub data Digits : List ℕ → Type 0 where
  no_digit : Digits []
  next_digit : {b : ℕ} {bs : List ℕ} → 48 ≤ b → b ≤ 57 → Digits bs → Digits (b ∷ bs)

-- a decimal number of at least 1, without leading zeros
pub data Numeral : (bytes : List ℕ) → (value : ℕ) → Type 0 where
  numeral : {b : ℕ} {bs : List ℕ} → 49 ≤ b → b ≤ 57 → Digits bs → Numeral (b ∷ bs) (value_from 0 (b ∷ bs))

-- the text of a tree with at most this many levels below it, and the text of its domains. The bytes are ( 40, ) 41, # 35 and space 32
mutual
  pub data TreeText : (levels : ℕ) → (bytes : List ℕ) → Shape → Type 0 where
    leaf_text : {k n : ℕ} {bytes xs : List ℕ} → bytes ≡ 40 ∷ 35 ∷ (xs ++ (41 ∷ [])) → Numeral xs n → TreeText k bytes (leaf n)
    inner_text :
        {k : ℕ} {bytes xs : List ℕ} {es : Domains} → bytes ≡ 40 ∷ (xs ++ (41 ∷ [])) → DomainsText k xs es →
        TreeText (suc k) bytes (inner es)

  pub data DomainsText : (levels : ℕ) → (bytes : List ℕ) → Domains → Type 0 where
    last_text :
        {k h : ℕ} {bytes xs ys : List ℕ} {t : Shape} → bytes ≡ xs ++ ys → Numeral xs h → h ≤ 65535 → TreeText k ys t →
        DomainsText k bytes (last h t)
    more_text :
        {k h : ℕ} {bytes xs ys zs : List ℕ} {t : Shape} {es : Domains} → bytes ≡ xs ++ (ys ++ (32 ∷ zs)) → Numeral xs h → h ≤ 65535 →
        TreeText k ys t → DomainsText k zs es → DomainsText k bytes (more h t es)

-- the text of a tree: the root is at level 1, the deepest level is 6
abbrev pub Text : (bytes : List ℕ) → Shape → Type 0
Text bytes t = TreeText 5 bytes t

-- the bytes are a text of the grammar
pub record SomeText (bytes : List ℕ) : Type 0 where
  pub shape : Shape
  pub text : Text bytes shape

-- the beginning of a text: the bytes can be continued, perhaps by none, to a text
pub record Beginning (bytes : List ℕ) : Type 0 where
  pub further : List ℕ
  pub some_text : SomeText (bytes ++ further)

-- domains and threads in the order of their numbers: the parents and thresholds of the domains, the homes of the threads
pub record Laid : Type 0 where
  pub parents : List ℕ
  pub thresholds : List ℕ
  pub homes : List ℕ

-- only the root, which has no parent and no threshold
unfoldable pub root_laid : Laid
root_laid = record { parents = 0 ∷ []; thresholds = 0 ∷ []; homes = [] }

-- one domain added
unfoldable pub domain_laid : Laid → (parent threshold : ℕ) → Laid
domain_laid l p h = record { parents = l.parents ++ (p ∷ []); thresholds = l.thresholds ++ (h ∷ []); homes = l.homes }

-- threads added, all with the same home
unfoldable pub threads_laid : Laid → (home count : ℕ) → Laid
threads_laid l d n = record { parents = l.parents; thresholds = l.thresholds; homes = l.homes ++ replicate n d }

-- domains are numbered by their opening parentheses, threads leaf by leaf: the number of each is how many come before it
unfoldable mutual
  pub tree_laid : Shape → (domain : ℕ) → Laid → Laid
  tree_laid (leaf n) d l = threads_laid l d n
  tree_laid (inner ds) d l = domains_laid ds d l

  pub domains_laid : Domains → (parent : ℕ) → Laid → Laid
  domains_laid (last h t) p l = tree_laid t (length l.parents) (domain_laid l p h)
  domains_laid (more h t ds) p l = domains_laid ds p (tree_laid t (length l.parents) (domain_laid l p h))

-- the domains and threads of a tree
unfoldable pub laid_out : Shape → Laid
laid_out t = tree_laid t 0 root_laid

-- how many domains a tree has
abbrev pub domains_in : Shape → ℕ
domains_in t = length (laid_out t).parents

-- how many threads a tree has
abbrev pub threads_in : Shape → ℕ
threads_in t = length (laid_out t).homes

-- words at the front of an array of a given length, and 0 after them
abbrev pub in_room : (room : ℕ) → (words : List ℕ) → List ℕ
in_room room ws = ws ++ replicate (room - length ws) 0

-- the words of a tree
unfoldable pub words_of : Shape → TreeWords
words_of t =
    record {
      domains = domains_in t;
      threads = threads_in t;
      parents = in_room 64 (laid_out t).parents;
      thresholds = in_room 64 (laid_out t).thresholds;
      homes = in_room 256 (laid_out t).homes;
      ticket_root = 0;
    }
