-- Document 02, (x): when a chain is refused, and what the call answers.
use Rattle.std.specs.Prelude.{Bool, cond, List, [], ◌∷◌, ◌++◌, ℕ, eqb, ltb, length, drop}
use Rattle.model.specs.declared.State.{State}
use Rattle.model.specs.declared.LockState.{LockState}
use Rattle.model.specs.declared.TreeWords.{TreeWords}
use Rattle.model.specs.Trees.{Tree, tree_of}
use Rattle.model.specs.Refusals.{Refusal, Test, test, first_refusal, step_tests_before_19}
use Rattle.chain.specs.declared.ChainReply.{ChainReply}
use Rattle.chain.specs.Chain.{chain}

-- 20: the chain buffer has fewer elements than the tree has threads
unfoldable pub bad_buffer : Tree → (room : ℕ) → ℕ → Bool
bad_buffer t room p = ltb room t.threads

-- 21: a thread on the chain looks to none or to several, or the chain returns to a thread already on it
unfoldable pub bad_chain : Tree → State → (thread : ℕ) → ℕ → Bool
bad_chain t s i p = eqb (length (chain t s i)) 0

-- the tests of a chain: 4 to 9, 16 and 10, then 12 for its thread, as for a step, then 20 and 21; not 19, since it takes no step
unfoldable pub chain_tests : Tree → LockState → (thread room : ℕ) → List Test
chain_tests t s i room = step_tests_before_19 t s i ++ (test 20 1 (bad_buffer t room) ∷ test 21 1 (bad_chain t s.words i) ∷ [])

-- the refusal of a chain
unfoldable pub chain_refusal : Tree → LockState → (thread room : ℕ) → Refusal
chain_refusal t s i room = first_refusal (chain_tests t s i room)

-- the reply, given the refusal and the chain: if refused, the length is 0
unfoldable pub chain_reply : Refusal → (chain : List ℕ) → ChainReply
chain_reply r c = record { number = r.number; place = r.place; length = cond (eqb r.number 0) (length c) 0 }

-- the buffer after the call: the chain at the front, the rest unchanged; if refused, all of it unchanged
unfoldable pub chain_buffer : Refusal → (chain buffer : List ℕ) → List ℕ
chain_buffer r c b = cond (eqb r.number 0) (c ++ drop (length c) b) b

-- what the call answers
unfoldable pub chain_answer : TreeWords → LockState → (thread : ℕ) → (buffer : List ℕ) → ChainReply
chain_answer w s i b = chain_reply (chain_refusal (tree_of w) s i (length b)) (chain (tree_of w) s.words i)

-- what the call leaves in the buffer
unfoldable pub buffer_answer : TreeWords → LockState → (thread : ℕ) → (buffer : List ℕ) → List ℕ
buffer_answer w s i b = chain_buffer (chain_refusal (tree_of w) s i (length b)) (chain (tree_of w) s.words i) b
