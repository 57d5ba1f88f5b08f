-- From fresh, every schedule leads to a state that represents queues, and its steps correspond to a run of moves.
use mathlib.Core.Path.{◌≡◌, refl, sym, ◌∙◌}
use mathlib.Core.List.{List, [], ◌∷◌, ◌++◌}
use Prim.Native.Nat.{ℕ, zero, suc, ◌<◌}
use native.Mathlib.Omega.{arith}
use lib.ListN.{take, get_or, replicate}
use Rattle.model.specs.declared.State.{State as WordState}
use Rattle.model.specs.Trees.{Tree}
use Rattle.model.specs.Places.{place_domain}
use Rattle.model.specs.States.{place, fresh_words, fresh_state}
use Rattle.model.specs.Steps.{Step, row, step}
use Rattle.model.specs.Runs.{steps, state_after, run_of, run}
use Rattle.model.specs.Laws.{AllThreads, SixteenBit, FromFresh}
use Rattle.model.proofs.Trees.Accepted.{Accepted, accepted}
use Rattle.model.proofs.Laws.Facts.{Facts}
use Rattle.model.proofs.Laws.Form.{replicate_all, fresh_facts, step_keeps}
use Rattle.model.proofs.Lists.{count_nil}
use Rattle.model.proofs.Places.{fresh_idle}
use Rattle.claims.proofs.Queues.Moves.{State, Event, empty, Run, done}
use Rattle.claims.proofs.Queues.Changes.{change_run}
use Rattle.claims.proofs.Queues.Invariant.{inv_empty}
use Rattle.claims.proofs.Queues.Order.{join_runs}
use Rattle.claims.proofs.Words.Links.{final_nil}
use Rattle.claims.proofs.Words.View.{words_in, Room}
use Rattle.claims.proofs.Words.Represents.{Tickets, at_idle, Represents}
use Rattle.claims.proofs.Words.Outcome.{row_shown, shown, Outcome}
use Rattle.claims.proofs.Words.Steps.{step_outcome}

-- what a list of steps shows, in order
unfoldable pub all_shown : List Step → List Event
all_shown [] = []
all_shown (x ∷ xs) = shown x ++ all_shown xs

-- a state with the queues that it represents
pub record Queued (t : Tree) (s : WordState) : Type 0 where
  pub queues : State
  pub room : Room s
  pub facts : Facts t s
  pub represents : Represents t (words_in s) queues

-- FRESH represents empty queues
fresh_room : (t : Tree) (v : ℕ) → Room (fresh_state t v)
fresh_room t v =
    let f = (fresh_facts t v).typed in
    record { tails_room = f.tails_room; nexts_room = f.nexts_room; statuses_room = f.statuses_room; places_room = f.places_room }

pub fresh_queued : (t : Tree) (v : ℕ) → Queued t (fresh_state t v)
unfolding empty words_in fresh_words fresh_state Tickets
fresh_queued t v =
    let zero_at : (n j : ℕ) → ◌≡◌ {A = ℕ} (get_or (replicate n 0) j 0) 0 = λ n j. replicate_all (λ (x : ℕ). x ≡ 0) n j 0 refl in
    record {
      queues = empty;
      room = fresh_room t v;
      facts = fresh_facts t v;
      represents = record {
        invariant = inv_empty t;
        linked = λ d nd. record { last = zero_at 64 d ∙ sym final_nil; chain = λ a m n. absurd (omega (arith, count_nil a)) };
        numbered = λ e. record { small = (fresh_facts t v).typed.grant_fits; held = refl };
        fits = λ i h. rw (fresh_idle t v i) at_idle;
      };
    }

-- ALONG A SCHEDULE
-- every step is one of a thread of the tree
unfoldable pub AllReal : Tree → List Step → Type 0
AllReal t [] = Unit {0}
AllReal t (x ∷ xs) = (x.thread < t.threads) × AllReal t xs

pub record Led (t : Tree) (s : WordState) (g : State) (xs : List Step) : Type 0 where
  pub real : AllReal t xs
  pub there : Queued t (state_after s xs)
  pub follows : Run t g (all_shown xs) there.queues

module _ (t : Tree) (valid : Accepted t) (bits : SixteenBit t) where
  -- a step of a thread: its moves, and the queues after it
  pub outcome_at : (s : WordState) (q : Queued t s) (i : ℕ) → i < t.threads → Outcome t q.queues i (place_domain (t.home i) (place s i)) (place s i) (row t i (place s i) s)
  outcome_at s q i h = step_outcome t valid bits s q.room q.queues q.represents (λ j b. (q.facts.places j).used b) i h

  unfoldable pub queued_after : (s : WordState) (q : Queued t s) (i : ℕ) → i < t.threads → Queued t (step t i s).state
  unfolding step
  queued_after s q i h =
      let x = outcome_at s q i h in
      record { queues = x.state; room = x.room; facts = step_keeps t bits valid i h s q.facts; represents = x.represents }

  pub led : (is : List ℕ) → AllThreads t is → (s : WordState) (q : Queued t s) → Led t s q.queues (steps t is s)
  unfolding steps state_after step shown row_shown all_shown AllThreads AllReal queued_after
  led [] l s q = record { real = tt; there = q; follows = done }
  led (i ∷ is) l s q =
      let x = outcome_at s q i l.0 in
      let rest = led is l.1 (step t i s).state (queued_after s q i l.0) in
      record { real = (l.0, rest.real); there = rest.there; follows = join_runs t (rw x.shows at (change_run t x.change)) rest.follows }

  pub from_fresh : (v : ℕ) (is : List ℕ) → AllThreads t is → Led t (fresh_state t v) empty (steps t is (fresh_state t v))
  unfolding fresh_queued
  from_fresh v is l = led is l (fresh_state t v) (fresh_queued t v)

-- every state from fresh represents queues
pub queued_from_fresh : (t : Tree) (s : WordState) → FromFresh t s → Queued t s
unfolding run run_of
queued_from_fresh t s f =
    let k = f.fresh_run in
    rw f.reached (from_fresh t (accepted t k.tree_accepted) k.sixteen_bit f.start f.schedule k.threads).there

pub threads_take : (t : Tree) (k : ℕ) (is : List ℕ) → AllThreads t is → AllThreads t (take k is)
unfolding AllThreads
threads_take t zero is l = tt
threads_take t (suc k) [] l = tt
threads_take t (suc k) (i ∷ is) l = (l.0, threads_take t k is l.1)

pub threads_join : (t : Tree) (is js : List ℕ) → AllThreads t is → AllThreads t js → AllThreads t (is ++ js)
unfolding AllThreads
threads_join t [] js a b = b
threads_join t (i ∷ is) js a b = (a.0, threads_join t is js a.1 b)
