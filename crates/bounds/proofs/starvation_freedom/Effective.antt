-- The tree with effective thresholds is accepted too, and has the same paths and moves. So what is left of a tenure is at most the passes.
use mathlib.Core.Path.{◌≡◌, refl, sym, ap, ◌∙◌}
use mathlib.Core.Bool.{Bool, true, false, cond}
use mathlib.Core.List.{List, ◌∷◌}
use Prim.Native.Nat.{ℕ, zero, suc, ◌+◌, ◌≤◌, ◌<◌}
use native.Mathlib.Omega.{arith}
use lib.Dec.{eqb, ltb}
use lib.ListN.{length}
use borrow.Author.Tests.{lt-ltb}
use Rattle.model.specs.Trees.{Tree, is_child, is_leaf, depth_from, depth, level}
use Rattle.model.proofs.Trees.Index.{above, ancestor, height, record_at}
use Rattle.model.proofs.Trees.Accepted.{Accepted}
use Rattle.claims.proofs.Queues.Paths.{Laws, laws}
use Rattle.claims.proofs.Queues.Moves.{inside, holding, pending, acts, State, Event, root, lower, Last, Move, start, join_empty, join_root, join_after, enter, leave, hand_on, release, let_go}
use Rattle.claims.proofs.Queues.Invariant.{Inv}
use Rattle.claims.proofs.Queues.Keeps.{keeps}
use Rattle.claims.proofs.Queues.Remaining.{left, left_bound}
use Rattle.claims.proofs.Queues.Changes.{Changed, unmoved, moved, begun}
use Rattle.bounds.proofs.starvation_freedom.Positions.{queue_short}
use Rattle.bounds.proofs.starvation_freedom.Left.{hits, SameFirst, left_falls, left_some, left_inside, left_holding}
use Rattle.bounds.specs.StarvationFreedom.Bounds.{members, effective_threshold, effective, passes}

module _ (t : Tree) where
  -- THE SAME PATHS
  same_depth_from : (f d : ℕ) → depth_from f (effective t) d ≡ depth_from f t d
  unfolding depth_from effective
  same_depth_from zero d = refl
  same_depth_from (suc f) d = ap (λ n. cond (eqb d 0) 0 (suc n)) (same_depth_from f (t.parent d))

  same_depth : (d : ℕ) → depth (effective t) d ≡ depth t d
  unfolding depth effective
  same_depth d = same_depth_from t.domains d

  pub effective_height : (i : ℕ) → height (effective t) i ≡ height t i
  unfolding height effective
  effective_height i = same_depth (t.home i)

  pub effective_ancestor : (i k : ℕ) → ancestor (effective t) i k ≡ ancestor t i k
  unfolding ancestor above effective
  effective_ancestor i zero = refl
  effective_ancestor i (suc k) = ap (λ d. cond (eqb d 0) 0 (t.parent d)) (effective_ancestor i k)

  pub effective_record : (i k : ℕ) → record_at (effective t) i k ≡ record_at t i k
  unfolding record_at
  effective_record i zero = refl
  effective_record i (suc k) = ap (λ d. 256 + d) (effective_ancestor i k)

  -- THE TREE IS ACCEPTED
  threshold_of_many : (d : ℕ) → 2 ≤ members t d → (effective t).threshold d ≡ t.threshold d
  unfolding effective effective_threshold
  threshold_of_many d h = rw (lt-ltb 1 (members t d) h)

  module _ (valid : Accepted t) where
    some_threshold : (d : ℕ) → 0 < d → d < t.domains → 1 ≤ effective_threshold t d
    unfolding effective_threshold
    some_threshold d p h = by (ltb 1 (members t d))
      where
        by : (b : Bool) → 1 ≤ cond b (t.threshold d) 1
        by true = valid.threshold_some d p h
        by false = omega arith

    pub effective_accepted : Accepted (effective t)
    unfolding effective level is_leaf is_child
    effective_accepted =
        record {
          some_domain = valid.some_domain;
          few_domains = valid.few_domains;
          some_thread = valid.some_thread;
          few_threads = valid.few_threads;
          parent_lower = valid.parent_lower;
          flat = λ d h. let x = valid.flat d h in let y = same_depth d in omega arith;
          threshold_some = some_threshold;
          home_real = valid.home_real;
          home_leaf = valid.home_leaf;
        }

    -- THE SAME MOVES
    abbrev T : Tree
    T = effective t

    same_last : (st : State) (i j : ℕ) → Last t st i j → Last T st i j
    same_last st i j (root e z) = root e (z ∙ sym (effective_height i))
    same_last st i j (lower e) = lower e

    module _ (st : State) (inv : Inv t st) where
      -- if the first has another member after it, the domain has at least two members
      many : (d a b : ℕ) (xs : List ℕ) → st.queue d ≡ a ∷ b ∷ xs → 2 ≤ members t d
      many d a b xs shape = let l : length (st.queue d) ≡ suc (suc (length xs)) = ap length shape in omega (arith, queue_short t valid st inv d)

      pub same_move : {e : Event} {st' : State} → Move t st e st' → Move T st e st'
      unfolding effective
      same_move (start i h e) = start i h e
      same_move (join_empty i j e n z) =
          rw (← effective_ancestor i j, ← effective_record i j) (join_empty i j e (rw (effective_ancestor i j) n) (rw (effective_ancestor i j) z))
      same_move (join_root i j e r z) =
          rw (← effective_ancestor i j, ← effective_record i j) (join_root i j e (rw (effective_ancestor i j) r) (rw (effective_ancestor i j) z))
      same_move (join_after i j a e f) =
          rw (← effective_ancestor i j, ← effective_record i j) (join_after i j a e (rw (effective_ancestor i j) f))
      same_move (enter i e) = enter i e
      same_move (leave i e) = leave i e
      same_move (hand_on i j s l xs e h w m ok shape) =
          rw (← effective_ancestor i j, ← effective_record i j, ← effective_record s l)
          (hand_on i j s l xs e (rw (effective_height i) h) w (rw (effective_ancestor s l, effective_ancestor i j) m)
          (rw (effective_ancestor i j, effective_record i j, threshold_of_many (ancestor t i j) (many (ancestor t i j) (record_at t i j) (record_at t s l) xs shape)) ok)
          (rw (effective_ancestor i j, effective_record i j, effective_record s l) shape))
      same_move (release i j s l xs e w m shape) =
          rw (← effective_ancestor i j, ← effective_record s l)
          (release i j s l xs e w (rw (effective_ancestor s l, effective_ancestor i j) m) (rw (effective_ancestor i j, effective_record i j, effective_record s l) shape))
      same_move (let_go i j b shape) =
          rw (← effective_ancestor i j) (let_go i j (same_last st i j b) (rw (effective_ancestor i j, effective_record i j) shape))

    -- the same moves of a step, with the same entries
    pub record SameChange {st st' : State} (c : Changed t st st') : Type 0 where
      pub change : Changed T st st'
      pub same_hits : (n : ℕ) → hits T change n ≡ hits t c n

    pub same_change : {st st' : State} → Inv t st → (c : Changed t st st') → SameChange c
    unfolding hits effective
    same_change inv unmoved = record { change = unmoved; same_hits = λ n. refl }
    same_change inv (moved {st = st} mv) = record { change = moved (same_move st inv mv); same_hits = λ n. refl }
    same_change inv (begun {st = st} i h e c) =
        let x = same_change (keeps t (laws t valid) st inv (start i h e)) c in
        record { change = begun i h e x.change; same_hits = x.same_hits }

    pub changed_keeps : (S : Tree) → Laws S → {st st' : State} → Changed S st st' → Inv S st → Inv S st'
    changed_keeps S tree_laws unmoved inv = inv
    changed_keeps S tree_laws (moved {st = st} mv) inv = keeps S tree_laws st inv mv
    changed_keeps S tree_laws (begun {st = st} i h e c) inv = changed_keeps S tree_laws c (keeps S tree_laws st inv (start i h e))

    pub effective_keeps : {st st' : State} → Inv t st → Changed t st st' → Inv T st → Inv T st'
    effective_keeps inv c inv' = changed_keeps T (laws T effective_accepted) (same_change inv c).change inv'

    -- WHAT IS LEFT under the record with which a thread is first at an index
    unfoldable pub left_there : State → (thread index : ℕ) → ℕ
    left_there st b k = left T st.tally (st.stage b) b k

    pub left_within : (st : State) → Inv T st → (b k : ℕ) → k < acts (height t b) (st.stage b) → left_there st b k ≤ passes t (record_at t b k)
    unfolding left_there passes
    left_within st inv' b k h =
        let x = left_bound T (laws T effective_accepted) st inv' b k (rw (effective_height b) h) in
        rw (effective_record b k) at x

    pub left_less :
        {st st' : State} (c : Changed t st st') → Inv t st → Inv T st → (a j b k : ℕ) → SameFirst t st st' a j b k →
        left_there st' b k + hits t c b ≤ left_there st a j
    unfolding left_there
    left_less c inv inv' a j b k f =
        let x = same_change inv c in
        let y = left_falls T (laws T effective_accepted) x.change inv' a j b k (record {
          before = rw (effective_height a) f.before;
          after = rw (effective_height b) f.after;
          there = rw (effective_ancestor b k, effective_ancestor a j) f.there;
          mine = rw (effective_record b k, effective_record a j) f.mine;
        }) in
        let z = x.same_hits b in
        omega arith

    pub left_pending_some : (st : State) (a j : ℕ) → pending (st.stage a) ≤ left_there st a j
    unfolding left_there
    left_pending_some st a j = left_some T (laws T effective_accepted) st a j

    -- one less once the entry is made
    module _ (st : State) (inv' : Inv T st) (a j : ℕ) (h : j ≤ height t a) where
      pub left_less_inside : st.stage a ≡ inside → left_there st a j + 1 ≤ passes t (record_at t a j)
      unfolding left_there passes
      left_less_inside e = let x = left_inside T (laws T effective_accepted) st inv' a e j (rw (effective_height a) h) in rw (effective_record a j) at x

      pub left_less_holding : st.stage a ≡ holding → left_there st a j + 1 ≤ passes t (record_at t a j)
      unfolding left_there passes
      left_less_holding e = let x = left_holding T (laws T effective_accepted) st inv' a e j (rw (effective_height a) h) in rw (effective_record a j) at x
