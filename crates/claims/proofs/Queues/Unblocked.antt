-- If some thread is acquiring or releasing, then some such thread stands ungranted nowhere.
use mathlib.Core.Path.{◌≡◌, refl}
use mathlib.Core.List.{List, [], ◌∷◌}
use Prim.Native.Nat.{ℕ, zero, suc, ◌+◌, ◌≤◌, ◌<◌}
use native.Mathlib.Omega.{arith}
use Rattle.model.specs.Trees.{Tree}
use Rattle.model.proofs.Trees.Index.{ancestor, height, record_at}
use Rattle.model.proofs.Lists.{less_or, first, rest, first_in, first_count, count}
use Rattle.claims.proofs.Queues.Paths.{Laws}
use Rattle.claims.proofs.Queues.Meeting.{same_height}
use Rattle.claims.proofs.Queues.Moves.{low, acts, reach, State}
use Rattle.claims.proofs.Queues.Invariant.{low_acts, acts_low, acts_reach, Inv}
use Rattle.claims.proofs.Queues.Remaining.{acts_real}

-- a thread that acquires or releases, and whose record is first wherever it acts
pub record Unblocked (T : Tree) (st : State) : Type 0 where
  pub thread : ℕ
  pub busy : 0 < reach (height T thread) (st.stage thread)
  pub nowhere : low (height T thread) (st.stage thread) ≡ acts (height T thread) (st.stage thread)

-- a list with a rest has a first
some_first : (r : ℕ) (xs : List ℕ) → 1 ≤ count r (rest xs) → (a : ℕ) × (first xs ≡ suc a)
unfolding first rest count
some_first r [] h = absurd (omega arith)
some_first r (x ∷ xs) h = (x, refl)

module _ (T : Tree) (tree_laws : Laws T) (st : State) (inv : Inv T st) where
  abbrev pub lo : ℕ → ℕ
  lo i = low (height T i) (st.stage i)

  -- THE THREAD THAT ACTS FOR THE FIRST of a queue
  pub record Holder (d r : ℕ) : Type 0 where
    pub thread : ℕ
    pub index : ℕ
    pub real : thread < T.threads
    pub within : index ≤ height T thread
    pub first_at : index < lo thread
    pub there : ancestor T thread index ≡ d
    pub mine : record_at T thread index ≡ r

  pub holder : (d r : ℕ) → first (st.queue d) ≡ suc r → Holder d r
  holder d r f =
      let c = inv.acted d r (first_in r (st.queue d) f) in
      let n = c.thread in
      let real = acts_real T tree_laws st inv n c.index c.acting in
      less_or c.index (lo n) _
      (λ h. record { thread = n; index = c.index; real = real.0; within = real.2; first_at = h; there = c.place; mine = c.mine })
      (λ h.
      let z : c.index ≡ lo n = omega (arith, acts_low (height T n) (st.stage n), c.acting) in
      let s = (inv.threads n).stands (omega (arith, c.acting)) in
      let s' : 1 ≤ count r (rest (st.queue d)) = rw (← z, c.place, c.mine) at s in
      absurd (omega (arith, first_count r (st.queue d) f, inv.once d r)))

  -- a thread that stands has such a holder ahead of it, which is nearer to the root
  record Higher (i : ℕ) : Type 0 where
    thread : ℕ
    higher : height T thread + suc (lo i) ≤ height T i + lo thread
    busy : 0 < reach (height T thread) (st.stage thread)

  above : (i : ℕ) → lo i < acts (height T i) (st.stage i) → Higher i
  above i g =
      let t = inv.threads i in
      let x = some_first (record_at T i (lo i)) (st.queue (ancestor T i (lo i))) (t.stands g) in
      let c = holder (ancestor T i (lo i)) x.0 x.1 in
      let n = c.thread in
      let k = c.first_at in
      let a = low_acts (height T n) (st.stage n) in
      let b = acts_reach (height T n) (st.stage n) in
      let a' = acts_reach (height T i) (st.stage i) in
      let e = same_height T tree_laws n c.index i (lo i) c.real (t.real (omega arith)) c.within (omega (arith, t.range)) c.there in
      record { thread = n; higher = omega arith; busy = omega arith }

  -- from a thread that stands, up the tree to the end
  up : (f i : ℕ) → height T i < f + lo i → 0 < reach (height T i) (st.stage i) → Unblocked T st
  up zero i h b =
      record { thread = i; busy = b; nowhere = omega (arith, low_acts (height T i) (st.stage i), acts_reach (height T i) (st.stage i), (inv.threads i).range) }
  up (suc f) i h b =
      less_or (lo i) (acts (height T i) (st.stage i)) _
      (λ g. let w = above i g in up f w.thread (omega (arith, w.higher)) w.busy)
      (λ g. record { thread = i; busy = b; nowhere = omega (arith, low_acts (height T i) (st.stage i)) })

  pub unblocked : (i : ℕ) → 0 < reach (height T i) (st.stage i) → Unblocked T st
  unblocked i b = up (suc (height T i)) i (omega arith) b
