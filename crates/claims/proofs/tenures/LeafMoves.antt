-- Every move keeps what holds for a leaf's entries and tenures.
use mathlib.Core.Path.{◌≡◌, refl, sym, ap, ◌∙◌}
use mathlib.Core.Bool.{Bool, true, false, cond}
use mathlib.Core.List.{List, [], ◌∷◌, ◌++◌}
use mathlib.Core.Logic.{◌≢◌}
use Prim.Native.Nat.{ℕ, zero, suc, ◌+◌, ◌*◌, ◌≤◌, ◌<◌}
use native.Mathlib.Omega.{arith}
use Rattle.model.specs.Trees.{Tree, is_leaf, on_path}
use Rattle.model.proofs.Trees.Index.{ancestor, height, record_at}
use Rattle.model.proofs.Trees.Accepted.{Accepted}
use Rattle.model.proofs.Trees.Paths.{ancestor_home}
use Rattle.model.proofs.Trees.Records.{record_own}
use Rattle.model.proofs.Lists.{same_or, less_or, put, put_same, put_other, first, grown_first, is_same, count, count_nil, count_cons}
use Rattle.claims.proofs.Queues.Paths.{laws}
use Rattle.claims.proofs.Queues.Moves.{Stage, out, climb, queued, ready, inside, holding, releasing, down, low, acts, pending, State, Event, ends, entered, Last, root, lower, Move, start, join_empty, join_root, join_after, enter, leave, hand_on, release, let_go}
use Rattle.claims.proofs.Queues.Changes.{made_first}
use Rattle.claims.proofs.Queues.Invariant.{Inv, low_down, low_acts}
use Rattle.claims.proofs.Queues.Keeps.{keeps, last_low}
use Rattle.claims.proofs.Queues.Remaining.{acts_real, pending_down}
use Rattle.claims.proofs.tenures.Firsts.{P, R, climbing, standing}
use Rattle.claims.proofs.tenures.LeafTenures.{Runs, begins_run, goes_on, hands_over, leaf_index, home_height, home_record, on_home, home_on, far, entered_by, Leaf, Passing, runner_first, one_thread, same_tenures, not_running, ThreadAfter, kept, changed, build, idle_after, over_by}

last_pending : (T : Tree) (st : State) (i j : ℕ) → Last T st i j → pending (st.stage i) ≡ 0
unfolding pending
last_pending T st i j (root e h) = rw e refl
last_pending T st i j (lower e) = rw e refl

module _ (T : Tree) (valid : Accepted T) (d : ℕ) (pos : 0 < d) (leaf : is_leaf T d ≡ true) (st : State) (inv : Inv T st) (n e l : ℕ) (old : Leaf T valid d pos leaf st n e l) where
  abbrev D : ℕ
  D = P T valid d

  abbrev M : ℕ
  M = R T valid d

  abbrev After : {ev : Event} {st' : State} → Move T st ev st' → Type 0
  After {ev} {st'} mv = Leaf T valid d pos leaf st' (n + count M (made_first T mv)) (e + entered_by T valid d pos leaf ev) l

  abbrev Of : {ev : Event} {st' : State} → Move T st ev st' → (k : ℕ) → Type 0
  Of {ev} {st'} mv k = ThreadAfter T valid d pos leaf st inv n e l old st' (n + count M (made_first T mv)) (e + entered_by T valid d pos leaf ev) k

  -- the record of a leaf's thread at index 1 is the leaf's
  made_one : (i : ℕ) → T.home i ≡ d → (j : ℕ) → j ≡ 1 → count M (record_at T i j ∷ []) ≡ 1
  made_one i z j q =
      let same : M ≡ record_at T i j = sym (ap (record_at T i) q ∙ home_record T valid d pos leaf i z) in
      omega (arith, count_cons M (record_at T i j) [], count_nil M, is_same M (record_at T i j) same)

  -- an entry by a thread of the leaf, or by another
  entry_one : (i : ℕ) → i < T.threads → T.home i ≡ d → entered_by T valid d pos leaf (entered i) ≡ 1
  unfolding entered_by
  entry_one i h z = rw (home_on T valid d pos leaf i h z)

  entry_other : (i : ℕ) → i < T.threads → T.home i ≢ d → entered_by T valid d pos leaf (entered i) ≡ 0
  unfolding entered_by
  entry_other i h n = by (on_path T i d) refl
    where
      by : (b : Bool) → on_path T i d ≡ b → ◌≡◌ {A = ℕ} (cond b 1 0) 0
      by true q = absurd (n (on_home T valid d pos leaf i h q))
      by false q = refl

  -- a thread that is inside after a move is first above its leaf, so it is no thread of a leaf whose tenure does not run
  entry_quiet : {ev : Event} {st' : State} (mv : Move T st ev st') (i : ℕ) → i < T.threads → st'.stage i ≡ inside → first (st'.queue D) ≢ suc M →
      entered_by T valid d pos leaf (entered i) ≡ 0
  unfolding low
  entry_quiet {st' = st'} mv i h x f =
      entry_other i h (λ z.
      let tall = home_height T valid d pos leaf i h z in
      f (runner_first T valid d pos leaf st' (keeps T (laws T valid) st inv mv) i h z (rw x (omega arith))))

  -- while a thread of the leaf enters, no other thread is first in the leaf
  entry_alone : (i k : ℕ) → i < T.threads → T.home k ≡ d → k ≢ i → 0 < low (height T k) (st.stage k) → (T.home i ≡ d → 0 < low (height T i) (st.stage i)) →
      e + entered_by T valid d pos leaf (entered i) ≡ e
  entry_alone i k h zk z a b =
      same_or (T.home i) d _
      (λ zi. absurd (z (one_thread T valid d pos leaf st inv n e l old k i zk zi a (b zi))))
      (λ zi. omega (arith, entry_other i h zi))

  -- a queue that only grows keeps its first
  grows_over : (L m : ℕ) → first (st.queue D) ≡ suc M → first (put st.queue L (st.queue L ++ (m ∷ [])) D) ≢ suc M → (e ≤ n * l) × (n ≤ e)
  grows_over L m f g = absurd (g (grown_first st.queue L m D M f))

  -- A MOVE THAT STARTS A TENURE is reported; and the count of a leaf's thread after it
  abbrev MadeFirst : {ev : Event} {st' : State} → Move T st ev st' → Type 0
  MadeFirst mv = 1 ≤ count M (made_first T mv) → 1 ≤ l

  abbrev RunsOn : {ev : Event} {st' : State} → Move T st ev st' → (v pend : ℕ) → Type 0
  RunsOn {ev} mv v pend = Runs v pend (n + count M (made_first T mv)) (e + entered_by T valid d pos leaf ev) l

  starts_run : {ev : Event} {st' : State} (mv : Move T st ev st') → MadeFirst mv → (v pend : ℕ) → v ≡ 1 → count M (made_first T mv) ≡ 1 → entered_by T valid d pos leaf ev + pend ≡ 1 → RunsOn mv v pend
  starts_run mv lengths v pend zv c p =
      begins_run v pend n e _ _ l zv (omega arith) (omega arith) (not_running T valid d pos leaf st inv n e l old mv (omega arith)) (lengths (omega arith))

  continues :
      {ev : Event} {st' : State} (mv : Move T st ev st') (k : ℕ) → k < T.threads → T.home k ≡ d → 1 < low (height T k) (st.stage k) → (v pend : ℕ) → v ≡ st.tally k →
      entered_by T valid d pos leaf ev + pend ≡ pending (st.stage k) → RunsOn mv v pend
  continues mv k h z b v pend zv p =
      goes_on (st.tally k) (pending (st.stage k)) n e v pend _ _ l (old.runs k h z b) zv (same_tenures T valid d pos leaf st inv n e l old mv k h z b) (omega arith)

  -- another thread, and an event that is no entry
  alone : {ev : Event} {st' : State} (mv : Move T st ev st') (k : ℕ) → k < T.threads → T.home k ≡ d → entered_by T valid d pos leaf ev ≡ 0 → 1 < low (height T k) (st.stage k) →
      (n + count M (made_first T mv) ≡ n) × (e + entered_by T valid d pos leaf ev ≡ e)
  alone mv k h z q b = (same_tenures T valid d pos leaf st inv n e l old mv k h z b, omega arith)

  -- THE MOVES, one by one
  leaf_start : (i : ℕ) (h : i < T.threads) (x : st.stage i ≡ out) → After (start i h x)
  unfolding low pending entered_by
  leaf_start i h x =
      build T valid d pos leaf st inv n e l old _ _ _
      (λ k hk zk. same_or k i (Of (start i h x) k)
      (λ z. changed (climb 0) (put_same st.stage i (climb 0) k z) (λ b. absurd (omega arith)) (λ a b. absurd (omega arith)))
      (λ z. kept (put_other st.stage i (climb 0) k z) refl (alone (start i h x) k hk zk refl)))
      (idle_after T valid d pos leaf st inv n e l old (start i h x) (λ f g. absurd (g f)) (λ g. refl))

  leaf_join_empty : (i j : ℕ) (x : st.stage i ≡ climb j) (nz : ancestor T i j ≢ 0) (y : st.queue (ancestor T i j) ≡ []) → MadeFirst (join_empty i j x nz y) → After (join_empty i j x nz y)
  unfolding low pending entered_by made_first
  leaf_join_empty i j x nz y lengths =
      let mv = join_empty i j x nz y in
      build T valid d pos leaf st inv n e l old _ _ _
      (λ k hk zk. same_or k i (Of mv k)
      (λ z.
      let xk : st.stage k ≡ climb j = ap st.stage z ∙ x in
      let zi : T.home i ≡ d = ap T.home (sym z) ∙ zk in
      changed (climb (suc j)) (put_same st.stage i (climb (suc j)) k z)
      (λ b.
      let same : put st.tally (record_at T i j) 1 k ≡ st.tally k = put_other st.tally (record_at T i j) 1 k (far T valid d pos leaf k i j hk (λ q. absurd (omega arith))) in
      same_or j 1 _
      (λ q. starts_run mv lengths _ 1 (same ∙ old.new k hk zk (rw xk q) (rw xk refl)) (made_one i zi j q) refl)
      (λ q. continues mv k hk zk (rw xk (omega arith)) _ 1 same (rw xk refl)))
      (λ a b.
      let q : j ≡ 0 = omega arith in
      put_same st.tally (record_at T i j) 1 k (z ∙ sym (ap (record_at T i) q ∙ record_own T i))))
      (λ z. kept (put_other st.stage i (climb (suc j)) k z) (put_other st.tally (record_at T i j) 1 k (far T valid d pos leaf k i j hk (λ q. z))) (alone mv k hk zk refl)))
      (idle_after T valid d pos leaf st inv n e l old mv (grows_over (ancestor T i j) (record_at T i j)) (λ g. refl))

  -- a leaf's thread joins the root at index 1 or higher
  joins_above : (i j : ℕ) → T.home i ≡ d → ancestor T i j ≡ 0 → 1 ≤ j
  joins_above i zero z r = absurd (omega (arith, ancestor_home T i))
  joins_above i (suc j) z r = omega arith

  leaf_join_root : (i j : ℕ) (x : st.stage i ≡ climb j) (r : ancestor T i j ≡ 0) (y : st.queue (ancestor T i j) ≡ []) → MadeFirst (join_root i j x r y) → After (join_root i j x r y)
  unfolding low pending made_first
  leaf_join_root i j x r y lengths =
      let mv = join_root i j x r y in
      let h = (climbing T valid d st inv i j x).0 in
      build T valid d pos leaf st inv n e l old _ _ _
      (λ k hk zk. same_or k i (Of mv k)
      (λ z.
      let xk : st.stage k ≡ climb j = ap st.stage z ∙ x in
      let zi : T.home i ≡ d = ap T.home (sym z) ∙ zk in
      let one = entry_one i h zi in
      let above = joins_above i j zi r in
      changed inside (put_same st.stage i inside k z)
      (λ b. same_or j 1 _
      (λ q. starts_run mv lengths _ 0 (old.new k hk zk (rw xk q) (rw xk refl)) (made_one i zi j q) (omega arith))
      (λ q. continues mv k hk zk (rw xk (omega arith)) _ 0 refl (rw xk (omega arith))))
      (λ a b. absurd (omega arith)))
      (λ z. kept (put_other st.stage i inside k z) refl
      (λ b. (same_tenures T valid d pos leaf st inv n e l old mv k hk zk b, entry_alone i k h zk z (omega arith) (λ zi. rw x (joins_above i j zi r))))))
      (idle_after T valid d pos leaf st inv n e l old mv (grows_over (ancestor T i j) (record_at T i j)) (entry_quiet mv i h (put_same st.stage i inside i refl)))

  leaf_join_after : (i j a : ℕ) (x : st.stage i ≡ climb j) (f : first (st.queue (ancestor T i j)) ≡ suc a) → After (join_after i j a x f)
  unfolding low pending entered_by
  leaf_join_after i j a x f =
      let mv = join_after i j a x f in
      build T valid d pos leaf st inv n e l old _ _ _
      (λ k hk zk. same_or k i (Of mv k)
      (λ z.
      let xk : st.stage k ≡ climb j = ap st.stage z ∙ x in
      changed (queued j) (put_same st.stage i (queued j) k z)
      (λ b. continues mv k hk zk (rw xk b) _ 1 refl (rw xk refl)) (λ b c. old.new k hk zk (rw xk b) (rw xk refl)))
      (λ z. kept (put_other st.stage i (queued j) k z) refl (alone mv k hk zk refl)))
      (idle_after T valid d pos leaf st inv n e l old mv (grows_over (ancestor T i j) (record_at T i j)) (λ g. refl))

  leaf_enter : (i : ℕ) (x : st.stage i ≡ ready) → After (enter i x)
  unfolding low pending acts
  leaf_enter i x =
      let h = (acts_real T (laws T valid) st inv i 0 (rw x (omega arith))).0 in
      let mv = enter i x in
      build T valid d pos leaf st inv n e l old _ _ _
      (λ k hk zk. same_or k i (Of mv k)
      (λ z.
      let xk : st.stage k ≡ ready = ap st.stage z ∙ x in
      let one = entry_one i h (ap T.home (sym z) ∙ zk) in
      changed inside (put_same st.stage i inside k z) (λ b. continues mv k hk zk (rw xk b) _ 0 refl (rw xk (omega arith))) (λ a b. absurd (omega arith)))
      (λ z. kept (put_other st.stage i inside k z) refl
      (λ b. (same_tenures T valid d pos leaf st inv n e l old mv k hk zk b, entry_alone i k h zk z (omega arith) (λ zi. rw x (omega arith))))))
      (idle_after T valid d pos leaf st inv n e l old mv (λ f g. absurd (g f)) (entry_quiet mv i h (put_same st.stage i inside i refl)))

  leaf_leave : (i : ℕ) (x : st.stage i ≡ inside) → After (leave i x)
  unfolding low pending entered_by
  leaf_leave i x =
      let mv = leave i x in
      build T valid d pos leaf st inv n e l old _ _ _
      (λ k hk zk. same_or k i (Of mv k)
      (λ z.
      let xk : st.stage k ≡ inside = ap st.stage z ∙ x in
      changed holding (put_same st.stage i holding k z) (λ b. continues mv k hk zk (rw xk b) _ 0 refl (rw xk refl)) (λ a b. absurd (omega arith)))
      (λ z. kept (put_other st.stage i holding k z) refl (alone mv k hk zk refl)))
      (idle_after T valid d pos leaf st inv n e l old mv (λ f g. absurd (g f)) (λ g. refl))

  -- A THREAD LETS GO at an index: it was first there, and its entry is made
  module _ (i j : ℕ) (holds : j < low (height T i) (st.stage i)) (spent : pending (st.stage i) ≡ 0) where
    real_there : (i < T.threads) × (i < 256) × (j ≤ height T i)
    real_there = acts_real T (laws T valid) st inv i j (omega (arith, low_acts (height T i) (st.stage i)))

    -- if it removes the leaf's record from the queue above, the tenure is over
    pops_over : (q : List ℕ) → first (st.queue D) ≡ suc M → first (put st.queue (ancestor T i j) q D) ≢ suc M → (e ≤ n * l) × (n ≤ e)
    pops_over q f g =
        same_or D (ancestor T i j) _
        (λ z. over_by T valid d pos leaf st inv n e l old i j real_there.0 real_there.2 holds spent z f)
        (λ z. absurd (g (ap first (put_other st.queue (ancestor T i j) q D z) ∙ f)))

    lets_go : {ev : Event} {st' : State} (mv : Move T st ev st') → entered_by T valid d pos leaf ev ≡ 0 → (k : ℕ) → k < T.threads → T.home k ≡ d → k ≡ i →
        st'.stage k ≡ down j → st'.tally k ≡ st.tally k → Of mv k
    lets_go mv q k hk zk z x w =
        let hold : j < low (height T k) (st.stage k) = rw z holds in
        let none : pending (st.stage k) ≡ 0 = rw z spent in
        let a = low_down (height T k) j in
        changed (down j) x
        (λ b. continues mv k hk zk (omega arith) _ (pending (down j)) w (omega (arith, pending_down j (omega arith))))
        (λ b c. absurd (omega (arith, pending_down j (omega arith))))

    leaf_lets_go : (b : Last T st i j) (shape : st.queue (ancestor T i j) ≡ record_at T i j ∷ []) → After (let_go i j b shape)
    unfolding entered_by
    leaf_lets_go b shape =
        let mv = let_go i j b shape in
        build T valid d pos leaf st inv n e l old _ _ _
        (λ k hk zk. same_or k i (Of mv k)
        (λ z. lets_go mv refl k hk zk z (put_same st.stage i (down j) k z) refl)
        (λ z. kept (put_other st.stage i (down j) k z) refl (alone mv k hk zk refl)))
        (idle_after T valid d pos leaf st inv n e l old mv (pops_over []) (λ g. refl))

    -- A HAND-OVER: the successor is next, and a new count is written to its record
    module _ (s m : ℕ) (waits : st.stage s ≡ queued m) where
      successor : (s < T.threads) × (m ≤ height T s)
      successor = standing T valid d st inv s m waits

      -- the two threads that change, and the others
      handed : {ev : Event} {st' : State} (mv : Move T st ev st') (x : Stage) (c : ℕ) → entered_by T valid d pos leaf ev ≡ 0 →
          st'.stage ≡ put (put st.stage i (down j)) s x → st'.tally ≡ put st.tally (record_at T s m) c →
          (T.home s ≡ d → Of mv s) → (k : ℕ) → k < T.threads → T.home k ≡ d → Of mv k
      handed {st' = st'} mv x c q stages tallies own k hk zk =
          let f = put st.stage i (down j) in
          let stage_k : st'.stage k ≡ put f s x k = ap (λ (g : ℕ → Stage). g k) stages in
          let tally_k : st'.tally k ≡ put st.tally (record_at T s m) c k = ap (λ (g : ℕ → ℕ). g k) tallies in
          same_or k s (Of mv k)
          (λ z. rw z (own (ap T.home (sym z) ∙ zk)))
          (λ z.
          let same : st'.tally k ≡ st.tally k = tally_k ∙ put_other st.tally (record_at T s m) c k (far T valid d pos leaf k s m hk (λ y. z)) in
          same_or k i (Of mv k)
          (λ y. lets_go mv q k hk zk y (stage_k ∙ put_other f s x k z ∙ put_same st.stage i (down j) k y) same)
          (λ y. kept (stage_k ∙ put_other f s x k z ∙ put_other st.stage i (down j) k y) same (alone mv k hk zk q)))

      -- if the successor stood above the leaf, a tenure starts or continues
      raised : {ev : Event} {st' : State} (mv : Move T st ev st') → MadeFirst mv → made_first T mv ≡ record_at T s m ∷ [] → entered_by T valid d pos leaf ev ≡ 0 → (c : ℕ) →
          st'.tally ≡ put st.tally (record_at T s m) c → T.home s ≡ d → 1 ≤ m → RunsOn mv (st'.tally s) 1
      unfolding low pending
      raised {st' = st'} mv lengths made q c tallies z b =
          let same : st'.tally s ≡ st.tally s = ap (λ (g : ℕ → ℕ). g s) tallies ∙ put_other st.tally (record_at T s m) c s (far T valid d pos leaf s s m successor.0 (λ y. absurd (omega arith))) in
          same_or m 1 _
          (λ y. starts_run mv lengths _ 1 (same ∙ old.new s successor.0 z (rw waits y) (rw waits refl)) (ap (count M) made ∙ made_one s z m y) (omega arith))
          (λ y. continues mv s successor.0 z (rw waits (omega arith)) _ 1 same (rw waits (omega arith)))

      -- at home, the count is the one handed over
      tally_home : (c : ℕ) → m ≡ 0 → put st.tally (record_at T s m) c s ≡ c
      tally_home c y = put_same st.tally (record_at T s m) c s (sym (ap (record_at T s) y ∙ record_own T s))

  leaf_hand_on :
      (i j s m : ℕ) (xs : List ℕ) (x : st.stage i ≡ holding) (h : j ≤ height T i) (w : st.stage s ≡ queued m) (meet : ancestor T s m ≡ ancestor T i j)
      (ok : ancestor T i j ≢ 0 → st.tally (record_at T i j) < T.threshold (ancestor T i j)) (shape : st.queue (ancestor T i j) ≡ record_at T i j ∷ record_at T s m ∷ xs) →
      MadeFirst (hand_on i j s m xs x h w meet ok shape) → Passing T valid d pos leaf st (ends (ancestor T i j) (record_at T s m)) l → After (hand_on i j s m xs x h w meet ok shape)
  unfolding low pending entered_by acts made_first
  leaf_hand_on i j s m xs x h w meet ok shape lengths passing =
      let holds : j < low (height T i) (st.stage i) = rw x (omega arith) in
      let mv = hand_on i j s m xs x h w meet ok shape in
      let spent : pending (st.stage i) ≡ 0 = rw x refl in
      let real_i = (real_there i j holds spent).0 in
      let hs = (standing T valid d st inv s m w).0 in
      build T valid d pos leaf st inv n e l old _ _ _
      (handed i j holds spent s m w mv ready (suc (st.tally (record_at T i j))) refl refl refl
      (λ z. changed ready (put_same (put st.stage i (down j)) s ready s refl)
      (λ b. less_or 0 m _
      (λ c. raised i j holds spent s m w mv lengths refl refl (suc (st.tally (record_at T i j))) refl z c)
      (λ c.
      let zm : m ≡ 0 = omega arith in
      let there : ancestor T i j ≡ d = sym meet ∙ ap (ancestor T s) zm ∙ ancestor_home T s ∙ z in
      let zj = leaf_index T valid d pos leaf i j real_i h there in
      let zi : T.home i ≡ d = sym (ancestor_home T i) ∙ ap (ancestor T i) (sym zj) ∙ there in
      let mine : record_at T i j ≡ i = ap (record_at T i) zj ∙ record_own T i in
      let tall = home_height T valid d pos leaf i real_i zi in
      let up : 1 < low (height T i) (st.stage i) = rw x (omega arith) in
      let run : Runs (st.tally i) 0 n e l = rw x at (old.runs i real_i zi up) in
      let value = tally_home i j holds spent s m w (suc (st.tally (record_at T i j))) zm ∙ ap (λ r. suc (st.tally r)) mine in
      rw value (hands_over (st.tally i) n e _ _ l run (same_tenures T valid d pos leaf st inv n e l old mv i real_i zi up) (omega arith)
      (passing (record_at T s m) (ap (λ y. ends y (record_at T s m)) there) i x zi))))
      (λ a b. absurd (omega (arith, home_height T valid d pos leaf s hs z)))))
      (idle_after T valid d pos leaf st inv n e l old mv (pops_over i j holds spent (record_at T s m ∷ xs)) (λ g. refl))

  leaf_release :
      (i j s m : ℕ) (xs : List ℕ) (x : st.stage i ≡ releasing j) (w : st.stage s ≡ queued m) (meet : ancestor T s m ≡ ancestor T i j)
      (shape : st.queue (ancestor T i j) ≡ record_at T i j ∷ record_at T s m ∷ xs) → MadeFirst (release i j s m xs x w meet shape) → After (release i j s m xs x w meet shape)
  unfolding low pending entered_by acts made_first
  leaf_release i j s m xs x w meet shape lengths =
      let holds : j < low (height T i) (st.stage i) = rw x (omega arith) in
      let mv = release i j s m xs x w meet shape in
      let spent : pending (st.stage i) ≡ 0 = rw x refl in
      build T valid d pos leaf st inv n e l old _ _ _
      (handed i j holds spent s m w mv (climb (suc m)) 1 refl refl refl
      (λ z. changed (climb (suc m)) (put_same (put st.stage i (down j)) s (climb (suc m)) s refl)
      (λ b. raised i j holds spent s m w mv lengths refl refl 1 refl z (omega arith))
      (λ a b. tally_home i j holds spent s m w 1 (omega arith))))
      (idle_after T valid d pos leaf st inv n e l old mv (pops_over i j holds spent (record_at T s m ∷ xs)) (λ g. refl))

  pub leaf_move : {ev : Event} {st' : State} (mv : Move T st ev st') → MadeFirst mv → Passing T valid d pos leaf st ev l → After mv
  leaf_move (start i h x) lengths p = leaf_start i h x
  leaf_move (join_empty i j x nz y) lengths p = leaf_join_empty i j x nz y lengths
  leaf_move (join_root i j x r y) lengths p = leaf_join_root i j x r y lengths
  leaf_move (join_after i j a x f) lengths p = leaf_join_after i j a x f
  leaf_move (enter i x) lengths p = leaf_enter i x
  leaf_move (leave i x) lengths p = leaf_leave i x
  leaf_move (hand_on i j s m xs x h w meet ok shape) lengths p = leaf_hand_on i j s m xs x h w meet ok shape lengths p
  leaf_move (release i j s m xs x w meet shape) lengths p = leaf_release i j s m xs x w meet shape lengths
  leaf_move (let_go i j b shape) lengths p =
      leaf_lets_go i j (omega (arith, last_low T (laws T valid) st inv i j b)) (last_pending T st i j b) b shape
