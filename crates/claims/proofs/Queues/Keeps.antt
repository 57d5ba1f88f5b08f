-- Each move keeps the invariant.
use mathlib.Core.Path.{◌≡◌, refl, sym, ap, ◌∙◌}
use mathlib.Core.List.{List, [], ◌∷◌, ◌++◌}
use mathlib.Core.Logic.{◌≢◌}
use Prim.Native.Nat.{ℕ, suc, ◌+◌, ◌-◌, ◌≤◌, ◌<◌}
use native.Mathlib.Omega.{arith}
use Rattle.model.proofs.Lists.{same_or, less_or, put, put_same, put_other, first, rest, is_same, count, first_in, first_nil, first_cons, count_cons, rest_snoc, snoc_last, grown, grown_first, popped_rest, popped_count, popped_other}
use Rattle.model.specs.Trees.{Tree}
use Rattle.model.proofs.Trees.Index.{ancestor, record_at, height, above}
use Rattle.claims.proofs.Queues.Paths.{Laws}
use Rattle.claims.proofs.Queues.Moves.{Stage, out, climb, queued, ready, inside, holding, releasing, down, low, acts, reach, State, Event, Last, root, lower, Move, start, join_empty, join_root, join_after, enter, leave, hand_on, release, let_go}
use Rattle.claims.proofs.Queues.Meeting.{follow, follow_record_at, same_height}
use Rattle.claims.proofs.Queues.Joined.{restaged, joined}
use Rattle.claims.proofs.Queues.Invariant.{low_acts, acts_reach, low_down, acts_down, reach_down, Below, Thread, Acted, Counts, Inv, unique, one_head, one_queue, fresh}

module _ (T : Tree) (tree_laws : Laws T) (st : State) (inv : Inv T st) where
  -- A THREAD LETS GO at index j
  -- the threads that are not involved
  pub bystander :
      (i j n : ℕ) (ys : List ℕ) → st.queue (ancestor T i j) ≡ record_at T i j ∷ ys → j < low (height T i) (st.stage i) → n ≢ i →
      (low (height T n) (st.stage n) < acts (height T n) (st.stage n) → first ys ≢ suc (record_at T n (low (height T n) (st.stage n)))) →
      Thread T (put st.queue (ancestor T i j) ys) n (st.stage n)
  bystander i j n ys shape h ne far =
      let L = ancestor T i j in
      let t = inv.threads n in
      record {
        real = t.real;
        range = t.range;
        heads = λ k b. rw (put_other st.queue L ys (ancestor T n k) (λ z. ne (one_head T tree_laws st inv n i k j b h z).0)) (t.heads k b);
        stands = λ b. popped_rest st.queue L (record_at T i j) ys shape (ancestor T n (low (height T n) (st.stage n))) (record_at T n (low (height T n) (st.stage n)))
            (λ z. far b) (t.stands b);
      }

  -- the thread that lets go
  releaser :
      (i j : ℕ) (ys : List ℕ) → j < low (height T i) (st.stage i) → Thread T (put st.queue (ancestor T i j) ys) i (down j)
  releaser i j ys h =
      let L = ancestor T i j in
      let t = inv.threads i in
      let a = low_acts (height T i) (st.stage i) in
      let b = acts_reach (height T i) (st.stage i) in
      let c = reach_down (height T i) j in
      let d = low_down (height T i) j in
      let e = acts_down (height T i) j in
      record {
        real = λ g. t.real (omega arith);
        range = omega (arith, t.range);
        heads = λ k g. rw (put_other st.queue L ys (ancestor T i k) (λ z. let u = (one_head T tree_laws st inv i i k j (omega arith) h z).1 in omega arith)) (t.heads k (omega arith));
        stands = λ g. absurd (omega arith);
      }

  pub popped :
      (i j : ℕ) (ys : List ℕ) (f : ℕ → Stage) (t : ℕ → ℕ) → st.queue (ancestor T i j) ≡ record_at T i j ∷ ys → j < low (height T i) (st.stage i) → f i ≡ down j →
      ((n : ℕ) → n ≢ i → Thread T (put st.queue (ancestor T i j) ys) n (f n)) →
      ((n : ℕ) → n ≢ i → acts (height T n) (st.stage n) ≤ acts (height T n) (f n)) →
      ((k : ℕ) → j < k → k < acts (height T i) (st.stage i) → Acted T f (ancestor T i k) (record_at T i k)) →
      Counts T (put st.queue (ancestor T i j) ys) t →
      Inv T (record { queue = put st.queue (ancestor T i j) ys; stage = f; tally = t })
  popped i j ys f t shape h fi others more above c =
      let L = ancestor T i j in
      let m = record_at T i j in
      record {
        threads = λ n. same_or n i (Thread T (put st.queue L ys) n (f n))
            (λ z. rw z (rw fi (releaser i j ys h)))
            (λ z. others n z);
        acted = λ d r g.
            let old : 1 ≤ count r (st.queue d) = same_or d L _
            (λ z. omega (arith, popped_count st.queue L m ys shape d r z))
            (λ z. omega (arith, popped_other st.queue L m ys shape d r z)) in
            acted_after d r g (inv.acted d r old);
        once = λ d r. same_or d L _
            (λ z. omega (arith, popped_count st.queue L m ys shape d r z, inv.once d r))
            (λ z. omega (arith, popped_other st.queue L m ys shape d r z, inv.once d r));
        counts = c;
      }
    where
      acted_after : (d r : ℕ) → 1 ≤ count r (put st.queue (ancestor T i j) ys d) → Acted T st.stage d r → Acted T f d r
      acted_after d r g a =
          let n = a.thread in
          let k = a.index in
          same_or n i _
          (λ z.
          let there : ancestor T i k ≡ d = ap (λ x. ancestor T x k) (sym z) ∙ a.place in
          let mine : record_at T i k ≡ r = ap (λ x. record_at T x k) (sym z) ∙ a.mine in
          let acting : k < acts (height T i) (st.stage i) = rw z at a.acting in
          less_or k j _
          (λ b. record { thread = i; index = k; acting = rw fi (omega (arith, acts_down (height T i) j)); place = there; mine = mine })
          (λ b. same_or k j _
          (λ w.
          let dl : d ≡ ancestor T i j = sym there ∙ ap (ancestor T i) w in
          let rm : r ≡ record_at T i j = sym mine ∙ ap (record_at T i) w in
          absurd (omega (arith, popped_count st.queue (ancestor T i j) (record_at T i j) ys shape d r dl, is_same r (record_at T i j) rm, inv.once d r)))
          (λ w. rw (there, mine) at (above k (omega arith) acting))))
          (λ z. record { thread = n; index = k; acting = omega (arith, more n z, a.acting); place = a.place; mine = a.mine })

  -- THE MOVES THAT CHANGE NO QUEUE
  abbrev Restaged : (i : ℕ) (x : Stage) → Type 0
  Restaged i x = Inv T (record { queue = st.queue; stage = put st.stage i x; tally = st.tally })

  keeps_start : (i : ℕ) → i < T.threads → st.stage i ≡ out → Restaged i (climb 0)
  unfolding low acts reach
  keeps_start i h e =
      restaged T tree_laws st inv i (climb 0)
      (record { real = λ g. h; range = omega arith; heads = λ n g. absurd (omega arith); stands = λ g. absurd (omega arith) })
      (rw e (omega arith))

  keeps_enter : (i : ℕ) → st.stage i ≡ ready → Restaged i inside
  unfolding low acts reach
  keeps_enter i e =
      let t : Thread T st.queue i ready = rw e at (inv.threads i) in
      restaged T tree_laws st inv i inside (record { real = t.real; range = t.range; heads = t.heads; stands = t.stands }) (rw e (omega arith))

  keeps_leave : (i : ℕ) → st.stage i ≡ inside → Restaged i holding
  unfolding low acts reach
  keeps_leave i e =
      let t : Thread T st.queue i inside = rw e at (inv.threads i) in
      restaged T tree_laws st inv i holding (record { real = t.real; range = t.range; heads = t.heads; stands = t.stands }) (rw e (omega arith))

  -- THE JOINS
  -- what holds for a thread about to join
  climber : (i j : ℕ) → st.stage i ≡ climb j → (i < T.threads) × (j ≤ height T i) × Below T st.queue i j
  unfolding low acts reach
  climber i j e =
      let t : Thread T st.queue i (climb j) = rw e at (inv.threads i) in
      (t.real (omega arith), omega (arith, t.range), t.heads)

  -- if the queue is empty, it is first there too
  first_there :
      (i j : ℕ) → st.stage i ≡ climb j → st.queue (ancestor T i j) ≡ [] → Below T (grown st.queue (ancestor T i j) (record_at T i j)) i (suc j)
  first_there i j e z n h =
      let L = ancestor T i j in
      let m = record_at T i j in
      less_or n j _
      (λ g. grown_first st.queue L m (ancestor T i n) (record_at T i n) ((climber i j e).2 n g))
      (λ g.
      let w : n ≡ j = omega arith in
      rw w (rw (put_same st.queue L (st.queue L ++ (m ∷ [])) L refl, z) (first_cons m [])))

  keeps_join_empty :
      (i j : ℕ) → st.stage i ≡ climb j → ancestor T i j ≢ 0 → st.queue (ancestor T i j) ≡ [] →
      Inv T (record {
        queue = grown st.queue (ancestor T i j) (record_at T i j);
        stage = put st.stage i (climb (suc j));
        tally = put st.tally (record_at T i j) 1;
      })
  unfolding low acts reach
  keeps_join_empty i j e n z =
      let c = climber i j e in
      let L = ancestor T i j in
      let m = record_at T i j in
      let inner : j < height T i = same_or j (height T i) _ (λ w. absurd (n (ap (ancestor T i) w ∙ tree_laws.top i c.0))) (λ w. omega (arith, c.1)) in
      joined T tree_laws st inv i j (climb (suc j)) (put st.tally m 1) e
      (record { real = λ g. c.0; range = omega arith; heads = first_there i j e z; stands = λ g. absurd (omega arith) })
      (omega arith)
      (λ d r nd h. same_or d L _
      (λ w.
      let f : first (grown st.queue L m d) ≡ suc m = rw w (first_there i j e z j (omega arith)) in
      let rm : r ≡ m = omega arith in
      rw (put_same st.tally m 1 r rm, w) (omega arith, tree_laws.positive i j c.0 inner))
      (λ w.
      let old : first (st.queue d) ≡ suc r = rw (put_other st.queue L (st.queue L ++ (m ∷ [])) d w) at h in
      let far : r ≢ m = λ y. let o : count r (st.queue d) ≡ 0 = rw y (fresh T tree_laws st inv i j d e) in omega (arith, first_in r (st.queue d) old) in
      rw (put_other st.tally m 1 r far) (inv.counts d r nd old)))

  keeps_join_root :
      (i j : ℕ) → st.stage i ≡ climb j → ancestor T i j ≡ 0 → st.queue (ancestor T i j) ≡ [] →
      Inv T (record { queue = grown st.queue (ancestor T i j) (record_at T i j); stage = put st.stage i inside; tally = st.tally })
  unfolding low acts reach
  keeps_join_root i j e r z =
      let c = climber i j e in
      let L = ancestor T i j in
      let m = record_at T i j in
      let top : j ≡ height T i = less_or j (height T i) _ (λ w. absurd (tree_laws.inner i j c.0 w r)) (λ w. omega (arith, c.1)) in
      joined T tree_laws st inv i j inside st.tally e
      (record { real = λ g. c.0; range = omega arith; heads = λ n h. first_there i j e z n (omega arith); stands = λ g. absurd (omega arith) })
      (omega arith)
      (λ d q nd h. inv.counts d q nd (rw (put_other st.queue L (st.queue L ++ (m ∷ [])) d (λ w. nd (w ∙ r))) at h))

  keeps_join_after :
      (i j a : ℕ) → st.stage i ≡ climb j → first (st.queue (ancestor T i j)) ≡ suc a →
      Inv T (record { queue = grown st.queue (ancestor T i j) (record_at T i j); stage = put st.stage i (queued j); tally = st.tally })
  unfolding low acts reach
  keeps_join_after i j a e f =
      let c = climber i j e in
      let L = ancestor T i j in
      let m = record_at T i j in
      joined T tree_laws st inv i j (queued j) st.tally e
      (record {
        real = λ g. c.0;
        range = omega (arith, c.1);
        heads = λ n h. grown_first st.queue L m (ancestor T i n) (record_at T i n) (c.2 n h);
        stands = λ g. rw (put_same st.queue L (st.queue L ++ (m ∷ [])) L refl, rest_snoc (st.queue L) m a f) (snoc_last m (rest (st.queue L)));
      })
      (omega arith)
      (λ d q nd h. same_or d L _
      (λ w.
      let g : first (grown st.queue L m d) ≡ suc a = rw w (grown_first st.queue L m L a f) in
      inv.counts d q nd (ap (λ x. first (st.queue x)) w ∙ f ∙ sym g ∙ h))
      (λ w. inv.counts d q nd (rw (put_other st.queue L (st.queue L ++ (m ∷ [])) d w) at h)))

  -- THE HAND-OVERS: i lets go at index j, and s, which stands next, becomes first
  module _ (i j s l : ℕ) (xs : List ℕ) (shape : st.queue (ancestor T i j) ≡ record_at T i j ∷ record_at T s l ∷ xs) (holds : j < low (height T i) (st.stage i))
      (waits : st.stage s ≡ queued l) (meet : ancestor T s l ≡ ancestor T i j) (apart : s ≢ i) where
    -- what holds for the successor
    successor : (s < T.threads) × (l ≤ height T s) × Below T st.queue s l
    unfolding low acts reach
    successor =
        let t : Thread T st.queue s (queued l) = rw waits at (inv.threads s) in
        (t.real (omega arith), omega (arith, t.range), t.heads)

    successor_low : low (height T s) (st.stage s) ≡ l
    unfolding low
    successor_low = rw waits

    successor_acts : acts (height T s) (st.stage s) ≡ suc l
    unfolding acts
    successor_acts = rw waits

    successor_heads : Below T (put st.queue (ancestor T i j) (record_at T s l ∷ xs)) s (suc l)
    successor_heads n h =
        let L = ancestor T i j in
        less_or n l _
        (λ g.
        rw (put_other st.queue L (record_at T s l ∷ xs) (ancestor T s n) (λ z. apart (one_head T tree_laws st inv s i n j (omega (arith, successor_low)) holds z).0))
        (successor.2 n g))
        (λ g.
        let w : n ≡ l = omega arith in
        rw w (rw (put_same st.queue L (record_at T s l ∷ xs) (ancestor T s l) meet) (first_cons (record_at T s l) xs)))

    successor_in : 1 ≤ count (record_at T s l) (st.queue (ancestor T i j))
    successor_in = rw shape (omega (arith, count_cons (record_at T s l) (record_at T i j) (record_at T s l ∷ xs), count_cons (record_at T s l) (record_at T s l) xs, is_same (record_at T s l) (record_at T s l) refl))

    successor_counts :
        (w : ℕ) → (ancestor T i j ≢ 0 → (1 ≤ w) × (w ≤ T.threshold (ancestor T i j))) →
        Counts T (put st.queue (ancestor T i j) (record_at T s l ∷ xs)) (put st.tally (record_at T s l) w)
    successor_counts w ok d r nd h =
        let L = ancestor T i j in
        same_or d L _
        (λ z.
        let g : first (put st.queue L (record_at T s l ∷ xs) d) ≡ suc (record_at T s l) = rw (put_same st.queue L (record_at T s l ∷ xs) d z) (first_cons (record_at T s l) xs) in
        let q : r ≡ record_at T s l = omega arith in
        rw (put_same st.tally (record_at T s l) w r q, z) (ok (λ y. nd (z ∙ y))))
        (λ z.
        let old : first (st.queue d) ≡ suc r = rw (put_other st.queue L (record_at T s l ∷ xs) d z) at h in
        let far : r ≢ record_at T s l = λ y. z (one_queue T tree_laws st inv d L r (first_in r (st.queue d) old) (rw y successor_in)) in
        rw (put_other st.tally (record_at T s l) w r far) (inv.counts d r nd old))

    handed :
        (x : Stage) (t : ℕ → ℕ) → Thread T (put st.queue (ancestor T i j) (record_at T s l ∷ xs)) s x → l < acts (height T s) x →
        ((k : ℕ) → j < k → k < acts (height T i) (st.stage i) → Acted T (put (put st.stage i (down j)) s x) (ancestor T i k) (record_at T i k)) →
        Counts T (put st.queue (ancestor T i j) (record_at T s l ∷ xs)) t →
        Inv T (record { queue = put st.queue (ancestor T i j) (record_at T s l ∷ xs); stage = put (put st.stage i (down j)) s x; tally = t })
    handed x t th a above c =
        let f₁ = put st.stage i (down j) in
        let f = put f₁ s x in
        let same : (n : ℕ) → n ≢ i → n ≢ s → f n ≡ st.stage n = λ n p q. put_other f₁ s x n q ∙ put_other st.stage i (down j) n p in
        popped i j (record_at T s l ∷ xs) f t shape holds
        (put_other f₁ s x i (λ z. apart (sym z)) ∙ put_same st.stage i (down j) i refl)
        (λ n p. same_or n s (Thread T (put st.queue (ancestor T i j) (record_at T s l ∷ xs)) n (f n))
        (λ z. rw z (rw (put_same f₁ s x s refl) th))
        (λ z. rw (same n p z) (bystander i j n (record_at T s l ∷ xs) shape holds p
        (λ b y.
        let u : record_at T n (low (height T n) (st.stage n)) ≡ record_at T s l = omega (arith, first_cons (record_at T s l) xs) in
        z (unique T tree_laws st inv n s (low (height T n) (st.stage n)) l b (omega (arith, successor_acts)) u).0))))
        (λ n p. same_or n s _
        (λ z. rw z (rw (put_same f₁ s x s refl) (omega (arith, successor_acts))))
        (λ z. rw (same n p z) (omega arith)))
        above c

    keeps_release :
        st.stage i ≡ releasing j →
        Inv T (record {
          queue = put st.queue (ancestor T i j) (record_at T s l ∷ xs);
          stage = put (put st.stage i (down j)) s (climb (suc l));
          tally = put st.tally (record_at T s l) 1;
        })
    unfolding low acts reach
    keeps_release e =
        let t : Thread T st.queue i (releasing j) = rw e at (inv.threads i) in
        let real : i < T.threads = t.real (omega arith) in
        let h : j < height T i = omega (arith, t.range) in
        let k = same_height T tree_laws s l i j successor.0 real successor.1 (omega arith) meet in
        handed (climb (suc l)) (put st.tally (record_at T s l) 1)
        (record { real = λ g. successor.0; range = omega arith; heads = successor_heads; stands = λ g. absurd (omega arith) })
        (omega arith)
        (λ n g b. let b' : n < suc j = rw e at b in absurd (omega arith))
        (successor_counts 1 (λ n. (omega arith, tree_laws.positive i j real h)))

    keeps_hand_on :
        st.stage i ≡ holding → j ≤ height T i → (ancestor T i j ≢ 0 → st.tally (record_at T i j) < T.threshold (ancestor T i j)) →
        Inv T (record {
          queue = put st.queue (ancestor T i j) (record_at T s l ∷ xs);
          stage = put (put st.stage i (down j)) s ready;
          tally = put st.tally (record_at T s l) (suc (st.tally (record_at T i j)));
        })
    unfolding low acts reach
    keeps_hand_on e h ok =
        let real : i < T.threads = (inv.threads i).real (rw e (omega arith)) in
        let k = same_height T tree_laws s l i j successor.0 real successor.1 h meet in
        let L = ancestor T i j in
        let heads : Below T (put st.queue L (record_at T s l ∷ xs)) s (suc (height T s)) = λ n b. less_or n (suc l) _
        (λ g. successor_heads n g)
        (λ g.
        let d = n - suc l in
        let nl : n ≡ l + suc d = omega arith in
        let low_i : j + suc d < low (height T i) (st.stage i) = rw e (omega arith) in
        let old : first (st.queue (ancestor T i (j + suc d))) ≡ suc (record_at T i (j + suc d)) = (inv.threads i).heads (j + suc d) low_i in
        let far : ancestor T i (j + suc d) ≢ L = λ z. let u = (one_head T tree_laws st inv i i (j + suc d) j low_i holds z).1 in omega arith in
        rw (nl, follow T s l i j meet (suc d), follow_record_at T s l i j meet d) (rw (put_other st.queue L (record_at T s l ∷ xs) (ancestor T i (j + suc d)) far) old)) in
        handed ready (put st.tally (record_at T s l) (suc (st.tally (record_at T i j))))
        (record { real = λ g. successor.0; range = omega arith; heads = heads; stands = λ g. absurd (omega arith) })
        (omega (arith, successor.1))
        (λ n g b.
        let b' : n < suc (height T i) = rw e at b in
        let d = n - suc j in
        let nj : n ≡ j + suc d = omega arith in
        record {
          thread = s;
          index = l + suc d;
          acting = rw (put_same (put st.stage i (down j)) s ready s refl) (omega arith);
          place = follow T s l i j meet (suc d) ∙ ap (ancestor T i) (sym nj);
          mine = follow_record_at T s l i j meet d ∙ ap (record_at T i) (sym nj);
        })
        (successor_counts (suc (st.tally (record_at T i j))) (λ n. (omega arith, ok n)))

  -- NOBODY STANDS AFTER IT
  pub last_low : (i j : ℕ) → Last T st i j → low (height T i) (st.stage i) ≡ suc j
  unfolding low
  last_low i j (root e h) = rw (e, h)
  last_low i j (lower e) = rw e

  last_acts : (i j : ℕ) → Last T st i j → acts (height T i) (st.stage i) ≡ suc j
  unfolding acts
  last_acts i j (root e h) = rw (e, h)
  last_acts i j (lower e) = rw e

  keeps_let_go :
      (i j : ℕ) → Last T st i j → st.queue (ancestor T i j) ≡ record_at T i j ∷ [] →
      Inv T (record { queue = put st.queue (ancestor T i j) []; stage = put st.stage i (down j); tally = st.tally })
  keeps_let_go i j b shape =
      let L = ancestor T i j in
      let h : j < low (height T i) (st.stage i) = omega (arith, last_low i j b) in
      let f = put st.stage i (down j) in
      popped i j [] f st.tally shape h (put_same st.stage i (down j) i refl)
      (λ n p. rw (put_other st.stage i (down j) n p) (bystander i j n [] shape h p (λ g y. omega (arith, first_nil))))
      (λ n p. rw (put_other st.stage i (down j) n p) (omega arith))
      (λ k g a. absurd (omega (arith, last_acts i j b)))
      (λ d r nd g. same_or d L _
      (λ z. let w : first (put st.queue L [] d) ≡ 0 = rw (put_same st.queue L [] d z) first_nil in absurd (omega arith))
      (λ z. inv.counts d r nd (rw (put_other st.queue L [] d z) at g)))

  -- EVERY MOVE
  -- a thread that stands neither has the lock nor lets go
  pub standing_not :
      (i s l : ℕ) (x : Stage) → st.stage s ≡ queued l → st.stage i ≡ x → low (height T i) x ≡ acts (height T i) x → s ≢ i
  unfolding low acts
  standing_not i s l x e f n z =
      let w : st.stage i ≡ queued l = ap st.stage (sym z) ∙ e in
      let q : x ≡ queued l = sym f ∙ w in
      let b = rw q at n in omega arith

  pub keeps : {e : Event} {st' : State} → Move T st e st' → Inv T st'
  unfolding low acts
  keeps (start i h e) = keeps_start i h e
  keeps (join_empty i j e n z) = keeps_join_empty i j e n z
  keeps (join_root i j e r z) = keeps_join_root i j e r z
  keeps (join_after i j a e f) = keeps_join_after i j a e f
  keeps (enter i e) = keeps_enter i e
  keeps (leave i e) = keeps_leave i e
  keeps (hand_on i j s l xs e h w m ok shape) =
      keeps_hand_on i j s l xs shape (rw e (omega arith)) w m (standing_not i s l holding w e refl) e h ok
  keeps (release i j s l xs e w m shape) =
      keeps_release i j s l xs shape (rw e (omega arith)) w m (standing_not i s l (releasing j) w e refl) e
  keeps (let_go i j b shape) = keeps_let_go i j b shape
