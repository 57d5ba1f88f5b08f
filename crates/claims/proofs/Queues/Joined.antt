-- The invariant when only a thread's stage changes, and when its record joins a queue.
use mathlib.Core.Path.{◌≡◌, refl}
use Prim.Native.Nat.{ℕ, ◌≤◌, ◌<◌}
use native.Mathlib.Omega.{arith}
use Rattle.model.specs.Trees.{Tree}
use Rattle.model.proofs.Trees.Index.{ancestor, height, record_at}
use Rattle.model.proofs.Lists.{same_or, put, put_same, put_other, is_same, is_other, count, grown, grown_first, grown_rest, grown_count, grown_other}
use Rattle.claims.proofs.Queues.Paths.{Laws}
use Rattle.claims.proofs.Queues.Moves.{Stage, climb, low, acts, State}
use Rattle.claims.proofs.Queues.Invariant.{Thread, Acted, Counts, Inv, fresh}

-- THREADS ACT AT NO FEWER INDICES
acted_more :
    (T : Tree) (f g : ℕ → Stage) (d m : ℕ) → ((n : ℕ) → acts (height T n) (f n) ≤ acts (height T n) (g n)) → Acted T f d m → Acted T g d m
acted_more T f g d m h a =
    record { thread = a.thread; index = a.index; acting = omega (arith, h a.thread, a.acting); place = a.place; mine = a.mine }

module _ (T : Tree) (tree_laws : Laws T) (st : State) (inv : Inv T st) where
  grown_thread : (L m n : ℕ) (x : Stage) → Thread T st.queue n x → Thread T (grown st.queue L m) n x
  grown_thread L m n x t =
      record {
        real = t.real;
        range = t.range;
        heads = λ k h. grown_first st.queue L m (ancestor T n k) (record_at T n k) (t.heads k h);
        stands = λ h. grown_rest st.queue L m (ancestor T n (low (height T n) x)) (record_at T n (low (height T n) x)) (t.stands h);
      }

  -- ONLY A STAGE CHANGES, and the thread acts at no fewer indices
  pub restaged :
      (i : ℕ) (x : Stage) → Thread T st.queue i x → acts (height T i) (st.stage i) ≤ acts (height T i) x →
      Inv T (record { queue = st.queue; stage = put st.stage i x; tally = st.tally })
  restaged i x t a =
      record {
        threads = λ n. same_or n i (Thread T st.queue n (put st.stage i x n))
            (λ z. rw z (rw (put_same st.stage i x i refl) t))
            (λ z. rw (put_other st.stage i x n z) (inv.threads n));
        acted = λ d m h. acted_more T st.stage (put st.stage i x) d m
            (λ n. same_or n i _
            (λ z. rw z (rw (put_same st.stage i x i refl) a))
            (λ z. rw (put_other st.stage i x n z) (omega arith)))
            (inv.acted d m h);
        once = inv.once;
        counts = inv.counts;
      }

  -- A THREAD JOINS at index j
  pub joined :
      (i j : ℕ) (x : Stage) (t : ℕ → ℕ) → st.stage i ≡ climb j → Thread T (grown st.queue (ancestor T i j) (record_at T i j)) i x → j < acts (height T i) x →
      Counts T (grown st.queue (ancestor T i j) (record_at T i j)) t →
      Inv T (record { queue = grown st.queue (ancestor T i j) (record_at T i j); stage = put st.stage i x; tally = t })
  unfolding acts
  joined i j x t e th a c =
      let L = ancestor T i j in
      let m = record_at T i j in
      let f = put st.stage i x in
      let more : (n : ℕ) → acts (height T n) (st.stage n) ≤ acts (height T n) (f n) = λ n. same_or n i _
      (λ z. rw z (rw (e, put_same st.stage i x i refl) (omega arith)))
      (λ z. rw (put_other st.stage i x n z) (omega arith)) in
      let mine : Acted T f L m = record { thread = i; index = j; acting = rw (put_same st.stage i x i refl) a; place = refl; mine = refl } in
      record {
        threads = λ n. same_or n i (Thread T (grown st.queue L m) n (f n))
            (λ z. rw z (rw (put_same st.stage i x i refl) th))
            (λ z. rw (put_other st.stage i x n z) (grown_thread L m n (st.stage n) (inv.threads n)));
        acted = λ d r h. same_or d L _
            (λ z. same_or r m _
            (λ w. rw (z, w) mine)
            (λ w. acted_more T st.stage f d r more (inv.acted d r (omega (arith, grown_count st.queue L m d r z, is_other r m w)))))
            (λ z. acted_more T st.stage f d r more (inv.acted d r (omega (arith, grown_other st.queue L m d r z))));
        once = λ d r. same_or d L _
            (λ z. same_or r m _
            (λ w.
            let o : count r (st.queue d) ≡ 0 = rw w (fresh T tree_laws st inv i j d e) in
            omega (arith, grown_count st.queue L m d r z, is_same r m w))
            (λ w. omega (arith, grown_count st.queue L m d r z, is_other r m w, inv.once d r)))
            (λ z. omega (arith, grown_other st.queue L m d r z, inv.once d r));
        counts = c;
      }
