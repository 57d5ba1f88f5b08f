-- The second of a queue becomes its first: the old first lets go, the second has a new stage and count, and all others still fit.
use mathlib.Core.Path.{◌≡◌, refl, sym, ap, ◌∙◌}
use mathlib.Core.Bool.{true, false}
use mathlib.Core.List.{List, ◌∷◌}
use mathlib.Core.Logic.{◌≢◌}
use Prim.Native.Nat.{ℕ, suc, ◌≤◌, ◌<◌}
use native.Mathlib.Omega.{arith}
use Rattle.model.specs.Trees.{Tree, is_ticket}
use Rattle.model.proofs.Trees.Index.{ancestor, height, record_at}
use Rattle.model.proofs.Trees.Accepted.{Accepted}
use Rattle.model.proofs.Trees.Records.{record_injective}
use Rattle.model.proofs.Lists.{same_or, put, put_same, put_other, first_cons}
use Rattle.claims.proofs.Queues.Moves.{Stage, queued, down, low, State}
use Rattle.claims.proofs.Queues.Invariant.{Inv, same_user}
use Rattle.claims.proofs.Queues.Order.{Second}
use Rattle.claims.proofs.Words.Links.{after, after_here, after_past}
use Rattle.claims.proofs.Words.View.{Words}
use Rattle.claims.proofs.Words.Represents.{Linked, Numbered, Counted, Fits, Represents, Apart, left_alone}
use Rattle.claims.proofs.Words.Frame.{Others, below_low, other_record}
use Rattle.claims.proofs.Words.Releasing.{done_at, done_fits}

module _ (t : Tree) (valid : Accepted t) (w : Words) (g : State) (i : ℕ) (h : i < t.threads) (o : Others t w g i) (k : ℕ) (l : k ≤ height t i)
    (first_there : k < low (height t i) (g.stage i)) (r : ℕ) (ys : List ℕ) (shape : g.queue (ancestor t i k) ≡ record_at t i k ∷ r ∷ ys) (b : Second t g (ancestor t i k) r) where
  abbrev L : ℕ
  L = ancestor t i k

  abbrev R : ℕ
  R = record_at t i k

  abbrev S : ℕ
  S = b.thread

  abbrev N : ℕ
  N = b.index

  successor_low : low (height t S) (g.stage S) ≡ N
  unfolding low
  successor_low = rw b.waits refl

  pub successor_other : g.stage i ≢ queued N → S ≢ i
  successor_other n e = n (ap g.stage (sym e) ∙ b.waits)

  module _ (c : ℕ) (x : Stage) (n : g.stage i ≢ queued N) where
    abbrev pub handed_state : State
    handed_state = record { queue = put g.queue L (r ∷ ys); stage = put (put g.stage i (down k)) S x; tally = put g.tally r c }

    -- the counts of all records but the successor's stay
    pub tally_far : (q : ℕ) → q ≢ r → handed_state.tally q ≡ g.tally q
    tally_far q e = put_other g.tally r c q e

    pub own_far : (m : ℕ) → m ≤ low (height t i) (g.stage i) → record_at t i m ≢ r
    own_far m a e = other_record t valid w g i h o S m N b.real (successor_other n) a (omega (arith, successor_low)) (b.mine ∙ sym e)

    others_far : (j m : ℕ) → j < t.threads → j ≢ S → m ≤ low (height t j) (g.stage j) → record_at t j m ≢ r
    others_far j m hj ns a e =
        let f = valid.few_threads in
        let hs = b.real in
        ns (same_user t g.queue j S (omega arith) (omega arith) m N (below_low t valid w g i h o j m a)
        (below_low t valid w g i h o S N (omega (arith, successor_low))) (e ∙ sym b.mine)).0

    -- the words after it: the thread's place changes, and no status but the successor's
    module _ (w' : Words) (done : w'.places i ≡ done_at t i k) (places : (j : ℕ) → j ≢ i → w'.places j ≡ w.places j)
        (statuses : (q : ℕ) → q ≢ r → w'.statuses q ≡ w.statuses q) (nexts : (q : ℕ) → w'.nexts q ≡ w.nexts q) (tails : (d : ℕ) → w'.tails d ≡ w.tails d) where
      handed_apart : (j : ℕ) → j < t.threads → j ≢ i → j ≢ S → Apart t w g w' handed_state j
      unfolding low
      handed_apart j hj ni ns =
          let far : (m : ℕ) → m ≤ low (height t j) (g.stage j) → record_at t j m ≢ r = λ m b. others_far j m hj ns b in
          record {
            same_place = places j ni;
            same_stage = put_other (put g.stage i (down k)) S x j ns ∙ put_other g.stage i (down k) j ni;
            same_status = λ m b. statuses (record_at t j m) (far m b);
            same_tally = λ m b. tally_far (record_at t j m) (far m (omega arith));
            next_set = λ m q b e. nexts (record_at t j m) ∙ e;
            next_none = λ m e z. nexts (record_at t j m) ∙ z;
            same_link = λ m p e nd a. (
              same_or (ancestor t j m) L _
                  (λ y.
                  let a' : after (R ∷ r ∷ ys) p ≡ suc (record_at t j m) = rw (y, shape) at a in
                  let low_j : low (height t j) (g.stage j) ≡ m = ap (low (height t j)) e in
                  let away : p ≢ R = λ q. far m (omega arith) (omega (arith, after_here p R (r ∷ ys) q, first_cons r ys)) in
                  rw (y, put_same g.queue L (r ∷ ys) L refl) (sym (after_past p R (r ∷ ys) away) ∙ a'))
                  (λ y. rw (put_other g.queue L (r ∷ ys) (ancestor t j m) y) a),
              nexts p,
            );
            not_last = λ m b z y. z (sym (tails (ancestor t j m)) ∙ y);
          }

      -- the successor's counts below the index where it stood
      successor_counted : Counted t w g S N → Counted t w' handed_state S N
      successor_counted f m a q =
          let away : record_at t S m ≢ r = λ e. let z = record_injective t valid S b.real m N (omega (arith, b.within)) b.within (e ∙ sym b.mine) in omega arith in
          statuses (record_at t S m) away ∙ f m a q ∙ sym (tally_far (record_at t S m) away)

      pub hand :
          Inv t handed_state → ((d : ℕ) → is_ticket t d ≡ false → Linked w' (handed_state.queue d) d) → (t.ticket_root ≡ true → Numbered w' (handed_state.queue 0)) →
          Counted t w g i k → Counted t w g S N → (Counted t w' handed_state S N → Fits t w' handed_state S (w.places S) x) → Represents t w' handed_state
      hand inv' linked numbered ci cs fit =
          let ns = successor_other n in
          record {
            invariant = inv';
            linked = linked;
            numbered = numbered;
            fits = λ j hj. same_or j i _
                (λ z. rw (z, done, put_other (put g.stage i (down k)) S x i (λ e. ns (sym e)), put_same g.stage i (down k) i refl)
                (done_fits t w' handed_state i k l (λ m b q.
                let away = own_far m (omega (arith, first_there)) in
                statuses (record_at t i m) away ∙ ci m b q ∙ sym (tally_far (record_at t i m) away))))
                (λ z. same_or j S _
                (λ y. rw (y, places S ns, put_same (put g.stage i (down k)) S x S refl) (fit (successor_counted cs)))
                (λ y. left_alone (handed_apart j hj z y) (o.others j hj z)));
          }
