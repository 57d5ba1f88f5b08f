-- The hand-overs with the successor's record named directly, as steps of the table use them.
use mathlib.Core.Path.{◌≡◌}
use mathlib.Core.List.{List, ◌∷◌}
use mathlib.Core.Logic.{◌≢◌}
use Prim.Native.Nat.{ℕ, suc, ◌≤◌, ◌<◌}
use Rattle.model.specs.Trees.{Tree}
use Rattle.model.proofs.Trees.Index.{ancestor, height, record_at}
use Rattle.model.proofs.Lists.{put}
use Rattle.claims.proofs.Queues.Moves.{holding, releasing, ready, climb, queued, down, State, ends, Move, hand_on, release}

module _ (T : Tree) (st : State) (i j s l m : ℕ) (xs : List ℕ) (waits : st.stage s ≡ queued l) (meet : ancestor T s l ≡ ancestor T i j)
    (mine : record_at T s l ≡ m) (shape : st.queue (ancestor T i j) ≡ record_at T i j ∷ m ∷ xs) where
  pub hands_on :
      st.stage i ≡ holding → j ≤ height T i → (ancestor T i j ≢ 0 → st.tally (record_at T i j) < T.threshold (ancestor T i j)) →
      Move T st (ends (ancestor T i j) m) (record {
        queue = put st.queue (ancestor T i j) (m ∷ xs);
        stage = put (put st.stage i (down j)) s ready;
        tally = put st.tally m (suc (st.tally (record_at T i j)));
      })
  hands_on e h ok =
      let shape' : st.queue (ancestor T i j) ≡ record_at T i j ∷ record_at T s l ∷ xs = rw mine shape in
      rw (← mine) (hand_on i j s l xs e h waits meet ok shape')

  pub releases :
      st.stage i ≡ releasing j →
      Move T st (ends (ancestor T i j) m) (record {
        queue = put st.queue (ancestor T i j) (m ∷ xs);
        stage = put (put st.stage i (down j)) s (climb (suc l));
        tally = put st.tally m 1;
      })
  releases e =
      let shape' : st.queue (ancestor T i j) ≡ record_at T i j ∷ record_at T s l ∷ xs = rw mine shape in
      rw (← mine) (release i j s l xs e waits meet shape')
