-- Every step of the table from a state that represents queues is a move of the queues or none; the move shows what the step shows and makes first the records that the step gives.
use mathlib.Core.Path.{◌≡◌, refl, sym, ap, ◌∙◌}
use mathlib.Core.Bool.{Bool, true, false, cond}
use Prim.Native.Nat.{ℕ, ◌<◌}
use native.Mathlib.Omega.{arith}
use Rattle.model.specs.declared.Place.{Place}
use Rattle.model.specs.declared.Place.TheVariants.{Idle}
use Rattle.model.specs.declared.State.{State as WordState}
use Rattle.model.specs.Trees.{Tree, is_ticket, is_member, is_leaf}
use Rattle.model.specs.Places.{place_domain}
use Rattle.model.specs.States.{place}
use Rattle.model.specs.Steps.{RowResult, step_from, draw_row, prep_row, row}
use Rattle.model.specs.WellFormed.{queue_on_path, good_place}
use Rattle.model.specs.Laws.{SixteenBit}
use Rattle.model.specs.Tenures.{taken_from, given}
use Rattle.model.proofs.Tests.{and_both}
use Rattle.model.proofs.Trees.Index.{ancestor, height}
use Rattle.model.proofs.Trees.Accepted.{Accepted, leaf_childless}
use Rattle.model.proofs.Trees.Tickets.{ticket_facts, queue_facts}
use Rattle.model.proofs.Trees.Paths.{ancestor_home, ancestor_root, ancestor_zero}
use Rattle.model.proofs.Lists.{put_same}
use Rattle.claims.proofs.Queues.Moves.{Stage, out, climb, queued, State}
use Rattle.claims.proofs.Queues.Changes.{started_by, begun, change_shown, change_firsts}
use Rattle.claims.proofs.Words.View.{words_in, Room}
use Rattle.claims.proofs.Words.Represents.{Fits, at_idle, at_prep, at_swap, at_link, at_wait, at_woken, at_ready, at_inside, at_check, at_pass, at_help, at_cas, at_linger, at_grant, at_draw, at_watch, at_shown, at_raise, Represents}
use Rattle.claims.proofs.Words.Frame.{Others, others_of}
use Rattle.claims.proofs.Words.Outcome.{Outcome}
use Rattle.claims.proofs.Words.Acquiring.{prep_outcome, swap_outcome, link_outcome, wait_outcome, woken_outcome, ready_outcome, started}
use Rattle.claims.proofs.Words.Drawing.{draw_outcome, watch_outcome, shown_outcome}
use Rattle.claims.proofs.Words.Raising.{raise_outcome}
use Rattle.claims.proofs.Words.Leaving.{leave_outcome, check_outcome, help_outcome, cas_outcome, linger_outcome, grant_outcome, pass_outcome}

-- if the tree has two domains, no thread's home is the root
home_lower : (t : Tree) → Accepted t → 1 < t.domains → (i : ℕ) → i < t.threads → t.home i ≡ 0 → ⊥
home_lower t valid two i h z =
    let leaf : is_leaf t 0 ≡ true = ap (is_leaf t) (sym z) ∙ valid.home_leaf i h in
    let low = valid.parent_lower 1 (omega arith) two in
    leaf_childless t 0 1 leaf (omega arith) two (omega arith)

module _ (t : Tree) (valid : Accepted t) (bits : SixteenBit t) (s : WordState) (room : Room s) (g : State) (rep : Represents t (words_in s) g)
    (good : (j : ℕ) → j < t.threads → good_place t j (place s j) ≡ true) (i : ℕ) (h : i < t.threads) where
  abbrev o : Others t (words_in s) g i
  o = others_of rep i

  -- IDLE: the thread starts, and does what Draw does, or what Prep does at home
  begin :
      (e : g.stage i ≡ out) {d : ℕ} {p : Place} (x : RowResult) → Outcome t (started_by g i) i d p x →
      (1 < t.domains → given t (step_from t i p x) ≡ given t (step_from t i Idle x)) → Outcome t g i d Idle x
  unfolding change_shown change_firsts
  begin e x y same =
      record { state = y.state; room = y.room; represents = y.represents; change = begun i h e y.change; shows = y.shows; gives = λ two. y.gives two ∙ same two }

  idle_by : g.stage i ≡ out → (b : Bool) → is_ticket t (t.home i) ≡ b → Outcome t g i (t.home i) Idle (cond b (draw_row t i s) (prep_row t i (t.home i) s))
  unfolding ancestor given taken_from
  idle_by e true z =
      let f = ticket_facts t (t.home i) z in
      let top : 0 ≡ height t i = ancestor_zero t valid i h 0 (omega arith) (ancestor_home t i ∙ f.1) in
      begin e _
      (draw_outcome t valid s room (started_by g i) i h (started t valid s room g i h o e) f.0 0 top (t.home i) (ancestor_home t i)
      (put_same g.stage i (climb 0) i refl) (λ m b q. absurd (omega arith))) (λ two. absurd (home_lower t valid two i h f.1))
  idle_by e false z =
      begin e _
      (prep_outcome t valid s room (started_by g i) i h (started t valid s room g i h o e) 0 (omega arith)
      (put_same g.stage i (climb 0) i refl) (λ m b q. absurd (omega arith))) (λ two. refl)

  -- a place in a queue is not at a ticket root
  queue_there : (k : ℕ) → queue_on_path t i (ancestor t i k) ≡ true → is_ticket t (ancestor t i k) ≡ false
  queue_there k q = (queue_facts t i (ancestor t i k) q).1

  row_outcome :
      {p : Place} {x : Stage} → place s i ≡ p → good_place t i p ≡ true → g.stage i ≡ x → Fits t (words_in s) g i p x →
      Outcome t g i (place_domain (t.home i) p) p (row t i p s)
  unfolding row good_place
  row_outcome y q e at_idle = idle_by e _ refl
  row_outcome y q e (at_prep k l c) = prep_outcome t valid s room g i h o k l e c
  row_outcome y q e (at_swap k l c n v) = swap_outcome t valid s room g i h o k l (queue_there k q) e c n v
  row_outcome y q e (at_link k p l c d a n v) = link_outcome t valid s room g i h o k p l d e c a n v
  row_outcome y q e (at_wait k p l c d a n v) = wait_outcome t valid s room g i h o rep k l v
  row_outcome y q e (at_woken k b c v z) = woken_outcome t valid s room g i h o k b e c v z
  row_outcome y q e (at_ready k l c v p) = ready_outcome t valid s room g i h o bits k l e c v
  row_outcome y q e (at_inside c) = leave_outcome t valid s room g i h o e c
  row_outcome y q e (at_check k b c) = check_outcome t valid s room g i h o k b e c
  row_outcome y q e (at_pass k r v b c n z f) = pass_outcome t valid s room g i h o k r v b e c n z f
  row_outcome y q e (at_help k l c) = help_outcome t valid s room g i h o k l (queue_there k q) e c
  row_outcome y q e (at_cas k l c) = cas_outcome t valid s room g i h o k l (queue_there k q) e c
  row_outcome y q e (at_linger k l c n) = linger_outcome t valid s room g i h o k l (queue_there k q) e c rep
  row_outcome y q e (at_grant k r l c n) =
      grant_outcome t valid s room g i h o k l (queue_there k (and_both (queue_on_path t i (ancestor t i k)) (is_member t (ancestor t i k) r) q).0) e c r n
  row_outcome y q e (at_draw k l r c) = draw_outcome t valid s room g i h o r k l 0 (ap (ancestor t i) l ∙ ancestor_root t valid i h) e c
  row_outcome y q e (at_watch k l r c) = watch_outcome t valid s room g i h o r rep (e ∙ ap queued l)
  row_outcome y q e (at_shown r c) = shown_outcome t valid s room g i h o r e c
  row_outcome y q e (at_raise r c) = raise_outcome t valid s room g i h o good r y e c

  pub step_outcome : Outcome t g i (place_domain (t.home i) (place s i)) (place s i) (row t i (place s i) s)
  unfolding words_in
  step_outcome = row_outcome refl (good i h) refl (rep.fits i h)
