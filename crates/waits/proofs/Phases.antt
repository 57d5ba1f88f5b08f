-- From the beginning of an attempt to its entry a thread is acquiring, and no step begins another attempt.
use mathlib.Core.Path.{◌≡◌, refl, sym, ◌∙◌}
use mathlib.Core.Bool.{Bool, true, false, ◌&&◌, not, true≢false}
use mathlib.Core.Logic.{◌≢◌}
use Prim.Native.Nat.{ℕ, ◌-◌, ◌+◌, ◌<◌}
use native.Mathlib.Omega.{arith}
use lib.Dec.{eqb}
use borrow.Author.Tests.{eq-eqb, ne_eqb, eqb-true, not-true}
use Rattle.model.specs.declared.Place.{Place}
use Rattle.model.specs.declared.Place.TheVariants.{Idle, Prep, Swap, Link, Wait, Inside, Check, Help, Cas, Linger, Grant, Draw, Watch, Raise, Invalid}
use Rattle.model.specs.declared.State.{State}
use Rattle.model.specs.Trees.{Tree, is_ticket, is_child, is_leaf, child, own_record}
use Rattle.model.specs.Places.{words_of}
use Rattle.model.specs.States.{tail, next, status, store_numbers}
use Rattle.model.specs.Steps.{is_entry, RowResult, acquired_place, release_place, done_place, row}
use Rattle.model.specs.WellFormed.{good_place}
use Rattle.model.proofs.Tests.{by_test, any_none}
use Rattle.model.proofs.Branches.{Branch, idle_draws, idle_prepares, prepares, swap_root, swap_inner, swap_joins, link_writes, wait_root_locked, wait_root_granted, wait_ungranted, wait_acquires, wait_passed, wait_crossed, inside_leaves, check_passes, check_releases, help_alone, help_linked, cas_last, cas_not_last, linger_alone, linger_linked, grant_writes, draw_shown, draw_unshown, watch_shown, watch_unshown, raise_counts, invalid_stays, branch}
use Rattle.model.proofs.Trees.Accepted.{Accepted}
use Rattle.model.proofs.Trees.Paths.{path_real}
use Rattle.model.proofs.Trees.Tickets.{queue_facts}
use Rattle.waits.specs.Attempts.{swaps_at, draws, begins_from}

-- acquiring: after the beginning of an attempt, and before its entry
unfoldable pub on_way : Tree → (thread : ℕ) → Place → Bool
on_way t i Idle = false
on_way t i (Prep l) = not (eqb l (t.home i))
on_way t i (Swap l) = not (eqb l (t.home i))
on_way t i (Link l p) = true
on_way t i (Wait l) = true
on_way t i Inside = false
on_way t i (Check l) = false
on_way t i (Help l) = false
on_way t i (Cas l) = false
on_way t i (Linger l) = false
on_way t i (Grant l r w) = false
on_way t i Draw = not (is_ticket t (t.home i))
on_way t i Watch = true
on_way t i Raise = false
on_way t i Invalid = false

-- what a step of a thread from a place does to its attempt
pub data Phase (t : Tree) (i : ℕ) (s : State) (p : Place) (x : RowResult) : Type 0 where
  rests : is_entry x.kind ≡ false → x.state ≡ s → begins_from t i p ≡ false → Phase t i s p x
  goes : (q : Place) → is_entry x.kind ≡ false → x.state.places ≡ store_numbers s.places i (words_of q) → begins_from t i p ≡ false → on_way t i q ≡ on_way t i p → Phase t i s p x
  sets_out :
      (q : Place) → is_entry x.kind ≡ false → x.state.places ≡ store_numbers s.places i (words_of q) → begins_from t i p ≡ true → on_way t i p ≡ false → on_way t i q ≡ true →
      Phase t i s p x
  arrives : is_entry x.kind ≡ true → x.state.places ≡ store_numbers s.places i (words_of Inside) → begins_from t i p ≡ false → on_way t i p ≡ true → Phase t i s p x
  at_once : is_entry x.kind ≡ true → x.state.places ≡ store_numbers s.places i (words_of Inside) → begins_from t i p ≡ true → on_way t i p ≡ false → Phase t i s p x

module _ (t : Tree) (valid : Accepted t) (i : ℕ) (h : i < t.threads) where
  -- a home has no child domain, so no parent is a home; and if there is a domain below the root, no home is the root
  upward : (l : ℕ) → 0 < l → l < t.domains → t.parent l ≢ t.home i
  unfolding is_leaf is_child
  upward l p r e =
      let none_is = any_none t.domains (is_child t (t.home i)) (not-true _ (valid.home_leaf i h)) l r in
      true≢false (sym (rw (ne_eqb l 0 (omega arith), eq-eqb (t.parent l) (t.home i) e)) ∙ none_is)

  low : (l : ℕ) → 0 < l → l < t.domains → is_ticket t (t.home i) ≡ false
  unfolding is_ticket
  low l p r =
      let n : t.home i ≢ 0 = λ z. upward 1 (omega arith) (omega arith) (let q = valid.parent_lower 1 (omega arith) (omega arith) in omega arith) in
      rw (ne_eqb (t.home i) 0 n) (none_and t.ticket_root)
    where
      none_and : (b : Bool) → (b && false) ≡ false
      none_and true = refl
      none_and false = refl

  -- a place that begins no attempt
  begins_none : (p : Place) → draws p ≡ false → swaps_at (t.home i) p ≡ false → begins_from t i p ≡ false
  unfolding begins_from
  begins_none p d w = by_test (λ (b : Bool). b ≡ false) (is_ticket t (t.home i)) (draws p) (swaps_at (t.home i) p) (λ _. d) (λ _. w)

  released : (d : ℕ) → on_way t i (release_place t d) ≡ false
  unfolding on_way
  released d = by_test (λ (q : Place). on_way t i q ≡ false) (is_ticket t d) Raise _ (λ _. refl) (λ _. by_test (λ (q : Place). on_way t i q ≡ false) (eqb d 0) (Help d) (Check d) (λ _. refl) (λ _. refl))

  finished_there : (l : ℕ) → on_way t i (done_place t i l) ≡ false
  unfolding on_way
  finished_there l = by_test (λ (q : Place). on_way t i q ≡ false) (eqb l (t.home i)) Idle (Help (child t i l)) (λ _. refl) (λ _. refl)

  acquired_on : (l : ℕ) → 0 < l → l < t.domains → on_way t i (acquired_place t l) ≡ true
  unfolding on_way
  acquired_on l p r =
      by_test (λ (q : Place). on_way t i q ≡ true) (is_ticket t (t.parent l)) Draw (Prep (t.parent l)) (λ _. rw (low l p r))
      (λ _. rw (ne_eqb (t.parent l) (t.home i) (upward l p r)))

  module _ (s : State) where
    abbrev Of : Place → RowResult → Type 0
    Of p x = Phase t i s p x

    -- what Draw does, from Idle or from Draw, whether it begins an attempt or not
    draw_phase : (p : Place) (b : Bool) → begins_from t i p ≡ b → on_way t i p ≡ not b → {x : RowResult} → Branch t i s Draw x → Of p x
    unfolding on_way is_entry
    draw_phase p true f g (draw_shown e) = at_once refl refl f g
    draw_phase p true f g (draw_unshown e) = sets_out Watch refl refl f g refl
    draw_phase p false f g (draw_shown e) = arrives refl refl f g
    draw_phase p false f g (draw_unshown e) = goes Watch refl refl f (sym g)

    own_draw : {x : RowResult} → Branch t i s Draw x → Of Draw x
    unfolding begins_from on_way draws swaps_at
    own_draw {x} b = by (is_ticket t (t.home i)) refl
      where
        by : (c : Bool) → is_ticket t (t.home i) ≡ c → Of Draw x
        by true e = draw_phase Draw true (rw e) (rw e) b
        by false e = draw_phase Draw false (rw e) (rw e) b

    -- a Swap at home begins an attempt
    swap_phase : (l : ℕ) → good_place t i (Swap l) ≡ true → (b : Bool) → eqb l (t.home i) ≡ b → {x : RowResult} → Branch t i s (Swap l) x → Of (Swap l) x
    unfolding good_place begins_from on_way is_entry draws swaps_at
    swap_phase l good true e = by
      where
        facts : (is_ticket t l ≡ false) × (l < t.domains)
        facts = let q = queue_facts t i l good in (q.1, path_real t valid i h l q.0)

        starts : begins_from t i (Swap l) ≡ true
        starts = let same = eqb-true l (t.home i) e in rw (← same, facts.0, eq-eqb l l refl)

        before : on_way t i (Swap l) ≡ false
        before = rw e

        by : {x : RowResult} → Branch t i s (Swap l) x → Of (Swap l) x
        by (swap_root _ z n) = at_once refl refl starts before
        by (swap_inner _ z n) = sets_out (acquired_place t l) refl refl starts before (acquired_on l (omega arith) facts.1)
        by (swap_joins _ n) = sets_out (Link l (tail s l - 1)) refl refl starts before refl
    swap_phase l good false e = by
      where
        starts : begins_from t i (Swap l) ≡ false
        starts = begins_none (Swap l) refl e

        before : on_way t i (Swap l) ≡ true
        before = rw e

        by : {x : RowResult} → Branch t i s (Swap l) x → Of (Swap l) x
        by (swap_root _ z n) = arrives refl refl starts before
        by (swap_inner _ z n) =
            goes (acquired_place t l) refl refl starts (acquired_on l (omega arith) (path_real t valid i h l (queue_facts t i l good).0) ∙ sym before)
        by (swap_joins _ n) = goes (Link l (tail s l - 1)) refl refl starts (sym before)

    -- the row of a good place
    branch_phase : {p : Place} {x : RowResult} → good_place t i p ≡ true → Branch t i s p x → Of p x
    unfolding good_place begins_from on_way is_entry draws swaps_at
    branch_phase g (idle_draws e b) = draw_phase Idle true (rw e) refl b
    branch_phase g (idle_prepares e (prepares l v c)) = goes (Swap l) refl refl (rw e) (rw (eq-eqb l l refl))
    branch_phase g (prepares l v c) = goes (Swap l) refl refl (begins_none (Prep l) refl refl) refl
    branch_phase g (swap_root l z n) = swap_phase l g _ refl (swap_root l z n)
    branch_phase g (swap_inner l z n) = swap_phase l g _ refl (swap_inner l z n)
    branch_phase g (swap_joins l n) = swap_phase l g _ refl (swap_joins l n)
    branch_phase g (link_writes l p) = goes (Wait l) refl refl (begins_none (Link l p) refl refl) refl
    branch_phase g (wait_root_locked l z v) = rests refl refl (begins_none (Wait l) refl refl)
    branch_phase g (wait_root_granted l z v) = arrives refl refl (begins_none (Wait l) refl refl) refl
    branch_phase g (wait_ungranted l z v) = rests refl refl (begins_none (Wait l) refl refl)
    branch_phase g (wait_acquires l z v) =
        goes (acquired_place t l) refl refl (begins_none (Wait l) refl refl) (acquired_on l (omega arith) (path_real t valid i h l (queue_facts t i l g).0))
    branch_phase g (wait_passed l z v y a) = arrives refl refl (begins_none (Wait l) refl refl) refl
    branch_phase g (wait_crossed l z v y a) = arrives refl refl (begins_none (Wait l) refl refl) refl
    branch_phase g inside_leaves = goes (release_place t (t.home i)) refl refl (begins_none Inside refl refl) (released (t.home i))
    branch_phase g (check_passes l v n) =
        goes (Grant l (next s (own_record t i l) - 1) (status s (own_record t i l) + 1)) refl refl (begins_none (Check l) refl refl) refl
    branch_phase g (check_releases l e) = goes (release_place t (t.parent l)) refl refl (begins_none (Check l) refl refl) (released (t.parent l))
    branch_phase g (help_alone l n) = goes (Cas l) refl refl (begins_none (Help l) refl refl) refl
    branch_phase g (help_linked l v n c) = goes (Grant l (next s (own_record t i l) - 1) v) refl refl (begins_none (Help l) refl refl) refl
    branch_phase g (cas_last l e) = goes (done_place t i l) refl refl (begins_none (Cas l) refl refl) (finished_there l)
    branch_phase g (cas_not_last l e) = goes (Linger l) refl refl (begins_none (Cas l) refl refl) refl
    branch_phase g (linger_alone l n) = rests refl refl (begins_none (Linger l) refl refl)
    branch_phase g (linger_linked l v n c) = goes (Grant l (next s (own_record t i l) - 1) v) refl refl (begins_none (Linger l) refl refl) refl
    branch_phase g (grant_writes l r w) = goes (done_place t i l) refl refl (begins_none (Grant l r w) refl refl) (finished_there l)
    branch_phase g (draw_shown e) = own_draw (draw_shown e)
    branch_phase g (draw_unshown e) = own_draw (draw_unshown e)
    branch_phase g (watch_shown e) = arrives refl refl (begins_none Watch refl refl) refl
    branch_phase g (watch_unshown e) = rests refl refl (begins_none Watch refl refl)
    branch_phase g raise_counts = goes (done_place t i 0) refl refl (begins_none Raise refl refl) (finished_there 0)
    branch_phase g invalid_stays = rests refl refl (begins_none Invalid refl refl)

    pub phase : (p : Place) → good_place t i p ≡ true → Of p (row t i p s)
    phase p g = branch_phase g (branch t i s p)
