-- The branches of the rows: when each row of the step table applies, as facts, and its result. Only here are the rows unfolded and their tests split; the proofs by rows match on these branches. If a row differs at the root, its branches for the root and for inner domains are separate, as in the two templates of Listing 1.
use mathlib.Core.Path.{◌≡◌, refl}
use mathlib.Core.Bool.{Bool, true, false}
use mathlib.Core.List.{[], ◌∷◌}
use mathlib.Core.Logic.{◌≢◌, ◌⊎◌, inl, inr}
use Prim.Native.Nat.{ℕ, ◌+◌, ◌-◌, ◌≤◌, ◌<◌}
use lib.Dec.{eqb, ltb}
use borrow.Author.Tests.{eqb-true, eqb-false, eq-eqb, ne_eqb, ltb-true, ltb-false}
use Rattle.model.specs.declared.Place.{Place}
use Rattle.model.specs.declared.Place.TheVariants.{Idle, Prep, Swap, Link, Wait, Inside, Check, Help, Cas, Linger, Grant, Draw, Watch, Raise, Invalid}
use Rattle.model.specs.declared.State.{State}
use Rattle.model.specs.Trees.{Tree, is_ticket, own_record}
use Rattle.model.specs.States.{acquire_parent, wait_word, unlocked, locked, root_word, none, tail, next, status, wrap, with_tail, with_next, with_status, with_place, with_ticket, with_grant}
use Rattle.model.specs.Steps.{other, root_entry, passed_entry, crossed_entry, leaving, unchanged, begins, ends, RowResult, stays, moves, enters, release_place, done_place, release_word, shown_members, prep_with, acquires_parent, swap_at_root, prep_row, swap_row, link_row, wait_row, leave_row, check_row, help_row, cas_row, linger_row, grant_row, draw_row, watch_row, raise_row, row}
use Rattle.model.proofs.Tests.{by_test}

module _ (t : Tree) (i : ℕ) (s : State) where
  -- results of rows: the thread's own record is the tail
  abbrev pub swapped : (domain : ℕ) → State
  swapped l = with_tail l (own_record t i l + 1) s

  -- the thread is in Link after the old tail
  abbrev pub stood_after : (domain : ℕ) → RowResult
  stood_after l = record { kind = other; standing = begins (own_record t i l); state = with_place i (Link l (tail s l - 1)) (swapped l) }

  -- the thread is about to grant its successor a word
  abbrev pub about_to_grant : (domain word : ℕ) → RowResult
  about_to_grant l v = moves (with_place i (Grant l (next s (own_record t i l) - 1) v) s)

  -- the thread has drawn a ticket
  abbrev pub drawn : State
  drawn = with_ticket (wrap (s.ticket + 1)) (with_status (own_record t i 0) s.ticket s)

-- a word that a row writes or grants and that differs at the root
pub data WordAt (l root inner : ℕ) : (word : ℕ) → Type 0 where
  at_root : l ≡ 0 → WordAt l root inner root
  below_root : l ≢ 0 → WordAt l root inner inner

pub word_at : (l a b : ℕ) → WordAt l a b (root_word l a b)
word_at l a b = by_test (WordAt l a b) (eqb l 0) a b (λ z. at_root (eqb-true l 0 z)) (λ z. below_root (eqb-false l 0 z))

pub word_is : {l a b v : ℕ} → WordAt l a b v → v ≡ root_word l a b
word_is {l} (at_root z) = rw (eq-eqb l 0 z)
word_is {l} (below_root z) = rw (ne_eqb l 0 z)

pub data Branch (t : Tree) (i : ℕ) (s : State) : Place → RowResult → Type 0 where
  -- Idle: does what Draw does, or what Prep does at home
  idle_draws : {x : RowResult} → is_ticket t (t.home i) ≡ true → Branch t i s Draw x → Branch t i s Idle x
  idle_prepares : {x : RowResult} → is_ticket t (t.home i) ≡ false → Branch t i s (Prep (t.home i)) x → Branch t i s Idle x
  prepares : (l v : ℕ) → WordAt l locked wait_word v → Branch t i s (Prep l) (prep_with t i l v s)
  -- Swap: the queue was empty, at the root or below it; or the thread is after another
  swap_root : (l : ℕ) → l ≡ 0 → tail s l ≡ none → Branch t i s (Swap l) (swap_at_root t i l (swapped t i s l))
  swap_inner : (l : ℕ) → l ≢ 0 → tail s l ≡ none → Branch t i s (Swap l) (acquires_parent t i l (swapped t i s l))
  swap_joins : (l : ℕ) → tail s l ≢ none → Branch t i s (Swap l) (stood_after t i s l)
  link_writes : (l p : ℕ) → Branch t i s (Link l p) (moves (with_place i (Wait l) (with_next p (own_record t i l + 1) s)))
  -- Wait at the root: locked, or granted
  wait_root_locked : (l : ℕ) → l ≡ 0 → status s (own_record t i l) ≡ locked → Branch t i s (Wait l) (stays s)
  wait_root_granted : (l : ℕ) → l ≡ 0 → status s (own_record t i l) ≢ locked → Branch t i s (Wait l) (enters root_entry i s)
  -- Wait below the root: not granted; granted the domain only, so the parent is next; granted the lock, at home or between home and root
  wait_ungranted : (l : ℕ) → l ≢ 0 → status s (own_record t i l) ≡ wait_word → Branch t i s (Wait l) (stays s)
  wait_acquires : (l : ℕ) → l ≢ 0 → status s (own_record t i l) ≡ acquire_parent → Branch t i s (Wait l) (acquires_parent t i l s)
  wait_passed :
      (l : ℕ) → l ≢ 0 → status s (own_record t i l) ≢ wait_word → status s (own_record t i l) ≢ acquire_parent → l ≡ t.home i →
      Branch t i s (Wait l) (enters passed_entry i s)
  wait_crossed :
      (l : ℕ) → l ≢ 0 → status s (own_record t i l) ≢ wait_word → status s (own_record t i l) ≢ acquire_parent → l ≢ t.home i →
      Branch t i s (Wait l) (enters crossed_entry i s)
  inside_leaves : Branch t i s Inside (record { kind = leaving; standing = unchanged; state = with_place i (release_place t (t.home i)) s })
  -- Check: the lock is passed on, or the parent is released first
  check_passes :
      (l : ℕ) → status s (own_record t i l) < t.threshold l → next s (own_record t i l) ≢ none →
      Branch t i s (Check l) (about_to_grant t i s l (status s (own_record t i l) + 1))
  check_releases :
      (l : ℕ) → (t.threshold l ≤ status s (own_record t i l)) ⊎ (next s (own_record t i l) ≡ none) →
      Branch t i s (Check l) (moves (with_place i (release_place t (t.parent l)) s))
  help_alone : (l : ℕ) → next s (own_record t i l) ≡ none → Branch t i s (Help l) (moves (with_place i (Cas l) s))
  help_linked : (l v : ℕ) → next s (own_record t i l) ≢ none → WordAt l unlocked acquire_parent v → Branch t i s (Help l) (about_to_grant t i s l v)
  cas_last : (l : ℕ) → tail s l ≡ own_record t i l + 1 → Branch t i s (Cas l) (moves (with_place i (done_place t i l) (with_tail l none s)))
  cas_not_last : (l : ℕ) → tail s l ≢ own_record t i l + 1 → Branch t i s (Cas l) (moves (with_place i (Linger l) s))
  linger_alone : (l : ℕ) → next s (own_record t i l) ≡ none → Branch t i s (Linger l) (stays s)
  linger_linked : (l v : ℕ) → next s (own_record t i l) ≢ none → WordAt l unlocked acquire_parent v → Branch t i s (Linger l) (about_to_grant t i s l v)
  grant_writes :
      (l r w : ℕ) →
      Branch t i s (Grant l r w) (record { kind = other; standing = ends (r ∷ []); state = with_place i (done_place t i l) (with_status r w s) })
  draw_shown : s.ticket ≡ s.grant → Branch t i s Draw (enters root_entry i (drawn t i s))
  draw_unshown : s.ticket ≢ s.grant → Branch t i s Draw (record { kind = other; standing = begins (own_record t i 0); state = with_place i Watch (drawn t i s) })
  watch_shown : status s (own_record t i 0) ≡ s.grant → Branch t i s Watch (enters root_entry i s)
  watch_unshown : status s (own_record t i 0) ≢ s.grant → Branch t i s Watch (stays s)
  raise_counts :
      Branch t i s Raise
      (record { kind = other; standing = ends (shown_members t s (wrap (s.grant + 1))); state = with_place i (done_place t i 0) (with_grant (wrap (s.grant + 1)) s) })
  invalid_stays : Branch t i s Invalid (stays s)

module _ (t : Tree) (i : ℕ) (s : State) where
  abbrev Of : Place → RowResult → Type 0
  Of p x = Branch t i s p x

  pub prep_branch : (l : ℕ) → Of (Prep l) (prep_row t i l s)
  unfolding prep_row
  prep_branch l =
      by_test (Of (Prep l)) (eqb l 0) _ _ (λ z. prepares l locked (at_root (eqb-true l 0 z))) (λ z. prepares l wait_word (below_root (eqb-false l 0 z)))

  pub swap_branch : (l : ℕ) → Of (Swap l) (swap_row t i l s)
  unfolding swap_row
  swap_branch l =
      by_test (Of (Swap l)) (eqb (tail s l) none) _ _
      (λ e. let y = eqb-true (tail s l) none e in
      by_test (Of (Swap l)) (eqb l 0) _ _ (λ z. swap_root l (eqb-true l 0 z) y) (λ z. swap_inner l (eqb-false l 0 z) y))
      (λ e. swap_joins l (eqb-false (tail s l) none e))

  pub link_branch : (l p : ℕ) → Of (Link l p) (link_row t i l p s)
  unfolding link_row
  link_branch l p = link_writes l p

  pub wait_branch : (l : ℕ) → Of (Wait l) (wait_row t i l s)
  unfolding wait_row
  wait_branch l =
      let v = status s (own_record t i l) in
      by_test (Of (Wait l)) (eqb l 0) _ _
      (λ z. let root = eqb-true l 0 z in
      by_test (Of (Wait l)) (eqb v locked) _ _ (λ e. wait_root_locked l root (eqb-true v locked e)) (λ e. wait_root_granted l root (eqb-false v locked e)))
      (λ z. let inner = eqb-false l 0 z in
      by_test (Of (Wait l)) (eqb v wait_word) _ _ (λ e. wait_ungranted l inner (eqb-true v wait_word e))
      (λ e. by_test (Of (Wait l)) (eqb v acquire_parent) _ _ (λ f. wait_acquires l inner (eqb-true v acquire_parent f))
      (λ f. by_test (λ k. Of (Wait l) (enters k i s)) (eqb l (t.home i)) passed_entry crossed_entry
      (λ g. wait_passed l inner (eqb-false v wait_word e) (eqb-false v acquire_parent f) (eqb-true l (t.home i) g))
      (λ g. wait_crossed l inner (eqb-false v wait_word e) (eqb-false v acquire_parent f) (eqb-false l (t.home i) g)))))

  pub leave_branch : Of Inside (leave_row t i s)
  unfolding leave_row
  leave_branch = inside_leaves

  pub check_branch : (l : ℕ) → Of (Check l) (check_row t i l s)
  unfolding check_row
  check_branch l = by (ltb count limit) (eqb n none) refl refl
    where
      count : ℕ
      count = status s (own_record t i l)

      limit : ℕ
      limit = t.threshold l

      n : ℕ
      n = next s (own_record t i l)

      by : (b c : Bool) → ltb count limit ≡ b → eqb n none ≡ c → Of (Check l) (check_row t i l s)
      by true false e f = rw (e, f) (check_passes l (ltb-true count limit e) (eqb-false n none f))
      by true true e f = rw (e, f) (check_releases l (inr (eqb-true n none f)))
      by false c e f = rw e (check_releases l (inl (ltb-false count limit e)))

  pub help_branch : (l : ℕ) → Of (Help l) (help_row t i l s)
  unfolding help_row
  help_branch l =
      let n = next s (own_record t i l) in
      by_test (Of (Help l)) (eqb n none) _ _ (λ e. help_alone l (eqb-true n none e))
      (λ e. help_linked l (release_word l) (eqb-false n none e) (word_at l unlocked acquire_parent))

  pub cas_branch : (l : ℕ) → Of (Cas l) (cas_row t i l s)
  unfolding cas_row
  cas_branch l =
      let r = own_record t i l + 1 in
      by_test (Of (Cas l)) (eqb (tail s l) r) _ _ (λ e. cas_last l (eqb-true (tail s l) r e)) (λ e. cas_not_last l (eqb-false (tail s l) r e))

  pub linger_branch : (l : ℕ) → Of (Linger l) (linger_row t i l s)
  unfolding linger_row
  linger_branch l =
      let n = next s (own_record t i l) in
      by_test (Of (Linger l)) (eqb n none) _ _ (λ e. linger_alone l (eqb-true n none e))
      (λ e. linger_linked l (release_word l) (eqb-false n none e) (word_at l unlocked acquire_parent))

  pub grant_branch : (l r w : ℕ) → Of (Grant l r w) (grant_row t i l r w s)
  unfolding grant_row
  grant_branch l r w = grant_writes l r w

  pub draw_branch : Of Draw (draw_row t i s)
  unfolding draw_row
  draw_branch =
      let v = s.ticket in
      by_test (Of Draw) (eqb v s.grant) _ _ (λ e. draw_shown (eqb-true v s.grant e)) (λ e. draw_unshown (eqb-false v s.grant e))

  pub watch_branch : Of Watch (watch_row t i s)
  unfolding watch_row
  watch_branch =
      let v = status s (own_record t i 0) in
      by_test (Of Watch) (eqb v s.grant) _ _ (λ e. watch_shown (eqb-true v s.grant e)) (λ e. watch_unshown (eqb-false v s.grant e))

  pub raise_branch : Of Raise (raise_row t i s)
  unfolding raise_row
  raise_branch = raise_counts

  -- the row of any place
  pub branch : (p : Place) → Of p (row t i p s)
  unfolding row
  branch Idle =
      by_test (Of Idle) (is_ticket t (t.home i)) _ _ (λ e. idle_draws e draw_branch) (λ e. idle_prepares e (prep_branch (t.home i)))
  branch (Prep l) = prep_branch l
  branch (Swap l) = swap_branch l
  branch (Link l p) = link_branch l p
  branch (Wait l) = wait_branch l
  branch Inside = leave_branch
  branch (Check l) = check_branch l
  branch (Help l) = help_branch l
  branch (Cas l) = cas_branch l
  branch (Linger l) = linger_branch l
  branch (Grant l r w) = grant_branch l r w
  branch Draw = draw_branch
  branch Watch = watch_branch
  branch Raise = raise_branch
  branch Invalid = invalid_stays
