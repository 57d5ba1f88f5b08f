-- What a row of the step table does not change: the places of other threads, the words of other records, the grant.
use mathlib.Core.Path.{◌≡◌, refl, sym, ap}
use mathlib.Core.Bool.{true}
use mathlib.Core.Logic.{◌≢◌}
use Prim.Native.Nat.{ℕ, ◌+◌, ◌<◌}
use native.Mathlib.Omega.{arith}
use lib.ListN.{set, length}
use lib.Seq.{get_or-set_other, get_or-set_same}
use Rattle.model.specs.declared.Place.{Place}
use Rattle.model.specs.declared.Place.TheVariants.{Idle, Prep, Swap, Link, Wait, Inside, Check, Help, Cas, Linger, Grant, Draw, Watch, Raise, Invalid}
use Rattle.model.specs.declared.State.{State}
use Rattle.model.specs.Trees.{Tree, is_ticket, own_record}
use Rattle.model.specs.Places.{place_of, place_domain}
use Rattle.model.specs.States.{cohort_start, unlocked, none, next, status, place, wrap}
use Rattle.model.specs.Steps.{RowResult, row}
use Rattle.model.proofs.Branches.{Branch, idle_draws, idle_prepares, prepares, swap_root, swap_inner, swap_joins, link_writes, wait_root_locked, wait_root_granted, wait_ungranted, wait_acquires, wait_passed, wait_crossed, inside_leaves, check_passes, check_releases, help_alone, help_linked, cas_last, cas_not_last, linger_alone, linger_linked, grant_writes, draw_shown, draw_unshown, watch_shown, watch_unshown, raise_counts, invalid_stays, branch}
use Rattle.model.proofs.Lists.{same_or}
use Rattle.model.proofs.Trees.Tickets.{ticket_facts}
use Rattle.model.proofs.Laws.Others.{row_others}

module _ (t : Tree) (s : State) (c : ℕ) where
  -- the thread's own record at a place's domain
  abbrev own : Place → ℕ
  own p = own_record t c (place_domain (t.home c) p)

  -- a record other than the one whose next the row sets to none: in Prep, and from Idle at home
  abbrev pub Unprepared : Place → (record_number : ℕ) → Type 0
  Unprepared p r = ((l : ℕ) → p ≡ Prep l → own_record t c l ≢ r) × (p ≡ Idle → own_record t c (t.home c) ≢ r)

  -- what a row of thread c does not change: status and next of all records but its own there, the granted one and the one in Link; the grant, except in Raise
  record Leaves (p : Place) (n : State) : Type 0 where
    statuses : (r : ℕ) → r ≢ own p → ((l w : ℕ) → p ≢ Grant l r w) → status n r ≡ status s r
    nexts : (r : ℕ) → r ≢ own p → ((l : ℕ) → p ≢ Link l r) → next n r ≡ next s r
    next_some : (r : ℕ) → r < length s.nexts → Unprepared p r → next s r ≢ 0 → next n r ≢ 0
    grant : p ≢ Raise → n.grant ≡ s.grant

  -- no status, next or grant is stored: a stay, or only a place, a tail or the ticket
  placed : (p : Place) {n : State} → n.statuses ≡ s.statuses → n.nexts ≡ s.nexts → n.grant ≡ s.grant → Leaves p n
  placed p f h k = record { statuses = λ r n g. rw f; nexts = λ r n g. rw h; next_some = λ r b u n. rw h n; grant = λ g. k }

  -- the thread's own status is stored
  marked : (p : Place) (v : ℕ) {n : State} → n.statuses ≡ set s.statuses (own p) v → n.nexts ≡ s.nexts → n.grant ≡ s.grant → Leaves p n
  marked p v f h k =
      record {
        statuses = λ r n g. rw f (get_or-set_other s.statuses (own p) r v 0 n);
        nexts = λ r n g. rw h;
        next_some = λ r b u n. rw h n;
        grant = λ g. k;
      }

  -- and its own next
  readied : (p : Place) (v : ℕ) {n : State} → ((r : ℕ) → Unprepared p r → own p ≢ r) → n.statuses ≡ set s.statuses (own p) v → n.nexts ≡ set s.nexts (own p) none → n.grant ≡ s.grant → Leaves p n
  readied p v apart f h k =
      record {
        statuses = λ r n g. rw f (get_or-set_other s.statuses (own p) r v 0 n);
        nexts = λ r n g. rw h (get_or-set_other s.nexts (own p) r none 0 n);
        next_some = λ r b u n. rw (h, get_or-set_other s.nexts (own p) r none 0 (λ z. apart r u (sym z))) n;
        grant = λ g. k;
      }

  -- a draw from Idle is at home, and the home is the root
  at_home : (v : ℕ) → is_ticket t (t.home c) ≡ true → set s.statuses (own_record t c 0) v ≡ set s.statuses (own Idle) v
  at_home v z = ap (λ l. set s.statuses (own_record t c l) v) (sym (ticket_facts t (t.home c) z).1)

  branch_leaves : {p : Place} {x : RowResult} → Branch t c s p x → Leaves p x.state
  branch_leaves (idle_draws z (draw_shown e)) = marked Idle s.ticket (at_home s.ticket z) refl refl
  branch_leaves (idle_draws z (draw_unshown e)) = marked Idle s.ticket (at_home s.ticket z) refl refl
  branch_leaves (idle_prepares z (prepares l v at)) = readied Idle v (λ r u. u.1 refl) refl refl refl
  branch_leaves (prepares l v at) = readied (Prep l) v (λ r u. u.0 l refl) refl refl refl
  branch_leaves (swap_root l z e) = marked (Swap l) unlocked refl refl refl
  branch_leaves (swap_inner l z e) = marked (Swap l) cohort_start refl refl refl
  branch_leaves (swap_joins l e) = placed (Swap l) refl refl refl
  branch_leaves (link_writes l p) =
      record {
        statuses = λ r n g. refl;
        nexts = λ r n g. get_or-set_other s.nexts p r (own_record t c l + 1) 0 (λ e. g l (ap (Link l) (sym e)));
        next_some = λ r b u n. same_or r p _
            (λ z. rw (z, get_or-set_same s.nexts p (own_record t c l + 1) 0 (rw z at b)) (λ e. omega arith))
            (λ z. rw (get_or-set_other s.nexts p r (own_record t c l + 1) 0 z) n);
        grant = λ g. refl;
      }
  branch_leaves (wait_root_locked l z e) = placed (Wait l) refl refl refl
  branch_leaves (wait_root_granted l z e) = placed (Wait l) refl refl refl
  branch_leaves (wait_ungranted l z e) = placed (Wait l) refl refl refl
  branch_leaves (wait_acquires l z e) = marked (Wait l) cohort_start refl refl refl
  branch_leaves (wait_passed l z e f a) = placed (Wait l) refl refl refl
  branch_leaves (wait_crossed l z e f a) = placed (Wait l) refl refl refl
  branch_leaves inside_leaves = placed Inside refl refl refl
  branch_leaves (check_passes l e n) = placed (Check l) refl refl refl
  branch_leaves (check_releases l e) = placed (Check l) refl refl refl
  branch_leaves (help_alone l n) = placed (Help l) refl refl refl
  branch_leaves (help_linked l v n at) = placed (Help l) refl refl refl
  branch_leaves (cas_last l e) = placed (Cas l) refl refl refl
  branch_leaves (cas_not_last l e) = placed (Cas l) refl refl refl
  branch_leaves (linger_alone l n) = placed (Linger l) refl refl refl
  branch_leaves (linger_linked l v n at) = placed (Linger l) refl refl refl
  branch_leaves (grant_writes l p w) =
      record {
        statuses = λ r n g. get_or-set_other s.statuses p r w 0 (λ e. g l w (ap (λ y. Grant l y w) (sym e)));
        nexts = λ r n g. refl;
        next_some = λ r h u n. n;
        grant = λ g. refl;
      }
  branch_leaves (draw_shown e) = marked Draw s.ticket refl refl refl
  branch_leaves (draw_unshown e) = marked Draw s.ticket refl refl refl
  branch_leaves (watch_shown e) = placed Watch refl refl refl
  branch_leaves (watch_unshown e) = placed Watch refl refl refl
  branch_leaves raise_counts =
      record { statuses = λ r n g. refl; nexts = λ r n g. refl; next_some = λ r h u n. n; grant = λ g. absurd (g refl) }
  branch_leaves invalid_stays = placed Invalid refl refl refl

  row_leaves : (p : Place) → Leaves p (row t c p s).state
  row_leaves p = branch_leaves (branch t c s p)

  pub place_kept : (j : ℕ) → j ≢ c → (p : Place) → place (row t c p s).state j ≡ place s j
  place_kept j n p = ap place_of (row_others t c j s n p)

  pub status_kept : (r : ℕ) (p : Place) → r ≢ own_record t c (place_domain (t.home c) p) → ((l w : ℕ) → p ≢ Grant l r w) → status (row t c p s).state r ≡ status s r
  status_kept r p n g = (row_leaves p).statuses r n g

  pub next_kept : (r : ℕ) (p : Place) → r ≢ own_record t c (place_domain (t.home c) p) → ((l : ℕ) → p ≢ Link l r) → next (row t c p s).state r ≡ next s r
  next_kept r p n g = (row_leaves p).nexts r n g

  pub next_left : (r : ℕ) (p : Place) → r < length s.nexts → Unprepared p r → next s r ≢ 0 → next (row t c p s).state r ≢ 0
  next_left r p h u n = (row_leaves p).next_some r h u n

  pub grant_kept : (p : Place) → p ≢ Raise → (row t c p s).state.grant ≡ s.grant
  grant_kept p g = (row_leaves p).grant g

  -- Raise increases the grant
  pub raise_grant : (row t c Raise s).state.grant ≡ wrap (s.grant + 1)
  raise_grant = by (branch t c s Raise)
    where
      by : {x : RowResult} → Branch t c s Raise x → x.state.grant ≡ wrap (s.grant + 1)
      by raise_counts = refl

  -- Link stores the next
  pub link_nexts : (l p : ℕ) → (row t c (Link l p) s).state.nexts ≡ set s.nexts p (own_record t c l + 1)
  link_nexts l p = by (branch t c s (Link l p))
    where
      by : {x : RowResult} → Branch t c s (Link l p) x → x.state.nexts ≡ set s.nexts p (own_record t c l + 1)
      by (link_writes _ _) = refl
