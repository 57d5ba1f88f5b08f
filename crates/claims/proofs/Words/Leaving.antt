-- The rows from Inside to Idle as moves of the queues.
use mathlib.Core.Path.{◌≡◌, refl, sym, ◌∙◌}
use mathlib.Core.Bool.{Bool, true, false, cond}
use mathlib.Core.List.{[]}
use mathlib.Core.Logic.{◌≢◌}
use Prim.Native.Nat.{ℕ, suc, ◌+◌, ◌-◌, ◌≤◌, ◌<◌}
use native.Mathlib.Omega.{arith}
use lib.Dec.{eqb}
use borrow.Author.Tests.{eqb-true, eqb-false}
use Rattle.model.specs.declared.Place.{Place}
use Rattle.model.specs.declared.Place.TheVariants.{Inside, Check, Help, Cas, Linger, Grant, Raise}
use Rattle.model.specs.declared.State.{State as WordState}
use Rattle.model.specs.Trees.{Tree, is_ticket, own_record}
use Rattle.model.specs.States.{acquire_parent, unlocked, next, status}
use Rattle.model.specs.Steps.{RowResult, Step, is_entry, release_place, release_word, leave_row, check_row, help_row, cas_row, linger_row, grant_row}
use Rattle.model.specs.Runs.{ended_in}
use Rattle.model.specs.Tenures.{taken_from, given}
use Rattle.model.proofs.Branches.{about_to_grant, WordAt, word_at, word_is, Branch, inside_leaves, check_passes, check_releases, help_alone, help_linked, cas_last, cas_not_last, linger_alone, linger_linked, grant_writes, leave_branch, check_branch, help_branch, cas_branch, linger_branch, grant_branch, at_root, below_root}
use Rattle.model.proofs.Trees.Index.{ancestor, height, record_at}
use Rattle.model.proofs.Trees.Accepted.{Accepted}
use Rattle.model.proofs.Trees.Tickets.{ticket_facts, ticket_lower}
use Rattle.model.proofs.Trees.Paths.{ancestor_real, ancestor_inner, ancestor_zero, ancestor_not_root, ancestor_parent_of, root_test}
use Rattle.model.proofs.Trees.Records.{own_record_at}
use Rattle.model.proofs.Lists.{put, put_same, put_other}
use Rattle.claims.proofs.Queues.Paths.{laws}
use Rattle.claims.proofs.Queues.Moves.{Stage, inside, holding, low, State, leave, let_go}
use Rattle.claims.proofs.Queues.Changes.{unmoved, moved, event_shown, change_shown, made_first, change_firsts, made_ends}
use Rattle.claims.proofs.Queues.Keeps.{keeps}
use Rattle.claims.proofs.Words.View.{Words, words_in, Room, status_to, place_to}
use Rattle.claims.proofs.Words.Represents.{Counted, letting_go, letting_go_root, letting_go_lower, letting_go_low, Fits, at_check, at_pass, at_help, at_cas, at_linger, at_grant, at_raise, Represents}
use Rattle.claims.proofs.Words.Frame.{Others, replaced}
use Rattle.claims.proofs.Words.Releasing.{done_at, done_place_at, lone, last_there, vacate}
use Rattle.claims.proofs.Words.Granting.{Granted, hand_lock, hand_domain}
use Rattle.claims.proofs.Words.Outcome.{ends_shown, standing_shown, entry_shown, row_shown, Outcome, outcome, placed, status_placed, tail_placed}

module _ (t : Tree) (valid : Accepted t) (s : WordState) (room : Room s) (g : State) (i : ℕ) (h : i < t.threads) (o : Others t (words_in s) g i) where
  abbrev w : Words
  w = words_in s

  few : i < 256
  few = omega (arith, valid.few_threads)

  -- only the place changes, and no queue changes
  pub stands_still : (p : Place) (x : Stage) → g.stage i ≡ x → Fits t (place_to i p w) g i p x → Represents t (place_to i p w) g
  stands_still p x e f = replaced t valid w g i h o g p x o.invariant refl refl e (λ j n. refl) f

  -- the place from which the domain at an index is released
  pub release_fits :
      (w' : Words) (g' : State) (k : ℕ) → k ≤ height t i → Counted t w' g' i (height t i) → (r b : Bool) → is_ticket t (ancestor t i k) ≡ r →
      eqb (ancestor t i k) 0 ≡ b → Fits t w' g' i (cond r Raise (cond b (Help (ancestor t i k)) (Check (ancestor t i k)))) holding
  release_fits w' g' k l c true b q e = at_raise (ticket_facts t (ancestor t i k) q).0 c
  release_fits w' g' k l c false true q e =
      let z : k ≡ height t i = eqb-true k (height t i) (sym (root_test t valid i h k l) ∙ e) in
      rw (← letting_go_root (height t i) k z) (at_help k l (λ m b q. c m q q))
  release_fits w' g' k l c false false q e =
      let z = eqb-false k (height t i) (sym (root_test t valid i h k l) ∙ e) in
      at_check k (omega arith) c

  -- INSIDE
  abbrev pub left_state : State
  left_state = record { queue = g.queue; stage = put g.stage i holding; tally = g.tally }

  pub leave_outcome : g.stage i ≡ inside → Counted t w g i (height t i) → Outcome t g i (t.home i) Inside (leave_row t i s)
  unfolding row_shown standing_shown entry_shown is_entry ancestor given taken_from ended_in change_shown change_firsts event_shown made_first
  leave_outcome e c = by (leave_branch t i s)
    where
      p : Place
      p = release_place t (t.home i)

      by : {x : RowResult} → Branch t i s Inside x → Outcome t g i (t.home i) Inside x
      by inside_leaves =
          outcome _ left_state (placed s room i few p)
          (replaced t valid w g i h o left_state p holding (keeps t (laws t valid) g o.invariant (leave i e)) refl refl (put_same g.stage i holding i refl)
          (λ j n. put_other g.stage i holding j n) (release_fits (place_to i p w) left_state 0 (omega arith) c _ _ refl refl)) (moved (leave i e)) refl refl

  -- CHECK
  pub check_outcome : (k : ℕ) → k < height t i → g.stage i ≡ holding → Counted t w g i (height t i) → Outcome t g i (ancestor t i k) (Check (ancestor t i k)) (check_row t i (ancestor t i k) s)
  unfolding row_shown standing_shown entry_shown is_entry words_in given taken_from ended_in change_shown change_firsts
  check_outcome k b e c = by (check_branch t i s (ancestor t i k))
    where
      own : own_record t i (ancestor t i k) ≡ record_at t i k
      own = own_record_at t valid i h k (omega arith)

      by : {x : RowResult} → Branch t i s (Check (ancestor t i k)) x → Outcome t g i (ancestor t i k) (Check (ancestor t i k)) x
      by (check_passes _ less some) =
          let n = next s (record_at t i k) in
          let v = status s (record_at t i k) in
          let less' : v < t.threshold (ancestor t i k) = rw own at less in
          let some' : n ≢ 0 = rw own at some in
          let p = Grant (ancestor t i k) (n - 1) (v + 1) in
          let count : v ≡ g.tally (record_at t i k) = c k b b in
          rw own
          (outcome _ g (placed s room i few p)
          (stands_still p holding e (at_pass k (n - 1) (v + 1) b c (omega (arith, some')) (omega arith) (omega arith))) unmoved refl refl)
      by (check_releases _ _) =
          let p = release_place t (ancestor t i (suc k)) in
          rw (ancestor_parent_of t valid i h k b)
          (outcome _ g (placed s room i few p) (stands_still p holding e (release_fits (place_to i p w) g (suc k) b c _ _ refl refl)) unmoved refl refl)

  -- GRANT, given the move of the queues
  granted_outcome :
      (k : ℕ) → k ≤ height t i → (r v : ℕ) → Granted t g (place_to i (done_at t i k) (status_to r v w)) (ancestor t i k) r →
      Outcome t g i (ancestor t i k) (Grant (ancestor t i k) r v) (grant_row t i (ancestor t i k) r v s)
  unfolding row_shown standing_shown ends_shown entry_shown is_entry given taken_from ended_in change_shown change_firsts event_shown
  granted_outcome k l r v x = by (grant_branch t i s (ancestor t i k) r v)
    where
      by : {y : RowResult} → Branch t i s (Grant (ancestor t i k) r v) y → Outcome t g i (ancestor t i k) (Grant (ancestor t i k) r v) y
      by (grant_writes _ _ _) =
          rw (done_place_at t valid i h k l) (outcome _ x.state (status_placed s room i few (done_at t i k) r v x.small) x.represents (moved x.move) refl (made_ends t x.move))

  -- at the places from which a thread lets go of a domain, after those above
  module _ (k : ℕ) (l : k ≤ height t i) (nt : is_ticket t (ancestor t i k) ≡ false) (e : g.stage i ≡ letting_go (height t i) k) (c : Counted t w g i (suc k)) where
    pub first_there : k < low (height t i) (g.stage i)
    first_there = rw e (omega (arith, letting_go_low (height t i) k))

    own : own_record t i (ancestor t i k) ≡ record_at t i k
    own = own_record_at t valid i h k l

    pub to_grant : next s (record_at t i k) ≢ 0 → Represents t (place_to i (Grant (ancestor t i k) (next s (record_at t i k) - 1) (release_word (ancestor t i k))) w) g
    unfolding words_in
    to_grant some = stands_still _ (letting_go (height t i) k) e (at_grant k (next s (record_at t i k) - 1) l c (omega (arith, some)))

    -- HELP and LINGER that find a successor
    linked_outcome :
        (p : Place) → ((x : Step) → [] ≡ taken_from t x p) → (v : ℕ) → next s (own_record t i (ancestor t i k)) ≢ 0 → v ≡ release_word (ancestor t i k) →
        Outcome t g i (ancestor t i k) p (about_to_grant t i s (ancestor t i k) v)
    unfolding row_shown standing_shown entry_shown is_entry given ended_in change_shown change_firsts
    linked_outcome p none v some at =
        rw (at, own)
        (outcome _ g (placed s room i few (Grant (ancestor t i k) (next s (record_at t i k) - 1) (release_word (ancestor t i k)))) (to_grant (rw own at some)) unmoved refl (none _))

    -- HELP
    pub help_outcome : Outcome t g i (ancestor t i k) (Help (ancestor t i k)) (help_row t i (ancestor t i k) s)
    unfolding row_shown standing_shown entry_shown is_entry given taken_from ended_in change_shown change_firsts
    help_outcome = by (help_branch t i s (ancestor t i k))
      where
        by : {x : RowResult} → Branch t i s (Help (ancestor t i k)) x → Outcome t g i (ancestor t i k) (Help (ancestor t i k)) x
        by (help_alone _ _) =
            outcome _ g (placed s room i few (Cas (ancestor t i k))) (stands_still (Cas (ancestor t i k)) (letting_go (height t i) k) e (at_cas k l c)) unmoved refl refl
        by (help_linked _ v some at) = linked_outcome (Help (ancestor t i k)) (λ x. refl) v some (word_is at)

    -- CAS
    pub cas_outcome : Outcome t g i (ancestor t i k) (Cas (ancestor t i k)) (cas_row t i (ancestor t i k) s)
    unfolding row_shown standing_shown entry_shown is_entry words_in given taken_from ended_in change_shown change_firsts event_shown made_first
    cas_outcome = by (cas_branch t i s (ancestor t i k))
      where
        by : {x : RowResult} → Branch t i s (Cas (ancestor t i k)) x → Outcome t g i (ancestor t i k) (Cas (ancestor t i k)) x
        by (cas_last _ last) =
            let tl = rw own at last in
            let d : ancestor t i k < 64 = omega (arith, ancestor_real t valid i h k, valid.few_domains) in
            rw (done_place_at t valid i h k l)
            (outcome _ _ (tail_placed s room i few (done_at t i k) (ancestor t i k) 0 d) (vacate t valid w g i h o k l first_there nt e tl c)
            (moved (let_go i k (last_there t valid w g i h o k l first_there nt e) (lone t valid w g i h o k l first_there nt tl))) refl refl)
        by (cas_not_last _ other) =
            let other' = rw own at other in
            outcome _ g (placed s room i few (Linger (ancestor t i k)))
            (stands_still (Linger (ancestor t i k)) (letting_go (height t i) k) e (at_linger k l c (λ y. other' (omega arith)))) unmoved refl refl

    -- LINGER
    pub linger_outcome : Represents t w g → Outcome t g i (ancestor t i k) (Linger (ancestor t i k)) (linger_row t i (ancestor t i k) s)
    unfolding row_shown standing_shown entry_shown is_entry given taken_from ended_in change_shown change_firsts
    linger_outcome rep = by (linger_branch t i s (ancestor t i k))
      where
        by : {x : RowResult} → Branch t i s (Linger (ancestor t i k)) x → Outcome t g i (ancestor t i k) (Linger (ancestor t i k)) x
        by (linger_alone _ _) = outcome _ g (record { same = refl; room = room }) rep unmoved refl refl
        by (linger_linked _ v some at) = linked_outcome (Linger (ancestor t i k)) (λ x. refl) v some (word_is at)

    -- GRANT of the domain, or of the lock at the root
    grant_word : (r v : ℕ) → w.nexts (record_at t i k) ≡ suc r → WordAt (ancestor t i k) unlocked acquire_parent v → Granted t g (place_to i (done_at t i k) (status_to r v w)) (ancestor t i k) r
    grant_word r _ linked (at_root z) =
        let root : k ≡ height t i = ancestor_zero t valid i h k l z in
        hand_lock t valid w g i h o k l first_there nt r linked (e ∙ letting_go_root (height t i) k root) (λ m b q. c m (omega arith) q) unlocked
        (λ n. absurd (n z)) (λ b. absurd (omega arith)) (λ q. refl)
    grant_word r _ linked (below_root z) =
        let b : k < height t i = ancestor_not_root t valid i h k l (omega (arith, z)) in
        hand_domain t valid w g i h o k l first_there nt r linked (e ∙ letting_go_lower (height t i) k b) b (λ m y q. c m (omega arith) q)

    pub grant_outcome : (r : ℕ) → w.nexts (record_at t i k) ≡ suc r → Outcome t g i (ancestor t i k) (Grant (ancestor t i k) r (release_word (ancestor t i k))) (grant_row t i (ancestor t i k) r (release_word (ancestor t i k)) s)
    grant_outcome r linked = granted_outcome k l r _ (grant_word r _ linked (word_at (ancestor t i k) unlocked acquire_parent))

  -- GRANT of the lock, with a count
  pub pass_outcome :
      (k r v : ℕ) → k < height t i → g.stage i ≡ holding → Counted t w g i (height t i) → w.nexts (record_at t i k) ≡ suc r →
      v ≡ suc (g.tally (record_at t i k)) → v ≤ t.threshold (ancestor t i k) → Outcome t g i (ancestor t i k) (Grant (ancestor t i k) r v) (grant_row t i (ancestor t i k) r v s)
  unfolding low
  pass_outcome k r v b e c own q y =
      let l : k ≤ height t i = omega arith in
      let first : k < low (height t i) (g.stage i) = rw e (omega arith) in
      let nt = ticket_lower t (ancestor t i k) (λ z. omega (arith, ancestor_inner t valid i h k b)) in
      granted_outcome k l r v (hand_lock t valid w g i h o k l first nt r own e c v (λ n. omega arith) (λ m. q) (λ z. absurd (omega arith)))
