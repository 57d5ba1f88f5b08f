-- What a row reports about a domain: which word a thread may have to grant there after it, that only a Grant there ends standing there, and the length that a Check reports.
use mathlib.Core.Path.{◌≡◌, refl, sym, ap, ◌∙◌}
use mathlib.Core.Bool.{Bool, true, false, cond, false≢true}
use mathlib.Core.List.{List, [], ◌∷◌, ◌++◌, nil≢cons, head-eq_of_cons-eq}
use mathlib.Core.Logic.{◌⊎◌, inl, inr}
use Prim.Native.Nat.{ℕ, ◌+◌, ◌-◌, ◌≤◌, ◌<◌}
use native.Mathlib.Omega.{arith}
use lib.Dec.{eqb}
use borrow.Author.Tests.{eq-eqb}
use Rattle.model.specs.declared.Place.{Place}
use Rattle.model.specs.declared.Place.TheVariants.{Idle, Prep, Swap, Link, Wait, Inside, Check, Help, Cas, Linger, Grant, Draw, Watch, Raise, Invalid}
use Rattle.model.specs.declared.State.{State}
use Rattle.model.specs.Trees.{Tree, is_ticket, child, own_record}
use Rattle.model.specs.Places.{words_of, place_of, place_domain}
use Rattle.model.specs.States.{acquire_parent, unlocked, tail, next, status, place, wrap, numbers_at, store_numbers, HasRoom}
use Rattle.model.specs.Steps.{is_entry, RowResult, acquired_place, release_place, done_place, shown_members, row}
use Rattle.model.specs.Tenures.{checks_at, word_to_grant}
use Rattle.model.proofs.Places.{numbers_other, place_stored}
use Rattle.model.proofs.Lists.{same_or}
use Rattle.model.proofs.Branches.{WordAt, Branch, idle_draws, idle_prepares, prepares, swap_root, swap_inner, swap_joins, link_writes, wait_root_locked, wait_root_granted, wait_ungranted, wait_acquires, wait_passed, wait_crossed, inside_leaves, check_passes, check_releases, help_alone, help_linked, cas_last, cas_not_last, linger_alone, linger_linked, grant_writes, draw_shown, draw_unshown, watch_shown, watch_unshown, raise_counts, invalid_stays, branch, at_root, below_root}
use Rattle.claims.proofs.Queues.Moves as moves
use Rattle.claims.proofs.Queues.Moves.{Event}
use Rattle.claims.proofs.Words.Outcome.{ends_shown, standing_shown, entry_shown, row_shown}

-- whether a place is Grant: its row is the eleventh
abbrev grants : Place → Bool
grants p = eqb (words_of p).row 10

no_acquire : (b : Bool) (l : ℕ) → grants (cond b Draw (Prep l)) ≡ false
no_acquire true l = refl
no_acquire false l = refl

no_done : (b : Bool) (l : ℕ) → grants (cond b Idle (Help l)) ≡ false
no_done true l = refl
no_done false l = refl

no_release : (b c : Bool) (l : ℕ) → grants (cond b Raise (cond c (Help l) (Check l))) ≡ false
no_release true c l = refl
no_release false true l = refl
no_release false false l = refl

-- the domain of an event that ends a standing
unfoldable ending : Event → ℕ
ending moves.nothing = 0
ending (moves.begins d m) = 0
ending (moves.ends d m) = d
ending (moves.entered i) = 0

module _ (t : Tree) (s : State) (i d : ℕ) (pos : 0 < d) (room : HasRoom s.places i) where
  -- the word that a thread is to grant at the domain after a row: the one that it had before, ACQUIRE_PARENT, or at most the one reported
  abbrev pub Lands : (length : ℕ) → RowResult → Type 0
  Lands u x = (j r v : ℕ) → place x.state j ≡ Grant d r v → (place s j ≡ Grant d r v) ⊎ (v ≡ acquire_parent) ⊎ (v ≤ u)

  stored : (p : Place) → place_of (numbers_at (store_numbers s.places i (words_of p)) i) ≡ p
  stored p = place_stored i p s room

  lands :
      (u : ℕ) (p : Place) → ((r v : ℕ) → p ≡ Grant d r v → (v ≡ acquire_parent) ⊎ (v ≤ u)) →
      (j r v : ℕ) → place_of (numbers_at (store_numbers s.places i (words_of p)) j) ≡ Grant d r v → (place s j ≡ Grant d r v) ⊎ (v ≡ acquire_parent) ⊎ (v ≤ u)
  lands u p f j r v e =
      same_or j i _
      (λ z. inr (f r v (sym (stored p) ∙ (rw z at e))))
      (λ z. inl (sym (ap place_of (numbers_other s.places i j (words_of p) z)) ∙ e))

  -- a row that leads to no Grant
  elsewhere : (p : Place) → grants p ≡ false → (j r v : ℕ) → place_of (numbers_at (store_numbers s.places i (words_of p)) j) ≡ Grant d r v → (place s j ≡ Grant d r v) ⊎ (v ≡ acquire_parent) ⊎ (v ≤ 0)
  elsewhere p q = lands 0 p (λ r v e. absurd (false≢true (sym q ∙ ap grants e)))

  -- a Grant after Help or Linger: its word is ACQUIRE_PARENT, since the domain is not the root
  helping :
      (l r w : ℕ) → WordAt l unlocked acquire_parent w →
      (j r' v : ℕ) → place_of (numbers_at (store_numbers s.places i (words_of (Grant l r w))) j) ≡ Grant d r' v → (place s j ≡ Grant d r' v) ⊎ (v ≡ acquire_parent) ⊎ (v ≤ 0)
  unfolding word_to_grant
  helping l r _ (at_root z) = lands 0 (Grant l r unlocked) (λ r' v e. absurd (let zl : l ≡ d = ap (place_domain 0) e in omega arith))
  helping l r _ (below_root z) = lands 0 (Grant l r acquire_parent) (λ r' v e. inl (sym (ap word_to_grant e)))

  -- the word that a Check at the domain reports
  abbrev pub tenure_word : Place → RowResult → ℕ
  tenure_word p x = cond (checks_at d p) (word_to_grant (place x.state i)) 0

  -- only a Grant at the domain ends a standing there
  abbrev pub Granting : Place → Type 0
  Granting p = (r : ℕ) × (v : ℕ) × (p ≡ Grant d r v)

  abbrev pub Ends : Place → (domain : ℕ) → RowResult → Type 0
  Ends p l x = (m : ℕ) → row_shown i l x ≡ moves.ends d m ∷ [] → Granting p

  -- a row that shows nothing, or another event
  none_shown : (p : Place) (m : ℕ) → [] ≡ moves.ends d m ∷ [] → Granting p
  none_shown p m e = absurd (nil≢cons e)

  other_shown : (p : Place) (ev : Event) → ending ev ≡ 0 → (m : ℕ) → ev ∷ [] ≡ moves.ends d m ∷ [] → Granting p
  unfolding ending
  other_shown p ev q m e = absurd (let z = ap ending (head-eq_of_cons-eq e) in omega arith)

  raise_ends : (p : Place) (ms : List ℕ) (m : ℕ) → ends_shown 0 ms ++ [] ≡ moves.ends d m ∷ [] → Granting p
  unfolding ends_shown ending
  raise_ends p [] m e = absurd (nil≢cons e)
  raise_ends p (r ∷ ms) m e = absurd (let z = ap ending (head-eq_of_cons-eq e) in omega arith)

  -- BOTH, FOR EVERY ROW
  abbrev pub Reports : Place → RowResult → Type 0
  Reports p x = Lands (tenure_word p x) x × Ends p (place_domain (t.home i) p) x

  branch_reports : {p : Place} {x : RowResult} → Branch t i s p x → Reports p x
  unfolding checks_at word_to_grant row_shown standing_shown ends_shown entry_shown is_entry ending
  branch_reports (idle_draws z (draw_shown e)) = (elsewhere Inside refl, other_shown Idle _ refl)
  branch_reports (idle_draws z (draw_unshown e)) = (elsewhere Watch refl, other_shown Idle _ refl)
  branch_reports (idle_prepares z (prepares l v c)) = (elsewhere (Swap l) refl, none_shown Idle)
  branch_reports (prepares l v c) = (elsewhere (Swap l) refl, none_shown (Prep l))
  branch_reports (swap_root l z e) = (elsewhere Inside refl, other_shown (Swap l) _ refl)
  branch_reports (swap_inner l z e) = (elsewhere (acquired_place t l) (no_acquire (is_ticket t (t.parent l)) (t.parent l)), none_shown (Swap l))
  branch_reports (swap_joins l e) = (elsewhere (Link l (tail s l - 1)) refl, other_shown (Swap l) _ refl)
  branch_reports (link_writes l p) = (elsewhere (Wait l) refl, none_shown (Link l p))
  branch_reports (wait_root_locked l z e) = (λ j r w y. inl y, none_shown (Wait l))
  branch_reports (wait_root_granted l z e) = (elsewhere Inside refl, other_shown (Wait l) _ refl)
  branch_reports (wait_ungranted l z e) = (λ j r w y. inl y, none_shown (Wait l))
  branch_reports (wait_acquires l z e) = (elsewhere (acquired_place t l) (no_acquire (is_ticket t (t.parent l)) (t.parent l)), none_shown (Wait l))
  branch_reports (wait_passed l z e f a) = (elsewhere Inside refl, other_shown (Wait l) _ refl)
  branch_reports (wait_crossed l z e f a) = (elsewhere Inside refl, other_shown (Wait l) _ refl)
  branch_reports inside_leaves = (elsewhere (release_place t (t.home i)) (no_release (is_ticket t (t.home i)) (eqb (t.home i) 0) (t.home i)), none_shown Inside)
  branch_reports (check_passes l less some) =
      let r = own_record t i l in
      let p = Grant l (next s r - 1) (status s r + 1) in (
        lands (cond (eqb l d) (word_to_grant (place_of (numbers_at (store_numbers s.places i (words_of p)) i))) 0) p
            (λ q w e.
            let zl : l ≡ d = ap (place_domain 0) e in
            let zw : status s r + 1 ≡ w = ap word_to_grant e in
            inr (rw (eq-eqb l d zl, stored p) (omega arith))),
        none_shown (Check l),
      )
  branch_reports (check_releases l e) = (
    λ j q w y. elim (elsewhere (release_place t (t.parent l)) (no_release (is_ticket t (t.parent l)) (eqb (t.parent l) 0) (t.parent l)) j q w y) [
      | inl z ↦ inl z
      | inr z ↦ inr (elim z [ inl y ↦ inl y | inr y ↦ inr (omega arith) ])
    ],
    none_shown (Check l),
  )
  branch_reports (help_alone l n) = (elsewhere (Cas l) refl, none_shown (Help l))
  branch_reports (help_linked l v n c) = (helping l (next s (own_record t i l) - 1) v c, none_shown (Help l))
  branch_reports (cas_last l e) = (elsewhere (done_place t i l) (no_done (eqb l (t.home i)) (child t i l)), none_shown (Cas l))
  branch_reports (cas_not_last l e) = (elsewhere (Linger l) refl, none_shown (Cas l))
  branch_reports (linger_alone l n) = (λ j r w y. inl y, none_shown (Linger l))
  branch_reports (linger_linked l v n c) = (helping l (next s (own_record t i l) - 1) v c, none_shown (Linger l))
  branch_reports (grant_writes l r w) = (elsewhere (done_place t i l) (no_done (eqb l (t.home i)) (child t i l)), λ m e. let z : l ≡ d = ap ending (head-eq_of_cons-eq e) in (r, w, ap (λ x. Grant x r w) z))
  branch_reports (draw_shown e) = (elsewhere Inside refl, other_shown Draw _ refl)
  branch_reports (draw_unshown e) = (elsewhere Watch refl, other_shown Draw _ refl)
  branch_reports (watch_shown e) = (elsewhere Inside refl, other_shown Watch _ refl)
  branch_reports (watch_unshown e) = (λ j r w y. inl y, none_shown Watch)
  branch_reports raise_counts = (elsewhere (done_place t i 0) (no_done (eqb 0 (t.home i)) (child t i 0)), raise_ends Raise (shown_members t s (wrap (s.grant + 1))))
  branch_reports invalid_stays = (λ j r w y. inl y, none_shown Invalid)

  pub row_reports : (p : Place) → Reports p (row t i p s)
  row_reports p = branch_reports (branch t i s p)
