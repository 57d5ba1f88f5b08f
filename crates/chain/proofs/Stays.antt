-- Which steps are stays, row by row.
use mathlib.Core.Path.{◌≡◌, refl}
use mathlib.Core.Bool.{Bool, false, not}
use Prim.Native.Nat.{ℕ}
use native.Mathlib.Omega.{arith}
use lib.Dec.{eqb}
use borrow.Author.Tests.{eq-eqb, ne_eqb}
use Rattle.model.specs.declared.Place.{Place}
use Rattle.model.specs.declared.Place.TheVariants.{Wait, Linger, Watch}
use Rattle.model.specs.declared.State.{State}
use Rattle.model.specs.Trees.{Tree, own_record}
use Rattle.model.specs.States.{wait_word, locked, root_word, next, status, place}
use Rattle.model.specs.Steps.{Kind, stay, is_kind, RowResult, wait_row, linger_row, watch_row, row, step}
use Rattle.model.proofs.Branches.{Branch, wait_root_locked, wait_root_granted, wait_ungranted, wait_acquires, wait_passed, wait_crossed, linger_alone, linger_linked, watch_shown, watch_unshown, wait_branch, linger_branch, watch_branch, branch}
use Rattle.model.proofs.Laws.Kinds.{may_stay, goes_on}
use Rattle.chain.specs.Chain.{stays}

-- the status with which a thread stays in Wait
abbrev pub waits_in : (domain status : ℕ) → Bool
waits_in l v = eqb v (root_word l locked wait_word)

module _ (t : Tree) (s : State) (i : ℕ) where
  abbrev pub is_stay : Kind → Bool
  is_stay k = is_kind stay k

  pub stays_at : (p : Place) → place s i ≡ p → stays t s i ≡ is_stay (row t i p s).kind
  unfolding stays step
  stays_at p e = rw e refl

  pub wait_stays : (l : ℕ) → is_stay (wait_row t i l s).kind ≡ waits_in l (status s (own_record t i l))
  unfolding is_kind
  wait_stays l = by (wait_branch t i s l)
    where
      v : ℕ
      v = status s (own_record t i l)

      by : {x : RowResult} → Branch t i s (Wait l) x → is_stay x.kind ≡ waits_in l v
      by (wait_root_locked _ z e) = rw (eq-eqb l 0 z, eq-eqb v locked e)
      by (wait_root_granted _ z e) = rw (eq-eqb l 0 z, ne_eqb v locked e)
      by (wait_ungranted _ z e) = rw (ne_eqb l 0 z, eq-eqb v wait_word e)
      by (wait_acquires _ z e) = rw (ne_eqb l 0 z, ne_eqb v wait_word (λ f. omega arith))
      by (wait_passed _ z e f a) = rw (ne_eqb l 0 z, ne_eqb v wait_word e)
      by (wait_crossed _ z e f a) = rw (ne_eqb l 0 z, ne_eqb v wait_word e)

  pub linger_stays : (l : ℕ) → is_stay (linger_row t i l s).kind ≡ eqb (next s (own_record t i l)) 0
  unfolding is_kind
  linger_stays l = by (linger_branch t i s l)
    where
      by : {x : RowResult} → Branch t i s (Linger l) x → is_stay x.kind ≡ eqb (next s (own_record t i l)) 0
      by (linger_alone _ n) = rw (eq-eqb (next s (own_record t i l)) 0 n)
      by (linger_linked _ v n _) = rw (ne_eqb (next s (own_record t i l)) 0 n)

  pub watch_stays : is_stay (watch_row t i s).kind ≡ not (eqb (status s (own_record t i 0)) s.grant)
  unfolding is_kind
  watch_stays = by (watch_branch t i s)
    where
      by : {x : RowResult} → Branch t i s Watch x → is_stay x.kind ≡ not (eqb (status s (own_record t i 0)) s.grant)
      by (watch_shown e) = rw (eq-eqb (status s (own_record t i 0)) s.grant e)
      by (watch_unshown e) = rw (ne_eqb (status s (own_record t i 0)) s.grant e)

  pub moves_on : (p : Place) → may_stay p ≡ false → is_stay (row t i p s).kind ≡ false
  moves_on p f = goes_on f (branch t i s p)
