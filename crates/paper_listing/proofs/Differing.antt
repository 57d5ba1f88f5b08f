-- Where the listing's test in Check and the table's test give different places: above the threshold, with a next.
use mathlib.Core.Path.{◌≡◌, sym, ◌∙◌}
use mathlib.Core.Bool.{Bool, true, false, cond}
use mathlib.Core.Logic.{◌≢◌, ◌⊎◌, inl, inr}
use Prim.Native.Nat.{ℕ, ◌+◌, ◌-◌, ◌≤◌, ◌<◌}
use native.Mathlib.Omega.{arith}
use native.Mathlib.Decide.{ℕ_discrete, dec_lt}
use lib.Dec.{eqb}
use borrow.Author.Tests.{ne_eqb}
use Rattle.model.specs.declared.Place.TheVariants.{Check, Help, Grant, Raise}
use Rattle.model.specs.declared.State.{State}
use Rattle.model.specs.Trees.{Tree, own_record, is_ticket}
use Rattle.model.specs.States.{none, next, status, place, HasRoom}
use Rattle.model.specs.Steps.{RowResult, release_place, row}
use Rattle.claims.specs.Reached.{equality_check_row}
use Rattle.model.proofs.Branches.{Branch, check_passes, check_releases, branch}
use Rattle.model.proofs.Places.{place_stored}

no_grant : {A : Type 0} (a b : Bool) (d l r w : ℕ) → cond a Raise (cond b (Help d) (Check d)) ≡ Grant l r w → A
no_grant true b d l r w e = absurd (let z : ◌≡◌ {A = ℕ} 0 1 = cc in omega arith)
no_grant false true d l r w e = absurd (let z : ◌≡◌ {A = ℕ} 0 1 = cc in omega arith)
no_grant false false d l r w e = absurd (let z : ◌≡◌ {A = ℕ} 0 1 = cc in omega arith)

module _ (t : Tree) (i : ℕ) (s : State) (l : ℕ) (room : HasRoom s.places i) where
  released : {x : RowResult} → t.threshold l < status s (own_record t i l) → Branch t i s (Check l) x → place x.state i ≡ release_place t (t.parent l)
  released above (check_passes _ less some) = absurd (omega arith)
  released above (check_releases _ why) = place_stored i (release_place t (t.parent l)) s room

  granted :
      t.threshold l < status s (own_record t i l) → next s (own_record t i l) ≢ none →
      place (equality_check_row t i l s).state i ≡ Grant l (next s (own_record t i l) - 1) (status s (own_record t i l) + 1)
  unfolding equality_check_row
  granted above some =
      rw (ne_eqb (status s (own_record t i l)) (t.threshold l) (λ z. omega arith), ne_eqb (next s (own_record t i l)) none some)
      (place_stored i (Grant l (next s (own_record t i l) - 1) (status s (own_record t i l) + 1)) s room)

  -- if both lead to the same place, the tests agree
  pub not_differing :
      place (row t i (Check l) s).state i ≡ place (equality_check_row t i l s).state i →
      (status s (own_record t i l) ≤ t.threshold l) ⊎ (next s (own_record t i l) ≡ none)
  not_differing e =
      elim (dec_lt (t.threshold l) (status s (own_record t i l))) [
        | no a ↦ inl (omega arith)
        | yes above ↦
            elim (ℕ_discrete (next s (own_record t i l)) none) [
              | yes n ↦ inr n
              | no n ↦
                  no_grant (is_ticket t (t.parent l)) (eqb (t.parent l) 0) (t.parent l) l (next s (own_record t i l) - 1) (status s (own_record t i l) + 1)
                  (sym (released above (branch t i s (Check l))) ∙ e ∙ granted above n)
            ]
      ]
