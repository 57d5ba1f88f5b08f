-- The place that a row of the acquire leaves: where acquiring a domain starts.
use Rattle.std.proofs.Common.{◌≡◌, ℕ, Bool, true, false, cond, not, ◌&&◌, eqb, sym, refl, ap, ◌∙◌}
use Rattle.model.specs.declared.Place.TheVariants.{Prep, Draw}
use Rattle.model.specs.Trees.{Tree, is_ticket, own_record}
use Rattle.model.specs.Steps.{acquire_place}
use Rattle.rows.specs.declared.common.Member.{Member}
use Rattle.rows.specs.Common.Rows.{Stands, RootIs}
use Rattle.rows.specs.Common.Standing.{acquire_at}

-- the place where acquiring a domain starts, from the number of the kind of root
pub acquire_is : (t : Tree) (k : ℕ) → RootIs t k → (d : ℕ) → acquire_at k d ≡ acquire_place t d
unfolding is_ticket
acquire_is t k r d = by (eqb k 0) (eqb d 0) ∙ ap (λ b. cond (b && eqb d 0) Draw (Prep d)) r
  where
    by : (a b : Bool) → cond b (cond a (Prep d) Draw) (Prep d) ≡ cond (not a && b) Draw (Prep d)
    by true true = refl
    by true false = refl
    by false true = refl
    by false false = refl

-- the record with which a thread works at the root
pub root_own : (t : Tree) (i : ℕ) (w : Member) → Stands t i w → w.domain ≡ 0 → own_record t i 0 ≡ w.own
root_own t i w R z = ap (own_record t i) (sym z) ∙ sym R.own_is
