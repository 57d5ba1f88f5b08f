-- The place that a row of the release leaves: after a domain is released, and where releasing one starts.
use Rattle.std.proofs.Common.{◌≡◌, ℕ, Bool, true, false, cond, not, ◌&&◌, eqb, refl, ap, ◌∙◌}
use borrow.Author.Tests.{eqb-false}
use Rattle.model.specs.declared.Place.TheVariants.{Idle, Check, Help, Raise}
use Rattle.model.specs.Trees.{Tree, is_ticket, child}
use Rattle.model.specs.Steps.{release_place, done_place}
use Rattle.rows.specs.declared.common.Member.{Member}
use Rattle.rows.specs.Common.Rows.{Stands, RootIs}
use Rattle.rows.specs.Common.Standing.{release_at, done_at}

-- the place of a thread after releasing a domain
pub done_is : (t : Tree) (i : ℕ) (w : Member) → Stands t i w → done_at w.home w.domain w.child ≡ done_place t i w.domain
done_is t i w R = rw (← R.home_is) (by (eqb w.domain w.home) refl)
  where
    by : (b : Bool) → eqb w.domain w.home ≡ b → cond b Idle (Help w.child) ≡ cond b Idle (Help (child t i w.domain))
    by true e = refl
    by false e = ap Help (R.child_is (eqb-false w.domain w.home e))

pub root_done : (t : Tree) (i : ℕ) (w : Member) → Stands t i w → w.domain ≡ 0 → done_at w.home w.domain w.child ≡ done_place t i 0
root_done t i w R z = done_is t i w R ∙ ap (done_place t i) z

-- the place where releasing a domain starts, from the number of the kind of root
pub release_is : (t : Tree) (k : ℕ) → RootIs t k → (d : ℕ) → release_at k d ≡ release_place t d
unfolding is_ticket
release_is t k r d =
    by (eqb k 0) (eqb d 0) ∙ ap (λ b. cond (b && eqb d 0) Raise (cond (eqb d 0) (Help d) (Check d))) r
  where
    by : (a b : Bool) → cond b (cond a (Help d) Raise) (Check d) ≡ cond (not a && b) Raise (cond b (Help d) (Check d))
    by true true = refl
    by true false = refl
    by false true = refl
    by false false = refl
