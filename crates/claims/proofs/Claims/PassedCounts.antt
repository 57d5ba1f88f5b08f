-- From fresh, the count that Check passes on is between 2 and the threshold: by the law of counts at Check, the count was started at 1.
use mathlib.Core.Path.{◌≡◌, sym, ap, ◌∙◌}
use mathlib.Core.Bool.{Bool, true, false, cond}
use mathlib.Core.Logic.{◌≢◌}
use Prim.Native.Nat.{ℕ, ◌+◌, ◌-◌, ◌≤◌}
use native.Mathlib.Omega.{arith}
use lib.Dec.{eqb}
use Rattle.model.specs.declared.Place.TheVariants.{Check, Help, Grant, Raise}
use Rattle.model.specs.declared.State.{State}
use Rattle.model.specs.Trees.{Tree, is_ticket, own_record}
use Rattle.model.specs.Places.{words_of}
use Rattle.model.specs.States.{next, status, place, HasRoom}
use Rattle.model.specs.Steps.{RowResult, release_place, step}
use Rattle.claims.specs.Reached.{CountsAtCheck, EqualityLaw, PassedCountLaw}
use Rattle.model.proofs.Branches.{Branch, check_passes, check_releases, branch}
use Rattle.model.proofs.Places.{place_stored}
use Rattle.model.proofs.Trees.Accepted.{accepted}
use Rattle.claims.proofs.Claims.Reached.{queued_from_fresh}
use Rattle.claims.proofs.Claims.Equality.{equality_law}

-- a domain is released from Raise, Help or Check, never from Grant
not_released : (t : Tree) (d l r v : ℕ) → release_place t d ≢ Grant l r v
not_released t d l r v = by (is_ticket t d) (eqb d 0)
  where
    by : (b c : Bool) → cond b Raise (cond c (Help d) (Check d)) ≢ Grant l r v
    by true c e = absurd (let z : 13 ≡ 10 = ap (λ p. (words_of p).row) e in omega arith)
    by false true e = absurd (let z : 7 ≡ 10 = ap (λ p. (words_of p).row) e in omega arith)
    by false false e = absurd (let z : 6 ≡ 10 = ap (λ p. (words_of p).row) e in omega arith)

passed_count :
    (t : Tree) (i l r v : ℕ) (s : State) → HasRoom s.places i → CountsAtCheck t s i l → {x : RowResult} → Branch t i s (Check l) x →
    place x.state i ≡ Grant l r v → (2 ≤ v) × (v ≤ t.threshold l)
passed_count t i l r v s room counts (check_passes _ less some) e =
    let word : status s (own_record t i l) + 1 ≡ v = ap (λ p. (words_of p).word) (sym (place_stored i (Grant l (next s (own_record t i l) - 1) (status s (own_record t i l) + 1)) s room) ∙ e) in
    (omega (arith, counts.started), omega arith)
passed_count t i l r v s room counts (check_releases _ why) e = absurd (not_released t (t.parent l) l r v (sym (place_stored i (release_place t (t.parent l)) s room) ∙ e))

pub passed_count_law : PassedCountLaw
unfolding PassedCountLaw EqualityLaw step
passed_count_law t s f i l r v h e g =
    let valid = accepted t f.fresh_run.tree_accepted in
    let room : HasRoom s.places i = ((queued_from_fresh t s f).facts.typed.places_room, omega (arith, valid.few_threads)) in
    passed_count t i l r v s room (equality_law t s f i l h e) (branch t i s (Check l)) (rw e at g)
