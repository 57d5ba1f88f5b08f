-- The place of a thread that releases a queue, and a successful Cas.
use mathlib.Core.Path.{◌≡◌, refl, sym, ap, ◌∙◌}
use mathlib.Core.Bool.{Bool, true, false, cond}
use mathlib.Core.List.{[], ◌∷◌}
use Prim.Native.Nat.{ℕ, zero, suc, ◌+◌, ◌≤◌, ◌<◌}
use native.Mathlib.Omega.{arith}
use lib.Dec.{eqb}
use borrow.Author.Tests.{eqb-true, ne_eqb}
use Rattle.model.specs.declared.Place.{Place}
use Rattle.model.specs.declared.Place.TheVariants.{Idle, Help}
use Rattle.model.specs.Trees.{Tree, is_ticket}
use Rattle.model.specs.States.{none}
use Rattle.model.specs.Steps.{done_place}
use Rattle.model.proofs.Trees.Index.{ancestor, height, record_at}
use Rattle.model.proofs.Trees.Accepted.{Accepted}
use Rattle.model.proofs.Trees.Tickets.{queue_lower}
use Rattle.model.proofs.Trees.Paths.{home_test}
use Rattle.model.proofs.Trees.Records.{child_at}
use Rattle.model.proofs.Lists.{same_or, put, put_same, put_other, first, count_nil}
use Rattle.claims.proofs.Queues.Paths.{laws}
use Rattle.claims.proofs.Queues.Moves.{Stage, queued, holding, releasing, down, low, acts, State, Last, root, lower, let_go}
use Rattle.claims.proofs.Queues.Invariant.{Inv}
use Rattle.claims.proofs.Queues.Keeps.{keeps}
use Rattle.claims.proofs.Words.Links.{after, final_nil, alone, after_nil, after_here, after_past}
use Rattle.claims.proofs.Words.View.{Words, tail_to, place_to}
use Rattle.claims.proofs.Words.Represents.{Counted, letting_go, letting_go_root, letting_go_lower, Fits, at_idle, at_help, Represents}
use Rattle.claims.proofs.Words.Frame.{Others, apart, numbered_kept, assembled}

pub letting_go_acts : (h k : ℕ) → acts h (letting_go h k) ≡ suc k
unfolding acts letting_go
letting_go_acts h k = by (eqb k h) refl
  where
    by : (b : Bool) → eqb k h ≡ b → acts h (cond b holding (releasing k)) ≡ suc k
    by true e = ap suc (sym (eqb-true k h e))
    by false e = refl

-- THE PLACE AFTER A DOMAIN IS RELEASED
abbrev pub done_at : Tree → (thread index : ℕ) → Place
done_at t i zero = Idle
done_at t i (suc k) = Help (ancestor t i k)

pub done_place_at : (t : Tree) → Accepted t → (i : ℕ) → i < t.threads → (k : ℕ) → k ≤ height t i → done_place t i (ancestor t i k) ≡ done_at t i k
done_place_at t valid i h zero l = let z = home_test t valid i h 0 l in rw z
done_place_at t valid i h (suc k) l =
    let z = home_test t valid i h (suc k) l in
    rw (z, ne_eqb (suc k) 0 (omega arith)) (ap Help (child_at t valid i h k l))

pub done_fits : (t : Tree) (w : Words) (g : State) (i k : ℕ) → k ≤ height t i → Counted t w g i k → Fits t w g i (done_at t i k) (down k)
unfolding down
done_fits t w g i zero l c = at_idle
done_fits t w g i (suc k) l c = rw (← letting_go_lower (height t i) k l) (at_help k (omega arith) c)

-- a thread whose record is first wherever it acts does not stand
pub firm : {C : Type 0} (h n : ℕ) (x : Stage) → x ≡ queued n → low h x ≡ acts h x → C
unfolding low acts
firm h n x e z = absurd (let y : low h (queued n) ≡ acts h (queued n) = rw e at z in omega arith)

module _ (t : Tree) (valid : Accepted t) (w : Words) (g : State) (i : ℕ) (h : i < t.threads) (o : Others t w g i) (k : ℕ) (l : k ≤ height t i)
    (first_there : k < low (height t i) (g.stage i)) (nt : is_ticket t (ancestor t i k) ≡ false) where
  abbrev inv : Inv t g
  inv = o.invariant

  abbrev L : ℕ
  L = ancestor t i k

  abbrev R : ℕ
  R = record_at t i k

  head : first (g.queue L) ≡ suc R
  head = (inv.threads i).heads k first_there

  -- CAS: nobody is after it
  pub lone : w.tails L ≡ R + 1 → g.queue L ≡ R ∷ []
  lone e =
      alone R (g.queue L) head (sym (o.linked L nt).last ∙ e ∙ (let z : R + 1 ≡ suc R = omega arith in z)) (inv.once L R)

  pub last_there : g.stage i ≡ letting_go (height t i) k → Last t g i k
  last_there e =
      same_or k (height t i) _ (λ z. root (e ∙ letting_go_root (height t i) k z) z) (λ z. lower (e ∙ letting_go_lower (height t i) k (omega arith)))

  abbrev pub vacated : Words
  vacated = place_to i (done_at t i k) (tail_to L none w)

  abbrev pub vacated_state : State
  vacated_state = record { queue = put g.queue L []; stage = put g.stage i (down k); tally = g.tally }

  pub vacate : g.stage i ≡ letting_go (height t i) k → w.tails L ≡ R + 1 → Counted t w g i (suc k) → Represents t vacated vacated_state
  vacate e tl c =
      let shape = lone tl in
      assembled t valid w g i h o vacated vacated_state (done_at t i k) (down k) (keeps t (laws t valid) g inv (let_go i k (last_there e) shape))
      (λ d nd. same_or d L _
      (λ z. rw (z, put_same g.queue L [] L refl)
      (record { last = put_same w.tails L none L refl ∙ sym final_nil; chain = λ a m n. absurd (omega (arith, count_nil a)) }))
      (λ z. rw (put_other g.queue L [] d z)
      (record { last = put_other w.tails L none d z ∙ (o.linked d nd).last; chain = (o.linked d nd).chain })))
      (numbered_kept t valid w g i h o vacated vacated_state refl refl (λ z. put_other g.queue L [] 0 (λ y. queue_lower t L nt z (sym y))) (λ _ a m. refl))
      (put_same w.places i (done_at t i k) i refl) (put_same g.stage i (down k) i refl)
      (done_fits t vacated vacated_state i k l (λ m b q. c m (omega arith) q))
      (λ j hj n. apart t valid w g i h o vacated vacated_state 0 (omega arith) j hj n (put_other w.places i (done_at t i k) j n)
      (put_other g.stage i (down k) j n) (λ r q. refl) (λ r q. refl) (λ r q. refl)
      (λ m p q nd a. (
        same_or (ancestor t j m) L _
            (λ y.
            let a' : after (R ∷ []) p ≡ suc (record_at t j m) = rw (y, shape) at a in
            same_or p R _
            (λ x. absurd (omega (arith, after_here p R [] x, first_none)))
            (λ x. absurd (omega (arith, after_past p R [] x, after_nil p))))
            (λ y. rw (put_other g.queue L [] (ancestor t j m) y) a),
        refl,
      ))
      (λ d r q z y. same_or d L _
      (λ x. let none_there = put_same w.tails L none d x in omega arith)
      (λ x. z (sym (put_other w.tails L none d x) ∙ y))))
    where
      first_none : first [] ≡ 0
      first_none = unfold first in refl
