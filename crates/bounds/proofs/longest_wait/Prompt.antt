-- The entries of others in an attempt are in line or bypasses, and a prompt entry is in line.
use mathlib.Core.Path.{◌≡◌, refl, sym, ap, ◌∙◌}
use mathlib.Core.Bool.{Bool, true, false, ◌||◌, cond, false≢true}
use mathlib.Core.List.{List, [], ◌∷◌}
use mathlib.Core.Logic.{◌≢◌, inl, inr}
use Prim.Native.Nat.{ℕ, ◌+◌, ◌<◌}
use native.Mathlib.Omega.{arith}
use lib.Dec.{eqb}
use borrow.Author.Tests.{eqb-true, eq-eqb}
use Rattle.model.specs.declared.Place.{Place}
use Rattle.model.specs.declared.Place.TheVariants.{Idle, Prep, Swap, Link, Wait, Inside, Check, Help, Cas, Linger, Grant, Draw, Watch, Raise, Invalid}
use Rattle.model.specs.declared.State.{State as WordState}
use Rattle.model.specs.Trees.{Tree, on_path, own_record}
use Rattle.model.specs.Places.{is_idle}
use Rattle.model.specs.States.{next, status, place}
use Rattle.model.specs.Steps.{is_entry, Step, step}
use Rattle.model.specs.Runs.{how_many, entering, occurrences}
use Rattle.model.specs.Acts.{acts_at, acts}
use Rattle.model.specs.Laws.{SixteenBit}
use Rattle.model.specs.Refusals.{tree_refusal}
use Rattle.model.proofs.Tests.{and_both, and_false, or_cases, all_each}
use Rattle.model.proofs.Counted.{occurrences_join}
use Rattle.model.proofs.Places.{idle_facts}
use Rattle.model.proofs.Trees.Accepted.{Accepted, accepted}
use Rattle.chain.specs.Chain.{stays, acts_ahead, links, ticket_before, acts_holding, looked_to, chain}
use Rattle.chain.proofs.Reached.Actors.{row_stays}
use Rattle.chain.proofs.Reached.Waiting.{explains}
use Rattle.bounds.proofs.starvation_freedom.Situations.{Situation}
use Rattle.bounds.specs.LongestWait.InLine.{ends_at, others_entry, in_line, bypass, prompt, count_steps}
use Rattle.bounds.proofs.longest_wait.Ends.{ends_last, Ends, here, onward, chain_ends}

-- IN LINE OR A BYPASS: if the thread does not enter, an entry is another thread's
own_entry : (i : ℕ) (y : Step) (ys : List Step) → occurrences i (entering (y ∷ ys)) ≡ 0 → is_entry y.kind ≡ true → eqb y.thread i ≡ false
unfolding entering occurrences
own_entry i y ys o e = by (eqb y.thread i) refl
  where
    by : (b : Bool) → eqb y.thread i ≡ b → eqb y.thread i ≡ false
    by false z = z
    by true z =
        let same : i ≡ y.thread = sym (eqb-true y.thread i z) in
        let j = occurrences_join i (cond (is_entry y.kind) (y.thread ∷ []) []) (entering ys) in
        let one : occurrences i (cond (is_entry y.kind) (y.thread ∷ []) []) ≡ 1 = rw e (rw (eq-eqb i y.thread same) refl) in
        absurd (omega arith)

pub later_none : (i : ℕ) (y : Step) (ys : List Step) → occurrences i (entering (y ∷ ys)) ≡ 0 → occurrences i (entering ys) ≡ 0
unfolding entering
later_none i y ys o = let j = occurrences_join i (cond (is_entry y.kind) (y.thread ∷ []) []) (entering ys) in omega arith

pub either_way : (t : Tree) (i : ℕ) (s : WordState) (ys : List Step) → occurrences i (entering ys) ≡ 0 → how_many is_entry ys ≡ count_steps (in_line t i) s ys + count_steps (bypass t i) s ys
unfolding how_many count_steps in_line bypass others_entry
either_way t i s [] o = refl
either_way t i s (y ∷ ys) o = by (is_entry y.kind) refl (ends_at y.thread (chain t s i)) refl (either_way t i y.state ys (later_none i y ys o))
  where
    by : (b : Bool) → is_entry y.kind ≡ b → (e : Bool) → ends_at y.thread (chain t s i) ≡ e → how_many is_entry ys ≡ count_steps (in_line t i) y.state ys + count_steps (bypass t i) y.state ys →
        cond (is_entry y.kind) 1 0 + how_many is_entry ys ≡ (cond (in_line t i s y) 1 0 + count_steps (in_line t i) y.state ys) + (cond (bypass t i s y) 1 0 + count_steps (bypass t i) y.state ys)
    by false e f g rec = rw e (omega arith)
    by true e true g rec = let own = own_entry i y ys o e in rw (e, own, g) (omega arith)
    by true e false g rec = let own = own_entry i y ys o e in rw (e, own, g) (omega arith)

-- A THREAD THAT ANOTHER WAITS FOR is not Idle
idle_acts : (t : Tree) (s : WordState) (j d : ℕ) → place s j ≡ Idle → acts t s j d ≡ false
unfolding acts acts_at
idle_acts t s j d e = rw e (and_false (on_path t j d))

looked_busy : (t : Tree) (s : WordState) (i j : ℕ) (p : Place) → looked_to t s i p j ≡ true → place s j ≡ Idle → ⊥
unfolding looked_to acts_ahead acts_holding
looked_busy t s i j (Wait l) e z =
    let both = and_both (acts t s j l) (eqb (next s (own_record t j l)) (own_record t i l + 1)) e in false≢true (sym (idle_acts t s j l z) ∙ both.0)
looked_busy t s i j (Linger l) e z = let y : links Idle (own_record t i l) ≡ true = rw z at e in false≢true y
looked_busy t s i j Watch e z =
    let both = and_both (acts t s j 0) (eqb (status s (own_record t j 0)) (ticket_before (status s (own_record t i 0)))) e in false≢true (sym (idle_acts t s j 0 z) ∙ both.0)
looked_busy t s i j Idle e z = false≢true e
looked_busy t s i j (Prep l) e z = false≢true e
looked_busy t s i j (Swap l) e z = false≢true e
looked_busy t s i j (Link l p) e z = false≢true e
looked_busy t s i j Inside e z = false≢true e
looked_busy t s i j (Check l) e z = false≢true e
looked_busy t s i j (Help l) e z = false≢true e
looked_busy t s i j (Cas l) e z = false≢true e
looked_busy t s i j (Grant l r w) e z = false≢true e
looked_busy t s i j Draw e z = false≢true e
looked_busy t s i j Raise e z = false≢true e
looked_busy t s i j Invalid e z = false≢true e

module _ (t : Tree) (ok : (tree_refusal t).number ≡ 0) (bits : SixteenBit t) (c : Situation t) where
  valid : Accepted t
  valid = accepted t ok

  abbrev s : WordState
  s = c.words

  -- so the end of a chain is a thread of the tree, and not Idle
  ends_busy : (i e : ℕ) → i < t.threads → place s i ≢ Idle → Ends t valid bits c i e → (e < t.threads) × (place s e ≢ Idle)
  ends_busy i e h n (here _ still) = (h, n)
  ends_busy i e h n (onward _ j _ still look more) = ends_busy j e look.real (looked_busy t s i j (place s i) look.looked) more

  -- A PROMPT ENTRY IS IN LINE
  pub prompt_ends : (i : ℕ) (y : Step) → i < t.threads → place s i ≢ Idle → prompt t s y ≡ true → ends_at y.thread (chain t s i) ≡ true
  unfolding prompt step
  prompt_ends i y h n e =
      let x = explains t ok bits s c.queued i h in
      let last = x.last in
      let ends_there : (a : ℕ) → ends_at a (chain t s i) ≡ eqb last a = λ a. ap (ends_at a) x.at_end ∙ ends_last a last x.front in
      let busy = ends_busy i last h n (chain_ends t valid bits c i last h (ends_there last ∙ eq-eqb last last refl)) in
      let each = all_each t.threads (λ k. eqb k y.thread || (is_idle (place s k) || stays t s k)) e last busy.0 in
      elim (or_cases (eqb last y.thread) (is_idle (place s last) || stays t s last) each) [
        | inl z ↦ ends_there y.thread ∙ z
        | inr z ↦ elim (or_cases (is_idle (place s last)) (stays t s last) z) [
          | inl w ↦ absurd (busy.1 (idle_facts (place s last) w))
          | inr w ↦ absurd (x.last_moves (row_stays t s last w))
        ]
      ]
