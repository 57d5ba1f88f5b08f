-- A thread stays as long as the thread ahead of it does not step: along every schedule without that thread.
use mathlib.Core.Path.{◌≡◌, sym, ap, ◌∙◌}
use mathlib.Core.Bool.{true, cond}
use mathlib.Core.List.{List, [], ◌∷◌}
use mathlib.Core.Logic.{◌≢◌}
use Prim.Native.Nat.{ℕ, ◌+◌, ◌<◌}
use native.Mathlib.Omega.{arith}
use borrow.Author.Tests.{eq-eqb}
use Rattle.model.specs.declared.State.{State as WordState}
use Rattle.model.specs.Trees.{Tree}
use Rattle.model.specs.States.{place}
use Rattle.model.specs.Steps.{stay, step}
use Rattle.model.specs.Runs.{steps, state_after, run_of, run, occurrences}
use Rattle.model.specs.Refusals.{tree_refusal}
use Rattle.model.specs.Laws.{AllThreads, SixteenBit, KindLaw}
use Rattle.model.proofs.Trees.Accepted.{Accepted, accepted}
use Rattle.model.proofs.Lists.{same_or}
use Rattle.model.proofs.Laws.Facts.{facts_well_formed}
use Rattle.model.proofs.Laws.Kinds.{kind_law}
use Rattle.claims.proofs.Claims.Reached.{Queued, led}
use Rattle.chain.specs.Chain.{stays, looked_to}
use Rattle.chain.specs.Laws.{OnlyStays}
use Rattle.chain.proofs.Reached.Actors.{row_stays}
use Rattle.chain.proofs.Reached.Holding.{link_kept}

module _ (t : Tree) (ok : (tree_refusal t).number ≡ 0) (bits : SixteenBit t) (a b : ℕ) (ha : a < t.threads) (hb : b < t.threads) where
  valid : Accepted t
  valid = accepted t ok

  -- the state after a step represents queues as well
  stepped : (s : WordState) → Queued t s → (c : ℕ) → c < t.threads → Queued t (step t c s).state
  unfolding steps state_after AllThreads
  stepped s q c h = (led t valid bits (c ∷ []) (h, tt) s q).there

  abbrev Looks : WordState → Type 0
  Looks s = (stays t s a ≡ true) × (looked_to t s a (place s a) b ≡ true)

  one_step : (s : WordState) → Queued t s → (c : ℕ) → c < t.threads → b ≢ c → Looks s → Looks (step t c s).state
  unfolding KindLaw step
  one_step s q c h n x =
      same_or a c _
      (λ e.
      let kinds = kind_law t a s ok ha (facts_well_formed t s q.facts) in
      let same : (step t c s).state ≡ s = ap (λ i. (step t i s).state) (sym e) ∙ kinds.stays_exactly.0 (row_stays t s a x.0) in
      rw same x)
      (λ e. link_kept t valid bits s q c h a b ha hb e n x.0 x.1)

  along : (js : List ℕ) (s : WordState) → Queued t s → AllThreads t js → occurrences b js ≡ 0 → Looks s → (step t a (run t js s).state).kind ≡ stay
  unfolding run run_of steps state_after AllThreads occurrences step
  along [] s q l o x = row_stays t s a x.0
  along (c ∷ js) s q l o x =
      let n : b ≢ c = λ e. let z = eq-eqb b c e in let y : cond true 1 0 + occurrences b js ≡ 0 = rw z at o in omega arith in
      along js (step t c s).state (stepped s q c l.0) l.1 (omega arith) (one_step s q c l.0 n x)

  pub only_stays : (s : WordState) → Queued t s → stays t s a ≡ true → looked_to t s a (place s a) b ≡ true → OnlyStays t s a b
  unfolding OnlyStays
  only_stays s q still looked js l o = along js s q l o (still, looked)
