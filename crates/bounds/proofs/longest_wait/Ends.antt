-- Where a chain ends: if it ends at the entering thread, it contains all members ahead in the queue, each linked to the one before it, and continues from the thread that acts for the first.
use mathlib.Core.Path.{◌≡◌, refl, sym, ap, ◌∙◌}
use mathlib.Core.Bool.{true, false, false≢true}
use mathlib.Core.List.{List, [], ◌∷◌, ◌++◌, head-eq_of_cons-eq}
use mathlib.Core.Logic.{◌≢◌, ◌⊎◌, inl, inr}
use Prim.Native.Nat.{ℕ, suc, ◌+◌, ◌≤◌, ◌<◌}
use native.Mathlib.Omega.{arith}
use lib.Dec.{eqb}
use borrow.Author.Tests.{eqb-true}
use Rattle.model.specs.declared.Place.{Place}
use Rattle.model.specs.declared.Place.TheVariants.{Link, Linger}
use Rattle.model.specs.declared.State.{State as WordState}
use Rattle.model.specs.Trees.{Tree, own_record}
use Rattle.model.specs.States.{next, status, place}
use Rattle.model.specs.Steps.{is_entry, step}
use Rattle.model.specs.Acts.{acts}
use Rattle.model.specs.Laws.{SixteenBit}
use Rattle.model.proofs.Tests.{and_both}
use Rattle.model.proofs.Laws.Kinds.{may_stay}
use Rattle.model.proofs.Lists.{is, is_same}
use Rattle.model.proofs.Trees.Index.{ancestor, height, record_at}
use Rattle.model.proofs.Trees.Accepted.{Accepted}
use Rattle.model.proofs.Trees.Tickets.{ticket_yes}
use Rattle.model.proofs.Trees.Paths.{ancestor_root}
use Rattle.model.proofs.Trees.Records.{own_record_at}
use Rattle.claims.proofs.Queues.Moves.{Stage, queued, inside, low, State, Event}
use Rattle.claims.proofs.Queues.Moves as moves
use Rattle.claims.proofs.Claims.Reached.{outcome_at, queued_after}
use Rattle.claims.proofs.Queues.Changes.{change_shown}
use Rattle.claims.proofs.Queues.Order.{hit}
use Rattle.claims.proofs.Words.Outcome.{shown_sum, row_sum}
use Rattle.chain.specs.Chain.{stays, acts_ahead, links, acts_holding, ticket_before, looked_to, chain}
use Rattle.chain.specs.Laws.{ChainOn, ends, goes_on, ChainLaw}
use Rattle.chain.proofs.Chains.{looks_small, chain_law}
use Rattle.chain.proofs.Stays.{stays_at, moves_on}
use Rattle.chain.proofs.Reached.Actors.{Waits, waits, lingers, watches, stay_waits, acting_there, stands_before}
use Rattle.chain.proofs.Reached.Ahead.{link_place, Looked, looked_one, looks_one, watch_before}
use Rattle.bounds.proofs.starvation_freedom.Situations as situations
use Rattle.bounds.proofs.starvation_freedom.Situations.{Situation, queues, next_change}
use Rattle.bounds.proofs.starvation_freedom.Says.{Says, says}
use Rattle.bounds.proofs.starvation_freedom.Queues.{tag}
use Rattle.bounds.specs.LongestWait.InLine.{ends_at}
use Rattle.bounds.proofs.starvation_freedom.Line.{Lined, line_after}
use Rattle.bounds.proofs.starvation_freedom.Stages.{Leads, same, is_handed, is_granted, steps_on}
use Rattle.bounds.proofs.starvation_freedom.Over.{letting_go_tag}
use Rattle.bounds.proofs.starvation_freedom.Left.{hits_shown, hits_enters}

-- LISTS
pub ends_last : (x i : ℕ) (front : List ℕ) → ends_at x (front ++ (i ∷ [])) ≡ eqb i x
unfolding ends_at
ends_last x i [] = refl
ends_last x i (a ∷ []) = refl
ends_last x i (a ∷ b ∷ bs) = ends_last x i (b ∷ bs)

-- a thread that stands is not Inside after one step
not_from_queued : (j : ℕ) (y : Stage) → y ≡ inside → Leads (queued j) y → ⊥
unfolding tag
not_from_queued j y e same = let o = ap tag e in omega arith
not_from_queued j y e (is_handed _) = let o = ap tag e in omega arith
not_from_queued j y e (is_granted _) = let o = ap tag e in omega arith

module _ (t : Tree) (valid : Accepted t) (bits : SixteenBit t) (c : Situation t) where
  abbrev s : WordState
  s = c.words

  abbrev g : State
  g = queues c

  -- the step of a thread is an entry
  abbrev pub Enters : (thread : ℕ) → Type 0
  Enters x = is_entry (step t x s).kind ≡ true

  -- the entry is one of the step's moves, so it was pending, and the thread is inside after it
  entry_made : (x : ℕ) (h : x < t.threads) → Enters x → (moves.pending (g.stage x) ≡ 1) × ((queues (situations.next t valid bits c x h)).stage x ≡ inside)
  unfolding step situations.next queued_after hit
  entry_made x h e =
      let o = outcome_at t valid bits s c.queued x h in
      let f : Event → ℕ = λ ev. hit ev x in
      let shown : shown_sum f (change_shown t o.change) ≡ is x x = ap (shown_sum f) o.shows ∙ row_sum f (λ d m. refl) (λ d m. refl) x _ _ ∙ rw e refl in
      hits_enters t o.change x (omega (arith, shown, is_same x x refl, hits_shown t o.change x))

  pub entry_inside : (x : ℕ) (h : x < t.threads) → Enters x → (queues (situations.next t valid bits c x h)).stage x ≡ inside
  entry_inside x h e = (entry_made x h e).1

  -- the entry was pending
  pub enters_pending : (x : ℕ) → x < t.threads → Enters x → moves.pending (g.stage x) ≡ 1
  enters_pending x h e = (entry_made x h e).0

  queued_enters : (x k : ℕ) → x < t.threads → g.stage x ≡ queued k → Enters x → ⊥
  unfolding tag
  queued_enters x k h e f =
      let l = steps_on t (next_change t valid bits c x h) x (λ z. let o = ap tag (sym z ∙ e) in omega arith) in
      not_from_queued k _ (entry_inside x h f) (rw e at l)

  -- THE END OF A CHAIN
  pub data Ends : (from end : ℕ) → Type 0 where
    here : (i : ℕ) → stays t s i ≡ false → Ends i i
    onward : (i j e : ℕ) → stays t s i ≡ true → Looked t valid bits s c.queued i j → Ends j e → Ends i e

  chain_on_ends : (x : ℕ) {so_far all : List ℕ} {i : ℕ} → ChainOn t s so_far i all → i < t.threads → (front : List ℕ) → so_far ≡ front ++ (i ∷ []) → ends_at x all ≡ true → Ends i x
  chain_on_ends x (ends so_far i still) h front e f =
      let z : i ≡ x = eqb-true i x (sym (ends_last x i front) ∙ ap (ends_at x) (sym e) ∙ f) in
      rw (← z) (here i still)
  chain_on_ends x (goes_on so_far i j all still look o more) h front e f =
      let l = looked_one t valid bits s c.queued i h still in
      let same_one : l.0 ≡ j = head-eq_of_cons-eq (sym (looks_one t valid bits s c.queued i h l.0 still l.1) ∙ look) in
      let looked : Looked t valid bits s c.queued i j = rw same_one at l.1 in
      onward i j x still looked (chain_on_ends x more (looks_small t s i j look) so_far refl f)

  pub chain_ends : (i x : ℕ) → i < t.threads → ends_at x (chain t s i) ≡ true → Ends i x
  unfolding ChainLaw ends_at
  chain_ends i x h e =
      chain_on_ends x ((chain_law t s i h).found (λ z. let y : ends_at x [] ≡ true = rw z at e in false≢true y)) h [] refl e

  -- a thread whose step is a stay stands or lingers
  stay_stage : (i : ℕ) → i < t.threads → stays t s i ≡ true → ((k : ℕ) × (g.stage i ≡ queued k)) ⊎ ((l : ℕ) × (place s i ≡ Linger l) × (5 ≤ tag (g.stage i)))
  unfolding Says
  stay_stage i h still = by (place s i) refl (stay_waits t valid bits s c.queued i h still)
    where
      by : (p : Place) → place s i ≡ p → Waits t valid bits s c.queued i p → ((k : ℕ) × (g.stage i ≡ queued k)) ⊎ ((l : ℕ) × (place s i ≡ Linger l) × (5 ≤ tag (g.stage i)))
      by _ e (waits k p l y nt f n v) = inl (k, y)
      by _ e (lingers k l b n z) =
          let y = says t valid c i h (Linger (ancestor t i k)) e in
          inr (ancestor t i k, e, rw y.2 (letting_go_tag (height t i) y.0))
      by _ e (watches y r) = inl (height t i, y)

  -- a thread in Link moves, and does not enter
  link_ends : (j l r x : ℕ) → j < t.threads → place s j ≡ Link l r → Enters x → Ends j x → ⊥
  unfolding Says may_stay
  link_ends j l r x h e f (here _ still) = let y = says t valid c j h (Link l r) e in queued_enters j y.0 h y.2 f
  link_ends j l r x h e f (onward _ k _ still look more) = false≢true (sym (stays_at t s j (Link l r) e ∙ moves_on t s j (Link l r) refl) ∙ still)

  -- if the end of the chain enters, the chain of a thread that does not stand ends at that thread
  pub own_end : (b x : ℕ) → b < t.threads → Enters x → tag (g.stage b) ≢ 2 → Ends b x → x ≡ b
  unfolding tag looked_to
  own_end b x h f n (here _ still) = refl
  own_end b x h f n (onward _ j _ still look more) =
      elim (stay_stage b h still) [
        | inl (k, e) ↦ absurd (n (ap tag e))
        | inr (l, e, o) ↦ (
            let looked : links (place s j) (own_record t b l) ≡ true = rw e at look.looked in
            let y = link_place (place s j) (own_record t b l) looked in
            absurd (link_ends j y.0 (own_record t b l) x look.real y.1 f more))
      ]

  -- the members ahead, with the end of the chain
  abbrev pub LineEnds : (i j x : ℕ) → Type 0
  LineEnds i j x = Lined t valid bits c (λ a. Ends a x) i j

  stage_index : (j k : ℕ) → queued j ≡ queued k → j ≡ k
  unfolding low
  stage_index j k e = let o = ap (low 0) e in omega arith

  pub line_ends : (i j x : ℕ) → i < t.threads → Enters x → g.stage i ≡ queued j → Ends i x → LineEnds i j x
  unfolding looked_to acts_ahead acts_holding Says tag
  line_ends i j x h f e (here _ still) = absurd (queued_enters i j h e f)
  line_ends i j x h f e (onward _ a _ still look more) =
      by (λ l y. line_ends a l x look.real f y more) (place s i) look.looked refl (stay_waits t valid bits s c.queued i h still)
    where
      by : ((l : ℕ) → g.stage a ≡ queued l → LineEnds a l x) → (p : Place) → looked_to t s i p a ≡ true → place s i ≡ p → Waits t valid bits s c.queued i p → LineEnds i j x
      by rec _ looked y (waits k p l q nt u n v) =
          let d = ancestor t i k in
          let same_index = stage_index j k (sym e ∙ q) in
          let both = and_both (acts t s a d) (eqb (next s (own_record t a d)) (own_record t i d + 1)) looked in
          let own = own_record_at t valid i h k l in
          let named : next s (own_record t a d) ≡ suc (record_at t i k) = eqb-true _ _ both.1 ∙ (let z : own_record t i d + 1 ≡ suc (record_at t i k) = omega arith in z) in
          let before = stands_before t valid bits s c.queued d (record_at t i k) a nt look.real both.0 named in
          let w = acting_there t valid bits s c.queued d a look.real both.0 in
          let all = line_after t valid bits c (λ e. Ends e x) i k a w.index (own_record t a d) q look.real w.within w.there w.mine before (λ _ z. omega arith) more (λ z. rec w.index z) in
          rw (← same_index) at all
      by rec _ looked y (lingers k l b n z) = absurd (let w = says t valid c i h (Linger (ancestor t i k)) y in let o = ap tag (sym e ∙ w.2) in omega (arith, letting_go_tag (height t i) w.0))
      by rec _ looked y (watches q root) =
          let k = height t i in
          let same_index = stage_index j k (sym e ∙ q) in
          let top = ancestor_root t valid i h in
          let both = and_both (acts t s a 0) (eqb (status s (own_record t a 0)) (ticket_before (status s (own_record t i 0)))) looked in
          let before = watch_before t valid bits s c.queued i h q root a look.real both.0 (eqb-true _ _ both.1) in
          let w = acting_there t valid bits s c.queued 0 a look.real both.0 in
          let all = line_after t valid bits c (λ e. Ends e x) i k a w.index (own_record t a 0) q look.real w.within (w.there ∙ sym top) w.mine (rw top before) (λ nt. absurd (false≢true (sym nt ∙ ticket_yes t (ancestor t i k) root top))) more (λ z. rec w.index z) in
          rw (← same_index) at all
