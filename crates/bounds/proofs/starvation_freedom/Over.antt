-- The first in a domain, with the lock: whether its Check there is over. The Check ends only if the count is the threshold or nobody is linked after it.
use mathlib.Core.Path.{◌≡◌, sym, ap, ◌∙◌}
use mathlib.Core.Bool.{Bool, true, false, cond}
use mathlib.Core.Logic.{◌≢◌, ◌⊎◌, inl, inr}
use Prim.Native.Nat.{ℕ, suc, ◌+◌, ◌-◌, ◌≤◌, ◌<◌}
use native.Mathlib.Omega.{arith}
use lib.Dec.{eqb}
use borrow.Author.Tests.{ne_eqb}
use Rattle.model.specs.declared.Place.{Place}
use Rattle.model.specs.declared.Place.TheVariants.{Idle, Prep, Swap, Link, Wait, Inside, Check, Help, Cas, Linger, Grant, Draw, Watch, Raise, Invalid}
use Rattle.model.specs.declared.State.{State as WordState}
use Rattle.model.specs.Trees.{Tree, own_record}
use Rattle.model.specs.Places.{words_of}
use Rattle.model.specs.States.{acquire_parent, next, status, place}
use Rattle.model.specs.Steps.{RowResult, row}
use Rattle.model.specs.Laws.{SixteenBit}
use Rattle.model.proofs.Branches.{Branch, check_passes, check_releases, branch}
use Rattle.model.proofs.Lists.{same_or, less_or}
use Rattle.model.proofs.Trees.Index.{ancestor, height, record_at}
use Rattle.model.proofs.Trees.Accepted.{Accepted}
use Rattle.model.proofs.Trees.Paths.{ancestor_inner, ancestor_strict}
use Rattle.model.proofs.Trees.Records.{own_record_at}
use Rattle.model.proofs.Places.{place_stored}
use Rattle.claims.proofs.Queues.Moves.{Stage, holding, releasing, low}
use Rattle.claims.proofs.Queues.Invariant.{low_down}
use Rattle.claims.proofs.Words.View.{words_in}
use Rattle.claims.proofs.Words.Represents.{letting_go}
use Rattle.claims.proofs.Words.Says.{LetsGo, helping, comparing, lingering, granting}
use Rattle.bounds.proofs.starvation_freedom.Situations as situations
use Rattle.bounds.proofs.starvation_freedom.Situations.{Situation, queues, next_words}
use Rattle.bounds.proofs.starvation_freedom.Says.{Says, says, stands, woken, granted, pass, release, done_stage, Staged, staged}
use Rattle.bounds.proofs.starvation_freedom.Turns.{Releases, by_check, by_help, by_raise, FromCheck, passes, goes_up, inside_turn, check_turn, grant_turn}
use Rattle.bounds.proofs.starvation_freedom.Ready.{ready_enters}
use Rattle.bounds.proofs.starvation_freedom.Queues.{tag}

-- the Check of a domain is over, for a thread whose record is first there; on a path, parents have lower numbers
unfoldable pub Over : (domain : ℕ) → Place → Type 0
Over d Idle = ⊥
Over d (Prep l) = ⊥
Over d (Swap l) = ⊥
Over d (Link l p) = ⊥
Over d (Wait l) = ⊥
Over d Inside = ⊥
Over d (Check l) = l < d
Over d (Help l) = Unit {0}
Over d (Cas l) = Unit {0}
Over d (Linger l) = Unit {0}
Over d (Grant l r w) = (l < d) ⊎ (acquire_parent ≤ w)
Over d Draw = ⊥
Over d Watch = ⊥
Over d Raise = Unit {0}
Over d Invalid = ⊥

pub letting_go_tag : (h k : ℕ) → 5 ≤ tag (letting_go h k)
unfolding letting_go tag
letting_go_tag h k = by (eqb k h)
  where
    by : (b : Bool) → 5 ≤ tag (cond b holding (releasing k))
    by true = omega arith
    by false = omega arith

module _ (t : Tree) (valid : Accepted t) (bits : SixteenBit t) (b : ℕ) (hb : b < t.threads) where
  module _ (c : Situation t) where
    abbrev s : WordState
    s = c.words

    abbrev x : Stage
    x = (queues c).stage b

    -- until the thread has left Inside, it is not over
    pub not_over : (d : ℕ) (p : Place) → place s b ≡ p → tag x ≤ 4 → Over d p → ⊥
    unfolding Over Says tag
    not_over d (Check l) e h o = let y = says t valid c b hb (Check l) e in let z = ap tag y.3 in omega arith
    not_over d (Help l) e h o = let y = says t valid c b hb (Help l) e in let z = ap tag y.2 in omega (arith, letting_go_tag (height t b) y.0)
    not_over d (Cas l) e h o = let y = says t valid c b hb (Cas l) e in let z = ap tag y.2 in omega (arith, letting_go_tag (height t b) y.0)
    not_over d (Linger l) e h o = let y = says t valid c b hb (Linger l) e in let z = ap tag y.2 in omega (arith, letting_go_tag (height t b) y.0)
    not_over d (Grant l r w) e h o =
        let y = says t valid c b hb (Grant l r w) e in
        elim y.2 [
          | pass q z f ↦ (let v = ap tag z in omega arith)
          | release z f ↦ (let v = ap tag z in omega (arith, letting_go_tag (height t b) y.0))
        ]
    not_over d Raise e h o = let y = says t valid c b hb Raise e in let z = ap tag y in omega arith
    not_over d Idle e h o = o
    not_over d (Prep l) e h o = o
    not_over d (Swap l) e h o = o
    not_over d (Link l p) e h o = o
    not_over d (Wait l) e h o = o
    not_over d Inside e h o = o
    not_over d Draw e h o = o
    not_over d Watch e h o = o
    not_over d Invalid e h o = o

    -- while the thread releases the domain, it is over
    pub releasing_over : (k : ℕ) → k < height t b → x ≡ releasing k → Over (ancestor t b k) (place s b)
    unfolding Over Staged
    releasing_over k h z = by (staged t valid c b hb (releasing k) z)
      where
        by : LetsGo t b k (place s b) → Over (ancestor t b k) (place s b)
        by (helping e) = rw e tt
        by (comparing e) = rw e tt
        by (lingering e) = rw e tt
        by (granting r e) = let n = ne_eqb (ancestor t b k) 0 (omega (arith, ancestor_inner t valid b hb k h)) in rw (e, n) (inr (omega arith))

    -- ITS OWN STEP, if its record is first at index k before and after it
    abbrev c' : Situation t
    c' = situations.next t valid bits c b hb

    abbrev after : Place
    after = place c'.words b

    -- a place from which a domain is released is no Grant
    not_granting : (m l r w : ℕ) → Releases t b m after → after ≡ Grant l r w → ⊥
    not_granting m l r w (by_check e y) g = let o = ap (λ u. (words_of u).row) (sym e ∙ g) in omega arith
    not_granting m l r w (by_help e y) g = let o = ap (λ u. (words_of u).row) (sym e ∙ g) in omega arith
    not_granting m l r w (by_raise e y) g = let o = ap (λ u. (words_of u).row) (sym e ∙ g) in omega arith

    check_fact : (m l : ℕ) → place s b ≡ Check l → Releases t b m after → (t.threshold l ≤ status s (own_record t b l)) ⊎ (next s (own_record t b l) ≡ 0)
    check_fact m l e rel = by (ap (λ u. place u b) (next_words t valid bits c b hb) ∙ ap (λ u. place (row t b u s).state b) e) (branch t b s (Check l))
      where
        by : {y : RowResult} → after ≡ place y.state b → Branch t b s (Check l) y → (t.threshold l ≤ status s (own_record t b l)) ⊎ (next s (own_record t b l) ≡ 0)
        by q (check_passes _ less n) =
            let G = Grant l (next s (own_record t b l) - 1) (status s (own_record t b l) + 1) in
            absurd (not_granting m l (next s (own_record t b l) - 1) (status s (own_record t b l) + 1) rel (q ∙ place_stored b G s (omega (arith, c.queued.room.places_room, valid.few_threads))))
        by q (check_releases _ f) = f

    module _ (k v : ℕ) (h : k < height t b) (named : next s (record_at t b k) ≢ 0) (within : (queues c).tally (record_at t b k) ≤ v)
        (has_lock : 3 ≤ tag x) (still_first : k < low (height t b) ((queues c').stage b)) where
      abbrev d : ℕ
      d = ancestor t b k

      -- a domain of the path at an index up to k is not above d
      not_above : (m : ℕ) → m ≤ k → ancestor t b m < d → ⊥
      not_above m l o = same_or m k _ (λ z. let y : ancestor t b m ≡ d = ap (ancestor t b) z in omega arith) (λ z. let y = ancestor_strict t valid b hb m k (omega arith) (omega arith) in omega arith)

      released_over : (m : ℕ) → m ≤ k → Releases t b m after → Over d after → ⊥
      unfolding Over
      released_over m l (by_check e y) o = not_above m l (rw e at o)
      released_over m l (by_help e y) o = omega arith
      released_over m l (by_raise e y) o = omega arith

      -- from Check at index m
      check_over : (m : ℕ) → m < height t b → place s b ≡ Check (ancestor t b m) → (Over d (place s b) → t.threshold d ≤ v) → FromCheck t b m after → Over d after → t.threshold d ≤ v
      unfolding Over words_in Says
      check_over m l e before (passes r w g small) o =
          elim (let o' : (ancestor t b m < d) ⊎ (acquire_parent ≤ w) = rw g at o in o') [
            | inl y ↦ before (rw e y)
            | inr y ↦ absurd (omega arith)
          ]
      check_over m l e before (goes_up rel) o =
          less_or m k _
          (λ y. absurd (released_over (suc m) (omega arith) rel o))
          (λ y. same_or m k _
          (λ z.
          let e' : place s b ≡ Check d = e ∙ ap (λ n. Check (ancestor t b n)) z in
          let own = own_record_at t valid b hb k (omega arith) in
          elim (check_fact (suc m) d e' rel) [
            | inl f ↦ (let f' : t.threshold d ≤ status s (record_at t b k) = rw own at f in omega (arith, (says t valid c b hb (Check d) e').4 k h h))
            | inr f ↦ absurd (named (rw own at f))
          ])
          (λ z. before (rw e (ancestor_strict t valid b hb k m (omega arith) (omega arith)))))

      pub over_turn : (Over d (place s b) → t.threshold d ≤ v) → (p : Place) → place s b ≡ p → Over d after → t.threshold d ≤ v
      unfolding Over Says tag
      over_turn before Idle e o = absurd (let y = ap tag (says t valid c b hb Idle e) in omega arith)
      over_turn before (Prep l) e o = absurd (let y = ap tag (says t valid c b hb (Prep l) e).2 in omega arith)
      over_turn before (Swap l) e o = absurd (let y = ap tag (says t valid c b hb (Swap l) e).2 in omega arith)
      over_turn before (Link l p) e o = absurd (let y = ap tag (says t valid c b hb (Link l p) e).2 in omega arith)
      over_turn before (Wait l) e o =
          elim (says t valid c b hb (Wait l) e).2 [
            | stands u v ↦ absurd (let y = ap tag u in omega arith)
            | woken q u v ↦ absurd (let y = ap tag u in omega arith)
            | granted u v m ↦ absurd (rw (ready_enters t valid bits b hb c u hb) at o)
          ]
      over_turn before Inside e o = absurd (released_over 0 (omega arith) (inside_turn t valid bits c b hb e) o)
      over_turn before (Check l) e o =
          let y = says t valid c b hb (Check l) e in
          let e' : place s b ≡ Check (ancestor t b y.0) = e ∙ ap Check y.1.0 in
          check_over y.0 y.2 e' before (check_turn t valid bits c b hb y.0 y.2 e') o
      over_turn before (Help l) e o = before (rw e tt)
      over_turn before (Cas l) e o = before (rw e tt)
      over_turn before (Linger l) e o = before (rw e tt)
      over_turn before (Grant l r w) e o =
          let y = says t valid c b hb (Grant l r w) e in
          let m = y.0 in
          let within_there = y.1.1 in
          elim y.2 [
            | pass q u f ↦ less_or k m _
                (λ z. before (rw e (inl (let n = ancestor_strict t valid b hb k m z (omega arith) in let same = y.1.0 in omega arith))))
                (λ z.
                let e' : place s b ≡ Grant (ancestor t b m) r w = e ∙ ap (λ n. Grant n r w) y.1.0 in
                let stage' = done_stage t valid c' b hb m within_there (grant_turn t valid bits c b hb m r w within_there e') in
                let low_there : low (height t b) ((queues c').stage b) ≡ m = ap (low (height t b)) stage' ∙ low_down (height t b) m in
                absurd (omega arith))
            | release u f ↦ same_or (ancestor t b m) 0 _
                (λ z. before (rw e (inl (let n = ancestor_inner t valid b hb k h in let same = y.1.0 in omega arith))))
                (λ z. before (rw e (inr (let f' : w ≡ acquire_parent = rw (ne_eqb (ancestor t b m) 0 z) at f in omega arith))))
          ]
      over_turn before Draw e o = absurd (let y = ap tag (says t valid c b hb Draw e).0 in omega arith)
      over_turn before Watch e o =
          elim (says t valid c b hb Watch e).0 [
            | inl u ↦ absurd (let y = ap tag u in omega arith)
            | inr u ↦ absurd (rw (ready_enters t valid bits b hb c u hb) at o)
          ]
      over_turn before Raise e o = before (rw e tt)
      over_turn before Invalid e o = absurd (says t valid c b hb Invalid e)
