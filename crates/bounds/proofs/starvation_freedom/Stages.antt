-- The effect of one step on the stage of a thread that is acquiring; and a domain that it has acquired counts 1 until the thread has the lock.
use mathlib.Core.Path.{◌≡◌, refl, sym, ap, ◌∙◌}
use mathlib.Core.List.{List}
use mathlib.Core.Logic.{◌≢◌, ◌⊎◌, inl, inr}
use Prim.Native.Nat.{ℕ, zero, suc, ◌≤◌, ◌<◌}
use native.Mathlib.Omega.{arith}
use Rattle.model.specs.Trees.{Tree}
use Rattle.model.proofs.Trees.Index.{height, record_at}
use Rattle.model.proofs.Trees.Accepted.{Accepted}
use Rattle.model.proofs.Trees.Records.{record_injective}
use Rattle.model.proofs.Lists.{same_or, put, put_same, put_other}
use Rattle.claims.proofs.Queues.Paths.{Laws, laws}
use Rattle.claims.proofs.Queues.Moves.{Stage, out, climb, queued, ready, inside, holding, releasing, down, low, acts, reach, pending, State, empty, Event, root, lower, Move, start, join_empty, join_root, join_after, enter, leave, hand_on, release, let_go}
use Rattle.claims.proofs.Queues.Invariant.{Thread, Inv}
use Rattle.claims.proofs.Queues.Keeps.{keeps}
use Rattle.claims.proofs.Queues.Remaining.{acts_real, joining_far, standing_far}
use Rattle.claims.proofs.Queues.Changes.{Changed, unmoved, moved, begun}
use Rattle.bounds.proofs.starvation_freedom.Queues.{tag}

-- a thread's stages: where a stage leads in one move
pub data Leads : Stage → Stage → Type 0 where
  same : {x : Stage} → Leads x x
  starts : Leads out (climb 0)
  climbs : (j : ℕ) → Leads (climb j) (climb (suc j))
  climbs_in : (j : ℕ) → Leads (climb j) inside
  joins : (j : ℕ) → Leads (climb j) (queued j)
  enters : Leads ready inside
  leaves : Leads inside holding
  lets_go : (j : ℕ) → Leads holding (down j)
  goes_down : (j : ℕ) → Leads (releasing j) (down j)
  is_handed : (l : ℕ) → Leads (queued l) ready
  is_granted : (l : ℕ) → Leads (queued l) (climb (suc l))

leads_one : (f : ℕ → Stage) (i : ℕ) (x y : Stage) → f i ≡ x → Leads x y → (b : ℕ) → Leads (f b) (put f i y b)
leads_one f i x y e l b =
    same_or b i _
    (λ z. rw (put_same f i y b z, z, e) l)
    (λ z. rw (put_other f i y b z) same)

leads_two : (f : ℕ → Stage) (i s : ℕ) (x y u v : Stage) → f i ≡ x → Leads x y → f s ≡ u → Leads u v → (b : ℕ) → Leads (f b) (put (put f i y) s v b)
leads_two f i s x y u v e l g m b =
    same_or b s _
    (λ z. rw (put_same (put f i y) s v b z, z, g) m)
    (λ z. rw (put_other (put f i y) s v b z) (leads_one f i x y e l b))

pub leads : (T : Tree) {st st' : State} {e : Event} → Move T st e st' → (b : ℕ) → Leads (st.stage b) (st'.stage b)
leads T {st} (start i h e) b = leads_one st.stage i out (climb 0) e starts b
leads T {st} (join_empty i j e n z) b = leads_one st.stage i (climb j) (climb (suc j)) e (climbs j) b
leads T {st} (join_root i j e r z) b = leads_one st.stage i (climb j) inside e (climbs_in j) b
leads T {st} (join_after i j a e f) b = leads_one st.stage i (climb j) (queued j) e (joins j) b
leads T {st} (enter i e) b = leads_one st.stage i ready inside e enters b
leads T {st} (leave i e) b = leads_one st.stage i inside holding e leaves b
leads T {st} (hand_on i j s l xs e h w m ok shape) b = leads_two st.stage i s holding (down j) (queued l) ready e (lets_go j) w (is_handed l) b
leads T {st} (release i j s l xs e w m shape) b = leads_two st.stage i s (releasing j) (down j) (queued l) (climb (suc l)) e (goes_down j) w (is_granted l) b
leads T {st} (let_go i j (root e z) shape) b = leads_one st.stage i holding (down j) e (lets_go j) b
leads T {st} (let_go i j (lower e) shape) b = leads_one st.stage i (releasing j) (down j) e (goes_down j) b

-- where a stage leads in a step; a thread that is out may make two moves
pub steps_on : (T : Tree) {st st' : State} → Changed T st st' → (b : ℕ) → st.stage b ≢ out → Leads (st.stage b) (st'.stage b)
steps_on T unmoved b n = same
steps_on T (moved mv) b n = leads T mv b
steps_on T (begun {st = st} {st' = st'} i h e c) b n =
    let z : put st.stage i (climb 0) b ≡ st.stage b = put_other st.stage i (climb 0) b (λ y. n (ap st.stage y ∙ e)) in
    rw z at (steps_on T c b (rw z n))

-- ACQUIRED: a domain counts 1 until its thread has the lock
abbrev pub Ones : Tree → State → Type 0
Ones T st = (b k : ℕ) → tag (st.stage b) ≤ 2 → k < low (height T b) (st.stage b) → st.tally (record_at T b k) ≡ 1

pub ones_empty : (T : Tree) → Ones T empty
unfolding empty low
ones_empty T b k h l = absurd (omega arith)

down_none : (h j k : ℕ) → tag (down j) ≤ 2 → k < low h (down j) → ⊥
unfolding tag low down
down_none h zero k a b = omega arith
down_none h (suc j) k a b = omega arith

module _ (T : Tree) (valid : Accepted T) where
  abbrev tree_laws : Laws T
  tree_laws = laws T valid

  module _ (st : State) (inv : Inv T st) (ones : Ones T st) where
    -- one thread changes its stage
    one_changes : (i : ℕ) (x : Stage) (f : ℕ → ℕ) → ((n l : ℕ) → l < low (height T n) (st.stage n) → f (record_at T n l) ≡ st.tally (record_at T n l)) →
        ((k : ℕ) → tag x ≤ 2 → k < low (height T i) x → f (record_at T i k) ≡ 1) →
        Ones T (record { queue = st.queue; stage = put st.stage i x; tally = f })
    one_changes i x f far own b k h l =
        same_or b i _
        (λ z.
        let y = put_same st.stage i x b z in
        let h' : tag x ≤ 2 = rw y at h in
        let l' : k < low (height T i) x = rw (y, z) at l in
        rw z (own k h' l'))
        (λ z.
        let y = put_other st.stage i x b z in
        let l' : k < low (height T b) (st.stage b) = rw y at l in
        far b k l' ∙ ones b k (rw y at h) l')

    -- the counts at the indices below
    before_there : (i j : ℕ) (x : Stage) → st.stage i ≡ x → tag x ≤ 2 → low (height T i) x ≡ j → (k : ℕ) → k < j → st.tally (record_at T i k) ≡ 1
    before_there i j x e h l k b = ones i k (rw e h) (rw e (omega arith))

    own_apart : (i j k : ℕ) → i < T.threads → j ≤ height T i → k < j → record_at T i k ≢ record_at T i j
    own_apart i j k h l b e = let z = record_injective T valid i h k j (omega arith) l e in omega arith

    two_change : (i j s l : ℕ) (xs : List ℕ) (y : Stage) (v : ℕ) (q : ℕ → List ℕ) → st.stage s ≡ queued l →
        ((k : ℕ) → tag y ≤ 2 → k < low (height T s) y → put st.tally (record_at T s l) v (record_at T s k) ≡ 1) →
        Ones T (record { queue = q; stage = put (put st.stage i (down j)) s y; tally = put st.tally (record_at T s l) v })
    two_change i j s l xs y v q w own b k h o =
        same_or b s _
        (λ z.
        let u = put_same (put st.stage i (down j)) s y b z in
        rw z (own k (rw u at h) (rw (u, z) at o)))
        (λ z.
        let u = put_other (put st.stage i (down j)) s y b z in
        same_or b i _
        (λ n.
        let p : put (put st.stage i (down j)) s y b ≡ down j = u ∙ put_same st.stage i (down j) b n in
        absurd (down_none (height T b) j k (rw p at h) (rw p at o)))
        (λ n.
        let p : put (put st.stage i (down j)) s y b ≡ st.stage b = u ∙ put_other st.stage i (down j) b n in
        let o' : k < low (height T b) (st.stage b) = rw p at o in
        put_other st.tally (record_at T s l) v (record_at T b k) (standing_far T tree_laws st inv s l w b k o') ∙ ones b k (rw p at h) o'))

    ones_move : {e : Event} {st' : State} → Move T st e st' → Ones T st'
    unfolding tag low acts reach
    ones_move (start i h e) = one_changes i (climb 0) st.tally (λ n l b. refl) (λ k h l. absurd (omega arith))
    ones_move (join_empty i j e n z) =
        let th : Thread T st.queue i (climb j) = rw e at (inv.threads i) in
        one_changes i (climb (suc j)) (put st.tally (record_at T i j) 1)
        (λ n l b. put_other st.tally (record_at T i j) 1 (record_at T n l) (joining_far T tree_laws st inv i j e n l b))
        (λ k h l. same_or k j _
        (λ y. put_same st.tally (record_at T i j) 1 (record_at T i k) (ap (record_at T i) y))
        (λ y. put_other st.tally (record_at T i j) 1 (record_at T i k) (own_apart i j k (th.real (omega arith)) (omega (arith, th.range)) (omega arith)) ∙ before_there i j (climb j) e (omega arith) refl k (omega arith)))
    ones_move (join_root i j e r z) = one_changes i inside st.tally (λ n l b. refl) (λ k h l. absurd (omega arith))
    ones_move (join_after i j a e f) = one_changes i (queued j) st.tally (λ n l b. refl) (λ k h l. before_there i j (climb j) e (omega arith) refl k l)
    ones_move (enter i e) = one_changes i inside st.tally (λ n l b. refl) (λ k h l. absurd (omega arith))
    ones_move (leave i e) = one_changes i holding st.tally (λ n l b. refl) (λ k h l. absurd (omega arith))
    ones_move (hand_on i j s l xs e h w m ok shape) =
        two_change i j s l xs ready (suc (st.tally (record_at T i j))) st.queue w (λ k h l. absurd (omega arith))
    ones_move (release i j s l xs e w m shape) =
        let real = acts_real T tree_laws st inv s l (rw w (omega arith)) in
        two_change i j s l xs (climb (suc l)) 1 st.queue w
        (λ k h b. same_or k l _
        (λ y. put_same st.tally (record_at T s l) 1 (record_at T s k) (ap (record_at T s) y))
        (λ y. put_other st.tally (record_at T s l) 1 (record_at T s k) (own_apart s l k real.0 real.2 (omega arith)) ∙ before_there s l (queued l) w (omega arith) refl k (omega arith)))
    ones_move (let_go i j last shape) = one_changes i (down j) st.tally (λ n l b. refl) (λ k h l. absurd (down_none (height T i) j k h l))

  pub ones_step : {st st' : State} → Inv T st → Changed T st st' → Ones T st → Ones T st'
  ones_step inv unmoved o = o
  ones_step inv (moved {st = st} mv) o = ones_move st inv o mv
  ones_step inv (begun {st = st} i h e c) o = ones_step (keeps T tree_laws st inv (start i h e)) c (ones_move st inv o (start i h e))

-- WHERE A STAGE LEADS
pub from_queued : (j : ℕ) (y : Stage) → Leads (queued j) y → (y ≡ queued j) ⊎ ((y ≡ ready) ⊎ (y ≡ climb (suc j)))
from_queued j y same = inl refl
from_queued j y (is_handed _) = inr (inl refl)
from_queued j y (is_granted _) = inr (inr refl)

pub from_climb : (j : ℕ) (y : Stage) → Leads (climb j) y → (y ≡ climb j) ⊎ ((y ≡ climb (suc j)) ⊎ ((y ≡ queued j) ⊎ (y ≡ inside)))
from_climb j y same = inl refl
from_climb j y (climbs _) = inr (inl refl)
from_climb j y (joins _) = inr (inr (inl refl))
from_climb j y (climbs_in _) = inr (inr (inr refl))

pub from_ready : (y : Stage) → Leads ready y → (y ≡ ready) ⊎ (y ≡ inside)
from_ready y same = inl refl
from_ready y enters = inr refl

-- a thread that has the lock and stays first somewhere still has it
down_lock : (h j k : ℕ) → k < low h (down j) → 3 ≤ tag (down j)
unfolding low tag down
down_lock h zero k l = absurd (omega arith)
down_lock h (suc j) k l = omega arith

pub lock_lasts : {x y : Stage} (h k : ℕ) → Leads x y → 3 ≤ tag x → k < low h y → 3 ≤ tag y
unfolding tag
lock_lasts h k same a l = a
lock_lasts h k starts a l = absurd (omega arith)
lock_lasts h k (climbs j) a l = absurd (omega arith)
lock_lasts h k (climbs_in j) a l = absurd (omega arith)
lock_lasts h k (joins j) a l = absurd (omega arith)
lock_lasts h k enters a l = omega arith
lock_lasts h k leaves a l = omega arith
lock_lasts h k (lets_go j) a l = down_lock h j k l
lock_lasts h k (goes_down j) a l = down_lock h j k l
lock_lasts h k (is_handed l) a b = absurd (omega arith)
lock_lasts h k (is_granted l) a b = absurd (omega arith)

-- a thread that is acquiring stays first where it is first, and has released nothing
pub way_lasts : {x y : Stage} (h k : ℕ) → k ≤ h → Leads x y → tag x ≤ 2 → k < low h x → (k < low h y) × (tag y ≤ 4)
unfolding tag low
way_lasts h k b same a l = (l, omega arith)
way_lasts h k b starts a l = absurd (omega arith)
way_lasts h k b (climbs j) a l = (omega arith, omega arith)
way_lasts h k b (climbs_in j) a l = (omega arith, omega arith)
way_lasts h k b (joins j) a l = (l, omega arith)
way_lasts h k b enters a l = absurd (omega arith)
way_lasts h k b leaves a l = absurd (omega arith)
way_lasts h k b (lets_go j) a l = absurd (omega arith)
way_lasts h k b (goes_down j) a l = absurd (omega arith)
way_lasts h k b (is_handed m) a l = (omega arith, omega arith)
way_lasts h k b (is_granted m) a l = (omega arith, omega arith)

pub way_pending : (x : Stage) → tag x ≤ 3 → pending x ≡ 1
unfolding tag pending
way_pending out h = refl
way_pending (climb j) h = refl
way_pending (queued j) h = refl
way_pending ready h = refl
way_pending inside h = absurd (omega arith)
way_pending holding h = absurd (omega arith)
way_pending (releasing j) h = absurd (omega arith)

pub inside_stage : (x : Stage) → tag x ≡ 4 → x ≡ inside
unfolding tag
inside_stage out h = absurd (omega arith)
inside_stage (climb j) h = absurd (omega arith)
inside_stage (queued j) h = absurd (omega arith)
inside_stage ready h = absurd (omega arith)
inside_stage inside h = refl
inside_stage holding h = absurd (omega arith)
inside_stage (releasing j) h = absurd (omega arith)

-- a thread that is acquiring and first somewhere climbs or stands
pub on_way : (h k : ℕ) (x : Stage) → tag x ≤ 2 → k < low h x → (j : ℕ) × (k < j) × ((x ≡ climb j) ⊎ (x ≡ queued j))
unfolding tag low
on_way h k out a l = absurd (omega arith)
on_way h k (climb j) a l = (j, l, inl refl)
on_way h k (queued j) a l = (j, l, inr refl)
on_way h k ready a l = absurd (omega arith)
on_way h k inside a l = absurd (omega arith)
on_way h k holding a l = absurd (omega arith)
on_way h k (releasing j) a l = absurd (omega arith)

down_standing : (l j : ℕ) → down j ≡ queued l → ⊥
unfolding tag down
down_standing l zero e = let o = ap tag e in omega arith
down_standing l (suc j) e = let o = ap tag e in omega arith

begun_index : {x : Stage} {l : ℕ} → climb 0 ≡ x → (x ≡ queued l) ⊎ ((x ≡ climb l) ⊎ ((x ≡ out) × (l ≡ 0))) → l ≡ 0
unfolding tag low
begun_index z (inl e) = absurd (let o = ap tag (z ∙ e) in omega arith)
begun_index z (inr (inl e)) = let o = ap (low 0) (z ∙ e) in omega arith
begun_index z (inr (inr (e, n))) = n

-- a thread that stands stood there before, or joins, maybe right after its start
to_queued : {x y : Stage} (l : ℕ) → Leads x y → y ≡ queued l → (x ≡ queued l) ⊎ (x ≡ climb l)
unfolding tag low
to_queued l same e = inl e
to_queued l (joins j) e = inr (ap climb (let o = ap (low 0) e in omega arith))
to_queued l starts e = absurd (let o = ap tag e in omega arith)
to_queued l (climbs j) e = absurd (let o = ap tag e in omega arith)
to_queued l (climbs_in j) e = absurd (let o = ap tag e in omega arith)
to_queued l enters e = absurd (let o = ap tag e in omega arith)
to_queued l leaves e = absurd (let o = ap tag e in omega arith)
to_queued l (lets_go j) e = absurd (down_standing l j e)
to_queued l (goes_down j) e = absurd (down_standing l j e)
to_queued l (is_handed j) e = absurd (let o = ap tag e in omega arith)
to_queued l (is_granted j) e = absurd (let o = ap tag e in omega arith)

pub before_queued : (T : Tree) {st st' : State} → Changed T st st' → (b l : ℕ) → st'.stage b ≡ queued l → (st.stage b ≡ queued l) ⊎ ((st.stage b ≡ climb l) ⊎ ((st.stage b ≡ out) × (l ≡ 0)))
before_queued T unmoved b l e = inl e
before_queued T (moved mv) b l e = elim (to_queued l (leads T mv b) e) [ inl z ↦ inl z | inr z ↦ inr (inl z) ]
before_queued T (begun {st = st} i h o c) b l e =
    same_or b i _
    (λ z. inr (inr (ap st.stage z ∙ o, begun_index (sym (put_same st.stage i (climb 0) b z)) (before_queued T c b l e))))
    (λ z. rw (put_other st.stage i (climb 0) b z) at (before_queued T c b l e))
