-- No thread starves under fair schedules: the laws, from what holds within rounds.
use mathlib.Core.Path.{◌≡◌, refl, sym, ap, ◌∙◌, subst}
use mathlib.Core.Bool.{Bool, true, false, cond, false≢true}
use mathlib.Core.List.{List, [], ◌∷◌}
use mathlib.Core.Logic.{◌≢◌, ◌⊎◌, inl, inr}
use Prim.Native.Nat.{ℕ, zero, suc, ◌+◌, ◌*◌, ◌≤◌, ◌<◌}
use native.Mathlib.Omega.{arith}
use lib.ListN.{length, take, drop, length-append, length-drop}
use lib.Seq.{length-take-le, take-take, take-add, drop-drop}
use borrow.Author.Tests.{eq-eqb}
use Rattle.model.specs.declared.Place.{Place}
use Rattle.model.specs.declared.Place.TheVariants.{Idle, Prep, Swap, Link, Wait, Inside, Check, Help, Cas, Linger, Grant, Draw, Watch, Raise, Invalid}
use Rattle.model.specs.declared.State.{State}
use Rattle.model.specs.Trees.{Tree}
use Rattle.model.specs.States.{place, fresh_state}
use Rattle.model.specs.Steps.{is_entry, row, step}
use Rattle.model.specs.Runs.{steps, state_after, entering, run_of, run, occurrences}
use Rattle.model.specs.Refusals.{tree_refusal}
use Rattle.model.specs.Calls.{state_at}
use Rattle.model.specs.Laws.{AllThreads, SixteenBit, FromFresh, KindLaw}
use Rattle.model.proofs.Tests.{largest_ge}
use Rattle.model.proofs.Lists.{same_or}
use Rattle.model.proofs.Trees.Accepted.{Accepted, accepted}
use Rattle.model.proofs.Laws.Facts.{facts_well_formed}
use Rattle.model.proofs.Laws.Kinds.{kind_law}
use Rattle.model.proofs.Counted.{occurrences_join}
use Rattle.claims.proofs.Queues.Paths.{laws}
use Rattle.claims.proofs.Queues.Moves.{State as QueueState, Event, Run, done, silent, more}
use Rattle.claims.proofs.Queues.Invariant.{Inv, inv_empty}
use Rattle.claims.proofs.Queues.Keeps.{keeps}
use Rattle.claims.proofs.Claims.Reached.{from_fresh, threads_take, threads_join}
use Rattle.bounds.specs.StarvationFreedom.Bounds.{effective, acquire_bound, release_bound, everyone_bound}
use Rattle.bounds.specs.StarvationFreedom.Laws.{is_acquiring, is_releasing, Rounds, none, one_more, Arrives, Bounded, StarvationLaw, in_order, round_robin, EveryoneLaw, Windows, BoundedInWindows, WindowLaw}
use Rattle.claims.proofs.Queues.Changes.{moved}
use Rattle.bounds.proofs.starvation_freedom.Effective.{effective_keeps}
use Rattle.bounds.proofs.starvation_freedom.Stages.{Ones, ones_empty, ones_step}
use Rattle.bounds.proofs.starvation_freedom.Situations.{Situation, next, next_words, place_other}
use Rattle.bounds.proofs.starvation_freedom.Within.{Covers, covers_less, Reaches, now, later, sequence, longer}
use Rattle.bounds.proofs.starvation_freedom.Says.{Says, says}
use Rattle.bounds.proofs.starvation_freedom.Releasing.{idle_within}
use Rattle.bounds.proofs.starvation_freedom.Acquiring.{inside_within}

-- ROUNDS, JOINED
rounds_cover : (t : Tree) {n : ℕ} {S : List ℕ} → Rounds t n S → Covers t n S
unfolding Covers
rounds_cover t none = tt
rounds_cover t (one_more {rounds = S} r x rs) = (r, S, refl, x.everyone, rounds_cover t rs)

pub rounds_threads : (t : Tree) {n : ℕ} {S : List ℕ} → Rounds t n S → AllThreads t S
unfolding AllThreads
rounds_threads t none = tt
rounds_threads t (one_more {rounds = S} r x rs) = threads_join t r S x.threads (rounds_threads t rs)

-- ROUND ROBIN
in_order_threads : (t : Tree) (n : ℕ) → n ≤ t.threads → AllThreads t (in_order n)
unfolding in_order AllThreads
in_order_threads t zero h = tt
in_order_threads t (suc n) h = threads_join t (in_order n) (n ∷ []) (in_order_threads t n (omega arith)) (omega arith, tt)

pub in_order_everyone : (n i : ℕ) → i < n → 1 ≤ occurrences i (in_order n)
unfolding in_order occurrences
in_order_everyone zero i h = absurd (omega arith)
in_order_everyone (suc n) i h =
    let o = occurrences_join i (in_order n) (n ∷ []) in
    same_or i n _
    (λ z. let one : occurrences i (n ∷ []) ≡ 1 = rw (eq-eqb i n z) refl in omega arith)
    (λ z. let rec = in_order_everyone n i (omega arith) in omega arith)

pub in_order_length : (n : ℕ) → length (in_order n) ≡ n
unfolding in_order
in_order_length zero = refl
in_order_length (suc n) = let l = length-append (in_order n) (n ∷ []) in let rec = in_order_length n in omega arith

pub robin_rounds : (t : Tree) (n : ℕ) → Rounds t n (round_robin t.threads n)
unfolding round_robin
robin_rounds t zero = none
robin_rounds t (suc n) =
    one_more (in_order t.threads) (record { threads = in_order_threads t t.threads (omega arith); everyone = in_order_everyone t.threads }) (robin_rounds t n)

pub robin_length : (m n : ℕ) → length (round_robin m n) ≡ n * m
unfolding round_robin
robin_length m zero = omega arith
robin_length m (suc n) = let l = length-append (in_order m) (round_robin m n) in let o = in_order_length m in let rec = robin_length m n in omega arith

-- WINDOWS are rounds: N entries each
windows_cover :
    (t : Tree) (N n : ℕ) (S : List ℕ) → ((k i : ℕ) → k + N ≤ length S → i < t.threads → 1 ≤ occurrences i (take N (drop k S))) → N * n ≤ length S → Covers t n (take (N * n) S)
unfolding Covers
windows_cover t N zero S every b = tt
windows_cover t N (suc n) S every b =
    let z : N * suc n ≡ N + N * n = omega arith in
    let rest = drop N S in
    let long = length-drop N S in (
      take N S,
      take (N * n) rest,
      ap (λ m. take m S) z ∙ take-add N (N * n) S,
      (λ i h. every 0 i (omega arith) h),
      windows_cover t N n rest (λ k i u h. rw (drop-drop k N S) (let e : N + k + N ≤ length S = omega arith in every (N + k) i e h)) (omega arith),
    )

module _ (t : Tree) (ok : (tree_refusal t).number ≡ 0) (bits : SixteenBit t) (i : ℕ) (hi : i < t.threads) where
  valid : Accepted t
  valid = accepted t ok

  -- ARRIVING at a place, after some entry of a schedule
  record Found (q : Place) (S : List ℕ) (s : State) : Type 0 where
    entry : ℕ
    within : entry ≤ length S
    arrived : place (state_at t s S entry) i ≡ q

  found_later : (q : Place) (x : ℕ) (S : List ℕ) (s : State) → Found q S (row t x (place s x) s).state → Found q (x ∷ S) s
  unfolding state_at run run_of steps state_after step
  found_later q x S s f = let b = f.within in record { entry = suc f.entry; within = omega arith; arrived = f.arrived }

  found : (q : Place) {S : List ℕ} {c : Situation t} → Reaches t valid bits (λ d. place d.words i ≡ q) S c → Found q S c.words
  unfolding state_at run run_of steps state_after
  found q (now p) = record { entry = 0; within = omega arith; arrived = p }
  found q {c = c} (later {S = S} x h r) = found_later q x S c.words (subst (Found q S) (next_words t valid bits c x h) (found q r))

  arrives : (q : Place) {S : List ℕ} {c : Situation t} → place c.words i ≢ q → Reaches t valid bits (λ d. place d.words i ≡ q) S c → Arrives t c.words S i q (length S)
  unfolding state_at run run_of steps state_after
  arrives q {S} {c} n r =
      let f = found q r in
      by f.entry f.within f.arrived
    where
      by : (k : ℕ) → k ≤ length S → place (state_at t c.words S k) i ≡ q → Arrives t c.words S i q (length S)
      by zero b e = absurd (n e)
      by (suc k) b e = record { entry = suc k; some = omega arith; within = b; arrived = e }

  -- ENTRIES of the thread in the run of a schedule
  abbrev HasEntry : List ℕ → Situation t → Type 0
  HasEntry S c = 1 ≤ occurrences i (run t S c.words).trace

  longer_has : (S : List ℕ) (c : Situation t) (x : ℕ) (h : x < t.threads) → HasEntry S (next t valid bits c x h) → HasEntry (x ∷ S) c
  unfolding run run_of steps entering step
  longer_has S c x h e =
      let e' : 1 ≤ occurrences i (entering (steps t S (step t x c.words).state)) = rw (next_words t valid bits c x h) at e in
      let y = step t x c.words in
      let o = occurrences_join i (cond (is_entry y.kind) (y.thread ∷ []) []) (entering (steps t S y.state)) in
      omega arith

  -- the thread's own step enters
  entry_here : (S : List ℕ) (c : Situation t) → is_entry (step t i c.words).kind ≡ true → HasEntry (i ∷ S) c
  unfolding run run_of steps entering occurrences step
  entry_here S c e = rw e (rw (eq-eqb i i refl) (omega arith))

  -- the thread's own step, if it is no entry, does not lead Inside
  not_yet : (c : Situation t) (h : i < t.threads) → place c.words i ≢ Inside → is_entry (step t i c.words).kind ≡ false → place (next t valid bits c i h).words i ≢ Inside
  unfolding KindLaw step
  not_yet c h n e p =
      let kinds = kind_law t i c.words ok hi (facts_well_formed t c.words c.queued.facts) in
      false≢true (sym e ∙ kinds.enters_exactly.1 (ap (λ s. place s i) (sym (next_words t valid bits c i h)) ∙ p, n))

  own_has : (S : List ℕ) (c : Situation t) (h : i < t.threads) → place c.words i ≢ Inside → (place (next t valid bits c i h).words i ≢ Inside → HasEntry S (next t valid bits c i h)) →
      (b : Bool) → is_entry (step t i c.words).kind ≡ b → HasEntry (i ∷ S) c
  own_has S c h n rec true e = entry_here S c e
  own_has S c h n rec false e = longer_has S c i h (rec (not_yet c h n e))

  inside_has : {S : List ℕ} {c : Situation t} → Reaches t valid bits (λ d. place d.words i ≡ Inside) S c → place c.words i ≢ Inside → HasEntry S c
  inside_has (now p) n = absurd (n p)
  inside_has {c = c} (later {S = S} x h r) n = by (λ m. inside_has r m)
    where
      by : (place (next t valid bits c x h).words i ≢ Inside → HasEntry S (next t valid bits c x h)) → HasEntry (x ∷ S) c
      by rec =
          same_or x i _
          (λ z.
          let own : (h : x < t.threads) → (place (next t valid bits c x h).words i ≢ Inside → HasEntry S (next t valid bits c x h)) → HasEntry (x ∷ S) c =
          rw z (λ h' rec'. own_has S c h' n rec' _ refl) in
          own h rec)
          (λ z. longer_has S c x h (rec (λ p. n (sym (place_other t valid bits c x h i (λ y. z (sym y))) ∙ p))))

  -- THE BOUNDS from a situation
  acquiring_not_inside : (c : Situation t) → is_acquiring (place c.words i) ≡ true → place c.words i ≢ Inside
  unfolding is_acquiring
  acquiring_not_inside c a e = false≢true (sym (ap is_acquiring e) ∙ a)

  releasing_not_idle : (c : Situation t) → is_releasing (place c.words i) ≡ true → place c.words i ≢ Idle
  unfolding is_acquiring is_releasing
  releasing_not_idle c a e = false≢true (sym (ap is_releasing e) ∙ a)

  idle_acquiring : (c : Situation t) → place c.words i ≡ Idle → is_acquiring (place c.words i) ≡ true
  unfolding is_acquiring
  idle_acquiring c e = ap is_acquiring e

  -- a thread is acquiring or releasing
  either : (c : Situation t) (p : Place) → place c.words i ≡ p → (is_acquiring p ≡ true) ⊎ (is_releasing p ≡ true)
  unfolding is_acquiring is_releasing Says
  either c Idle e = inl refl
  either c (Prep l) e = inl refl
  either c (Swap l) e = inl refl
  either c (Link l q) e = inl refl
  either c (Wait l) e = inl refl
  either c Draw e = inl refl
  either c Watch e = inl refl
  either c Inside e = inr refl
  either c (Check l) e = inr refl
  either c (Help l) e = inr refl
  either c (Cas l) e = inr refl
  either c (Linger l) e = inr refl
  either c (Grant l r w) e = inr refl
  either c Raise e = inr refl
  either c Invalid e = absurd (says t valid c i hi Invalid e)

  abbrev B : ℕ
  B = acquire_bound t i

  abbrev R : ℕ
  R = release_bound t i

  acquiring_has : (c : Situation t) → is_acquiring (place c.words i) ≡ true → (S : List ℕ) → AllThreads t S → Covers t B S → HasEntry S c
  acquiring_has c a S all cov = inside_has (inside_within t valid bits i hi c a S all cov) (acquiring_not_inside c a)

  has_entry : (c : Situation t) (S : List ℕ) → AllThreads t S → Covers t (B + R) S → HasEntry S c
  has_entry c S all cov =
      elim (either c _ refl) [
        | inl a ↦ inside_has (longer t valid bits B (B + R) (omega arith) (inside_within t valid bits i hi c a) S all cov) (acquiring_not_inside c a)
        | inr a ↦
            let z : B + R ≡ R + B = omega arith in
            sequence t valid bits (λ d. place d.words i ≡ Idle) HasEntry longer_has B (λ d e. acquiring_has d (idle_acquiring d e)) R c (idle_within t valid bits i hi c a) S all (rw z at cov)
      ]

  -- enough for all threads is enough for one
  everyone_has : (c : Situation t) (S : List ℕ) → Rounds t (everyone_bound t) S → HasEntry S c
  unfolding everyone_bound
  everyone_has c S rs =
      has_entry c S (rounds_threads t rs)
      (covers_less t (B + R) (everyone_bound t) S (largest_ge t.threads (λ j. acquire_bound t j + release_bound t j) i hi) (rounds_cover t rs))

  bounded : (c : Situation t) → Bounded t c.words i
  bounded c =
      record {
        acquiring = λ S a rs. arrives Inside (acquiring_not_inside c a) (inside_within t valid bits i hi c a S (rounds_threads t rs) (rounds_cover t rs));
        releasing = λ S a rs. arrives Idle (releasing_not_idle c a) (idle_within t valid bits i hi c a S (rounds_threads t rs) (rounds_cover t rs));
        entering = λ S rs. has_entry c S (rounds_threads t rs) (rounds_cover t rs);
      }

  -- IN WINDOWS
  module _ (c : Situation t) (N : ℕ) (S : List ℕ) (w : Windows t N S) where
    taken_threads : (n : ℕ) → AllThreads t (take n S)
    taken_threads n = threads_take t n S w.threads

    taken_cover : (n : ℕ) → N * n ≤ length S → Covers t n (take (N * n) S)
    taken_cover n b = windows_cover t N n S (λ k i room h. w.everyone k i (omega arith) h) b

    -- an arrival in the first entries of a schedule is one in the schedule
    widen : (q : Place) (n : ℕ) → n ≤ length S → Arrives t c.words (take n S) i q (length (take n S)) → Arrives t c.words S i q n
    unfolding state_at
    widen q n b x =
        let l = length-take-le n S b in
        let u = x.within in
        let e : take x.entry (take n S) ≡ take x.entry S = take-take x.entry n S (omega arith) in
        record { entry = x.entry; some = x.some; within = omega arith; arrived = ap (λ is. place (run t is c.words).state i) (sym e) ∙ x.arrived }

    bounded_in_windows : BoundedInWindows t c.words i N S
    bounded_in_windows =
        record {
          acquiring = λ a b. widen Inside (N * B) b (arrives Inside (acquiring_not_inside c a) (inside_within t valid bits i hi c a (take (N * B) S) (taken_threads (N * B)) (taken_cover B b)));
          releasing = λ a b. widen Idle (N * R) b (arrives Idle (releasing_not_idle c a) (idle_within t valid bits i hi c a (take (N * R) S) (taken_threads (N * R)) (taken_cover R b)));
          entering = λ b. has_entry c (take (N * (B + R)) S) (taken_threads (N * (B + R))) (taken_cover (B + R) b);
        }

-- FROM FRESH
module _ (t : Tree) (valid : Accepted t) (bits : SixteenBit t) where
  pub counts_run : {st st' : QueueState} {es : List Event} → Run t st es st' → Inv t st → Inv (effective t) st → Ones t st → Inv (effective t) st' × Ones t st'
  counts_run done inv w o = (w, o)
  counts_run (silent {st = st} m r) inv w o = counts_run r (keeps t (laws t valid) st inv m) (effective_keeps t valid inv (moved m) w) (ones_step t valid inv (moved m) o)
  counts_run (more {st = st} m r) inv w o = counts_run r (keeps t (laws t valid) st inv m) (effective_keeps t valid inv (moved m) w) (ones_step t valid inv (moved m) o)

  reached : (start : ℕ) (before : List ℕ) → AllThreads t before → Situation t
  unfolding run run_of
  reached start before all =
      let l = from_fresh t valid bits start before all in
      let n = counts_run l.follows (inv_empty t) (inv_empty (effective t)) (ones_empty t) in
      record {
        words = (run t before (fresh_state t start)).state;
        queued = l.there;
        effectively = n.0;
        ones = n.1;
      }

there : (t : Tree) {s : State} → FromFresh t s → Situation t
there t f =
    let k = f.fresh_run in
    reached t (accepted t k.tree_accepted) k.sixteen_bit f.start f.schedule k.threads

pub starvation_law : StarvationLaw
unfolding StarvationLaw reached there
starvation_law t s f i h =
    let k = f.fresh_run in
    rw f.reached (bounded t k.tree_accepted k.sixteen_bit i h (there t f))

pub everyone_law : EveryoneLaw
unfolding EveryoneLaw reached there
everyone_law t s f =
    let ok = f.fresh_run.tree_accepted in
    let bits = f.fresh_run.sixteen_bit in
    let c = there t f in
    rw f.reached (record {
      in_rounds = λ S rs i h. everyone_has t ok bits i h c S rs;
      by_round_robin = λ i h. everyone_has t ok bits i h c (round_robin t.threads (everyone_bound t)) (robin_rounds t (everyone_bound t));
      turns = robin_length t.threads (everyone_bound t);
    })

pub window_law : WindowLaw
unfolding WindowLaw reached there
window_law t s f i h N S w =
    let k = f.fresh_run in
    rw f.reached (bounded_in_windows t k.tree_accepted k.sixteen_bit i h (there t f) N S w)
