-- From fresh, step by step: a domain's tenures, entries and longest tenure.
use mathlib.Core.Path.{◌≡◌, refl, sym, ap, ◌∙◌}
use mathlib.Core.Bool.{Bool, true, false, cond}
use mathlib.Core.Logic.{◌⊎◌, inl, inr}
use Prim.Native.Nat.{ℕ, suc, ◌+◌, ◌≤◌, ◌<◌, max}
use native.Mathlib.Omega.{arith}
use native.Mathlib.Nat.{le-max_left, le-max_right, max-le}
use lib.Dec.{eqb}
use borrow.Author.Tests.{eq-eqb, ne_eqb}
use Rattle.model.specs.declared.Place.{Place}
use Rattle.model.specs.declared.Place.TheVariants.{Check, Grant}
use Rattle.model.specs.declared.State.{State as WordState}
use Rattle.model.specs.Trees.{Tree, is_leaf, under}
use Rattle.model.specs.Places.{place_domain}
use Rattle.model.specs.States.{acquire_parent, place, HasRoom}
use Rattle.model.specs.Steps.{is_entry, RowResult, row, step}
use Rattle.model.specs.Laws.{SixteenBit}
use Rattle.model.specs.Tenures.{given, starts, checks_at, word_to_grant, tenure_length}
use Rattle.model.proofs.Trees.Index.{ancestor, height, record_at}
use Rattle.model.proofs.Trees.Accepted.{Accepted}
use Rattle.model.proofs.Trees.Paths.{ancestor_home, ancestor_parent_of}
use Rattle.model.proofs.Trees.Records.{record_own, record_suc}
use Rattle.model.proofs.Laws.Given.{check_there, tenure_length_within}
use Rattle.model.proofs.Lists.{less_or, first, count}
use Rattle.claims.proofs.Queues.Paths.{laws}
use Rattle.claims.proofs.Queues.Moves.{low, State}
use Rattle.claims.proofs.Queues.Changes.{change_firsts}
use Rattle.claims.proofs.Queues.Invariant.{Inv, one_head}
use Rattle.claims.proofs.Words.View.{words_in}
use Rattle.claims.proofs.Words.Represents.{letting_go_low, Represents}
use Rattle.claims.proofs.Words.Says.{pass, release, Says, says_at}
use Rattle.claims.proofs.Words.Outcome.{row_shown, Outcome}
use Rattle.claims.proofs.Claims.Bounded.{same_count}
use Rattle.claims.proofs.Claims.Reached.{Queued, outcome_at, queued_after}
use Rattle.claims.proofs.tenures.Firsts.{P, R}
use Rattle.claims.proofs.tenures.LeafTenures.{leaf_index, home_height, Leaf}
use Rattle.claims.proofs.tenures.Along.{started_along, Passes, leaf_along, leaf_wider, entered_shown}
use Rattle.claims.proofs.tenures.Reporting.{tenure_word, row_reports}

module _ (t : Tree) (valid : Accepted t) (bits : SixteenBit t) (d : ℕ) (pos : 0 < d) (real : d < t.domains) where
  -- what holds after some steps with n tenures, e entries and longest tenure l
  pub record Tracked (s : WordState) (n e l : ℕ) : Type 0 where
    pub queued : Queued t s
    pub started : first (queued.queues.queue (P t valid d)) ≡ suc (R t valid d) → 1 ≤ n
    pub some : 1 ≤ n → 1 ≤ l
    pub none : 1 ≤ l → 1 ≤ n
    pub within : l ≤ t.threshold d
    pub words : (j r v : ℕ) → place s j ≡ Grant d r v → (v ≡ acquire_parent) ⊎ (v ≤ l)
    pub of_leaf : (q : is_leaf t d ≡ true) → Leaf t valid d pos q queued.queues n e l

  module _ (s : WordState) (n e l : ℕ) (old : Tracked s n e l) (i : ℕ) (h : i < t.threads) where
    abbrev g : State
    g = old.queued.queues

    abbrev rep : Represents t (words_in s) g
    rep = old.queued.represents

    abbrev inv : Inv t g
    inv = rep.invariant

    abbrev p : Place
    p = place s i

    abbrev x : RowResult
    x = row t i p s

    abbrev after : Outcome t g i (place_domain (t.home i) p) p x
    after = outcome_at t valid bits s old.queued i h

    -- CHECK at the domain: the tenure runs
    check_runs : checks_at d p ≡ true → first (g.queue (P t valid d)) ≡ suc (R t valid d)
    unfolding words_in low Says
    check_runs q =
        let c : Says t (words_in s) g i (Check d) (g.stage i) = says_at (check_there d p q) (rep.fits i h) in
        let k = c.0 in
        let there = c.1.0 in
        let up : ancestor t i (suc k) ≡ P t valid d = sym (ancestor_parent_of t valid i h k c.2) ∙ ap t.parent (sym there) in
        let all : low (height t i) (g.stage i) ≡ suc (height t i) = ap (low (height t i)) c.3 in
        ap (λ y. first (g.queue y)) (sym up) ∙ (inv.threads i).heads (suc k) (omega (arith, c.2)) ∙ ap suc (record_suc t i k ∙ ap (λ y. 256 + y) (sym there))

    -- what the step reports
    abbrev c : ℕ
    c = count (R t valid d) (given t (step t i s))

    firsts_given : change_firsts t after.change ≡ given t (step t i s)
    unfolding step
    firsts_given = after.gives (omega arith)

    starts_counted : starts t d (step t i s) ≡ c
    unfolding starts
    starts_counted = rw (ne_eqb d 0 (omega arith)) (sym (same_count (256 + d) (given t (step t i s))))

    room : HasRoom s.places i
    room = (old.queued.room.places_room, omega (arith, valid.few_threads))

    abbrev u : ℕ
    u = tenure_word t s i d pos room p x

    abbrev l' : ℕ
    l' = max l (tenure_length t d (step t i s))

    -- the two parts of the reported length
    abbrev new_tenure : ℕ
    new_tenure = cond (eqb (starts t d (step t i s)) 0) 0 1

    start_length : 1 ≤ c → 1 ≤ tenure_length t d (step t i s)
    unfolding tenure_length
    start_length b =
        let one : new_tenure ≡ 1 = rw (starts_counted, ne_eqb c 0 (omega arith)) in
        omega (arith, le-max_left new_tenure (cond (checks_at d (step t i s).place) (word_to_grant (place (step t i s).state (step t i s).thread)) 0))

    check_length : u ≤ tenure_length t d (step t i s)
    unfolding tenure_length step
    check_length = le-max_right new_tenure u

    length_most : (m : ℕ) → (1 ≤ c → 1 ≤ m) → u ≤ m → tenure_length t d (step t i s) ≤ m
    unfolding tenure_length step
    length_most m a b =
        let first_part : new_tenure ≤ m =
        less_or 0 c _ (λ y. rw (starts_counted, ne_eqb c 0 (omega arith)) (a y)) (λ y. rw (starts_counted, eq-eqb c 0 (omega arith)) (omega arith)) in
        max-le first_part b

    no_longer : l ≤ l'
    no_longer = le-max_left l (tenure_length t d (step t i s))

    length_longer : tenure_length t d (step t i s) ≤ l'
    length_longer = le-max_right l (tenure_length t d (step t i s))

    -- without a tenure no length is reported
    nothing_counted : n ≡ 0 → u ≤ 0
    nothing_counted z = by (checks_at d p) refl
      where
        by : (b : Bool) → checks_at d p ≡ b → cond b (word_to_grant (place x.state i)) 0 ≤ 0
        by true q = absurd (omega (arith, old.started (check_runs q)))
        by false q = omega arith

    none_yet : n + c ≡ 0 → l' ≤ 0
    none_yet z =
        let short : l ≤ 0 = less_or 0 l _ (λ b. absurd (omega (arith, old.none b))) (λ b. b) in
        max-le short (length_most 0 (λ b. absurd (omega arith)) (nothing_counted (omega arith)))

    -- A PASS AT A LEAF gives a count that a Check has reported
    passes : (q : is_leaf t d ≡ true) → Passes t valid d pos q g (row_shown i (place_domain (t.home i) p) x) l'
    unfolding words_in low Says
    passes q m e' k hold zk =
        let f = (row_reports t s i d pos room p).1 m e' in
        let r = f.0 in
        let v = f.1 in
        let a : Says t (words_in s) g i (Grant d r v) (g.stage i) = says_at f.2 (rep.fits i h) in
        let top = leaf_index t valid d pos q i a.0 h a.1.1 (sym a.1.0) in
        let zi : t.home i ≡ d = sym (ancestor_home t i) ∙ ap (ancestor t i) (sym top) ∙ sym a.1.0 in
        let low_k : low (height t k) (g.stage k) ≡ suc (height t k) = ap (low (height t k)) hold in
        let meet : ancestor t k 0 ≡ ancestor t i 0 = ancestor_home t k ∙ zk ∙ sym zi ∙ sym (ancestor_home t i) in
        elim a.2 [
          | pass o b (z, y) ↦
              let low_i : low (height t i) (g.stage i) ≡ suc (height t i) = ap (low (height t i)) b in
              let same = (one_head t (laws t valid) g inv k i 0 0 (omega arith) (omega arith) meet).0 in
              let mine : record_at t i a.0 ≡ k = ap (record_at t i) top ∙ record_own t i ∙ sym same in
              let value : v ≡ suc (g.tally k) = z ∙ ap (λ y. suc (g.tally y)) mine in
              elim (old.words i r v f.2) [
                | inl u ↦ absurd (omega (arith, bits (ancestor t i a.0)))
                | inr u ↦ omega (arith, no_longer)
              ]
          | release b y ↦
              let low_i : low (height t i) (g.stage i) ≡ suc a.0 = ap (low (height t i)) b ∙ letting_go_low (height t i) a.0 in
              let same = (one_head t (laws t valid) g inv k i 0 0 (omega arith) (omega arith) meet).0 in
              let low_same : low (height t k) (g.stage k) ≡ low (height t i) (g.stage i) = ap (λ y. low (height t y) (g.stage y)) same in
              let tall = home_height t valid d pos q i h zi in
              let height_same : height t k ≡ height t i = ap (height t) same in
              absurd (omega arith)
        ]

    abbrev entry : ℕ
    entry = cond (is_entry (step t i s).kind) (cond (under t (256 + d) (step t i s).thread) 1 0) 0

    leaf_after : (q : is_leaf t d ≡ true) → Leaf t valid d pos q after.state (n + starts t d (step t i s)) (e + entry) l'
    unfolding step
    leaf_after q =
        rw (starts_counted, ← entered_shown t valid d pos q i (place_domain (t.home i) p) x, ← firsts_given, ← after.shows)
        (leaf_along t valid d pos q after.change inv n e l' (leaf_wider t valid d pos q g inv n e l l' no_longer old.started (old.of_leaf q))
        (λ b. omega (arith, start_length (rw firsts_given at b), length_longer)) (rw after.shows (passes q)))

    pub step_tracked : Tracked (step t i s).state (n + starts t d (step t i s)) (e + entry) l'
    unfolding step queued_after
    step_tracked =
        record {
          queued = queued_after t valid bits s old.queued i h;
          started = λ f. omega (arith, starts_counted, rw firsts_given at (started_along t valid d after.change inv n old.started f));
          some = λ b. less_or 0 n _
              (λ a. omega (arith, old.some a, no_longer))
              (λ a. omega (arith, start_length (omega (arith, starts_counted)), length_longer));
          none = λ b. less_or 0 (n + c) _ (λ a. omega (arith, starts_counted)) (λ a. absurd (omega (arith, none_yet (omega arith))));
          within = omega (arith, old.within, tenure_length_within t valid i h s ((old.queued.facts.places i).used h) d);
          words = λ j r v z. elim ((row_reports t s i d pos room p).0 j r v z) [
            | inl a ↦ elim (old.words j r v a) [ inl b ↦ inl b | inr b ↦ inr (omega (arith, no_longer)) ]
            | inr a ↦ elim a [ inl b ↦ inl b | inr b ↦ inr (omega (arith, check_length, length_longer)) ]
          ];
          of_leaf = leaf_after;
        }
