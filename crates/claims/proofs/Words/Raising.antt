-- The row with which a thread releases a ticket lock at the root: Raise.
use mathlib.Core.Path.{◌≡◌, refl, sym, ap, ◌∙◌}
use mathlib.Core.Bool.{Bool, true, false, ◌&&◌, false≢true}
use mathlib.Core.List.{List, [], ◌∷◌}
use mathlib.Core.Logic.{◌≢◌, inl, inr}
use Prim.Native.Nat.{ℕ, suc, ◌+◌, ◌≤◌, ◌<◌}
use native.Mathlib.Omega.{arith}
use lib.Dec.{eqb}
use lib.ListN.{length}
use borrow.Author.Tests.{eqb-true, eq-eqb}
use Rattle.model.specs.declared.Place.TheVariants.{Wait, Watch, Raise}
use Rattle.model.specs.declared.State.{State as WordState}
use Rattle.model.specs.Trees.{Tree, is_ticket, own_record}
use Rattle.model.specs.Places.{is_watch}
use Rattle.model.specs.States.{wrap, status, place}
use Rattle.model.specs.Steps.{RowResult, is_entry, done_place, is_watched, shown_members, raise_row}
use Rattle.model.specs.Runs.{ended_in}
use Rattle.model.specs.WellFormed.{good_place}
use Rattle.model.specs.Tenures.{taken_from, given}
use Rattle.model.proofs.Tests.{and_both, any_found, any_one, filter_none, filter_one}
use Rattle.model.proofs.Places.{watch_facts}
use Rattle.model.proofs.Branches.{Branch, raise_counts, raise_branch}
use Rattle.model.proofs.Trees.Index.{ancestor, height, record_at}
use Rattle.model.proofs.Trees.Accepted.{Accepted}
use Rattle.model.proofs.Trees.Tickets.{ticket_yes, queue_lower, queue_facts}
use Rattle.model.proofs.Trees.Paths.{ancestor_root}
use Rattle.model.proofs.Trees.Records.{root_record, record_small}
use Rattle.model.proofs.Lists.{put, put_same, put_other, first, first_rest, rest, rest_cons, is_other, count, count_cons, count_nil}
use Rattle.model.proofs.Laws.Form.{wrap_fits}
use Rattle.claims.proofs.Queues.Paths.{laws}
use Rattle.claims.proofs.Queues.Moves as moves
use Rattle.claims.proofs.Queues.Moves.{ready, holding, down, low, acts, State, Move, root, let_go, queued}
use Rattle.claims.proofs.Queues.Handovers.{hands_on}
use Rattle.claims.proofs.Queues.Changes.{moved, event_shown, change_shown, made_first, change_firsts, made_ends}
use Rattle.claims.proofs.Queues.Invariant.{Inv, one_head}
use Rattle.claims.proofs.Queues.Keeps.{keeps}
use Rattle.claims.proofs.Queues.Order.{Second, second}
use Rattle.claims.proofs.Words.View.{Words, words_in, Room, place_to, grant_to}
use Rattle.claims.proofs.Words.Represents.{Linked, Tickets, Numbered, Counted, at_shown, Represents}
use Rattle.claims.proofs.Words.Says.{Says, says_at, Ungranted, linking, waiting, watching, ungranted}
use Rattle.claims.proofs.Words.Tickets.{tickets_rest}
use Rattle.claims.proofs.Words.Frame.{Others, apart, assembled}
use Rattle.claims.proofs.Words.Releasing.{done_at, done_place_at, done_fits, firm}
use Rattle.claims.proofs.Words.Handing as hand
use Rattle.claims.proofs.Words.Drawing.{root_short}
use Rattle.claims.proofs.Words.Outcome.{ends_shown, standing_shown, entry_shown, row_shown, Outcome, outcome, grant_placed}

pub ends_at : (t : Tree) (g g' : State) (d e m : ℕ) → d ≡ e → Move t g (moves.ends d m) g' → Move t g (moves.ends e m) g'
ends_at t g g' d e m z mv = rw z at mv

module _ (t : Tree) (valid : Accepted t) (s : WordState) (room : Room s) (g : State) (i : ℕ) (h : i < t.threads) (o : Others t (words_in s) g i)
    (good : (j : ℕ) → j < t.threads → good_place t j (place s j) ≡ true) (ticket : t.ticket_root ≡ true)
    (raising : place s i ≡ Raise) (e : g.stage i ≡ holding) (c : Counted t (words_in s) g i (height t i)) where
  abbrev w : Words
  w = words_in s

  abbrev inv : Inv t g
  inv = o.invariant

  few : i < 256
  few = omega (arith, valid.few_threads)

  abbrev k : ℕ
  k = height t i

  abbrev L : ℕ
  L = ancestor t i k

  abbrev R : ℕ
  R = record_at t i k

  there : L ≡ 0
  there = ancestor_root t valid i h

  abbrev pub raised : ℕ
  raised = wrap (w.grant + 1)

  low_i : low (height t i) (g.stage i) ≡ suc (height t i)
  unfolding low
  low_i = rw e refl

  head : first (g.queue L) ≡ suc R
  head = (inv.threads i).heads k (omega (arith, low_i))

  -- the place after the row
  pub done_root : done_place t i 0 ≡ done_at t i k
  done_root = rw there at (done_place_at t valid i h k (omega arith))

  abbrev pub raised_words : Words
  raised_words = place_to i (done_at t i k) (grant_to raised w)

  -- domains with a queue are other domains
  kept_linked : (g' : State) (q : List ℕ) → g'.queue ≡ put g.queue L q → (d : ℕ) → is_ticket t d ≡ false → Linked raised_words (g'.queue d) d
  kept_linked g' q queues d nd =
      let other : d ≢ L = λ z. queue_lower t d nd ticket (z ∙ there) in
      rw (queues, put_other g.queue L q d other) (record { last = (o.linked d nd).last; chain = (o.linked d nd).chain })

  -- WHAT IS SHOWN: a record after the first
  after_first : (x : ℕ) → is_watched t s x ≡ true → 1 ≤ count x (rest (g.queue 0))
  unfolding is_watched low acts words_in Says
  after_first x y =
      let found = any_one t.threads _ y in
      let j = found.index in
      let hj = found.below in
      let both = and_both (is_watch (place s j)) (eqb (own_record t j 0) x) found.holds in
      let mine : record_at t j (height t j) ≡ x = sym (root_record t valid j hj) ∙ eqb-true (own_record t j 0) x both.1 in
      let other : j ≢ i = λ z. false≢true (let f : is_watch (place s j) ≡ false = rw (z, raising) (unfold is_watch in refl) in sym f ∙ both.0) in
      let stage : Says t w g j Watch (g.stage j) = says_at (watch_facts (place s j) both.0) (o.others j hj other) in
      elim stage.0 [
        | inl q ↦
            let stands : 1 ≤ count (record_at t j (height t j)) (rest (g.queue (ancestor t j (height t j)))) = rw q at ((inv.threads j).stands (rw q (omega arith))) in
            rw (mine, ancestor_root t valid j hj) at stands
        | inr q ↦
            let first_j : height t j < low (height t j) (g.stage j) = rw q (omega arith) in
            absurd (other (one_head t (laws t valid) g inv j i (height t j) k first_j (omega (arith, low_i)) (ancestor_root t valid j hj ∙ sym there)).0)
      ]

  abbrev is_shown : ℕ → Bool
  is_shown x = eqb (status s x) raised && is_watched t s x

  -- NOBODY AFTER THE FIRST
  abbrev pub empty_state : State
  empty_state = record { queue = put g.queue L []; stage = put g.stage i (down k); tally = g.tally }

  module _ (shape : g.queue L ≡ R ∷ []) where
    pub nobody_shown : shown_members t s raised ≡ []
    unfolding shown_members
    nobody_shown =
        filter_none 320 is_shown (λ x b. by x (is_shown x) refl)
      where
        by : (x : ℕ) (y : Bool) → is_shown x ≡ y → is_shown x ≡ false
        by x true y =
            let in_rest = after_first x (and_both (eqb (status s x) raised) (is_watched t s x) y).1 in
            let none : rest (g.queue 0) ≡ [] = ap (λ d. rest (g.queue d)) (sym there) ∙ ap rest shape ∙ rest_cons R [] in
            absurd (omega (arith, ap (count x) none, count_nil x))
        by x false y = y

    emptied_numbered : t.ticket_root ≡ true → Numbered raised_words (empty_state.queue 0)
    unfolding Tickets
    emptied_numbered z =
        let old = o.numbered ticket in
        let all : Tickets w.statuses w.grant w.ticket (R ∷ []) = rw (ap g.queue (sym there) ∙ shape) at old.held in
        rw (put_same g.queue L [] 0 (sym there)) (record { small = wrap_fits (w.grant + 1); held = all.1 })

    pub emptied : Represents t raised_words empty_state
    emptied =
        assembled t valid w g i h o raised_words empty_state (done_at t i k) (down k)
        (keeps t (laws t valid) g inv (let_go i k (root e refl) shape)) (kept_linked empty_state [] refl) emptied_numbered
        (put_same w.places i (done_at t i k) i refl) (put_same g.stage i (down k) i refl)
        (done_fits t raised_words empty_state i k (omega arith) c)
        (λ j hj n. apart t valid w g i h o raised_words empty_state 0 (omega arith) j hj n (put_other w.places i (done_at t i k) j n)
        (put_other g.stage i (down k) j n) (λ r q. refl) (λ r q. refl) (λ r q. refl)
        (λ m p q nd a. (rw (put_other g.queue L [] (ancestor t j m) (λ y. queue_lower t (ancestor t j m) nd ticket (y ∙ there))) a, refl)) (λ d r q z. z))

    raise_alone : {x : RowResult} → Branch t i s Raise x → Outcome t g i 0 Raise x
    unfolding row_shown standing_shown ends_shown entry_shown is_entry words_in given taken_from ended_in change_shown change_firsts event_shown made_first
    raise_alone raise_counts =
        rw (nobody_shown, done_root)
        (outcome _ empty_state (grant_placed s room i few (done_at t i k) raised) emptied (moved (let_go i k (root e refl) shape)) refl refl)

  -- A SECOND: it becomes the first
  module _ (r : ℕ) (ys : List ℕ) (shape : g.queue L ≡ R ∷ r ∷ ys) where
    successor : Second t g L r
    successor = second t g inv L R r ys shape

    abbrev S : ℕ
    S = successor.thread

    abbrev N : ℕ
    N = successor.index

    SStands : g.stage i ≢ queued N
    unfolding low acts
    SStands z = firm (height t i) N (g.stage i) z (rw e refl)

    SOther : S ≢ i
    SOther z = SStands (ap g.stage (sym z) ∙ successor.waits)

    root_S : ancestor t S N ≡ 0
    root_S = successor.place ∙ there

    -- it is in Watch, since a ticket root has no other place to wait
    record Watches : Type 0 where
      watching_there : place s S ≡ Watch
      at_top : N ≡ height t S
      counted : Counted t w g S N

    SWatches : Watches
    unfolding words_in good_place
    SWatches = by (ungranted N successor.waits (o.others S successor.real SOther))
      where
        by : Ungranted t w g S N (w.places S) → Watches
        by (linking q p d a z) = absurd (false≢true (sym d ∙ ticket_yes t (ancestor t S N) ticket root_S))
        by (waiting q p f a z) =
            let there_good : good_place t S (Wait (ancestor t S N)) ≡ true = rw p at (good S successor.real) in
            absurd (false≢true (sym (queue_facts t S (ancestor t S N) there_good).1 ∙ ticket_yes t (ancestor t S N) ticket root_S))
        by (watching p n q f) = record { watching_there = p; at_top = n; counted = f }

    all_held : Tickets w.statuses w.grant w.ticket (R ∷ r ∷ ys)
    all_held = rw (ap g.queue (sym there) ∙ shape) at (o.numbered ticket).held

    shown_ticket : status s r ≡ raised
    unfolding Tickets words_in
    shown_ticket = all_held.1.0

    r_small : r < 320
    r_small = rw successor.mine at (record_small t valid S successor.real N successor.within)

    SRecord : own_record t S 0 ≡ r
    SRecord = root_record t valid S successor.real ∙ ap (record_at t S) (sym SWatches.at_top) ∙ successor.mine

    r_watched : is_watched t s r ≡ true
    unfolding is_watched is_watch
    r_watched = any_found t.threads _ S successor.real (rw (SWatches.watching_there, eq-eqb (own_record t S 0) r SRecord))

    -- the others after it have other tickets
    only_r : (x : ℕ) → x ≢ r → is_shown x ≡ true → ◌≡◌ {A = ℕ} 0 1
    unfolding Tickets words_in
    only_r x n y =
        let both = and_both (eqb (status s x) raised) (is_watched t s x) y in
        let same = eqb-true (status s x) raised both.0 in
        let in_rest = after_first x both.1 in
        let shape_rest : rest (g.queue 0) ≡ r ∷ ys = ap (λ d. rest (g.queue d)) (sym there) ∙ ap rest shape ∙ rest_cons R (r ∷ ys) in
        let in_ys : 1 ≤ count x ys = omega (arith, ap (count x) shape_rest, count_cons x r ys, is_other x r n) in
        let long : length (R ∷ r ∷ ys) ≤ 320 = rw (ap g.queue (sym there) ∙ shape) at (root_short t valid g inv) in
        absurd (tickets_rest w.statuses raised w.ticket x (r ∷ ys) (wrap_fits (w.grant + 1)) (omega arith) all_held.1
        (rw (rest_cons r ys) in_ys) same)

    r_shown : shown_members t s raised ≡ r ∷ []
    unfolding shown_members
    r_shown = filter_one 320 is_shown r r_small (rw (eq-eqb (status s r) raised shown_ticket, r_watched)) (λ x b n. by x n (is_shown x) refl)
      where
        by : (x : ℕ) → x ≢ r → (y : Bool) → is_shown x ≡ y → is_shown x ≡ false
        by x n true y = absurd (let z = only_r x n y in omega arith)
        by x n false y = y

    first_there : k < low (height t i) (g.stage i)
    first_there = omega (arith, low_i)

    abbrev handed_state : State
    handed_state = hand.handed_state t valid w g i h o k (omega arith) first_there r ys shape successor (suc (g.tally R)) ready SStands

    handed : Move t g (moves.ends L r) handed_state
    handed = hands_on t g i k S N r ys successor.waits successor.place successor.mine shape e (omega arith) (λ n. absurd (n there))

    handed_numbered : t.ticket_root ≡ true → Numbered raised_words (handed_state.queue 0)
    unfolding Tickets
    handed_numbered z =
        rw (put_same g.queue L (r ∷ ys) 0 (sym there)) (record { small = wrap_fits (w.grant + 1); held = all_held.1 })

    handed_over : Represents t raised_words handed_state
    unfolding words_in
    handed_over =
        hand.hand t valid w g i h o k (omega arith) first_there r ys shape successor (suc (g.tally R)) ready SStands raised_words (put_same w.places i (done_at t i k) i refl)
        (λ j n. put_other w.places i (done_at t i k) j n) (λ q n. refl) (λ q. refl) (λ d. refl) (keeps t (laws t valid) g inv handed) (kept_linked handed_state (r ∷ ys) refl)
        handed_numbered c SWatches.counted
        (λ f. rw SWatches.watching_there (at_shown ticket (λ m b q. f m (omega (arith, SWatches.at_top)) q)))

    raise_hands : {x : RowResult} → Branch t i s Raise x → Outcome t g i 0 Raise x
    unfolding row_shown standing_shown ends_shown entry_shown is_entry words_in given taken_from ended_in change_shown change_firsts event_shown
    raise_hands raise_counts =
        rw (r_shown, done_root)
        (outcome _ handed_state (grant_placed s room i few (done_at t i k) raised) handed_over (moved (ends_at t g _ L 0 r there handed)) refl (made_ends t _))

  raise_by : (xs : List ℕ) → g.queue L ≡ R ∷ xs → Outcome t g i 0 Raise (raise_row t i s)
  raise_by [] q = raise_alone q (raise_branch t i s)
  raise_by (r ∷ ys) q = raise_hands r ys q (raise_branch t i s)

  pub raise_outcome : Outcome t g i 0 Raise (raise_row t i s)
  raise_outcome = raise_by (rest (g.queue L)) (first_rest R (g.queue L) head)
