-- From Inside to Idle: how many rounds each part of a release takes.
use mathlib.Core.Path.{◌≡◌, refl, sym, ap, ◌∙◌}
use mathlib.Core.Bool.{Bool, true, false, false≢true}
use mathlib.Core.Logic.{◌≢◌, ◌⊎◌, inl, inr}
use Prim.Native.Nat.{ℕ, zero, suc, ◌+◌, ◌*◌, ◌-◌, ◌≤◌, ◌<◌}
use native.Mathlib.Omega.{arith}
use lib.Dec.{eqb}
use lib.Seq.{get_or-set_same}
use borrow.Author.Tests.{eq-eqb}
use Rattle.model.specs.declared.Place.{Place}
use Rattle.model.specs.declared.Place.TheVariants.{Idle, Prep, Swap, Link, Wait, Inside, Check, Help, Cas, Linger, Grant, Draw, Watch, Raise, Invalid}
use Rattle.model.specs.Trees.{Tree, depth, level, own_record}
use Rattle.model.specs.Places.{words_of}
use Rattle.model.specs.States.{next, place}
use Rattle.model.specs.Steps.{release_word, row}
use Rattle.model.specs.Laws.{SixteenBit}
use Rattle.model.proofs.Lists.{same_or}
use Rattle.model.proofs.Trees.Index.{ancestor, height, record_at}
use Rattle.model.proofs.Trees.Accepted.{Accepted}
use Rattle.model.proofs.Trees.Records.{own_record_at, record_small}
use Rattle.claims.proofs.Queues.Moves.{low, holding}
use Rattle.claims.proofs.Words.Represents.{letting_go, letting_go_root, letting_go_low}
use Rattle.claims.proofs.Words.Releasing.{done_at}
use Rattle.chain.specs.Chain.{stays, links, looked_to}
use Rattle.chain.proofs.Stays.{stays_at, linger_stays}
use Rattle.chain.proofs.Reached.Rows.{link_nexts, next_kept}
use Rattle.chain.proofs.Reached.Ahead.{link_place, looked_one}
use Rattle.chain.proofs.Reached.Holding.{far}
use Rattle.bounds.specs.StarvationFreedom.Bounds.{release_bound}
use Rattle.bounds.specs.StarvationFreedom.Laws.{is_acquiring, is_releasing}
use Rattle.bounds.proofs.starvation_freedom.Situations as situations
use Rattle.bounds.proofs.starvation_freedom.Situations.{Situation, queues, next_words, place_other}
use Rattle.bounds.proofs.starvation_freedom.Within.{Within, then, longer, at_once, within_map, one_round}
use Rattle.bounds.proofs.starvation_freedom.Turns as turns
use Rattle.bounds.proofs.starvation_freedom.Turns.{FromHelp, to_cas, to_grant, passes, goes_up, Releases, by_check, by_help, by_raise}
use Rattle.bounds.proofs.starvation_freedom.Says.{says, Says, linger_stage, help_stage, cas_stage, release_stage, raise_stage, check_stage, pass_stage}

-- the thread lets go of the domain at an index
pub data LetsGo (t : Tree) (a k : ℕ) (p : Place) : Type 0 where
  helps : p ≡ Help (ancestor t a k) → LetsGo t a k p
  tries : p ≡ Cas (ancestor t a k) → LetsGo t a k p
  lingers : p ≡ Linger (ancestor t a k) → LetsGo t a k p
  grants : (r : ℕ) → p ≡ Grant (ancestor t a k) r (release_word (ancestor t a k)) → LetsGo t a k p
  raises : p ≡ Raise → k ≡ height t a → LetsGo t a k p

module _ (t : Tree) (valid : Accepted t) (bits : SixteenBit t) (a : ℕ) (ha : a < t.threads) where
  -- a place that only the thread's own step changes
  pub place_round :
      (p : Place) (Q : Situation t → Type 0) → ((c : Situation t) (h : a < t.threads) → place c.words a ≡ p → Q (situations.next t valid bits c a h)) →
      {c : Situation t} → place c.words a ≡ p → Within t valid bits 1 Q c
  place_round p Q own e =
      one_round t valid bits a ha (λ c. place c.words a ≡ p) Q (λ c x h n y. inl (place_other t valid bits c x h a (λ z. n (sym z)) ∙ y)) own e

  -- the thread has let go of the domain at an index
  abbrev pub Done : (index : ℕ) → Situation t → Type 0
  Done k c = place c.words a ≡ done_at t a k

  module _ (k : ℕ) (l : k ≤ height t a) where
    abbrev L : ℕ
    L = ancestor t a k

    abbrev R : ℕ
    R = record_at t a k

    pub grant_round : (r v : ℕ) {c : Situation t} → place c.words a ≡ Grant L r v → Within t valid bits 1 (Done k) c
    grant_round r v e = place_round (Grant L r v) (Done k) (λ c h y. turns.grant_turn t valid bits c a h k r v l y) e

    abbrev Grants : Situation t → Type 0
    Grants c = (r : ℕ) × (place c.words a ≡ Grant L r (release_word L))

    abbrev Lingers : Situation t → Type 0
    Lingers c = place c.words a ≡ Linger L

    -- LINGER: a next that is set stays set
    set_by :
        (c : Situation t) (x : ℕ) (h : x < t.threads) → a ≢ x → Lingers c → next c.words R ≢ 0 → (b : Bool) → links (place c.words x) R ≡ b →
        next (row t x (place c.words x) c.words).state R ≢ 0
    set_by c x h n e v true z =
        let s = c.words in
        let y = link_place (place s x) R z in
        rw (y.1, link_nexts t s x y.0 R) (rw (get_or-set_same s.nexts R (own_record t x y.0 + 1) 0 (omega (arith, c.queued.room.nexts_room, record_small t valid a ha k l))) (λ f. omega arith))
    set_by c x h n e v false z =
        let s = c.words in
        let first_there : k < low (height t a) ((queues c).stage a) = rw (linger_stage t valid c a ha k l e) (omega (arith, letting_go_low (height t a) k)) in
        rw (next_kept t s x R (place s x) (far t valid bits s c.queued x h a k ha n (omega arith))
        (λ m f. let y : links (place s x) R ≡ true = rw f (eq-eqb R R refl) in false≢true (sym z ∙ y))) v

    next_set : (c : Situation t) (x : ℕ) (h : x < t.threads) → a ≢ x → Lingers c → next c.words R ≢ 0 → next (situations.next t valid bits c x h).words R ≢ 0
    next_set c x h n e v = rw (next_words t valid bits c x h) (set_by c x h n e v _ refl)

    -- linked: it grants in the next round
    abbrev Linked : Situation t → Type 0
    Linked c = Lingers c × (next c.words R ≢ 0)

    linked_round : {c : Situation t} → Linked c → Within t valid bits 1 Grants c
    linked_round p =
        one_round t valid bits a ha Linked Grants
        (λ c x h n (e, v). inl (place_other t valid bits c x h a (λ z. n (sym z)) ∙ e, next_set c x h (λ z. n (sym z)) e v))
        (λ c h (e, v). turns.linger_turn t valid bits c a h L e (rw (own_record_at t valid a ha k l) v)) p

    -- not yet linked: the thread after it is in Link, and links
    record Linker (c : Situation t) : Type 0 where
      thread : ℕ
      real : thread < t.threads
      domain : ℕ
      linking : place c.words thread ≡ Link domain R

    linker : (c : Situation t) → Lingers c → next c.words R ≡ 0 → Linker c
    unfolding looked_to row
    linker c e v =
        let s = c.words in
        let still : stays t s a ≡ true = stays_at t s a (Linger L) e ∙ linger_stays t s a L ∙ ap (λ r. eqb (next s r) 0) (own_record_at t valid a ha k l) ∙ eq-eqb (next s R) 0 v in
        let x = looked_one t valid bits s c.queued a ha still in
        let looked : links (place s x.0) R ≡ true = ap (links (place s x.0)) (sym (own_record_at t valid a ha k l)) ∙ ap (λ p. looked_to t s a p x.0) (sym e) ∙ x.1.looked in
        let y = link_place (place s x.0) R looked in
        record { thread = x.0; real = x.1.real; domain = y.0; linking = y.1 }

    module _ (b : ℕ) (hb : b < t.threads) (m : ℕ) where
      abbrev Linking : Situation t → Type 0
      Linking c = Lingers c × (place c.words b ≡ Link m R)

      other_thread : (c : Situation t) → Linking c → b ≢ a
      other_thread c (e, f) z = let o : (words_of (Link m R)).row ≡ (words_of (Linger L)).row = ap (λ p. (words_of p).row) (sym f ∙ ap (place c.words) z ∙ e) in omega arith

      -- the lingering thread's own step meanwhile
      own_meanwhile : (c : Situation t) (h : a < t.threads) → Linking c → Linking (situations.next t valid bits c a h) ⊎ (Linked (situations.next t valid bits c a h) ⊎ Grants (situations.next t valid bits c a h))
      own_meanwhile c h (e, f) =
          same_or (next c.words R) 0 _
          (λ z. inl (turns.linger_stays t valid bits c a h L e (rw (own_record_at t valid a ha k l) z), place_other t valid bits c a h b (other_thread c (e, f)) ∙ f))
          (λ z. inr (inr (turns.linger_turn t valid bits c a h L e (rw (own_record_at t valid a ha k l) z))))

      link_sets : (c : Situation t) (h : b < t.threads) → Linking c → Linked (situations.next t valid bits c b h)
      link_sets c h (e, f) =
          let s = c.words in
          let stored : next (row t b (place s b) s).state R ≢ 0 = rw (f, link_nexts t s b m R) (rw (get_or-set_same s.nexts R (own_record t b m + 1) 0 (omega (arith, c.queued.room.nexts_room, record_small t valid a ha k l))) (λ z. omega arith)) in
          (place_other t valid bits c b h a (λ z. other_thread c (e, f) (sym z)) ∙ e, rw (next_words t valid bits c b h) stored)

      link_round : {c : Situation t} → Linking c → Within t valid bits 1 (λ d. Linked d ⊎ Grants d) c
      link_round p =
          one_round t valid bits b hb Linking (λ d. Linked d ⊎ Grants d)
          (λ c x h n q. same_or x a _
          (λ z.
          let own : (h : x < t.threads) → Linking (situations.next t valid bits c x h) ⊎ (Linked (situations.next t valid bits c x h) ⊎ Grants (situations.next t valid bits c x h)) =
          rw z (λ h. own_meanwhile c h q) in
          own h)
          (λ z. inl (place_other t valid bits c x h a (λ y. z (sym y)) ∙ q.0, place_other t valid bits c x h b (λ y. n (sym y)) ∙ q.1)))
          (λ c h q. inl (link_sets c h q)) p

    linger_rounds : {c : Situation t} → Lingers c → Within t valid bits 2 Grants c
    linger_rounds {c} e =
        same_or (next c.words R) 0 _
        (λ z.
        let y = linker c e z in
        then t valid bits 1 1 (link_round y.thread y.real y.domain (e, y.linking))
        (λ d q. elim q [ inl p ↦ linked_round p | inr p ↦ at_once t valid bits 1 p ]))
        (λ z. longer t valid bits 1 2 (omega arith) (linked_round (e, z)))

    -- LETTING GO of one domain
    linger_done : {c : Situation t} → Lingers c → Within t valid bits 3 (Done k) c
    linger_done e = then t valid bits 2 1 (linger_rounds e) (λ d q. grant_round q.0 (release_word L) q.1)

    cas_done : {c : Situation t} → place c.words a ≡ Cas L → Within t valid bits 4 (Done k) c
    cas_done e =
        then t valid bits 1 3 (place_round (Cas L) (λ d. Lingers d ⊎ Done k d) (λ c h y. turns.cas_turn t valid bits c a h k l y) e)
        (λ d q. elim q [ inl p ↦ linger_done p | inr p ↦ at_once t valid bits 3 p ])

    help_done : {c : Situation t} → place c.words a ≡ Help L → Within t valid bits 5 (Done k) c
    help_done e =
        then t valid bits 1 4 (place_round (Help L) (λ d. FromHelp L (place d.words a)) (λ c h y. turns.help_turn t valid bits c a h L y) e)
        (λ d q. elim q [ to_cas p ↦ cas_done p | to_grant r p ↦ longer t valid bits 1 4 (omega arith) (grant_round r (release_word L) p) ])

    pub go_round : {c : Situation t} → LetsGo t a k (place c.words a) → Within t valid bits 5 (Done k) c
    go_round (helps e) = help_done e
    go_round (tries e) = longer t valid bits 4 5 (omega arith) (cas_done e)
    go_round (lingers e) = longer t valid bits 3 5 (omega arith) (linger_done e)
    go_round (grants r e) = longer t valid bits 1 5 (omega arith) (grant_round r (release_word L) e)
    go_round (raises e z) = longer t valid bits 1 5 (omega arith) (place_round Raise (Done k) (λ c h y. turns.raise_turn t valid bits c a h y ∙ ap (done_at t a) (sym z)) e)

  -- its own step lets go of the domain, or continues
  pub go_turn : (k : ℕ) → k ≤ height t a → (c : Situation t) (h : a < t.threads) → LetsGo t a k (place c.words a) →
      LetsGo t a k (place (situations.next t valid bits c a h).words a) ⊎ Done k (situations.next t valid bits c a h)
  go_turn k l c h (helps e) = elim (turns.help_turn t valid bits c a h (ancestor t a k) e) [ to_cas p ↦ inl (tries p) | to_grant r p ↦ inl (grants r p) ]
  go_turn k l c h (tries e) = elim (turns.cas_turn t valid bits c a h k l e) [ inl p ↦ inl (lingers p) | inr p ↦ inr p ]
  go_turn k l c h (lingers e) =
      same_or (next c.words (own_record t a (ancestor t a k))) 0 _
      (λ z. inl (lingers (turns.linger_stays t valid bits c a h (ancestor t a k) e z)))
      (λ z. let y = turns.linger_turn t valid bits c a h (ancestor t a k) e z in inl (grants y.0 y.1))
  go_turn k l c h (grants r e) = inr (turns.grant_turn t valid bits c a h k r (release_word (ancestor t a k)) l e)
  go_turn k l c h (raises e z) = inr (turns.raise_turn t valid bits c a h e ∙ ap (done_at t a) (sym z))

  -- the stage of a thread that lets go
  pub lets_stage : (k : ℕ) → k ≤ height t a → (c : Situation t) → LetsGo t a k (place c.words a) → (queues c).stage a ≡ letting_go (height t a) k
  unfolding Says
  lets_stage k l c (helps e) = help_stage t valid c a ha k l e
  lets_stage k l c (tries e) = cas_stage t valid c a ha k l e
  lets_stage k l c (lingers e) = linger_stage t valid c a ha k l e
  lets_stage k l c (grants r e) = release_stage t valid c a ha k r l (λ _. omega (arith, bits (ancestor t a k))) e
  lets_stage k l c (raises e z) = raise_stage t valid c a ha e ∙ sym (letting_go_root (height t a) k z)

  -- it lets go of all domains from one index down to another
  go_by : (n j k : ℕ) (l : k ≤ height t a) → k ≡ n + j → {c : Situation t} → LetsGo t a k (place c.words a) → Within t valid bits (5 * n + 5) (Done j) c
  go_by zero j k l e g = let z : k ≡ j = omega arith in within_map t valid bits 5 (λ d q. q ∙ ap (done_at t a) z) (go_round k l g)
  go_by (suc n) j zero l e g = absurd (omega arith)
  go_by (suc n) j (suc k) l e g =
      let m : k ≤ height t a = omega arith in
      let z : 5 + (5 * n + 5) ≡ 5 * suc n + 5 = omega arith in
      rw (← z) (then t valid bits 5 (5 * n + 5) (go_round (suc k) l g) (λ d q. go_by n j k m (omega arith) (helps q)))

  pub all_go : (k j : ℕ) (l : k ≤ height t a) → j ≤ k → {c : Situation t} → LetsGo t a k (place c.words a) → Within t valid bits (5 * (k - j) + 5) (Done j) c
  all_go k j l b g = go_by (k - j) j k l (omega arith) g

  -- THE LOCK IS HELD: the thread's record is first everywhere on its path
  abbrev pub Holds : Situation t → Type 0
  Holds c = (queues c).stage a ≡ holding

  -- it is about to pass the lock on below the root
  pub record Passing (c : Situation t) : Type 0 where
    pub index : ℕ
    pub below : index < height t a
    pub to : ℕ
    pub word : ℕ
    pub small : word ≤ 65535
    pub there : place c.words a ≡ Grant (ancestor t a index) to word

  pub releases_holds : (c : Situation t) (k : ℕ) → k ≤ height t a → Releases t a k (place c.words a) → Holds c
  releases_holds c k l (by_check e b) = check_stage t valid c a ha k e
  releases_holds c k l (by_help e z) = help_stage t valid c a ha k l e ∙ letting_go_root (height t a) k z
  releases_holds c k l (by_raise e z) = raise_stage t valid c a ha e

  pub passing_holds : (c : Situation t) → Passing c → Holds c
  passing_holds c p = pass_stage t valid c a ha p.index p.below p.to p.word p.small p.there

  -- what holds as long as the lock is held, up to the root's release or a pass
  module _ (I : Situation t → Type 0) (keeps : (c : Situation t) (x : ℕ) (h : x < t.threads) → Holds c → Holds (situations.next t valid bits c x h) → I c → I (situations.next t valid bits c x h)) where
    abbrev pub Lets : Situation t → Type 0
    Lets c = I c × (LetsGo t a (height t a) (place c.words a) ⊎ Passing c)

    -- after a Check: a pass, or the parent is released next
    abbrev Checked : (index : ℕ) → Situation t → Type 0
    Checked k c = I c × (Passing c ⊎ Releases t a (suc k) (place c.words a))

    check_round : (k : ℕ) → k < height t a → {c : Situation t} → place c.words a ≡ Check (ancestor t a k) → I c → Within t valid bits 1 (Checked k) c
    check_round k b e i =
        one_round t valid bits a ha (λ c. (place c.words a ≡ Check (ancestor t a k)) × I c) (Checked k)
        (λ c x h n (y, j).
        let y' = place_other t valid bits c x h a (λ z. n (sym z)) ∙ y in
        let d = situations.next t valid bits c x h in
        inl (y', keeps c x h (check_stage t valid c a ha k y) (check_stage t valid d a ha k y') j))
        (λ c h (y, j).
        let d = situations.next t valid bits c a h in
        let held = check_stage t valid c a ha k y in
        elim (turns.check_turn t valid bits c a h k b y) [
          | passes r v p f ↦ let q : Passing d = record { index = k; below = b; to = r; word = v; small = f; there = p } in (keeps c a h held (passing_holds d q) j, inl q)
          | goes_up p ↦ (keeps c a h held (releases_holds d (suc k) b p) j, inr p)
        ])
        (e, i)

    releases_by : (n k : ℕ) → k + n ≡ height t a → {c : Situation t} → Releases t a k (place c.words a) → I c → Within t valid bits n Lets c
    releases_by zero k z r i =
        elim r [
          | by_check e b ↦ absurd (omega arith)
          | by_help e y ↦ at_once t valid bits 0 (i, inl (helps (e ∙ ap (λ m. Help (ancestor t a m)) y)))
          | by_raise e y ↦ at_once t valid bits 0 (i, inl (raises e refl))
        ]
    releases_by (suc n) k z r i =
        let o : 1 + n ≡ suc n = omega arith in
        elim r [
          | by_check e b ↦
              rw (← o) (then t valid bits 1 n (check_round k b e i)
              (λ d (j, q). elim q [ inl p ↦ at_once t valid bits n (j, inr p) | inr p ↦ releases_by n (suc k) (omega arith) p j ]))
          | by_help e y ↦ absurd (omega arith)
          | by_raise e y ↦ absurd (omega arith)
        ]

    pub releases_rounds : (k : ℕ) → k ≤ height t a → {c : Situation t} → Releases t a k (place c.words a) → I c → Within t valid bits (height t a - k) Lets c
    releases_rounds k l r i = releases_by (height t a - k) k (omega arith) r i

  -- TO IDLE
  abbrev pub Idles : Situation t → Type 0
  Idles c = place c.words a ≡ Idle

  go_idle : (k : ℕ) (l : k ≤ height t a) → {c : Situation t} → LetsGo t a k (place c.words a) → Within t valid bits (5 * k + 5) Idles c
  go_idle k l g = let z : 5 * (k - 0) + 5 ≡ 5 * k + 5 = omega arith in rw (← z) (all_go k 0 l (omega arith) g)

  done_idle : (k : ℕ) → k ≤ height t a → {c : Situation t} → Done k c → Within t valid bits (5 * k) Idles c
  done_idle zero l e = at_once t valid bits (5 * 0) e
  done_idle (suc k) l e = let z : 5 * k + 5 ≡ 5 * suc k = omega arith in rw (← z) (go_idle k (omega arith) (helps e))

  pass_idle : {c : Situation t} → Passing c → Within t valid bits (5 * height t a + 5) Idles c
  pass_idle p =
      let k = p.index in
      let b = p.below in
      longer t valid bits (1 + 5 * k) (5 * height t a + 5) (omega arith)
      (then t valid bits 1 (5 * k) (grant_round k (omega arith) p.to p.word p.there) (λ d q. done_idle k (omega arith) q))

  release_idle : (k : ℕ) → k ≤ height t a → {c : Situation t} → Releases t a k (place c.words a) → Within t valid bits (6 * height t a + 5) Idles c
  release_idle k l r =
      longer t valid bits (height t a - k + (5 * height t a + 5)) (6 * height t a + 5) (omega arith)
      (then t valid bits (height t a - k) (5 * height t a + 5) (releases_rounds (λ c. Unit {0}) (λ c x h m n u. tt) k l r tt)
      (λ d (u, q). elim q [ inl g ↦ go_idle (height t a) (omega arith) g | inr p ↦ pass_idle p ]))

  inside_idle : {c : Situation t} → place c.words a ≡ Inside → Within t valid bits (6 * height t a + 6) Idles c
  inside_idle e =
      let z : 1 + (6 * height t a + 5) ≡ 6 * height t a + 6 = omega arith in
      rw (← z) (then t valid bits 1 (6 * height t a + 5) (place_round Inside (λ d. Releases t a 0 (place d.words a)) (λ c h y. turns.inside_turn t valid bits c a h y) e)
      (λ d r. release_idle 0 (omega arith) r))

  -- from every place of a release
  sooner_idle : (k : ℕ) (l : k ≤ height t a) → {c : Situation t} → LetsGo t a k (place c.words a) → Within t valid bits (6 * height t a + 6) Idles c
  sooner_idle k l g = longer t valid bits (5 * k + 5) (6 * height t a + 6) (omega arith) (go_idle k l g)

  idle_by : (c : Situation t) (p : Place) → place c.words a ≡ p → is_releasing p ≡ true → Within t valid bits (6 * height t a + 6) Idles c
  unfolding is_acquiring is_releasing Says
  idle_by c Inside e r = inside_idle e
  idle_by c (Check l) e r =
      let y = says t valid c a ha (Check l) e in
      longer t valid bits (6 * height t a + 5) (6 * height t a + 6) (omega arith) (release_idle y.0 y.1.1 (by_check (e ∙ ap Check y.1.0) y.2))
  idle_by c (Help l) e r = let y = says t valid c a ha (Help l) e in sooner_idle y.0 y.1.1 (helps (e ∙ ap Help y.1.0))
  idle_by c (Cas l) e r = let y = says t valid c a ha (Cas l) e in sooner_idle y.0 y.1.1 (tries (e ∙ ap Cas y.1.0))
  idle_by c (Linger l) e r = let y = says t valid c a ha (Linger l) e in sooner_idle y.0 y.1.1 (lingers (e ∙ ap Linger y.1.0))
  idle_by c (Grant l m v) e r =
      let y = says t valid c a ha (Grant l m v) e in
      let k = y.0 in
      let there : place c.words a ≡ Grant (ancestor t a k) m v = e ∙ ap (λ d. Grant d m v) y.1.0 in
      longer t valid bits (1 + 5 * k) (6 * height t a + 6) (let b = y.1.1 in omega arith)
      (then t valid bits 1 (5 * k) (grant_round k y.1.1 m v there) (λ d q. done_idle k y.1.1 q))
  idle_by c Raise e r = sooner_idle (height t a) (omega arith) (raises e refl)
  idle_by c Idle e r = absurd (false≢true r)
  idle_by c (Prep l) e r = absurd (false≢true r)
  idle_by c (Swap l) e r = absurd (false≢true r)
  idle_by c (Link l p) e r = absurd (false≢true r)
  idle_by c (Wait l) e r = absurd (false≢true r)
  idle_by c Draw e r = absurd (false≢true r)
  idle_by c Watch e r = absurd (false≢true r)
  idle_by c Invalid e r = absurd (false≢true r)

  -- R rounds are enough
  pub idle_within : (c : Situation t) → is_releasing (place c.words a) ≡ true → Within t valid bits (release_bound t a) Idles c
  unfolding release_bound level height
  idle_within c r =
      let z : 6 * depth t (t.home a) + 6 ≡ 6 * suc (depth t (t.home a)) = omega arith in
      rw (← z) (idle_by c _ refl r)
