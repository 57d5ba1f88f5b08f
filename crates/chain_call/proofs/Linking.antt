-- A link read from the tables is the link of the definition.
use mathlib.Core.Path.{◌≡◌, refl, sym, ap, ◌∙◌}
use mathlib.Core.Bool.{Bool, true, false, ◌&&◌, not, cond}
use mathlib.Core.List.{List}
use Prim.Native.Nat.{ℕ, suc, ◌≤◌, ◌<◌}
use native.Mathlib.Omega.{arith}
use lib.Dec.{eqb, ltb}
use lib.ListN.{get_or}
use borrow.Author.Tests.{ne_eqb, lt-ltb}
use Rattle.model.specs.declared.Place.{Place}
use Rattle.model.specs.declared.Place.TheVariants.{Idle, Prep, Swap, Link, Wait, Inside, Check, Help, Cas, Linger, Grant, Draw, Watch, Raise, Invalid}
use Rattle.model.specs.declared.PlaceWords.{PlaceWords}
use Rattle.model.specs.declared.State.{State}
use Rattle.chain_call.specs.declared.tables.Count.{Count}
use Rattle.chain_call.specs.declared.tables.Count.TheVariants.{Nobody}
use Rattle.chain_call.specs.declared.links.Link.{Link as ChainLink}
use Rattle.chain_call.specs.declared.links.Link.TheVariants.{Moves, To, Broken}
use Rattle.std.specs.Prelude.{Option, None, Some}
use Rattle.model.specs.Scans.{filter_below}
use Rattle.model.specs.Trees.{Tree, on_path, own_record}
use Rattle.model.specs.Places.{words_of}
use Rattle.model.specs.States.{status, place, numbers_at}
use Rattle.model.specs.Steps.{stay, is_kind, row}
use Rattle.model.specs.Acts.{acts}
use Rattle.model.specs.WellFormed.{good_place, well_formed}
use Rattle.model.proofs.Tests.{and_false}
use Rattle.model.proofs.Places.{words_of_place}
use Rattle.model.proofs.Trees.Accepted.{Accepted}
use Rattle.model.proofs.Trees.Records.{own_record_member, member_owner, member_small}
use Rattle.model.proofs.Lists.{same_or}
use Rattle.model.proofs.Laws.Form.{not_invalid}
use Rattle.model.proofs.Laws.Kinds.{may_stay}
use Rattle.chain.specs.Chain.{stays, acts_ahead, links, ticket_before, acts_holding, looked_to, looks_to, only}
use Rattle.chain.proofs.Stays.{stays_at, wait_stays, linger_stays, watch_stays, moves_on}
use Rattle.chain_call.specs.Tables.{to, only_in, has_key, count_below, Filled, SoundPlace, link_in, link_by}
use Rattle.chain_call.proofs.Facts.{place_good, watched}
use Rattle.chain_call.proofs.Counting.{Counted, none, one, several, counted, count_same}

-- row 12 is Watch
watch_words : (p : Place) → (words_of p).row ≡ 12 → p ≡ Watch
watch_words Watch e = refl
watch_words Idle e = absurd (omega arith)
watch_words (Prep l) e = absurd (omega arith)
watch_words (Swap l) e = absurd (omega arith)
watch_words (Link l p) e = absurd (omega arith)
watch_words (Wait l) e = absurd (omega arith)
watch_words Inside e = absurd (omega arith)
watch_words (Check l) e = absurd (omega arith)
watch_words (Help l) e = absurd (omega arith)
watch_words (Cas l) e = absurd (omega arith)
watch_words (Linger l) e = absurd (omega arith)
watch_words (Grant l r w) e = absurd (omega arith)
watch_words Draw e = absurd (omega arith)
watch_words Raise e = absurd (omega arith)
watch_words Invalid e = absurd (omega arith)

-- KEYS
key_test : (b : Bool) (v r : ℕ) → has_key (cond b (Some v) None) r ≡ b && eqb v r
key_test true v r = refl
key_test false v r = refl

ticket_test : (b : Bool) (v u : ℕ) → u < 65536 → has_key (cond (b && ltb v 65536) (Some v) None) u ≡ b && eqb v u
ticket_test true v u h =
    same_or v u _
    (λ e. rw (lt-ltb v 65536 (omega arith)) refl)
    (λ e. key_test (ltb v 65536) v u ∙ rw (ne_eqb v u e) (and_false (ltb v 65536)))
ticket_test false v u h = refl

-- LINKS, told apart by a number
abbrev kind : ChainLink → ℕ
kind Moves = 0
kind (To j) = 1
kind Broken = 2

abbrev target : ChainLink → ℕ
target Moves = 0
target (To j) = j
target Broken = 0

-- a link of the definition: the thread moves on, or looks to none or several, or to exactly one thread
pub record LinkOf (t : Tree) (s : State) (i : ℕ) (link : ChainLink) : Type 0 where
  pub moves : link ≡ Moves → stays t s i ≡ false
  pub broken : link ≡ Broken → (stays t s i ≡ true) × (only (looks_to t s i) ≡ 0)
  pub leads : (j : ℕ) → link ≡ To j → (stays t s i ≡ true) × (only (looks_to t s i) ≡ suc j) × (j < t.threads)

moving : (t : Tree) (s : State) (i : ℕ) → stays t s i ≡ false → LinkOf t s i Moves
moving t s i e = record { moves = λ z. e; broken = λ z. absurd (let y = ap kind z in omega arith); leads = λ j z. absurd (let y = ap kind z in omega arith) }

staying : (t : Tree) (s : State) (i : ℕ) (xs : List ℕ) (x : Count) → stays t s i ≡ true → looks_to t s i ≡ xs → Counted t.threads xs x → LinkOf t s i (to (only_in x))
unfolding only
staying t s i _ _ e f none = record { moves = λ z. absurd (let y = ap kind z in omega arith); broken = λ z. (e, rw f refl); leads = λ j z. absurd (let y = ap kind z in omega arith) }
staying t s i _ _ e f (one k h) =
    record {
      moves = λ z. absurd (let y = ap kind z in omega arith);
      broken = λ z. absurd (let y = ap kind z in omega arith);
      leads = λ j z. let y : k ≡ j = ap target z in rw (← y) (e, rw f refl, h);
    }
staying t s i _ _ e f (several k l js) =
    record { moves = λ z. absurd (let y = ap kind z in omega arith); broken = λ z. (e, rw f refl); leads = λ j z. absurd (let y = ap kind z in omega arith) }

module _ (t : Tree) (valid : Accepted t) (s : State) (form : well_formed t s ≡ true) (xs : List Count) (ks vs : List (Option ℕ)) (tables : Filled t s t.threads xs ks vs) (i : ℕ) (h : i < t.threads) where
  few : t.threads ≤ 256
  few = valid.few_threads

  abbrev words : ℕ → PlaceWords
  words j = numbers_at s.places j

  same_words : (j : ℕ) → j < t.threads → words_of (place s j) ≡ words j
  same_words j b = words_of_place (words j) (not_invalid t j (place s j) (place_good t valid s form j b))

  abbrev by_words : PlaceWords → ChainLink
  by_words q = let r = own_record t i q.domain in link_in q r (get_or s.statuses r 0) (get_or s.nexts r 0) s.grant (get_or xs r Nobody) ks vs t.threads

  -- a thread that stays at a place looks to those of which this place says so
  looks : (p : Place) → place s i ≡ p → stays t s i ≡ true → looks_to t s i ≡ filter_below t.threads (looked_to t s i p)
  unfolding looks_to
  looks p e f = rw (f, e) refl

  one_of : (p : Place) → place s i ≡ p → (f : ℕ → Bool) → stays t s i ≡ true → filter_below t.threads (looked_to t s i p) ≡ filter_below t.threads f → LinkOf t s i (to (only_in (count_below t.threads f)))
  one_of p e f st g = staying t s i _ _ st (looks p e st ∙ g) (counted t.threads f)

  ahead_there : (l : ℕ) → on_path t i l ≡ true → get_or xs (own_record t i l) Nobody ≡ count_below t.threads (acts_ahead t s l (own_record t i l))
  ahead_there l o =
      let m = own_record_member t valid i h l o in
      let r = own_record t i l in
      tables.ahead_counts r (member_small t valid l r m) ∙ ap (λ d. count_below t.threads (acts_ahead t s d r)) (member_owner t valid l r m)

  linking_there : (r : ℕ) → count_below t.threads (λ j. has_key (get_or ks j None) r) ≡ count_below t.threads (λ j. links (place s j) r)
  linking_there r =
      count_same t.threads _ _ (λ j b.
      ap (λ x. has_key x r) (tables.linking_keys j b) ∙ rw (same_words j b) (key_test (eqb (words j).row 3) (words j).peer r))

  tickets_there : (u : ℕ) → u < 65536 → count_below t.threads (λ j. has_key (get_or vs j None) u) ≡ count_below t.threads (acts_holding t s u)
  unfolding acts_holding
  tickets_there u b =
      count_same t.threads _ _ (λ j c. ap (λ x. has_key x u) (tables.ticket_keys j c) ∙ ticket_test (acts t s j 0) (status s (own_record t j 0)) u b)

  -- whether a thread stays is the test of its place
  by_stay : (p : Place) → place s i ≡ p → (b : Bool) → is_kind stay (row t i p s).kind ≡ b → stays t s i ≡ b
  by_stay p e b f = stays_at t s i p e ∙ f

  -- the link is as the definition has it, whether the thread stays or not
  either : (p : Place) → place s i ≡ p → (b : Bool) → is_kind stay (row t i p s).kind ≡ b → (f : ℕ → Bool) → filter_below t.threads (looked_to t s i p) ≡ filter_below t.threads f →
      LinkOf t s i (cond b (to (only_in (count_below t.threads f))) Moves)
  either p e true g f h = one_of p e f (by_stay p e true g) h
  either p e false g f h = moving t s i (by_stay p e false g)

  place_link : (p : Place) → place s i ≡ p → good_place t i p ≡ true → on_path t i (words_of p).domain ≡ true → LinkOf t s i (by_words (words_of p))
  unfolding looked_to row may_stay
  place_link (Wait l) e g o = rw (ahead_there l o) (either (Wait l) e _ (wait_stays t s i l) (acts_ahead t s l (own_record t i l)) refl)
  place_link (Linger l) e g o = rw (linking_there (own_record t i l)) (either (Linger l) e _ (linger_stays t s i l) (λ j. links (place s j) (own_record t i l)) refl)
  place_link Watch e g o =
      let u = ticket_before (status s (own_record t i 0)) in
      rw (tickets_there u (omega arith), turned (eqb (status s (own_record t i 0)) s.grant) Moves _) (either Watch e _ (watch_stays t s i) (acts_holding t s u) refl)
    where
      turned : (b : Bool) (x y : ChainLink) → cond b x y ≡ cond (not b) y x
      turned true x y = refl
      turned false x y = refl
  place_link Idle e g o = moving t s i (by_stay Idle e false (moves_on t s i Idle refl))
  place_link (Prep l) e g o = moving t s i (by_stay (Prep l) e false (moves_on t s i (Prep l) refl))
  place_link (Swap l) e g o = moving t s i (by_stay (Swap l) e false (moves_on t s i (Swap l) refl))
  place_link (Link l p) e g o = moving t s i (by_stay (Link l p) e false (moves_on t s i (Link l p) refl))
  place_link Inside e g o = moving t s i (by_stay Inside e false (moves_on t s i Inside refl))
  place_link (Check l) e g o = moving t s i (by_stay (Check l) e false (moves_on t s i (Check l) refl))
  place_link (Help l) e g o = moving t s i (by_stay (Help l) e false (moves_on t s i (Help l) refl))
  place_link (Cas l) e g o = moving t s i (by_stay (Cas l) e false (moves_on t s i (Cas l) refl))
  place_link (Grant l r w) e g o = moving t s i (by_stay (Grant l r w) e false (moves_on t s i (Grant l r w) refl))
  place_link Draw e g o = moving t s i (by_stay Draw e false (moves_on t s i Draw refl))
  place_link Raise e g o = moving t s i (by_stay Raise e false (moves_on t s i Raise refl))
  place_link Invalid e g o = absurd (not_invalid t i Invalid g refl)

  module _ (o : on_path t i (words i).domain ≡ true) where
    pub link_is : LinkOf t s i (link_by t s xs ks vs i)
    link_is =
        let g = place_good t valid s form i h in
        rw (same_words i h) at (place_link (place s i) refl g (rw (same_words i h) o))

    pub sound_place : SoundPlace t s.statuses i (words i)
    sound_place =
        record {
          there = o;
          ticket = λ e.
              let z : place s i ≡ Watch = watch_words (place s i) (ap (λ x. x.row) (same_words i h) ∙ e) in
              let d : (words i).domain ≡ 0 = ap (λ x. x.domain) (sym (same_words i h)) ∙ ap (λ x. (words_of x).domain) z in
              rw d (watched t valid s form i h z);
        }
