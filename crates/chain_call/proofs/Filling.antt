-- The tables of a state, filled thread by thread.
use mathlib.Core.Path.{◌≡◌, refl, ap, ◌∙◌}
use mathlib.Core.Bool.{true, ◌&&◌, cond}
use mathlib.Core.List.{List}
use Prim.Native.Nat.{ℕ, suc, ◌+◌, ◌<◌}
use native.Mathlib.Omega.{arith}
use lib.Dec.{ltb}
use lib.ListN.{get_or, set, length, replicate, length-set}
use lib.Seq.{get_or-set_same, get_or-set_other}
use Rattle.model.specs.declared.TreeWords.{TreeWords}
use Rattle.model.specs.declared.State.{State}
use Rattle.chain_call.specs.declared.tables.Count.{Count}
use Rattle.chain_call.specs.declared.tables.Count.TheVariants.{Nobody}
use Rattle.std.specs.Prelude.{Option, None, Some}
use Rattle.model.specs.declared.PlaceWords.{PlaceWords}
use Rattle.model.specs.Trees.{Tree, tree_of, on_path, own_record, owner_domain}
use Rattle.model.specs.Places.{words_of}
use Rattle.model.specs.States.{status, place, numbers_at}
use Rattle.model.specs.Acts.{acts}
use Rattle.model.specs.WellFormed.{queue_on_path, good_place, well_formed}
use Rattle.model.specs.Refusals.{tree_refusal}
use Rattle.model.specs.declared.Place.{Place}
use Rattle.model.specs.declared.Place.TheVariants.{Idle, Prep, Swap, Link, Wait, Inside, Check, Help, Cas, Linger, Grant, Draw, Watch, Raise, Invalid}
use Rattle.model.specs.Trees as trees
use Rattle.model.proofs.Tests.{and_both}
use Rattle.model.proofs.Places.{words_of_place}
use Rattle.model.proofs.Trees.Index.{height}
use Rattle.model.proofs.Trees.Accepted.{Accepted, accepted}
use Rattle.model.proofs.Trees.Tickets.{queue_facts}
use Rattle.model.proofs.Trees.Paths.{on_path_root}
use Rattle.model.proofs.Lists.{same_or}
use Rattle.model.proofs.Laws.Form.{not_invalid, replicate_all}
use Rattle.model.proofs.Trees.Reading.{threads_read}
use Rattle.chain.specs.Chain.{acts_ahead}
use Rattle.chain_call.specs.Tables.{more_if, count_below, acts_from, Noted, link_key, ticket_key, Filled}
use Rattle.chain_call.proofs.Facts.{owned_nexts, place_good}
use Rattle.chain_call.proofs.Acting.{names_ahead, ticket_there}

pub fill_first : (t : Tree) (s : State) → Filled t s 0 (replicate 320 Nobody) (replicate 256 None) (replicate 256 None)
unfolding count_below
fill_first t s =
    record {
      ahead_room = refl;
      linking_room = refl;
      tickets_room = refl;
      ahead_counts = λ r b. replicate_all (λ (x : Count). x ≡ Nobody) 320 r Nobody refl;
      linking_keys = λ j b. absurd (omega arith);
      ticket_keys = λ j b. absurd (omega arith);
    }

-- a table with one more entry
stored :
    (xs : List (Option ℕ)) (n : ℕ) (f : ℕ → Option ℕ) (v : Option ℕ) → n < length xs → v ≡ f n → ((j : ℕ) → j < n → get_or xs j None ≡ f j) → (j : ℕ) → j < suc n →
    get_or (set xs n v) j None ≡ f j
stored xs n f v b e so_far j h =
    same_or j n _
    (λ z. rw z (get_or-set_same xs n v None b ∙ e))
    (λ z. get_or-set_other xs n j v None z ∙ so_far j (omega arith))

module _ (w : TreeWords) (ok : (tree_refusal (tree_of w)).number ≡ 0) (s : State) (form : well_formed (tree_of w) s ≡ true) (n : ℕ) (h : n < w.threads) where
  abbrev pub t : Tree
  t = tree_of w

  abbrev pub valid : Accepted t
  valid = accepted t ok

  pub real : n < t.threads
  real = rw (threads_read w) h

  abbrev pub words : PlaceWords
  words = numbers_at s.places n

  abbrev pub from : ℕ
  from = acts_from words (status s (own_record t n words.domain))

  abbrev pub root_status : ℕ
  root_status = status s (own_record t n 0)

  -- the domain of a place is on the thread's path
  domain_there : (p : Place) → good_place t n p ≡ true → on_path t n (words_of p).domain ≡ true
  unfolding good_place
  domain_there Idle g = on_path_root t valid n real
  domain_there (Prep l) g = (queue_facts t n l g).0
  domain_there (Swap l) g = (queue_facts t n l g).0
  domain_there (Link l p) g = (queue_facts t n l (and_both (queue_on_path t n l) (trees.is_member t l p) g).0).0
  domain_there (Wait l) g = (queue_facts t n l g).0
  domain_there Inside g = on_path_root t valid n real
  domain_there (Check l) g = (and_both (on_path t n l) _ g).0
  domain_there (Help l) g = (queue_facts t n l g).0
  domain_there (Cas l) g = (queue_facts t n l g).0
  domain_there (Linger l) g = (queue_facts t n l g).0
  domain_there (Grant l r x) g = (queue_facts t n l (and_both (queue_on_path t n l) (trees.is_member t l r) g).0).0
  domain_there Draw g = on_path_root t valid n real
  domain_there Watch g = on_path_root t valid n real
  domain_there Raise g = on_path_root t valid n real
  domain_there Invalid g = on_path_root t valid n real

  pub on_its_path : on_path t n words.domain ≡ true
  on_its_path =
      let g = place_good t valid s form n real in
      rw (words_of_place words (not_invalid t n (place s n) g)) at (domain_there (place s n) g)

  pub fill_next :
      (a : List Count) (l k : List (Option ℕ)) (a' : List Count) → Filled t s n a l k → Noted t s.nexts from n (suc (height t n)) a a' → length a' ≡ 320 →
      Filled t s (suc n) a' (set l n (link_key words)) (set k n (ticket_key from root_status))
  unfolding count_below
  fill_next a l k a' x y e =
      let g = place_good t valid s form n real in
      let few = valid.few_threads in
      record {
        ahead_room = e;
        linking_room = length-set l n (link_key words) ∙ x.linking_room;
        tickets_room = length-set k n (ticket_key from root_status) ∙ x.tickets_room;
        ahead_counts = λ r b. y.count r b
            ∙ ap (λ z. more_if z (get_or a r Nobody) n) (names_ahead t s n valid real g (owned_nexts t valid s form) r)
            ∙ ap (λ z. more_if (acts_ahead t s (owner_domain t r) r n) z n) (x.ahead_counts r b);
        linking_keys = stored l n (λ j. link_key (numbers_at s.places j)) (link_key words) (omega (arith, x.linking_room, real)) refl x.linking_keys;
        ticket_keys = stored k n (λ j. cond (acts t s j 0 && ltb (status s (own_record t j 0)) 65536) (Some (status s (own_record t j 0))) None) (ticket_key from root_status)
            (omega (arith, x.tickets_room, real)) (ticket_there t s n valid real g root_status) x.ticket_keys;
      }

  -- the same with the numbers that the calls return
  pub fill_turn :
      (r f top : ℕ) (lk tk : Option ℕ) → r ≡ own_record t n words.domain → f ≡ acts_from words (status s r) → top ≡ own_record t n 0 → lk ≡ link_key words → tk ≡ ticket_key f (status s top) →
      (a : List Count) (l k : List (Option ℕ)) (a' : List Count) → Filled t s n a l k → Noted t s.nexts f n (suc (height t n)) a a' → length a' ≡ 320 → Filled t s (n + 1) a' (set l n lk) (set k n tk)
  fill_turn r f top lk tk e₁ e₂ e₃ e₄ e₅ a l k a' x y e =
      let from_is : f ≡ from = e₂ ∙ ap (λ z. acts_from words (status s z)) e₁ in
      let noted_from : Noted t s.nexts from n (suc (height t n)) a a' = rw from_is at y in
      let key_is : tk ≡ ticket_key from root_status = e₅ ∙ ap (λ z. ticket_key z (status s top)) from_is ∙ ap (λ z. ticket_key from (status s z)) e₃ in
      let one : n + 1 ≡ suc n = omega arith in
      rw (one, e₄, key_is) (fill_next a l k a' x noted_from e)
