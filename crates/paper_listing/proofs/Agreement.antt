-- One entry of the listing does what the row of the step table does, in every well-formed state; so both agree after every schedule from fresh.
use mathlib.Core.Path.{◌≡◌, refl, sym, ◌∙◌}
use mathlib.Core.Bool.{Bool, true, false, cond}
use mathlib.Core.List.{List, [], ◌∷◌, ◌++◌, append_assoc, append-nil}
use mathlib.Core.Logic.{◌⊎◌, inl, inr}
use Prim.Native.Nat.{ℕ, suc, ◌+◌, ◌≤◌, ◌<◌}
use native.Mathlib.Omega.{arith}
use lib.Dec.{eqb}
use lib.ListN.{length}
use borrow.Author.Tests.{eq-eqb, ne_eqb}
use Rattle.model.specs.declared.Place.{Place}
use Rattle.model.specs.declared.Place.TheVariants.{Prep, Swap, Link, Wait, Check, Help, Cas, Linger, Grant, Draw, Watch}
use Rattle.model.specs.declared.State.{State}
use Rattle.model.specs.Trees.{Tree, is_ticket, own_record}
use Rattle.model.specs.Places.{place_of}
use Rattle.model.specs.States.{wait_word, none, next, status, place, fresh_words, fresh_state, HasRoom}
use Rattle.model.specs.Steps.{release_word, prep_row, draw_row, row, step}
use Rattle.model.specs.Runs.{steps, state_after, run_of, run}
use Rattle.model.specs.Refusals.{tree_refusal}
use Rattle.model.specs.Laws.{AllThreads, SixteenBit}
use Rattle.claims.specs.Reached.{equality_check_row, EqualityLaw}
use Rattle.model.proofs.Branches.{prep_branch, swap_branch, link_branch, wait_branch, leave_branch, help_branch, cas_branch, linger_branch, grant_branch, watch_branch, raise_branch, branch}
use Rattle.model.proofs.Trees.Index.{ancestor, height, record_at}
use Rattle.model.proofs.Trees.Accepted.{Accepted, accepted}
use Rattle.model.proofs.Lists.{same_or}
use Rattle.model.proofs.Trees.Paths.{ancestor_not_root}
use Rattle.model.proofs.Laws.Facts.{well_formed_facts}
use Rattle.model.proofs.Laws.FromFresh.{left_from_fresh, formed_from_fresh}
use Rattle.model.proofs.Places.{fresh_idle}
use Rattle.claims.proofs.Claims.Calls.{run_after, run_one}
use Rattle.claims.proofs.Claims.Equality.{same_by_equality, equality_law}
use Rattle.claims.proofs.Claims.Reached.{threads_join}
use Rattle.paper_listing.specs.Calls.{after_17, Frame, Control, control, outside, line_7, line_9, line_11, line_13, line_25, line_37, line_53, line_55, line_57, line_58, line_59, line_66, line_67, line_71, line_72, ticket_lock, line_90, line_91_again}
use Rattle.paper_listing.specs.Listing.{top_domain, top_back}
use Rattle.paper_listing.specs.Agreement.{called_place, ticket_place, place_at, place_of_control, entry, Threads, at_first, turn, turns, memory_of, StandsAt, at_idle, at_prep, at_swap, at_link, at_wait, at_inside, at_check, at_37, at_help, at_cas, at_linger, at_55, at_59, at_draw, at_watch, at_raise, SameTest, EntryLaw, ListingAgrees}
use Rattle.paper_listing.proofs.Stacks.{ReleaseStack, acquire_back, acquire_stack, top_domain_at, helper_stack, Corresponds, c_idle, c_prep, c_swap, c_link, c_wait, c_inside, c_check, c_pass, c_help, c_cas, c_linger, c_55, c_59, c_draw, c_watch, c_raise}
use Rattle.paper_listing.proofs.Acquiring.{Together, standing, idle_together, prep_together, swap_together, link_together, wait_together}
use Rattle.paper_listing.proofs.Releasing.{leave_together, check_together, pass_together, help_together, cas_together, linger_together, line_55_together, line_59_together}
use Rattle.paper_listing.proofs.Tickets.{draw_together, idle_draw_together, watch_together, raise_together}
use Rattle.paper_listing.proofs.Differing.{not_differing}
use Rattle.paper_listing.proofs.Standing.{Acquires, acquires, Releases, releases, Helps, helps, stands, stood}

-- ONE ENTRY, by the thread's place
module _ (t : Tree) (valid : Accepted t) (i : ℕ) (h : i < t.threads) (s : State) (room : HasRoom s.places i) (wide : length s.statuses ≡ 320) (small : (r : ℕ) → status s r ≤ wait_word)
    (by_equality : (l : ℕ) → place s i ≡ Check l → row t i (Check l) s ≡ equality_check_row t i l s) where
  idle_by : (c : Bool) → is_ticket t (t.home i) ≡ c → Together t i s (cond c (draw_row t i s) (prep_row t i (t.home i) s)) (entry t i (standing (control outside []) s))
  idle_by true n = idle_draw_together t valid i h s room wide n
  idle_by false n = idle_together t valid i h s room n (prep_branch t i s (t.home i))

  row_together : {c : Control} {p : Place} → place s i ≡ p → Corresponds t i c p → Together t i s (row t i p s) (entry t i (standing c s))
  unfolding row
  row_together q c_idle = idle_by _ refl
  row_together q (c_prep k l) = prep_together t valid i h s room (suc k) l (prep_branch t i s (ancestor t i (suc k)))
  row_together q (c_swap k l) = swap_together t valid i h s room k l (swap_branch t i s (ancestor t i k))
  row_together q (c_link k p l) = link_together t valid i h s room k p l (link_branch t i s (ancestor t i k) p)
  row_together q (c_wait k l) = wait_together t valid i h s room k l q (small (record_at t i k)) (wait_branch t i s (ancestor t i k))
  row_together q c_inside = leave_together t valid i h s room (leave_branch t i s)
  row_together q (c_check k fs b x) = rw (by_equality (ancestor t i k) q) (check_together t valid i h s room k b fs x)
  row_together q (c_pass k c r fs b x) = pass_together t valid i h s room k b c r fs x (grant_branch t i s (ancestor t i k) r (c + 1))
  row_together q (c_help k b fs l x y) = help_together t valid i h s room k l b fs x y (help_branch t i s (ancestor t i k))
  row_together q (c_cas k b fs l x y) = cas_together t valid i h s room k l b fs x y (cas_branch t i s (ancestor t i k))
  row_together q (c_linger k b fs l x y) = linger_together t valid i h s room k l b fs x y q (linger_branch t i s (ancestor t i k))
  row_together q (c_55 k r w b fs l x y) = line_55_together t valid i h s room k l b fs x y r w (grant_branch t i s (ancestor t i k) r w)
  row_together q (c_59 k r w b fs l x y) = line_59_together t valid i h s room k l b fs x y r w (grant_branch t i s (ancestor t i k) r w)
  row_together q (c_draw k l e) = draw_together t valid i h s room (suc k) l e wide
  row_together q (c_watch k l e) = watch_together t valid i h s room k l e q (watch_branch t i s)
  row_together q (c_raise k fs l e x) = raise_together t valid i h s room k l e fs x (raise_branch t i s)

  -- so it does from every control at the place
  along_calls : {L : ℕ} {fs : List Frame} (x : Acquires t i L fs) (A : ℕ → List Frame → Type 0) → A (ancestor t i x.index) (acquire_stack t i x.index) → A L fs
  along_calls x A a = rw (← x.calls, ← x.there) a

  along_release : {L : ℕ} {fs : List Frame} (x : Releases t i L fs) (A : ℕ → Type 0) → A (ancestor t i x.index) → A L
  along_release x A a = rw (← x.there) a

  along_help : {L : ℕ} {fs : List Frame} (x : Helps t i L fs) (A : ℕ → List Frame → Type 0) → A (ancestor t i x.index) (helper_stack t i x.index x.back x.callers) → A L fs
  along_help x A a = rw (← x.calls, ← x.there) a

  -- what is proved for a control at a place
  abbrev Row : Control → Place → Type 0
  Row c p = place s i ≡ p → Together t i s (row t i p s) (entry t i (standing c s))

  prep_row_together : (k : ℕ) → k ≤ height t i → Row (control (cond (eqb (ancestor t i k) 0) line_66 line_7) (acquire_stack t i k)) (Prep (ancestor t i k))
  unfolding row
  prep_row_together k l q = prep_together t valid i h s room k l (prep_branch t i s (ancestor t i k))

  draw_row_together : (k : ℕ) → k ≤ height t i → ancestor t i k ≡ 0 → Row (control (ticket_lock line_90) (acquire_stack t i k)) Draw
  unfolding row
  draw_row_together k l e q = draw_together t valid i h s room k l e wide

  stands_together : {c : Control} {p : Place} → StandsAt t i c p → Row c p
  stands_together at_idle = λ q. row_together q c_idle
  stands_together (at_prep L fs a) =
      let x = acquires t valid i h a in
      along_calls x (λ L fs. Row (control (cond (eqb L 0) line_66 line_7) fs) (Prep L)) (prep_row_together x.index x.within)
  stands_together (at_swap L fs a) =
      let x = acquires t valid i h a in
      along_calls x (λ L fs. Row (control (cond (eqb L 0) line_67 line_9) fs) (Swap L)) (λ q. row_together q (c_swap x.index x.within))
  stands_together (at_link L p fs a) =
      let x = acquires t valid i h a in
      along_calls x (λ L fs. Row (control (cond (eqb L 0) (line_71 p) (line_11 p)) fs) (Link L p)) (λ q. row_together q (c_link x.index p x.within))
  stands_together (at_wait L fs a) =
      let x = acquires t valid i h a in
      along_calls x (λ L fs. Row (control (cond (eqb L 0) line_72 line_13) fs) (Wait L)) (λ q. row_together q (c_wait x.index x.within))
  stands_together at_inside = λ q. row_together q c_inside
  stands_together (at_check L fs n a) =
      let x = releases t valid i h a in
      let b = ancestor_not_root t valid i h x.index x.within (omega (arith, n, x.there)) in
      along_release x (λ L. Row (control line_25 fs) (Check L)) (λ q. row_together q (c_check x.index fs b x.stack))
  stands_together (at_37 L c r fs n a) =
      let x = releases t valid i h a in
      let b = ancestor_not_root t valid i h x.index x.within (omega (arith, n, x.there)) in
      along_release x (λ L. Row (control (line_37 c r) fs) (Grant L r (c + 1))) (λ q. row_together q (c_pass x.index c r fs b x.stack))
  stands_together (at_help L fs a) =
      let x = helps t valid i h a in
      along_help x (λ L fs. Row (control (line_53 (release_word L)) fs) (Help L)) (λ q. row_together q (c_help x.index x.back x.callers x.within x.stack x.helps))
  stands_together (at_cas L fs a) =
      let x = helps t valid i h a in
      along_help x (λ L fs. Row (control (line_57 (release_word L)) fs) (Cas L)) (λ q. row_together q (c_cas x.index x.back x.callers x.within x.stack x.helps))
  stands_together (at_linger L fs a) =
      let x = helps t valid i h a in
      along_help x (λ L fs. Row (control (line_58 (release_word L)) fs) (Linger L)) (λ q. row_together q (c_linger x.index x.back x.callers x.within x.stack x.helps))
  stands_together (at_55 L r w fs a) =
      let x = helps t valid i h a in
      along_help x (λ L fs. Row (control (line_55 r w) fs) (Grant L r w)) (λ q. row_together q (c_55 x.index r w x.back x.callers x.within x.stack x.helps))
  stands_together (at_59 L r w fs a) =
      let x = helps t valid i h a in
      along_help x (λ L fs. Row (control (line_59 r w) fs) (Grant L r w)) (λ q. row_together q (c_59 x.index r w x.back x.callers x.within x.stack x.helps))
  stands_together (at_draw fs a) =
      let x = acquires t valid i h a in
      along_calls x (λ L fs. Row (control (ticket_lock line_90) fs) Draw) (draw_row_together x.index x.within x.there)
  stands_together (at_watch fs a) =
      let x = acquires t valid i h a in
      along_calls x (λ L fs. Row (control (ticket_lock line_91_again) fs) Watch) (λ q. row_together q (c_watch x.index x.within x.there))
  stands_together (at_raise fs a) =
      let x = releases t valid i h a in
      λ q. row_together q (c_raise x.index fs x.within x.there x.stack)

-- the table of points gives the place to which a control corresponds
corresponding : {t : Tree} {i : ℕ} {c : Control} {p : Place} → Corresponds t i c p → place_of_control c ≡ p
unfolding place_of_control place_at called_place ticket_place top_domain top_back acquire_back
corresponding c_idle = refl
corresponding {t} {i} (c_prep k l) = either (eqb (ancestor t i (suc k)) 0)
  where
    either : (b : Bool) → place_at (cond b line_66 line_7) (ancestor t i (suc k)) after_17 ≡ Prep (ancestor t i (suc k))
    either true = refl
    either false = refl
corresponding {t} {i} (c_swap k l) = either (eqb (ancestor t i k) 0)
  where
    either : (b : Bool) → place_at (cond b line_67 line_9) (ancestor t i k) (acquire_back k) ≡ Swap (ancestor t i k)
    either true = refl
    either false = refl
corresponding {t} {i} (c_link k p l) = either (eqb (ancestor t i k) 0)
  where
    either : (b : Bool) → place_at (cond b (line_71 p) (line_11 p)) (ancestor t i k) (acquire_back k) ≡ Link (ancestor t i k) p
    either true = refl
    either false = refl
corresponding {t} {i} (c_wait k l) = either (eqb (ancestor t i k) 0)
  where
    either : (b : Bool) → place_at (cond b line_72 line_13) (ancestor t i k) (acquire_back k) ≡ Wait (ancestor t i k)
    either true = refl
    either false = refl
corresponding c_inside = refl
corresponding (c_check k fs b x) = rw (top_domain_at x)
corresponding (c_pass k c r fs b x) = rw (top_domain_at x)
corresponding (c_help k b fs l x y) = refl
corresponding (c_cas k b fs l x y) = refl
corresponding (c_linger k b fs l x y) = refl
corresponding (c_55 k r w b fs l x y) = refl
corresponding (c_59 k r w b fs l x y) = refl
corresponding (c_draw k l e) = refl
corresponding (c_watch k l e) = refl
corresponding (c_raise k fs l e x) = refl

-- WHERE THE TESTS DIFFER. At Check, the listing goes to Grant and the table releases the parent: above the threshold, with a next
module _ (t : Tree) (valid : Accepted t) (i : ℕ) (h : i < t.threads) (s : State) (room : HasRoom s.places i) where
  check_only :
      (k : ℕ) → k < height t i → (fs : List Frame) → ReleaseStack t i k fs → place s i ≡ Check (ancestor t i k) →
      place_of_control (entry t i (standing (control line_25 fs) s)).thread ≡ place (step t i s).state i →
      (status s (own_record t i (ancestor t i k)) ≤ t.threshold (ancestor t i k)) ⊎ (next s (own_record t i (ancestor t i k)) ≡ none)
  unfolding step
  check_only k b fs x q d =
      let l = ancestor t i k in
      let z = check_together t valid i h s room k b fs x in
      let same : place (row t i (Check l) s).state i ≡ place (equality_check_row t i l s).state i = sym (rw q at d) ∙ corresponding z.corresponds ∙ sym z.there in
      not_differing t i s l room same

  -- for each place
  only_same :
      {c : Control} {p : Place} → StandsAt t i c p → place s i ≡ p → place_of_control (entry t i (standing c s)).thread ≡ place (step t i s).state i → SameTest t i s
  unfolding SameTest
  only_same (at_check L fs n a) q d l e =
      let x = releases t valid i h a in
      let b = ancestor_not_root t valid i h x.index x.within (omega (arith, n, x.there)) in
      let there : ancestor t i x.index ≡ l = x.there ∙ cc in
      elim (rw there at (check_only x.index b fs x.stack (rw there e) d)) [ inl within ↦ inl (omega arith) | inr alone ↦ inr (omega arith) ]
  only_same at_idle q d l e = absurd (let z : ◌≡◌ {A = ℕ} 0 1 = cc in omega arith)
  only_same (at_prep L fs a) q d l e = absurd (let z : ◌≡◌ {A = ℕ} 0 1 = cc in omega arith)
  only_same (at_swap L fs a) q d l e = absurd (let z : ◌≡◌ {A = ℕ} 0 1 = cc in omega arith)
  only_same (at_link L p fs a) q d l e = absurd (let z : ◌≡◌ {A = ℕ} 0 1 = cc in omega arith)
  only_same (at_wait L fs a) q d l e = absurd (let z : ◌≡◌ {A = ℕ} 0 1 = cc in omega arith)
  only_same at_inside q d l e = absurd (let z : ◌≡◌ {A = ℕ} 0 1 = cc in omega arith)
  only_same (at_37 L c r fs n a) q d l e = absurd (let z : ◌≡◌ {A = ℕ} 0 1 = cc in omega arith)
  only_same (at_help L fs a) q d l e = absurd (let z : ◌≡◌ {A = ℕ} 0 1 = cc in omega arith)
  only_same (at_cas L fs a) q d l e = absurd (let z : ◌≡◌ {A = ℕ} 0 1 = cc in omega arith)
  only_same (at_linger L fs a) q d l e = absurd (let z : ◌≡◌ {A = ℕ} 0 1 = cc in omega arith)
  only_same (at_55 L r w fs a) q d l e = absurd (let z : ◌≡◌ {A = ℕ} 0 1 = cc in omega arith)
  only_same (at_59 L r w fs a) q d l e = absurd (let z : ◌≡◌ {A = ℕ} 0 1 = cc in omega arith)
  only_same (at_draw fs a) q d l e = absurd (let z : ◌≡◌ {A = ℕ} 0 1 = cc in omega arith)
  only_same (at_watch fs a) q d l e = absurd (let z : ◌≡◌ {A = ℕ} 0 1 = cc in omega arith)
  only_same (at_raise fs a) q d l e = absurd (let z : ◌≡◌ {A = ℕ} 0 1 = cc in omega arith)

-- EVERY WELL-FORMED STATE
check_by_equality : (t : Tree) (i : ℕ) (s : State) → SameTest t i s → (l : ℕ) → place s i ≡ Check l → row t i (Check l) s ≡ equality_check_row t i l s
unfolding SameTest
check_by_equality t i s n l e =
    same_by_equality t i l s (elim (n l e) [ inl within ↦ inl (omega arith) | inr alone ↦ inr (omega arith) ]) (branch t i s (Check l))

pub entry_law : EntryLaw
unfolding EntryLaw step
entry_law t ok s formed i h =
    let valid = accepted t ok in
    let room : HasRoom s.places i = (formed.typed.places_room, omega (arith, valid.few_threads)) in
    let small : (r : ℕ) → status s r ≤ wait_word = λ r. omega (arith, formed.typed.statuses_fit r) in
    let there = stood t valid i h (place s i) (((well_formed_facts t s formed).places i).used h) in
    record {
      some_control = there.by;
      some_stands = there.standing;
      only = λ c x d. only_same t valid i h s room x refl d.placed;
      does = λ n c x.
          let z = stands_together t valid i h s room formed.typed.statuses_room small (check_by_equality t i s n) x refl in
          record {
            memory = z.memory;
            stands = rw z.there (stands t valid i h z.corresponds);
            placed = corresponding z.corresponds ∙ sym z.there;
            others = z.elsewhere;
          };
    }

-- ALL THREADS, along a schedule from fresh
record TogetherAll (t : Tree) (x : Threads) (s : State) : Type 0 where
  memory : x.memory ≡ memory_of s
  stands_there : (i : ℕ) → i < t.threads → StandsAt t i (x.controls i) (place s i)
  placed : (i : ℕ) → i < t.threads → place_of_control (x.controls i) ≡ place s i

module _ (t : Tree) (bits : SixteenBit t) (ok : (tree_refusal t).number ≡ 0) (start : ℕ) where
  -- one turn, from a state reached from fresh
  one_turn :
      (pre : List ℕ) → AllThreads t pre → (i : ℕ) → i < t.threads → (x : Threads) → TogetherAll t x (run t pre (fresh_state t start)).state →
      TogetherAll t (turn t i x) (step t i (run t pre (fresh_state t start)).state).state
  unfolding turn EntryLaw EqualityLaw SameTest
  one_turn pre all i h x y =
      let s = (run t pre (fresh_state t start)).state in
      let f = left_from_fresh t start pre (record { sixteen_bit = bits; tree_accepted = ok; threads = all }) in
      let z = (entry_law t ok s (formed_from_fresh t s f) i h).does (λ l q. inl (equality_law t s f i l h q).within) (x.controls i) (y.stands_there i h) in
      rw y.memory (record {
        memory = z.memory;
        stands_there = λ j hj. same_or j i _ (λ e. rw (e, eq-eqb i i refl) z.stands) (λ e. rw (ne_eqb j i e, z.others j e) (y.stands_there j hj));
        placed = λ j hj. same_or j i _ (λ e. rw (e, eq-eqb i i refl) z.placed) (λ e. rw (ne_eqb j i e, z.others j e) (y.placed j hj));
      })

  along :
      (is pre : List ℕ) → AllThreads t pre → AllThreads t is → (x : Threads) → TogetherAll t x (run t pre (fresh_state t start)).state →
      TogetherAll t (turns t is x) (run t (pre ++ is) (fresh_state t start)).state
  unfolding turns AllThreads
  along [] pre all l x y = rw (append-nil pre) y
  along (i ∷ is) pre all l x y =
      let one = one_turn pre all i l.0 x y in
      let next : TogetherAll t (turn t i x) (run t (pre ++ (i ∷ [])) (fresh_state t start)).state = rw (run_after t (fresh_state t start) pre (i ∷ []) [], run_one t i (run t pre (fresh_state t start)).state) one in
      rw (append_assoc pre (i ∷ []) is) at (along is (pre ++ (i ∷ [])) (threads_join t pre (i ∷ []) all (l.0, tt)) l.1 (turn t i x) next)

pub listing_agrees : ListingAgrees
unfolding ListingAgrees at_first AllThreads run run_of steps state_after memory_of fresh_words fresh_state place_of place_of_control place_at
listing_agrees t start is k =
    let first : TogetherAll t (at_first t start) (fresh_state t start) = record { memory = refl; stands_there = λ i h. rw (fresh_idle t start i) at_idle; placed = λ i h. rw (fresh_idle t start i) } in
    let y = along t k.sixteen_bit k.tree_accepted start is [] tt k.threads (at_first t start) first in
    record { memory = y.memory; places = y.placed }
