-- THE COUNTERS: they add up, change no step, stay well formed, and do not overflow.
use mathlib.Core.Path.{◌≡◌, refl, sym, ap, ◌∙◌}
use mathlib.Core.Bool.{Bool, true, false, ◌&&◌, cond, false≢true, true≢false}
use mathlib.Core.List.{List, [], ◌∷◌}
use mathlib.Core.Logic.{◌≢◌}
use Prim.Native.Nat.{ℕ, zero, suc, ◌+◌, ◌-◌, ◌≤◌, ◌<◌, max}
use native.Mathlib.Omega.{arith}
use lib.Dec.{eqb, ltb, leb}
use lib.ListN.{length, get_or, take, replicate}
use borrow.Author.Tests.{eqb-true, eqb-false, eq-eqb, ne_eqb, lt-ltb, le-ltb, ltb-false, leb-true, le-leb}
use Rattle.model.specs.declared.State.{State}
use Rattle.model.specs.declared.Counters.{Counters}
use Rattle.model.specs.declared.LockState.{LockState}
use Rattle.model.specs.Scans.{any_below}
use Rattle.model.specs.Trees.{Tree, tree_of, on_path, under}
use Rattle.model.specs.States.{place, fresh_state}
use Rattle.model.specs.Steps.{is_entry, Step, step}
use Rattle.model.specs.Runs.{steps, entries_under}
use Rattle.model.specs.WellFormed.{good_place}
use Rattle.model.specs.Tenures.{domain_entries, domain_tenures, longest_tenure, starts, tenure_length}
use Rattle.model.specs.Counters.{lock_state, fresh_counters, counters_after, most_counted, is_counted, count_fits, good_count, good_counts, count_above, any_above}
use Rattle.model.specs.Refusals.{bad_counter, tree_refusal, step_refusal, run_refusal}
use Rattle.model.specs.Answers.{counters_after_run, step_reply, step_answer, run_reply, run_buffer, run_answer, trace_answer}
use Rattle.model.specs.Laws.{AllThreads, SixteenBit, Formed, FormLaw}
use Rattle.model.specs.CounterLaws.{CounterLaw, WordsAloneLaw, CounterFormLaw, RoomLeft, RoomLaw, FreshRoomLaw}
use Rattle.model.proofs.Tests.{and_both, or_neither, any_none, any_one, all_each, all_true, by_test}
use Rattle.model.proofs.Trees.Accepted.{Accepted, accepted}
use Rattle.model.proofs.Trees.Paths.{path_real}
use Rattle.model.proofs.Counted.{indexed_long, indexed_at, indexed_fact, counters_none, counters_join}
use Rattle.model.proofs.Laws.Runs.{steps_length, steps_take}
use Rattle.model.proofs.Laws.Facts.{well_formed_facts}
use Rattle.model.proofs.Laws.Form.{form_law, replicate_all}
use Rattle.model.proofs.Laws.Given.{starts_few, starts_real, tenure_length_few, tenure_length_within, tenure_length_real}

-- 1. INDEX BY INDEX
pub counter_law : CounterLaw
unfolding CounterLaw counters_after
counter_law t c xs =
    let z : (d : ℕ) → 0 + d ≡ d = λ d. omega arith in
    record {
      entries = λ d h. indexed_at (λ d v. v + domain_entries t d xs) 0 c.entries d h ∙ ap (λ j. get_or c.entries d 0 + domain_entries t j xs) (z d);
      tenures = λ d h. indexed_at (λ d v. v + domain_tenures t d xs) 0 c.tenures d h ∙ ap (λ j. get_or c.tenures d 0 + domain_tenures t j xs) (z d);
      longest = λ d h. indexed_at (λ d v. max v (longest_tenure t d xs)) 0 c.longest d h ∙ ap (λ j. max (get_or c.longest d 0) (longest_tenure t j xs)) (z d);
      entries_room = indexed_long (λ d v. v + domain_entries t d xs) 0 c.entries;
      tenures_room = indexed_long (λ d v. v + domain_tenures t d xs) 0 c.tenures;
      longest_room = indexed_long (λ d v. max v (longest_tenure t d xs)) 0 c.longest;
      joined = λ ys. counters_join t c xs ys;
    }

-- 2. NO STEP CHANGES
pub words_alone_law : WordsAloneLaw
unfolding WordsAloneLaw step_answer step_reply run_answer run_reply trace_answer run_buffer
words_alone_law w s c e =
    record {
      of_step = λ i a b.
          let x = eq-eqb (step_refusal (tree_of w) (lock_state s c) i).number 0 a in
          let y = eq-eqb (step_refusal (tree_of w) (lock_state s e) i).number 0 b in
          record { words = rw (x, y); kind = rw (x, y); domain = rw (x, y) };
      of_run = λ is b p q.
          let x = eq-eqb (run_refusal (tree_of w) (lock_state s c) is (length b)).number 0 p in
          let y = eq-eqb (run_refusal (tree_of w) (lock_state s e) is (length b)).number 0 q in
          record { words = rw (x, y); counts = rw (x, y); trace = rw (x, y) };
    }

-- 3. FORM. A counter as facts
record Fits (t : Tree) (d v : ℕ) : Type 0 where
  counted : is_counted t d ≡ true → v ≤ most_counted
  others : is_counted t d ≡ false → v ≡ 0

fits_fact : (t : Tree) (d v : ℕ) → count_fits t d v ≡ true → Fits t d v
fits_fact t d v e = by (is_counted t d) refl e
  where
    by : (b : Bool) → is_counted t d ≡ b → cond b (leb v most_counted) (eqb v 0) ≡ true → Fits t d v
    by true z e = record { counted = λ y. leb-true v most_counted e; others = λ y. absurd (true≢false (sym z ∙ y)) }
    by false z e = record { counted = λ y. absurd (false≢true (sym z ∙ y)); others = λ y. eqb-true v 0 e }

fits_test : (t : Tree) (d v : ℕ) → Fits t d v → count_fits t d v ≡ true
fits_test t d v f = by (is_counted t d) refl
  where
    by : (b : Bool) → is_counted t d ≡ b → cond b (leb v most_counted) (eqb v 0) ≡ true
    by true z = le-leb v most_counted (f.counted z)
    by false z = eq-eqb v 0 (f.others z)

zero_fits : (t : Tree) (d : ℕ) → Fits t d 0
zero_fits t d = record { counted = λ y. omega arith; others = λ y. refl }

pub zero_fits_test : (t : Tree) (d : ℕ) → count_fits t d 0 ≡ true
zero_fits_test t d = fits_test t d 0 (zero_fits t d)

-- all counters as facts
pub record GoodCounts (t : Tree) (c : Counters) : Type 0 where
  entries : (d : ℕ) → d < 64 → Fits t d (get_or c.entries d 0)
  tenures : (d : ℕ) → d < 64 → Fits t d (get_or c.tenures d 0)
  longest : (d : ℕ) → d < 64 → Fits t d (get_or c.longest d 0)
  pub within : (d : ℕ) → d < 64 → get_or c.longest d 0 ≤ t.threshold d

pub good_facts : (t : Tree) (c : Counters) → good_counts t c ≡ true → GoodCounts t c
unfolding good_counts good_count
good_facts t c e =
    let at : (d : ℕ) → d < 64 → _ = λ d h. and_both (count_fits t d (get_or c.entries d 0)) _ (all_each 64 (good_count t c) e d h) in
    let rest : (d : ℕ) → d < 64 → _ = λ d h. and_both (count_fits t d (get_or c.tenures d 0)) (count_fits t d (get_or c.longest d 0) && leb (get_or c.longest d 0) (t.threshold d)) (at d h).1 in
    let last : (d : ℕ) → d < 64 → _ = λ d h. and_both (count_fits t d (get_or c.longest d 0)) (leb (get_or c.longest d 0) (t.threshold d)) (rest d h).1 in
    record {
      entries = λ d h. fits_fact t d _ (at d h).0;
      tenures = λ d h. fits_fact t d _ (rest d h).0;
      longest = λ d h. fits_fact t d _ (last d h).0;
      within = λ d h. leb-true _ _ (last d h).1;
    }

good_test : (t : Tree) (c : Counters) → GoodCounts t c → good_counts t c ≡ true
unfolding good_counts good_count
good_test t c g =
    all_true 64 (good_count t c) (λ d h. rw (fits_test t d _ (g.entries d h), fits_test t d _ (g.tenures d h), fits_test t d _ (g.longest d h), le-leb _ _ (g.within d h)))

-- entries and tenures are at most 2^63
pub counts_most :
    (t : Tree) (c : Counters) → good_counts t c ≡ true → (d : ℕ) → d < 64 → (get_or c.entries d 0 ≤ most_counted) × (get_or c.tenures d 0 ≤ most_counted)
counts_most t c e d h = let g = good_facts t c e in (most (g.entries d h), most (g.tenures d h))
  where
    most : {v : ℕ} → Fits t d v → v ≤ most_counted
    most {v} f = by (is_counted t d) refl
      where
        by : (b : Bool) → is_counted t d ≡ b → v ≤ most_counted
        by true z = f.counted z
        by false z = omega (arith, f.others z)

record NotAbove (c : Counters) (d : ℕ) : Type 0 where
  entries : get_or c.entries d 0 ≤ most_counted
  tenures : get_or c.tenures d 0 ≤ most_counted
  longest : get_or c.longest d 0 ≤ most_counted

not_above : (c : Counters) → any_above c ≡ false → (d : ℕ) → d < 64 → NotAbove c d
unfolding any_above count_above
not_above c e d h =
    let one = or_neither (ltb most_counted (get_or c.entries d 0)) _ (any_none 64 (count_above c) e d h) in
    let two = or_neither (ltb most_counted (get_or c.tenures d 0)) (ltb most_counted (get_or c.longest d 0)) one.1 in
    record { entries = ltb-false _ _ one.0; tenures = ltb-false _ _ two.0; longest = ltb-false _ _ two.1 }

none_above : (c : Counters) → ((d : ℕ) → d < 64 → NotAbove c d) → any_above c ≡ false
unfolding any_above count_above
none_above c f = by (any_below 64 (count_above c)) refl
  where
    by : (b : Bool) → any_below 64 (count_above c) ≡ b → any_below 64 (count_above c) ≡ false
    by false e = e
    by true e =
        let x = any_one 64 (count_above c) e in
        let g = f x.index x.below in
        absurd (true≢false (sym x.holds ∙ rw (le-ltb _ _ g.entries, le-ltb _ _ g.tenures, le-ltb _ _ g.longest)))

-- a domain of the tree other than the root is counted
is_real : (t : Tree) (d : ℕ) → is_counted t d ≡ false → (d ≢ 0) × (d < t.domains) → ⊥
is_real t d e r = true≢false (sym (rw (ne_eqb d 0 r.0, lt-ltb d t.domains r.1)) ∙ e)

-- an entry counts only for domains of the thread's path other than the root
module _ (t : Tree) (valid : Accepted t) (i : ℕ) (b : i < t.threads) (s : State) (d : ℕ) where
  entry_real : 1 ≤ domain_entries t d (step t i s ∷ []) → (d ≢ 0) × (d < t.domains)
  unfolding domain_entries entries_under step under
  entry_real h = by (eqb d 0) (is_entry (step t i s).kind) (under t (256 + d) i) refl refl h
    where
      by : (x y z : Bool) → eqb d 0 ≡ x → under t (256 + d) i ≡ z → 1 ≤ cond x 0 (cond y (cond z 1 0) 0 + 0) → (d ≢ 0) × (d < t.domains)
      by true y z e f h = absurd (omega arith)
      by false false z e f h = absurd (omega arith)
      by false true false e f h = absurd (omega arith)
      by false true true e f h =
          let q : 256 + d - 256 ≡ d = omega arith in
          let p : on_path t i d ≡ true = rw (le-ltb (256 + d) 256 (omega arith), q) at f in
          (eqb-false d 0 e, path_real t valid i b d p)

domain_entries_few : (t : Tree) (d : ℕ) (xs : List Step) → domain_entries t d xs ≤ length xs
unfolding domain_entries entries_under
domain_entries_few t d xs = by_test (λ n. n ≤ length xs) (eqb d 0) 0 (entries_under t (256 + d) xs) (λ e. omega arith) (λ e. few xs)
  where
    few : (xs : List Step) → entries_under t (256 + d) xs ≤ length xs
    few [] = omega arith
    few (x ∷ xs) = omega (arith, few xs, by_test (λ n. n ≤ 1) (is_entry x.kind) (cond (under t (256 + d) x.thread) 1 0) 0 (λ e. by_test (λ n. n ≤ 1) (under t (256 + d) x.thread) 1 0 (λ e. omega arith) (λ e. omega arith)) (λ e. omega arith))

tenures_few : (t : Tree) (d : ℕ) (is : List ℕ) (s : State) → domain_tenures t d (steps t is s) ≤ length is
unfolding domain_tenures steps
tenures_few t d [] s = omega arith
tenures_few t d (i ∷ is) s = omega (arith, starts_few t i s d, tenures_few t d is (step t i s).state)

longest_few : (t : Tree) (d : ℕ) (is : List ℕ) (s : State) → longest_tenure t d (steps t is s) ≤ max 1 (t.threshold d)
unfolding longest_tenure steps
longest_few t d [] s = omega arith
longest_few t d (i ∷ is) s = omega (arith, tenure_length_few t i s d, longest_few t d is (step t i s).state)

-- one step keeps the form if 19 does not refuse it
module _ (t : Tree) (valid : Accepted t) (i : ℕ) (b : i < t.threads) (s : State) (g : good_place t i (place s i) ≡ true) (c : Counters) where
  abbrev after : Counters
  after = counters_after t c (step t i s ∷ [])

  -- a counter stays valid if what is added to it is for a domain of the tree other than the root
  kept : (d v v' : ℕ) → Fits t d v → (((d ≢ 0) × (d < t.domains) → ⊥) → v ≡ 0 → v' ≡ 0) → v' ≤ most_counted → Fits t d v'
  kept d v v' f same low = record { counted = λ y. low; others = λ y. same (is_real t d y) (f.others y) }

  step_keeps_counts : GoodCounts t c → any_above after ≡ false → GoodCounts t after
  unfolding counters_after domain_tenures longest_tenure
  step_keeps_counts f low =
      let na = not_above after low in
      record {
        entries = λ d h. indexed_fact (λ d v. v ≤ most_counted → d < 64 → Fits t d v) (λ d v. v + domain_entries t d (step t i s ∷ [])) c.entries (λ d l h. zero_fits t d)
            (λ d l h. kept d _ _ (f.entries d h) (λ n z. none (domain_entries t d (step t i s ∷ [])) z (λ m. n (entry_real t valid i b s d m))) l) d (na d h).entries h;
        tenures = λ d h. indexed_fact (λ d v. v ≤ most_counted → d < 64 → Fits t d v) (λ d v. v + (starts t d (step t i s) + 0)) c.tenures (λ d l h. zero_fits t d)
            (λ d l h. kept d _ _ (f.tenures d h) (λ n z. none (starts t d (step t i s) + 0) z (λ m. n (starts_real t valid i b s g d (omega arith)))) l) d (na d h).tenures h;
        longest = λ d h. indexed_fact (λ d v. v ≤ most_counted → d < 64 → Fits t d v) (λ d v. max v (max (tenure_length t d (step t i s)) 0)) c.longest (λ d l h. zero_fits t d)
            (λ d l h. kept d _ _ (f.longest d h) (λ n z. none_longest (tenure_length t d (step t i s)) z (λ m. n (tenure_length_real t valid i b s g d m))) l) d (na d h).longest h;
        within = λ d h. indexed_fact (λ d v. d < 64 → v ≤ t.threshold d) (λ d v. max v (max (tenure_length t d (step t i s)) 0)) c.longest (λ d h. omega arith)
            (λ d h. omega (arith, f.within d h, tenure_length_within t valid i b s g d)) d h;
      }
    where
      less_one : (n : ℕ) → (1 ≤ n → ⊥) → n ≡ 0
      less_one zero h = refl
      less_one (suc n) h = absurd (h (omega arith))

      none : {v : ℕ} (n : ℕ) → v ≡ 0 → (1 ≤ n → ⊥) → v + n ≡ 0
      none n z h = omega (arith, less_one n h)

      none_longest : {v : ℕ} (n : ℕ) → v ≡ 0 → (1 ≤ n → ⊥) → max v (max n 0) ≡ 0
      none_longest n z h = omega (arith, less_one n h)

-- the test of 19 after the first entry
pub count_later :
    (t : Tree) (s : LockState) (i : ℕ) (is : List ℕ) (p : ℕ) →
    let x = step t i s.words in
    bad_counter t s (i ∷ is) (suc p) ≡ bad_counter t (lock_state x.state (counters_after t s.counters (x ∷ []))) is p
unfolding bad_counter steps
count_later t s i is p =
    let z : suc p + 1 ≡ suc (p + 1) = omega arith in
    rw z (ap any_above (counters_join t s.counters (step t i s.words ∷ []) (take (p + 1) (steps t is (step t i s.words).state))))

pub count_first : (t : Tree) (s : LockState) (i : ℕ) (is : List ℕ) → bad_counter t s (i ∷ is) 0 ≡ any_above (counters_after t s.counters (step t i s.words ∷ []))
unfolding bad_counter steps
count_first t s i is = refl

pub counters_after_cons :
    (t : Tree) (s : LockState) (i : ℕ) (is : List ℕ) →
    let x = step t i s.words in
    counters_after_run t (i ∷ is) s ≡ counters_after_run t is (lock_state x.state (counters_after t s.counters (x ∷ [])))
unfolding counters_after_run steps
counters_after_cons t s i is = counters_join t s.counters (step t i s.words ∷ []) (steps t is (step t i s.words).state)

module _ (t : Tree) (ok : (tree_refusal t).number ≡ 0) (bits : SixteenBit t) where
  pub one_kept : (i : ℕ) (s : LockState) → i < t.threads → Formed t s.words → good_counts t s.counters ≡ true → any_above (counters_after t s.counters (step t i s.words ∷ [])) ≡ false → good_counts t (counters_after t s.counters (step t i s.words ∷ [])) ≡ true
  one_kept i s b f g low =
      let place_good = ((well_formed_facts t s.words f).places i).used b in
      good_test t _ (step_keeps_counts t (accepted t ok) i b s.words place_good s.counters (good_facts t s.counters g) low)

  run_kept : (is : List ℕ) (s : LockState) → AllThreads t is → Formed t s.words → good_counts t s.counters ≡ true → ((p : ℕ) → p < length is → bad_counter t s is p ≡ false) → good_counts t (counters_after_run t is s) ≡ true
  unfolding AllThreads counters_after_run steps FormLaw
  run_kept [] s all f g low = rw (counters_none t s.counters) g
  run_kept (i ∷ is) s all f g low =
      let x = step t i s.words in
      let first : any_above (counters_after t s.counters (x ∷ [])) ≡ false = rw (count_first t s i is) at (low 0 (omega arith)) in
      let next : LockState = lock_state x.state (counters_after t s.counters (x ∷ [])) in
      rw (counters_after_cons t s i is)
      (run_kept is next all.1 ((form_law t bits ok).of_step i s.words all.0 f) (one_kept i s all.0 f g first)
      (λ p h. rw (count_later t s i is p) at (low (suc p) (omega arith))))

-- fresh counters are 0
pub zeros : (n d : ℕ) → ◌≡◌ {A = ℕ} (get_or (replicate n 0) d 0) 0
zeros n d = replicate_all (λ (x : ℕ). x ≡ 0) n d 0 refl

pub fresh_good : (t : Tree) → good_counts t fresh_counters ≡ true
unfolding fresh_counters
fresh_good t =
    good_test t fresh_counters (record {
      entries = λ d h. rw (zeros 64 d) (zero_fits t d);
      tenures = λ d h. rw (zeros 64 d) (zero_fits t d);
      longest = λ d h. rw (zeros 64 d) (zero_fits t d);
      within = λ d h. rw (zeros 64 d) (omega arith);
    })

pub counter_form_law : CounterFormLaw
unfolding CounterFormLaw
counter_form_law t ok bits = record { of_fresh = fresh_good t; of_run = run_kept t ok bits }

-- 4. ROOM. How large the counters can be after a run
module _ (t : Tree) (bits : SixteenBit t) (c : Counters) (is : List ℕ) (s : State) where
  abbrev left : Counters
  left = counters_after t c (steps t is s)

  pub entries_left : (d : ℕ) → get_or left.entries d 0 ≤ get_or c.entries d 0 + length is
  unfolding counters_after
  entries_left = indexed_fact (λ d v. v ≤ get_or c.entries d 0 + length is) (λ d v. v + domain_entries t d (steps t is s)) c.entries (λ d. omega arith) (λ d. omega (arith, domain_entries_few t d (steps t is s), steps_length t is s))

  pub tenures_left : (d : ℕ) → get_or left.tenures d 0 ≤ get_or c.tenures d 0 + length is
  unfolding counters_after
  tenures_left = indexed_fact (λ d v. v ≤ get_or c.tenures d 0 + length is) (λ d v. v + domain_tenures t d (steps t is s)) c.tenures (λ d. omega arith) (λ d. omega (arith, tenures_few t d is s))

  longest_left : (d : ℕ) → get_or left.longest d 0 ≤ max (get_or c.longest d 0) 65535
  unfolding counters_after
  longest_left = indexed_fact (λ d v. v ≤ max (get_or c.longest d 0) 65535) (λ d v. max v (longest_tenure t d (steps t is s))) c.longest (λ d. omega arith) (λ d. omega (arith, longest_few t d is s, bits d))

  room_stays : (n : ℕ) → RoomLeft c (length is + n) → RoomLeft left n
  room_stays n r =
      record {
        entries = λ d b. omega (arith, entries_left d, r.entries d b);
        tenures = λ d b. omega (arith, tenures_left d, r.tenures d b);
        longest = λ d b. omega (arith, longest_left d, r.longest d b);
      }

take_short : (k : ℕ) (is : List ℕ) → length (take k is) ≤ length is
take_short zero is = omega arith
take_short (suc k) [] = omega arith
take_short (suc k) (i ∷ is) = omega (arith, take_short k is)

pub room_law : RoomLaw
unfolding RoomLaw bad_counter
room_law t bits s is r p h =
    let js = take (p + 1) is in
    let short = take_short (p + 1) is in
    let less : RoomLeft s.counters (length js + 0) = record { entries = λ d b. omega (arith, r.entries d b); tenures = λ d b. omega (arith, r.tenures d b); longest = r.longest } in
    let after = room_stays t bits s.counters js s.words 0 less in
    rw (← steps_take t (p + 1) is s.words)
    (none_above _ (λ d b. record { entries = omega (arith, after.entries d b); tenures = omega (arith, after.tenures d b); longest = after.longest d b }))

pub fresh_room : (n : ℕ) → n ≤ most_counted → RoomLeft fresh_counters n
unfolding fresh_counters
fresh_room n h =
    record {
      entries = λ d b. omega (arith, zeros 64 d);
      tenures = λ d b. omega (arith, zeros 64 d);
      longest = λ d b. omega (arith, zeros 64 d);
    }

pub fresh_room_law : FreshRoomLaw
unfolding FreshRoomLaw counters_after_run RoomLaw
fresh_room_law t bits v is js h p b =
    room_law t bits _ js (room_stays t bits fresh_counters is (fresh_state t v) (length js) (fresh_room (length is + length js) h)) p b
