-- The words of the call for wait bounds, given the words of its tree: owners of records, passes, what the domains above add, and W.
use mathlib.Core.Path.{◌≡◌, refl, sym, ap, ◌∙◌}
use mathlib.Core.Logic.{◌≢◌}
use mathlib.Core.Bool.{Bool, true, false, cond, false≢true}
use mathlib.Core.List.{List}
use Prim.Native.Nat.{ℕ, suc, ◌+◌, ◌*◌, ◌-◌, ◌/◌, ◌≤◌, ◌<◌}
use native.Mathlib.Omega.{arith}
use lib.Dec.{ltb}
use lib.ListN.{get_or, length, set, replicate, length-set}
use lib.Seq.{get_or-set_same, get_or-set_other}
use borrow.Author.Tests.{eq-eqb, ne_eqb, lt-ltb, le-ltb}
use Rattle.model.specs.declared.TreeWords.{TreeWords}
use Rattle.model.specs.Scans.{largest_below}
use Rattle.model.specs.Trees.{Tree, tree_of, is_child, is_leaf, is_member}
use Rattle.model.specs.Refusals.{tree_refusal}
use Rattle.model.proofs.Lists.{same_or, less_or}
use Rattle.model.proofs.Laws.Counters.{zeros}
use Rattle.model.proofs.Trees.Accepted.{Accepted, accepted}
use Rattle.model.proofs.Trees.Records.{Member, a_thread, a_domain, member_facts}
use Rattle.model.proofs.Trees.Allowances.{thread_allowance}
use Rattle.model.proofs.Trees.Reading.{home_read, parent_read, few_domains, few_threads}
use Rattle.refusals.proofs.Reading.{threshold_in}
use Rattle.bounds.specs.StarvationFreedom.Bounds.{members}
use Rattle.bounds.specs.LongestWait.Bounds.{effective_threshold, effective, passes, others_passes, tenures_for_all, member_wait, wait_bound}
use Rattle.bounds.proofs.starvation_freedom.Effective.{effective_accepted}
use Rattle.bounds.proofs.longest_wait.Waits.{above_wait, wait_at}
use Rattle.bounds.specs.Answers.{capped, words_from, wait_word}
use Rattle.bounds_call.specs.Arrays.{Allowed}
use Rattle.bounds_call.specs.Waits.{word_of, added_above, Owned, Counted, Others, Above}
use Rattle.std.specs.Prelude.{Option, None, Some}
use Rattle.refusals.specs.Lowest.{or_end}
use Rattle.bounds_call.proofs.Filling.{capped_small, listed, Filled, filled_none, filled_next, member_word, next_word}
use Rattle.bounds_call.proofs.Capped.{capped_sum, capped_right}
use Rattle.bounds_call.proofs.WaitSums.{few_members}

some_same : (a b : ℕ) → ◌≡◌ {A = Option ℕ} (Some a) (Some b) → a ≡ b
some_same a b e = ap (λ o. or_end o a) e

none_some : (b : ℕ) → ◌≡◌ {A = Option ℕ} None (Some b) → ⊥
none_some b e = false≢true (ap is_some e)
  where
    is_some : Option ℕ → Bool
    is_some None = false
    is_some (Some x) = true

module _ (w : TreeWords) (ok : (tree_refusal (tree_of w)).number ≡ 0) where
  abbrev t : Tree
  t = tree_of w

  valid : Accepted t
  valid = accepted t ok

  -- THRESHOLDS
  pub threshold_read : (d h : ℕ) → 0 < d → d < w.domains → h ≡ get_or w.thresholds d 0 → h < 65536 → h ≡ t.threshold d
  unfolding tree_of
  threshold_read d h p s e f = e ∙ sym (threshold_in w.domains w.threads w.parents w.thresholds w.homes d p s (omega (arith, e)))

  pub threshold_some : (d h : ℕ) → 0 < d → d < w.domains → h ≡ t.threshold d → 0 < h
  unfolding tree_of
  threshold_some d h p s e = let some = valid.threshold_some d p s in omega (arith, e)

  -- OWNERS
  pub owner_thread : (m o : ℕ) → m < w.threads → o ≡ get_or w.homes m 0 → Owned t m (Some o)
  unfolding is_member tree_of
  owner_thread m o s e =
      let b : m < 256 = omega (arith, valid.few_threads) in
      let home = home_read w m s in
      let real = valid.home_real m s in
      let few = few_domains w ok in
      record { owns = λ d h. rw (lt-ltb m 256 b, lt-ltb m w.threads s, e, ← home) refl; within = λ d z. let y = some_same o d z in omega arith }

  pub owner_domain : (m o : ℕ) → 256 < m → m - 256 < w.domains → o ≡ get_or w.parents (m - 256) 0 → Owned t m (Some o)
  unfolding is_member is_child tree_of
  owner_domain m o b s f =
      let up = parent_read w (m - 256) (omega arith) s in
      let low = valid.parent_lower (m - 256) (omega arith) s in
      let few = few_domains w ok in
      record { owns = λ d h. rw (le-ltb m 256 (omega arith), lt-ltb (m - 256) w.domains s, ne_eqb (m - 256) 0 (λ z. absurd (omega arith)), f, ← up) refl; within = λ d z. let y = some_same o d z in omega arith }

  pub owner_nobody : (m : ℕ) → w.threads ≤ m → (256 < m → w.domains ≤ m - 256) → Owned t m None
  unfolding is_member is_child tree_of
  owner_nobody m s n = record { owns = λ d h. nobody d; within = λ d z. absurd (none_some d z) }
    where
      nobody : (d : ℕ) → is_member t d m ≡ false
      nobody d =
          less_or m 256 _
          (λ b. rw (lt-ltb m 256 b, le-ltb m w.threads s))
          (λ b. same_or m 256 _
          (λ z. let some = valid.some_domain in let y : m - 256 ≡ 0 = omega arith in rw (le-ltb m 256 b, y, lt-ltb 0 w.domains some))
          (λ z. rw (le-ltb m 256 b, le-ltb (m - 256) w.domains (n (omega (arith, z))))))

  -- PASSES of a member, from the words
  pub passes_word : (ws : List ℕ) → Allowed (effective t) ws → (x m : ℕ) → x ≡ word_of ws m → (d : ℕ) → d < 64 → is_member t d m ≡ true → x ≡ capped (passes t m)
  unfolding word_of passes effective tree_of
  passes_word ws allowed x m e d h j = e ∙ go m (member_facts t d m j)
    where
      go : (k : ℕ) → Member t d k → word_of ws k ≡ capped (passes t k)
      go k (a_thread i s q) =
          let b : i < 256 = omega (arith, valid.few_threads) in
          rw (lt-ltb i 256 b, thread_allowance (effective t) i b) (sym (capped_small 1 (omega arith)))
      go k (a_domain c p s q) =
          let z : 256 + c - 256 ≡ c = omega arith in
          rw (le-ltb (256 + c) 256 (omega arith), z) (allowed.allowed c p s)

  -- the passes of one more domain: its threshold, as far as it has an effect, times the largest of its members
  pub passes_more :
      (k d : ℕ) (ws : List ℕ) (most h x : ℕ) → d ≡ suc k → 0 < k → d ≤ w.domains → length ws ≡ 64 → Filled (effective t) d ws →
      most
      ≡ cond (is_leaf t k) 1
      (largest_below t.domains (λ c. cond (is_child t k c) (get_or ws c 0) 0)) →
      (counts : List ℕ) (o : ℕ) → Counted t counts → o ≡ t.threshold k → h ≡ cond (ltb 1 (get_or counts k 0)) o 1 → x ≡ capped (h * most) →
      Filled (effective t) k (set ws k x)
  unfolding tree_of effective effective_threshold is_leaf is_child
  passes_more k d ws most h x z p s l filled e counts o counted y f g =
      let few = few_domains w ok in
      let good = effective_accepted t valid in
      let so_far : Filled (effective t) (suc k) ws = rw z at filled in
      let own : h ≡ (effective t).threshold k = f ∙ rw (counted.counted k (omega arith), y) refl in
      let member = e ∙ member_word (effective t) good k ws so_far in
      filled_next (effective t) k ws x so_far (omega arith) (omega arith) (g ∙ rw (own, member) (next_word (effective t) good k ws so_far p (omega arith)))

  pub passes_none : Filled (effective t) w.domains (replicate 64 0)
  unfolding effective tree_of
  passes_none = filled_none (effective t) (few_domains w ok)

  pub passes_all : (d : ℕ) (ws : List ℕ) → d ≡ 1 → Filled (effective t) d ws → Allowed (effective t) ws
  passes_all d ws z filled = record { allowed = λ c p s. filled.done c (omega arith) s }

  -- WHAT THE DOMAINS ABOVE ADD
  added_is : (d : ℕ) → added_above t d ≡ tenures_for_all t d * above_wait t d
  unfolding added_above above_wait
  added_is d = same_or d 0 _ (λ z. rw (eq-eqb d 0 z) (omega arith)) (λ z. rw (ne_eqb d 0 z) refl)

  pub wait_sum : (d m a b r : ℕ) → d < w.domains → a ≡ capped (others_passes t d m) → b ≡ capped (added_above t d) → r ≡ capped (a + b) → r ≡ capped (member_wait t d m)
  unfolding tree_of
  wait_sum d m a b r s e f g =
      rw (g, e, f) (capped_sum (others_passes t d m) (added_above t d) ∙ ap (λ n. capped (others_passes t d m + n)) (added_is d) ∙ ap capped (sym (wait_at t valid d m s)))

  pub above_none : (d : ℕ) → d ≡ 0 → 0 ≡ capped (added_above t d)
  unfolding added_above
  above_none d z = rw (eq-eqb d 0 z) (sym (capped_small 0 (omega arith)))

  pub child_member : (d : ℕ) → 0 < d → d < w.domains → is_member t (t.parent d) (256 + d) ≡ true
  unfolding is_member is_child tree_of
  child_member d p s =
      let z : 256 + d - 256 ≡ d = omega arith in
      rw (le-ltb (256 + d) 256 (omega arith), z, lt-ltb d w.domains s, ne_eqb d 0 (omega arith), eq-eqb (t.parent d) (t.parent d) refl) refl

  pub parent_small : (d p : ℕ) → 0 < d → d < w.domains → p ≡ get_or w.parents d 0 → (p < d) × (p ≡ t.parent d)
  unfolding tree_of
  parent_small d p h s e = let up = parent_read w d h s in let low = valid.parent_lower d h s in (omega arith, e ∙ sym up)

  pub above_some :
      (d p own n h ten r : ℕ) (counts others above : List ℕ) → d ≢ 0 → d < w.domains → p ≡ get_or w.parents d 0 → Counted t counts → Others t others → Above t d above →
      own ≡ capped (get_or others (256 + d) 0 + get_or above p 0) → n ≡ get_or counts d 0 → h ≡ t.threshold d → ten ≡ (n + h - 1) / h →
      r ≡ capped (ten * own) → r ≡ capped (added_above t d)
  unfolding added_above tenures_for_all tree_of
  above_some d p own n h ten r counts others above z s e counted some so_far f a b g k =
      let few = few_domains w ok in
      let up = parent_small d p (omega arith) s e in
      let parent = up.1 in
      let one = some.others (t.parent d) (256 + d) (omega arith) (omega arith) (child_member d (omega arith) s) in
      let two : get_or above p 0 ≡ capped (added_above t (t.parent d)) = rw (← parent) (so_far.above p up.0) in
      let whole : own ≡ capped (member_wait t (t.parent d) (256 + d)) = wait_sum (t.parent d) (256 + d) (get_or others (256 + d) 0) (get_or above p 0) own (omega arith) one two f in
      let tenures : ten ≡ (members t d + t.threshold d - 1) / t.threshold d = g ∙ rw (a, counted.counted d (omega arith), b) refl in
      rw (ne_eqb d 0 z, k, whole, tenures) (capped_right ((members t d + t.threshold d - 1) / t.threshold d) (member_wait t (t.parent d) (256 + d)))

  pub count_few : (d n : ℕ) (counts : List ℕ) → d < 64 → Counted t counts → n ≡ get_or counts d 0 → n ≤ 320
  count_few d n counts h counted e = let c = counted.counted d h in let few = few_members t d in omega arith

  pub above_next : (d n x : ℕ) (above : List ℕ) → n ≡ d + 1 → d < w.domains → Above t d above → x ≡ capped (added_above t d) → Above t n (set above d x)
  above_next d n x above z s so_far e =
      let few = few_domains w ok in
      let long = so_far.room in
      record {
        above = λ c h. same_or c d _ (λ y. rw y (get_or-set_same above d x 0 (omega arith) ∙ e)) (λ y. get_or-set_other above d c x 0 y ∙ so_far.above c (omega arith));
        room = length-set above d x ∙ long;
      }

  pub above_all : (n : ℕ) (above : List ℕ) → n ≡ w.domains → Above t n above → Above t w.domains above
  above_all n above e so_far = record { above = λ d h. so_far.above d (omega arith); room = so_far.room }

  -- W OF EACH THREAD
  pub thread_member : (i : ℕ) → i < w.threads → is_member t (t.home i) i ≡ true
  unfolding is_member tree_of
  thread_member i s =
      let few = few_threads w ok in
      rw (lt-ltb i 256 (omega arith), lt-ltb i w.threads s, eq-eqb (t.home i) (t.home i) refl) refl

  pub home_small : (i h : ℕ) → i < w.threads → h ≡ get_or w.homes i 0 → (h < w.domains) × (h ≡ t.home i)
  unfolding tree_of
  home_small i h s e = let home = home_read w i s in let real = valid.home_real i s in (omega arith, e ∙ sym home)

  pub thread_wait :
      (i h x : ℕ) (others above : List ℕ) → i < w.threads → h ≡ get_or w.homes i 0 → Others t others → Above t w.domains above →
      x ≡ capped (get_or others i 0 + get_or above h 0) → x ≡ capped (wait_bound t i)
  unfolding wait_bound
  thread_wait i h x others above s e some so_far g =
      let few = few_threads w ok in
      let small = few_domains w ok in
      let home = home_small i h s e in
      let at = home.1 in
      let one = some.others (t.home i) i (omega arith) (omega arith) (thread_member i s) in
      let two : get_or above h 0 ≡ capped (added_above t (t.home i)) = rw (← at) (so_far.above h home.0) in
      wait_sum (t.home i) i (get_or others i 0) (get_or above h 0) x (omega arith) one two g

  pub record WaitsSoFar (i : ℕ) (waits : List ℕ) : Type 0 where
    pub done : (x : ℕ) → x < i → get_or waits x 0 ≡ capped (wait_bound t x)
    pub rest : (x : ℕ) → i ≤ x → get_or waits x 0 ≡ 0
    pub room : length waits ≡ 256

  pub waits_none : WaitsSoFar 0 (replicate 256 0)
  waits_none = record { done = λ x h. absurd (omega arith); rest = λ x h. zeros 256 x; room = refl }

  pub waits_next : (i n x : ℕ) (waits : List ℕ) → n ≡ i + 1 → i < w.threads → WaitsSoFar i waits → x ≡ capped (wait_bound t i) → WaitsSoFar n (set waits i x)
  waits_next i n x waits z s so_far e =
      let few = few_threads w ok in
      let long = so_far.room in
      record {
        done = λ c h. same_or c i _ (λ y. rw y (get_or-set_same waits i x 0 (omega arith) ∙ e)) (λ y. get_or-set_other waits i c x 0 y ∙ so_far.done c (omega arith));
        rest = λ c h. get_or-set_other waits i c x 0 (omega arith) ∙ so_far.rest c (omega arith);
        room = length-set waits i x ∙ long;
      }

  pub waits_all : (n : ℕ) (waits : List ℕ) → n ≡ w.threads → WaitsSoFar n waits → waits ≡ words_from (wait_word t) 256 0
  unfolding wait_word tree_of
  waits_all n waits z so_far = listed (wait_word t) waits 256 0 so_far.room (λ x h. word x)
    where
      word : (x : ℕ) → get_or waits x 0 ≡ wait_word t (0 + x)
      word x =
          let y : 0 + x ≡ x = omega arith in
          less_or x w.threads _
          (λ s. rw (y, lt-ltb x w.threads s) (so_far.done x (omega arith)))
          (λ s. rw (y, le-ltb x w.threads s) (so_far.rest x (omega arith)))
