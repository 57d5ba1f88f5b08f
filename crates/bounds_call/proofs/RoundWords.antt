-- The words of the call for rounds: levels, the rounds above each domain from its parent's, and those of each thread.
use mathlib.Core.Path.{◌≡◌, refl, sym, ap, ◌∙◌}
use mathlib.Core.Bool.{true, cond}
use mathlib.Core.List.{List}
use mathlib.Core.Logic.{◌≢◌}
use Prim.Native.Nat.{ℕ, ◌+◌, ◌*◌, ◌-◌, ◌/◌, ◌≤◌, ◌<◌}
use native.Mathlib.Omega.{arith}
use lib.Dec.{ltb}
use lib.ListN.{get_or, set, length-set}
use lib.Seq.{get_or-set_same, get_or-set_other}
use borrow.Author.Tests.{eq-eqb, ne_eqb}
use Rattle.model.specs.declared.TreeWords.{TreeWords}
use Rattle.model.specs.Scans.{largest_below}
use Rattle.model.specs.Trees.{Tree, tree_of, is_member, depth, level}
use Rattle.model.specs.Refusals.{tree_refusal}
use Rattle.model.proofs.Lists.{same_or}
use Rattle.model.proofs.Trees.Accepted.{Accepted, accepted}
use Rattle.model.proofs.Trees.Paths.{depth_child, depth_zero}
use Rattle.model.proofs.Trees.Reading.{home_read, parent_read, few_domains, few_threads}
use Rattle.bounds.specs.StarvationFreedom.Bounds.{members, others_passes, effective_threshold, levels, entry_rounds, tenure_length, tenures_for, link_rounds, standing_rounds, acquire_rounds, acquire_bound, release_bound, everyone_bound}
use Rattle.bounds.proofs.starvation_freedom.Quotients.{length_some}
use Rattle.bounds.proofs.starvation_freedom.Bounds.{above_rounds, acquire_at}
use Rattle.bounds.specs.Answers.{capped}
use Rattle.bounds_call.specs.Arrays.{rounds_above, Acquires, RoundsAbove}
use Rattle.bounds_call.specs.Waits.{Counted, Others}
use Rattle.bounds_call.proofs.Filling.{capped_small, capped_largest}
use Rattle.bounds_call.proofs.Capped.{capped_sum, capped_left, capped_front, capped_right}
use Rattle.bounds_call.proofs.WaitWords.{parent_small, count_few, child_member, thread_member}

pub above_all : (t : Tree) (n m : ℕ) (ws : List ℕ) → n ≡ m → RoundsAbove t n ws → RoundsAbove t m ws
above_all t n m ws e so_far = rw (← e) so_far

-- as the definition has it
acquire_defined :
    (t : Tree) → Accepted t → (d m : ℕ) → d < t.domains →
    acquire_rounds t d m
    ≡ 3 + (link_rounds t d + tenures_for t d (members t d) * rounds_above t d + tenures_for t d (members t d - 1) * (5 * level t d) + (2 + levels t) * others_passes t d m)
unfolding rounds_above above_rounds standing_rounds entry_rounds
acquire_defined t valid d m s = acquire_at t valid d m s

-- LEVELS
module _ (w : TreeWords) (ok : (tree_refusal (tree_of w)).number ≡ 0) where
  abbrev t : Tree
  t = tree_of w

  valid : Accepted t
  valid = accepted t ok

  pub parent_below : (d p : ℕ) → 0 < d → d < w.domains → p ≡ get_or w.parents d 0 → p < d
  unfolding tree_of
  parent_below d p h s e = rw (e, ← parent_read w d h s) (valid.parent_lower d h s)

  pub home_below : (i h : ℕ) → i < w.threads → h ≡ get_or w.homes i 0 → h < w.domains
  unfolding tree_of
  home_below i h s e = rw (e, ← home_read w i s) (valid.home_real i s)

  -- one step up the path from d
  pub level_up : (d n x p : ℕ) → 0 < x → x < w.domains → p ≡ get_or w.parents x 0 → n + depth t x ≡ level t d → n + 1 + depth t p ≡ level t d
  unfolding tree_of
  level_up d n x p h s e g =
      let deep = depth_child t valid x h s in
      let same : depth t p ≡ depth t (t.parent x) = ap (depth t) (e ∙ sym (parent_read w x h s)) in
      omega arith

  pub level_few : (d : ℕ) → d < w.domains → level t d ≤ 6
  unfolding tree_of
  level_few d s = valid.flat d s

  pub level_done : (d n x : ℕ) → x ≡ 0 → n + depth t x ≡ level t d → n ≡ level t d
  level_done d n x z e = let top = depth_zero t valid x z in omega arith

  -- THE LENGTH of a domain's tenures
  pub length_root : (d : ℕ) → d < w.domains → d ≡ 0 → (1 ≡ tenure_length t d) × (0 < 1)
  unfolding tenure_length
  length_root d s z = (rw (eq-eqb d 0 z) refl, omega arith)

  pub length_inner :
      (d n h r : ℕ) (counts : List ℕ) → Counted t counts → d ≢ 0 → d < w.domains → h ≡ t.threshold d → n ≡ get_or counts d 0 →
      r ≡ cond (ltb 1 n) h 1 → (r ≡ tenure_length t d) × (0 < r)
  unfolding tenure_length effective_threshold tree_of
  length_inner d n h r counts counted z s e f g =
      let few = few_domains w ok in
      let is : r ≡ tenure_length t d = g ∙ rw (ne_eqb d 0 z, e, f, counted.counted d (omega arith)) refl in
      let some = length_some t valid d s in
      (is, omega arith)

  pub counts_few : (d n : ℕ) (counts : List ℕ) → Counted t counts → d < w.domains → n ≡ get_or counts d 0 - 1 → n ≤ 320
  unfolding tree_of
  counts_few d n counts counted s e = let few = few_domains w ok in let x = count_few w ok d (get_or counts d 0) counts (omega arith) counted refl in omega arith

  -- THE ROUNDS of a member: the steps of the code, each number capped
  pub acquire_word :
      (d deepest above passes here len n all o others link product acquired back released entries standing r : ℕ) (counts : List ℕ) → Counted t counts → d < w.domains →
      deepest ≡ levels t → here ≡ level t d → len ≡ tenure_length t d → n ≡ get_or counts d 0 → all ≡ (n + len - 1) / len → o ≡ get_or counts d 0 - 1 → others ≡ (o + len - 1) / len → link ≡ cond (ltb 1 len) 1 0 →
      product ≡ capped (all * above) → acquired ≡ capped (link + product) → back ≡ capped (others * (5 * here)) → released ≡ capped (acquired + back) →
      entries ≡ capped ((2 + deepest) * passes) → standing ≡ capped (released + entries) → r ≡ capped (3 + standing) → Acquires t d above passes r
  unfolding tree_of tenures_for link_rounds
  acquire_word d deepest above passes here len n all o others link product acquired back released entries standing r counts counted s deep here_is len_is n_is all_is o_is others_is link_is e₁ e₂ e₃ e₄ e₅ e₆ e₇ =
      record { acquires = λ m up under. whole m up under }
    where
      few : d < 64
      few = let x = few_domains w ok in omega arith

      steps :
          (i n a k h l o : ℕ) →
          capped (3 + capped (capped (capped (i + capped (n * capped a)) + capped (k * h)) + capped (l * capped o))) ≡ capped (3 + (i + n * a + k * h + l * o))
      steps i n a k h l o =
          rw
          (capped_right l o, capped_right n a, capped_front i (n * a), capped_sum (i + n * a) (k * h), capped_sum (i + n * a + k * h) (l * o), capped_front 3 (i + n * a + k * h + l * o))
          refl

      whole : (m : ℕ) → above ≡ capped (rounds_above t d) → passes ≡ capped (others_passes t d m) → r ≡ capped (acquire_rounds t d m)
      whole m up under =
          rw (e₇, e₆, e₅, e₄, e₃, e₂, e₁, deep, all_is, others_is, link_is, n_is, o_is, len_is, counted.counted d few, here_is, up, under)
          (steps (link_rounds t d) (tenures_for t d (members t d)) (rounds_above t d) (tenures_for t d (members t d - 1)) (5 * level t d) (2 + levels t) (others_passes t d m)
          ∙ ap capped (sym (acquire_defined t valid d m s)))

  -- THE ROUNDS ABOVE a domain
  pub above_root : (d : ℕ) → d ≡ 0 → 1 ≡ capped (rounds_above t d)
  unfolding rounds_above
  above_root d z = rw (eq-eqb d 0 z) (sym (capped_small 1 (omega arith)))

  pub above_inner :
      (d p r : ℕ) (others above : List ℕ) → d ≢ 0 → d < w.domains → p ≡ get_or w.parents d 0 → Others t others → RoundsAbove t d above →
      Acquires t p (get_or above p 0) (get_or others (256 + d) 0) r → r ≡ capped (rounds_above t d)
  unfolding rounds_above
  above_inner d p r others above n s e some so_far acquired =
      let up = parent_small w ok d p (omega arith) s e in
      let few = few_domains w ok in
      let low = up.0 in
      let parent = up.1 in
      let member : is_member t p (256 + d) ≡ true = rw (← parent) at (child_member w ok d (omega arith) s) in
      rw (ne_eqb d 0 n, ← parent) (acquired.acquires (256 + d) (so_far.above p low) (some.others p (256 + d) (omega arith) (omega arith) member))

  -- one more domain is done
  pub above_next : (d n x : ℕ) (ws : List ℕ) → n ≡ d + 1 → d < w.domains → RoundsAbove t d ws → x ≡ capped (rounds_above t d) → RoundsAbove t n (set ws d x)
  above_next d n x ws z s so_far e =
      let room = so_far.room in
      let few = few_domains w ok in
      record {
        above = λ c h. same_or c d _ (λ y. rw y (get_or-set_same ws d x 0 (omega arith) ∙ e)) (λ y. get_or-set_other ws d c x 0 y ∙ so_far.above c (omega arith));
        room = length-set ws d x ∙ room;
      }

  -- THE ROUNDS of a thread, and of all
  pub thread_word :
      (i h here acquired r : ℕ) (others above : List ℕ) → i < w.threads → h ≡ get_or w.homes i 0 → here ≡ level t h → Others t others →
      RoundsAbove t w.domains above → Acquires t h (get_or above h 0) (get_or others i 0) acquired → r ≡ capped (acquired + 6 * here) →
      r ≡ capped (acquire_bound t i + release_bound t i)
  unfolding acquire_bound release_bound
  thread_word i h here acquired r others above s e g some so_far acquires k =
      let home : h ≡ t.home i = e ∙ sym (home_read w i s) in
      let low = home_below i h s e in
      let few = few_domains w ok in
      let small = few_threads w ok in
      let member : is_member t h i ≡ true = rw (← home) at (thread_member w ok i s) in
      let word = acquires.acquires i (so_far.above h low) (some.others h i (omega arith) (omega arith) member) in
      rw (k, g, word, ← home) (capped_left (acquire_rounds t h i) (6 * level t h))

  pub everyone_word : (r n : ℕ) → n ≡ w.threads → r ≡ largest_below n (λ i. capped (acquire_bound t i + release_bound t i)) → r ≡ capped (everyone_bound t)
  unfolding everyone_bound tree_of
  everyone_word r n z e = rw (e, z) (capped_largest w.threads _ _ (λ i s. refl))
