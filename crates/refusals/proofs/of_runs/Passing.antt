-- A state of an accepted tree: what a failing test implies, and what it means that all pass.
use mathlib.Core.Path.{◌≡◌, refl, sym, ap, ◌∙◌}
use mathlib.Core.Bool.{Bool, true, false, ◌&&◌, false≢true}
use mathlib.Core.Logic.{◌≢◌, ◌⊎◌, inl, inr, ⊎_elim}
use mathlib.Core.List.{List}
use Prim.Native.Nat.{ℕ, ◌+◌, ◌-◌, ◌≤◌, ◌<◌}
use lib.Dec.{eqb}
use native.Mathlib.Omega.{arith}
use native.Mathlib.Decide.{ℕ_discrete, dec_lt}
use lib.ListN.{get_or}
use borrow.Author.Tests.{lt-ltb, le-ltb, eqb-true, eqb-false, ne_eqb}
use Rattle.model.specs.declared.TreeWords.{TreeWords}
use Rattle.model.specs.declared.State.{State}
use Rattle.model.specs.Scans.{all_below}
use Rattle.model.specs.Trees.{Tree, tree_of}
use Rattle.model.specs.WellFormed.{well_formed}
use Rattle.model.specs.Refusals.{tree_refusal}
use Rattle.model.specs.States.{numbers_at}
use Rattle.model.proofs.Tests.{and_both, or_cases, all_each, all_true, and_false}
use Rattle.model.proofs.Trees.Accepted.{Accepted, accepted, leaf_childless}
use Rattle.refusals.specs.OfRuns.Tables.{Owners, member_in, next_in, record_in, domain_words_in, tail_and_next_in, barred_in, root_in, idle_in, resting_row, Rest, of_wait, of_idle, HomesThere, used_in, clear_in, unused_in, thread_in}
use Rattle.refusals.proofs.Reading.{parent_in}
use Rattle.refusals.proofs.TreeTests.{Shape}
use Rattle.refusals.proofs.of_runs.Folds.{zero_there, zeros_there, Clear, clear_facts, zero_record, IdleNumbers, idle_facts, idle_test, both_ways}
use Rattle.refusals.proofs.of_runs.Formed.{owner_home, owner_real, no_record_owner, record_owner, no_member, formed_is}

-- what the tests of a tree show about its words
module _ (w : TreeWords) (z : (tree_refusal (tree_of w)).number ≡ 0) where
  pub parent_of : (d : ℕ) → 0 < d → d < w.domains → (tree_of w).parent d ≡ get_or w.parents d 0
  unfolding tree_of
  parent_of d p l = parent_in w.domains w.threads w.parents w.thresholds w.homes d p l

  pub shape_of : Shape w
  unfolding tree_of
  shape_of =
      let real = accepted (tree_of w) z in
      record {
        some_domain = real.some_domain;
        few_domains = real.few_domains;
        few_threads = real.few_threads;
        low = record { lower = λ d p l. rw (parent_of d p l) at (real.parent_lower d p l) };
      }

module _ (t : Tree) (real : Accepted t) where
  module _ (os : List ℕ) (owned : Owners t os) where
    pub home_real : (i : ℕ) → i < t.threads → get_or os i 0 < t.domains
    home_real i l = owner_real t real os owned i l

    -- if the root is not the only domain, it is no thread's home
    home_inner : (i : ℕ) → i < t.threads → t.domains ≢ 1 → get_or os i 0 ≢ 0
    home_inner i l n z =
        let some = real.some_domain in
        let low = real.parent_lower 1 (omega arith) (omega (arith, n)) in
        let home = sym (owner_home t real os owned i l) ∙ z in
        leaf_childless t (t.home i) 1 (real.home_leaf i l) (omega arith) (omega (arith, n)) (omega (arith, home))

    rest_row : (i : ℕ) → i < t.threads → (r : ℕ) → r ≡ resting_row t → Rest t (get_or os i 0) r
    rest_row i l r e = by t.ticket_root (eqb t.domains 1) refl refl
      where
        wait : barred_in t 4 (get_or os i 0) ≡ false → r ≡ 4 → Rest t (get_or os i 0) r
        wait b z = rw z (of_wait b)

        by : (a b : Bool) → t.ticket_root ≡ a → eqb t.domains 1 ≡ b → Rest t (get_or os i 0) r
        by true true x y =
            let one = eqb-true t.domains 1 y in
            let real_home = home_real i l in
            let z : r ≡ 0 = rw (x, y) at e in
            rw z (of_idle (omega arith))
        by true false x y = wait (rw (ne_eqb (get_or os i 0) 0 (home_inner i l (eqb-false t.domains 1 y)))) (rw (x, y) at e)
        by false b x y = wait (rw x (and_false (eqb (get_or os i 0) 0))) (rw x at e)

    module _ (s : State) where
      abbrev domain_at : ℕ → Bool
      domain_at d = domain_words_in os d (get_or s.tails d 0) (get_or s.nexts (256 + d) 0) (get_or s.statuses (256 + d) 0)

      abbrev linked_at : ℕ → Bool
      linked_at d = tail_and_next_in os d (get_or s.tails d 0) (get_or s.nexts (256 + d) 0)

      abbrev used_at : ℕ → Bool
      used_at i = used_in t os s.statuses i (numbers_at s.places i) (get_or s.nexts i 0)

      abbrev unused_at : ℕ → Bool
      unused_at i = unused_in (numbers_at s.places i) (get_or s.nexts i 0) (get_or s.statuses i 0)

      abbrev thread_at : ℕ → Bool
      thread_at i = thread_in t os s.statuses i (numbers_at s.places i) (get_or s.nexts i 0) (get_or s.statuses i 0)

      abbrev root_at : Bool
      root_at = root_in t (get_or s.tails 0 0) s.ticket s.grant

      used_is : (i : ℕ) → i < t.threads → thread_at i ≡ used_at i
      unfolding thread_in
      used_is i l = rw (lt-ltb i t.threads l)

      unused_is : (i : ℕ) → t.threads ≤ i → thread_at i ≡ unused_at i
      unfolding thread_in
      unused_is i l = rw (le-ltb i t.threads l)

      -- THE PARTS: unused slots, the domains of the tree, its threads
      abbrev parts : Bool
      parts = clear_in t.threads t.domains s && (all_below t.domains linked_at && all_below t.threads used_at)

      module _ (D : (d : ℕ) → d < 64 → domain_at d ≡ true) (T : (i : ℕ) → i < 256 → thread_at i ≡ true) where
        -- the record of the root, and of a number outside the tree
        no_record : (d : ℕ) → d < 64 → (d ≡ 0) ⊎ (t.domains ≤ d) → (get_or s.nexts (256 + d) 0 ≡ 0) × (get_or s.statuses (256 + d) 0 ≡ 0)
        no_record d l e =
            let r = (and_both (next_in os d (get_or s.tails d 0)) (record_in os (256 + d) (get_or s.nexts (256 + d) 0) (get_or s.statuses (256 + d) 0)) (D d l)).1 in
            let b = and_both (eqb (get_or s.nexts (256 + d) 0) 0) (eqb (get_or s.statuses (256 + d) 0) 0) (rw (no_record_owner t real os owned d l e) at r) in
            (eqb-true _ 0 b.0, eqb-true _ 0 b.1)

        no_tail : (d : ℕ) → t.domains ≤ d → d < 64 → get_or s.tails d 0 ≡ 0
        no_tail d h l =
            let r = (and_both (next_in os d (get_or s.tails d 0)) (record_in os (256 + d) (get_or s.nexts (256 + d) 0) (get_or s.statuses (256 + d) 0)) (D d l)).0 in
            ⊎_elim (eqb-true _ 0) (λ y. absurd (false≢true (sym (no_member t real os owned d (get_or s.tails d 0 - 1) h l) ∙ y)))
            (or_cases (eqb (get_or s.tails d 0) 0) (member_in os d (get_or s.tails d 0 - 1)) r)

        unused : (i : ℕ) → t.threads ≤ i → i < 256 → unused_at i ≡ true
        unused i h l = sym (unused_is i h) ∙ T i l

        idle_there : (i : ℕ) → t.threads ≤ i → i < 256 → IdleNumbers s.places i
        idle_there i h l = idle_facts s.places i (and_both (idle_in (numbers_at s.places i)) (eqb (get_or s.nexts i 0) 0 && eqb (get_or s.statuses i 0) 0) (unused i h l)).0

        words_there : (i : ℕ) → t.threads ≤ i → i < 257 → (get_or s.nexts i 0 ≡ 0) × (get_or s.statuses i 0 ≡ 0)
        words_there i h l =
            elim (dec_lt i 256) [
              | yes m ↦
                  let r = (and_both (idle_in (numbers_at s.places i)) (eqb (get_or s.nexts i 0) 0 && eqb (get_or s.statuses i 0) 0) (unused i h m)).1 in
                  let b = and_both (eqb (get_or s.nexts i 0) 0) (eqb (get_or s.statuses i 0) 0) r in
                  (eqb-true _ 0 b.0, eqb-true _ 0 b.1)
              | no m ↦ let z : i ≡ 256 + 0 = omega arith in rw z (no_record 0 (omega arith) (inl refl))
            ]

        beyond : (r : ℕ) → 256 + t.domains ≤ r → r < 320 → (get_or s.nexts r 0 ≡ 0) × (get_or s.statuses r 0 ≡ 0)
        beyond r h l = let z : r ≡ 256 + (r - 256) = omega arith in rw z (no_record (r - 256) (omega arith) (inr (omega arith)))

        linked : (d : ℕ) → d < t.domains → linked_at d ≡ true
        linked d l =
            let few = real.few_domains in
            let b = and_both (next_in os d (get_or s.tails d 0)) (record_in os (256 + d) (get_or s.nexts (256 + d) 0) (get_or s.statuses (256 + d) 0)) (D d (omega arith)) in
            rw b.0 (elim (ℕ_discrete d 0) [
              | yes z ↦ rw (no_record d (omega arith) (inl z)).0
              | no z ↦ let o = record_owner t real os owned d (omega arith) l in rw (ne_eqb (get_or os (256 + d) 0) 255 (omega arith)) at b.1
            ])

        to_parts : parts ≡ true
        to_parts =
            let rows = zeros_there t.threads 256 s.places.rows (λ j h l. (idle_there j h l).row) in
            let domains = zeros_there t.threads 256 s.places.domains (λ j h l. (idle_there j h l).domain) in
            let peers = zeros_there t.threads 256 s.places.peers (λ j h l. (idle_there j h l).peer) in
            let words = zeros_there t.threads 256 s.places.words (λ j h l. (idle_there j h l).word) in
            let tails = zeros_there t.domains 64 s.tails no_tail in
            let nexts = zeros_there t.threads 257 s.nexts (λ j h l. (words_there j h l).0) in
            let statuses = zeros_there t.threads 257 s.statuses (λ j h l. (words_there j h l).1) in
            let nexts_beyond = zeros_there (256 + t.domains) 320 s.nexts (λ j h l. (beyond j h l).0) in
            let statuses_beyond = zeros_there (256 + t.domains) 320 s.statuses (λ j h l. (beyond j h l).1) in
            let few = real.few_threads in
            rw (rows, domains, peers, words, tails, nexts, nexts_beyond, statuses, statuses_beyond, all_true t.domains linked_at linked, all_true t.threads used_at (λ i l. sym (used_is i l) ∙ T i (omega arith)))

      module _ (K : Clear t.threads t.domains s) (L : all_below t.domains linked_at ≡ true) (U : all_below t.threads used_at ≡ true) where
        from_record : (d : ℕ) → d < 64 → (d ≡ 0) ⊎ (t.domains ≤ d) → record_in os (256 + d) (get_or s.nexts (256 + d) 0) (get_or s.statuses (256 + d) 0) ≡ true
        from_record d l e =
            let few = real.few_threads in
            let n : get_or s.nexts (256 + d) 0 ≡ 0 =
            ⊎_elim (λ z. zero_there _ 257 s.nexts K.nexts (256 + d) (omega arith) (omega arith)) (λ h. zero_there _ 320 s.nexts K.nexts_beyond (256 + d) (omega arith) (omega arith)) e in
            let v : get_or s.statuses (256 + d) 0 ≡ 0 =
            ⊎_elim (λ z. zero_there _ 257 s.statuses K.statuses (256 + d) (omega arith) (omega arith)) (λ h. zero_there _ 320 s.statuses K.statuses_beyond (256 + d) (omega arith) (omega arith)) e in
            rw (n, v) (zero_record os (256 + d))

        from_domain : (d : ℕ) → d < 64 → domain_at d ≡ true
        from_domain d l =
            elim (dec_lt d t.domains) [
              | yes h ↦
                  let b = and_both (next_in os d (get_or s.tails d 0)) (next_in os (get_or os (256 + d) 0) (get_or s.nexts (256 + d) 0)) (all_each t.domains linked_at L d h) in
                  rw b.0 (elim (ℕ_discrete d 0) [
                    | yes z ↦ from_record d l (inl z)
                    | no z ↦ let o = record_owner t real os owned d (omega arith) h in let few = real.few_domains in rw (ne_eqb (get_or os (256 + d) 0) 255 (omega arith)) b.1
                  ])
              | no h ↦ rw (zero_there t.domains 64 s.tails K.tails d (omega arith) l) (from_record d l (inr (omega arith)))
            ]

        from_thread : (i : ℕ) → i < 256 → thread_at i ≡ true
        from_thread i l =
            elim (dec_lt i t.threads) [
              | yes h ↦ used_is i h ∙ all_each t.threads used_at U i h
              | no h ↦
                  let m : t.threads ≤ i = omega arith in
                  unused_is i m
                  ∙ rw (
                    idle_test s.places i (zero_there _ 256 _ K.rows i m l) (zero_there _ 256 _ K.domains i m l) (zero_there _ 256 _ K.peers i m l) (zero_there _ 256 _ K.words i m l),
                    zero_there _ 257 s.nexts K.nexts i m (omega arith),
                    zero_there _ 257 s.statuses K.statuses i m (omega arith),
                  )
            ]

      -- a state is well formed exactly if its parts pass
      pub parts_are : well_formed t s ≡ root_at && parts
      parts_are = formed_is t real os owned s ∙ ap (λ b. root_at && b) (both_ways _ parts forth back)
        where
          forth : all_below 64 domain_at && all_below 256 thread_at ≡ true → parts ≡ true
          forth e = let b = and_both (all_below 64 domain_at) (all_below 256 thread_at) e in to_parts (all_each 64 domain_at b.0) (all_each 256 thread_at b.1)

          back : parts ≡ true → all_below 64 domain_at && all_below 256 thread_at ≡ true
          back e =
              let b = and_both (clear_in t.threads t.domains s) (all_below t.domains linked_at && all_below t.threads used_at) e in
              let c = and_both (all_below t.domains linked_at) (all_below t.threads used_at) b.1 in
              let k = clear_facts t.threads t.domains s b.0 in
              rw (all_true 64 domain_at (from_domain k c.0 c.1), all_true 256 thread_at (from_thread k c.0 c.1))

-- every thread's home is a domain, and it may rest there
pub homes_there : (w : TreeWords) → (tree_refusal (tree_of w)).number ≡ 0 → (os : List ℕ) → Owners (tree_of w) os → HomesThere w os
unfolding tree_of
homes_there w z os owned =
    let real = accepted (tree_of w) z in
    record { few = real.few_threads; home = home_real (tree_of w) real os owned; rest = λ i l. rest_row (tree_of w) real os owned i l _ refl }
