-- The tests with the table of owners together: a state passes them exactly if it is well formed.
use mathlib.Core.Path.{◌≡◌, refl, sym, ap, ◌∙◌}
use mathlib.Core.Bool.{Bool, true, false, ◌&&◌, ◌||◌, not, cond}
use mathlib.Core.List.{List}
use mathlib.Core.Logic.{◌⊎◌, inl, inr, ⊎_elim}
use Prim.Native.Nat.{ℕ, zero, suc, ◌+◌, ◌-◌, ◌≤◌, ◌<◌}
use native.Mathlib.Omega.{arith}
use native.Mathlib.Nat.{add-zero, add-suc}
use native.Mathlib.Decide.{dec_lt}
use lib.Dec.{eqb, ltb}
use lib.ListN.{get_or}
use borrow.Author.Tests.{eq-eqb, ne_eqb, lt-ltb, le-ltb, ltb-true}
use Rattle.model.specs.declared.State.{State}
use Rattle.model.specs.Scans.{all_below}
use Rattle.model.specs.States.{tail, next, status, numbers_at}
use Rattle.model.specs.Trees.{Tree, is_ticket, is_record, owner_domain}
use Rattle.model.specs.WellFormed.{good_tail, good_next, good_status, good_watch, good_thread, good_counters, well_formed}
use Rattle.model.proofs.Places.{idle_numbers}
use Rattle.model.proofs.Trees.Accepted.{Accepted}
use Rattle.model.proofs.Trees.Tickets.{ticket_lower}
use Rattle.model.proofs.Tests.{and_true, and_grouped, all_same, by_test}
use Rattle.refusals.specs.OfRuns.Tables.{Owners, member_in, next_in, record_in, domain_words_in, place_in, root_in, idle_in, thread_in}
use Rattle.refusals.proofs.of_runs.Members.{owner_low, tail_is, record_is}
use Rattle.refusals.proofs.of_runs.PlaceTests.{place_is}

all_both : (n : ℕ) (f g : ℕ → Bool) → all_below n (λ j. f j && g j) ≡ all_below n f && all_below n g
unfolding all_below
all_both zero f g = refl
all_both (suc n) f g = rw (all_both n f g) (regroup (all_below n f) (all_below n g) (f n) (g n))
  where
    regroup : (a b c d : Bool) → (a && b) && (c && d) ≡ (a && c) && (b && d)
    regroup true true c d = refl
    regroup true false true d = refl
    regroup true false false d = refl
    regroup false b c d = refl

-- the numbers below n + k: those below n, and k more
all_split : (n k : ℕ) (f : ℕ → Bool) → all_below (n + k) f ≡ all_below n f && all_below k (λ j. f (n + j))
unfolding all_below
all_split n zero f = rw (add-zero n) (sym (and_true (all_below n f)))
all_split n (suc k) f = rw (add-suc n k, all_split n k f) (sym (and_grouped (all_below n f) (all_below k (λ j. f (n + j))) (f (n + k))))

-- if all except the first pass, the first decides
root_alone : (n : ℕ) (f : ℕ → Bool) → ((j : ℕ) → f (suc j) ≡ true) → all_below (suc n) f ≡ f 0
unfolding all_below
root_alone zero f h = refl
root_alone (suc n) f h = rw (root_alone n f h, h n) (and_true (f 0))

module _ (t : Tree) (valid : Accepted t) (os : List ℕ) (owners : Owners t os) where
  pub owner_home : (i : ℕ) → i < t.threads → get_or os i 0 ≡ t.home i
  unfolding is_record owner_domain
  owner_home i l =
      let few = valid.few_threads in
      owners.owner i (omega arith) ∙ rw (lt-ltb i 256 (omega arith), lt-ltb i t.threads l)

  no_owner : (i : ℕ) → i < 256 → t.threads ≤ i → get_or os i 0 ≡ 255
  unfolding is_record
  no_owner i l h = owners.owner i (omega arith) ∙ rw (lt-ltb i 256 l, le-ltb i t.threads h)

  -- the owner of a domain's record: none for the root and outside the tree, a domain of the tree otherwise
  pub no_record_owner : (d : ℕ) → d < 64 → (d ≡ 0) ⊎ (t.domains ≤ d) → get_or os (256 + d) 0 ≡ 255
  unfolding is_record
  no_record_owner d l e =
      let z : 256 + d - 256 ≡ d = omega arith in
      owners.owner (256 + d) (omega arith)
      ∙ rw (le-ltb (256 + d) 256 (omega arith), z) (none (ltb d t.domains) (eqb d 0) _ (⊎_elim (λ y. inr (eq-eqb d 0 y)) (λ y. inl (le-ltb d t.domains y)) e))
    where
      none : (a b : Bool) (x : ℕ) → (a ≡ false) ⊎ (b ≡ true) → cond (a && not b) x 255 ≡ 255
      none a b x (inl y) = rw y
      none true b x (inr y) = rw y
      none false b x (inr y) = refl

  pub record_owner : (d : ℕ) → 0 < d → d < t.domains → get_or os (256 + d) 0 < t.domains
  unfolding is_record owner_domain
  record_owner d p l =
      let z : 256 + d - 256 ≡ d = omega arith in
      let few = valid.few_domains in
      let low = valid.parent_lower d p l in
      rw (owners.owner (256 + d) (omega arith), le-ltb (256 + d) 256 (omega arith), z, lt-ltb d t.domains l, ne_eqb d 0 (omega arith)) (omega arith)

  -- and no record's owner is outside the tree
  pub no_member : (d r : ℕ) → t.domains ≤ d → d < 64 → member_in os d r ≡ false
  no_member d r h l = by (ltb r 320) refl
    where
      by : (b : Bool) → ltb r 320 ≡ b → b && eqb (get_or os r 0) d ≡ false
      by true e =
          let small = ltb-true r 320 e in
          rw (owners.owner r small) (by_test (λ x. eqb x d ≡ false) (is_record t r) (owner_domain t r) 255 (λ y. ne_eqb _ d (λ q. absurd (omega (arith, owner_low t valid r y)))) (λ y. ne_eqb 255 d (omega arith)))
      by false e = refl

  pub owner_real : (i : ℕ) → i < t.threads → get_or os i 0 < t.domains
  owner_real i l = rw (owner_home i l) (valid.home_real i l)

  module _ (s : State) where
    abbrev place_at : ℕ → Bool
    place_at i =
        let q = numbers_at s.places i in
        cond (ltb i t.threads) (place_in t os s.statuses i (get_or os i 0) q) (idle_in q)

    place_good : (i : ℕ) → place_at i ≡ good_thread t s i
    unfolding good_thread good_watch
    place_good i =
        let q = numbers_at s.places i in
        elim (dec_lt i t.threads) [
          | yes l ↦
              rw (lt-ltb i t.threads l, owner_home i l)
              (place_is t valid os s.statuses owners i l q.row q.domain q.peer q.word)
          | no l ↦ rw (le-ltb i t.threads (omega arith)) (idle_numbers q)
        ]

    abbrev domain_at : ℕ → Bool
    domain_at d = domain_words_in os d (tail s d) (next s (256 + d)) (status s (256 + d))

    abbrev thread_at : ℕ → Bool
    thread_at i = thread_in t os s.statuses i (numbers_at s.places i) (next s i) (status s i)

    abbrev record_at : ℕ → Bool
    record_at r = record_in os r (next s r) (status s r)

    -- the test of a thread is that of its record and of its place
    thread_both : (i : ℕ) → i < 256 → thread_at i ≡ record_at i && place_at i
    unfolding thread_in
    thread_both i small =
        elim (dec_lt i t.threads) [
          | yes l ↦
              let h = owner_real i l in
              rw (lt-ltb i t.threads l, ne_eqb (get_or os i 0) 255 (omega (arith, h, valid.few_domains)))
          | no l ↦
              rw (le-ltb i t.threads (omega arith), no_owner i small (omega arith))
              (swapped (idle_in (numbers_at s.places i)) (eqb (next s i) 0 && eqb (status s i) 0))
        ]
      where
        swapped : (a b : Bool) → a && b ≡ b && a
        swapped true true = refl
        swapped true false = refl
        swapped false true = refl
        swapped false false = refl

    -- no tail at a ticket root
    abbrev root_tail : Bool
    root_tail = not t.ticket_root || eqb (tail s 0) 0

    root_tail_is : not (is_ticket t 0) || eqb (tail s 0) 0 ≡ root_tail
    unfolding is_ticket
    root_tail_is = by t.ticket_root
      where
        by : (b : Bool) → not (b && true) || eqb (tail s 0) 0 ≡ not b || eqb (tail s 0) 0
        by true = refl
        by false = refl

    tails_are : all_below 64 (good_tail t s) ≡ all_below 64 (λ d. next_in os d (tail s d)) && root_tail
    tails_are =
        all_same 64 (good_tail t s) (λ d. next_in os d (tail s d) && (not (is_ticket t d) || eqb (tail s d) 0))
        (λ d l. tail_is t valid os owners s d l)
        ∙ all_both 64 (λ d. next_in os d (tail s d)) (λ d. not (is_ticket t d) || eqb (tail s d) 0)
        ∙ ap (λ b. all_below 64 (λ d. next_in os d (tail s d)) && b) (root_alone 63 (λ d. not (is_ticket t d) || eqb (tail s d) 0) other ∙ root_tail_is)
      where
        other : (d : ℕ) → not (is_ticket t (suc d)) || eqb (tail s (suc d)) 0 ≡ true
        other d = let z = ticket_lower t (suc d) (λ e. omega arith) in rw z

    -- the test of the root's words
    abbrev root_at : Bool
    root_at = root_in t (tail s 0) s.ticket s.grant

    root_is : root_tail && good_counters t s ≡ root_at
    unfolding good_counters
    root_is = by t.ticket_root (eqb (tail s 0) 0) (eqb s.ticket 0 && eqb s.grant 0)
      where
        by : (k a b : Bool) → (not k || a) && (k || b) ≡ cond k a b
        by true true b = refl
        by true false b = refl
        by false a b = refl

    records_are : all_below 320 record_at ≡ all_below 320 (good_next t s) && all_below 320 (good_status t s)
    records_are =
        all_same 320 record_at (λ r. good_next t s r && good_status t s r) (λ r l. record_is t valid os owners s r l)
        ∙ all_both 320 (good_next t s) (good_status t s)

    -- well formed: the root, each domain and each thread
    pub formed_is : well_formed t s ≡ root_at && (all_below 64 domain_at && all_below 256 thread_at)
    unfolding well_formed
    formed_is =
        rw (
          tails_are,
          ← root_is,
          all_both 64 (λ d. next_in os d (tail s d)) (λ d. record_at (256 + d)),
          all_same 256 thread_at (λ i. record_at i && place_at i) thread_both,
          all_both 256 record_at place_at,
          all_same 256 place_at (good_thread t s) (λ i l. place_good i),
        )
        (apart (all_below 64 (λ d. next_in os d (tail s d))) root_tail (all_below 320 (good_next t s)) (all_below 320 (good_status t s))
        (all_below 256 (good_thread t s)) (good_counters t s)
        ∙ ap (λ b. (root_tail && good_counters t s) && b)
        (regroup (all_below 64 (λ d. next_in os d (tail s d))) (all_below 320 (good_next t s)) (all_below 320 (good_status t s))
        (all_below 256 (good_thread t s)) (all_below 256 record_at) (all_below 64 (λ d. record_at (256 + d)))
        (sym records_are ∙ all_split 256 64 record_at)))
      where
        none : (a : Bool) → false ≡ a && false
        none true = refl
        none false = refl

        turned : (a b : Bool) → a && b ≡ b && a
        turned true true = refl
        turned true false = refl
        turned false true = refl
        turned false false = refl

        apart : (a x b c d y : Bool) → ((a && x) && b) && (c && (d && y)) ≡ (x && y) && ((a && b) && (c && d))
        apart false x b c d y = none (x && y)
        apart true false b c d y = refl
        apart true true false c d y = none y
        apart true true true false d y = none y
        apart true true true true d y = turned d y

        before : (a b c d : Bool) → (a && b) && (c && d) ≡ a && ((b && c) && d)
        before true true c d = refl
        before true false c d = refl
        before false b c d = refl

        after : (a d e f : Bool) → a && ((e && f) && d) ≡ (a && f) && (e && d)
        after true d true f = refl
        after true d false true = refl
        after true d false false = refl
        after false d e f = refl

        regroup : (a b c d e f : Bool) → b && c ≡ e && f → (a && b) && (c && d) ≡ (a && f) && (e && d)
        regroup a b c d e f h = before a b c d ∙ ap (λ x. a && (x && d)) h ∙ after a d e f
