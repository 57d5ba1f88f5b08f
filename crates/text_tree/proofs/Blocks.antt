-- The domains and threads below a domain are contiguous: what holds of such a block, of a leaf, of a child, and of two consecutive blocks.
use mathlib.Core.Path.{◌≡◌, refl, ◌∙◌, ap}
use mathlib.Core.Bool.{Bool, true, false}
use mathlib.Core.Logic.{◌≢◌, ◌⊎◌, inl, inr, ⊎_elim}
use Prim.Native.Nat.{ℕ, suc, ◌+◌, ◌≤◌, ◌<◌}
use native.Mathlib.Omega.{arith}
use native.Mathlib.Decide.{ℕ_discrete}
use lib.Dec.{ltb}
use borrow.Author.Tests.{ltb-true, ltb-false}

-- a domain is a given number of levels above another
pub data Up (parent : ℕ → ℕ) : (from to steps : ℕ) → Type 0 where
  arrived : {c d : ℕ} → c ≡ d → Up parent c d 0
  step_up : {c d n : ℕ} → 0 < c → Up parent (parent c) d n → Up parent c d (suc n)

up_once_more : {parent : ℕ → ℕ} {x c n : ℕ} (d : ℕ) → Up parent x c n → 0 < c → parent c ≡ d → Up parent x d (suc n)
up_once_more {parent} {x} d (arrived e) h p = step_up {c = x} (omega arith) (arrived (ap parent e ∙ p))
up_once_more d (step_up k u) h p = step_up k (up_once_more d u h p)

-- a thread under a domain
pub record Lives (parent home : ℕ → ℕ) (domain first end levels : ℕ) : Type 0 where
  pub thread : ℕ
  pub from : first ≤ thread
  pub before : thread < end
  pub steps : ℕ
  pub few : steps ≤ levels
  pub up : Up parent (home thread) domain steps

pub record Below (parent : ℕ → ℕ) (domain top levels : ℕ) : Type 0 where
  pub steps : ℕ
  pub few : steps ≤ levels
  pub up : Up parent domain top steps

-- the domains from lo up to hi, excluded, are below d; the threads from i up to j, excluded, have their homes there, none in a domain with a number below base
pub record Block (parent threshold home : ℕ → ℕ) (d base lo hi i j levels : ℕ) : Type 0 where
  pub domains_order : lo ≤ hi
  pub threads_order : i ≤ j
  pub parents_within : (c : ℕ) → lo ≤ c → c < hi → (parent c ≡ d) ⊎ (lo ≤ parent c)
  pub parents_lower : (c : ℕ) → lo ≤ c → c < hi → parent c < c
  pub thresholds_good : (c : ℕ) → lo ≤ c → c < hi → (1 ≤ threshold c) × (threshold c ≤ 65535)
  pub homes_within : (x : ℕ) → i ≤ x → x < j → (base ≤ home x) × (home x < hi)
  pub homes_childless : (x c : ℕ) → i ≤ x → x < j → lo ≤ c → c < hi → parent c ≢ home x
  pub not_deep : (c : ℕ) → lo ≤ c → c < hi → Below parent c d levels
  pub lived : (c : ℕ) → lo ≤ c → c < hi → Lives parent home c i j levels
  pub lived_top : Lives parent home d i j levels

module _ (parent threshold home : ℕ → ℕ) where
  pub leaf_block :
      (d i j levels : ℕ) → i < j → ((x : ℕ) → i ≤ x → x < j → home x ≡ d) → Block parent threshold home d d (d + 1) (d + 1) i j levels
  leaf_block d i j levels some here =
      record {
        domains_order = omega arith;
        threads_order = omega arith;
        parents_within = λ c l h. absurd (omega arith);
        parents_lower = λ c l h. absurd (omega arith);
        thresholds_good = λ c l h. absurd (omega arith);
        homes_within = λ x l h. let e = here x l h in (omega arith, omega arith);
        homes_childless = λ x c l h m k. absurd (omega arith);
        not_deep = λ c l h. absurd (omega arith);
        lived = λ c l h. absurd (omega arith);
        lived_top =
            record { thread = i; from = omega arith; before = some; steps = 0; few = omega arith; up = arrived (here i (omega arith) some) };
      }

  -- the bound on the homes may be lowered to d
  pub inner_block :
      (d lo hi i j levels : ℕ) → d < lo → Block parent threshold home d lo lo hi i j levels → Block parent threshold home d d lo hi i j levels
  inner_block d lo hi i j levels h b =
      record {
        domains_order = b.domains_order;
        threads_order = b.threads_order;
        parents_within = b.parents_within;
        parents_lower = b.parents_lower;
        thresholds_good = b.thresholds_good;
        homes_within = λ x l k. let r = b.homes_within x l k in (omega (arith, r.0), r.1);
        homes_childless = b.homes_childless;
        not_deep = b.not_deep;
        lived = b.lived;
        lived_top = b.lived_top;
      }

  -- a child with everything below it
  module _ (d c0 hi i j levels : ℕ) (b : Block parent threshold home c0 c0 (c0 + 1) hi i j levels) (under : d < c0) (is : parent c0 ≡ d) (good : (1 ≤ threshold c0) × (threshold c0 ≤ 65535)) where
    -- the child itself, or a domain below it
    by_child : {C : Type 0} (c : ℕ) → c0 ≤ c → (c ≡ c0 → C) → (c0 + 1 ≤ c → C) → C
    by_child c l f g = elim (ℕ_discrete c c0) [ yes e ↦ f e | no e ↦ g (omega (arith, e)) ]

    later : (c : ℕ) → Lives parent home c i j levels → Lives parent home c i j (suc levels)
    later c r = record { thread = r.thread; from = r.from; before = r.before; steps = r.steps; few = omega (arith, r.few); up = r.up }

    pub child_block : Block parent threshold home d c0 c0 hi i j (suc levels)
    child_block =
        record {
          domains_order = omega (arith, b.domains_order);
          threads_order = b.threads_order;
          parents_within = λ c l h. by_child c l (λ e. inl (rw e is)) (λ m. inr (⊎_elim (λ e. omega arith) (λ k. omega arith) (b.parents_within c m h)));
          parents_lower = λ c l h. by_child c l (λ e. omega (arith, ap parent e)) (λ m. b.parents_lower c m h);
          thresholds_good = λ c l h. by_child c l (λ e. rw e good) (λ m. b.thresholds_good c m h);
          homes_within = b.homes_within;
          homes_childless = λ x c l h m k.
              by_child c m (λ e q. let r = b.homes_within x l h in omega (arith, r.0, ap parent e)) (λ n. b.homes_childless x c l h n k);
          not_deep = λ c l h.
              by_child c l (λ e. record { steps = 1; few = omega arith; up = step_up (omega arith) (arrived (rw e is)) })
              (λ m. let r = b.not_deep c m h in record { steps = suc r.steps; few = omega (arith, r.few); up = up_once_more d r.up (omega arith) is });
          lived = λ c l h. by_child c l (λ e. rw e (later c0 b.lived_top)) (λ m. later c (b.lived c m h));
          lived_top =
              let r = b.lived_top in
              record {
                thread = r.thread;
                from = r.from;
                before = r.before;
                steps = suc r.steps;
                few = omega (arith, r.few);
                up = up_once_more d r.up (omega arith) is;
              };
        }

  -- two consecutive lists of children
  module _ (d lo mid hi i k j levels : ℕ) (a : Block parent threshold home d lo lo mid i k levels) (b : Block parent threshold home d mid mid hi k j levels) (under : d < lo) where
    by_part : {C : Type 0} (n m : ℕ) → (n < m → C) → (m ≤ n → C) → C
    by_part {C} n m f g = go (ltb n m) refl
      where
        go : (t : Bool) → ltb n m ≡ t → C
        go true e = f (ltb-true n m e)
        go false e = g (ltb-false n m e)

    wider : (c first end : ℕ) → i ≤ first → end ≤ j → Lives parent home c first end levels → Lives parent home c i j levels
    wider c first end l h r =
        record { thread = r.thread; from = omega (arith, r.from); before = omega (arith, r.before); steps = r.steps; few = r.few; up = r.up }

    pub joined_block : Block parent threshold home d lo lo hi i j levels
    joined_block =
        record {
          domains_order = omega (arith, a.domains_order, b.domains_order);
          threads_order = omega (arith, a.threads_order, b.threads_order);
          parents_within = λ c l h.
              by_part c mid (λ m. a.parents_within c l m)
              (λ m. ⊎_elim (λ e. inl e) (λ n. inr (omega (arith, a.domains_order))) (b.parents_within c m h));
          parents_lower = λ c l h. by_part c mid (λ m. a.parents_lower c l m) (λ m. b.parents_lower c m h);
          thresholds_good = λ c l h. by_part c mid (λ m. a.thresholds_good c l m) (λ m. b.thresholds_good c m h);
          homes_within = λ x l h.
              by_part x k (λ m. let r = a.homes_within x l m in (r.0, omega (arith, r.1, b.domains_order)))
              (λ m. let r = b.homes_within x m h in (omega (arith, r.0, a.domains_order), r.1));
          homes_childless = λ x c l h m n e.
              by_part x k
              (λ first. let r = a.homes_within x l first in
              by_part c mid (λ p. a.homes_childless x c l first m p e)
              (λ p. ⊎_elim (λ q. omega (arith, r.0)) (λ q. omega (arith, r.1)) (b.parents_within c p n)))
              (λ second. let r = b.homes_within x second h in
              by_part c mid (λ p. omega (arith, r.0, a.parents_lower c m p)) (λ p. b.homes_childless x c second h p n e));
          not_deep = λ c l h. by_part c mid (λ m. a.not_deep c l m) (λ m. b.not_deep c m h);
          lived = λ c l h.
              by_part c mid (λ m. wider c i k (omega arith) b.threads_order (a.lived c l m))
              (λ m. wider c k j a.threads_order (omega arith) (b.lived c m h));
          lived_top = wider d i k (omega arith) b.threads_order a.lived_top;
        }
