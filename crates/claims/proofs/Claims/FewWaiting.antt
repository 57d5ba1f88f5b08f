-- No queue has more than 256 members: the members of a leaf are threads, those of any other domain are child domains.
use mathlib.Core.Path.{◌≡◌, refl, sym, ap, ◌∙◌}
use mathlib.Core.Bool.{Bool, true, false, false≢true}
use mathlib.Core.List.{List}
use Prim.Native.Nat.{ℕ, zero, suc, ◌-◌, ◌≤◌, ◌<◌}
use native.Mathlib.Omega.{arith}
use lib.ListN.{length}
use Rattle.model.specs.Trees.{Tree, is_leaf}
use Rattle.claims.specs.Reached.{FewWaitingLaw}
use Rattle.model.proofs.Trees.Accepted.{Accepted, accepted, leaf_childless}
use Rattle.model.proofs.Trees.Records.{Member, a_thread, a_domain, member_facts}
use Rattle.model.proofs.Lists.{count, same_or}
use Rattle.claims.proofs.Words.Tickets.{total, total_length, list_short}
use Rattle.claims.proofs.Claims.Bounded.{same_count}

-- a list of numbers from 256 on, none twice
total_later : (n : ℕ) (q : List ℕ) → ((a : ℕ) → 1 ≤ count a q → 256 ≤ a) → ((a : ℕ) → count a q ≤ 1) → total n q ≤ n - 256
unfolding total
total_later zero q h o = omega arith
total_later (suc n) q h o =
    same_or (count n q) 0 _ (λ e. omega (arith, total_later n q h o)) (λ e. omega (arith, total_later n q h o, o n, h n (omega arith)))

module _ (t : Tree) (valid : Accepted t) (d : ℕ) where
  -- a leaf has no child domain, and any other domain is no thread's home
  of_a_leaf : (m : ℕ) → is_leaf t d ≡ true → Member t d m → m < 256
  of_a_leaf m e (a_thread i s q) = omega (arith, valid.few_threads)
  of_a_leaf m e (a_domain c p s q) = absurd (leaf_childless t d c e p s q)

  of_no_leaf : (m : ℕ) → is_leaf t d ≡ false → Member t d m → (256 ≤ m) × (m < 320)
  of_no_leaf m e (a_thread i s q) = absurd (false≢true (sym e ∙ ap (is_leaf t) (sym q) ∙ valid.home_leaf i s))
  of_no_leaf m e (a_domain c p s q) = (omega arith, omega (arith, valid.few_domains))

  few : (q : List ℕ) → ((m : ℕ) → 1 ≤ count m q → Member t d m) → ((m : ℕ) → count m q ≤ 1) → (b : Bool) → is_leaf t d ≡ b → length q ≤ 256
  few q h o true e = list_short 256 q (λ a c. of_a_leaf a e (h a c)) o
  few q h o false e =
      let whole = total_length 320 q (λ a c. (of_no_leaf a e (h a c)).1) in
      let later = total_later 320 q (λ a c. (of_no_leaf a e (h a c)).0) o in
      omega (arith, whole, later)

pub few_waiting_law : FewWaitingLaw
unfolding FewWaitingLaw
few_waiting_law t ok f S s x d =
    few t (accepted t ok) d (x.queue d) (λ m c. member_facts t d m (x.members d m (omega (arith, c, same_count m (x.queue d)))))
    (λ m. omega (arith, x.once d m, same_count m (x.queue d))) (is_leaf t d) refl
