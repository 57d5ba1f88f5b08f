-- `refusals::counted_tree` meets its contract: its tests are 4 and 5, in order.
use Rattle.std.proofs.Common.{◌≡◌, ℕ, ◌≤◌, Bool, true, false, ◌||◌, eqb, ltb, refl, sym, arith}
use Rattle.std.proofs.lemmas.Grind.{common_steps}
use borrow.Author.Tests.{ne_eqb, le-ltb, eqb-false, ltb-false}
use Rattle.model.specs.Trees.{tree_of}
use Rattle.model.specs.Refusals.{bad_domains, bad_threads}
use Rattle.refusals.proofs.TreeTests.{domains_refused, threads_refused, counts_pass}
use Rattle.refusals.proofs.counted_tree.Goals as goal

outside : (n k : ℕ) → (1 ≤ n → n ≤ k → ⊥) → (eqb n 0 || ltb k n) ≡ true
outside n k h = by (eqb n 0) refl (ltb k n) refl
  where
    by : (a : Bool) → eqb n 0 ≡ a → (b : Bool) → ltb k n ≡ b → (a || b) ≡ true
    by true e b f = refl
    by false e true f = refl
    by false e false f = let some = eqb-false n 0 e in absurd (h (omega arith) (ltb-false k n f))

inside : (n k : ℕ) → 1 ≤ n → n ≤ k → (eqb n 0 || ltb k n) ≡ false
inside n k some few = rw (ne_eqb n 0 (omega arith), le-ltb k n few)

pub returns-then-not-contains-clause-refused : goal.returns-then-not-contains-clause-refused
unfolding bad_domains tree_of
returns-then-not-contains-clause-refused c = let w = c.args.tree.now in
    rw c.at.ensures (sym (domains_refused w (outside w.domains 64 (λ some few. grind (arith, common_steps)))))

pub returns-then-not-contains-2-clause-refused : goal.returns-then-not-contains-2-clause-refused
unfolding bad_domains bad_threads tree_of
returns-then-not-contains-2-clause-refused c = let w = c.args.tree.now in
    rw c.at-then-not-contains-2.ensures (sym (threads_refused w (inside w.domains 64 (grind (arith, common_steps)) (grind (arith, common_steps))) (outside w.threads 256 (λ some few. grind (arith, common_steps)))))

pub returns-clause-refused : goal.returns-clause-refused
unfolding bad_domains bad_threads tree_of
returns-clause-refused c = let w = c.args.tree.now in
    sym (counts_pass w (inside w.domains 64 (grind (arith, common_steps)) (grind (arith, common_steps))) (inside w.threads 256 (grind (arith, common_steps)) (grind (arith, common_steps))))
