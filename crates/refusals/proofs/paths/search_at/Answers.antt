-- `refusals::paths::search_at` meets its contract: at each turn of the loop, the search from the domain reached gives the result of the whole.
use mathlib.Core.Path.{◌≡◌, refl, sym, ◌∙◌}
use Prim.Native.Nat.{◌+◌, ◌-◌, ◌≤◌, ◌<◌}
use native.Mathlib.Omega.{arith}
use Rattle.refusals.proofs.paths.Children.{search_root, search_hit, search_up, search_end}
use borrow.Author.Rules.{rules}
use Rattle.refusals.proofs.paths.search_at.Goals as goal

pub loop-looked-init : goal.loop-looked-init
loop-looked-init c = (search rules, search rules, refl)

pub loop-looked-preserved : goal.loop-looked-preserved
loop-looked-preserved c = let low = c.requires.lower.lower c.loop-looked.c (omega arith) c.loop-looked.invariant.1 in
    let z : 0 < 6 - c.loop-looked.looked = omega arith in
    let m : 6 - c.loop-looked.looked - 1 ≡ 6 - (c.loop-looked.looked + 1) = omega arith in
    (omega arith, omega arith, rw (← m) (sym (search_up _ _ _ _ _ _ z c.if-c-eq0.false c.loop-looked.invariant.1 c.if-parent-l.false) ∙ c.loop-looked.invariant.2))

pub returns-then-looked-eq6 : goal.returns-then-looked-eq6
returns-then-looked-eq6 c = let z : 6 - c.loop-looked.looked ≤ 0 = omega arith in
    record { value = sym (search_end _ _ _ _ _ z) ∙ c.loop-looked.invariant.2; child_bound = omega arith }

pub returns-then-c-eq0 : goal.returns-then-c-eq0
returns-then-c-eq0 c = let z : 0 < 6 - c.loop-looked.looked = omega arith in
    record { value = sym (search_root _ _ _ _ _ z c.if-c-eq0.true) ∙ c.loop-looked.invariant.2; child_bound = omega arith }

pub returns-then-parent-l : goal.returns-then-parent-l
returns-then-parent-l c = let z : 0 < 6 - c.loop-looked.looked = omega arith in
    record { value = sym (search_hit _ _ _ _ _ _ z c.if-c-eq0.false c.loop-looked.invariant.1 c.if-parent-l.true) ∙ c.loop-looked.invariant.2; child_bound = omega arith }
