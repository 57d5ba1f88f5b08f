-- The threads so far are counted.
use mathlib.Core.Path.{◌≡◌, refl, sym, ◌∙◌}
use mathlib.Core.Bool.{true, false}
use lib.Dec.{eqb}
use lib.ListN.{get_or}
use Prim.Native.Nat.{ℕ}
use Rattle.std.specs.Prelude.{Option, None, Some}
use Rattle.std.specs.Option.{option_eq}
use Rattle.chain_call.specs.Tables.{has_key}
use Rattle.chain_call.proofs.Counting.{count_first, count_next}
use Rattle.chain_call.proofs.links.only_with.Goals.{then-eq, else-eq}
use Rattle.chain_call.proofs.links.only_with.Goals as goal

same_key : (o : Option ℕ) (k : ℕ) → option_eq eqb o (Some k) ≡ has_key o k
same_key None k = refl
same_key (Some x) k = refl

pub loop-j-init : goal.loop-j-init
loop-j-init c = count_first _

pub loop-j-preserved : goal.loop-j-preserved
loop-j-preserved c =
    let test : c.eq.result ≡ has_key (get_or c.args.keys.now c.loop-j.j None) c.args.key = (rw c.from.ensures at c.eq.ensures) ∙ same_key (get_or c.args.keys.now c.loop-j.j None) c.args.key in
    elim c.if-eq.branch [
      | then-eq w ↦ let hit : has_key (get_or c.args.keys.now c.loop-j.j None) c.args.key ≡ true = sym test ∙ w.if-eq.true in count_next _ _ _ (w.count-is ∙ w.more-count.ensures ∙ rw (hit, c.loop-j.invariant) refl)
      | else-eq w ↦ let miss : has_key (get_or c.args.keys.now c.loop-j.j None) c.args.key ≡ false = sym test ∙ w.if-eq.false in count_next _ _ _ (w.count-is ∙ rw (miss, c.loop-j.invariant) refl)
    ]
