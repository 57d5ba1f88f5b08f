-- `journal_call::journals::check_piece` meets its contract: the rest of the journal from this piece on, or from the next one on, decides the answer.
use mathlib.Core.Path.{refl}
use Prim.Native.Nat.{◌≤◌}
use native.Mathlib.Omega.{arith}
use lib.Dec.{lit≤}
use lib.ListN.{length}
use Rattle.journal_call.proofs.Journaling.{fronts_long, lowest_of_front, runs, further, within, differs, stops, turn}
use borrow.Author.Rules.{rules}
use Rattle.journal_call.proofs.journals.check_piece.Goals as goal

pub run_piece-requires : goal.run_piece-requires
run_piece-requires c = let g = c.requires in
    let few : c.read_piece-piece.result.count ≤ 1024 = search rules in
    runs _ _ g.passes _ _ _ g _ _ _ c.read_piece-piece.ensures _ (search rules) (omega (arith, few))

pub returns-in-Some : goal.returns-in-Some
returns-in-Some c = let g = c.requires in
    let room : c.read_piece-piece.result.count ≤ length c.args.buffers.now.codes = search rules in
    let long : c.read_piece-piece.result.count ≤ length c.run_piece.new.codes = search rules in
    let fit = c.read_piece-piece.ensures.kinds_fit in
    record { journal_unchanged = refl; turned = differs _ _ g.passes _ _ _ g _ _ _ c.read_piece-piece.ensures _ _ c.run_piece.ensures.codes_after room _ (lowest_of_front _ _ _ fit long _ c.in-Some.ensures.lowest) (omega (arith, c.in-Some.ensures.inside, fronts_long _ _ _ fit long)) _ c.position_after-place.ensures }

pub returns-in-Some-refused : goal.returns-in-Some-refused
returns-in-Some-refused c = let g = c.requires in
    let room : c.read_piece-piece.result.count ≤ length c.args.buffers.now.codes = search rules in
    let long : c.read_piece-piece.result.count ≤ length c.run_piece.new.codes = search rules in
    let fit = c.read_piece-piece.ensures.kinds_fit in
    record { journal_unchanged = refl; turned = stops _ _ g.passes _ _ _ g _ _ _ c.read_piece-piece.ensures _ _ c.run_piece.ensures.codes_after room _ (lowest_of_front _ _ _ fit long _ c.in_default.ensures.lowest) (omega (arith, fronts_long _ _ _ fit long)) _ c.in-Some-refused.is }

pub returns-in-None : goal.returns-in-None
returns-in-None c = let g = c.requires in
    let room : c.read_piece-piece.result.count ≤ length c.args.buffers.now.codes = search rules in
    let long : c.read_piece-piece.result.count ≤ length c.run_piece.new.codes = search rules in
    let fit = c.read_piece-piece.ensures.kinds_fit in
    let piece = c.read_piece-piece.ensures in
    record {
      journal_unchanged = refl;
      turned = (
        λ more. (further _ _ g.passes _ _ _ g _ _ _ piece c.in-None.is 1024 (lit≤ tt) (search rules) (search rules) more, within _ _ g.passes _ _ _ g _ _ _ piece more),
        turn _ _ g.passes _ _ _ g _ _ _ piece _ _ c.run_piece.ensures.codes_after room _ (lowest_of_front _ _ _ fit long _ c.in_default.ensures.lowest) (omega (arith, fronts_long _ _ _ fit long)) _ c.run_piece.ensures.words_after,
      );
    }
