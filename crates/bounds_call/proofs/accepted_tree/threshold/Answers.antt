-- A threshold is the word that the tree reads.
use native.Mathlib.Omega.{arith}
use Rattle.model.proofs.Trees.Reading.{few_domains}
use Rattle.bounds_call.proofs.WaitWords.{threshold_read, threshold_some}
use Rattle.bounds_call.proofs.accepted_tree.threshold.Goals as goal

pub word_at-requires : goal.word_at-requires
word_at-requires c = let few = few_domains _ c.args.tree.now.accepted in omega (arith, c.requires.d_lt_domains)

pub returns : goal.returns
returns c =
    let is = threshold_read _ c.args.tree.now.accepted _ _ c.requires.no_root c.requires.d_lt_domains c.word_at.ensures c.word_at.type_inv in
    record { is = is; some = threshold_some _ c.args.tree.now.accepted _ _ c.requires.no_root c.requires.d_lt_domains is }
