-- The home is the word that the tree reads.
use native.Mathlib.Omega.{arith}
use Rattle.model.proofs.Trees.Reading.{few_domains}
use Rattle.bounds.specs.Answers.{capped}
use Rattle.bounds_call.proofs.RoundWords.{home_below, thread_word}
use Rattle.bounds_call.proofs.everyone.Rounds.thread.Goals as goal

pub level-level-requires : goal.level-level-requires
level-level-requires c = home_below _ c.args.self.now.members.tree.accepted _ _ c.requires.i_lt_threads c.from-home.ensures

pub bounds-above-home : goal.bounds-above-home
bounds-above-home c = let few = few_domains _ c.args.self.now.members.tree.accepted in
    let low = home_below _ c.args.self.now.members.tree.accepted _ _ c.requires.i_lt_threads c.from-home.ensures in
    omega arith

pub acquire-acquired-requires : goal.acquire-acquired-requires
acquire-acquired-requires c = home_below _ c.args.self.now.members.tree.accepted _ _ c.requires.i_lt_threads c.from-home.ensures

pub returns : goal.returns
unfolding capped
returns c =
    thread_word _ c.args.self.now.members.tree.accepted _ _ _ _ _ _ _ c.requires.i_lt_threads c.from-home.ensures c.level-level.ensures.0 c.args.self.now.members.summed
    c.requires.rounds_above
    c.acquire-acquired.ensures
    c.saturating_add.ensures
