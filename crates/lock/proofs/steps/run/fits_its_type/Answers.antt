-- `lock::steps::run::fits_its_type` meets its contract: a state that is passed by value fits its type.
use Rattle.lock.proofs.steps.Typing.{typed}
use Rattle.lock.proofs.steps.run.fits_its_type.Goals as goal

pub returns : goal.returns
returns c = let g = c.well_formed.0.1.1.0.1.1 in
    let q = g.1.1.1.0.1.1 in
    typed c.args.state.words _ _ _ _ _ _ _ _ _ g.0 g.1.0 g.1.1.0 q.0 q.1.0 q.1.1.0 q.1.1.1.0 g.1.1.1.1.0 g.1.1.1.1.1.0
