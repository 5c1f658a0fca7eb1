use Rattle.logics.specs.Entailed.{derive_one}
use Rattle.logics.proofs.el.El.derive.Goals as goal

pub returns : goal.returns
returns c =
    derive_one _ c.args.first c.args.second c.args.third c.requires.first c.requires.second c.requires.third c.requires.wide (rw (← c.at-p.ensures.is, ← c.at-q.ensures.is, ← c.at.ensures.is) c.infer.ensures)
