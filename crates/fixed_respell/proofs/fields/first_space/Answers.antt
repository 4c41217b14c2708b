use Rattle.std.proofs.Common.{refl}
use Rattle.fixed_respell.proofs.MaskLemmas.{first_space}
use Rattle.fixed_respell.proofs.fields.first_space.Goals as goal

pub returns : goal.returns
returns c = first_space c.args.line.now c.args.spaces _ _ c.requires.has c.requires.some refl refl
