use Rattle.std.proofs.Common.{◌≡◌, ◌∙◌, length, min, take, arith}
use Rattle.std.proofs.lemmas.Grind.{common_steps}
use Rattle.std.proofs.lemmas.List.{take_min}
use Rattle.fixed_pack.proofs.packer.refuse.Goals as goal

pub returns-clause-kept : goal.returns-clause-kept
returns-clause-kept g c =
    let is : c.push_bytes.new.self ≡ take (min 160 (length c.args.line.now)) c.args.line.now = grind (arith, common_steps, c.push_bytes.ensures, c.clear.ensures, c.min.ensures) in
    is ∙ take_min 160 c.args.line.now
