use Rattle.std.proofs.Common.{◌≡◌, ◌∙◌, length, min, take, arith}
use Rattle.std.proofs.lemmas.Grind.{common_steps}
use Rattle.std.proofs.lemmas.List.{take_min}
use Rattle.column_engine.proofs.first.first_bytes.Goals as goal

pub returns : goal.returns
returns c =
    let is : c.push_bytes.new.self ≡ take (min 160 (length c.args.bytes.now)) c.args.bytes.now = grind (arith, common_steps, c.push_bytes.ensures, c.new-text.ensures, c.min-count.ensures) in
    is ∙ take_min 160 c.args.bytes.now
