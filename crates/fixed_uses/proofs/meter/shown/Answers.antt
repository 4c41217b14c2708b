use Rattle.std.proofs.Common.{FitsSigned, rules, w64, ◌∙◌}
use Rattle.std.specs.Int.{w128}
use Rattle.std.proofs.lemmas.Int.{to_z-of_z}
use Rattle.fixed_uses.proofs.MeterLemmas.{shows_after}
use Rattle.fixed_uses.proofs.meter.shown.Goals as goal

pub returns : goal.returns
returns c =
    let fits : FitsSigned w64 c.to_bits.result = search rules in
    let wide : FitsSigned w128 c.value.result = search rules in
    shows_after c.args.reading c.new-text.result c.push_decimal.new.out c.push_decimal.ensures.rounded c.push_decimal.ensures.appended c.new-text.ensures
    (to_z-of_z w128 c.value.result wide ∙ c.value.ensures.number ∙ to_z-of_z w64 c.to_bits.result fits ∙ c.to_bits.ensures)
