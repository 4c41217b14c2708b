use Rattle.std.proofs.Common.{FitsSigned, rules, ℤ, true, w32, to_z, of_z, subst, ◌∙◌}
use Rattle.std.specs.Int.{w128}
use Rattle.std.proofs.lemmas.Int.{to_z-of_z}
use Rattle.fixed_bits.specs.Ranges.{IsInRange}
use Rattle.fixed_uses.proofs.SavedLemmas.{saved_text}
use Rattle.fixed_uses.proofs.saved.saved.Goals as goal

pub returns : goal.returns
returns c =
    let fits : FitsSigned w32 c.to_bits.result = search rules in
    let wide : FitsSigned w128 c.value.result = search rules in
    let value = to_z-of_z w128 c.value.result wide in
    let same = to_z-of_z w32 c.to_bits.result fits ∙ c.to_bits.ensures in
    saved_text c.plain_text_reads_back.ensures c.args.number (to_z w128 (of_z w128 c.value.result)) c.plain.result (value ∙ c.value.ensures.number ∙ same) c.plain.ensures
    (subst (λ (z : ℤ). IsInRange true 32 z) same c.value.ensures.range) c.to_text.result c.to_text.ensures
