use Rattle.std.proofs.Common.{false, ℕ, ◌+◌, ◌*◌, ◌^◌, refl, subst, sym}
use Rattle.std.proofs.lemmas.Nat.{pow_pos}
use Rattle.fixed_bits.specs.LostFractions.{IsLostFraction}
use Rattle.fixed_bits.specs.Rounded.{IsRounded}
use Rattle.fixed_bits.specs.declared.mode.ReadMode.{ReadMode}
use Rattle.fixed_bits.proofs.Public.{magnitude_rounded}
use Rattle.fixed_convert.proofs.rounded.rounded_quotient.Goals as goal

pub returns : goal.returns
returns c =
    let unit : ℕ = 2 ^ c.args.bits in
    let whole : ℕ = c.parts-whole.result.0 in
    let rest : ℕ = c.parts-whole.result.1 in
    let q : ℕ = whole + c.rounding_increment.result in
    let lost = subst (λ (d : ℕ). IsLostFraction c.lost_fraction-lost.result rest d) c.power_of_two.ensures c.lost_fraction-lost.ensures in
    let up = c.rounding_increment.ensures.to whole rest unit (pow_pos c.args.bits) refl lost in
    let own = subst (λ (m : ReadMode). IsRounded m false (whole * unit + rest) unit q) c.magnitude_mode_of.ensures up in
    subst (λ (n : ℕ). IsRounded c.args.mode c.args.negative n unit q) (sym c.parts-whole.ensures.sum) (magnitude_rounded c.args.mode c.args.negative (whole * unit + rest) unit q own)
