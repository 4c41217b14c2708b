use Rattle.std.proofs.Common.{rules, ◌≡◌, ◌+◌, ◌*◌, ◌^◌, ◌∙◌, ap, sym, pos, to_z, FitsSigned}
use Rattle.std.specs.Int.{w32}
use Rattle.std.proofs.lemmas.Int.{to_z-of_z}
use Rattle.fixed_bits.specs.Rounded.{magnitude_mode}
use Rattle.fixed_decimal.proofs.ReadingLemmas.{short_counted}
use Rattle.fixed_decimal.specs.Inner.Units.{AreUnits, IsCounted}
use Rattle.fixed_numeral.proofs.Public.{magnitude_pos}
use Rattle.fixed_numeral.specs.Value.{magnitude}
use Rattle.fixed_numeral.specs.declared.radix.Radix.TheVariants.{Dec}
use Rattle.fixed_decimal.proofs.reading.number_of_short.Goals as goal

pub returns-clause-reading : goal.returns-clause-reading
returns-clause-reading c p h =
    let fit : FitsSigned w32 c.args.found.exponent = search rules in
    let none : c.args.found.exponent ≡ pos 0 = sym (to_z-of_z w32 c.args.found.exponent fit) ∙ ap (to_z w32) c.if-found-ne0.false in
    let counted : IsCounted (record { num = c.args.found.whole * 10 ^ c.args.found.places + c.args.found.fraction; den = 10 ^ c.args.found.places }) c.args.format c.count_of_few_places-count.result = rw c.places.ensures.places at c.count_of_few_places-count.ensures in
    let units : AreUnits (magnitude_mode c.args.mode c.args.found.negative) (magnitude Dec p) c.args.format c.rounded-units.result = rw c.magnitude_mode_of.ensures at (c.rounded-units.ensures (magnitude Dec p) c.args.format (magnitude_pos Dec p) (short_counted p c.args.found.negative c.args.found.whole c.args.found.fraction c.args.found.places c.args.format c.args.found.exponent c.args.found.scales_by_two c.count_of_few_places-count.result none h counted)) in
    c.number_from.ensures.reading c.args.mode p h.sign units
