use Rattle.std.proofs.Common.{◌∙◌}
use Rattle.fixed_bits.specs.Rounded.{magnitude_mode}
use Rattle.fixed_decimal.proofs.ReadingLemmas.{scanned_counted}
use Rattle.fixed_decimal.specs.Inner.Units.{AreUnits, IsCounted}
use Rattle.fixed_numeral.proofs.Public.{magnitude_pos}
use Rattle.fixed_numeral.specs.Spelled.{spelled}
use Rattle.fixed_numeral.specs.Value.{magnitude}
use Rattle.fixed_numeral.specs.declared.radix.Radix.TheVariants.{Dec}
use Rattle.fixed_decimal.proofs.reading.number_of.Goals as goal

pub returns-clause-reading : goal.returns-clause-reading
returns-clause-reading g c p h =
    let counted : IsCounted (spelled 10 c.args.found.now.whole c.args.found.now.fraction 0) c.args.format c.count_of_digits-count.result = rw (c.whole_view.ensures, c.fraction_view.ensures, c.places.ensures.places) at c.count_of_digits-count.ensures.counted in
    let units : AreUnits (magnitude_mode c.args.mode c.neg-negative.result) (magnitude Dec p) c.args.format c.rounded-units.result = rw c.magnitude_mode_of.ensures at (c.rounded-units.ensures (magnitude Dec p) c.args.format (magnitude_pos Dec p) (scanned_counted p c.args.found.now.neg c.args.found.now.whole c.args.found.now.fraction c.args.found.now.bit_shift c.args.format c.count_of_digits-count.result h counted)) in
    c.number_from.ensures.reading c.args.mode p (c.neg-negative.ensures ∙ h.sign) units
