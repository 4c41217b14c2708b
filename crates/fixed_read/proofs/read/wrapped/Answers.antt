use Rattle.std.proofs.Common.{◌≡◌, ◌∙◌, ap, FitsSigned, rules}
use Rattle.std.specs.Int.{w128}
use Rattle.std.proofs.lemmas.Int.{to_z-of_z}
use Rattle.fixed_bits.specs.Numbers.{with_sign}
use Rattle.fixed_bits.proofs.Public.{low_wrapped, type_width}
use Rattle.fixed_read.specs.Reading.{number_in}
use Rattle.fixed_read.proofs.read.wrapped.Goals as goal

pub returns : goal.returns
returns g c v is =
    let number = number_in c.args.found.now in
    let fit : FitsSigned w128 c.signed_number.result = search rules in
    let low : c.signed_number.result ≡ with_sign number.negative number.low = rw c.number-number.ensures at c.signed_number.ensures in
    let same : c.wrap.result ≡ g.I.Inner.wrapped (with_sign number.negative number.low) = c.wrap.ensures ∙ ap g.I.Inner.wrapped (to_z-of_z w128 c.signed_number.result fit ∙ low) in
    low_wrapped (record { signed = g.I.Inner.SIGNED; width = g.I.Inner.BITS; frac = 0 }) number v (type_width g.I.Inner.BITS g.met.I.Inner.width_law) is _ (rw same (g.met.I.Inner.wrap_law (with_sign number.negative number.low)))
