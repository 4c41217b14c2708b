use Rattle.std.proofs.Common.{◌≡◌, ◌∙◌, ap, FitsSigned, rules}
use Rattle.std.specs.Int.{w128}
use Rattle.std.proofs.lemmas.Int.{to_z-of_z}
use Rattle.fixed_bits.specs.Images.{IsSaturated}
use Rattle.fixed_bits.specs.Numbers.{IsNumber, number_of_image}
use Rattle.fixed_bits.specs.Ranges.{IsInRange}
use Rattle.fixed_bits.specs.declared.format.Policy.TheVariants.{Checked, Saturating, Wrapping}
use Rattle.fixed_bits.proofs.Public.{images_agree, type_width}
use Rattle.fixed_read.proofs.read.saturated.Goals as goal

pub returns : goal.returns
returns g c v is =
    let s = g.I.Inner.SIGNED in
    let n = g.I.Inner.BITS in
    let end = number_of_image c.image.result in
    let number : IsNumber c.number.result v = rw c.number.ensures is in
    let image : IsSaturated s n v end = rw (c.format.ensures, c.requires.signed, c.requires.width) at (c.image.ensures.image v number (λ w. absurd (let e : Saturating ≡ Checked = w.0 in cc))) in
    let inside : IsInRange s n end = rw (c.format.ensures, c.requires.signed, c.requires.width) at c.image.ensures.range in
    let fit : FitsSigned w128 c.number-2.result = search rules in
    let wrapped : c.wrap.result ≡ g.I.Inner.wrapped end = c.wrap.ensures ∙ ap g.I.Inner.wrapped (to_z-of_z w128 c.number-2.result fit ∙ c.number-2.ensures) in
    rw (ap g.I.Inner.number wrapped ∙ (images_agree Wrapping s n end _ (type_width g.I.Inner.BITS g.met.I.Inner.width_law) (record { low = inside.low; high = inside.high })).0 (g.met.I.Inner.wrap_law end)) image
