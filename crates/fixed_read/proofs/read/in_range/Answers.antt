use Rattle.std.proofs.Common.{◌↔◌, IsTrue, refl}
use Rattle.fixed_bits.specs.declared.format.Policy.TheVariants.{Wrapping}
use Rattle.fixed_bits.specs.Ranges.{IsInRange, IsOutOfRange}
use Rattle.fixed_bits.proofs.Public.{images_agree, inside, range_decided, type_width}
use Rattle.fixed_read.proofs.read.in_range.Goals as goal

pub returns-then-is_out_of_range-clause-fits : goal.returns-then-is_out_of_range-clause-fits
returns-then-is_out_of_range-clause-fits g c v is =
    let test : IsTrue c.is_out_of_range.result ↔ IsOutOfRange g.I.Inner.SIGNED g.I.Inner.BITS v = rw (c.requires.signed, c.requires.width) at (c.is_out_of_range.ensures.range v is) in
    (λ t. absurd (cc), λ i. absurd ((range_decided g.I.Inner.SIGNED g.I.Inner.BITS v).1 (test.0 c.if-is_out_of_range.true) i))

pub returns-else-is_out_of_range-clause-fits : goal.returns-else-is_out_of_range-clause-fits
returns-else-is_out_of_range-clause-fits g c v is =
    let test : IsTrue c.is_out_of_range.result ↔ IsOutOfRange g.I.Inner.SIGNED g.I.Inner.BITS v = rw (c.requires.signed, c.requires.width) at (c.is_out_of_range.ensures.range v is) in
    (λ t. inside g.I.Inner.SIGNED g.I.Inner.BITS v c.is_out_of_range.result c.if-is_out_of_range.false test, λ i. refl)

pub returns-else-is_out_of_range-clause-number : goal.returns-else-is_out_of_range-clause-number
returns-else-is_out_of_range-clause-number g c v is =
    let test : IsTrue c.is_out_of_range.result ↔ IsOutOfRange g.I.Inner.SIGNED g.I.Inner.BITS v = rw (c.requires.signed, c.requires.width) at (c.is_out_of_range.ensures.range v is) in
    let i : IsInRange g.I.Inner.SIGNED g.I.Inner.BITS v = inside g.I.Inner.SIGNED g.I.Inner.BITS v c.is_out_of_range.result c.if-is_out_of_range.false test in
    (images_agree Wrapping g.I.Inner.SIGNED g.I.Inner.BITS v _ (type_width g.I.Inner.BITS g.met.I.Inner.width_law) (record { low = i.low; high = i.high })).0 (c.wrapped.ensures v is)
