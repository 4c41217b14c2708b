use Rattle.std.proofs.Common.{rules, refl, sym, false, ◌≡◌, ◌≤◌, ◌∙◌}
use Rattle.std.specs.Prelude.{Some, None}
use Rattle.std.specs.Fmt.{formatter_spec, spec_precision}
use Rattle.fixed_bits.specs.declared.mode.ReadMode.TheVariants.{NearestEven}
use Rattle.fixed_write.specs.Texts.{shortest_text}
use Rattle.fixed_write.specs.Places.{rounded_text}
use Rattle.fixed_point.proofs.PrintingLemmas.{styled_bare, styled_bare_places}
use Rattle.fixed_point.proofs.printing.write_number.Goals as goal

pub returns-in-None-clause-styled : goal.returns-in-None-clause-styled
returns-in-None-clause-styled g c =
    let within : c.args.frac ≤ c.args.width = c.if-frac-width.true in
    let none : spec_precision (formatter_spec c.args.f.now) ≡ None = sym c.precision.ensures.value ∙ c.in-None.is in
    rw (styled_bare c.args.f.now (spec_precision (formatter_spec c.args.f.now)) c.args.width c.args.frac c.args.value (shortest_text c.args.value c.args.frac) none within (c.is_bare.ensures.width c.if-is_bare.true) (c.is_bare.ensures.plus c.if-is_bare.true) (c.is_bare.ensures.alternate c.if-is_bare.true) refl) (search (rules, c.write_default.ensures.styled))

pub returns-in-Some-clause-styled : goal.returns-in-Some-clause-styled
returns-in-Some-clause-styled g c =
    let within : c.args.frac ≤ c.args.width = c.if-frac-width.true in
    let some : spec_precision (formatter_spec c.args.f.now) ≡ Some c.in-Some.places = sym c.precision.ensures.value ∙ c.in-Some.is in
    rw (styled_bare_places c.args.f.now (spec_precision (formatter_spec c.args.f.now)) c.in-Some.places c.args.width c.args.frac c.args.value (rounded_text NearestEven 10 false c.in-Some.places c.args.value c.args.frac) some within (c.is_bare.ensures.width c.if-is_bare.true) (c.is_bare.ensures.plus c.if-is_bare.true) (c.is_bare.ensures.alternate c.if-is_bare.true) refl) (search (rules, c.write_places.ensures.styled))
