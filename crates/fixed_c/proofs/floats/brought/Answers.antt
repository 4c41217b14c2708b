use Rattle.std.proofs.Common.{rules, ◌≡◌, inl, inr, refl, subst, FitsSigned, IsOk}
use Rattle.std.specs.Int.{w128}
use Rattle.std.proofs.lemmas.Int.{to_z-of_z}
use Rattle.fixed_bits.specs.Formats.{FormatParts}
use Rattle.fixed_float.specs.Floats.{IsFloatReading}
use Rattle.fixed_numeral.specs.declared.error.ParseErrorKind.TheVariants.{Overflow}
use Rattle.fixed_c.specs.Arguments.{NamesFormat}
use Rattle.fixed_c.specs.Numbers.{has_bits}
use Rattle.fixed_c.proofs.FloatLemmas.{float_out, float_read, not_ok}
use Rattle.fixed_c.proofs.floats.brought.Goals as goal

pub returns-in-Err : goal.returns-in-Err
returns-in-Err c layout float mode finite reading = inl (λ f. not_ok c.args.found c.in-Err.field-0 c.in-Err.is (finite.1 f), refl)

pub returns-in-Some : goal.returns-in-Some
returns-in-Some c layout float mode finite reading =
    let is : IsFloatReading mode layout float c.in-Ok.found = rw c.in-Ok.is at reading in
    let same : c.in-Ok.found.format ≡ c.args.format = rw c.in-Ok.is at c.requires.format in
    let ok : IsOk c.args.found = rw c.in-Ok.is refl in
    let named : NamesFormat c.args.format = subst (λ (g : FormatParts). NamesFormat g) same c.is_out_of_range_by.ensures.valid in
    let image : FitsSigned w128 c.in-Some.number = search rules in
    let are : has_bits c.args.format.signed c.number_for_c.result.bits c.in-Some.number = rw (to_z-of_z w128 c.in-Some.number image) at c.number_for_c.ensures.bits in
    float_read layout float c.args.format c.args.policy mode c.in-Ok.found is same c.number_for_c.result c.in-Some.number c.is_out_of_range_by.result named (finite.0 ok) c.in-Some.ensures.image c.is_out_of_range_by.ensures.range are c.number_for_c.ensures.flag

pub returns-in-None : goal.returns-in-None
returns-in-None c layout float mode finite reading =
    let is : IsFloatReading mode layout float c.in-Ok.found = rw c.in-Ok.is at reading in
    let same : c.in-Ok.found.format ≡ c.args.format = rw c.in-Ok.is at c.requires.format in
    let ok : IsOk c.args.found = rw c.in-Ok.is refl in
    inr (finite.0 ok, (Overflow, refl, (refl, float_out layout float c.args.format c.args.policy mode c.in-Ok.found is same (λ v holds. (c.in-None.ensures.none v holds).0 refl))))
