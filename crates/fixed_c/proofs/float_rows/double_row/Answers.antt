use Rattle.std.proofs.Common.{rules, inl, refl, sym, subst, FitsSigned}
use Rattle.std.specs.Int.{w64}
use Rattle.std.proofs.lemmas.Int.{to_z-of_z}
use Rattle.std.specs.Prelude.{slice_index}
use Rattle.fixed_float.specs.declared.layout.FloatLayout.TheVariants.{Binary64}
use Rattle.fixed_c.specs.Inner.Floats.{IsFloatReadAsAsked}
use Rattle.fixed_c.specs.declared.number.FixedNumber.{FixedNumber}
use Rattle.fixed_c.proofs.KeptLemmas.{kept_read}
use Rattle.fixed_c.proofs.float_rows.double_row.Goals as goal

pub returns-in-Some : goal.returns-in-Some
returns-in-Some c =
    let float = slice_index c.args.floats.now c.args.i in
    let fits : FitsSigned w64 c.in-Some.bits = search rules in
    inl (refl, subst (λ (n : FixedNumber). IsFloatReadAsAsked Binary64 float c.args.asked.now n) (sym c.in_range.ensures) (rw (to_z-of_z w64 c.in-Some.bits fits) (kept_read Binary64 float c.args.asked.now c.in-Some.bits c.short_binary64-short.result c.short_binary64-short.ensures.number c.in-Some.ensures)))
