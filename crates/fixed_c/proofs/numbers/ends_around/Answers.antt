use Rattle.std.proofs.Common.{rules, subst, sym, refl, inr, FitsSigned}
use Rattle.std.specs.Int.{w128, w64}
use Rattle.std.proofs.lemmas.Int.{to_z-of_z}
use Rattle.fixed_bits.specs.Formats.{FormatParts}
use Rattle.fixed_enclose.specs.Enclosure.{IsRefusal}
use Rattle.fixed_numeral.specs.declared.error.ParseErrorKind.{ParseErrorKind}
use Rattle.fixed_c.specs.Arguments.{NamesFormat}
use Rattle.fixed_c.specs.Enclose.{IsEnclosedBy}
use Rattle.fixed_c.specs.Numbers.{has_bits}
use Rattle.fixed_c.proofs.numbers.ends_around.Goals as goal

pub returns-in-Ok : goal.returns-in-Ok
returns-in-Ok c =
    let f : FormatParts = c.in_ok-format.format in
    let lo : FitsSigned w128 c.in-Ok.ends.lo = search rules in
    let hi : FitsSigned w128 c.in-Ok.ends.hi = search rules in
    let low : FitsSigned w64 c.bits_for_c.result = search rules in
    let high : FitsSigned w64 c.bits_for_c-in-Ok.result = search rules in
    let low_bits : has_bits f.signed c.bits_for_c.result c.in-Ok.ends.lo = rw (to_z-of_z w128 c.in-Ok.ends.lo lo) at c.bits_for_c.ensures in
    let high_bits : has_bits f.signed c.bits_for_c-in-Ok.result c.in-Ok.ends.hi = rw (to_z-of_z w128 c.in-Ok.ends.hi hi) at c.bits_for_c-in-Ok.ensures in
    let made : IsEnclosedBy c.args.text.now c.args.radix f c.bits_for_c.result c.bits_for_c-in-Ok.result = record {
      format = (subst (λ (h : FormatParts). NamesFormat h) (sym c.in_ok-format.ensures.0) c.in_ok-format.ensures.1);
      the_radix = c.in_ok-radix.radix;
      radix_is = c.in_ok-radix.ensures;
      low = c.in-Ok.ends.lo;
      high = c.in-Ok.ends.hi;
      encloses = c.in-Ok.ensures.pair;
      low_bits = low_bits;
      high_bits = high_bits;
    } in
    rw (to_z-of_z w64 c.bits_for_c.result low, to_z-of_z w64 c.bits_for_c-in-Ok.result high)
    (subst (λ (h : FormatParts). IsEnclosedBy c.args.text.now c.args.radix h c.bits_for_c.result c.bits_for_c-in-Ok.result) c.in_ok-format.ensures.0 made)

pub returns-in-Err : goal.returns-in-Err
returns-in-Err c =
    let f : FormatParts = c.in_ok-format.format in
    let refused : IsRefusal c.in_ok-radix.radix c.args.text.now f c.kind.result = subst (λ (k : ParseErrorKind). IsRefusal c.in_ok-radix.radix c.args.text.now f k) (sym c.kind.ensures) c.in-Err.ensures.refused in
    inr (
      (c.in_ok-radix.radix, c.in_ok-radix.ensures),
      inr (
        c.in_ok-format.ensures.1,
        (
          c.kind.result,
          refl,
          (c.in_ok-radix.radix, c.in_ok-radix.ensures, subst (λ (h : FormatParts). IsRefusal c.in_ok-radix.radix c.args.text.now h c.kind.result) c.in_ok-format.ensures.0 refused),
        ),
      ),
    )
