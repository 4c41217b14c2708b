use Rattle.std.proofs.Common.{rules, arith, sym, ◌∙◌, ◌≡◌, ◌+◌, ◌-◌, ◌≤◌, ◌++◌, [], pos, false, Some}
use Rattle.std.specs.Prelude.{unsigned_abs}
use Rattle.std.specs.Fmt.{formatter_spec, sign_text, spec_precision}
use Rattle.std.specs.Int.{is_negative}
use Rattle.fixed_bits.specs.declared.mode.ReadMode.TheVariants.{NearestEven}
use Rattle.fixed_write.specs.Texts.{shortest_text}
use Rattle.fixed_write.specs.Places.{rounded_text}
use Rattle.fixed_point.specs.Texts.{shown_text}
use Rattle.fixed_point.proofs.PrintingLemmas.{shown_magnitude, styled_long, writes_plain}
use Rattle.fixed_point.proofs.printing.write_styled.Goals as goal

pub returns-in-None-clause-writes : goal.returns-in-None-clause-writes
returns-in-None-clause-writes g c =
    let within : c.args.frac ≤ c.args.width = c.if-frac-width.false in
    let shown : c.as_ascii_str-in-None.result.now ≡ shortest_text (pos (unsigned_abs c.args.value)) c.args.frac = search (rules, c.as_ascii_str-in-None.ensures.value, c.push_default.ensures.text) in
    let all : shown_text c.args.width c.args.frac c.args.value ≡ sign_text (is_negative c.args.value) ++ c.as_ascii_str-in-None.result.now = shown_magnitude c.args.width c.args.frac c.args.value c.as_ascii_str-in-None.result.now within shown in
    rw all (writes_plain g.W.Write.write_str_gives c.args.f.now c.pad_integral.new.self c.pad_integral.result (is_negative c.args.value) [] c.as_ascii_str-in-None.result.now (search (rules, c.pad_integral.ensures.styled)))

pub returns-else-places-le64-clause-styled : goal.returns-else-places-le64-clause-styled
returns-else-places-le64-clause-styled g c =
    let within : c.args.frac ≤ c.args.width = c.if-frac-width.false in
    let some : spec_precision (formatter_spec c.args.f.now) ≡ Some c.in-Some.places = sym c.precision.ensures.value ∙ c.in-Some.is in
    let many : c.in-Some.places ≡ 64 + (c.in-Some.places - 64) = omega arith in
    let few : c.args.frac ≤ 64 = omega arith in
    let places : c.min.result ≡ 64 = omega (arith, c.min.ensures, c.if-places-le64.false) in
    let cut : c.as_ascii_str-else-places-le64.result.now ≡ rounded_text NearestEven 10 false c.min.result (pos (unsigned_abs c.args.value)) c.args.frac = search (rules, c.as_ascii_str-else-places-le64.ensures.value, c.push_decimal.ensures.appended) in
    let shown : c.as_ascii_str-else-places-le64.result.now ≡ rounded_text NearestEven 10 false 64 (pos (unsigned_abs c.args.value)) c.args.frac = rw places at cut in
    rw (styled_long c.args.f.now (spec_precision (formatter_spec c.args.f.now)) c.in-Some.places (c.in-Some.places - 64) c.args.width c.args.frac c.args.value c.as_ascii_str-else-places-le64.result.now some many within few shown) (search (rules, c.write_with_zeros.ensures.styled))
