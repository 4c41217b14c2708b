use Rattle.std.proofs.Common.{rules, ◌≡◌, ◌∙◌, IsOk, FitsSigned, ap, refl, subst}
use Rattle.std.specs.Int.{w128}
use Rattle.std.proofs.lemmas.Int.{to_z-of_z}
use Rattle.fixed_bits.specs.Formats.{FormatParts}
use Rattle.fixed_bits.specs.Numbers.{with_sign}
use Rattle.fixed_bits.specs.Ranges.{IsWidth}
use Rattle.fixed_command.specs.Hex.{word_of}
use Rattle.fixed_float.specs.Floats.{IsFloatReading}
use Rattle.fixed_read.specs.Reading.{number_in}
use Rattle.fixed_pack.proofs.FloatLemmas.{are_left, float_bits, float_left, float_out, low_in_range, not_ok}
use Rattle.fixed_pack.proofs.float_words.brought.Goals as goal

pub returns-in-Err : goal.returns-in-Err
returns-in-Err c float finite reading = λ f. not_ok c.args.found c.in-Err.field-0 c.in-Err.is (finite.1 f)

pub signed_word-requires : goal.signed_word-requires
signed_word-requires c =
    let s = c.args.floats.now in
    let same : c.in-Ok.found.format ≡ s.format = rw c.in-Ok.is at c.requires in
    let range = are_left s.policy s.format c.in-Ok.found.format (number_in c.in-Ok.found) c.is_out_of_range_by.result same (search rules) c.is_out_of_range_by.ensures.range in
    let width : IsWidth s.format.width = subst (λ (f : FormatParts). IsWidth f.width) same c.is_out_of_range_by.ensures.valid.is_width in
    rw (c.is_negative.ensures, c.magnitude.ensures) (low_in_range s.format (number_in c.in-Ok.found) width s.policy range)

pub returns-then-not-is_out_of_range_by : goal.returns-then-not-is_out_of_range_by
returns-then-not-is_out_of_range_by c float finite reading =
    let s = c.args.floats.now in
    let is : IsFloatReading s.mode s.layout float c.in-Ok.found = rw c.in-Ok.is at reading in
    let same : c.in-Ok.found.format ≡ s.format = rw c.in-Ok.is at c.requires in
    let ok : IsOk c.args.found = rw c.in-Ok.is refl in
    let range = are_left s.policy s.format c.in-Ok.found.format (number_in c.in-Ok.found) c.is_out_of_range_by.result same (search rules) c.is_out_of_range_by.ensures.range in
    let width : IsWidth s.format.width = subst (λ (f : FormatParts). IsWidth f.width) same c.is_out_of_range_by.ensures.valid.is_width in
    record {
      bits = with_sign c.in-Ok.found.negative c.in-Ok.found.low;
      are = float_left s float c.in-Ok.found is same (finite.0 ok) width range;
      word_is = c.signed_word.ensures ∙ ap (λ n. word_of s.format.width (with_sign n c.magnitude.result)) c.is_negative.ensures ∙ ap (λ m. word_of s.format.width (with_sign c.in-Ok.found.negative m)) c.magnitude.ensures;
    }

pub returns-in-Some : goal.returns-in-Some
returns-in-Some c float finite reading =
    let s = c.args.floats.now in
    let is : IsFloatReading s.mode s.layout float c.in-Ok.found = rw c.in-Ok.is at reading in
    let same : c.in-Ok.found.format ≡ s.format = rw c.in-Ok.is at c.requires in
    let ok : IsOk c.args.found = rw c.in-Ok.is refl in
    let fits : FitsSigned w128 c.in-Some.bits = search rules in
    record {
      bits = c.in-Some.bits;
      are = float_bits s float c.in-Ok.found is same (finite.0 ok) c.in-Some.bits c.in-Some.ensures.image;
      word_is = rw (to_z-of_z w128 c.in-Some.bits fits) at c.word_of.ensures;
    }

pub returns-in-None : goal.returns-in-None
returns-in-None c float finite reading =
    let s = c.args.floats.now in
    let is : IsFloatReading s.mode s.layout float c.in-Ok.found = rw c.in-Ok.is at reading in
    let same : c.in-Ok.found.format ≡ s.format = rw c.in-Ok.is at c.requires in
    let ok : IsOk c.args.found = rw c.in-Ok.is refl in
    float_out s float c.in-Ok.found is same (finite.0 ok) (λ v holds. (c.in-None.ensures.none v holds).0 refl)
