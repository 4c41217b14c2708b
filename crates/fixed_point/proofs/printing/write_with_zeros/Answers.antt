use Rattle.std.proofs.Common.{◌≡◌, refl, ap, ◌∙◌}
use Rattle.std.specs.Char.{encode_utf8}
use Rattle.std.specs.Fmt.{formatter_spec, sign_text_with}
use Rattle.fixed_point.proofs.PrintingLemmas.{long_written}
use Rattle.fixed_point.proofs.printing.write_with_zeros.Goals as goal

pub returns : goal.returns
returns g c = record {
  styled = λ flush ok.
      let h1 = c.in_ok-write_repeated.ensures.styled flush refl in
      let h2 = c.in_ok-write_str.ensures.styled h1.flush refl in
      let h3 = c.in_ok-write_repeated-2.ensures.styled h2.flush refl in
      let h4 = c.in_ok-write_str-2.ensures.styled h3.flush refl in
      let h5 = c.in_ok-write_repeated-3.ensures.styled h4.flush refl in
      let h6 = c.write_repeated-4.ensures.styled h5.flush ok in
      let fill : c.encode_utf8-fill.result.now ≡ encode_utf8 (formatter_spec c.args.f.now).fill = c.encode_utf8-fill.ensures.value ∙ ap encode_utf8 c.fill.ensures in
      long_written c.args.f.now c.args.is_negative c.sign_of-sign.result.now c.args.digits.now c.args.zeros c.missing_of-missing.result c.padding_of-padding.result.before c.padding_of-padding.result.zeros c.padding_of-padding.result.after
      (c.sign_of-sign.ensures ∙ ap (λ plus. sign_text_with plus c.args.is_negative) c.sign_plus.ensures.value) c.missing_of-missing.ensures c.padding_of-padding.ensures.before c.padding_of-padding.ensures.zeros c.padding_of-padding.ensures.after
      g.W.Write.write_str_gives c.write_repeated.new.self c.write_str.new.self c.write_repeated-2.new.self c.write_str-2.new.self c.write_repeated-3.new.self c.write_repeated-4.new.self
      (rw fill at h1) h2 h3 h4 h5 (rw fill at h6);
}
