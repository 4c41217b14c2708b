use Rattle.std.proofs.Common.{◌∙◌, arith}
use Rattle.fixed_report.proofs.TextLemmas.{same_scaled, text_of, whole_text}
use Rattle.fixed_report.proofs.text.six_text.Goals as goal

pub returns : goal.returns
returns c =
    let n = c.trimmed-number.result.0 in
    let p = c.trimmed-number.result.1 in
    let value = c.args.value in
    let digits = c.as_bytes.result.now in
    record {
      number = n;
      places = p;
      same = same_scaled n value.number value.places p c.trimmed-number.ensures.within c.trimmed-number.ensures.same;
      last = c.trimmed-number.ensures.last;
      text_is = text_of c.args.is_negative c.new-text.result c.push_sign.new.out c.push_bytes.new.self c.push_fraction.new.out digits n p c.new-text.ensures c.push_sign.ensures c.push_bytes.ensures
          (whole_text c.whole_of.result n p digits (c.as_bytes.ensures.value ∙ c.format.ensures.text) (omega (arith, c.whole_of.type_inv)) c.whole_of.ensures) c.push_fraction.ensures;
    }
