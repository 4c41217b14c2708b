use Rattle.std.proofs.Common.{◌≡◌, length, inl, refl}
use Rattle.line_engine.specs.Lines.{lines}
use Rattle.fixed_arrays.specs.Answer.{frame_of, numerals_in}
use Rattle.fixed_arrays.proofs.ElementLemmas.{some_numbers, whole_text}
use Rattle.fixed_arrays.proofs.rule.ArrayRuleWholeRule.answer.Goals as goal

pub returns-in-Ok-array_text : goal.returns-in-Ok-array_text
returns-in-Ok-array_text g c =
    let r = c.args.self.now in
    let h = c.in-Ok.ensures.ok in
    let same : c.in-Ok.elements.count ≡ length h.numbers = h.count in
    inl (record {
      some = some_numbers r (numerals_in r.layout.now (lines c.args.input.now)) c.in-Ok.elements h c.in-Ok.ensures.some;
      format = c.in-Ok.ensures.format;
      numbers = h.numbers;
      elements = h.elements;
      text = whole_text (frame_of r) h.numbers c.in-Ok.elements.count c.in-Ok.elements.text.items c.in-Ok-array_text.text.items same h.text (rw c.frame_of.ensures at c.in-Ok-array_text.ensures);
      fault = refl;
    })
