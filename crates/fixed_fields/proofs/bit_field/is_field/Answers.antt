use Rattle.std.proofs.Common.{◌≡◌, ◌∙◌, sym}
use Rattle.std.proofs.lemmas.Slice.Eq.{bytes_eq-Decides}
use Rattle.fixed_fields.specs.Names.{field_text}
use Rattle.fixed_fields.proofs.bit_field.is_field.Goals as goal

pub returns : goal.returns
returns c =
    let text : c.as_bytes.result.now ≡ field_text c.args.width c.args.low = c.as_bytes.ensures.value ∙ c.field_word.ensures.text in (
      (λ same. (bytes_eq-Decides c.args.word.now c.as_bytes.result.now).0 (sym c.eq.ensures ∙ same) ∙ text),
      (λ is. c.eq.ensures ∙ (bytes_eq-Decides c.args.word.now c.as_bytes.result.now).1 (is ∙ sym text)),
    )
