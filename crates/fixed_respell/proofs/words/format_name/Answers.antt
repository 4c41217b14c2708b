use Rattle.std.proofs.Common.{◌≡◌, ◌++◌, sym, ◌∙◌, rules, ap}
use Rattle.std.specs.Fmt.{signed_decimal}
use Rattle.fixed_bits.specs.Formats.{whole_length}
use Rattle.fixed_respell.specs.Words.{sign_letter}
use Rattle.fixed_respell.proofs.FormatNameLemmas.{name_pushed}
use Rattle.fixed_respell.proofs.words.format_name.Goals as goal
use Rattle.fixed_respell.proofs.words.format_name.Goals.{then-signed, else-signed}

pub returns-clause-name : goal.returns-clause-name
returns-clause-name c =
    let whole : c.push_whole.new.bytes.items ≡ c.push.new.self.items ++ signed_decimal (whole_length c.args.format) = search rules in
    let letter : c.if-signed.push ≡ sign_letter c.args.format.signed =
    elim c.if-signed.branch [
      | then-signed w ↦ w.push-is ∙ ap sign_letter (sym w.if-signed.true ∙ c.signed.ensures)
      | else-signed w ↦ w.push-is ∙ ap sign_letter (sym w.if-signed.false ∙ c.signed.ensures)
    ] in
    name_pushed c.args.format c.if-signed.push c.push.new.self.items c.push_whole.new.bytes.items c.push-2.new.self.items c.push_count.new.bytes.items c.frac.ensures.valid letter (search rules) whole (search rules) (search rules)
