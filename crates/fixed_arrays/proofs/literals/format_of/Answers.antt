use Rattle.std.proofs.Common.{rules, ◌≡◌, false}
use Rattle.std.proofs.lemmas.Bool.{false≢true}
use Rattle.std.proofs.Common.{◌∙◌, sym}
use Rattle.fixed_constants.specs.Constants.{Fields, IsPassedOver}
use Rattle.fixed_arrays.proofs.LiteralLemmas.{format_by}
use Rattle.fixed_arrays.proofs.literals.format_of.Goals as goal

pub returns : goal.returns
returns c =
    let f = c.in_ok-fields.fields in
    let test : c.is_passed_over.result ≡ false = search rules in
    let spoken : IsPassedOver c.args.line.now → ⊥ = λ h. false≢true (sym test ∙ c.is_passed_over.ensures.1 h) in
    let fields : Fields c.args.line.now = record { spoken = spoken; name = f.name.now; equals = f.equals.now; literal = f.literal.now; format = f.format.now; has = c.in_ok-fields.ensures } in
    format_by c.args.line.now fields c.format_word.result c.format_word.ensures
