use Rattle.std.proofs.Common.{◌∙◌, ◌++◌, List, ℕ, ap, refl}
use Rattle.fixed_fit.specs.Answer.{name_of}
use Rattle.fixed_fit.specs.Inner.Lengths.{reason_of}
use Rattle.fixed_fit.proofs.ErrorWordLemmas.{pieces}
use Rattle.fixed_fit.proofs.answer.found_answer.Goals as goal

pub returns-clause-some : goal.returns-clause-some
returns-clause-some g c = λ count list h.
    let w = c.push_error.ensures.word count list h in
    let name : List ℕ = name_of c.args.kind.signed c.args.kind.width c.args.frac in
    let reason : List ℕ = reason_of c.args.question.now.fractions c.args.question.now.is_reason_asked c.args.kind.signed c.args.kind.width c.args.frac c.args.place in
    record {
      error = w.text;
      is_error = w.is_text;
      text = pieces name w.text reason c.push_name.new.out c.push_bytes.new.self c.push_error.new.out c.push.new.self c.push_reason.new.out (c.push_name.ensures.appended ∙ ap (λ (l : List ℕ). l ++ name) c.new-text.ensures) c.push_bytes.ensures w.appended c.push.ensures c.push_reason.ensures.appended;
      fault = refl;
    }
