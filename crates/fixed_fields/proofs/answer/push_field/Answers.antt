use Rattle.std.proofs.Common.{◌≡◌, ◌∙◌, ◌++◌, List, ℕ, FitsSigned, ap, of_z, rules, to_z}
use Rattle.std.specs.Int.{w128}
use Rattle.std.proofs.lemmas.Int.{to_z-of_z}
use Rattle.fixed_fields.specs.Answer.{name_of}
use Rattle.fixed_fields.specs.Names.{field_text}
use Rattle.fixed_write.specs.Texts.{shortest_text}
use Rattle.fixed_fields.proofs.AnswerLemmas.{members_pushed}
use Rattle.fixed_fields.proofs.answer.push_field.Goals as goal

pub returns-in-Members-clause-appended : goal.returns-in-Members-clause-appended
returns-in-Members-clause-appended g c =
    let fits : FitsSigned w128 c.args.bits = search rules in
    let same : to_z w128 (of_z w128 c.args.bits) ≡ c.args.bits = to_z-of_z w128 c.args.bits fits in
    let shortest = rw same at c.push_shortest.ensures.appended in
    let last = rw same at c.push_integer_fact.ensures.appended in
    let name : c.as_bytes-in-Members.result.now ≡ name_of c.args.field = c.as_bytes-in-Members.ensures.value ∙ c.field_word-name.ensures.text
    ∙ ap (λ w. field_text w c.from.result) c.width_of.ensures.value ∙ ap (field_text c.args.field.format.width) c.from.ensures in
    let text : c.as_bytes-in-Members-3.result.now ≡ shortest_text c.args.bits c.args.field.format.frac = c.as_bytes-in-Members-3.ensures.value ∙ shortest
    ∙ ap (λ (t : List ℕ). t ++ shortest_text c.args.bits c.frac_of.result) c.new-text.ensures ∙ ap (shortest_text c.args.bits) c.frac_of.ensures.value in
    members_pushed c.args.form c.args.word.now c.args.field c.args.bits c.args.out.now c.push_given.new.out c.push_fact-in-Members.new.out c.push_fact-in-Members-2.new.out
    c.push_fact-in-Members-3.new.out c.push_integer_fact.new.out c.push.new.self c.as_bytes-in-Members.result.now c.as_bytes-in-Members-2.result.now c.as_bytes-in-Members-3.result.now
    c.in-Members.is name (c.as_bytes-in-Members-2.ensures.bytes ∙ c.format_name.ensures.text) text c.push_given.ensures.appended c.push_fact-in-Members.ensures.appended
    c.push_fact-in-Members-2.ensures.appended c.push_fact-in-Members-3.ensures.appended last c.push.ensures
