use Rattle.std.proofs.Common.{◌≡◌, ◌++◌, ◌∙◌, sym, ap}
use Rattle.std.specs.Prelude.{codes, decimal}
use Rattle.fixed_constants.specs.Answer.{fault_message}
use Rattle.fixed_constants.specs.declared.fault.ConstantFault.TheVariants.{Duplicate}
use Rattle.fixed_constants.proofs.CanonicalLemmas.{two_pieces}
use Rattle.fixed_constants.proofs.rule.push_message.Goals as goal

pub returns-in_ok-extend_from_slice-in-Duplicate-2 : goal.returns-in_ok-extend_from_slice-in-Duplicate-2
returns-in_ok-extend_from_slice-in-Duplicate-2 c =
    let first : c.extend_from_slice-in-Duplicate.new.self.items ≡ c.args.text.now.items ++ codes "duplicate of line " = c.in_ok-extend_from_slice-in-Duplicate.ensures.items in
    let digits : c.as_bytes-in-Duplicate.result.now ≡ decimal c.in-Duplicate.first = c.as_bytes-in-Duplicate.ensures.value ∙ c.format.ensures.text in
    let second = c.in_ok-extend_from_slice-in-Duplicate-2.ensures.items ∙ ap (λ x. c.extend_from_slice-in-Duplicate.new.self.items ++ x) digits in
    let fault : c.args.fault ≡ Duplicate c.in-Duplicate.first = c.in-Duplicate.is in
    two_pieces c.args.text.now.items (codes "duplicate of line ") (decimal c.in-Duplicate.first) _ _ first second ∙ sym (ap (λ f. c.args.text.now.items ++ fault_message f) fault)
