use Rattle.std.proofs.Common.{◌++◌, ◌∷◌, [], ◌%◌, ◌/◌, List, ℕ, ap, ◌∙◌, sym, arith, append_assoc}
use Rattle.fixed_respell.specs.SelfMode.{digit_letter, number_text}
use Rattle.fixed_respell.proofs.SelfLemmas.{number_more}
use Rattle.fixed_respell.proofs.self_mode.+push_number.Goals as goal

pub returns-else-number-base-clause-text : goal.returns-else-number-base-clause-text
returns-else-number-base-clause-text t c =
    let b = c.args.base in
    let n = c.args.number in
    let old = c.args.text.now.items in
    let last = digit_letter (n % b) ∷ [] in
    c.push_digit-else-number-base.ensures.text
    ∙ ap (λ (l : List ℕ). l ++ last) c.push_number.ensures.text
    ∙ append_assoc old (number_text b (n / b)) last
    ∙ ap (λ (l : List ℕ). old ++ l) (sym (number_more b n c.requires.least (omega (arith, c.if-number-base.false))))
