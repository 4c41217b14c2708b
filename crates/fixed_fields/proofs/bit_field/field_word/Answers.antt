use Rattle.std.proofs.Common.{◌≡◌, ◌∙◌, ◌++◌, ◌∷◌, ◌+◌, ◌-◌, ◌≤◌, [], ℕ, ℤ, pos, length, FitsSigned, arith, rules, ap, append_assoc, length-append}
use Rattle.std.specs.Fmt.{decimal, signed_decimal}
use Rattle.std.specs.Int.{w128}
use Rattle.std.proofs.lemmas.Fmt.{length-decimal-le}
use Rattle.std.proofs.lemmas.Int.{to_z-of_z}
use Rattle.fixed_fields.proofs.bit_field.field_word.Goals as goal

pub returns-clause-text : goal.returns-clause-text
returns-clause-text c =
    let high : ℤ = c.from.result in
    let low : ℤ = c.from-2.result in
    let fits : FitsSigned w128 high = search rules in
    let fits_low : FitsSigned w128 low = search rules in
    let first : c.push_integer.new.out ≡ c.new-text.result ++ signed_decimal high = rw (to_z-of_z w128 high fits) at c.push_integer.ensures.appended in
    let second : c.push_integer-2.new.out ≡ c.push.new.self ++ signed_decimal low = rw (to_z-of_z w128 low fits_low) at c.push_integer-2.ensures.appended in
    let begun : c.push.new.self ≡ signed_decimal high ++ 58 ∷ [] = c.push.ensures ∙ ap (λ t. t ++ 58 ∷ []) (first ∙ ap (λ t. t ++ signed_decimal high) c.new-text.ensures) in
    second ∙ ap (λ t. t ++ signed_decimal low) begun ∙ append_assoc (signed_decimal high) (58 ∷ []) (signed_decimal low)
    ∙ ap (λ v. signed_decimal v ++ 58 ∷ signed_decimal low) c.from.ensures ∙ ap (λ v. signed_decimal (pos (c.args.low + c.args.width - 1)) ++ 58 ∷ signed_decimal v) c.from-2.ensures

pub returns-clause-short : goal.returns-clause-short
returns-clause-short c =
    let n : ℕ = c.args.low + c.args.width - 1 in
    let high : length (decimal n) ≤ 3 = length-decimal-le 3 n (omega arith) (omega arith) (omega (arith, c.requires.within)) in
    let low : length (decimal c.args.low) ≤ 3 = length-decimal-le 3 c.args.low (omega arith) (omega arith) (omega (arith, c.requires.within)) in
    omega (arith, high, low, ap length (returns-clause-text c), length-append (decimal n) (58 ∷ decimal c.args.low))
