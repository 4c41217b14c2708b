use Rattle.std.proofs.Common.{◌≡◌, ◌-◌, drop, ◌++◌, replicate, map, length, sym, ap, ◌∙◌, arith}
use Rattle.std.proofs.lemmas.List.{length-map}
use Rattle.std.proofs.lemmas.Int.Digits.{digits_value_is, all_below_base_from_digits}
use Rattle.std.specs.Char.{digit_value}
use Rattle.fixed_numeral.specs.Digits.{digits_in}
use Rattle.fixed_numeral.proofs.DecimalLemmas.{last_count}
use Rattle.fixed_numeral.proofs.MagnitudeLemmas.{digits_in_all}
use Rattle.fixed_numeral.proofs.MarkLemmas.{zeros_are_digits, zeros_spell_nothing}
use Rattle.fixed_numeral.proofs.swar.last_number.Goals as goal

pub returns-clause-number : goal.returns-clause-number
returns-clause-number c bs eight below e digits =
    let xs = replicate (8 - c.args.count) 48 ++ drop (8 - c.args.count) bs in
    let long : length xs ≡ 8 = last_count c.args.count bs c.requires.few eight in
    let all = zeros_are_digits c.args.base (8 - c.args.count) (drop (8 - c.args.count) bs) c.requires.least digits in
    let values : digits_in xs ≡ map digit_value xs = digits_in_all c.args.base xs c.requires.most all in
    let plain : length (digits_in xs) ≡ length xs = ap length values ∙ length-map xs digit_value in
    let word = c.digit_values.ensures xs long plain (c.after_zeros-padded.ensures bs eight below e) in
    c.number_of_eight.ensures.number (digits_in xs) (plain ∙ long) (rw values (all_below_base_from_digits c.args.base xs all)) word
    ∙ rw values (sym (digits_value_is c.args.base xs))
    ∙ zeros_spell_nothing c.args.base (8 - c.args.count) (drop (8 - c.args.count) bs)

pub returns-then-base-eq10-clause-number : goal.returns-then-base-eq10-clause-number
returns-then-base-eq10-clause-number c bs eight below e digits =
    let xs = replicate (8 - c.args.count) 48 ++ drop (8 - c.args.count) bs in
    let long : length xs ≡ 8 = last_count c.args.count bs c.requires.few eight in
    let all = zeros_are_digits 10 (8 - c.args.count) (drop (8 - c.args.count) bs) (omega arith) (rw c.if-base-eq10.true at digits) in
    rw c.if-base-eq10.true (c.number_of_decimals.ensures.number xs long all (c.after_zeros-padded.ensures bs eight below e) ∙ zeros_spell_nothing 10 (8 - c.args.count) (drop (8 - c.args.count) bs))
