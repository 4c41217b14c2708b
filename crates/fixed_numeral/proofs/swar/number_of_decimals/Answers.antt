use Rattle.std.proofs.Common.{map, sym, ◌∙◌}
use Rattle.std.proofs.lemmas.List.{length-map}
use Rattle.std.specs.Char.{digit_value}
use Rattle.std.proofs.lemmas.Int.Digits.{digits_value_is, all_below_base_from_digits}
use Rattle.fixed_numeral.proofs.DecimalLemmas.{decimals_are}
use Rattle.fixed_numeral.proofs.swar.number_of_decimals.Goals as goal

pub returns-clause-number : goal.returns-clause-number
returns-clause-number c bs eight digits e = c.number_of_eight.ensures.number (map digit_value bs) (length-map bs digit_value ∙ eight) (all_below_base_from_digits 10 bs digits) (decimals_are c.args.word bs eight digits e) ∙ sym (digits_value_is 10 bs)
