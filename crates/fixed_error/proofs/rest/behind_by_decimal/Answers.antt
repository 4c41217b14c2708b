use Rattle.std.proofs.Common.{sym, subst}
use Rattle.fixed_numeral.specs.declared.radix.Radix.{Radix}
use Rattle.fixed_error.specs.Inner.Rest.{IsRest, rest_of_word}
use Rattle.fixed_error.proofs.ShortLemmas.{decimal_rest, decimal_word}
use Rattle.fixed_error.proofs.rest.behind_by_decimal.Goals as goal

pub returns-then-found-le18 : goal.returns-then-found-le18
returns-then-found-le18 c = λ r text h.
    let found = c.args.found in (
      c.word_of_decimal.ensures.below,
      subst (λ (x : Radix). IsRest x 0 text (rest_of_word c.word_of_decimal.result)) (sym h.decimal)
          (decimal_word text found.negative found.whole found.fraction found.places found.exponent found.scales_by_two c.word_of_decimal.result h.parts c.requires.flat h.fraction c.word_of_decimal.ensures.parts),
    )

pub returns : goal.returns
returns c = λ r text h.
    let found = c.args.found in
    subst (λ (x : Radix). IsRest x 0 text c.parts_of_decimal.result) (sym h.decimal)
    (decimal_rest text found.negative found.whole found.fraction found.places found.exponent found.scales_by_two c.parts_of_decimal.result
    h.parts c.requires.flat h.fraction c.parts_of_decimal.ensures.one c.parts_of_decimal.ensures.parts c.parts_of_decimal.ensures.slack)
