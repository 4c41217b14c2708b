use Rattle.std.proofs.Common.{◌≡◌, pos, sym, subst, rules}
use Rattle.fixed_numeral.specs.declared.radix.Radix.{Radix}
use Rattle.fixed_error.specs.Inner.Rest.{IsRest, rest_of_word}
use Rattle.fixed_error.proofs.ShortLemmas.{decimal_word}
use Rattle.fixed_error.proofs.WordLemmas.{rest_at}
use Rattle.fixed_error.proofs.greater.near_parts.Goals as goal

pub returns-clause-near : goal.returns-clause-near
returns-clause-near g c =
    let text = c.args.text.now in
    let r = c.args.radix in
    let f = c.args.frac in
    let n = c.in_ok-found.found in
    let h = c.in_ok-found.ensures.read in
    let word = c.word_of_decimal.result in
    let flat : n.exponent ≡ pos 0 = search rules in
    let rest : IsRest r 0 text (rest_of_word word) = subst (λ (x : Radix). IsRest x 0 text (rest_of_word word)) (sym h.decimal) (decimal_word text n.negative n.whole n.fraction n.places n.exponent n.scales_by_two word h.parts flat h.fraction c.word_of_decimal.ensures.parts) in
    record {
      word = c.word_in_ulps.result;
      rest = subst (λ w. IsRest r f text (rest_of_word w)) (sym c.word_in_ulps.ensures) (rest_at r f text word c.word_of_decimal.ensures.below rest);
      near_is = c.near_word.ensures;
    }
