use Rattle.std.proofs.Common.{◌≡◌, ◌%◌, ◌^◌, ◌*◌, ◌∙◌, ap, arith}
use Rattle.fixed_error.proofs.WordLemmas.{twice_rest}
use Rattle.fixed_error.proofs.half.word_in_ulps.Goals as goal

pub returns-else-frac-lt64 : goal.returns-else-frac-lt64
returns-else-frac-lt64 c =
    let all : 64 ≡ c.args.frac = omega (arith, c.if-frac-lt64.false, c.requires.frac) in
    c.halved_word.ensures ∙ (ap (λ t. 2 * t % 10 ^ 18) c.word_at-else-frac-lt64.ensures ∙ (twice_rest c.args.word 63 ∙ ap (λ f. c.args.word * 2 ^ f % 10 ^ 18) all))
