use Rattle.std.proofs.Common.{◌-◌, take, ◌++◌, replicate, arith, ◌∙◌}
use Rattle.fixed_numeral.proofs.DecimalLemmas.{first_padded, first_pad_fits, first_count, below_first, zeros_before, digits_after}
use Rattle.fixed_numeral.proofs.swar.first_decimals.Goals as goal

pub overflow_add-padded : goal.overflow_add-padded
overflow_add-padded c = omega (arith, first_pad_fits c.args.count c.args.word c.requires.some c.requires.few (omega (arith, c.ranges.word.fits)))

pub returns-then-are_decimal : goal.returns-then-are_decimal
returns-then-are_decimal c bs eight below e =
    let padded = first_padded c.args.count c.args.word bs c.requires.some c.requires.few eight below e in
    let long = first_count c.args.count bs c.requires.few eight in
    let digits = c.are_decimal.ensures (replicate (8 - c.args.count) 48 ++ take c.args.count bs) long (below_first (8 - c.args.count) c.args.count bs below) padded c.if-are_decimal.true in
    (digits_after (8 - c.args.count) (take c.args.count bs) digits, c.number_of_decimals.ensures.number (replicate (8 - c.args.count) 48 ++ take c.args.count bs) long digits padded ∙ zeros_before (8 - c.args.count) 0 (take c.args.count bs))
