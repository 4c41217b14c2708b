use Rattle.std.proofs.Common.{◌++◌, ◌∷◌, [], arith, ap, ◌∙◌}
use Rattle.fixed_arrays.proofs.SlotLemmas.{digits_more, digits_none}
use Rattle.fixed_arrays.proofs.slots.+push_last.Goals as goal

pub returns-then-count-gt0-clause-appended : goal.returns-then-count-gt0-clause-appended
returns-then-count-gt0-clause-appended t c =
    digits_more c.args.base c.args.digits.now c.push_last.new.digits c.push.new.self c.args.count c.args.word c.if-count-gt0.true c.push_last.ensures.appended (c.push.ensures ∙ ap (λ d. c.push_last.new.digits ++ d ∷ []) c.glyph_of.ensures)

pub returns-else-count-gt0-clause-appended : goal.returns-else-count-gt0-clause-appended
returns-else-count-gt0-clause-appended t c = digits_none c.args.base c.args.digits.now c.args.count c.args.word (omega (arith, c.if-count-gt0.false))
