use Rattle.std.proofs.Common.{◌≡◌, ◌%◌, ◌↔◌, IsTrue, Bool, ap, sym, subst}
use Rattle.fixed_float.proofs.ReadingLemmas.{part_reading}
use Rattle.fixed_float.proofs.reading.read_part.Goals as goal

pub returns-clause-reading : goal.returns-clause-reading
returns-clause-reading c unit down = part_reading c.args.mode c.args.fields c.args.format.frac unit c.args.down c.min-down.result c.power_of_two-ulp.result c.quotient-whole.result _ c.mode_increment-more.result c.signed-number.result c.new.result down c.min-down.ensures
    c.power_of_two-ulp.ensures.power c.quotient-whole.ensures.quotient c.from.ensures c.mode_increment-more.ensures.rounded c.signed-number.ensures.sign c.signed-number.ensures.low c.requires.few_bits c.new.ensures.number (ap (λ f. f.frac) c.new.ensures.format)
    (subst (λ (b : Bool). IsTrue b ↔ (c.args.fields.significand % c.power_of_two-ulp.result ≡ 0)) (sym c.new.ensures.exact) c.is_nothing.ensures)
