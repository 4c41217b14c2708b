use Rattle.std.proofs.Common.{◌≡◌, ◌++◌, ℕ, ℤ, List, FitsSigned, arith, refl, rules}
use Rattle.std.specs.Int.{w64}
use Rattle.std.proofs.lemmas.Int.{to_z-of_z}
use Rattle.fixed_amounts.specs.Facts.{values}
use Rattle.fixed_amounts.proofs.FactLemmas.{text_short}
use Rattle.fixed_amounts.proofs.facts.push_units.Goals as goal

pub returns-in-Ok-clause-facts : goal.returns-in-Ok-clause-facts
returns-in-Ok-clause-facts g c =
    let units : ℤ = c.in-Ok.units in
    let small : FitsSigned w64 units = search rules in
    let text : List ℕ = values c.args.form c.args.format units in
    let appended : c.push_values.new.out ≡ c.args.out.now ++ text = rw (to_z-of_z w64 units small) at c.push_values.ensures.appended in
    record {
      text = text;
      is_text = record { units = units; is_word = c.in-Ok.ensures; facts_are = refl };
      appended = appended;
      short = text_short c.args.out.now c.push_values.new.out text 1607 appended (omega (arith, c.push_values.ensures.short));
    }
