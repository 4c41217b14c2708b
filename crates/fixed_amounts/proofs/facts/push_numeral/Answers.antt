use Rattle.std.proofs.Common.{◌≡◌, ◌≤◌, ◌++◌, ℕ, ℤ, List, FitsSigned, arith, codes, length, refl, rules}
use Rattle.std.specs.Int.{w64, w128}
use Rattle.std.proofs.lemmas.Int.{to_z-of_z}
use Rattle.fixed_show.specs.DecimalError.{IsDecimalError}
use Rattle.fixed_show.specs.Forms.{fact}
use Rattle.fixed_show.specs.ShowBlock.{range_text}
use Rattle.fixed_amounts.specs.Facts.{values}
use Rattle.fixed_amounts.proofs.FactLemmas.{text_short, three_pushed}
use Rattle.fixed_amounts.proofs.facts.push_numeral.Goals as goal

pub decimal_error-error-requires-clause-numeral : goal.decimal_error-error-requires-clause-numeral
decimal_error-error-requires-clause-numeral g c = let read = c.in-Ok.ensures.read in (read.parts, read.numeral)

pub returns-in-Ok-clause-facts : goal.returns-in-Ok-clause-facts
returns-in-Ok-clause-facts g c =
    let form = c.args.form in
    let old : List ℕ = c.args.out.now in
    let read = c.in-Ok.ensures.read in
    let units : ℤ = c.in-Ok.amount.units in
    let v : ℤ = c.from-units.result in
    let fit : FitsSigned w128 v = search rules in
    let small : FitsSigned w64 units = search rules in
    let is_error : IsDecimalError form read.parts c.args.format units c.decimal_error-error.result = rw (to_z-of_z w128 v fit, c.from-units.ensures, to_z-of_z w64 units small, c.places.ensures.places) at (c.decimal_error-error.ensures.error read.parts read.numeral) in
    let error : List ℕ = fact form (codes "error") c.decimal_error-error.result in
    let range : List ℕ = fact form (codes "range") (range_text c.in-Ok.amount.overflowed) in
    let text : List ℕ = values form c.args.format units ++ (error ++ range) in
    let one : c.push_values.new.out ≡ old ++ values form c.args.format units = rw (to_z-of_z w64 units small) at c.push_values.ensures.appended in
    let two : c.push_fact.new.out ≡ c.push_values.new.out ++ error = rw c.as_bytes.ensures.value at c.push_fact.ensures.appended in
    let three : c.push_fact-in-Ok.new.out ≡ c.push_fact.new.out ++ range = rw c.range_word.ensures.word at c.push_fact-in-Ok.ensures.appended in
    let appended : c.push_fact-in-Ok.new.out ≡ old ++ text = three_pushed old c.push_values.new.out c.push_fact.new.out c.push_fact-in-Ok.new.out (values form c.args.format units) error range one two three in
    let few : length c.as_bytes.result.now ≤ 1380 = rw c.as_bytes.ensures.value c.as_bytes.ensures.within in
    let word = c.range_word.ensures.short in
    record {
      text = text;
      is_text = record { units = units; overflowed = c.in-Ok.amount.overflowed; read = read; error = c.decimal_error-error.result; is_error = is_error; facts_are = refl };
      appended = appended;
      short = text_short old c.push_fact-in-Ok.new.out text 1607 appended (omega (arith, few, word, c.push_values.ensures.short, c.push_fact.ensures.short, c.push_fact-in-Ok.ensures.short));
    }
