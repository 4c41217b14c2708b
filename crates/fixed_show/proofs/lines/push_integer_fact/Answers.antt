use Rattle.std.proofs.Common.{◌≡◌, ◌++◌, ℤ, FitsSigned, rules}
use Rattle.std.specs.Fmt.{signed_decimal}
use Rattle.std.specs.Int.{w128}
use Rattle.std.proofs.lemmas.Int.{to_z-of_z}
use Rattle.fixed_show.proofs.LineLemmas.{fact_pushed}
use Rattle.fixed_show.proofs.lines.push_integer_fact.Goals as goal

pub returns-clause-appended : goal.returns-clause-appended
returns-clause-appended g c =
    let v : ℤ = c.args.value in
    let fit : FitsSigned w128 v = search rules in
    let text : c.push_integer.new.out ≡ c.push_label.new.out ++ signed_decimal c.args.value = rw (to_z-of_z w128 v fit) at c.push_integer.ensures.appended in
    fact_pushed c.args.form c.args.out.now c.push_label.new.out c.push_integer.new.out c.push.new.self c.args.key.now (signed_decimal c.args.value) c.end_byte.result c.push_label.ensures.appended text c.end_byte.ensures c.push.ensures
