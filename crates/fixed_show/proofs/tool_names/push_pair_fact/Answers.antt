use Rattle.std.proofs.Common.{◌≡◌, ◌++◌, ℤ, FitsSigned, rules}
use Rattle.std.specs.Int.{w128}
use Rattle.std.proofs.lemmas.Int.{to_z-of_z}
use Rattle.std.specs.Fmt.{signed_decimal}
use Rattle.fixed_show.proofs.LineLemmas.{pair_pushed}
use Rattle.fixed_show.proofs.tool_names.push_pair_fact.Goals as goal

pub returns-clause-appended : goal.returns-clause-appended
returns-clause-appended g c =
    let pair = c.args.pair.now in
    let a : ℤ = pair.first in
    let b : ℤ = pair.second in
    let fit : FitsSigned w128 a = search rules in
    let fits : FitsSigned w128 b = search rules in
    let first : c.push_integer.new.out ≡ c.push_bytes.new.self ++ signed_decimal a = rw (to_z-of_z w128 a fit) at c.push_integer.ensures.appended in
    let second : c.push_integer-2.new.out ≡ c.push_bytes-2.new.self ++ signed_decimal b = rw (to_z-of_z w128 b fits) at c.push_integer-2.ensures.appended in
    pair_pushed c.args.form c.args.out.now c.push_label.new.out c.push_bytes.new.self c.push_integer.new.out c.push_bytes-2.new.self c.push_integer-2.new.out c.push_bytes-3.new.self c.push.new.self c.args.key.now pair.head.now a pair.mark.now b pair.tail.now c.end_byte.result
    c.push_label.ensures.appended c.push_bytes.ensures first c.push_bytes-2.ensures second c.push_bytes-3.ensures c.end_byte.ensures c.push.ensures
