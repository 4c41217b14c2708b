use Rattle.std.proofs.Common.{◌≡◌, ◌++◌, ℤ, FitsSigned, rules, codes}
use Rattle.std.specs.Int.{w128}
use Rattle.std.proofs.lemmas.Int.{to_z-of_z}
use Rattle.fixed_write.specs.Texts.{shortest_text}
use Rattle.fixed_show.proofs.LineLemmas.{three_pushed}
use Rattle.fixed_show.proofs.formats.push_shortest_ends.Goals as goal

pub returns-clause-appended : goal.returns-clause-appended
returns-clause-appended g c =
    let a : ℤ = c.args.low in
    let b : ℤ = c.args.high in
    let low : FitsSigned w128 a = search rules in
    let high : FitsSigned w128 b = search rules in
    let first : c.push_shortest.new.out ≡ c.push_bytes.new.self ++ shortest_text c.args.low c.args.frac = rw (to_z-of_z w128 a low) at c.push_shortest.ensures.appended in
    let second : c.push_shortest-2.new.out ≡ c.push_bytes-2.new.self ++ shortest_text c.args.high c.args.frac = rw (to_z-of_z w128 b high) at c.push_shortest-2.ensures.appended in
    three_pushed c.args.out.now c.push_bytes.new.self c.push_shortest.new.out c.push_bytes-2.new.self c.push_shortest-2.new.out c.push.new.self (codes "shortest  ") (shortest_text c.args.low c.args.frac) (codes " to ") (shortest_text c.args.high c.args.frac) c.push_bytes.ensures first c.push_bytes-2.ensures second c.push.ensures
