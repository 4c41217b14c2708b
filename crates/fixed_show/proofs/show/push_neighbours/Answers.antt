use Rattle.std.proofs.Common.{◌≡◌, ◌++◌, ◌∙◌, ℤ, ap, sym, FitsSigned, rules, codes}
use Rattle.std.specs.Int.{w128}
use Rattle.std.specs.Fmt.{signed_decimal}
use Rattle.std.proofs.lemmas.Int.{to_z-of_z}
use Rattle.fixed_write.specs.Texts.{shortest_text}
use Rattle.fixed_show.specs.Forms.{fact}
use Rattle.fixed_show.specs.ShowBlock.{neighbours}
use Rattle.fixed_show.specs.declared.form.Form.TheVariants.{Members}
use Rattle.fixed_show.proofs.LineLemmas.{four_lines}
use Rattle.fixed_show.proofs.ShowLemmas.{neighbours_pushed}
use Rattle.fixed_show.proofs.show.push_neighbours.Goals as goal

pub returns-in-Lines-clause-appended : goal.returns-in-Lines-clause-appended
returns-in-Lines-clause-appended g c =
    let a : ℤ = c.args.low in
    let b : ℤ = c.args.high in
    let low : FitsSigned w128 a = search rules in
    let high : FitsSigned w128 b = search rules in
    let first : c.push_neighbour.new.out ≡ c.push_label.new.out ++ (shortest_text a c.args.frac ++ (codes " (" ++ (signed_decimal a ++ codes ")"))) = rw (to_z-of_z w128 a low) at c.push_neighbour.ensures.appended in
    let second : c.push_neighbour-in-Lines.new.out ≡ c.push_bytes.new.self ++ (shortest_text b c.args.frac ++ (codes " (" ++ (signed_decimal b ++ codes ")"))) = rw (to_z-of_z w128 b high) at c.push_neighbour-in-Lines.ensures.appended in
    neighbours_pushed c.args.out.now c.push_label.new.out c.push_neighbour.new.out c.push_bytes.new.self c.push_neighbour-in-Lines.new.out c.push.new.self (shortest_text a c.args.frac) (shortest_text b c.args.frac) a b c.push_label.ensures.appended first c.push_bytes.ensures second c.push.ensures
    ∙ ap (λ t. c.args.out.now ++ neighbours t (shortest_text a c.args.frac) a (shortest_text b c.args.frac) b) (sym c.in-Lines.is)

pub returns-in-Members-clause-appended : goal.returns-in-Members-clause-appended
returns-in-Members-clause-appended g c =
    let a : ℤ = c.args.low in
    let b : ℤ = c.args.high in
    let low : FitsSigned w128 a = search rules in
    let high : FitsSigned w128 b = search rules in
    let one : c.push_shortest_fact.new.out ≡ c.args.out.now ++ fact Members (codes "low") (shortest_text a c.args.frac) = rw (to_z-of_z w128 a low) at c.push_shortest_fact.ensures.appended in
    let two : c.push_integer_fact.new.out ≡ c.push_shortest_fact.new.out ++ fact Members (codes "low_bits") (signed_decimal a) = rw (to_z-of_z w128 a low) at c.push_integer_fact.ensures.appended in
    let three : c.push_shortest_fact-in-Members.new.out ≡ c.push_integer_fact.new.out ++ fact Members (codes "high") (shortest_text b c.args.frac) = rw (to_z-of_z w128 b high) at c.push_shortest_fact-in-Members.ensures.appended in
    let four : c.push_integer_fact-in-Members.new.out ≡ c.push_shortest_fact-in-Members.new.out ++ fact Members (codes "high_bits") (signed_decimal b) = rw (to_z-of_z w128 b high) at c.push_integer_fact-in-Members.ensures.appended in
    four_lines c.args.out.now c.push_shortest_fact.new.out c.push_integer_fact.new.out c.push_shortest_fact-in-Members.new.out c.push_integer_fact-in-Members.new.out (fact Members (codes "low") (shortest_text a c.args.frac)) (fact Members (codes "low_bits") (signed_decimal a)) (fact Members (codes "high") (shortest_text b c.args.frac)) (fact Members (codes "high_bits") (signed_decimal b)) one two three four
    ∙ ap (λ t. c.args.out.now ++ neighbours t (shortest_text a c.args.frac) a (shortest_text b c.args.frac) b) (sym c.in-Members.is)
