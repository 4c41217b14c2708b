use Rattle.std.proofs.Common.{◌≡◌, ◌++◌, ℕ, ℤ, pos, List, codes, false, FitsSigned, rules, arith, refl}
use Rattle.std.specs.Int.{w128}
use Rattle.std.specs.Fmt.{signed_decimal}
use Rattle.std.proofs.lemmas.Int.{to_z-of_z}
use Rattle.fixed_bits.specs.Images.{IsWrapped}
use Rattle.fixed_write.specs.Places.{IsExactText, exact_text}
use Rattle.fixed_write.specs.Texts.{IsShortestText, shortest_text}
use Rattle.fixed_show.specs.Blocks.{hex_text}
use Rattle.fixed_show.specs.Forms.{fact}
use Rattle.fixed_show.proofs.LineLemmas.{four_lines, text_short}
use Rattle.fixed_show.proofs.bits.push_values.Goals as goal

pub returns-clause-values : goal.returns-clause-values
returns-clause-values g c =
    let v : ℤ = c.args.bits in
    let f = c.args.format in
    let fit : FitsSigned w128 v = search rules in
    let k = c.word_of.result in
    let a : c.push_shortest_fact.new.out ≡ c.args.out.now ++ fact c.args.form (codes "text") (shortest_text v f.frac) = rw (to_z-of_z w128 v fit, c.frac_of-frac.ensures.value) at c.push_shortest_fact.ensures.appended in
    let b : c.push_integer_fact.new.out ≡ c.push_shortest_fact.new.out ++ fact c.args.form (codes "bits") (signed_decimal v) = rw (to_z-of_z w128 v fit) at c.push_integer_fact.ensures.appended in
    let d : c.push_hex_fact.new.out ≡ c.push_integer_fact.new.out ++ fact c.args.form (codes "hex") (hex_text f.width k) = rw c.width_of.ensures.value at c.push_hex_fact.ensures.appended in
    let e : c.push_exact_fact.new.out ≡ c.push_hex_fact.new.out ++ fact c.args.form (codes "value") (exact_text 10 false v f.frac) = rw (to_z-of_z w128 v fit, c.frac_of-frac.ensures.value) at c.push_exact_fact.ensures.appended in
    let shortest : IsShortestText v f.frac (shortest_text v f.frac) = rw (to_z-of_z w128 v fit, c.frac_of-frac.ensures.value) at c.push_shortest_fact.ensures.shortest in
    let exact : IsExactText 10 false v f.frac (exact_text 10 false v f.frac) = rw (to_z-of_z w128 v fit, c.frac_of-frac.ensures.value) at c.push_exact_fact.ensures.exact in
    let is_word : IsWrapped false f.width v (pos k) = rw (to_z-of_z w128 v fit) at c.word_of.ensures in
    let text : List ℕ = fact c.args.form (codes "text") (shortest_text v f.frac) ++ (fact c.args.form (codes "bits") (signed_decimal v) ++ (fact c.args.form (codes "hex") (hex_text f.width k) ++ fact c.args.form (codes "value") (exact_text 10 false v f.frac))) in
    let appended : c.push_exact_fact.new.out ≡ c.args.out.now ++ text = four_lines c.args.out.now c.push_shortest_fact.new.out c.push_integer_fact.new.out c.push_hex_fact.new.out c.push_exact_fact.new.out (fact c.args.form (codes "text") (shortest_text v f.frac)) (fact c.args.form (codes "bits") (signed_decimal v)) (fact c.args.form (codes "hex") (hex_text f.width k)) (fact c.args.form (codes "value") (exact_text 10 false v f.frac)) a b d e in
    record {
      text = text;
      is_text = record {
        value = exact_text 10 false v f.frac;
        is_value = exact;
        shortest = shortest_text v f.frac;
        is_shortest = shortest;
        hex = hex_text f.width k;
        is_hex = record { word = k; is_word = is_word; text_is = refl };
        text_is = refl;
      };
      appended = appended;
      short = text_short c.args.out.now c.push_exact_fact.new.out text 281 appended (omega (arith, c.push_shortest_fact.ensures.short, c.push_integer_fact.ensures.short, c.push_hex_fact.ensures.short, c.push_exact_fact.ensures.short));
    }
