use Rattle.std.proofs.Common.{◌≡◌, ◌++◌, ℕ, ℤ, pos, List, codes, false, FitsSigned, rules, arith, refl, ◌∙◌}
use Rattle.std.specs.Int.{w128}
use Rattle.std.proofs.lemmas.Int.{to_z-of_z}
use Rattle.fixed_bits.specs.Ranges.{lowest, greatest}
use Rattle.fixed_write.specs.Places.{IsExactText, exact_text}
use Rattle.fixed_write.specs.Texts.{IsShortestText, shortest_text}
use Rattle.fixed_show.specs.Forms.{fact}
use Rattle.fixed_show.specs.ToolNames.{name_facts}
use Rattle.fixed_show.specs.FormatBlock.{ArePlaces, AreWholeDigits, digits_facts, ends_facts}
use Rattle.fixed_show.proofs.LineLemmas.{seven_lines, text_short}
use Rattle.fixed_show.proofs.formats.push_format_facts.Goals as goal

pub returns-clause-facts : goal.returns-clause-facts
returns-clause-facts g c =
    let f = c.args.format in
    let l : ℤ = c.lowest_of-low.result in
    let h : ℤ = c.greatest_of-high.result in
    let lfit : FitsSigned w128 l = search rules in
    let hfit : FitsSigned w128 h = search rules in
    let word : List ℕ = c.as_bytes.result.now in
    let least : List ℕ = exact_text 10 false (lowest f.signed f.width) f.frac in
    let most : List ℕ = exact_text 10 false (greatest f.signed f.width) f.frac in
    let ulp : List ℕ = exact_text 10 false (pos 1) f.frac in
    let ends : List ℕ = ends_facts c.args.form (shortest_text (lowest f.signed f.width) f.frac) (shortest_text (greatest f.signed f.width) f.frac) in
    let digits : List ℕ = digits_facts c.args.form c.whole_digits_of.result c.places_of.result in
    let frac = c.frac_of-frac.ensures.value in
    let lv = c.lowest_of-low.ensures.value in
    let hv = c.greatest_of-high.ensures.value in
    let a : c.push_exact_fact.new.out ≡ c.push_fact.new.out ++ fact c.args.form (codes "least") least = rw (to_z-of_z w128 l lfit, lv, frac) at c.push_exact_fact.ensures.appended in
    let b : c.push_exact_fact-2.new.out ≡ c.push_exact_fact.new.out ++ fact c.args.form (codes "greatest") most = rw (to_z-of_z w128 h hfit, hv, frac) at c.push_exact_fact-2.ensures.appended in
    let d : c.push_exact_fact-3.new.out ≡ c.push_exact_fact-2.new.out ++ fact c.args.form (codes "ulp") ulp = rw frac at c.push_exact_fact-3.ensures.appended in
    let e : c.push_ends.new.out ≡ c.push_digits.new.out ++ ends = rw (to_z-of_z w128 l lfit, to_z-of_z w128 h hfit, lv, hv, frac) at c.push_ends.ensures.appended in
    let is_least : IsExactText 10 false (lowest f.signed f.width) f.frac least = rw (to_z-of_z w128 l lfit, lv, frac) at c.push_exact_fact.ensures.exact in
    let is_most : IsExactText 10 false (greatest f.signed f.width) f.frac most = rw (to_z-of_z w128 h hfit, hv, frac) at c.push_exact_fact-2.ensures.exact in
    let is_ulp : IsExactText 10 false (pos 1) f.frac ulp = rw frac at c.push_exact_fact-3.ensures.exact in
    let short_least : IsShortestText (lowest f.signed f.width) f.frac (shortest_text (lowest f.signed f.width) f.frac) = rw (to_z-of_z w128 l lfit, lv, frac) at c.push_ends.ensures.low in
    let short_most : IsShortestText (greatest f.signed f.width) f.frac (shortest_text (greatest f.signed f.width) f.frac) = rw (to_z-of_z w128 h hfit, hv, frac) at c.push_ends.ensures.high in
    let whole : AreWholeDigits (greatest f.signed f.width) f.frac c.whole_digits_of.result = rw (to_z-of_z w128 h hfit, hv, frac) at c.whole_digits_of.ensures.whole in
    let places : ArePlaces f.frac c.places_of.result = rw frac at c.places_of.ensures.places in
    let text : List ℕ = fact c.args.form (codes "format") word ++ (fact c.args.form (codes "least") least ++ (fact c.args.form (codes "greatest") most ++ (fact c.args.form (codes "ulp") ulp ++ (digits ++ (ends ++ name_facts c.args.form f))))) in
    let appended : c.push_names.new.out ≡ c.args.out.now ++ text = seven_lines c.args.out.now c.push_fact.new.out c.push_exact_fact.new.out c.push_exact_fact-2.new.out c.push_exact_fact-3.new.out c.push_digits.new.out c.push_ends.new.out c.push_names.new.out
    (fact c.args.form (codes "format") word) (fact c.args.form (codes "least") least) (fact c.args.form (codes "greatest") most) (fact c.args.form (codes "ulp") ulp) digits ends (name_facts c.args.form f)
    c.push_fact.ensures.appended a b d c.push_digits.ensures.appended e c.push_names.ensures.appended in
    record {
      text = text;
      is_text = record {
        word = word;
        is_word = c.as_bytes.ensures.bytes ∙ c.format_name.ensures.text;
        least = least;
        is_least = is_least;
        most = most;
        is_most = is_most;
        ulp = ulp;
        is_ulp = is_ulp;
        whole = c.whole_digits_of.result;
        are_whole = whole;
        places = c.places_of.result;
        are_places = places;
        short_least = shortest_text (lowest f.signed f.width) f.frac;
        is_short_least = short_least;
        short_most = shortest_text (greatest f.signed f.width) f.frac;
        is_short_most = short_most;
        facts_are = refl;
      };
      appended = appended;
      short = text_short c.args.out.now c.push_names.new.out text 1200 appended (omega (arith, c.push_fact.ensures.short, c.as_bytes.ensures.short, c.push_exact_fact.ensures.short, c.push_exact_fact-2.ensures.short, c.push_exact_fact-3.ensures.short, c.push_digits.ensures.short, c.push_ends.ensures.short, c.push_names.ensures.short));
    }
