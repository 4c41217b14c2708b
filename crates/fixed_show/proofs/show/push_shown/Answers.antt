use Rattle.std.proofs.Common.{◌≡◌, ◌++◌, ℕ, ℤ, List, FitsSigned, refl, rules, arith, codes}
use Rattle.std.specs.Int.{w128}
use Rattle.std.proofs.lemmas.Int.{to_z-of_z}
use Rattle.fixed_show.specs.Blocks.{Appends}
use Rattle.fixed_show.specs.BitsBlock.{AreValues}
use Rattle.fixed_show.specs.Forms.{fact}
use Rattle.fixed_show.specs.Inner.Errors.{IsErrorFact}
use Rattle.fixed_show.specs.ShowBlock.{IsReadAs, range_text}
use Rattle.fixed_show.specs.declared.measure.Measure.TheVariants.{Ulps, Value}
use Rattle.fixed_show.proofs.LineLemmas.{text_short, pushed_length}
use Rattle.fixed_show.proofs.ShowLemmas.{five_blocks}
use Rattle.fixed_show.proofs.show.push_shown.Goals as goal

pub push_error_fact-requires-2 : goal.push_error_fact-requires-2
push_error_fact-requires-2 g c =
    let values = c.push_values.ensures.values in
    let kept = c.brief_decimal-numeral.ensures in
    let one = pushed_length c.args.out.now c.push_values.new.out values.text 281 values.appended values.short in
    (search rules, (search rules, (c.frac_of-frac.ensures.most, (omega arith, (kept.small, (kept.places, omega (arith, c.requires.room, one, c.push_error_fact.ensures.short)))))))

pub returns-clause-shown : goal.returns-clause-shown
returns-clause-shown g c = λ mode policy given.
    let b : ℤ = c.args.shown.now.bits in
    let o = c.args.shown.now.overflowed in
    let fit : FitsSigned w128 b = search rules in
    let f = c.args.format in
    let r = c.args.radix in
    let form = c.args.form in
    let read : IsReadAs mode r c.args.text.now f policy b o = given in
    let range : List ℕ = fact form (codes "range") (range_text o) in
    let values : Appends (AreValues form f b) 281 c.args.out.now c.push_values.new.out = rw (to_z-of_z w128 b fit) at c.push_values.ensures.values in
    let kept = c.brief_decimal-numeral.ensures.numeral read.parts read.numeral in
    let error : IsErrorFact form (codes "error") Value r read.parts f.frac b c.push_values.new.out c.push_error_fact.new.out
    = rw (to_z-of_z w128 b fit, c.frac_of-frac.ensures.value) at (c.push_error_fact.ensures.fact r read.parts kept) in
    let ulps : IsErrorFact form (codes "ulps") Ulps r read.parts f.frac b c.push_error_fact.new.out c.push_error_fact-2.new.out
    = rw (to_z-of_z w128 b fit, c.frac_of-frac.ensures.value) at (c.push_error_fact-2.ensures.fact r read.parts kept) in
    let between = c.push_between.ensures.between in
    let one = pushed_length c.args.out.now c.push_values.new.out values.text 281 values.appended values.short in
    let four = pushed_length c.push_error_fact-2.new.out c.push_between.new.out between.text 202 between.appended between.short in
    let text : List ℕ = values.text ++ (fact form (codes "error") error.error ++ (fact form (codes "ulps") ulps.error ++ (between.text ++ range))) in
    let appended : c.push_range.new.out ≡ c.args.out.now ++ text = five_blocks c.args.out.now c.push_values.new.out c.push_error_fact.new.out c.push_error_fact-2.new.out c.push_between.new.out c.push_range.new.out values.text (fact form (codes "error") error.error) (fact form (codes "ulps") ulps.error) between.text range values.appended error.appended ulps.appended between.appended c.push_range.ensures.appended in
    record {
      text = text;
      is_text = record {
        bits = b;
        overflowed = o;
        read = read;
        values = values.text;
        are_values = values.is_text;
        error = error.error;
        is_error = error.is_error;
        ulps = ulps.error;
        are_ulps = ulps.is_error;
        between = between.text;
        is_between = between.is_text;
        facts_are = refl;
      };
      appended = appended;
      short = text_short c.args.out.now c.push_range.new.out text 3301 appended (omega (arith, one, c.push_error_fact.ensures.short, c.push_error_fact-2.ensures.short, four, c.push_range.ensures.short));
    }
