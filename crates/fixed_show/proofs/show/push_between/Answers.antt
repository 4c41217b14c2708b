use Rattle.std.proofs.Common.{◌≡◌, ◌++◌, ℤ, List, ℕ, FitsSigned, rules, refl, inl, inr}
use Rattle.std.specs.Int.{w128}
use Rattle.std.proofs.lemmas.Int.{to_z-of_z}
use Rattle.fixed_write.specs.Texts.{IsShortestText, shortest_text}
use Rattle.fixed_show.specs.ShowBlock.{neighbours, no_neighbours}
use Rattle.fixed_show.proofs.LineLemmas.{text_short}
use Rattle.fixed_show.proofs.ShowLemmas.{not_enclosed}
use Rattle.fixed_show.proofs.show.push_between.Goals as goal

pub returns-in-Ok-clause-between : goal.returns-in-Ok-clause-between
returns-in-Ok-clause-between g c =
    let lo : ℤ = c.in-Ok.ends.lo in
    let hi : ℤ = c.in-Ok.ends.hi in
    let f = c.args.format in
    let low : FitsSigned w128 lo = search rules in
    let high : FitsSigned w128 hi = search rules in
    let text : List ℕ = neighbours c.args.form (shortest_text lo f.frac) lo (shortest_text hi f.frac) hi in
    let appended : c.push_neighbours.new.out ≡ c.args.out.now ++ text = rw (to_z-of_z w128 lo low, to_z-of_z w128 hi high, c.frac_of.ensures.value) at c.push_neighbours.ensures.appended in
    let is_low : IsShortestText lo f.frac (shortest_text lo f.frac) = rw (to_z-of_z w128 lo low, c.frac_of.ensures.value) at c.push_neighbours.ensures.low in
    let is_high : IsShortestText hi f.frac (shortest_text hi f.frac) = rw (to_z-of_z w128 hi high, c.frac_of.ensures.value) at c.push_neighbours.ensures.high in
    record {
      text = text;
      is_text = inl (record { lo = lo; hi = hi; enclosed = c.in-Ok.ensures.pair; low = shortest_text lo f.frac; is_low = is_low; high = shortest_text hi f.frac; is_high = is_high; text_is = refl });
      appended = appended;
      short = text_short c.args.out.now c.push_neighbours.new.out text 202 appended c.push_neighbours.ensures.short;
    }

pub returns-in-Err-clause-between : goal.returns-in-Err-clause-between
returns-in-Err-clause-between g c = record {
  text = no_neighbours c.args.form;
  is_text = inr (not_enclosed c.args.radix c.args.text.now c.args.format c.in-Err.field-0 c.requires.numeral c.in-Err.ensures.refused, refl);
  appended = c.push_no_neighbours.ensures.appended;
  short = text_short c.args.out.now c.push_no_neighbours.new.out (no_neighbours c.args.form) 202 c.push_no_neighbours.ensures.appended c.push_no_neighbours.ensures.short;
}
