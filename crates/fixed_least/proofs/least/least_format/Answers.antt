use Rattle.std.proofs.Common.{◌≡◌, ◌+◌, ◌∷◌, ◌++◌, [], ℕ, length, get_or, refl, ap, ◌∙◌, arith, inl, length-append}
use Rattle.std.proofs.lemmas.Grind.{common_steps}
use Rattle.line_engine.specs.Lines.{lines}
use Rattle.fixed_least.specs.Inner.Slots.{slot_of}
use Rattle.fixed_least.specs.Inner.Valued.{IsExactOf}
use Rattle.fixed_least.proofs.ListLemmas.{all_living, least_found, nil_of, noted_one_more, numerals_one_more, split_more, zeros_at}
use Rattle.fixed_least.proofs.least.least_format.Goals as goal

pub loop-rest-init : goal.loop-rest-init
loop-rest-init g c =
    let none = λ (i : ℕ). ap (λ l. get_or l i 0) c.no_places-slots.ensures ∙ zeros_at 520 i in
    record {
      done = [];
      split = refl;
      count = refl;
      room = omega arith;
      numerals = tt;
      living = all_living c.no_places-slots.result c.all_lengths.result.0 c.all_lengths.result.1 none c.all_lengths.ensures.low c.all_lengths.ensures.high;
      noted = λ f is. inl (none (slot_of f), tt);
    }

pub loop-rest-preserved : goal.loop-rest-preserved
loop-rest-preserved g c =
    let inv = c.loop-rest.invariant in
    let line = c.first_line.result.0.now in
    let p = c.in-Ok.ensures.exact.numeral.0 refl in
    let exact : IsExactOf c.args.radix line c.in-Ok.value = record { parts = p.0; numeral = p.1; value_of = c.in-Ok.ensures.exact.read p.0 p.1 } in
    let next : c.loop-rest.place + 1 ≡ length inv.done + 1 = omega (arith, inv.count) in
    record {
      done = inv.done ++ line ∷ [];
      split = split_more (lines c.args.text.now) inv.done (lines c.loop-rest.rest.now) (lines c.first_line.result.1.now) line inv.split c.first_line.ensures.lines;
      count = omega (arith, next, length-append inv.done (line ∷ []));
      room = omega (arith, inv.room, c.first_line.ensures.shorter);
      numerals = numerals_one_more c.args.radix inv.done line inv.numerals p;
      living = c.refute.ensures.living;
      noted = λ f is. noted_one_more c.args.radix f inv.done line c.in-Ok.value (c.loop-rest.place + 1) (get_or c.loop-rest.slots (slot_of f) 0) (get_or c.refute.new.slots (slot_of f) 0) is exact next (inv.noted f is) (c.refute.ensures.noted f is);
    }

pub returns-clause-least : goal.returns-clause-least
returns-clause-least g c =
    let inv = c.loop-rest.invariant in
    let none : length c.loop-rest.rest.now ≡ 0 = grind (arith, common_steps, c.loop-rest-test.false, c.is_empty.ensures) in
    let empty : c.loop-rest.rest.now ≡ [] = nil_of c.loop-rest.rest.now none in
    least_found c.args.radix (lines c.args.text.now) inv.done (lines c.loop-rest.rest.now) c.loop-rest.slots c.least_of.result inv.split (ap lines empty) inv.numerals inv.noted c.least_of.ensures.short c.least_of.ensures.places c.least_of.ensures.first
