use Rattle.std.proofs.Common.{rules, refl, FitsSigned, arith}
use Rattle.std.specs.Int.{w128}
use Rattle.std.proofs.lemmas.Int.{to_z-of_z}
use Rattle.fixed_bits.specs.Down.{down}
use Rattle.fixed_bits.specs.Numbers.{IsNumber}
use Rattle.fixed_bits.proofs.Public.{in_wide, width_most}
use Rattle.fixed_convert.proofs.RoundedLemmas.{moved_exact}
use Rattle.fixed_convert.proofs.rounded.reformat_mode.Goals as goal

pub returns-in-Some-clause-moved : goal.returns-in-Some-clause-moved
returns-in-Some-clause-moved c =
    let image : FitsSigned w128 c.in-Some.image = search rules in
    rw (to_z-of_z w128 c.in-Some.image image)
    (record {
      moved = down c.args.b c.args.from c.args.format.frac;
      is_moved = moved_exact c.args.mode c.args.b c.args.from c.args.format.frac (omega arith);
      image_is = rw (to_z-of_z w128 c.args.b c.ranges.b) at c.in-Some.ensures.image;
      verdict = rw (to_z-of_z w128 c.args.b c.ranges.b) at c.in-Some.ensures.verdict;
    })

pub returns-in-None-clause-moved : goal.returns-in-None-clause-moved
returns-in-None-clause-moved c =
    let why = (rw (to_z-of_z w128 c.args.b c.ranges.b) at c.in-None.ensures.none).0 refl in
    record {
      moved = down c.args.b c.args.from c.args.format.frac;
      is_moved = moved_exact c.args.mode c.args.b c.args.from c.args.format.frac (omega arith);
      checked = why.0;
      out = why.1;
    }

pub returns-in-Some-admitted-clause-moved : goal.returns-in-Some-admitted-clause-moved
returns-in-Some-admitted-clause-moved c =
    let image : FitsSigned w128 c.in-Some-admitted.c = search rules in
    let moved : FitsSigned w128 c.moved_back.result = search rules in
    let is : IsNumber c.of.result c.moved_back.result = rw (to_z-of_z w128 c.moved_back.result moved) at c.of.ensures.value in
    let admitted = c.in-Some-admitted.ensures.image in
    rw (to_z-of_z w128 c.in-Some-admitted.c image)
    (record {
      moved = c.moved_back.result;
      is_moved = rw (to_z-of_z w128 c.args.b c.ranges.b, c.frac-2.ensures.frac) at c.moved_back.ensures;
      image_is = rw admitted.1 (c.image-image.ensures.image c.moved_back.result is admitted.0);
      verdict = c.image-image.ensures.flag c.moved_back.result is;
    })

pub returns-in-Some-admitted-clause-wide : goal.returns-in-Some-admitted-clause-wide
returns-in-Some-admitted-clause-wide c =
    let image : FitsSigned w128 c.in-Some-admitted.c = search rules in
    rw (to_z-of_z w128 c.in-Some-admitted.c image, c.in-Some-admitted.ensures.image.1)
    (in_wide c.args.format.signed c.args.format.width _ (width_most c.args.format.width c.image-image.ensures.valid.is_width) c.image-image.ensures.range)
