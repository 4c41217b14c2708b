use Rattle.std.proofs.Common.{ℤ, ◌↔◌, ◌||◌, IsTrue, sym, ◌∙◌, inl, inr, refl, arith}
use Rattle.std.proofs.lemmas.Bool.{false≢true}
use Rattle.fixed_bits.specs.Down.{down}
use Rattle.fixed_bits.specs.Images.{IsImage, IsOutOfRangeBy}
use Rattle.fixed_bits.specs.Numbers.{IsNumber, number_of_image}
use Rattle.fixed_bits.proofs.Public.{in_wide, width_most}
use Rattle.fixed_respell.specs.Lemmas.ReachedLemmas.{refusal_none}
use Rattle.fixed_respell.proofs.ReachLemmas.{IsRead, read_of, refused, respelled}
use Rattle.fixed_respell.proofs.respelling.reach.Goals as goal

pub returns-then-is_refused-clause-refused : goal.returns-then-is_refused-clause-refused
returns-then-is_refused-clause-refused g c =
    let t = c.args.task.now in
    let found = c.in_ok-found in
    let source = c.image-in_source in
    let target = c.reformat_signed-reached in
    let read = rw c.requires.ending at found.ensures.reading in
    let is : IsRead t.mode t.radix t.numeral.now t.source found.found = read_of t.mode t.radix t.numeral.now t.source found.found (read.numeral.0 refl) read.read found.ensures.format in
    let holds : IsNumber c.number.result is.number = rw c.number.ensures is.holds in
    let in_source : ℤ = number_of_image source.result in
    let out : IsTrue target.result.is_out_of_range ↔ IsOutOfRangeBy t.policy t.target.signed t.target.width (down in_source t.source.frac t.target.frac) = rw c.frac-source_frac.ensures.frac at target.ensures.verdict in
    refused t.mode t.radix t.numeral.now t.policy t.source t.target found.found in_source source.result.is_out_of_range target.result.is_out_of_range c.new.result is c.new.ensures (source.ensures.image is.number holds) (source.ensures.flag is.number holds) out (c.is_refused.ensures.0 c.if-is_refused.true)

pub returns-then-is_refused-clause-ok : goal.returns-then-is_refused-clause-ok
returns-then-is_refused-clause-ok g c =
    let t = c.args.task.now in
    ((λ e. absurd (false≢true e)), λ (bits, overflowed, h). absurd (refusal_none t.mode t.radix t.numeral.now t.policy t.source t.target c.new.result bits overflowed (returns-then-is_refused-clause-refused g c) h))

pub returns-clause-reached : goal.returns-clause-reached
returns-clause-reached g c =
    let t = c.args.task.now in
    let found = c.in_ok-found in
    let source = c.image-in_source in
    let target = c.reformat_signed-reached in
    let read = rw c.requires.ending at found.ensures.reading in
    let is : IsRead t.mode t.radix t.numeral.now t.source found.found = read_of t.mode t.radix t.numeral.now t.source found.found (read.numeral.0 refl) read.read found.ensures.format in
    let holds : IsNumber c.number.result is.number = rw c.number.ensures is.holds in
    let in_source : ℤ = number_of_image source.result in
    let out : IsTrue target.result.is_out_of_range ↔ IsOutOfRangeBy t.policy t.target.signed t.target.width (down in_source t.source.frac t.target.frac) = rw c.frac-source_frac.ensures.frac at target.ensures.verdict in
    let source_image = source.ensures.image is.number holds (λ w. absurd (false≢true (sym c.if-is_refused.false ∙ c.is_refused.ensures.1 (w.0, inl w.1)))) in
    let target_image : IsImage t.policy t.target.signed t.target.width (down in_source t.source.frac t.target.frac) (number_of_image target.result) = rw c.frac-source_frac.ensures.frac at (target.ensures.image (λ w. absurd (false≢true (sym c.if-is_refused.false ∙ c.is_refused.ensures.1 (w.0, inr w.1))))) in
    respelled t.mode t.radix t.numeral.now t.policy t.source t.target found.found in_source (number_of_image target.result) source.result.is_out_of_range target.result.is_out_of_range is source_image (source.ensures.flag is.number holds) target_image out

pub returns-clause-wide : goal.returns-clause-wide
returns-clause-wide g c =
    let f = c.args.task.now.target in
    let target = c.reformat_signed-reached in
    in_wide f.signed f.width (number_of_image target.result) (width_most f.width target.ensures.valid.is_width) target.ensures.range

pub returns-clause-ok : goal.returns-clause-ok
returns-clause-ok g c = ((λ _. (_, (c.image-in_source.result.is_out_of_range || c.reformat_signed-reached.result.is_out_of_range), returns-clause-reached g c)), λ _. refl)

pub returns-in_err-found-clause-cost : goal.returns-in_err-found-clause-cost
returns-in_err-found-clause-cost g c = omega (arith, rw c.requires.ending at c.read_ending.ensures.cost, width_most c.args.task.now.source.width c.frac-source_frac.ensures.valid.is_width)
