use Rattle.std.proofs.Common.{◌∙◌, inl, refl, sym}
use Rattle.std.proofs.lemmas.Bool.{false≢true}
use Rattle.fixed_bits.specs.Numbers.{number_of_image}
use Rattle.fixed_show.proofs.ShowLemmas.{image_read_as, image_unread}
use Rattle.fixed_show.proofs.show.read_image.Goals as goal

pub returns-clause-read : goal.returns-clause-read
returns-clause-read g c =
    let a = c.args in
    let p = c.in-Ok.ensures.reading.numeral.0 refl in
    image_read_as a.mode a.radix a.text.now a.format a.policy p.0 c.in-Ok.found c.number.result (number_of_image c.image-image.result) c.image-image.result.is_out_of_range p.1 (c.in-Ok.ensures.reading.read p.0 p.1) c.in-Ok.ensures.format c.number.ensures (λ v is. c.image-image.ensures.image v is (λ w. absurd (false≢true (sym c.if-is_refused.false ∙ c.is_refused.ensures.1 (w.0, inl w.1))))) c.image-image.ensures.flag

pub returns-then-is_refused-clause-unread : goal.returns-then-is_refused-clause-unread
returns-then-is_refused-clause-unread g c =
    let a = c.args in
    let p = c.in-Ok.ensures.reading.numeral.0 refl in
    image_unread a.mode a.radix a.text.now a.format a.policy p.0 c.in-Ok.found c.number.result c.image-image.result.is_out_of_range c.new.result p.1 (c.in-Ok.ensures.reading.read p.0 p.1) c.in-Ok.ensures.format c.number.ensures c.new.ensures c.image-image.ensures.flag (c.is_refused.ensures.0 c.if-is_refused.true)
