use Rattle.std.proofs.Common.{arith, rules, ap, ◌∙◌, ◌≡◌, false, length, refl}
use Rattle.fixed_write.specs.Texts.{whole_digits}
use Rattle.fixed_write.proofs.DigitLemmas.{last_digits_length}
use Rattle.fixed_write.proofs.SixteenLemmas.{whole_counted}
use Rattle.fixed_write.proofs.digits.push_short_whole.Goals as goal

pub push_sixteen-requires : goal.push_sixteen-requires
push_sixteen-requires g c =
    let long : length (whole_digits 10 false c.args.number) ≡ c.digit_count.result = ap length (whole_counted _ _ c.digit_count.ensures.some c.digit_count.ensures.low c.digit_count.ensures.high) ∙ last_digits_length 10 false c.digit_count.result c.args.number in
    (search rules, (c.digit_count.ensures.sixteen, (c.digit_count.ensures.high, omega (arith, c.requires.room))))

pub returns : goal.returns
returns g c = c.push_sixteen.ensures ∙ rw (whole_counted _ _ c.digit_count.ensures.some c.digit_count.ensures.low c.digit_count.ensures.high) refl
