use Rattle.std.proofs.Common.{◌≡◌, ◌-◌, ◌/◌, ◌^◌, ◌++◌, ◌+◌, ◌∷◌, [], ℕ, List, length, length-append, ap, ◌∙◌, arith, refl}
use Rattle.fixed_write.specs.Texts.{decimal_text}
use Rattle.fixed_show.proofs.LineLemmas.{text_short}
use Rattle.fixed_show.proofs.NarrowLemmas.{below_one, fraction_short}
use Rattle.fixed_show.proofs.narrow.push_below_one.Goals as goal

pub returns-clause-text : goal.returns-clause-text
returns-clause-text g c =
    let n : ℕ = c.args.error.number in
    let p : ℕ = c.args.error.places in
    let l : ℕ = c.trimmed-number.result.1 in
    let z : ℕ = p - l in
    let text : List ℕ = decimal_text c.args.error.is_negative (n / 10 ^ z) (p - z) in
    let appended : c.push_fraction.new.out ≡ c.args.out.now ++ text = below_one c.args.error.is_negative c.args.out.now c.push_sign.new.out c.push.new.self c.push_fraction.new.out n p z c.trimmed-number.result.0 l c.requires.below (omega arith) (omega (arith, c.trimmed-number.ensures.within)) c.trimmed-number.ensures.number c.push_sign.ensures.appended c.push.ensures c.push_fraction.ensures in
    let one : length c.push.new.self ≡ length c.push_sign.new.out + 1 = ap length c.push.ensures ∙ length-append c.push_sign.new.out (48 ∷ []) in
    let rest = fraction_short c.push.new.self c.push_fraction.new.out c.trimmed-number.result.0 l c.push_fraction.ensures in
    record {
      text = text;
      is_text = record { zeros = z; trailing = c.trimmed-number.ensures.zeros; text_is = refl };
      appended = appended;
      short = text_short c.args.out.now c.push_fraction.new.out text 1298 appended (omega (arith, one, rest, c.push_sign.ensures.short, c.trimmed-number.ensures.within, c.requires.few));
    }

pub returns-clause-short : goal.returns-clause-short
returns-clause-short g c =
    let l : ℕ = c.trimmed-number.result.1 in
    let one : length c.push.new.self ≡ length c.push_sign.new.out + 1 = ap length c.push.ensures ∙ length-append c.push_sign.new.out (48 ∷ []) in
    let rest = fraction_short c.push.new.self c.push_fraction.new.out c.trimmed-number.result.0 l c.push_fraction.ensures in
    omega (arith, one, rest, c.push_sign.ensures.short, c.trimmed-number.ensures.within, c.requires.few)
