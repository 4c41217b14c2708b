use Rattle.std.proofs.Common.{◌≡◌, ◌≤◌, ◌<◌, ◌+◌, ◌/◌, ◌^◌, ℕ, ℤ, pos, FitsSigned, rules, arith, refl, subst}
use Rattle.std.specs.Prelude.{unsigned_abs}
use Rattle.std.specs.Int.{w128}
use Rattle.std.proofs.lemmas.Int.{ints, to_z-of_z}
use Rattle.fixed_show.specs.FormatBlock.{AreWholeDigits}
use Rattle.fixed_show.proofs.FormatLemmas.{whole_digits_are}
use Rattle.fixed_show.proofs.formats.whole_digits_of.Goals as goal

pub returns-clause-whole : goal.returns-clause-whole
returns-clause-whole c =
    let top : ℤ = c.args.top in
    let fit : FitsSigned w128 top = search rules in
    let n : ℕ = unsigned_abs top in
    let f = c.args.frac in
    let r = c.decimal_log.result in
    let low : 10 ^ r ≤ n / 2 ^ f + 1 = rw (to_z-of_z w128 top fit) at c.decimal_log.ensures.not_above in
    let high : n / 2 ^ f + 1 < 10 ^ (r + 1) = rw (to_z-of_z w128 top fit) at c.decimal_log.ensures.greatest in
    let p : pos n ≡ top = omega (arith, ints, c.requires.low) in
    subst (λ t. AreWholeDigits t f r) p (whole_digits_are n (n / 2 ^ f) f r refl low high)
