use Rattle.std.proofs.Common.{rules, ◌≡◌, length}
use Rattle.fixed_write.proofs.LaneLemmas.{other_digits_are, other_digits_below}
use Rattle.fixed_write.proofs.digits.other_digits.Goals as goal

pub returns-clause-value : goal.returns-clause-value
returns-clause-value c =
    let long : length c.args.characters ≡ 16 = search rules in
    other_digits_are c.args.characters long

pub returns-clause-bits : goal.returns-clause-bits
returns-clause-bits c =
    let long : length c.args.characters ≡ 16 = search rules in
    other_digits_below c.args.characters long
