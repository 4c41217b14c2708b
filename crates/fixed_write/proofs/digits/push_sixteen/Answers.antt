use Rattle.std.proofs.Common.{List, ℕ, ◌++◌, ap, ◌∙◌}
use Rattle.fixed_write.proofs.SixteenLemmas.{moved_digits_of}
use Rattle.fixed_write.proofs.digits.push_sixteen.Goals as goal

pub returns : goal.returns
returns g c =
    c.push_prefix.ensures ∙ rw (c.sixteen_digits.ensures, c.moved_up.ensures.value) (ap (λ (t : List ℕ). c.args.out.now ++ t) (moved_digits_of c.args.places c.args.number c.requires.places))
