use Rattle.std.proofs.Common.{◌∙◌, ◌++◌, ap, sym, List, ℕ}
use Rattle.fixed_write.specs.Texts.{last_digits}
use Rattle.fixed_write.proofs.BaseLemmas.{last_digits_case}
use Rattle.fixed_write.proofs.base.push_last_in.Goals as goal

pub returns-then-this-eq10 : goal.returns-then-this-eq10
returns-then-this-eq10 g c =
    c.push_places.ensures ∙ ap (λ (t : List ℕ). c.args.out.now ++ t) (sym (last_digits_case c.args.upper c.args.places c.args.number) ∙ ap (λ b. last_digits b c.args.upper c.args.places c.args.number) (sym c.if-this-eq10.true))
