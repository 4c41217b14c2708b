use Rattle.std.proofs.Common.{arith, rules, ◌≡◌, ◌∙◌, ◌++◌, ap, sym, false, List, ℕ, length}
use Rattle.fixed_write.specs.Texts.{whole_digits}
use Rattle.fixed_write.proofs.BaseLemmas.{whole_digits_case}
use Rattle.fixed_write.proofs.base.push_whole_in.Goals as goal

pub push_whole-requires : goal.push_whole-requires
push_whole-requires g c =
    let same : whole_digits g.row.BASE c.args.upper c.args.number ≡ whole_digits 10 false c.args.number = ap (λ b. whole_digits b c.args.upper c.args.number) c.if-this-eq10.true ∙ whole_digits_case c.args.upper c.args.number in
    (search rules, omega (arith, c.requires.room, ap length same))

pub returns-then-this-eq10 : goal.returns-then-this-eq10
returns-then-this-eq10 g c =
    let same : whole_digits g.row.BASE c.args.upper c.args.number ≡ whole_digits 10 false c.args.number = ap (λ b. whole_digits b c.args.upper c.args.number) c.if-this-eq10.true ∙ whole_digits_case c.args.upper c.args.number in
    c.push_whole.ensures ∙ ap (λ (t : List ℕ). c.args.out.now ++ t) (sym same)
