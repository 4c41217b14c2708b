use Rattle.std.proofs.Common.{◌≡◌, ◌+◌, ◌++◌, ℕ, arith, sym, suc, drop, subst}
use Rattle.std.proofs.lemmas.Option.{slice_get_past}
use Rattle.fixed_arrays.specs.Table.{literal_lines}
use Rattle.fixed_arrays.proofs.LiteralLemmas.{lines_all, lines_more, range_at}
use Rattle.fixed_arrays.proofs.literals.push_literals.Goals as goal

pub push_literal-requires : goal.push_literal-requires
push_literal-requires g c = range_at c.args.frame.now.format c.args.constants.now c.loop-i.i c.in-Some.constant.now (sym c.in-Some.ensures) c.requires

pub loop-i-preserved : goal.loop-i-preserved
loop-i-preserved g c =
    let next : suc c.loop-i.i ≡ c.loop-i.i + 1 = omega arith in
    let P : ℕ → Type 0 = λ n. c.args.text.now.items ++ literal_lines c.args.frame.now 0 c.args.constants.now ≡ c.push_literal.new.text.items ++ literal_lines c.args.frame.now (c.loop-i.i + 1) (drop n c.args.constants.now) in
    subst P next (lines_more c.args.frame.now c.args.constants.now c.loop-i.i c.in-Some.constant.now c.args.text.now.items c.loop-i.text.items c.push_literal.new.text.items (sym c.in-Some.ensures) c.loop-i.invariant c.in_ok-push_literal.ensures)

pub returns : goal.returns
returns g c = lines_all c.args.frame.now c.args.constants.now c.loop-i.i c.args.text.now.items c.loop-i.text.items (slice_get_past c.args.constants.now c.loop-i.i (omega (arith, c.loop-i-test.false, c.len-i-end.ensures))) c.loop-i.invariant
