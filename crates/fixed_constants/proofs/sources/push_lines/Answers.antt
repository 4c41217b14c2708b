use Rattle.std.proofs.Common.{◌≡◌, ◌+◌, ◌++◌, ℕ, arith, sym, suc, drop, subst}
use Rattle.std.proofs.lemmas.Option.{slice_get_past}
use Rattle.fixed_constants.specs.Forms.{form_lines}
use Rattle.fixed_constants.proofs.ListLemmas.{lines_all, lines_more}
use Rattle.fixed_constants.proofs.sources.push_lines.Goals as goal

pub loop-i-preserved : goal.loop-i-preserved
loop-i-preserved g c =
    let next : suc c.loop-i.i ≡ c.loop-i.i + 1 = omega arith in
    let P : ℕ → Type 0 = λ n. c.args.text.now.items ++ form_lines c.args.form c.args.constants.now ≡ c.push_line.new.text.items ++ form_lines c.args.form (drop n c.args.constants.now) in
    subst P next (lines_more c.args.form c.args.constants.now c.loop-i.i c.in-Some.constant.now c.args.text.now.items c.loop-i.text.items c.push_line.new.text.items (sym c.in-Some.ensures) c.loop-i.invariant c.in_ok-push_line.ensures)

pub returns : goal.returns
returns g c = lines_all c.args.form c.args.constants.now c.loop-i.i c.args.text.now.items c.loop-i.text.items (slice_get_past c.args.constants.now c.loop-i.i (omega (arith, c.loop-i-test.false, c.len-i-end.ensures))) c.loop-i.invariant
