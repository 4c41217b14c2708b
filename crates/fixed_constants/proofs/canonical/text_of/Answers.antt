use Rattle.std.proofs.Common.{◌≡◌, ◌+◌, ◌++◌, ℕ, arith, sym, suc, drop, subst}
use Rattle.std.proofs.lemmas.Option.{slice_get_past}
use Rattle.fixed_constants.specs.Canonical.{canonical_text}
use Rattle.fixed_constants.proofs.ListLemmas.{text_more, text_all}
use Rattle.fixed_constants.proofs.canonical.text_of.Goals as goal

pub loop-i-preserved : goal.loop-i-preserved
loop-i-preserved c =
    let next : suc c.loop-i.i ≡ c.loop-i.i + 1 = omega arith in
    let P : ℕ → Type 0 = λ n. canonical_text c.args.constants.now ≡ c.push_entry.new.text.items ++ canonical_text (drop n c.args.constants.now) in
    subst P next (text_more c.args.constants.now c.loop-i.i c.in-Some.constant.now c.loop-i.text.items c.push_entry.new.text.items (sym c.in-Some.ensures) c.loop-i.invariant c.in_ok-push_entry.ensures)

pub returns : goal.returns
returns c = text_all c.args.constants.now c.loop-i.i c.loop-i.text.items (slice_get_past c.args.constants.now c.loop-i.i (omega (arith, c.loop-i-test.false, c.len-i-end.ensures))) c.loop-i.invariant
