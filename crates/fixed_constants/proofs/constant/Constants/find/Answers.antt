use Rattle.std.proofs.Common.{◌≡◌, ◌∙◌, ◌+◌, ℕ, arith, sym, drop, suc, subst}
use Rattle.std.proofs.lemmas.Bool.{false≢true}
use Rattle.std.proofs.lemmas.Option.{slice_get_past}
use Rattle.std.proofs.lemmas.Slice.Eq.{bytes_eq-Decides}
use Rattle.fixed_constants.proofs.ListLemmas.{FindsSame, finds_here, finds_more, finds_none}
use Rattle.fixed_constants.proofs.constant.Constants.find.Goals as goal

pub returns-then-eq : goal.returns-then-eq
returns-then-eq c =
    let same = (bytes_eq-Decides c.name.result.now c.args.name.now).0 (sym c.eq.ensures ∙ c.if-eq.true) in
    finds_here c.args.name.now c.args.self.now c.loop-i.i c.in_ok-constant.constant.now (sym (c.in_ok-constant.ensures)) (sym c.name.ensures ∙ same) c.loop-i.invariant

pub loop-i-preserved : goal.loop-i-preserved
loop-i-preserved c =
    let next : suc c.loop-i.i ≡ c.loop-i.i + 1 = omega arith in
    let P : ℕ → Type 0 = λ n. FindsSame c.args.name.now c.args.self.now (drop n c.args.self.now) in
    let differs : c.in_ok-constant.constant.now.name ≡ c.args.name.now → ⊥ = λ same. false≢true (sym (sym c.eq.ensures ∙ c.if-eq.false) ∙ (bytes_eq-Decides c.name.result.now c.args.name.now).1 (c.name.ensures ∙ same)) in
    subst P next (finds_more c.args.name.now c.args.self.now c.loop-i.i c.in_ok-constant.constant.now (sym (c.in_ok-constant.ensures)) differs c.loop-i.invariant)

pub returns : goal.returns
returns c = finds_none c.args.name.now c.args.self.now c.loop-i.i (slice_get_past c.args.self.now c.loop-i.i (omega (arith, c.loop-i-test.false, c.len-i-end.ensures))) c.loop-i.invariant
