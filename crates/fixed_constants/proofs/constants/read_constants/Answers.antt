use Rattle.std.proofs.Common.{◌≡◌, ◌+◌, ◌∷◌, ◌++◌, [], ℕ, List, length, refl, sym, ap, ◌∙◌, subst, arith, length-append, append-nil}
use Rattle.std.proofs.lemmas.Grind.{common_steps}
use Rattle.line_engine.specs.Lines.{lines}
use Rattle.fixed_constants.specs.Constants.{ConstantParts, Declare, FailAt, IsConstantsOf}
use Rattle.fixed_constants.proofs.KnownLemmas.{line_continues, line_knows}
use Rattle.fixed_constants.proofs.ListLemmas.{nil_of}
use Rattle.fixed_constants.proofs.constants.read_constants.Goals as goal

pub loop-rest-preserved : goal.loop-rest-preserved
loop-rest-preserved c =
    let inv = c.loop-rest.invariant in
    let line = c.first_line.result.0.now in
    let after = lines c.first_line.result.1.now in
    let place : c.loop-rest.number + 1 ≡ length inv.done + 1 = omega (arith, inv.count) in
    let adds = c.in-Ok.ensures.added inv.done inv.knows place in
    let go = line_continues inv.done line c.loop-rest.entries.items c.add_line.new.entries.items c.add_line.new.known adds in
    let first = c.first_line.ensures.lines in
    record {
      done = inv.done ++ line ∷ [];
      count = omega (arith, place, length-append inv.done (line ∷ []));
      room = omega (arith, inv.room, c.first_line.ensures.shorter);
      knows = line_knows inv.done line c.loop-rest.entries.items c.add_line.new.entries.items c.add_line.new.known adds;
      declare = λ more d. go.declare after c.args.text.now more (λ u v. inv.declare u (let P : List (List ℕ) → Type 0 = λ l. Declare inv.done l u in subst P (sym first) v)) d;
      fail = λ p fault f. inv.fail p fault (let P : List (List ℕ) → Type 0 = λ l. FailAt inv.done l p fault in subst P (sym first) (go.fail after p fault f));
    }

pub returns-clause-constants : goal.returns-clause-constants
returns-clause-constants c =
    let inv = c.loop-rest.invariant in
    let none : length c.loop-rest.rest.now ≡ 0 = grind (arith, common_steps, c.loop-rest-test.false, c.is_empty.ensures) in
    let empty : c.loop-rest.rest.now ≡ [] = nil_of c.loop-rest.rest.now none in
    let P : List (List ℕ) → Type 0 = λ l. Declare inv.done l [] in
    let last : Declare inv.done (lines c.loop-rest.rest.now) [] = subst P (sym (ap lines empty)) refl in
    let T : List ConstantParts → Type 0 = λ t. IsConstantsOf c.args.text.now t in
    let same : c.loop-rest.entries.items ++ [] ≡ c.of.result = append-nil c.loop-rest.entries.items ∙ sym c.of.ensures in
    subst T same (inv.declare [] last)
