use Rattle.std.proofs.Common.{◌≡◌, ◌+◌, ◌≤◌, ℕ, List, None, Option, Some, length, arith}
use Rattle.std.proofs.lemmas.Grind.{common_steps}
use Rattle.line_engine.specs.Lines.{lines}
use Rattle.fixed_arrays.specs.Answer.{numeral_in, numerals_in}
use Rattle.fixed_arrays.specs.Inner.Elements.{PushesLine}
use Rattle.fixed_arrays.specs.declared.elements.Elements.{Elements}
use Rattle.fixed_arrays.specs.declared.rule.ArrayRule.{ArrayRule}
use Rattle.fixed_arrays.proofs.ElementLemmas.{no_elements, none_of, read_all, read_more, read_refused}
use Rattle.fixed_arrays.proofs.elements.read_elements.Goals as goal

lines_more : (r : ArrayRule) (numeral : Option (List ℕ)) (old new : Elements) → PushesLine r numeral old new → new.lines ≡ old.lines + 1
lines_more r None old new p = p.lines
lines_more r (Some line) old new p = p.lines

few_more : (r : ArrayRule) (numeral : Option (List ℕ)) (old new : Elements) → old.count ≤ old.lines → PushesLine r numeral old new → new.count ≤ new.lines
few_more r None old new few p = omega (arith, few, p.count, p.lines)
few_more r (Some line) old new few p = omega (arith, few, p.count, p.lines)

pub returns-in-Err-clause-err : goal.returns-in-Err-clause-err
returns-in-Err-clause-err g c =
    read_refused c.args.rule.now c.args.input.now c.loop-rest.rest.now c.first_line.result.1.now c.first_line.result.0.now c.loop-rest.elements c.in-Err.fault c.first_line.ensures.lines c.loop-rest.invariant.read c.in-Err.ensures.err

pub loop-rest-preserved : goal.loop-rest-preserved
loop-rest-preserved g c =
    let inv = c.loop-rest.invariant in
    let p = c.in-Ok.ensures.ok in
    let r = c.args.rule.now in
    let numeral = numeral_in r.layout.now c.first_line.result.0.now in
    record {
      read = read_more r c.args.input.now c.loop-rest.rest.now c.first_line.result.1.now c.first_line.result.0.now c.loop-rest.elements c.push_line.new.self c.first_line.ensures.lines inv.read p;
      room = omega (arith, inv.room, c.first_line.ensures.shorter, lines_more r numeral c.loop-rest.elements c.push_line.new.self p);
      few = few_more r numeral c.loop-rest.elements c.push_line.new.self inv.few p;
    }

pub returns-clause-ok : goal.returns-clause-ok
returns-clause-ok g c =
    let none : length c.loop-rest.rest.now ≡ 0 = grind (arith, common_steps, c.loop-rest-test.false, c.is_empty.ensures) in
    read_all c.args.rule.now c.args.input.now c.loop-rest.rest.now c.loop-rest.elements (none_of c.loop-rest.rest.now none) c.loop-rest.invariant.read

pub returns-then-elements-eq0-clause-err : goal.returns-then-elements-eq0-clause-err
returns-then-elements-eq0-clause-err g c =
    let none : length c.loop-rest.rest.now ≡ 0 = grind (arith, common_steps, c.loop-rest-test.false, c.is_empty.ensures) in
    let all = read_all c.args.rule.now c.args.input.now c.loop-rest.rest.now c.loop-rest.elements (none_of c.loop-rest.rest.now none) c.loop-rest.invariant.read in
    no_elements c.args.rule.now (numerals_in c.args.rule.now.layout.now (lines c.args.input.now)) c.loop-rest.elements (omega (arith, c.if-elements-eq0.true)) all
