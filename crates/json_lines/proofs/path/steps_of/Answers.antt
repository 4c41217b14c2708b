use Rattle.std.proofs.Common.{◌≡◌, ◌∙◌, ◌-◌, ◌<◌, ◌++◌, ◌∷◌, [], Some, append-nil, ap, arith, length, map, option_map, sym}
use Rattle.std.proofs.lemmas.List.{map-append}
use Rattle.json_lines.specs.Path.{step_of, steps_of}
use Rattle.json_lines.proofs.PathLemmas.{map_twice, none_of, some_of, steps_end, steps_more, steps_none}
use Rattle.json_lines.proofs.path.steps_of.Goals as goal

pub returns-in-None-clause-refused : goal.returns-in-None-clause-refused
returns-in-None-clause-refused c = λ _.
    let front = map step_of c.steps.steps.items in
    let some : 0 < length c.steps.rest.now = some_of (length c.steps.rest.now) (sym c.is_empty.ensures ∙ c.steps-test.true) in
    c.steps.invariant.same ∙ ap (option_map (λ more. front ++ more)) (steps_none c.steps.invariant.most c.steps.rest.now some c.in-None.ensures.first)

pub steps-preserved : goal.steps-preserved
steps-preserved c =
    let inv = c.steps.invariant in
    let rest = c.steps.rest.now in
    let step = step_of c.in-Some.first.0 in
    let after = c.in-Some.first.1.now in
    let front = map step_of c.steps.steps.items in
    let back = map step_of c.push.new.self.items in
    let some : 0 < length rest = some_of (length rest) (sym c.is_empty.ensures ∙ c.steps-test.true) in
    let short : length after < length rest = c.in-Some.ensures.short in
    let here : steps_of inv.most rest ≡ option_map (λ steps. step ∷ steps) (steps_of (inv.most - 1) after) =
    steps_more inv.most rest step after some inv.few c.in-Some.ensures.first in
    let grown : back ≡ front ++ step ∷ [] = ap (map step_of) c.in-Ok.ensures.items ∙ map-append step_of c.steps.steps.items (c.in-Some.first.0 ∷ []) in
    record {
      most = inv.most - 1;
      few = omega (arith, short, inv.few);
      same = inv.same ∙ (ap (option_map (λ more. front ++ more)) here ∙ map_twice front back (steps_of (inv.most - 1) after) step grown);
    }

pub returns-clause-value : goal.returns-clause-value
returns-clause-value c =
    let front = map step_of c.steps.steps.items in
    let none = none_of c.steps.rest.now (sym c.is_empty.ensures ∙ c.steps-test.false) in
    c.steps.invariant.same ∙ (ap (λ r. option_map (λ more. front ++ more) (steps_of c.steps.invariant.most r)) none
    ∙ (ap (option_map (λ more. front ++ more)) (steps_end c.steps.invariant.most) ∙ ap Some (append-nil front)))
