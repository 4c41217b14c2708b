use Rattle.std.proofs.Common.{rules, ◌≡◌, true, refl, inl}
use Rattle.fixed_constants.specs.Constants.{IsPassedOver}
use Rattle.fixed_constants.proofs.KnownLemmas.{knows_passed}
use Rattle.fixed_constants.proofs.ReadingLemmas.{yes_by}
use Rattle.fixed_constants.proofs.constants.add_line.Goals as goal

pub returns-then-is_passed_over-clause-added : goal.returns-then-is_passed_over-clause-added
returns-then-is_passed_over-clause-added c before knows place =
    let test : c.is_passed_over.result ≡ true = search rules in
    let passed = yes_by c.is_passed_over.result (IsPassedOver c.args.line.now) c.is_passed_over.ensures test in
    inl (passed, refl, knows_passed before c.args.line.now c.args.known.now passed knows)
