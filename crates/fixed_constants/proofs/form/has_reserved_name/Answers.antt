use Rattle.std.proofs.Common.{rules, ◌≡◌, true, false}
use Rattle.fixed_constants.specs.Constants.{IsName, IsPassedOver}
use Rattle.fixed_constants.proofs.FormLemmas.{named_reserved, unnamed_reserved}
use Rattle.fixed_constants.proofs.ReadingLemmas.{fields_of, no_by, yes_by}
use Rattle.fixed_constants.proofs.form.has_reserved_name.Goals as goal

pub returns-then-is_name : goal.returns-then-is_name
returns-then-is_name c =
    let f = c.in-Some.fields in
    let test : c.is_passed_over.result ≡ false = search rules in
    let named : c.is_name.result ≡ true = search rules in
    let spoken = no_by c.is_passed_over.result (IsPassedOver c.args.line.now) c.is_passed_over.ensures test in
    named_reserved c.args.form c.args.guard.now c.args.line.now (fields_of c.args.line.now f.name.now f.equals.now f.literal.now f.format.now spoken c.in-Some.ensures) c.is_reserved.result (yes_by c.is_name.result (IsName f.name.now) c.is_name.ensures named) c.is_reserved.ensures

pub returns-else-is_name : goal.returns-else-is_name
returns-else-is_name c =
    let f = c.in-Some.fields in
    let test : c.is_passed_over.result ≡ false = search rules in
    let unnamed : c.is_name.result ≡ false = search rules in
    let spoken = no_by c.is_passed_over.result (IsPassedOver c.args.line.now) c.is_passed_over.ensures test in
    unnamed_reserved c.args.form c.args.guard.now c.args.line.now (fields_of c.args.line.now f.name.now f.equals.now f.literal.now f.format.now spoken c.in-Some.ensures) c.is_name.result (no_by c.is_name.result (IsName f.name.now) c.is_name.ensures unnamed) unnamed
