use Rattle.std.proofs.Common.{rules, ◌≡◌, true, false}
use Rattle.fixed_constants.specs.Constants.{IsName}
use Rattle.fixed_constants.specs.Forms.{IsReserved}
use Rattle.fixed_arrays.proofs.NameLemmas.{and_not, neither}
use Rattle.fixed_arrays.proofs.form.is_free_name.Goals as goal

pub returns-then-is_name : goal.returns-then-is_name
returns-then-is_name c =
    let test : c.is_name.result ≡ true = search rules in
    and_not c.is_name.result c.is_reserved.result (IsName c.args.name.now) (IsReserved c.args.language c.args.guard.now c.args.name.now) c.is_name.ensures test c.is_reserved.ensures

pub returns-else-is_name : goal.returns-else-is_name
returns-else-is_name c =
    let test : c.is_name.result ≡ false = search rules in
    neither c.is_name.result (IsName c.args.name.now) (¬ (IsReserved c.args.language c.args.guard.now c.args.name.now)) c.is_name.ensures test
