use Rattle.std.proofs.Common.{rules, ◌≡◌, ◌↔◌, ◌++◌, IsTrue, ℕ, List, subst}
use Rattle.fixed_arrays.specs.Names.{IsCName}
use Rattle.fixed_arrays.proofs.form.is_c_name_with.Goals as goal

pub returns : goal.returns
returns c =
    let same : c.as_bytes.result.now ≡ c.args.name.now ++ c.args.ending.now = search rules in
    let P : List ℕ → Type 0 = λ n. IsTrue c.is_c_name.result ↔ IsCName c.args.guard.now n in
    subst P same c.is_c_name.ensures
