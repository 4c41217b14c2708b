use Rattle.std.proofs.Common.{rules, ◌≡◌, ◌∷◌, ◌++◌, []}
use Rattle.fixed_arrays.proofs.NameLemmas.{apart_by}
use Rattle.fixed_arrays.proofs.form.are_apart.Goals as goal

pub returns : goal.returns
returns c =
    let same : c.as_bytes.result.now ≡ 95 ∷ (c.args.name.now ++ 95 ∷ []) = search rules in
    apart_by c.args.name.now c.as_bytes.result.now c.find.result c.is_none.result same c.find.ensures c.is_none.ensures
