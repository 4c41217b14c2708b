use Rattle.std.proofs.Common.{rules, ◌≡◌, ◌++◌, true}
use Rattle.fixed_arrays.specs.Names.{IsCName, count_ending, frac_ending}
use Rattle.fixed_arrays.proofs.NameLemmas.{and_also}
use Rattle.fixed_arrays.proofs.form.is_c_array_name.Goals as goal

pub returns-then-is_c_name : goal.returns-then-is_c_name
returns-then-is_c_name c =
    let test : c.is_c_name.result ≡ true = search rules in
    let guard = c.args.guard.now in
    let name = c.args.name.now in
    and_also c.is_c_name.result c.are_macro_names.result (IsCName guard name) (IsCName guard (name ++ count_ending) × IsCName guard (name ++ frac_ending)) c.is_c_name.ensures test c.are_macro_names.ensures
