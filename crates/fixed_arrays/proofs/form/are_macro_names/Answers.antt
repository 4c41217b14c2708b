use Rattle.std.proofs.Common.{rules, ◌≡◌, ◌++◌, true}
use Rattle.fixed_arrays.specs.Names.{IsCName, count_ending, frac_ending}
use Rattle.fixed_arrays.proofs.NameLemmas.{and_also}
use Rattle.fixed_arrays.proofs.form.are_macro_names.Goals as goal

pub returns-then-is_c_name_with : goal.returns-then-is_c_name_with
returns-then-is_c_name_with c =
    let test : c.is_c_name_with.result ≡ true = search rules in
    let guard = c.args.guard.now in
    let name = c.args.name.now in
    and_also c.is_c_name_with.result c.is_c_name_with-then-is_c_name_with.result (IsCName guard (name ++ count_ending)) (IsCName guard (name ++ frac_ending)) c.is_c_name_with.ensures test c.is_c_name_with-then-is_c_name_with.ensures
