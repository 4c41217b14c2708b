use Rattle.std.proofs.Common.{rules, ◌≡◌, true, false, map}
use Rattle.fixed_constants.specs.Constants.{IsName}
use Rattle.std.specs.Char.{to_ascii_lowercase}
use Rattle.fixed_constants.specs.Forms.{IsAmong}
use Rattle.fixed_arrays.specs.Names.{AreApart, vhdl_words}
use Rattle.fixed_arrays.proofs.NameLemmas.{and_also, neither}
use Rattle.fixed_arrays.proofs.form.is_vhdl_name.Goals as goal

pub returns-then-is_name : goal.returns-then-is_name
returns-then-is_name c =
    let test : c.is_name.result ≡ true = search rules in
    and_also c.is_name.result c.has_vhdl_form.result (IsName c.args.name.now) (AreApart c.args.name.now × (¬ IsAmong vhdl_words (map to_ascii_lowercase c.args.name.now))) c.is_name.ensures test c.has_vhdl_form.ensures

pub returns-else-is_name : goal.returns-else-is_name
returns-else-is_name c =
    let test : c.is_name.result ≡ false = search rules in
    neither c.is_name.result (IsName c.args.name.now) (AreApart c.args.name.now × (¬ IsAmong vhdl_words (map to_ascii_lowercase c.args.name.now))) c.is_name.ensures test
