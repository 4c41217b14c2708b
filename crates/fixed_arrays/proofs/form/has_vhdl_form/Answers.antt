use Rattle.std.proofs.Common.{rules, ◌≡◌, true, false, map}
use Rattle.std.specs.Char.{to_ascii_lowercase}
use Rattle.fixed_constants.specs.Forms.{IsAmong}
use Rattle.fixed_arrays.specs.Names.{AreApart, vhdl_words}
use Rattle.fixed_arrays.proofs.NameLemmas.{and_not, neither}
use Rattle.fixed_arrays.proofs.form.has_vhdl_form.Goals as goal

pub returns-then-are_apart : goal.returns-then-are_apart
returns-then-are_apart c =
    let test : c.are_apart.result ≡ true = search rules in
    and_not c.are_apart.result c.is_vhdl_word.result (AreApart c.args.name.now) (IsAmong vhdl_words (map to_ascii_lowercase c.args.name.now)) c.are_apart.ensures test c.is_vhdl_word.ensures

pub returns-else-are_apart : goal.returns-else-are_apart
returns-else-are_apart c =
    let test : c.are_apart.result ≡ false = search rules in
    neither c.are_apart.result (AreApart c.args.name.now) (¬ (IsAmong vhdl_words (map to_ascii_lowercase c.args.name.now))) c.are_apart.ensures test
