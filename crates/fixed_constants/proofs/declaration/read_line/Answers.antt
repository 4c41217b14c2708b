use Rattle.std.proofs.Common.{rules, ◌≡◌, true, false, refl, FitsSigned}
use Rattle.std.specs.Int.{w128}
use Rattle.std.proofs.lemmas.Int.{to_z-of_z}
use Rattle.fixed_constants.specs.Constants.{IsName, equals_sign}
use Rattle.fixed_constants.proofs.ReadingLemmas.{fields_of, no_by, yes_by}
use Rattle.fixed_constants.proofs.declaration.read_line.Goals as goal

pub returns-then-not-is_name-clause-refused : goal.returns-then-not-is_name-clause-refused
returns-then-not-is_name-clause-refused c before =
    let f = c.in-Some.fields in
    let test : c.is_name.result ≡ false = search rules in
    (fields_of c.args.line.now f.name.now f.equals.now f.literal.now f.format.now c.requires c.in-Some.ensures, no_by c.is_name.result (IsName f.name.now) c.is_name.ensures test)

pub returns-then-not-is_equals_sign-clause-refused : goal.returns-then-not-is_equals_sign-clause-refused
returns-then-not-is_equals_sign-clause-refused c before =
    let f = c.in-Some.fields in
    let named : c.is_name.result ≡ true = search rules in
    let test : c.is_equals_sign.result ≡ false = search rules in (
      fields_of c.args.line.now f.name.now f.equals.now f.literal.now f.format.now c.requires c.in-Some.ensures,
      yes_by c.is_name.result (IsName f.name.now) c.is_name.ensures named,
      no_by c.is_equals_sign.result (f.equals.now ≡ equals_sign) c.is_equals_sign.ensures test,
    )

pub returns-in_default-format_word-clause-refused : goal.returns-in_default-format_word-clause-refused
returns-in_default-format_word-clause-refused c before =
    let f = c.in-Some.fields in
    let named : c.is_name.result ≡ true = search rules in
    let equal : c.is_equals_sign.result ≡ true = search rules in (
      fields_of c.args.line.now f.name.now f.equals.now f.literal.now f.format.now c.requires c.in-Some.ensures,
      record { name = yes_by c.is_name.result (IsName f.name.now) c.is_name.ensures named; equals = yes_by c.is_equals_sign.result (f.equals.now ≡ equals_sign) c.is_equals_sign.ensures equal },
      c.in_default-format_word.ensures,
    )

pub returns-in-Ok-clause-spells : goal.returns-in-Ok-clause-spells
returns-in-Ok-clause-spells c =
    let f = c.in-Some.fields in
    let named : c.is_name.result ≡ true = search rules in
    let equal : c.is_equals_sign.result ≡ true = search rules in
    let fits : FitsSigned w128 c.in-Ok.bits = search rules in
    rw (to_z-of_z w128 c.in-Ok.bits fits) (record {
      fields = fields_of c.args.line.now f.name.now f.equals.now f.literal.now f.format.now c.requires c.in-Some.ensures;
      head = record { name = yes_by c.is_name.result (IsName f.name.now) c.is_name.ensures named; equals = yes_by c.is_equals_sign.result (f.equals.now ≡ equals_sign) c.is_equals_sign.ensures equal };
      format = c.in-Some-format_word.ensures;
      literal = c.in-Ok.ensures.bits;
      name = refl;
    })

pub returns-in-Err-clause-refused : goal.returns-in-Err-clause-refused
returns-in-Err-clause-refused c before =
    let f = c.in-Some.fields in
    let named : c.is_name.result ≡ true = search rules in
    let equal : c.is_equals_sign.result ≡ true = search rules in (
      fields_of c.args.line.now f.name.now f.equals.now f.literal.now f.format.now c.requires c.in-Some.ensures,
      record { name = yes_by c.is_name.result (IsName f.name.now) c.is_name.ensures named; equals = yes_by c.is_equals_sign.result (f.equals.now ≡ equals_sign) c.is_equals_sign.ensures equal },
      c.in-Some-format_word.format,
      c.in-Some-format_word.ensures,
      c.in-Err.ensures.refused,
    )
