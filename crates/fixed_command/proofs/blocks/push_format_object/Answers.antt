use Rattle.std.proofs.Common.{inl, inr, refl}
use Rattle.fixed_command.proofs.blocks.push_format_object.Goals as goal

pub returns-in-Some-clause-object : goal.returns-in-Some-clause-object
returns-in-Some-clause-object g c =
    let object = c.format_object.ensures.object in
    record {
      text = object.text;
      is_text = inl (record { format = c.in-Some.format; word_is = c.in-Some.ensures; text = object.is_text; clean = refl });
      appended = object.appended;
      short = object.short;
    }

pub returns-in-None-clause-object : goal.returns-in-None-clause-object
returns-in-None-clause-object g c =
    let decimal = c.push_decimal_object.ensures.object in
    record {
      text = decimal.text;
      is_text = inr (record { none = c.in-None.ensures; decimal = decimal.is_text });
      appended = decimal.appended;
      short = decimal.short;
    }
