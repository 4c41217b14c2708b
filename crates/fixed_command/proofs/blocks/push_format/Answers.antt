use Rattle.std.proofs.Common.{inl, inr, refl}
use Rattle.fixed_command.proofs.blocks.push_format.Goals as goal

pub returns-in-Some-clause-block : goal.returns-in-Some-clause-block
returns-in-Some-clause-block g c =
    let block = c.format_block.ensures.block in
    record {
      text = block.text;
      is_text = inl (record { format = c.in-Some.format; word_is = c.in-Some.ensures; text = block.is_text; clean = refl });
      appended = block.appended;
      short = block.short;
    }

pub returns-in-None-clause-block : goal.returns-in-None-clause-block
returns-in-None-clause-block g c =
    let decimal = c.push_decimal_block.ensures.block in
    record {
      text = decimal.text;
      is_text = inr (record { none = c.in-None.ensures; decimal = decimal.is_text });
      appended = decimal.appended;
      short = decimal.short;
    }
