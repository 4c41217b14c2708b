use Rattle.std.proofs.Common.{arith, sym}
use Rattle.fixed_command.proofs.FieldLemmas.{read_more}
use Rattle.fixed_command.proofs.field.write_read.Goals as goal

pub bytes-preserved : goal.bytes-preserved
bytes-preserved c =
    let form = c.args.form.now in
    let inv = c.bytes.invariant in
    record {
      text_is = rw (c.push_read.ensures.text, inv.text_is) (sym (read_more form.thousands.now form.decimal c.args.bytes.now c.bytes.at (omega arith)));
      short = omega (arith, c.push_read.ensures.short, inv.short);
    }
