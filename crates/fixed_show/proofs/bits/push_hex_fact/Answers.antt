use Rattle.fixed_show.proofs.HexLemmas.{hex_pushed}
use Rattle.fixed_show.proofs.bits.push_hex_fact.Goals as goal

pub returns-clause-appended : goal.returns-clause-appended
returns-clause-appended g c = hex_pushed c.args.form c.args.out.now c.push_label.new.out c.push_bytes.new.self c.push_hex_digits.new.out c.push.new.self c.args.width c.args.word c.end_byte.result c.push_label.ensures.appended c.push_bytes.ensures c.push_hex_digits.ensures.appended c.end_byte.ensures c.push.ensures
