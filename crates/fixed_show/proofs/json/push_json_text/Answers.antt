use Rattle.fixed_show.proofs.JsonLemmas.{text_pushed}
use Rattle.fixed_show.proofs.json.push_json_text.Goals as goal

pub returns-clause-appended : goal.returns-clause-appended
returns-clause-appended g c = text_pushed c.args.out.now c.push.new.self c.loop-byte.out c.push-2.new.self c.args.bytes.now c.loop-byte.byte-index c.loop-byte-test.false c.push.ensures c.loop-byte.invariant.0 c.push-2.ensures
