use Rattle.fixed_uses.proofs.TapLemmas.{some_tap}
use Rattle.fixed_uses.proofs.taps.tap.Goals as goal

pub returns-clause-some : goal.returns-clause-some
returns-clause-some c = some_tap 15 16 c.args.text.now c.from_str.result c.ok.result c.from_str.ensures c.ok.ensures.value
