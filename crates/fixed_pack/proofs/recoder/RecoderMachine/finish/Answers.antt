use Rattle.std.proofs.Common.{◌∙◌, ◌||◌, Bool, true, ap, not, sym}
use Rattle.run_engine.specs.Seen.{moment}
use Rattle.fixed_pack.specs.Recoded.{has_some}
use Rattle.fixed_pack.proofs.RecodeLemmas.{input_ends, is_left}
use Rattle.fixed_pack.proofs.recoder.RecoderMachine.finish.Goals as goal

pub returns-then-self : goal.returns-then-self
returns-then-self g c = λ first bytes made spent makes.
    let old = c.args.self.now in
    input_ends (g.R.Recode.size first.rule) (g.R.Recode.Recodes first.rule) (g.R.Recode.Refuses first.rule) g.W.WordWatch.Saw first.rule first.watch bytes made spent old makes
    (moment (g.I.Streams.seen c.args._out.now.io) c.args._out.now.text c.args._steps.now) true
    (ap (λ (b : Bool). b || has_some old.part.bytes) (sym c.if-self.true))

pub returns : goal.returns
returns g c = λ first bytes made spent makes.
    let old = c.args.self.now in
    input_ends (g.R.Recode.size first.rule) (g.R.Recode.Recodes first.rule) (g.R.Recode.Refuses first.rule) g.W.WordWatch.Saw first.rule first.watch bytes made spent old makes
    (moment (g.I.Streams.seen c.args._out.now.io) c.args._out.now.text c.args._steps.now) (not c.is_empty.result)
    (is_left c.is_empty.result old.part.bytes c.is_empty.ensures ∙ ap (λ (b : Bool). b || has_some old.part.bytes) (sym c.if-self.false))
