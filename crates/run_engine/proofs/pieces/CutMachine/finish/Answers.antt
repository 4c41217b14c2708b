use Rattle.run_engine.specs.Seen.{moment}
use Rattle.run_engine.specs.declared.pieces.Cut.{Cut}
use Rattle.run_engine.proofs.MachineLemmas.{finishes_as}
use Rattle.run_engine.proofs.pieces.CutMachine.finish.Goals as goal

pub finish-requires : goal.finish-requires
finish-requires g c = let r = c.requires.known in record { known = (r.0.0, r.1, r.2, r.3, r.4) }

pub returns : goal.returns
returns g c = λ first bytes made spent makes.
    let a = moment (g.I.Streams.seen c.args.out.now.io) c.args.out.now.text c.args.steps.now in
    let d = moment (g.I.Streams.seen c.finish.new.out.io) c.finish.new.out.text c.finish.new.steps in
    let into = λ (p : g.row.P.Denot). let it : Cut g.row.P.Denot = record { 0 = p } in it in
    finishes_as (g.P.Pieces.Makes first.0) _ into (λ bs text n how p h. h) bytes made spent c.finish.new.self a d c.finish.result (c.finish.ensures first.0 bytes made spent makes)
