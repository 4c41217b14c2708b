use Rattle.std.proofs.Common.{◌++◌, ◌∷◌, [], refl, subst}
use Rattle.line_engine.proofs.Public.{ten}
use Rattle.run_engine.proofs.Public.{goes_breaks, goes_none, quiet_of}
use Rattle.run_engine.specs.LineRun.{one_more}
use Rattle.run_engine.specs.Seen.{moment}
use Rattle.fixed_pack.specs.Inner.Packing.{EndsLine}
use Rattle.fixed_pack.specs.Packed.{MakesPacked}
use Rattle.fixed_pack.proofs.PackLemmas.{line_feeds}
use Rattle.fixed_pack.proofs.packer.PackerPieces.end_piece.Goals as goal

pub returns-in-Err : goal.returns-in-Err
returns-in-Err g c = λ first bytes made spent makes.
    let Makes = MakesPacked (g.R.Pack.Packs first.rule) (g.R.Pack.Refuses first.rule) first.rule in
    let a = moment (g.I.Streams.seen c.args.out.now.io) c.args.out.now.text c.args.steps.now in
    let b = moment (g.I.Streams.seen c.make_room.new.self.io) c.make_room.new.self.text c.args.steps.now in
    let next = c.args.part.now ++ c.args._byte ∷ [] in
    goes_breaks Makes bytes made spent [] next next c.args.self.now a a b refl (goes_none Makes bytes made spent c.args.self.now a makes) c.in-Err.ensures.err refl

pub returns-in-Ok : goal.returns-in-Ok
returns-in-Ok g c = λ first bytes made spent makes.
    let old = c.args.self.now in
    line_feeds (g.R.Pack.Packs first.rule) (g.R.Pack.Refuses first.rule) first.rule old bytes made spent makes c.end_line.new.self c.args.part.now c.args._byte
    (g.I.Streams.seen c.args.out.now.io) (g.I.Streams.seen c.make_room.new.self.io) c.args.out.now.text c.make_room.new.self.text c.end_line.new.out c.args.steps.now c.end_line.new.steps c.end_line.result
    (ten c.args._byte c.requires.byte) (quiet_of c.args.part.now c.requires.part) c.in-Ok.ensures.ok
    (subst (λ r. EndsLine (g.R.Pack.Packs r) (g.R.Pack.Refuses r) (old.line.items ++ c.args.part.now) (one_more old.lines) c.make_room.new.self.text c.end_line.new.out c.end_line.new.self.lines c.end_line.new.self.kept c.end_line.result) makes.rule_is c.end_line.ensures.ended)
    c.end_line.ensures.rule c.end_line.ensures.line c.end_line.ensures.lines
