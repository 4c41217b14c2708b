use Rattle.std.proofs.Common.{[], refl}
use Rattle.run_engine.proofs.Public.{puts_none, quiet_of}
use Rattle.run_engine.specs.Seen.{moment}
use Rattle.fixed_pack.specs.declared.packer.Packer.{Packer}
use Rattle.fixed_pack.proofs.PackLemmas.{line_lacks, part_goes}
use Rattle.fixed_pack.proofs.packer.PackerPieces.keep.Goals as goal

pub returns-in-Err : goal.returns-in-Err
returns-in-Err g c = λ first bytes made spent makes.
    let old = c.args.self.now in
    let new : Packer g.row.R.Denot = record { rule = old.rule; line = c.append.new.bytes; lines = old.lines; kept = old.kept } in
    let seen = g.I.Streams.seen c.args._out.now.io in
    let held = c.args._out.now.text in
    let steps = c.args._steps.now in
    record {
      some = [];
      rest = c.args.part.now;
      cut = refl;
      goes = line_lacks (g.R.Pack.Packs first.rule) (g.R.Pack.Refuses first.rule) first.rule old bytes made spent makes new seen seen held held held steps steps (puts_none seen held) refl;
    }

pub returns-in-Ok : goal.returns-in-Ok
returns-in-Ok g c = λ first bytes made spent makes.
    let old = c.args.self.now in
    let new : Packer g.row.R.Denot = record { rule = old.rule; line = c.append.new.bytes; lines = old.lines; kept = old.kept } in
    part_goes (g.R.Pack.Packs first.rule) (g.R.Pack.Refuses first.rule) first.rule old bytes made spent makes new c.args.part.now
    (moment (g.I.Streams.seen c.args._out.now.io) c.args._out.now.text c.args._steps.now) (quiet_of c.args.part.now c.requires.part) c.in-Ok.ensures.ok refl refl
