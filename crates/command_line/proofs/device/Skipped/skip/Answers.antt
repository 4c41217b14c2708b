use Rattle.std.proofs.Common.{◌-◌, ◌≤◌, drop, length-take, option_map, take, sym, arith}
use Rattle.std.proofs.KnownBytes.{Keeps-trans}
use Rattle.std.specs.Io.KnownBytes.{Consumes}
use Rattle.command_line.proofs.DeviceLemmas.{skipped}
use Rattle.command_line.proofs.device.Skipped.skip.Goals as goal

pub parts-preserved : goal.parts-preserved
parts-preserved g c =
    let s = c.parts.self in
    let before = g.R.Read.remaining s.reader in
    let after = g.R.Read.remaining c.read.new.self in
    let count = c.in-Ok.count in
    let most : count ≤ s.left = omega (arith, c.in-Ok.ensures.bound.0, c.min-most.ensures, c.read.auto.buf, length-take c.min-most.result c.parts.bytes) in
    let took : Consumes before after (take count c.read.new.buf) = c.in-Ok.ensures.bytes.0 in
    Keeps-trans _ (option_map (drop s.left) before) (option_map (drop (s.left - count)) after) c.parts.invariant
    (skipped s.left count _ before after (sym c.in-Ok.ensures.bound.1) most took)
