use Rattle.std.proofs.Common.{◌≡◌, take}
use Rattle.std.specs.Io.KnownBytes.{Consumes}
use Rattle.column_engine.specs.Rows.{byte_order_mark}
use Rattle.column_engine.proofs.begin.read_start.Given as goal

abbrev pub invariant-bytes : goal.invariant-bytes
invariant-bytes g l = record {
  same : g.S.Source.failures l.source ≡ g.S.Source.failures l.initial.source;
  taken : Consumes (g.S.Source.left l.initial.source) (g.S.Source.left l.source) l.start;
  is : l.start ≡ take l.at byte_order_mark;
}
