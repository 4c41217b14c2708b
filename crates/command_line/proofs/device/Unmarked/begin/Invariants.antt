use Rattle.std.proofs.Common.{◌≡◌, ◌-◌, None, length}
use Rattle.std.specs.Io.KnownBytes.{Keeps}
use Rattle.command_line.specs.Device.{left_after_mark}
use Rattle.command_line.proofs.device.Unmarked.begin.Given as goal

abbrev pub invariant-head : goal.invariant-head
invariant-head g l = record {
  unread : l.self.given ≡ None;
  same : Keeps (left_after_mark g.R.Read.remaining l.initial.self) (left_after_mark g.R.Read.remaining l.self);
}

abbrev pub decreases-head : goal.decreases-head
decreases-head g l = 3 - length l.self.head
