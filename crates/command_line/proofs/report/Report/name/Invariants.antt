use Rattle.std.proofs.Common.{◌-◌, List, ℕ}
use Rattle.command_line.specs.Said.{Shows}
use Rattle.command_line.proofs.report.Report.name.Given as goal

abbrev pub invariant-characters : goal.invariant-characters
invariant-characters l = (after : List ℕ) → Shows (l.most - l.count) l.rest l.self.line after
    → Shows l.most l.bytes l.initial.self.line after
