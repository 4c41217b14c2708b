use Rattle.std.proofs.Common.{List, ℕ, subst, sym}
use Rattle.command_line.specs.Said.{Shows}
use Rattle.command_line.proofs.ReportLemmas.{line_found, line_whole}
use Rattle.command_line.proofs.report.Report.bytes.Goals as goal

pub returns-in-Some : goal.returns-in-Some
returns-in-Some c =
    subst (λ (l : List ℕ). Shows c.args.most l c.args.self.now.line c.name.new.self.line)
    (sym (line_found c.args.bytes.now c.in-Some.end c.in-Some.ensures)) c.name.ensures

pub returns-in-None : goal.returns-in-None
returns-in-None c =
    subst (λ (l : List ℕ). Shows c.args.most l c.args.self.now.line c.name-in-None.new.self.line)
    (sym (line_whole c.args.bytes.now c.in-None.ensures)) c.name-in-None.ensures
