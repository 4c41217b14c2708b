use Rattle.std.proofs.Common.{◌-◌, ◌+◌, ◌<◌, ℕ, List, arith, drop, length, max, subst}
use Rattle.command_line.specs.Said.{Shows}
use Rattle.command_line.proofs.ReportLemmas.{shows_end, shows_more, shows_none}
use Rattle.command_line.proofs.report.Report.name.Goals as goal

pub returns-then-is_empty : goal.returns-then-is_empty
returns-then-is_empty c =
    c.characters.invariant c.characters.self.line
    (shows_none (c.args.most - c.characters.count) c.characters.rest.now c.characters.self.line (grind (arith, c.is_empty.ensures, c.if-is_empty.true)))

pub returns : goal.returns
returns c =
    c.characters.invariant c.characters.self.line
    (shows_end (c.args.most - c.characters.count) c.characters.rest.now c.characters.self.line (omega (arith, c.characters-test.false)))

pub characters-preserved : goal.characters-preserved
characters-preserved c after more =
    let shows = c.character-rest.ensures in
    let some : 0 < length c.characters.rest.now = grind (arith, c.is_empty.ensures, c.if-is_empty.false) in
    let left = c.args.most - (c.characters.count + 1) in
    c.characters.invariant after
    (shows_more (c.args.most - c.characters.count) left c.characters.rest.now c.characters.self.line after shows.0
    (omega (arith, c.characters-test.true)) some shows.1
    (subst (λ (l : List ℕ). Shows left (drop (max shows.0 1) c.characters.rest.now) l after) shows.3
    (subst (λ (l : List ℕ). Shows left l c.character-rest.new.self.line after) shows.2 more)))
