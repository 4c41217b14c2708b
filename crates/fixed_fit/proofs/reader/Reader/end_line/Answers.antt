use Rattle.std.proofs.Common.{◌≡◌, ◌∷◌, ◌++◌, [], ℕ, List, map, sym, ap, subst, arith, ◌∙◌}
use Rattle.fixed_command.specs.LaidList.{laid}
use Rattle.std.proofs.lemmas.Grind.{common_steps}
use Rattle.fixed_fit.specs.Inner.Reading.{AreKept}
use Rattle.fixed_fit.proofs.ReadingLemmas.{nil_of}
use Rattle.fixed_fit.proofs.reader.Reader.end_line.Goals as goal
use Rattle.line_engine.specs.Lines.{ended_lines}

pub add_line-requires : goal.add_line-requires
add_line-requires g c = (c.requires.0, c.requires.1, map (laid c.requires.2) (ended_lines c.requires.3), c.requires.4.lines)

pub returns-in-Ok-clause-line : goal.returns-in-Ok-clause-line
returns-in-Ok-clause-line g c = nil_of c.args.self.now.line.items (grind (arith, common_steps, c.is_empty.ensures, c.if-not-is_empty.false))

pub returns-in-Ok-clause-ended : goal.returns-in-Ok-clause-ended
returns-in-Ok-clause-ended g c = λ r a done h.
    let empty : c.args.self.now.line.items ≡ [] = nil_of c.args.self.now.line.items (grind (arith, common_steps, c.is_empty.ensures, c.if-not-is_empty.false)) in
    subst (λ (l : List ℕ). AreKept r a (done ++ l ∷ []) c.add_line.new.progress c.add_line.new.errors c.add_line.new.within) (c.numeral_of.ensures ∙ ap (λ l. laid c.args.self.now.layout (l ++ c.args.part.now)) (sym empty)) (c.in-Ok.ensures r a done h)
