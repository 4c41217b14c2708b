use Rattle.std.proofs.Common.{◌∷◌, ◌++◌, [], ℕ, List, ap, map, subst, ◌∙◌}
use Rattle.fixed_command.specs.LaidList.{laid}
use Rattle.fixed_fit.specs.Inner.Reading.{AreKept}
use Rattle.fixed_fit.proofs.reader.Reader.end_long_line.Goals as goal
use Rattle.line_engine.specs.Lines.{ended_lines}

pub add_line-requires : goal.add_line-requires
add_line-requires g c = (c.requires.0, c.requires.1, map (laid c.requires.2) (ended_lines c.requires.3), c.requires.4.lines)

pub returns-in-Ok-clause-ended : goal.returns-in-Ok-clause-ended
returns-in-Ok-clause-ended g c = λ r a done h.
    subst (λ (l : List ℕ). AreKept r a (done ++ l ∷ []) c.add_line.new.progress c.add_line.new.errors c.add_line.new.within) (c.numeral_of.ensures ∙ ap (laid c.args.self.now.layout) (c.deref.ensures.value ∙ c.in_ok-extend.ensures)) (c.in-Ok.ensures r a done h)
