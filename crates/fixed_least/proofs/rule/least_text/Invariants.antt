use Rattle.std.proofs.Common.{◌≡◌, ◌+◌, ◌-◌, ◌≤◌, List, length}
use Rattle.line_engine.specs.Output.{written_of}
use Rattle.line_engine.specs.AnswerText.{AnswerText}
use Rattle.fixed_least.specs.Least.{AreLines}
use Rattle.fixed_least.proofs.rule.least_text.Given as goal

abbrev pub invariant-loop-i : goal.invariant-loop-i
invariant-loop-i l = record {
  answers : List AnswerText;
  are_lines : AreLines l.least 0 answers;
  count : l.i ≡ length answers;
  text_is : l.text.items ≡ written_of answers;
  bound : l.i ≤ l.count + 1;
}

abbrev pub decreases-loop-i : goal.decreases-loop-i
decreases-loop-i l = l.count + 1 - l.i
