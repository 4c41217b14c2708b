use Rattle.std.proofs.Common.{◌≡◌, ◌++◌, List, ℕ, length}
use Rattle.line_rejects.specs.Rejects.{Puts, sight_of}
use Rattle.line_rejects.specs.Shown.{IsShown}
use Rattle.line_rejects.proofs.rejects.Rejects.append_field.Given as goal

abbrev pub invariant-loop-rest : goal.invariant-loop-rest
invariant-loop-rest g l = record {
  name : l.self.name ≡ l.initial.self.name;
  prefix : List ℕ;
  shows : (more : List ℕ) → IsShown l.rest more → IsShown l.text (prefix ++ more);
  puts : Puts (sight_of g.K.Sink.written g.K.Sink.failures l.initial.self) (sight_of g.K.Sink.written g.K.Sink.failures l.self) prefix;
}

abbrev pub decreases-loop-rest : goal.decreases-loop-rest
decreases-loop-rest g l = length l.rest
