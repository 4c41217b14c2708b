use Rattle.std.proofs.Common.{◌≡◌, ◌++◌, drop}
use Rattle.fixed_constants.specs.Forms.{form_lines}
use Rattle.fixed_constants.proofs.sources.push_lines.Given as goal

abbrev pub invariant-loop-i : goal.invariant-loop-i
invariant-loop-i g l = l.initial.text.items ++ form_lines l.form l.constants ≡ l.text.items ++ form_lines l.form (drop l.i l.constants)
