-- What is recorded of refused lines.
use Rattle.std.specs.Prelude.{ℕ, List, take}
use Rattle.std.specs.declared.option.Option.{Option}
use Rattle.std.specs.declared.option.Option.TheVariants.{None, Some}
use Rattle.line_engine.specs.declared.refusal.WholeRefusal.{WholeRefusal}
use Rattle.fixed_command.specs.declared.watch.RefusedLine.{RefusedLine}

-- how many bytes are kept of a line, and of the message of its refusal
abbrev pub kept_bytes : ℕ
kept_bytes = 160

-- the record of the first refused line, after one more: its number, its first bytes, and the first bytes of its message
abbrev pub first_refused : Option RefusedLine → ℕ → List ℕ → List ℕ → Option RefusedLine
first_refused None number line message = Some (record {
  number = number;
  text = take kept_bytes line;
  cause = take kept_bytes message;
})
first_refused (Some first) number line message = Some first

-- the count of the refused lines of a whole input, and the first
abbrev pub count_told : Option WholeRefusal → ℕ
count_told None = 0
count_told (Some refusal) = 1

abbrev pub first_told : Option WholeRefusal → Option RefusedLine
first_told None = None
first_told (Some refusal) = first_refused None refusal.number refusal.line refusal.cause.items
