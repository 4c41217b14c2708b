-- The text for a line that is refused.
use Rattle.std.specs.Prelude.{ℕ, List}
use Rattle.run_engine.specs.Reply.{error_text}
use Rattle.fixed_command.specs.declared.message.Message.{Message}

-- it does not depend on the line
abbrev pub message_text : List ℕ → Message → List ℕ
message_text line message = error_text message.text.now
