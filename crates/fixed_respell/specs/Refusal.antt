-- The message and the text of a refusal.
use Rattle.std.specs.Prelude.{ℕ, List}
use Rattle.fixed_numeral.specs.Messages.{message_of}
use Rattle.run_engine.specs.Reply.{error_text}
use Rattle.fixed_respell.specs.declared.refusal.Refusal.{Refusal}
use Rattle.fixed_respell.specs.declared.refusal.Refusal.TheVariants.{Line, Numeral}

-- the message of a refusal, given the messages of faults
abbrev pub refusal_message : {F : Type 0} → (F → List ℕ) → Refusal F → List ℕ
refusal_message text (Line fault) = text fault
refusal_message text (Numeral kind) = message_of kind

-- the text for a line that is refused: it does not depend on the line
abbrev pub refusal_text : {F : Type 0} → (F → List ℕ) → List ℕ → Refusal F → List ℕ
refusal_text text line refusal = error_text (refusal_message text refusal)
