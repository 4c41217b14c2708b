-- Lines answered one after the other.
use Rattle.std.proofs.Common.{◌≡◌, ℕ, ◌+◌, ◌*◌, ◌<◌, ◌≤◌, ◌↔◌, Bool, false, ◌||◌, List, [], ◌∷◌, ◌++◌, length, take, refl, sym, ap, ◌∙◌, subst, arith, append_assoc, append-nil, length-append, ⊎_elim, Option, mul-le-mul_left}
use Rattle.std.proofs.lemmas.Grind.{common_steps, flat_map-append}
use Rattle.std.proofs.lemmas.List.{take_all, length-take}
use Rattle.std.proofs.lemmas.List.Folds.{list_any-append}
use Rattle.std.proofs.lemmas.Bool.{cases_lt}
use Rattle.std.proofs.KnownBytes.{Appends-trans}
use Rattle.std.specs.Io.KnownBytes.{Appends}
use Rattle.line_engine.specs.Output.{AreAnswers, reply_line, written_of, is_fault, any_fault}
use Rattle.line_engine.specs.Inner.Progress.{bytes_in}
use Rattle.line_engine.specs.Appended.{AppendsPrefix}
use Rattle.line_engine.specs.AnswerText.{AnswerText}

pub written_of-append : (replies more : List AnswerText) → written_of (replies ++ more) ≡ written_of replies ++ written_of more
written_of-append replies more = flat_map-append reply_line replies more

pub any_fault-append : (replies more : List AnswerText) → any_fault (replies ++ more) ≡ (any_fault replies || any_fault more)
any_fault-append replies more = list_any-append is_fault replies more

pub bytes_in-append : (lines more : List (List ℕ)) → bytes_in (lines ++ more) ≡ bytes_in lines + bytes_in more
bytes_in-append [] more = omega arith
bytes_in-append (line ∷ lines) more = omega (arith, bytes_in-append lines more)

-- answers to some lines, and to the lines after them
pub AreAnswers-append : (A : List ℕ → AnswerText → Type 0) (lines more : List (List ℕ)) (replies others : List AnswerText) → AreAnswers A lines replies → AreAnswers A more others → AreAnswers A (lines ++ more) (replies ++ others)
AreAnswers-append A [] more [] others first next = next
AreAnswers-append A [] more (reply ∷ replies) others first next = absurd first
AreAnswers-append A (line ∷ lines) more [] others first next = absurd first
AreAnswers-append A (line ∷ lines) more (reply ∷ replies) others first next = (first.0, AreAnswers-append A lines more replies others first.1 next)
