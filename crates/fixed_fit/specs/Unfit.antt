-- Why no format is named, and the text that is written about it.
use Rattle.std.specs.Prelude.{ℕ, true, false, List, Option, Some, None, Result, Ok, Err}
use Rattle.fixed_least.specs.Least.{fault_line}
use Rattle.fixed_least.specs.declared.least.LeastFault.TheVariants as fault
use Rattle.line_engine.specs.AnswerText.{AnswerText}
use Rattle.fixed_fit.specs.Answer.{none_line}
use Rattle.fixed_fit.specs.declared.answer.Unfit.{Unfit}
use Rattle.fixed_fit.specs.declared.answer.Unfit.TheVariants.{NoneFits, NoneServes, NotNumeral}

abbrev pub unfit_text : Unfit → List ℕ
unfit_text (NotNumeral place error) = fault_line (fault.NotNumeral place error)
unfit_text (NoneFits place) = none_line place
unfit_text (NoneServes place) = none_line place

-- the answer with a text that names a format
abbrev pub named : List ℕ → AnswerText
named text = record { text = text; fault = false }

-- the answer that is written for either
abbrev pub said : Result (List ℕ) Unfit → AnswerText
said (Ok text) = named text
said (Err unfit) = record { text = unfit_text unfit; fault = true }

-- why an answer names no format
abbrev pub why_of : Result (List ℕ) Unfit → Option Unfit
why_of (Ok text) = None
why_of (Err unfit) = Some unfit
