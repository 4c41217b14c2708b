-- The first refused word in a list.
use Rattle.std.specs.Prelude.{◌≡◌, ℕ, List, ◌∷◌, ◌++◌, All, true, false, length}
use Rattle.fixed_show.specs.Forms.{refusal}
use Rattle.fixed_show.specs.declared.form.Form.TheVariants.{Lines}
use Rattle.fixed_command.specs.Blocks.{IsBlock}
use Rattle.fixed_command.specs.declared.blocks.Question.{Question}

-- the block that answers the question about the word reports no fault
abbrev pub IsClean : Question → List ℕ → Type 0
IsClean q word = (text : List ℕ) × IsBlock q word (record { text = text; fault = false })

-- the word at this place, counted from 0, is refused for this cause, and none before it is refused
pub record IsFirstRefused (q : Question) (words : List (List ℕ)) (place : ℕ) (cause : List ℕ) : Type 0 where
  pub some : List (List ℕ)
  pub word : List ℕ
  pub more : List (List ℕ)
  pub cut : words ≡ some ++ word ∷ more
  pub counted : length some ≡ place
  pub clean : All (IsClean q) some
  pub refused : IsBlock q word (record { text = refusal Lines cause; fault = true })
