-- A text put into a buffer of C.
use Rattle.std.specs.Prelude.{◌≡◌, ◌⊎◌, ◌<◌, ◌≤◌, ◌+◌, ◌++◌, ◌∷◌, [], ℕ, List, length, take, drop}
use Rattle.fixed_c.specs.Codes.{refusal_code}
use Rattle.fixed_c.specs.declared.refusal.Refusal.{Refusal}
use Rattle.fixed_c.specs.declared.refusal.Refusal.TheVariants.{NoRoom}

-- the buffer begins with the text and a zero byte, and its rest is unchanged
pub record IsPlaced (text old new : List ℕ) : Type 0 where
  pub fits : length text < length old
  pub text_is : take (length text + 1) new ≡ text ++ 0 ∷ []
  pub rest_is : drop (length text + 1) new ≡ drop (length text + 1) old

-- `len` is the text's length; the code is 0 and the text was placed, or there was no room for it and the buffer is
-- unchanged
pub record PutsText (text old new : List ℕ) (len code : ℕ) : Type 0 where
  pub len_is : len ≡ length text
  pub placed : ((code ≡ 0) × IsPlaced text old new) ⊎ ((code ≡ refusal_code NoRoom) × (length old ≤ length text)
      × (new ≡ old))

-- a right text was put into the buffer; or the code is that of a refusal with its cause, and C has what it had
abbrev pub TextEnds : (List ℕ → Type 0) → (Refusal → Type 0) → List ℕ → List ℕ → ℕ → ℕ → ℕ → Type 0
TextEnds IsRight Refused old new len len' code = ((text : List ℕ) × IsRight text × PutsText text old new len' code)
    ⊎ ((refusal : Refusal) × (code ≡ refusal_code refusal) × Refused refusal × (new ≡ old) × (len' ≡ len))
