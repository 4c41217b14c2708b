-- A line with a layout becomes one list of bytes, or is refused for one cause.
use Rattle.std.proofs.Common.{◌≡◌, ◌∙◌, ℕ, List, Bool, true, false, sym}
use Rattle.fixed_command.specs.Layout.{LineLayout, is_skipped, without_blanks}
use Rattle.fixed_pack.specs.LaidOut.{PacksBy, PacksLaidOut, RefusesBy, RefusesLaidOut}

module _ {C : Type 0} (l : LineLayout) (P : List ℕ → List ℕ → Type 0) (F : List ℕ → C → Type 0) where
  packs_one : ((line a b : List ℕ) → P line a → P line b → a ≡ b) → (skipped : Bool) (line a b : List ℕ)
      → PacksBy skipped l P line a → PacksBy skipped l P line b → a ≡ b
  packs_one one true line a b x y = x ∙ sym y
  packs_one one false line a b x y = one (without_blanks l line) a b x y

  pub laid_out_one : ((line a b : List ℕ) → P line a → P line b → a ≡ b) → (line a b : List ℕ)
      → PacksLaidOut l P line a → PacksLaidOut l P line b → a ≡ b
  laid_out_one one line a b x y = packs_one one (is_skipped l line) line a b x y

  refuses_one : ((line : List ℕ) (a b : C) → F line a → F line b → a ≡ b) → (skipped : Bool) (line : List ℕ) (a b : C)
      → RefusesBy skipped l F line a → RefusesBy skipped l F line b → a ≡ b
  refuses_one one true line a b x y = absurd x
  refuses_one one false line a b x y = one (without_blanks l line) a b x y

  pub laid_out_cause : ((line : List ℕ) (a b : C) → F line a → F line b → a ≡ b) → (line : List ℕ) (a b : C)
      → RefusesLaidOut l F line a → RefusesLaidOut l F line b → a ≡ b
  laid_out_cause one line a b x y = refuses_one one (is_skipped l line) line a b x y

  packs_never : ((line word : List ℕ) (why : C) → P line word → F line why → ⊥) → (skipped : Bool)
      (line word : List ℕ) (why : C) → PacksBy skipped l P line word → RefusesBy skipped l F line why → ⊥
  packs_never never true line word why x y = y
  packs_never never false line word why x y = never (without_blanks l line) word why x y

  pub laid_out_never : ((line word : List ℕ) (why : C) → P line word → F line why → ⊥) → (line word : List ℕ)
      (why : C) → PacksLaidOut l P line word → RefusesLaidOut l F line why → ⊥
  laid_out_never never line word why x y = packs_never never (is_skipped l line) line word why x y
