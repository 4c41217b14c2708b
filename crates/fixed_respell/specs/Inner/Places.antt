-- Radix words, policies' names and modes' names by their tables.
use Rattle.std.specs.Prelude.{◌≡◌, ℕ, zero, suc, ◌-◌, IsTrue, List, ◌∷◌, ◌++◌, length, take, drop}
use Rattle.std.specs.Simd.Lanes.{number_l}
use Rattle.fixed_bits.specs.declared.format.Policy.{Policy}
use Rattle.fixed_bits.specs.declared.format.Policy.TheVariants.{Checked, Saturating, Wrapping}
use Rattle.fixed_bits.specs.declared.mode.ReadMode.{ReadMode}
use Rattle.fixed_bits.specs.declared.mode.ReadMode.TheVariants.{NearestEven, Floor, Ceil, TowardsZero}
use Rattle.fixed_numeral.specs.declared.radix.Radix.{Radix}
use Rattle.fixed_numeral.specs.declared.radix.Radix.TheVariants.{Bin, Oct, Dec, Hex}
use Rattle.fixed_respell.specs.Words.{is_line_mode, is_line_policy, mode_text, policy_text, slash}

-- the radix whose word is at a place
abbrev pub radix_of_place : ℕ → Radix
radix_of_place zero = Dec
radix_of_place (suc zero) = Bin
radix_of_place (suc (suc zero)) = Oct
radix_of_place (suc (suc (suc zero))) = Hex
radix_of_place (suc (suc (suc (suc place)))) = Oct

-- the policy whose name is at a place
abbrev pub policy_of_place : ℕ → Policy
policy_of_place zero = Wrapping
policy_of_place (suc zero) = Checked
policy_of_place (suc (suc zero)) = Saturating
policy_of_place (suc (suc (suc place))) = Checked

-- the mode whose name is at a place
abbrev pub mode_of_place : ℕ → ReadMode
mode_of_place zero = Ceil
mode_of_place (suc zero) = Floor
mode_of_place (suc (suc zero)) = TowardsZero
mode_of_place (suc (suc (suc place))) = NearestEven

-- the first four bytes of name, the two after them and its last four, each as a number
pub record HasBytes (name : List ℕ) (start middle end : ℕ) : Type 0 where
  pub first_four : number_l 256 (take 4 name) ≡ start
  pub next_two : number_l 256 (take 2 (drop 4 name)) ≡ middle
  pub last_four : number_l 256 (drop (length name - 4) name) ≡ end

-- the first four bytes of name and its last four, each as a number
pub record HasEnds (name : List ℕ) (start end : ℕ) : Type 0 where
  pub first_four : number_l 256 (take 4 name) ≡ start
  pub last_four : number_l 256 (drop (length name - 4) name) ≡ end

-- word is the names of a policy and of a mode that a line can name, with a slash between them
abbrev pub IsBothNames : List ℕ → Policy → ReadMode → Type 0
IsBothNames word policy mode = (word ≡ policy_text policy ++ slash ∷ mode_text mode) × IsTrue (is_line_policy policy)
    × IsTrue (is_line_mode mode)
