-- The texts about the numeral with the greatest error, and about means.
use Rattle.std.specs.Prelude.{◌≡◌, ◌⊎◌, ◌<◌, ◌*◌, ◌%◌, ◌^◌, ◌∷◌, ◌++◌, ℕ, Bool, false, List, codes}
use Rattle.std.specs.Fmt.{decimal}
use Rattle.fixed_bits.specs.Formats.{FormatParts}
use Rattle.fixed_bits.specs.declared.format.Policy.TheVariants.{Checked}
use Rattle.fixed_bits.specs.declared.mode.ReadMode.{ReadMode}
use Rattle.fixed_numeral.specs.declared.radix.Radix.{Radix}
use Rattle.fixed_report.specs.Sums.{IsMean, IsRootMean}
use Rattle.fixed_report.specs.declared.means.Mean.{Mean}
use Rattle.fixed_report.specs.declared.means.SixDigits.{SixDigits}
use Rattle.fixed_report.specs.declared.sums.ErrorSums.{ErrorSums}
use Rattle.fixed_show.specs.ShownErrors.{AreShownErrors}
use Rattle.fixed_write.specs.Texts.{decimal_text}

-- the text about an error, the same in ulps, and its place, with `name` for such places
abbrev pub greatest_text : List ℕ → ℕ → List ℕ → List ℕ → List ℕ
greatest_text name place error ulps = codes "greatest error in " ++ (name ++ (32 ∷ (decimal place ++ (codes ": "
    ++ (error ++ (codes ", in ulps: " ++ ulps))))))

-- the text gives the error of a numeral, the same in ulps, and its place
pub record IsGreatestText (mode : ReadMode) (r : Radix) (f : FormatParts) (name : List ℕ) (place : ℕ)
    (numeral text : List ℕ) : Type 0 where
  pub error : List ℕ
  pub ulps : List ℕ
  pub shown : AreShownErrors mode r numeral f Checked error ulps
  pub text_is : text ≡ greatest_text name place error ulps

-- the text is d.number / 10^d.places, after `-` if it is negative, without zeros at the end of the fraction
pub record IsDigitsText (negative : Bool) (d : SixDigits) (text : List ℕ) : Type 0 where
  pub number : ℕ
  pub places : ℕ
  pub same : number * 10 ^ d.places ≡ d.number * 10 ^ places
  pub last : (places ≡ 0) ⊎ (0 < number % 10)
  pub text_is : text ≡ decimal_text negative number places

-- the texts are those of the mean of errors with these sums and of the root of the mean of their squares
pub record AreMeanTexts (s : ErrorSums) (one : ℕ) (mean root : List ℕ) : Type 0 where
  pub value : Mean
  pub is_mean : IsMean s one value
  pub mean_is : IsDigitsText value.is_negative value.size mean
  pub root_value : SixDigits
  pub is_root : IsRootMean s one root_value
  pub root_is : IsDigitsText false root_value root
