-- The text of a value in a base, rounded to a number of places or exact.
use Rattle.std.specs.Prelude.{◌≡◌, ℕ, zero, suc, ◌+◌, ◌*◌, ◌/◌, ◌%◌, ◌^◌, ◌≤◌, ◌==◌, Bool, true, false, List, ◌++◌, ℤ}
use Rattle.std.specs.Prelude.{if◌then◌else◌, nat_lt}
use Rattle.std.specs.Prelude.{unsigned_abs}
use Rattle.std.specs.Fmt.{sign_text}
use Rattle.std.specs.Int.{is_negative}
use Rattle.fixed_bits.specs.Rounded.{IsRounded}
use Rattle.fixed_bits.specs.declared.mode.ReadMode.{ReadMode}
use Rattle.fixed_bits.specs.declared.mode.ReadMode.TheVariants.{AwayFromZero, Ceil, Floor, NearestAway, NearestDown}
use Rattle.fixed_bits.specs.declared.mode.ReadMode.TheVariants.{NearestEven, NearestUp, NearestZero, TowardsZero}
use Rattle.fixed_write.specs.Shortest.{nearest_number}
use Rattle.fixed_write.specs.Texts.{point_text}

-- ---- rounded
-- text is c / 2^g to k places of the base, rounded in the mode
pub record IsRoundedText (mode : ReadMode) (base : ℕ) (upper : Bool) (k : ℕ) (c : ℤ) (g : ℕ)
    (text : List ℕ) : Type 0 where
  pub number : ℕ
  pub rounded : IsRounded mode (is_negative c) (unsigned_abs c * base ^ k) (2 ^ g) number
  pub text_is : text ≡ sign_text (is_negative c) ++ point_text base upper k number

-- the greatest whole number not above num / den, and the least not below it
unfoldable pub number_below : ℕ → ℕ → ℕ
number_below num den = num / den

unfoldable pub number_above : ℕ → ℕ → ℕ
number_above num den = if num % den == 0 then num / den else num / den + 1

-- the nearest whole number, and the greater or the lesser of two equally near
unfoldable pub nearest_greater : ℕ → ℕ → ℕ
nearest_greater num den = if nat_lt (2 * (num % den)) den then num / den else num / den + 1

unfoldable pub nearest_lesser : ℕ → ℕ → ℕ
nearest_lesser num den = if nat_lt den (2 * (num % den)) then num / den + 1 else num / den

-- the magnitude num / den rounded as the mode rounds the number, negative or not: computed
abbrev pub rounded_number : ReadMode → Bool → ℕ → ℕ → ℕ
rounded_number NearestEven negative num den = nearest_number num den
rounded_number NearestAway negative num den = nearest_greater num den
rounded_number NearestZero negative num den = nearest_lesser num den
rounded_number NearestUp false num den = nearest_greater num den
rounded_number NearestUp true num den = nearest_lesser num den
rounded_number NearestDown false num den = nearest_lesser num den
rounded_number NearestDown true num den = nearest_greater num den
rounded_number Floor false num den = number_below num den
rounded_number Floor true num den = number_above num den
rounded_number Ceil false num den = number_above num den
rounded_number Ceil true num den = number_below num den
rounded_number TowardsZero negative num den = number_below num den
rounded_number AwayFromZero negative num den = number_above num den

-- the rounded text, computed
unfoldable pub rounded_text : ReadMode → ℕ → Bool → ℕ → ℤ → ℕ → List ℕ
rounded_text mode base upper k c g = sign_text (is_negative c) ++ point_text base upper k
    (rounded_number mode (is_negative c) (unsigned_abs c * base ^ k) (2 ^ g))

-- ---- exactly
-- n / base^k is exactly c ulps of 2^-g, and no fewer places would do
pub record IsExact (base c g k n : ℕ) : Type 0 where
  pub same : c * base ^ k ≡ n * 2 ^ g
  pub least : (m j : ℕ) → c * base ^ j ≡ m * 2 ^ g → k ≤ j

-- text is c / 2^g exactly, in the fewest places
pub record IsExactText (base : ℕ) (upper : Bool) (c : ℤ) (g : ℕ) (text : List ℕ) : Type 0 where
  pub number : ℕ
  pub places : ℕ
  pub exact : IsExact base (unsigned_abs c) g places number
  pub text_is : text ≡ sign_text (is_negative c) ++ point_text base upper places number

-- the least number of places from k on that is exact, or else k + more
unfoldable pub exact_places_from : ℕ → ℕ → ℕ → ℕ → ℕ → ℕ
exact_places_from zero k base c g = k
exact_places_from (suc more) k base c g = if c * base ^ k % 2 ^ g == 0 then k
    else exact_places_from more (suc k) base c g

-- for an even base g places are enough
unfoldable pub exact_places : ℕ → ℕ → ℕ → ℕ
exact_places base c g = exact_places_from g 0 base c g

-- the exact text in an even base, computed
unfoldable pub exact_text : ℕ → Bool → ℤ → ℕ → List ℕ
exact_text base upper c g = sign_text (is_negative c) ++ point_text base upper (exact_places base (unsigned_abs c) g)
    (unsigned_abs c * base ^ exact_places base (unsigned_abs c) g / 2 ^ g)
