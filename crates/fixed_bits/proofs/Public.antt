-- The laws of this crate and facts about its definitions, for the proofs of dependent crates.
use Rattle.std.specs.Prelude.{◌≡◌, ℕ, ◌+◌, ◌-◌, ◌*◌, ◌^◌, ◌<◌, ◌≤◌, ◌↔◌, Bool, false, IsTrue, ℤ, pos, ◌*ℤ◌, unsigned_abs, Option, IfSome}
use Rattle.std.specs.Int.{is_negative}
use Rattle.fixed_bits.specs.Down.{IsDown, down}
use Rattle.fixed_bits.specs.Formats.{FormatParts, IsFormat, IsTypeFormat}
use Rattle.fixed_bits.specs.Images.{DiffersByMultiple, IsImage, IsInRangeBy, IsOutOfRangeBy, IsWrapped, lowest_by}
use Rattle.fixed_bits.specs.Laws.{RangeIsDecided, PolicyRangeIsDecided, EndsAreWide, ImagesAgree, CheckedHasNone, ImageIsTheOne, ImageIsInRange, DownIsTheOne, RankIsOrder, RoundedIsTheOne, EqualFractionsRoundAlike}
use Rattle.fixed_bits.specs.LostFractions.{IsLostFraction, quarters}
use Rattle.fixed_bits.specs.Nearest.{IsNearest, IsEven}
use Rattle.fixed_bits.specs.Numbers.{IsImageUnlessRefused, IsNumber, IsRefused, number_of_image, with_sign}
use Rattle.fixed_bits.specs.Order.{rank}
use Rattle.fixed_bits.specs.Ranges.{IsInRange, IsOutOfRange, IsTypeWidth, IsWidth, IsWide}
use Rattle.fixed_bits.specs.Rounded.{IsRounded, magnitude_mode}
use Rattle.fixed_bits.specs.declared.format.Policy.{Policy}
use Rattle.fixed_bits.specs.declared.format.Policy.TheVariants.{Checked}
use Rattle.fixed_bits.specs.declared.mode.ReadMode.{ReadMode}
use Rattle.fixed_bits.specs.declared.number.Image.{Image}
use Rattle.fixed_bits.specs.declared.number.Number.{Number}
use Rattle.fixed_bits.specs.declared.rounding.LostFraction.{LostFraction}
use Rattle.fixed_bits.proofs.DownLemmas
use Rattle.fixed_bits.proofs.ImageLemmas
use Rattle.fixed_bits.proofs.LawLemmas
use Rattle.fixed_bits.proofs.LostLemmas
use Rattle.fixed_bits.proofs.NearestLemmas
use Rattle.fixed_bits.proofs.NumberLemmas
use Rattle.fixed_bits.proofs.OrderLemmas
use Rattle.fixed_bits.proofs.RoundedLemmas

-- ---- ranges and images
pub width_most : (n : ℕ) → IsWidth n → n ≤ 64
width_most = ImageLemmas.width_most

-- the width of an integer type is one that a format may have
pub type_width : (n : ℕ) → IsTypeWidth n → IsWidth n
type_width = ImageLemmas.type_width

pub type_least : (n : ℕ) → IsTypeWidth n → 8 ≤ n
type_least = ImageLemmas.type_least

pub type_format : (w f : ℕ) → IsTypeFormat w f → IsFormat w f
type_format = ImageLemmas.type_format

pub in_wide : (s : Bool) (n : ℕ) (v : ℤ) → n ≤ 64 → IsInRange s n v → IsWide v
in_wide = ImageLemmas.in_wide

-- a number in the policy's range is in the format's range
pub in_range_of : (p : Policy) (s : Bool) (n : ℕ) (v : ℤ) → IsInRangeBy p s n v → IsInRange s n v
in_range_of = ImageLemmas.in_range_of

pub lowest_left_wide : (p : Policy) (s : Bool) (n : ℕ) → n ≤ 64 → IsWide (lowest_by p s n)
lowest_left_wide = ImageLemmas.lowest_left_wide

pub near_joined : (m : ℕ) (a b c : ℤ) → DiffersByMultiple m a b → DiffersByMultiple m b c → DiffersByMultiple m a c
near_joined = ImageLemmas.near_joined

pub range_decided : RangeIsDecided
range_decided = LawLemmas.range_decided

pub policy_range_decided : PolicyRangeIsDecided
policy_range_decided = LawLemmas.policy_range_decided

pub ends_wide : EndsAreWide
ends_wide = LawLemmas.ends_wide

pub images_agree : ImagesAgree
images_agree = LawLemmas.images_agree

pub has_none : CheckedHasNone
has_none = LawLemmas.has_none

pub image_one : ImageIsTheOne
image_one = LawLemmas.image_one

pub image_within : ImageIsInRange
image_within = LawLemmas.image_within

-- ---- moving down
pub down_is : (b : ℤ) (f g : ℕ) → IsDown b f g (down b f g)
down_is = DownLemmas.down_is

pub down_equal : (b : ℤ) (f g : ℕ) (d : ℤ) → IsDown b f g d → d ≡ down b f g
down_equal = DownLemmas.down_equal

pub down_one : DownIsTheOne
down_one = LawLemmas.down_one

pub grown : (b : ℤ) (f g : ℕ) → f ≤ g → b *ℤ pos (2 ^ (g - f)) ≡ down b f g
grown = DownLemmas.grown

pub shortened : (b : ℤ) (f g : ℕ) (d : ℤ) → g ≤ f → IsDown b (f - g) 0 d → d ≡ down b f g
shortened = DownLemmas.shortened

-- ---- numbers by sign and magnitude
pub inside : (sign : Bool) (n : ℕ) (v : ℤ) (out : Bool) → out ≡ false → (IsTrue out ↔ IsOutOfRange sign n v) → IsInRange sign n v
inside = NumberLemmas.inside

pub low_wrapped : (f : FormatParts) (number : Number) (v : ℤ) → IsWidth f.width → IsNumber number v → (c : ℤ) → IsWrapped f.signed f.width (with_sign number.negative number.low) c → IsWrapped f.signed f.width v c
low_wrapped = NumberLemmas.low_wrapped

pub not_negative : (n : ℕ) → is_negative (pos n) ≡ false
not_negative = NumberLemmas.not_negative

pub sign_and_magnitude : (v : ℤ) → with_sign (is_negative v) (unsigned_abs v) ≡ v
sign_and_magnitude = NumberLemmas.sign_and_magnitude

-- an answer that is given only if the policy does not refuse the number is its image
pub admitted_image : (policy : Policy) (f : FormatParts) (v : ℤ) (image : Image) (answer : Option ℤ) → IsImageUnlessRefused policy f v image → IfSome answer (λ c. ¬ IsRefused policy image.is_out_of_range × (c ≡ number_of_image image)) → IfSome answer (λ c. IsImage policy f.signed f.width v c)
admitted_image = NumberLemmas.admitted_image

-- under Checked, the policy's range is the format's range
pub refused_out : (policy : Policy) (s : Bool) (n : ℕ) (v : ℤ) → policy ≡ Checked → IsOutOfRangeBy policy s n v ↔ IsOutOfRange s n v
refused_out = NumberLemmas.refused_out

pub admitted_none : (policy : Policy) (s : Bool) (n : ℕ) (v : ℤ) (out : Bool) (N : Type 0) → N ↔ IsRefused policy out → (IsTrue out ↔ IsOutOfRangeBy policy s n v) → N ↔ ((policy ≡ Checked) × IsOutOfRange s n v)
admitted_none = NumberLemmas.admitted_none

pub admitted_range : (policy : Policy) (f : FormatParts) (image : Image) (answer : Option ℤ) → IsInRange f.signed f.width (number_of_image image) → IfSome answer (λ c. ¬ IsRefused policy image.is_out_of_range × (c ≡ number_of_image image)) → IfSome answer (λ c. IsInRange f.signed f.width c)
admitted_range = NumberLemmas.admitted_range

pub admitted_wide : (policy : Policy) (f : FormatParts) (image : Image) (answer : Option ℤ) → IsFormat f.width f.frac → IsInRange f.signed f.width (number_of_image image) → IfSome answer (λ c. ¬ IsRefused policy image.is_out_of_range × (c ≡ number_of_image image)) → IfSome answer IsWide
admitted_wide = NumberLemmas.admitted_wide

-- ---- the nearest whole number
pub nearest_exists : (num den : ℕ) → 0 < den → (q : ℕ) × IsNearest num den q
nearest_exists = NearestLemmas.nearest_exists

pub nearest_unique : (num den p q : ℕ) → 0 < den → IsNearest num den p → IsNearest num den q → p ≡ q
nearest_unique = NearestLemmas.nearest_unique

-- scaling both terms of a fraction keeps its nearest number
pub nearest_scaled : (k num den q : ℕ) → 0 < k → IsNearest (k * num) (k * den) q ↔ IsNearest num den q
nearest_scaled = NearestLemmas.nearest_scaled

-- the quotient is nearest if the remainder is at most half of the denominator
pub nearest_by_rest : (num den q r : ℕ) → num ≡ q * den + r → 2 * r ≤ den → (2 * r ≡ den → IsEven q) → IsNearest num den q
nearest_by_rest = NearestLemmas.nearest_by_rest

pub nearest_by_rest_up : (num den q r : ℕ) → num ≡ q * den + r → r < den → den ≤ 2 * r → (2 * r ≡ den → IsEven (q + 1)) → IsNearest num den (q + 1)
nearest_by_rest_up = NearestLemmas.nearest_by_rest_up

-- ---- the rounded whole number
pub rounded_exists : (m : ReadMode) (negative : Bool) (num den : ℕ) → 0 < den → (q : ℕ) × IsRounded m negative num den q
rounded_exists = RoundedLemmas.rounded_exists

pub rounded_unique : (m : ReadMode) (negative : Bool) (num den p q : ℕ) → 0 < den → IsRounded m negative num den p → IsRounded m negative num den q → p ≡ q
rounded_unique = RoundedLemmas.rounded_unique

pub rounded_one : RoundedIsTheOne
rounded_one = LawLemmas.rounded_one

pub rounded_same : EqualFractionsRoundAlike
rounded_same = LawLemmas.rounded_alike

-- the magnitude, rounded by its own mode, is the number rounded
pub magnitude_rounded : (m : ReadMode) (negative : Bool) (num den q : ℕ) → IsRounded (magnitude_mode m negative) false num den q → IsRounded m negative num den q
magnitude_rounded = RoundedLemmas.magnitude_rounded

-- a whole number rounds to itself
pub rounded_exact : (m : ReadMode) (negative : Bool) (q u : ℕ) → 0 < u → IsRounded m negative (q * u) u q
rounded_exact = RoundedLemmas.rounded_exact

-- rounding moves a value by less than one
pub rounded_close : (m : ReadMode) (negative : Bool) (num den q : ℕ) → 0 < den → IsRounded m negative num den q → (q * den < num + den) × (num < q * den + den)
rounded_close = RoundedLemmas.rounded_close

-- a lost fraction rounds like its count of quarters
pub rounds_as_quarters : (mode : ReadMode) (lost : LostFraction) (q s den inc : ℕ) → 0 < den → IsLostFraction lost s den → IsRounded mode false (q * 4 + quarters lost) 4 (q + inc) → IsRounded mode false (q * den + s) den (q + inc)
rounds_as_quarters = LostLemmas.rounds_as_quarters

-- ---- the order of formats
pub rank_below : (f : FormatParts) → IsTypeFormat f.width f.frac → rank f < 248
rank_below = OrderLemmas.rank_below

pub rank_has_format : (n : ℕ) → n < 248 → (g : FormatParts) × IsTypeFormat g.width g.frac × (rank g ≡ n)
rank_has_format = OrderLemmas.rank_has_format

pub rank_unique : (f g : FormatParts) → IsTypeFormat f.width f.frac → IsTypeFormat g.width g.frac → rank f ≡ rank g → f ≡ g
rank_unique = OrderLemmas.rank_unique

pub rank_order : RankIsOrder
rank_order = OrderLemmas.rank_order
