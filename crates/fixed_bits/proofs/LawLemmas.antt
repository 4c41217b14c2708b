-- The laws of images, ranges and rounding.
use Rattle.std.proofs.Common.{inl, inr}
use Rattle.fixed_bits.specs.Laws.{NearestIsTheOne, RoundedIsTheOne, EqualFractionsRoundAlike, RangeIsDecided, PolicyRangeIsDecided, UnsignedIsSaturated, EndsAreWide, ImagesAgree, CheckedHasNone, ImageIsTheOne, ImageIsInRange, DownIsTheOne, DownKeepsOrder}
use Rattle.fixed_bits.specs.Down.{down}
use Rattle.fixed_bits.proofs.NearestLemmas.{nearest_unique, nearest_exists}
use Rattle.fixed_bits.proofs.RoundedLemmas.{rounded_unique, rounded_exists, rounded_same}
use Rattle.fixed_bits.proofs.ImageLemmas.{image_same, image_unique, image_in, image_in_by, out_not_in, out_not_in_by, by_range, by_policy_range, unsigned_saturated, lowest_wide, greatest_wide}
use Rattle.fixed_bits.proofs.DownLemmas.{down_equal, down_is, down_order}

pub nearest_one : NearestIsTheOne
nearest_one num den some =
    let e = nearest_exists num den some in
    (e.0, e.1, λ p h. nearest_unique num den p e.0 some h e.1)

pub rounded_one : RoundedIsTheOne
rounded_one mode negative num den some =
    let e = rounded_exists mode negative num den some in
    (e.0, e.1, λ p h. rounded_unique mode negative num den p e.0 some h e.1)

pub rounded_alike : EqualFractionsRoundAlike
rounded_alike mode negative n d n' d' q some some' e h = rounded_same mode negative n d n' d' q some some' e h

pub range_decided : RangeIsDecided
range_decided s n v = (by_range s n v (λ h. inl h) (λ l. inr (inl l)) (λ l. inr (inr l)), out_not_in s n v)

pub policy_range_decided : PolicyRangeIsDecided
policy_range_decided p s n v = (by_policy_range p s n v (λ h. inl h) (λ l. inr (inl l)) (λ l. inr (inr l)), out_not_in_by p s n v)

pub ends_wide : EndsAreWide
ends_wide s n l = (lowest_wide s n l, greatest_wide s n l)

pub images_agree : ImagesAgree
images_agree p s n v c w h = ((λ i. image_unique p s n v c v w i (image_same p s n v h)), (λ e. rw e (image_same p s n v h)))

pub has_none : CheckedHasNone
has_none s n v c o i = out_not_in s n v o i.in_range

pub image_one : ImageIsTheOne
image_one p s n v c d w i j = image_unique p s n v c d w i j

pub image_within : ImageIsInRange
image_within p s n v c i = (image_in p s n v c i, image_in_by p s n v c i)

pub unsigned_saturates : UnsignedIsSaturated
unsigned_saturates = unsigned_saturated

pub down_one : DownIsTheOne
down_one b f g d = ((λ h. down_equal b f g d h), (λ e. rw e (down_is b f g)))

pub keeps_order : DownKeepsOrder
keeps_order b c f g h = down_order b c f g (down b f g) (down c f g) h (down_is b f g) (down_is c f g)
