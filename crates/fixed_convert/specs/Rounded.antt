-- Bits moved from one fraction length to another in a mode.
use Rattle.std.specs.Prelude.{◌≡◌, ◌↔◌, ◌*◌, ◌^◌, ℕ, ℤ, Bool, IsTrue, unsigned_abs}
use Rattle.std.specs.Int.{is_negative}
use Rattle.fixed_bits.specs.Down.{down}
use Rattle.fixed_bits.specs.Formats.{FormatParts, IsFormat}
use Rattle.fixed_bits.specs.Images.{IsImage, IsOutOfRangeBy}
use Rattle.fixed_bits.specs.Numbers.{with_sign}
use Rattle.fixed_bits.specs.Ranges.{IsOutOfRange}
use Rattle.fixed_bits.specs.Rounded.{IsRounded}
use Rattle.fixed_bits.specs.declared.format.Policy.{Policy}
use Rattle.fixed_bits.specs.declared.format.Policy.TheVariants.{Checked}
use Rattle.fixed_bits.specs.declared.mode.ReadMode.{ReadMode}
use Rattle.fixed_bits.specs.declared.mode.ReadMode.TheVariants.{Floor}

-- v is b / 2^f in ulps of 2^-g: its magnitude rounded in the mode, with its sign
pub record IsMovedIn (mode : ReadMode) (b : ℤ) (f g : ℕ) (v : ℤ) : Type 0 where
  pub ulps : ℕ
  pub rounded : IsRounded mode (is_negative b) (unsigned_abs b * 2 ^ g) (2 ^ f) ulps
  pub value : v ≡ with_sign (is_negative b) ulps

-- image is that of the moved number in the target, and overflowed says whether the moved number is out of the policy's
-- range there
pub record IsReformatted (mode : ReadMode) (policy : Policy) (target : FormatParts) (b : ℤ) (f : ℕ) (image : ℤ)
    (overflowed : Bool) : Type 0 where
  pub moved : ℤ
  pub is_moved : IsMovedIn mode b f target.frac moved
  pub image_is : IsImage policy target.signed target.width moved image
  pub verdict : IsTrue overflowed ↔ IsOutOfRangeBy policy target.signed target.width moved

-- the moved number is out of the target's range under Checked, so it has no image
pub record IsNotReformatted (mode : ReadMode) (policy : Policy) (target : FormatParts) (b : ℤ) (f : ℕ) : Type 0 where
  pub moved : ℤ
  pub is_moved : IsMovedIn mode b f target.frac moved
  pub checked : policy ≡ Checked
  pub out : IsOutOfRange target.signed target.width moved

-- each number moves to exactly one number in each mode
abbrev pub MovedInIsTheOne : Type 0
MovedInIsTheOne = (mode : ReadMode) (b : ℤ) (f g : ℕ) → (v : ℤ) × IsMovedIn mode b f g v
    × ((w : ℤ) → IsMovedIn mode b f g w → w ≡ v)

-- moving in the mode Floor is moving down
abbrev pub FloorIsDown : Type 0
FloorIsDown = (b : ℤ) (f g : ℕ) → IsMovedIn Floor b f g (down b f g)

-- a number has one image and one verdict in a format, or none
abbrev pub ReformattedIsTheOne : Type 0
ReformattedIsTheOne = (mode : ReadMode) (policy : Policy) (target : FormatParts) (b : ℤ) (f : ℕ) (c : ℤ) (o : Bool)
    → IsFormat target.width target.frac → IsReformatted mode policy target b f c o
    → ((d : ℤ) (u : Bool) → IsReformatted mode policy target b f d u → (c ≡ d) × (o ≡ u))
    × (¬ IsNotReformatted mode policy target b f)
