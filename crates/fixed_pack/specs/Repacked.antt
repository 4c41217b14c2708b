-- Words of one format that become words of another.
use Rattle.std.specs.Prelude.{◌≡◌, ◌^◌, ◌≤◌, ℕ, ℤ, Bool, List, Option, None}
use Rattle.fixed_bits.specs.Ranges.{IsWidth}
use Rattle.fixed_convert.specs.Rounded.{IsNotReformatted, IsReformatted}
use Rattle.fixed_pack.specs.Word.{IsBitsOf, number_of, word_bytes}
use Rattle.fixed_pack.specs.declared.float_words.WordRefusal.{WordRefusal}
use Rattle.fixed_pack.specs.declared.float_words.WordRefusal.TheVariants.{NotFinite, Overflow, TooWide}
use Rattle.fixed_pack.specs.declared.repack.Repack.{Repack}

-- the word with this number has this image in the target
pub record HasImage (s : Repack) (number : ℕ) (image : ℤ) : Type 0 where
  pub bits : ℤ
  pub are : IsBitsOf s.source number bits
  pub overflowed : Bool
  pub moved : IsReformatted s.target_mode s.policy s.target bits s.source.frac image overflowed

-- the word with this number has no image in the target
pub record HasNoImage (s : Repack) (number : ℕ) : Type 0 where
  pub bits : ℤ
  pub are : IsBitsOf s.source number bits
  pub none : IsNotReformatted s.target_mode s.policy s.target bits s.source.frac

-- the word has no image in the target, or it has a bit above the source's width
abbrev pub IsImageless : Repack → ℕ → WordRefusal → Type 0
IsImageless s number NotFinite = ⊥
IsImageless s number Overflow = HasNoImage s number
IsImageless s number TooWide = 2 ^ s.source.width ≤ number

-- the bytes of a word become those of the word of its image, with no cause for a refusal
pub record IsRepacked (s : Repack) (bytes made : List ℕ) (cause : Option WordRefusal) : Type 0 where
  pub clean : cause ≡ None
  pub image : ℤ
  pub has : HasImage s (number_of s.endian bytes) image
  pub word_is : made ≡ word_bytes s.endian_out s.target image
  pub width : IsWidth s.target.width

abbrev pub IsRepackRefused : Repack → List ℕ → WordRefusal → Type 0
IsRepackRefused s bytes why = IsImageless s (number_of s.endian bytes) why
