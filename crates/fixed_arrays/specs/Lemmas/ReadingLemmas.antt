-- A numeral is read as one number.
use Rattle.std.proofs.Common.{◌≡◌, ◌∙◌, ℕ, ℤ, List, Bool, sym, subst, inl, inr}
use Rattle.fixed_bits.proofs.Public.{has_none, image_one}
use Rattle.fixed_bits.specs.Formats.{FormatParts}
use Rattle.fixed_bits.specs.Images.{IsImage}
use Rattle.fixed_bits.specs.Ranges.{IsWidth}
use Rattle.fixed_bits.specs.declared.format.Policy.{Policy}
use Rattle.fixed_bits.specs.declared.format.Policy.TheVariants.{Checked}
use Rattle.fixed_bits.specs.declared.mode.ReadMode.{ReadMode}
use Rattle.fixed_numeral.proofs.Public.{one_cause, parts_unique}
use Rattle.fixed_numeral.specs.Numeral.{HasNumeral, Parts}
use Rattle.fixed_numeral.specs.declared.error.ParseErrorKind.{ParseErrorKind}
use Rattle.fixed_numeral.specs.declared.radix.Radix.{Radix}
use Rattle.fixed_read.proofs.Public.{read_unique}
use Rattle.fixed_read.specs.Reading.{IsReadNumber}
use Rattle.fixed_show.specs.ShowBlock.{IsReadAs, IsUnread}

parts_one : (r : Radix) (bytes : List ℕ) (p q : Parts) → HasNumeral r bytes p → HasNumeral r bytes q → p ≡ q
parts_one r bytes p q a b = parts_unique r bytes p q a.beginning b.beginning

read_as_one : (mode : ReadMode) (r : Radix) (bytes : List ℕ) (f : FormatParts) (policy : Policy) (v w : ℤ) (o u :
    Bool) (a : IsReadAs mode r bytes f policy v o) (b : IsReadAs mode r bytes f policy w u)
    → a.number ≡ b.number
read_as_one mode r bytes f policy v w o u a b =
    let p : a.parts ≡ b.parts = parts_one r bytes a.parts b.parts a.numeral b.numeral in
    read_unique mode r b.parts f.frac a.number b.number (subst (λ q. IsReadNumber mode r q f.frac a.number) p
    a.read) b.read

pub read_bits_one : (mode : ReadMode) (r : Radix) (bytes : List ℕ) (f : FormatParts) (policy : Policy) (v w : ℤ) (o u :
    Bool) → IsWidth f.width → IsReadAs mode r bytes f policy v o → IsReadAs mode r bytes f policy w u → v ≡ w
read_bits_one mode r bytes f policy v w o u width a b =
    let n : a.number ≡ b.number = read_as_one mode r bytes f policy v w o u a b in
    image_one policy f.signed f.width b.number v w width (subst (λ x. IsImage policy f.signed f.width x v) n a.image)
    b.image

pub read_or_not : (mode : ReadMode) (r : Radix) (bytes : List ℕ) (f : FormatParts) (policy : Policy) (v : ℤ) (o : Bool)
    (k : ParseErrorKind)
    → IsReadAs mode r bytes f policy v o → IsUnread mode r bytes f policy k → ⊥
read_or_not mode r bytes f policy v o k a (inl b) = b.none (a.parts, a.numeral)
read_or_not mode r bytes f policy v o k a (inr b) =
    let p : a.parts ≡ b.2.parts = parts_one r bytes a.parts b.2.parts a.numeral b.2.has in
    let n : a.number ≡ b.2.number = read_unique mode r b.2.parts f.frac a.number b.2.number (subst (λ q.
    IsReadNumber mode r q f.frac a.number) p a.read) b.2.read in
    let image : IsImage Checked f.signed f.width a.number v = subst (λ q. IsImage q f.signed f.width a.number v)
    b.1 a.image in
    has_none f.signed f.width b.2.number v b.2.out_of_range (subst (λ x. IsImage Checked f.signed f.width x v) n image)

-- a refused numeral is refused for one reason
pub unread_one : (mode : ReadMode) (r : Radix) (bytes : List ℕ) (f : FormatParts) (policy : Policy)
    (k l : ParseErrorKind) → IsUnread mode r bytes f policy k → IsUnread mode r bytes f policy l → k ≡ l
unread_one mode r bytes f policy k l (inl a) (inl b) = one_cause r bytes k l a b
unread_one mode r bytes f policy k l (inl a) (inr b) = absurd (a.none (b.2.parts, b.2.has))
unread_one mode r bytes f policy k l (inr a) (inl b) = absurd (b.none (a.2.parts, a.2.has))
unread_one mode r bytes f policy k l (inr a) (inr b) = a.0 ∙ sym b.0
