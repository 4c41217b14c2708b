-- Numerals that were read into a format.
use Rattle.std.proofs.Common.{◌≡◌, inl, inr, ◌↔◌, ◌⊎◌, false, ℕ, List, [], ◌∷◌, ◌++◌, Bool, IsTrue, ℤ, subst, sym, ◌∙◌, append_assoc, codes}
use Rattle.std.specs.Fmt.{signed_decimal}
use Rattle.fixed_bits.specs.Formats.{FormatParts}
use Rattle.fixed_bits.specs.Images.{IsImage, IsOutOfRangeBy}
use Rattle.fixed_bits.specs.Ranges.{IsOutOfRange}
use Rattle.fixed_bits.specs.declared.format.Policy.{Policy}
use Rattle.fixed_bits.specs.declared.format.Policy.TheVariants.{Checked}
use Rattle.fixed_bits.specs.declared.mode.ReadMode.{ReadMode}
use Rattle.fixed_enclose.specs.Enclosure.{IsRefusal, IsUnenclosed}
use Rattle.fixed_numeral.specs.Numeral.{Parts, HasNumeral, IsNumeral}
use Rattle.fixed_numeral.specs.declared.error.ParseErrorKind.{ParseErrorKind}
use Rattle.fixed_numeral.specs.declared.error.ParseErrorKind.TheVariants.{Overflow}
use Rattle.fixed_numeral.specs.declared.radix.Radix.{Radix}
use Rattle.fixed_bits.specs.Numbers.{IsNumber}
use Rattle.fixed_bits.specs.declared.number.Number.{Number}
use Rattle.std.proofs.lemmas.Bool.{false≢true}
use Rattle.fixed_read.specs.Reading.{IsReading, IsReadNumber, IsWholeUlps, number_in}
use Rattle.fixed_read.specs.declared.read_number.ReadNumber.{ReadNumber}
use Rattle.fixed_show.specs.Forms.{fact, label}
use Rattle.fixed_show.specs.declared.form.Form.TheVariants.{Lines}
use Rattle.fixed_show.specs.ShowBlock.{IsReadAs, IsUnread, neighbours}

pub read_as : (mode : ReadMode) (r : Radix) (bytes : List ℕ) (f : FormatParts) (policy : Policy) (p : Parts) (found : ReadNumber) (bits : ℤ) (flag : Bool)
    → HasNumeral r bytes p → IsReading mode r p found → found.format ≡ f
    → ((v : ℤ) → IsNumber (number_in found) v → IsImage policy found.format.signed found.format.width v bits)
    → ((v : ℤ) → IsNumber (number_in found) v → IsTrue flag ↔ IsOutOfRangeBy policy found.format.signed found.format.width v)
    → IsReadAs mode r bytes f policy bits flag
read_as mode r bytes f policy p found bits flag numeral reading e image out = record {
  parts = p;
  numeral = numeral;
  number = reading.number;
  read = subst (λ (t : FormatParts). IsReadNumber mode r p t.frac reading.number) e reading.read;
  image = subst (λ (t : FormatParts). IsImage policy t.signed t.width reading.number bits) e (image reading.number reading.holds);
  flag = subst (λ (t : FormatParts). IsTrue flag ↔ IsOutOfRangeBy policy t.signed t.width reading.number) e (out reading.number reading.holds);
}

-- `read_as` of the image of a number
pub image_read_as : (mode : ReadMode) (r : Radix) (bytes : List ℕ) (f : FormatParts) (policy : Policy) (p : Parts) (found : ReadNumber) (number : Number) (bits : ℤ) (flag : Bool)
    → HasNumeral r bytes p → IsReading mode r p found → found.format ≡ f → number ≡ number_in found
    → ((v : ℤ) → IsNumber number v → IsImage policy f.signed f.width v bits)
    → ((v : ℤ) → IsNumber number v → IsTrue flag ↔ IsOutOfRangeBy policy f.signed f.width v)
    → IsReadAs mode r bytes f policy bits flag
image_read_as mode r bytes f policy p found number bits flag numeral reading e same image out =
    let holds : IsNumber number reading.number = subst (λ (n : Number). IsNumber n reading.number) (sym same) reading.holds in
    record {
      parts = p;
      numeral = numeral;
      number = reading.number;
      read = subst (λ (t : FormatParts). IsReadNumber mode r p t.frac reading.number) e reading.read;
      image = image reading.number holds;
      flag = out reading.number holds;
    }

-- `unread` of a refused image
pub image_unread : (mode : ReadMode) (r : Radix) (bytes : List ℕ) (f : FormatParts) (policy : Policy) (p : Parts) (found : ReadNumber) (number : Number) (flag : Bool) (kind : ParseErrorKind)
    → HasNumeral r bytes p → IsReading mode r p found → found.format ≡ f → number ≡ number_in found → kind ≡ Overflow
    → ((v : ℤ) → IsNumber number v → IsTrue flag ↔ IsOutOfRangeBy policy f.signed f.width v)
    → (policy ≡ Checked) × (IsTrue flag ⊎ IsTrue false)
    → IsUnread mode r bytes f policy kind
image_unread mode r bytes f policy p found number flag kind numeral reading e same is out (checked, inr never) = absurd (false≢true never)
image_unread mode r bytes f policy p found number flag kind numeral reading e same is out (checked, inl is_out) =
    let holds : IsNumber number reading.number = subst (λ (n : Number). IsNumber n reading.number) (sym same) reading.holds in
    inr (
      is,
      checked,
      record {
        parts = p;
        has = numeral;
        number = reading.number;
        read = subst (λ (t : FormatParts). IsReadNumber mode r p t.frac reading.number) e reading.read;
        out_of_range = subst (λ (q : Policy). IsOutOfRangeBy q f.signed f.width reading.number) checked ((out reading.number holds).0 is_out);
      },
    )

pub read_exact : (mode : ReadMode) (r : Radix) (bytes : List ℕ) (f : FormatParts) (found : ReadNumber) (exact : Bool) → ((p : Parts) → HasNumeral r bytes p → IsReading mode r p found) → found.format ≡ f → exact ≡ found.exact
    → (p : Parts) → HasNumeral r bytes p → IsTrue exact ↔ IsWholeUlps r p f.frac
read_exact mode r bytes f found exact reading e is p numeral =
    let P : Bool → Type 0 = λ b. IsTrue b ↔ IsWholeUlps r p found.format.frac in
    subst (λ (t : FormatParts). IsTrue exact ↔ IsWholeUlps r p t.frac) e (subst P (sym is) (reading p numeral).exact)

pub unread : (mode : ReadMode) (r : Radix) (bytes : List ℕ) (f : FormatParts) (policy : Policy) (p : Parts) (found : ReadNumber) (kind : ParseErrorKind)
    → HasNumeral r bytes p → IsReading mode r p found → found.format ≡ f → kind ≡ Overflow
    → ((v : ℤ) → IsNumber (number_in found) v → (policy ≡ Checked) × IsOutOfRange found.format.signed found.format.width v)
    → IsUnread mode r bytes f policy kind
unread mode r bytes f policy p found kind numeral reading e is out =
    let none = out reading.number reading.holds in
    inr (
      is,
      none.0,
      record {
        parts = p;
        has = numeral;
        number = reading.number;
        read = subst (λ (t : FormatParts). IsReadNumber mode r p t.frac reading.number) e reading.read;
        out_of_range = subst (λ (t : FormatParts). IsOutOfRange t.signed t.width reading.number) e none.1;
      },
    )

pub neighbours_pushed : (old o1 o2 o3 o4 o5 s t : List ℕ) (lo hi : ℤ) → o1 ≡ old ++ label Lines (codes "between") → o2 ≡ o1 ++ (s ++ (codes " (" ++ (signed_decimal lo ++ codes ")"))) → o3 ≡ o2 ++ codes " and "
    → o4 ≡ o3 ++ (t ++ (codes " (" ++ (signed_decimal hi ++ codes ")"))) → o5 ≡ o4 ++ 10 ∷ [] → o5 ≡ old ++ neighbours Lines s lo t hi
unfolding fact
neighbours_pushed old o1 o2 o3 o4 o5 s t lo hi a b c d e =
    let x : o5 ≡ ((((old ++ label Lines (codes "between")) ++ (s ++ (codes " (" ++ (signed_decimal lo ++ codes ")")))) ++ codes " and ") ++ (t ++ (codes " (" ++ (signed_decimal hi ++ codes ")")))) ++ 10 ∷ [] = cc in
    x ∙ simp append_assoc

pub not_enclosed : (r : Radix) (bytes : List ℕ) (f : FormatParts) (kind : ParseErrorKind) → IsNumeral r bytes → IsRefusal r bytes f kind → IsUnenclosed r bytes f
not_enclosed r bytes f kind n (inl c) = absurd (c.none n)
not_enclosed r bytes f kind n (inr h) = h.1

pub five_blocks : (old o1 o2 o3 o4 o5 a b c d e : List ℕ) → o1 ≡ old ++ a → o2 ≡ o1 ++ b → o3 ≡ o2 ++ c → o4 ≡ o3 ++ d → o5 ≡ o4 ++ e → o5 ≡ old ++ (a ++ (b ++ (c ++ (d ++ e))))
five_blocks old o1 o2 o3 o4 o5 a b c d e p q r s t =
    let x : o5 ≡ ((((old ++ a) ++ b) ++ c) ++ d) ++ e = cc in
    x ∙ simp append_assoc
