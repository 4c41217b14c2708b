-- A text has just one block.
use Rattle.std.proofs.Common.{◌≡◌, ◌∙◌, ◌↔◌, ℕ, ℤ, List, Bool, IsTrue, true, false, pos, ap, inl, inr, refl, sym, subst}
use Rattle.std.proofs.lemmas.Bool.{false≢true}
use Rattle.std.specs.Prelude.{unsigned_abs}
use Rattle.fixed_bits.specs.Formats.{FormatParts}
use Rattle.fixed_bits.specs.Images.{IsImage, IsOutOfRangeBy}
use Rattle.fixed_bits.specs.Ranges.{IsWidth}
use Rattle.fixed_bits.specs.declared.format.Policy.{Policy}
use Rattle.fixed_bits.specs.declared.format.Policy.TheVariants.{Checked, Wrapping}
use Rattle.fixed_bits.specs.declared.mode.ReadMode.{ReadMode}
use Rattle.fixed_bits.proofs.Public.{has_none, image_one}
use Rattle.fixed_numeral.specs.Messages.{message_of}
use Rattle.fixed_enclose.specs.Lemmas.EnclosureLemmas.{enclosed_one, refusal_none}
use Rattle.fixed_numeral.specs.Numeral.{HasNumeral, Parts}
use Rattle.fixed_numeral.specs.declared.error.ParseErrorKind.{ParseErrorKind}
use Rattle.fixed_numeral.specs.declared.error.ParseErrorKind.TheVariants.{Overflow}
use Rattle.fixed_numeral.specs.declared.radix.Radix.{Radix}
use Rattle.fixed_numeral.proofs.Public.{one_cause, parts_unique}
use Rattle.fixed_read.specs.Reading.{IsReadNumber}
use Rattle.fixed_read.proofs.Public.{read_unique}
use Rattle.fixed_write.proofs.Public.{exact_text_unique, shortest_text_unique}
use Rattle.fixed_write.specs.Texts.{IsShortestText}
use Rattle.fixed_show.specs.Measured.{MeasuredErrorIsTheOne}
use Rattle.fixed_show.specs.ShortError.{IsErrorText}
use Rattle.fixed_show.specs.declared.measure.Measure.{Measure}
use Rattle.fixed_show.specs.declared.measure.Measure.TheVariants.{Ulps, Value}
use Rattle.fixed_show.proofs.MeasureLemmas.{error_text_one}
use Rattle.fixed_show.specs.BitsBlock.{AreBitsFacts, AreValues, fault_message}
use Rattle.fixed_show.specs.BlockLaws.{BitsBlockIsTheOne, BitsObjectIsTheOne, ShowBlockIsTheOne, ShowObjectIsTheOne, ShowRefusalIsTheOne}
use Rattle.fixed_show.specs.Blocks.{IsHexText, hex_text}
use Rattle.fixed_show.specs.Forms.{refusal}
use Rattle.fixed_show.specs.JsonText.{object_text}
use Rattle.fixed_show.specs.declared.form.Form.{Form}
use Rattle.fixed_show.specs.declared.form.Form.TheVariants.{Lines, Members}
use Rattle.fixed_show.specs.ShowBlock.{AreShowFacts, IsBetween, IsReadAs, IsShown, IsUnread, neighbours}
use Rattle.fixed_show.proofs.WordLawLemmas.{fault_one, no_fault, word_one}

-- ---- the lines of a value
hex_one : (n : ℕ) (v : ℤ) (a b : List ℕ) → IsWidth n → IsHexText n v a → IsHexText n v b → a ≡ b
hex_one n v a b width x y =
    let word : pos x.word ≡ pos y.word = image_one Wrapping false n v (pos x.word) (pos y.word) width x.is_word y.is_word in
    x.text_is ∙ ap (λ w. hex_text n (unsigned_abs w)) word ∙ sym y.text_is

pub values_one : (form : Form) (f : FormatParts) (bits : ℤ) (a b : List ℕ) → IsWidth f.width → AreValues form f bits a → AreValues form f bits b → a ≡ b
values_one form f bits a b width x y =
    let value : x.value ≡ y.value = exact_text_unique 10 false bits f.frac x.value y.value x.is_value y.is_value in
    let shortest : x.shortest ≡ y.shortest = shortest_text_unique bits f.frac x.shortest y.shortest x.is_shortest y.is_shortest in
    let hex : x.hex ≡ y.hex = hex_one f.width bits x.hex y.hex width x.is_hex y.is_hex in
    x.text_is ∙ (rw (value, shortest, hex) (sym y.text_is))

bits_facts_one : (form : Form) (bare : Radix) (f : FormatParts) (text : List ℕ) (o p : Bool) (a b : List ℕ) → IsWidth f.width → AreBitsFacts form bare f text o a → AreBitsFacts form bare f text p b → (o ≡ p) × (a ≡ b)
bits_facts_one form bare f text true true a b width x y =
    let same = fault_one bare f text x.fault y.fault x.is_fault y.is_fault in
    (refl, x.facts_are ∙ ap (λ w. refusal form (fault_message w)) same ∙ sym y.facts_are)
bits_facts_one form bare f text true false a b width x y = absurd (no_fault bare f text x.fault y.bits x.is_fault y.is_word)
bits_facts_one form bare f text false true a b width x y = absurd (no_fault bare f text y.fault x.bits y.is_fault x.is_word)
bits_facts_one form bare f text false false a b width x y =
    let bits : x.bits ≡ y.bits = word_one bare f text x.bits y.bits width x.is_word y.is_word in
    (refl, values_one form f y.bits a b width (subst (λ (v : ℤ). AreValues form f v a) bits x.values) y.values)

pub bits_block_one : BitsBlockIsTheOne
bits_block_one bare f text o p a b width x y = bits_facts_one Lines bare f text o p a b width x y

pub bits_object_one : BitsObjectIsTheOne
bits_object_one bare f text o p a b width x y =
    let same = bits_facts_one Members bare f text o p x.members y.members width x.are_facts y.are_facts in
    (same.0, x.object_is ∙ ap (object_text text) same.1 ∙ sym y.object_is)

-- ---- a refused numeral
unread_one : (mode : ReadMode) (r : Radix) (bytes : List ℕ) (f : FormatParts) (policy : Policy) (k l : ParseErrorKind) → IsUnread mode r bytes f policy k → IsUnread mode r bytes f policy l → k ≡ l
unread_one mode r bytes f policy k l (inl a) (inl b) = one_cause r bytes k l a b
unread_one mode r bytes f policy k l (inl a) (inr b) = absurd (a.none (b.2.parts, b.2.has))
unread_one mode r bytes f policy k l (inr a) (inl b) = absurd (b.none (a.2.parts, a.2.has))
unread_one mode r bytes f policy k l (inr a) (inr b) = a.0 ∙ sym b.0

read_or_not : (mode : ReadMode) (r : Radix) (bytes : List ℕ) (f : FormatParts) (policy : Policy) (v : ℤ) (o : Bool) (k : ParseErrorKind) → IsReadAs mode r bytes f policy v o → IsUnread mode r bytes f policy k → ⊥
read_or_not mode r bytes f policy v o k a (inl b) = b.none (a.parts, a.numeral)
read_or_not mode r bytes f policy v o k a (inr b) =
    let p : a.parts ≡ b.2.parts = parts_unique r bytes a.parts b.2.parts a.numeral.beginning b.2.has.beginning in
    let n : a.number ≡ b.2.number = read_unique mode r b.2.parts f.frac a.number b.2.number (subst (λ (q : Parts). IsReadNumber mode r q f.frac a.number) p a.read) b.2.read in
    let image : IsImage Checked f.signed f.width a.number v = subst (λ (q : Policy). IsImage q f.signed f.width a.number v) b.1 a.image in
    has_none f.signed f.width b.2.number v b.2.out_of_range (subst (λ (x : ℤ). IsImage Checked f.signed f.width x v) n image)

-- ---- a shown numeral
same_parts : (r : Radix) (bytes : List ℕ) (p q : Parts) → HasNumeral r bytes p → HasNumeral r bytes q → p ≡ q
same_parts r bytes p q a b = parts_unique r bytes p q a.beginning b.beginning

flag_one : (Out : ℤ → Type 0) (v w : ℤ) (o p : Bool) → v ≡ w → (IsTrue o ↔ Out v) → (IsTrue p ↔ Out w) → o ≡ p
flag_one Out v w true true e x y = refl
flag_one Out v w false false e x y = refl
flag_one Out v w true false e x y = absurd (false≢true (y.1 (subst Out e (x.0 refl))))
flag_one Out v w false true e x y = absurd (false≢true (x.1 (subst Out (sym e) (y.0 refl))))

read_as_one : (mode : ReadMode) (r : Radix) (bytes : List ℕ) (f : FormatParts) (policy : Policy) (v w : ℤ) (o p : Bool) → IsWidth f.width → IsReadAs mode r bytes f policy v o → IsReadAs mode r bytes f policy w p → (v ≡ w) × (o ≡ p)
read_as_one mode r bytes f policy v w o p width x y =
    let parts : x.parts ≡ y.parts = same_parts r bytes x.parts y.parts x.numeral y.numeral in
    let number : x.number ≡ y.number = read_unique mode r y.parts f.frac x.number y.number (subst (λ (q : Parts). IsReadNumber mode r q f.frac x.number) parts x.read) y.read in (
      image_one policy f.signed f.width y.number v w width (subst (λ (u : ℤ). IsImage policy f.signed f.width u v) number x.image) y.image,
      flag_one (IsOutOfRangeBy policy f.signed f.width) x.number y.number o p number x.flag y.flag,
    )

between_one : (form : Form) (r : Radix) (bytes : List ℕ) (f : FormatParts) (a b : List ℕ) → IsBetween form r bytes f a → IsBetween form r bytes f b → a ≡ b
between_one form r bytes f a b (inl x) (inl y) =
    let ends = enclosed_one r bytes f x.lo x.hi y.lo y.hi x.enclosed y.enclosed in
    let low : x.low ≡ y.low = shortest_text_unique y.lo f.frac x.low y.low (subst (λ c. IsShortestText c f.frac x.low) ends.0 x.is_low) y.is_low in
    let high : x.high ≡ y.high = shortest_text_unique y.hi f.frac x.high y.high (subst (λ c. IsShortestText c f.frac x.high) ends.1 x.is_high) y.is_high in
    x.text_is ∙ ap (λ t. neighbours form t x.lo x.high x.hi) low ∙ ap (λ v. neighbours form y.low v x.high x.hi) ends.0 ∙ ap (λ t. neighbours form y.low y.lo t x.hi) high ∙ ap (λ v. neighbours form y.low y.lo y.high v) ends.1 ∙ sym y.text_is
between_one form r bytes f a b (inl x) (inr y) = absurd (refusal_none r bytes f x.lo x.hi Overflow x.enclosed (inr (refl, y.0)))
between_one form r bytes f a b (inr x) (inl y) = absurd (refusal_none r bytes f y.lo y.hi Overflow y.enclosed (inr (refl, x.0)))
between_one form r bytes f a b (inr x) (inr y) = x.1 ∙ sym y.1

read_error_one : (form : Form) (m : Measure) (r : Radix) (f : ℕ) (p q : Parts) (b c : ℤ) (text other : List ℕ) → p ≡ q → b ≡ c → IsErrorText form m r p f b text → IsErrorText form m r q f c other → text ≡ other
read_error_one form m r f p q b c text other parts bits x y =
    let moved : IsErrorText form m r q f c text = subst (λ (v : ℤ). IsErrorText form m r q f v text) bits (subst (λ (t : Parts). IsErrorText form m r t f b text) parts x) in
    error_text_one form m r q f c text other moved y

shown_one : (form : Form) (mode : ReadMode) (r : Radix) (bytes : List ℕ) (f : FormatParts) (policy : Policy) (a b : List ℕ) → IsWidth f.width → IsShown form mode r bytes f policy a → IsShown form mode r bytes f policy b → a ≡ b
shown_one form mode r bytes f policy a b width x y =
    let one = read_as_one mode r bytes f policy x.bits y.bits x.overflowed y.overflowed width x.read y.read in
    let parts : x.read.parts ≡ y.read.parts = same_parts r bytes x.read.parts y.read.parts x.read.numeral y.read.numeral in
    let values : x.values ≡ y.values = values_one form f y.bits x.values y.values width (subst (λ (v : ℤ). AreValues form f v x.values) one.0 x.are_values) y.are_values in
    let error : x.error ≡ y.error = read_error_one form Value r f.frac x.read.parts y.read.parts x.bits y.bits x.error y.error parts one.0 x.is_error y.is_error in
    let ulps : x.ulps ≡ y.ulps = read_error_one form Ulps r f.frac x.read.parts y.read.parts x.bits y.bits x.ulps y.ulps parts one.0 x.are_ulps y.are_ulps in
    let between : x.between ≡ y.between = between_one form r bytes f x.between y.between x.is_between y.is_between in
    x.facts_are ∙ (rw (values, error, ulps, between, one.1) (sym y.facts_are))

show_facts_one : (form : Form) (mode : ReadMode) (r : Radix) (bytes : List ℕ) (f : FormatParts) (policy : Policy) (o p : Bool) (a b : List ℕ) → IsWidth f.width → AreShowFacts form mode r bytes f policy o a → AreShowFacts form mode r bytes f policy p b → (o ≡ p) × (a ≡ b)
show_facts_one form mode r bytes f policy true true a b width x y = (refl, x.facts_are ∙ ap (λ k. refusal form (message_of k)) (unread_one mode r bytes f policy x.kind y.kind x.unread y.unread) ∙ sym y.facts_are)
show_facts_one form mode r bytes f policy true false a b width x y = absurd (read_or_not mode r bytes f policy y.bits y.overflowed x.kind y.read x.unread)
show_facts_one form mode r bytes f policy false true a b width x y = absurd (read_or_not mode r bytes f policy x.bits x.overflowed y.kind x.read y.unread)
show_facts_one form mode r bytes f policy false false a b width x y = (refl, shown_one form mode r bytes f policy a b width x y)

pub show_block_one : ShowBlockIsTheOne
show_block_one mode r bytes f policy o p a b width x y = show_facts_one Lines mode r bytes f policy o p a b width x y

pub show_object_one : ShowObjectIsTheOne
show_object_one mode r bytes f policy o p a b width x y =
    let same = show_facts_one Members mode r bytes f policy o p x.members y.members width x.are_facts y.are_facts in
    (same.0, x.object_is ∙ ap (object_text bytes) same.1 ∙ sym y.object_is)

-- a numeral is not both refused and shown
pub show_facts_apart : (form : Form) (mode : ReadMode) (r : Radix) (bytes : List ℕ) (f : FormatParts) (policy : Policy) (a b : List ℕ) → AreShowFacts form mode r bytes f policy true a → AreShowFacts form mode r bytes f policy false b → ⊥
show_facts_apart form mode r bytes f policy a b x y = read_or_not mode r bytes f policy y.bits y.overflowed x.kind y.read x.unread

-- a refusal is unique for any width
pub refusal_one : ShowRefusalIsTheOne
refusal_one mode r bytes f policy true a b x y = (refl, x.facts_are ∙ ap (λ k. refusal Lines (message_of k)) (unread_one mode r bytes f policy x.kind y.kind x.unread y.unread) ∙ sym y.facts_are)
refusal_one mode r bytes f policy false a b x y = absurd (read_or_not mode r bytes f policy y.bits y.overflowed x.kind y.read x.unread)

-- a numeral has one error
pub measured_error_one : MeasuredErrorIsTheOne
measured_error_one = record {
  error = λ m mode r bytes f policy text other width x y.
      let one = read_as_one mode r bytes f policy x.bits y.bits x.overflowed y.overflowed width x.read y.read in
      let parts : x.read.parts ≡ y.read.parts = same_parts r bytes x.read.parts y.read.parts x.read.numeral y.read.numeral in
      read_error_one Lines m r f.frac x.read.parts y.read.parts x.bits y.bits text other parts one.0 x.is_error y.is_error;
  refusal = λ mode r bytes f policy kind other x y. unread_one mode r bytes f policy kind other x y;
  apart = λ m mode r bytes f policy kind text x y. read_or_not mode r bytes f policy y.bits y.overflowed kind y.read x;
}
