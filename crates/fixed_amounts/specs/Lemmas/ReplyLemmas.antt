-- A numeral, or a count of units, has one reply.
use Rattle.std.proofs.Common.{◌≡◌, ◌∙◌, ◌↔◌, ℕ, ℤ, Bool, true, false, IsTrue, List, refl, sym, ap, subst, arith, inl}
use Rattle.std.proofs.Common.{inr}
use Rattle.fixed_bits.proofs.Public.{has_none, image_one}
use Rattle.fixed_bits.specs.Images.{IsImage, IsOutOfRangeBy}
use Rattle.fixed_bits.specs.Ranges.{IsWidth}
use Rattle.fixed_bits.specs.declared.format.Policy.{Policy}
use Rattle.fixed_bits.specs.declared.format.Policy.TheVariants.{Checked}
use Rattle.fixed_bits.specs.declared.mode.ReadMode.{ReadMode}
use Rattle.fixed_decimal.proofs.Public.{read_decimal_unique}
use Rattle.fixed_decimal.specs.Decimals.{IsReadDecimal}
use Rattle.fixed_numeral.proofs.Public.{one_cause, parts_unique}
use Rattle.fixed_numeral.specs.Messages.{message_of}
use Rattle.fixed_numeral.specs.Numeral.{HasNumeral, Parts}
use Rattle.fixed_numeral.specs.declared.error.ParseErrorKind.{ParseErrorKind}
use Rattle.fixed_numeral.specs.declared.radix.Radix.TheVariants.{Dec}
use Rattle.fixed_respell.specs.Language.{fault_answer}
use Rattle.fixed_show.proofs.Public.{word_fault_one, word_has_no_fault, word_one}
use Rattle.fixed_show.specs.BitsBlock.{fault_message}
use Rattle.line_engine.specs.AnswerText.{AnswerText}
use Rattle.fixed_amounts.specs.Laws.{AmountReplyIsTheOne}
use Rattle.fixed_amounts.specs.Reading.{IsAmount, IsNoAmount, IsReadAs, IsUnread, words}
use Rattle.fixed_amounts.specs.Reply.{printed}
use Rattle.fixed_amounts.specs.declared.settings.AmountSettings.{AmountSettings}
use Rattle.fixed_amounts.specs.declared.settings.AmountSpelling.{AmountSpelling}
use Rattle.fixed_amounts.specs.declared.settings.AmountSpelling.TheVariants.{Numeral, Units}

pub is_width : IsWidth 64
is_width = record { some = omega arith; most = omega arith }

same_flag : (a b : Bool) (P : Type 0) → (IsTrue a ↔ P) → (IsTrue b ↔ P) → a ≡ b
same_flag true true P f g = refl
same_flag true false P f g = sym (g.1 (f.0 refl))
same_flag false true P f g = f.1 (g.0 refl)
same_flag false false P f g = refl

-- bytes are read as one number
number_one : (mode : ReadMode) (bytes : List ℕ) (n : ℕ) (p q : Parts) (v w : ℤ) → HasNumeral Dec bytes p
    → HasNumeral Dec bytes q → IsReadDecimal mode p n v → IsReadDecimal mode q n w → v ≡ w
number_one mode bytes n p q v w a b x y =
    let same : p ≡ q = parts_unique Dec bytes p q a.beginning b.beginning in
    read_decimal_unique mode q n v w (subst (λ r. IsReadDecimal mode r n v) same x) y

pub read_as_one : (mode : ReadMode) (bytes : List ℕ) (n : ℕ) (policy : Policy) (v w : ℤ) (o u : Bool)
    → IsReadAs mode bytes n policy v o → IsReadAs mode bytes n policy w u → (v ≡ w) × (o ≡ u)
read_as_one mode bytes n policy v w o u a b =
    let same : a.number ≡ b.number = number_one mode bytes n a.parts b.parts a.number b.number a.numeral b.numeral
    a.read b.read in (
      image_one policy true 64 b.number v w is_width (subst (λ x. IsImage policy true 64 x v) same a.image) b.image,
      same_flag o u _ (subst (λ x. IsTrue o ↔ IsOutOfRangeBy policy true 64 x) same a.flag) b.flag,
    )

amount_one : (spelling : AmountSpelling) (s : AmountSettings) (bytes : List ℕ) (v w : ℤ) (o u : Bool)
    → IsAmount spelling s bytes v o → IsAmount spelling s bytes w u → (v ≡ w) × (o ≡ u)
amount_one Numeral s bytes v w o u a b = read_as_one s.mode bytes s.format s.policy v w o u a b
amount_one Units s bytes v w o u a b = (word_one Dec words bytes v w is_width a.0 b.0, a.1 ∙ sym b.1)

-- bytes are refused for one kind at most, and then not read
pub unread_one : (mode : ReadMode) (bytes : List ℕ) (n : ℕ) (policy : Policy) (k l : ParseErrorKind)
    → IsUnread mode bytes n policy k → IsUnread mode bytes n policy l → k ≡ l
unread_one mode bytes n policy k l (inl a) (inl b) = one_cause Dec bytes k l a b
unread_one mode bytes n policy k l (inl a) (inr b) = absurd (a.none (b.2.parts, b.2.numeral))
unread_one mode bytes n policy k l (inr a) (inl b) = absurd (b.none (a.2.parts, a.2.numeral))
unread_one mode bytes n policy k l (inr a) (inr b) = a.0 ∙ sym b.0

pub read_or_not : (mode : ReadMode) (bytes : List ℕ) (n : ℕ) (policy : Policy) (v : ℤ) (o : Bool) (k : ParseErrorKind)
    → IsReadAs mode bytes n policy v o → IsUnread mode bytes n policy k → ⊥
read_or_not mode bytes n policy v o k a (inl b) = b.none (a.parts, a.numeral)
read_or_not mode bytes n policy v o k a (inr b) =
    let same : a.number ≡ b.2.number = number_one mode bytes n a.parts b.2.parts a.number b.2.number a.numeral
    b.2.numeral a.read b.2.read in
    let image : IsImage Checked true 64 a.number v = subst (λ q. IsImage q true 64 a.number v) b.1 a.image in
    has_none true 64 b.2.number v b.2.out (subst (λ x. IsImage Checked true 64 x v) same image)

no_amount_one : (spelling : AmountSpelling) (s : AmountSettings) (bytes m n : List ℕ) → IsNoAmount spelling s bytes m
    → IsNoAmount spelling s bytes n → m ≡ n
no_amount_one Numeral s bytes m n a b = a.2
    ∙ ap message_of (unread_one s.mode bytes s.format s.policy a.0 b.0 a.1 b.1) ∙ sym b.2
no_amount_one Units s bytes m n a b = a.2 ∙ ap fault_message (word_fault_one Dec words bytes a.0 b.0 a.1 b.1) ∙ sym b.2

amount_or_not : (spelling : AmountSpelling) (s : AmountSettings) (bytes m : List ℕ) (v : ℤ) (o : Bool)
    → IsAmount spelling s bytes v o → IsNoAmount spelling s bytes m → ⊥
amount_or_not Numeral s bytes m v o a b = read_or_not s.mode bytes s.format s.policy v o b.0 a b.1
amount_or_not Units s bytes m v o a b = word_has_no_fault Dec words bytes b.0 v b.1 a.0

pub amount_reply_one : AmountReplyIsTheOne
amount_reply_one s bytes a b (inl x) (inl y) = x.reply_is
    ∙ ap fault_answer (no_amount_one s.spelling s bytes x.message y.message x.none y.none) ∙ sym y.reply_is
amount_reply_one s bytes a b (inl x) (inr y) = absurd (amount_or_not s.spelling s bytes x.message y.units y.overflowed
    y.amount x.none)
amount_reply_one s bytes a b (inr x) (inl y) = absurd (amount_or_not s.spelling s bytes y.message x.units x.overflowed
    x.amount y.none)
amount_reply_one s bytes a b (inr x) (inr y) =
    let same = amount_one s.spelling s bytes x.units y.units x.overflowed y.overflowed x.amount y.amount in
    let shown : ℤ → Bool → AnswerText = λ v o. record { text = printed s.print s.format v o; fault = false } in
    x.reply_is ∙ (ap (λ v. shown v x.overflowed) same.0 ∙ (ap (shown y.units) same.1 ∙ sym y.reply_is))
