-- A numeral or a word whose number is moved has one answer.
use Rattle.std.proofs.Common.{◌≡◌, ◌∙◌, ◌↔◌, ◌<◌, ◌≤◌, ◌^◌, ◌*◌, ◌||◌, ℕ, ℤ, List, Bool, true, false, IsTrue}
use Rattle.std.proofs.Common.{refl, sym, ap, subst, arith, inl, inr, unsigned_abs}
use Rattle.std.specs.Int.{is_negative}
use Rattle.std.proofs.lemmas.Nat.{pow_pos}
use Rattle.fixed_bits.proofs.Public.{has_none, image_one, rounded_unique}
use Rattle.fixed_bits.specs.Formats.{FormatParts}
use Rattle.fixed_bits.specs.Images.{IsImage, IsOutOfRangeBy}
use Rattle.fixed_bits.specs.Ranges.{IsWidth}
use Rattle.fixed_bits.specs.declared.format.Policy.{Policy}
use Rattle.fixed_bits.specs.declared.format.Policy.TheVariants.{Checked}
use Rattle.fixed_bits.specs.declared.mode.ReadMode.{ReadMode}
use Rattle.fixed_bits.specs.Numbers.{with_sign}
use Rattle.fixed_convert.specs.Rounded.{IsMovedIn, IsNotReformatted, IsReformatted}
use Rattle.fixed_numeral.proofs.Public.{one_cause, parts_unique}
use Rattle.fixed_numeral.specs.Messages.{message_of}
use Rattle.fixed_numeral.specs.Numeral.{HasNumeral, Parts}
use Rattle.fixed_numeral.specs.declared.error.ParseErrorKind.{ParseErrorKind}
use Rattle.fixed_numeral.specs.declared.radix.Radix.{Radix}
use Rattle.fixed_read.proofs.Public.{read_unique}
use Rattle.fixed_read.specs.Reading.{IsReadNumber}
use Rattle.fixed_respell.specs.Answer.{respelled_answer}
use Rattle.fixed_respell.specs.Language.{fault_answer}
use Rattle.fixed_show.proofs.Public.{word_fault_one, word_has_no_fault, word_one}
use Rattle.fixed_show.specs.BitsBlock.{fault_message}
use Rattle.fixed_show.specs.ShowBlock.{IsReadAs, IsUnread}
use Rattle.fixed_write.proofs.Public.{shortest_text_unique}
use Rattle.fixed_write.specs.Texts.{IsShortestText}
use Rattle.line_engine.specs.AnswerText.{AnswerText}
use Rattle.fixed_command.specs.Convert.{AreFormats, IsMovedAnswer, IsMovedTo, IsNoSource, IsSource, IsUnmoved}
use Rattle.fixed_command.specs.declared.convert.Settings.{Settings}
use Rattle.fixed_command.specs.declared.spelling.Spelling.{Spelling}
use Rattle.fixed_command.specs.declared.spelling.Spelling.TheVariants.{Numeral, Word}

pub same_flag : (a b : Bool) (P : Type 0) → (IsTrue a ↔ P) → (IsTrue b ↔ P) → a ≡ b
same_flag true true P f g = refl
same_flag true false P f g = sym (g.1 (f.0 refl))
same_flag false true P f g = f.1 (g.0 refl)
same_flag false false P f g = refl

parts_one : (r : Radix) (bytes : List ℕ) (p q : Parts) → HasNumeral r bytes p → HasNumeral r bytes q → p ≡ q
parts_one r bytes p q a b = parts_unique r bytes p q a.beginning b.beginning

-- ---- the number that is moved
read_as_one : (mode : ReadMode) (r : Radix) (bytes : List ℕ) (f : FormatParts) (policy : Policy) (v w : ℤ) (o u :
    Bool) (a : IsReadAs mode r bytes f policy v o) (b : IsReadAs mode r bytes f policy w u)
    → a.number ≡ b.number
read_as_one mode r bytes f policy v w o u a b =
    let p : a.parts ≡ b.parts = parts_one r bytes a.parts b.parts a.numeral b.numeral in
    read_unique mode r b.parts f.frac a.number b.number (subst (λ q. IsReadNumber mode r q f.frac a.number) p
    a.read) b.read

-- a numeral is read as one number
pub read_bits_one : (mode : ReadMode) (r : Radix) (bytes : List ℕ) (f : FormatParts) (policy : Policy) (v w : ℤ) (o u :
    Bool) → IsWidth f.width → IsReadAs mode r bytes f policy v o → IsReadAs mode r bytes f policy w u → v ≡ w
read_bits_one mode r bytes f policy v w o u width a b =
    let n : a.number ≡ b.number = read_as_one mode r bytes f policy v w o u a b in
    image_one policy f.signed f.width b.number v w width (subst (λ x. IsImage policy f.signed f.width x v) n a.image)
    b.image

pub source_by : (spelling : Spelling) (s : Settings) (line : List ℕ) (v w : ℤ) (o u : Bool) → AreFormats s
    → IsSource spelling s line v o → IsSource spelling s line w u → (v ≡ w) × (o ≡ u)
source_by Numeral s line v w o u formats a b =
    let n : a.number ≡ b.number = read_as_one s.mode s.radix line s.source s.policy v w o u a b in (
      read_bits_one s.mode s.radix line s.source s.policy v w o u formats.source.is_width a b,
      same_flag o u _ (subst (λ x. IsTrue o ↔ IsOutOfRangeBy s.policy s.source.signed s.source.width x) n a.flag)
          b.flag,
    )
source_by Word s line v w o u formats a b = (
  word_one s.radix s.source line v w formats.source.is_width a.0 b.0,
  a.1 ∙ sym b.1,
)

-- ---- the cause if there is none
pub unread_one : (mode : ReadMode) (r : Radix) (bytes : List ℕ) (f : FormatParts) (policy : Policy)
    (k l : ParseErrorKind) → IsUnread mode r bytes f policy k → IsUnread mode r bytes f policy l → k ≡ l
unread_one mode r bytes f policy k l (inl a) (inl b) = one_cause r bytes k l a b
unread_one mode r bytes f policy k l (inl a) (inr b) = absurd (a.none (b.2.parts, b.2.has))
unread_one mode r bytes f policy k l (inr a) (inl b) = absurd (b.none (a.2.parts, a.2.has))
unread_one mode r bytes f policy k l (inr a) (inr b) = a.0 ∙ sym b.0

pub read_or_not : (mode : ReadMode) (r : Radix) (bytes : List ℕ) (f : FormatParts) (policy : Policy) (v : ℤ) (o : Bool)
    (k : ParseErrorKind)
    → IsReadAs mode r bytes f policy v o → IsUnread mode r bytes f policy k → ⊥
read_or_not mode r bytes f policy v o k a (inl b) = b.none (a.parts, a.numeral)
read_or_not mode r bytes f policy v o k a (inr b) =
    let p : a.parts ≡ b.2.parts = parts_one r bytes a.parts b.2.parts a.numeral b.2.has in
    let n : a.number ≡ b.2.number = read_unique mode r b.2.parts f.frac a.number b.2.number (subst (λ q.
    IsReadNumber mode r q f.frac a.number) p a.read) b.2.read in
    let image : IsImage Checked f.signed f.width a.number v = subst (λ q. IsImage q f.signed f.width a.number v)
    b.1 a.image in
    has_none f.signed f.width b.2.number v b.2.out_of_range (subst (λ x. IsImage Checked f.signed f.width x v) n image)

pub no_source_by : (spelling : Spelling) (s : Settings) (line m n : List ℕ) → IsNoSource spelling s line m
    → IsNoSource spelling s line n → m ≡ n
no_source_by Numeral s line m n a b = a.2
    ∙ ap message_of (unread_one s.mode s.radix line s.source s.policy a.0 b.0 a.1 b.1) ∙ sym b.2
no_source_by Word s line m n a b = a.2 ∙ ap fault_message (word_fault_one s.radix s.source line a.0 b.0 a.1 b.1)
    ∙ sym b.2

pub source_or_not : (spelling : Spelling) (s : Settings) (line m : List ℕ) (v : ℤ) (o : Bool)
    → IsSource spelling s line v o → IsNoSource spelling s line m → ⊥
source_or_not Numeral s line m v o a b = read_or_not s.mode s.radix line s.source s.policy v o b.0 a b.1
source_or_not Word s line m v o a b = word_has_no_fault s.radix s.source line b.0 v b.1 a.0

-- ---- the bits after the move
pub moved_same : (mode : ReadMode) (b : ℤ) (f g : ℕ) (v w : ℤ) → IsMovedIn mode b f g v → IsMovedIn mode b f g w → v ≡ w
moved_same mode b f g v w x y =
    let same : x.ulps ≡ y.ulps = rounded_unique mode (is_negative b) (unsigned_abs b * 2 ^ g) (2 ^ f) x.ulps y.ulps
    (pow_pos f) x.rounded y.rounded in
    x.value ∙ ap (with_sign (is_negative b)) same ∙ sym y.value

pub reformatted_one : (mode : ReadMode) (policy : Policy) (target : FormatParts) (b : ℤ) (f : ℕ) (v w : ℤ) (o u : Bool)
    → IsWidth target.width → IsReformatted mode policy target b f v o → IsReformatted mode policy target b f w u
    → (v ≡ w) × (o ≡ u)
reformatted_one mode policy target b f v w o u is x y =
    let m : x.moved ≡ y.moved = moved_same mode b f target.frac x.moved y.moved x.is_moved y.is_moved in (
      image_one policy target.signed target.width y.moved v w is (subst (λ z. IsImage policy target.signed
          target.width z v) m x.image_is) y.image_is,
      same_flag o u _ (subst (λ z. IsTrue o ↔ IsOutOfRangeBy policy target.signed target.width z) m x.verdict)
          y.verdict,
    )

pub reformatted_or_not : (mode : ReadMode) (policy : Policy) (target : FormatParts) (b : ℤ) (f : ℕ) (v : ℤ) (o : Bool)
    → IsReformatted mode policy target b f v o → IsNotReformatted mode policy target b f → ⊥
reformatted_or_not mode policy target b f v o x y =
    let m : x.moved ≡ y.moved = moved_same mode b f target.frac x.moved y.moved x.is_moved y.is_moved in
    let image : IsImage Checked target.signed target.width x.moved v = subst (λ q. IsImage q target.signed
    target.width x.moved v) y.checked x.image_is in
    has_none target.signed target.width y.moved v y.out (subst (λ z. IsImage Checked target.signed target.width z
    v) m image)

-- ---- the answer
too_long : (longest n : ℕ) → longest < n → n ≤ longest → ⊥
too_long longest n long short = omega (arith, long, short)

unmoved_or_moved : (s : Settings) (line : List ℕ) (a b : AnswerText) → IsUnmoved s line a → IsMovedTo s line b → ⊥
unmoved_or_moved s line a b x y =
    let same = source_by s.spelling s line x.number y.number x.out y.out x.formats x.source y.source in
    reformatted_or_not s.target_mode s.policy s.target y.number s.source.frac y.bits y.target_out y.moved
    (subst (λ v. IsNotReformatted s.target_mode s.policy s.target v s.source.frac) same.0 x.none)

answers_alike : (t u : List ℕ) (b c : ℤ) (o p : Bool) → t ≡ u → b ≡ c → o ≡ p
    → respelled_answer t b o ≡ respelled_answer u c p
answers_alike t u b c o p e f g = ap (λ x. respelled_answer x b o) e
    ∙ (ap (λ x. respelled_answer u x o) f ∙ ap (λ x. respelled_answer u c x) g)

moved_to_one : (s : Settings) (line : List ℕ) (a b : AnswerText) → IsMovedTo s line a → IsMovedTo s line b → a ≡ b
moved_to_one s line a b x y =
    let source = source_by s.spelling s line x.number y.number x.out y.out x.formats x.source y.source in
    let moved = reformatted_one s.target_mode s.policy s.target y.number s.source.frac x.bits y.bits x.target_out
    y.target_out x.formats.target.is_width
    (subst (λ v. IsReformatted s.target_mode s.policy s.target v s.source.frac x.bits x.target_out) source.0
    x.moved) y.moved in
    let text : x.text ≡ y.text = shortest_text_unique y.bits s.target.frac x.text y.text (subst (λ c.
    IsShortestText c s.target.frac x.text) moved.0 x.shortest) y.shortest in
    let out : (x.out || x.target_out) ≡ (y.out || y.target_out) = ap (λ o. o || x.target_out) source.1
    ∙ ap (λ o. y.out || o) moved.1 in
    x.answer_is ∙ (answers_alike x.text y.text x.bits y.bits _ _ text moved.0 out ∙ sym y.answer_is)

pub moved_one : (s : Settings) (line : List ℕ) (a b : AnswerText) → IsMovedAnswer s line a → IsMovedAnswer s line b
    → a ≡ b
moved_one s line a b (inl x) (inl y) = x.answer_is ∙ sym y.answer_is
moved_one s line a b (inl x) (inr (inl y)) = absurd (too_long _ _ x.long y.short)
moved_one s line a b (inl x) (inr (inr (inl y))) = absurd (too_long _ _ x.long y.short)
moved_one s line a b (inl x) (inr (inr (inr y))) = absurd (too_long _ _ x.long y.short)
moved_one s line a b (inr (inl x)) (inl y) = absurd (too_long _ _ y.long x.short)
moved_one s line a b (inr (inl x)) (inr (inl y)) = x.answer_is
    ∙ ap fault_answer (no_source_by s.spelling s line x.message y.message x.none y.none) ∙ sym y.answer_is
moved_one s line a b (inr (inl x)) (inr (inr (inl y))) = absurd (source_or_not s.spelling s line x.message y.number
    y.out y.source x.none)
moved_one s line a b (inr (inl x)) (inr (inr (inr y))) = absurd (source_or_not s.spelling s line x.message y.number
    y.out y.source x.none)
moved_one s line a b (inr (inr (inl x))) (inl y) = absurd (too_long _ _ y.long x.short)
moved_one s line a b (inr (inr (inl x))) (inr (inl y)) = absurd (source_or_not s.spelling s line y.message x.number
    x.out x.source y.none)
moved_one s line a b (inr (inr (inl x))) (inr (inr (inl y))) = x.answer_is ∙ sym y.answer_is
moved_one s line a b (inr (inr (inl x))) (inr (inr (inr y))) = absurd (unmoved_or_moved s line a b x y)
moved_one s line a b (inr (inr (inr x))) (inl y) = absurd (too_long _ _ y.long x.short)
moved_one s line a b (inr (inr (inr x))) (inr (inl y)) = absurd (source_or_not s.spelling s line y.message x.number
    x.out x.source y.none)
moved_one s line a b (inr (inr (inr x))) (inr (inr (inl y))) = absurd (unmoved_or_moved s line b a y x)
moved_one s line a b (inr (inr (inr x))) (inr (inr (inr y))) = moved_to_one s line a b x y
