-- Each call has at most one end.
use Rattle.std.proofs.Common.{◌≡◌, ◌∙◌, ◌==◌, if◌then◌else◌, nat_lt, ℕ, ℤ, true, List, codes, inl, inr, refl, sym, ap, subst, FitsSigned}
use Rattle.std.specs.Int.{w64}
use Rattle.std.proofs.lemmas.Bool.{lt-ltb}
use Rattle.fixed_bits.specs.Down.{down}
use Rattle.fixed_bits.specs.Formats.{FormatParts}
use Rattle.fixed_bits.specs.declared.format.Policy.{Policy}
use Rattle.fixed_bits.specs.declared.mode.ReadMode.{ReadMode}
use Rattle.fixed_convert.specs.Order.{order_of}
use Rattle.fixed_enclose.specs.Enclosure.{IsEnclosed, IsRefusal}
use Rattle.fixed_enclose.specs.Laws.{PairIsTheOne}
use Rattle.fixed_numeral.specs.Messages.{message_of}
use Rattle.fixed_numeral.specs.Numeral.{base, HasNumeral, Parts}
use Rattle.fixed_numeral.specs.declared.error.ParseErrorKind.{ParseErrorKind}
use Rattle.fixed_numeral.specs.declared.error.ParseErrorKind.TheVariants.{InvalidDigit, MisplacedSign, MisplacedUnderscore, TooManyPoints, TooManyExp, ExpInvalidDigit, ExpOverflow, NoDigits, ExpNoDigits, Overflow}
use Rattle.fixed_numeral.specs.declared.radix.Radix.{Radix}
use Rattle.fixed_numeral.proofs.Public.{one_cause, parts_unique}
use Rattle.fixed_read.specs.Reading.{IsReadNumber}
use Rattle.fixed_read.proofs.Public.{read_unique}
use Rattle.fixed_respell.specs.AnswerLaws.{AnswerIsTheOne}
use Rattle.fixed_respell.specs.Laws.{RefusalHasNone, RefusalIsTheOne, RespelledIsTheOne}
use Rattle.line_engine.specs.AnswerText.{AnswerText}
use Rattle.fixed_write.specs.Texts.{IsShortestText}
use Rattle.fixed_write.proofs.Public.{shortest_text_unique}
use Rattle.fixed_c.specs.Arguments.{Names, NamesFormat, NamesMode, NamesPolicy, NamesRadix}
use Rattle.fixed_c.specs.Codes.{IsMessage, refusal_code, refusal_message}
use Rattle.fixed_c.specs.Convert.{CompareIsRefused, ConvertIsRefused, IsCompared, IsConverted, IsNotConverted, IsPrinted, PrintIsRefused, order_code}
use Rattle.fixed_c.specs.Enclose.{EncloseIsRefused, IsEnclosedBy}
use Rattle.fixed_c.specs.Laws.{AnswerEndsOnce, CompareEndsOnce, ConvertEndsOnce, EncloseEndsOnce, EnclosureInC, MessageEndsOnce, PrintEndsOnce, ReadEndsOnce, RespellEndsOnce}
use Rattle.fixed_c.specs.Numbers.{AreBits, AreBitsOf, flag_of, has_bits, IsBrought}
use Rattle.fixed_c.specs.Outcome.{ForKind, Never, Unless}
use Rattle.fixed_c.specs.Read.{HasNumber, IsNotRead, IsReadAs, ReadIsRefused}
use Rattle.fixed_c.specs.Respell.{IsNotReached, IsReachedAs, RespellIsRefused}
use Rattle.fixed_c.specs.Texts.{PutsText}
use Rattle.fixed_c.specs.declared.number.FixedEnclosure.{FixedEnclosure}
use Rattle.fixed_c.specs.declared.number.FixedNumber.{FixedNumber}
use Rattle.fixed_c.specs.declared.refusal.Refusal.{Refusal}
use Rattle.fixed_c.specs.declared.refusal.Refusal.TheVariants.{Numeral, BadRadix, BadFormat, BadTarget, BadPolicy, BadMode, BadBits, NoRoom, BadOtherBits, BadPlaces, BadRounding, BadWord, BadRows, BadNotation, BadWidth, BadFill, BadAlign, NotFinite}
use Rattle.std.proofs.Common.{false, ◌≤◌}
use Rattle.fixed_bits.specs.declared.mode.ReadMode.TheVariants.{NearestEven}
use Rattle.fixed_convert.specs.Rounded.{IsMovedIn, MovedInIsTheOne}
use Rattle.fixed_numeral.specs.Literal.{HasLiteral, literal_radix}
use Rattle.fixed_numeral.proofs.Public.{one_literal, one_literal_cause}
use Rattle.fixed_round.specs.declared.rounding.Rounding.TheVariants.{Ceil, Floor, Round, RoundTiesEven}
use Rattle.fixed_write.specs.Laws.{RoundedTextIsComputed}
use Rattle.fixed_write.specs.Places.{IsRoundedText}
use Rattle.fixed_c.specs.Codes.{policy_code}
use Rattle.fixed_c.specs.Convert.{ConvertInIsRefused, IsConvertedIn, IsNotConvertedIn, IsPrintedTo, PlacesIsRefused}
use Rattle.fixed_c.specs.Laws.{ConvertInEndsOnce, LiteralEndsOnce, PlacesEndsOnce, RoundEndsOnce}
use Rattle.fixed_c.specs.Literal.{IsLiteralNotRead, IsLiteralReadAs, LiteralIsRefused}
use Rattle.fixed_c.specs.Round.{IsNotRoundedTo, IsRoundedTo, NamesRounding, RoundIsRefused, rounded_bits, rounding_code}
use Rattle.fixed_c.specs.declared.rounding.WholeRounding.{WholeRounding}
use Rattle.fixed_c.specs.declared.rounding.WholeRounding.TheVariants.{By, ToZero}
use Rattle.fixed_c.proofs.EndLemmas.{bits_of_number, bits_one, brought_none, brought_one, end_one, kind_one, mode_one, number_same, policy_one, puts_one, radix_one, text_one, unless_none, unless_one}

-- two facts about the named radix, policy and mode hold together
pub names_joined : (radix policy mode : ℕ) (P Q : Radix → Policy → ReadMode → Type 0) (C : Type 0)
    → ((r : Radix) (p : Policy) (m : ReadMode) → P r p m → Q r p m → C) → Names radix policy mode P → Names radix policy mode Q → C
names_joined radix policy mode P Q C join p q =
    let r : q.the_radix ≡ p.the_radix = radix_one q.the_radix p.the_radix radix q.radix_is p.radix_is in
    let y : q.the_policy ≡ p.the_policy = policy_one q.the_policy p.the_policy policy q.policy_is p.policy_is in
    let m : q.the_mode ≡ p.the_mode = mode_one q.the_mode p.the_mode mode q.mode_is p.mode_is in
    join p.the_radix p.the_policy p.the_mode p.holds
    (subst (λ (x : Radix). Q x p.the_policy p.the_mode) r (subst (λ (x : Policy). Q q.the_radix x p.the_mode) y (subst (λ (x : ReadMode). Q q.the_radix q.the_policy x) m q.holds)))

-- ---- reading
pub number_one : (Has : Parts → Type 0) (r : Radix) (f : FormatParts) (m : ReadMode) (v w : ℤ) → ((p q : Parts) → Has p → Has q → p ≡ q) → HasNumber Has f r m v → HasNumber Has f r m w → v ≡ w
number_one Has r f m v w one g h =
    read_unique m r h.parts f.frac v w (subst (λ (p : Parts). IsReadNumber m r p f.frac v) (one g.parts h.parts g.has h.has) g.read) h.read

numeral_one : (r : Radix) (text : List ℕ) (p q : Parts) → HasNumeral r text p → HasNumeral r text q → p ≡ q
numeral_one r text p q g h = parts_unique r text p q g.beginning h.beginning

read_one : (text : List ℕ) (f : FormatParts) (r : Radix) (m : ReadMode) (v w : ℤ) → HasNumber (HasNumeral r text) f r m v → HasNumber (HasNumeral r text) f r m w → v ≡ w
read_one text f r m v w = number_one (HasNumeral r text) r f m v w (numeral_one r text)

module _ (text : List ℕ) (radix : ℕ) (f : FormatParts) (policy mode : ℕ) where
  abbrev Right : FixedNumber → Type 0
  Right n = Names radix policy mode (IsReadAs text f n.bits n.overflowed)

  same_read : (a b : FixedNumber) → FitsSigned w64 a.bits → FitsSigned w64 b.bits → (r : Radix) (p : Policy) (m : ReadMode)
      → IsReadAs text f a.bits a.overflowed r p m → IsReadAs text f b.bits b.overflowed r p m → a ≡ b
  same_read a b fa fb r p m g h =
      let v : h.number ≡ g.number = read_one text f r m h.number g.number h.has g.has in
      number_same a b (brought_one f p g.number a.bits b.bits a.overflowed b.overflowed g.format fa fb g.brought (subst (λ (x : ℤ). IsBrought f p x b.bits b.overflowed) v h.brought))

  read_not : (bits : ℤ) (flag : ℕ) (kind : ParseErrorKind) (r : Radix) (p : Policy) (m : ReadMode) → IsReadAs text f bits flag r p m → IsNotRead text f kind r p m → ⊥
  read_not bits flag kind r p m g (inl cause) = cause.none (g.has.parts, g.has.has)
  read_not bits flag kind r p m g (inr over) =
      let v : g.number ≡ over.1.number = read_one text f r m g.number over.1.number g.has over.1.has in
      brought_none f p over.1.number bits flag (subst (λ (x : ℤ). IsBrought f p x bits flag) v g.brought) over.1.out

  read_kind : (k l : ParseErrorKind) (r : Radix) (p : Policy) (m : ReadMode) → IsNotRead text f k r p m → IsNotRead text f l r p m → k ≡ l
  read_kind k l r p m (inl a) (inl b) = one_cause r text k l a b
  read_kind k l r p m (inl a) (inr b) = absurd (a.none (b.1.has.parts, b.1.has.has))
  read_kind k l r p m (inr a) (inl b) = absurd (b.none (a.1.has.parts, a.1.has.has))
  read_kind k l r p m (inr a) (inr b) = a.0 ∙ sym b.0

  abbrev Kinds : Refusal → Type 0
  Kinds = ForKind (λ kind. Names radix policy mode (IsNotRead text f kind))

  abbrev ByMode : Refusal → Type 0
  ByMode = Unless (NamesMode mode) BadMode Kinds

  abbrev ByPolicy : Refusal → Type 0
  ByPolicy = Unless (NamesPolicy policy) BadPolicy ByMode

  abbrev ByFormat : Refusal → Type 0
  ByFormat = Unless (NamesFormat f) BadFormat ByPolicy

  read_none : (n : FixedNumber) (r : Refusal) → Right n → ReadIsRefused text radix f policy mode r → ⊥
  read_none n r h =
      unless_none (NamesRadix radix) BadRadix ByFormat r (h.the_radix, h.radix_is)
      (unless_none (NamesFormat f) BadFormat ByPolicy r h.holds.format
      (unless_none (NamesPolicy policy) BadPolicy ByMode r (h.the_policy, h.policy_is)
      (unless_none (NamesMode mode) BadMode Kinds r (h.the_mode, h.mode_is)
      (λ k. names_joined radix policy mode (IsReadAs text f n.bits n.overflowed) (IsNotRead text f k.0) ⊥ (read_not n.bits n.overflowed k.0) h k.2))))

  read_refusal : (r s : Refusal) → ReadIsRefused text radix f policy mode r → ReadIsRefused text radix f policy mode s → r ≡ s
  read_refusal r s =
      unless_one (NamesRadix radix) BadRadix ByFormat r s
      (unless_one (NamesFormat f) BadFormat ByPolicy r s
      (unless_one (NamesPolicy policy) BadPolicy ByMode r s
      (unless_one (NamesMode mode) BadMode Kinds r s
      (kind_one (λ kind. Names radix policy mode (IsNotRead text f kind)) r s (λ k l. names_joined radix policy mode (IsNotRead text f k) (IsNotRead text f l) (k ≡ l) (read_kind k l))))))

pub read_ends_once : ReadEndsOnce
read_ends_once text radix f policy mode old a b code other fa fb =
    end_one (Right text radix f policy mode) (ReadIsRefused text radix f policy mode) old a b code other
    (names_joined radix policy mode (IsReadAs text f a.bits a.overflowed) (IsReadAs text f b.bits b.overflowed) (a ≡ b) (same_read text radix f policy mode a b fa fb))
    (read_none text radix f policy mode) (read_refusal text radix f policy mode)

-- ---- converting
module _ (f g : FormatParts) (policy : ℕ) (bits : ℤ) (fits : FitsSigned w64 bits) where
  abbrev Converts : FixedNumber → Type 0
  Converts n = IsConverted f g policy bits n.bits n.overflowed

  same_converted : (a b : FixedNumber) → FitsSigned w64 a.bits → FitsSigned w64 b.bits → Converts a → Converts b → a ≡ b
  same_converted a b fa fb p q =
      let v : q.number ≡ p.number = bits_one f bits q.number p.number fits q.given_is p.given_is in
      let y : q.the_policy ≡ p.the_policy = policy_one q.the_policy p.the_policy policy q.policy_is p.policy_is in
      number_same a b (brought_one g p.the_policy (down p.number f.frac g.frac) a.bits b.bits a.overflowed b.overflowed p.target_format fa fb p.brought
      (subst (λ (x : Policy). IsBrought g x (down p.number f.frac g.frac) b.bits b.overflowed) y (subst (λ (x : ℤ). IsBrought g q.the_policy (down x f.frac g.frac) b.bits b.overflowed) v q.brought)))

  not_converted : (n : FixedNumber) → Converts n → IsNotConverted f g policy bits → ⊥
  not_converted n p q =
      let v : p.number ≡ q.number = bits_one f bits p.number q.number fits p.given_is q.given_is in
      let y : p.the_policy ≡ q.the_policy = policy_one p.the_policy q.the_policy policy p.policy_is q.policy_is in
      brought_none g q.the_policy (down q.number f.frac g.frac) n.bits n.overflowed
      (subst (λ (x : Policy). IsBrought g x (down q.number f.frac g.frac) n.bits n.overflowed) y (subst (λ (x : ℤ). IsBrought g p.the_policy (down x f.frac g.frac) n.bits n.overflowed) v p.brought)) q.out

  abbrev Overflows : Refusal → Type 0
  Overflows = ForKind (λ kind. (kind ≡ Overflow) × IsNotConverted f g policy bits)

  abbrev ConvertBits : Refusal → Type 0
  ConvertBits = Unless (AreBits f bits) BadBits Overflows

  abbrev ConvertPolicy : Refusal → Type 0
  ConvertPolicy = Unless (NamesPolicy policy) BadPolicy ConvertBits

  abbrev ConvertTarget : Refusal → Type 0
  ConvertTarget = Unless (NamesFormat g) BadTarget ConvertPolicy

  convert_none : (n : FixedNumber) (r : Refusal) → Converts n → ConvertIsRefused f g policy bits r → ⊥
  convert_none n r h =
      unless_none (NamesFormat f) BadFormat ConvertTarget r h.source_format
      (unless_none (NamesFormat g) BadTarget ConvertPolicy r h.target_format
      (unless_none (NamesPolicy policy) BadPolicy ConvertBits r (h.the_policy, h.policy_is)
      (unless_none (AreBits f bits) BadBits Overflows r (h.number, h.given_is) (λ k. not_converted n h k.2.1))))

  convert_refusal : (r s : Refusal) → ConvertIsRefused f g policy bits r → ConvertIsRefused f g policy bits s → r ≡ s
  convert_refusal r s =
      unless_one (NamesFormat f) BadFormat ConvertTarget r s
      (unless_one (NamesFormat g) BadTarget ConvertPolicy r s
      (unless_one (NamesPolicy policy) BadPolicy ConvertBits r s
      (unless_one (AreBits f bits) BadBits Overflows r s (kind_one (λ kind. (kind ≡ Overflow) × IsNotConverted f g policy bits) r s (λ k l x y. x.0 ∙ sym y.0)))))

pub convert_ends_once : ConvertEndsOnce
convert_ends_once f g policy bits fits old a b code other fa fb =
    end_one (Converts f g policy bits fits) (ConvertIsRefused f g policy bits) old a b code other
    (same_converted f g policy bits fits a b fa fb) (convert_none f g policy bits fits) (convert_refusal f g policy bits fits)

-- ---- comparing
module _ (f g : FormatParts) (a b : ℤ) (fa : FitsSigned w64 a) (fb : FitsSigned w64 b) where
  same_order : (x y : ℤ) → IsCompared f g a b x → IsCompared f g a b y → x ≡ y
  same_order x y p q =
      let l : q.left ≡ p.left = bits_one f a q.left p.left fa q.left_is p.left_is in
      let r : q.right ≡ p.right = bits_one g b q.right p.right fb q.right_is p.right_is in
      p.order_is ∙ sym (q.order_is ∙ ap (λ (z : ℤ). order_code (order_of z f.frac q.right g.frac)) l ∙ ap (λ (z : ℤ). order_code (order_of p.left f.frac z g.frac)) r)

  abbrev CompareOther : Refusal → Type 0
  CompareOther = Unless (AreBits g b) BadOtherBits Never

  abbrev CompareBits : Refusal → Type 0
  CompareBits = Unless (AreBits f a) BadBits CompareOther

  abbrev CompareTarget : Refusal → Type 0
  CompareTarget = Unless (NamesFormat g) BadTarget CompareBits

  compare_none : (x : ℤ) (r : Refusal) → IsCompared f g a b x → CompareIsRefused f g a b r → ⊥
  compare_none x r h =
      unless_none (NamesFormat f) BadFormat CompareTarget r h.first_format
      (unless_none (NamesFormat g) BadTarget CompareBits r h.second_format
      (unless_none (AreBits f a) BadBits CompareOther r (h.left, h.left_is) (unless_none (AreBits g b) BadOtherBits Never r (h.right, h.right_is) (λ n. n))))

  compare_refusal : (r s : Refusal) → CompareIsRefused f g a b r → CompareIsRefused f g a b s → r ≡ s
  compare_refusal r s =
      unless_one (NamesFormat f) BadFormat CompareTarget r s
      (unless_one (NamesFormat g) BadTarget CompareBits r s
      (unless_one (AreBits f a) BadBits CompareOther r s (unless_one (AreBits g b) BadOtherBits Never r s (λ x y. absurd x))))

pub compare_ends_once : CompareEndsOnce
compare_ends_once f g a b fa fb old x y code other _ _ =
    end_one (IsCompared f g a b) (CompareIsRefused f g a b) old x y code other (same_order f g a b fa fb x y) (compare_none f g a b fa fb) (compare_refusal f g a b fa fb)

-- ---- printing
module _ (f : FormatParts) (bits : ℤ) where
  abbrev PrintBits : Refusal → Type 0
  PrintBits = Unless (AreBits f bits) BadBits Never

  pub print_refusal : (r s : Refusal) → PrintIsRefused f bits r → PrintIsRefused f bits s → r ≡ s
  print_refusal r s = unless_one (NamesFormat f) BadFormat PrintBits r s (unless_one (AreBits f bits) BadBits Never r s (λ x y. absurd x))

  pub print_none : (n : ℤ) (r : Refusal) → NamesFormat f → AreBitsOf f bits n → PrintIsRefused f bits r → ⊥
  print_none n r format are = unless_none (NamesFormat f) BadFormat PrintBits r format (unless_none (AreBits f bits) BadBits Never r (n, are) (λ x. x))

pub printed_one : (f : FormatParts) (bits : ℤ) → FitsSigned w64 bits → (s t : List ℕ) → IsPrinted f bits s → IsPrinted f bits t → s ≡ t
printed_one f bits fits s t p q =
    shortest_text_unique p.number f.frac s t p.shortest (subst (λ (x : ℤ). IsShortestText x f.frac t) (bits_one f bits q.number p.number fits q.bits_are p.bits_are) q.shortest)

pub print_ends_once : PrintEndsOnce
print_ends_once f bits fits old a b len m n code other =
    text_one (IsPrinted f bits) (PrintIsRefused f bits) old a b len m n code other
    (printed_one f bits fits) (λ t r p. print_none f bits p.number r p.format p.bits_are) (print_refusal f bits)

-- ---- reading through two formats
module _ (one : RespelledIsTheOne) (none : RefusalHasNone) (kinds : RefusalIsTheOne) (text : List ℕ) (radix : ℕ) (f g : FormatParts) (policy mode : ℕ) where
  abbrev Reaches : FixedNumber → Type 0
  Reaches n = Names radix policy mode (IsReachedAs text f g n.bits n.overflowed)

  same_reached : (a b : FixedNumber) → FitsSigned w64 a.bits → FitsSigned w64 b.bits → (r : Radix) (p : Policy) (m : ReadMode)
      → IsReachedAs text f g a.bits a.overflowed r p m → IsReachedAs text f g b.bits b.overflowed r p m → a ≡ b
  same_reached a b fa fb r p m x y =
      let both = one m r text p f g x.number y.number x.overflowed y.overflowed x.source_format x.target_format x.reached y.reached in
      let bits : has_bits g.signed b.bits x.number = subst (λ (v : ℤ). has_bits g.signed b.bits v) (sym both.0) y.bits_are in
      number_same a b (bits_of_number g.signed a.bits b.bits x.number fa fb x.bits_are bits, x.flag_is ∙ ap flag_of both.1 ∙ sym y.flag_is)

  reached_not : (bits : ℤ) (flag : ℕ) (kind : ParseErrorKind) (r : Radix) (p : Policy) (m : ReadMode) → IsReachedAs text f g bits flag r p m → IsNotReached text f g kind r p m → ⊥
  reached_not bits flag kind r p m x y = none m r text p f g kind x.number x.overflowed y x.reached

  abbrev RespellKinds : Refusal → Type 0
  RespellKinds = ForKind (λ kind. Names radix policy mode (IsNotReached text f g kind))

  abbrev RespellMode : Refusal → Type 0
  RespellMode = Unless (NamesMode mode) BadMode RespellKinds

  abbrev RespellPolicy : Refusal → Type 0
  RespellPolicy = Unless (NamesPolicy policy) BadPolicy RespellMode

  abbrev RespellTarget : Refusal → Type 0
  RespellTarget = Unless (NamesFormat g) BadTarget RespellPolicy

  abbrev RespellSource : Refusal → Type 0
  RespellSource = Unless (NamesFormat f) BadFormat RespellTarget

  respell_none : (n : FixedNumber) (r : Refusal) → Reaches n → RespellIsRefused text radix f g policy mode r → ⊥
  respell_none n r h =
      unless_none (NamesRadix radix) BadRadix RespellSource r (h.the_radix, h.radix_is)
      (unless_none (NamesFormat f) BadFormat RespellTarget r h.holds.source_format
      (unless_none (NamesFormat g) BadTarget RespellPolicy r h.holds.target_format
      (unless_none (NamesPolicy policy) BadPolicy RespellMode r (h.the_policy, h.policy_is)
      (unless_none (NamesMode mode) BadMode RespellKinds r (h.the_mode, h.mode_is)
      (λ k. names_joined radix policy mode (IsReachedAs text f g n.bits n.overflowed) (IsNotReached text f g k.0) ⊥ (reached_not n.bits n.overflowed k.0) h k.2)))))

  respell_refusal : (r s : Refusal) → RespellIsRefused text radix f g policy mode r → RespellIsRefused text radix f g policy mode s → r ≡ s
  respell_refusal r s =
      unless_one (NamesRadix radix) BadRadix RespellSource r s
      (unless_one (NamesFormat f) BadFormat RespellTarget r s
      (unless_one (NamesFormat g) BadTarget RespellPolicy r s
      (unless_one (NamesPolicy policy) BadPolicy RespellMode r s
      (unless_one (NamesMode mode) BadMode RespellKinds r s
      (kind_one (λ kind. Names radix policy mode (IsNotReached text f g kind)) r s
      (λ k l. names_joined radix policy mode (IsNotReached text f g k) (IsNotReached text f g l) (k ≡ l) (λ x y z. kinds z x text y f g k l)))))))

pub respell_ends_once : RespelledIsTheOne → RefusalHasNone → RefusalIsTheOne → RespellEndsOnce
respell_ends_once one none kinds text radix f g policy mode old a b code other fa fb =
    end_one (Reaches one none kinds text radix f g policy mode) (RespellIsRefused text radix f g policy mode) old a b code other
    (names_joined radix policy mode (IsReachedAs text f g a.bits a.overflowed) (IsReachedAs text f g b.bits b.overflowed) (a ≡ b) (same_reached one none kinds text radix f g policy mode a b fa fb))
    (respell_none one none kinds text radix f g policy mode) (respell_refusal one none kinds text radix f g policy mode)

-- ---- enclosing
module _ (one : PairIsTheOne) (text : List ℕ) (radix : ℕ) (f : FormatParts) where
  abbrev Ends : FixedEnclosure → Type 0
  Ends ends = IsEnclosedBy text radix f ends.lo ends.hi

  ends_same : (a b : FixedEnclosure) → (a.lo ≡ b.lo) × (a.hi ≡ b.hi) → a ≡ b
  ends_same a b (p, q) =
      let made : ℤ → ℤ → FixedEnclosure = λ x y. record { lo = x; hi = y } in
      ap (λ x. made x a.hi) p ∙ ap (λ y. made b.lo y) q

  same_ends : (a b : FixedEnclosure) → EnclosureInC a → EnclosureInC b → Ends a → Ends b → a ≡ b
  same_ends a b fa fb x y =
      let r : y.the_radix ≡ x.the_radix = radix_one y.the_radix x.the_radix radix y.radix_is x.radix_is in
      let other : IsEnclosed x.the_radix text f y.low y.high = subst (λ (z : Radix). IsEnclosed z text f y.low y.high) r y.encloses in
      let both = (one x.the_radix text f x.low x.high x.encloses).0 y.low y.high other in
      let low : has_bits f.signed b.lo x.low = subst (λ (v : ℤ). has_bits f.signed b.lo v) (sym both.0) y.low_bits in
      let high : has_bits f.signed b.hi x.high = subst (λ (v : ℤ). has_bits f.signed b.hi v) (sym both.1) y.high_bits in
      ends_same a b (bits_of_number f.signed a.lo b.lo x.low fa.0 fb.0 x.low_bits low, bits_of_number f.signed a.hi b.hi x.high fa.1 fb.1 x.high_bits high)

  abbrev EncloseWhy : ParseErrorKind → Type 0
  EncloseWhy kind = (r : Radix) × (radix ≡ base r) × IsRefusal r text f kind

  enclosed_not : (ends : FixedEnclosure) (kind : ParseErrorKind) → Ends ends → EncloseWhy kind → ⊥
  enclosed_not ends kind x (r, is, why) =
      let e : r ≡ x.the_radix = radix_one r x.the_radix radix is x.radix_is in
      (one x.the_radix text f x.low x.high x.encloses).1 kind (subst (λ (z : Radix). IsRefusal z text f kind) e why)

  enclose_kind_at : (r : Radix) (k l : ParseErrorKind) → IsRefusal r text f k → IsRefusal r text f l → k ≡ l
  enclose_kind_at r k l (inl a) (inl b) = one_cause r text k l a b
  enclose_kind_at r k l (inl a) (inr b) = absurd (a.none (b.1.parts, b.1.numeral))
  enclose_kind_at r k l (inr a) (inl b) = absurd (b.none (a.1.parts, a.1.numeral))
  enclose_kind_at r k l (inr a) (inr b) = a.0 ∙ sym b.0

  enclose_kind : (k l : ParseErrorKind) → EncloseWhy k → EncloseWhy l → k ≡ l
  enclose_kind k l (r, is, why) (s, are, because) =
      enclose_kind_at r k l why (subst (λ (z : Radix). IsRefusal z text f l) (radix_one s r radix are is) because)

  abbrev EncloseKinds : Refusal → Type 0
  EncloseKinds = ForKind EncloseWhy

  abbrev EncloseFormat : Refusal → Type 0
  EncloseFormat = Unless (NamesFormat f) BadFormat EncloseKinds

  enclose_none : (ends : FixedEnclosure) (r : Refusal) → Ends ends → EncloseIsRefused text radix f r → ⊥
  enclose_none ends r h =
      unless_none (NamesRadix radix) BadRadix EncloseFormat r (h.the_radix, h.radix_is)
      (unless_none (NamesFormat f) BadFormat EncloseKinds r h.format (λ k. enclosed_not ends k.0 h k.2))

  enclose_refusal : (r s : Refusal) → EncloseIsRefused text radix f r → EncloseIsRefused text radix f s → r ≡ s
  enclose_refusal r s = unless_one (NamesRadix radix) BadRadix EncloseFormat r s (unless_one (NamesFormat f) BadFormat EncloseKinds r s (kind_one EncloseWhy r s enclose_kind))

pub enclose_ends_once : PairIsTheOne → EncloseEndsOnce
enclose_ends_once one text radix f old a b code other fa fb =
    end_one (Ends one text radix f) (EncloseIsRefused text radix f) old a b code other (same_ends one text radix f a b fa fb) (enclose_none one text radix f) (enclose_refusal one text radix f)

-- ---- answers
pub answer_ends_once : AnswerIsTheOne → AnswerEndsOnce
answer_ends_once one line old a b m n fault flag code other p q =
    let answer : q.answer ≡ p.answer = one line q.answer p.answer q.answer_is p.answer_is in
    let puts : PutsText p.answer.text old b n other = subst (λ (x : AnswerText). PutsText x.text old b n other) answer q.puts in
    let ends = puts_one p.answer.text old a b m n code other p.puts puts in
    (ends.0, ends.1, ends.2, p.fault_is ∙ sym (q.fault_is ∙ ap (λ (x : AnswerText). flag_of x.fault) answer))

-- ---- messages
message_at : ℕ → List ℕ
message_at n = if nat_lt 27 n then codes "unknown code" else (if n == 0 then codes "done" else (if n == 1 then message_of InvalidDigit else (if n == 2 then message_of MisplacedSign
    else (if n == 3 then message_of MisplacedUnderscore else (if n == 4 then message_of TooManyPoints else (if n == 5 then message_of TooManyExp else (if n == 6 then message_of ExpInvalidDigit
    else (if n == 7 then message_of ExpOverflow else (if n == 8 then message_of NoDigits else (if n == 9 then message_of ExpNoDigits else (if n == 10 then message_of Overflow
    else (if n == 11 then refusal_message BadRadix else (if n == 12 then refusal_message BadFormat else (if n == 13 then refusal_message BadTarget else (if n == 14 then refusal_message BadPolicy
    else (if n == 15 then refusal_message BadMode else (if n == 16 then refusal_message BadBits else (if n == 17 then refusal_message NoRoom else (if n == 18 then refusal_message BadOtherBits
    else (if n == 19 then refusal_message BadPlaces else (if n == 20 then refusal_message BadRounding else (if n == 21 then refusal_message BadWord else (if n == 22 then refusal_message BadRows
    else (if n == 23 then refusal_message BadNotation else (if n == 24 then refusal_message BadWidth else (if n == 25 then refusal_message BadFill else (if n == 26 then refusal_message BadAlign else refusal_message NotFinite)))))))))))))))))))))))))))

message_of_refusal : (r : Refusal) → refusal_message r ≡ message_at (refusal_code r)
unfolding message_at
message_of_refusal (Numeral InvalidDigit) = refl
message_of_refusal (Numeral MisplacedSign) = refl
message_of_refusal (Numeral MisplacedUnderscore) = refl
message_of_refusal (Numeral TooManyPoints) = refl
message_of_refusal (Numeral TooManyExp) = refl
message_of_refusal (Numeral ExpInvalidDigit) = refl
message_of_refusal (Numeral ExpOverflow) = refl
message_of_refusal (Numeral NoDigits) = refl
message_of_refusal (Numeral ExpNoDigits) = refl
message_of_refusal (Numeral Overflow) = refl
message_of_refusal BadRadix = refl
message_of_refusal BadFormat = refl
message_of_refusal BadTarget = refl
message_of_refusal BadPolicy = refl
message_of_refusal BadMode = refl
message_of_refusal BadBits = refl
message_of_refusal NoRoom = refl
message_of_refusal BadOtherBits = refl
message_of_refusal BadPlaces = refl
message_of_refusal BadRounding = refl
message_of_refusal BadWord = refl
message_of_refusal BadRows = refl
message_of_refusal BadNotation = refl
message_of_refusal BadWidth = refl
message_of_refusal BadFill = refl
message_of_refusal BadAlign = refl
message_of_refusal NotFinite = refl

message_is : (code : ℕ) (text : List ℕ) → IsMessage code text → text ≡ message_at code
unfolding message_at
message_is code text (inl p) = rw (p.0) p.1
message_is code text (inr (inl p)) = p.2 ∙ message_of_refusal p.0 ∙ ap message_at (sym p.1)
message_is code text (inr (inr p)) = let h : nat_lt 27 code ≡ true = lt-ltb 27 code p.0 in p.1 ∙ rw h refl

pub message_ends_once : MessageEndsOnce
message_ends_once code old a b len m n c other =
    text_one (IsMessage code) Never old a b len m n c other (λ s t p q. message_is code s p ∙ sym (message_is code t q)) (λ t r p x. x) (λ r s x y. absurd x)

-- ---- rounding to decimal places
module _ (f : FormatParts) (bits : ℤ) (places mode : ℕ) where
  abbrev OfPlaces : Refusal → Type 0
  OfPlaces = Unless (places ≤ 64) BadPlaces Never

  abbrev OfBits : Refusal → Type 0
  OfBits = Unless (AreBits f bits) BadBits OfPlaces

  abbrev OfMode : Refusal → Type 0
  OfMode = Unless (NamesMode mode) BadMode OfBits

  placed_one : RoundedTextIsComputed → FitsSigned w64 bits → (s t : List ℕ) → IsPrintedTo f bits places mode s → IsPrintedTo f bits places mode t → s ≡ t
  placed_one one fits s t p q =
      let number : q.number ≡ p.number = bits_one f bits q.number p.number fits q.bits_are p.bits_are in
      let the_mode : q.the_mode ≡ p.the_mode = mode_one q.the_mode p.the_mode mode q.mode_is p.mode_is in
      let moved : IsRoundedText q.the_mode 10 false places p.number f.frac t = subst (λ (x : ℤ). IsRoundedText q.the_mode 10 false places x f.frac t) number q.rounded in
      let same : IsRoundedText p.the_mode 10 false places p.number f.frac t = subst (λ (m : ReadMode). IsRoundedText m 10 false places p.number f.frac t) the_mode moved in
      (one p.the_mode 10 false places p.number f.frac s).0 p.rounded ∙ sym ((one p.the_mode 10 false places p.number f.frac t).0 same)

  not_both : (t : List ℕ) (r : Refusal) → IsPrintedTo f bits places mode t → PlacesIsRefused f bits places mode r → ⊥
  not_both t r p = unless_none (NamesFormat f) BadFormat OfMode r p.format
      (unless_none (NamesMode mode) BadMode OfBits r (p.the_mode, p.mode_is)
      (unless_none (AreBits f bits) BadBits OfPlaces r (p.number, p.bits_are)
      (unless_none (places ≤ 64) BadPlaces Never r p.few (λ x. x))))

  refused_alike : (r s : Refusal) → PlacesIsRefused f bits places mode r → PlacesIsRefused f bits places mode s → r ≡ s
  refused_alike r s = unless_one (NamesFormat f) BadFormat OfMode r s
      (unless_one (NamesMode mode) BadMode OfBits r s
      (unless_one (AreBits f bits) BadBits OfPlaces r s
      (unless_one (places ≤ 64) BadPlaces Never r s (λ x y. absurd x))))

pub places_ends_once : RoundedTextIsComputed → PlacesEndsOnce
places_ends_once one f bits places mode fits old a b len m n code other =
    text_one (IsPrintedTo f bits places mode) (PlacesIsRefused f bits places mode) old a b len m n code other
    (placed_one f bits places mode one fits) (not_both f bits places mode) (refused_alike f bits places mode)

-- ---- rounding to whole numbers
rounding_at : ℕ → WholeRounding
rounding_at n = if n == 0 then By Ceil else (if n == 1 then By Floor else (if n == 2 then By Round else (if n == 3 then By RoundTiesEven else ToZero)))

rounding_is : (r : WholeRounding) → r ≡ rounding_at (rounding_code r)
unfolding rounding_at
rounding_is (By Ceil) = refl
rounding_is (By Floor) = refl
rounding_is (By Round) = refl
rounding_is (By RoundTiesEven) = refl
rounding_is ToZero = refl

rounding_one : (r s : WholeRounding) (n : ℕ) → n ≡ rounding_code r → n ≡ rounding_code s → r ≡ s
rounding_one r s n e g = rounding_is r ∙ ap rounding_at (sym e ∙ g) ∙ sym (rounding_is s)

module _ (f : FormatParts) (rounding policy : ℕ) (bits : ℤ) (fits : FitsSigned w64 bits) where
  abbrev Rounds : FixedNumber → Type 0
  Rounds n = IsRoundedTo f rounding policy bits n.bits n.overflowed

  same_rounded : (a b : FixedNumber) → FitsSigned w64 a.bits → FitsSigned w64 b.bits → Rounds a → Rounds b → a ≡ b
  same_rounded a b fa fb p q =
      let v : q.number ≡ p.number = bits_one f bits q.number p.number fits q.given_is p.given_is in
      let y : q.the_policy ≡ p.the_policy = policy_one q.the_policy p.the_policy policy q.policy_is p.policy_is in
      let w : q.the_rounding ≡ p.the_rounding = rounding_one q.the_rounding p.the_rounding rounding q.rounding_is p.rounding_is in
      number_same a b (brought_one f p.the_policy (rounded_bits p.the_rounding p.number f.frac) a.bits b.bits a.overflowed b.overflowed p.format fa fb p.brought
      (subst (λ (x : Policy). IsBrought f x (rounded_bits p.the_rounding p.number f.frac) b.bits b.overflowed) y
      (subst (λ (x : WholeRounding). IsBrought f q.the_policy (rounded_bits x p.number f.frac) b.bits b.overflowed) w
      (subst (λ (x : ℤ). IsBrought f q.the_policy (rounded_bits q.the_rounding x f.frac) b.bits b.overflowed) v q.brought))))

  not_rounded : (n : FixedNumber) → Rounds n → IsNotRoundedTo f rounding policy bits → ⊥
  not_rounded n p q =
      let v : p.number ≡ q.number = bits_one f bits p.number q.number fits p.given_is q.given_is in
      let y : p.the_policy ≡ q.the_policy = policy_one p.the_policy q.the_policy policy p.policy_is q.policy_is in
      let w : p.the_rounding ≡ q.the_rounding = rounding_one p.the_rounding q.the_rounding rounding p.rounding_is q.rounding_is in
      brought_none f q.the_policy (rounded_bits q.the_rounding q.number f.frac) n.bits n.overflowed
      (subst (λ (x : Policy). IsBrought f x (rounded_bits q.the_rounding q.number f.frac) n.bits n.overflowed) y
      (subst (λ (x : WholeRounding). IsBrought f p.the_policy (rounded_bits x q.number f.frac) n.bits n.overflowed) w
      (subst (λ (x : ℤ). IsBrought f p.the_policy (rounded_bits p.the_rounding x f.frac) n.bits n.overflowed) v p.brought))) q.out

  abbrev RoundKinds : Refusal → Type 0
  RoundKinds = ForKind (λ kind. (kind ≡ Overflow) × IsNotRoundedTo f rounding policy bits)

  abbrev RoundName : Refusal → Type 0
  RoundName = Unless (NamesRounding rounding) BadRounding RoundKinds

  abbrev RoundBits : Refusal → Type 0
  RoundBits = Unless (AreBits f bits) BadBits RoundName

  abbrev RoundPolicy : Refusal → Type 0
  RoundPolicy = Unless (NamesPolicy policy) BadPolicy RoundBits

  round_none : (n : FixedNumber) (r : Refusal) → Rounds n → RoundIsRefused f rounding policy bits r → ⊥
  round_none n r h =
      unless_none (NamesFormat f) BadFormat RoundPolicy r h.format
      (unless_none (NamesPolicy policy) BadPolicy RoundBits r (h.the_policy, h.policy_is)
      (unless_none (AreBits f bits) BadBits RoundName r (h.number, h.given_is)
      (unless_none (NamesRounding rounding) BadRounding RoundKinds r (h.the_rounding, h.rounding_is) (λ k. not_rounded n h k.2.1))))

  round_refusal : (r s : Refusal) → RoundIsRefused f rounding policy bits r → RoundIsRefused f rounding policy bits s → r ≡ s
  round_refusal r s =
      unless_one (NamesFormat f) BadFormat RoundPolicy r s
      (unless_one (NamesPolicy policy) BadPolicy RoundBits r s
      (unless_one (AreBits f bits) BadBits RoundName r s
      (unless_one (NamesRounding rounding) BadRounding RoundKinds r s (kind_one (λ kind. (kind ≡ Overflow) × IsNotRoundedTo f rounding policy bits) r s (λ k l x y. x.0 ∙ sym y.0)))))

pub round_ends_once : RoundEndsOnce
round_ends_once f rounding policy bits fits old a b code other fa fb =
    end_one (Rounds f rounding policy bits fits) (RoundIsRefused f rounding policy bits) old a b code other
    (same_rounded f rounding policy bits fits a b fa fb) (round_none f rounding policy bits fits) (round_refusal f rounding policy bits fits)

-- ---- converting in a mode
module _ (one : MovedInIsTheOne) (f g : FormatParts) (policy mode : ℕ) (bits : ℤ) (fits : FitsSigned w64 bits) where
  abbrev ConvertsIn : FixedNumber → Type 0
  ConvertsIn n = IsConvertedIn f g policy mode bits n.bits n.overflowed

  moved_same : (m : ReadMode) (b v w : ℤ) → IsMovedIn m b f.frac g.frac v → IsMovedIn m b f.frac g.frac w → v ≡ w
  moved_same m b v w p q = let all = one m b f.frac g.frac in all.2 v p ∙ sym (all.2 w q)

  same_converted_in : (a b : FixedNumber) → FitsSigned w64 a.bits → FitsSigned w64 b.bits → ConvertsIn a → ConvertsIn b → a ≡ b
  same_converted_in a b fa fb p q =
      let v : q.number ≡ p.number = bits_one f bits q.number p.number fits q.given_is p.given_is in
      let y : q.the_policy ≡ p.the_policy = policy_one q.the_policy p.the_policy policy q.policy_is p.policy_is in
      let m : q.the_mode ≡ p.the_mode = mode_one q.the_mode p.the_mode mode q.mode_is p.mode_is in
      let to : IsMovedIn p.the_mode p.number f.frac g.frac q.moved =
      subst (λ (x : ReadMode). IsMovedIn x p.number f.frac g.frac q.moved) m (subst (λ (x : ℤ). IsMovedIn q.the_mode x f.frac g.frac q.moved) v q.is_moved) in
      let same : q.moved ≡ p.moved = moved_same p.the_mode p.number q.moved p.moved to p.is_moved in
      number_same a b (brought_one g p.the_policy p.moved a.bits b.bits a.overflowed b.overflowed p.target_format fa fb p.brought
      (subst (λ (x : Policy). IsBrought g x p.moved b.bits b.overflowed) y (subst (λ (x : ℤ). IsBrought g q.the_policy x b.bits b.overflowed) same q.brought)))

  not_converted_in : (n : FixedNumber) → ConvertsIn n → IsNotConvertedIn f g policy mode bits → ⊥
  not_converted_in n p q =
      let v : p.number ≡ q.number = bits_one f bits p.number q.number fits p.given_is q.given_is in
      let y : p.the_policy ≡ q.the_policy = policy_one p.the_policy q.the_policy policy p.policy_is q.policy_is in
      let m : p.the_mode ≡ q.the_mode = mode_one p.the_mode q.the_mode mode p.mode_is q.mode_is in
      let to : IsMovedIn q.the_mode q.number f.frac g.frac p.moved =
      subst (λ (x : ReadMode). IsMovedIn x q.number f.frac g.frac p.moved) m (subst (λ (x : ℤ). IsMovedIn p.the_mode x f.frac g.frac p.moved) v p.is_moved) in
      let same : p.moved ≡ q.moved = moved_same q.the_mode q.number p.moved q.moved to q.is_moved in
      brought_none g q.the_policy q.moved n.bits n.overflowed
      (subst (λ (x : Policy). IsBrought g x q.moved n.bits n.overflowed) y (subst (λ (x : ℤ). IsBrought g p.the_policy x n.bits n.overflowed) same p.brought)) q.out

  abbrev InKinds : Refusal → Type 0
  InKinds = ForKind (λ kind. (kind ≡ Overflow) × IsNotConvertedIn f g policy mode bits)

  abbrev InBits : Refusal → Type 0
  InBits = Unless (AreBits f bits) BadBits InKinds

  abbrev InMode : Refusal → Type 0
  InMode = Unless (NamesMode mode) BadMode InBits

  abbrev InPolicy : Refusal → Type 0
  InPolicy = Unless (NamesPolicy policy) BadPolicy InMode

  abbrev InTarget : Refusal → Type 0
  InTarget = Unless (NamesFormat g) BadTarget InPolicy

  convert_in_none : (n : FixedNumber) (r : Refusal) → ConvertsIn n → ConvertInIsRefused f g policy mode bits r → ⊥
  convert_in_none n r h =
      unless_none (NamesFormat f) BadFormat InTarget r h.source_format
      (unless_none (NamesFormat g) BadTarget InPolicy r h.target_format
      (unless_none (NamesPolicy policy) BadPolicy InMode r (h.the_policy, h.policy_is)
      (unless_none (NamesMode mode) BadMode InBits r (h.the_mode, h.mode_is)
      (unless_none (AreBits f bits) BadBits InKinds r (h.number, h.given_is) (λ k. not_converted_in n h k.2.1)))))

  convert_in_refusal : (r s : Refusal) → ConvertInIsRefused f g policy mode bits r → ConvertInIsRefused f g policy mode bits s → r ≡ s
  convert_in_refusal r s =
      unless_one (NamesFormat f) BadFormat InTarget r s
      (unless_one (NamesFormat g) BadTarget InPolicy r s
      (unless_one (NamesPolicy policy) BadPolicy InMode r s
      (unless_one (NamesMode mode) BadMode InBits r s
      (unless_one (AreBits f bits) BadBits InKinds r s (kind_one (λ kind. (kind ≡ Overflow) × IsNotConvertedIn f g policy mode bits) r s (λ k l x y. x.0 ∙ sym y.0))))))

pub convert_in_ends_once : MovedInIsTheOne → ConvertInEndsOnce
convert_in_ends_once one f g policy mode bits fits old a b code other fa fb =
    end_one (ConvertsIn one f g policy mode bits fits) (ConvertInIsRefused f g policy mode bits) old a b code other
    (same_converted_in one f g policy mode bits fits a b fa fb) (convert_in_none one f g policy mode bits fits) (convert_in_refusal one f g policy mode bits fits)

-- ---- literals
module _ (text : List ℕ) (f : FormatParts) (policy : ℕ) where
  abbrev Literally : FixedNumber → Type 0
  Literally n = IsLiteralReadAs text f policy n.bits n.overflowed

  literal_number : (v w : ℤ) → HasNumber (HasLiteral f.signed text) f (literal_radix f.signed text) NearestEven v → HasNumber (HasLiteral f.signed text) f (literal_radix f.signed text) NearestEven w → v ≡ w
  literal_number v w = number_one (HasLiteral f.signed text) (literal_radix f.signed text) f NearestEven v w (one_literal f.signed text)

  same_literal : (a b : FixedNumber) → FitsSigned w64 a.bits → FitsSigned w64 b.bits → Literally a → Literally b → a ≡ b
  same_literal a b fa fb p q =
      let y : q.the_policy ≡ p.the_policy = policy_one q.the_policy p.the_policy policy q.policy_is p.policy_is in
      let v : q.read.number ≡ p.read.number = literal_number q.read.number p.read.number q.read.has p.read.has in
      number_same a b (brought_one f p.the_policy p.read.number a.bits b.bits a.overflowed b.overflowed p.read.format fa fb p.read.brought
      (subst (λ (x : Policy). IsBrought f x p.read.number b.bits b.overflowed) y (subst (λ (x : ℤ). IsBrought f q.the_policy x b.bits b.overflowed) v q.read.brought)))

  abbrev LiteralWhy : ParseErrorKind → Type 0
  LiteralWhy kind = (p : Policy) × (policy ≡ policy_code p) × IsLiteralNotRead text f p kind

  literal_not_at : (n : FixedNumber) (kind : ParseErrorKind) (p : Literally n) → (q : Policy) → policy ≡ policy_code q → IsLiteralNotRead text f q kind → ⊥
  literal_not_at n kind p q is (inl cause) = (one_literal_cause f.signed text kind kind cause).1 (p.read.has.parts, p.read.has.has)
  literal_not_at n kind p q is (inr over) =
      let y : p.the_policy ≡ q = policy_one p.the_policy q policy p.policy_is is in
      let v : p.read.number ≡ over.1.number = literal_number p.read.number over.1.number p.read.has over.1.has in
      brought_none f q over.1.number n.bits n.overflowed
      (subst (λ (x : Policy). IsBrought f x over.1.number n.bits n.overflowed) y (subst (λ (x : ℤ). IsBrought f p.the_policy x n.bits n.overflowed) v p.read.brought)) over.1.out

  literal_kind_at : (k l : ParseErrorKind) (p q : Policy) → IsLiteralNotRead text f p k → IsLiteralNotRead text f q l → k ≡ l
  literal_kind_at k l p q (inl a) (inl b) = (one_literal_cause f.signed text k l a).0 b
  literal_kind_at k l p q (inl a) (inr b) = absurd ((one_literal_cause f.signed text k k a).1 (b.1.has.parts, b.1.has.has))
  literal_kind_at k l p q (inr a) (inl b) = absurd ((one_literal_cause f.signed text l l b).1 (a.1.has.parts, a.1.has.has))
  literal_kind_at k l p q (inr a) (inr b) = a.0 ∙ sym b.0

  abbrev LiteralKinds : Refusal → Type 0
  LiteralKinds = ForKind LiteralWhy

  abbrev LiteralPolicy : Refusal → Type 0
  LiteralPolicy = Unless (NamesPolicy policy) BadPolicy LiteralKinds

  literal_none : (n : FixedNumber) (r : Refusal) → Literally n → LiteralIsRefused text f policy r → ⊥
  literal_none n r h =
      unless_none (NamesFormat f) BadFormat LiteralPolicy r h.read.format
      (unless_none (NamesPolicy policy) BadPolicy LiteralKinds r (h.the_policy, h.policy_is) (λ k. literal_not_at n k.0 h k.2.0 k.2.1 k.2.2))

  literal_refusal : (r s : Refusal) → LiteralIsRefused text f policy r → LiteralIsRefused text f policy s → r ≡ s
  literal_refusal r s =
      unless_one (NamesFormat f) BadFormat LiteralPolicy r s
      (unless_one (NamesPolicy policy) BadPolicy LiteralKinds r s (kind_one LiteralWhy r s (λ k l x y. literal_kind_at k l x.0 y.0 x.2 y.2)))

pub literal_ends_once : LiteralEndsOnce
literal_ends_once text f policy old a b code other fa fb =
    end_one (Literally text f policy) (LiteralIsRefused text f policy) old a b code other (same_literal text f policy a b fa fb) (literal_none text f policy) (literal_refusal text f policy)
