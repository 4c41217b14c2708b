-- The operands and options of a command line determine at most one request.
use Rattle.std.proofs.Common.{◌≡◌, ℕ, ◌+◌, ◌-◌, ◌≤◌, ◌==◌, Bool, true, false, Option, Some, None, List, [], ◌∷◌, ◌++◌, append_assoc, length, get_or, refl, sym, ap, ◌∙◌, subst, arith, inl, inr, if◌then◌else◌, true≢false}
use Rattle.std.specs.Prelude.{codes, is_some, not, unwrap_or, ◌&&◌, ◌||◌}
use Rattle.std.specs.Fmt.{decimal}
use Rattle.std.specs.List.{after_first, list_any, slice_split}
use Rattle.std.proofs.lemmas.Fmt.{decimal_injective}
use Rattle.std.proofs.lemmas.List.{append_cancel_right}
use Rattle.column_engine.specs.declared.columns.Column.{Column}
use Rattle.column_engine.specs.declared.columns.Column.TheVariants.{At, Named}
use Rattle.column_engine.specs.declared.columns.Range.{Range}
use Rattle.command_line.specs.Words.{has_flag, value_of, word_at}
use Rattle.command_line.specs.declared.given.Given.{Given}
use Rattle.fixed_arrays.specs.declared.form.ArrayForm.{ArrayForm}
use Rattle.fixed_arrays.specs.declared.form.ArrayForm.TheVariants.{C, Coe, GuardedC, Mif, Readmemh, Rust, Vhdl}
use Rattle.fixed_arrays.specs.declared.rule.Numerals.{Numerals}
use Rattle.fixed_bits.specs.Formats.{FormatParts}
use Rattle.fixed_command.specs.Asked.{IsNamed}
use Rattle.fixed_command.specs.Layout.{LineLayout}
use Rattle.fixed_command.specs.declared.field.Empty.{Empty}
use Rattle.fixed_command.specs.declared.field.Empty.TheVariants.{Kept, Refused, Zero}
use Rattle.fixed_command.specs.declared.print.Print.{Print}
use Rattle.fixed_command.specs.declared.print.Print.TheVariants.{Places}
use Rattle.fixed_command.proofs.Public.{names_one}
use Rattle.fixed_constants.specs.Program.{NamesLanguage}
use Rattle.fixed_constants.specs.declared.form.Form.{Form}
use Rattle.fixed_fields.specs.Fields.{IsFieldName}
use Rattle.fixed_fields.specs.Names.{field_text}
use Rattle.fixed_fields.specs.declared.list.Field.{Field}
use Rattle.fixed_fit.specs.declared.question.Fractions.{Fractions}
use Rattle.fixed_fit.specs.declared.question.Fractions.TheVariants.{Beyond, Whole}
use Rattle.fixed_numeral.specs.declared.radix.Radix.{Radix}
use Rattle.fixed_pack.specs.declared.endian.Endian.{Endian}
use Rattle.fixed_pack.specs.declared.endian.Endian.TheVariants.{Big, Little}
use Rattle.fixed_names.proofs.Public.{name_one}
use Rattle.fixed_names.specs.Names.{IsName}
use Rattle.fixed_show.specs.declared.parts.Part.{Part}
use Rattle.fixed_command.specs.declared.field.FieldForm.{FieldForm}
use Rattle.fixed_words.specs.declared.rule.Leaving.{Leaving}
use Rattle.fixed_words.specs.declared.rule.Leaving.TheVariants.{Everything, NoNumerals, Nothing}
use Rattle.fixed.specs.Columns.{AreColumnWords, AreColumnsAsked, AreColumnsBy, AreColumnsOf, IsColumnWord, IsDecimalWord, IsDelimiterWord, IsDestinationBy, IsMarkAsked, IsOneWord, IsRangeIf, IsRangeWord, IsThousandsAsked, empty_text}
use Rattle.fixed.specs.Constants.{IsArrayAsked, IsArrayWord, IsFormAsked as IsConstantsAsked, IsGuardAsked, IsNameBy, IsNumeralsAsked, is_file}
use Rattle.fixed.specs.Fit.{IsErrorAsked, IsErrorBy, IsFractionsAsked}
use Rattle.fixed.specs.Laws.{AreSameColumns, ColumnsAreTheOnes, ConstantsAreTheOnes, IsOne, IsSameColumn, LinesAreTheOnes, SettingsAreTheOnes}
use Rattle.fixed.specs.Lines.{IsCommentAsked, IsFieldAsked, IsFormatAsked, IsKindAsked, IsKindWord, IsLayoutAsked, IsPartBy, IsTargetAsked, IsTargetBy, is_like_format}
use Rattle.fixed_bits.specs.declared.mode.ReadMode.TheVariants.{NearestEven}
use Rattle.fixed.specs.Questions.{AreNames}
use Rattle.fixed.specs.Settings.{IsCountWord, IsExcerptAsked, IsLimitAsked, IsPrintAsked, endian_text}
use Rattle.fixed.specs.declared.commands.unpack_words.Excerpt.{Excerpt}
use Rattle.fixed.specs.Words.{IsLeavingAsked, IsLeavingWord}
use Rattle.fixed.proofs.RangeLemmas.{IsNoDigit, after_mark, digits_of_decimal, one_word_one, range_one}

byte_at : ℕ → List ℕ → ℕ
byte_at i word = get_or word i 0

-- ---- columns
delimiter_one : (word : List ℕ) → IsOne ℕ (IsDelimiterWord word)
delimiter_one word a b (inl x) (inl y) = ap (λ (l : List ℕ). get_or l 0 0) (sym x.0 ∙ y.0)
delimiter_one word a b (inl x) (inr (e, inl y)) = absurd (omega (arith, ap length (sym x.0 ∙ y)))
delimiter_one word a b (inl x) (inr (e, inr y)) = absurd (omega (arith, ap length (sym x.0 ∙ y)))
delimiter_one word a b (inr (e, inl y)) (inl x) = absurd (omega (arith, ap length (sym x.0 ∙ y)))
delimiter_one word a b (inr (e, inr y)) (inl x) = absurd (omega (arith, ap length (sym x.0 ∙ y)))
delimiter_one word a b (inr x) (inr y) = x.0 ∙ sym y.0

count_one : (word : List ℕ) → IsOne ℕ (IsCountWord word)
count_one word a b x y = decimal_injective a b x.fits y.fits (sym x.text ∙ y.text)

empty_at : List ℕ → Empty
empty_at word = if byte_at 0 word == 102 then Refused else if byte_at 0 word == 107 then Kept else Zero

empty_back : (a : Empty) → empty_at (empty_text a) ≡ a
unfolding empty_at byte_at
empty_back Refused = refl
empty_back Kept = refl
empty_back Zero = refl

empty_one : (value : Option (List ℕ)) (a b : Empty) → IsNamed Empty empty_text Refused value a → IsNamed Empty empty_text Refused value b → a ≡ b
empty_one None a b x y = x ∙ sym y
empty_one (Some word) a b x y = sym (empty_back a) ∙ (ap empty_at (sym x ∙ y) ∙ empty_back b)

thousands_one : (d e : ℕ) (word any : Option (List ℕ)) (a b : List ℕ) (g h : Bool) → IsThousandsAsked d word any a g → IsThousandsAsked e word any b h → (a ≡ b) × (g ≡ h)
thousands_one d e None None a b g h x y = (x.0 ∙ sym y.0, x.1 ∙ sym y.1)
thousands_one d e (Some word) None a b g h x y = (x.0 ∙ sym y.0, x.2 ∙ sym y.2)
thousands_one d e None (Some word) a b g h x y = (x.0 ∙ sym y.0, x.2 ∙ sym y.2)
thousands_one d e (Some word) (Some other) a b g h x y = absurd x

mark_word_one : (word : List ℕ) (a b : ℕ) → IsDecimalWord word a → IsDecimalWord word b → a ≡ b
mark_word_one word a b x y = ap (λ (l : List ℕ). get_or l 0 0) (sym x.text ∙ y.text)

mark_one : (mark decimal : Option (List ℕ)) (a b : ℕ) → IsMarkAsked mark decimal a → IsMarkAsked mark decimal b → a ≡ b
mark_one (Some word) decimal a b x y = mark_word_one word a b x y
mark_one None decimal a b x y = mark_word_one (unwrap_or decimal (codes ".")) a b x y

if_one : (Is : List ℕ → Range → Type 0) → ((word : List ℕ) → IsOne Range (Is word)) → (word : List ℕ) → IsOne (Option Range) (IsRangeIf Is word)
if_one Is one word None None x y = refl
if_one Is one word None (Some b) x y = absurd (x b y)
if_one Is one word (Some a) None x y = absurd (y a x)
if_one Is one word (Some a) (Some b) x y = ap Some (one word a b x y)

column_one : (Is : List ℕ → Range → Type 0) → ((word : List ℕ) → IsOne Range (Is word)) → (header : Bool) (word : List ℕ) (a b : Column)
    → IsColumnWord Is header word a → IsColumnWord Is header word b → IsSameColumn a b
column_one Is one true word (Named n r) (Named m s) x y = (x.0 ∙ sym y.0, if_one Is one word r s x.1 y.1)
column_one Is one true word (Named n r) (At s) x y = absurd y
column_one Is one true word (At r) b x y = absurd x
column_one Is one false word (At r) (At s) x y = one word r s x y
column_one Is one false word (At r) (Named m s) x y = absurd y
column_one Is one false word (Named n r) b x y = absurd x

words_one : (header : Bool) (words : List (List ℕ)) (us bs : List Column) → AreColumnWords header words us → AreColumnWords header words bs → AreSameColumns us bs
words_one header [] [] [] x y = tt
words_one header [] [] (b ∷ bs) x y = absurd y
words_one header [] (a ∷ us) bs x y = absurd x
words_one header (word ∷ words) [] bs x y = absurd x
words_one header (word ∷ words) (a ∷ us) [] x y = absurd y
words_one header (word ∷ words) (a ∷ us) (b ∷ bs) x y = (column_one IsRangeWord range_one header word a b x.0 y.0, words_one header words us bs x.1 y.1)

same_column : (a : Column) → IsSameColumn a a
same_column (At r) = refl
same_column (Named n r) = (refl, refl)

same_columns : (us bs : List Column) → us ≡ bs → AreSameColumns us bs
same_columns us bs e = subst (AreSameColumns us) e (itself us)
  where
    itself : (us : List Column) → AreSameColumns us us
    itself [] = tt
    itself (a ∷ us) = (same_column a, itself us)

of_one : (into header : Bool) (word : List ℕ) (us bs : List Column) → AreColumnsOf into header word us → AreColumnsOf into header word bs → AreSameColumns us bs
of_one true header word us bs (a, e, x) (b, f, y) =
    let same = column_one IsOneWord one_word_one (header && not (list_any (λ b. b == 44) word)) word a b x y in
    subst (λ (cs : List Column). AreSameColumns us cs) (sym f) (subst (λ (cs : List Column). AreSameColumns cs (b ∷ [])) (sym e) (same, tt))
of_one false header word us bs x y = words_one header (slice_split (λ b. b == 44) word) us bs x y

by_one : (all : Bool) (first : Option (List ℕ)) (into header : Bool) (us bs : List Column) (m n : ℕ) → AreColumnsBy all first into header us m
    → AreColumnsBy all first into header bs n → AreSameColumns us bs × (m ≡ n)
by_one true first into header us bs m n x y = (same_columns us bs (x.0 ∙ sym y.0), x.1 ∙ sym y.1)
by_one false None into header us bs m n x y = absurd x
by_one false (Some word) into header us bs m n x y = (of_one into header word us bs x.0 y.0, x.1 ∙ sym y.1)

columns_by_one : (given : Given) (us bs : List Column) (m n : ℕ) → AreColumnsAsked given us m → AreColumnsAsked given bs n → AreSameColumns us bs × (m ≡ n)
columns_by_one given us bs m n x y = by_one (has_flag given (codes "all")) (word_at given 0) (is_some (value_of given (codes "into"))) (has_flag given (codes "header")) us bs m n x y

pub columns_one : ColumnsAreTheOnes
columns_one = record {
  delimiter = delimiter_one;
  skip = count_one;
  form = λ given a b x y. record {
    trimmed = x.trimmed ∙ sym y.trimmed;
    decimal = ap (λ (l : List ℕ). get_or l 0 0) (sym x.decimal.text ∙ y.decimal.text);
    mark = mark_one (value_of given (codes "decimal-out")) (value_of given (codes "decimal")) a.mark b.mark x.mark y.mark;
    thousands = (thousands_same given a b x.thousands y.thousands).0;
    groups = (thousands_same given a b x.thousands y.thousands).1;
    empty = empty_one (value_of given (codes "empty")) a.empty b.empty x.empty y.empty;
  };
  range = range_one;
  columns = columns_by_one;
  destination = λ given a b x y. destination_by_one (has_flag given (codes "all")) (value_of given (codes "into")) a b x y;
}
  where
    thousands_same : (given : Given) (a b : FieldForm) → IsThousandsAsked a.decimal (value_of given (codes "thousands")) (value_of given (codes "thousands-anywhere")) a.thousands.now a.has_groups
        → IsThousandsAsked b.decimal (value_of given (codes "thousands")) (value_of given (codes "thousands-anywhere")) b.thousands.now b.has_groups
        → (a.thousands.now ≡ b.thousands.now) × (a.has_groups ≡ b.has_groups)
    thousands_same given a b x y = thousands_one a.decimal b.decimal (value_of given (codes "thousands")) (value_of given (codes "thousands-anywhere"))
        a.thousands.now b.thousands.now a.has_groups b.has_groups x y

    destination_by_one : (all : Bool) (name : Option (List ℕ)) → IsOne _ (IsDestinationBy all name)
    destination_by_one all None a b x y = x ∙ sym y
    destination_by_one all (Some name) a b x y = x.0 ∙ sym y.0

-- ---- constants
language_one : (word : List ℕ) (a b : Form) → NamesLanguage word a → NamesLanguage word b → a ≡ b
language_one word a b (inl x) (inl y) = x.1 ∙ sym y.1
language_one word a b (inl x) (inr y) = absurd (omega (arith, ap length (sym x.0 ∙ y.0)))
language_one word a b (inr x) (inl y) = absurd (omega (arith, ap length (sym x.0 ∙ y.0)))
language_one word a b (inr x) (inr y) = x.1 ∙ sym y.1

form_one : (word : Option (List ℕ)) (a b : Form) (m n : ℕ) → IsConstantsAsked word a m → IsConstantsAsked word b n → (a ≡ b) × (m ≡ n)
form_one None a b m n x y = (x.0 ∙ sym y.0, x.1 ∙ sym y.1)
form_one (Some word) a b m n (inl x) (inl y) = (language_one word a b x.0 y.0, x.1 ∙ sym y.1)
form_one (Some word) a b m n (inl x) (inr y) = absurd (y.0 a x.0)
form_one (Some word) a b m n (inr x) (inl y) = absurd (x.0 b y.0)
form_one (Some word) a b m n (inr x) (inr y) = (x.1 ∙ sym y.1, x.2 ∙ sym y.2)

array_at : List ℕ → ArrayForm
array_at word = if byte_at 0 word == 118 then Vhdl else if byte_at 0 word == 114 then Readmemh else if byte_at 0 word == 99 then Coe
    else if byte_at 0 word == 109 then Mif else if byte_at 6 word == 99 then C else Rust

array_is : (word : List ℕ) (a : ArrayForm) → IsArrayWord word a → array_at word ≡ a
unfolding array_at byte_at
array_is word C x = ap array_at x
array_is word GuardedC x = absurd x
array_is word Rust x = ap array_at x
array_is word Vhdl x = ap array_at x
array_is word Readmemh x = ap array_at x
array_is word Coe x = ap array_at x
array_is word Mif x = ap array_at x

array_one : (word : Option (List ℕ)) → IsOne ArrayForm (IsArrayAsked word)
array_one None a b x y = absurd x
array_one (Some word) a b x y = sym (array_is word a x) ∙ array_is word b y

guard_one : (header : Bool) (word : Option (List ℕ)) → IsOne (List ℕ) (IsGuardAsked header word)
guard_one header None a b x y = x ∙ sym y
guard_one header (Some word) a b x y = x.2 ∙ sym y.2

name_by_one : (file : Bool) (form : ArrayForm) (guard : List ℕ) (word : Option (List ℕ)) → IsOne (List ℕ) (IsNameBy file form guard word)
name_by_one true form guard None a b x y = x ∙ sym y
name_by_one true form guard (Some word) a b x y = absurd x
name_by_one false form guard None a b x y = absurd x
name_by_one false form guard (Some word) a b x y = x.1 ∙ sym y.1

numerals_one : (given : Given) (word : List ℕ) → IsOne Numerals (IsNumeralsAsked given word)
numerals_one given word a b x y =
    let r = names_one.radix _ (value_of given (codes "radix")) a.radix b.radix x.radix y.radix in
    let f = name_one word a.format b.format x.format y.format in
    let p = names_one.policy _ (value_of given (codes "policy")) a.policy b.policy x.policy y.policy in
    let m = names_one.mode _ (value_of given (codes "mode")) a.mode b.mode x.mode y.mode in
    ap (λ (z : Radix). record { radix = z; format = a.format; policy = a.policy; mode = a.mode }) r
    ∙ (ap (λ (z : FormatParts). record { radix = b.radix; format = z; policy = a.policy; mode = a.mode }) f
    ∙ (ap (λ z. record { radix = b.radix; format = b.format; policy = z; mode = a.mode }) p
    ∙ ap (λ z. record { radix = b.radix; format = b.format; policy = b.policy; mode = z }) m))

pub constants_one : ConstantsAreTheOnes
constants_one = record {
  form = form_one;
  array = array_one;
  guard = guard_one;
  name = λ form guard word a b x y. name_by_one (is_file form) form guard word a b x y;
  numerals = numerals_one;
}

-- ---- lines
format_one : (word : Option (List ℕ)) → IsOne FormatParts (IsFormatAsked word)
format_one None a b x y = absurd x
format_one (Some word) a b x y = name_one word a b x y

target_one : (word : Option (List ℕ)) (source : FormatParts) (place : ℕ) (a b : FormatParts) (m n : ℕ)
    → IsTargetAsked word source place a m → IsTargetAsked word source place b n → (a ≡ b) × (m ≡ n)
target_one None source place a b m n x y = (x.0 ∙ sym y.0, x.1 ∙ sym y.1)
target_one (Some word) source place a b m n x y = by (is_like_format word) x y
  where
    by : (like : Bool) → IsTargetBy like word source place a m → IsTargetBy like word source place b n → (a ≡ b) × (m ≡ n)
    by true x y = (name_one word a b x.0 y.0, x.1 ∙ sym y.1)
    by false x y = (x.0 ∙ sym y.0, x.1 ∙ sym y.1)

colon : IsNoDigit 58
colon d at e = omega (arith, at, e)

field_one : (width a b : ℕ) → a + width ≤ 64 → b + width ≤ 64 → field_text width a ≡ field_text width b → a ≡ b
field_one width a b p q e =
    let after : (low : ℕ) → low + width ≤ 64 → after_first (λ b. b == 58) (field_text width low) ≡ decimal low =
    λ low small. after_mark 58 colon (decimal (low + width - 1)) (decimal low) (digits_of_decimal (low + width - 1) (omega arith)) in
    decimal_injective a b (omega arith) (omega arith) (sym (after a p) ∙ (ap (after_first (λ b. b == 58)) e ∙ after b q))

low_one : (format : FormatParts) (word : Option (List ℕ)) → IsOne (Option ℕ) (IsFieldAsked format word)
low_one format None a b x y = x ∙ sym y
low_one format (Some word) None b x y = absurd x
low_one format (Some word) (Some a) None x y = absurd y
low_one format (Some word) (Some a) (Some b) x y = ap Some (field_one format.width a b x.0 y.0 (sym x.1 ∙ y.1))

part_by_one : (format : FormatParts) (field : Option (List ℕ)) (swap : Bool) → IsOne (Option Part) (IsPartBy format field swap)
part_by_one format field swap None None x y = refl
part_by_one format field swap None (Some b) x y = absurd (true≢false (sym y.0 ∙ (ap (λ (f : Option (List ℕ)). is_some f || swap) x.0 ∙ x.1)))
part_by_one format field swap (Some a) None x y = absurd (true≢false (sym x.0 ∙ (ap (λ (f : Option (List ℕ)). is_some f || swap) y.0 ∙ y.1)))
part_by_one format field swap (Some a) (Some b) x y =
    let low = low_one format field a.low b.low x.1 y.1 in
    ap Some (ap (λ (z : Option ℕ). record { low = z; is_reversed = a.is_reversed }) low
    ∙ ap (λ (z : Bool). record { low = b.low; is_reversed = z }) (x.2 ∙ sym y.2))

abbrev after_colon : List ℕ → List ℕ
after_colon = after_first (λ b. b == 58)

-- the name of the format is behind the second colon
format_name_at : (word : List ℕ) (field : Field) (x : IsFieldName word field) → after_colon (after_colon word) ≡ x.name
format_name_at word field x =
    let high : List ℕ = decimal (field.low + field.format.width - 1) in
    let low : List ℕ = decimal field.low in
    let split : word ≡ high ++ 58 ∷ (low ++ 58 ∷ x.name) = x.word_is ∙ (ap (λ (l : List ℕ). l ++ 58 ∷ x.name) x.is_field.bits_are ∙ append_assoc high (58 ∷ low) (58 ∷ x.name)) in
    let small : field.low + field.format.width ≤ 64 = x.is_field.within in
    let one : after_colon word ≡ low ++ 58 ∷ x.name =
    ap after_colon split ∙ after_mark 58 colon high (low ++ 58 ∷ x.name) (digits_of_decimal (field.low + field.format.width - 1) (omega arith)) in
    ap after_colon one ∙ after_mark 58 colon low x.name (digits_of_decimal field.low (omega arith))

same_field : (a b : Field) → a.low ≡ b.low → a.format ≡ b.format → a ≡ b
same_field a b low format =
    ap (λ (z : ℕ). record { low = z; format = a.format }) low ∙ ap (λ (z : FormatParts). record { low = b.low; format = z }) format

field_name_one : (word : List ℕ) → IsOne Field (IsFieldName word)
field_name_one word a b x y =
    let name : x.name ≡ y.name = sym (format_name_at word a x) ∙ format_name_at word b y in
    let format : a.format ≡ b.format = name_one x.name a.format b.format x.is_field.is_name (subst (λ (n : List ℕ). IsName n b.format) (sym name) y.is_field.is_name) in
    let bits : x.bits ≡ y.bits = append_cancel_right x.bits y.bits (58 ∷ y.name) (ap (λ (n : List ℕ). x.bits ++ 58 ∷ n) (sym name) ∙ (sym x.word_is ∙ y.word_is)) in
    let within : a.low + b.format.width ≤ 64 = subst (λ (f : FormatParts). a.low + f.width ≤ 64) format x.is_field.within in
    let texts : field_text b.format.width a.low ≡ field_text b.format.width b.low =
    subst (λ (f : FormatParts). field_text f.width a.low ≡ field_text b.format.width b.low) format (sym x.is_field.bits_are ∙ (bits ∙ y.is_field.bits_are)) in
    let low : a.low ≡ b.low = field_one b.format.width a.low b.low within y.is_field.within texts in
    same_field a b low format

fields_one : (words : List (List ℕ)) → IsOne (List Field) (AreNames words)
fields_one [] [] [] x y = refl
fields_one [] [] (b ∷ bs) x y = absurd y
fields_one [] (a ∷ us) bs x y = absurd x
fields_one (word ∷ words) [] bs x y = absurd x
fields_one (word ∷ words) (a ∷ us) [] x y = absurd y
fields_one (word ∷ words) (a ∷ us) (b ∷ bs) x y =
    ap (λ (z : Field). z ∷ us) (field_name_one word a b x.0 y.0) ∙ ap (λ (l : List Field). b ∷ l) (fields_one words us bs x.1 y.1)

comment_one : (word : Option (List ℕ)) → IsOne (List ℕ) (IsCommentAsked word)
comment_one None a b x y = x ∙ sym y
comment_one (Some word) a b x y = x.0 ∙ sym y.0

layout_one : (given : Given) → IsOne LineLayout (IsLayoutAsked given)
layout_one given a b x y =
    let c = comment_one (value_of given (codes "comments")) a.comments b.comments x.comments y.comments in
    ap (λ (z : Bool). record { is_trimmed = z; skips_blank = a.skips_blank; comments = a.comments }) (x.trimmed ∙ sym y.trimmed)
    ∙ (ap (λ (z : Bool). record { is_trimmed = b.is_trimmed; skips_blank = z; comments = a.comments }) (x.blank ∙ sym y.blank)
    ∙ ap (λ (z : List ℕ). record { is_trimmed = b.is_trimmed; skips_blank = b.skips_blank; comments = z }) c)

leaving_word_one : (word : List ℕ) (a b : Leaving) → IsLeavingWord word a → IsLeavingWord word b → a ≡ b
leaving_word_one word Nothing b x y = absurd x
leaving_word_one word NoNumerals Nothing x y = absurd y
leaving_word_one word NoNumerals NoNumerals x y = refl
leaving_word_one word NoNumerals Everything x y = absurd (omega (arith, ap length (sym x ∙ y)))
leaving_word_one word Everything Nothing x y = absurd y
leaving_word_one word Everything NoNumerals x y = absurd (omega (arith, ap length (sym x ∙ y)))
leaving_word_one word Everything Everything x y = refl

leaving_one : (value : Option (List ℕ)) (a b : Leaving) → IsLeavingAsked value a → IsLeavingAsked value b → a ≡ b
leaving_one None a b x y = x ∙ sym y
leaving_one (Some word) a b x y = leaving_word_one word a b x y

kind_word_one : (signed : Bool) (word : List ℕ) → IsOne FormatParts (IsKindWord signed word)
kind_word_one signed word a b x y =
    let p = x.valid.is_width in
    let q = y.valid.is_width in
    let w : a.width ≡ b.width = decimal_injective a.width b.width (omega arith) (omega arith) (sym x.text ∙ y.text) in
    ap (λ (z : Bool). record { signed = z; width = a.width; frac = a.frac }) (x.sign ∙ sym y.sign)
    ∙ (ap (λ (z : ℕ). record { signed = b.signed; width = z; frac = a.frac }) w
    ∙ ap (λ (z : ℕ). record { signed = b.signed; width = b.width; frac = z }) (x.no_fraction ∙ sym y.no_fraction))

kind_one : (signed bounded : Bool) (word : Option (List ℕ)) → IsOne FormatParts (IsKindAsked signed bounded word)
kind_one signed bounded (Some word) a b x y = kind_word_one signed word a b x y
kind_one signed true None a b x y = kind_word_one signed (codes "64") a b x y
kind_one signed false None a b x y = absurd x

pub lines_one : LinesAreTheOnes
lines_one = record {
  format = format_one;
  target = target_one;
  part = λ format given. part_by_one format (value_of given (codes "field")) (has_flag given (codes "swap"));
  fields = fields_one;
  layout = layout_one;
  words = λ given a b x y. record {
    separators = x.separators.text ∙ sym y.separators.text;
    token = x.token.text ∙ sym y.token.text;
    leaves = leaving_one (value_of given (codes "keep")) a.leaves b.leaves x.leaves y.leaves;
  };
  kind = kind_one;
}

-- ---- settings
print_one : (part places mode : Option (List ℕ)) → IsOne Print (IsPrintAsked part places mode)
print_one part None None a b x y = names_one.print part a b x y
print_one part None (Some word) a b x y = absurd x
print_one part (Some word) mode a b x y =
    let count : x.1 ≡ y.1 = decimal_injective x.1 y.1 (omega (arith, x.2.most)) (omega (arith, y.2.most)) (sym x.2.word_is ∙ y.2.word_is) in
    let same : x.3 ≡ y.3 = names_one.mode NearestEven mode x.3 y.3 x.4 y.4 in
    x.5 ∙ ((λ i. Places (count i) (same i)) ∙ sym y.5)

endian_at : List ℕ → Endian
endian_at word = if byte_at 0 word == 108 then Little else Big

endian_back : (a : Endian) → endian_at (endian_text a) ≡ a
unfolding endian_at byte_at
endian_back Little = refl
endian_back Big = refl

excerpt_one : (given : Given) → IsOne Excerpt (IsExcerptAsked given)
excerpt_one given a b x y =
    let skip : a.skip ≡ b.skip = count_one _ a.skip b.skip x.skip y.skip in
    let count : a.count ≡ b.count = count_one _ a.count b.count x.count y.count in
    λ i. record { skip = skip i; count = count i }

limit_one : (word : Option (List ℕ)) → IsOne (Option ℕ) (IsLimitAsked word)
limit_one None a b x y = x ∙ sym y
limit_one (Some word) None b x y = absurd x
limit_one (Some word) (Some a) None x y = absurd y
limit_one (Some word) (Some a) (Some b) x y = ap Some (decimal_injective a b (omega (arith, x.most)) (omega (arith, y.most)) (sym x.text ∙ y.text))

error_one : (radix : Radix) (word : Option (List ℕ)) → IsOne (Option (List ℕ)) (IsErrorAsked radix word)
error_one radix None None None x y = refl
error_one radix None None (Some b) x y = absurd y
error_one radix None (Some a) b x y = absurd x
error_one radix (Some word) None b x y = absurd x
error_one radix (Some word) (Some a) None x y = absurd y
error_one radix (Some word) (Some a) (Some b) x y = ap Some (by _ x y)
  where
    by : (power : Bool) → IsErrorBy power radix word a → IsErrorBy power radix word b → a ≡ b
    by true x y = x.1 ∙ sym y.1
    by false x y = x.2 ∙ sym y.2

fractions_one : (width : ℕ) (word : Option (List ℕ)) (beyond : Bool) → width ≤ 64 → IsOne Fractions (IsFractionsAsked width word beyond)
fractions_one width None beyond most (Whole a) (Whole b) x y = ap Whole (x.1 ∙ sym y.1)
fractions_one width None beyond most (Whole a) Beyond x y = let no : false ≡ true = sym x.0 ∙ y in cc
fractions_one width None beyond most Beyond (Whole b) x y = let no : false ≡ true = sym y.0 ∙ x in cc
fractions_one width None beyond most Beyond Beyond x y = refl
fractions_one width (Some word) beyond most (Whole a) (Whole b) x y = ap Whole (decimal_injective a b (omega (arith, x.1.most, most)) (omega (arith, y.1.most, most)) (sym x.1.text ∙ y.1.text))
fractions_one width (Some word) beyond most (Whole a) Beyond x y = absurd y
fractions_one width (Some word) beyond most Beyond b x y = absurd x

pub settings_one : SettingsAreTheOnes
settings_one = record {
  print = print_one;
  endian = λ a b e. sym (endian_back a) ∙ (ap endian_at e ∙ endian_back b);
  excerpt = excerpt_one;
  limit = limit_one;
  error = error_one;
  fractions = fractions_one;
}
