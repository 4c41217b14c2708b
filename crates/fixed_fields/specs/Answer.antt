-- The answer about several fields of a register word.
use Rattle.std.specs.Prelude.{◌≡◌, ◌⊎◌, ℕ, ◌==◌, ◌||◌, ℤ, Bool, true, false, List, [], ◌∷◌, ◌++◌, Some, codes}
use Rattle.std.specs.Prelude.{if◌then◌else◌, map, take}
use Rattle.std.specs.Char.{is_ascii_alphanumeric}
use Rattle.std.specs.Fmt.{signed_decimal}
use Rattle.fixed_bits.specs.Formats.{IsFormat}
use Rattle.fixed_respell.specs.Words.{format_text}
use Rattle.fixed_show.specs.Forms.{fact, refusal}
use Rattle.fixed_show.specs.JsonText.{object_text}
use Rattle.fixed_show.specs.PartText.{HasPartFault, IsPart, part_message}
use Rattle.fixed_show.specs.declared.form.Form.{Form}
use Rattle.fixed_show.specs.declared.form.Form.TheVariants.{Lines, Members}
use Rattle.fixed_show.specs.declared.parts.Part.{Part}
use Rattle.fixed_show.specs.declared.parts.PartFault.{PartFault}
use Rattle.fixed_write.specs.Texts.{shortest_text}
use Rattle.fixed_fields.specs.Fields.{fields_of}
use Rattle.fixed_fields.specs.Names.{field_text}
use Rattle.fixed_fields.specs.declared.answer.FieldsQuestion.{FieldsQuestion}
use Rattle.fixed_fields.specs.declared.list.Field.{Field}

-- the part of a word that a field is
abbrev pub part_of : FieldsQuestion → Field → Part
part_of q field = record { low = Some field.low; is_reversed = q.is_reversed }

-- the number of a field of a word, as `fixed bits` has it for one field
abbrev pub IsNumber : FieldsQuestion → Field → List ℕ → ℤ → Type 0
IsNumber q field word bits = IsPart q.radix (part_of q field) field.format word bits

-- the word for a field
abbrev pub name_of : Field → List ℕ
name_of field = field_text field.format.width field.low

-- ---- the answer about one field
-- a byte of a register word, or a question mark
abbrev pub plain : ℕ → ℕ
plain byte = if is_ascii_alphanumeric byte || byte == 95 then byte else 63

-- the start of an object: the first 84 bytes of the word
abbrev pub given_text : List ℕ → List ℕ
given_text word = codes "{\"given\":\"" ++ (map plain (take 84 word) ++ 34 ∷ [])

-- a line with the shortest text of the number, or an object
abbrev pub field_answer : Form → List ℕ → Field → ℤ → List ℕ
field_answer Lines word field bits = fact Lines (name_of field) (shortest_text bits field.format.frac)
field_answer Members word field bits = given_text word
    ++ (fact Members (codes "field") (name_of field)
    ++ (fact Members (codes "format") (format_text field.format)
    ++ (fact Members (codes "text") (shortest_text bits field.format.frac)
    ++ (fact Members (codes "bits") (signed_decimal bits) ++ codes "}"))))

-- the most bytes of such an answer, and of one with the newline after it
abbrev pub most_of : Form → ℕ
most_of Lines = 64
most_of Members = 247

abbrev pub next_most : Form → ℕ
next_most Lines = 65
next_most Members = 248

-- ---- the answers about all fields
-- what stands after the answer about a field: a newline, if it is an object and more follow
abbrev pub between : Form → List Field → List ℕ
between Lines more = []
between Members [] = []
between Members (field ∷ more) = 10 ∷ []

-- the text gives the number of a field, and then what has a property
pub record IsFirst (form : Form) (q : FieldsQuestion) (field : Field) (more : List Field) (word : List ℕ)
    (Rest : List ℕ → Type 0) (text : List ℕ) : Type 0 where
  pub bits : ℤ
  pub rest : List ℕ
  pub is_format : IsFormat field.format.width field.format.frac
  pub is_number : IsNumber q field word bits
  pub are_rest : Rest rest
  pub text_is : text ≡ field_answer form word field bits ++ (between form more ++ rest)

-- the text gives the number of each field, in order
abbrev pub AreFields : Form → FieldsQuestion → List Field → List ℕ → List ℕ → Type 0
AreFields form q [] word text = text ≡ []
AreFields form q (field ∷ more) word text =
    IsFirst form q field more word (λ rest. AreFields form q more word rest) text

-- the fault of the first field that the word does not have
abbrev pub HasFieldFault : FieldsQuestion → List Field → List ℕ → PartFault → Type 0
HasFieldFault q [] word fault = ⊥
HasFieldFault q (field ∷ more) word fault = HasPartFault q.radix (part_of q field) field.format word fault
    ⊎ (((bits : ℤ) × IsNumber q field word bits) × HasFieldFault q more word fault)

-- the report of a refused word
abbrev pub refused_text : Form → List ℕ → PartFault → List ℕ
refused_text Lines word fault = refusal Lines (part_message fault)
refused_text Members word fault = object_text word (refusal Members (part_message fault))

pub record IsRefusedWord (form : Form) (q : FieldsQuestion) (word text : List ℕ) : Type 0 where
  pub fault : PartFault
  pub is_fault : HasFieldFault q (fields_of q.fields) word fault
  pub text_is : text ≡ refused_text form word fault

-- the answer to a question about the fields of a word, by whether the word is refused
abbrev pub IsFieldsAnswer : Form → FieldsQuestion → List ℕ → Bool → List ℕ → Type 0
IsFieldsAnswer form q word true text = IsRefusedWord form q word text
IsFieldsAnswer form q word false text = AreFields form q (fields_of q.fields) word text
