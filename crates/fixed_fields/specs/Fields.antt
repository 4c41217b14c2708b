-- Fields of bits with formats, and the words that name them.
use Rattle.std.specs.Prelude.{◌≡◌, ℕ, ◌+◌, ◌≤◌, List, ◌∷◌, ◌++◌, length, min, take}
use Rattle.fixed_names.specs.Names.{IsName}
use Rattle.fixed_fields.specs.Names.{field_text}
use Rattle.fixed_fields.specs.declared.list.Field.{Field}
use Rattle.fixed_fields.specs.declared.list.FieldList.{FieldList}

-- the fields of a list
abbrev pub fields_of : FieldList → List Field
fields_of list = take (min list.count 32) list.items

-- a word names a field of a word of 64 bits, by a text before the format's name
pub record IsFieldBy (bits name : List ℕ) (field : Field) : Type 0 where
  pub is_name : IsName name field.format
  pub within : field.low + field.format.width ≤ 64
  pub bits_are : bits ≡ field_text field.format.width field.low

-- a word names a field: its bits, a colon, and any name of its format
pub record IsFieldName (word : List ℕ) (field : Field) : Type 0 where
  pub bits : List ℕ
  pub name : List ℕ
  pub is_field : IsFieldBy bits name field
  pub word_is : word ≡ bits ++ 58 ∷ name

-- the same, by the colon at an index
pub record IsFieldAt (word : List ℕ) (index : ℕ) (field : Field) : Type 0 where
  pub named : IsFieldName word field
  pub index_is : index ≡ length named.bits
