-- The records and fields of a CSV text, by their places in it, with this delimiter between fields.
use Rattle.std.specs.Prelude.{◌==◌, ◌||◌, ◌≡◌, ◌≢◌, ◌++◌, ⊤, ℕ, List, [], ◌∷◌, Bool, true, false, flat_map}
use Rattle.std.specs.Prelude.{if◌then◌else◌, map}
use Rattle.line_engine.specs.Lines.{onto_first}
use Rattle.column_engine.specs.declared.place.Place.{Place}
use Rattle.column_engine.specs.declared.place.Place.TheVariants.{AfterQuote, Inside, Quoted, Start}

-- whether a byte ends a record: a line end outside of quotes
abbrev pub ends_record : Place → ℕ → Bool
ends_record Start byte = (byte == 10) || (byte == 13)
ends_record Inside byte = (byte == 10) || (byte == 13)
ends_record Quoted byte = false
ends_record AfterQuote byte = (byte == 10) || (byte == 13)

-- whether a byte ends a field of a record: the delimiter, outside of quotes
abbrev pub ends_field : ℕ → Place → ℕ → Bool
ends_field delimiter Start byte = byte == delimiter
ends_field delimiter Inside byte = byte == delimiter
ends_field delimiter Quoted byte = false
ends_field delimiter AfterQuote byte = byte == delimiter

-- the place after a byte of a field
abbrev pub within_after : Place → ℕ → Place
within_after Start byte = if byte == 34 then Quoted else Inside
within_after Inside byte = Inside
within_after Quoted byte = if byte == 34 then AfterQuote else Quoted
within_after AfterQuote byte = if byte == 34 then Quoted else Inside

-- the place after a byte of a record
abbrev pub place_after : ℕ → Place → ℕ → Place
place_after delimiter place byte = if ends_field delimiter place byte then Start else within_after place byte

-- the place after some bytes of a record
unfoldable pub places_after : ℕ → Place → List ℕ → Place
places_after delimiter place [] = place
places_after delimiter place (byte ∷ rest) = places_after delimiter (place_after delimiter place byte) rest

-- no record ends in these bytes
unfoldable pub IsUnended : ℕ → Place → List ℕ → Type 0
IsUnended delimiter place [] = ⊤
IsUnended delimiter place (byte ∷ rest) = (ends_record place byte ≡ false) × IsUnended delimiter (place_after
    delimiter place byte) rest

-- the bytes of each field of a record, with its quotes
unfoldable pub raw_fields : ℕ → Place → List ℕ → List (List ℕ)
raw_fields delimiter place [] = [] ∷ []
raw_fields delimiter place (byte ∷ rest) =
    if ends_field delimiter place byte then [] ∷ raw_fields delimiter Start rest
    else onto_first byte (raw_fields delimiter (within_after place byte) rest)

-- whether a byte of a field is a quote around its text, or the first of two that mean one
abbrev pub is_dropped : Place → ℕ → Bool
is_dropped Start byte = byte == 34
is_dropped Inside byte = false
is_dropped Quoted byte = byte == 34
is_dropped AfterQuote byte = false

-- the text that the bytes of a field encode
unfoldable pub content : Place → List ℕ → List ℕ
content place [] = []
content place (byte ∷ rest) = if is_dropped place byte then content (within_after place byte) rest else byte ∷ content
    (within_after place byte) rest

-- the texts of the fields of a record
abbrev pub field_texts : ℕ → List ℕ → List (List ℕ)
field_texts delimiter body = map (content Start) (raw_fields delimiter Start body)

-- a record's bytes and its end; it may be an empty line, and the last record of a text may lack the end
pub record Row : Type 0 where
  pub body : List ℕ
  pub end : List ℕ

abbrev pub row_text : Row → List ℕ
row_text row = row.body ++ row.end

-- a record that ended
pub record IsEnded (delimiter : ℕ) (row : Row) : Type 0 where
  pub unended : IsUnended delimiter Start row.body
  pub byte : ℕ
  pub ends : ends_record (places_after delimiter Start row.body) byte ≡ true
  pub is_end : row.end ≡ byte ∷ []

abbrev pub AreEnded : ℕ → List Row → Type 0
AreEnded delimiter [] = ⊤
AreEnded delimiter (row ∷ rows) = IsEnded delimiter row × AreEnded delimiter rows

-- a last record without an end, not empty and not inside quotes
pub record IsLast (delimiter : ℕ) (row : Row) : Type 0 where
  pub unended : IsUnended delimiter Start row.body
  pub some : row.body ≢ []
  pub closed : places_after delimiter Start row.body ≢ Quoted
  pub is_end : row.end ≡ []

abbrev pub rows_text : List Row → List ℕ
rows_text rows = flat_map row_text rows

-- a byte order mark
abbrev pub byte_order_mark : List ℕ
byte_order_mark = 239 ∷ 187 ∷ 191 ∷ []
