-- Texts appended one after another.
use Rattle.std.proofs.Common.{◌≡◌, ◌∙◌, ◌+◌, ◌*◌, ◌≤◌, ℕ, ℤ, ◌-◌, List, [], ◌∷◌, ◌++◌, get_or, length, take, drop, ap, append_assoc, arith, length-append, refl, sym}
use Rattle.std.proofs.Math.Seq.{take-length}
use Rattle.std.specs.Prelude.{codes}
use Rattle.std.specs.Fmt.{signed_decimal}
use Rattle.fixed_bits.specs.Formats.{IsFormat}
use Rattle.fixed_respell.specs.Words.{format_text}
use Rattle.fixed_show.specs.Blocks.{Appends}
use Rattle.fixed_show.specs.Forms.{fact}
use Rattle.fixed_show.specs.declared.form.Form.{Form}
use Rattle.fixed_show.specs.declared.form.Form.TheVariants.{Lines, Members}
use Rattle.fixed_write.specs.Texts.{shortest_text}
use Rattle.fixed_fields.specs.Answer.{AreFields, IsNumber, between, field_answer, given_text, most_of, name_of, next_most}
use Rattle.fixed_fields.specs.declared.answer.FieldsQuestion.{FieldsQuestion}
use Rattle.fixed_fields.specs.declared.list.Field.{Field}

pub after : (old a b s new : List ℕ) → s ≡ old ++ a → new ≡ s ++ b → new ≡ old ++ (a ++ b)
after old a b s new e f = f ∙ ap (λ (l : List ℕ). l ++ b) e ∙ append_assoc old a b

-- ---- the answer about one field
fact_at : (form : Form) (key a b old new : List ℕ) → form ≡ Members → a ≡ b → new ≡ old ++ fact form key a → new ≡ old ++ fact Members key b
fact_at form key a b old new is same e = e ∙ ap (λ (f : Form). old ++ fact f key a) is ∙ ap (λ (t : List ℕ). old ++ fact Members key t) same

pub members_pushed : (form : Form) (word : List ℕ) (field : Field) (bits : ℤ) (old s1 s2 s3 s4 s5 new name format text : List ℕ) → form ≡ Members
    → name ≡ name_of field → format ≡ format_text field.format → text ≡ shortest_text bits field.format.frac
    → s1 ≡ old ++ given_text word → s2 ≡ s1 ++ fact form (codes "field") name → s3 ≡ s2 ++ fact form (codes "format") format
    → s4 ≡ s3 ++ fact form (codes "text") text → s5 ≡ s4 ++ fact form (codes "bits") (signed_decimal bits) → new ≡ s5 ++ codes "}"
    → new ≡ old ++ field_answer form word field bits
members_pushed form word field bits old s1 s2 s3 s4 s5 new name format text is n f t e1 e2 e3 e4 e5 e6 =
    let b : List ℕ = fact Members (codes "field") (name_of field) in
    let c : List ℕ = fact Members (codes "format") (format_text field.format) in
    let d : List ℕ = fact Members (codes "text") (shortest_text bits field.format.frac) in
    let e : List ℕ = fact Members (codes "bits") (signed_decimal bits) in
    let g : List ℕ = codes "}" in
    let from4 : new ≡ s4 ++ (e ++ g) = after s4 e g s5 new (fact_at form (codes "bits") (signed_decimal bits) (signed_decimal bits) s4 s5 is refl e5) e6 in
    let from3 : new ≡ s3 ++ (d ++ (e ++ g)) = after s3 d (e ++ g) s4 new (fact_at form (codes "text") text (shortest_text bits field.format.frac) s3 s4 is t e4) from4 in
    let from2 : new ≡ s2 ++ (c ++ (d ++ (e ++ g))) = after s2 c (d ++ (e ++ g)) s3 new (fact_at form (codes "format") format (format_text field.format) s2 s3 is f e3) from3 in
    let from1 : new ≡ s1 ++ (b ++ (c ++ (d ++ (e ++ g)))) = after s1 b (c ++ (d ++ (e ++ g))) s2 new (fact_at form (codes "field") name (name_of field) s1 s2 is n e2) from2 in
    after old (given_text word) (b ++ (c ++ (d ++ (e ++ g)))) s1 new e1 from1 ∙ sym (ap (λ (x : Form). old ++ field_answer x word field bits) is)

-- ---- the answers about all fields
pub fields_are : (fields : List Field) (field : Field) → 1 ≤ length fields → field ≡ get_or fields 0 field → fields ≡ field ∷ take (length fields - 1) (drop 1 fields)
fields_are [] field low is = let no : ⊥ = omega (arith, low) in absurd no
fields_are (first ∷ rest) field low is =
    let less : length (first ∷ rest) - 1 ≡ length rest = omega arith in
    ap (λ (f : Field). f ∷ rest) (sym is) ∙ ap (λ (l : List Field). field ∷ l) (sym (ap (λ n. take n rest) less ∙ take-length rest))

next_is : (form : Form) → next_most form ≡ most_of form + 1
next_is Lines = refl
next_is Members = refl

shorter : (old a s : List ℕ) (most : ℕ) → s ≡ old ++ a → length s ≤ length old + most → length a ≤ most
shorter old a s most e short = omega (arith, ap length e, length-append old a, short)

sum_short : (a b c most next count : ℕ) → next ≡ most + 1 → a ≤ most → b ≤ 1 → c ≤ next * count → a + (b + c) ≤ next * (1 + count)
sum_short a b c most next count e x y z = omega (arith, e, x, y, z)

length_three : (a b c : List ℕ) → length (a ++ (b ++ c)) ≡ length a + (length b + length c)
length_three a b c = length-append a (b ++ c) ∙ ap (λ n. length a + n) (length-append b c)

pub fields_appended : (form : Form) (q : FieldsQuestion) (fields : List Field) (field : Field) (more : List Field) (word old s1 s2 new : List ℕ) (bits : ℤ)
    → fields ≡ field ∷ more → IsFormat field.format.width field.format.frac → IsNumber q field word bits
    → s1 ≡ old ++ field_answer form word field bits → length s1 ≤ length old + most_of form → s2 ≡ s1 ++ between form more → length s2 ≤ length s1 + 1
    → Appends (AreFields form q more word) (next_most form * length more) s2 new
    → Appends (AreFields form q fields word) (next_most form * length fields) old new
fields_appended form q fields field more word old s1 s2 new bits is valid number e1 short1 e2 short2 rest =
    let a : List ℕ = field_answer form word field bits in
    let b : List ℕ = between form more in
    let here : Appends (AreFields form q (field ∷ more) word) (next_most form * length (field ∷ more)) old new = record {
      text = a ++ (b ++ rest.text);
      is_text = record { bits = bits; rest = rest.text; is_format = valid; is_number = number; are_rest = rest.is_text; text_is = refl };
      appended = after old a (b ++ rest.text) s1 new e1 (after s1 b rest.text s2 new e2 rest.appended);
      short = omega (
        arith,
        length_three a b rest.text,
        sum_short (length a) (length b) (length rest.text) (most_of form) (next_most form) (length more) (next_is form)
            (shorter old a s1 (most_of form) e1 short1) (shorter s1 b s2 1 e2 short2) rest.short,
      );
    } in
    rw is here
