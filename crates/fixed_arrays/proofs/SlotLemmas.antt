-- Templates, filled byte by byte.
use Rattle.std.proofs.Common.{◌≡◌, ◌∙◌, ◌-◌, ◌/◌, ◌%◌, ◌<◌, ◌≤◌, ◌==◌, ℕ, zero, suc, List, [], ◌∷◌, ◌++◌, Bool, true, false, nat_lt, length, drop, refl, sym, ap, subst, arith, append-nil, append_assoc}
use Rattle.std.specs.Fmt.{decimal, digit_glyph}
use Rattle.std.proofs.lemmas.Bool.Decides.{nat_tests}
use Rattle.fixed_constants.specs.Canonical.{literal_text}
use Rattle.fixed_constants.specs.Forms.{c_number}
use Rattle.fixed_respell.specs.Words.{format_text}
use Rattle.fixed_write.specs.Texts.{last_digits, shortest_text}
use Rattle.fixed_write.proofs.Public.{last_digits_more, last_digits_none}
use Rattle.fixed_arrays.specs.Slots.{FillingParts, binary_digits, c_sign, count_slot, element_format, element_width, fill_from}
use Rattle.fixed_arrays.specs.Slots.{hex_digits, label_text, number_slot, rust_sign, separator, slot, vhdl_sign}

-- ---- digits
pub digits_more : (base : ℕ) (old mid new : List ℕ) (k w : ℕ) → 0 < k → mid ≡ old ++ last_digits base false (k - 1) (w / base) → new ≡ mid ++ digit_glyph false (w % base) ∷ [] → new ≡ old ++ last_digits base false k w
digits_more base old mid new k w h e f = f ∙ ap (λ t. t ++ digit_glyph false (w % base) ∷ []) e ∙ append_assoc old (last_digits base false (k - 1) (w / base)) (digit_glyph false (w % base) ∷ []) ∙ ap (λ t. old ++ t) (sym (last_digits_more base false k w h))

pub digits_none : (base : ℕ) (old : List ℕ) (k w : ℕ) → k ≡ 0 → old ≡ old ++ last_digits base false k w
digits_none base old k w e = sym (ap (λ t. old ++ last_digits base false t w) e ∙ ap (λ t. old ++ t) (last_digits_none base false w) ∙ append-nil old)

-- ---- the bytes of a template
pub fill_none : (is_slot : Bool) (v : FillingParts) → fill_from is_slot v [] ≡ []
unfolding fill_from
fill_none true v = refl
fill_none false v = refl

fill_slot : (v : FillingParts) (key : ℕ) (more : List ℕ) → fill_from true v (key ∷ more) ≡ slot v key ++ fill_from false v more
unfolding fill_from
fill_slot v key more = refl

fill_mark : (v : FillingParts) (byte : ℕ) (more : List ℕ) → byte ≡ 64 → fill_from false v (byte ∷ more) ≡ fill_from true v more
unfolding fill_from
fill_mark v byte more e =
    let P : ℕ → Type 0 = λ b. fill_from false v (b ∷ more) ≡ fill_from true v more in
    let at : P 64 = refl in
    subst P (sym e) at

pub not_equal : (a b : ℕ) → (a ≡ b → ⊥) → (a == b) ≡ false
not_equal a b differs = by_test (a == b) refl
  where
    by_test : (t : Bool) → (a == b) ≡ t → (a == b) ≡ false
    by_test true e = absurd (differs (grind (arith, nat_tests)))
    by_test false e = e

fill_byte : (v : FillingParts) (byte : ℕ) (more : List ℕ) → (byte ≡ 64 → ⊥) → fill_from false v (byte ∷ more) ≡ byte ∷ fill_from false v more
unfolding fill_from
fill_byte v byte more differs =
    let F : Bool → List ℕ = λ t. elim t as (λ u. List ℕ) [ true ↦ fill_from true v more | false ↦ byte ∷ fill_from false v more ] in
    ap F (not_equal byte 64 differs)

pub next_slot : (v : FillingParts) (is_slot : Bool) (key : ℕ) (old new more : List ℕ) → is_slot ≡ true → new ≡ old ++ slot v key → old ++ fill_from is_slot v (key ∷ more) ≡ new ++ fill_from false v more
next_slot v is_slot key old new more test e =
    ap (λ b. old ++ fill_from b v (key ∷ more)) test ∙ (ap (λ t. old ++ t) (fill_slot v key more) ∙ (sym (append_assoc old (slot v key) (fill_from false v more)) ∙ ap (λ t. t ++ fill_from false v more) (sym e)))

pub next_mark : (v : FillingParts) (is_slot : Bool) (byte : ℕ) (old more : List ℕ) → is_slot ≡ false → byte ≡ 64 → old ++ fill_from is_slot v (byte ∷ more) ≡ old ++ fill_from true v more
next_mark v is_slot byte old more test e =
    ap (λ b. old ++ fill_from b v (byte ∷ more)) test ∙ ap (λ t. old ++ t) (fill_mark v byte more e)

pub next_byte : (v : FillingParts) (is_slot : Bool) (byte : ℕ) (old new more : List ℕ) → is_slot ≡ false → (byte ≡ 64 → ⊥) → new ≡ old ++ byte ∷ [] → old ++ fill_from is_slot v (byte ∷ more) ≡ new ++ fill_from false v more
next_byte v is_slot byte old new more test differs e =
    ap (λ b. old ++ fill_from b v (byte ∷ more)) test ∙ (ap (λ t. old ++ t) (fill_byte v byte more differs) ∙ (sym (append_assoc old (byte ∷ []) (fill_from false v more)) ∙ ap (λ t. t ++ fill_from false v more) (sym e)))

drop_past : (xs : List ℕ) (i : ℕ) → length xs ≤ i → drop i xs ≡ []
drop_past [] zero h = refl
drop_past [] (suc i) h = refl
drop_past (x ∷ xs) zero h = absurd (omega arith)
drop_past (x ∷ xs) (suc i) h = drop_past xs i (omega arith)

pub filled_all : (v : FillingParts) (template start text : List ℕ) (is_slot : Bool) (i : ℕ) → length template ≤ i → start ≡ text ++ fill_from is_slot v (drop i template) → text ≡ start
filled_all v template start text is_slot i past before =
    sym (before ∙ (ap (λ t. text ++ fill_from is_slot v t) (drop_past template i past) ∙ (ap (λ t. text ++ t) (fill_none is_slot v) ∙ append-nil text)))

-- ---- the text for a slot
pub width_64 : (w : ℕ) → 32 < w → element_width w ≡ 64
unfolding element_width
width_64 w h = let a : nat_lt 32 w ≡ true = grind (arith, nat_tests) in rw a refl

pub width_32 : (w : ℕ) → w ≤ 32 → 16 < w → element_width w ≡ 32
unfolding element_width
width_32 w g h =
    let a : nat_lt 32 w ≡ false = grind (arith, nat_tests) in
    let b : nat_lt 16 w ≡ true = grind (arith, nat_tests) in rw (a, b) refl

pub width_16 : (w : ℕ) → w ≤ 16 → 8 < w → element_width w ≡ 16
unfolding element_width
width_16 w g h =
    let a : nat_lt 32 w ≡ false = grind (arith, nat_tests) in
    let b : nat_lt 16 w ≡ false = grind (arith, nat_tests) in
    let d : nat_lt 8 w ≡ true = grind (arith, nat_tests) in rw (a, b, d) refl

pub width_8 : (w : ℕ) → w ≤ 8 → element_width w ≡ 8
unfolding element_width
width_8 w g =
    let a : nat_lt 32 w ≡ false = grind (arith, nat_tests) in
    let b : nat_lt 16 w ≡ false = grind (arith, nat_tests) in
    let d : nat_lt 8 w ≡ false = grind (arith, nat_tests) in rw (a, b, d) refl

pub is_c_number : (v : FillingParts) (key : ℕ) → key ≡ 100 → number_slot v key ≡ c_number (element_format v.format) v.bits
unfolding number_slot
is_c_number v key e = let P : ℕ → Type 0 = λ k. number_slot v k ≡ c_number (element_format v.format) v.bits in let at : P 100 = refl in subst P (sym e) at

pub is_literal : (v : FillingParts) (key : ℕ) → key ≡ 120 → number_slot v key ≡ literal_text v.bits 0
unfolding number_slot
is_literal v key e = let P : ℕ → Type 0 = λ k. number_slot v k ≡ literal_text v.bits 0 in let at : P 120 = refl in subst P (sym e) at

pub is_hex : (v : FillingParts) (key : ℕ) → key ≡ 104 → number_slot v key ≡ hex_digits v.format.width v.bits
unfolding number_slot
is_hex v key e = let P : ℕ → Type 0 = λ k. number_slot v k ≡ hex_digits v.format.width v.bits in let at : P 104 = refl in subst P (sym e) at

pub is_binary : (v : FillingParts) (key : ℕ) → key ≡ 122 → number_slot v key ≡ binary_digits v.format.width v.bits
unfolding number_slot
is_binary v key e = let P : ℕ → Type 0 = λ k. number_slot v k ≡ binary_digits v.format.width v.bits in let at : P 122 = refl in subst P (sym e) at

pub is_value : (v : FillingParts) (key : ℕ) → (key ≡ 100 → ⊥) → (key ≡ 120 → ⊥) → (key ≡ 104 → ⊥) → (key ≡ 122 → ⊥) → number_slot v key ≡ shortest_text v.bits v.format.frac
unfolding number_slot
is_value v key n0 n1 n2 n3 = rw (not_equal key 100 n0, not_equal key 120 n1, not_equal key 104 n2, not_equal key 122 n3) refl

pub is_count : (v : FillingParts) (key : ℕ) → key ≡ 99 → count_slot v key ≡ decimal v.count
unfolding count_slot
is_count v key e = let P : ℕ → Type 0 = λ k. count_slot v k ≡ decimal v.count in let at : P 99 = refl in subst P (sym e) at

pub is_last : (v : FillingParts) (key : ℕ) → key ≡ 108 → count_slot v key ≡ decimal (v.count - 1)
unfolding count_slot
is_last v key e = let P : ℕ → Type 0 = λ k. count_slot v k ≡ decimal (v.count - 1) in let at : P 108 = refl in subst P (sym e) at

pub is_index : (v : FillingParts) (key : ℕ) → key ≡ 105 → count_slot v key ≡ decimal v.index
unfolding count_slot
is_index v key e = let P : ℕ → Type 0 = λ k. count_slot v k ≡ decimal v.index in let at : P 105 = refl in subst P (sym e) at

pub is_type_width : (v : FillingParts) (key : ℕ) → key ≡ 119 → count_slot v key ≡ decimal (element_width v.format.width)
unfolding count_slot
is_type_width v key e = let P : ℕ → Type 0 = λ k. count_slot v k ≡ decimal (element_width v.format.width) in let at : P 119 = refl in subst P (sym e) at

pub is_width : (v : FillingParts) (key : ℕ) → key ≡ 98 → count_slot v key ≡ decimal v.format.width
unfolding count_slot
is_width v key e = let P : ℕ → Type 0 = λ k. count_slot v k ≡ decimal v.format.width in let at : P 98 = refl in subst P (sym e) at

pub is_most : (v : FillingParts) (key : ℕ) → key ≡ 109 → count_slot v key ≡ decimal (v.format.width - 1)
unfolding count_slot
is_most v key e = let P : ℕ → Type 0 = λ k. count_slot v k ≡ decimal (v.format.width - 1) in let at : P 109 = refl in subst P (sym e) at

pub is_frac : (v : FillingParts) (key : ℕ) → key ≡ 112 → count_slot v key ≡ decimal v.format.frac
unfolding count_slot
is_frac v key e = let P : ℕ → Type 0 = λ k. count_slot v k ≡ decimal v.format.frac in let at : P 112 = refl in subst P (sym e) at

pub is_number : (v : FillingParts) (key : ℕ) → (key ≡ 99 → ⊥) → (key ≡ 108 → ⊥) → (key ≡ 105 → ⊥) → (key ≡ 119 → ⊥) → (key ≡ 98 → ⊥) → (key ≡ 109 → ⊥) → (key ≡ 112 → ⊥) → count_slot v key ≡ number_slot v key
unfolding count_slot
is_number v key n0 n1 n2 n3 n4 n5 n6 = rw (not_equal key 99 n0, not_equal key 108 n1, not_equal key 105 n2, not_equal key 119 n3, not_equal key 98 n4, not_equal key 109 n5, not_equal key 112 n6) refl

pub is_name : (v : FillingParts) (key : ℕ) → key ≡ 110 → slot v key ≡ v.name
unfolding slot
is_name v key e = let P : ℕ → Type 0 = λ k. slot v k ≡ v.name in let at : P 110 = refl in subst P (sym e) at

pub is_guard : (v : FillingParts) (key : ℕ) → key ≡ 103 → slot v key ≡ v.guard
unfolding slot
is_guard v key e = let P : ℕ → Type 0 = λ k. slot v k ≡ v.guard in let at : P 103 = refl in subst P (sym e) at

pub is_format : (v : FillingParts) (key : ℕ) → key ≡ 102 → slot v key ≡ format_text v.format
unfolding slot
is_format v key e = let P : ℕ → Type 0 = λ k. slot v k ≡ format_text v.format in let at : P 102 = refl in subst P (sym e) at

pub is_c_sign : (v : FillingParts) (key : ℕ) → key ≡ 117 → slot v key ≡ c_sign v.format.signed
unfolding slot
is_c_sign v key e = let P : ℕ → Type 0 = λ k. slot v k ≡ c_sign v.format.signed in let at : P 117 = refl in subst P (sym e) at

pub is_rust_sign : (v : FillingParts) (key : ℕ) → key ≡ 114 → slot v key ≡ rust_sign v.format.signed
unfolding slot
is_rust_sign v key e = let P : ℕ → Type 0 = λ k. slot v k ≡ rust_sign v.format.signed in let at : P 114 = refl in subst P (sym e) at

pub is_vhdl_sign : (v : FillingParts) (key : ℕ) → key ≡ 113 → slot v key ≡ vhdl_sign v.format.signed
unfolding slot
is_vhdl_sign v key e = let P : ℕ → Type 0 = λ k. slot v k ≡ vhdl_sign v.format.signed in let at : P 113 = refl in subst P (sym e) at

pub is_separator : (v : FillingParts) (key : ℕ) → key ≡ 44 → slot v key ≡ separator v.index
unfolding slot
is_separator v key e = let P : ℕ → Type 0 = λ k. slot v k ≡ separator v.index in let at : P 44 = refl in subst P (sym e) at

pub is_label : (v : FillingParts) (key : ℕ) → key ≡ 107 → slot v key ≡ label_text v.label
unfolding slot
is_label v key e = let P : ℕ → Type 0 = λ k. slot v k ≡ label_text v.label in let at : P 107 = refl in subst P (sym e) at

pub is_counted : (v : FillingParts) (key : ℕ) → (key ≡ 110 → ⊥) → (key ≡ 103 → ⊥) → (key ≡ 102 → ⊥) → (key ≡ 117 → ⊥) → (key ≡ 114 → ⊥) → (key ≡ 113 → ⊥) → (key ≡ 44 → ⊥) → (key ≡ 107 → ⊥) → slot v key ≡ count_slot v key
unfolding slot
is_counted v key n0 n1 n2 n3 n4 n5 n6 n7 = rw (not_equal key 110 n0, not_equal key 103 n1, not_equal key 102 n2, not_equal key 117 n3, not_equal key 114 n4, not_equal key 113 n5, not_equal key 44 n6, not_equal key 107 n7) refl
