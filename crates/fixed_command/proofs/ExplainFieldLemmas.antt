-- The explanation of a refused field: the bytes of its numeral, and a place in the field.
use Rattle.std.proofs.Common.{◌≡◌, ◌∙◌, ◌==◌, ◌+◌, ◌<◌, ◌≤◌, ◌++◌, ℕ, suc, zero, Bool, true, false, List, [], ◌∷◌, append-nil, arith, ap, drop, get_or, if◌then◌else◌, length, length-append, refl, sym, take}
use Rattle.std.specs.List.{flat_map, list_any}
use Rattle.std.proofs.lemmas.List.{take-append-le, take_all}
use Rattle.fixed_command.specs.Explained.{place_of}
use Rattle.fixed_command.specs.Fields.{read_for, swapped}
use Rattle.fixed_command.proofs.FieldLemmas.{read_more}

-- ---- the first `n` bytes of the numeral
take_again : (n : ℕ) (xs ys : List ℕ) → take n (take n xs ++ ys) ≡ take n (xs ++ ys)
take_again zero xs ys = refl
take_again (suc n) [] ys = refl
take_again (suc n) (x ∷ xs) ys = ap (λ (l : List ℕ). x ∷ l) (take_again n xs ys)

pub looked_more : (n : ℕ) (thousands : List ℕ) (decimal : ℕ) (bytes : List ℕ) (k : ℕ) (numeral more : List ℕ) → k < length bytes
    → numeral ≡ take n (flat_map (read_for thousands decimal) (take k bytes)) → more ≡ take n (numeral ++ read_for thousands decimal (get_or bytes k 0))
    → more ≡ take n (flat_map (read_for thousands decimal) (take (k + 1) bytes))
looked_more n thousands decimal bytes k numeral more low e f =
    let r : List ℕ = read_for thousands decimal (get_or bytes k 0) in
    let front : List ℕ = flat_map (read_for thousands decimal) (take k bytes) in
    f ∙ (ap (λ (l : List ℕ). take n (l ++ r)) e ∙ (take_again n front r ∙ ap (take n) (sym (read_more thousands decimal bytes k low))))

-- a separator adds no byte, a numeral of `n` bytes is full, and another byte is added
pub looked_none : (n : ℕ) (numeral thousands : List ℕ) (decimal byte : ℕ) → length numeral ≤ n → list_any (λ b. b == byte) thousands ≡ true
    → numeral ≡ take n (numeral ++ read_for thousands decimal byte)
looked_none n numeral thousands decimal byte fits e =
    sym (ap (λ (is : Bool). take n (numeral ++ (if is then [] else swapped decimal byte ∷ []))) e ∙ (ap (take n) (append-nil numeral) ∙ take_all n numeral fits))

pub looked_full : (n : ℕ) (numeral more : List ℕ) → length numeral ≡ n → numeral ≡ take n (numeral ++ more)
looked_full n numeral more e = sym (take-append-le n numeral more (omega (arith, e)) ∙ take_all n numeral (omega (arith, e)))

pub looked_some : (n : ℕ) (numeral more thousands : List ℕ) (decimal byte : ℕ) → length numeral < n → list_any (λ b. b == byte) thousands ≡ false
    → more ≡ numeral ++ swapped decimal byte ∷ [] → more ≡ take n (numeral ++ read_for thousands decimal byte)
looked_some n numeral more thousands decimal byte room e f =
    let one : List ℕ = swapped decimal byte ∷ [] in
    f ∙ sym (ap (λ (is : Bool). take n (numeral ++ (if is then [] else one))) e ∙ take_all n (numeral ++ one) (omega (arith, length-append numeral one, room)))

-- ---- the place in the field
none_left : (thousands bytes : List ℕ) → place_of thousands bytes 0 ≡ 0
none_left thousands [] = refl
none_left thousands (byte ∷ bytes) = refl

pub place_here : (thousands bytes : List ℕ) (at left number : ℕ) → left ≡ 0 → place_of thousands bytes number ≡ at + place_of thousands (drop at bytes) left
    → at ≡ place_of thousands bytes number
place_here thousands bytes at left number e x =
    let end : place_of thousands (drop at bytes) left ≡ 0 = ap (place_of thousands (drop at bytes)) e ∙ none_left thousands (drop at bytes) in
    omega (arith, x, end)
