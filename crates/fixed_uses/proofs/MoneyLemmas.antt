-- A text in the style of a column is one of its cells.
use Rattle.std.proofs.Common.{◌≡◌, ℕ, zero, suc, ℤ, ◌+◌, ◌-◌, Bool, true, false, List, [], ◌∷◌, ◌++◌, length, replicate, Ok, Err, refl, sym, ap, subst, ◌∙◌, arith, length-append}
use Rattle.std.specs.Prelude.{Result, Some, IfOk}
use Rattle.std.specs.Char.{encode_utf8}
use Rattle.std.specs.Fmt.{sign_text}
use Rattle.std.specs.Int.{is_negative}
use Rattle.std.specs.List.{repeat}
use Rattle.std.proofs.lemmas.List.{append-nil}
use Rattle.std.proofs.lemmas.Str.{encode_ascii}
use Rattle.fixed_write.specs.Styled.{IsStyledText, padded_text, plain_style, sign_and_prefix}
use Rattle.fixed_write.specs.Texts.{decimal_text, point_text}
use Rattle.fixed_write.specs.declared.style.Align.TheVariants.{Right}
use Rattle.fixed_write.specs.declared.style.Notation.TheVariants.{Dec}
use Rattle.fixed_write.specs.declared.style.Style.{Style}
use Rattle.fixed_uses.specs.Money.{IsAmountCell}

abbrev pub column_style : Style
column_style = record { notation = Dec; precision = Some 2; width = 12; fill = 32; align = Right; plus = false; prefix = false; zero_pad = false }

spaces : (n : ℕ) → repeat {A = ℕ} n (32 ∷ []) ≡ replicate n 32
spaces zero = refl
spaces (suc n) = ap (λ xs. 32 ∷ xs) (spaces n)

sign_is : (negative : Bool) → sign_and_prefix column_style negative ≡ sign_text negative
sign_is true = refl
sign_is false = refl

nothing_after : (n : ℕ) → repeat {A = ℕ} (n - n) (32 ∷ []) ≡ []
nothing_after n = let e : n - n ≡ 0 = omega arith in ap (λ k. repeat {A = ℕ} k (32 ∷ [])) e

padded_is : (prefix body : List ℕ) → padded_text column_style prefix body ≡ replicate (12 - length (prefix ++ body)) 32 ++ (prefix ++ body)
unfolding padded_text
padded_is prefix body =
    let n : ℕ = 12 - (length prefix + length body) in
    let shown : List ℕ = prefix ++ body in
    let fill : encode_utf8 32 ≡ 32 ∷ [] = encode_ascii 32 (omega arith) in
    ap (λ (f : List ℕ). (repeat n f ++ shown) ++ repeat (n - n) f) fill
    ∙ ap (λ (xs : List ℕ). (repeat {A = ℕ} n (32 ∷ []) ++ shown) ++ xs) (nothing_after n)
    ∙ append-nil (repeat {A = ℕ} n (32 ∷ []) ++ shown)
    ∙ ap (λ xs. xs ++ shown) (spaces n)
    ∙ ap (λ k. replicate (12 - k) 32 ++ shown) (sym (length-append prefix body))

cell_of : (amount : ℤ) (text : List ℕ) → IsStyledText column_style amount 8 text → IsAmountCell amount text
unfolding decimal_text
cell_of amount text s =
    let b = s.is_body in
    let body : s.body ≡ point_text 10 false 2 b.number = b.body_is ∙ ap (λ k. point_text 10 false k b.number) b.shown.0 in
    let shown : sign_and_prefix column_style (is_negative amount) ++ s.body ≡ decimal_text (is_negative amount) b.number 2 =
    ap (λ xs. xs ++ s.body) (sign_is (is_negative amount)) ∙ ap (λ xs. sign_text (is_negative amount) ++ xs) body in
    record {
      cents = b.number;
      near = b.shown.1.near;
      text = decimal_text (is_negative amount) b.number 2;
      text_is = refl;
      cell_is = s.text_is ∙ padded_is (sign_and_prefix column_style (is_negative amount)) s.body ∙ ap (λ xs. replicate (12 - length xs) 32 ++ xs) shown;
    }

-- a plain style with two places and a width of 12
abbrev pub column : Style → Style
column p = record { notation = p.notation; precision = Some 2; width = 12; fill = p.fill; align = p.align; plus = p.plus; prefix = p.prefix; zero_pad = p.zero_pad }

pub cell : {E : Type 0} (amount : ℤ) (p : Style) → p ≡ plain_style Dec → (r : Result (List ℕ) E) → IfOk r (IsStyledText (column p) amount 8) → IfOk r (IsAmountCell amount)
cell amount p e (Ok text) s = cell_of amount text (subst (λ (q : Style). IsStyledText (column q) amount 8 text) e s)
cell amount p e (Err k) s = tt
