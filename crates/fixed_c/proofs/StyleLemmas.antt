-- A call that prints in a style has at most one end.
use Rattle.std.proofs.Common.{◌≡◌, ◌∙◌, ◌<◌, ◌^◌, ◌==◌, ℕ, ℤ, Bool, if◌then◌else◌, refl, sym, ap, subst, arith}
use Rattle.std.specs.Prelude.{Option, Some, None}
use Rattle.std.specs.Char.{IsScalar}
use Rattle.fixed_laws.specs.Styling.{StyledTextIsTheOne}
use Rattle.fixed_write.specs.Styled.{IsStyledText}
use Rattle.fixed_write.specs.declared.style.Align.{Align}
use Rattle.fixed_write.specs.declared.style.Align.TheVariants.{Left, Center, Right}
use Rattle.fixed_write.specs.declared.style.Notation.{Notation}
use Rattle.fixed_write.specs.declared.style.Notation.TheVariants.{Dec, LowerExp, UpperExp, Bin, Oct, LowerHex, UpperHex}
use Rattle.fixed_write.specs.declared.style.Style.{Style}
use Rattle.fixed_c.specs.Arguments.{NamesFormat}
use Rattle.fixed_c.specs.Laws.{StyledEndsOnce}
use Rattle.fixed_c.specs.Numbers.{AreBits}
use Rattle.fixed_c.specs.Outcome.{Never, Unless}
use Rattle.fixed_c.specs.Style.{IsPrecision, IsPrintedIn, NamesAlign, NamesNotation, NamesPrecision, NamesStyle, StyleIsRefused, StyledIsRefused, align_code, notation_code}
use Rattle.fixed_c.specs.declared.refusal.Refusal.{Refusal}
use Rattle.fixed_c.specs.declared.refusal.Refusal.TheVariants.{BadFormat, BadBits, BadPlaces, BadNotation, BadWidth, BadFill, BadAlign}
use Rattle.fixed_c.specs.declared.style.FixedStyle.{FixedStyle}
use Rattle.fixed_c.proofs.EndLemmas.{bits_one, text_one, unless_none, unless_one}

-- ---- what a code of an option means
notation_at : ℕ → Notation
notation_at n = if n == 0 then Dec else (if n == 1 then LowerExp else (if n == 2 then UpperExp else (if n == 3 then Bin else (if n == 4 then Oct else (if n == 5 then LowerHex else UpperHex)))))

notation_is : (n : Notation) → n ≡ notation_at (notation_code n)
unfolding notation_at
notation_is Dec = refl
notation_is LowerExp = refl
notation_is UpperExp = refl
notation_is Bin = refl
notation_is Oct = refl
notation_is LowerHex = refl
notation_is UpperHex = refl

align_at : ℕ → Align
align_at n = if n == 0 then Left else (if n == 1 then Center else Right)

align_is : (a : Align) → a ≡ align_at (align_code a)
unfolding align_at
align_is Left = refl
align_is Center = refl
align_is Right = refl

precision_one : (code : ℕ) (p q : Option ℕ) → IsPrecision code p → IsPrecision code q → p ≡ q
precision_one code None None e g = refl
precision_one code None (Some j) e g = absurd (omega (arith, e, g.0, g.1))
precision_one code (Some k) None e g = absurd (omega (arith, e.0, e.1, g))
precision_one code (Some k) (Some j) e g = ap (λ (n : ℕ). Some n) (sym e.0 ∙ g.0)

style_one : (given : FixedStyle) (s t : Style) → NamesStyle given s → NamesStyle given t → s ≡ t
style_one given s t h i =
    let notation : s.notation ≡ t.notation = notation_is s.notation ∙ (ap notation_at (sym h.notation_is ∙ i.notation_is) ∙ sym (notation_is t.notation)) in
    let precision : s.precision ≡ t.precision = precision_one given.precision s.precision t.precision h.precision_is i.precision_is in
    let width : s.width ≡ t.width = sym h.width_is ∙ i.width_is in
    let fill : s.fill ≡ t.fill = sym h.fill_is ∙ i.fill_is in
    let align : s.align ≡ t.align = align_is s.align ∙ (ap align_at (sym h.align_is ∙ i.align_is) ∙ sym (align_is t.align)) in
    let plus : s.plus ≡ t.plus = h.plus_is ∙ sym i.plus_is in
    let prefix : s.prefix ≡ t.prefix = h.prefix_is ∙ sym i.prefix_is in
    let zero_pad : s.zero_pad ≡ t.zero_pad = h.zero_pad_is ∙ sym i.zero_pad_is in
    let made : Notation → Option ℕ → ℕ → ℕ → Align → Bool → Bool → Bool → Style = λ n p w f a u x z. record { notation = n; precision = p; width = w; fill = f; align = a; plus = u; prefix = x; zero_pad = z } in
    ap (λ x. made x s.precision s.width s.fill s.align s.plus s.prefix s.zero_pad) notation ∙
    ap (λ x. made t.notation x s.width s.fill s.align s.plus s.prefix s.zero_pad) precision ∙
    ap (λ x. made t.notation t.precision x s.fill s.align s.plus s.prefix s.zero_pad) width ∙
    ap (λ x. made t.notation t.precision t.width x s.align s.plus s.prefix s.zero_pad) fill ∙
    ap (λ x. made t.notation t.precision t.width t.fill x s.plus s.prefix s.zero_pad) align ∙
    ap (λ x. made t.notation t.precision t.width t.fill t.align x s.prefix s.zero_pad) plus ∙
    ap (λ x. made t.notation t.precision t.width t.fill t.align t.plus x s.zero_pad) prefix ∙
    ap (λ x. made t.notation t.precision t.width t.fill t.align t.plus t.prefix x) zero_pad

-- ---- refusals
module _ (given : FixedStyle) where
  abbrev OfAlign : Refusal → Type 0
  OfAlign = Unless (NamesAlign given.align) BadAlign Never

  abbrev OfFill : Refusal → Type 0
  OfFill = Unless (IsScalar given.fill) BadFill OfAlign

  abbrev OfWidth : Refusal → Type 0
  OfWidth = Unless (given.width < 2 ^ 16) BadWidth OfFill

  abbrev OfNotation : Refusal → Type 0
  OfNotation = Unless (NamesNotation given.notation) BadNotation OfWidth

  style_none : (s : Style) (r : Refusal) → NamesStyle given s → StyleIsRefused given r → ⊥
  style_none s r h =
      unless_none (NamesPrecision given.precision) BadPlaces OfNotation r (s.precision, h.precision_is)
      (unless_none (NamesNotation given.notation) BadNotation OfWidth r (s.notation, h.notation_is)
      (unless_none (given.width < 2 ^ 16) BadWidth OfFill r h.narrow
      (unless_none (IsScalar given.fill) BadFill OfAlign r h.scalar
      (unless_none (NamesAlign given.align) BadAlign Never r (s.align, h.align_is) (λ x. x)))))

  style_refusal : (r s : Refusal) → StyleIsRefused given r → StyleIsRefused given s → r ≡ s
  style_refusal r s =
      unless_one (NamesPrecision given.precision) BadPlaces OfNotation r s
      (unless_one (NamesNotation given.notation) BadNotation OfWidth r s
      (unless_one (given.width < 2 ^ 16) BadWidth OfFill r s
      (unless_one (IsScalar given.fill) BadFill OfAlign r s
      (unless_one (NamesAlign given.align) BadAlign Never r s (λ x y. absurd x)))))

-- ---- the call
pub styled_ends_once : StyledTextIsTheOne → StyledEndsOnce
styled_ends_once one f bits given fits old a b len m n code other =
    text_one (IsPrintedIn f bits given) (StyledIsRefused f bits given) old a b len m n code other
    (λ s t p q.
    let number : IsStyledText q.style p.number f.frac t = subst (λ (x : ℤ). IsStyledText q.style x f.frac t) (bits_one f bits q.number p.number fits q.bits_are p.bits_are) q.styled in
    let style : IsStyledText p.style p.number f.frac t = subst (λ (x : Style). IsStyledText x p.number f.frac t) (style_one given q.style p.style q.style_is p.style_is) number in
    one p.style p.number f.frac s t p.styled style)
    (λ t r p.
    unless_none (NamesFormat f) BadFormat (Unless (AreBits f bits) BadBits (StyleIsRefused given)) r p.format
    (unless_none (AreBits f bits) BadBits (StyleIsRefused given) r (p.number, p.bits_are) (style_none given p.style r p.style_is)))
    (λ r s.
    unless_one (NamesFormat f) BadFormat (Unless (AreBits f bits) BadBits (StyleIsRefused given)) r s
    (unless_one (AreBits f bits) BadBits (StyleIsRefused given) r s (style_refusal given r s)))
