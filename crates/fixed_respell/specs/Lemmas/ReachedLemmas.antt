-- At most one pair of bits and a flag is reached.
use Rattle.std.proofs.Common.{◌≡◌, ℕ, List, sym, ◌∙◌}
use Rattle.std.proofs.Common.{⊎_elim, ℤ, inl, inr}
use Rattle.std.proofs.lemmas.Bool.Decides.{same_from_decides}
use Rattle.fixed_bits.specs.Down.{IsDown}
use Rattle.fixed_bits.specs.Images.{IsImage}
use Rattle.fixed_bits.specs.declared.format.Policy.TheVariants.{Checked}
use Rattle.fixed_bits.proofs.Public.{image_one, has_none, down_one}
use Rattle.fixed_numeral.specs.Numeral.{Parts, HasNumeral}
use Rattle.fixed_numeral.specs.declared.radix.Radix.{Radix}
use Rattle.fixed_numeral.proofs.Public.{one_cause, parts_unique}
use Rattle.fixed_read.proofs.Public.{read_unique}
use Rattle.fixed_respell.specs.Laws.{ReachedIsTheOne, OverflowedHasNone, RespelledIsTheOne, RefusalHasNone}
use Rattle.fixed_respell.specs.Laws.{RefusalIsTheOne}

down_same : (b : ℤ) (f g : ℕ) (d e : ℤ) → IsDown b f g d → IsDown b f g e → d ≡ e
down_same b f g d e x y = (down_one b f g d).0 x ∙ sym ((down_one b f g e).0 y)

pub reached_one : ReachedIsTheOne
reached_one mode r p policy source target b c o u f g x y =
    let e = read_unique mode r p source.frac x.number y.number x.read y.read in
    let i = image_one policy source.signed source.width y.number x.in_source y.in_source f.is_width
    (rw e at x.source_image) y.source_image in
    let d = down_same y.in_source source.frac target.frac x.moved y.moved (rw i at x.down) y.down in
    let j = image_one policy target.signed target.width y.moved b c g.is_width
    (rw d at x.target_image) y.target_image in
    (j, same_from_decides o u (rw (e, d) at x.flag) y.flag)

pub overflowed_none : OverflowedHasNone
overflowed_none mode r p policy source target b o n x =
    let e = read_unique mode r p source.frac x.number n.number x.read n.read in
    let s : IsImage Checked source.signed source.width n.number x.in_source = rw (e, n.checked) at x.source_image in
    let t : IsImage Checked target.signed target.width x.moved b = rw n.checked at x.target_image in
    let d = down_same n.number source.frac target.frac x.moved n.moved (rw s.same at x.down) n.down in
    ⊎_elim
    (λ out. has_none source.signed source.width n.number x.in_source out s)
    (λ out. has_none target.signed target.width n.moved b out (rw d at t))
    n.out

-- ---- bytes have one list of parts
parts_one : (r : Radix) (bytes : List ℕ) (p q : Parts) → HasNumeral r bytes p → HasNumeral r bytes q → p ≡ q
parts_one r bytes p q a b = parts_unique r bytes p q a.beginning b.beginning

pub respelled_one : RespelledIsTheOne
respelled_one mode r bytes policy source target b c o u f g x y =
    let p = parts_one r bytes x.parts y.parts x.numeral y.numeral in
    reached_one mode r y.parts policy source target b c o u f g (rw p at x.reached) y.reached

pub refusal_none : RefusalHasNone
refusal_none mode r bytes policy source target kind b o (inl h) x = h.none (x.parts, x.numeral)
refusal_none mode r bytes policy source target kind b o (inr h) x =
    let p = parts_one r bytes x.parts h.1.parts x.numeral h.1.numeral in
    overflowed_none mode r h.1.parts policy source target b o h.1.overflowed (rw p at x.reached)

pub refusal_one : RefusalIsTheOne
refusal_one mode r bytes policy source target k l (inl a) (inl b) = one_cause r bytes k l a b
refusal_one mode r bytes policy source target k l (inl a) (inr b) = absurd (a.none (b.1.parts, b.1.numeral))
refusal_one mode r bytes policy source target k l (inr a) (inl b) = absurd (b.none (a.1.parts, a.1.numeral))
refusal_one mode r bytes policy source target k l (inr a) (inr b) = a.0 ∙ sym b.0
