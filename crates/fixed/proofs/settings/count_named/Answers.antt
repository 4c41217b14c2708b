use Rattle.std.proofs.Common.{◌≡◌, ◌≢◌, ◌⊎◌, ℕ, ◌<◌, List, length, get_or, sym, subst, arith, inl, inr, refl}
use Rattle.fixed.proofs.CountLemmas.{IsReadable, read_is, readable}
use Rattle.fixed.proofs.settings.count_named.Goals as goal

pub returns-in-Ok : goal.returns-in-Ok
returns-in-Ok c =
    let P : List ℕ → Type 0 = λ w. (get_or w 0 0 ≢ 43) × (get_or w 0 0 ≡ 48 → length w ≡ 1) in
    let plain : P c.args.word.now = subst P c.as_bytes.ensures.value (c.if-is_plain.ensures.yes refl) in
    read_is c.args.word.now c.in-Ok.count plain.0 plain.1 c.in-Ok.ensures.value.0.0.0 c.in-Ok.ensures.value.0.0.1
    c.in-Ok.ensures.value.0.1

pub returns-in_default : goal.returns-in_default
returns-in_default c n small e =
    let r : IsReadable c.args.word.now = subst IsReadable (sym e) (readable n small) in
    let P : List ℕ → Type 0 = λ w. (get_or w 0 0 ≡ 43) ⊎ ((get_or w 0 0 ≡ 48) × (1 < length w)) in
    let bad : P c.args.word.now = subst P c.as_bytes.ensures.value (c.if-is_plain.ensures.no refl) in
    elim bad [ inl plus ↦ r.no_sign plus | inr zero ↦ omega (arith, r.lead zero.0, zero.1) ]

pub returns-in_default-2 : goal.returns-in_default-2
returns-in_default-2 c n small e =
    let r : IsReadable c.args.word.now = subst IsReadable (sym e) (readable n small) in
    c.in_default.ensures.value.0 (r.numeral, r.small)
