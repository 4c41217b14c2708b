use Rattle.std.proofs.Common.{◌≡◌, ◌∙◌, ◌==◌, ℕ, ℤ, FitsSigned, get_or, rules, refl, sym, ap, subst}
use Rattle.std.specs.Int.{w128}
use Rattle.std.proofs.lemmas.Int.{to_z-of_z}
use Rattle.std.proofs.lemmas.List.{take_rest}
use Rattle.fixed_bits.specs.Numbers.{with_sign}
use Rattle.fixed_bits.specs.Ranges.{IsInRange, IsOutOfRange, IsWide}
use Rattle.fixed_show.specs.Inner.Words.{IsCutOff}
use Rattle.fixed_show.specs.WordText.{has_minus, without_sign}
use Rattle.fixed_show.proofs.WordLemmas.{minus_is, outside_is, sign_rest, signed_is}
use Rattle.fixed_show.proofs.words.read_signed.Goals as goal

pub returns-then-contains-clause-word : goal.returns-then-contains-clause-word
returns-then-contains-clause-word c =
    let f = c.args.format in
    let text = c.args.text.now in
    let size : ℕ = c.in_ok-size.size in
    let v : ℤ = c.signed-number.result in
    let fit : FitsSigned w128 v = search rules in
    let cut : IsCutOff c.args.bare (without_sign text) size = subst (λ t. IsCutOff c.args.bare t size) (take_rest text 1 ∙ sym (sign_rest text c.requires)) c.in_ok-size.ensures in
    let signed : v ≡ with_sign (get_or text 0 0 == 45) size = c.signed-number.ensures in
    let value : v ≡ with_sign (has_minus text) size = signed ∙ ap (λ b. with_sign b size) (minus_is text c.requires) in
    let range : IsInRange f.signed f.width v = rw (to_z-of_z w128 v fit) at (c.if-contains.ensures.inside.0 refl) in
    let wide : IsWide v = rw (to_z-of_z w128 v fit) at (c.if-contains.ensures.wide refl) in
    rw (to_z-of_z w128 v fit) (signed_is c.args.bare f text size v c.requires cut value range wide)

pub returns-else-contains-clause-word : goal.returns-else-contains-clause-word
returns-else-contains-clause-word c =
    let f = c.args.format in
    let text = c.args.text.now in
    let size : ℕ = c.in_ok-size.size in
    let v : ℤ = c.signed-number.result in
    let fit : FitsSigned w128 v = search rules in
    let cut : IsCutOff c.args.bare (without_sign text) size = subst (λ t. IsCutOff c.args.bare t size) (take_rest text 1 ∙ sym (sign_rest text c.requires)) c.in_ok-size.ensures in
    let signed : v ≡ with_sign (get_or text 0 0 == 45) size = c.signed-number.ensures in
    let value : v ≡ with_sign (has_minus text) size = signed ∙ ap (λ b. with_sign b size) (minus_is text c.requires) in
    let out : IsOutOfRange f.signed f.width v = rw (to_z-of_z w128 v fit) at (c.if-contains.ensures.outside.0 refl) in
    outside_is c.args.bare f text size v c.words_of-words.ensures.width c.requires cut value out
