use Rattle.std.proofs.Common.{rules, ◌≡◌, ◌∙◌, ◌<◌, ◌^◌, ℕ, List, get_or, subst}
use Rattle.std.specs.Int.{from_be_bytes, from_le_bytes, w16}
use Rattle.fixed_pack.proofs.WordLemmas.{two_big, two_little}
use Rattle.fixed_pack.proofs.word.number_of_two.Goals as goal

pub returns-in-Little-clause-value : goal.returns-in-Little-clause-value
returns-in-Little-clause-value c =
    let small : (i : ℕ) → get_or c.args.bytes.now i 0 < 256 = search rules in
    let fits : c.from_le_bytes.result < 2 ^ 16 = search rules in
    let is = subst (λ (l : List ℕ). c.from_le_bytes.result ≡ from_le_bytes w16 l) c.copy_from_slice.ensures.after c.from_le_bytes.ensures in
    rw c.in-Little.is (c.from.ensures ∙ two_little c.args.bytes.now c.from_le_bytes.result small c.requires fits is)

pub returns-in-Big-clause-value : goal.returns-in-Big-clause-value
returns-in-Big-clause-value c =
    let small : (i : ℕ) → get_or c.args.bytes.now i 0 < 256 = search rules in
    let fits : c.from_be_bytes.result < 2 ^ 16 = search rules in
    let is = subst (λ (l : List ℕ). c.from_be_bytes.result ≡ from_be_bytes w16 l) c.copy_from_slice.ensures.after c.from_be_bytes.ensures in
    rw c.in-Big.is (c.from-in-Big.ensures ∙ two_big c.args.bytes.now c.from_be_bytes.result small c.requires fits is)
