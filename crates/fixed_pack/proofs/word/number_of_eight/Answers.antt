use Rattle.std.proofs.Common.{rules, ◌≡◌, ◌<◌, ◌^◌, ℕ, List, get_or, subst}
use Rattle.std.specs.Int.{from_be_bytes, from_le_bytes, w64}
use Rattle.fixed_pack.proofs.WordLemmas.{eight_big, eight_little}
use Rattle.fixed_pack.proofs.word.number_of_eight.Goals as goal

pub returns-in-Little : goal.returns-in-Little
returns-in-Little c =
    let small : (i : ℕ) → get_or c.args.bytes.now i 0 < 256 = search rules in
    let fits : c.from_le_bytes.result < 2 ^ 64 = search rules in
    let is = subst (λ (l : List ℕ). c.from_le_bytes.result ≡ from_le_bytes w64 l) c.copy_from_slice.ensures.after c.from_le_bytes.ensures in
    rw c.in-Little.is (eight_little c.args.bytes.now c.from_le_bytes.result small c.requires fits is)

pub returns-in-Big : goal.returns-in-Big
returns-in-Big c =
    let small : (i : ℕ) → get_or c.args.bytes.now i 0 < 256 = search rules in
    let fits : c.from_be_bytes.result < 2 ^ 64 = search rules in
    let is = subst (λ (l : List ℕ). c.from_be_bytes.result ≡ from_be_bytes w64 l) c.copy_from_slice.ensures.after c.from_be_bytes.ensures in
    rw c.in-Big.is (eight_big c.args.bytes.now c.from_be_bytes.result small c.requires fits is)
