use Rattle.std.proofs.Common.{◌≡◌, ◌≤◌, length, arith, ap, ◌∙◌, Result, Ok, Err, IsOk, OnOk}
use Rattle.std.specs.Fmt.{decimal}
use Rattle.std.proofs.lemmas.Fmt.{length-decimal-le}
use Rattle.fixed_respell.proofs.words.push_count.Goals as goal

-- a fact about an `Ok` holds if the result is `Ok`
on_ok : {T E : Type 0} (r : Result T E) (P : Type 0) → IsOk r → OnOk r P → P
on_ok (Ok x) P is holds = holds
on_ok (Err e) P is holds = let no : ⊥ = cc in absurd no

pub unwrap-requires : goal.unwrap-requires
unwrap-requires c =
    let short : length (decimal c.args.count) ≤ 2 = length-decimal-le 2 c.args.count (omega arith) (omega arith) (omega arith) in
    let e : length c.as_bytes.result.now ≡ length (decimal c.args.count) = ap length (c.as_bytes.ensures.value ∙ c.format.ensures.text) in
    c.try_extend_from_slice.ensures.variant.1 (omega arith)

pub returns-clause-short : goal.returns-clause-short
returns-clause-short c =
    let short : length (decimal c.args.count) ≤ 2 = length-decimal-le 2 c.args.count (omega arith) (omega arith) (omega arith) in
    let e : length c.as_bytes.result.now ≡ length (decimal c.args.count) = ap length (c.as_bytes.ensures.value ∙ c.format.ensures.text) in
    let ok : IsOk c.try_extend_from_slice.result = c.try_extend_from_slice.ensures.variant.1 (omega arith) in
    omega (arith, on_ok c.try_extend_from_slice.result _ ok c.try_extend_from_slice.ensures.len)
