-- Bytes written by two copies that overlap.
use Rattle.std.proofs.Common.{◌++◌, ◌∙◌, ◌+◌, ◌-◌, ◌*◌, ◌≡◌, ◌≤◌, List, ℕ, ap, drop, length, take, sym}
use Rattle.std.proofs.Common.{arith, length-append, take-append-drop}
use Rattle.std.proofs.Math.Seq.{take-append-add}
use Rattle.std.proofs.lemmas.List.{append_assoc, length-drop, length-take-le, take-take}
use Rattle.std.proofs.lemmas.Slice.{take-put_mid}
use borrow.Rule.Slice.PartMut.{put_mid}

-- the first and the last N of n bytes, written after the first p bytes, are all n bytes
pub both_ends : (p N n j k : ℕ) (old s : List ℕ) → p + n ≤ length old → n ≡ length s → N ≤ n → n ≤ 2 * N
    → take (p + n) (put_mid (p + n - N) k (put_mid p j old (take N s)) (drop (n - N) s)) ≡ take p old ++ s
both_ends p N n j k old s room long least most =
    let first = put_mid p j old (take N s) in
    let rest : ℕ = n - N in
    let few : length (take N s) ≡ N = length-take-le N s (omega (arith, long)) in
    let many : length (drop rest s) ≡ N = length-drop rest s ∙ omega (arith, long, least) in
    let prefix : take (p + N) first ≡ take p old ++ take N s = take-put_mid p j old (take N s) (p + N) (omega (arith, few)) (omega (arith, room)) in
    let front : length (take p old) ≡ p = length-take-le p old (omega (arith, room)) in
    let kept : take (p + rest) first ≡ take p old ++ take rest s =
    sym (take-take (p + rest) (p + N) first (omega (arith, least, most))) ∙ ap (take (p + rest)) prefix
    ∙ ap (λ m. take (m + rest) (take p old ++ take N s)) (sym front)
    ∙ take-append-add (take p old) (take N s) rest
    ∙ ap (λ t. take p old ++ t) (take-take rest N s (omega (arith, least, most))) in
    let after = drop j (drop p old) in
    let within : p + rest ≤ length first = omega (arith, length-append (take p old) (take N s ++ after), length-append (take N s) after, front, few, least, most) in
    let begin : p + n - N ≡ p + rest = omega (arith, least) in
    ap (λ m. take (p + n) (put_mid m k first (drop rest s))) begin
    ∙ take-put_mid (p + rest) k first (drop rest s) (p + n) (omega (arith, many, least)) within
    ∙ ap (λ t. t ++ drop rest s) kept ∙ append_assoc (take p old) (take rest s) (drop rest s)
    ∙ ap (λ t. take p old ++ t) (take-append-drop rest s)
