use Rattle.std.proofs.Common.{◌≡◌, ◌-◌, ◌+◌, ◌^◌, ◌%◌, Bool, List, ℕ, take, drop, length, get_or, replicate, map, nat_lt, cond, arith, ap, ◌∙◌}
use Rattle.std.proofs.lemmas.List.{length-take, length-drop, length-map}
use Rattle.std.proofs.lemmas.Simd.{bitmask_splat, tops_compared, zip2_splat_left, mask_l-mod, get_or-chunk}
use Rattle.std.specs.Simd.Lanes.{mask_l, zip2, top}
use mir.Syntax.{w8}
use Rattle.fixed_numeral.proofs.MarkLemmas.{marked_lanes}
use Rattle.fixed_numeral.proofs.ending.marks_outside.Goals as goal

pub returns : goal.returns
returns c = λ k l z.
    let bs : List ℕ = c.args.text.now in
    let from : ℕ = length bs - 16 in
    let xs : List ℕ = take 16 (drop from bs) in
    let long : length xs ≡ 16 = omega (arith, length-take 16 (drop from bs), length-drop from bs, c.requires) in
    let below : mask_l (map (top 7) (zip2 (λ a b. cond (nat_lt a b) (2 ^ 8 - 1) 0) xs (replicate 16 c.args.least))) % 2 ^ 64 ≡ mask_l (map (λ x. nat_lt x c.args.least) xs) = bitmask_splat w8 (λ a b. nat_lt a b) xs 16 c.args.least long (omega arith) in
    let marks : map (top 7) (zip2 (λ a b. cond (nat_lt a b) (2 ^ 8 - 1) 0) (replicate 16 c.args.most) xs) ≡ map (λ y. nat_lt c.args.most y) xs = tops_compared w8 (λ a b. nat_lt a b) (replicate 16 c.args.most) xs ∙ zip2_splat_left (λ a b. nat_lt a b) c.args.most 16 xs long in
    let small : mask_l (map (λ y. nat_lt c.args.most y) xs) % 2 ^ 64 ≡ mask_l (map (λ y. nat_lt c.args.most y) xs) = mask_l-mod (map (λ y. nat_lt c.args.most y) xs) 64 (omega (arith, length-map xs (λ (y : ℕ). nat_lt c.args.most y), long)) in
    let above : mask_l (map (top 7) (zip2 (λ a b. cond (nat_lt a b) (2 ^ 8 - 1) 0) (replicate 16 c.args.most) xs)) % 2 ^ 64 ≡ mask_l (map (λ x. nat_lt c.args.most x) xs) = ap (λ (m : List Bool). mask_l m % 2 ^ 64) marks ∙ small in
    let within = marked_lanes xs c.args.least c.args.most _ _ k below above (omega (arith, long, l)) z in
    let there : get_or xs k 0 ≡ get_or bs (from + k) 0 = get_or-chunk from 16 bs k 0 l in
    (omega (arith, there, within.0), omega (arith, there, within.1))
