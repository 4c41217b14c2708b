use Rattle.std.proofs.Common.{◌≡◌, ◌^◌, ◌-◌, ◌%◌, Bool, List, ℕ, take, drop, length, replicate, map, nat_lt, cond, arith, ap, sym, ◌∙◌}
use Rattle.std.proofs.lemmas.List.{length-take, length-drop, length-map}
use Rattle.std.proofs.lemmas.Simd.{bitmask_splat, tops_compared, zip2_splat_left, mask_l-mod}
use Rattle.std.specs.Simd.Lanes.{mask_l, zip2, top}
use mir.Syntax.{w8}
use Rattle.fixed_numeral.proofs.DecimalLemmas.{unmarked_digits}
use Rattle.fixed_numeral.proofs.scanner.are_sixteen_decimal.Goals as goal

pub returns : goal.returns
returns c = λ h.
    let xs : List ℕ = take 16 (drop c.args.at c.args.bytes.now) in
    let long : length xs ≡ 16 = omega (arith, length-take 16 (drop c.args.at c.args.bytes.now), length-drop c.args.at c.args.bytes.now, c.requires) in
    let below : mask_l (map (top 7) (zip2 (λ a b. cond (nat_lt a b) (2 ^ 8 - 1) 0) xs (replicate 16 48))) % 2 ^ 64 ≡ 0 = c.if-below-ne0.false in
    let above : mask_l (map (top 7) (zip2 (λ a b. cond (nat_lt a b) (2 ^ 8 - 1) 0) (replicate 16 57) xs)) % 2 ^ 64 ≡ 0 = c.if-above-ne0.false in
    let marks : map (top 7) (zip2 (λ a b. cond (nat_lt a b) (2 ^ 8 - 1) 0) (replicate 16 57) xs) ≡ map (λ y. nat_lt 57 y) xs = tops_compared w8 (λ a b. nat_lt a b) (replicate 16 57) xs ∙ zip2_splat_left (λ a b. nat_lt a b) 57 16 xs long in
    let small : mask_l (map (λ y. nat_lt 57 y) xs) % 2 ^ 64 ≡ mask_l (map (λ y. nat_lt 57 y) xs) = mask_l-mod (map (λ y. nat_lt 57 y) xs) 64 (omega (arith, length-map xs (λ (y : ℕ). nat_lt 57 y), long)) in
    unmarked_digits xs (sym (bitmask_splat w8 (λ a b. nat_lt a b) xs 16 48 long (omega arith)) ∙ below) (sym small ∙ ap (λ (m : List Bool). mask_l m % 2 ^ 64) (sym marks) ∙ above)
