use Rattle.std.proofs.Common.{◌≡◌, ℕ, zero, suc, ◌^◌, ◌≤◌, List, [], ◌∷◌, get_or, refl, arith}
use Rattle.fixed_write.proofs.digits.power_of_ten.Goals as goal

abbrev powers : List ℕ
powers = 1 ∷ 10 ∷ 100 ∷ 1000 ∷ 10000 ∷ 100000 ∷ 1000000 ∷ 10000000 ∷ 100000000 ∷ 1000000000 ∷ 10000000000 ∷ 100000000000 ∷ 1000000000000 ∷ 10000000000000 ∷ 100000000000000 ∷ 1000000000000000 ∷ 10000000000000000 ∷ 100000000000000000 ∷ 1000000000000000000 ∷ 10000000000000000000 ∷ []

power_at : (k : ℕ) → k ≤ 19 → get_or powers k 0 ≡ 10 ^ k
power_at zero l = refl
power_at (suc zero) l = refl
power_at (suc (suc zero)) l = refl
power_at (suc (suc (suc zero))) l = refl
power_at (suc (suc (suc (suc zero)))) l = refl
power_at (suc (suc (suc (suc (suc zero))))) l = refl
power_at (suc (suc (suc (suc (suc (suc zero)))))) l = refl
power_at (suc (suc (suc (suc (suc (suc (suc zero))))))) l = refl
power_at (suc (suc (suc (suc (suc (suc (suc (suc zero)))))))) l = refl
power_at (suc (suc (suc (suc (suc (suc (suc (suc (suc zero))))))))) l = refl
power_at (suc (suc (suc (suc (suc (suc (suc (suc (suc (suc zero)))))))))) l = refl
power_at (suc (suc (suc (suc (suc (suc (suc (suc (suc (suc (suc zero))))))))))) l = refl
power_at (suc (suc (suc (suc (suc (suc (suc (suc (suc (suc (suc (suc zero)))))))))))) l = refl
power_at (suc (suc (suc (suc (suc (suc (suc (suc (suc (suc (suc (suc (suc zero))))))))))))) l = refl
power_at (suc (suc (suc (suc (suc (suc (suc (suc (suc (suc (suc (suc (suc (suc zero)))))))))))))) l = refl
power_at (suc (suc (suc (suc (suc (suc (suc (suc (suc (suc (suc (suc (suc (suc (suc zero))))))))))))))) l = refl
power_at (suc (suc (suc (suc (suc (suc (suc (suc (suc (suc (suc (suc (suc (suc (suc (suc zero)))))))))))))))) l = refl
power_at (suc (suc (suc (suc (suc (suc (suc (suc (suc (suc (suc (suc (suc (suc (suc (suc (suc zero))))))))))))))))) l = refl
power_at (suc (suc (suc (suc (suc (suc (suc (suc (suc (suc (suc (suc (suc (suc (suc (suc (suc (suc zero)))))))))))))))))) l = refl
power_at (suc (suc (suc (suc (suc (suc (suc (suc (suc (suc (suc (suc (suc (suc (suc (suc (suc (suc (suc zero))))))))))))))))))) l = refl
power_at (suc (suc (suc (suc (suc (suc (suc (suc (suc (suc (suc (suc (suc (suc (suc (suc (suc (suc (suc (suc k)))))))))))))))))))) l = absurd (omega arith)

pub returns : goal.returns
returns c = power_at c.args.exponent c.requires
