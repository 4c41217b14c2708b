-- What the arguments request.
use Rattle.std.proofs.Common.{◌≡◌, ℕ, List, [], ◌∷◌, sym, ◌∙◌, arith}
use Rattle.std.specs.Prelude.{String}
use Rattle.std.specs.String.{string_bytes}
use Rattle.std.specs.declared.alloc.Global.{Global}
use Rattle.std.proofs.lemmas.Fmt.{decimal_injective}
use Rattle.fixed_columns.specs.Program.{AsksWithin, NamesLimit}

named_one : (name number : List ℕ) (m n : ℕ) → NamesLimit name number m → NamesLimit name number n → m ≡ n
named_one name number m n a b = let p = a.most in let q = b.most in decimal_injective m n (omega (arith, p)) (omega (arith, q)) (sym a.numbered ∙ b.numbered)

-- arguments request at most one limit
pub limit_one : (args : List (String Global)) (m n : ℕ) → AsksWithin args m → AsksWithin args n → m ≡ n
limit_one [] m n a b = a ∙ sym b
limit_one (name ∷ []) m n a b = absurd a
limit_one (name ∷ number ∷ []) m n a b = named_one (string_bytes name) (string_bytes number) m n a b
limit_one (name ∷ number ∷ more ∷ others) m n a b = absurd a
