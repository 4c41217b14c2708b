-- The command that arguments request.
use Rattle.std.proofs.Common.{◌≡◌, ℕ, List, [], ◌∷◌, sym, ◌∙◌, ap, arith}
use Rattle.std.specs.Prelude.{codes, String}
use Rattle.std.specs.String.{string_bytes}
use Rattle.std.specs.declared.alloc.Global.{Global}
use Rattle.std.proofs.lemmas.Fmt.{decimal_injective}
use Rattle.fixed_respell.specs.Command.{IsCommand, IsNumbered}
use Rattle.fixed_respell.specs.declared.command.Command.{Command}
use Rattle.fixed_respell.specs.declared.command.Command.TheVariants.{Read, SelfTest}

differ : codes "limit" ≡ codes "self" → ⊥
differ e = cc

numbered_one : (name number : List ℕ) (c d : Command) → IsNumbered name number c → IsNumbered name number d → c ≡ d
numbered_one name number (Read m) (Read n) a b = ap Read (decimal_injective m n (omega (arith, a.3)) (omega (arith, b.3)) (sym a.1 ∙ b.1))
numbered_one name number (SelfTest m) (SelfTest n) a b = ap SelfTest (decimal_injective m n (omega (arith, a.3)) (omega (arith, b.3)) (sym a.1 ∙ b.1))
numbered_one name number (Read m) (SelfTest n) a b = absurd (differ (sym a.0 ∙ b.0))
numbered_one name number (SelfTest m) (Read n) a b = absurd (differ (sym b.0 ∙ a.0))

-- arguments request at most one command
pub command_one : (args : List (String Global)) (c d : Command) → IsCommand args c → IsCommand args d → c ≡ d
command_one [] c d a b = a ∙ sym b
command_one (name ∷ []) c d a b = absurd a
command_one (name ∷ number ∷ []) c d a b = numbered_one (string_bytes name) (string_bytes number) c d a b
command_one (name ∷ number ∷ more ∷ others) c d a b = absurd a

pub limit_one : (args : List (String Global)) (m n : ℕ) → IsCommand args (Read m) → IsCommand args (Read n) → m ≡ n
limit_one args m n a b = let e : Read m ≡ Read n = command_one args (Read m) (Read n) a b in cc

pub count_is_one : (args : List (String Global)) (m n : ℕ) → IsCommand args (SelfTest m) → IsCommand args (SelfTest n) → m ≡ n
count_is_one args m n a b = let e : SelfTest m ≡ SelfTest n = command_one args (SelfTest m) (SelfTest n) a b in cc

pub not_both : (args : List (String Global)) (m n : ℕ) → IsCommand args (Read m) → IsCommand args (SelfTest n) → ⊥
not_both args m n a b = let e : Read m ≡ SelfTest n = command_one args (Read m) (SelfTest n) a b in cc
