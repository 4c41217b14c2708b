-- The arguments of the program.
use Rattle.std.specs.Prelude.{◌≡◌, ℕ, ◌≤◌, String, List, [], ◌∷◌, codes, decimal}
use Rattle.std.specs.String.{string_bytes}
use Rattle.std.specs.declared.alloc.Global.{Global}
use Rattle.fixed_respell.specs.declared.command.Command.{Command}
use Rattle.fixed_respell.specs.declared.command.Command.TheVariants.{Read, SelfTest}

-- the greatest limit in bytes, and the limit if no argument names one
abbrev pub max_limit : ℕ
max_limit = 4294967296

-- the greatest number of lines that the self test generates
abbrev pub max_self_lines : ℕ
max_self_lines = 1000000

-- a name and a decimal number request this command
abbrev pub IsNumbered : List ℕ → List ℕ → Command → Type 0
IsNumbered name number (Read limit) = (name ≡ codes "limit") × (number ≡ decimal limit) × (1 ≤ limit)
    × (limit ≤ max_limit)
IsNumbered name number (SelfTest count) = (name ≡ codes "self") × (number ≡ decimal count) × (1 ≤ count)
    × (count ≤ max_self_lines)

-- the arguments request this command
abbrev pub IsCommand : List (String Global) → Command → Type 0
IsCommand [] command = command ≡ Read max_limit
IsCommand (name ∷ []) command = ⊥
IsCommand (name ∷ number ∷ []) command = IsNumbered (string_bytes name) (string_bytes number) command
IsCommand (name ∷ number ∷ more ∷ others) command = ⊥

-- the arguments are not a command
abbrev pub IsUsageFault : List (String Global) → Type 0
IsUsageFault args = (command : Command) → ¬ IsCommand args command

-- the text that is written for such arguments
abbrev pub usage_line : List ℕ
usage_line = codes "usage: fixed_tool [limit N | self N]\n"
