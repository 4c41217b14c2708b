-- An empty argument is a usage fault.
use Rattle.std.specs.Prelude.{String}
use Rattle.std.proofs.Common.{◌≡◌, [], ◌∷◌}
use Rattle.std.specs.String.{string_bytes}
use Rattle.std.specs.declared.alloc.Global.{Global}
use Rattle.fixed_columns.specs.Program.{IsUsageFault}

pub empty_argument : (word : String Global) → string_bytes word ≡ [] → IsUsageFault (word ∷ [])
empty_argument word empty limit none = none
