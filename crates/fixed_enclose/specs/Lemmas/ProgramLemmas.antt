-- An argument is a usage fault.
use Rattle.std.specs.Prelude.{String}
use Rattle.std.proofs.Common.{[], ◌∷◌}
use Rattle.std.specs.declared.alloc.Global.{Global}
use Rattle.fixed_enclose.specs.ProgramRun.{IsUsageFault}

pub one_argument : (word : String Global) → IsUsageFault (word ∷ [])
one_argument word none = cc
