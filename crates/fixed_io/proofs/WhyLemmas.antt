-- The kind of an error gives just one reason for missing arguments.
use Rattle.std.proofs.Common.{refl}
use Rattle.line_engine.specs.declared.program.NoArgs.TheVariants.{NoMemory, NotText}
use Rattle.fixed_io.specs.Laws.{WhyIsTheOne}

pub why_one : WhyIsTheOne
why_one kind NoMemory NoMemory x y = refl
why_one kind NoMemory NotText x y = absurd (y x)
why_one kind NotText NoMemory x y = absurd (x y)
why_one kind NotText NotText x y = refl
