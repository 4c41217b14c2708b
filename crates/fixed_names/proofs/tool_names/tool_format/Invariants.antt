use Rattle.std.proofs.Common.{ℕ, ◌<◌, get_or}
use Rattle.fixed_bits.specs.Formats.{FormatParts}
use Rattle.fixed_names.specs.Inner.ToolParts.{IsNamedIn}
use Rattle.fixed_names.specs.declared.tool_names.ToolForm.TheVariants.{Hls}
use Rattle.fixed_names.proofs.tool_names.tool_format.Given as goal

abbrev pub invariant-loop-form : goal.invariant-loop-form
invariant-loop-form l = (k : ℕ) → k < l.form-index → (f : FormatParts) → IsNamedIn (get_or l.form-items k Hls) f.signed l.word f → ⊥
