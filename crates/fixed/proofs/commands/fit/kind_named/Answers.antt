use Rattle.std.proofs.Common.{◌∙◌, arith, sym}
use Rattle.std.proofs.lemmas.Fmt.{decimal_injective}
use Rattle.fixed.proofs.commands.fit.kind_named.Goals as goal
use Rattle.fixed.proofs.commands.fit.kind_named.Goals.{in_default-via-in-Some+else-width-gt0, in_default-via-in_default}

pub returns-in_default : goal.returns-in_default
returns-in_default c kind k =
    let bounds = k.valid.is_width in
    elim c.in_default.branch [
      | in_default-via-in-Some+else-width-gt0 w ↦ omega (
        arith,
        decimal_injective w.in-Some.width kind.width
            (omega arith) (omega arith) (sym w.in-Some.ensures.number ∙ c.as_bytes.ensures.value ∙ k.text),
      )
      | in_default-via-in_default w ↦ w.in_default.ensures.number kind.width (omega arith) (c.as_bytes.ensures.value ∙ k.text)
    ]
