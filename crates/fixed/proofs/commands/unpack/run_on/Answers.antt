use Rattle.std.proofs.Common.{◌∙◌, ℕ, List, Option, ap, subst}
use Rattle.std.specs.Prelude.{◌*◌, ◌-◌, ◌^◌, drop, min, option_map}
use Rattle.command_line.specs.Device.{written_to}
use Rattle.fixed.specs.RecodeRuns.{UnpacksBy}
use Rattle.fixed.proofs.UnpackLemmas.{requested_is}
use Rattle.fixed.proofs.commands.unpack.run_on.Goals as goal

pub returns : goal.returns
returns g c =
    let u = c.args.unpacking.now in
    let written = written_to g.S.Write.contents g.F.Write.contents in (
      c.words_on-status.result,
      c.end_excerpt.ensures,
      subst (λ (held : Option (List ℕ)). UnpacksBy u.written c.args.limit.now c.words_on-status.result held (written c.args.output.now) (written c.words_on-status.new.output))
          (requested_is u _ _ (g.R.Read.remaining c.args.reader)
          (c.take-words.ensures.limit ∙ c.most_bytes.ensures ∙ ap (λ n. min (u.excerpt.count * n) (2 ^ 64 - 1)) c.size.ensures)
          (rw c.take-words.ensures.inner (c.new-skipped.ensures ∙ ap (option_map (drop u.excerpt.skip)) c.new-headed.ensures)))
          c.words_on-status.ensures,
    )
