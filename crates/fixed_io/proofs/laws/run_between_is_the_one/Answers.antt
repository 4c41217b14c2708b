use Rattle.fixed_io.proofs.LawLemmas.{between_one}
use Rattle.fixed_io.proofs.laws.run_between_is_the_one.Goals as goal

pub returns : goal.returns
returns g c = λ args. between_one (g.P.Program.Runs c.args._program.now args)
