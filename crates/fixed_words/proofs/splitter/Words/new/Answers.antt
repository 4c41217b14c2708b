use Rattle.std.proofs.Common.{◌∙◌, [], None, ap, refl, sym}
use Rattle.fixed_command.specs.declared.outcome.Tally.{Tally}
use Rattle.fixed_words.specs.Told.{Told, TellsWords, spot_after}
use Rattle.fixed_words.proofs.WordLemmas.{nothing_kept}
use Rattle.fixed_words.proofs.splitter.Words.new.Goals as goal

pub returns-clause-nothing : goal.returns-clause-nothing
returns-clause-nothing c = λ name rejects.
    let told : Tally → Told = λ t. record { refused = 0; first = None; tally = t; errors = c.args.errors; name = name; rejects = rejects } in
    ap told c.new.ensures

pub returns-clause-goes : goal.returns-clause-goes
unfolding spot_after TellsWords
returns-clause-goes c = λ s name rejects. record {
  words = [];
  are = tt;
  rest = [];
  unbroken = tt;
  kept = c.requires ∙ sym nothing_kept;
  cut = refl;
  text_is = refl;
  faulty = refl;
  tells = refl;
  spot = refl;
  start = refl;
}
