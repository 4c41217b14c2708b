use Rattle.std.proofs.Common.{◌≡◌, ◌∙◌, ◌++◌, ◌∷◌, ℕ, List, [], append_assoc, append-nil, ap, refl, subst, sym, suc, zero, length, arith}
use Rattle.std.proofs.lemmas.Grind.{common_steps}
use Rattle.line_rejects.proofs.PutLemmas.{puts_both, puts_none}
use Rattle.line_rejects.proofs.ShownLemmas.{shows_more, shows_none}
use Rattle.line_rejects.specs.Rejects.{Puts, sight_of}
use Rattle.line_rejects.specs.Shown.{IsShown, IsFirstShown}
use Rattle.line_rejects.proofs.rejects.Rejects.append_field.Goals as goal

-- a shown beginning and one character more
more_shown : (text prefix rest after piece : List ℕ) → ((more : List ℕ) → IsShown rest more → IsShown text (prefix ++ more)) → IsFirstShown rest piece after → (rest ≡ [] → ⊥)
    → (more : List ℕ) → IsShown after more → IsShown text ((prefix ++ piece) ++ more)
more_shown text prefix rest after piece shows first some more is =
    subst (λ l. IsShown text l) (sym (append_assoc prefix piece more)) (shows (piece ++ more) (suc is.0, shows_more is.0 rest piece after more first is.1 some))

-- nothing is left
all_shown : (text prefix rest : List ℕ) → ((more : List ℕ) → IsShown rest more → IsShown text (prefix ++ more)) → rest ≡ [] → IsShown text prefix
all_shown text prefix rest shows none =
    subst (λ l. IsShown text l) (append-nil prefix) (shows [] (subst (λ l. IsShown l []) (sym none) (zero, shows_none)))

pub loop-rest-init : goal.loop-rest-init
loop-rest-init g c = record {
  name = refl;
  prefix = [];
  shows = λ more is. is;
  puts = puts_none _;
}

pub loop-rest-preserved : goal.loop-rest-preserved
loop-rest-preserved g c =
    let inv = c.loop-rest.invariant in
    let piece = c.first_shown-shown.result.0 in
    record {
      name = c.append.ensures.name ∙ inv.name;
      prefix = inv.prefix ++ piece;
      shows = more_shown c.args.text.now inv.prefix c.loop-rest.rest.now c.first_shown-shown.result.1.now piece inv.shows c.first_shown-shown.ensures (grind (arith, common_steps, c.is_empty.ensures, c.loop-rest-test.true));
      puts = puts_both _ _ _ inv.prefix piece inv.puts (rw c.as_bytes.ensures.value at c.append.ensures.puts);
    }

pub returns-clause-puts : goal.returns-clause-puts
returns-clause-puts g c =
    let inv = c.loop-rest.invariant in (
      inv.prefix,
      all_shown c.args.text.now inv.prefix c.loop-rest.rest.now inv.shows (grind (arith, common_steps, c.is_empty.ensures, c.loop-rest-test.false)),
      puts_both _ _ _ inv.prefix _ inv.puts c.append-2.ensures.puts,
    )
