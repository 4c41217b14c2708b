use Rattle.std.proofs.Common.{◌≡◌, ◌++◌, ◌-◌, List, ℕ, length, take, drop, arith, sym, ap, ◌∙◌, append_assoc}
use Rattle.std.proofs.KnownBytes.{Appends-trans}
use Rattle.std.proofs.lemmas.Grind.{common_steps}
use Rattle.std.proofs.lemmas.List.{take_rest, take-append-drop}
use Rattle.line_engine.proofs.writing.write_whole.Goals as goal

-- the prefix grows by the bytes taken
moves : (piece prefix rest : List ℕ) (count : ℕ) → piece ≡ prefix ++ rest → piece ≡ (prefix ++ take count rest) ++ take (length rest - count) (drop count rest)
moves piece prefix rest count split =
    split ∙ ap (λ l. prefix ++ l) (sym (take-append-drop count rest)) ∙ sym (append_assoc prefix (take count rest) (drop count rest))
    ∙ ap (λ l. (prefix ++ take count rest) ++ l) (sym (take_rest rest count))

pub loop-rest-preserved : goal.loop-rest-preserved
loop-rest-preserved g c =
    let inv = c.loop-rest.invariant in
    let count = c.in_ok-count.count in
    let rest = c.loop-rest.rest.now in
    record {
      same = grind (arith, common_steps, c.in_ok-count.ensures.failures);
      prefix = inv.prefix ++ take count rest;
      split = moves c.args.piece.now inv.prefix rest count inv.split;
      appends = Appends-trans (g.K.Sink.written c.args.sink.now) (g.K.Sink.written c.loop-rest.sink) (g.K.Sink.written c.write.new.self) inv.prefix (take count rest) inv.appends c.in_ok-count.ensures.bytes;
    }
