use Rattle.std.proofs.Common.{◌≡◌, length, sym, ◌∙◌, ap, arith, drop, ◌≤◌, refl, true, false, add-one, drop-cons, get_or, ◌<◌, ◌+◌, List, ℕ}
use Rattle.std.proofs.lemmas.List.{drop_all}
use Rattle.csv.specs.Writing.{default_writer, needs_byte, needs_quotes}
use Rattle.column_engine.proofs.field.has_special.Goals as goal

here : (d : ℕ) (text : List ℕ) (k : ℕ) → k < length text → needs_byte (record default_writer { delimiter = d }) (get_or text k 0) ≡ true
    → needs_quotes (record default_writer { delimiter = d }) (drop k text) ≡ true
here d text k low is = ap (needs_quotes (record default_writer { delimiter = d })) (drop-cons text k 0 low) ∙ rw is refl

later : (d : ℕ) (text : List ℕ) (k : ℕ) → k < length text → needs_byte (record default_writer { delimiter = d }) (get_or text k 0) ≡ false
    → needs_quotes (record default_writer { delimiter = d }) (drop k text) ≡ needs_quotes (record default_writer { delimiter = d }) (drop (k + 1) text)
later d text k low is = rw add-one (ap (needs_quotes (record default_writer { delimiter = d })) (drop-cons text k 0 low) ∙ rw is refl)

pub returns-then-is_special : goal.returns-then-is_special
returns-then-is_special c = sym (c.bytes.invariant ∙ here c.args.delimiter c.args.text.now c.bytes.at (omega arith) (sym c.is_special.ensures ∙ c.if-is_special.true))

pub bytes-preserved : goal.bytes-preserved
bytes-preserved c = c.bytes.invariant ∙ later c.args.delimiter c.args.text.now c.bytes.at (omega arith) (sym c.is_special.ensures ∙ c.if-is_special.false)

pub returns : goal.returns
returns c =
    let high : length c.args.text.now ≤ c.bytes.at = omega arith in
    sym (c.bytes.invariant ∙ ap (needs_quotes (record default_writer { delimiter = c.args.delimiter })) (drop_all c.bytes.at c.args.text.now high))
