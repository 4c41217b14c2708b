use Rattle.std.proofs.Common.{◌-◌, ℕ, Bor, List, [], drop, get_or, length, map, refl, sym, take}
use Rattle.std.proofs.lemmas.Bool.{false≢true}
use Rattle.fixed_fields.specs.Fields.{fields_of}
use Rattle.fixed.proofs.FieldLemmas.{begun_bad, begun_full, begun_more, most, rest_is}
use Rattle.fixed.proofs.commands.fields.fields_named.Goals as goal

abbrev any : Bor (List ℕ)
any = record { ref_ptr = (0, 0); now = [] }

abbrev texts : List (Bor (List ℕ)) → List (List ℕ)
texts words = map (λ s. s.now) words

abbrev first_of : List (Bor (List ℕ)) → List ℕ
first_of words = (get_or words 0 any).now

abbrev rest_of : List (Bor (List ℕ)) → List (List ℕ)
rest_of words = map (λ s. s.now) (take (length words - 1) (drop 1 words))

pub returns-in-Err-clause-refused : goal.returns-in-Err-clause-refused
returns-in-Err-clause-refused c = λ list names.
    begun_bad (texts c.args.words.now) (texts c.words.rest.now) (first_of c.words.rest.now) (rest_of c.words.rest.now) (fields_of c.words.list) (fields_of list) c.words.invariant
    (rest_is c.words.rest.now any (sym c.words-test.ensures)) c.in-Err.ensures.refused names

pub returns-then-not-push-clause-refused : goal.returns-then-not-push-clause-refused
returns-then-not-push-clause-refused c = λ list names.
    begun_full (texts c.args.words.now) (texts c.words.rest.now) (first_of c.words.rest.now) (rest_of c.words.rest.now) (fields_of c.words.list) (fields_of list) c.words.invariant
    (rest_is c.words.rest.now any (sym c.words-test.ensures)) (c.if-not-push.ensures.full false≢true).1 (most list) names

pub words-preserved : goal.words-preserved
words-preserved c =
    begun_more (texts c.args.words.now) (texts c.words.rest.now) (first_of c.words.rest.now) (rest_of c.words.rest.now) (fields_of c.words.list) (fields_of c.push.new.self) c.in-Ok.field
    c.words.invariant (rest_is c.words.rest.now any (sym c.words-test.ensures)) c.in-Ok.ensures.value (c.if-not-push.ensures.pushed refl)
