-- The first lines of a text, passed over byte by byte.
use Rattle.std.proofs.Common.{◌≡◌, ◌∙◌, ◌==◌, ◌+◌, ◌-◌, ◌<◌, ◌≤◌, ℕ, List, [], ◌∷◌, ◌++◌, Bool, true, false, length, length-append, get_or, if◌then◌else◌, refl, sym, ap, subst, arith, inl, inr, append-nil}
use Rattle.std.proofs.KnownBytes.{Consumes-trans}
use Rattle.std.specs.Prelude.{Option}
use Rattle.std.specs.Io.KnownBytes.{Appends, Consumes}
use Rattle.std.proofs.lemmas.Bool.{eqb-true}
use Rattle.line_engine.specs.Inner.Progress.{Flushes}
use Rattle.line_engine.specs.Output.{AppendsPrefix}
use Rattle.column_engine.specs.Passing.{IsPassing}
use Rattle.column_engine.specs.Skip.{AreWhole, HasRunAfter, StopsLines, newlines}
use Rattle.column_engine.specs.Answers.{State}
use Rattle.column_engine.specs.Steps.{SameCounts}
use Rattle.column_engine.specs.declared.columns.Column.{Column}
use Rattle.column_engine.specs.declared.columns.Keeping.{Keeping}
use Rattle.column_engine.specs.declared.end.Stop.{Stop}
use Rattle.line_engine.specs.AnswerText.{AnswerText}
use Rattle.column_engine.proofs.RunLemmas.{run_counts}
use Rattle.column_engine.specs.declared.end.Stop.TheVariants.{WriteFault}
use Rattle.column_engine.proofs.GatherLemmas.{all_flushes, flushes_all, flushes_both, flushes_prefix, prefix_flushes}

-- 1 for a newline, 0 for any other byte
abbrev newline_of : ℕ → ℕ
newline_of byte = if byte == 10 then 1 else 0

newlines_more : (bytes : List ℕ) (byte : ℕ) → newlines (bytes ++ byte ∷ []) ≡ newlines bytes + (if byte == 10 then 1 else 0)
newlines_more [] byte = omega arith
newlines_more (b ∷ bytes) byte = omega (arith, newlines_more bytes byte)

-- the last byte of a list that ends with this byte
last_is : (bytes : List ℕ) (byte : ℕ) → get_or (bytes ++ byte ∷ []) (length (bytes ++ byte ∷ []) - 1) 0 ≡ byte
last_is bytes byte =
    let place : length (bytes ++ byte ∷ []) - 1 ≡ length bytes = omega (arith, length-append bytes (byte ∷ [])) in
    ap (λ k. get_or (bytes ++ byte ∷ []) k 0) place ∙ middle bytes byte
  where
    middle : (xs : List ℕ) (b : ℕ) → get_or (xs ++ b ∷ []) (length xs) 0 ≡ b
    middle [] b = refl
    middle (x ∷ xs) b = middle xs b

-- a write failed; these bytes were taken
pub stops_write : (count : ℕ) (bytes left-over : List ℕ) (left left' a c : Option (List ℕ)) → Consumes left left' bytes → newlines bytes ≤ count
    → Flushes [] bytes left-over a c → StopsLines WriteFault count left left' a c
stops_write count bytes left-over left left' a c taken few gathered = record {
  bytes = bytes;
  taken = taken;
  few = few;
  shown = bytes;
  why = refl;
  output = prefix_flushes bytes left-over a c gathered;
}

newlines_both : (xs ys : List ℕ) → newlines (xs ++ ys) ≡ newlines xs + newlines ys
newlines_both [] ys = omega arith
newlines_both (x ∷ xs) ys = omega (arith, newlines_both xs ys)

-- a byte that is not a newline leaves the gathered bytes without a newline
pub still_plain : (held held' : List ℕ) (byte : ℕ) (a b : Option (List ℕ)) → (byte == 10) ≡ false → Flushes held (byte ∷ []) held' a b
    → newlines held ≡ 0 → newlines held' ≡ 0
still_plain held held' byte a b other gathered plain =
    let none : newline_of byte ≡ 0 = rw other refl in
    let one = newlines_more held byte in
    let both = newlines_both gathered.gone held' in
    let same : newlines (held ++ byte ∷ []) ≡ newlines (gathered.gone ++ held') = ap newlines gathered.split in
    omega (arith, none, one, both, same, plain)

-- writing one more byte failed: the bytes taken include it
pub broken : (count lines byte : ℕ) (held held' : List ℕ) (left left' left'' a b c : Option (List ℕ))
    → 0 < lines → IsPassing count lines held left left' a b → Consumes left' left'' (byte ∷ [])
    → Flushes held (byte ∷ []) held' b c → StopsLines WriteFault count left left'' a c
broken count lines byte held held' left left' left'' a b c some so_far taken gathered =
    stops_write count (so_far.bytes ++ byte ∷ []) held' left left'' a c (Consumes-trans left left' left'' so_far.bytes (byte ∷ []) so_far.taken taken)
    (at_most byte (newlines_more so_far.bytes byte) so_far.as_many)
    (flushes_both [] so_far.bytes (byte ∷ []) held held' a b c so_far.gathered gathered)
  where
    bit : (e : Bool) → (if e then 1 else 0) ≤ 1
    bit true = omega arith
    bit false = omega arith

    at_most : (b : ℕ) → newlines (so_far.bytes ++ byte ∷ []) ≡ newlines so_far.bytes + (if byte == 10 then 1 else 0) → newlines so_far.bytes + lines ≡ count
        → newlines (so_far.bytes ++ byte ∷ []) ≤ count
    at_most b one as_many = omega (arith, one, as_many, some, bit (byte == 10))

-- writing the gathered bytes failed, with no new byte
pub unflushed : (count lines : ℕ) (held : List ℕ) (left left' left'' a b c : Option (List ℕ)) → IsPassing count lines held left left' a b
    → Consumes left' left'' [] → AppendsPrefix b c held → StopsLines WriteFault count left left'' a c
unflushed count lines held left left' left'' a b c so_far taken part =
    let rest = flushes_prefix held b c part in
    stops_write count (so_far.bytes ++ []) rest.0 left left'' a c (Consumes-trans left left' left'' so_far.bytes [] so_far.taken taken)
    (rw append-nil (omega (arith, so_far.as_many)))
    (flushes_both [] so_far.bytes [] held rest.0 a b c so_far.gathered rest.1)

-- a newline lowers the count of lines left by one, and another byte keeps it
pub counts_more : (count lines : ℕ) (bytes : List ℕ) (byte : ℕ) (ends : Bool) → (byte == 10) ≡ ends → 0 < lines → newlines bytes + lines ≡ count
    → newlines (bytes ++ byte ∷ []) + (if ends then lines - 1 else lines) ≡ count
counts_more count lines bytes byte true is some as_many = let more = newlines_more bytes byte in let one : newlines (bytes ++ byte ∷ []) ≡ newlines bytes + 1 = more ∙ ap (λ e. newlines bytes + (if e then 1 else 0)) is in omega (arith, one, some, as_many)
counts_more count lines bytes byte false is some as_many = let more = newlines_more bytes byte in let none : newlines (bytes ++ byte ∷ []) ≡ newlines bytes + 0 = more ∙ ap (λ e. newlines bytes + (if e then 1 else 0)) is in omega (arith, none, as_many)

pub whole_more : (lines : ℕ) (bytes : List ℕ) (byte : ℕ) (ends : Bool) → (byte == 10) ≡ ends → 0 < lines
    → (if ends then lines - 1 else lines) ≡ 0 → AreWhole (bytes ++ byte ∷ [])
whole_more lines bytes byte true is some none = inr (last_is bytes byte ∙ eqb-true byte 10 is)
whole_more lines bytes byte false is some none = absurd (omega (arith, some, none))

unfoldable pub passing_more : (count lines after byte : ℕ) (held held' : List ℕ) (left left' left'' a b c : Option (List ℕ))
    → 0 < lines → after ≡ (if byte == 10 then lines - 1 else lines) → IsPassing count lines held left left' a b
    → Consumes left' left'' (byte ∷ []) → Flushes held (byte ∷ []) held' b c → (newlines held ≡ 0 → newlines held' ≡ 0)
    → IsPassing count after held' left left'' a c
passing_more count lines after byte held held' left left' left'' a b c some is before taken gathered plain = record {
  bytes = before.bytes ++ byte ∷ [];
  taken = Consumes-trans left left' left'' before.bytes (byte ∷ []) before.taken taken;
  gathered = flushes_both [] before.bytes (byte ∷ []) held held' a b c before.gathered gathered;
  plain = plain before.plain;
  as_many = rw is (counts_more count lines before.bytes byte (byte == 10) refl some before.as_many);
  whole = λ none. whole_more lines before.bytes byte (byte == 10) refl some (sym is ∙ none);
}

-- all gathered bytes were written
shown : (bytes held : List ℕ) (a b c : Option (List ℕ)) → Flushes [] bytes held a b → Appends b c held → Appends a c bytes
shown bytes held a b c gathered wrote =
    subst (λ l. Appends a c l) (append-nil bytes)
    (all_flushes (bytes ++ []) a c (flushes_both [] bytes [] held [] a b c gathered (flushes_all held b c wrote)))

same_counts : (s t u : State) → SameCounts s t → SameCounts t u → SameCounts s u
same_counts s t u first next = record {
  answered = next.answered ∙ first.answered;
  refused = next.refused ∙ first.refused;
  first = next.first ∙ first.first;
}

pub after_counts : (count : ℕ) (stop : Stop) (A : List ℕ → AnswerText → Type 0) (keeps : Keeping) (d : ℕ) (columns : List Column) (s u v : State) (left left' a b : Option (List ℕ))
    → SameCounts u v → HasRunAfter count stop A keeps d columns s u left left' a b → HasRunAfter count stop A keeps d columns s v left left' a b
after_counts count stop A keeps d columns s u v left left' a b counts (inl x) = inl (x.0, same_counts s u v x.1 counts)
after_counts count stop A keeps d columns s u v left left' a b counts (inr x) =
    inr (x.0, x.1, x.2, run_counts A keeps d columns stop s u v x.0 left' x.1 b counts x.3)
