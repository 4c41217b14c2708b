-- Lines as pieces that end with a newline.
use Rattle.std.proofs.Common.{◌≡◌, ℕ, suc, ◌<◌, Bool, true, false, eqb, List, [], ◌∷◌, length, take, get_or, refl, arith}
use Rattle.std.proofs.lemmas.List.{get_or-take, length-take}
use Rattle.memchr.specs.Find.{NoneBefore, Nowhere, Passes, is_byte}
use Rattle.line_engine.specs.Lines.{ended_lines}
use Rattle.run_engine.specs.Pieces.{HasNone, is_newline}
use Rattle.line_engine.proofs.Public.{ended_lines-quiet_cons}

-- no line ends in bytes without a newline
pub quiet_of : (xs : List ℕ) → HasNone is_newline xs → ended_lines xs ≡ []
quiet_of [] none = refl
quiet_of (b ∷ bs) none = ended_lines-quiet_cons b bs none.0 (quiet_of bs none.1)

none_without : (xs : List ℕ) → ((k : ℕ) → k < length xs → eqb (get_or xs k 0) 10 ≡ true → ⊥) → HasNone is_newline xs
none_without [] never = tt
none_without (b ∷ bs) never = (not_newline (eqb b 10) refl (never 0 (omega arith)), none_without bs (λ k h. never (suc k) (omega arith)))
  where
    not_newline : (t : Bool) → eqb b 10 ≡ t → (eqb b 10 ≡ true → ⊥) → eqb b 10 ≡ false
    not_newline true is never = absurd (never is)
    not_newline false is never = is

pub none_before : (bytes : List ℕ) (end : ℕ) → NoneBefore (Passes (is_byte 10) bytes) 0 (length bytes) end → HasNone is_newline (take end bytes)
none_before bytes end first = none_without (take end bytes) (λ k below is. first.before k (omega arith) (omega (arith, below, length-take end bytes)) (place k below is))
  where
    place : (k : ℕ) → k < length (take end bytes) → eqb (get_or (take end bytes) k 0) 10 ≡ true → eqb (get_or bytes k 0) 10 ≡ true
    place k below is =
        let less : k < end = omega (arith, below, length-take end bytes) in
        let same : get_or (take end bytes) k 0 ≡ get_or bytes k 0 = get_or-take end bytes k 0 less in
        rw same at is

pub nowhere_none : (bytes : List ℕ) → Nowhere (Passes (is_byte 10) bytes) 0 (length bytes) → HasNone is_newline bytes
nowhere_none bytes none = none_without bytes (λ k below is. none k (omega arith) below is)
