-- The end of a call.
use Rattle.std.specs.Prelude.{◌≡◌, ◌⊎◌, ℕ, Result, MatchResult}
use Rattle.fixed_numeral.specs.declared.error.ParseErrorKind.{ParseErrorKind}
use Rattle.fixed_c.specs.Codes.{refusal_code}
use Rattle.fixed_c.specs.declared.refusal.Refusal.{Refusal}
use Rattle.fixed_c.specs.declared.refusal.Refusal.TheVariants.{Numeral}

-- an answer is what C has afterwards, with code 0; for a refusal, C has what it had, and the code is that of the
-- refusal
abbrev pub HandsOver : {T : Type 0} → Result T Refusal → T → T → ℕ → Type 0
HandsOver answer old new code = MatchResult answer (λ given. (code ≡ 0) × (new ≡ given))
    (λ refusal. (code ≡ refusal_code refusal) × (new ≡ old))

-- the code is 0 and what C has afterwards is right, or the code is that of a refusal with its cause and C has what it
-- had
abbrev pub EndsWith : {T : Type 0} → (T → Type 0) → (Refusal → Type 0) → T → T → ℕ → Type 0
EndsWith Right Refused old new code = ((code ≡ 0) × Right new)
    ⊎ ((refusal : Refusal) × (code ≡ refusal_code refusal) × Refused refusal × (new ≡ old))

-- ---- the refusals of a call, in the order in which it checks what it is given
-- the refusal is `bad` if `Holds` is false, and one of the others if it is true
abbrev pub Unless : Type 0 → Refusal → (Refusal → Type 0) → Refusal → Type 0
Unless Holds bad Others refusal = ((¬ Holds) × (refusal ≡ bad)) ⊎ (Holds × Others refusal)

-- the numeral is refused for a kind with this reason
abbrev pub ForKind : (ParseErrorKind → Type 0) → Refusal → Type 0
ForKind Why refusal = (kind : ParseErrorKind) × (refusal ≡ Numeral kind) × Why kind

-- there is no other refusal
abbrev pub Never : Refusal → Type 0
Never refusal = ⊥
