-- Every text is shown, and every refused line has a line of rejects.
use Rattle.std.proofs.Common.{◌≡◌, ◌⊎◌, ◌+◌, ◌-◌, ◌<◌, ◌≤◌, ℕ, zero, suc, List, [], ◌∷◌, ◌++◌, Bool, true, false, true≢false, Option, None, Some, refl, sym, subst, ◌∙◌, inl, inr, take, drop, length, max, arith}
use Rattle.std.proofs.lemmas.Bool.{cases_lt}
use Rattle.std.proofs.lemmas.List.{length-drop}
use Rattle.std.proofs.lemmas.Str.{IsUtf8-from_is_utf8, is_utf8-from_IsUtf8}
use Rattle.std.specs.Prelude.{IsUtf8, decimal}
use Rattle.std.specs.Str.{is_utf8}
use Rattle.line_rejects.specs.Rejects.{IsNameField, IsRejectLine, place_field}
use Rattle.line_rejects.specs.Shown.{IsCharacter, IsFirstShown, IsShown, IsWidth, ShownWithin, lead_width, shown}

width_if : (bytes : List ℕ) → ◌⊎◌ (0 < lead_width bytes) (lead_width bytes ≤ 0) → ◌⊎◌ (length bytes < lead_width bytes) (lead_width bytes ≤ length bytes)
    → (valid : Bool) → is_utf8 (take (lead_width bytes) bytes) ≡ valid → (width : ℕ) × IsWidth bytes width
width_if bytes (inr none) short valid is = (0, inr (refl, λ (p : IsCharacter bytes (lead_width bytes)). absurd (omega (arith, none, p.some))))
width_if bytes (inl some) (inl short) valid is = (0, inr (refl, λ (p : IsCharacter bytes (lead_width bytes)). absurd (omega (arith, short, p.within))))
width_if bytes (inl some) (inr within) true is =
    (lead_width bytes, inl (record { some = some; width_is = refl; within = within; valid = IsUtf8-from_is_utf8 (take (lead_width bytes) bytes) is }))
width_if bytes (inl some) (inr within) false is =
    (0, inr (refl, λ (p : IsCharacter bytes (lead_width bytes)). absurd (true≢false (sym (is_utf8-from_IsUtf8 (take (lead_width bytes) bytes) p.valid) ∙ is))))

width_exists : (bytes : List ℕ) → (width : ℕ) × IsWidth bytes width
width_exists bytes = width_if bytes (cases_lt 0 (lead_width bytes)) (cases_lt (length bytes) (lead_width bytes)) (is_utf8 (take (lead_width bytes) bytes)) refl

first_exists : (bytes : List ℕ) → (text rest : List ℕ) × IsFirstShown bytes text rest
first_exists bytes =
    let found = width_exists bytes in
    (shown found.0 (take (max found.0 1) bytes), drop (max found.0 1) bytes, record { width = found.0; is = found.1; text_is = refl; rest_is = refl })

shown_within : (most : ℕ) (bytes : List ℕ) → length bytes ≤ most → (text : List ℕ) × ShownWithin most bytes text
unfolding ShownWithin
shown_within most [] fits = ([], refl)
shown_within zero (byte ∷ bytes) fits = absurd (omega (arith, fits))
shown_within (suc most) (byte ∷ bytes) fits =
    let first = first_exists (byte ∷ bytes) in
    let is = first.2 in
    let fewer : length first.1 ≤ most = rw is.rest_is (omega (arith, fits, length-drop (max is.width 1) (byte ∷ bytes))) in
    let more = shown_within most first.1 fewer in
    (first.0 ++ more.0, (first.0, first.1, more.0, is, more.1, refl))

pub shown_exists : (bytes : List ℕ) → (text : List ℕ) × IsShown bytes text
shown_exists bytes = let found = shown_within (length bytes) bytes (omega arith) in (found.0, (length bytes, found.1))

name_exists : (name : Option (List ℕ)) → (field : List ℕ) × IsNameField name field
name_exists None = ([], refl)
name_exists (Some name) = let found = shown_exists name in (found.0 ++ 9 ∷ [], (found.0, found.1, refl))

pub line_exists : (name : Option (List ℕ)) (number : ℕ) (place : Option ℕ) (text cause : List ℕ) → (line : List ℕ) × IsRejectLine name number place text cause line
line_exists name number place text cause =
    let first = name_exists name in
    let shows = shown_exists text in
    let told = shown_exists cause in (
      first.0 ++ (decimal number ++ 9 ∷ []) ++ place_field place ++ (shows.0 ++ 9 ∷ []) ++ (told.0 ++ 10 ∷ []),
      record {
        first = first.0;
        shown = shows.0;
        told = told.0;
        is_name = first.1;
        is_text = shows.1;
        is_cause = told.1;
        line_is = refl;
      },
    )
