-- The numeral that the bytes of a field are read as, and the reply to it.
use Rattle.std.proofs.Common.{◌≡◌, ◌∙◌, ◌==◌, ◌&&◌, ◌+◌, ◌-◌, ◌<◌, ◌≤◌, ℕ, zero, suc, Option, List, [], ◌∷◌, ◌++◌, Bool, true, false, not, subst, length, map, take, take-suc, get_or, add-one, append-nil, drop, drop-cons, refl, sym, ap, arith}
use Rattle.std.specs.List.{flat_map, starts_with}
use Rattle.std.specs.Prelude.{IfSome, None, Some}
use Rattle.std.proofs.lemmas.List.{drop_all}
use Rattle.std.proofs.lemmas.Grind.{flat_map-append}
use Rattle.line_engine.specs.AnswerText.{AnswerText}
use Rattle.fixed_numeral.specs.Numeral.{base}
use Rattle.fixed_numeral.specs.declared.radix.Radix.{Radix}
use Rattle.fixed_command.specs.Fields.{IsFieldOutcome, IsFieldOutcomeBy, IsNumeralOutcome, IsReadOutcome}
use Rattle.fixed_command.specs.declared.outcome.Outcome.{Outcome}
use Rattle.fixed_command.specs.Fields.{IsFieldReply, IsPointReply, IsReadReply, after_sign, are_groups, bare, digits_of, field_numeral, has_part, is_digit, is_grouped, is_misplaced, marked, read_for, swapped}
use Rattle.fixed_command.specs.declared.convert.Settings.{Settings}
use Rattle.fixed_command.specs.declared.field.FieldForm.{FieldForm}

-- one more byte
pub read_more : (thousands : List ℕ) (decimal : ℕ) (bytes : List ℕ) (k : ℕ) → k < length bytes
    → flat_map (read_for thousands decimal) (take (k + 1) bytes) ≡ flat_map (read_for thousands decimal) (take k bytes) ++ read_for thousands decimal (get_or bytes k 0)
read_more thousands decimal bytes k low =
    let on : k + 1 ≡ suc k = omega arith in
    let f : ℕ → List ℕ = read_for thousands decimal in
    ap (λ n. flat_map f (take n bytes)) on
    ∙ (ap (flat_map f) (take-suc bytes k 0 low)
    ∙ (flat_map-append f (take k bytes) (get_or bytes k 0 ∷ []) ∙ ap (λ l. flat_map f (take k bytes) ++ l) (append-nil (f (get_or bytes k 0)))))

same_byte : (byte : ℕ) → swapped 46 byte ≡ byte
same_byte byte = grind arith

-- without separators and with a decimal point, each byte is read as itself
pub plain_read : (bytes : List ℕ) → flat_map (read_for [] 46) bytes ≡ bytes
plain_read [] = refl
plain_read (byte ∷ rest) = ap (λ b. b ∷ flat_map (read_for [] 46) rest) (same_byte byte) ∙ ap (λ l. byte ∷ l) (plain_read rest)

-- without separators and with a decimal point, the reply to a field is the reply to its bytes
no_part : (bytes : List ℕ) → has_part [] bytes ≡ false
no_part [] = refl
no_part (byte ∷ rest) = no_part rest

and_none : (a b : Bool) → ((a && false) && b) ≡ false
and_none true b = refl
and_none false b = refl

none_misplaced : (form : FieldForm) (radix : Radix) (bytes : List ℕ) → form.thousands.now ≡ [] → is_misplaced form radix bytes ≡ false
none_misplaced form radix bytes none =
    let part : has_part form.thousands.now bytes ≡ false = ap (λ (l : List ℕ). has_part l bytes) none ∙ no_part bytes in
    let grouped : Bool = is_grouped (base radix == 16) form.thousands.now (after_sign bytes) in
    ap (λ (b : Bool). (form.has_groups && b) && not grouped) part ∙ and_none form.has_groups (not grouped)

pub plain_reply : (form : FieldForm) (radix : Radix) (A : List ℕ → AnswerText → Type 0) (field bytes : List ℕ) (reply : AnswerText) → bytes ≡ bare form field
    → form.decimal ≡ 46 → form.thousands.now ≡ [] → A bytes reply → IsReadReply (is_misplaced form radix bytes) form A field reply
plain_reply form radix A field bytes reply same decimal thousands answer =
    let numeral : field_numeral form field ≡ bytes = ap (λ l. flat_map (read_for form.thousands.now form.decimal) l) (sym same)
    ∙ (ap (λ d. flat_map (read_for form.thousands.now d) bytes) decimal ∙ (ap (λ t. flat_map (read_for t 46) bytes) thousands ∙ plain_read bytes)) in
    subst (λ b. IsReadReply b form A field reply) (sym (none_misplaced form radix bytes thousands)) (subst (λ l. A l reply) (sym numeral) answer)

faulty : List ℕ → AnswerText
faulty text = record { text = text; fault = true }

-- ---- the decimal mark of an answer
same_point : (byte : ℕ) → marked 46 byte ≡ byte
same_point byte = grind arith

point_stays : (bytes : List ℕ) → map (marked 46) bytes ≡ bytes
point_stays [] = refl
point_stays (byte ∷ rest) = ap (λ b. b ∷ map (marked 46) rest) (same_point byte) ∙ ap (λ l. byte ∷ l) (point_stays rest)

clean : List ℕ → AnswerText
clean text = record { text = text; fault = false }

pub point_field : (form : FieldForm) (radix : Radix) (A : List ℕ → AnswerText → Type 0) (field text : List ℕ) → form.mark ≡ 46 → IsPointReply form radix A field (record { text = text; fault = false })
    → IsFieldReply form radix A field (record { text = text; fault = false })
unfolding clean
point_field form radix A field text point reply =
    (clean text, reply, ap clean (sym (ap (λ (m : ℕ). map (marked m) text) point ∙ point_stays text)))

-- ---- groups of digits
pub no_digits : (hex : Bool) (bytes : List ℕ) (k : ℕ) → k < length bytes → is_digit hex (get_or bytes k 0) ≡ false → digits_of hex (drop k bytes) ≡ 0
unfolding digits_of
no_digits hex bytes k low e = ap (digits_of hex) (drop-cons bytes k 0 low) ∙ rw e refl

pub one_digit : (hex : Bool) (bytes : List ℕ) (k : ℕ) → k < length bytes → is_digit hex (get_or bytes k 0) ≡ true → digits_of hex (drop k bytes) ≡ 1 + digits_of hex (drop (k + 1) bytes)
unfolding digits_of
one_digit hex bytes k low e = rw add-one (ap (digits_of hex) (drop-cons bytes k 0 low) ∙ rw e refl)

pub last_digit : (hex : Bool) (bytes : List ℕ) (k : ℕ) → length bytes ≤ k → digits_of hex (drop k bytes) ≡ 0
unfolding digits_of
last_digit hex bytes k high = ap (digits_of hex) (drop_all k bytes high)

-- after a separator come three digits, or the groups are wrong
abbrev pub starts : List ℕ → List ℕ → Bool
starts separator bytes = starts_with (λ a b. a == b) bytes separator

pub group_next : (n : ℕ) (hex : Bool) (separator bytes : List ℕ) → starts separator bytes ≡ true → (digits_of hex (drop (length separator) bytes) == 3) ≡ true
    → are_groups (suc n) hex separator bytes ≡ are_groups n hex separator (drop 3 (drop (length separator) bytes))
unfolding are_groups
group_next n hex separator bytes begins three = rw (begins, three) refl

pub group_wrong : (n : ℕ) (hex : Bool) (separator bytes : List ℕ) → starts separator bytes ≡ true → (digits_of hex (drop (length separator) bytes) == 3) ≡ false
    → are_groups (suc n) hex separator bytes ≡ false
unfolding are_groups
group_wrong n hex separator bytes begins other = rw (begins, other) refl

pub groups_end : (n : ℕ) (hex : Bool) (separator bytes : List ℕ) → starts separator bytes ≡ false → are_groups (suc n) hex separator bytes ≡ not (has_part separator bytes)
unfolding are_groups
groups_end n hex separator bytes ends = rw ends refl

pub group_other : (most : ℕ) (hex : Bool) (separator bytes : List ℕ) → 0 < most → starts separator bytes ≡ true → (digits_of hex (drop (length separator) bytes) == 3) ≡ false
    → are_groups most hex separator bytes ≡ false
group_other zero hex separator bytes some begins other = absurd (omega arith)
group_other (suc n) hex separator bytes some begins other = group_wrong n hex separator bytes begins other

abbrev pub groups_over : ℕ → Bool → List ℕ → List ℕ → Bool
groups_over n hex separator bytes = are_groups n hex separator bytes

pub group_more : (most : ℕ) (hex : Bool) (separator bytes : List ℕ) → 0 < most → starts separator bytes ≡ true → (digits_of hex (drop (length separator) bytes) == 3) ≡ true
    → are_groups most hex separator bytes ≡ groups_over (most - 1) hex separator (drop 3 (drop (length separator) bytes))
group_more zero hex separator bytes some begins three = absurd (omega arith)
group_more (suc n) hex separator bytes some begins three =
    let before : suc n - 1 ≡ n = omega arith in
    group_next n hex separator bytes begins three ∙ ap (λ (k : ℕ). are_groups k hex separator (drop 3 (drop (length separator) bytes))) (sym before)

pub groups_ended : (most : ℕ) (hex : Bool) (separator bytes : List ℕ) → 0 < most → starts separator bytes ≡ false → are_groups most hex separator bytes ≡ not (has_part separator bytes)
groups_ended zero hex separator bytes some ends = absurd (omega arith)
groups_ended (suc n) hex separator bytes some ends = groups_end n hex separator bytes ends

-- ---- the outcome of a field
pub read_outcome : (form : FieldForm) (s : Settings) (field bytes text : List ℕ) (found : Option Outcome) → bytes ≡ bare form field → (length bytes == 0) ≡ false
    → is_misplaced form s.radix bytes ≡ false → text ≡ flat_map (read_for form.thousands.now form.decimal) bytes → IsReadOutcome s text found → IsFieldOutcome form s field found
read_outcome form s field bytes text found same some placed is outcome =
    let empty : (length (bare form field) == 0) ≡ false = ap (λ (l : List ℕ). length l == 0) (sym same) ∙ some in
    let numeral : text ≡ field_numeral form field = is ∙ ap (λ l. flat_map (read_for form.thousands.now form.decimal) l) same in
    let place : is_misplaced form s.radix (bare form field) ≡ false = ap (λ l. is_misplaced form s.radix l) (sym same) ∙ placed in
    subst (λ b. IsFieldOutcomeBy b form s field found) (sym empty) (subst (λ b. IsNumeralOutcome b form s field found) (sym place)
    (subst (λ l. IsReadOutcome s l found) numeral outcome))

pub some_so : {T : Type 0} (o : Option T) (P : T → Type 0) → ((x : T) → P x) → IfSome o P
some_so o P so = elim o as (λ o. IfSome o P) [ None ↦ tt | Some x ↦ so x ]
