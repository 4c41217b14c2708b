-- The first line of some bytes.
use Rattle.std.proofs.Common.{◌≡◌, ◌==◌, ◌<◌, ℕ, zero, suc, List, [], ◌∷◌, Bool, length, refl, ap, sym, subst, arith, take, drop, max, true, false, true≢false, slice_index, if◌then◌else◌}
use Rattle.memchr.specs.Find.{NoneBefore, Nowhere, Passes, is_byte}
use Rattle.command_line.specs.Said.{IsWidth, Shows, first_line, pushed, shown}

kept : (b : Bool) (byte : ℕ) (more bytes : List ℕ) → (b ≡ true → ⊥) → more ≡ bytes → (if b then [] else byte ∷ more) ≡ byte ∷ bytes
kept true byte more bytes none e = absurd (none refl)
kept false byte more bytes none e = ap (λ l. byte ∷ l) e

cut : (b : Bool) (byte : ℕ) (more : List ℕ) → b ≡ true → (if b then [] else byte ∷ more) ≡ []
cut true byte more e = refl
cut false byte more e = absurd (true≢false (sym e))

line_to : (bytes : List ℕ) (n : ℕ) → n < length bytes → (slice_index bytes n == 10) ≡ true → ((k : ℕ) → k < n → (slice_index bytes k == 10) ≡ true → ⊥) → first_line bytes ≡ take n bytes
unfolding first_line
line_to [] n within is none = absurd (omega (arith, within))
line_to (b ∷ bytes) zero within is none = cut (b == 10) b (first_line bytes) is
line_to (b ∷ bytes) (suc n) within is none =
    kept (b == 10) b (first_line bytes) (take n bytes) (none 0 (omega arith))
    (line_to bytes n (omega (arith, within)) is (λ k below. none (suc k) (omega (arith, below))))

-- up to the first newline
pub line_found : (bytes : List ℕ) (n : ℕ) → NoneBefore (Passes (is_byte 10) bytes) 0 (length bytes) n × Passes (is_byte 10) bytes n → first_line bytes ≡ take n bytes
line_found bytes n found = line_to bytes n found.0.high found.1 (λ k below is. found.0.before k (omega arith) below is)

-- or all of them, if there is none
line_all : (bytes : List ℕ) → ((k : ℕ) → k < length bytes → (slice_index bytes k == 10) ≡ true → ⊥) → first_line bytes ≡ bytes
unfolding first_line
line_all [] none = refl
line_all (b ∷ bytes) none =
    kept (b == 10) b (first_line bytes) bytes (none 0 (omega arith)) (line_all bytes (λ k below. none (suc k) (omega (arith, below))))

pub line_whole : (bytes : List ℕ) → Nowhere (Passes (is_byte 10) bytes) 0 (length bytes) → first_line bytes ≡ bytes
line_whole bytes none = line_all bytes (λ k below is. none k (omega arith) below is)

-- ---- the characters that a line shows
-- one more is shown
pub shows_more : (left most : ℕ) (bytes line after : List ℕ) (width : ℕ) → left ≡ suc most → 0 < length bytes → IsWidth bytes width
    → Shows most (drop (max width 1) bytes) (pushed line (shown width (take (max width 1) bytes))) after → Shows left bytes line after
unfolding Shows
shows_more left most [] line after width e some is more = absurd (omega (arith, some))
shows_more left most (byte ∷ bytes) line after width e some is more = subst (λ n. Shows n (byte ∷ bytes) line after) (sym e) (width, is, more)

-- no bytes are left
pub shows_none : (most : ℕ) (bytes line : List ℕ) → length bytes ≡ 0 → Shows most bytes line line
unfolding Shows
shows_none zero bytes line none = refl
shows_none (suc most) [] line none = refl
shows_none (suc most) (byte ∷ bytes) line none = absurd (omega (arith, none))

-- as many as there may be are shown
pub shows_end : (left : ℕ) (bytes line : List ℕ) → left ≡ 0 → Shows left bytes line line
unfolding Shows
shows_end zero bytes line none = refl
shows_end (suc left) bytes line none = absurd (omega (arith, none))
