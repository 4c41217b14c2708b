-- Readers and writers that skip a byte order mark.
use Rattle.std.proofs.Common.{◌≡◌, ◌≤◌, ℕ, zero, suc, List, [], ◌∷◌, ◌++◌, take, drop, length, Option, Some, None, true, false, refl, sym, ap, arith, ◌∙◌, Bool, append-nil, append_assoc}
use Rattle.std.proofs.Math.Seq.{drop-append-add}
use Rattle.std.specs.Prelude.{◌==◌, ◌&&◌, ◌+◌, ◌-◌, ◌<◌, option_map, slice_get, slice_set}
use Rattle.std.specs.Io.KnownBytes.{Consumes, IsAtEnd, Keeps}
use Rattle.csv.specs.Reading.{strip_bom}
use Rattle.csv.proofs.ReadFacts.{strip-short}
use Rattle.command_line.specs.Device.{is_mark, is_part_of_mark, left_after}

pub part_short : (head : List ℕ) → is_part_of_mark head ≡ true → length head < 3
part_short [] p = omega arith
part_short (a ∷ []) p = omega arith
part_short (a ∷ b ∷ []) p = omega arith
part_short (a ∷ b ∷ c ∷ head) p = cc p

neither : (p q r : Bool) → (p && q) ≡ false → (p && q && r) ≡ false
neither true true r e = cc e
neither true false r e = refl
neither false q r e = refl

-- first bytes that are neither a mark nor a prefix of one stay
stays : (head more : List ℕ) → length head ≤ 3 → is_part_of_mark head ≡ false → is_mark head ≡ false → strip_bom (head ++ more) ≡ head ++ more
unfolding strip_bom
stays [] more short part mark = cc part
stays (a ∷ []) [] short part mark = refl
stays (a ∷ []) (b ∷ []) short part mark = refl
stays (a ∷ []) (b ∷ c ∷ more) short part mark = rw part refl
stays (a ∷ b ∷ []) [] short part mark = refl
stays (a ∷ b ∷ []) (c ∷ more) short part mark = rw (neither (a == 239) (b == 187) (c == 191) part) refl
stays (a ∷ b ∷ c ∷ []) more short part mark = rw mark refl
stays (a ∷ b ∷ c ∷ d ∷ head) more short part mark = absurd (omega (arith, short))

-- a mark is dropped
goes : (head more : List ℕ) → is_mark head ≡ true → strip_bom (head ++ more) ≡ more
unfolding strip_bom
goes [] more mark = cc mark
goes (a ∷ []) more mark = cc mark
goes (a ∷ b ∷ []) more mark = cc mark
goes (a ∷ b ∷ c ∷ []) more mark = rw mark refl
goes (a ∷ b ∷ c ∷ d ∷ head) more mark = cc mark

-- the first bytes are a mark: the reader drops them
pub marked : (head : List ℕ) (left : Option (List ℕ)) → is_mark head ≡ true → Keeps (left_after None head left) (left_after (Some 0) [] left)
marked head None mark = tt
marked head (Some more) mark = sym (goes head more mark)

-- the first bytes cannot become a mark: the reader keeps them
pub unmarked : (head : List ℕ) (left : Option (List ℕ)) → length head ≤ 3 → is_part_of_mark head ≡ false → is_mark head ≡ false
    → Keeps (left_after None head left) (left_after (Some 0) head left)
unmarked head None short part mark = tt
unmarked head (Some more) short part mark = sym (stays head more short part mark)

-- the text ended within a prefix of a mark: the reader keeps it
pub ended : (head : List ℕ) (old new : Option (List ℕ)) → is_part_of_mark head ≡ true → Consumes old new [] → IsAtEnd new
    → Keeps (left_after None head old) (left_after (Some 0) head new)
ended head None new part took end = tt
ended head (Some more) None part took end = absurd took
ended head (Some more) (Some rest) part took end = rw (took, end, append-nil head) (sym (strip-short head (part_short head part)))

-- one more of the first bytes was read
pub grown : (head : List ℕ) (byte : ℕ) (old new : Option (List ℕ)) → Consumes old new (byte ∷ [])
    → Keeps (left_after None head old) (left_after None (head ++ byte ∷ []) new)
grown head byte None new took = tt
grown head byte (Some more) None took = absurd took
grown head byte (Some more) (Some rest) took = ap strip_bom (append_assoc head (byte ∷ []) rest ∙ ap (λ l. head ++ l) (sym took))

-- a failed read took nothing
pub kept : (head : List ℕ) (old new : Option (List ℕ)) → Keeps old new → Keeps (left_after None head old) (left_after None head new)
kept head None new same = tt
kept head (Some more) None same = absurd same
kept head (Some more) (Some rest) same = rw same refl

-- ---- reads after the first bytes
keeps_consumes : (a b c : Option (List ℕ)) (bytes : List ℕ) → Keeps a b → Consumes b c bytes → Consumes a c bytes
keeps_consumes None b c bytes same took = tt
keeps_consumes (Some xs) None c bytes same took = absurd same
keeps_consumes (Some xs) (Some ys) c bytes same took = rw (← same) took

-- the next of the first bytes was passed on
consumed : (head : List ℕ) (count byte : ℕ) (left : Option (List ℕ)) → slice_get head count ≡ Some byte
    → Consumes (left_after (Some count) head left) (left_after (Some (count + 1)) head left) (byte ∷ [])
consumed head count byte None is = tt
consumed head count byte (Some more) is =
    let next : count + 1 ≡ suc count = omega arith in
    rw next (ap (λ l. l ++ more) (split head count is))
  where
    split : (head : List ℕ) (count : ℕ) → slice_get head count ≡ Some byte → drop count head ≡ byte ∷ drop (suc count) head
    split [] zero is = cc is
    split [] (suc count) is = cc is
    split (b ∷ head) zero is = cc is
    split (b ∷ head) (suc count) is = split head count is

pub handed_on : (head buf : List ℕ) (count byte : ℕ) (old left : Option (List ℕ)) → slice_get head count ≡ Some byte → take 1 buf ≡ byte ∷ []
    → Keeps old (left_after (Some count) head left) → Consumes old (left_after (Some (count + 1)) head left) (take 1 buf)
handed_on head buf count byte old left is first same = rw first (keeps_consumes old _ _ (byte ∷ []) same (consumed head count byte left is))

-- the first byte of a nonempty buffer was set
pub first_set : (buf : List ℕ) (byte : ℕ) → (length buf == 0) ≡ false → take 1 (slice_set buf 0 byte) ≡ byte ∷ []
first_set [] byte some = cc some
first_set (b ∷ buf) byte some = refl

-- some more bytes were skipped
pub skipped : (left count : ℕ) (bytes : List ℕ) (old new : Option (List ℕ)) → length bytes ≡ count → count ≤ left → Consumes old new bytes
    → Keeps (option_map (drop left) old) (option_map (drop (left - count)) new)
skipped left count bytes None new long most took = tt
skipped left count bytes (Some xs) None long most took = absurd took
skipped left count bytes (Some xs) (Some ys) long most took =
    let parts : length bytes + (left - count) ≡ left = omega (arith, long, most) in
    sym (ap (drop left) took ∙ ap (λ n. drop n (bytes ++ ys)) (sym parts) ∙ drop-append-add bytes ys (left - count))
