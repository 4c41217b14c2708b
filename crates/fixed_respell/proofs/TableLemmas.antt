-- The table of formats by the counts in their words.
use Rattle.std.proofs.Common.{◌≡◌, ℕ, zero, suc, ◌+◌, ◌*◌, ◌/◌, ◌%◌, ◌^◌, ◌<◌, ◌≤◌, Bool, true, List, [], ◌∷◌, length, get_or, refl, sym, subst, arith, inl, inr, ⊎_elim}
use Rattle.std.specs.Prelude.{◌&&◌, ◌||◌, eqb, leb}
use Rattle.std.specs.Fmt.{digits}
use Rattle.std.proofs.lemmas.Bool.{and_parts, or_cases, eqb-true, leb-true, cases_lt}
use Rattle.std.specs.Int.Digits.{AllBelowBase}
use Rattle.fixed_bits.specs.Formats.{IsTypeFormat}
use Rattle.fixed_bits.specs.Ranges.{IsTypeWidth}
use Rattle.fixed_respell.specs.Inner.FormatKeys.{IsEntry, counts_word, word_key}

unfoldable pub table : List ℕ
table = 2308946042307359026 ∷ 0 ∷ 4624359217959418161 ∷ 4621544468175534386 ∷ 4618729718391650611 ∷ 4615914968607766836 ∷ 0 ∷ 0 ∷ 0 ∷ 0 ∷ 2311479312819565105 ∷ 2308664563035681330 ∷ 0 ∷ 0 ∷ 0 ∷ 2306411457568714803 ∷ 2306129982575227187 ∷ 2305848507581739571 ∷ 1154615852935819313 ∷ 1154334377942331697 ∷ 1154052902948844081 ∷ 1153771427955356465 ∷ 1153489952961868849 ∷ 1153208477968381233 ∷ 1152927002974893617 ∷ 0 ∷ 0 ∷ 0 ∷ 0 ∷ 0 ∷ 0 ∷ 0 ∷ 0 ∷ 0 ∷ 2314855706868794928 ∷ 2314574231875307057 ∷ 2314292756881819186 ∷ 0 ∷ 0 ∷ 1157430602701555248 ∷ 1157149127708067377 ∷ 1156867652714579506 ∷ 1156586177721091635 ∷ 1156304702727603764 ∷ 1156023227734115893 ∷ 1155741752740628022 ∷ 0 ∷ 0 ∷ 0 ∷ 0 ∷ 0 ∷ 0 ∷ 0 ∷ 0 ∷ 0 ∷ 0 ∷ 0 ∷ 4614224791736825141 ∷ 4613943316743337525 ∷ 4613661841749849909 ∷ 4613380366756362293 ∷ 4613098891762874677 ∷ 0 ∷ 0 ∷ 0 ∷ 0 ∷ 0 ∷ 0 ∷ 0 ∷ 0 ∷ 0 ∷ 2311197876480783153 ∷ 0 ∷ 0 ∷ 4628298540571248181 ∷ 4628017065577760310 ∷ 4627735590584272439 ∷ 4627454115590784568 ∷ 4627172640597296697 ∷ 0 ∷ 0 ∷ 0 ∷ 2310916397209105457 ∷ 0 ∷ 0 ∷ 0 ∷ 0 ∷ 0 ∷ 0 ∷ 0 ∷ 0 ∷ 0 ∷ 0 ∷ 2310634917937427761 ∷ 0 ∷ 0 ∷ 0 ∷ 0 ∷ 0 ∷ 0 ∷ 0 ∷ 0 ∷ 0 ∷ 0 ∷ 2310353438665750065 ∷ 0 ∷ 0 ∷ 0 ∷ 4626892488471621681 ∷ 4624077738687737906 ∷ 4621262988903854131 ∷ 4618448239119970356 ∷ 4615633489336086581 ∷ 0 ∷ 0 ∷ 2310071959394072369 ∷ 0 ∷ 0 ∷ 0 ∷ 4626611009199943985 ∷ 4623796259416060210 ∷ 4620981509632176435 ∷ 4618166759848292660 ∷ 0 ∷ 4615352010064408885 ∷ 0 ∷ 2309790480122394673 ∷ 0 ∷ 0 ∷ 0 ∷ 4626329529928266289 ∷ 4623514780144382514 ∷ 0 ∷ 4620700030360498739 ∷ 4617885280576614964 ∷ 4615070530792731189 ∷ 0 ∷ 0 ∷ 2309509000850716977 ∷ 0 ∷ 0 ∷ 0 ∷ 4626048050656588593 ∷ 4623233300872704818 ∷ 4620418551088821043 ∷ 4617603801304937268 ∷ 4614789051521053493 ∷ 0 ∷ 0 ∷ 0 ∷ 0 ∷ 0 ∷ 0 ∷ 4625766571384910897 ∷ 4622951821601027122 ∷ 4620137071817143347 ∷ 4617322322033259572 ∷ 4614507572249375797 ∷ 4612817416769384502 ∷ 4612535941775896886 ∷ 4612254466782409270 ∷ 4611972991788921654 ∷ 4611691516795434038 ∷ 0 ∷ 0 ∷ 0 ∷ 0 ∷ 2308381782523130674 ∷ 2308100307529643058 ∷ 2307818832536155442 ∷ 2307537357542667826 ∷ 2307255882549180210 ∷ 2306974407555692594 ∷ 2306692932562204978 ∷ 4629705915370980912 ∷ 4629424440377493041 ∷ 4629142965384005170 ∷ 4628861490390517299 ∷ 4628580015397029428 ∷ 0 ∷ 0 ∷ 0 ∷ 0 ∷ 0 ∷ 0 ∷ 0 ∷ 0 ∷ 2314011282056037939 ∷ 2313729807062550068 ∷ 2313448332069062197 ∷ 2313166857075574326 ∷ 2312885382082086455 ∷ 2312603907088598584 ∷ 2312322432095110713 ∷ 0 ∷ 0 ∷ 0 ∷ 0 ∷ 0 ∷ 0 ∷ 0 ∷ 0 ∷ 0 ∷ 578716950167307824 ∷ 578435475190531633 ∷ 578154000213755442 ∷ 577872525236979251 ∷ 577591050260203060 ∷ 577309575283426869 ∷ 577028100306650678 ∷ 576746625329874487 ∷ 576465150353098296 ∷ 0 ∷ 4625485135046128945 ∷ 4622670385262245170 ∷ 4619855635478361395 ∷ 4617040885694477620 ∷ 0 ∷ 0 ∷ 0 ∷ 0 ∷ 0 ∷ 0 ∷ 0 ∷ 4625203655774451249 ∷ 4622388905990567474 ∷ 0 ∷ 4619574156206683699 ∷ 4616759406422799924 ∷ 0 ∷ 1155459177447507511 ∷ 1155177702470731320 ∷ 1154896227493955129 ∷ 0 ∷ 0 ∷ 0 ∷ 4624922176502773553 ∷ 4622107426718889778 ∷ 4619292676935006003 ∷ 4616477927151122228 ∷ 0 ∷ 0 ∷ 0 ∷ 0 ∷ 2312042271362920497 ∷ 2309227521579036722 ∷ 0 ∷ 4624640697231095857 ∷ 4621825947447212082 ∷ 4619011197663328307 ∷ 4616196447879444532 ∷ 0 ∷ 0 ∷ 0 ∷ 0 ∷ 2311760792091242801 ∷ []

abbrev pub place : ℕ → ℕ
place key = key * 9476561537795100451 % 2 ^ 64 / 2 ^ 56

-- ---- a test of each number up to n, and of each member of a list
abbrev all_up_to : (ℕ → Bool) → ℕ → Bool
all_up_to P zero = P 0
all_up_to P (suc n) = P (suc n) && all_up_to P n

up_to : (P : ℕ → Bool) (n i : ℕ) → i ≤ n → all_up_to P n ≡ true → P i ≡ true
up_to P zero i l e = let z : i ≡ 0 = omega (arith, l) in subst (λ j. P j ≡ true) (sym z) e
up_to P (suc n) i l e = elim (cases_lt i (suc n)) [
  | inl below ↦ up_to P n i (omega (arith, below)) (and_parts (P (suc n)) (all_up_to P n) e).1
  | inr above ↦ let z : i ≡ suc n = omega (arith, l, above) in subst (λ j. P j ≡ true) (sym z) (and_parts (P (suc n)) (all_up_to P n) e).0
]

abbrev all_in : (ℕ → Bool) → List ℕ → Bool
all_in P [] = true
all_in P (x ∷ xs) = P x && all_in P xs

member : (P : ℕ → Bool) (xs : List ℕ) (i : ℕ) → P 0 ≡ true → all_in P xs ≡ true → P (get_or xs i 0) ≡ true
member P [] i none e = none
member P (x ∷ xs) zero none e = (and_parts (P x) (all_in P xs) e).0
member P (x ∷ xs) (suc i) none e = member P xs i none (and_parts (P x) (all_in P xs) e).1

-- ---- each word has its entry
abbrev bytes_below : List ℕ → Bool
bytes_below [] = true
bytes_below (x ∷ xs) = leb x 255 && bytes_below xs

abbrev has_entry : ℕ → ℕ → List ℕ → Bool
has_entry w f word = leb 4 (length word) && (leb (length word) 6 && (bytes_below word && eqb (get_or table (place (word_key word)) 0) (word_key word + f * 2 ^ 48 + w * 2 ^ 56)))

entries_8 : all_up_to (λ f. has_entry 8 f (counts_word 8 f)) 8 ≡ true
unfolding digits table
entries_8 = refl

entries_16 : all_up_to (λ f. has_entry 16 f (counts_word 16 f)) 16 ≡ true
unfolding digits table
entries_16 = refl

entries_32 : all_up_to (λ f. has_entry 32 f (counts_word 32 f)) 32 ≡ true
unfolding digits table
entries_32 = refl

entries_64 : all_up_to (λ f. has_entry 64 f (counts_word 64 f)) 64 ≡ true
unfolding digits table
entries_64 = refl

pub record HasEntry (w f : ℕ) (word : List ℕ) : Type 0 where
  pub least : 4 ≤ length word
  pub most : length word ≤ 6
  pub below : AllBelowBase 256 word
  pub entry : get_or table (place (word_key word)) 0 ≡ word_key word + f * 2 ^ 48 + w * 2 ^ 56

all_bytes : (xs : List ℕ) → bytes_below xs ≡ true → AllBelowBase 256 xs
all_bytes [] e = tt
all_bytes (x ∷ xs) e = let both = and_parts (leb x 255) (bytes_below xs) e in (let l = leb-true x 255 both.0 in omega (arith, l), all_bytes xs both.1)

read_entry : (w f : ℕ) (word : List ℕ) → has_entry w f word ≡ true → HasEntry w f word
read_entry w f word e =
    let a = and_parts _ _ e in
    let b = and_parts _ _ a.1 in
    let d = and_parts _ _ b.1 in
    record { least = leb-true 4 (length word) a.0; most = leb-true (length word) 6 b.0; below = all_bytes word d.0; entry = eqb-true _ _ d.1 }

pub entry_of : (w f : ℕ) → IsTypeFormat w f → HasEntry w f (counts_word w f)
entry_of w f is = read_entry w f (counts_word w f) (by_width is.is_width)
  where
    by_width : IsTypeWidth w → has_entry w f (counts_word w f) ≡ true
    by_width (inl e) = subst (λ n. has_entry n f (counts_word n f) ≡ true) (sym e) (up_to (λ i. has_entry 8 i (counts_word 8 i)) 8 f (rw e at is.within) entries_8)
    by_width (inr (inl e)) = subst (λ n. has_entry n f (counts_word n f) ≡ true) (sym e) (up_to (λ i. has_entry 16 i (counts_word 16 i)) 16 f (rw e at is.within) entries_16)
    by_width (inr (inr (inl e))) = subst (λ n. has_entry n f (counts_word n f) ≡ true) (sym e) (up_to (λ i. has_entry 32 i (counts_word 32 i)) 32 f (rw e at is.within) entries_32)
    by_width (inr (inr (inr e))) = subst (λ n. has_entry n f (counts_word n f) ≡ true) (sym e) (up_to (λ i. has_entry 64 i (counts_word 64 i)) 64 f (rw e at is.within) entries_64)

-- ---- each entry belongs to a word
abbrev pub is_type : ℕ → ℕ → Bool
is_type w f = (eqb w 8 || (eqb w 16 || (eqb w 32 || eqb w 64))) && leb f w

abbrev is_entry : ℕ → ℕ → ℕ → Bool
is_entry w f key = is_type w f && eqb key (word_key (counts_word w f))

abbrev is_sound : ℕ → Bool
is_sound e = eqb e 0 || is_entry (e / 2 ^ 56) (e / 2 ^ 48 % 256) (e % 2 ^ 48)

entries_sound : all_in is_sound table ≡ true
unfolding digits table
entries_sound = refl

sound_at : (h : ℕ) → is_sound (get_or table h 0) ≡ true
sound_at h = member is_sound table h refl entries_sound

width_is : (w : ℕ) → (eqb w 8 || (eqb w 16 || (eqb w 32 || eqb w 64))) ≡ true → IsTypeWidth w
width_is w e = ⊎_elim
    (λ a. inl (eqb-true w 8 a))
    (λ a. ⊎_elim (λ b. inr (inl (eqb-true w 16 b))) (λ b. ⊎_elim (λ d. inr (inr (inl (eqb-true w 32 d)))) (λ d. inr (inr (inr (eqb-true w 64 d)))) (or_cases (eqb w 32) (eqb w 64) b)) (or_cases (eqb w 16) (eqb w 32 || eqb w 64) a))
    (or_cases (eqb w 8) (eqb w 16 || (eqb w 32 || eqb w 64)) e)

pub type_is : (w f : ℕ) → is_type w f ≡ true → IsTypeFormat w f
type_is w f e = let h = and_parts (eqb w 8 || (eqb w 16 || (eqb w 32 || eqb w 64))) (leb f w) e in record { is_width = width_is w h.0; within = leb-true f w h.1 }

entry_is : (e w f key : ℕ) → (eqb e 0 || is_entry w f key) ≡ true → 0 < e → IsTypeFormat w f × (key ≡ word_key (counts_word w f))
entry_is e w f key sound some = ⊎_elim
    (λ z. let n = eqb-true e 0 z in absurd (omega (arith, n, some)))
    (λ s. let h = and_parts (is_type w f) (eqb key (word_key (counts_word w f))) s in (type_is w f h.0, eqb-true key (word_key (counts_word w f)) h.1))
    (or_cases (eqb e 0) (is_entry w f key) sound)

pub found_sound : (h : ℕ) → 0 < get_or table h 0 → IsEntry (get_or table h 0)
found_sound h some =
    let e : ℕ = get_or table h 0 in
    let s = entry_is e (e / 2 ^ 56) (e / 2 ^ 48 % 256) (e % 2 ^ 48) (sound_at h) some in
    record { format = s.0; key = s.1 }

pub found_whole : (key w f : ℕ) → IsTypeFormat w f → key ≡ word_key (counts_word w f) → get_or table (place key) 0 ≡ key + f * 2 ^ 48 + w * 2 ^ 56
found_whole key w f is e = rw e (entry_of w f is).entry
