-- The errors of a numeral that is `word` parts of 10^-18 above a whole number.
use Rattle.std.proofs.Common.{Vec, Global, ◌≡◌, ◌⊎◌, ℕ, suc, ◌+◌, ◌-◌, ◌*◌, ◌%◌, ◌^◌, ◌<◌, ◌≤◌, zero, List, [], ◌∷◌, ◌++◌, length, replicate, set, take, drop, get_or, refl, sym, ap, ◌∙◌, subst, arith, ⊎_elim, inl, inr, drop-cons}
use Rattle.std.specs.Prelude.{min}
use Rattle.std.specs.Int.{bit_at}
use Rattle.std.proofs.lemmas.Bool.{cases_lt}
use Rattle.std.proofs.lemmas.List.{drop_all, set-get_or, take-append-le, take_all}
use Rattle.fixed_bits.specs.declared.mode.ReadMode.{ReadMode}
use Rattle.fixed_bits.specs.declared.mode.ReadMode.TheVariants.{NearestEven}
use Rattle.fixed_numeral.specs.declared.radix.Radix.{Radix}
use Rattle.fixed_error.specs.ErrorSize.{HasGreaterError, HasNoGreaterError, IsReadWithin}
use Rattle.fixed_error.specs.Errors.{AreBoundsNearHalf, ArePassed, AreLengthErrors, AreWordsWithin, HasGreatestErrors, near_half}
use Rattle.fixed_error.specs.Greatest.{Entry}
use Rattle.fixed_error.specs.Inner.Rest.{IsNear, IsRest, rest_of_word}
use Rattle.fixed_error.specs.declared.errors.GreatestErrors.{GreatestErrors}
use Rattle.fixed_error.specs.declared.errors.LengthError.{LengthError}
use Rattle.fixed_error.proofs.ErrorsLemmas.{greater_near, least_at, no_greater_near, nothing_greater}
use Rattle.fixed_error.proofs.RestLemmas.{rest_halved, twice_power}

-- ---- the loop over the fraction lengths
pub words_more : (word k : ℕ) (errors : List LengthError) (d : LengthError) → k < length errors → min word (10 ^ 18 - word) < (get_or errors k d).bound → AreWordsWithin (2 * word % 10 ^ 18) (drop (k + 1) errors) → AreWordsWithin word (drop k errors)
words_more word k errors d less near rest =
    let next : k + 1 ≡ suc k = omega arith in
    let all : drop k errors ≡ get_or errors k d ∷ drop (suc k) errors = drop-cons errors k d less in
    let P : ℕ → Type 0 = λ n. AreWordsWithin (2 * word % 10 ^ 18) (drop n errors) in
    subst (AreWordsWithin word) (sym all) (near, subst P next rest)

pub words_end : (word k : ℕ) (errors : List LengthError) → length errors ≤ k → AreWordsWithin word (drop k errors)
words_end word k errors h = let none : drop k errors ≡ [] = drop_all k errors h in subst (AreWordsWithin word) (sym none) tt

-- ---- a numeral that is passed over
order : (word bound least : ℕ) → word < 10 ^ 18 → min word (10 ^ 18 - word) < bound → (bound - 1) * 10 ^ 18 ≤ least
    → min (rest_of_word word).rest ((rest_of_word word).one - (rest_of_word word).rest) + (rest_of_word word).slack ≤ least
unfolding rest_of_word
order word bound least below near within = omega (arith, near, within, below)

halved : (word : ℕ) → word < 10 ^ 18 → (2 * word % 10 ^ 18 * 10 ^ 18 ≡ 2 * (word * 10 ^ 18)) ⊎ (2 * word % 10 ^ 18 * 10 ^ 18 + 10 ^ 18 * 10 ^ 18 ≡ 2 * (word * 10 ^ 18))
halved word below = ⊎_elim
    (λ (less : 2 * word < 10 ^ 18). inl (omega (arith, less)))
    (λ (more : 10 ^ 18 ≤ 2 * word). inr (omega (arith, more, below)))
    (cases_lt (2 * word) (10 ^ 18))

next_rest : (r : Radix) (f : ℕ) (numeral : List ℕ) (word : ℕ) → word < 10 ^ 18 → IsRest r f numeral (rest_of_word word) → IsRest r (suc f) numeral (rest_of_word (2 * word % 10 ^ 18))
unfolding rest_of_word
next_rest r f numeral word below h =
    let less : 2 * word % 10 ^ 18 < 10 ^ 18 = omega arith in
    let small : 2 * word % 10 ^ 18 * 10 ^ 18 < 10 ^ 18 * 10 ^ 18 = omega (arith, less) in
    rest_halved r f numeral (rest_of_word word) (rest_of_word (2 * word % 10 ^ 18)) h refl (halved word below) small refl

pub twice_rest : (word f : ℕ) → 2 * (word * 2 ^ f % 10 ^ 18) % 10 ^ 18 ≡ word * 2 ^ suc f % 10 ^ 18
twice_rest word f =
    let x : ℕ = word * 2 ^ f in
    let next : word * 2 ^ suc f ≡ 2 * x = twice_power word f in
    let same : 2 * (x % 10 ^ 18) % 10 ^ 18 ≡ 2 * x % 10 ^ 18 = omega arith in
    same ∙ ap (λ t. t % 10 ^ 18) (sym next)

-- the word of the numeral in ulps of 2^-f
pub rest_at : (r : Radix) (f : ℕ) (numeral : List ℕ) (word : ℕ) → word < 10 ^ 18 → IsRest r 0 numeral (rest_of_word word) → IsRest r f numeral (rest_of_word (word * 2 ^ f % 10 ^ 18))
rest_at r zero numeral word below h = let same : word * 2 ^ 0 % 10 ^ 18 ≡ word = omega (arith, below) in subst (λ (t : ℕ). IsRest r 0 numeral (rest_of_word t)) (sym same) h
rest_at r (suc f) numeral word below h =
    let less : word * 2 ^ f % 10 ^ 18 < 10 ^ 18 = omega arith in
    subst (λ (t : ℕ). IsRest r (suc f) numeral (rest_of_word t)) (twice_rest word f) (next_rest r f numeral (word * 2 ^ f % 10 ^ 18) less (rest_at r f numeral word below h))

-- ---- two errors by their words
near_order : (a b : ℕ) → min a (10 ^ 18 - a) ≤ min b (10 ^ 18 - b)
    → min (rest_of_word a).rest ((rest_of_word a).one - (rest_of_word a).rest) + (rest_of_word a).slack ≤ min (rest_of_word b).rest ((rest_of_word b).one - (rest_of_word b).rest) - (rest_of_word b).slack
unfolding rest_of_word
near_order a b h = omega (arith, h)

near_below : (a b : ℕ) → min a (10 ^ 18 - a) < min b (10 ^ 18 - b)
    → min (rest_of_word a).rest ((rest_of_word a).one - (rest_of_word a).rest) + (rest_of_word a).slack < min (rest_of_word b).rest ((rest_of_word b).one - (rest_of_word b).rest) - (rest_of_word b).slack
unfolding rest_of_word
near_below a b h = omega (arith, h)

pub near_no_greater : (mode : ReadMode) (r : Radix) (f : ℕ) (one other : List ℕ) (a b : ℕ) → mode ≡ NearestEven → IsReadWithin mode r f one → IsReadWithin mode r f other → IsNear r f one a → IsNear r f other b → a ≤ b → HasNoGreaterError mode r f one other
near_no_greater mode r f one other a b nearest w k x y order =
    let at : ℕ = min (rest_of_word y.word).rest ((rest_of_word y.word).one - (rest_of_word y.word).rest) - (rest_of_word y.word).slack in
    let W : List ℕ → ReadMode → Type 0 = λ bytes m. IsReadWithin m r f bytes in
    subst (λ m. HasNoGreaterError m r f one other) (sym nearest)
    (no_greater_near r f one other (rest_of_word x.word) at (subst (W one) nearest w) x.rest (near_order x.word y.word (omega (arith, order, x.near_is, y.near_is))) (least_at r f other (rest_of_word y.word) (subst (W other) nearest k) y.rest))

pub near_greater : (mode : ReadMode) (r : Radix) (f : ℕ) (one other : List ℕ) (a b : ℕ) → mode ≡ NearestEven → IsReadWithin mode r f one → IsReadWithin mode r f other → IsNear r f one a → IsNear r f other b → b < a → HasGreaterError mode r f one other
near_greater mode r f one other a b nearest w k x y order =
    let W : List ℕ → ReadMode → Type 0 = λ bytes m. IsReadWithin m r f bytes in
    subst (λ m. HasGreaterError m r f one other) (sym nearest)
    (greater_near r f one other (rest_of_word x.word) (rest_of_word y.word) (subst (W one) nearest w) (subst (W other) nearest k) x.rest y.rest (near_below y.word x.word (omega (arith, order, x.near_is, y.near_is))))

pub passed_over : (r : Radix) (f : ℕ) (entries : List Entry) (errors : List LengthError) (place : ℕ) (numeral : List ℕ) (word : ℕ) → word < 10 ^ 18 → ((k : ℕ) → k < length errors → IsReadWithin NearestEven r (f + k) numeral) → IsRest r f numeral (rest_of_word word)
    → AreWordsWithin word errors → AreLengthErrors r f entries errors → AreLengthErrors r f (entries ++ record { place = place; numeral = numeral } ∷ []) errors
passed_over r f entries [] place numeral word below within rest near all = tt
passed_over r f entries (e ∷ errors) place numeral word below within rest near all =
    let first : f + 0 ≡ f = omega arith in
    let W : ℕ → Type 0 = λ k. IsReadWithin NearestEven r k numeral in
    let bound = all.0.bound (omega (arith, near.0)) in (
      nothing_greater r f entries e place numeral (rest_of_word word) (subst W first (within 0 (omega arith))) rest bound.0 (order word e.bound e.least below near.0 bound.1) all.0,
      passed_over r (suc f) entries errors place numeral (2 * word % 10 ^ 18) (omega arith) (λ k less. subst W (omega arith) (within (suc k) (omega (arith, less)))) (next_rest r f numeral word below rest) near.1 all.1,
    )

-- ---- words that were passed over
pub words_taken : (word : ℕ) (errors : List LengthError) (k : ℕ) → AreWordsWithin word errors → AreWordsWithin word (take k errors)
words_taken word errors zero h = tt
words_taken word [] (suc k) h = tt
words_taken word (e ∷ errors) (suc k) h = (h.0, words_taken (2 * word % 10 ^ 18) errors k h.1)

get_or_zeros : (n k : ℕ) → ◌≡◌ {A = ℕ} (get_or (replicate n 0) k 0) 0
get_or_zeros zero k = refl
get_or_zeros (suc n) zero = refl
get_or_zeros (suc n) (suc k) = get_or_zeros n k

pub none_passed : (n : ℕ) (errors : List LengthError) → ArePassed (replicate n 0) errors
none_passed n errors k word is = absurd (omega (arith, is, get_or_zeros n k))

-- ---- bounds near half an ulp
pub near_taken : (errors : List LengthError) (k : ℕ) → AreBoundsNearHalf errors → AreBoundsNearHalf (take k errors)
near_taken errors zero h = tt
near_taken [] (suc k) h = tt
near_taken (e ∷ errors) (suc k) h = (h.0, near_taken errors k h.1)

pub near_more : (k : ℕ) (errors : List LengthError) (d : LengthError) → k < length errors → near_half ≤ (get_or errors k d).bound → AreBoundsNearHalf (drop (k + 1) errors) → AreBoundsNearHalf (drop k errors)
near_more k errors d less near rest =
    let next : k + 1 ≡ suc k = omega arith in
    let all : drop k errors ≡ get_or errors k d ∷ drop (suc k) errors = drop-cons errors k d less in
    let P : ℕ → Type 0 = λ n. AreBoundsNearHalf (drop n errors) in
    subst AreBoundsNearHalf (sym all) (near, subst P next rest)

pub near_end : (k : ℕ) (errors : List LengthError) → length errors ≤ k → AreBoundsNearHalf (drop k errors)
near_end k errors h = let none : drop k errors ≡ [] = drop_all k errors h in subst AreBoundsNearHalf (sym none) tt

-- the error at the fraction length f is below its bound
abbrev pub IsWordWithinAt : ℕ → List LengthError → ℕ → LengthError → Type 0
IsWordWithinAt word errors f d = min (word * 2 ^ f % 10 ^ 18) (10 ^ 18 - word * 2 ^ f % 10 ^ 18) < (get_or errors f d).bound

within_from : (word f : ℕ) (errors : List LengthError) → ((k : ℕ) (d : LengthError) → k < length errors → min (word * 2 ^ (f + k) % 10 ^ 18) (10 ^ 18 - word * 2 ^ (f + k) % 10 ^ 18) < (get_or errors k d).bound)
    → AreWordsWithin (word * 2 ^ f % 10 ^ 18) errors
within_from word f [] all = tt
within_from word f (e ∷ errors) all =
    let N : ℕ → ℕ → Type 0 = λ k b. min (word * 2 ^ k % 10 ^ 18) (10 ^ 18 - word * 2 ^ k % 10 ^ 18) < b in
    let first : f + 0 ≡ f = omega arith in (
      subst (λ (k : ℕ). N k e.bound) first (all 0 e (omega arith)),
      subst (λ (t : ℕ). AreWordsWithin t errors) (sym (twice_rest word f)) (within_from word (suc f) errors (λ k d less. let next : f + suc k ≡ suc f + k = omega arith in subst (λ (j : ℕ). N j (get_or errors k d).bound) next (all (suc k) d (omega (arith, less))))),
    )

pub within_each : (word : ℕ) (errors : List LengthError) → word < 10 ^ 18 → ((f : ℕ) (d : LengthError) → f < length errors → IsWordWithinAt word errors f d) → AreWordsWithin word errors
within_each word errors below all =
    let same : word * 2 ^ 0 % 10 ^ 18 ≡ word = omega (arith, below) in
    let N : LengthError → ℕ → ℕ → Type 0 = λ d f k. min (word * 2 ^ k % 10 ^ 18) (10 ^ 18 - word * 2 ^ k % 10 ^ 18) < (get_or errors f d).bound in
    subst (λ (t : ℕ). AreWordsWithin t errors) same (within_from word 0 errors (λ k d less. let start : k ≡ 0 + k = omega arith in subst (N d k) start (all k d less)))

pub near_at : (errors : List LengthError) (k : ℕ) (d : LengthError) → k < length errors → AreBoundsNearHalf errors → near_half ≤ (get_or errors k d).bound
near_at [] k d less all = absurd (omega (arith, less))
near_at (e ∷ errors) zero d less all = all.0
near_at (e ∷ errors) (suc k) d less all = near_at errors k d (omega (arith, less)) all.1

-- the error is below its bound at a length where the binary digits are far from a half
pub far_at : (word near f : ℕ) (errors : List LengthError) (d : LengthError) → length errors ≤ 53 → f < length errors → AreBoundsNearHalf errors
    → ((k : ℕ) → k < 53 → bit_at near (63 - k) ≡ 0 → min (word * 2 ^ k % 10 ^ 18) (10 ^ 18 - word * 2 ^ k % 10 ^ 18) < near_half) → bit_at near (63 - f) ≡ 0 → IsWordWithinAt word errors f d
far_at word near f errors d few less all far is =
    let here = far f (omega (arith, few, less)) is in
    let bound = near_at errors f d less all in
    omega (arith, here, bound)

pub near_dropped : (k : ℕ) (errors : List LengthError) → AreBoundsNearHalf errors → AreBoundsNearHalf (drop k errors)
near_dropped zero errors h = h
near_dropped (suc k) [] h = h
near_dropped (suc k) (e ∷ errors) h = near_dropped k errors h.1

-- the first n lengths, and the others
joined_from : (word f n : ℕ) (errors : List LengthError) → AreWordsWithin (word * 2 ^ f % 10 ^ 18) (take n errors) → AreWordsWithin (word * 2 ^ (f + n) % 10 ^ 18) (drop n errors) → AreWordsWithin (word * 2 ^ f % 10 ^ 18) errors
joined_from word f zero errors before after = let same : f + 0 ≡ f = omega arith in subst (λ (k : ℕ). AreWordsWithin (word * 2 ^ k % 10 ^ 18) errors) same after
joined_from word f (suc n) [] before after = tt
joined_from word f (suc n) (e ∷ errors) before after =
    let next : f + suc n ≡ suc f + n = omega arith in
    let W : ℕ → Type 0 = λ t. AreWordsWithin t (take n errors) in
    (before.0, subst (λ (t : ℕ). AreWordsWithin t errors) (sym (twice_rest word f)) (joined_from word (suc f) n errors (subst W (twice_rest word f) before.1) (subst (λ (k : ℕ). AreWordsWithin (word * 2 ^ k % 10 ^ 18) (drop n errors)) next after)))

pub words_joined : (word n : ℕ) (errors : List LengthError) → word < 10 ^ 18 → AreWordsWithin word (take n errors) → AreWordsWithin (word * 2 ^ n % 10 ^ 18) (drop n errors) → AreWordsWithin word errors
words_joined word n errors below before after =
    let same : word * 2 ^ 0 % 10 ^ 18 ≡ word = omega (arith, below) in
    let start : 0 + n ≡ n = omega arith in
    subst (λ (t : ℕ). AreWordsWithin t errors) same (joined_from word 0 n errors (subst (λ (t : ℕ). AreWordsWithin t (take n errors)) (sym same) before) (subst (λ (k : ℕ). AreWordsWithin (word * 2 ^ k % 10 ^ 18) (drop n errors)) (sym start) after))

-- ---- a record with the same errors
pub words_kept : (r : Radix) (count : ℕ) (entries : List Entry) (old new : GreatestErrors) → new.radix ≡ old.radix → new.errors ≡ old.errors → new.are_near_half ≡ old.are_near_half → ArePassed new.passed old.errors.items → HasGreatestErrors r count entries old
    → HasGreatestErrors r count entries new
words_kept r count entries old new radix errors near passed h =
    let items : new.errors.items ≡ old.errors.items = ap items_of errors in
    record {
      radix = radix ∙ h.radix;
      most = h.most;
      count_is = ap length items ∙ h.count_is;
      errors = subst (AreLengthErrors r 0 entries) (sym items) h.errors;
      near = λ all. subst AreBoundsNearHalf (sym items) (h.near (sym near ∙ all));
      passed = subst (ArePassed new.passed) (sym items) passed;
    }
  where
    items_of : Vec LengthError Global → List LengthError
    items_of v = v.items

-- one more numeral
pub word_added : (r : Radix) (count : ℕ) (entries : List Entry) (g : GreatestErrors) (place : ℕ) (numeral : List ℕ) (word : ℕ) → word < 10 ^ 18 → ((f : ℕ) → f < length g.errors.items → IsReadWithin NearestEven g.radix f numeral) → IsRest g.radix 0 numeral (rest_of_word word)
    → AreWordsWithin word g.errors.items → HasGreatestErrors r count entries g → HasGreatestErrors r count (entries ++ record { place = place; numeral = numeral } ∷ []) g
word_added r count entries g place numeral word below within rest near h =
    let W : ℕ → Type 0 = λ f. IsReadWithin NearestEven r f numeral in
    record {
      radix = h.radix;
      most = h.most;
      count_is = h.count_is;
      errors = passed_over r 0 entries g.errors.items place numeral word below (λ k less. subst W (omega arith) (subst (λ (q : Radix). IsReadWithin NearestEven q k numeral) h.radix (within k less))) (subst (λ (q : Radix). IsRest q 0 numeral (rest_of_word word)) h.radix rest) near h.errors;
      near = h.near;
      passed = h.passed;
    }

-- all elements of a vector were overwritten
pub all_written : (n : ℕ) (xs ys : List LengthError) → length xs ≡ n → take n (xs ++ drop (length xs) ys) ≡ xs
all_written n xs ys long = take-append-le n xs (drop (length xs) ys) (omega (arith, long)) ∙ take_all n xs (omega (arith, long))

-- setting an element to its own value changes nothing
pub unchanged : (xs initial : List LengthError) (k : ℕ) (d new : LengthError) → new ≡ get_or xs k d → xs ≡ initial → set xs k new ≡ initial
unchanged xs initial k d new same old = ap (λ e. set xs k e) same ∙ set-get_or xs k d ∙ old
