-- What is made of words that are recoded is determined.
use Rattle.std.proofs.Common.{◌≡◌, ◌∙◌, ◌<◌, ◌+◌, ◌||◌, ℕ, List, [], ◌∷◌, ◌++◌, Option, length, take, drop}
use Rattle.std.specs.Prelude.{is_some}
use Rattle.std.proofs.Common.{refl, sym, ap, subst, arith, append_assoc, length-append}
use Rattle.run_engine.specs.Machines.{Agree, How, going, finished, lacking, stopped}
use Rattle.fixed_pack.specs.Recoded.{AreRecoded, GoesOn, MakesWords, StopsAt, any_refused, capped, has_some, made_of}
use Rattle.fixed_pack.specs.Unpack.{HaveLength}
use Rattle.fixed_pack.specs.Word.{joined}
use Rattle.fixed_pack.specs.declared.recoder.Recoder.{Recoder}
use Rattle.fixed_pack.specs.declared.recoder.RefusedWord.{RefusedWord}

pub both : {A : Type 0} (a b : A) (xs ys : List A) → a ≡ b → xs ≡ ys → a ∷ xs ≡ b ∷ ys
both a b xs ys e f = ap (λ x. x ∷ xs) e ∙ ap (λ zs. b ∷ zs) f

-- ---- bytes cut into words
pub take_first : (w rest : List ℕ) → take (length w) (w ++ rest) ≡ w
take_first [] rest = refl
take_first (b ∷ bs) rest = ap (λ l. b ∷ l) (take_first bs rest)

drop_first : (w rest : List ℕ) → drop (length w) (w ++ rest) ≡ rest
drop_first [] rest = refl
drop_first (b ∷ bs) rest = drop_first bs rest

split_one : (size : ℕ) (v w x y : List ℕ) → length v ≡ size → length w ≡ size → v ++ x ≡ w ++ y → (v ≡ w) × (x ≡ y)
split_one size v w x y ev ew e = (
  sym (take_first v x) ∙ (ap (take (length v)) e ∙ (ap (λ n. take n (w ++ y)) (ev ∙ sym ew) ∙ take_first w y)),
  sym (drop_first v x) ∙ (ap (drop (length v)) e ∙ (ap (λ n. drop n (w ++ y)) (ev ∙ sym ew) ∙ drop_first w y)),
)

-- fewer bytes than a word has don't begin with a word
too_few : (size : ℕ) (rest w x : List ℕ) → length w ≡ size → length rest < size → rest ≡ w ++ x → ⊥
too_few size rest w x whole short e = omega (arith, whole, short, ap length e, length-append w x)

flat : (w : List ℕ) (ws : List (List ℕ)) (x : List ℕ) → joined (w ∷ ws) ++ x ≡ w ++ (joined ws ++ x)
flat w ws x = append_assoc w (joined ws) x

pub cut_one : (size : ℕ) (a b : List (List ℕ)) (x y : List ℕ) → HaveLength size a → HaveLength size b → length x < size
    → length y < size → joined a ++ x ≡ joined b ++ y → (a ≡ b) × (x ≡ y)
cut_one size [] [] x y p q m n e = (refl, e)
cut_one size [] (w ∷ ws) x y p q m n e = absurd (too_few size x w (joined ws ++ y) q.0 m (e ∙ flat w ws y))
cut_one size (v ∷ vs) [] x y p q m n e = absurd (too_few size y v (joined vs ++ x) p.0 n (sym e ∙ flat v vs x))
cut_one size (v ∷ vs) (w ∷ ws) x y p q m n e =
    let first = split_one size v w (joined vs ++ x) (joined ws ++ y) p.0 q.0 (sym (flat v vs x) ∙ (e ∙ flat w ws y)) in
    let rest = cut_one size vs ws x y p.1 q.1 m n first.1 in
    (both v w vs ws first.0 rest.0, rest.1)

module _ {C : Type 0} (size : ℕ) (R : List ℕ → List ℕ → Option C → Type 0) (F : List ℕ → C → Type 0)
    (one : (word a b : List ℕ) (c d : Option C) → R word a c → R word b d → (a ≡ b) × (is_some c ≡ is_some d))
    (cause_one : (word : List ℕ) (a b : C) → F word a → F word b → a ≡ b)
    (never : (word made : List ℕ) (c : Option C) (why : C) → R word made c → F word why → ⊥) where
  -- ---- what words become, and whether one is refused
  same_all : (words : List (List ℕ)) (a b : List (List ℕ × Option C)) → AreRecoded R words a → AreRecoded R words b
      → (made_of a ≡ made_of b) × (any_refused a ≡ any_refused b)
  same_all [] [] [] p q = (refl, refl)
  same_all [] [] (b ∷ bs) p q = absurd q
  same_all [] (a ∷ all) b p q = absurd p
  same_all (w ∷ ws) [] b p q = absurd p
  same_all (w ∷ ws) (a ∷ all) [] p q = absurd q
  same_all (w ∷ ws) (a ∷ all) (b ∷ bs) p q =
      let first = one w a.0 b.0 a.1 b.1 p.0 q.0 in
      let rest = same_all ws all bs p.1 q.1 in (
        ap (λ t. t ++ made_of all) first.0 ∙ ap (λ t. b.0 ++ t) rest.0,
        ap (λ f. f || any_refused all) first.1 ∙ ap (λ f. is_some b.1 || f) rest.1,
      )

  all_same : (v w : List (List ℕ)) (a b : List (List ℕ × Option C)) → v ≡ w → AreRecoded R v a → AreRecoded R w b
      → (made_of a ≡ made_of b) × (any_refused a ≡ any_refused b)
  all_same v w a b same p q = same_all w a b (subst (λ u. AreRecoded R u a) same p) q

  -- ---- a word that ends the input, after words that don't
  -- it isn't among words that are all recoded
  not_among : (words : List (List ℕ)) (all : List (List ℕ × Option C)) (rest : List ℕ) (before : List (List ℕ))
      (made : List (List ℕ × Option C)) (word more : List ℕ) (why : C) → HaveLength size words → length rest < size
      → AreRecoded R words all → HaveLength size before → length word ≡ size → AreRecoded R before made → F word why
      → joined words ++ rest ≡ joined before ++ (word ++ more) → ⊥
  not_among [] all rest [] made word more why p short are q whole stop refused e =
      too_few size rest word more whole short e
  not_among [] all rest (b ∷ bs) made word more why p short are q whole stop refused e =
      too_few size rest b (joined bs ++ (word ++ more)) q.0 short (e ∙ flat b bs (word ++ more))
  not_among (w ∷ ws) [] rest before made word more why p short are q whole stop refused e = absurd are
  not_among (w ∷ ws) (a ∷ all) rest [] made word more why p short are q whole stop refused e =
      let first = split_one size w word (joined ws ++ rest) more p.0 whole (sym (flat w ws rest) ∙ e) in
      never word a.0 a.1 why (subst (λ u. R u a.0 a.1) first.0 are.0) refused
  not_among (w ∷ ws) (a ∷ all) rest (b ∷ bs) [] word more why p short are q whole stop refused e = absurd stop
  not_among (w ∷ ws) (a ∷ all) rest (b ∷ bs) (m ∷ made) word more why p short are q whole stop refused e =
      let first = split_one size w b (joined ws ++ rest) (joined bs ++ (word ++ more)) p.0 q.0
      (sym (flat w ws rest) ∙ (e ∙ flat b bs (word ++ more))) in
      not_among ws all rest bs made word more why p.1 short are.1 q.1 whole stop.1 refused first.1

  -- and there is one
  stop_one : (a b : List (List ℕ)) (made other : List (List ℕ × Option C)) (v x w y : List ℕ) (s t : C)
      → HaveLength size a → HaveLength size b → AreRecoded R a made → AreRecoded R b other → length v ≡ size
      → length w ≡ size → F v s → F w t → joined a ++ (v ++ x) ≡ joined b ++ (w ++ y) → (a ≡ b) × (v ≡ w)
  stop_one [] [] made other v x w y s t p q m n lv lw f g e = (refl, (split_one size v w x y lv lw e).0)
  stop_one [] (b ∷ bs) made [] v x w y s t p q m n lv lw f g e = absurd n
  stop_one [] (b ∷ bs) made (o ∷ other) v x w y s t p q m n lv lw f g e =
      let first = split_one size v b x (joined bs ++ (w ++ y)) lv q.0 (e ∙ flat b bs (w ++ y)) in
      absurd (never v o.0 o.1 s (subst (λ u. R u o.0 o.1) (sym first.0) n.0) f)
  stop_one (a ∷ all) b [] other v x w y s t p q m n lv lw f g e = absurd m
  stop_one (a ∷ all) [] (o ∷ made) other v x w y s t p q m n lv lw f g e =
      let first = split_one size a w (joined all ++ (v ++ x)) y p.0 lw (sym (flat a all (v ++ x)) ∙ e) in
      absurd (never w o.0 o.1 t (subst (λ u. R u o.0 o.1) first.0 m.0) g)
  stop_one (a ∷ all) (b ∷ bs) (o ∷ made) [] v x w y s t p q m n lv lw f g e = absurd n
  stop_one (a ∷ all) (b ∷ bs) (o ∷ made) (k ∷ other) v x w y s t p q m n lv lw f g e =
      let first = split_one size a b (joined all ++ (v ++ x)) (joined bs ++ (w ++ y)) p.0 q.0
      (sym (flat a all (v ++ x)) ∙ (e ∙ flat b bs (w ++ y))) in
      let rest = stop_one all bs made other v x w y s t p.1 q.1 m.1 n.1 lv lw f g first.1 in
      (both a b all bs first.0 rest.0, rest.1)

  module _ {Q W : Type 0} (Saw : W → ℕ → List ℕ → Option C → W → Type 0) (rule : Q) (watch : W) (a b : Recoder Q W)
    where
      refused_one : (bytes made other : List ℕ) (s t : RefusedWord C) → StopsAt size R F Saw watch bytes made s a
          → StopsAt size R F Saw watch bytes other t b → (made ≡ other) × (s ≡ t)
      refused_one bytes made other s t p q =
          let same = stop_one p.before q.before p.all q.all s.word p.more t.word q.more s.cause t.cause
          p.whole q.whole p.are q.are p.whole_word q.whole_word p.why q.why (sym p.cut ∙ q.cut) in
          let cause : s.cause ≡ t.cause = cause_one t.word s.cause t.cause (subst (λ w. F w s.cause) same.1 p.why) q.why
          in
          let number : s.number ≡ t.number = p.number ∙ (ap (λ ws. capped (length ws + 1)) same.0 ∙ sym q.number) in
          let with : ℕ → List ℕ → C → RefusedWord C = λ n w c. record { number = n; word = w; cause = c } in (
            p.text_is ∙ ((all_same p.before q.before p.all q.all same.0 p.are q.are).0 ∙ sym q.text_is),
            ap (λ n. with n s.word s.cause) number ∙ (ap (λ w. with t.number w s.cause) same.1
                ∙ ap (λ c. with t.number t.word c) cause),
          )

      none_refused : (m n : Recoder Q W) (bytes made other : List ℕ) (t : RefusedWord C)
          → GoesOn size R Saw rule watch bytes made m → StopsAt size R F Saw watch bytes other t n → ⊥
      none_refused m n bytes made other t p q =
          not_among p.words p.all m.part.bytes q.before q.all t.word q.more t.cause
          p.are_words.whole p.are_words.short p.are q.whole q.whole_word q.are q.why (sym p.are_words.cut ∙ q.cut)

      all_one : (bytes made other : List ℕ) → GoesOn size R Saw rule watch bytes made a
          → GoesOn size R Saw rule watch bytes other b
          → (made ≡ other) × ((a.has_fault || has_some a.part.bytes) ≡ (b.has_fault || has_some b.part.bytes))
      all_one bytes made other p q =
          let cut = cut_one size p.words q.words a.part.bytes b.part.bytes p.are_words.whole q.are_words.whole
          p.are_words.short q.are_words.short (sym p.are_words.cut ∙ q.are_words.cut) in
          let same = all_same p.words q.words p.all q.all cut.0 p.are q.are in (
            p.text_is ∙ (same.0 ∙ sym q.text_is),
            ap (λ f. f || has_some a.part.bytes) (p.faulty ∙ (same.1 ∙ sym q.faulty))
                ∙ ap (λ l. b.has_fault || has_some l) cut.1,
          )

      pub recoded_one : (bytes made other : List ℕ) (spent cost : ℕ) (how then : How (RefusedWord C))
          → MakesWords size R F Saw rule watch bytes made spent how a
          → MakesWords size R F Saw rule watch bytes other cost then b → Agree how made then other
      recoded_one bytes made other spent cost going going p q = (all_one bytes made other p q).0
      recoded_one bytes made other spent cost going (finished g) p q = tt
      recoded_one bytes made other spent cost going lacking p q = tt
      recoded_one bytes made other spent cost going (stopped late t) p q =
          absurd (none_refused a b bytes made other t p q.0)
      recoded_one bytes made other spent cost (finished f) going p q = tt
      recoded_one bytes made other spent cost (finished f) (finished g) p q =
          let same = all_one bytes made other p.0 q.0 in (same.0, p.1 ∙ (same.1 ∙ sym q.1))
      recoded_one bytes made other spent cost (finished f) lacking p q = tt
      recoded_one bytes made other spent cost (finished f) (stopped late t) p q =
          none_refused a b bytes made other t p.0 q.0
      recoded_one bytes made other spent cost lacking then p q = absurd p
      recoded_one bytes made other spent cost (stopped late s) going p q =
          absurd (none_refused b a bytes other made s q p.0)
      recoded_one bytes made other spent cost (stopped late s) (finished g) p q =
          none_refused b a bytes other made s q.0 p.0
      recoded_one bytes made other spent cost (stopped late s) lacking p q = tt
      recoded_one bytes made other spent cost (stopped late s) (stopped later t) p q =
          let same = refused_one bytes made other s t p.0 q.0 in (p.1 ∙ sym q.1, same.0, same.1)

-- a machine that stopped has stopped among more bytes too
pub recoded_stays : {Q W C : Type 0} (size : ℕ) (R : List ℕ → List ℕ → Option C → Type 0) (F : List ℕ → C → Type 0)
    (Saw : W → ℕ → List ℕ → Option C → W → Type 0) (watch : W) (bytes more text : List ℕ) (t : RefusedWord C)
    (last : Recoder Q W) → StopsAt size R F Saw watch bytes text t last
    → StopsAt size R F Saw watch (bytes ++ more) text t last
recoded_stays size R F Saw watch bytes more text t last p = record {
  before = p.before;
  all = p.all;
  more = p.more ++ more;
  whole = p.whole;
  whole_word = p.whole_word;
  cut = ap (λ l. l ++ more) p.cut ∙ (append_assoc (joined p.before) (t.word ++ p.more) more
      ∙ ap (λ l. joined p.before ++ l) (append_assoc t.word p.more more));
  are = p.are;
  text_is = p.text_is;
  why = p.why;
  number = p.number;
  saw = p.saw;
}
