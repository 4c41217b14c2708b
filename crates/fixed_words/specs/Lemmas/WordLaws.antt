-- A text is cut into words in one way, and is converted to one text.
use Rattle.std.proofs.Common.{◌≡◌, ◌∙◌, ◌||◌, ℕ, Bool, true, false, List, [], ◌∷◌, ◌++◌, refl, sym, ap, subst}
use Rattle.std.proofs.Common.{Option, append_assoc, true≢false}
use Rattle.std.specs.declared.convert.Infallible.{Infallible}
use Rattle.line_engine.specs.AnswerText.{AnswerText}
use Rattle.run_engine.specs.Machines.{Agree, How, going, finished, lacking, stopped}
use Rattle.fixed_command.specs.Lemmas.ReplyLemmas.{reply_one}
use Rattle.fixed_words.specs.Laws.{WordedIsTheOne}
use Rattle.fixed_words.specs.Run.{MakesBy}
use Rattle.fixed_words.specs.Words.{AreEnded, Ended, HasNoSeparator, IsWordReply, answer_of, any_refused, bytes_of}
use Rattle.fixed_words.specs.Words.{is_separator, written_of}
use Rattle.fixed_words.specs.declared.rule.WordRule.{WordRule}
use Rattle.fixed_words.specs.declared.splitter.WordBytes.{WordBytes}

word_reply_one : (s : WordRule) (word : List ℕ) (a b : AnswerText) → IsWordReply s word a → IsWordReply s word b
    → a ≡ b
word_reply_one s [] a b x y = x ∙ sym y
word_reply_one s (c ∷ cs) a b x y =
    let same : x.0 ≡ y.0 = reply_one s.rule (c ∷ cs) x.0 y.0 x.1 y.1 in
    x.2 ∙ (ap (answer_of s (c ∷ cs)) same ∙ sym y.2)

broken : (others : List ℕ) (b c : ℕ) → b ≡ c → is_separator others b ≡ true → is_separator others c ≡ false → ⊥
broken others b c same one none = true≢false (sym one ∙ (ap (λ n. is_separator others n) same ∙ none))

-- a word without a separator has none
none_within : (others word : List ℕ) (b : ℕ) (rest : List ℕ) → HasNoSeparator others (word ++ b ∷ rest)
    → is_separator others b ≡ true → ⊥
none_within others [] b rest h one = broken others b b refl one h.0
none_within others (c ∷ cs) b rest h one = none_within others cs b rest h.1 one

-- two cuts of a text agree: in its first word, the separator after it, and the rest
pub record AreSame (w v : List ℕ) (a b : ℕ) (t u : List ℕ) : Type 0 where
  pub word : w ≡ v
  pub separator : a ≡ b
  pub rest : t ≡ u

first_one : (others w v : List ℕ) (a b : ℕ) (t u : List ℕ) → HasNoSeparator others w → HasNoSeparator others v
    → is_separator others a ≡ true → is_separator others b ≡ true → w ++ a ∷ t ≡ v ++ b ∷ u → AreSame w v a b t u
first_one others [] [] a b t u h k x y e = record {
  word = refl;
  separator = let same : a ≡ b = cc in same;
  rest = let same : t ≡ u = cc in same;
}
first_one others [] (d ∷ ds) a b t u h k x y e = let same : a ≡ d = cc in absurd (broken others a d same x k.0)
first_one others (c ∷ cs) [] a b t u h k x y e = let same : b ≡ c = cc in absurd (broken others b c same y h.0)
first_one others (c ∷ cs) (d ∷ ds) a b t u h k x y e =
    let head : c ≡ d = cc in
    let tail : cs ++ a ∷ t ≡ ds ++ b ∷ u = cc in
    let r = first_one others cs ds a b t u h.1 k.1 x y tail in
    record { word = ap (λ n. n ∷ cs) head ∙ ap (λ l. d ∷ l) r.word; separator = r.separator; rest = r.rest }

pub record AreParts (es fs : List Ended) (x y : List ℕ) : Type 0 where
  pub words : es ≡ fs
  pub rest : x ≡ y

module _ (s : WordRule) where
  -- a word and its separator come first
  not_within : (f : Ended) (fs : List Ended) (x y : List ℕ) → HasNoSeparator s.separators.now x
      → is_separator s.separators.now f.separator ≡ true → x ≡ bytes_of (f ∷ fs) ++ y → ⊥
  not_within f fs x y p one e =
      let apart = append_assoc f.word (f.separator ∷ bytes_of fs) y in
      none_within s.separators.now f.word f.separator (bytes_of fs ++ y)
      (subst (λ l. HasNoSeparator s.separators.now l) (e ∙ apart) p) one

  parts_one : (es fs : List Ended) (x y : List ℕ) → AreEnded s es → AreEnded s fs → HasNoSeparator s.separators.now x
      → HasNoSeparator s.separators.now y → bytes_of es ++ x ≡ bytes_of fs ++ y → AreParts es fs x y
  parts_one [] [] x y h k p q e = record { words = refl; rest = e }
  parts_one [] (f ∷ fs) x y h k p q e = absurd (not_within f fs x y p k.0.separates e)
  parts_one (d ∷ ds) [] x y h k p q e = absurd (not_within d ds y x q h.0.separates (sym e))
  parts_one (d ∷ ds) (f ∷ fs) x y h k p q e =
      let left = append_assoc d.word (d.separator ∷ bytes_of ds) x in
      let right = append_assoc f.word (f.separator ∷ bytes_of fs) y in
      let first = first_one s.separators.now d.word f.word d.separator f.separator (bytes_of ds ++ x) (bytes_of fs ++ y)
      h.0.unbroken k.0.unbroken h.0.separates k.0.separates (sym left ∙ (e ∙ right)) in
      let others = parts_one ds fs x y h.1 k.1 p q first.rest in
      let replied = subst (λ w. IsWordReply s w d.reply) first.word h.0.replied in
      let reply : d.reply ≡ f.reply = word_reply_one s f.word d.reply f.reply replied k.0.replied in
      let made : List ℕ → ℕ → AnswerText → Ended = λ w n r. record { word = w; separator = n; reply = r } in
      let same : d ≡ f = ap (λ w. made w d.separator d.reply) first.word ∙ (ap (λ n. made f.word n d.reply)
      first.separator ∙ ap (λ r. made f.word f.separator r) reply) in
      record { words = ap (λ c. c ∷ ds) same ∙ ap (λ l. f ∷ l) others.words; rest = others.rest }

pub worded_one : WordedIsTheOne
worded_one s bytes a b x y =
    let parts = parts_one s x.words y.words x.rest y.rest x.are y.are x.unbroken y.unbroken (sym x.cut ∙ y.cut) in
    let replied = subst (λ w. IsWordReply s w x.last) parts.rest x.replied in
    let last : x.last ≡ y.last = word_reply_one s y.rest x.last y.last replied y.replied in
    let text : a.text ≡ b.text = x.text_is ∙ (ap (λ es. written_of es ++ x.last.text) parts.words
    ∙ (ap (λ r. written_of y.words ++ r.text) last ∙ sym y.text_is)) in
    let fault : a.fault ≡ b.fault = x.fault_is ∙ (ap (λ es. any_refused es || x.last.fault) parts.words
    ∙ (ap (λ r. any_refused y.words || r.fault) last ∙ sym y.fault_is)) in
    let made : List ℕ → Bool → AnswerText = λ t f. record { text = t; fault = f } in
    ap (λ t. made t a.fault) text ∙ ap (λ f. made b.text f) fault

-- a machine makes one text of some bytes
pub made_one : {J : Type 0} (written : J → Option (List ℕ)) (failures : J → ℕ) (first a b : WordBytes J)
    (bytes made other : List ℕ) (spent cost : ℕ) (how then : How Infallible)
    → MakesBy written failures first bytes made spent how a → MakesBy written failures first bytes other cost then b
    → Agree how made then other
made_one written failures first a b bytes made other spent cost going going p q =
    let x = p.1 in
    let y = q.1 in
    let parts = parts_one first.rule.now x.words y.words x.rest y.rest x.are y.are x.unbroken y.unbroken
    (sym x.cut ∙ y.cut) in
    x.text_is ∙ ap written_of parts.words ∙ sym y.text_is
made_one written failures first a b bytes made other spent cost going (finished g) p q = tt
made_one written failures first a b bytes made other spent cost going lacking p q = tt
made_one written failures first a b bytes made other spent cost going (stopped late t) p q = absurd q.1
made_one written failures first a b bytes made other spent cost (finished f) going p q = tt
made_one written failures first a b bytes made other spent cost (finished f) (finished g) p q =
    let x : AnswerText = record { text = made; fault = f } in
    let y : AnswerText = record { text = other; fault = g } in
    let same : x ≡ y = worded_one first.rule.now bytes x y p.1.worded q.1.worded in
    (ap (λ (r : AnswerText). r.text) same, ap (λ (r : AnswerText). r.fault) same)
made_one written failures first a b bytes made other spent cost (finished f) lacking p q = tt
made_one written failures first a b bytes made other spent cost (finished f) (stopped late t) p q = absurd q.1
made_one written failures first a b bytes made other spent cost lacking then p q = absurd p.1
made_one written failures first a b bytes made other spent cost (stopped late s) then p q = absurd p.1
