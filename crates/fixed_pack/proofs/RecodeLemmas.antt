-- Words recoded one after the other.
use Rattle.std.proofs.Common.{Result, Ok, Err, ◌≡◌, ◌∙◌, ◌↔◌, ℕ, zero, suc, ◌+◌, ◌-◌, ◌*◌, ◌<◌, ◌≤◌, ◌||◌, Bool, true, false, not, IsTrue, List, [], ◌∷◌, ◌++◌, Option, length, take, refl, sym, ap, subst, arith, append-nil, append_assoc, length-append}
use Rattle.std.specs.Prelude.{Some, is_some}
use Rattle.run_engine.proofs.Public.{puts_both, puts_held, puts_none}
use Rattle.run_engine.specs.LineRun.{SawAll, Tells, one_more}
use Rattle.run_engine.specs.Machines.{Feeds, Goes, Halts, How, going, finished, stopped}
use Rattle.run_engine.specs.Run.{HasRun}
use Rattle.run_engine.specs.Seen.{Moment, moment, Puts, Seen}
use Rattle.run_engine.specs.declared.engine.End.{End}
use Rattle.run_engine.specs.declared.machine.Halt.{Halt}
use Rattle.run_engine.specs.declared.machine.Halt.TheVariants.{WriteFault, NoMemory, Stopped}
use Rattle.fixed_pack.specs.Lemmas.RecodedLaws.{take_first}
use Rattle.fixed_pack.specs.Part.{PartView, part_of}
use Rattle.fixed_pack.specs.Recoded.{AreFront, AreRecoded, EndsWord, GoesOn, MakesWords, RecodesWord, RefusesWord, any_refused, capped, causes_of, has_some, made_of}
use Rattle.fixed_pack.specs.Unpack.{HaveLength}
use Rattle.fixed_pack.specs.Word.{joined}
use Rattle.fixed_pack.specs.declared.recoder.Recoder.{Recoder}
use Rattle.fixed_pack.specs.declared.recoder.RefusedWord.{RefusedWord}

joined_both : (ws vs : List (List ℕ)) → joined (ws ++ vs) ≡ joined ws ++ joined vs
joined_both [] vs = refl
joined_both (w ∷ ws) vs = ap (λ l. w ++ l) (joined_both ws vs) ∙ sym (append_assoc w (joined ws) (joined vs))

pub joined_more : (ws : List (List ℕ)) (w : List ℕ) → joined (ws ++ w ∷ []) ≡ joined ws ++ w
joined_more ws w = joined_both ws (w ∷ []) ∙ ap (λ l. joined ws ++ l) (append-nil w)

lengths_both : (size : ℕ) (ws vs : List (List ℕ)) → HaveLength size ws → HaveLength size vs → HaveLength size (ws ++ vs)
lengths_both size [] vs p q = q
lengths_both size (w ∷ ws) vs p q = (p.0, lengths_both size ws vs p.1 q)

pub lengths_more : (size : ℕ) (ws : List (List ℕ)) (w : List ℕ) → HaveLength size ws → length w ≡ size → HaveLength size (ws ++ w ∷ [])
lengths_more size ws w p one = lengths_both size ws (w ∷ []) p (one, tt)

pub joined_length : (size : ℕ) (ws : List (List ℕ)) → HaveLength size ws → length (joined ws) ≡ size * length ws
joined_length size [] p = omega arith
joined_length size (w ∷ ws) p = length-append w (joined ws) ∙ omega (arith, p.0, joined_length size ws p.1)

again : (k : ℕ) → one_more (capped k) ≡ capped (k + 1)
again k = omega arith

pub capped_more : (n m k : ℕ) → n ≡ one_more m → m ≡ capped k → n ≡ capped (k + 1)
capped_more n m k e f = e ∙ (ap one_more f ∙ again k)

pub nil_of : (xs : List ℕ) → length xs ≡ 0 → xs ≡ []
nil_of [] e = refl
nil_of (x ∷ xs) e = absurd (omega (arith, e))

pub one_less : (size left : ℕ) → 0 < left → size * left ≡ size + size * (left - 1)
one_less size zero some = absurd (omega (arith, some))
one_less size (suc n) some =
    let product : size * suc n ≡ size + size * n = omega arith in
    let same : n ≡ suc n - 1 = omega arith in
    product ∙ ap (λ k. size + size * k) same

pub cut_both : (chunk prefix rest a after b more : List ℕ) → chunk ≡ prefix ++ rest → rest ≡ a ++ after → after ≡ b ++ more → chunk ≡ ((prefix ++ a) ++ b) ++ more
cut_both chunk prefix rest a after b more e f g =
    e ∙ (ap (λ l. prefix ++ l) (f ∙ ap (λ l. a ++ l) g) ∙ (sym (append_assoc prefix a (b ++ more)) ∙ sym (append_assoc (prefix ++ a) b more)))

pub is_left : (b : Bool) (bytes : List ℕ) → (IsTrue b ↔ (bytes ≡ [])) → not b ≡ has_some bytes
is_left true [] h = refl
is_left true (c ∷ bytes) h = absurd (let no : c ∷ bytes ≡ [] = h.0 refl in omega (arith, ap length no))
is_left false [] h = sym (h.1 refl)
is_left false (c ∷ bytes) h = refl

or_more : (a b c : Bool) → (a || (b || c)) ≡ ((a || b) || c)
or_more true b c = refl
or_more false b c = refl

or_none : (b : Bool) → (b || false) ≡ b
or_none true = refl
or_none false = refl

-- an observer that saw some words and then others saw them all
saw_both : {W C : Type 0} (Saw : W → ℕ → List ℕ → Option C → W → Type 0) (watch : W) (count : ℕ) (ws vs : List (List ℕ)) (cs ds : List (Option C)) (mid : W) (total : ℕ) (last : W) (most : ℕ)
    → SawAll Saw watch count ws cs mid total → SawAll Saw mid total vs ds last most → SawAll Saw watch count (ws ++ vs) (cs ++ ds) last most
saw_both Saw watch count [] vs [] ds mid total last most saw more =
    subst (λ w. SawAll Saw w count vs ds last most) saw.0 (subst (λ n. SawAll Saw mid n vs ds last most) saw.1 more)
saw_both Saw watch count [] vs (c ∷ cs) ds mid total last most saw more = absurd saw
saw_both Saw watch count (w ∷ ws) vs [] ds mid total last most saw more = absurd saw
saw_both Saw watch count (w ∷ ws) vs (c ∷ cs) ds mid total last most saw more = (saw.0, saw.1, saw_both Saw saw.0 (one_more count) ws vs cs ds mid total last most saw.2 more)

-- and then one more word
saw_more : {W C : Type 0} (Saw : W → ℕ → List ℕ → Option C → W → Type 0) (watch : W) (count : ℕ) (ws : List (List ℕ)) (causes : List (Option C)) (last : W) (total : ℕ) (word : List ℕ) (cause : Option C) (then : W)
    → SawAll Saw watch count ws causes last total → Tells Saw last (one_more total) word cause then → SawAll Saw watch count (ws ++ word ∷ []) (causes ++ cause ∷ []) then (one_more total)
saw_more Saw watch count ws causes last total word cause then saw tells =
    saw_both Saw watch count ws (word ∷ []) causes (cause ∷ []) last total then (one_more total) saw (then, tells, (refl, refl))

-- the count after more words
abbrev counted : ℕ → List (List ℕ) → ℕ
counted n [] = n
counted n (w ∷ ws) = counted (one_more n) ws

counted_is : (k : ℕ) (ws : List (List ℕ)) → counted (capped k) ws ≡ capped (k + length ws)
counted_is k [] = ap capped (let e : k ≡ k + 0 = omega arith in e)
counted_is k (w ∷ ws) = ap (λ n. counted n ws) (again k) ∙ (counted_is (k + 1) ws ∙ ap capped (let e : k + 1 + length ws ≡ k + length (w ∷ ws) = omega arith in e))

module _ {C : Type 0} where
  made_both : (a b : List (List ℕ × Option C)) → made_of (a ++ b) ≡ made_of a ++ made_of b
  made_both [] b = refl
  made_both (m ∷ a) b = ap (λ l. m.0 ++ l) (made_both a b) ∙ sym (append_assoc m.0 (made_of a) (made_of b))

  causes_both : (a b : List (List ℕ × Option C)) → causes_of (a ++ b) ≡ causes_of a ++ causes_of b
  causes_both [] b = refl
  causes_both (m ∷ a) b = ap (λ l. m.1 ∷ l) (causes_both a b)

  any_both : (a b : List (List ℕ × Option C)) → any_refused (a ++ b) ≡ (any_refused a || any_refused b)
  any_both [] b = refl
  any_both (m ∷ a) b = ap (λ f. is_some m.1 || f) (any_both a b) ∙ or_more (is_some m.1) (any_refused a) (any_refused b)

  recoded_both : (R : List ℕ → List ℕ → Option C → Type 0) (ws vs : List (List ℕ)) (a b : List (List ℕ × Option C)) → AreRecoded R ws a → AreRecoded R vs b → AreRecoded R (ws ++ vs) (a ++ b)
  recoded_both R [] vs [] b are more = more
  recoded_both R [] vs (u ∷ a) b are more = absurd are
  recoded_both R (w ∷ ws) vs [] b are more = absurd are
  recoded_both R (w ∷ ws) vs (u ∷ a) b are more = (are.0, recoded_both R ws vs a b are.1 more)

module _ {C : Type 0} (t : List ℕ) (c : Option C) (all : List (List ℕ × Option C)) where
  pub made_more : made_of (all ++ (t, c) ∷ []) ≡ made_of all ++ t
  made_more = made_both all ((t, c) ∷ []) ∙ ap (λ l. made_of all ++ l) (append-nil t)

  causes_more : causes_of (all ++ (t, c) ∷ []) ≡ causes_of all ++ c ∷ []
  causes_more = causes_both all ((t, c) ∷ [])

  pub any_more : any_refused (all ++ (t, c) ∷ []) ≡ (any_refused all || is_some c)
  any_more = any_both all ((t, c) ∷ []) ∙ ap (λ f. any_refused all || f) (or_none (is_some c))

  pub recoded_more : (R : List ℕ → List ℕ → Option C → Type 0) (ws : List (List ℕ)) (w : List ℕ) → AreRecoded R ws all → R w t c → AreRecoded R (ws ++ w ∷ []) (all ++ (t, c) ∷ [])
  recoded_more R ws w are one = recoded_both R ws (w ∷ []) all ((t, c) ∷ []) are (one, tt)

-- ---- words from the front of some bytes
module _ {C : Type 0} (size : ℕ) (R : List ℕ → List ℕ → Option C → Type 0) (bytes before : List ℕ) where
  -- the words leave these bytes
  abbrev pub Leaves : (now : List ℕ) (count : ℕ) → List ℕ → Type 0
  Leaves now count rest = (front : AreFront size R bytes before now count) × (front.rest ≡ rest)

  pub front_none : (count : ℕ) → count ≡ 0 → Leaves before count bytes
  front_none count is = (record { words = []; all = []; rest = bytes; whole = tt; cut = refl; count_is = is; are = tt; none = refl; appended = sym (append-nil before) }, refl)

  -- one more word
  pub front_more : (now : List ℕ) (count : ℕ) (left : List ℕ) (word rest made then : List ℕ) (c : Option C) (next : ℕ) → Leaves now count left → left ≡ word ++ rest → length word ≡ size → R word made c → is_some c ≡ false → then ≡ now ++ made → next ≡ count + 1
      → Leaves then next rest
  front_more now count left word rest made then c next (front, left_is) split whole is clean appended one = (
    record {
      words = front.words ++ word ∷ [];
      all = front.all ++ (made, c) ∷ [];
      rest = rest;
      whole = lengths_more size front.words word front.whole whole;
      cut = front.cut ∙ (ap (λ l. joined front.words ++ l) (left_is ∙ split) ∙ (sym (append_assoc (joined front.words) word rest) ∙ ap (λ l. l ++ rest) (sym (joined_more front.words word))));
      count_is = one ∙ (ap (λ n. n + 1) front.count_is ∙ sym (length-append front.words (word ∷ [])));
      are = recoded_more made c front.all R front.words word front.are is;
      none = any_more made c front.all ∙ (ap (λ f. f || is_some c) front.none ∙ clean);
      appended = appended ∙ (ap (λ l. l ++ made) front.appended ∙ (append_assoc before (made_of front.all) made ∙ ap (λ l. before ++ l) (sym (made_more made c front.all))));
    },
    refl,
  )

-- the words are together no longer than the bytes
pub front_within : {C : Type 0} (size : ℕ) (R : List ℕ → List ℕ → Option C → Type 0) (bytes before after : List ℕ) (count : ℕ) → AreFront size R bytes before after count → size * count ≤ length bytes
front_within size R bytes before after count front =
    omega (arith, ap (λ n. size * n) front.count_is, joined_length size front.words front.whole, ap length front.cut, length-append (joined front.words) front.rest)

module _ {Q W C : Type 0} (size : ℕ) (R : List ℕ → List ℕ → Option C → Type 0) (F : List ℕ → C → Type 0) (Saw : W → ℕ → List ℕ → Option C → W → Type 0) (rule : Q) (watch : W) (bytes made : List ℕ) (spent : ℕ) (old : Recoder Q W)
    (makes : GoesOn size R Saw rule watch bytes made old) where
  abbrev words : List (List ℕ)
  words = makes.words

  abbrev Makes : List ℕ → List ℕ → ℕ → How (RefusedWord C) → Recoder Q W → Type 0
  Makes = MakesWords size R F Saw rule watch

  made_same : made ++ [] ≡ made_of makes.all
  made_same = append-nil made ∙ makes.text_is

  -- takes more bytes of an incomplete word
  pub part_goes : (new : Recoder Q W) (piece : List ℕ) (a : Moment) → length old.part.bytes + length piece < old.part.size → new.part ≡ part_of (old.part.bytes ++ piece) old.part.size → new.rule ≡ old.rule → new.words ≡ old.words → new.has_fault ≡ old.has_fault
      → new.watch ≡ old.watch → Goes Makes bytes made spent piece going new a a
  part_goes new piece a short part same count fault saw =
      let bytes_are : new.part.bytes ≡ old.part.bytes ++ piece = ap (λ (p : PartView). p.bytes) part in
      record {
        more = [];
        cost = 0;
        makes = record {
          words = words;
          all = makes.all;
          are_words = record {
            whole = makes.are_words.whole;
            short = omega (arith, short, ap length bytes_are, makes.size_is, length-append old.part.bytes piece);
            cut = ap (λ l. l ++ piece) makes.are_words.cut ∙ (append_assoc (joined words) old.part.bytes piece ∙ ap (λ l. joined words ++ l) (sym bytes_are));
          };
          are = makes.are;
          text_is = made_same;
          rule_is = same ∙ makes.rule_is;
          size_is = ap (λ (p : PartView). p.size) part ∙ makes.size_is;
          count = count ∙ makes.count;
          faulty = fault ∙ makes.faulty;
          saw = subst (λ w. SawAll Saw watch 0 words (causes_of makes.all) w new.words) (sym saw) (subst (SawAll Saw watch 0 words (causes_of makes.all) old.watch) (sym count) makes.saw);
        };
        puts = puts_none a.seen a.held;
        steps = omega arith;
      }

  -- a piece completes a word
  module _ (piece : List ℕ) (whole : length old.part.bytes + length piece ≡ old.part.size) where
    abbrev word : List ℕ
    word = old.part.bytes ++ piece

    word_size : length word ≡ size
    word_size = length-append old.part.bytes piece ∙ whole ∙ makes.size_is

    word_cut : bytes ++ piece ≡ joined words ++ word
    word_cut = ap (λ l. l ++ piece) makes.are_words.cut ∙ append_assoc (joined words) old.part.bytes piece

    told : (cause : Option C) (new : Recoder Q W) → new.words ≡ one_more old.words → Saw old.watch (one_more old.words) word cause new.watch
        → SawAll Saw watch 0 (words ++ word ∷ []) (causes_of makes.all ++ cause ∷ []) new.watch new.words
    told cause new count saw = subst (SawAll Saw watch 0 (words ++ word ∷ []) (causes_of makes.all ++ cause ∷ []) new.watch) (sym count)
        (saw_more Saw watch 0 words (causes_of makes.all) old.watch old.words word cause new.watch makes.saw (record { told = word; is = refl; saw = saw }))

    -- the word is recoded
    word_goes : (new : Recoder Q W) (a b : Seen) (held held1 held2 : List ℕ) (steps steps' : ℕ) → Puts a b held held1 [] → RecodesWord (R word) Saw word old.words old.has_fault old.watch new held1 held2 → new.rule ≡ old.rule → new.part ≡ part_of [] old.part.size
        → Goes Makes bytes made spent piece going new (moment a held steps) (moment b held2 steps')
    word_goes new a b held held1 held2 steps steps' puts one same part =
        let t : List ℕ = one.becomes.made in
        let all : List (List ℕ × Option C) = makes.all ++ (t, one.cause) ∷ [] in
        let none : new.part.bytes ≡ [] = ap (λ (p : PartView). p.bytes) part in
        record {
          more = t;
          cost = steps';
          makes = record {
            words = words ++ word ∷ [];
            all = all;
            are_words = record {
              whole = lengths_more size words word makes.are_words.whole word_size;
              short = omega (arith, makes.are_words.short, ap length none);
              cut = word_cut ∙ (sym (joined_more words word) ∙ (sym (append-nil (joined (words ++ word ∷ []))) ∙ ap (λ l. joined (words ++ word ∷ []) ++ l) (sym none)));
            };
            are = recoded_more t one.cause makes.all R words word makes.are one.becomes.is;
            text_is = ap (λ l. l ++ t) makes.text_is ∙ sym (made_more t one.cause makes.all);
            rule_is = same ∙ makes.rule_is;
            size_is = ap (λ (p : PartView). p.size) part ∙ makes.size_is;
            count = capped_more new.words old.words (length words) one.count makes.count ∙ ap capped (sym (length-append words (word ∷ [])));
            faulty = one.faulty ∙ (ap (λ f. f || is_some one.cause) makes.faulty ∙ sym (any_more t one.cause makes.all));
            saw = subst (λ cs. SawAll Saw watch 0 (words ++ word ∷ []) cs new.watch new.words) (sym (causes_more t one.cause makes.all)) (told one.cause new one.count one.saw);
          };
          puts = puts_both a b b held held1 held2 [] t puts (puts_held b held1 held2 t one.becomes.appended);
          steps = omega arith;
        }

    -- the word ends the input
    word_stops : (new : Recoder Q W) (refused : RefusedWord C) (a b : Seen) (held held1 held2 : List ℕ) (steps steps' : ℕ) → Puts a b held held1 [] → RefusesWord (F word) Saw word old.words old.watch new held1 held2 refused
        → Goes Makes bytes made spent piece (stopped false refused) new (moment a held steps) (moment b held2 steps')
    word_stops new refused a b held held1 held2 steps steps' puts one = record {
      more = [];
      cost = steps';
      makes = (
        record {
          before = words;
          all = makes.all;
          more = [];
          whole = makes.are_words.whole;
          whole_word = ap length one.word_is ∙ word_size;
          cut = word_cut ∙ ap (λ l. joined words ++ l) (sym one.word_is ∙ sym (append-nil refused.word));
          are = makes.are;
          text_is = made_same;
          why = subst (λ w. F w refused.cause) (sym one.word_is) one.why;
          number = capped_more refused.number old.words (length words) one.number_is makes.count;
          saw = subst (λ w. SawAll Saw watch 0 (words ++ w ∷ []) (causes_of makes.all ++ Some refused.cause ∷ []) new.watch new.words) (sym one.word_is) (told (Some refused.cause) new one.count one.saw);
        },
        refl,
      );
      puts = subst (λ h. Puts a b held h []) (sym one.none) puts;
      steps = omega arith;
    }

    word_halts : (new : Recoder Q W) (a b : Seen) (held held1 held2 : List ℕ) (steps steps' : ℕ) (halt : Halt (RefusedWord C)) → Puts a b held held1 [] → EndsWord R F Saw word old.words old.has_fault old.watch new held1 held2 (Err halt)
        → Halts Makes false bytes made spent piece new (moment a held steps) (moment b held2 steps') halt
    word_halts new a b held held1 held2 steps steps' WriteFault puts e = absurd e
    word_halts new a b held held1 held2 steps steps' NoMemory puts e = absurd e
    word_halts new a b held held1 held2 steps steps' (Stopped r) puts e = word_stops new r a b held held1 held2 steps steps' puts e

    pub word_feeds : (new : Recoder Q W) (a b : Seen) (held held1 held2 : List ℕ) (steps steps' : ℕ) (result : Result (Unit {0}) (Halt (RefusedWord C))) → Puts a b held held1 [] → EndsWord R F Saw word old.words old.has_fault old.watch new held1 held2 result
        → new.rule ≡ old.rule → new.part ≡ part_of [] old.part.size → Feeds Makes bytes made spent piece new (moment a held steps) (moment b held2 steps') result
    word_feeds new a b held held1 held2 steps steps' (Ok u) puts e same part = word_goes new a b held held1 held2 steps steps' puts e same part
    word_feeds new a b held held1 held2 steps steps' (Err halt) puts e same part = word_halts new a b held held1 held2 steps steps' halt puts e

  -- words recoded at once, if the observer takes no notice of them
  module _ (blind : (number : ℕ) (word : List ℕ) (cause : Option C) → Saw old.watch number word cause old.watch) where
    saw_blind : (count : ℕ) (ws : List (List ℕ)) (all : List (List ℕ × Option C)) → AreRecoded R ws all → SawAll Saw old.watch count ws (causes_of all) old.watch (counted count ws)
    saw_blind count [] [] are = (refl, refl)
    saw_blind count [] (m ∷ all) are = absurd are
    saw_blind count (w ∷ ws) [] are = absurd are
    saw_blind count (w ∷ ws) (m ∷ all) are = (old.watch, record { told = w; is = refl; saw = blind (one_more count) w m.1 }, saw_blind (one_more count) ws all are.1)

    pub front_goes : (piece held held1 : List ℕ) (count : ℕ) (words_after : ℕ) (a : Seen) (steps : ℕ) → old.part.bytes ≡ [] → AreFront size R piece held held1 count → words_after ≡ capped (old.words + count)
        → Goes Makes bytes made spent (take (size * count) piece) going (record { rule = old.rule; part = old.part; words = words_after; has_fault = old.has_fault; watch = old.watch }) (moment a held steps) (moment a held1 steps)
    front_goes piece held held1 count words_after a steps none front after =
        let ws : List (List ℕ) = words ++ front.words in
        let taken : List ℕ = take (size * count) piece in
        let taken_is : taken ≡ joined front.words =
        ap (λ n. take n piece) (ap (λ n. size * n) front.count_is ∙ sym (joined_length size front.words front.whole)) ∙ (ap (take (length (joined front.words))) front.cut ∙ take_first (joined front.words) front.rest) in
        let before : bytes ≡ joined words = makes.are_words.cut ∙ (ap (λ l. joined words ++ l) none ∙ append-nil (joined words)) in
        let total : words_after ≡ capped (length words + length front.words) = after ∙ (ap (λ n. capped (n + count)) makes.count ∙ omega (arith, front.count_is)) in
        record {
          more = made_of front.all;
          cost = 0;
          makes = record {
            words = ws;
            all = makes.all ++ front.all;
            are_words = record {
              whole = lengths_both size words front.words makes.are_words.whole front.whole;
              short = makes.are_words.short;
              cut = ap (λ l. l ++ taken) before ∙ (ap (λ l. joined words ++ l) taken_is ∙ (sym (joined_both words front.words) ∙ (sym (append-nil (joined ws)) ∙ ap (λ l. joined ws ++ l) (sym none))));
            };
            are = recoded_both R words front.words makes.all front.all makes.are front.are;
            text_is = ap (λ l. l ++ made_of front.all) makes.text_is ∙ sym (made_both makes.all front.all);
            rule_is = makes.rule_is;
            size_is = makes.size_is;
            count = total ∙ ap capped (sym (length-append words front.words));
            faulty = makes.faulty ∙ (sym (or_none (any_refused makes.all)) ∙ (ap (λ f. any_refused makes.all || f) (sym front.none) ∙ sym (any_both makes.all front.all)));
            saw = subst (λ cs. SawAll Saw watch 0 ws cs old.watch words_after) (sym (causes_both makes.all front.all))
                (subst (SawAll Saw watch 0 ws (causes_of makes.all ++ causes_of front.all) old.watch) (ap (λ n. counted n front.words) makes.count ∙ (counted_is (length words) front.words ∙ sym total))
                (saw_both Saw watch 0 words front.words (causes_of makes.all) (causes_of front.all) old.watch old.words old.watch (counted old.words front.words) makes.saw (saw_blind old.words front.words front.all front.are)));
          };
          puts = puts_held a held held1 (made_of front.all) front.appended;
          steps = omega arith;
        }

  -- the end of the input
  pub input_ends : (a : Moment) (fault : Bool) → fault ≡ (old.has_fault || has_some old.part.bytes) → Goes Makes bytes made spent [] (finished fault) old a a
  input_ends a fault is = record {
    more = [];
    cost = 0;
    makes = (subst (λ l. GoesOn size R Saw rule watch l (made ++ []) old) (sym (append-nil bytes)) (subst (λ l. GoesOn size R Saw rule watch bytes l old) (sym (append-nil made)) makes), is);
    puts = puts_none a.seen a.held;
    steps = omega arith;
  }

-- ---- a run between equal views of its devices
pub run_as : {M T : Type 0} (Makes : List ℕ → List ℕ → ℕ → How T → M → Type 0) (last : M) (limit : ℕ) (a a' b b' : Seen) (none held : List ℕ) (steps steps' : ℕ) (end : End T) → a ≡ a' → b ≡ b' → none ≡ []
    → HasRun Makes last limit (moment a none steps) (moment b held steps') end → HasRun Makes last limit (moment a' [] steps) (moment b' held steps') end
run_as Makes last limit a a' b b' none held steps steps' end before after empty run =
    subst (λ x. HasRun Makes last limit (moment x [] steps) (moment b' held steps') end) before
    (subst (λ x. HasRun Makes last limit (moment a [] steps) (moment x held steps') end) after
    (subst (λ h. HasRun Makes last limit (moment a h steps) (moment b held steps') end) empty run))

-- a new machine has recoded nothing
pub nothing_recoded : {Q W C : Type 0} (size : ℕ) (R : List ℕ → List ℕ → Option C → Type 0) (Saw : W → ℕ → List ℕ → Option C → W → Type 0) (new : Recoder Q W) → 0 < size → new.part ≡ part_of [] size → new.words ≡ 0 → new.has_fault ≡ false
    → GoesOn size R Saw new.rule new.watch [] [] new
nothing_recoded size R Saw new some part count fault =
    let none : new.part.bytes ≡ [] = ap (λ (p : PartView). p.bytes) part in
    record {
      words = [];
      all = [];
      are_words = record { whole = tt; short = omega (arith, some, ap length none); cut = sym none };
      are = tt;
      text_is = refl;
      rule_is = refl;
      size_is = ap (λ (p : PartView). p.size) part;
      count = count;
      faulty = fault;
      saw = (refl, count);
    }
