-- What a machine makes of words, each recoded by a rule, up to the first that ends the input.
use Rattle.std.specs.Prelude.{◌≡◌, ◌+◌, ◌-◌, ◌^◌, ◌||◌, ℕ, Bool, true, false, List, [], ◌∷◌, ◌++◌, Option, Some}
use Rattle.std.specs.Prelude.{Result, Ok, Err, is_some, length, min}
use Rattle.run_engine.specs.LineRun.{SawAll, one_more}
use Rattle.run_engine.specs.Machines.{How, going, finished, lacking, stopped}
use Rattle.run_engine.specs.Run.{HasRun}
use Rattle.run_engine.specs.Seen.{Seen, moment}
use Rattle.run_engine.specs.declared.engine.End.{End}
use Rattle.run_engine.specs.declared.machine.Halt.{Halt}
use Rattle.run_engine.specs.declared.machine.Halt.TheVariants.{WriteFault, NoMemory, Stopped}
use Rattle.fixed_pack.specs.Unpack.{AreWords, HaveLength}
use Rattle.fixed_pack.specs.Word.{joined}
use Rattle.fixed_pack.specs.declared.recoder.Recoder.{Recoder}
use Rattle.fixed_pack.specs.declared.recoder.RefusedWord.{RefusedWord}

-- A rule's meaning is two relations: `R word made cause`, a word becomes these bytes, which report that it is refused
-- if there is a cause, and `F word why`, it is refused for a cause and ends the input. An observer's is `Saw`.

-- ---- one word
-- these bytes are appended that a word becomes, or nothing and the word ends the input
pub record Becomes {C : Type 0} (R : List ℕ → Option C → Type 0) (before after : List ℕ) (cause : Option C)
    : Type 0 where
  pub made : List ℕ
  pub is : R made cause
  pub appended : after ≡ before ++ made

abbrev pub IsRecoded : {C : Type 0} → (List ℕ → Option C → Type 0) → (C → Type 0) → List ℕ → List ℕ
    → Result (Option C) C → Type 0
IsRecoded R F before after (Ok cause) = Becomes R before after cause
IsRecoded R F before after (Err why) = F why × (after ≡ before)

-- a count, up to the last value of u64
abbrev pub capped : ℕ → ℕ
capped n = min n (2 ^ 64 - 1)

-- the machine after one more word was recoded: `words` words came before, and `fault` says whether one was refused
pub record RecodesWord {Q W C : Type 0} (R : List ℕ → Option C → Type 0) (Saw : W → ℕ → List ℕ → Option C → W → Type 0)
    (word : List ℕ) (words : ℕ) (fault : Bool) (watch : W) (new : Recoder Q W) (before after : List ℕ) : Type 0 where
  pub cause : Option C
  pub becomes : Becomes R before after cause
  pub count : new.words ≡ one_more words
  pub faulty : new.has_fault ≡ (fault || is_some cause)
  pub saw : Saw watch (one_more words) word cause new.watch

-- or it ends the input
pub record RefusesWord {Q W C : Type 0} (F : C → Type 0) (Saw : W → ℕ → List ℕ → Option C → W → Type 0)
    (word : List ℕ) (words : ℕ) (watch : W) (new : Recoder Q W) (before after : List ℕ) (refused : RefusedWord C)
    : Type 0 where
  pub number_is : refused.number ≡ one_more words
  pub word_is : refused.word ≡ word
  pub why : F refused.cause
  pub none : after ≡ before
  pub count : new.words ≡ one_more words
  pub saw : Saw watch (one_more words) word (Some refused.cause) new.watch

abbrev pub EndsWord : {Q W C : Type 0} → (List ℕ → List ℕ → Option C → Type 0) → (List ℕ → C → Type 0)
    → (W → ℕ → List ℕ → Option C → W → Type 0) → List ℕ → ℕ → Bool → W → Recoder Q W → List ℕ → List ℕ
    → Result (Unit {0}) (Halt (RefusedWord C)) → Type 0
EndsWord R F Saw word words fault watch new before after (Ok _) =
    RecodesWord (R word) Saw word words fault watch new before after
EndsWord R F Saw word words fault watch new before after (Err WriteFault) = ⊥
EndsWord R F Saw word words fault watch new before after (Err NoMemory) = ⊥
EndsWord R F Saw word words fault watch new before after (Err (Stopped refused)) =
    RefusesWord (F word) Saw word words watch new before after refused

-- ---- all of them
-- each word becomes its bytes, with its cause
abbrev pub AreRecoded : {C : Type 0} → (List ℕ → List ℕ → Option C → Type 0) → List (List ℕ)
    → List (List ℕ × Option C) → Type 0
AreRecoded R [] [] = Unit {0}
AreRecoded R [] (made ∷ all) = ⊥
AreRecoded R (word ∷ words) [] = ⊥
AreRecoded R (word ∷ words) (made ∷ all) = R word made.0 made.1 × AreRecoded R words all

-- those bytes, one after another; the causes; and whether there is one
abbrev pub made_of : {C : Type 0} → List (List ℕ × Option C) → List ℕ
made_of [] = []
made_of (made ∷ all) = made.0 ++ made_of all

abbrev pub causes_of : {C : Type 0} → List (List ℕ × Option C) → List (Option C)
causes_of [] = []
causes_of (made ∷ all) = made.1 ∷ causes_of all

abbrev pub any_refused : {C : Type 0} → List (List ℕ × Option C) → Bool
any_refused [] = false
any_refused (made ∷ all) = is_some made.1 || any_refused all

-- the first `count` words of the bytes, none of them refused, become what is appended
pub record AreFront {C : Type 0} (size : ℕ) (R : List ℕ → List ℕ → Option C → Type 0) (bytes before after : List ℕ)
    (count : ℕ) : Type 0 where
  pub words : List (List ℕ)
  pub all : List (List ℕ × Option C)
  pub rest : List ℕ
  pub whole : HaveLength size words
  pub cut : bytes ≡ joined words ++ rest
  pub count_is : count ≡ length words
  pub are : AreRecoded R words all
  pub none : any_refused all ≡ false
  pub appended : after ≡ before ++ made_of all

-- whether there are any bytes
abbrev pub has_some : List ℕ → Bool
has_some [] = false
has_some (b ∷ bytes) = true

-- ---- the machine
-- the bytes are cut into words of this size, each is recoded, and these bytes are left over; the observer was told of
-- each word
pub record GoesOn {Q W C : Type 0} (size : ℕ) (R : List ℕ → List ℕ → Option C → Type 0)
    (Saw : W → ℕ → List ℕ → Option C → W → Type 0) (rule : Q) (watch : W) (bytes text : List ℕ) (last : Recoder Q W)
    : Type 0 where
  pub words : List (List ℕ)
  pub all : List (List ℕ × Option C)
  pub are_words : AreWords size bytes words last.part.bytes
  pub are : AreRecoded R words all
  pub text_is : text ≡ made_of all
  pub rule_is : last.rule ≡ rule
  pub size_is : last.part.size ≡ size
  pub count : last.words ≡ capped (length words)
  pub faulty : last.has_fault ≡ any_refused all
  pub saw : SawAll Saw watch 0 words (causes_of all) last.watch last.words

-- the word of the bytes that ends the input; those before it are recoded
pub record StopsAt {Q W C : Type 0} (size : ℕ) (R : List ℕ → List ℕ → Option C → Type 0) (F : List ℕ → C → Type 0)
    (Saw : W → ℕ → List ℕ → Option C → W → Type 0) (watch : W) (bytes text : List ℕ) (refused : RefusedWord C)
    (last : Recoder Q W) : Type 0 where
  pub before : List (List ℕ)
  pub all : List (List ℕ × Option C)
  pub more : List ℕ
  pub whole : HaveLength size before
  pub whole_word : length refused.word ≡ size
  pub cut : bytes ≡ joined before ++ (refused.word ++ more)
  pub are : AreRecoded R before all
  pub text_is : text ≡ made_of all
  pub why : F refused.word refused.cause
  pub number : refused.number ≡ capped (length before + 1)
  pub saw : SawAll Saw watch 0 (before ++ refused.word ∷ []) (causes_of all ++ Some refused.cause ∷ []) last.watch
      last.words

abbrev pub MakesWords : {Q W C : Type 0} → ℕ → (List ℕ → List ℕ → Option C → Type 0) → (List ℕ → C → Type 0)
    → (W → ℕ → List ℕ → Option C → W → Type 0) → Q → W → List ℕ → List ℕ → ℕ → How (RefusedWord C) → Recoder Q W
    → Type 0
MakesWords size R F Saw rule watch bytes text spent going last = GoesOn size R Saw rule watch bytes text last
MakesWords size R F Saw rule watch bytes text spent (finished fault) last =
    GoesOn size R Saw rule watch bytes text last × (fault ≡ (last.has_fault || has_some last.part.bytes))
MakesWords size R F Saw rule watch bytes text spent lacking last = ⊥
MakesWords size R F Saw rule watch bytes text spent (stopped late refused) last =
    StopsAt size R F Saw watch bytes text refused last × (late ≡ false)

-- ---- what a run leaves
-- a and b are what was seen of both devices before and after it, by names for them; the observer became `then`
pub record HasRecoded {Q W C : Type 0} (limit size : ℕ) (R : List ℕ → List ℕ → Option C → Type 0)
    (F : List ℕ → C → Type 0) (Saw : W → ℕ → List ℕ → Option C → W → Type 0) (rule : Q) (watch then : W)
    (a b : ℕ → ℕ → Seen)
    (steps steps' left_over : ℕ) (end : End (RefusedWord C)) : Type 0 where
  pub last : Recoder Q W
  pub held : List ℕ
  pub source : ℕ
  pub sink : ℕ
  pub run : HasRun (MakesWords size R F Saw rule watch) last limit (moment (a source sink) [] steps)
      (moment (b source sink) held steps') end
  pub over : left_over ≡ length last.part.bytes
  pub watched : then ≡ last.watch
