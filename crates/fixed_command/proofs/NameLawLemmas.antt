-- The value of an option names at most one thing.
use Rattle.std.proofs.Common.{◌≡◌, ◌∙◌, ◌==◌, ℕ, List, Some, None, if◌then◌else◌, get_or, refl, sym, ap}
use Rattle.fixed_respell.specs.Lemmas.AnswerLemmas.{mode_one, policy_one, radix_one}
use Rattle.fixed_respell.specs.Words.{mode_text, policy_text, radix_text}
use Rattle.fixed_command.specs.Asked.{IsPrintWord, spelling_text}
use Rattle.fixed_command.specs.NameLaws.{NamedIsTheOne, NamesAreTheOnes, PrintNamedIsTheOne}
use Rattle.fixed_command.specs.declared.print.Print.{Print}
use Rattle.fixed_command.specs.declared.print.Print.TheVariants.{All, Bits, Hex, Places, Readmemh, Text, Value}
use Rattle.fixed_command.specs.declared.spelling.Spelling.{Spelling}
use Rattle.fixed_command.specs.declared.spelling.Spelling.TheVariants.{Numeral, Word}

named_one : (A : Type 0) (text : A → List ℕ) → ((a b : A) → text a ≡ text b → a ≡ b) → NamedIsTheOne A text
named_one A text one plain None a b x y = x ∙ sym y
named_one A text one plain (Some word) a b x y = one a b (sym x ∙ y)

byte_at : ℕ → List ℕ → ℕ
byte_at i word = get_or word i 0

spelling_at : List ℕ → Spelling
spelling_at word = if byte_at 0 word == 116 then Numeral else Word

spelling_back : (s : Spelling) → spelling_at (spelling_text s) ≡ s
unfolding spelling_at byte_at
spelling_back Numeral = refl
spelling_back Word = refl

spelling_one : (s t : Spelling) → spelling_text s ≡ spelling_text t → s ≡ t
spelling_one s t e = sym (spelling_back s) ∙ (ap spelling_at e ∙ spelling_back t)

print_at : List ℕ → Print
print_at word = if byte_at 0 word == 116 then Text else if byte_at 0 word == 98 then Bits else if byte_at 0 word == 104 then Hex
    else if byte_at 0 word == 114 then Readmemh else if byte_at 0 word == 118 then Value else All

print_is : (word : List ℕ) (p : Print) → IsPrintWord word p → print_at word ≡ p
unfolding print_at byte_at
print_is word Text x = ap print_at x
print_is word (Places count mode) x = absurd x
print_is word Bits x = ap print_at x
print_is word Hex x = ap print_at x
print_is word Readmemh x = ap print_at x
print_is word Value x = ap print_at x
print_is word All x = ap print_at x

print_one : PrintNamedIsTheOne
print_one None a b x y = x ∙ sym y
print_one (Some word) a b x y = sym (print_is word a x) ∙ print_is word b y

pub names_one : NamesAreTheOnes
names_one = record {
  radix = named_one _ radix_text radix_one;
  policy = named_one _ policy_text policy_one;
  mode = named_one _ mode_text mode_one;
  spelling = named_one _ spelling_text spelling_one;
  print = print_one;
}
