-- Lemmas for the proofs of dependent crates: laws of words and of blocks.
use Rattle.std.proofs.Common.{◌≡◌, ℕ, ◌+◌, ◌≤◌, List, [], ◌∷◌, ◌++◌, Bor, IfSome, Option, codes, length, take, true, false}
use Rattle.fixed_bits.specs.Formats.{FormatParts}
use Rattle.fixed_bits.specs.declared.format.Policy.{Policy}
use Rattle.fixed_bits.specs.declared.mode.ReadMode.{ReadMode}
use Rattle.fixed_numeral.specs.declared.radix.Radix.{Radix}
use Rattle.fixed_show.specs.ShowBlock.{AreShowFacts}
use Rattle.fixed_show.specs.declared.form.Form.{Form}
use Rattle.fixed_show.specs.declared.form.Form.TheVariants.{Members}
use Rattle.fixed_show.specs.BlockLaws.{BitsBlockIsTheOne, BitsObjectIsTheOne, ShowBlockIsTheOne, ShowObjectIsTheOne, ShowRefusalIsTheOne}
use Rattle.fixed_show.specs.DecimalError.{DecimalErrorIsTheOne}
use Rattle.fixed_show.specs.FormatBlock.{FormatBlockIsTheOne, FormatObjectIsTheOne}
use Rattle.fixed_show.specs.Forms.{refusal}
use Rattle.fixed_show.specs.JsonText.{json_text, object_text}
use Rattle.fixed_show.specs.Measured.{MeasuredErrorIsTheOne}
use Rattle.fixed_show.specs.PartLaws.{PartBlockIsTheOne, PartFaultIsTheOne, PartHasNoFault, PartIsTheOne, PartObjectIsTheOne}
use Rattle.fixed_show.specs.ShortError.{ErrorTextIsTheOne}
use Rattle.fixed_show.specs.WordLaws.{WordFaultIsTheOne, WordHasNoFault, WordIsTheOne}
use Rattle.fixed_show.proofs.BlockLawLemmas
use Rattle.fixed_show.proofs.DecimalErrorLemmas
use Rattle.fixed_show.proofs.FormatLawLemmas
use Rattle.fixed_show.proofs.JsonLemmas
use Rattle.fixed_show.proofs.MeasureLemmas
use Rattle.fixed_show.proofs.PartLemmas
use Rattle.fixed_show.proofs.WordLawLemmas

pub word_one : WordIsTheOne
word_one = WordLawLemmas.word_one

pub word_fault_one : WordFaultIsTheOne
word_fault_one = WordLawLemmas.fault_one

pub word_has_no_fault : WordHasNoFault
word_has_no_fault = WordLawLemmas.no_fault

pub bits_block_one : BitsBlockIsTheOne
bits_block_one = BlockLawLemmas.bits_block_one

pub show_block_one : ShowBlockIsTheOne
show_block_one = BlockLawLemmas.show_block_one

pub show_refusal_one : ShowRefusalIsTheOne
show_refusal_one = BlockLawLemmas.refusal_one

pub format_block_one : FormatBlockIsTheOne
format_block_one = FormatLawLemmas.format_block_one

pub format_object_one : FormatObjectIsTheOne
format_object_one = FormatLawLemmas.format_object_one

pub part_one : PartIsTheOne
part_one = PartLemmas.part_one

pub part_fault_one : PartFaultIsTheOne
part_fault_one = PartLemmas.part_fault_one

pub part_has_no_fault : PartHasNoFault
part_has_no_fault = PartLemmas.part_no_fault

pub part_block_one : PartBlockIsTheOne
part_block_one = PartLemmas.part_block_one

pub bits_object_one : BitsObjectIsTheOne
bits_object_one = BlockLawLemmas.bits_object_one

pub show_object_one : ShowObjectIsTheOne
show_object_one = BlockLawLemmas.show_object_one

pub part_object_one : PartObjectIsTheOne
part_object_one = PartLemmas.part_object_one

pub show_facts_apart : (form : Form) (mode : ReadMode) (r : Radix) (bytes : List ℕ) (f : FormatParts) (policy : Policy) (a b : List ℕ) → AreShowFacts form mode r bytes f policy true a → AreShowFacts form mode r bytes f policy false b → ⊥
show_facts_apart form mode r bytes f policy a b x y = BlockLawLemmas.show_facts_apart form mode r bytes f policy a b x y

pub decimal_error_one : DecimalErrorIsTheOne
decimal_error_one = DecimalErrorLemmas.decimal_error_one

pub measured_error_one : MeasuredErrorIsTheOne
measured_error_one = BlockLawLemmas.measured_error_one

pub error_text_one : ErrorTextIsTheOne
error_text_one = MeasureLemmas.error_text_one

pub object_longer : (bytes members : List ℕ) → (length members ≤ length (object_text bytes members)) × (length (object_text bytes members) ≤ 4621 + length members)
object_longer = JsonLemmas.object_longer

pub object_refused : (old a b c bytes : List ℕ) (message : Option (Bor (List ℕ))) → a ≡ old ++ (codes "{\"given\":" ++ json_text (take 768 bytes)) → IfSome message (λ m. b ≡ a ++ refusal Members m.now) → c ≡ b ++ 125 ∷ []
    → IfSome message (λ m. c ≡ old ++ object_text bytes (refusal Members m.now))
object_refused = JsonLemmas.object_refused
