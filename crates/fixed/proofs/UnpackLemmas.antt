-- Refused operands and options of `fixed unpack` and `fixed repack`.
use Rattle.std.proofs.Common.{◌≡◌, ℕ, List, None, Option, Some, inl, inr, refl, subst}
use Rattle.std.specs.Prelude.{◌*◌, ◌-◌, ◌^◌, drop, min, option_map, take}
use Rattle.command_line.specs.Words.{keyword_at, word_at}
use Rattle.command_line.specs.declared.given.Given.{Given}
use Rattle.fixed_bits.specs.Formats.{FormatParts}
use Rattle.fixed_command.specs.Asked.{IsNamed}
use Rattle.fixed_command.specs.declared.convert.Settings.{Settings}
use Rattle.fixed_pack.specs.declared.endian.Endian.{Endian}
use Rattle.line_engine.specs.Memory.{next_count}
use Rattle.fixed.specs.Amounts.{IsDecimalAsked, NamesNoDecimal}
use Rattle.fixed.specs.Convert.{IsConversionAsked}
use Rattle.fixed.specs.Lines.{IsTargetAsked}
use Rattle.fixed.specs.RecodeRuns.{requested, size_of}
use Rattle.fixed.specs.Settings.{endian_text}
use Rattle.fixed.specs.Unpack.{AreWordsUnpacked, IsAmountWritten, IsBinaryWritten, IsWrittenAsked}
use Rattle.fixed.specs.declared.commands.unpack.Unpacking.{Unpacking}
use Rattle.fixed.specs.declared.commands.unpack.Written.{Written}
use Rattle.fixed.proofs.LawLemmas.{lines_one}
use Rattle.fixed.proofs.QuestionLemmas.{decimal_one}

-- the operands determine the index of the first file
files_one : (given : Given) (a b : Settings) (m n : ℕ) → IsConversionAsked given 0 a m → IsConversionAsked given 0 b n → m ≡ n
files_one given a b m n x y =
    let word = keyword_at given (next_count 0) in
    (lines_one.target word b.source (next_count 0) a.target b.target m n
    (subst (λ (f : FormatParts). IsTargetAsked word f (next_count 0) a.target m) (lines_one.format (word_at given 0) a.source b.source x.source y.source) x.target) y.target).1

-- nothing is written for words after these operands
pub words_refused : (given : Given) (s : Settings) (files : ℕ) (asked : Written) (m : ℕ) → IsConversionAsked given 0 s files
    → ((t : Settings) (w : Written) → ¬ AreWordsUnpacked given t files w) → IsBinaryWritten given asked m → ⊥
words_refused given s files asked m is none x =
    none x.settings asked (subst (λ (n : ℕ). AreWordsUnpacked given x.settings n asked) (files_one given x.settings s m files x.are_settings is) x.are_words)

-- the first operand names a decimal format, and no word is written for it
pub amounts_refused : (given : Given) (format : ℕ) (asked : Written) (files : ℕ) → IsDecimalAsked (word_at given 0) format → ¬ IsAmountWritten given format asked files
    → ¬ IsWrittenAsked given asked files
amounts_refused given format asked files is none (inl (f, by, x)) =
    none (subst (λ (n : ℕ). IsAmountWritten given n asked files) (decimal_one (word_at given 0) f format by is) x)
amounts_refused given format asked files is none (inr (names, x)) = names format is

-- the first operand names no decimal format, and no word is written for a binary format
pub binary_refused : (given : Given) (asked : Written) (files : ℕ) → NamesNoDecimal (word_at given 0) → ¬ IsBinaryWritten given asked files → ¬ IsWrittenAsked given asked files
binary_refused given asked files names none (inl (f, by, x)) = names f by
binary_refused given asked files names none (inr (no_name, x)) = none x

-- the option names no order of bytes, whatever the order without it
pub out_refused : (value : Option (List ℕ)) (plain other : Endian) → ((a : Endian) → ¬ IsNamed Endian endian_text plain value a) → (b : Endian) → ¬ IsNamed Endian endian_text other value b
out_refused None plain other none b is = none plain refl
out_refused (Some word) plain other none b is = none b is

-- the bytes after those to skip, up to those of the last word
pub requested_is : (u : Unpacking) (most : ℕ) (bytes held : Option (List ℕ))
    → most ≡ min (u.excerpt.count * size_of u.written) (2 ^ 64 - 1) → bytes ≡ option_map (drop u.excerpt.skip) held
    → option_map (take most) bytes ≡ requested u held
requested_is u most bytes held most_is bytes_are = rw most_is (rw bytes_are refl)
