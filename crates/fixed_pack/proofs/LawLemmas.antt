-- Laws of words.
use Rattle.std.proofs.Common.{◌∙◌, sym}
use Rattle.fixed_pack.specs.Laws.{FirstRefusedIsTheOne, PackedIsTheOne, RefusalIsTheOne, WordsAreTheOnes}
use Rattle.fixed_pack.specs.Lemmas.PackLaws.{kind_one, word_never, word_one}
use Rattle.fixed_pack.specs.Lemmas.PackedLaws.{stops_one, words_are_one}
use Rattle.fixed_pack.specs.Lemmas.RecodedLaws.{cut_one}
use Rattle.fixed_pack.specs.Pack.{IsPacked, IsRefused}

-- ---- lines pack to one list of words or have one refusal
pub packed_one : PackedIsTheOne
packed_one s lines a b x y = words_are_one (IsPacked s) (word_one s) lines a b x y

pub refusal_one : RefusalIsTheOne
refusal_one s line = record { one = kind_one s line; never = word_never s line }

pub first_refused_one : FirstRefusedIsTheOne
first_refused_one s bytes made other late later a b kept then x y =
    stops_one (IsPacked s) (IsRefused s) (word_one s) (kind_one s) (word_never s) bytes made other late later a b kept then x y

-- ---- bytes are cut into words in one way
pub words_one : WordsAreTheOnes
words_one count bytes a b x y m n = cut_one count a b x y m.whole n.whole m.short n.short (sym m.cut ∙ n.cut)
