-- The names that a list of numbers may have.
use Rattle.std.specs.Prelude.{◌≡◌, ◌==◌, ◌&&◌, ◌⊎◌, ℕ, Bool, List, [], ◌∷◌, ◌++◌, codes, false, map, true}
use Rattle.std.specs.Char.{is_ascii_uppercase, to_ascii_lowercase}
use Rattle.memchr.specs.Find.{OccursAt}
use Rattle.fixed_constants.specs.Constants.{IsName}
use Rattle.fixed_constants.specs.Forms.{IsAmong, IsReserved}
use Rattle.fixed_constants.specs.declared.form.Form.TheVariants as language
use Rattle.fixed_arrays.specs.declared.form.ArrayForm.{ArrayForm}
use Rattle.fixed_arrays.specs.declared.form.ArrayForm.TheVariants.{C, GuardedC, Rust, Vhdl, Readmemh, Coe, Mif}

-- the keywords of VHDL, and the names on which a list's package depends, each between two spaces
unfoldable pub vhdl_words : List ℕ
vhdl_words =
    codes " abs access after alias all and architecture array assert assume assume_guarantee attribute begin" ++
    (codes " block body buffer bus case component configuration constant context cover default disconnect" ++
    (codes " downto else elsif end entity exit fairness file for force function generate generic group guarded" ++
    (codes " if impure in inertial inout is label library linkage literal loop map mod nand new next nor not" ++
    (codes " null of on open or others out package parameter port postponed private procedure process property" ++
    (codes " protected pure range record register reject release rem report restrict restrict_guarantee return" ++
    (codes " rol ror select sequence severity shared signal sla sll sra srl strong subtype then to transport type" ++
    (codes " unaffected units until use variable vmode vpkg vprop vunit wait when while with xnor xor view" ++
    (codes " ieee numeric_std signed standard std std_logic_1164 unsigned work "))))))))

-- two adjacent underscores
abbrev pub two_underscores : List ℕ
two_underscores = 95 ∷ 95 ∷ []

abbrev pub AreApart : List ℕ → Type 0
AreApart name = (place : ℕ) → ¬ OccursAt (95 ∷ (name ++ 95 ∷ [])) two_underscores place

-- a name of VHDL: no two of its underscores are adjacent, it neither begins nor ends with one, and the language does
-- not reserve it, in either case of letters
abbrev pub IsVhdlName : List ℕ → Type 0
IsVhdlName name = IsName name × (AreApart name × (¬ IsAmong vhdl_words (map to_ascii_lowercase name)))

-- the names that GNU C defines besides those that C reserves, each between two spaces
unfoldable pub gnu_words : List ℕ
gnu_words = codes " i386 linux unix "

-- the name has two adjacent underscores
abbrev pub HasTwoUnderscores : List ℕ → Type 0
HasTwoUnderscores name = (place : ℕ) × OccursAt name two_underscores place

-- whether the name begins with an underscore and a capital letter
abbrev pub begins_kept : List ℕ → Bool
begins_kept [] = false
begins_kept (first ∷ []) = false
begins_kept (first ∷ next ∷ rest) = (first == 95) && is_ascii_uppercase next

-- C keeps the name for compilers and libraries
abbrev pub IsKept : List ℕ → Type 0
IsKept name = HasTwoUnderscores name ⊎ (begins_kept name ≡ true)

-- a name of C in a header with this guard: the language does not reserve it, GNU C does not define it, and it is not
-- kept for compilers and libraries
abbrev pub IsCName : List ℕ → List ℕ → Type 0
IsCName guard name = (IsName name × (¬ IsReserved language.C guard name))
    × ((¬ IsAmong gnu_words name) × (¬ IsKept name))

-- the names of an array's macros in C: its name with an ending
abbrev pub count_ending : List ℕ
count_ending = codes "_COUNT"

abbrev pub frac_ending : List ℕ
frac_ending = codes "_FRAC"

-- a name for an array of C: it and the names of its two macros are names of C
abbrev pub IsCArrayName : List ℕ → List ℕ → Type 0
IsCArrayName guard name = IsCName guard name
    × (IsCName guard (name ++ count_ending) × IsCName guard (name ++ frac_ending))

-- a list may have this name in a form, in a header with this guard; memory files have no name
abbrev pub IsArrayName : ArrayForm → List ℕ → List ℕ → Type 0
IsArrayName C guard name = IsCArrayName guard name
IsArrayName GuardedC guard name = IsCArrayName guard name
IsArrayName Rust guard name = IsName name × (¬ IsReserved language.Rust guard name)
IsArrayName Vhdl guard name = IsVhdlName name
IsArrayName Readmemh guard name = name ≡ []
IsArrayName Coe guard name = name ≡ []
IsArrayName Mif guard name = name ≡ []
