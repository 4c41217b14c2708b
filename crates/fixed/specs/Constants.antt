-- The meaning of the operands and options of `fixed constants`.
use Rattle.std.specs.Prelude.{◌≡◌, ◌==◌, ◌||◌, ◌⊎◌, ℕ, Bool, true, false, List, [], ◌∷◌, None, Option, Some, codes}
use Rattle.std.specs.Prelude.{unwrap_or}
use Rattle.std.specs.List.{list_any}
use Rattle.command_line.specs.Words.{keyword_at, value_of}
use Rattle.command_line.specs.declared.given.Given.{Given}
use Rattle.fixed.specs.Columns.{IsDecimalWord}
use Rattle.fixed.specs.Lines.{has_layout}
use Rattle.fixed.specs.declared.product.Product.{Product}
use Rattle.fixed.specs.declared.product.Product.TheVariants as product
use Rattle.fixed_arrays.specs.Names.{IsArrayName}
use Rattle.fixed_arrays.specs.declared.form.ArrayForm.{ArrayForm}
use Rattle.fixed_arrays.specs.declared.form.ArrayForm.TheVariants.{C, Coe, GuardedC, Mif, Readmemh, Rust, Vhdl}
use Rattle.fixed_arrays.specs.declared.literal_rule.LiteralArrayRule.{LiteralArrayRule}
use Rattle.fixed_arrays.specs.declared.rule.ArrayRule.{ArrayRule}
use Rattle.fixed_arrays.specs.declared.rule.Numerals.{Numerals}
use Rattle.fixed_bits.specs.declared.format.Policy.{Policy}
use Rattle.fixed_bits.specs.declared.format.Policy.TheVariants.{Checked}
use Rattle.fixed_bits.specs.declared.mode.ReadMode.{ReadMode}
use Rattle.fixed_bits.specs.declared.mode.ReadMode.TheVariants.{NearestEven}
use Rattle.fixed_command.specs.Asked.{IsNamed}
use Rattle.fixed_command.specs.Layout.{LineLayout}
use Rattle.fixed_command.specs.declared.swapped.SwappedRule.{SwappedRule}
use Rattle.fixed_constants.specs.Program.{IsGuard, NamesLanguage}
use Rattle.fixed_constants.specs.declared.form.Form.{Form}
use Rattle.fixed_constants.specs.declared.form.Form.TheVariants as form
use Rattle.fixed_constants.specs.declared.form.Form.TheVariants.{Canonical}
use Rattle.fixed_constants.specs.declared.form_rule.FormRule.{FormRule}
use Rattle.fixed_numeral.specs.declared.radix.Radix.{Radix}
use Rattle.fixed_numeral.specs.declared.radix.Radix.TheVariants.{Dec}
use Rattle.fixed_names.specs.Names.{IsName}
use Rattle.fixed_respell.specs.Words.{mode_text, policy_text, radix_text}

-- the form of the literals and the index of the first file: a first operand that names a language is not a file
abbrev pub IsFormAsked : Option (List ℕ) → Form → ℕ → Type 0
IsFormAsked None form files = (form ≡ Canonical) × (files ≡ 0)
IsFormAsked (Some word) form files = (NamesLanguage word form × (files ≡ 1))
    ⊎ (((other : Form) → NamesLanguage word other → ⊥) × (form ≡ Canonical) × (files ≡ 0))

-- the operand names the form of a list; a guard has an option of its own
abbrev pub IsArrayWord : List ℕ → ArrayForm → Type 0
IsArrayWord word C = word ≡ codes "array-c"
IsArrayWord word GuardedC = ⊥
IsArrayWord word Rust = word ≡ codes "array-rust"
IsArrayWord word Vhdl = word ≡ codes "vhdl"
IsArrayWord word Readmemh = word ≡ codes "readmemh"
IsArrayWord word Coe = word ≡ codes "coe"
IsArrayWord word Mif = word ≡ codes "mif"

abbrev pub IsArrayAsked : Option (List ℕ) → ArrayForm → Type 0
IsArrayAsked None form = ⊥
IsArrayAsked (Some word) form = IsArrayWord word form

-- the guard of a header, or none without a value
abbrev pub IsGuardAsked : Bool → Option (List ℕ) → List ℕ → Type 0
IsGuardAsked header None guard = guard ≡ []
IsGuardAsked header (Some word) guard = (header ≡ true) × IsGuard word × (guard ≡ word)

-- whether a list of this form is a memory file
abbrev pub is_file : ArrayForm → Bool
is_file C = false
is_file GuardedC = false
is_file Rust = false
is_file Vhdl = false
is_file Readmemh = true
is_file Coe = true
is_file Mif = true

-- the name of a list in a header with this guard: a memory file has none, and any other list has one
abbrev pub IsNameBy : Bool → ArrayForm → List ℕ → Option (List ℕ) → List ℕ → Type 0
IsNameBy true form guard None name = name ≡ []
IsNameBy true form guard (Some word) name = ⊥
IsNameBy false form guard None name = ⊥
IsNameBy false form guard (Some word) name = IsArrayName form guard word × (name ≡ word)

abbrev pub IsNameAsked : ArrayForm → List ℕ → Option (List ℕ) → List ℕ → Type 0
IsNameAsked form = IsNameBy (is_file form) form

-- how the numerals of a list are read, into the format that the operand names
pub record IsNumeralsAsked (given : Given) (word : List ℕ) (numerals : Numerals) : Type 0 where
  pub radix : IsNamed Radix radix_text Dec (value_of given (codes "radix")) numerals.radix
  pub format : IsName word numerals.format
  pub policy : IsNamed Policy policy_text Checked (value_of given (codes "policy")) numerals.policy
  pub mode : IsNamed ReadMode mode_text NearestEven (value_of given (codes "mode")) numerals.mode

-- no option is given that has a meaning only for numerals
pub record HasNoNumeralOption (given : Given) : Type 0 where
  pub decimal : value_of given (codes "decimal") ≡ None
  pub radix : value_of given (codes "radix") ≡ None
  pub policy : value_of given (codes "policy") ≡ None
  pub mode : value_of given (codes "mode") ≡ None
  pub layout : has_layout given ≡ false

-- no option is given that has a meaning only for lists
pub record HasNoListOption (given : Given) : Type 0 where
  pub numerals : value_of given (codes "numerals") ≡ None
  pub name : value_of given (codes "name") ≡ None
  pub decimal : value_of given (codes "decimal") ≡ None
  pub radix : value_of given (codes "radix") ≡ None
  pub policy : value_of given (codes "policy") ≡ None
  pub mode : value_of given (codes "mode") ≡ None
  pub layout : has_layout given ≡ false

-- whether the form is an array of C
abbrev pub is_c : ArrayForm → Bool
is_c C = true
is_c GuardedC = false
is_c Rust = false
is_c Vhdl = false
is_c Readmemh = false
is_c Coe = false
is_c Mif = false

-- whether literals in this form are a header of C
abbrev pub is_header : Form → Bool
is_header form.C = true
is_header form.Rust = false
is_header form.Canonical = false

-- the form of a list in a file with this guard, if there is one
abbrev pub guarded : List ℕ → ArrayForm → ArrayForm
guarded [] form = form
guarded (b ∷ guard) form = GuardedC

-- the form, the guard and the name of a list
pub record IsListNamed (given : Given) (form : ArrayForm) (list : LiteralArrayRule) : Type 0 where
  pub guard : IsGuardAsked (is_c form) (value_of given (codes "guard")) list.guard.now
  pub name : IsNameAsked form list.guard.now (value_of given (codes "name")) list.name.now
  pub form_is : list.form ≡ guarded list.guard.now form

-- whether a byte is read as another one, since `decimal` comes before a fraction
abbrev pub is_swapped : ℕ → ℕ → Bool
is_swapped decimal byte = byte == 46 || byte == decimal

-- no byte at the beginning of comments is read as another one
abbrev pub IsUnswapped : ℕ → Option (List ℕ) → Type 0
IsUnswapped decimal None = Unit {0}
IsUnswapped decimal (Some prefix) = (decimal ≡ 46) ⊎ (list_any (is_swapped decimal) prefix ≡ false)

-- how the numerals of a list are read, into the format that a word names, and the byte before their fractions
pub record AreNumeralsAsked (given : Given) (word : List ℕ) (numerals : Numerals) (decimal : ℕ) : Type 0 where
  pub numerals_are : IsNumeralsAsked given word numerals
  pub decimal_is : IsDecimalWord (unwrap_or (value_of given (codes "decimal")) (codes ".")) decimal
  pub comments : IsUnswapped decimal (value_of given (codes "comments"))

-- a list of numerals
pub record IsNumeralListAsked (given : Given) (word : List ℕ) (form : ArrayForm) (layout : Option LineLayout)
    (asked : SwappedRule ArrayRule) : Type 0 where
  pub list : LiteralArrayRule
  pub named : IsListNamed given form list
  pub form_is : asked.rule.form ≡ list.form
  pub name : asked.rule.name ≡ list.name
  pub guard : asked.rule.guard ≡ list.guard
  pub layout_is : asked.rule.layout.now ≡ layout
  pub numerals : AreNumeralsAsked given word asked.rule.numerals asked.decimal

-- a list of numerals if their format is given, else of named literals
abbrev pub IsListBy : Option (List ℕ) → Given → ArrayForm → Option LineLayout → Product → Type 0
IsListBy (Some word) given form layout (product.List asked) = IsNumeralListAsked given word form layout asked
IsListBy (Some word) given form layout (product.Literals list) = ⊥
IsListBy (Some word) given form layout (product.Constants rule) = ⊥
IsListBy None given form layout (product.List asked) = ⊥
IsListBy None given form layout (product.Literals list) = IsListNamed given form list × HasNoNumeralOption given
IsListBy None given form layout (product.Constants rule) = ⊥

abbrev pub IsListAsked : Given → ArrayForm → Option LineLayout → Product → Type 0
IsListAsked given = IsListBy (value_of given (codes "numerals")) given

-- named literals in a form, and the index of the first file
pub record AreLiteralsAsked (given : Given) (rule : FormRule) (files : ℕ) : Type 0 where
  pub no_list : HasNoListOption given
  pub form : IsFormAsked (keyword_at given 0) rule.form files
  pub guard : IsGuardAsked (is_header rule.form) (value_of given (codes "guard")) rule.guard.now
