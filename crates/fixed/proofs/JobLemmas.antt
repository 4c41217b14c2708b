-- Refused operands and options of `fixed constants`.
use Rattle.std.proofs.Common.{ℕ, List, Option, Some}
use Rattle.command_line.specs.declared.given.Given.{Given}
use Rattle.fixed_arrays.specs.declared.form.ArrayForm.{ArrayForm}
use Rattle.fixed_arrays.specs.declared.rule.Numerals.{Numerals}
use Rattle.fixed_command.specs.Layout.{LineLayout}
use Rattle.fixed.specs.Constants.{AreNumeralsAsked, IsListBy}
use Rattle.fixed.specs.declared.product.Product.{Product}
use Rattle.fixed.specs.declared.product.Product.TheVariants as product

-- a list of numerals is requested, and they cannot be read
pub list_refused : (given : Given) (word : List ℕ) (form : ArrayForm) (layout : Option LineLayout) → ((a : Numerals) (decimal : ℕ) → AreNumeralsAsked given word a decimal → ⊥)
    → (list : Product) → IsListBy (Some word) given form layout list → ⊥
list_refused given word form layout none (product.List asked) x = none asked.rule.numerals asked.decimal x.numerals
list_refused given word form layout none (product.Literals list) x = x
list_refused given word form layout none (product.Constants rule) x = x
