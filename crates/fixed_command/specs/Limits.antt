-- The greatest lengths of an input and of an explanation, in bytes.
use Rattle.std.specs.Prelude.{◌^◌, ℕ, None, Option, Some}

-- the greatest limit
abbrev pub max_limit : ℕ
max_limit = 4294967296

-- the limit of an input that is read piece by piece, without one
abbrev pub no_limit : ℕ
no_limit = 2 ^ 62

-- the limit of an input that is read piece by piece
abbrev pub limit_of : Option ℕ → ℕ
limit_of None = no_limit
limit_of (Some limit) = limit

-- the limit of an input that is read whole
abbrev pub whole_limit_of : Option ℕ → ℕ
whole_limit_of None = max_limit
whole_limit_of (Some limit) = limit

-- the longest explanation, and the longest prefix of a field's numeral that is examined for it
abbrev pub longest_explanation : ℕ
longest_explanation = 640
