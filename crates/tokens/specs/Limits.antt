-- How long a token may be. Assumes nothing.
use Rattle.std.specs.Prelude.{ℕ}

-- an identifier, and a name in a mark, in bytes
abbrev pub longest_name : ℕ
longest_name = 16

-- a literal, in digits
abbrev pub longest_literal : ℕ
longest_literal = 9
