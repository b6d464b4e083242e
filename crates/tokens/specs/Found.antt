-- What the program finds at the front of a text, as the definitions have it. Assumes nothing.
use Rattle.std.specs.Option.{option_map}
use Rattle.std.specs.Prelude.{ℕ, Bool, cond, List, take, drop, Some, None, Option}
use Rattle.std.specs.List.{prefix_len}
use Rattle.tokens.specs.Meanings.{meaning}
use Rattle.tokens.specs.Finding.{Sized, closes}
use Rattle.tokens.specs.declared.first.Found.{Found}

abbrev pub found_as : Option Found → Option Sized
found_as r = option_map (λ f. record { size = f.len; tok = meaning f.kind }) r

-- the longest front that passes a test, where `*)` follows it
abbrev pub enclosed : (ℕ → Bool) → List ℕ → Option (List ℕ)
enclosed p bs = cond (closes (drop (prefix_len p bs) bs)) (Some (take (prefix_len p bs) bs)) None
