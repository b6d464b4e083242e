-- The number of each refusal, and the values returned with it. Assumes nothing.
use Rattle.std.specs.Prelude.{ℕ, List, [], ◌∷◌, ◌++◌, Some, None, Option, codes, decimal}
use Rattle.refusals.specs.declared.refusal.Limit.{Limit}
use Rattle.refusals.specs.declared.refusal.Limit.TheVariants.{Variables, Flows, Bounds, Binders, Text}
use Rattle.refusals.specs.declared.refusal.Refusal.{Refusal}
use Rattle.refusals.specs.declared.refusal.Refusal.TheVariants.{TooLong, NoToken, Misplaced, TooDeep, NotInForce, Unfit, Passed, Broken, NoLevel, TooShort, NoneBroken, Memory}

-- a declaration has at most so many bytes
abbrev pub longest_text : ℕ
longest_text = 4096

abbrev pub limit_number : Limit → ℕ
limit_number Variables = 1
limit_number Flows = 2
limit_number Bounds = 3
limit_number Binders = 4
limit_number Text = 5

-- want of memory has no number
abbrev pub number_of : Refusal → Option ℕ
number_of TooLong = Some 1
number_of (NoToken place) = Some 2
number_of (Misplaced place) = Some 3
number_of (TooDeep place) = Some 4
number_of (NotInForce place) = Some 5
number_of (Unfit place) = Some 6
number_of (Passed limit) = Some 7
number_of (Broken bound evaluations) = Some 8
number_of (NoLevel depth) = Some 9
number_of (TooShort needed) = Some 10
number_of NoneBroken = Some 11
number_of Memory = None

abbrev pub values_of : Refusal → List ℕ
values_of TooLong = longest_text ∷ []
values_of (NoToken place) = place ∷ []
values_of (Misplaced place) = place ∷ []
values_of (TooDeep place) = place ∷ []
values_of (NotInForce place) = place ∷ []
values_of (Unfit place) = place ∷ []
values_of (Passed limit) = limit_number limit ∷ []
values_of (Broken bound evaluations) = bound ∷ evaluations ∷ []
values_of (NoLevel depth) = depth ∷ []
values_of (TooShort needed) = needed ∷ []
values_of NoneBroken = 0 ∷ []
values_of Memory = []

-- a refusal as it is printed: `refused`, its number, and its values
abbrev pub shown_number : Option ℕ → List ℕ
shown_number None = codes "memory"
shown_number (Some n) = decimal n

abbrev pub shown_values : List ℕ → List ℕ
shown_values [] = []
shown_values (v ∷ vs) = codes " " ++ (decimal v ++ shown_values vs)

abbrev pub shown : Refusal → List ℕ
shown r = codes "refused " ++ (shown_number (number_of r) ++ shown_values (values_of r))
