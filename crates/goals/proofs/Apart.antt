-- What it says that two answers of the machine are the same. Assumes nothing.
use Rattle.std.proofs.Common.{◌≡◌, ℕ, List, [], ◌∷◌, Some, None, arith}
use Rattle.goals.specs.Goals.{Goals}
use Rattle.goals.proofs.Track.{Track, done, stuck, after, over}

no_number : {X : Type 0} → ◌≡◌ {A = ℕ} 0 1 → X
no_number z = absurd (omega arith)

pub no_goals : {X : Type 0} (gs : Goals) → None ≡ Some gs → X
no_goals gs e = let z : ◌≡◌ {A = ℕ} 0 1 = cc in no_number z

pub same_goals : (gs hs : Goals) → Some gs ≡ Some hs → gs ≡ hs
same_goals gs hs e = cc

pub ends_otherwise : {X : Type 0} (n : ℕ) (k : Track) → after n k ≡ done → X
ends_otherwise n k e = let z : ◌≡◌ {A = ℕ} 0 1 = cc in no_number z

pub sticks_otherwise : {X : Type 0} (ns : List ℕ) → stuck ≡ over ns done → X
sticks_otherwise [] e = let z : ◌≡◌ {A = ℕ} 0 1 = cc in no_number z
sticks_otherwise (n ∷ ns) e = let z : ◌≡◌ {A = ℕ} 0 1 = cc in no_number z

pub same_levels : (n m : ℕ) (k l : Track) → after n k ≡ after m l → n ≡ m
same_levels n m k l e = cc

pub same_way : (n m : ℕ) (k l : Track) → after n k ≡ after m l → k ≡ l
same_way n m k l e = cc
