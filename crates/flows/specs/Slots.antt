-- The code's slots, linked both ways in their lists. Assumes nothing.
use Rattle.std.specs.Prelude.{◌≡◌, ℕ, ◌+◌, ◌<◌, List, length, map, Some, None, Option, slice_index, slice_index_or, slice_set}
use Rattle.flows.specs.declared.slot.Slot.{Slot}
use Rattle.flows.specs.declared.slot.Ends.{Ends}
use Rattle.flows.specs.Limits.{list_count}
use Rattle.flows.specs.Links.{latest, next_from}

-- slots and lists are numbered from 0
abbrev pub slot : List Slot → ℕ → Slot
slot slots t = slice_index_or slots t (record { list = 0; previous = None; next = None })

abbrev pub ends_of : List Ends → ℕ → Ends
ends_of ends v = slice_index_or ends v (record { first = None; last = None })

-- the list of each slot
abbrev pub lists_of : List Slot → List ℕ
lists_of slots = map (λ s. s.list) slots

-- a slot between its neighbours, and the ends of a list, where each slot has these lists
abbrev pub linked : List ℕ → ℕ → Slot
linked lists t = record {
  list = slice_index lists t;
  previous = latest lists (slice_index lists t) t;
  next = next_from lists (slice_index lists t) (t + 1) (length lists);
}

abbrev pub ended : List ℕ → ℕ → Ends
ended lists v = record { first = next_from lists v 0 (length lists); last = latest lists v (length lists) }

-- slots and ends are those of these lists
pub record Table (lists : List ℕ) (slots : List Slot) (ends : List Ends) : Type 0 where
  pub long : length slots ≡ length lists
  pub placed : (t : ℕ) → t < length lists → slot slots t ≡ linked lists t
  pub bounded : (v : ℕ) → v < list_count → ends_of ends v ≡ ended lists v
  pub known : (t : ℕ) → t < length lists → slice_index lists t < list_count
  pub many : length ends ≡ list_count

-- what follows a slot becomes another, or what a list begins with if there is no such slot
abbrev pub led : List Slot → Option ℕ → Option ℕ → List Slot
led slots None to = slots
led slots (Some b) to = slice_set slots b (record (slot slots b) { next = to })

abbrev pub begun : List Ends → ℕ → Option ℕ → Option ℕ → List Ends
begun ends v None to = slice_set ends v (record (ends_of ends v) { first = to })
begun ends v (Some b) to = ends
