-- What the functions of a table of readers read and leave. Assumes nothing.
use Rattle.std.proofs.Common.{◌≡◌, ℕ, ◌-◌, ◌<◌, ◌≤◌, List, [], ◌∷◌, ◌++◌, length, get_or, take, drop, set, vec_items, vec_len, Some, None, Option, IfSome, sym, refl, ap, ◌∙◌, subst, arith}
use Rattle.std.proofs.Math.Seq.{take-append_seam, map-set_same}
use Rattle.std.proofs.lemmas.List.{length-map, map-append, get_or_read, get_or_read_under, length_push}
use Rattle.flows.specs.declared.readers.Readers.{Readers}
use Rattle.flows.specs.declared.slot.Slot.{Slot}
use Rattle.flows.specs.declared.slot.Ends.{Ends}
use Rattle.flows.specs.Limits.{list_count}
use Rattle.flows.specs.Links.{latest}
use Rattle.flows.specs.Reading.{filled}
use Rattle.flows.specs.Slots.{ends_of, lists_of, ended, led, begun, Table}
use Rattle.flows.proofs.Links.{IsLast, is_last}
use Rattle.flows.proofs.Tables.{begun_long, more_ends, grows, listed, taken, less_ends, shrinks}

-- a list that was written as a whole
pub kept_items : {X : Type 0} (n : ℕ) (xs ys : List X) → n ≡ length ys → length xs ≡ length ys → take n (xs ++ drop (length xs) ys) ≡ xs
kept_items n xs ys size same = ap (λ k. take k (xs ++ drop (length xs) ys)) (size ∙ sym same) ∙ take-append_seam xs (drop (length xs) ys)

-- a slot stays in its list
pub led_lists : (slots : List Slot) (p to : Option ℕ) → lists_of (led slots p to) ≡ lists_of slots
led_lists slots None to = refl
led_lists slots (Some b) to = map-set_same (λ s. s.list) slots b _ _ refl

pub lists_long : (slots : List Slot) → length (lists_of slots) ≡ length slots
lists_long slots = length-map slots (λ s. s.list)

-- the last slot of a list is a slot
pub last_bound : (ls : List ℕ) (v m : ℕ) → length ls ≤ m → IfSome (latest ls v (length ls)) (λ b. b < m)
last_bound ls v m few = go (latest ls v (length ls)) (is_last ls v (length ls))
  where
    go : (p : Option ℕ) → IsLast ls v (length ls) p → IfSome p (λ b. b < m)
    go None none = tt
    go (Some b) is = omega (arith, is.0)

module _ (r : Readers) where
  pub slots_long : length (filled r) ≡ length (vec_items r.slots)
  slots_long = lists_long (vec_items r.slots)

  -- what is read of a list
  pub ends_read : (v : ℕ) (e : Ends) → v < list_count → e ≡ get_or (vec_items r.ends) v e → e ≡ ended (filled r) v
  ends_read v e known read = get_or_read_under (vec_items r.ends) v (vec_len r.ends) e _ read (let long = r.ends.ok.0 in omega (arith, r.table.many)) r.ends.ok.0 ∙ r.table.bounded v known

-- the table after one slot more, and after one slot less
pub record Becomes (ls : List ℕ) (slots : List Slot) (ends : List Ends) : Type 0 where
  pub lists : lists_of slots ≡ ls
  pub kept : Table (lists_of slots) slots ends

module _ (r : Readers) (v t : ℕ) (known : v < list_count) (count : t ≡ length (filled r)) (e : Ends) (read : e ≡ ended (filled r) v) where
  pub link_one : (slots : List Slot) (ends : List Ends) (x : Ends)
      → slots ≡ led (vec_items r.slots) e.last (Some t) ++ record { list = v; previous = e.last; next = None } ∷ []
      → ends ≡ begun (vec_items r.ends) v e.last (Some t)
      → x ≡ get_or ends v x
      → Becomes (filled r ++ v ∷ []) slots (set ends v (record { first = x.first; last = Some t }))
  link_one slots ends x slots_are ends_are x_is =
      let ls = filled r in
      let n = length ls in
      let last : e.last ≡ latest ls v n = ap (λ (y : Ends). y.last) read in
      let slots' = slots_are ∙ (λ i. led (vec_items r.slots) (last i) (Some (count i)) ++ record { list = v; previous = last i; next = None } ∷ []) in
      let ends' = ends_are ∙ (λ i. begun (vec_items r.ends) v (last i) (Some (count i))) in
      let many = r.table.many in
      let long : length ends ≡ list_count = ap length ends_are ∙ begun_long (vec_items r.ends) v e.last (Some t) ∙ many in
      let x' : x ≡ ends_of (begun (vec_items r.ends) v (latest ls v n) (Some n)) v = get_or_read ends v x (omega arith) x_is _ ∙ ap (λ es. ends_of es v) ends' in
      let lists : lists_of slots ≡ ls ++ v ∷ [] = ap lists_of slots' ∙ map-append (λ s. s.list) (led (vec_items r.slots) (latest ls v n) (Some n)) _ ∙ ap (λ xs. xs ++ v ∷ []) (led_lists (vec_items r.slots) (latest ls v n) (Some n)) in
      let written : set ends v (record { first = x.first; last = Some t }) ≡ more_ends ls v (vec_items r.slots) (vec_items r.ends) r.table known (latest ls v n) = (λ i. set (ends' i) v (record { first = (x' i).first; last = Some (count i) })) in
      record {
        lists = lists;
        kept =
            subst (λ xs. Table xs slots (set ends v (record { first = x.first; last = Some t }))) (sym lists)
            (subst (λ ss. Table (ls ++ v ∷ []) ss (set ends v (record { first = x.first; last = Some t }))) (sym slots')
            (subst (Table (ls ++ v ∷ []) (led (vec_items r.slots) (latest ls v n) (Some n) ++ record { list = v; previous = latest ls v n; next = None } ∷ [])) (sym written)
            (grows ls v (vec_items r.slots) (vec_items r.ends) r.table known)));
      }

module _ (r : Readers) (front : List Slot) (s : Slot) (items : vec_items r.slots ≡ front ++ s ∷ []) where
  more : filled r ≡ lists_of front ++ s.list ∷ []
  more = ap lists_of items ∙ map-append (λ s. s.list) front (s ∷ [])

  pub front_lists : lists_of front ≡ take (length (filled r) - 1) (filled r)
  front_lists =
      let size : length (lists_of front) ≡ length (filled r) - 1 = omega (arith, ap length more, length_push (lists_of front) s.list) in
      sym (take-append_seam (lists_of front) (s.list ∷ [])) ∙ (λ i. take (size i) (sym more i))

  whole : Table (lists_of front ++ s.list ∷ []) (front ++ s ∷ []) (vec_items r.ends)
  whole = subst (λ xs. Table xs (front ++ s ∷ []) (vec_items r.ends)) more (subst (λ ss. Table (filled r) ss (vec_items r.ends)) items r.table)

  before : s.previous ≡ latest (lists_of front) s.list (length (lists_of front))
  before = ap (λ (x : Slot). x.previous) (taken (lists_of front) s.list front s (vec_items r.ends) whole)

  pub before_bound : (m : ℕ) → length front ≤ m → IfSome s.previous (λ b. b < m)
  before_bound m few = subst (λ p. IfSome p (λ b. b < m)) (sym before) (last_bound (lists_of front) s.list m (omega (arith, lists_long front)))

  pub unlink_one : (slots : List Slot) (ends : List Ends) (x : Ends)
      → slots ≡ led front s.previous None
      → ends ≡ begun (vec_items r.ends) s.list s.previous None
      → x ≡ get_or ends s.list x
      → Becomes (take (length (filled r) - 1) (filled r)) slots (set ends s.list (record { first = x.first; last = s.previous }))
  unlink_one slots ends x slots_are ends_are x_is =
      let ls = lists_of front in
      let v = s.list in
      let p = latest ls v (length ls) in
      let slots' = slots_are ∙ ap (λ o. led front o None) before in
      let ends' = ends_are ∙ ap (λ o. begun (vec_items r.ends) v o None) before in
      let long : length ends ≡ list_count = ap length ends_are ∙ begun_long (vec_items r.ends) v s.previous None ∙ whole.many in
      let known = listed ls v front s (vec_items r.ends) whole in
      let x' : x ≡ ends_of (begun (vec_items r.ends) v p None) v = get_or_read ends v x (omega arith) x_is _ ∙ ap (λ es. ends_of es v) ends' in
      let lists : lists_of slots ≡ ls = ap lists_of slots_are ∙ led_lists front s.previous None in
      let written : set ends v (record { first = x.first; last = s.previous }) ≡ less_ends ls v front s (vec_items r.ends) whole p = (λ i. set (ends' i) v (record { first = (x' i).first; last = before i })) in
      record {
        lists = lists ∙ front_lists;
        kept =
            subst (λ xs. Table xs slots (set ends v (record { first = x.first; last = s.previous }))) (sym lists)
            (subst (λ ss. Table ls ss (set ends v (record { first = x.first; last = s.previous }))) (sym slots')
            (subst (Table ls (led front p None)) (sym written) (shrinks ls v front s (vec_items r.ends) whole)));
      }
