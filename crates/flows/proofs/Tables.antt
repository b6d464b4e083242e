-- What a table of slots keeps when one is appended or taken back. Assumes nothing.
use Rattle.std.proofs.Common.{◌≡◌, ℕ, ◌+◌, ◌<◌, ◌≤◌, List, [], ◌∷◌, ◌++◌, length, get_or, set, Some, None, Option, MatchOption, sym, refl, ap, ◌∙◌, subst, ⊎_elim, arith, length-set, get_or-set_other, get_or-set_same}
use Rattle.std.proofs.lemmas.Bool.{cases_eq, cases_lt}
use Rattle.std.proofs.lemmas.List.{get_or_append_left, get_or_push, length_push}
use Rattle.flows.specs.declared.slot.Slot.{Slot}
use Rattle.flows.specs.declared.slot.Ends.{Ends}
use Rattle.flows.specs.Limits.{list_count}
use Rattle.flows.specs.Links.{latest, next_from}
use Rattle.flows.specs.Slots.{slot, ends_of, linked, ended, led, begun, Table}
use Rattle.flows.proofs.Links.{IsLast, IsNext, is_last, is_next, one_last, one_next, latest_kept, last_new, last_kept, last_back, next_new, next_kept, next_none, next_back}

-- the slot and the ends after `led` and `begun`
pub led_long : (slots : List Slot) (p to : Option ℕ) → length (led slots p to) ≡ length slots
led_long slots None to = refl
led_long slots (Some b) to = length-set slots b _

pub begun_long : (ends : List Ends) (v : ℕ) (p to : Option ℕ) → length (begun ends v p to) ≡ length ends
begun_long ends v None to = length-set ends v _
begun_long ends v (Some b) to = refl

-- `to` replaces what follows the slot, and nothing else
module _ (slots : List Slot) (to : Option ℕ) where
  led_kept : (p : Option ℕ) (t : ℕ) → MatchOption p (Unit {0}) (λ b. t ≡ b → ⊥) → slot (led slots p to) t ≡ slot slots t
  led_kept None t ne = refl
  led_kept (Some b) t ne = get_or-set_other slots b t _ _ ne

  led_here : (t : ℕ) → t < length slots → slot (led slots (Some t) to) t ≡ record (slot slots t) { next = to }
  led_here t h = get_or-set_same slots t _ _ h

-- `first` of a list is replaced only where nothing stands before
abbrev first_of : Option ℕ → Option ℕ → Option ℕ → Option ℕ
first_of None first to = to
first_of (Some b) first to = first

module _ (ends : List Ends) (v : ℕ) (to : Option ℕ) where
  begun_here : (p : Option ℕ) → v < length ends → ends_of (begun ends v p to) v ≡ record (ends_of ends v) { first = first_of p (ends_of ends v).first to }
  begun_here None h = get_or-set_same ends v _ _ h
  begun_here (Some b) h = refl

  begun_other : (p : Option ℕ) (w : ℕ) → (w ≡ v → ⊥) → ends_of (begun ends v p to) w ≡ ends_of ends w
  begun_other None w ne = get_or-set_other ends v w _ _ ne
  begun_other (Some b) w ne = refl

-- a last one comes at place k or later
abbrev Later : ℕ → Option ℕ → Type 0
Later k None = ⊥
Later k (Some u) = k ≤ u

apart_stays : (P : Type 0) (o : Option ℕ) → (P → ⊥) → MatchOption o (P → ⊥) (λ _. Unit {0})
apart_stays P None ne = ne
apart_stays P (Some s) ne = tt

some_stays : (P : Type 0) (o : Option ℕ) → MatchOption o ⊥ (λ _. Unit {0}) → MatchOption o (P → ⊥) (λ _. Unit {0})
some_stays P None none = absurd none
some_stays P (Some s) _ = tt

-- one slot more, in list v
module _ (ls : List ℕ) (v : ℕ) where
  abbrev n : ℕ
  n = length ls

  abbrev ms : List ℕ
  ms = ls ++ v ∷ []

  same : (t : ℕ) → t < n → get_or ls t 0 ≡ get_or ms t 0
  same t h = sym (get_or_append_left ls (v ∷ []) 0 t h)

  new : get_or ms n 0 ≡ v
  new = get_or_push ls v 0 n refl

  size : length ms ≡ n + 1
  size = length_push ls v

  -- a slot with the same neighbours but perhaps the next is the same slot
  grown : (t : ℕ) → t < n → (next : Option ℕ) → IsNext ms (get_or ls t 0) (t + 1) (n + 1) next → record (linked ls t) { next = next } ≡ linked ms t
  grown t h next is =
      let here = same t h in
      let before : latest ls (get_or ls t 0) t ≡ latest ms (get_or ms t 0) t = latest_kept ls ms n v same new (get_or ls t 0) t (omega arith) ∙ ap (λ w. latest ms w t) here in
      let after : next ≡ next_from ms (get_or ms t 0) (t + 1) (length ms) =
      one_next ms (get_or ls t 0) (t + 1) (n + 1) _ _ is (is_next ms (get_or ls t 0) (t + 1) (n + 1))
      ∙ ap (λ w. next_from ms w (t + 1) (n + 1)) here ∙ ap (next_from ms (get_or ms t 0) (t + 1)) (sym size) in
      (λ i. record { list = here i; previous = before i; next = after i })

  shrunk : (t : ℕ) → t < n → (next : Option ℕ) → IsNext ls (get_or ms t 0) (t + 1) n next → record (linked ms t) { next = next } ≡ linked ls t
  shrunk t h next is =
      let here = sym (same t h) in
      let before : latest ms (get_or ms t 0) t ≡ latest ls (get_or ls t 0) t = sym (latest_kept ls ms n v same new (get_or ms t 0) t (omega arith)) ∙ ap (λ w. latest ls w t) here in
      let after : next ≡ next_from ls (get_or ls t 0) (t + 1) n =
      one_next ls (get_or ms t 0) (t + 1) n _ _ is (is_next ls (get_or ms t 0) (t + 1) n) ∙ ap (λ w. next_from ls w (t + 1) n) here in
      (λ i. record { list = here i; previous = before i; next = after i })

  module _ (p : Option ℕ) (last : IsLast ls v n p) where
    -- what is not last is followed by a slot other than the new one
    followed : (k : ℕ) → Later k p → (o : Option ℕ) → IsNext ls v k n o → MatchOption o ⊥ (λ _. Unit {0})
    followed k later (Some s) is = tt
    followed k later None none = go p last later
      where
        go : (q : Option ℕ) → IsLast ls v n q → Later k q → ⊥
        go None _ later = later
        go (Some b) is low = none b low is.0 is.1

    followed_early : (k : ℕ) → Later k p → (o : Option ℕ) → IsNext ms v k (n + 1) o → MatchOption o (Unit {0}) (λ s. s ≡ n → ⊥)
    followed_early k later None none = tt
    followed_early k later (Some s) is = go p last later
      where
        go : (q : Option ℕ) → IsLast ls v n q → Later k q → s ≡ n → ⊥
        go None _ later _ = later
        go (Some b) is' low e = let h = is'.0 in is.3 b low (omega arith) (sym (same b h) ∙ is'.1)

  -- a slot of the list is the last one, or the last one comes later
  last_or_later : (p : Option ℕ) → IsLast ls v n p → (t : ℕ) → t < n → get_or ls t 0 ≡ v → MatchOption p (Unit {0}) (λ b. t ≡ b → ⊥) → Later (t + 1) p
  last_or_later None none t h e _ = none t h e
  last_or_later (Some b) is t h e ne =
      ⊎_elim (λ less. absurd (is.2 t less h e)) (λ more. ⊎_elim (λ same. absurd (ne same)) (λ differ. omega arith) (cases_eq t b)) (cases_lt b t)

  -- the new slot is in no other list
  differ_early : (w k : ℕ) → (w ≡ v → ⊥) → (o : Option ℕ) → IsNext ms w k (n + 1) o → MatchOption o (Unit {0}) (λ s. s ≡ n → ⊥)
  differ_early w k ne None none = tt
  differ_early w k ne (Some s) is = λ e. ne (sym is.2 ∙ ap (λ j. get_or ms j 0) e ∙ new)

  -- the next slot, with the new one among them
  next_all : (w k : ℕ) → IsNext ms w k (n + 1) (next_from ms w k (length ms))
  next_all w k = subst (λ m. IsNext ms w k m (next_from ms w k (length ms))) size (is_next ms w k (length ms))

  last_all : (w : ℕ) → IsLast ms w (n + 1) (latest ms w (length ms))
  last_all w = subst (λ m. IsLast ms w m (latest ms w (length ms))) size (is_last ms w (length ms))

  ended_more : (w : ℕ) (first last : Option ℕ) → IsNext ms w 0 (n + 1) first → IsLast ms w (n + 1) last → record { first = first; last = last } ≡ ended ms w
  ended_more w first last is is' =
      let e = one_next ms w 0 (n + 1) _ _ is (next_all w 0) in
      let e' = one_last ms w (n + 1) _ _ is' (last_all w) in
      (λ i. record { first = e i; last = e' i })

  ended_less : (w : ℕ) (first last : Option ℕ) → IsNext ls w 0 n first → IsLast ls w n last → record { first = first; last = last } ≡ ended ls w
  ended_less w first last is is' =
      let e = one_next ls w 0 n _ _ is (is_next ls w 0 n) in
      let e' = one_last ls w n _ _ is' (is_last ls w n) in
      (λ i. record { first = e i; last = e' i })

  -- every slot and every list end is again what the lists say
  module _ (slots : List Slot) (ends : List Ends) (old : Table ls slots ends) (listed : v < list_count) where
    grown_slot : (t : ℕ) → t < n → slot (led slots (latest ls v n) (Some n)) t ≡ linked ms t
    grown_slot t h = go (latest ls v n) (is_last ls v n)
      where
        w : ℕ
        w = get_or ls t 0

        o : Option ℕ
        o = next_from ls w (t + 1) n

        inside : t < length slots
        inside = omega (arith, old.long)

        stays : MatchOption o (w ≡ v → ⊥) (λ _. Unit {0}) → record (linked ls t) { next = o } ≡ linked ms t
        stays ne = grown t h o (next_kept ls ms n v same new w (t + 1) o ne (is_next ls w (t + 1) n))

        go : (p : Option ℕ) → IsLast ls v n p → slot (led slots p (Some n)) t ≡ linked ms t
        go None none = old.placed t h ∙ stays (apart_stays (w ≡ v) o (λ e. none t h e))
        go (Some b) is =
            ⊎_elim
            (λ e. subst (λ k. slot (led slots (Some k) (Some n)) t ≡ linked ms t) e
            (led_here slots (Some n) t inside
            ∙ ap (λ (x : Slot). record x { next = Some n }) (old.placed t h)
            ∙ grown t h (Some n)
            (let here : w ≡ v = ap (λ k. get_or ls k 0) e ∙ is.1 in
            subst (λ u. IsNext ms u (t + 1) (n + 1) (Some n)) (sym here) (next_new ls ms n v same new (t + 1) (Some b) (omega arith) is (omega arith)))))
            (λ ne. led_kept slots (Some n) (Some b) t ne ∙ old.placed t h
            ∙ stays
            (⊎_elim
            (λ here. some_stays (w ≡ v) o (subst (λ u. MatchOption (next_from ls u (t + 1) n) ⊥ (λ _. Unit {0})) (sym here)
            (followed (Some b) is (t + 1) (last_or_later (Some b) is t h here ne) (next_from ls v (t + 1) n) (is_next ls v (t + 1) n))))
            (λ differ. apart_stays (w ≡ v) o differ)
            (cases_eq w v)))
            (cases_eq t b)

    -- the ends of the lists, after the new slot has become the last of list v
    abbrev pub more_ends : Option ℕ → List Ends
    more_ends p = set (begun ends v p (Some n)) v (record (ends_of (begun ends v p (Some n)) v) { last = Some n })

    grown_ends : (w : ℕ) → w < list_count → ends_of (more_ends (latest ls v n)) w ≡ ended ms w
    grown_ends w h =
        ⊎_elim
        (λ e. subst (λ k. ends_of (more_ends (latest ls v n)) k ≡ ended ms k) (sym e)
        (get_or-set_same (begun ends v (latest ls v n) (Some n)) v _ _ (omega (arith, begun_long ends v (latest ls v n) (Some n), old.many))
        ∙ ap (λ (x : Ends). record x { last = Some n }) (begun_here ends v (Some n) (latest ls v n) (omega (arith, old.many)) ∙ ap (λ (x : Ends). record x { first = first_of (latest ls v n) x.first (Some n) }) (old.bounded v listed))
        ∙ ended_more v _ _ (go (latest ls v n) (is_last ls v n)) (last_new ls ms n v same new)))
        (λ ne. get_or-set_other (begun ends v (latest ls v n) (Some n)) v w _ _ ne
        ∙ begun_other ends v (Some n) (latest ls v n) w ne ∙ old.bounded w h
        ∙ ended_more w _ _ (next_kept ls ms n v same new w 0 _ (apart_stays (w ≡ v) (next_from ls w 0 n) ne) (is_next ls w 0 n)) (last_kept ls ms n v same new w _ ne (is_last ls w n)))
        (cases_eq w v)
      where
        go : (p : Option ℕ) → IsLast ls v n p → IsNext ms v 0 (n + 1) (first_of p (next_from ls v 0 n) (Some n))
        go None none = next_new ls ms n v same new 0 None (omega arith) none tt
        go (Some b) is = next_kept ls ms n v same new v 0 _ (some_stays (v ≡ v) (next_from ls v 0 n) (followed (Some b) is 0 (omega arith) (next_from ls v 0 n) (is_next ls v 0 n))) (is_next ls v 0 n)

    pub grows : Table ms (led slots (latest ls v n) (Some n) ++ record { list = v; previous = latest ls v n; next = None } ∷ []) (more_ends (latest ls v n))
    grows =
        let p = latest ls v n in
        let led_size = led_long slots p (Some n) in
        record {
          long = omega (arith, length_push (led slots p (Some n)) (record { list = v; previous = p; next = None }), led_size, old.long, size);
          placed = λ t h. ⊎_elim
              (λ e. get_or_push (led slots p (Some n)) _ _ t (led_size ∙ old.long ∙ sym e)
              ∙ subst (λ k. record { list = v; previous = p; next = None } ≡ linked ms k) (sym e) newest)
              (λ ne. get_or_append_left (led slots p (Some n)) _ _ t (omega (arith, led_size, old.long, size)) ∙ grown_slot t (omega (arith, size)))
              (cases_eq t n);
          bounded = grown_ends;
          known = λ t h. ⊎_elim
              (λ e. let x = ap (λ k. get_or ms k 0) e ∙ new in omega arith)
              (λ ne. omega (arith, old.known t (omega (arith, size)), same t (omega (arith, size))))
              (cases_eq t n);
          many = length-set (begun ends v p (Some n)) v _ ∙ begun_long ends v p (Some n) ∙ old.many;
        }
      where
        newest : record { list = v; previous = latest ls v n; next = None } ≡ linked ms n
        newest =
            let before : latest ls v n ≡ latest ms (get_or ms n 0) n = latest_kept ls ms n v same new v n (omega arith) ∙ ap (λ w. latest ms w n) (sym new) in
            let after : None ≡ next_from ms (get_or ms n 0) (n + 1) (length ms) = one_next ms (get_or ms n 0) (n + 1) (n + 1) None _ (λ t low high e. omega arith) (next_all (get_or ms n 0) (n + 1)) in
            let here = sym new in
            (λ i. record { list = here i; previous = before i; next = after i })

  -- and the other way
  module _ (slots : List Slot) (s : Slot) (ends : List Ends) (old : Table ms (slots ++ s ∷ []) ends) where
    pub listed : v < list_count
    listed = omega (arith, old.known n (omega (arith, size)), new)

    short : length slots ≡ n
    short = omega (arith, old.long, length_push slots s, size)

    was : (t : ℕ) → t < n → slot slots t ≡ linked ms t
    was t h = sym (get_or_append_left slots (s ∷ []) _ t (omega (arith, short))) ∙ old.placed t (omega (arith, size))

    pub taken : s ≡ record { list = v; previous = latest ls v n; next = None }
    taken =
        let here : s ≡ linked ms n = sym (get_or_push slots s _ n short) ∙ old.placed n (omega (arith, size)) in
        let before : latest ms (get_or ms n 0) n ≡ latest ls v n = ap (λ w. latest ms w n) new ∙ sym (latest_kept ls ms n v same new v n (omega arith)) in
        let after : next_from ms (get_or ms n 0) (n + 1) (length ms) ≡ None = one_next ms (get_or ms n 0) (n + 1) (n + 1) _ None (next_all (get_or ms n 0) (n + 1)) (λ t low high e. omega arith) in
        here ∙ (λ i. record { list = new i; previous = before i; next = after i })

    shrunk_slot : (t : ℕ) → t < n → slot (led slots (latest ls v n) None) t ≡ linked ls t
    shrunk_slot t h = go (latest ls v n) (is_last ls v n)
      where
        w : ℕ
        w = get_or ms t 0

        o : Option ℕ
        o = next_from ms w (t + 1) (length ms)

        stays : MatchOption o (Unit {0}) (λ s. s ≡ n → ⊥) → record (linked ms t) { next = o } ≡ linked ls t
        stays early = shrunk t h o (next_back ls ms n v same new w (t + 1) o early (next_all w (t + 1)))

        go : (p : Option ℕ) → IsLast ls v n p → slot (led slots p None) t ≡ linked ls t
        go None none = was t h ∙ stays (differ_early w (t + 1) (λ e. none t h (same t h ∙ e)) o (next_all w (t + 1)))
        go (Some b) is =
            ⊎_elim
            (λ e. subst (λ k. slot (led slots (Some k) None) t ≡ linked ls t) e
            (led_here slots None t (omega (arith, short))
            ∙ ap (λ (x : Slot). record x { next = None }) (was t h)
            ∙ shrunk t h None
            (let here : w ≡ v = sym (same t h) ∙ ap (λ k. get_or ls k 0) e ∙ is.1 in
            subst (λ u. IsNext ls u (t + 1) n None) (sym here) (next_none ls ms n v same new (t + 1) (Some b) is (omega arith)))))
            (λ ne. led_kept slots None (Some b) t ne ∙ was t h
            ∙ stays
            (⊎_elim
            (λ here. followed_any (Some b) is (last_or_later (Some b) is t h (same t h ∙ here) ne) here)
            (λ differ. differ_early w (t + 1) differ o (next_all w (t + 1)))
            (cases_eq w v)))
            (cases_eq t b)
          where
            followed_any : (p : Option ℕ) → IsLast ls v n p → Later (t + 1) p → w ≡ v → MatchOption o (Unit {0}) (λ s. s ≡ n → ⊥)
            followed_any p is later here = followed_early p is (t + 1) later o (subst (λ u. IsNext ms u (t + 1) (n + 1) o) here (next_all w (t + 1)))

    abbrev pub less_ends : Option ℕ → List Ends
    less_ends p = set (begun ends v p None) v (record (ends_of (begun ends v p None) v) { last = p })

    shrunk_ends : (w : ℕ) → w < list_count → ends_of (less_ends (latest ls v n)) w ≡ ended ls w
    shrunk_ends w h =
        ⊎_elim
        (λ e. subst (λ k. ends_of (less_ends (latest ls v n)) k ≡ ended ls k) (sym e)
        (get_or-set_same (begun ends v (latest ls v n) None) v _ _ (omega (arith, begun_long ends v (latest ls v n) None, old.many, listed))
        ∙ ap (λ (x : Ends). record x { last = latest ls v n }) (begun_here ends v None (latest ls v n) (omega (arith, old.many, listed)) ∙ ap (λ (x : Ends). record x { first = first_of (latest ls v n) x.first None }) (old.bounded v listed))
        ∙ ended_less v _ _ (go (latest ls v n) (is_last ls v n)) (is_last ls v n)))
        (λ ne. get_or-set_other (begun ends v (latest ls v n) None) v w _ _ ne
        ∙ begun_other ends v None (latest ls v n) w ne ∙ old.bounded w h
        ∙ ended_less w _ _ (next_back ls ms n v same new w 0 _ (differ_early w 0 ne _ (next_all w 0)) (next_all w 0)) (last_back ls ms n v same new w _ ne (last_all w)))
        (cases_eq w v)
      where
        go : (p : Option ℕ) → IsLast ls v n p → IsNext ls v 0 n (first_of p (next_from ms v 0 (length ms)) None)
        go None none = next_none ls ms n v same new 0 None none tt
        go (Some b) is = next_back ls ms n v same new v 0 _ (followed_early (Some b) is 0 (omega arith) _ (next_all v 0)) (next_all v 0)

    pub shrinks : Table ls (led slots (latest ls v n) None) (less_ends (latest ls v n))
    shrinks =
        let p = latest ls v n in
        record {
          long = led_long slots p None ∙ short;
          placed = shrunk_slot;
          bounded = shrunk_ends;
          known = λ t h. omega (arith, old.known t (omega (arith, size)), same t h);
          many = length-set (begun ends v p None) v _ ∙ begun_long ends v p None ∙ old.many;
        }
