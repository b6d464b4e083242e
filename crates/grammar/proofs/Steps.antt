-- How the parts of an expression lead on, and what is read with them. Assumes nothing.
use Rattle.std.proofs.Common.{◌≡◌, ℕ, ◌+◌, ◌<◌, ◌≤◌, List, [], ◌∷◌, ◌++◌, length, Some, None, Ok, Err, Result, sym, refl, ap, ◌∙◌, subst, arith, Bor}
use Rattle.tokens.specs.declared.token.Token.{Token}
use Rattle.tokens.specs.declared.token.Word.TheVariants as kw
use Rattle.tokens.specs.declared.token.Symbol.TheVariants as sg
use Rattle.tokens.specs.Tokens.{word, symbol, Placed}
use Rattle.syntax.specs.declared.tree.Exp.{Exp}
use Rattle.syntax.specs.declared.tree.Operator.{Operator}
use Rattle.syntax.specs.Meanings.{tree_of}
use Rattle.syntax.specs.Sorts.{at, After}
use Rattle.syntax.specs.Grammar.{class, Spans}
use Rattle.goals.specs.Goals.{Goal, Goals, one, exp, sum, app, atom, level}
use Rattle.goals.specs.Begins.{atom_begins, app_begins}
use Rattle.goals.specs.Machine.{more_levels, levels, fate}
use Rattle.goals.proofs.Steps.{on, steps, word_taken, level_ends, sum_opens, term_opens}
use Rattle.pieces.specs.declared.fault.Fault.{Fault}
use Rattle.pieces.specs.declared.fault.Fault.TheVariants.{Misplaced, TooDeep, Memory}
use Rattle.pieces.specs.Seen.{seen, left}
use Rattle.pieces.specs.Reading.{Leads, Failed, Deeper, Reads}
use Rattle.pieces.specs.declared.looking.Tier.{Tier}
use Rattle.pieces.specs.declared.looking.Tier.TheVariants as by
use Rattle.pieces.specs.Looking.{Operates}
use Rattle.pieces.specs.Taking.{strength_of, part_strength, whole_of, more_of, part_of}
use Rattle.pieces.specs.Making.{Made, Joined, Chosen}

-- the whole of a tier is a part and then more
opens_with : (tier : Tier) (end : ℕ) (S : Goals) (ts : List Placed) → fate end (whole_of tier ∷ S) ts ≡ fate end (part_of tier ∷ more_of tier ∷ S) ts
opens_with by.Sum end S ts = sum_opens end S ts
opens_with by.Term end S ts = term_opens end S ts

flat_more : (tier : Tier) (n : ℕ) → more_levels (more_of tier) n ≡ n
flat_more by.Sum n = refl
flat_more by.Term n = refl

weaker : (tier : Tier) → part_strength tier < strength_of tier
weaker by.Sum = omega arith
weaker by.Term = omega arith

pub chain_fails : (tier : Tier) (end depth : ℕ) (ts : List Placed) (e : Fault) → Failed end depth (part_of tier ∷ []) ts e → Failed end depth (whole_of tier ∷ []) ts e
chain_fails tier end depth ts (Misplaced p) f = λ S d few. opens_with tier end S ts ∙ f (more_of tier ∷ S) (flat_more tier (levels S) ∙ d) (omega (arith, flat_more tier (levels S), few))
chain_fails tier end depth ts (TooDeep p) f = λ S d few. opens_with tier end S ts ∙ f (more_of tier ∷ S) (flat_more tier (levels S) ∙ d) (omega (arith, flat_more tier (levels S), few))
chain_fails tier end depth ts Memory f = tt

-- a tree that was read of a tier, behind which more may follow
abbrev pub SoFar : ℕ → ℕ → Tier → List Placed → Exp → List Placed → Type 0
SoFar end depth tier ts e m =
    (class (tree_of e) ≤ strength_of tier) × Spans (tree_of e) ts m × (length m < length ts) × Leads end depth (whole_of tier ∷ []) ts (more_of tier ∷ []) m

pub chain_first : (tier : Tier) (end depth : ℕ) (ts : List Placed) (x : Exp × Bor (List Token)) → Reads end (part_strength tier) depth (part_of tier) ts (Ok x) → SoFar end depth tier ts x.0 (seen x.1)
chain_first tier end depth ts x a = (
  omega (arith, a.0, weaker tier),
  a.1,
  a.2,
  λ S d few. opens_with tier end S ts ∙ a.3 (more_of tier ∷ S) (flat_more tier (levels S) ∙ d) (omega (arith, flat_more tier (levels S), few)),
)

pub chain_more : (tier : Tier) (end depth : ℕ) (ts m : List Placed) (a b e : Exp) (o : (ℕ × Operator) × Bor (List Token)) (rest : Bor (List Token)) → SoFar end depth tier ts a m → Operates (strength_of tier) end (more_of tier) (part_of tier) m (Some o) → Reads end (part_strength tier) depth (part_of tier) (seen o.1) (Ok (b, rest)) → Joined a o.0.0 o.0.1 b e → SoFar end depth tier ts e (seen rest)
chain_more tier end depth ts m a b e o rest before op next made = (
  omega (arith, made.0, op.0),
  made.1 ts (seen o.1) (seen rest) (omega (arith, before.0, op.0)) (subst (λ l. Spans (tree_of a) ts l) op.1 before.1) (omega (arith, next.0, op.0, weaker tier)) next.1,
  omega (arith, before.2, ap length op.1, next.2),
  λ S d few. before.3 S d few ∙ op.2 S few ∙ next.3 (more_of tier ∷ S) (flat_more tier (levels S) ∙ d) (omega (arith, flat_more tier (levels S), few)),
)

-- what begins no call, no `ref` and no `!` begins an app as it begins an atom
abbrev pub AtomFirst : List Placed → Type 0
AtomFirst [] = Unit {0}
AtomFirst (t ∷ ts) = app_begins t.tok ≡ atom_begins t.tok

atom_fate : (end : ℕ) (ts : List Placed) → AtomFirst ts → (S : Goals) → fate end (app ∷ S) ts ≡ fate end (atom ∷ S) ts
atom_fate end [] first S = refl
atom_fate end (t ∷ ts) first S = ap (λ gs. on end t.place ts (elim gs [ Some hs ↦ Some (hs ++ S) | None ↦ None ])) first

pub atom_read : (end depth : ℕ) (ts : List Placed) (x : Result (Exp × Bor (List Token)) Fault) → AtomFirst ts → Reads end 0 depth atom ts x → Reads end 1 depth app ts x
atom_read end depth ts (Ok x) first a = (omega (arith, a.0), a.1, a.2, λ S d few. atom_fate end ts first S ∙ a.3 S d few)
atom_read end depth ts (Err (Misplaced p)) first a = λ S d few. atom_fate end ts first S ∙ a S d few
atom_read end depth ts (Err (TooDeep p)) first a = λ S d few. atom_fate end ts first S ∙ a S d few
atom_read end depth ts (Err Memory) first a = tt

-- what was read with the same end
pub same_end : (end most depth : ℕ) (g : Goal) (ts : List Placed) (x : Result (Exp × Bor (List Token)) Fault) (n : ℕ) → n ≡ end → Reads n most depth g ts x → Reads end most depth g ts x
same_end end most depth g ts x n e a = subst (λ k. Reads k most depth g ts x) e a

module _ (end depth inner place : ℕ) (deep : Deeper depth (Some inner)) (ts : List Placed) (ra rb rc rd : Exp × Bor (List Token)) (s t u : List Placed) (a : Reads end 3 inner sum ts (Ok ra)) (less : After (symbol sg.Less) (seen ra.1) s) (b : Reads end 3 inner sum s (Ok rb)) (then : After (word kw.Then) (seen rb.1) t) (c : Reads end 4 inner exp t (Ok rc)) (else : After (word kw.Else) (seen rc.1) u) (d : Reads end 4 inner exp u (Ok rd)) where
  if_leads : Leads end depth (exp ∷ []) (at place (word kw.If) ∷ ts) [] (seen rd.1)
  if_leads S e few =
      let after-d : Goals = level ∷ S in
      let after-c : Goals = one (word kw.Else) ∷ exp ∷ after-d in
      let after-b : Goals = one (word kw.Then) ∷ exp ∷ after-c in
      let after-a : Goals = one (symbol sg.Less) ∷ sum ∷ after-b in
      let as-deep : levels S + 1 ≡ inner = omega (arith, e, deep.0) in
      let low : levels S + 1 ≤ 32 = omega (arith, e, deep.1) in
      steps end place (word kw.If) (exp ∷ S) (sum ∷ after-a) ts refl low
      ∙ a.3 after-a as-deep low
      ∙ word_taken end (sum ∷ after-b) (seen ra.1) s refl less low
      ∙ b.3 after-b as-deep low
      ∙ word_taken end (exp ∷ after-c) (seen rb.1) t refl then low
      ∙ c.3 after-c as-deep low
      ∙ word_taken end (exp ∷ after-d) (seen rc.1) u refl else low
      ∙ d.3 after-d as-deep low
      ∙ level_ends end S (seen rd.1)

  pub if_reads : (r : Result Exp Fault) → Made (Chosen place ra.0 rb.0 rc.0 rd.0) r → Reads end 4 depth exp (at place (word kw.If) ∷ ts) (left r rd.1)
  if_reads (Err e) made = subst (λ k. Failed end depth (exp ∷ []) (at place (word kw.If) ∷ ts) k) (sym made) tt
  if_reads (Ok v) made = (
    omega (arith, made.0),
    made.1 ts (seen ra.1) s (seen rb.1) t (seen rc.1) u (seen rd.1) a.0 a.1 less b.0 b.1 then c.1 else d.1,
    omega (arith, a.2, b.2, c.2, d.2, ap length less.1, ap length then.1, ap length else.1),
    if_leads,
  )
