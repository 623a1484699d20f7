-- The groups of a part have numbers past those of the pieces before it, and a derivation leaves the other groups as they are.
-- By induction on the tree, for one tree and for a list of them together.
-- The hard one is `keeps`: each form hands on captures that differ at its own groups alone.
use Rattle.std.proofs.Common.{◌≡◌, ℕ, ℤ, zero, suc, ◌+◌, ◌<◌, ◌≤◌, Bool, true, false, cond, Option, Some, None, Result, Ok, Err, IfOk, List, [], ◌∷◌, ◌++◌, ap, ◌∙◌, subst, arith}
use Rattle.std.specs.Cmp.{nat_cmp_total, unsigned_tied}
use Rattle.std.specs.FinMap.{get, insert, get-insert}
use Rattle.std.proofs.lemmas.Bool.{ne_eqb}
use Rattle.ere_tree.specs.Captures.{Captures}
use Rattle.ere_tree.specs.Case.{both_cases, is_folded}
use Rattle.ere_tree.specs.Derivation.{Way, Ways, leaf, parts, members, chosen, inside, done, next, Derives, DerivesAll, DerivesEach, tree_at}
use Rattle.ere_tree.specs.Folded.{folded_parts}
use Rattle.ere_tree.specs.Grammar.{branch_of, letter}
use Rattle.ere_tree.specs.Shape.{shifted, all_shifted}
use Rattle.ere_tree.specs.Tree.{Tree, Trees, empty, plain, set, line_start, line_end, cat, alt, repeat, group, back, none, then, trees_of}
use Rattle.num_base.specs.Eval.{value_of}
use Rattle.num_base.specs.Term.{Term}
use Rattle.num_base.specs.declared.evaluation.EvalFault.{EvalFault}
use Rattle.num_base.specs.declared.format.Format.{Format}
use Rattle.num_base.specs.declared.format.FormatKind.{FormatKind}
use Rattle.num_spell.specs.Spelling.{prints, is_signed}
use Rattle.num_spell.specs.Wild.{wild, lead_parts, digit_parts}
use Rattle.pattern_instance.specs.Known.{Known}
use Rattle.pattern_instance.specs.Parts.{Groups, cased, part_of, recalled, number_part, valued, shown}
use Rattle.pattern_parse.specs.Item.{Item}
use Rattle.pattern_parse.specs.Item as item
use Rattle.pattern_parse.specs.Search.{HasNumbers, IsNumbered, AreNumbered}

-- each group of a tree has a number past this one
abbrev mutual
  pub IsPast : ℕ → Tree → Type 0
  IsPast n empty = Unit {0}
  IsPast n (plain bytes) = Unit {0}
  IsPast n (set bytes) = Unit {0}
  IsPast n line_start = Unit {0}
  IsPast n line_end = Unit {0}
  IsPast n (cat ts) = ArePast n ts
  IsPast n (alt ts) = ArePast n ts
  IsPast n (repeat t least most) = IsPast n t
  IsPast n (group number t) = (n < number) × IsPast n t
  IsPast n (back number fold) = Unit {0}

  pub ArePast : ℕ → Trees → Type 0
  ArePast n none = Unit {0}
  ArePast n (then t ts) = IsPast n t × ArePast n ts

mutual
  past_shifted : (n by : ℕ) (t : Tree) → n ≤ by → IsNumbered t → IsPast n (shifted by t)
  past_shifted n by empty low is = tt
  past_shifted n by (plain bytes) low is = tt
  past_shifted n by (set bytes) low is = tt
  past_shifted n by line_start low is = tt
  past_shifted n by line_end low is = tt
  past_shifted n by (cat ts) low is = all_past_shifted n by ts low is
  past_shifted n by (alt ts) low is = all_past_shifted n by ts low is
  past_shifted n by (repeat t least most) low is = past_shifted n by t low is
  past_shifted n by (group number t) low is = (omega (arith, is.0), past_shifted n by t low is.1)
  past_shifted n by (back number fold) low is = tt

  all_past_shifted : (n by : ℕ) (ts : Trees) → n ≤ by → AreNumbered ts → ArePast n (all_shifted by ts)
  all_past_shifted n by none low are = tt
  all_past_shifted n by (then t ts) low are = (past_shifted n by t low are.0, all_past_shifted n by ts low are.1)

-- a derivation leaves a group as it is that isn't of the tree
other_stays : (c : Captures) (n : ℕ) (p : ℕ × ℕ) (m : ℕ) → m < n → get (insert c n p) m ≡ get c m
other_stays c n p m low =
    get-insert nat_cmp_total c n p m
    ∙ ap (λ b. cond b (Some p) (get c m)) (unsigned_tied m n ∙ ne_eqb m n (λ same. absurd (omega (arith, same))))

past_at : (k n : ℕ) (ts : Trees) (t : Tree) → ArePast k ts → tree_at ts n ≡ Some t → IsPast k t
past_at k n none t past at = cc
past_at k zero (then u ts) t past at = let same : u ≡ t = cc in subst (IsPast k) same past.0
past_at k (suc n) (then u ts) t past at = past_at k n ts t past.1 at

mutual
  pub keeps : (s : List ℕ) (t : Tree) (w : Way) (i j : ℕ) (c d : Captures) (k : ℕ) → IsPast k t
      → Derives s t w i j c d → get d k ≡ get c k
  keeps s empty leaf i j c d k past h = ap (λ x. get x k) h.2
  keeps s (plain bytes) leaf i j c d k past h = ap (λ x. get x k) h.2
  keeps s (set bytes) leaf i j c d k past h = ap (λ x. get x k) h.3
  keeps s line_start leaf i j c d k past h = ap (λ x. get x k) h.2
  keeps s line_end leaf i j c d k past h = ap (λ x. get x k) h.2
  keeps s (cat all) (parts ws) i j c d k past h = all_keep s all ws i j c d k past h
  keeps s (alt all) (chosen n w) i j c d k past h = keeps s h.0 w i j c d k (past_at k n all h.0 past h.1) h.2
  keeps s (repeat inner least most) (members ws) i j c d k past h = each_keeps s inner least ws i j c d k past h.1
  keeps s (group number inner) (inside w) i j c d k past h =
      ap (λ x. get x k) h.2 ∙ other_stays h.0 number (i, j) k past.0 ∙ keeps s inner w i j c h.0 k past.1 h.1
  keeps s (back number fold) leaf i j c d k past h = ap (λ x. get x k) h.4
  keeps s t w i j c d k past h = absurd h

  pub all_keep : (s : List ℕ) (ts : Trees) (ws : Ways) (i j : ℕ) (c d : Captures) (k : ℕ) → ArePast k ts
      → DerivesAll s ts ws i j c d → get d k ≡ get c k
  all_keep s none done i j c d k past h = ap (λ x. get x k) h.2
  all_keep s (then t ts) (next m w ws) i j c d k past h =
      all_keep s ts ws m j h.0 d k past.1 h.2 ∙ keeps s t w i m c h.0 k past.0 h.1
  all_keep s ts ws i j c d k past h = absurd h

  each_keeps : (s : List ℕ) (t : Tree) (least : ℕ) (ws : Ways) (i j : ℕ) (c d : Captures) (k : ℕ) → IsPast k t
      → DerivesEach s t least ws i j c d → get d k ≡ get c k
  each_keeps s t least done i j c d k past h = ap (λ x. get x k) h.2
  each_keeps s t zero (next m w ws) i j c d k past h =
      each_keeps s t zero ws m j h.0 d k past h.3 ∙ keeps s t w i m c h.0 k past h.1
  each_keeps s t (suc least) (next m w ws) i j c d k past h =
      each_keeps s t least ws m j h.0 d k past h.2 ∙ keeps s t w i m c h.0 k past h.1

-- PARTS OF PIECES

-- plain bytes have no groups
abbrev pub AllPast : ℕ → List Tree → Type 0
AllPast n [] = Unit {0}
AllPast n (t ∷ ts) = IsPast n t × AllPast n ts

pub all_past : (n : ℕ) (ts : List Tree) → AllPast n ts → ArePast n (trees_of ts)
all_past n [] are = tt
all_past n (t ∷ ts) are = (are.0, all_past n ts are.1)

branch_past : (n : ℕ) (ts : List Tree) → AllPast n ts → IsPast n (branch_of ts)
branch_past n [] are = tt
branch_past n (t ∷ []) are = are.0
branch_past n (t ∷ u ∷ ts) are = (are.0, (are.1.0, all_past n ts are.1.1))

letter_past : (n b : ℕ) (ts : List Tree) → AllPast n ts → AllPast n (letter b ts)
letter_past n b [] are = (tt, tt)
letter_past n b (plain bytes ∷ ts) are = (tt, are.1)
letter_past n b (empty ∷ ts) are = (tt, are)
letter_past n b (set bytes ∷ ts) are = (tt, are)
letter_past n b (line_start ∷ ts) are = (tt, are)
letter_past n b (line_end ∷ ts) are = (tt, are)
letter_past n b (cat all ∷ ts) are = (tt, are)
letter_past n b (alt all ∷ ts) are = (tt, are)
letter_past n b (repeat t least most ∷ ts) are = (tt, are)
letter_past n b (group number t ∷ ts) are = (tt, are)
letter_past n b (back number fold ∷ ts) are = (tt, are)

folded_past : (n : ℕ) (bytes : List ℕ) → AllPast n (folded_parts bytes)
folded_past n [] = tt
folded_past n (b ∷ bytes) = each (is_folded true b) (folded_past n bytes)
  where
    each : (v : Bool) → AllPast n (folded_parts bytes)
        → AllPast n (cond v (set (both_cases (b ∷ [])) ∷ folded_parts bytes) (letter b (folded_parts bytes)))
    each true are = (tt, are)
    each false are = letter_past n b (folded_parts bytes) are

plain_past : (fold : Bool) (n : ℕ) (bytes : List ℕ) → IsPast n (cased fold (plain bytes))
plain_past false n bytes = tt
plain_past true n [] = tt
plain_past true n (b ∷ bytes) = branch_past n (folded_parts (b ∷ bytes)) (folded_past n (b ∷ bytes))

-- what a format spells, where `minus` tells whether a minus may stand in front
abbrev spelled_by : Bool → FormatKind → Bool → ℕ → Tree
spelled_by minus kind alternate digits =
    branch_of (cond minus (repeat (plain (45 ∷ [])) 0 (Some 1) ∷ []) []
    ++ (lead_parts alternate ++ digit_parts kind digits))

spelled_numbered : (fold minus : Bool) (kind : FormatKind) (alternate : Bool) (digits : ℕ)
    → IsNumbered (cased fold (spelled_by minus kind alternate digits))
spelled_numbered false false kind false zero = tt
spelled_numbered false false kind false (suc p) = grind arith
spelled_numbered false false kind true zero = grind arith
spelled_numbered false false kind true (suc p) = grind arith
spelled_numbered false true kind false zero = grind arith
spelled_numbered false true kind false (suc p) = grind arith
spelled_numbered false true kind true zero = grind arith
spelled_numbered false true kind true (suc p) = grind arith
spelled_numbered true false kind false zero = grind arith
spelled_numbered true false kind false (suc p) = grind arith
spelled_numbered true false kind true zero = grind arith
spelled_numbered true false kind true (suc p) = grind arith
spelled_numbered true true kind false zero = grind arith
spelled_numbered true true kind false (suc p) = grind arith
spelled_numbered true true kind true zero = grind arith
spelled_numbered true true kind true (suc p) = grind arith

wild_numbered : (fold : Bool) (format : Format) → IsNumbered (cased fold (wild format))
wild_numbered fold format =
    spelled_numbered fold (is_signed format.kind) format.kind format.alternate format.digits

-- the groups of a part are past those before its piece
recalled_past : (fold : Bool) (n : ℕ) (nearest : Option ℕ) (text : Option (List ℕ)) → IsPast n (recalled fold nearest text)
recalled_past fold n (Some k) text = tt
recalled_past fold n None (Some bytes) = plain_past fold n bytes
recalled_past fold n None None = tt

shown_past : (fold : Bool) (n : ℕ) (defines : Option (List ℕ)) (value : ℤ) (bytes : Option (List ℕ))
    → IfOk (shown fold defines value bytes) (λ part. IsPast n part.tree)
shown_past fold n defines value None = tt
shown_past fold n defines value (Some bytes) = plain_past fold n bytes

valued_past : (fold : Bool) (n : ℕ) (defines : Option (List ℕ)) (format : Format) (r : Result ℤ EvalFault)
    → IfOk (valued fold defines format r) (λ part. IsPast n part.tree)
valued_past fold n defines format (Ok value) = shown_past fold n defines value (prints format value)
valued_past fold n defines format (Err fault) = tt

number_past : (known : Known) (n k : ℕ) (defines : Option (List ℕ)) (format : Format) (t : Option Term) → k ≤ n
    → IfOk (number_part known n defines format t) (λ part. IsPast k part.tree)
number_past known n k defines format None low =
    (omega arith, past_shifted k (n + 1) (cased known.fold (wild format)) (omega arith) (wild_numbered known.fold format))
number_past known n k defines format (Some t) low =
    valued_past known.fold k defines format (value_of known.number known.at t)

pub part_past : (known : Known) (n k : ℕ) (groups : Groups) (one : Item) → k ≤ n → HasNumbers one
    → IfOk (part_of known n groups one) (λ part. IsPast k part.tree)
part_past known n k groups (item.plain bytes) low is = plain_past known.fold k bytes
part_past known n k groups (item.regex t) low is = past_shifted k n t low is
part_past known n k groups (item.define name t) low is = (omega arith, past_shifted k (n + 1) t (omega arith) is)
part_past known n k groups (item.recall name) low is = recalled_past known.fold k (get groups name) (known.text name)
part_past known n k groups (item.number num format) low is = number_past known n k num.defines format num.expr low
