-- Before which place nothing begins: a concatenation begins nowhere where its first part doesn't, nor does a group
-- whose inside doesn't. A span of a concatenation begins with one of its first part; a group spans what its inside does.
-- Where the parts before one hold no newline, a concatenation begins in the line in which that one does: the hard one
-- is `line_begins`.
use Rattle.std.proofs.Common.{◌≡◌, ℕ, ◌<◌, ◌≤◌, false, List, [], ◌∷◌, zero, suc, length, map, arith, sym, subst, inl, inr, slice_index_or}
use Rattle.std.proofs.lemmas.Bool.{cases_lt}
use Rattle.ere_tree.specs.Tree.{Tree, Trees, cat, group, then, trees_of}
use Rattle.ere_tree.specs.Captures.{Captures}
use Rattle.ere_tree.specs.Derivation.{Way, Ways, leaf, parts, members, chosen, inside, done, next, Spans, Derives, DerivesAll}
use Rattle.ere_tree.proofs.DerivationLemmas.{is_part}
use Rattle.ere_tree.specs.View.{view}
use Rattle.ere_tree.specs.declared.ere.Ere.{Ere}
use Rattle.ere_tree.specs.declared.ere.Ere as kind
use Rattle.ere_match.specs.Begins.{NoneBefore, HasNewline, may_hold_newline}
use Rattle.ere_match.proofs.NewlineLemmas.{holds_none, split}

-- the first so many hold no newline
abbrev pub InLine : List Ere → ℕ → Type 0
InLine xs i = (x : ℕ) → x < i → may_hold_newline (view (slice_index_or xs x kind.Empty)) ≡ false

-- the part at a place spans something where all of them do, in one line with them where those before it do
part_spans : (s : List ℕ) (xs : List Ere) (ws : Ways) (h k : ℕ) (c d : Captures) (i : ℕ) (one : Ere)
    → DerivesAll s (trees_of (map view xs)) ws h k c d → i < length xs → one ≡ slice_index_or xs i one
    → (m : ℕ) × (l : ℕ) × Spans s (view one) m l × (InLine xs i → HasNewline s h m → ⊥)
part_spans s [] ws h k c d i one g l is = absurd (omega (arith, l))
part_spans s (x ∷ xs) done h k c d i one g l is = absurd g
part_spans s (x ∷ xs) (next m w ws) h k c d zero one g l is =
    (h, m, subst (λ e. Spans s (view e) h m) (sym is) (w, c, g.0, g.1), λ line n. omega (arith, n.from, n.before))
part_spans s (x ∷ xs) (next m w ws) h k c d (suc i) one g l is =
    let (from, to, spans, behind) = part_spans s xs ws m k g.0 d i one g.2 (omega (arith, l)) is in
    let first = λ (line : InLine (x ∷ xs) (suc i)). holds_none s (view x) w h m c g.0 (line 0 (omega arith)) g.1 in
    (from, to, spans, λ line. split s h m from (first line) (behind (λ y u. line (suc y) (omega (arith, u)))))

spans_parts : (s : List ℕ) (ts : Trees) (h k : ℕ) → Spans s (cat ts) h k
    → (ws : Ways) × (c : Captures) × (d : Captures) × DerivesAll s ts ws h k c d
spans_parts s ts h k (parts ws, c, d, g) = (ws, c, d, g)
spans_parts s ts h k (leaf, c, d, g) = absurd g
spans_parts s ts h k (members ws, c, d, g) = absurd g
spans_parts s ts h k (chosen n w, c, d, g) = absurd g
spans_parts s ts h k (inside w, c, d, g) = absurd g

-- where a part spans nothing, neither do all of them
pub nowhere : (s : List ℕ) (xs : List Ere) (i place : ℕ) (one : Ere) → i < length xs → one ≡ slice_index_or xs i one
    → NoneBefore s (view one) place → length s < place → NoneBefore s (cat (trees_of (map view xs))) place
nowhere s xs i place one l is n past = record {
  none = λ h k b spans.
      let all = spans_parts s (trees_of (map view xs)) h k spans in
      let part = part_spans s xs all.0 h k all.1 all.2 i one all.3 l is in
      let lies = is_part s (view one) part.2.0 part.0 part.1 part.2.1 part.2.2 part.2.3 in
      n.none part.0 part.1 (omega (arith, lies.0, lies.1, past)) part.2;
}

-- they begin in the line in which a part does, where those before it hold no newline
pub line_begins : (s : List ℕ) (xs : List Ere) (i begin place front : ℕ) (one : Ere) → i < length xs
    → one ≡ slice_index_or xs i one → NoneBefore s (view one) place → InLine xs i
    → NoneBefore s (cat (trees_of (map view xs))) begin
    → ((h : ℕ) → begin ≤ h → h < front → HasNewline s h place) → NoneBefore s (cat (trees_of (map view xs))) front
line_begins s xs i begin place front one l is n line before newline = record {
  none = λ h k b spans.
      let all = spans_parts s (trees_of (map view xs)) h k spans in
      let part = part_spans s xs all.0 h k all.1 all.2 i one all.3 l is in
      elim (cases_lt h begin) [
        | inl early ↦ before.none h k early spans
        | inr late ↦ elim (cases_lt part.0 place) [
          | inl low ↦ n.none part.0 part.1 low part.2
          | inr high ↦
              let found = newline h late b in
              part.3 line
              (record { at = found.at; from = found.from; before = omega (arith, found.before, high); is = found.is })
        ]
      ];
}

-- they begin where the first of them does
pub first_begins : (s : List ℕ) (xs : List Ere) (place : ℕ) (d : Ere) → 0 < length xs
    → NoneBefore s (view (slice_index_or xs 0 d)) place → NoneBefore s (cat (trees_of (map view xs))) place
first_begins s [] place d l n = absurd (omega (arith, l))
first_begins s (x ∷ xs) place d l n = record {
  none = λ h k b spans.
      let all = spans_parts s (trees_of (map view (x ∷ xs))) h k spans in
      first_spans all.0 h k all.1 all.2 all.3 b;
}
  where
    first_spans : (ws : Ways) (h k : ℕ) (c e : Captures)
        → DerivesAll s (then (view x) (trees_of (map view xs))) ws h k c e
        → h < place → ⊥
    first_spans done h k c e g b = absurd g
    first_spans (next m w ws) h k c e g b = n.none h m b (w, c, g.0, g.1)

pub group_begins : (s : List ℕ) (t : Tree) (number place : ℕ) → NoneBefore s t place
    → NoneBefore s (group number t) place
group_begins s t number place n = record {
  none = λ h k b spans. inner_spans spans.0 h k spans.1 spans.2 b spans.3;
}
  where
    inner_spans : (w : Way) (h k : ℕ) (c d : Captures) → h < place → Derives s (group number t) w h k c d → ⊥
    inner_spans (inside w) h k c d b g = n.none h k b (w, c, g.0, g.1)
    inner_spans leaf h k c d b g = absurd g
    inner_spans (parts ws) h k c d b g = absurd g
    inner_spans (members ws) h k c d b g = absurd g
    inner_spans (chosen m w) h k c d b g = absurd g
