-- Tokens: what is read is spelled, and what is spelled is read. An atom comes first, then the bound behind it.
-- By cases on the first byte, each by what the reader computes there; bounds are those of BoundSpelling.
-- The hard ones are `atom_told`, a case for each byte with a meaning of its own, and `atom_spelled`, its other way.
use Rattle.std.proofs.Common.{◌≡◌, ℕ, suc, ◌+◌, ◌-◌, ◌<◌, ◌≤◌, Bool, true, false, cond, ◌&&◌, ◌||◌, ◌==◌, inl, inr, codes, IsTrue, List, [], ◌∷◌, ◌++◌, Some, None, Result, Ok, Err, length, drop, nat_lt, refl, sym, ap, subst, ◌∙◌, arith, length-append}
use Rattle.std.proofs.lemmas.Bool.{and_from, eq-eqb, eqb-true, lt-ltb, true≢false, or_parts}
use Rattle.std.proofs.lemmas.List.{drop_at, drop-drop}
use Rattle.std.specs.Int.{is_in_range}
use Rattle.std.specs.Option.{MatchOption}
use Rattle.ere_tree.specs.Bound.{begins_bound, bound_at}
use Rattle.ere_tree.specs.Bracket.{bracket}
use Rattle.ere_tree.specs.Class.{is_digit}
use Rattle.ere_tree.specs.Front.{begins_with}
use Rattle.ere_tree.specs.Productions.{Takes}
use Rattle.ere_tree.specs.Token.{Atom, Token, atom_at, bar, bound_behind, bracket_item, byte, close_group, counted, escape_at, escaped, item, one_of, open_group, same_as, token, with_bound}
use Rattle.ere_tree.specs.Token as tokens
use Rattle.ere_tree.specs.declared.fault.EreFault.{EreFault}
use Rattle.ere_laws.specs.Spelling.{Begins, HasNoBound, IsOrdinary, SpellsAtom, SpellsBound, SpellsToken, is_special, spelled}
use Rattle.ere_laws.proofs.FrontSpelling.{chosen}
use Rattle.ere_laws.proofs.BoundSpelling.{bound_read, bound_spelled}
use Rattle.ere_laws.proofs.BracketSpelling.{bracket_read, bracket_spelled, ok_is}

-- THE BOUND BEHIND

pub none_spelled : (behind : List ℕ) → bound_at behind ≡ None → HasNoBound behind
none_spelled behind none least most rest (one, good, a, b, same) =
    cc (ap bound_at same ∙ bound_spelled one rest good)

none_read : (behind : List ℕ) → HasNoBound behind → bound_at behind ≡ None
none_read behind none = by_value (bound_at behind) refl
  where
    by_value : (o : _) → bound_at behind ≡ o → o ≡ None
    by_value None is = refl
    by_value (Some found) is =
        let r = bound_read behind found is in
        absurd (none found.0.least found.0.most r.rest (r.one, r.good, r.least_is, r.most_is, r.is))

optional_read : (text behind : List ℕ) (count : ℕ) → drop count text ≡ behind → (extra : ℕ)
    × ((bound_behind count text).1 ≡ count + extra)
    × MatchOption (bound_behind count text).0 (HasNoBound behind × (drop extra behind ≡ behind))
    (λ b. SpellsBound behind b.least b.most (drop extra behind))
unfolding bound_behind
optional_read text behind count same = rw same (by_value (bound_at behind) refl)
  where
    by_value : (o : _) → bound_at behind ≡ o → (extra : ℕ) × ((counted count o).1 ≡ count + extra)
        × MatchOption (counted count o).0 (HasNoBound behind × (drop extra behind ≡ behind))
        (λ b. SpellsBound behind b.least b.most (drop extra behind))
    by_value None is = (0, omega arith, (none_spelled behind is, refl))
    by_value (Some found) is =
        let r = bound_read behind found is in
        let past : drop found.1 behind ≡ r.rest =
        ap (drop found.1) r.is ∙ drop_at (spelled r.one) r.rest found.1 (sym r.long) in
        (found.1, refl, (r.one, r.good, r.least_is, r.most_is, r.is ∙ ap (λ t. spelled r.one ++ t) (sym past)))

pub optional_spelled : (text behind rest : List ℕ) (count : ℕ) (bound : _) → item (byte 0) bound ≡ item (byte 0) bound
    → drop count text ≡ behind
    → MatchOption bound (HasNoBound behind × (rest ≡ behind)) (λ b. SpellsBound behind b.least b.most rest)
    → (extra : ℕ) × (bound_behind count text ≡ (bound, count + extra)) × (rest ≡ drop extra behind)
    × (extra ≤ length behind)
unfolding bound_behind
optional_spelled text behind rest count None same at (none, rest_is) = (
  0,
  ap (λ t. counted count (bound_at t)) at ∙ ap (counted count) (none_read behind none)
      ∙ ap (λ n. (None, n)) (omega arith),
  rest_is,
  omega arith,
)
optional_spelled text behind rest count (Some bound) same at (one, good, a, b, spells) =
    let read = ap bound_at spells ∙ bound_spelled one rest good in
    let long = ap length spells ∙ length-append (spelled one) rest in (
      length (spelled one),
      ap (λ t. counted count (bound_at t)) at ∙ ap (counted count) read
          ∙ (λ i. (Some (record { least = sym a i; most = sym b i }), count + length (spelled one))),
      sym (ap (drop (length (spelled one))) spells ∙ drop_at (spelled one) rest (length (spelled one)) refl),
      omega (arith, long),
    )

-- WHAT IS READ IS SPELLED

-- so many bytes of the text are spelled as a token
abbrev Told : List ℕ → Token × ℕ → Type 0
Told text found = SpellsToken text found.0 (drop found.1 text)

-- behind an atom
item_told : (text behind : List ℕ) (atom : Atom) (count : ℕ) → SpellsAtom text atom behind → drop count text ≡ behind
    → Told text (with_bound (item atom) count text)
item_told text behind atom count spells same =
    let o = optional_read text behind count same in
    let past : drop o.0 behind ≡ drop (bound_behind count text).1 text =
    ap (drop o.0) (sym same) ∙ drop-drop o.0 count text ∙ ap (λ n. drop n text) (sym o.1) in (
      behind,
      spells,
      subst (λ r. MatchOption (bound_behind count text).0 (HasNoBound behind × (r ≡ behind))
          (λ b. SpellsBound behind b.least b.most r)) past o.2,
    )

close_told : (behind : List ℕ) → Told (41 ∷ behind) (with_bound close_group 1 (41 ∷ behind))
close_told behind =
    let text : List ℕ = 41 ∷ behind in
    let o = optional_read text behind 1 refl in
    let past : drop o.0 behind ≡ drop (bound_behind 1 text).1 text =
    drop-drop o.0 1 text ∙ ap (λ n. drop n text) (sym o.1) in (
      behind,
      refl,
      subst (λ r. MatchOption (bound_behind 1 text).0 (HasNoBound behind × (r ≡ behind))
          (λ b. SpellsBound behind b.least b.most r)) past o.2,
    )

escape_told : (c : ℕ) (more : List ℕ) → Told (92 ∷ c ∷ more) (with_bound (item (escaped c)) 2 (92 ∷ c ∷ more))
escape_told c more = by_value (is_in_range 49 57 c) refl
  where
    by_value : (v : Bool) → is_in_range 49 57 c ≡ v
        → Told (92 ∷ c ∷ more) (with_bound (item (escaped c)) 2 (92 ∷ c ∷ more))
    by_value true is = rw is (item_told (92 ∷ c ∷ more) more (same_as (c - 48)) 2 (c, refl, is, refl) refl)
    by_value false is = rw is (item_told (92 ∷ c ∷ more) more (byte c) 2 (inr (refl, is)) refl)

escape_read : (rest : List ℕ) (found : Token × ℕ) → escape_at (92 ∷ rest) ≡ Ok found → Told (92 ∷ rest) found
escape_read [] found read = cc
escape_read (c ∷ more) found read =
    let long : nat_lt 1 (suc (suc (length more))) ≡ true = lt-ltb 1 (suc (suc (length more))) (omega arith) in
    subst (Told (92 ∷ c ∷ more)) (ok_is _ found _ refl (rw long at read)) (escape_told c more)

bracket_told : (rest : List ℕ) (found : Token × ℕ) (o : Result (Bool × List ℕ × ℕ) EreFault)
    → bracket (91 ∷ rest) ≡ o → bracket_item (91 ∷ rest) o ≡ Ok found → Told (91 ∷ rest) found
bracket_told rest found (Err refused) is read = cc
bracket_told rest found (Ok b) is read =
    let r = bracket_read rest b is in
    let past : drop b.2 (91 ∷ rest) ≡ r.rest = ap (drop b.2) r.is ∙ drop_at r.front r.rest b.2 (sym r.long) in
    subst (Told (91 ∷ rest)) (ok_is _ found _ refl read)
    (item_told (91 ∷ rest) r.rest (one_of b.0 b.1) b.2 (inr (r.all, r.bytes_are, r.spells)) past)

-- the bytes with a meaning of their own, one by one
pub record Plain (b : ℕ) : Type 0 where
  start : (b == 94) ≡ false
  stop : (b == 36) ≡ false
  either : (b == 124) ≡ false
  opened : (b == 40) ≡ false
  closed : (b == 41) ≡ false
  star : (b == 42) ≡ false
  plus : (b == 43) ≡ false
  mark : (b == 63) ≡ false
  dot : (b == 46) ≡ false
  bracket : (b == 91) ≡ false
  escape : (b == 92) ≡ false

plain : (b : ℕ) → is_special b ≡ false → Plain b
plain b is =
    let a = or_parts (b == 94) _ is in
    let c = or_parts (b == 36) _ a.1 in
    let d = or_parts (b == 124) _ c.1 in
    let e = or_parts (b == 40) _ d.1 in
    let f = or_parts (b == 41) _ e.1 in
    let g = or_parts (b == 42) _ f.1 in
    let h = or_parts (b == 43) _ g.1 in
    let j = or_parts (b == 63) _ h.1 in
    let k = or_parts (b == 46) _ j.1 in
    let l = or_parts (b == 91) _ k.1 in
    let m = or_parts (b == 92) _ l.1 in
    record {
      start = a.0;
      stop = c.0;
      either = d.0;
      opened = e.0;
      closed = f.0;
      star = g.0;
      plus = h.0;
      mark = j.0;
      dot = k.0;
      bracket = l.0;
      escape = m.0;
    }

-- a byte that is none of them, before this text
ordinary : (b : ℕ) (rest : List ℕ) → Plain b → ((b == 123) && begins_with is_digit rest) ≡ false → IsOrdinary b rest
unfolding begins_with
ordinary b rest p no_bound = (
  rw (p.start, p.stop, p.either, p.opened, p.closed, p.star, p.plus, p.mark, p.dot, p.bracket, p.escape) refl,
  λ brace digit is begins. true≢false (sym (and_from _ _ (eq-eqb b 123 brace)
      (ap (begins_with is_digit) begins.1 ∙ is)) ∙ no_bound),
)

-- an atom that is read
atom_told : (b : ℕ) (rest : List ℕ) (found : Token × ℕ) → (b == 94) ≡ false → (b == 36) ≡ false → (b == 124) ≡ false
    → (b == 40) ≡ false → (b == 41) ≡ false → begins_bound (b ∷ rest) ≡ false → atom_at (b ∷ rest) ≡ Ok found
    → Told (b ∷ rest) found
unfolding atom_at begins_bound begins_with
atom_told b rest found start stop either opened closed no_bound read =
    elim (chosen (b == 46) _ _ _ read) [
      | inl (is, e) ↦ subst (Told (b ∷ rest)) (ok_is _ found _ refl e) (item_told (b ∷ rest) rest (one_of true []) 1
          (inl (ap (λ c. c ∷ rest) (eqb-true b 46 is), refl, refl)) refl)
      | inr (dot, e) ↦ elim (chosen (b == 91) _ _ _ e) [
        | inl (is, e) ↦
            let same : b ∷ rest ≡ 91 ∷ rest = ap (λ c. c ∷ rest) (eqb-true b 91 is) in
            subst (λ t. Told t found) (sym same)
            (bracket_told rest found (bracket (91 ∷ rest)) refl (ap (λ t. bracket_item t (bracket t)) (sym same) ∙ e))
        | inr (bracket, e) ↦ elim (chosen (b == 92) _ _ _ e) [
          | inl (is, e) ↦
              let same : b ∷ rest ≡ 92 ∷ rest = ap (λ c. c ∷ rest) (eqb-true b 92 is) in
              subst (λ t. Told t found) (sym same) (escape_read rest found (ap escape_at (sym same) ∙ e))
          | inr (escape, e) ↦
              let first = or_parts ((b == 42) || (b == 43) || (b == 63)) _ no_bound in
              let second = or_parts ((b == 42) || (b == 43)) (b == 63) first.0 in
              let third = or_parts (b == 42) (b == 43) second.0 in
              let plain_one : Plain b = record {
                start = start;
                stop = stop;
                either = either;
                opened = opened;
                closed = closed;
                star = third.0;
                plus = third.1;
                mark = second.1;
                dot = dot;
                bracket = bracket;
                escape = escape;
              } in
              subst (Told (b ∷ rest)) (ok_is _ found _ refl e)
              (item_told (b ∷ rest) rest (byte b) 1 (inl (refl, ordinary b rest plain_one first.1)) refl)
        ]
      ]
    ]

pub token_told : (text : List ℕ) (found : Token × ℕ) → 0 < length text → token text ≡ Ok found → Told text found
unfolding token begins_with
token_told [] found some read = absurd (omega (arith, some))
token_told (b ∷ rest) found some read = elim (chosen (b == 94) _ _ _ read) [
  | inl (is, e) ↦ subst (Told (b ∷ rest)) (ok_is _ found _ refl e) (ap (λ c. c ∷ rest) (eqb-true b 94 is))
  | inr (start, e) ↦ elim (chosen (b == 36) _ _ _ e) [
    | inl (is, e) ↦ subst (Told (b ∷ rest)) (ok_is _ found _ refl e) (ap (λ c. c ∷ rest) (eqb-true b 36 is))
    | inr (stop, e) ↦ elim (chosen (b == 124) _ _ _ e) [
      | inl (is, e) ↦ subst (Told (b ∷ rest)) (ok_is _ found _ refl e) (ap (λ c. c ∷ rest) (eqb-true b 124 is))
      | inr (either, e) ↦ elim (chosen (b == 40) _ _ _ e) [
        | inl (is, e) ↦ subst (Told (b ∷ rest)) (ok_is _ found _ refl e) (ap (λ c. c ∷ rest) (eqb-true b 40 is))
        | inr (opened, e) ↦ elim (chosen (b == 41) _ _ _ e) [
          | inl (is, e) ↦
              let same : b ∷ rest ≡ 41 ∷ rest = ap (λ c. c ∷ rest) (eqb-true b 41 is) in
              subst (λ t. Told t found) (sym same) (subst (Told (41 ∷ rest))
              (ok_is _ found _ refl (ap (λ t. Ok (with_bound close_group 1 t)) (sym same) ∙ e)) (close_told rest))
          | inr (closed, e) ↦ elim (chosen (begins_bound (b ∷ rest)) _ _ _ e) [
            | inl (is, e) ↦ cc
            | inr (no_bound, e) ↦ atom_told b rest found start stop either opened closed no_bound e
          ]
        ]
      ]
    ]
  ]
]

-- WHAT IS SPELLED IS READ

-- an atom that is spelled, so many bytes of the text
pub record AtomRead (text : List ℕ) (atom : Atom) (behind : List ℕ) : Type 0 where
  front : List ℕ
  some : 0 < length front
  is : text ≡ front ++ behind
  reads : token text ≡ Ok (with_bound (item atom) (length front) text)

ordinary_read : (b : ℕ) (rest : List ℕ) → IsOrdinary b rest
    → token (b ∷ rest) ≡ Ok (with_bound (item (byte b)) 1 (b ∷ rest))
unfolding token atom_at begins_bound begins_with
ordinary_read b rest (special, brace) =
    let p = plain b special in
    let no_bound : ((b == 123) && begins_with is_digit rest) ≡ false = no_brace (b == 123) refl rest brace in
    rw (p.start, p.stop, p.either, p.opened, p.closed, p.star, p.plus, p.mark, no_bound, p.dot, p.bracket, p.escape) refl
  where
    no_brace : (v : Bool) → (b == 123) ≡ v → (rest : List ℕ)
        → (b ≡ 123 → (digit : ℕ) → IsTrue (is_digit digit) → Begins rest (digit ∷ []) → ⊥)
        → (v && begins_with is_digit rest) ≡ false
    no_brace false is rest bare = refl
    no_brace true is [] bare = refl
    no_brace true is (c ∷ rest) bare = by_value (is_digit c) refl
      where
        by_value : (w : Bool) → is_digit c ≡ w → w ≡ false
        by_value false no_digit = refl
        by_value true digit = absurd (bare (eqb-true b 123 is) c digit (rest, refl))

escape_spelled : (c : ℕ) (more : List ℕ)
    → token (92 ∷ c ∷ more) ≡ Ok (with_bound (item (escaped c)) 2 (92 ∷ c ∷ more))
unfolding token atom_at begins_bound begins_with
escape_spelled c more =
    let long : nat_lt 1 (suc (suc (length more))) ≡ true = lt-ltb 1 (suc (suc (length more))) (omega arith) in
    rw long refl

dot_spelled : (rest : List ℕ) → token (46 ∷ rest) ≡ Ok (with_bound (item (one_of true [])) 1 (46 ∷ rest))
unfolding token atom_at begins_bound begins_with
dot_spelled rest = refl

open_spelled : (rest : List ℕ) → token (91 ∷ rest) ≡ bracket_item (91 ∷ rest) (bracket (91 ∷ rest))
unfolding token atom_at begins_bound begins_with
open_spelled rest = refl

atom_spelled : (text : List ℕ) (atom : Atom) (behind : List ℕ) → SpellsAtom text atom behind → AtomRead text atom behind
atom_spelled text (byte b) behind (inl (same, ordinary)) = record {
  front = b ∷ [];
  some = omega arith;
  is = same;
  reads = ap token same ∙ ordinary_read b behind ordinary ∙ ap (λ t. Ok (with_bound (item (byte b)) 1 t)) (sym same);
}
atom_spelled text (byte b) behind (inr (same, other)) = record {
  front = 92 ∷ b ∷ [];
  some = omega arith;
  is = same;
  reads = ap token same ∙ escape_spelled b behind
      ∙ ap (λ (v : Bool). Ok (with_bound (item (cond v (same_as (b - 48)) (byte b))) 2 (92 ∷ b ∷ behind))) other
      ∙ ap (λ t. Ok (with_bound (item (byte b)) 2 t)) (sym same);
}
atom_spelled text (one_of negated bytes) behind (inl (same, is_negated, none)) = record {
  front = codes ".";
  some = omega arith;
  is = same;
  reads = ap token same ∙ dot_spelled behind
      ∙ (λ i. Ok (with_bound (item (one_of (sym is_negated i) (sym none i))) 1 (sym same i)));
}
atom_spelled text (one_of negated bytes) behind (inr (all, bytes_are, spells)) =
    let s = bracket_spelled text negated all behind spells in
    record {
      front = s.front;
      some = s.some;
      is = s.is;
      reads = ap token s.begins.1 ∙ open_spelled s.begins.0
          ∙ ap (λ t. bracket_item t (bracket t)) (sym s.begins.1) ∙ ap (bracket_item text) s.reads
          ∙ ap (λ l. Ok (with_bound (item (one_of negated l)) (length s.front) text)) (sym bytes_are);
    }
atom_spelled text (same_as number) behind (digit, same, is, number_is) = record {
  front = 92 ∷ digit ∷ [];
  some = omega arith;
  is = same;
  reads = ap token same ∙ escape_spelled digit behind
      ∙ ap (λ (v : Bool). Ok (with_bound (item (cond v (same_as (digit - 48)) (byte digit))) 2 (92 ∷ digit ∷ behind))) is
      ∙ (λ i. Ok (with_bound (item (same_as (sym number_is i))) 2 (sym same i)));
}

one_byte : (b : ℕ) (text rest : List ℕ) (t : Token) → text ≡ b ∷ rest → token (b ∷ rest) ≡ Ok (t, 1) → Takes text t rest
one_byte b text rest t same read =
    (1, ap token same ∙ read, omega arith, omega (arith, ap length same), sym (ap (drop 1) same))

close_spelled : (rest : List ℕ) → token (41 ∷ rest) ≡ Ok (with_bound close_group 1 (41 ∷ rest))
unfolding token begins_with
close_spelled rest = refl

bar_spelled : (rest : List ℕ) → (token (94 ∷ rest) ≡ Ok (tokens.line_start, 1)) × (token (36 ∷ rest) ≡ Ok (tokens.line_end, 1))
    × (token (124 ∷ rest) ≡ Ok (bar, 1)) × (token (40 ∷ rest) ≡ Ok (open_group, 1))
unfolding token begins_with
bar_spelled rest = (refl, refl, refl, refl)

-- a token's first bytes, and its bound behind them
bounded : (text front behind rest : List ℕ) (make : _) (bound : _) (extra : ℕ) → text ≡ front ++ behind
    → 0 < length front → token text ≡ Ok (with_bound make (length front) text)
    → bound_behind (length front) text ≡ (bound, length front + extra) → rest ≡ drop extra behind
    → extra ≤ length behind → Takes text (make bound) rest
bounded text front behind rest make bound extra same some read found rest_is fits =
    let long = ap length same ∙ length-append front behind in (
      length front + extra,
      read ∙ ap (λ (f : _). Ok (make f.0, f.1)) found,
      omega (arith, some),
      omega (arith, long),
      rest_is ∙ ap (drop extra) (sym (drop_at front behind (length front) refl)) ∙ drop-drop extra (length front) (front ++ behind)
          ∙ ap (drop (length front + extra)) (sym same),
    )

pub token_spelled : (text : List ℕ) (t : Token) (rest : List ℕ) → SpellsToken text t rest → Takes text t rest
token_spelled text (item atom bound) rest (behind, spells, more) =
    let a = atom_spelled text atom behind spells in
    let past : drop (length a.front) text ≡ behind =
    ap (drop (length a.front)) a.is ∙ drop_at a.front behind (length a.front) refl in
    let o = optional_spelled text behind rest (length a.front) bound refl past more in
    bounded text a.front behind rest (item atom) bound o.0 a.is a.some a.reads o.1 o.2 o.3
token_spelled text tokens.line_start rest same = one_byte 94 text rest tokens.line_start same (bar_spelled rest).0
token_spelled text tokens.line_end rest same = one_byte 36 text rest tokens.line_end same (bar_spelled rest).1
token_spelled text bar rest same = one_byte 124 text rest bar same (bar_spelled rest).2
token_spelled text open_group rest same = one_byte 40 text rest open_group same (bar_spelled rest).3
token_spelled text (close_group bound) rest (behind, same, more) =
    let past : drop 1 text ≡ behind = ap (drop 1) same in
    let o = optional_spelled text behind rest 1 bound refl past more in
    bounded text (codes ")") behind rest close_group bound o.0 same (omega arith)
    (ap token same ∙ close_spelled behind ∙ ap (λ t. Ok (with_bound close_group 1 t)) (sym same)) o.1 o.2 o.3
