-- The grammar, a token at a time: what the text says from a place on, where levels are open there.
-- The definition reads byte by byte and skips the bytes of a token; the parser jumps behind it. `said_behind` is the
-- step of its loop: it's said the same behind a token that is taken.
use Rattle.std.proofs.Common.{◌≡◌, ℕ, zero, suc, ◌+◌, ◌-◌, ◌<◌, ◌≤◌, Bool, true, List, [], ◌∷◌, Some, None, Result, Ok, Err, length, drop, map, nat_lt, refl, sym, ap, ◌∙◌, arith}
use Rattle.std.proofs.lemmas.Bool.Decides.{nat_tests}
use Rattle.ere_tree.specs.Tree.{Tree}
use Rattle.ere_tree.specs.Fault.{fault}
use Rattle.ere_tree.specs.Token.{Token, token}
use Rattle.ere_tree.specs.Grammar.{Rest, ends, from_token, ended, reading_from, tree_read, whole}
use Rattle.ere_tree.specs.Fault.{map_ok}
use Rattle.ere_tree.specs.Place.{Place, refusal, refusal_at_end, behind, beginning}
use Rattle.ere_tree.specs.Levels.{Level, Levels, open_of, place_of, taken, tree_of, beginning_levels}
use Rattle.ere_tree.specs.declared.fault.EreFault.{EreFault}
use Rattle.ere_tree.specs.declared.fault.EreKind.{EreKind}
use Rattle.ere_tree.proofs.LevelLemmas.{all_joined, token_joined, token_place, beginning_joined, finished-end}

-- the bytes of a token are stepped over
reading_skip : (fold : Bool) (place : Place) (at skip : ℕ) (text : List ℕ) → skip ≤ length text →
    reading_from fold place at skip text ≡ reading_from fold place (at + skip) 0 (drop skip text)
unfolding reading_from
reading_skip fold place at zero text fits = ap (λ n. reading_from fold place n 0 text) (omega arith)
reading_skip fold place at (suc skip) [] fits = absurd (omega arith)
reading_skip fold place at (suc skip) (b ∷ rest) fits =
    reading_skip fold place (suc at) skip rest (omega arith)
    ∙ ap (λ n. reading_from fold place n 0 (drop skip rest)) (omega arith)

-- a token is no token
pub reading_refused : (fold : Bool) (place : Place) (at : ℕ) (text : List ℕ) (refused : EreFault) →
    0 < length text → token text ≡ Err refused →
    reading_from fold place at 0 text ≡ fault (at + refused.at) refused.kind
unfolding reading_from
reading_refused fold place at [] refused some is = absurd (omega arith)
reading_refused fold place at (b ∷ rest) refused some is = rw is refl

-- a token may not stand here
pub reading_denied : (fold : Bool) (place : Place) (at : ℕ) (text : List ℕ) (found : Token × ℕ) (kind : EreKind) →
    0 < length text → token text ≡ Ok found → refusal place found.0 ≡ Some kind →
    reading_from fold place at 0 text ≡ fault at kind
unfolding reading_from
reading_denied fold place at [] found kind some is denied = absurd (omega arith)
reading_denied fold place at (b ∷ rest) found kind some is denied = rw (is, denied) refl

-- a token is taken
pub reading_taken : (fold : Bool) (place : Place) (at : ℕ) (text : List ℕ) (found : Token × ℕ) →
    token text ≡ Ok found → refusal place found.0 ≡ None → 0 < found.1 → found.1 ≤ length text →
    reading_from fold place at 0 text ≡ map_ok (from_token fold (place.groups + 1) found.0)
    (reading_from fold (behind place at found.0) (at + found.1) 0 (drop found.1 text))
unfolding reading_from
reading_taken fold place at [] found is here some fits = absurd (omega arith)
reading_taken fold place at (b ∷ rest) found is here some fits =
    let count : ℕ = found.1 - 1 in
    let more : found.1 ≡ suc count = omega arith in
    let next : Place = behind place at found.0 in
    let change : Rest → Rest = from_token fold (place.groups + 1) found.0 in
    rw (is, here) (ap (map_ok change) (reading_skip fold next (suc at) count rest (omega arith)
    ∙ ap (λ n. reading_from fold next n 0 (drop count rest)) (omega arith)
    ∙ ap (λ n. reading_from fold next (at + found.1) 0 (drop n (b ∷ rest))) (sym more)))

reading_end : (fold : Bool) (place : Place) (at : ℕ) (text : List ℕ) → length text ≡ 0 →
    reading_from fold place at 0 text ≡ ended (refusal_at_end place at)
unfolding reading_from
reading_end fold place at [] none = refl
reading_end fold place at (b ∷ rest) none = absurd (omega arith)

-- what the text says, where these levels are open at a place
abbrev pub said : Bool → Levels → ℕ → List ℕ → Result Tree EreFault
said fold levels at text = map_ok (all_joined levels) (reading_from fold (place_of levels) at 0 text)

-- two changes, one after the other, that are one
changed_twice : (f : Rest → Rest) (g h : Rest → Tree) (read : Result Rest EreFault) →
    ((rest : Rest) → h rest ≡ g (f rest)) → map_ok h read ≡ map_ok g (map_ok f read)
changed_twice f g h (Ok rest) same = ap Ok (same rest)
changed_twice f g h (Err refused) same = refl

-- it is said the same behind a token that is taken
pub said_behind : (fold : Bool) (levels : Levels) (at : ℕ) (text : List ℕ) (found : Token × ℕ) →
    token text ≡ Ok found → refusal (place_of levels) found.0 ≡ None → 0 < found.1 → found.1 ≤ length text →
    said fold (taken fold at found.0 levels) (at + found.1) (drop found.1 text) ≡ said fold levels at text
said_behind fold levels at text found is here some fits =
    let next : Levels = taken fold at found.0 levels in
    ap (λ place. map_ok (all_joined next) (reading_from fold place (at + found.1) 0 (drop found.1 text)))
    (token_place fold at found.0 levels here)
    ∙ changed_twice (from_token fold (levels.groups + 1) found.0) (all_joined levels) (all_joined next)
    (reading_from fold (behind (place_of levels) at found.0) (at + found.1) 0 (drop found.1 text))
    (λ rest. token_joined fold at found.0 levels rest here)
    ∙ ap (map_ok (all_joined levels)) (sym (reading_taken fold (place_of levels) at text found is here some fits))

pub said_refused : (fold : Bool) (levels : Levels) (at : ℕ) (text : List ℕ) (refused : EreFault) →
    0 < length text → token text ≡ Err refused → said fold levels at text ≡ fault (at + refused.at) refused.kind
said_refused fold levels at text refused some is =
    ap (map_ok (all_joined levels)) (reading_refused fold (place_of levels) at text refused some is)

pub said_denied : (fold : Bool) (levels : Levels) (at : ℕ) (text : List ℕ) (found : Token × ℕ) (kind : EreKind) →
    0 < length text → token text ≡ Ok found → refusal (place_of levels) found.0 ≡ Some kind →
    said fold levels at text ≡ fault at kind
said_denied fold levels at text found kind some is denied =
    ap (map_ok (all_joined levels)) (reading_denied fold (place_of levels) at text found kind some is denied)

pub said_at_beginning : (fold : Bool) (text : List ℕ) → said fold beginning_levels 0 text ≡ tree_read fold text
unfolding tree_read
said_at_beginning fold text = each (reading_from fold beginning 0 0 text)
  where
    each : (read : Result Rest EreFault) → map_ok (all_joined beginning_levels) read ≡ map_ok whole read
    each (Ok rest) = ap Ok (beginning_joined rest)
    each (Err refused) = refl

pub said_refused_at_end : (fold : Bool) (levels : Levels) (at : ℕ) (text : List ℕ) (refused : EreFault) →
    length text ≡ 0 → refusal_at_end (place_of levels) at ≡ Some refused → said fold levels at text ≡ Err refused
said_refused_at_end fold levels at text refused none is =
    ap (map_ok (all_joined levels)) (reading_end fold (place_of levels) at text none ∙ ap ended is)

all_closed : (levels : Levels) (at : ℕ) → refusal_at_end (place_of levels) at ≡ None →
    all_joined levels (ends [] []) ≡ tree_of levels.inner
all_closed levels at is = closed levels.groups levels.inner levels.outer at is
  where
    closed : (groups : ℕ) (inner : Level) (outer : List Level) (at : ℕ) →
        refusal_at_end (place_of (record { groups = groups; inner = inner; outer = outer })) at ≡ None →
        all_joined (record { groups = groups; inner = inner; outer = outer }) (ends [] []) ≡ tree_of inner
    closed groups inner [] at is = finished-end inner
    closed groups inner (level ∷ outer) at is =
        let some : nat_lt 0 (length (map open_of (level ∷ outer))) ≡ true = grind (arith, nat_tests) in
        let refused = rw some at is in
        cc

pub said_at_end : (fold : Bool) (levels : Levels) (at : ℕ) (text : List ℕ) → length text ≡ 0 →
    refusal_at_end (place_of levels) at ≡ None → said fold levels at text ≡ Ok (tree_of levels.inner)
said_at_end fold levels at text none is =
    ap (map_ok (all_joined levels)) (reading_end fold (place_of levels) at text none ∙ ap ended is)
    ∙ ap Ok (all_closed levels at is)
