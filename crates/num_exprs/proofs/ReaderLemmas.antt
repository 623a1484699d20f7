-- What was read of an expression, and what the rest of the text adds to it, is what the whole text says.
-- Each leaves what is said as it is: a token that is taken, a blank, a byte that can't be read on, the end (`said_*`).
-- The hard one is `said_next`, a token that is taken.
use Rattle.std.proofs.Common.{◌≡◌, ℕ, ◌+◌, ◌-◌, ◌<◌, ◌≤◌, suc, zero, Bool, true, false, true≢false, List, [], ◌∷◌, ◌++◌, length, drop, Option, Some, None, Ok, Err, refl, sym, ap, ◌∙◌, subst, arith, append_assoc, if◌then◌else◌}
use Rattle.std.specs.Prelude.{nat_le, is_some}
use Rattle.ere_tree.specs.Class.{is_blank}
use Rattle.ere_tree.specs.Front.{begins_with}
use Rattle.num_base.specs.Term.{Term, binary}
use Rattle.num_exprs.specs.Token.{Token, value, operator, named, open_paren, close_paren, comma, Tokens, ends, stops, next, token, tokens_from, wanted_behind}
use Rattle.num_exprs.specs.Place.{Frame, behind, paren, first, second, Place, wants, called, has, taken, step, step_within, weight, is_wanted, Found, failed, over, whole, using, uses_of, reading_from, on_place}
use Rattle.num_exprs.specs.declared.block.PlacedName.{PlacedName}

-- what is said where so much was read up to an offset
abbrev pub said : List PlacedName → ℕ → Place Term → ℕ → List ℕ → Found
said uses left place at text = using uses (reading_from left place (tokens_from (is_wanted place) at 0 text))

-- one token of a text
tokens_blank : (wanted : Bool) (at : ℕ) (text : List ℕ) → begins_with is_blank text ≡ true
    → tokens_from wanted at 0 text ≡ tokens_from wanted (at + 1) 0 (drop 1 text)
unfolding tokens_from begins_with
tokens_blank wanted at [] h = absurd (true≢false (sym h))
tokens_blank wanted at (b ∷ text) h = rw h (ap (λ n. tokens_from wanted n 0 text) (omega arith))

skipped : (wanted : Bool) (at skip : ℕ) (text : List ℕ) → skip ≤ length text
    → tokens_from wanted at skip text ≡ tokens_from wanted (at + skip) 0 (drop skip text)
unfolding tokens_from
skipped wanted at zero text h = ap (λ n. tokens_from wanted n 0 text) (omega arith)
skipped wanted at (suc skip) [] h = absurd (omega arith)
skipped wanted at (suc skip) (b ∷ text) h = skipped wanted (suc at) skip text (omega arith)
    ∙ ap (λ n. tokens_from wanted n 0 (drop skip text)) (omega arith)

tokens_next : (wanted : Bool) (at : ℕ) (text : List ℕ) (found : Token × ℕ) → begins_with is_blank text ≡ false
    → token wanted text ≡ Ok found → 0 < length text → 0 < found.1 → found.1 ≤ length text
    → tokens_from wanted at 0 text
    ≡ next at found.0 (tokens_from (wanted_behind found.0) (at + found.1) 0 (drop found.1 text))
unfolding tokens_from begins_with
tokens_next wanted at [] found blank is more some fits = absurd (omega arith)
tokens_next wanted at (b ∷ text) found blank is more some fits =
    let count : ℕ = found.1 - 1 in
    let one_more : found.1 ≡ suc count = omega arith in
    let mode : Bool = wanted_behind found.0 in
    rw (blank, is) (ap (next at found.0) (skipped mode (suc at) count text (omega arith)
    ∙ ap (λ n. tokens_from mode n 0 (drop count text)) (omega arith)
    ∙ ap (λ n. tokens_from mode (at + found.1) 0 (drop n (b ∷ text))) (sym one_more)))

tokens_stop : (wanted : Bool) (at : ℕ) (text : List ℕ) (k : ℕ) → begins_with is_blank text ≡ false
    → token wanted text ≡ Err k → 0 < length text → tokens_from wanted at 0 text ≡ stops (at + k)
unfolding tokens_from begins_with
tokens_stop wanted at [] k blank is more = absurd (omega arith)
tokens_stop wanted at (b ∷ text) k blank is more = rw (blank, is) refl

tokens_end : (wanted : Bool) (at : ℕ) (text : List ℕ) → length text ≡ 0 → tokens_from wanted at 0 text ≡ ends at
unfolding tokens_from
tokens_end wanted at [] none = refl
tokens_end wanted at (b ∷ text) none = absurd (omega arith)

-- behind a token the place tells what is wanted
taken_wants : (fs : List (Frame Term)) (t : Term) → is_wanted (taken fs t) ≡ false
taken_wants [] t = refl
taken_wants (behind s op ∷ fs) t = refl
taken_wants (paren ∷ fs) t = refl
taken_wants (first op ∷ fs) t = refl
taken_wants (second op s ∷ fs) t = refl

abbrev IfPlace : Option (Place Term) → (Place Term → Type 0) → Type 0
IfPlace None P = Unit {0}
IfPlace (Some p) P = P p

step_wants : (place : Place Term) (t : Token) → IfPlace (step place t) (λ q. is_wanted q ≡ wanted_behind t)
step_wants (wants fs) (value t) = taken_wants fs t
step_wants (wants fs) open_paren = refl
step_wants (wants fs) (named op) = refl
step_wants (called op fs) open_paren = refl
step_wants (has fs t) (operator op) = refl
step_wants (has (paren ∷ fs) t) close_paren = taken_wants fs t
step_wants (has (first op ∷ fs) t) comma = refl
step_wants (has (second op s ∷ fs) t) close_paren = taken_wants fs (binary op s t)
step_wants place t = tt

within_wants : (left : ℕ) (place q : Place Term) (t : Token) → step_within left place t ≡ Some q
    → is_wanted q ≡ wanted_behind t
within_wants left place q t = each (nat_le (weight t) left)
  where
    each : (b : Bool) → (if b then step place t else None) ≡ Some q → is_wanted q ≡ wanted_behind t
    each true h = subst (λ o. IfPlace o (λ r. is_wanted r ≡ wanted_behind t)) h (step_wants place t)
    each false h = absurd (true≢false (sym (ap is_some h)))

-- where the text begins
pub said_begins : (uses : List PlacedName) (place : Place Term) (at : ℕ) (text : List ℕ) → uses ≡ [] → place ≡ wants []
    → said uses 250 place (at + 0) (drop 0 text) ≡ reading_from 250 (wants []) (tokens_from true at 0 text)
said_begins uses place at text none begins =
    ap (λ names. said names 250 place (at + 0) text) none ∙ ap (λ p. said [] 250 p (at + 0) text) begins
    ∙ ap (λ n. said [] 250 (wants []) n text) (omega arith)

-- a blank is passed over
pub said_blank : (uses : List PlacedName) (left : ℕ) (place : Place Term) (at : ℕ) (text : List ℕ)
    → begins_with is_blank text ≡ true → said uses left place (at + 1) (drop 1 text) ≡ said uses left place at text
said_blank uses left place at text blank =
    ap (λ tokens. using uses (reading_from left place tokens)) (sym (tokens_blank (is_wanted place) at text blank))

-- a token is taken
pub said_next : (uses : List PlacedName) (left : ℕ) (place q : Place Term) (at : ℕ) (text : List ℕ) (found : Token × ℕ)
    → begins_with is_blank text ≡ false → token (is_wanted place) text ≡ Ok found → 0 < length text → 0 < found.1
    → found.1 ≤ length text → step_within left place found.0 ≡ Some q
    → said (uses ++ uses_of at found.0) (left - weight found.0) q (at + found.1) (drop found.1 text)
    ≡ said uses left place at text
said_next uses left place q at text found blank is more some fits goes =
    let rest : Tokens = tokens_from (wanted_behind found.0) (at + found.1) 0 (drop found.1 text) in
    let here : List PlacedName = uses_of at found.0 in
    ap (λ mode. using (uses ++ here) (reading_from (left - weight found.0) q
    (tokens_from mode (at + found.1) 0 (drop found.1 text)))) (within_wants left place q found.0 goes)
    ∙ ap (λ names. record (reading_from (left - weight found.0) q rest) { uses = names })
    (append_assoc uses here (Found.uses (reading_from (left - weight found.0) q rest)))
    ∙ ap (λ o. using uses (on_place at o (λ there. using here (reading_from (left - weight found.0) there rest))))
    (sym goes)
    ∙ ap (λ tokens. using uses (reading_from left place tokens))
    (sym (tokens_next (is_wanted place) at text found blank is more some fits))

-- a byte can't be read on
pub said_stop : (uses : List PlacedName) (left : ℕ) (place : Place Term) (at : ℕ) (text : List ℕ) (k : ℕ)
    → begins_with is_blank text ≡ false → token (is_wanted place) text ≡ Err k → 0 < length text
    → said uses left place at text ≡ using uses (failed (at + k))
said_stop uses left place at text k blank is more =
    ap (λ tokens. using uses (reading_from left place tokens))
    (tokens_stop (is_wanted place) at text k blank is more)

-- nor can a token
pub said_denied : (uses : List PlacedName) (left : ℕ) (place : Place Term) (at : ℕ) (text : List ℕ) (found : Token × ℕ)
    → begins_with is_blank text ≡ false → token (is_wanted place) text ≡ Ok found → 0 < length text → 0 < found.1
    → found.1 ≤ length text → step_within left place found.0 ≡ None
    → said uses left place at text ≡ using uses (failed at)
said_denied uses left place at text found blank is more some fits goes =
    let rest : Tokens = tokens_from (wanted_behind found.0) (at + found.1) 0 (drop found.1 text) in
    ap (λ tokens. using uses (reading_from left place tokens))
    (tokens_next (is_wanted place) at text found blank is more some fits)
    ∙ ap (λ o. using uses (on_place at o (λ there. using (uses_of at found.0)
    (reading_from (left - weight found.0) there rest)))) goes

-- the text ends
pub said_end : (uses : List PlacedName) (left : ℕ) (place : Place Term) (at : ℕ) (text : List ℕ) → length text ≡ 0
    → said uses left place at text ≡ using uses (over at (whole place))
said_end uses left place at text none =
    ap (λ tokens. using uses (reading_from left place tokens)) (tokens_end (is_wanted place) at text none)
