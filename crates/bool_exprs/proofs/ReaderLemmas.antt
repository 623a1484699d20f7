-- What was read of a list, and what the rest of the text adds to it, is what the whole text says.
-- One lemma for each step of the reader: a blank, a token, none, one that is refused, and the end of the text.
-- `list_next` is the step of the loop; each follows from what the definition says of the first byte.
use Rattle.std.proofs.Common.{◌≡◌, ℕ, ◌-◌, ◌<◌, ◌≤◌, suc, zero, Bool, true, false, true≢false, List, [], ◌∷◌, length, drop, Some, None, refl, sym, ap, ◌∙◌, arith}
use Rattle.std.specs.Option.{option_and_then}
use Rattle.ere_tree.specs.Class.{is_blank}
use Rattle.ere_tree.specs.Front.{begins_with}
use Rattle.bool_exprs.specs.Token.{Token, ends, stops, next, token, tokens_from}
use Rattle.bool_exprs.specs.Place.{State, after, finished, list_from, reading_from}

skipped : (xfail : Bool) (skip : ℕ) (text : List ℕ) → skip ≤ length text
    → tokens_from xfail skip text ≡ tokens_from xfail 0 (drop skip text)
unfolding tokens_from
skipped xfail zero text h = refl
skipped xfail (suc skip) [] h = absurd (omega arith)
skipped xfail (suc skip) (b ∷ text) h = skipped xfail skip text (omega arith)

tokens_blank : (xfail : Bool) (text : List ℕ) → begins_with is_blank text ≡ true
    → tokens_from xfail 0 text ≡ tokens_from xfail 0 (drop 1 text)
unfolding tokens_from begins_with
tokens_blank xfail [] h = absurd (true≢false (sym h))
tokens_blank xfail (b ∷ text) h = rw h refl

tokens_next : (xfail : Bool) (text : List ℕ) (found : Token × ℕ) → begins_with is_blank text ≡ false
    → token xfail text ≡ Some found → 0 < length text → 0 < found.1 → found.1 ≤ length text
    → tokens_from xfail 0 text ≡ next found.0 (tokens_from xfail 0 (drop found.1 text))
unfolding tokens_from begins_with
tokens_next xfail [] found blank is more some fits = absurd (omega arith)
tokens_next xfail (b ∷ text) (t, zero) blank is more some fits = absurd (omega arith)
tokens_next xfail (b ∷ text) (t, suc count) blank is more some fits =
    let less : suc count - 1 ≡ count = omega arith in
    rw (blank, is, less) (ap (next t) (skipped xfail count text (omega arith)))

tokens_stop : (xfail : Bool) (text : List ℕ) → begins_with is_blank text ≡ false → token xfail text ≡ None
    → 0 < length text → tokens_from xfail 0 text ≡ stops
unfolding tokens_from begins_with
tokens_stop xfail [] blank is more = absurd (omega arith)
tokens_stop xfail (b ∷ text) blank is more = rw (blank, is) refl

tokens_end : (xfail : Bool) (text : List ℕ) → length text ≡ 0 → tokens_from xfail 0 text ≡ ends
unfolding tokens_from
tokens_end xfail [] h = refl
tokens_end xfail (b ∷ text) h = absurd (omega arith)

pub list_blank : (xfail : Bool) (s : State) (text : List ℕ) → begins_with is_blank text ≡ true
    → list_from xfail s (drop 1 text) ≡ list_from xfail s text
list_blank xfail s text blank = ap (reading_from s) (sym (tokens_blank xfail text blank))

pub list_next : (xfail : Bool) (s t : State) (text : List ℕ) (found : Token × ℕ) → begins_with is_blank text ≡ false
    → token xfail text ≡ Some found → 0 < length text → 0 < found.1 → found.1 ≤ length text
    → after s found.0 ≡ Some t → list_from xfail t (drop found.1 text) ≡ list_from xfail s text
list_next xfail s t text found blank is more some fits goes =
    ap (option_and_then (λ there. reading_from there (tokens_from xfail 0 (drop found.1 text)))) (sym goes)
    ∙ ap (reading_from s) (sym (tokens_next xfail text found blank is more some fits))

pub list_stop : (xfail : Bool) (s : State) (text : List ℕ) → begins_with is_blank text ≡ false → token xfail text ≡ None
    → 0 < length text → list_from xfail s text ≡ None
list_stop xfail s text blank is more = ap (reading_from s) (tokens_stop xfail text blank is more)

pub list_denied : (xfail : Bool) (s : State) (text : List ℕ) (found : Token × ℕ) → begins_with is_blank text ≡ false
    → token xfail text ≡ Some found → 0 < length text → 0 < found.1 → found.1 ≤ length text
    → after s found.0 ≡ None → list_from xfail s text ≡ None
list_denied xfail s text found blank is more some fits goes =
    ap (reading_from s) (tokens_next xfail text found blank is more some fits)
    ∙ ap (option_and_then (λ there. reading_from there (tokens_from xfail 0 (drop found.1 text)))) goes

pub list_end : (xfail : Bool) (s : State) (text : List ℕ) → length text ≡ 0 → list_from xfail s text ≡ finished s.list s.place
list_end xfail s text h = ap (reading_from s) (tokens_end xfail text h)
