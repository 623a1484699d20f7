-- What stands before the first fault of a text can be completed: by an `a` and a `)` for each group that is open, or, inside
-- a bracket, by what closes it and these. Idea: the tokens before the fault are read the same, and behind them stands a part
-- of a branch, so that each group may end. `completed` goes along the tokens, and is the one induction.
use Rattle.std.proofs.Common.{◌≡◌, ℕ, zero, suc, ◌+◌, ◌<◌, ◌≤◌, Bool, true, false, cond, ◌==◌, ◌⊎◌, inl, inr, codes, List, [], ◌∷◌, ◌++◌, Option, Some, None, Result, Ok, Err, length, take, drop, nat_lt, refl, sym, ap, subst, ◌∙◌, arith, append_assoc, length-append, length-drop}
use Rattle.std.proofs.lemmas.Bool.{eqb-true, lt-ltb}
use Rattle.std.proofs.lemmas.List.{take-append-drop, take_at, length-take-le}
use Rattle.ere_tree.specs.Bound.{begins_bound, bound_at}
use Rattle.ere_tree.specs.Class.{is_digit}
use Rattle.ere_tree.specs.Fault.{map_ok}
use Rattle.ere_tree.specs.Front.{begins_with}
use Rattle.ere_tree.specs.Grammar.{Rest, ended, ends, from_token, reading, reading_from, sized, tree_read, whole}
use Rattle.ere_tree.specs.Place.{Open, Place, after_bar, beginning, behind, refusal, refusal_at_end}
use Rattle.ere_tree.specs.Productions.{Takes}
use Rattle.ere_tree.specs.Token.{Token, atom_at, bar, bound_behind, byte, close_group, item, one_of, open_group, token}
use Rattle.ere_tree.specs.Token as tokens
use Rattle.ere_tree.specs.Tree.{Tree}
use Rattle.ere_tree.specs.declared.fault.EreFault.{EreFault}
use Rattle.ere_tree.specs.declared.fault.EreKind.{EreKind}
use Rattle.ere_tree.specs.declared.fault.EreKind.TheVariants.{TooLarge}
use Rattle.ere_tree.proofs.ReadingLemmas.{reading_denied, reading_refused, reading_taken}
use Rattle.ere_laws.specs.Laws.{FaultsComeFirst, IsRead}
use Rattle.ere_laws.specs.Spelling.{HasNoBound, SpellsToken, bytes_of}
use Rattle.ere_laws.proofs.FrontSpelling.{chosen}
use Rattle.ere_laws.proofs.BracketSpelling.{ok_is}
use Rattle.ere_laws.proofs.TokenSpelling.{token_spelled, token_told}
use Rattle.ere_laws.proofs.PlaceLemmas.{choice_fault, map_fault, same_place}
use Rattle.ere_laws.proofs.RespellLemmas.{free_bound, respelled_token}
use Rattle.ere_laws.proofs.CutLemmas.{IsClosing, TokenCut, closed_token, token_cut}

-- WHAT ENDS ALL GROUPS

-- so many `)`
abbrev closers : ℕ → List ℕ
closers zero = []
closers (suc n) = 41 ∷ closers n

closers_free : (n : ℕ) → begins_bound (closers n) ≡ false
unfolding begins_bound begins_with
closers_free zero = refl
closers_free (suc n) = refl

closer_token : (n : ℕ) → token (41 ∷ closers n) ≡ Ok (close_group None, 1)
unfolding token bound_behind bound_at begins_bound begins_with
closer_token zero = refl
closer_token (suc n) = refl

letter_token : (n : ℕ) → token (97 ∷ closers n) ≡ Ok (item (byte 97) None, 1)
unfolding token atom_at bound_behind bound_at begins_bound begins_with
letter_token zero = refl
letter_token (suc n) = refl

-- a text is read from a place on
abbrev IsReadFrom : Bool → Place → ℕ → List ℕ → Type 0
IsReadFrom fold place at text = (r : Rest) × (reading_from fold place at 0 text ≡ Ok r)

taken : (fold : Bool) (place : Place) (at : ℕ) (text : List ℕ) (found : Token × ℕ) → token text ≡ Ok found
    → refusal place found.0 ≡ None → 0 < found.1 → found.1 ≤ length text
    → IsReadFrom fold (behind place at found.0) (at + found.1) (drop found.1 text) → IsReadFrom fold place at text
taken fold place at text found is here some fits (r, reads) = (
  from_token fold (place.groups + 1) found.0 r,
  reading_taken fold place at text found is here some fits
      ∙ ap (map_ok (from_token fold (place.groups + 1) found.0)) reads,
)

at_end : (fold : Bool) (place : Place) (at : ℕ) → reading_from fold place at 0 [] ≡ ended (refusal_at_end place at)
unfolding reading_from
at_end fold place at = refl

-- a place behind a part, in these levels
abbrev behind_part : ℕ → Open → List Open → Place
behind_part groups inner outer =
    record (behind beginning 0 tokens.line_start) { groups = groups; inner = inner; outer = outer }

closing : (fold : Bool) (groups : ℕ) (inner : Open) (outer : List Open) (at : ℕ)
    → IsReadFrom fold (behind_part groups inner outer) at (closers (length outer))
closing fold groups inner [] at = (ends [] [], at_end fold (behind_part groups inner []) at)
closing fold groups inner (level ∷ levels) at =
    let text : List ℕ = 41 ∷ closers (length levels) in
    let some : nat_lt 0 (suc (length levels)) ≡ true = lt-ltb 0 (suc (length levels)) (omega arith) in
    taken fold (behind_part groups inner (level ∷ levels)) at text (close_group None, 1) (closer_token (length levels))
    (rw some refl) (omega arith) (omega arith) (closing fold groups level levels (at + 1))

-- from any place on a part and the end of all groups is read
lettered : (fold : Bool) (place : Place) (at : ℕ) → IsReadFrom fold place at (97 ∷ closers (length place.outer))
lettered fold place at =
    taken fold place at (97 ∷ closers (length place.outer)) (item (byte 97) None, 1) (letter_token (length place.outer)) refl
    (omega arith) (omega arith) (closing fold place.groups place.inner place.outer (at + 1))

-- WHAT IS COMPLETED

-- a text from a place on, up to a fault, with what completes it
record Completed (fold : Bool) (place : Place) (at : ℕ) (text : List ℕ) (refused : EreFault) : Type 0 where
  front : List ℕ
  rest : List ℕ
  more : List ℕ
  is : text ≡ front ++ rest
  long : at + length front ≡ refused.at
  calm : begins_with is_digit more ≡ false
  free : begins_bound (front ++ more) ≡ false
  reads : IsReadFrom fold place at (front ++ more)

at_once : (fold : Bool) (place : Place) (at : ℕ) (text : List ℕ) (refused : EreFault) → refused.at ≡ at
    → Completed fold place at text refused
unfolding begins_bound begins_with
at_once fold place at text refused is = record {
  front = [];
  rest = text;
  more = 97 ∷ closers (length place.outer);
  is = refl;
  long = omega (arith, is);
  calm = refl;
  free = refl;
  reads = lettered fold place at;
}

-- no bound stands at the front of a token
token_free : (b : ℕ) (rest : List ℕ) (found : Token × ℕ) → token (b ∷ rest) ≡ Ok found → begins_bound (b ∷ rest) ≡ false
unfolding token begins_bound begins_with
token_free b rest found read = elim (chosen (b == 94) _ _ _ read) [
  | inl (is, e) ↦ ap (λ c. begins_bound (c ∷ rest)) (eqb-true b 94 is)
  | inr (a, e) ↦ elim (chosen (b == 36) _ _ _ e) [
    | inl (is, e) ↦ ap (λ c. begins_bound (c ∷ rest)) (eqb-true b 36 is)
    | inr (a, e) ↦ elim (chosen (b == 124) _ _ _ e) [
      | inl (is, e) ↦ ap (λ c. begins_bound (c ∷ rest)) (eqb-true b 124 is)
      | inr (a, e) ↦ elim (chosen (b == 40) _ _ _ e) [
        | inl (is, e) ↦ ap (λ c. begins_bound (c ∷ rest)) (eqb-true b 40 is)
        | inr (a, e) ↦ elim (chosen (b == 41) _ _ _ e) [
          | inl (is, e) ↦ ap (λ c. begins_bound (c ∷ rest)) (eqb-true b 41 is)
          | inr (a, e) ↦ elim (chosen (begins_bound (b ∷ rest)) _ _ _ e) [
            | inl (is, e) ↦ cc
            | inr (none, e) ↦ none
          ]
        ]
      ]
    ]
  ]
]

takes_free : (text : List ℕ) (t : Token) (rest : List ℕ) → Takes text t rest → begins_bound text ≡ false
takes_free [] t rest (count, read, some, fits, same) = absurd (omega (arith, some, fits))
takes_free (b ∷ text) t rest (count, read, some, fits, same) = token_free b text (t, count) read

closing_calm : (closing tail : List ℕ) → IsClosing closing → begins_with is_digit (closing ++ tail) ≡ false
unfolding begins_with
closing_calm closing tail (inl is) = ap (λ t. begins_with is_digit (t ++ tail)) is
closing_calm closing tail (inr is) = ap (λ t. begins_with is_digit (t ++ tail)) is

-- a bracket is closed, and then all groups
in_bracket : (fold : Bool) (place : Place) (at : ℕ) (text : List ℕ) (f refused : EreFault) → refused.at ≡ at + f.at
    → TokenCut text f → Completed fold place at text refused
in_bracket fold place at text f refused is cut =
    let tail : List ℕ = closers (length place.outer) in
    let t : Token = item (one_of cut.negated (bytes_of cut.all)) None in
    let takes = closed_token text f cut tail (free_bound tail (closers_free (length place.outer))) in
    record {
      front = cut.front;
      rest = cut.rest;
      more = cut.closing ++ tail;
      is = cut.is;
      long = omega (arith, is, cut.long);
      calm = closing_calm cut.closing tail cut.closes;
      free = takes_free (cut.front ++ (cut.closing ++ tail)) t tail takes;
      reads = taken fold place at (cut.front ++ (cut.closing ++ tail)) (t, takes.0) takes.1 refl takes.2 takes.3
          (subst (λ rest. IsReadFrom fold (behind place at t) (at + takes.0) rest) takes.4
          (closing fold place.groups place.inner place.outer (at + takes.0)));
    }

-- so many bytes of a text are a token
fits : (text : List ℕ) (found : Token × ℕ) → 0 < length text → token text ≡ Ok found
    → (0 < found.1) × (found.1 ≤ length text)
fits text found some read =
    let takes = token_spelled text found.0 (drop found.1 text) (token_told text found some read) in
    let same : (found.0, takes.0) ≡ found = ok_is _ _ _ takes.1 read in
    let count : takes.0 ≡ found.1 = ap (λ (f : Token × ℕ). f.1) same in
    (omega (arith, takes.2, count), omega (arith, takes.3, count))

-- a token is read the same before what was completed behind it
behind_token : (fold : Bool) (place : Place) (at : ℕ) (text : List ℕ) (found : Token × ℕ) (refused : EreFault)
    → 0 < length text → token text ≡ Ok found → refusal place found.0 ≡ None
    → Completed fold (behind place at found.0) (at + found.1) (drop found.1 text) refused
    → Completed fold place at text refused
behind_token fold place at text found refused some read here c =
    let low = fits text found some read in
    let x : List ℕ = take found.1 text in
    let x_long : length x ≡ found.1 = length-take-le found.1 text low.1 in
    let text_is : text ≡ (x ++ c.front) ++ c.rest =
    sym (take-append-drop found.1 text) ∙ ap (λ t. x ++ t) c.is ∙ sym (append_assoc x c.front c.rest) in
    let spells : SpellsToken ((x ++ c.front) ++ c.rest) found.0 (c.front ++ c.rest) =
    subst (λ t. SpellsToken t found.0 (c.front ++ c.rest)) text_is
    (subst (SpellsToken text found.0) c.is (token_told text found some read)) in
    let takes = token_spelled ((x ++ c.front) ++ c.more) found.0 (c.front ++ c.more)
    (respelled_token found.0 (x ++ c.front) c.front c.rest c.more c.calm c.free spells) in
    let new : List ℕ = (x ++ c.front) ++ c.more in
    let rest_long : length (c.front ++ c.more) ≡ length (drop takes.0 new) = ap length takes.4 in
    let new_long : length new ≡ length x + length (c.front ++ c.more) =
    ap length (append_assoc x c.front c.more) ∙ length-append x (c.front ++ c.more) in
    let count : takes.0 ≡ found.1 = omega (arith, rest_long, new_long, length-drop takes.0 new, takes.3, x_long) in
    record {
      front = x ++ c.front;
      rest = c.rest;
      more = c.more;
      is = text_is;
      long = omega (arith, c.long, length-append x c.front, x_long);
      calm = c.calm;
      free = takes_free new found.0 (c.front ++ c.more) takes;
      reads = taken fold place at new (found.0, takes.0) takes.1 here takes.2 takes.3
          (subst (λ rest. IsReadFrom fold (behind place at found.0) (at + takes.0) rest) takes.4
          (subst (λ n. IsReadFrom fold (behind place at found.0) (at + n) (c.front ++ c.more)) (sym count) c.reads));
    }

-- THE FIRST FAULT

-- one of these levels began here
abbrev OneBeganAt : List Open → ℕ → Type 0
OneBeganAt [] at = ⊥
OneBeganAt (level ∷ levels) at = (at ≡ level.at) ⊎ OneBeganAt levels at

abbrev BeganAt : Place → ℕ → Type 0
BeganAt place at = OneBeganAt (place.inner ∷ place.outer) at

close_level : (groups : ℕ) (inner : Open) (outer : List Open) (last : _) (at : ℕ) (bound : _) (x : ℕ)
    → BeganAt (behind (record { groups = groups; inner = inner; outer = outer; last = last }) at (close_group bound)) x
    → (x ≡ at) ⊎ BeganAt (record { groups = groups; inner = inner; outer = outer; last = last }) x
close_level groups inner [] last at bound x is = inr is
close_level groups inner (level ∷ levels) last at bound x is = inr (inr is)

-- a level behind a token is one of those before it, or begins with it
level_before : (place : Place) (at : ℕ) (t : Token) (x : ℕ) → BeganAt (behind place at t) x → (x ≡ at) ⊎ BeganAt place x
level_before place at (item atom bound) x is = inr is
level_before place at tokens.line_start x is = inr is
level_before place at tokens.line_end x is = inr is
level_before place at bar x is = inr is
level_before place at open_group x (inl is) = inl is
level_before place at open_group x (inr is) = inr is
level_before place at (close_group bound) x is =
    close_level place.groups place.inner place.outer place.last at bound x is

end_cut : (fold : Bool) (place : Place) (at : ℕ) (refused : EreFault) → ended (refusal_at_end place at) ≡ Err refused
    → BeganAt place refused.at ⊎ Completed fold place at [] refused
end_cut fold place at refused told = by_test (nat_lt 0 (length place.outer)) (after_bar place.last) refl refl
  where
    by_test : (v w : Bool) → nat_lt 0 (length place.outer) ≡ v → after_bar place.last ≡ w
        → BeganAt place refused.at ⊎ Completed fold place at [] refused
    by_test true w a b = let e = rw a at told in inl (inl (same_place place.inner.at _ _ refused refl e))
    by_test false true a b =
        let e = rw (a, b) at told in inr (at_once fold place at [] refused (same_place at _ _ refused refl e))
    by_test false false a b = let e = rw (a, b) at told in cc

completed : (fuel : ℕ) (fold : Bool) (place : Place) (at : ℕ) (text : List ℕ) (refused : EreFault) → length text ≤ fuel
    → reading_from fold place at 0 text ≡ Err refused
    → BeganAt place refused.at ⊎ Completed fold place at text refused
completed fuel fold place at [] refused short told =
    end_cut fold place at refused (sym (at_end fold place at) ∙ told)
completed zero fold place at (b ∷ rest) refused short told = absurd (omega (arith, short))
completed (suc fuel) fold place at (b ∷ rest) refused short told =
    by_token (token (b ∷ rest)) refl
    (λ (next : Place) (to : ℕ) (behind : List ℕ) (low : length behind ≤ fuel).
    completed fuel fold next to behind refused low)
  where
    by_token : (o : Result (Token × ℕ) EreFault) → token (b ∷ rest) ≡ o
        → ((next : Place) (to : ℕ) (behind : List ℕ) → length behind ≤ fuel
        → reading_from fold next to 0 behind ≡ Err refused
        → BeganAt next refused.at ⊎ Completed fold next to behind refused)
        → BeganAt place refused.at ⊎ Completed fold place at (b ∷ rest) refused
    by_token (Err f) o_is more =
        let is = same_place (at + f.at) f.kind _ refused
        (reading_refused fold place at (b ∷ rest) f (omega arith) o_is) told in
        inr (elim (token_cut b rest f o_is) [
          | inl zero_is ↦ at_once fold place at (b ∷ rest) refused (omega (arith, is, zero_is))
          | inr cut ↦ in_bracket fold place at (b ∷ rest) f refused is cut
        ])
    by_token (Ok found) o_is more = by_refusal (refusal place found.0) refl
      where
        by_refusal : (o : Option EreKind) → refusal place found.0 ≡ o
            → BeganAt place refused.at ⊎ Completed fold place at (b ∷ rest) refused
        by_refusal (Some kind) here = inr (at_once fold place at (b ∷ rest) refused (same_place at kind _ refused
            (reading_denied fold place at (b ∷ rest) found kind (omega arith) o_is here) told))
        by_refusal None here =
            let low = fits (b ∷ rest) found (omega arith) o_is in
            let read = map_fault (from_token fold (place.groups + 1) found.0) _ refused
            (sym (reading_taken fold place at (b ∷ rest) found o_is here low.0 low.1) ∙ told) in
            elim (more (behind place at found.0) (at + found.1) (drop found.1 (b ∷ rest))
            (omega (arith, length-drop found.1 (b ∷ rest), low.0, short)) read) [
              | inl level ↦ elim (level_before place at found.0 refused.at level) [
                | inl now ↦ inr (at_once fold place at (b ∷ rest) refused now)
                | inr before ↦ inl before
              ]
              | inr c ↦ inr (behind_token fold place at (b ∷ rest) found refused (omega arith) o_is here c)
            ]

read_whole : (fold : Bool) (text : List ℕ) → IsReadFrom fold beginning 0 text → IsRead fold text
unfolding tree_read
read_whole fold text (r, reads) = (whole r, ap (map_ok whole) reads)

as_read : (fold : Bool) (text : List ℕ) → map_ok whole (reading_from fold beginning 0 0 text) ≡ tree_read fold text
unfolding tree_read
as_read fold text = refl

-- what completes a text that is cut at its beginning
from_beginning : (fold : Bool) (text : List ℕ) (at : ℕ) → at ≡ 0 → (more : List ℕ) × IsRead fold (take at text ++ more)
from_beginning fold text at is = (
  codes "a",
  subst (IsRead fold) (sym (ap (λ n. take n text ++ codes "a") is)) (read_whole fold (codes "a") (lettered fold beginning 0)),
)

pub faults_come_first : FaultsComeFirst
unfolding reading
faults_come_first fold text refused told = by_size (tree_read fold text) refl
  where
    by_size : (o : Result Tree EreFault) → tree_read fold text ≡ o → (more : List ℕ) × IsRead fold (take refused.at text ++ more)
    by_size (Ok tree) o_is =
        let e = rw o_is at told in from_beginning fold text refused.at (omega (arith, choice_fault _ tree TooLarge refused e))
    by_size (Err f) o_is =
        let e : Err f ≡ Err refused = rw o_is at told in
        by_reading (completed (length text) fold beginning 0 text refused (omega arith)
        (map_fault whole _ refused (as_read fold text ∙ o_is ∙ e)))
      where
        by_reading : BeganAt beginning refused.at ⊎ Completed fold beginning 0 text refused
            → (more : List ℕ) × IsRead fold (take refused.at text ++ more)
        by_reading (inl (inl is)) = from_beginning fold text refused.at is
        by_reading (inl (inr none)) = absurd none
        by_reading (inr c) =
            let front_is : take refused.at text ≡ c.front =
            ap (take refused.at) c.is ∙ take_at c.front c.rest refused.at (omega (arith, c.long)) in
            (c.more, subst (λ t. IsRead fold (t ++ c.more)) (sym front_is) (read_whole fold (c.front ++ c.more) c.reads))
