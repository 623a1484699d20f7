-- Where faults and hits lie.
-- A fault's place counts from where a token begins, and a token's fault lies in what is left; the levels that are open
-- began before. Idea: along the reading, byte by byte.
use Rattle.std.proofs.Common.{◌≡◌, ℕ, zero, suc, ◌+◌, ◌-◌, ◌≤◌, Bool, true, false, cond, not, ◌&&◌, ◌==◌, inl, inr, codes, List, [], ◌∷◌, Option, Some, None, Result, Ok, Err, length, drop, nat_lt, refl, sym, ap, ◌∙◌, arith, length-drop}
use Rattle.std.proofs.lemmas.Bool.{eqb-true}
use Rattle.std.specs.List.{AllByRecursion}
use Rattle.ere_tree.specs.Bound.{begins_bound}
use Rattle.ere_tree.specs.Bracket.{alone, begins_range, bracket, class_len, class_member, element, element_len, member, members, range as range_of}
use Rattle.ere_tree.specs.Fault.{and_then, fault, map_ok, unless}
use Rattle.ere_tree.specs.Front.{begins_with, starts}
use Rattle.ere_tree.specs.Grammar.{ended, reading, reading_from, sized, tree_read, whole}
use Rattle.ere_tree.specs.Place.{Open, Place, after_bar, beginning, behind, refusal, refusal_at_end}
use Rattle.ere_tree.specs.Token.{Token, atom_at, bar, bracket_item, close_group, escape_at, item, open_group, token}
use Rattle.ere_tree.specs.Token as tokens
use Rattle.ere_tree.specs.Tree.{Tree}
use Rattle.ere_tree.specs.declared.fault.EreFault.{EreFault}
use Rattle.ere_tree.specs.declared.fault.EreKind.{EreKind}
use Rattle.ere_tree.specs.declared.fault.EreKind.TheVariants.{TooLarge}
use Rattle.ere_tree.proofs.DerivationLemmas.{is_part}
use Rattle.ere_laws.proofs.FrontSpelling.{begins_from, chosen}
use Rattle.ere_laws.proofs.BracketSpelling.{opens, range_read}
use Rattle.ere_laws.specs.Laws.{FaultsLieWithin, HitsLieWithin}

-- a fault that is told at a place
pub same_place : {A : Type 0} (at : ℕ) (kind : EreKind) (r : Result A EreFault) (refused : EreFault) → r ≡ fault at kind
    → r ≡ Err refused → refused.at ≡ at
same_place at kind r refused is told =
    let same : Err (record { at = at; kind = kind }) ≡ Err refused = sym is ∙ told in cc

-- MEMBERS

pub choice_fault : {A : Type 0} (v : Bool) (x : A) (kind : EreKind) (refused : EreFault)
    → cond v (Ok x) (fault 0 kind) ≡ Err refused → refused.at ≤ 0
choice_fault true x kind refused told = cc
choice_fault false x kind refused told = omega (arith, same_place 0 kind _ refused refl told)

range_fault : (text second : List ℕ) (refused : EreFault) → range_of (element text) (element second) ≡ Err refused
    → refused.at ≤ 2
unfolding element
range_fault text second refused told = by_test (opens text) (class_len text) (opens second) (class_len second) refl refl refl refl
  where
    by_test : (v : Bool) (o : Option ℕ) (w : Bool) (p : Option ℕ) → opens text ≡ v → class_len text ≡ o
        → opens second ≡ w → class_len second ≡ p → refused.at ≤ 2
    by_test true o w p a b c d = let e = rw a at told in omega (arith, same_place 0 _ _ refused refl e)
    by_test false (Some n) w p a b c d = let e = rw (a, b) at told in omega (arith, same_place 0 _ _ refused refl e)
    by_test false None true p a b c d = let e = rw (a, b, c) at told in omega (arith, same_place 2 _ _ refused refl e)
    by_test false None false (Some m) a b c d =
        let e = rw (a, b, c, d) at told in omega (arith, same_place 0 _ _ refused refl e)
    by_test false None false None a b c d = let e = rw (a, b, c, d) at told in omega (arith, choice_fault _ _ _ refused e)

class_fault : (o : Option (ℕ → Bool)) (count : ℕ) (refused : EreFault) → class_member o count ≡ Err refused
    → refused.at ≤ 0
class_fault None count refused told = omega (arith, same_place 0 _ _ refused refl told)
class_fault (Some test) count refused told = cc

pub alone_fault : (text : List ℕ) (refused : EreFault) → alone text (element text) ≡ Err refused → refused.at ≤ 0
unfolding element
alone_fault text refused told = by_test (opens text) (class_len text) refl refl
  where
    by_test : (v : Bool) (o : Option ℕ) → opens text ≡ v → class_len text ≡ o → refused.at ≤ 0
    by_test true o a b = let e = rw a at told in omega (arith, same_place 0 _ _ refused refl e)
    by_test false (Some n) a b = let e = rw (a, b) at told in class_fault _ n refused e
    by_test false None a b = let e = rw (a, b) at told in cc

member_fault : (text : List ℕ) (refused : EreFault) → member text ≡ Err refused → refused.at ≤ length text
unfolding member
member_fault text refused told =
    let behind : List ℕ = drop (element_len (element text)) text in
    elim (chosen (begins_range behind) _ _ _ told) [
      | inl (is, e) ↦
          let r = range_read behind is in
          omega (
            arith,
            range_fault text (drop 1 behind) refused e,
            ap length r.2,
            length-drop (element_len (element text)) text,
          )
      | inr (none, e) ↦ omega (arith, alone_fault text refused e)
    ]

-- BRACKETS AND TOKENS

-- what is refused on the way on, or at once
on_way : {A B : Type 0} (at : ℕ) (o : Result A EreFault) (go : A → Result B EreFault) (refused : EreFault)
    (most : ℕ) → and_then at o go ≡ Err refused → ((f : EreFault) → o ≡ Err f → at + f.at ≤ most)
    → ((a : A) → go a ≡ Err refused → refused.at ≤ most) → refused.at ≤ most
on_way at (Ok a) go refused most told here on = on a told
on_way at (Err f) go refused most told here on =
    omega (arith, same_place (at + f.at) f.kind _ refused refl told, here f refl)

members_fault : (test : ℕ → Bool) (first : Bool) (at skip : ℕ) (text : List ℕ) (refused : EreFault)
    → members test first at skip text ≡ Err refused → refused.at ≤ at + length text
unfolding members
members_fault test first at skip [] refused told = omega (arith, same_place 0 _ _ refused refl told)
members_fault test first at (suc skip) (b ∷ rest) refused told =
    omega (arith, members_fault test first (suc at) skip rest refused told)
members_fault test first at zero (b ∷ rest) refused told =
    elim (chosen (starts (codes "]") (b ∷ rest) && not first) _ _ _ told) [
      | inl (is, e) ↦ cc
      | inr (open_still, e) ↦ on_way at (member (b ∷ rest)) _ refused (at + length (b ∷ rest)) e
          (λ f is. omega (arith, member_fault (b ∷ rest) f is))
          (λ found is. omega (arith, members_fault _ false (suc at) (found.1 - 1) rest refused is))
    ]

pub map_fault : {A B : Type 0} (f : A → B) (o : Result A EreFault) (refused : EreFault) → map_ok f o ≡ Err refused
    → o ≡ Err refused
map_fault f (Ok a) refused told = cc
map_fault f (Err e) refused told = cc

bracket_fault : (rest : List ℕ) (refused : EreFault) → bracket (91 ∷ rest) ≡ Err refused
    → refused.at ≤ length (91 ∷ rest)
unfolding bracket begins_with
bracket_fault rest refused told = by_test (starts (codes "^") rest) refl
  where
    by_test : (v : Bool) → starts (codes "^") rest ≡ v → refused.at ≤ length (91 ∷ rest)
    by_test true is =
        let begun = begins_from (codes "^") rest is in
        let e = map_fault _ (members (λ b. false) true 2 0 (drop 1 rest)) refused (rw is at told) in
        omega (arith, members_fault (λ b. false) true 2 0 (drop 1 rest) refused e, length-drop 1 rest, ap length begun.1)
    by_test false is =
        let e = map_fault _ (members (λ b. false) true 1 0 rest) refused (rw is at told) in
        omega (arith, members_fault (λ b. false) true 1 0 rest refused e)

pub item_fault : (text : List ℕ) (o : Result (Bool × List ℕ × ℕ) EreFault) (refused : EreFault)
    → bracket_item text o ≡ Err refused → o ≡ Err refused
item_fault text (Ok found) refused told = cc
item_fault text (Err e) refused told = cc

atom_fault : (b : ℕ) (rest : List ℕ) (refused : EreFault) → atom_at (b ∷ rest) ≡ Err refused
    → refused.at ≤ length (b ∷ rest)
unfolding atom_at begins_with
atom_fault b rest refused told = elim (chosen (b == 46) _ _ _ told) [
  | inl (is, e) ↦ cc
  | inr (is, e) ↦ elim (chosen (b == 91) _ _ _ e) [
    | inl (is, e) ↦
        let same : b ∷ rest ≡ 91 ∷ rest = ap (λ c. c ∷ rest) (eqb-true b 91 is) in
        let inside = item_fault _ (bracket (b ∷ rest)) refused e in
        omega (arith, bracket_fault rest refused (ap bracket (sym same) ∙ inside))
    | inr (is, e) ↦ elim (chosen (b == 92) _ _ _ e) [
      | inl (is, e) ↦ elim (chosen (nat_lt 1 (length (b ∷ rest))) _ _ _ e) [
        | inl (is, e) ↦ cc
        | inr (is, e) ↦ omega (arith, same_place 0 _ _ refused refl e)
      ]
      | inr (is, e) ↦ cc
    ]
  ]
]

token_fault : (b : ℕ) (rest : List ℕ) (refused : EreFault) → token (b ∷ rest) ≡ Err refused
    → refused.at ≤ length (b ∷ rest)
unfolding token begins_with
token_fault b rest refused told = elim (chosen (b == 94) _ _ _ told) [
  | inl (is, e) ↦ cc
  | inr (is, e) ↦ elim (chosen (b == 36) _ _ _ e) [
    | inl (is, e) ↦ cc
    | inr (is, e) ↦ elim (chosen (b == 124) _ _ _ e) [
      | inl (is, e) ↦ cc
      | inr (is, e) ↦ elim (chosen (b == 40) _ _ _ e) [
        | inl (is, e) ↦ cc
        | inr (is, e) ↦ elim (chosen (b == 41) _ _ _ e) [
          | inl (is, e) ↦ cc
          | inr (is, e) ↦ elim (chosen (begins_bound (b ∷ rest)) _ _ _ e) [
            | inl (is, e) ↦ omega (arith, same_place 0 _ _ refused refl e)
            | inr (is, e) ↦ atom_fault b rest refused e
          ]
        ]
      ]
    ]
  ]
]

-- THE READING

-- each level that is open began before this offset
abbrev AreBehind : List Open → ℕ → Type 0
AreBehind levels at = AllByRecursion (λ (level : Open). level.at ≤ at) levels

abbrev BeganBefore : Place → ℕ → Type 0
BeganBefore place at = (place.inner.at ≤ at) × AreBehind place.outer at

later : (levels : List Open) (at : ℕ) → AreBehind levels at → AreBehind levels (suc at)
later [] at are = tt
later (level ∷ levels) at (first, others) = (omega arith, later levels at others)

close_before : (groups : ℕ) (inner : Open) (outer : List Open) (last : _) (at : ℕ) (bound : _)
    → inner.at ≤ at → AreBehind outer at → BeganBefore
    (behind (record { groups = groups; inner = inner; outer = outer; last = last }) at (close_group bound)) (suc at)
close_before groups inner [] last at bound low are = (omega (arith, low), tt)
close_before groups inner (level ∷ levels) last at bound low (first, others) =
    (omega (arith, first), later levels at others)

goes_before : (place : Place) (at : ℕ) (t : Token) → BeganBefore place at → BeganBefore (behind place at t) (suc at)
goes_before place at (item atom bound) (inner, outer) = (omega (arith, inner), later _ at outer)
goes_before place at tokens.line_start (inner, outer) = (omega (arith, inner), later _ at outer)
goes_before place at tokens.line_end (inner, outer) = (omega (arith, inner), later _ at outer)
goes_before place at bar (inner, outer) = (omega (arith, inner), later _ at outer)
goes_before place at open_group (inner, outer) = (omega arith, (omega (arith, inner), later _ at outer))
goes_before place at (close_group bound) (inner, outer) =
    close_before place.groups place.inner place.outer place.last at bound inner outer

end_choice : (v w : Bool) (a b refused : EreFault) (at : ℕ)
    → ended (cond v (Some a) (cond w (Some b) None)) ≡ Err refused → a.at ≤ at → b.at ≤ at → refused.at ≤ at
end_choice true w a b refused at told low also = omega (arith, low, same_place a.at a.kind _ refused refl told)
end_choice false true a b refused at told low also = omega (arith, also, same_place b.at b.kind _ refused refl told)
end_choice false false a b refused at told low also = cc

end_fault : (place : Place) (at : ℕ) (refused : EreFault) → BeganBefore place at
    → ended (refusal_at_end place at) ≡ Err refused → refused.at ≤ at
end_fault place at refused before told =
    end_choice (nat_lt 0 (length place.outer)) (after_bar place.last) _ _ refused at told before.0 (omega arith)

unless_fault : {A : Type 0} (at : ℕ) (o : Option EreKind) (r : Result A EreFault) (refused : EreFault) (most : ℕ)
    → unless at o r ≡ Err refused → at ≤ most → (r ≡ Err refused → refused.at ≤ most) → refused.at ≤ most
unless_fault at (Some kind) r refused most told low on = omega (arith, same_place at kind _ refused refl told, low)
unless_fault at None r refused most told low on = on told

reading_fault : (fold : Bool) (place : Place) (at skip : ℕ) (text : List ℕ) (refused : EreFault)
    → BeganBefore place at → reading_from fold place at skip text ≡ Err refused → refused.at ≤ at + length text
unfolding reading_from
reading_fault fold place at skip [] refused before told = omega (arith, end_fault place at refused before told)
reading_fault fold place at (suc skip) (b ∷ rest) refused (inner, outer) told =
    omega (arith, reading_fault fold place (suc at) skip rest refused (omega (arith, inner), later _ at outer) told)
reading_fault fold place at zero (b ∷ rest) refused before told =
    on_way at (token (b ∷ rest)) _ refused (at + length (b ∷ rest)) told
    (λ f is. omega (arith, token_fault b rest f is))
    (λ found is. unless_fault at (refusal place found.0) _ refused (at + length (b ∷ rest)) is (omega arith)
    (λ e. omega (
      arith,
      reading_fault fold (behind place at found.0) (suc at) (found.1 - 1) rest refused
          (goes_before place at found.0 before) (map_fault _ _ refused e),
    )))

sized_fault : (r : Result Tree EreFault) (refused : EreFault) (most : ℕ) → sized r ≡ Err refused
    → (r ≡ Err refused → refused.at ≤ most) → refused.at ≤ most
sized_fault (Ok tree) refused most told on = omega (arith, choice_fault _ tree TooLarge refused told)
sized_fault (Err e) refused most told on = on told

pub faults_lie_within : FaultsLieWithin
unfolding reading tree_read
faults_lie_within fold text refused told =
    sized_fault (tree_read fold text) refused (length text) told
    (λ e. omega (arith, reading_fault fold beginning 0 0 text refused (omega arith, tt) (map_fault whole _ refused e)))

pub hits_lie_within : HitsLieWithin
hits_lie_within text t from hit within tells =
    let part = is_part (drop from text) t tells.is_hit.way (hit.from - from) (hit.to - from) _ tells.captures
    tells.is_hit.shows in (
      tells.behind,
      tells.ordered,
      omega (arith, tells.behind, tells.ordered, part.1, length-drop from text, within),
    )
