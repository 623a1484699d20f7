-- What is found in a text ends within it: bounds, brackets, tokens.
-- By cases along the definitions; each way on is a shorter text, whose length is known. None is hard, and
-- `token_within` is what the others are for.
use Rattle.std.proofs.Common.{◌≡◌, ℕ, zero, suc, ◌+◌, ◌-◌, ◌<◌, ◌≤◌, Bool, true, false, not, ◌&&◌, ◌||◌, List, [], ◌∷◌, Option, Some, None, Result, Ok, Err, length, drop, nat_lt, nat_le, refl, arith, length-drop}
use Rattle.std.proofs.Common.{subst, ◌==◌, ◌⊎◌, inl, inr, slice_index}
use Rattle.std.specs.Option.{IfSome}
use Rattle.std.specs.Result.{IfOk}
use Rattle.std.proofs.lemmas.Bool.Decides.{nat_tests}
use Rattle.ere_tree.specs.Front.{begins, begins_with}
use Rattle.ere_tree.specs.Class.{is_digit}
use Rattle.ere_tree.specs.Bound.{digit_count, number_at, at_least, between, behind_comma, braced, bound_at, begins_bound}
use Rattle.ere_tree.specs.Bracket.{member, members, bracket}
use Rattle.ere_tree.specs.Fault.{and_then, map_ok}
use Rattle.ere_tree.specs.Token.{Token, item, byte, one_of, escaped, close_group, counted, bound_behind, with_bound, bracket_item, atom_at, token}
use Rattle.ere_tree.specs.declared.bound.Bound.{Bound}
use Rattle.ere_tree.specs.declared.fault.EreFault.{EreFault}
use Rattle.ere_tree.proofs.FrontLemmas.{begins_length}

pub true_or_false : (v : Bool) → (v ≡ true) ⊎ (v ≡ false)
true_or_false true = inl refl
true_or_false false = inr refl

-- what holds on both ways of going on
then_way : {A B : Type 0} (P : Result B EreFault → Type 0) (at : ℕ) (found : Result A EreFault)
    (go : A → Result B EreFault) →
    ((a : A) → P (go a)) → ((refused : EreFault) → P (Err refused)) → P (and_then at found go)
then_way P at (Ok a) go on off = on a
then_way P at (Err refused) go on off = off (record { at = at + refused.at; kind = refused.kind })

weakened : {A : Type 0} (P Q : A → Type 0) (r : Result A EreFault) → ((a : A) → P a → Q a) → IfOk r P → IfOk r Q
weakened P Q (Ok a) step holds = step a holds
weakened P Q (Err refused) step holds = tt

second_true : (v w : Bool) → (v && w) ≡ true → w ≡ true
second_true true w is = is
second_true false w is = cc

starts_length : (code : ℕ) (text : List ℕ) → begins code text ≡ true → 0 < length text
starts_length code text is = begins_length (λ first. first == code) text is

-- bounds

abbrev BoundWithin : ℕ → Option (Bound × ℕ) → Type 0
BoundWithin n found = IfSome found (λ f. f.1 ≤ n)

at_least_within : (n least taken : ℕ) → taken ≤ n → BoundWithin n (at_least least taken)
at_least_within n least taken fits = elim (true_or_false (nat_le least 255)) [ inl is ↦ rw is fits | inr is ↦ rw is tt ]

between_within : (n least most taken : ℕ) → taken ≤ n → BoundWithin n (between least most taken)
between_within n least most taken fits =
    elim (true_or_false (nat_le least most && nat_le most 255)) [ inl is ↦ rw is fits | inr is ↦ rw is tt ]

behind_comma_within : (n least taken : ℕ) (text : List ℕ) → taken + length text ≤ n →
    BoundWithin n (behind_comma least taken text)
behind_comma_within n least taken text fits = elim (true_or_false (begins 125 text)) [
  | inl is ↦
      let some : 0 < length text = starts_length 125 text is in
      rw is (at_least_within n least (taken + 1) (omega arith))
  | inr none ↦ rw none (elim (true_or_false (begins_with is_digit text && begins 125 (drop (digit_count text) text))) [
    | inl is ↦
        let rest = drop (digit_count text) text in
        let some : 0 < length rest = starts_length 125 rest
        (second_true (begins_with is_digit text) (begins 125 (drop (digit_count text) text)) is) in
        rw is (between_within n least (number_at text) (taken + digit_count text + 1)
        (omega (arith, length-drop (digit_count text) text)))
    | inr is ↦ rw is tt
  ])
]

braced_within : (text : List ℕ) → BoundWithin (length text + 1) (braced text)
unfolding braced
braced_within text =
    let count = digit_count text in
    let rest = drop count text in
    let long = length-drop count text in
    elim (true_or_false (begins 125 rest)) [
      | inl is ↦
          let some : 0 < length rest = starts_length 125 rest is in
          rw is (between_within (length text + 1) (number_at text) (number_at text) (count + 2) (omega arith))
      | inr none ↦ rw none (elim (true_or_false (begins 44 rest)) [
        | inl is ↦
            let some : 0 < length rest = starts_length 44 rest is in
            rw is (behind_comma_within (length text + 1) (number_at text) (count + 2) (drop 1 rest)
            (omega (arith, length-drop 1 rest)))
        | inr is ↦ rw is tt
      ])
    ]

bound_begins_length : (text : List ℕ) → begins_bound text ≡ true → 0 < length text
unfolding begins_bound begins_with
bound_begins_length [] is = cc
bound_begins_length (b ∷ rest) is = omega arith

bound_within : (text : List ℕ) → BoundWithin (length text) (bound_at text)
unfolding bound_at
bound_within text = elim (true_or_false (begins 42 text)) [
  | inl is ↦ rw is (starts_length 42 text is)
  | inr is ↦ rw is
      (elim (true_or_false (begins 43 text)) [
        | inl is ↦ rw is (starts_length 43 text is)
        | inr is ↦ rw is
            (elim (true_or_false (begins 63 text)) [
              | inl is ↦ rw is (starts_length 63 text is)
              | inr is ↦ rw is
                  (elim (true_or_false (begins_bound text)) [
                    | inl is ↦
                        let some : 0 < length text = bound_begins_length text is in
                        let same : length (drop 1 text) + 1 ≡ length text = omega (arith, length-drop 1 text) in
                        rw is (subst (λ (n : ℕ). BoundWithin n (braced (drop 1 text))) same
                        (braced_within (drop 1 text)))
                    | inr is ↦ rw is tt
                  ])
            ])
      ])
]

counted_within : (count n : ℕ) (found : Option (Bound × ℕ)) → BoundWithin n found →
    (count ≤ (counted count found).1) × ((counted count found).1 ≤ count + n)
counted_within count n (Some found) fits = (omega arith, omega arith)
counted_within count n None fits = (omega arith, omega arith)

-- tokens

abbrev TokenWithin : List ℕ → Result (Token × ℕ) EreFault → Type 0
TokenWithin text found = IfOk found (λ f. (0 < f.1) × (f.1 ≤ length text))

item_within : (make : Option Bound → Token) (count : ℕ) (text : List ℕ) → 0 < count → count ≤ length text →
    TokenWithin text (Ok (with_bound make count text))
unfolding bound_behind
item_within make count text some fits =
    let found = counted_within count (length (drop count text)) (bound_at (drop count text))
    (bound_within (drop count text)) in
    let low : count ≤ (counted count (bound_at (drop count text))).1 = found.0 in
    let high : (counted count (bound_at (drop count text))).1 ≤ count + length (drop count text) = found.1 in
    (omega arith, omega (arith, length-drop count text))

-- brackets

abbrev MembersWithin : ℕ → List ℕ → Result (List ℕ × ℕ) EreFault → Type 0
MembersWithin at text found = IfOk found (λ f. (at < f.1) × (f.1 ≤ at + length text))

members_within : (test : ℕ → Bool) (first : Bool) (at skip : ℕ) (text : List ℕ) →
    MembersWithin at text (members test first at skip text)
unfolding members
members_within test first at skip [] = tt
members_within test first at (suc skip) (b ∷ rest) =
    weakened (λ f. (suc at < f.1) × (f.1 ≤ suc at + length rest)) (λ f. (at < f.1) × (f.1 ≤ at + length (b ∷ rest)))
    (members test first (suc at) skip rest) (λ f (low, high). (omega arith, omega arith))
    (members_within test first (suc at) skip rest)
members_within test first at zero (b ∷ rest) =
    elim (true_or_false (begins 93 (b ∷ rest) && not first)) [
      | inl is ↦
          let ends : (at < at + 1) × (at + 1 ≤ at + length (b ∷ rest)) = (omega arith, omega arith) in
          rw is ends
      | inr is ↦ rw is (then_way (MembersWithin at (b ∷ rest)) at (member (b ∷ rest))
          (λ found. members (λ c. test c || found.0 c) false (suc at) (found.1 - 1) rest)
          (λ found.
          weakened (λ f. (suc at < f.1) × (f.1 ≤ suc at + length rest))
          (λ f. (at < f.1) × (f.1 ≤ at + length (b ∷ rest)))
          (members (λ c. test c || found.0 c) false (suc at) (found.1 - 1) rest)
          (λ f (low, high). (omega arith, omega arith))
          (members_within (λ c. test c || found.0 c) false (suc at) (found.1 - 1) rest))
          (λ refused. tt))
    ]

bracket_within : (text : List ℕ) → 0 < length text →
    IfOk (bracket text) (λ (f : Bool × List ℕ × ℕ). (0 < f.2) × (f.2 ≤ length text))
unfolding bracket
bracket_within text some = elim (true_or_false (begins 94 (drop 1 text))) [
  | inl is ↦
      let more : 0 < length (drop 1 text) = starts_length 94 (drop 1 text) is in
      rw is (told true 2 (omega (arith, length-drop 1 text)))
  | inr is ↦ rw is (told false 1 (omega arith))
]
  where
    told : (negated : Bool) (start : ℕ) → start ≤ length text →
        IfOk (map_ok (λ found. (negated, found.0, found.1)) (members (λ b. false) true start 0 (drop start text)))
        (λ (f : Bool × List ℕ × ℕ). (0 < f.2) × (f.2 ≤ length text))
    told negated start fits = each (members (λ b. false) true start 0 (drop start text))
        (members_within (λ b. false) true start 0 (drop start text))
      where
        each : (found : Result (List ℕ × ℕ) EreFault) → MembersWithin start (drop start text) found →
            IfOk (map_ok (λ found. (negated, found.0, found.1)) found)
            (λ (f : Bool × List ℕ × ℕ). (0 < f.2) × (f.2 ≤ length text))
        each (Ok found) (low, high) = (omega arith, omega (arith, length-drop start text))
        each (Err refused) within = tt

bracket_item_within : (text : List ℕ) (found : Result (Bool × List ℕ × ℕ) EreFault) →
    IfOk found (λ (f : Bool × List ℕ × ℕ). (0 < f.2) × (f.2 ≤ length text)) →
    TokenWithin text (bracket_item text found)
bracket_item_within text (Ok found) fits = item_within (item (one_of found.0 found.1)) found.2 text fits.0 fits.1
bracket_item_within text (Err refused) fits = tt

atom_within : (text : List ℕ) → 0 < length text → TokenWithin text (atom_at text)
unfolding atom_at
atom_within text some = elim (true_or_false (begins 46 text)) [
  | inl is ↦ rw is (item_within (item (one_of true [])) 1 text (omega arith) some)
  | inr is ↦ rw is (elim (true_or_false (begins 91 text)) [
    | inl is ↦ rw is (bracket_item_within text (bracket text) (bracket_within text some))
    | inr is ↦ rw is (elim (true_or_false (begins 92 text)) [
      | inl is ↦ rw is (elim (true_or_false (nat_lt 1 (length text))) [
        | inl is ↦
            let long : 2 ≤ length text = grind (arith, nat_tests) in
            rw is (item_within (item (escaped (slice_index text 1))) 2 text (omega arith) long)
        | inr is ↦ rw is tt
      ])
      | inr is ↦ rw is (item_within (item (byte (slice_index text 0))) 1 text (omega arith) some)
    ])
  ])
]

pub token_within : (text : List ℕ) → 0 < length text → TokenWithin text (token text)
unfolding token
token_within text some =
    let one : (0 < 1) × (1 ≤ length text) = (omega arith, omega arith) in
    elim (true_or_false (begins 94 text)) [
      | inl is ↦ rw is one
      | inr is ↦ rw is
          (elim (true_or_false (begins 36 text)) [
            | inl is ↦ rw is one
            | inr is ↦ rw is
                (elim (true_or_false (begins 124 text)) [
                  | inl is ↦ rw is one
                  | inr is ↦ rw is
                      (elim (true_or_false (begins 40 text)) [
                        | inl is ↦ rw is one
                        | inr is ↦ rw is
                            (elim (true_or_false (begins 41 text)) [
                              | inl is ↦ rw is (item_within close_group 1 text (omega arith) some)
                              | inr is ↦ rw is
                                  (elim (true_or_false (begins_bound text)) [
                                    | inl is ↦ rw is tt
                                    | inr is ↦ rw is
                                        (atom_within text some)
                                  ])
                            ])
                      ])
                ])
          ])
    ]
