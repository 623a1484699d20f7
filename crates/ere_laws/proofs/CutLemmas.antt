-- A bracket in which something is refused can be closed there: by `a]`, or behind the dash of a range by `]`.
-- A member is refused at its first byte, or behind its dash; the members before it stand as they were read, since what is
-- put behind them goes on with none of them. By the steps of the reading, as `members_read`.
use Rattle.std.proofs.Common.{◌≡◌, ◌≢◌, ℕ, zero, suc, ◌+◌, ◌<◌, ◌≤◌, Bool, true, false, cond, not, ◌&&◌, ◌||◌, ◌==◌, ◌⊎◌, inl, inr, codes, List, [], ◌∷◌, ◌++◌, Option, Some, None, Result, Ok, Err, length, drop, nat_lt, refl, sym, ap, subst, ◌∙◌, arith, append_assoc, length-append}
use Rattle.std.proofs.lemmas.Bool.{eqb-false, eqb-true}
use Rattle.std.proofs.lemmas.List.{drop_at}
use Rattle.ere_tree.specs.Bound.{begins_bound}
use Rattle.ere_tree.specs.Bracket.{alone, begins_range, bracket, class_len, element, element_len, member, members, range as range_of}
use Rattle.ere_tree.specs.Fault.{fault}
use Rattle.ere_tree.specs.Front.{begins_with, starts}
use Rattle.ere_tree.specs.Productions.{Takes}
use Rattle.ere_tree.specs.Token.{Token, atom_at, item, one_of, token}
use Rattle.ere_tree.specs.declared.fault.EreFault.{EreFault}
use Rattle.ere_tree.specs.declared.fault.EreKind.{EreKind}
use Rattle.ere_tree.proofs.BracketLemmas.{members_close, members_end, members_refused}
use Rattle.ere_laws.specs.Spelling.{Begins, HasNoBound, MayStand, Member, SpellsBracket, SpellsMembers, bytes_of, single, spelled_member}
use Rattle.ere_laws.proofs.FrontSpelling.{begins_from, chosen, not_begins}
use Rattle.ere_laws.proofs.BracketSpelling.{goes_on, member_read, member_some, no_close_here, opens, range_read}
use Rattle.ere_laws.proofs.TokenSpelling.{token_spelled}
use Rattle.ere_laws.proofs.PlaceLemmas.{alone_fault, choice_fault, item_fault, map_fault, same_place}
use Rattle.ere_laws.proofs.RespellLemmas.{Ends, GoesOn, ends_behind, one_more, parted}

-- MEMBERS

-- the first byte of a range, where its end is refused
abbrev pub Dashed : List ℕ → Type 0
Dashed rest = (high : ℕ) × (more : List ℕ) × (rest ≡ 45 ∷ high ∷ more) × (high ≢ 93)

range_cut : (b : ℕ) (rest second : List ℕ) (refused : EreFault) → range_of (element (b ∷ rest)) (element second) ≡ Err refused
    → (refused.at ≡ 0) ⊎ ((refused.at ≡ 2) × (element_len (element (b ∷ rest)) ≡ 1))
unfolding element
range_cut b rest second refused told =
    by_test (opens (b ∷ rest)) (class_len (b ∷ rest)) (opens second) (class_len second) refl refl refl refl
  where
    by_test : (v : Bool) (o : Option ℕ) (w : Bool) (p : Option ℕ) → opens (b ∷ rest) ≡ v → class_len (b ∷ rest) ≡ o
        → opens second ≡ w → class_len second ≡ p
        → (refused.at ≡ 0) ⊎ ((refused.at ≡ 2) × (element_len (element (b ∷ rest)) ≡ 1))
    by_test true o w p a b c d = let e = rw a at told in inl (same_place 0 _ _ refused refl e)
    by_test false (Some n) w p a b c d = let e = rw (a, b) at told in inl (same_place 0 _ _ refused refl e)
    by_test false None true p a b c d =
        let e = rw (a, b, c) at told in inr (same_place 2 _ _ refused refl e, rw (a, b) refl)
    by_test false None false (Some m) a b c d =
        let e = rw (a, b, c, d) at told in inl (same_place 0 _ _ refused refl e)
    by_test false None false None a b c d =
        let e = rw (a, b, c, d) at told in inl (omega (arith, choice_fault _ _ _ refused e))

member_cut : (b : ℕ) (rest : List ℕ) (refused : EreFault) → member (b ∷ rest) ≡ Err refused
    → (refused.at ≡ 0) ⊎ ((refused.at ≡ 2) × Dashed rest)
unfolding member
member_cut b rest refused told =
    let behind : List ℕ = drop (element_len (element (b ∷ rest))) (b ∷ rest) in
    elim (chosen (begins_range behind) _ _ _ told) [
      | inl (is, e) ↦ elim (range_cut b rest (drop 1 behind) refused e) [
        | inl first ↦ inl first
        | inr (second, one) ↦
            let r = range_read rest (ap (λ n. begins_range (drop n (b ∷ rest))) (sym one) ∙ is) in
            inr (second, (r.0, r.1, r.2, r.3))
      ]
      | inr (none, e) ↦ inl (omega (arith, alone_fault (b ∷ rest) refused e))
    ]

-- LISTS OF MEMBERS

-- what closes a bracket behind what was read of it
abbrev pub IsClosing : List ℕ → Type 0
IsClosing closing = (closing ≡ codes "a]") ⊎ (closing ≡ codes "]")

-- members up to what is refused, and what closes them there
pub record MembersCut (first : Bool) (at : ℕ) (text : List ℕ) (refused : EreFault) : Type 0 where
  pub front : List ℕ
  pub rest : List ℕ
  pub closing : List ℕ
  pub all : List Member
  pub is : text ≡ front ++ rest
  pub long : at + length front ≡ refused.at
  pub closes : IsClosing closing
  pub ends : first ≡ false → (tail : List ℕ) → Ends front rest (closing ++ tail)
  pub spells : (tail : List ℕ) → SpellsMembers first (front ++ (closing ++ tail)) all tail

-- a byte before bytes that a `[` doesn't go on with
lone : (b c : ℕ) (tail : List ℕ) → c ≢ 46 → c ≢ 61 → c ≢ 58 → (c ≡ 45 → Begins tail (codes "]")) → MayStand (single b) (c ∷ tail)
lone b c tail dot same colon closed = (
  λ begins. elim begins [
    | inl (rest, is) ↦
        dot (parted c 46 tail rest (parted b 91 (c ∷ tail) (46 ∷ rest) is).1).0
    | inr (inl (rest, is)) ↦
        same (parted c 61 tail rest (parted b 91 (c ∷ tail) (61 ∷ rest) is).1).0
    | inr (inr (name, good, (rest, is))) ↦
        colon (class_second b c tail name rest is)
  ],
  λ (high, other, (rest, is)).
      let h = parted c 45 tail (high ∷ rest) is in
      let end = closed h.0 in
      other (sym (parted 93 high end.0 rest (sym end.1 ∙ h.1)).0),
)
  where
    class_second : (b c : ℕ) (tail name rest : List ℕ) → b ∷ c ∷ tail ≡ (codes "[:" ++ name ++ codes ":]") ++ rest → c ≡ 58
    class_second b c tail name rest is =
        (parted c 58 tail ((name ++ codes ":]") ++ rest) (parted b 91 (c ∷ tail) (58 ∷ ((name ++ codes ":]") ++ rest)) is).1).0

cut_at_once : (first : Bool) (at : ℕ) (b : ℕ) (rest : List ℕ) (refused : EreFault)
    → (starts (codes "]") (b ∷ rest) && not first) ≡ false → at ≡ refused.at → MembersCut first at (b ∷ rest) refused
cut_at_once first at b rest refused here is = record {
  front = [];
  rest = b ∷ rest;
  closing = codes "a]";
  all = single 97 ∷ [];
  is = refl;
  long = omega (arith, is);
  closes = inl refl;
  ends = λ fresh tail. (
    (tail, refl),
    (b, rest, λ same. no_close_here (b ∷ rest) first here fresh (rest, λ i. same i ∷ rest), refl),
  );
  spells = λ tail. (
    93 ∷ tail,
    λ fresh (more, same). omega (arith, (parted 97 93 (93 ∷ tail) more same).0),
    refl,
    lone 97 93 tail (λ e. omega (arith, e)) (λ e. omega (arith, e)) (λ e. omega (arith, e))
        (λ e. absurd (omega (arith, e))),
    (refl, refl),
  );
}

cut_behind_dash : (first : Bool) (at : ℕ) (b high : ℕ) (rest : List ℕ) (refused : EreFault)
    → (starts (codes "]") (b ∷ 45 ∷ high ∷ rest) && not first) ≡ false → at + 2 ≡ refused.at
    → MembersCut first at (b ∷ 45 ∷ high ∷ rest) refused
cut_behind_dash first at b high rest refused here is = record {
  front = b ∷ 45 ∷ [];
  rest = high ∷ rest;
  closing = codes "]";
  all = single b ∷ single 45 ∷ [];
  is = refl;
  long = omega (arith, is);
  closes = inr refl;
  ends = λ fresh tail. inr (inr (inr (inl (refl, refl, tail, refl))));
  spells = λ tail. (
    45 ∷ 93 ∷ tail,
    λ fresh (more, same). no_close_here (b ∷ 45 ∷ high ∷ rest) first here fresh
        (45 ∷ high ∷ rest, λ i. (parted b 93 (45 ∷ 93 ∷ tail) more same).0 i ∷ 45 ∷ high ∷ rest),
    refl,
    lone b 45 (93 ∷ tail) (λ e. omega (arith, e)) (λ e. omega (arith, e)) (λ e. omega (arith, e)) (λ e. (tail, refl)),
    (
      93 ∷ tail,
      λ fresh (more, same). omega (arith, (parted 45 93 (93 ∷ tail) more same).0),
      refl,
      lone 45 93 tail (λ e. omega (arith, e)) (λ e. omega (arith, e)) (λ e. omega (arith, e))
          (λ e. absurd (omega (arith, e))),
      (refl, refl),
    ),
  );
}

members_cut : (fuel : ℕ) (test : ℕ → Bool) (first : Bool) (at : ℕ) (text : List ℕ) (refused : EreFault)
    → length text ≤ fuel → members test first at 0 text ≡ Err refused
    → (refused.at ≡ 0) ⊎ MembersCut first at text refused
members_cut fuel test first at [] refused fits told =
    inl (same_place 0 _ _ refused (members_end test first at [] refl) told)
members_cut zero test first at (b ∷ rest) refused fits told = absurd (omega (arith, fits))
members_cut (suc fuel) test first at (b ∷ rest) refused fits told =
    by_test (starts (codes "]") (b ∷ rest) && not first) (member (b ∷ rest)) refl refl
    (λ (one : (ℕ → Bool) × ℕ) (behind : List ℕ) (short : length behind ≤ fuel).
    members_cut fuel (λ c. test c || one.0 c) false (at + one.1) behind refused short)
  where
    by_test : (v : Bool) (o : Result ((ℕ → Bool) × ℕ) EreFault) → (starts (codes "]") (b ∷ rest) && not first) ≡ v
        → member (b ∷ rest) ≡ o
        → ((one : (ℕ → Bool) × ℕ) (behind : List ℕ) → length behind ≤ fuel
        → members (λ c. test c || one.0 c) false (at + one.1) 0 behind ≡ Err refused
        → (refused.at ≡ 0) ⊎ MembersCut false (at + one.1) behind refused)
        → (refused.at ≡ 0) ⊎ MembersCut first at (b ∷ rest) refused
    by_test true o closes o_is more = cc (members_close test first at (b ∷ rest) closes)
    by_test false (Err f) here o_is more =
        let place = same_place (at + f.at) f.kind _ refused
        (members_refused test first at (b ∷ rest) f here (omega arith) o_is) told in
        elim (member_cut b rest f o_is) [
          | inl zero_is ↦ inr (cut_at_once first at b rest refused here (omega (arith, place, zero_is)))
          | inr (two_is, (high, further, rest_is, other)) ↦
              inr (subst (λ t. MembersCut first at (b ∷ t) refused) (sym rest_is)
              (cut_behind_dash first at b high further refused
              (ap (λ t. starts (codes "]") (b ∷ t) && not first) (sym rest_is) ∙ here)
              (omega (arith, place, two_is))))
        ]
    by_test false (Ok one) here o_is more =
        let m = member_read b rest one o_is in
        let whole = ap length m.is ∙ length-append (spelled_member m.one) m.behind in
        let some = member_some m.one in
        let behind : drop one.1 (b ∷ rest) ≡ m.behind =
        ap (drop one.1) m.is ∙ drop_at (spelled_member m.one) m.behind one.1 (sym m.long) in
        let r = more one m.behind (omega (arith, whole, some, fits))
        (sym (goes_on test first at (b ∷ rest) m.behind one here o_is (omega (arith, some, m.long))
        (omega (arith, whole, m.long)) behind) ∙ told) in
        elim r [
          | inl zero_is ↦ inl zero_is
          | inr cut ↦ inr (extended cut)
        ]
      where
        extended : (cut : MembersCut false (at + one.1) (member_read b rest one o_is).behind refused)
            → MembersCut first at (b ∷ rest) refused
        extended cut =
            let m = member_read b rest one o_is in
            let front = spelled_member m.one in
            record {
              front = front ++ cut.front;
              rest = cut.rest;
              closing = cut.closing;
              all = m.one ∷ cut.all;
              is = m.is ∙ ap (λ t. front ++ t) cut.is ∙ sym (append_assoc front cut.front cut.rest);
              long = omega (arith, cut.long, m.long, length-append front cut.front);
              closes = cut.closes;
              ends = λ fresh tail. ends_behind front cut.front cut.rest (cut.closing ++ tail) (cut.ends refl tail);
              spells = λ tail. subst (λ t. SpellsMembers first t (m.one ∷ cut.all) tail)
                  (sym (append_assoc front cut.front (cut.closing ++ tail)))
                  (one_more first m.one cut.front cut.rest (cut.closing ++ tail) cut.all tail (cut.ends refl tail)
                  (λ fresh begins. no_close_here (b ∷ rest) first here fresh
                  (subst (λ t. Begins t (codes "]")) (sym (m.is ∙ ap (λ t. front ++ t) cut.is)) begins))
                  (subst (MayStand m.one) cut.is m.stands) (cut.spells tail));
            }

-- BRACKETS AND TOKENS

-- a text up to where its first token is refused, and what makes one of it
pub record TokenCut (text : List ℕ) (refused : EreFault) : Type 0 where
  pub front : List ℕ
  pub rest : List ℕ
  pub closing : List ℕ
  pub negated : Bool
  pub all : List Member
  pub is : text ≡ front ++ rest
  pub long : length front ≡ refused.at
  pub closes : IsClosing closing
  pub spells : (tail : List ℕ) → SpellsBracket (front ++ (closing ++ tail)) negated all tail

no_caret : (front rest closing tail : List ℕ) → IsClosing closing → starts (codes "^") (front ++ rest) ≡ false
    → Begins (front ++ (closing ++ tail)) (codes "^") → ⊥
no_caret [] rest closing tail (inl is) none (more, same) =
    omega (arith, (parted 97 94 (93 ∷ tail) more (ap (λ t. t ++ tail) (sym is) ∙ same)).0)
no_caret [] rest closing tail (inr is) none (more, same) =
    omega (arith, (parted 93 94 tail more (ap (λ t. t ++ tail) (sym is) ∙ same)).0)
no_caret (c ∷ front) rest closing tail is none (more, same) =
    let h = parted c 94 (front ++ (closing ++ tail)) more same in
    not_begins (codes "^") (c ∷ (front ++ rest)) none (front ++ rest, λ i. h.0 i ∷ (front ++ rest))

bracket_cut : (rest : List ℕ) (refused : EreFault) → bracket (91 ∷ rest) ≡ Err refused
    → (refused.at ≡ 0) ⊎ TokenCut (91 ∷ rest) refused
unfolding bracket
bracket_cut rest refused told = by_test (starts (codes "^") rest) refl
  where
    by_test : (v : Bool) → starts (codes "^") rest ≡ v → (refused.at ≡ 0) ⊎ TokenCut (91 ∷ rest) refused
    by_test true is =
        let begun = begins_from (codes "^") rest is in
        let e = map_fault _ (members (λ b. false) true 2 0 (drop 1 rest)) refused (rw is at told) in
        elim (members_cut (length begun.0) (λ b. false) true 2 begun.0 refused (omega arith)
        (ap (λ t. members (λ b. false) true 2 0 (drop 1 t)) (sym begun.1) ∙ e)) [
          | inl zero_is ↦ inl zero_is
          | inr cut ↦ inr (record {
            front = 91 ∷ 94 ∷ cut.front;
            rest = cut.rest;
            closing = cut.closing;
            negated = true;
            all = cut.all;
            is = ap (λ t. 91 ∷ t) begun.1 ∙ ap (λ t. 91 ∷ 94 ∷ t) cut.is;
            long = omega (arith, cut.long);
            closes = cut.closes;
            spells = λ tail. (cut.front ++ (cut.closing ++ tail), refl, cut.spells tail);
          })
        ]
    by_test false is =
        let e = map_fault _ (members (λ b. false) true 1 0 rest) refused (rw is at told) in
        elim (members_cut (length rest) (λ b. false) true 1 rest refused (omega arith) e) [
          | inl zero_is ↦ inl zero_is
          | inr cut ↦ inr (record {
            front = 91 ∷ cut.front;
            rest = cut.rest;
            closing = cut.closing;
            negated = false;
            all = cut.all;
            is = ap (λ t. 91 ∷ t) cut.is;
            long = omega (arith, cut.long);
            closes = cut.closes;
            spells = λ tail. (
              cut.front ++ (cut.closing ++ tail),
              refl,
              no_caret cut.front cut.rest cut.closing tail cut.closes
                  (ap (starts (codes "^")) (sym cut.is) ∙ is),
              cut.spells tail,
            );
          })
        ]

atom_cut : (b : ℕ) (rest : List ℕ) (refused : EreFault) → atom_at (b ∷ rest) ≡ Err refused
    → (refused.at ≡ 0) ⊎ TokenCut (b ∷ rest) refused
unfolding atom_at begins_with
atom_cut b rest refused told = elim (chosen (b == 46) _ _ _ told) [
  | inl (is, e) ↦ cc
  | inr (is, e) ↦ elim (chosen (b == 91) _ _ _ e) [
    | inl (is, e) ↦
        let same : b ∷ rest ≡ 91 ∷ rest = ap (λ c. c ∷ rest) (eqb-true b 91 is) in
        let told_inside = item_fault _ (bracket (b ∷ rest)) refused e in
        subst (λ t. (refused.at ≡ 0) ⊎ TokenCut t refused) (sym same)
        (bracket_cut rest refused (ap bracket (sym same) ∙ told_inside))
    | inr (is, e) ↦ elim (chosen (b == 92) _ _ _ e) [
      | inl (is, e) ↦ elim (chosen (nat_lt 1 (length (b ∷ rest))) _ _ _ e) [
        | inl (is, e) ↦ cc
        | inr (is, e) ↦ inl (same_place 0 _ _ refused refl e)
      ]
      | inr (is, e) ↦ cc
    ]
  ]
]

-- a token is refused at its first byte, or in a bracket
pub token_cut : (b : ℕ) (rest : List ℕ) (refused : EreFault) → token (b ∷ rest) ≡ Err refused
    → (refused.at ≡ 0) ⊎ TokenCut (b ∷ rest) refused
unfolding token begins_with
token_cut b rest refused told = elim (chosen (b == 94) _ _ _ told) [
  | inl (is, e) ↦ cc
  | inr (is, e) ↦ elim (chosen (b == 36) _ _ _ e) [
    | inl (is, e) ↦ cc
    | inr (is, e) ↦ elim (chosen (b == 124) _ _ _ e) [
      | inl (is, e) ↦ cc
      | inr (is, e) ↦ elim (chosen (b == 40) _ _ _ e) [
        | inl (is, e) ↦ cc
        | inr (is, e) ↦ elim (chosen (b == 41) _ _ _ e) [
          | inl (is, e) ↦ cc
          | inr (is, e) ↦ elim (chosen (begins_bound (b ∷ rest)) _ _ _ e) [
            | inl (is, e) ↦ inl (same_place 0 _ _ refused refl e)
            | inr (is, e) ↦ atom_cut b rest refused e
          ]
        ]
      ]
    ]
  ]
]

-- what was cut off and closed is a token
pub closed_token : (text : List ℕ) (refused : EreFault) (cut : TokenCut text refused) (tail : List ℕ) → HasNoBound tail
    → Takes (cut.front ++ (cut.closing ++ tail)) (item (one_of cut.negated (bytes_of cut.all)) None) tail
closed_token text refused cut tail none =
    token_spelled (cut.front ++ (cut.closing ++ tail)) (item (one_of cut.negated (bytes_of cut.all)) None) tail
    (tail, inr (cut.all, refl, cut.spells tail), (none, refl))
