-- Brackets: what is read is spelled, and what is spelled is read.
-- What a `[` begins inside a bracket is settled by two tests of the reading, `opens` and `class_len`; members go by
-- them, and lists of members by the steps of the reading.
use Rattle.std.proofs.Common.{◌≡◌, ◌≢◌, ℕ, zero, suc, ◌+◌, ◌-◌, ◌<◌, ◌≤◌, Bool, true, false, cond, not, ◌&&◌, ◌||◌, ◌==◌, inl, inr, codes, List, [], ◌∷◌, ◌++◌, Option, Some, None, Result, Ok, Err, length, take, drop, nat_le, nat_lt, refl, sym, ap, subst, ◌∙◌, arith, append_assoc, length-append}
use Rattle.std.proofs.lemmas.Bool.Decides.{nat_tests}
use Rattle.std.proofs.lemmas.Bool.{and_left, and_parts, cond-true, and_right, and_from, eqb-true, le-leb, leb-true, lt-ltb, ne_eqb, eqb-false, not-true, not_from_false, or_from, or_parts, true≢false}
use Rattle.std.proofs.lemmas.List.{take-append-drop, take_at, drop_at, drop-drop, length-take-le}
use Rattle.std.proofs.lemmas.List.Sums.{prefix_len-le-length}
use Rattle.std.specs.Int.{is_in_range}
use Rattle.std.specs.List.{list_all, list_any}
use Rattle.std.specs.Option.{is_some}
use Rattle.ere_tree.specs.Bracket.{alone, begins_range, bracket, class_len, class_member, element, element_len, member, members, name_len, range as range_of}
use Rattle.ere_tree.specs.Class.{class_of}
use Rattle.ere_tree.specs.Fault.{fault, map_ok}
use Rattle.ere_tree.specs.Front.{begins_with, starts}
use Rattle.ere_tree.specs.Tree.{bytes_passing}
use Rattle.ere_tree.proofs.BracketLemmas.{members_close, members_end, members_refused, members_skip}
use Rattle.ere_tree.proofs.SetLemmas.{bytes_passing_agree}
use Rattle.ere_tree.specs.declared.fault.EreFault.{EreFault}
use Rattle.ere_tree.specs.declared.fault.EreKind.TheVariants.{BadRange}
use Rattle.ere_laws.specs.Spelling.{Begins, BeginsInner, GoesOnAsRange, IsName, MayStand, Member, SpellsBracket, SpellsMembers, bytes_of, class, is_of, passes, range, single, spelled_member}
use Rattle.ere_laws.proofs.FrontSpelling.{begins_from, chosen, if_some, not_begins, run_ends, run_passes, starts_at, starts_not}

-- NAMES

abbrev pub in_name : ℕ → Bool
in_name b = not (b == 58) && not (b == 93)

pub class_is : (name rest : List ℕ) → spelled_member (class name) ++ rest ≡ 91 ∷ 58 ∷ (name ++ 58 ∷ 93 ∷ rest)
class_is name rest = simp append_assoc

class_long : (name : List ℕ) → length (spelled_member (class name)) ≡ length name + 4
class_long name = simp length-append (omega arith)

stops_name : (rest : List ℕ) → begins_with in_name (58 ∷ rest) ≡ false
unfolding begins_with
stops_name rest = refl

class_spelled : (name rest : List ℕ) → IsName name
    → class_len (91 ∷ 58 ∷ (name ++ 58 ∷ 93 ∷ rest)) ≡ Some (length name)
unfolding class_len begins_with
class_spelled name rest is =
    let long : name_len (name ++ 58 ∷ 93 ∷ rest) ≡ length name =
    run_ends in_name name (58 ∷ 93 ∷ rest) is (stops_name (93 ∷ rest)) in
    let two : length name + 2 ≡ suc (suc (length name)) = omega arith in
    rw (long, two, drop_at name (58 ∷ 93 ∷ rest) (length name) refl) refl

-- a class that was read
pub record ClassRead (text : List ℕ) (count : ℕ) : Type 0 where
  name : List ℕ
  rest : List ℕ
  good : IsName name
  is : text ≡ 91 ∷ 58 ∷ (name ++ 58 ∷ 93 ∷ rest)
  long : count ≡ length name

class_read : (text : List ℕ) (count : ℕ) → class_len text ≡ Some count → ClassRead text count
unfolding class_len
class_read text count is =
    let told = if_some (starts (codes "[:") text && starts (codes ":]") (drop (name_len (drop 2 text) + 2) text)) _ _ is in
    let parts = and_parts (starts (codes "[:") text) _ told.0 in
    let opened = begins_from (codes "[:") text parts.0 in
    let more : List ℕ = opened.0 in
    let inside : drop 2 text ≡ more = ap (drop 2) opened.1 in
    let two : count + 2 ≡ suc (suc count) = omega arith in
    let same : name_len (drop 2 text) ≡ count = told.1 in
    let further : drop (name_len (drop 2 text) + 2) text ≡ drop count more =
    ap (λ n. drop (n + 2) text) same ∙ ap (λ n. drop n text) two ∙ ap (drop (suc (suc count))) opened.1 in
    let closed = begins_from (codes ":]") (drop count more) (ap (starts (codes ":]")) (sym further) ∙ parts.1) in
    let counted : name_len more ≡ count = ap name_len (sym inside) ∙ same in
    record {
      name = take count more;
      rest = closed.0;
      good = subst (λ n. list_all in_name (take n more) ≡ true) counted (run_passes in_name more);
      is = opened.1 ∙ ap (λ t. 91 ∷ 58 ∷ t) (sym (take-append-drop count more) ∙ ap (λ t. take count more ++ t) closed.1);
      long = sym (length-take-le count more (omega (arith, prefix_len-le-length in_name more, counted)));
    }

-- WHAT A `[` BEGINS

abbrev pub opens : List ℕ → Bool
opens text = starts (codes "[.") text || starts (codes "[=") text

not_inner : (text : List ℕ) → opens text ≡ false → class_len text ≡ None → BeginsInner text → ⊥
not_inner text plain none (inl begins) = not_begins (codes "[.") text (or_parts (starts (codes "[.") text) _ plain).0 begins
not_inner text plain none (inr (inl begins)) =
    not_begins (codes "[=") text (or_parts (starts (codes "[.") text) _ plain).1 begins
not_inner text plain none (inr (inr (name, good, (rest, same)))) =
    let told = ap class_len (same ∙ class_is name rest) ∙ class_spelled name rest good in cc

none_opens : (text : List ℕ) → (BeginsInner text → ⊥) → opens text ≡ false
none_opens text bare = or_from (starts (codes "[.") text) _ (starts_not (codes "[.") text (λ b. bare (inl b)))
    (starts_not (codes "[=") text (λ b. bare (inr (inl b))))

none_classed : (text : List ℕ) → (BeginsInner text → ⊥) → class_len text ≡ None
none_classed text bare = by_value (class_len text) refl
  where
    by_value : (o : Option ℕ) → class_len text ≡ o → o ≡ None
    by_value None is = refl
    by_value (Some count) is =
        let c = class_read text count is in
        absurd (bare (inr (inr (c.name, c.good, (c.rest, c.is ∙ sym (class_is c.name c.rest))))))

-- RANGES

pub range_read : (text : List ℕ) → begins_range text ≡ true
    → (high : ℕ) × (rest : List ℕ) × (text ≡ 45 ∷ high ∷ rest) × (high ≢ 93)
unfolding begins_range begins_with
range_read [] is = cc
range_read (a ∷ []) is =
    absurd (true≢false (sym (and_parts (a == 45) false (and_parts ((a == 45) && false) true is).0).1))
range_read (a ∷ high ∷ rest) is =
    let long : Bool = nat_lt 1 (suc (suc (length rest))) in
    let parts = and_parts ((a == 45) && long) (not (high == 93)) is in
    let dash : a ≡ 45 = eqb-true a 45 (and_parts (a == 45) long parts.0).0 in
    (high, rest, ap (λ c. c ∷ high ∷ rest) dash, eqb-false high 93 (not-true (high == 93) parts.1))

no_range : (text : List ℕ) → begins_range text ≡ false → GoesOnAsRange text → ⊥
unfolding begins_range begins_with
no_range text is (high, other, (rest, same)) =
    let told : begins_range (45 ∷ high ∷ rest) ≡ false = ap begins_range (sym same) ∙ is in
    let long : nat_lt 1 (suc (suc (length rest))) ≡ true = lt-ltb 1 (suc (suc (length rest))) (omega arith) in
    let read : begins_range (45 ∷ high ∷ rest) ≡ true = rw (long, ne_eqb high 93 other) refl in
    true≢false (sym read ∙ told)

range_spelled : (high : ℕ) (rest : List ℕ) → high ≢ 93 → begins_range (45 ∷ high ∷ rest) ≡ true
unfolding begins_range begins_with
range_spelled high rest other =
    let long : nat_lt 1 (suc (suc (length rest))) ≡ true = lt-ltb 1 (suc (suc (length rest))) (omega arith) in
    rw (long, ne_eqb high 93 other) refl

none_ranges : (text : List ℕ) → (GoesOnAsRange text → ⊥) → begins_range text ≡ false
none_ranges text bare = by_value (begins_range text) refl
  where
    by_value : (v : Bool) → begins_range text ≡ v → v ≡ false
    by_value false is = refl
    by_value true is =
        let found = range_read text is in absurd (bare (found.0, found.3, (found.1, found.2)))

-- MEMBERS

-- what stands behind a class
behind_class : (name rest : List ℕ) (count : ℕ) → count ≡ length name
    → drop (count + 4) (91 ∷ 58 ∷ (name ++ 58 ∷ 93 ∷ rest)) ≡ rest
behind_class name rest count long =
    let inside : List ℕ = name ++ 58 ∷ 93 ∷ rest in
    let four : count + 4 ≡ suc (suc (count + 2)) = omega arith in
    ap (λ n. drop n (91 ∷ 58 ∷ inside)) four ∙ sym (drop-drop 2 count inside)
    ∙ ap (drop 2) (drop_at name (58 ∷ 93 ∷ rest) count (sym long))

-- the choice that a member is, where this stands behind its first end
member_at : (text behind : List ℕ) → drop (element_len (element text)) text ≡ behind
    → member text ≡ cond (begins_range behind) (range_of (element text) (element (drop 1 behind)))
    (alone text (element text))
unfolding member
member_at text behind same =
    ap (λ t. cond (begins_range t) (range_of (element text) (element (drop 1 t))) (alone text (element text))) same

lone_front : (b : ℕ) (rest : List ℕ) → opens (b ∷ rest) ≡ false → class_len (b ∷ rest) ≡ None
    → drop (element_len (element (b ∷ rest))) (b ∷ rest) ≡ rest
unfolding element
lone_front b rest plain none = rw (plain, none) refl

-- a member that was read, so many bytes of the text
pub record MemberRead (text : List ℕ) (test : ℕ → Bool) (count : ℕ) : Type 0 where
  pub one : Member
  pub behind : List ℕ
  pub stands : MayStand one behind
  pub is : text ≡ spelled_member one ++ behind
  pub test_is : test ≡ is_of one
  pub long : count ≡ length (spelled_member one)

one_byte : (b c : ℕ) → is_in_range b b c ≡ (c == b)
one_byte b c = grind (arith, nat_tests)

some_class : (o : Option (ℕ → Bool)) (count : ℕ) (found : (ℕ → Bool) × ℕ) → class_member o count ≡ Ok found
    → (is_some o ≡ true) × (found.0 ≡ passes o) × (found.1 ≡ count + 4)
some_class None count found is = cc
some_class (Some test) count found is = let same : (test, count + 4) ≡ found = cc in
    (refl, sym (ap (λ (f : (ℕ → Bool) × ℕ). f.0) same), sym (ap (λ (f : (ℕ → Bool) × ℕ). f.1) same))

class_some : (o : Option (ℕ → Bool)) (count : ℕ) → is_some o ≡ true → class_member o count ≡ Ok (passes o, count + 4)
class_some None count is = cc
class_some (Some test) count is = refl

read_inner : (text : List ℕ) (found : (ℕ → Bool) × ℕ) → opens text ≡ true → member text ≡ Ok found → ⊥
unfolding member element
read_inner text found is read =
    let told = rw is at read in
    elim (chosen (begins_range (drop 2 text)) _ _ _ told) [ inl (a, e) ↦ cc | inr (a, e) ↦ cc ]

read_class : (text : List ℕ) (count : ℕ) (found : (ℕ → Bool) × ℕ) → opens text ≡ false → class_len text ≡ Some count
    → member text ≡ Ok found → MemberRead text found.0 found.1
unfolding member element
read_class text count found plain is read =
    let told = rw (plain, is) at read in
    elim (chosen (begins_range (drop (count + 4) text)) _ _ _ told) [
      | inl (a, e) ↦ cc
      | inr (alone, e) ↦
          let c = class_read text count is in
          let name : take count (drop 2 text) ≡ c.name =
          ap (λ t. take count (drop 2 t)) c.is ∙ take_at c.name (58 ∷ 93 ∷ c.rest) count (sym c.long) in
          let behind : drop (count + 4) text ≡ c.rest =
          ap (drop (count + 4)) c.is ∙ behind_class c.name c.rest count c.long in
          let known = some_class (class_of (take count (drop 2 text))) count found e in
          record {
            one = class c.name;
            behind = c.rest;
            stands = (
              c.good,
              ap (λ n. is_some (class_of n)) (sym name) ∙ known.0,
              no_range c.rest (ap begins_range (sym behind) ∙ alone),
            );
            is = c.is ∙ sym (class_is c.name c.rest);
            test_is = known.1 ∙ ap (λ n. passes (class_of n)) name;
            long = omega (arith, known.2, c.long, class_long c.name);
          }
    ]

read_alone : (b : ℕ) (rest : List ℕ) (found : (ℕ → Bool) × ℕ) → opens (b ∷ rest) ≡ false → class_len (b ∷ rest) ≡ None
    → begins_range rest ≡ false → member (b ∷ rest) ≡ Ok found → MemberRead (b ∷ rest) found.0 found.1
unfolding member element
read_alone b rest found plain none alone read =
    let told : Ok (is_in_range b b, 1) ≡ Ok found = rw (plain, none, alone) at read in
    let same : (is_in_range b b, 1) ≡ found = cc in
    record {
      one = single b;
      behind = rest;
      stands = (not_inner (b ∷ rest) plain none, no_range rest alone);
      is = refl;
      test_is = sym (ap (λ (f : (ℕ → Bool) × ℕ). f.0) same) ∙ (λ i c. one_byte b c i);
      long = sym (ap (λ (f : (ℕ → Bool) × ℕ). f.1) same);
    }

read_range : (b high : ℕ) (rest : List ℕ) (found : (ℕ → Bool) × ℕ) (v : Bool) (o : Option ℕ)
    → opens (high ∷ rest) ≡ v → class_len (high ∷ rest) ≡ o → opens (b ∷ 45 ∷ high ∷ rest) ≡ false
    → class_len (b ∷ 45 ∷ high ∷ rest) ≡ None → high ≢ 93 → member (b ∷ 45 ∷ high ∷ rest) ≡ Ok found
    → MemberRead (b ∷ 45 ∷ high ∷ rest) found.0 found.1
unfolding member element
read_range b high rest found true o is o_is plain none other read =
    let ranges = range_spelled high rest other in
    let told = rw (ranges, plain, none, is) at
    (sym (member_at (b ∷ 45 ∷ high ∷ rest) (45 ∷ high ∷ rest) (lone_front b (45 ∷ high ∷ rest) plain none)) ∙ read) in
    cc
read_range b high rest found false (Some count) is o_is plain none other read =
    let ranges = range_spelled high rest other in
    let told = rw (ranges, plain, none, is, o_is) at
    (sym (member_at (b ∷ 45 ∷ high ∷ rest) (45 ∷ high ∷ rest) (lone_front b (45 ∷ high ∷ rest) plain none)) ∙ read) in
    cc
read_range b high rest found false None is o_is plain none other read =
    let ranges = range_spelled high rest other in
    let told : cond (nat_le b high) (Ok (is_in_range b high, 3)) (fault 0 BadRange) ≡ Ok found =
    rw (ranges, plain, none, is, o_is) at
    (sym (member_at (b ∷ 45 ∷ high ∷ rest) (45 ∷ high ∷ rest) (lone_front b (45 ∷ high ∷ rest) plain none)) ∙ read) in
    elim (chosen (nat_le b high) _ _ _ told) [
      | inl (order, e) ↦
          let same : (is_in_range b high, 3) ≡ found = cc in
          record {
            one = range b high;
            behind = rest;
            stands = (leb-true b high order, other, not_inner (high ∷ rest) is o_is);
            is = refl;
            test_is = sym (ap (λ (f : (ℕ → Bool) × ℕ). f.0) same);
            long = sym (ap (λ (f : (ℕ → Bool) × ℕ). f.1) same);
          }
      | inr (order, e) ↦ cc
    ]

pub member_read : (b : ℕ) (rest : List ℕ) (found : (ℕ → Bool) × ℕ) → member (b ∷ rest) ≡ Ok found
    → MemberRead (b ∷ rest) found.0 found.1
member_read b rest found read = by_test (opens (b ∷ rest)) (class_len (b ∷ rest)) (begins_range rest) refl refl refl
  where
    by_test : (v : Bool) (o : Option ℕ) (w : Bool) → opens (b ∷ rest) ≡ v → class_len (b ∷ rest) ≡ o
        → begins_range rest ≡ w → MemberRead (b ∷ rest) found.0 found.1
    by_test true o w is o_is w_is = absurd (read_inner (b ∷ rest) found is read)
    by_test false (Some count) w is o_is w_is = read_class (b ∷ rest) count found is o_is read
    by_test false None false is o_is w_is = read_alone b rest found is o_is w_is read
    by_test false None true is o_is w_is =
        let r = range_read rest w_is in
        let same : b ∷ rest ≡ b ∷ 45 ∷ r.0 ∷ r.1 = ap (λ t. b ∷ t) r.2 in
        subst (λ t. MemberRead t found.0 found.1) (sym same)
        (read_range b r.0 r.1 found _ _ refl refl (ap opens (sym same) ∙ is) (ap class_len (sym same) ∙ o_is) r.3
        (ap member (sym same) ∙ read))

plain_start : (low : ℕ) (rest : List ℕ) → opens (low ∷ 45 ∷ rest) ≡ false
unfolding begins_with
plain_start low rest = rw (and_right (low == 91) false refl) refl

plain_class : (low : ℕ) (rest : List ℕ) → class_len (low ∷ 45 ∷ rest) ≡ None
unfolding class_len begins_with
plain_class low rest = rw (and_right (low == 91) false refl) refl

class_start : (rest : List ℕ) → opens (91 ∷ 58 ∷ rest) ≡ false
unfolding begins_with
class_start rest = refl

pub member_spelled : (one : Member) (behind : List ℕ) → MayStand one behind
    → member (spelled_member one ++ behind) ≡ Ok (is_of one, length (spelled_member one))
unfolding member element
member_spelled (single b) behind (alone, last) =
    rw (none_opens (b ∷ behind) alone, none_classed (b ∷ behind) alone, none_ranges behind last)
    (λ i. Ok (λ c. one_byte b c i, 1))
member_spelled (range low high) behind (order, other, alone) =
    let plain = plain_start low (high ∷ behind) in
    let none = plain_class low (high ∷ behind) in
    member_at (low ∷ 45 ∷ high ∷ behind) (45 ∷ high ∷ behind) (lone_front low (45 ∷ high ∷ behind) plain none)
    ∙ rw (
      range_spelled high behind other,
      plain,
      none,
      none_opens (high ∷ behind) alone,
      none_classed (high ∷ behind) alone,
    )
    (cond-true (nat_le low high) (Ok (is_in_range low high, 3)) (fault 0 BadRange) (le-leb low high order))
member_spelled (class name) behind (good, known, last) =
    let inside : List ℕ = name ++ 58 ∷ 93 ∷ behind in
    let rest : drop (length name + 4) (91 ∷ 58 ∷ inside) ≡ behind = behind_class name behind (length name) refl in
    let same : take (length name) inside ≡ name = take_at name (58 ∷ 93 ∷ behind) (length name) refl in
    ap member (class_is name behind)
    ∙ rw (class_start inside, class_spelled name behind good, rest, none_ranges behind last)
    (ap (λ n. class_member (class_of n) (length name)) same ∙ class_some (class_of name) (length name) known)
    ∙ ap (λ n. Ok (is_of (class name), n)) (sym (class_long name))

-- LISTS OF MEMBERS

or_moved : (v w x : Bool) → ((v || w) || x) ≡ (v || (w || x))
or_moved true w x = refl
or_moved false w x = refl

-- whether a byte is in one of members
abbrev in_any : List Member → ℕ → Bool
in_any all b = list_any (λ one. is_of one b) all

or_none : (v : Bool) → v ≡ (v || false)
or_none true = refl
or_none false = refl

pub ok_is : {A : Type 0} (x y : A) (r : Result A EreFault) → r ≡ Ok x → r ≡ Ok y → x ≡ y
ok_is x y r is other = cc

-- the reading goes on behind a member
pub goes_on : (test : ℕ → Bool) (first : Bool) (at : ℕ) (text behind : List ℕ) (found : (ℕ → Bool) × ℕ)
    → (starts (codes "]") text && not first) ≡ false → member text ≡ Ok found → 0 < found.1
    → found.1 ≤ length text → drop found.1 text ≡ behind
    → members test first at 0 text ≡ members (λ c. test c || found.0 c) false (at + found.1) 0 behind
unfolding members
goes_on test first at [] behind found here is some fits same = absurd (omega (arith, some, fits))
goes_on test first at (b ∷ rest) behind found here is some fits same =
    let more : found.1 ≡ suc (found.1 - 1) = omega arith in
    rw (here, is) (members_skip (λ c. test c || found.0 c) false (suc at) (found.1 - 1) rest (omega arith)
    ∙ ap (λ n. members (λ c. test c || found.0 c) false n 0 (drop (found.1 - 1) rest)) (omega arith)
    ∙ ap (λ n. members (λ c. test c || found.0 c) false (at + found.1) 0 (drop n (b ∷ rest))) (sym more)
    ∙ ap (members (λ c. test c || found.0 c) false (at + found.1) 0) same)

-- a `]` closes, or may not
pub no_close_here : (text : List ℕ) (first : Bool) → (starts (codes "]") text && not first) ≡ false → first ≡ false
    → Begins text (codes "]") → ⊥
no_close_here text true is last begins = true≢false last
no_close_here text false is last (rest, same) =
    let starts_so : starts (codes "]") text ≡ true = ap (starts (codes "]")) same ∙ starts_at (codes "]") rest in
    true≢false (sym (and_from _ _ starts_so refl) ∙ is)

stays_open : (text : List ℕ) (first : Bool) → (first ≡ false → Begins text (codes "]") → ⊥)
    → (starts (codes "]") text && not first) ≡ false
stays_open text true bare = and_right (starts (codes "]") text) false refl
stays_open text false bare = and_left (starts (codes "]") text) true (starts_not (codes "]") text (bare refl))

pub member_some : (one : Member) → 0 < length (spelled_member one)
member_some (single b) = omega arith
member_some (range low high) = omega arith
member_some (class name) = omega (arith, class_long name)

joined : (test f : ℕ → Bool) (one : Member) (others : List Member) → f ≡ is_of one → (bytes : List ℕ)
    → bytes ≡ bytes_passing (λ b. (test b || f b) || in_any others b)
    → bytes ≡ bytes_passing (λ b. test b || in_any (one ∷ others) b)
joined test f one others same bytes are =
    are ∙ bytes_passing_agree (λ b. (test b || f b) || in_any others b) (λ b. test b || in_any (one ∷ others) b)
    (λ b low. or_moved (test b) (f b) (in_any others b) ∙ ap (λ (g : ℕ → Bool). test b || (g b || in_any others b)) same)

-- members that were read, so many bytes of the text
pub record MembersRead (test : ℕ → Bool) (first : Bool) (at : ℕ) (text bytes : List ℕ) (to : ℕ) : Type 0 where
  all : List Member
  front : List ℕ
  rest : List ℕ
  is : text ≡ front ++ rest
  spells : SpellsMembers first text all rest
  bytes_are : bytes ≡ bytes_passing (λ b. test b || in_any all b)
  long : to ≡ at + length front

pub members_read : (fuel : ℕ) (test : ℕ → Bool) (first : Bool) (at : ℕ) (text : List ℕ) (found : List ℕ × ℕ)
    → length text ≤ fuel → members test first at 0 text ≡ Ok found → MembersRead test first at text found.0 found.1
members_read fuel test first at [] found fits read = cc (members_end test first at [] refl)
members_read zero test first at (b ∷ rest) found fits read = absurd (omega (arith, fits))
members_read (suc fuel) test first at (b ∷ rest) found fits read =
    by_test (starts (codes "]") (b ∷ rest) && not first) (member (b ∷ rest)) refl refl
    (λ (one : (ℕ → Bool) × ℕ) (behind : List ℕ) (short : length behind ≤ fuel).
    members_read fuel (λ c. test c || one.0 c) false (at + one.1) behind found short)
  where
    by_test : (v : Bool) (o : Result ((ℕ → Bool) × ℕ) EreFault) → (starts (codes "]") (b ∷ rest) && not first) ≡ v
        → member (b ∷ rest) ≡ o
        → ((one : (ℕ → Bool) × ℕ) (behind : List ℕ) → length behind ≤ fuel
        → members (λ c. test c || one.0 c) false (at + one.1) 0 behind ≡ Ok found
        → MembersRead (λ c. test c || one.0 c) false (at + one.1) behind found.0 found.1)
        → MembersRead test first at (b ∷ rest) found.0 found.1
    by_test true o closes o_is more =
        let parts = and_parts (starts (codes "]") (b ∷ rest)) (not first) closes in
        let closed = begins_from (codes "]") (b ∷ rest) parts.0 in
        let same = ok_is _ found _ (members_close test first at (b ∷ rest) closes) read in
        record {
          all = [];
          front = codes "]";
          rest = closed.0;
          is = closed.1;
          spells = (not-true first parts.1, closed.1);
          bytes_are = sym (ap (λ (f : List ℕ × ℕ). f.0) same)
              ∙ bytes_passing_agree test _ (λ c low. or_none (test c));
          long = sym (ap (λ (f : List ℕ × ℕ). f.1) same);
        }
    by_test false (Err refused) here o_is more =
        cc (members_refused test first at (b ∷ rest) refused here (omega arith) o_is)
    by_test false (Ok one) here o_is more =
        let m = member_read b rest one o_is in
        let whole = ap length m.is ∙ length-append (spelled_member m.one) m.behind in
        let some = member_some m.one in
        let behind : drop one.1 (b ∷ rest) ≡ m.behind =
        ap (drop one.1) m.is ∙ drop_at (spelled_member m.one) m.behind one.1 (sym m.long) in
        let r = more one m.behind (omega (arith, whole, some, fits))
        (sym (goes_on test first at (b ∷ rest) m.behind one here o_is (omega (arith, some, m.long))
        (omega (arith, whole, m.long)) behind) ∙ read) in
        record {
          all = m.one ∷ r.all;
          front = spelled_member m.one ++ r.front;
          rest = r.rest;
          is = m.is ∙ ap (λ t. spelled_member m.one ++ t) r.is ∙ sym (append_assoc (spelled_member m.one) r.front r.rest);
          spells = (m.behind, no_close_here (b ∷ rest) first here, m.is, m.stands, r.spells);
          bytes_are = joined test one.0 m.one r.all m.test_is found.0 r.bytes_are;
          long = omega (arith, r.long, m.long, length-append (spelled_member m.one) r.front);
        }

-- members that are spelled, so many bytes of the text
pub record MembersSpelled (test : ℕ → Bool) (first : Bool) (at : ℕ) (text : List ℕ) (all : List Member) (rest : List ℕ)
    : Type 0 where
  front : List ℕ
  some : 0 < length front
  is : text ≡ front ++ rest
  reads : members test first at 0 text ≡ Ok (bytes_passing (λ b. test b || in_any all b), at + length front)

pub members_spelled : (test : ℕ → Bool) (first : Bool) (at : ℕ) (text : List ℕ) (all : List Member) (rest : List ℕ)
    → SpellsMembers first text all rest → MembersSpelled test first at text all rest
members_spelled test first at text [] rest (last, same) =
    let closes : (starts (codes "]") text && not first) ≡ true =
    and_from _ _ (ap (starts (codes "]")) same ∙ starts_at (codes "]") rest) (not_from_false first last) in
    record {
      front = codes "]";
      some = omega arith;
      is = same;
      reads = members_close test first at text closes
          ∙ ap (λ l. Ok (l, at + 1)) (bytes_passing_agree test _ (λ c low. or_none (test c)));
    }
members_spelled test first at text (one ∷ others) rest (behind, bare, same, stands, more) =
    let count : ℕ = length (spelled_member one) in
    let s = members_spelled (λ c. test c || is_of one c) false (at + count) behind others rest more in
    let whole = ap length same ∙ length-append (spelled_member one) behind in
    let some = member_some one in
    let past : drop count text ≡ behind = ap (drop count) same ∙ drop_at (spelled_member one) behind count refl in
    record {
      front = spelled_member one ++ s.front;
      some = omega (arith, some, length-append (spelled_member one) s.front);
      is = same ∙ ap (λ t. spelled_member one ++ t) s.is ∙ sym (append_assoc (spelled_member one) s.front rest);
      reads = goes_on test first at text behind (is_of one, count) (stays_open text first bare)
          (ap member same ∙ member_spelled one behind stands) some (omega (arith, whole)) past
          ∙ s.reads
          ∙ ap (λ l. Ok (l, at + count + length s.front))
          (bytes_passing_agree _ _ (λ c low. or_moved (test c) (is_of one c) (in_any others c)))
          ∙ ap (λ n. Ok (bytes_passing (λ b. test b || in_any (one ∷ others) b), n))
          (omega (arith, length-append (spelled_member one) s.front));
    }

-- BRACKETS

-- a bracket that was read, so many bytes of the text
pub record BracketRead (text : List ℕ) (negated : Bool) (bytes : List ℕ) (count : ℕ) : Type 0 where
  pub all : List Member
  pub front : List ℕ
  pub rest : List ℕ
  pub is : text ≡ front ++ rest
  pub spells : SpellsBracket text negated all rest
  pub bytes_are : bytes ≡ bytes_of all
  pub long : count ≡ length front

map_ok_is : {A B : Type 0} (f : A → B) (o : Result A EreFault) (y : B) → map_ok f o ≡ Ok y
    → (x : A) × (o ≡ Ok x) × (f x ≡ y)
map_ok_is f (Ok x) y is = (x, refl, ok_is _ _ _ refl is)
map_ok_is f (Err e) y is = cc

pub bracket_read : (rest : List ℕ) (found : Bool × List ℕ × ℕ) → bracket (91 ∷ rest) ≡ Ok found
    → BracketRead (91 ∷ rest) found.0 found.1 found.2
unfolding bracket
bracket_read rest found read = by_test (starts (codes "^") rest) refl
  where
    by_test : (v : Bool) → starts (codes "^") rest ≡ v → BracketRead (91 ∷ rest) found.0 found.1 found.2
    by_test true is =
        let begun = begins_from (codes "^") rest is in
        let told = map_ok_is _ (members (λ b. false) true 2 0 (drop 1 rest)) found (rw is at read) in
        let r = members_read (length begun.0) (λ b. false) true 2 begun.0 told.0 (omega arith)
        (ap (λ t. members (λ b. false) true 2 0 (drop 1 t)) (sym begun.1) ∙ told.1) in
        record {
          all = r.all;
          front = 91 ∷ 94 ∷ r.front;
          rest = r.rest;
          is = ap (λ t. 91 ∷ t) begun.1 ∙ ap (λ t. 91 ∷ 94 ∷ t) r.is;
          spells = subst (λ v. SpellsBracket (91 ∷ rest) v r.all r.rest)
              (ap (λ (f : Bool × List ℕ × ℕ). f.0) told.2) (begun.0, ap (λ t. 91 ∷ t) begun.1, r.spells);
          bytes_are = sym (ap (λ (f : Bool × List ℕ × ℕ). f.1) told.2) ∙ r.bytes_are;
          long = sym (ap (λ (f : Bool × List ℕ × ℕ). f.2) told.2) ∙ r.long ∙ omega arith;
        }
    by_test false is =
        let told = map_ok_is _ (members (λ b. false) true 1 0 rest) found (rw is at read) in
        let r = members_read (length rest) (λ b. false) true 1 rest told.0 (omega arith) told.1 in
        record {
          all = r.all;
          front = 91 ∷ r.front;
          rest = r.rest;
          is = ap (λ t. 91 ∷ t) r.is;
          spells = subst (λ v. SpellsBracket (91 ∷ rest) v r.all r.rest)
              (ap (λ (f : Bool × List ℕ × ℕ). f.0) told.2) (rest, refl, not_begins (codes "^") rest is, r.spells);
          bytes_are = sym (ap (λ (f : Bool × List ℕ × ℕ). f.1) told.2) ∙ r.bytes_are;
          long = sym (ap (λ (f : Bool × List ℕ × ℕ). f.2) told.2) ∙ r.long ∙ omega arith;
        }

-- a bracket that is spelled, so many bytes of the text
pub record BracketSpelled (text : List ℕ) (negated : Bool) (all : List Member) (rest : List ℕ) : Type 0 where
  pub front : List ℕ
  pub some : 0 < length front
  pub is : text ≡ front ++ rest
  pub begins : Begins text (codes "[")
  pub reads : bracket text ≡ Ok (negated, bytes_of all, length front)

pub bracket_spelled : (text : List ℕ) (negated : Bool) (all : List Member) (rest : List ℕ)
    → SpellsBracket text negated all rest → BracketSpelled text negated all rest
unfolding bracket begins_with
bracket_spelled text true all rest (inside, same, more) =
    let s = members_spelled (λ b. false) true 2 inside all rest more in
    record {
      front = 91 ∷ 94 ∷ s.front;
      some = omega arith;
      is = same ∙ ap (λ t. 91 ∷ 94 ∷ t) s.is;
      begins = (94 ∷ inside, same);
      reads = ap bracket same ∙ ap (map_ok (λ found. (true, found.0, found.1))) s.reads
          ∙ ap (λ n. Ok (true, bytes_of all, n)) (omega arith);
    }
bracket_spelled text false all rest (inside, same, bare, more) =
    let s = members_spelled (λ b. false) true 1 inside all rest more in
    let none = starts_not (codes "^") inside bare in
    record {
      front = 91 ∷ s.front;
      some = omega arith;
      is = same ∙ ap (λ t. 91 ∷ t) s.is;
      begins = (inside, same);
      reads = ap bracket same ∙ rw none (ap (map_ok (λ found. (false, found.0, found.1))) s.reads
          ∙ ap (λ n. Ok (false, bytes_of all, n)) (omega arith));
    }
