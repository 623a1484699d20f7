-- Brackets: classes, and members one after the other, as the parser's loop reads them.
-- Each lemma is one step of the reading of members: skipped, closed, refused, found, or at the end of the text.
-- `members_given` is the step that the loop takes: the set so far has the bytes of what was read so far.
use Rattle.std.proofs.Common.{◌≡◌, ℕ, zero, suc, ◌+◌, ◌-◌, ◌<◌, ◌≤◌, Bool, true, false, cond, not, ◌&&◌, ◌||◌, ◌==◌, List, [], ◌∷◌, Option, Some, None, Result, Ok, Err, length, drop, refl, sym, ap, ◌∙◌, arith}
use Rattle.std.specs.Option.{option_map}
use Rattle.ere_tree.specs.Front.{begins, begins_with}
use Rattle.ere_tree.specs.Tree.{bytes_passing}
use Rattle.ere_tree.specs.Bytes.{HasBytes}
use Rattle.ere_tree.specs.View.{has_bit, members_of}
use Rattle.ere_tree.specs.Bracket.{class_member, member, members, GivesTest}
use Rattle.ere_tree.specs.Fault.{fault, and_then}
use Rattle.ere_tree.specs.declared.byte_set.ByteSet.{ByteSet}
use Rattle.ere_tree.specs.declared.fault.EreFault.{EreFault}
use Rattle.ere_tree.specs.declared.fault.EreKind.TheVariants.{UnknownClass, UnclosedBracket}
use Rattle.ere_tree.proofs.SetLemmas.{bytes_passing_agree, passing_agree}

-- a class that was found has the bytes of its test
pub class_known : (told : Option (ℕ → Bool)) (set : ByteSet) (count : ℕ) →
    option_map (λ (s : ByteSet). members_of s.bits) (Some set) ≡ option_map bytes_passing told →
    GivesTest (Ok (set, count + 4)) (class_member told count)
class_known None set count is = cc
class_known (Some test) set count is = (passing_agree (has_bit set.bits) test cc, refl)

pub class_unknown : (told : Option (ℕ → Bool)) (count : ℕ) →
    option_map (λ (s : ByteSet). members_of s.bits) None ≡ option_map bytes_passing told →
    class_member told count ≡ fault 0 UnknownClass
class_unknown None count is = refl
class_unknown (Some test) count is = cc

-- two choices, and two ways on, that agree
pub chosen_agree : {A : Type 0} (v : Bool) (x y z w : A) → x ≡ z → y ≡ w → cond v x y ≡ cond v z w
chosen_agree true x y z w left right = left
chosen_agree false x y z w left right = right

pub ways_agree : {A B : Type 0} (at : ℕ) (found : Result A EreFault) (f g : A → Result B EreFault) →
    ((a : A) → f a ≡ g a) → and_then at found f ≡ and_then at found g
ways_agree at (Ok a) f g same = same a
ways_agree at (Err refused) f g same = refl

-- the bytes of a member are stepped over
pub members_skip : (test : ℕ → Bool) (first : Bool) (at skip : ℕ) (text : List ℕ) →
    skip ≤ length text →
    members test first at skip text ≡ members test first (at + skip) 0 (drop skip text)
unfolding members
members_skip test first at zero text fits = ap (λ n. members test first n 0 text) (omega arith)
members_skip test first at (suc skip) [] fits = absurd (omega arith)
members_skip test first at (suc skip) (b ∷ rest) fits =
    members_skip test first (suc at) skip rest (omega arith)
    ∙ ap (λ n. members test first n 0 (drop skip rest)) (omega arith)

-- tests that agree on every byte read alike
pub members_agree : (f g : ℕ → Bool) (first : Bool) (at skip : ℕ) (text : List ℕ) →
    ((b : ℕ) → b < 256 → f b ≡ g b) → members f first at skip text ≡ members g first at skip text
unfolding members begins_with
members_agree f g first at skip [] same = refl
members_agree f g first at (suc skip) (b ∷ rest) same =
    members_agree f g first (suc at) skip rest same
members_agree f g first at zero (b ∷ rest) same =
    chosen_agree (b == 93 && not first) _ _ _ _
    (ap (λ bytes. Ok (bytes, at + 1)) (bytes_passing_agree f g same))
    (ways_agree at (member (b ∷ rest)) _ _ (λ found.
    members_agree (λ c. f c || found.0 c) (λ c. g c || found.0 c) false (suc at) (found.1 - 1) rest
    (λ c low. ap (λ v. v || found.0 c) (same c low))))

-- the bracket ends
pub members_close : (test : ℕ → Bool) (first : Bool) (at : ℕ) (text : List ℕ) →
    (begins 93 text && not first) ≡ true → members test first at 0 text ≡ Ok (bytes_passing test, at + 1)
unfolding members begins_with
members_close test first at [] ends = cc
members_close test first at (b ∷ rest) ends = rw ends refl

-- a member is refused
pub members_refused : (test : ℕ → Bool) (first : Bool) (at : ℕ) (text : List ℕ)
    (refused : EreFault) →
    (begins 93 text && not first) ≡ false → 0 < length text → member text ≡ Err refused →
    members test first at 0 text ≡ fault (at + refused.at) refused.kind
unfolding members begins_with
members_refused test first at [] refused here some is = absurd (omega arith)
members_refused test first at (b ∷ rest) refused here some is = rw (here, is) refl

-- the bracket goes on behind a member
members_found : (test : ℕ → Bool) (first : Bool) (at : ℕ) (text : List ℕ) (found : (ℕ → Bool) × ℕ) →
    (begins 93 text && not first) ≡ false → member text ≡ Ok found → 0 < found.1 → found.1 ≤ length text →
    members test first at 0 text
    ≡ members (λ c. test c || found.0 c) false (at + found.1) 0 (drop found.1 text)
unfolding members begins_with
members_found test first at [] found here is some fits = absurd (omega arith)
members_found test first at (b ∷ rest) found here is some fits =
    let count : ℕ = found.1 - 1 in
    let more : found.1 ≡ suc count = omega arith in
    rw (here, is) (members_skip (λ c. test c || found.0 c) false (suc at) count rest (omega arith)
    ∙ ap (λ n. members (λ c. test c || found.0 c) false n 0 (drop count rest)) (omega arith)
    ∙ ap (λ n. members (λ c. test c || found.0 c) false (at + found.1) 0 (drop n (b ∷ rest))) (sym more))

-- and the set so far has its bytes
pub members_given : (old new : List ℕ) (first : Bool) (at taken : ℕ) (text : List ℕ)
    (told : Result ((ℕ → Bool) × ℕ) EreFault) (set : ByteSet) → told ≡ member text →
    GivesTest (Ok (set, taken)) told → HasBytes new (λ b. has_bit old b || has_bit set.bits b) →
    (begins 93 text && not first) ≡ false → 0 < taken → taken ≤ length text →
    members (has_bit old) first at 0 text
    ≡ members (has_bit new) false (at + taken) 0 (drop taken text)
members_given old new first at taken text (Err refused) set is given joined here some fits = absurd given
members_given old new first at taken text (Ok found) set is given joined here some fits =
    let same : found.1 ≡ taken = sym given.1 in
    members_found (has_bit old) first at text found here (sym is) (omega arith) (omega arith)
    ∙ ap (λ n. members (λ c. has_bit old c || found.0 c) false (at + n) 0 (drop n text)) same
    ∙ sym (members_agree (has_bit new) (λ c. has_bit old c || found.0 c) false (at + taken) 0
    (drop taken text)
    (λ b low. joined b low ∙ ap (λ v. has_bit old b || v) (given.0 b low)))

pub members_end : (test : ℕ → Bool) (first : Bool) (at : ℕ) (text : List ℕ) → length text ≡ 0 →
    members test first at 0 text ≡ fault 0 UnclosedBracket
unfolding members
members_end test first at [] none = refl
members_end test first at (b ∷ rest) none = absurd (omega arith)
