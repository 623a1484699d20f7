-- Which check prefixes no directive has: a list of flags, one for each prefix, tells the first of them.
-- By induction on the directives: each sets the flag of its prefix, and a flag that is set stays set.
-- The hard one is `used_next`, a directive more.
use Rattle.std.proofs.Common.{length-set, ◌≡◌, ℕ, suc, ◌+◌, ◌<◌, ◌≤◌, Bool, true, false, not, ◌||◌, List, [], ◌∷◌, ◌++◌, Option, Some, None, cond, eqb, length, get_or, take, take_all, refl, sym, ◌∙◌, ap, subst, arith}
use Rattle.std.proofs.Math.ListN.{set}
use Rattle.std.proofs.lemmas.Bool.Decides.{nat_tests}
use Rattle.std.proofs.lemmas.List.{get_or-replicate, length-replicate, get_or-set_other, get_or-set_same, take_more}
use Rattle.std.proofs.lemmas.List.Folds.{list_any-append}
use Rattle.std.specs.Prelude.{nat_lt, replicate}
use Rattle.std.specs.List.{position_from}
use Rattle.check_lines.specs.Checks.{is_used, unused_from, unused_prefix}
use Rattle.check_lines.specs.declared.directive.Directive.{Directive}

-- the flags from a number on are those of prefixes that are used
abbrev pub AreUsed : List Directive → List Bool → ℕ → Type 0
AreUsed directives flags from = (k : ℕ) → k < length flags → get_or flags k false ≡ is_used directives (from + k)

-- the first flag that isn't set is that of the first prefix that isn't used
pub first_unused : (directives : List Directive) (flags : List Bool) (from : ℕ) → AreUsed directives flags from
    → position_from not from flags ≡ unused_from directives from (length flags)
first_unused directives [] from are = refl
first_unused directives (flag ∷ flags) from are =
    let here : flag ≡ is_used directives from =
    are 0 (omega arith) ∙ ap (is_used directives) (omega arith) in
    let later : AreUsed directives flags (from + 1) =
    λ k inside. are (suc k) (omega arith) ∙ ap (is_used directives) (omega arith) in
    by_flag flag (is_used directives from) (Some from) (position_from not (from + 1) flags)
    (unused_from directives (from + 1) (length flags)) here (first_unused directives flags (from + 1) later)
  where
    by_flag : (flag used : Bool) (here one other : Option ℕ) → flag ≡ used → one ≡ other
        → cond (not flag) here one ≡ cond used other here
    by_flag flag true here one other is same = ap (λ b. cond (not b) here one) is ∙ same
    by_flag flag false here one other is same = ap (λ b. cond (not b) here one) is

-- no prefix is used by none
pub none_used : (directives : List Directive) (count : ℕ) → AreUsed (take 0 directives) (replicate count false) 0
none_used directives count = λ k inside. get_or-replicate count k false false (omega (arith, inside, length-replicate count false))

or_true : (b : Bool) → (b || true) ≡ true
or_true true = refl
or_true false = refl

or_false : (b : Bool) → (b || false) ≡ b
or_false true = refl
or_false false = refl

-- a directive's flag is set
pub used_next : (directives : List Directive) (flags : List Bool) (i : ℕ) (one : Directive) → i < length directives
    → one ≡ get_or directives i one → one.prefix < length flags → AreUsed (take i directives) flags 0
    → AreUsed (take (i + 1) directives) (set flags one.prefix true) 0
used_next directives flags i one within is inside so_far =
    λ k below. let short : k < length flags = omega (arith, below, length-set flags one.prefix true) in
    by_test k short (eqb one.prefix k) refl
  where
    used_is : (k : ℕ) → is_used (take (i + 1) directives) k ≡ (is_used (take i directives) k || eqb one.prefix k)
    used_is k =
        ap (λ l. is_used l k) (take_more directives i one within ∙ ap (λ d. take i directives ++ d ∷ []) (sym is))
        ∙ list_any-append (λ d. eqb d.prefix k) (take i directives) (one ∷ [])
        ∙ ap (λ b. is_used (take i directives) k || b) (or_false (eqb one.prefix k))

    zero_more : (k : ℕ) → k ≡ 0 + k
    zero_more k = omega arith

    by_test : (k : ℕ) → k < length flags → (same : Bool) → eqb one.prefix k ≡ same
        → get_or (set flags one.prefix true) k false ≡ is_used (take (i + 1) directives) (0 + k)
    by_test k short true same =
        let here : k ≡ one.prefix = grind (arith, nat_tests) in
        ap (λ n. get_or (set flags one.prefix true) n false) here
        ∙ get_or-set_same flags one.prefix true false inside
        ∙ sym (used_is k ∙ ap (λ b. is_used (take i directives) k || b) same ∙ or_true (is_used (take i directives) k))
        ∙ ap (is_used (take (i + 1) directives)) (zero_more k)
    by_test k short false other =
        get_or-set_other flags one.prefix k true false (λ (at : k ≡ one.prefix). differ (sym (ap (eqb one.prefix) at ∙ same_test one.prefix) ∙ other))
        ∙ so_far k short ∙ ap (is_used (take i directives)) (sym (zero_more k))
        ∙ sym (used_is k ∙ ap (λ b. is_used (take i directives) k || b) other ∙ or_false (is_used (take i directives) k))
        ∙ ap (is_used (take (i + 1) directives)) (zero_more k)
      where
        differ : true ≡ false → ⊥
        differ same = cc

        same_test : (n : ℕ) → eqb n n ≡ true
        same_test n = grind (arith, nat_tests)

-- the flags of all directives tell the first prefix that none has
pub unused_is : (directives : List Directive) (flags : List Bool) (i count : ℕ) → length directives ≤ i → length flags ≡ count
    → AreUsed (take i directives) flags 0 → position_from not 0 flags ≡ unused_from directives 0 count
unused_is directives flags i count ends long are =
    first_unused directives flags 0 (subst (λ l. AreUsed l flags 0) (take_all i directives ends) are)
    ∙ ap (unused_from directives 0) long

-- several prefixes, of which each has to be used
pub opened : (allow : Bool) (count : ℕ) (directives : List Directive) → allow ≡ false → 1 < count
    → unused_prefix allow count directives ≡ unused_from directives 0 count
opened allow count directives strict several =
    let test : nat_lt 1 count ≡ true = grind (arith, nat_tests) in
    ap (λ a. cond (a || not (nat_lt 1 count)) None (unused_from directives 0 count)) strict
    ∙ ap (λ t. cond (false || not t) None (unused_from directives 0 count)) test
