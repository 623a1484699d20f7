-- Directives that were compiled can be scanned with.
-- Shown: they are numbered one by one, they can be sought, and where each name of `names_once` has a place, each that a
-- pattern defines has one. Idea: a name is told, or was told before. The hard one is `told_once`.
use Rattle.std.proofs.Common.{◌≡◌, ℕ, ◌+◌, ◌<◌, Bool, true, false, true≢false, cond, is_some, Option, Some, None, List, [], ◌∷◌, ◌++◌, All, length, refl, sym, ap, ◌∙◌, subst, arith}
use Rattle.std.specs.List.{AllByRecursion, Contains, cons_option}
use Rattle.std.specs.FinMap.{empty, get, get-insert, get-empty}
use Rattle.std.specs.Ordering.{is_eq}
use Rattle.std.specs.declared.cmp.Ordering.{Ordering}
use Rattle.std.specs.declared.cmp.Ordering.TheVariants.{Less, Equal, Greater}
use Rattle.std.proofs.lemmas.Cmp.{nat_list_cmp_total}
use Rattle.std.proofs.Math.Seq.{drop-append_seam, take-append_seam}
use Rattle.std.proofs.lemmas.List.Elements.{All-contains, All-drop, All-from_recursion, All-map, All-take, recursion_from_All}
use Rattle.std.proofs.lemmas.Map.Lookups.{exact_bytes}
use Rattle.check_group.specs.Changes.{IsReady, Variables}
use Rattle.check_group.specs.Lies.{numbers_of}
use Rattle.check_group.specs.declared.directive.Check.{Check}
use Rattle.check_program.specs.Compiled.{AreChecks, Body, Formats, IsProgram, formats_behind}
use Rattle.check_program.specs.Names.{named_by, names_all, names_at, names_in, names_once}
use Rattle.check_program.specs.Ready.{AreNumbered, AreReady, IsScannable}
use Rattle.check_program.specs.declared.program.CompileOpts.{CompileOpts}
use Rattle.check_program.specs.declared.program.Program.{Program}
use Rattle.num_base.specs.Names.{name_cmp}
use Rattle.pattern_instance.specs.Missing.{Names, each_once, holds, with_name}
use Rattle.pattern_parse.specs.Item.{Item, plain, regex, define, recall, number}
use Rattle.pattern_parse.specs.PieceView.{items_view}
use Rattle.pattern_scan.specs.Seek as seek

-- ---- numbers

pub are_numbered : (opts : CompileOpts) (first : ℕ) (old : Formats) (bodies : List Body) (checks : List Check)
    (new : Formats) → AreChecks opts first old bodies checks new → AreNumbered first checks
are_numbered opts first old [] [] new are = tt
are_numbered opts first old [] (check ∷ checks) new are = absurd are
are_numbered opts first old (body ∷ bodies) [] new are = absurd are
are_numbered opts first old (body ∷ bodies) (check ∷ checks) new are =
    (are.0.number, are_numbered opts (first + 1) (formats_behind old check) bodies checks new are.1)

numbers-below : (first : ℕ) (checks : List Check) → AreNumbered first checks
    → AllByRecursion (λ check. check.number < first + length checks) checks
numbers-below first [] are = tt
numbers-below first (check ∷ checks) are =
    let same : (first + 1) + length checks ≡ first + length (check ∷ checks) = omega arith in (
      omega (arith, are.0),
      subst (λ n. AllByRecursion (λ check. check.number < n) checks) same (numbers-below (first + 1) checks are.1),
    )

-- each number is below what follows the last
pub numbers_below : (first : ℕ) (checks : List Check) → AreNumbered first checks
    → All (λ check. check.number < first + length checks) checks
numbers_below first checks are = All-from_recursion _ checks (numbers-below first checks are)

-- a number of a directive is below how many there are
pub number_below : (checks : List Check) (one : ℕ) → AreNumbered 0 checks → Contains (numbers_of checks) one
    → one < length checks
number_below checks one are among =
    let each : All (λ n. n < 0 + length checks) (numbers_of checks) =
    All-map (λ n. n < 0 + length checks) (λ (check : Check). check.number) checks (numbers_below 0 checks are) in
    omega (arith, All-contains (λ n. n < 0 + length checks) (numbers_of checks) one each among)

-- ---- names

is-equal : (r : Ordering) → is_eq r ≡ true → r ≡ Equal
is-equal Less e = absurd (true≢false (sym e))
is-equal Equal e = refl
is-equal Greater e = absurd (true≢false (sym e))

module _ (Has : List ℕ → Type 0) where
  -- a name that is told behind another
  told-more : (told : Names) (one name : List ℕ) → Has one → (holds told name ≡ true → Has name)
      → holds (with_name one told) name ≡ true → Has name
  told-more told one name has before is =
      each (is_eq (name_cmp name one)) refl (sym (ap is_some (get-insert nat_list_cmp_total told one 0 name)) ∙ is)
    where
      each : (same : Bool) → is_eq (name_cmp name one) ≡ same → is_some (cond same (Some 0) (get told name)) ≡ true
          → Has name
      each true equal found = subst Has (sym (exact_bytes name one (is-equal _ equal))) has
      each false equal found = before found

  -- what holds of each name once holds of all
  told_once : (told : Names) (names : List (List ℕ)) → ((name : List ℕ) → holds told name ≡ true → Has name)
      → AllByRecursion Has (each_once told names) → AllByRecursion Has names
  told_once told [] before each = tt
  told_once told (one ∷ names) before each =
      split (holds told one) refl (told_once told names before)
      (λ has. told_once (with_name one told) names (λ name. told-more told one name has (before name))) each
    where
      split : (known : Bool) → holds told one ≡ known
          → (AllByRecursion Has (each_once told names) → AllByRecursion Has names)
          → (Has one → AllByRecursion Has (each_once (with_name one told) names) → AllByRecursion Has names)
          → AllByRecursion Has (cond known (each_once told names) (one ∷ each_once (with_name one told) names))
          → AllByRecursion Has (one ∷ names)
      split true is known new each = (before one is, known each)
      split false is known new each = (each.0, new each.0 each.1)

  once-empty : (names : List (List ℕ)) → AllByRecursion Has (each_once empty names) → AllByRecursion Has names
  once-empty names each =
      told_once empty names (λ name is. absurd (true≢false (sym is ∙ ap is_some (get-empty name_cmp name)))) each

  both : (some more : List (List ℕ)) → AllByRecursion Has (some ++ more)
      → AllByRecursion Has some × AllByRecursion Has more
  both [] more each = (tt, each)
  both (one ∷ some) more each = let rest = both some more each.1 in ((each.0, rest.0), rest.1)

  -- a name that a piece defines is one of its names
  defined-at : (item : Item) (names : List (List ℕ)) → AllByRecursion Has (names_at item) → AllByRecursion Has names
      → AllByRecursion Has (seek.named_by item names)
  defined-at (plain bytes) names each rest = rest
  defined-at (regex t) names each rest = rest
  defined-at (define name t) names each rest = (each.0, rest)
  defined-at (recall name) names each rest = rest
  defined-at (number num format) names each rest = split num.defines each
    where
      split : (defines : Option (List ℕ)) → AllByRecursion Has (cons_option defines (named_by num.expr))
          → AllByRecursion Has (cons_option defines names)
      split None each = rest
      split (Some name) each = (each.0, rest)

  defined-in : (items : List Item) → AllByRecursion Has (names_in items) → AllByRecursion Has (seek.names_in items)
  defined-in [] each = tt
  defined-in (one ∷ items) each =
      let parts = both (names_at one) (names_in items) each in
      defined-at one (seek.names_in items) parts.0 (defined-in items parts.1)

-- ---- directives

module _ (vars : Variables) where
  abbrev Has : List ℕ → Type 0
  Has name = is_some (get vars name) ≡ true

  ready-each : (opts : CompileOpts) (first : ℕ) (old : Formats) (bodies : List Body) (checks : List Check)
      (new : Formats) → AreChecks opts first old bodies checks new → AllByRecursion Has (names_all checks)
      → AllByRecursion (IsReady vars) checks
  ready-each opts first old [] [] new are each = tt
  ready-each opts first old [] (check ∷ checks) new are each = absurd are
  ready-each opts first old (body ∷ bodies) [] new are each = absurd are
  ready-each opts first old (body ∷ bodies) (check ∷ checks) new are each =
      let parts = both Has (names_in (items_view check.pattern.pieces)) (names_all checks) each in (
        record {
          searchable = are.0.searchable;
          placed = All-from_recursion Has _ (defined-in Has (items_view check.pattern.pieces) parts.0);
        },
        ready-each opts (first + 1) (formats_behind old check) bodies checks new are.1 parts.1,
      )

-- all directives are ready
pub all_ready : (opts : CompileOpts) (first : ℕ) (old : Formats) (bodies : List Body) (checks : List Check)
    (new : Formats) → AreChecks opts first old bodies checks new → AreReady (names_once checks) checks
all_ready opts first old bodies checks new are = λ vars places.
    All-from_recursion (IsReady vars) checks (ready-each vars opts first old bodies checks new are
    (once-empty (Has vars) (names_all checks) (recursion_from_All (Has vars) (names_once checks) places)))

-- those in front, and those behind
pub front_ready : (names : List (List ℕ)) (checks others : List Check) → AreReady names (checks ++ others)
    → AreReady names checks
front_ready names checks others ready = λ vars places.
    subst (All (IsReady vars)) (take-append_seam checks others)
    (All-take (IsReady vars) (length checks) (checks ++ others) (ready vars places))

pub behind_ready : (names : List (List ℕ)) (checks others : List Check) → AreReady names (checks ++ others)
    → AreReady names others
behind_ready names checks others ready = λ vars places.
    subst (All (IsReady vars)) (drop-append_seam checks others)
    (All-drop (IsReady vars) (length checks) (checks ++ others) (ready vars places))

-- a program that was compiled can be scanned with
pub program_scannable : (opts : CompileOpts) (count : ℕ) (old new : Formats) (bodies : List Body) (program : Program)
    → IsProgram opts count old bodies program new → IsScannable program
program_scannable opts count old new bodies program is =
    let ready : AreReady program.names (program.checks ++ program.always) =
    subst (λ names. AreReady names (program.checks ++ program.always)) (sym is.names)
    (all_ready opts 0 old bodies (program.checks ++ program.always) new is.compiled) in
    record {
      numbered = are_numbered opts 0 old bodies (program.checks ++ program.always) new is.compiled;
      ready = front_ready program.names program.checks program.always ready;
      always_ready = behind_ready program.names program.checks program.always ready;
    }
