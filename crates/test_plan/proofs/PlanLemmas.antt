-- Names of replacements, and how many lines and retries a script has.
-- No name is empty: those of the suite by its invariant, and the others are constants; counts are those of the script's directives.
-- `script_few` is the hard one: RUN lines are joined from RUN directives, so there are no more of them.
use Rattle.std.proofs.Common.{◌≡◌, ◌∙◌, ◌≤◌, ◌<◌, ◌+◌, ℕ, Bool, true, false, cond, List, [], ◌∷◌, ◌++◌, append_assoc, length, length-append, Option, Some, None, refl, sym, ap, if◌then◌else◌, arith}
use Rattle.std.specs.Prelude.{codes, nat_le}
use Rattle.std.proofs.lemmas.Bool.Decides.{nat_tests}
use Rattle.std.proofs.lemmas.List.Elements.{All-append, All-cons, All-nil}
use Rattle.std.proofs.lemmas.Map.Entries.{option_filter}
use Rattle.tt_outside.specs.declared.request.Pair.{Pair}
use Rattle.tt_outside.specs.declared.test_data.Test.{Test}
use Rattle.opt_words.specs.Number.{decimal}
use Rattle.bool_exprs.specs.Expr.{expr_of}
use Rattle.bool_exprs.specs.View.{exprs_of}
use Rattle.bool_exprs.specs.declared.expr.BoolExpr.{BoolExpr}
use Rattle.bool_values.specs.Holding.{holds_in}
use Rattle.lit_directives.specs.Joined.{AreRuns, IsRun, Part, parts}
use Rattle.lit_directives.specs.Line.{trimmed}
use Rattle.lit_directives.specs.Lists.{ListsAddUp, RetriesAre, is_kind, texts}
use Rattle.lit_directives.specs.Script.{Directive, Whole}
use Rattle.lit_directives.specs.declared.fault.TheConstants.{MAX_RETRIES}
use Rattle.lit_directives.specs.declared.keyword.Kind.TheVariants as kind
use Rattle.lit_directives.specs.declared.script.RunLine.{RunLine}
use Rattle.substs.specs.Expansion.{AreNamed}
use Rattle.test_plan.specs.Plan.{all_hold, one_holds}
use Rattle.test_plan.specs.RunLines.{own_pairs, pairs_of}

named_cons : (pair : Pair) (pairs : List Pair) → 0 < length pair.name → AreNamed pairs → AreNamed (pair ∷ pairs)
named_cons pair pairs = All-cons (λ pair. 0 < length pair.name) pair pairs

own_named : (test : Test) → AreNamed (own_pairs test)
own_named test =
    let file : Pair = record { name = codes "%s"; value = test.path } in
    let dir : Pair = record { name = codes "%S"; value = test.source_dir } in
    let same : Pair = record { name = codes "%p"; value = test.source_dir } in
    let temp : Pair = record { name = codes "%t"; value = test.temp } in
    let temps : Pair = record { name = codes "%T"; value = test.temp_dir } in
    named_cons file (dir ∷ same ∷ temp ∷ temps ∷ []) (omega arith) (
    named_cons dir (same ∷ temp ∷ temps ∷ []) (omega arith) (
    named_cons same (temp ∷ temps ∷ []) (omega arith) (
    named_cons temp (temps ∷ []) (omega arith) (
    named_cons temps [] (omega arith) (All-nil (λ pair. 0 < length pair.name))))))

-- no replacement of a test has an empty name
pub pairs_named : (test : Test) → AreNamed (pairs_of test)
pairs_named test = All-append (λ pair. 0 < length pair.name) test.substitutions (own_pairs test) test.named (own_named test)

-- replacements that were added one by one
pub added : (test : Test) (file dir same temp temps : Pair) → file ≡ record { name = codes "%s"; value = test.path }
    → dir ≡ record { name = codes "%S"; value = test.source_dir }
    → same ≡ record { name = codes "%p"; value = test.source_dir }
    → temp ≡ record { name = codes "%t"; value = test.temp } → temps ≡ record { name = codes "%T"; value = test.temp_dir }
    → ((((test.substitutions ++ file ∷ []) ++ dir ∷ []) ++ same ∷ []) ++ temp ∷ []) ++ temps ∷ [] ≡ pairs_of test
added test file dir same temp temps a b c d e = rw a (rw b (rw c (rw d (rw e (simp append_assoc)))))

-- ---- expressions

pub hold_rest : (features : List (List ℕ)) (first : BoolExpr) (behind rest : List BoolExpr) → rest ≡ first ∷ behind
    → holds_in features (expr_of first) ≡ true
    → all_hold features (exprs_of behind) ≡ all_hold features (exprs_of rest)
hold_rest features first behind rest is holds = rw is (rw holds refl)

pub none_rest : (features : List (List ℕ)) (first : BoolExpr) (behind rest : List BoolExpr) → rest ≡ first ∷ behind
    → holds_in features (expr_of first) ≡ false
    → one_holds features (exprs_of behind) ≡ one_holds features (exprs_of rest)
none_rest features first behind rest is fails = rw is (rw fails refl)

-- ---- how many lines

some_part : (parts : List Part) (run : RunLine) → IsRun parts run → 1 ≤ length parts
some_part [] run is = absurd is
some_part (part ∷ more) run is = omega arith

runs_in : (all : List Part) (runs : List RunLine) → AreRuns all runs → length runs ≤ length all
unfolding AreRuns
runs_in all [] are = omega arith
runs_in all (run ∷ more) (here, later, is, one, rest) =
    let sum : length all ≡ length here + length later = ap length is ∙ length-append here later in
    omega (arith, sum, some_part here run one, runs_in later more rest)

same_length : {X Y : Type 0} (test : Bool) (x : X) (xs : List X) (y : Y) (ys : List Y) → length xs ≡ length ys
    → length (if test then x ∷ xs else xs) ≡ length (if test then y ∷ ys else ys)
same_length true x xs y ys is = omega (arith, is)
same_length false x xs y ys is = is

parts_are_texts : (ds : List Directive) → length (parts ds) ≡ length (texts kind.Run ds)
unfolding parts texts
parts_are_texts [] = refl
parts_are_texts (one ∷ more) =
    same_length (is_kind kind.Run one.kind) (one.line, one.rest) (parts more) one.rest (texts kind.Run more)
    (parts_are_texts more)

pub script_few : (ds : List Directive) (whole : Whole) → AreRuns (parts ds) whole.runs → ListsAddUp ds whole
    → length whole.runs ≤ 1000
script_few ds whole are add =
    omega (arith, runs_in (parts ds) whole.runs are, parts_are_texts ds, add.few)

-- ---- how many retries

passes_in : (test : ℕ → Bool) (other number : ℕ) (passes : Bool) → test other ≡ passes
    → cond passes (Some other) None ≡ Some number → test number ≡ true
passes_in test other number true passes is = let same : other ≡ number = cc in rw (sym same) passes
passes_in test other number false fails is = absurd (cc is)

filtered : (test : ℕ → Bool) (one : Option ℕ) (number : ℕ) → option_filter test one ≡ Some number → test number ≡ true
filtered test None number is = absurd (cc is)
filtered test (Some other) number is = passes_in test other number (test other) refl is

within : (number : ℕ) → nat_le number MAX_RETRIES ≡ true → number ≤ 100
within number is = grind (arith, nat_tests)

patient : (all : List (List ℕ)) (number : ℕ) → RetriesAre all number → number ≤ 100
patient [] number are = omega (arith, are)
patient (text ∷ []) number are = within number (filtered (λ n. nat_le n MAX_RETRIES) (decimal (trimmed text)) number are)
patient (text ∷ second ∷ more) number are = absurd are

pub script_patient : (ds : List Directive) (whole : Whole) → ListsAddUp ds whole → whole.retries ≤ 100
script_patient ds whole add = patient (texts kind.Retries ds) whole.retries add.retries
