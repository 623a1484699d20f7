-- Each fault of a verdict is that of a directive, and lies in the text.
-- Shown for what closes a region, for blocks and for the whole. Idea: a block's text is a front of the whole text, and
-- each match ends in it. The hard one is `verdict-lie`.
use Rattle.std.proofs.Common.{◌≡◌, ℕ, ◌≤◌, Bool, true, false, List, [], ◌∷◌, ◌++◌, All, Result, Ok, Err, length, take, map, sym, subst, arith}
use Rattle.std.specs.List.{AllByRecursion, Contains, flat_map}
use Rattle.std.proofs.lemmas.List.{length-take}
use Rattle.std.proofs.lemmas.List.Elements.{All-contains_itself, All-from_recursion, recursion_from_All}
use Rattle.check_group.specs.Changes.{Variables}
use Rattle.check_group.specs.Lies.{FaultLies, OffsetsLie, numbers_of}
use Rattle.check_group.specs.Matches.{looked}
use Rattle.check_group.specs.Region.{region}
use Rattle.check_group.specs.declared.answer.Matched.{Matched}
use Rattle.check_group.specs.declared.answer.Met.{Met}
use Rattle.check_group.specs.declared.directive.Check.{Check}
use Rattle.pattern_parse.specs.declared.demand.Role.{Role}
use Rattle.pattern_parse.specs.declared.demand.Role.TheVariants.{Sought, Excluded, Unordered, Label}
use Rattle.check_group.specs.declared.fault.Fault.{Fault}
use Rattle.check_group.specs.declared.fault.FaultKind.{FaultKind}
use Rattle.check_group.specs.declared.fault.FaultKind.TheVariants as fault
use Rattle.check_group.proofs.LiesLemmas.{MetLies, OutcomeLies, came_lies, group_lies, looked_lies, region_lies}
use Rattle.check_scan.specs.Block.{End, block, closed_by, unless}
use Rattle.check_scan.specs.Blocks.{Blocks, block_before, blocks_of, in_first, labelled, last}
use Rattle.check_scan.specs.Laws.{directives_of}
use Rattle.check_scan.specs.Parts.{Part, Positive, alone, came_of, dags, finish, negative, parts_of, positive}
use Rattle.check_scan.specs.Verdict.{labelled_by, run, scan, verdict}
use Rattle.check_scan.proofs.LawLemmas.{once}

-- ---- lists

both : {X : Type 0} (P : X → Type 0) (xs ys : List X) → AllByRecursion P (xs ++ ys)
    → AllByRecursion P xs × AllByRecursion P ys
both P [] ys each = (tt, each)
both P (x ∷ xs) ys each = let rest = both P xs ys each.1 in ((each.0, rest.0), rest.1)

joined : {X : Type 0} (P : X → Type 0) (xs ys : List X) → AllByRecursion P xs → AllByRecursion P ys
    → AllByRecursion P (xs ++ ys)
joined P [] ys first then = then
joined P (x ∷ xs) ys first then = (first.0, joined P xs ys first.1 then)

unmapped : {X Y : Type 0} (P : Y → Type 0) (f : X → Y) (xs : List X) → AllByRecursion P (map f xs)
    → AllByRecursion (λ x. P (f x)) xs
unmapped P f [] each = tt
unmapped P f (x ∷ xs) each = (each.0, unmapped P f xs each.1)

-- ---- a longer text

further : (from to : ℕ) (kind : FaultKind) → from ≤ to → OffsetsLie from kind → OffsetsLie to kind
further from to (fault.NotFound at done) low lies = omega (arith, low, lies)
further from to (fault.WrongLine found ended n) low lies = (omega (arith, low, lies.0), omega (arith, low, lies.1))
further from to (fault.NotSameLine found ended) low lies = (omega (arith, low, lies.0), omega (arith, low, lies.1))
further from to (fault.Excluded found) low lies = omega (arith, low, lies)
further from to (fault.Undefined names) low lies = tt
further from to fault.Range low lies = tt
further from to fault.ZeroDivisor low lies = tt
further from to (fault.Unreadable found) low lies = omega (arith, low, lies)

-- the front of a text is no longer than the text
front-short : (n : ℕ) (text : List ℕ) → length (take n text) ≤ length text
front-short n text = omega (arith, length-take n text)

front-holds : (n place : ℕ) (text : List ℕ) → place ≤ n → place ≤ length text → place ≤ length (take n text)
front-holds n place text low inside = omega (arith, low, inside, length-take n text)

module _ (IsNumber : ℕ → Type 0) where
  -- a directive's number is one of these
  abbrev Is : Check → Type 0
  Is check = IsNumber check.number

  abbrev Lie : ℕ → List Fault → Type 0
  Lie to faults = AllByRecursion (FaultLies IsNumber to) faults

  lie-further : (from to : ℕ) (faults : List Fault) → from ≤ to → Lie from faults → Lie to faults
  lie-further from to [] low lie = tt
  lie-further from to (fault ∷ faults) low lie =
      ((lie.0.0, further from to fault.kind low lie.0.1), lie-further from to faults low lie.1)

  -- ---- a block

  unless-lie : (to : ℕ) (faults : List Fault) (rest : End) → Lie to faults → Lie to rest.faults
      → Lie to (unless faults rest).faults
  unless-lie to [] rest lie behind = behind
  unless-lie to (fault ∷ faults) rest lie behind = lie

  closed-lie : (text : List ℕ) (place : ℕ) (vars : Variables) (nots : List Check) (outcome : Result Matched Fault)
      (rest : ℕ → Variables → End) → place ≤ length text → AllByRecursion Is nots
      → OutcomeLies IsNumber place (length text) outcome
      → ((to : ℕ) → to ≤ length text → Lie (length text) (rest to vars).faults)
      → Lie (length text) (closed_by text place vars nots outcome rest).faults
  closed-lie text place vars nots (Err fault) rest inside are lies behind = (lies, tt)
  closed-lie text place vars nots (Ok m) rest inside are lies behind =
      unless-lie (length text) (region (take m.from text) place vars nots) (rest m.to vars)
      (lie-further (length (take m.from text)) (length text) _ (front-short m.from text)
      (region_lies IsNumber (take m.from text) place vars nots (front-holds m.from place text lies.0 inside) are))
      (behind m.to lies.1)

  positive-lies : (text : List ℕ) (vars : Variables) (place : ℕ) (part : Positive) → place ≤ length text
      → AllByRecursion Is (directives_of (positive part))
      → OutcomeLies IsNumber place (length text) (came_of text vars place part).outcome
  positive-lies text vars place (alone check) inside are =
      came_lies IsNumber text vars place check inside are.0
  positive-lies text vars place (dags checks) inside are = group_lies IsNumber text place vars checks inside are

  block-lie : (text : List ℕ) (always : List Check) (parts : List Part) (place : ℕ) (pending : List Check)
      (vars : Variables) → place ≤ length text → AllByRecursion Is always → AllByRecursion Is pending
      → AllByRecursion Is (flat_map directives_of parts)
      → Lie (length text) (block text always parts place pending vars).faults
  unfolding block
  block-lie text always [] place pending vars inside each wait are = tt
  block-lie text always (negative check ∷ parts) place pending vars inside each wait are =
      block-lie text always parts place (pending ++ check ∷ []) vars inside each
      (joined Is pending (check ∷ []) wait (are.0, tt)) are.1
  block-lie text always (positive part ∷ parts) place pending vars inside each wait are =
      let split = both Is (directives_of (positive part)) (flat_map directives_of parts) are in
      closed-lie text place _ (always ++ pending) (came_of text vars place part).outcome _ inside
      (joined Is always pending each wait) (positive-lies text vars place part inside split.0)
      (λ to within. block-lie text always parts to [] _ within each tt split.1)
  block-lie text always (finish ∷ parts) place pending vars inside each wait are =
      unless-lie (length text) (region text place vars (always ++ pending)) _
      (region_lies IsNumber text place vars (always ++ pending) inside (joined Is always pending each wait))
      (block-lie text always parts place [] vars inside each tt are)

  run-lie : (text : List ℕ) (always : List Check) (forget end : Bool) (checks : List Check) (place : ℕ) (vars : Variables)
      → place ≤ length text → AllByRecursion Is always → AllByRecursion Is checks
      → Lie (length text) (run text always forget (parts_of end checks) place vars).faults
  run-lie text always forget end checks place vars inside each are =
      block-lie text always (parts_of end checks) place [] _ inside each tt
      (subst (AllByRecursion Is) (sym (once end checks)) are)

  -- ---- blocks

  -- the directives and the labels of blocks have such numbers
  AreBlocks : Blocks → Type 0
  AreBlocks (last checks) = AllByRecursion Is checks
  AreBlocks (labelled checks label rest) = AllByRecursion Is checks × Is label × AreBlocks rest

  first-are : (check : Check) (blocks : Blocks) → Is check → AreBlocks blocks → AreBlocks (in_first check blocks)
  unfolding AreBlocks
  first-are check (last checks) is are = (is, are)
  first-are check (labelled checks label rest) is are = ((is, are.0), are.1, are.2)

  before-are : (check : Check) (role : Role) (blocks : Blocks) → Is check → AreBlocks blocks
      → AreBlocks (block_before check role blocks)
  unfolding AreBlocks
  before-are check Label blocks is are = ((is, tt), is, are)
  before-are check Sought blocks is are = first-are check blocks is are
  before-are check Excluded blocks is are = first-are check blocks is are
  before-are check Unordered blocks is are = first-are check blocks is are

  blocks-are : (checks : List Check) → AllByRecursion Is checks → AreBlocks (blocks_of checks)
  unfolding blocks_of AreBlocks
  blocks-are [] are = tt
  blocks-are (check ∷ checks) are = before-are check check.demand.role (blocks_of checks) are.0 (blocks-are checks are.1)

  label-lie : (text : List ℕ) (label : Check) (place : ℕ) (r : Result Met FaultKind) (found : ℕ → End) → Is label
      → place ≤ length text → MetLies place (length text) r
      → ((to : ℕ) → place ≤ to → to ≤ length text → Lie (length text) (found to).faults)
      → Lie (length text) (labelled_by label place r found).faults
  label-lie text label place (Err kind) found is inside lies behind = ((is, inside), tt)
  label-lie text label place (Ok m) found is inside lies behind =
      behind m.span.to (omega (arith, lies.0, m.span.ordered)) lies.1

  verdict-lie : (text : List ℕ) (always : List Check) (scope forget : Bool) (blocks : Blocks) (place : ℕ)
      (vars : Variables) → place ≤ length text → AllByRecursion Is always → AreBlocks blocks
      → Lie (length text) (verdict text always scope forget blocks place vars).faults
  unfolding verdict AreBlocks
  verdict-lie text always scope forget (last checks) place vars inside each are =
      run-lie text always forget true checks place vars inside each are
  verdict-lie text always scope forget (labelled checks label rest) place vars inside each are =
      label-lie text label place (looked text vars label 0 place) _ are.1 inside
      (looked_lies text vars label 0 place inside)
      (λ to low high. joined (FaultLies IsNumber (length text)) _ _
      (lie-further (length (take to text)) (length text) _ (front-short to text)
      (run-lie (take to text) always forget false checks place vars (front-holds to place text low inside) each are.0))
      (verdict-lie text always scope scope rest to _ high each are.2))

-- each fault is that of one of the directives, and lies in the text
scan-lie : (checks always : List Check) (scope : Bool) (text : List ℕ) (vars : Variables)
    → All (FaultLies (Contains (numbers_of (checks ++ always))) (length text)) (scan checks always scope text vars).faults
scan-lie checks always scope text vars =
    let IsOne : ℕ → Type 0 = Contains (numbers_of (checks ++ always)) in
    let each = both (λ (check : Check). IsOne check.number) checks always
    (unmapped IsOne (λ (check : Check). check.number) (checks ++ always)
    (recursion_from_All IsOne (numbers_of (checks ++ always)) (All-contains_itself (numbers_of (checks ++ always))))) in
    All-from_recursion (FaultLies IsOne (length text)) _
    (verdict-lie IsOne text always scope false (blocks_of checks) 0 vars (omega arith) each.1
    (blocks-are IsOne checks each.0))

pub faults_lie : (checks always : List Check) (scope : Bool) (text : List ℕ) (vars : Variables) (faults : List Fault)
    → faults ≡ (scan checks always scope text vars).faults
    → All (FaultLies (Contains (numbers_of (checks ++ always))) (length text)) faults
faults_lie checks always scope text vars faults told =
    subst (All (FaultLies (Contains (numbers_of (checks ++ always))) (length text))) (sym told)
    (scan-lie checks always scope text vars)
