-- Shown: directives that scanning sees in one way have one verdict.
-- Idea: what one directive comes to is a value of what is seen of it; lists, parts and blocks of such directives are alike, and so is
-- what they come to. The hard one is `block_one`.
use Rattle.std.proofs.Common.{◌≡◌, ℕ, zero, suc, ◌+◌, ◌-◌, Bool, true, false, List, [], ◌∷◌, ◌++◌, Option, Some, None, Result, Ok, Err, length, map, take, refl, ◌∙◌, ap, subst}
use Rattle.std.specs.Prelude.{⊤}
use Rattle.tt_base.specs.declared.place.Span.{Span}
use Rattle.pattern_instance.specs.Instance.{instance_of}
use Rattle.pattern_instance.specs.Known.{known_of}
use Rattle.pattern_scan.specs.Seek.{sought, sought_of}
use Rattle.pattern_vars.specs.Vars.{bound_all}
use Rattle.check_group.specs.Alone.{began_at, came, counted, met}
use Rattle.check_group.specs.Changes.{Variables, changed}
use Rattle.check_group.specs.Group.{group, placed, placed_among, reach, tried}
use Rattle.check_group.specs.Lines.{on_next_line, on_same_line}
use Rattle.check_group.specs.Matches.{Came, answered, behind, fails, if_met, looked}
use Rattle.check_group.specs.Region.{excluded_by, fault_before, region}
use Rattle.check_group.specs.declared.answer.Matched.{Matched}
use Rattle.check_group.specs.declared.answer.Met.{Met}
use Rattle.check_group.specs.declared.directive.Check.{Check}
use Rattle.pattern_parse.specs.declared.demand.Demand.{Demand}
use Rattle.pattern_parse.specs.declared.demand.LineRule.{LineRule}
use Rattle.pattern_parse.specs.declared.demand.LineRule.TheVariants.{Any, Next, Same, Empty}
use Rattle.pattern_parse.specs.declared.demand.Role.{Role}
use Rattle.pattern_parse.specs.declared.demand.Role.TheVariants.{Sought, Excluded, Unordered, Label}
use Rattle.check_group.specs.declared.fault.Fault.{Fault}
use Rattle.check_group.specs.declared.fault.FaultKind.{FaultKind}
use Rattle.check_group.specs.declared.fault.FaultKind.TheVariants.{NotFound}
use Rattle.check_scan.specs.Block.{End, after, block, closed, closed_by, unless}
use Rattle.check_scan.specs.Blocks.{Blocks, block_before, blocks_of, in_first, labelled, last}
use Rattle.check_scan.specs.Parts.{Part, Positive, alone, came_of, dags, ending, finish, joined, negative, part_before, parts_before, parts_of, positive}
use Rattle.check_scan.specs.Verdict.{beginning, followed, labelled_by, run, verdict}
use Rattle.compile_laws.specs.Laws.{Seen, seen}
use Rattle.scan_laws.specs.Seen.{VerdictIsOfSeen}

-- ---- one directive

abbrev failing : ℕ → FaultKind → Came
failing number kind = record { outcome = Err (record { directive = number; kind = kind }); changes = [] }

module _ (c d : Check) (same : seen c ≡ seen d) where
  number_one : c.number ≡ d.number
  number_one = ap (λ (s : Seen). s.number) same

  demand_one : c.demand ≡ d.demand
  demand_one = ap (λ (s : Seen). s.demand) same

  sought_one : (text : List ℕ) (vars : Variables) (from : ℕ)
      → sought c.pattern vars text from c.line ≡ sought d.pattern vars text from d.line
  sought_one text vars from =
      ap (λ (s : Seen). sought_of s.fold text from (instance_of (known_of vars s.line s.fold) s.frame s.pieces)) same

  looked_one : (text : List ℕ) (vars : Variables) (done from : ℕ)
      → looked text vars c done from ≡ looked text vars d done from
  looked_one text vars done from = ap (λ a. answered a (NotFound from done)) (sought_one text vars from)

  fails_one : (kind : FaultKind) → fails c kind ≡ fails d kind
  fails_one kind = ap (λ n. failing n kind) number_one

  if_met_one : (r : Result Met FaultKind) (on other : Met → Came) → ((m : Met) → on m ≡ other m)
      → if_met c r on ≡ if_met d r other
  if_met_one (Ok m) on other each = each m
  if_met_one (Err kind) on other each = fails_one kind

  met_one : (text : List ℕ) (vars : Variables) (done at : ℕ) (rule : LineRule)
      → met text vars c done at rule ≡ met text vars d done at rule
  met_one text vars done at Any = looked_one text vars done at
  met_one text vars done at Next = ap (on_next_line text at) (looked_one text vars done at)
  met_one text vars done at Same = ap (on_same_line text at) (looked_one text vars done at)
  met_one text vars done at Empty = refl

  counted_one : (text : List ℕ) (left done : ℕ) (vars : Variables) (first at : ℕ)
      → counted text c left done vars first at ≡ counted text d left done vars first at
  unfolding counted
  counted_one text zero done vars first at = refl
  counted_one text (suc left) done vars first at =
      ap (λ r. if_met c r (λ m. behind m.fresh
      (counted text c left (done + 1) (bound_all vars m.fresh) (began_at done m.span.from first) m.span.to)))
      (met_one text vars done at c.demand.rule ∙ ap (λ (w : Demand). met text vars d done at w.rule) demand_one)
      ∙ if_met_one (met text vars d done at d.demand.rule) _ _ (λ m. ap (behind m.fresh)
      (counted_one text left (done + 1) (bound_all vars m.fresh) (began_at done m.span.from first) m.span.to))

  came_one : (text : List ℕ) (vars : Variables) (place : ℕ) → came text vars place c ≡ came text vars place d
  came_one text vars place =
      counted_one text c.demand.times 0 vars place place
      ∙ ap (λ (w : Demand). counted text d w.times 0 vars place place) demand_one

  placed_one : (text : List ℕ) (vars : Variables) (ranges : List Span) (place : ℕ)
      → placed text vars ranges c place ≡ placed text vars ranges d place
  placed_one text vars ranges place =
      ap (λ try. tried try ranges (length text - place) place) (λ i from. looked_one text vars 0 from i)

  before_one : (found : Option FaultKind) (faults others : List Fault) → faults ≡ others
      → fault_before c found faults ≡ fault_before d found others
  before_one None faults others these = these
  before_one (Some kind) faults others these = λ i. record { directive = number_one i; kind = kind } ∷ these i

-- ---- lists

abbrev AreAlike : List Check → List Check → Type 0
AreAlike [] [] = ⊤
AreAlike (c ∷ cs) (d ∷ ds) = (seen c ≡ seen d) × AreAlike cs ds
AreAlike [] (d ∷ ds) = ⊥
AreAlike (c ∷ cs) [] = ⊥

alike : (cs ds : List Check) → map seen cs ≡ map seen ds → AreAlike cs ds
alike [] [] is = tt
alike [] (d ∷ ds) is = cc
alike (c ∷ cs) [] is = cc
alike (c ∷ cs) (d ∷ ds) is =
    let first : seen c ≡ seen d = cc in
    let others : map seen cs ≡ map seen ds = cc in (first, alike cs ds others)

alike_append : (cs ds es fs : List Check) → AreAlike cs ds → AreAlike es fs → AreAlike (cs ++ es) (ds ++ fs)
alike_append [] [] es fs is are = are
alike_append [] (d ∷ ds) es fs is are = absurd is
alike_append (c ∷ cs) [] es fs is are = absurd is
alike_append (c ∷ cs) (d ∷ ds) es fs is are = (is.0, alike_append cs ds es fs is.1 are)

region_one : (text : List ℕ) (from : ℕ) (vars : Variables) (cs ds : List Check) → AreAlike cs ds
    → region text from vars cs ≡ region text from vars ds
unfolding region
region_one text from vars [] [] is = refl
region_one text from vars [] (d ∷ ds) is = absurd is
region_one text from vars (c ∷ cs) [] is = absurd is
region_one text from vars (c ∷ cs) (d ∷ ds) is =
    ap (λ a. fault_before c (excluded_by a) (region text from vars cs)) (sought_one c d is.0 text vars from)
    ∙ before_one c d is.0 (excluded_by (sought d.pattern vars text from d.line)) _ _ (region_one text from vars cs ds is.1)

group_one : (text : List ℕ) (place : ℕ) (cs ds : List Check) (vars : Variables) (ranges : List Span) (reached : Matched)
    → AreAlike cs ds → group text place vars ranges reached cs ≡ group text place vars ranges reached ds
unfolding group
group_one text place [] [] vars ranges reached is = refl
group_one text place [] (d ∷ ds) vars ranges reached is = absurd is
group_one text place (c ∷ cs) [] vars ranges reached is = absurd is
group_one text place (c ∷ cs) (d ∷ ds) vars ranges reached is =
    ap (λ r. if_met c r (λ m. behind m.fresh
    (group text place (bound_all vars m.fresh) (placed_among m.span ranges) (reach reached m.span) cs)))
    (placed_one c d is.0 text vars ranges place)
    ∙ if_met_one c d is.0 (placed text vars ranges d place) _ _ (λ m. ap (behind m.fresh)
    (group_one text place cs ds (bound_all vars m.fresh) (placed_among m.span ranges) (reach reached m.span) is.1))

-- ---- parts

abbrev IsAlikePart : Part → Part → Type 0
IsAlikePart (negative a) (negative b) = seen a ≡ seen b
IsAlikePart (negative a) (positive (alone b)) = ⊥
IsAlikePart (negative a) (positive (dags gs)) = ⊥
IsAlikePart (negative a) finish = ⊥
IsAlikePart (positive (alone a)) (negative b) = ⊥
IsAlikePart (positive (alone a)) (positive (alone b)) = seen a ≡ seen b
IsAlikePart (positive (alone a)) (positive (dags gs)) = ⊥
IsAlikePart (positive (alone a)) finish = ⊥
IsAlikePart (positive (dags fs)) (negative b) = ⊥
IsAlikePart (positive (dags fs)) (positive (alone b)) = ⊥
IsAlikePart (positive (dags fs)) (positive (dags gs)) = AreAlike fs gs
IsAlikePart (positive (dags fs)) finish = ⊥
IsAlikePart finish (negative b) = ⊥
IsAlikePart finish (positive (alone b)) = ⊥
IsAlikePart finish (positive (dags gs)) = ⊥
IsAlikePart finish finish = ⊤

abbrev AreAlikeParts : List Part → List Part → Type 0
AreAlikeParts [] [] = ⊤
AreAlikeParts (p ∷ ps) (q ∷ qs) = IsAlikePart p q × AreAlikeParts ps qs
AreAlikeParts [] (q ∷ qs) = ⊥
AreAlikeParts (p ∷ ps) [] = ⊥

joined_one : (c d : Check) (ps qs : List Part) → seen c ≡ seen d → AreAlikeParts ps qs
    → AreAlikeParts (joined c ps) (joined d qs)
joined_one c d [] [] same are = ((same, tt), tt)
joined_one c d [] (q ∷ qs) same are = absurd are
joined_one c d (negative a ∷ ps) [] same are = absurd are
joined_one c d (positive (alone a) ∷ ps) [] same are = absurd are
joined_one c d (positive (dags fs) ∷ ps) [] same are = absurd are
joined_one c d (finish ∷ ps) [] same are = absurd are
joined_one c d (negative a ∷ ps) (negative b ∷ qs) same are = ((same, tt), are)
joined_one c d (negative a ∷ ps) (positive (alone b) ∷ qs) same are = absurd are.0
joined_one c d (negative a ∷ ps) (positive (dags gs) ∷ qs) same are = absurd are.0
joined_one c d (negative a ∷ ps) (finish ∷ qs) same are = absurd are.0
joined_one c d (positive (alone a) ∷ ps) (negative b ∷ qs) same are = absurd are.0
joined_one c d (positive (alone a) ∷ ps) (positive (alone b) ∷ qs) same are = ((same, tt), are)
joined_one c d (positive (alone a) ∷ ps) (positive (dags gs) ∷ qs) same are = absurd are.0
joined_one c d (positive (alone a) ∷ ps) (finish ∷ qs) same are = absurd are.0
joined_one c d (positive (dags fs) ∷ ps) (negative b ∷ qs) same are = absurd are.0
joined_one c d (positive (dags fs) ∷ ps) (positive (alone b) ∷ qs) same are = absurd are.0
joined_one c d (positive (dags fs) ∷ ps) (positive (dags gs) ∷ qs) same are = ((same, are.0), are.1)
joined_one c d (positive (dags fs) ∷ ps) (finish ∷ qs) same are = absurd are.0
joined_one c d (finish ∷ ps) (negative b ∷ qs) same are = absurd are.0
joined_one c d (finish ∷ ps) (positive (alone b) ∷ qs) same are = absurd are.0
joined_one c d (finish ∷ ps) (positive (dags gs) ∷ qs) same are = absurd are.0
joined_one c d (finish ∷ ps) (finish ∷ qs) same are = ((same, tt), are)

part_one : (c d : Check) (role : Role) (ps qs : List Part) → seen c ≡ seen d → AreAlikeParts ps qs
    → AreAlikeParts (part_before c role ps) (part_before d role qs)
part_one c d Excluded ps qs same are = (same, are)
part_one c d Unordered ps qs same are = joined_one c d ps qs same are
part_one c d Sought ps qs same are = (same, are)
part_one c d Label ps qs same are = (same, are)

parts_one : (cs ds : List Check) (ps qs : List Part) → AreAlike cs ds → AreAlikeParts ps qs
    → AreAlikeParts (parts_before cs ps) (parts_before ds qs)
unfolding parts_before
parts_one [] [] ps qs is are = are
parts_one [] (d ∷ ds) ps qs is are = absurd is
parts_one (c ∷ cs) [] ps qs is are = absurd is
parts_one (c ∷ cs) (d ∷ ds) ps qs is are =
    subst (λ (w : Demand). AreAlikeParts (part_before c c.demand.role (parts_before cs ps)) (part_before d w.role (parts_before ds qs)))
    (demand_one c d is.0) (part_one c d c.demand.role _ _ is.0 (parts_one cs ds ps qs is.1 are))

ending_one : (end : Bool) → AreAlikeParts (ending end) (ending end)
ending_one true = (tt, tt)
ending_one false = tt

came_of_one : (text : List ℕ) (vars : Variables) (place : ℕ) (p q : Positive) → IsAlikePart (positive p) (positive q)
    → came_of text vars place p ≡ came_of text vars place q
came_of_one text vars place (alone c) (alone d) is =
    came_one c d is text vars place
came_of_one text vars place (dags cs) (dags ds) is =
    group_one text place cs ds vars [] (record { from = length text; to = place }) is
came_of_one text vars place (alone c) (dags ds) is = absurd is
came_of_one text vars place (dags cs) (alone d) is = absurd is

-- ---- a block

unless_one : (faults : List Fault) (end other : End) → end ≡ other → unless faults end ≡ unless faults other
unless_one [] end other same = same
unless_one (fault ∷ faults) end other same = refl

closed_one : (text : List ℕ) (place : ℕ) (vars : Variables) (nots others : List Check) (one : Came)
    (rest more : ℕ → Variables → End) → AreAlike nots others → ((to : ℕ) (vars : Variables) → rest to vars ≡ more to vars)
    → closed text place vars nots one rest ≡ closed text place vars others one more
closed_one text place vars nots others one rest more are each = ap (after one.changes) (by_outcome one.outcome)
  where
    by_outcome : (outcome : Result Matched Fault)
        → closed_by text place (changed vars one.changes) nots outcome rest
        ≡ closed_by text place (changed vars one.changes) others outcome more
    by_outcome (Err fault) = refl
    by_outcome (Ok m) =
        ap (λ faults. unless faults (rest m.to (changed vars one.changes)))
        (region_one (take m.from text) place (changed vars one.changes) nots others are)
        ∙ unless_one (region (take m.from text) place (changed vars one.changes) others) _ _
        (each m.to (changed vars one.changes))

module _ (text : List ℕ) (always implicit : List Check) (are : AreAlike always implicit) where
  block_one : (ps qs : List Part) (place : ℕ) (pending waiting : List Check) (vars : Variables) → AreAlikeParts ps qs
      → AreAlike pending waiting
      → block text always ps place pending vars ≡ block text implicit qs place waiting vars
  unfolding block
  block_one [] [] place pending waiting vars these those = refl
  block_one [] (q ∷ qs) place pending waiting vars these those = absurd these
  block_one (negative a ∷ ps) [] place pending waiting vars these those = absurd these
  block_one (positive p ∷ ps) [] place pending waiting vars these those = absurd these
  block_one (finish ∷ ps) [] place pending waiting vars these those = absurd these
  block_one (negative a ∷ ps) (negative b ∷ qs) place pending waiting vars these those =
      block_one ps qs place (pending ++ a ∷ []) (waiting ++ b ∷ []) vars these.1
      (alike_append pending waiting (a ∷ []) (b ∷ []) those (these.0, tt))
  block_one (positive p ∷ ps) (positive q ∷ qs) place pending waiting vars these those =
      ap (λ one. closed text place vars (always ++ pending) one (λ place vars. block text always ps place [] vars))
      (came_of_one text vars place p q these.0)
      ∙ closed_one text place vars (always ++ pending) (implicit ++ waiting) (came_of text vars place q) _ _
      (alike_append always implicit pending waiting are those)
      (λ place vars. block_one ps qs place [] [] vars these.1 tt)
  block_one (finish ∷ ps) (finish ∷ qs) place pending waiting vars these those =
      ap (λ faults. unless faults (block text always ps place [] vars))
      (region_one text place vars (always ++ pending) (implicit ++ waiting)
      (alike_append always implicit pending waiting are those))
      ∙ unless_one (region text place vars (implicit ++ waiting)) _ _ (block_one ps qs place [] [] vars these.1 tt)
  block_one (negative a ∷ ps) (positive (alone b) ∷ qs) place pending waiting vars these those = absurd these.0
  block_one (negative a ∷ ps) (positive (dags gs) ∷ qs) place pending waiting vars these those = absurd these.0
  block_one (negative a ∷ ps) (finish ∷ qs) place pending waiting vars these those = absurd these.0
  block_one (positive (alone a) ∷ ps) (negative b ∷ qs) place pending waiting vars these those = absurd these.0
  block_one (positive (dags fs) ∷ ps) (negative b ∷ qs) place pending waiting vars these those = absurd these.0
  block_one (positive (alone a) ∷ ps) (finish ∷ qs) place pending waiting vars these those = absurd these.0
  block_one (positive (dags fs) ∷ ps) (finish ∷ qs) place pending waiting vars these those = absurd these.0
  block_one (finish ∷ ps) (negative b ∷ qs) place pending waiting vars these those = absurd these.0
  block_one (finish ∷ ps) (positive (alone b) ∷ qs) place pending waiting vars these those = absurd these.0
  block_one (finish ∷ ps) (positive (dags gs) ∷ qs) place pending waiting vars these those = absurd these.0

  run_one : (forget : Bool) (ps qs : List Part) (place : ℕ) (vars : Variables) → AreAlikeParts ps qs
      → run text always forget ps place vars ≡ run text implicit forget qs place vars
  run_one forget ps qs place vars these =
      ap (after (beginning forget)) (block_one ps qs place [] [] (changed vars (beginning forget)) these tt)

-- ---- blocks

abbrev AreAlikeBlocks : Blocks → Blocks → Type 0
AreAlikeBlocks (last cs) (last ds) = AreAlike cs ds
AreAlikeBlocks (labelled cs l b) (labelled ds k other) = AreAlike cs ds × (seen l ≡ seen k) × AreAlikeBlocks b other
AreAlikeBlocks (last cs) (labelled ds k other) = ⊥
AreAlikeBlocks (labelled cs l b) (last ds) = ⊥

first_one : (c d : Check) (b other : Blocks) → seen c ≡ seen d → AreAlikeBlocks b other
    → AreAlikeBlocks (in_first c b) (in_first d other)
first_one c d (last cs) (last ds) same are = (same, are)
first_one c d (labelled cs l b) (labelled ds k other) same are = ((same, are.0), are.1, are.2)
first_one c d (last cs) (labelled ds k other) same are = absurd are
first_one c d (labelled cs l b) (last ds) same are = absurd are

before_block_one : (c d : Check) (role : Role) (b other : Blocks) → seen c ≡ seen d → AreAlikeBlocks b other
    → AreAlikeBlocks (block_before c role b) (block_before d role other)
before_block_one c d Label b other same are = ((same, tt), same, are)
before_block_one c d Sought b other same are = first_one c d b other same are
before_block_one c d Excluded b other same are = first_one c d b other same are
before_block_one c d Unordered b other same are = first_one c d b other same are

blocks_one : (cs ds : List Check) → AreAlike cs ds → AreAlikeBlocks (blocks_of cs) (blocks_of ds)
unfolding blocks_of
blocks_one [] [] is = tt
blocks_one [] (d ∷ ds) is = absurd is
blocks_one (c ∷ cs) [] is = absurd is
blocks_one (c ∷ cs) (d ∷ ds) is =
    subst (λ (w : Demand). AreAlikeBlocks (block_before c c.demand.role (blocks_of cs)) (block_before d w.role (blocks_of ds)))
    (demand_one c d is.0) (before_block_one c d c.demand.role _ _ is.0 (blocks_one cs ds is.1))

label_one : (l k : Check) (place : ℕ) (r : Result Met FaultKind) (found other : ℕ → End) → seen l ≡ seen k
    → ((to : ℕ) → found to ≡ other to) → labelled_by l place r found ≡ labelled_by k place r other
label_one l k place (Ok m) found other same each = each m.span.to
label_one l k place (Err kind) found other same each = λ i. record {
  faults = record { directive = number_one l k same i; kind = NotFound place 0 } ∷ [];
  changes = [];
}

module _ (text : List ℕ) (always implicit : List Check) (are : AreAlike always implicit) (scope : Bool) where
  verdict_one : (b other : Blocks) (forget : Bool) (place : ℕ) (vars : Variables) → AreAlikeBlocks b other
      → verdict text always scope forget b place vars ≡ verdict text implicit scope forget other place vars
  unfolding verdict
  verdict_one (last cs) (last ds) forget place vars these =
      run_one text always implicit are forget (parts_of true cs) (parts_of true ds) place vars
      (parts_one cs ds (ending true) (ending true) these (ending_one true))
  verdict_one (labelled cs l b) (labelled ds k other) forget place vars these =
      ap (λ r. labelled_by l place r (λ to. followed (run (take to text) always forget (parts_of false cs) place vars) vars
      (verdict text always scope scope b to))) (looked_one l k these.1 text vars 0 place)
      ∙ label_one l k place (looked text vars k 0 place) _ _ these.1
      (λ to i. followed (run_one (take to text) always implicit are forget (parts_of false cs) (parts_of false ds) place vars
      (parts_one cs ds (ending false) (ending false) these.0 (ending_one false)) i) vars
      (λ vars. verdict_one b other scope to vars these.2 i))
  verdict_one (last cs) (labelled ds k other) forget place vars these = absurd these
  verdict_one (labelled cs l b) (last ds) forget place vars these = absurd these

pub verdict_is_of_seen : VerdictIsOfSeen
verdict_is_of_seen checks others always implicit scope text vars one two =
    verdict_one text always implicit (alike always implicit two) scope (blocks_of checks) (blocks_of others) false 0 vars
    (blocks_one checks others (alike checks others one))
