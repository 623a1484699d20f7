-- Blocks one behind the other.
-- Shown: a block's start and its end, a label that ends it or isn't found, and what follows. Idea: each is a step or an end,
-- whatever follows it. The hard one is `label_turns`.
use Rattle.std.proofs.Common.{All, IfOk, IsErr, OnOk, Result, ◌≡◌, ℕ, ◌+◌, Bool, true, false, List, [], ◌∷◌, ◌++◌, Ok, Err, Some, None, refl, take, drop, get_or, sym, ◌∙◌, ap, append_assoc, subst}
use Rattle.std.proofs.lemmas.Bool.{false≢true}
use Rattle.pattern_vars.specs.Vars.{forgotten}
use Rattle.tt_base.specs.declared.memory.NoMemory.{NoMemory}
use Rattle.check_group.specs.Changes.{IsPartWay, IsReady, Variables, changed}
use Rattle.check_group.specs.Matches.{looked}
use Rattle.check_group.specs.declared.answer.Met.{Met}
use Rattle.check_group.specs.declared.directive.Check.{Check}
use Rattle.check_group.specs.declared.fault.FaultKind.{FaultKind}
use Rattle.check_group.specs.declared.fault.FaultKind.TheVariants.{NotFound}
use Rattle.check_group.proofs.ContinuesLemmas.{changed_none, none_changed}
use Rattle.check_scan.specs.Block.{End}
use Rattle.check_scan.specs.Blocks.{FirstLabel, blocks_of}
use Rattle.check_scan.specs.Parts.{Part, parts_of}
use Rattle.check_scan.specs.Runs.{Ends, Finishes, Runs, Turns, block_at, label_at, run_at, verdict_at}
use Rattle.check_scan.specs.Verdict.{beginning, followed, labelled_by, run, verdict}
use Rattle.check_scan.specs.declared.progress.Progress.{Progress}
use Rattle.check_scan.specs.declared.progress.Going.{Going}
use Rattle.check_scan.specs.declared.progress.Going.TheVariants.{On, Over}
use Rattle.check_scan.specs.declared.subject.Subject.{Subject}
use Rattle.check_scan.proofs.RunsLemmas.{finishes, part_way_front, runs_after, runs_ends, runs_part_way, runs_ready, runs_trans}

-- ---- a block's start

pub start_forgets : (vars new : Variables) (forget : Bool) → forget ≡ true → new ≡ forgotten vars → new ≡ changed vars (beginning forget)
unfolding changed
start_forgets vars new forget is forgot = forgot ∙ ap (λ f. changed vars (beginning f)) (sym is)

pub start_keeps : (vars : Variables) (forget : Bool) → forget ≡ false → vars ≡ changed vars (beginning forget)
start_keeps vars forget is = changed_none vars ∙ ap (λ f. changed vars (beginning f)) (sym is)

pub run_finishes : (subject : Subject) (forget : Bool) (parts : List Part) (old : Progress) (vars : Variables)
    (new : Progress) (result : Result (Unit {0}) NoMemory) → vars ≡ changed old.vars (beginning forget)
    → Finishes (block_at subject parts [] (record old { vars = vars })) (record old { vars = vars }) new result
    → Finishes (run_at subject forget parts old) old new result
run_finishes subject forget parts old vars new result start ends =
    finishes _ _ old (record old { vars = vars }) new result
    (subst (λ v. Runs (run_at subject forget parts old) (block_at subject parts [] (record old { vars = v })) old
    (record old { vars = vars })) (sym start)
    (runs_after (beginning forget) _ old (record old { vars = vars }) start refl))
    ends

-- ---- what follows a block

runs-followed : (end : End) (rest : Variables → End) (place : ℕ) (old new : Progress) → Ends end old new
    → Runs (followed end old.vars rest) (rest new.vars) old (record new { place = place })
runs-followed end rest place old new ends = record {
  done = end.changes;
  vars = ends.vars;
  faults = ap (λ fs. fs ++ (rest new.vars).faults) ends.faults ∙ append_assoc old.faults end.faults (rest new.vars).faults
      ∙ ap (λ v. old.faults ++ (end.faults ++ (rest v).faults)) ends.vars;
  changes = ap (λ v. end.changes ++ (rest v).changes) ends.vars;
}

-- ---- a label

module _ (subject : Subject) (forget : Bool) (checks : List Check) (label : Check) (old : Progress) where
  -- one that isn't found
  pub label_missed : (kind : FaultKind) (new : Progress) (result : Result Going NoMemory)
      → Err kind ≡ looked subject.text.now old.vars label 0 old.place → IfOk result (λ turn. turn ≡ Over)
      → OnOk result (new.faults ≡ old.faults ++ record { directive = label.number; kind = NotFound old.place 0 } ∷ [])
      → new.vars ≡ old.vars → Turns (label_at subject forget checks label old) old new result
  label_missed kind new (Ok turn) is over one same =
      subst (λ t. Turns (label_at subject forget checks label old) old new (Ok t)) (sym over) (λ rest.
      subst (λ r. Ends (labelled_by label old.place r
      (λ to. followed (run (take to subject.text.now) subject.always.now forget (parts_of false checks) old.place old.vars) old.vars
      (rest to))) old new) is
      (record { faults = one; vars = same ∙ changed_none old.vars }))
  label_missed kind new (Err want) is over one same = λ rest.
      subst (λ v. IsPartWay (label_at subject forget checks label old rest).changes old.vars v) (sym same) (none_changed _ old.vars)

  -- one that is found
  module _ (m : Met) (front : List ℕ) (new : Progress) (met : Ok m ≡ looked subject.text.now old.vars label 0 old.place)
      (cut : front ≡ take m.span.to subject.text.now) where
    abbrev end : End
    end = run front subject.always.now forget (parts_of false checks) old.place old.vars

    label-is : (rest : ℕ → Variables → End) → label_at subject forget checks label old rest ≡ followed end old.vars (rest m.span.to)
    label-is rest =
        ap (λ r. labelled_by label old.place r
        (λ to. followed (run (take to subject.text.now) subject.always.now forget (parts_of false checks) old.place old.vars) old.vars
        (rest to))) (sym met)
        ∙ ap (λ t. followed (run t subject.always.now forget (parts_of false checks) old.place old.vars) old.vars (rest m.span.to))
        (sym cut)

    pub label_turns : Ends end old new
        → Turns (label_at subject forget checks label old) old (record new { place = m.span.to }) (Ok On)
    label_turns ends = λ rest.
        subst (λ w. Runs w (rest m.span.to new.vars) old (record new { place = m.span.to })) (sym (label-is rest))
        (runs-followed _ (rest m.span.to) m.span.to old new ends)

    pub label_part_way : (result : Result Going NoMemory) → IsErr result → IsPartWay end.changes old.vars new.vars
        → Turns (label_at subject forget checks label old) old new result
    label_part_way (Ok turn) none left = absurd (false≢true none)
    label_part_way (Err want) some left = λ rest.
        subst (λ w. IsPartWay w.changes old.vars new.vars) (sym (label-is rest)) (part_way_front _ _ old.vars new.vars left)

-- ---- one turn of the loop over labels

module _ (subject : Subject) (scope forget : Bool) (whole : End) (old at : Progress) (rest : List Check)
    (on : Runs whole (verdict_at subject scope forget (blocks_of rest) at) old at) where
  -- the last block
  pub last_finishes : (new : Progress) (result : Result (Unit {0}) NoMemory) → FirstLabel rest None
      → Finishes (run_at subject forget (parts_of true rest) at) at new result → Finishes whole old new result
  unfolding verdict
  last_finishes new result none ends =
      finishes whole (run_at subject forget (parts_of true rest) at) old at new result
      (subst (λ bs. Runs whole (verdict_at subject scope forget bs at) old at) none on) ends

  -- one that a label ends
  module _ (n : ℕ) (label : Check) (front behind : List Check) (new : Progress) (first : FirstLabel rest (Some n))
      (here : label ≡ get_or rest n label) (cut : front ≡ take (n + 1) rest) (back : behind ≡ drop (n + 1) rest) where
    left : ℕ → Variables → End
    left = verdict subject.text.now subject.always.now scope scope (blocks_of behind)

    on-label : Runs whole (label_at subject forget front label at left) old at
    unfolding verdict left
    on-label =
        subst (λ b. Runs whole (label_at subject forget front label at
        (verdict subject.text.now subject.always.now scope scope (blocks_of b))) old at) (sym back)
        (subst (λ f. Runs whole (label_at subject forget f label at
        (verdict subject.text.now subject.always.now scope scope (blocks_of (drop (n + 1) rest)))) old at) (sym cut)
        (subst (λ bs. Runs whole (verdict_at subject scope forget bs at) old at) (first.1 label here) on))

    pub label_on : Turns (label_at subject forget front label at) at new (Ok On)
        → Runs whole (verdict_at subject scope scope (blocks_of behind) new) old new
    unfolding left
    label_on turns = runs_trans whole _ old at on-label (left new.place new.vars) new (turns left)

    pub label_ready : (checks : List Check) → Turns (label_at subject forget front label at) at new (Ok On)
        → All (IsReady at.vars) checks → All (IsReady new.vars) checks
    label_ready checks turns each = runs_ready _ _ at new (turns left) checks each

    pub label_over : Turns (label_at subject forget front label at) at new (Ok Over) → Ends whole old new
    label_over turns = runs_ends whole _ old at on-label new (turns left)

    pub label_left : (want : NoMemory) → Turns (label_at subject forget front label at) at new (Err want)
        → IsPartWay whole.changes old.vars new.vars
    label_left want turns = runs_part_way whole _ old at on-label new.vars (turns left)
