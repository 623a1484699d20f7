-- What a match closes.
-- Shown: a match goes on from its end or ends the block, by the faults of the region before it. Idea: cases on these faults.
-- The hard one is `told_all`, that implicit NOTs and pending ones are one region.
use Rattle.std.proofs.Common.{IsErr, OnOk, ◌≡◌, ℕ, Bool, true, false, List, [], ◌∷◌, ◌++◌, Option, Some, None, Result, Ok, Err, length, take, refl, sym, ◌∙◌, ap, append_assoc, length-append, subst, arith}
use Rattle.std.proofs.lemmas.Bool.{false≢true}
use Rattle.std.proofs.lemmas.List.{append-nil}
use Rattle.tt_base.specs.declared.memory.NoMemory.{NoMemory}
use Rattle.check_group.specs.Changes.{IsPartWay, Variables, changed}
use Rattle.check_group.specs.Continues.{Comes}
use Rattle.check_group.specs.Matches.{Came}
use Rattle.check_group.specs.Region.{excluded_by, fault_before, region}
use Rattle.check_group.specs.declared.answer.Matched.{Matched}
use Rattle.check_group.specs.declared.directive.Check.{Check}
use Rattle.check_group.specs.declared.fault.Fault.{Fault}
use Rattle.check_group.proofs.ContinuesLemmas.{changed_none, none_changed}
use Rattle.pattern_scan.specs.Seek.{sought}
use Rattle.check_scan.specs.Block.{End, block, closed, closed_by, unless}
use Rattle.check_scan.specs.Parts.{Part, ending}
use Rattle.check_scan.specs.Runs.{Ends, Finishes, Runs, Turns, block_at}
use Rattle.check_scan.specs.declared.progress.Progress.{Progress}
use Rattle.check_scan.specs.declared.progress.Going.{Going}
use Rattle.check_scan.specs.declared.progress.Going.TheVariants.{On, Over}
use Rattle.check_scan.specs.declared.subject.Subject.{Subject}
use Rattle.check_scan.proofs.RunsLemmas.{part_way_front, runs_after, turns_behind}

-- ---- regions

fault-append : (check : Check) (kind : Option _) (xs ys : List Fault)
    → fault_before check kind (xs ++ ys) ≡ fault_before check kind xs ++ ys
fault-append check None xs ys = refl
fault-append check (Some kind) xs ys = refl

pub region_append : (text : List ℕ) (from : ℕ) (vars : Variables) (xs ys : List Check)
    → region text from vars (xs ++ ys) ≡ region text from vars xs ++ region text from vars ys
unfolding region
region_append text from vars [] ys = refl
region_append text from vars (check ∷ xs) ys =
    let answer = excluded_by (sought check.pattern vars text from check.line) in
    ap (fault_before check answer) (region_append text from vars xs ys)
    ∙ fault-append check answer (region text from vars xs) (region text from vars ys)

-- the faults of two regions of one slice are told one behind the other
pub told_all : (text : List ℕ) (place : ℕ) (vars : Variables) (always pending : List Check) (old first new : List Fault)
    → first ≡ old ++ region text place vars always → new ≡ first ++ region text place vars pending
    → new ≡ old ++ region text place vars (always ++ pending)
told_all text place vars always pending old first new told_first told_then =
    told_then ∙ ap (λ fs. fs ++ region text place vars pending) told_first
    ∙ append_assoc old (region text place vars always) (region text place vars pending)
    ∙ ap (λ fs. old ++ fs) (sym (region_append text place vars always pending))

-- what follows from what holds where a call succeeds
pub on_ok : {P Q : Type 0} (r : Result (Unit {0}) NoMemory) → (P → Q) → OnOk r P → OnOk r Q
on_ok (Ok x) follows holds = follows holds
on_ok (Err e) follows holds = tt

-- ---- what closes

pub close_failed : (text : List ℕ) (nots : List Check) (outcome : Result Matched Fault) (fault : Fault) (old new : Progress)
    → outcome ≡ Err fault → new.faults ≡ old.faults ++ fault ∷ [] → new.vars ≡ old.vars
    → Turns (closed_by text old.place old.vars nots outcome) old new (Ok Over)
close_failed text nots outcome fault old new is told same =
    subst (λ o. Turns (closed_by text old.place old.vars nots o) old new (Ok Over)) (sym is)
    (λ rest. record { faults = told; vars = same ∙ changed_none old.vars })

-- where nothing changes, memory may run out
pub stays : (whole : (ℕ → Variables → End) → End) (old new : Progress) (result : Result Going NoMemory) → IsErr result
    → new.vars ≡ old.vars → Turns whole old new result
stays whole old new (Ok turn) none same = absurd (false≢true none)
stays whole old new (Err want) some same = λ rest.
    subst (λ v. IsPartWay (whole rest).changes old.vars v) (sym same) (none_changed _ old.vars)

module _ (text : List ℕ) (nots : List Check) (m : Matched) (old new : Progress) (same : new.vars ≡ old.vars) where
  turns-on : (told : List Fault) → region (take m.from text) old.place old.vars nots ≡ told
      → new.faults ≡ old.faults ++ told → length new.faults ≡ length old.faults
      → Turns (closed_by text old.place old.vars nots (Ok m)) old (record new { place = m.to }) (Ok On)
  turns-on [] is told none = λ rest. record {
    done = [];
    vars = same ∙ changed_none old.vars;
    faults = ap (λ fs. fs ++ (rest m.to new.vars).faults) (told ∙ append-nil old.faults)
        ∙ ap (λ v. old.faults ++ (rest m.to v).faults) same
        ∙ ap (λ fs. old.faults ++ (unless fs (rest m.to old.vars)).faults) (sym is);
    changes = ap (λ v. (rest m.to v).changes) same ∙ ap (λ fs. (unless fs (rest m.to old.vars)).changes) (sym is);
  }
  turns-on (fault ∷ more) is told none = absurd (omega (arith, none, ap length told, length-append old.faults (fault ∷ more)))

  turns-over : (told : List Fault) → region (take m.from text) old.place old.vars nots ≡ told
      → new.faults ≡ old.faults ++ told → (length new.faults ≡ length old.faults → ⊥)
      → Turns (closed_by text old.place old.vars nots (Ok m)) old new (Ok Over)
  turns-over [] is told some = absurd (some (ap length (told ∙ append-nil old.faults)))
  turns-over (fault ∷ more) is told some = λ rest. record {
    faults = told ∙ ap (λ fs. old.faults ++ (unless fs (rest m.to old.vars)).faults) (sym is);
    vars = same ∙ changed_none old.vars ∙ ap (λ fs. changed old.vars (unless fs (rest m.to old.vars)).changes) (sym is);
  }

  module _ (front : List ℕ) (outcome : Result Matched Fault) (cut : front ≡ take m.from text) (is : outcome ≡ Ok m)
      (told : new.faults ≡ old.faults ++ region front old.place old.vars nots) where
    told-cut : new.faults ≡ old.faults ++ region (take m.from text) old.place old.vars nots
    told-cut = told ∙ ap (λ t. old.faults ++ region t old.place old.vars nots) cut

    -- no fault was told
    pub close_on : length new.faults ≡ length old.faults
        → Turns (closed_by text old.place old.vars nots outcome) old (record new { place = m.to }) (Ok On)
    close_on none =
        subst (λ o. Turns (closed_by text old.place old.vars nots o) old (record new { place = m.to }) (Ok On)) (sym is)
        (turns-on _ refl told-cut none)

    -- some were
    pub close_over : (length new.faults ≡ length old.faults → ⊥)
        → Turns (closed_by text old.place old.vars nots outcome) old new (Ok Over)
    close_over some =
        subst (λ o. Turns (closed_by text old.place old.vars nots o) old new (Ok Over)) (sym is) (turns-over _ refl told-cut some)

-- ---- a positive part, and what it closes

-- it matched, or it has a fault
pub turned : (text : List ℕ) (nots : List Check) (part : Came) (old : Progress) (vars : Variables)
    (outcome : Result Matched Fault) (new : Progress) (result : Result Going NoMemory) → Comes part old.vars outcome vars
    → Turns (closed_by text old.place vars nots outcome) (record old { vars = vars }) new result
    → Turns (closed text old.place old.vars nots part) old new result
turned text nots part old vars outcome new result comes turns =
    turns_behind _ _ old (record old { vars = vars }) new result
    (λ rest. subst (λ e. Runs (closed text old.place old.vars nots part rest) e old (record old { vars = vars }))
    (sym (ap (λ v. closed_by text old.place v nots outcome rest) comes.vars
    ∙ ap (λ o. closed_by text old.place (changed old.vars part.changes) nots o rest) comes.outcome))
    (runs_after part.changes _ old (record old { vars = vars }) comes.vars refl))
    turns

-- memory ran out
pub turned_part_way : (text : List ℕ) (nots : List Check) (part : Came) (old new : Progress) (want : NoMemory)
    → IsPartWay part.changes old.vars new.vars → Turns (closed text old.place old.vars nots part) old new (Err want)
turned_part_way text nots part old new want left = λ rest. part_way_front part.changes _ old.vars new.vars left

-- ---- the end of the check file

unless-faults : (faults : List Fault) → (unless faults (record { faults = []; changes = [] })).faults ≡ faults
unless-faults [] = refl
unless-faults (fault ∷ faults) = refl

unless-changes : (faults : List Fault) → (unless faults (record { faults = []; changes = [] })).changes ≡ []
unless-changes [] = refl
unless-changes (fault ∷ faults) = refl

-- the region up to the end of the text is told
pub ends_last : (subject : Subject) (pending : List Check) (last : Bool) (old new : Progress) → last ≡ true
    → new.faults ≡ old.faults ++ region subject.text.now old.place old.vars (subject.always.now ++ pending) → new.vars ≡ old.vars
    → Ends (block_at subject (ending last) pending old) old new
unfolding block
ends_last subject pending last old new is told same =
    let all = region subject.text.now old.place old.vars (subject.always.now ++ pending) in
    subst (λ l. Ends (block_at subject (ending l) pending old) old new) (sym is) (record {
      faults = told ∙ ap (λ fs. old.faults ++ fs) (sym (unless-faults all));
      vars = same ∙ changed_none old.vars ∙ ap (changed old.vars) (sym (unless-changes all));
    })

-- part of it may be
pub ends_early : (subject : Subject) (parts : List Part) (pending : List Check) (old new : Progress) (want : NoMemory)
    → new.vars ≡ old.vars → Finishes (block_at subject parts pending old) old new (Err want)
ends_early subject parts pending old new want same =
    subst (λ v. IsPartWay (block_at subject parts pending old).changes old.vars v) (sym same) (none_changed _ old.vars)

-- nothing is
pub ends_there : (subject : Subject) (pending : List Check) (last : Bool) (old : Progress) → last ≡ false
    → Ends (block_at subject (ending last) pending old) old old
unfolding block
ends_there subject pending last old is =
    subst (λ l. Ends (block_at subject (ending l) pending old) old old) (sym is)
    (record { faults = sym (append-nil old.faults); vars = changed_none old.vars })
