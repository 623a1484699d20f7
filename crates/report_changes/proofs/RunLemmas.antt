-- What a run over two reports comes to, and that status 3 is a fault of the files that was counted.
-- By cases of what reading gave: `read_ends` says of one report that it failed and a fault rose, or that none did; a refusal of the new report stands
-- behind an old one that was read, so the faults of both are those of one. `three_behind` is the one with cases of both.
use Rattle.std.proofs.Common.{◌≡◌, ◌≢◌, ◌⊎◌, ℕ, ◌^◌, List, [], ◌∷◌, Result, Ok, Err, sym, ◌∙◌, ap, subst, inl, inr, refl}
use Rattle.json_report.specs.Reading.{report_in}
use Rattle.json_report.specs.declared.changed.Change.{Change}
use Rattle.json_report.specs.declared.line.Line.{Line}
use Rattle.json_report.specs.declared.line.ReportFault.{ReportFault}
use Rattle.tt_outside.specs.Faults.{Rose}
use Rattle.tt_outside.specs.declared.files.Files.{Ghosts as OfFiles}
use Rattle.tt_run.specs.Run.{Failed as Counted, Files, IsKept, files_of}
use Rattle.tt_run.specs.declared.answer.Answer.{Answer}
use Rattle.tt_run.specs.declared.reading.Reading.TheVariants as reading
use Rattle.report_changes.specs.Answer.{answer_to, changed_status}
use Rattle.report_changes.specs.Asked.{asked}
use Rattle.report_changes.specs.Run.{BehindOld, OutcomeBy, OutcomeOf, ReportRead, compared, or_bad}
use Rattle.report_changes.specs.Stop.{word_at}
use Rattle.report_changes.specs.declared.asked.ChangesRefusal.{ChangesRefusal}
use Rattle.report_changes.specs.declared.asked.Reports.{Reports}
use Rattle.report_changes.specs.declared.stop.ChangesStop.{ChangesStop}
use Rattle.report_changes.specs.declared.stop.ChangesStop.TheVariants.{Words, Report}
use Rattle.report_changes.specs.declared.stop.Unread.{Unread}
use Rattle.report_changes.specs.declared.stop.Unread.TheVariants.{Missing, TooLarge, Failed, Bad}

-- ---- what a run comes to

module _ {F : Type 0} (of : OfFiles F) (first middle : F) (words : List (List ℕ)) (reports : Reports) (is : asked words ≡ Ok reports)
    (name : List ℕ) (at : name ≡ word_at words reports.old) (old : Result (List Line) Unread)
    (read : ReportRead (files_of of first middle) name old) (kept : IsKept of first middle) where
  -- what is told behind the old report
  behind_old : (last : F) (outcome : Result (List Change) ChangesStop) → BehindOld (files_of of middle last) words reports old outcome
      → OutcomeOf of first last words outcome
  behind_old last outcome behind =
      subst (λ found. OutcomeBy of first last words found outcome) (sym is)
      (middle, old, subst (λ word. ReportRead (files_of of first middle) word old) at read, kept, behind)

  -- the old report was refused
  pub old_refused : (unread : Unread) → old ≡ Err unread → OutcomeOf of first middle words (Err (Report reports.old unread))
  old_refused unread same =
      behind_old middle (Err (Report reports.old unread))
      (subst (λ found. BehindOld (files_of of middle middle) words reports found (Err (Report reports.old unread))) (sym same) ((refl, refl), refl))

  -- the new one was read too
  pub new_read : (last : F) (lines : List Line) → old ≡ Ok lines → (other : List ℕ) → other ≡ word_at words reports.new
      → (new : Result (List Line) Unread) → ReportRead (files_of of middle last) other new
      → (outcome : Result (List Change) ChangesStop) → outcome ≡ compared reports.new lines new → OutcomeOf of first last words outcome
  new_read last lines same other here new found outcome told =
      behind_old last outcome
      (subst (λ report. BehindOld (files_of of middle last) words reports report outcome) (sym same)
      (new, subst (λ word. ReportRead (files_of of middle last) word new) here found, told))

-- ---- its faults

bad_calm : (report : Result (List Line) ReportFault) → or_bad report ≡ Err Failed → ⊥
bad_calm (Ok lines) same = cc
bad_calm (Err fault) same = cc

-- a report failed and a fault was counted, or none was
read_ends : (files : Files) (name : List ℕ) (report : Result (List Line) Unread) → ReportRead files name report
    → ((report ≡ Err Failed) × Rose files.before files.now × (files.steady → ⊥)) ⊎ ((files.now ≡ files.before) × (report ≢ Err Failed))
read_ends files name report (reading.Whole bytes, (gives, short, calm), same) =
    inr (calm, λ failed. bad_calm (report_in bytes) (sym same ∙ failed))
read_ends files name report (reading.Missing, (gives, calm), same) = inr (calm, λ failed. (let no = sym same ∙ failed in cc))
read_ends files name report (reading.TooLarge, (size, gives, more, calm), same) = inr (calm, λ failed. (let no = sym same ∙ failed in cc))
read_ends files name report (reading.Failed, rose, same) = inl (same, rose.0, rose.1)

changed_small : (changes : List Change) → changed_status changes ≡ 3 → ⊥
changed_small [] is = cc
changed_small (change ∷ more) is = cc

-- where two reports come to status 3, the new one failed
compared_three : (words : List (List ℕ)) (word : ℕ) (old : List Line) (new : Result (List Line) Unread)
    → (answer_to words (compared word old new)).status ≡ 3 → new ≡ Err Failed
compared_three words word old (Ok lines) is = absurd (changed_small _ is)
compared_three words word old (Err Missing) is = cc
compared_three words word old (Err TooLarge) is = cc
compared_three words word old (Err Failed) is = refl
compared_three words word old (Err (Bad fault)) is = cc

unread_three : (words : List (List ℕ)) (word : ℕ) (unread : Unread)
    → (answer_to words (Err (Report word unread))).status ≡ 3 → unread ≡ Failed
unread_three words word Missing is = cc
unread_three words word TooLarge is = cc
unread_three words word Failed is = refl
unread_three words word (Bad fault) is = cc

-- a fault of the files was counted, and some call of them may fail
abbrev Fails : {F : Type 0} → OfFiles F → F → F → Type 0
Fails of first last = Counted of.faults first last × (of.steady first → ⊥)

three_behind : {F : Type 0} (of : OfFiles F) (first middle last : F) (words : List (List ℕ)) (reports : Reports)
    (old : Result (List Line) Unread) (outcome : Result (List Change) ChangesStop)
    → ReportRead (files_of of first middle) (word_at words reports.old) old → IsKept of first middle
    → BehindOld (files_of of middle last) words reports old outcome → (answer_to words outcome).status ≡ 3 → Fails of first last
three_behind of first middle last words reports (Ok lines) outcome read kept (new, found, same) is =
    let failed = compared_three words reports.new lines new (sym (ap (λ o. (answer_to words o).status) same) ∙ is) in
    elim (read_ends (files_of of first middle) (word_at words reports.old) (Ok lines) read) [
      | inl early ↦ absurd (let no = early.0 in cc)
      | inr calm ↦ elim (read_ends (files_of of middle last) (word_at words reports.new) new found) [
        | inl rose ↦ (subst (λ n. Rose n (of.faults last)) calm.0 rose.1, λ steady. rose.2 (kept.1 steady))
        | inr still ↦ absurd (still.1 failed)
      ]
    ]
three_behind of first middle last words reports (Err unread) outcome read kept (rests, same) is =
    let failed = unread_three words reports.old unread (sym (ap (λ o. (answer_to words o).status) same) ∙ is) in
    elim (read_ends (files_of of first middle) (word_at words reports.old) (Err unread) read) [
      | inl rose ↦ (subst (λ f. Rose (of.faults first) (of.faults f)) (sym rests.1) rose.1, rose.2)
      | inr calm ↦ absurd (calm.1 (ap Err failed))
    ]

three_by : {F : Type 0} (of : OfFiles F) (first last : F) (words : List (List ℕ)) (found : Result Reports ChangesRefusal)
    (outcome : Result (List Change) ChangesStop) → OutcomeBy of first last words found outcome
    → (answer_to words outcome).status ≡ 3 → Fails of first last
three_by of first last words (Ok reports) outcome (middle, old, read, kept, behind) is =
    three_behind of first middle last words reports old outcome read kept behind is
three_by of first last words (Err refusal) outcome (rests, same) is =
    absurd (let no = sym (ap (λ o. (answer_to words o).status) same) ∙ is in cc)

-- status 3 is a fault of the files
pub fault_of_outcome : {F : Type 0} (of : OfFiles F) (first last : F) (words : List (List ℕ)) (outcome : Result (List Change) ChangesStop)
    (answer : Answer) → OutcomeOf of first last words outcome → answer ≡ answer_to words outcome → answer.status ≡ 3
    → Fails of first last
fault_of_outcome of first last words outcome answer from same is =
    three_by of first last words (asked words) outcome from (sym (ap (λ (a : Answer). a.status) same) ∙ is)
