-- Hidden lines that the cursor passes at once.
-- Shown: the cursor may stand at the beginning of each line up to which all are hidden (`reaches`), and so behind it (`jumps`). By induction over the
-- lines between, each of which is passed as one is. The hard one is `reaches`; where a line begins is told by its number (`begins_alone`).
use Rattle.std.proofs.Common.{◌≡◌, ℕ, zero, suc, ◌+◌, ◌-◌, ◌<◌, ◌≤◌, false, true, List, length, get_or, inl, refl, sym, ◌∙◌, subst, arith, ⊎_elim}
use Rattle.std.proofs.lemmas.Bool.{cases_lt}
use denote.Ref.{Bor}
use Rattle.tt_base.specs.Place.{line_end}
use Rattle.input_dump.proofs.FollowLemmas.{IsPassed, mark_at, passes_one}
use Rattle.input_dump.proofs.LineLemmas.{before_begin, end_above, end_within, line_further, same_count}
use Rattle.input_dump.proofs.ReachLemmas.{far_before, hidden_where, none_tells}
use Rattle.input_dump.specs.Dump.{is_shown, line_at}
use Rattle.input_dump.specs.Follow.{AreHidden, ArePassedAlike, BeginsLine, Follows, HasMark, IsSubject, left}
use Rattle.input_dump.specs.declared.marking.Mark.{Mark}
use Rattle.input_dump.specs.declared.subject.Cursor.{Cursor}
use Rattle.input_dump.specs.declared.subject.Subject.{Subject}

-- one line of a number begins
begins_alone : (text : List ℕ) (start from : ℕ) → start ≤ length text → from ≤ length text → BeginsLine text start → BeginsLine text from
    → line_at text start ≡ line_at text from → start ≡ from
begins_alone text start from low within begins begins_from same =
    let above : start ≤ from =
    ⊎_elim (λ (below : from < start). absurd (omega (arith, before_begin text start from low begins below, same)))
    (λ (above : start ≤ from). above) (cases_lt from start) in
    let below : from ≤ start =
    ⊎_elim (λ (above : start < from). absurd (omega (arith, before_begin text from start within begins_from above, same)))
    (λ (below : from ≤ start). below) (cases_lt start from) in
    omega (arith, above, below)

-- a line with a greater number begins behind the end of one
end_before : (text : List ℕ) (start from : ℕ) → start ≤ length text → line_at text start < line_at text from → line_end text start < from
end_before text start from low more =
    ⊎_elim (λ (behind : line_end text start < from). behind)
    (λ (within : from ≤ line_end text start).
    absurd (⊎_elim (λ (below : from < start). omega (arith, more, line_further text from start (omega (arith, below))))
    (λ (above : start ≤ from). omega (arith, more, same_count text start (line_end text start) low refl from above within))
    (cases_lt from start)))
    (cases_lt (line_end text start) from)

-- the cursor at the beginning of a line, where it came over hidden ones
pub record IsOver (s : Subject) (c : Cursor) (from number : ℕ) : Type 0 where
  pub last : ℕ
  pub follows : Follows s (record c { start = from; last = last; number = number })
  pub no_mark : HasMark s (record c { start = from; last = last; number = number }) → ⊥
  pub same : left s (record c { start = from; last = last; number = number }) ≡ left s c
  pub on : c.start ≤ from

module _ (s : Subject) (subject : IsSubject s) where
  pub reaches : (between : ℕ) (c : Cursor) (from number : ℕ) → Follows s c → (HasMark s c → ⊥) → c.hidden ≡ true
      → c.start ≤ length s.text.now → from ≤ length s.text.now → BeginsLine s.text.now from → line_at s.text.now from ≡ number
      → number ≡ c.number + between → AreHidden s c.number number → IsOver s c from number
  reaches zero c from number follows no_mark shut low within begins at_line is hidden =
      let here : line_at s.text.now c.start ≡ line_at s.text.now from = omega (arith, follows.number low, at_line, is) in
      let start_is : c.start ≡ from = begins_alone s.text.now c.start from low within (follows.begins low) begins here in
      let number_is : c.number ≡ number = omega (arith, is) in
      let stays : IsOver s c c.start c.number =
      record { last = c.last; follows = follows; no_mark = no_mark; same = refl; on = omega arith } in
      subst (λ n. IsOver s c from n) number_is (subst (λ at. IsOver s c at c.number) start_is stays)
  reaches (suc between) c from number follows no_mark shut low within begins at_line is hidden =
      let text = s.text.now in
      let end = line_end text c.start in
      let further : end < from = end_before text c.start from low (omega (arith, follows.number low, at_line, is)) in
      let inside : c.start < length text = omega (arith, further, within, end_above text c.start end low refl) in
      let one = passes_one s c subject follows no_mark (inl inside) end refl shut (hidden c.number (omega arith) (omega (arith, is))) in
      let next : Cursor = record c { start = end + 1; last = c.start; number = c.number + 1 } in
      let later = reaches between next from number one.follows one.no_mark shut (omega (arith, further, within)) within begins at_line
      (omega (arith, is)) (λ line above. hidden line (omega (arith, above))) in
      record {
        last = later.last;
        follows = later.follows;
        no_mark = later.no_mark;
        same = later.same ∙ one.same;
        on = omega (arith, further, end_above text c.start end low refl);
      }

  -- behind a line before one that all lines before are hidden of
  pub jumps : (c : Cursor) (from near : ℕ) → Follows s c → (HasMark s c → ⊥) → c.hidden ≡ true → c.start ≤ length s.text.now
      → from < length s.text.now → BeginsLine s.text.now from → line_at s.text.now from + 1 ≡ near → c.number < near
      → AreHidden s c.number near → (end : ℕ) → end ≡ line_end s.text.now from
      → IsPassed s c (record c { start = end + 1; last = from; number = near })
  jumps c from near follows no_mark shut low within begins is below hidden end end_is =
      let number = line_at s.text.now from in
      let over = reaches (number - c.number) c from number follows no_mark shut low (omega (arith, within)) begins refl (omega (arith, is, below))
      (λ line above before. hidden line above (omega (arith, before, is))) in
      let there : Cursor = record c { start = from; last = over.last; number = number } in
      let one = passes_one s there subject over.follows over.no_mark (inl within) end end_is shut
      (hidden number (omega (arith, is, below)) (omega (arith, is))) in
      subst (λ n. IsPassed s c (record c { start = end + 1; last = from; number = n })) is
      (record {
        follows = one.follows;
        no_mark = one.no_mark;
        same = one.same ∙ over.same;
        further = omega (arith, over.on, one.further);
      })

  -- lines that are too far before the next mark are hidden
  pub hidden_before : (c : Cursor) (next : ℕ) → Follows s c → s.shown.all ≡ false → next < length s.lines.items
      → ArePassedAlike s c.number next c.passed → AreHidden s c.number (get_or s.lines.items next 0 - s.shown.context)
  hidden_before c next follows bare low same line later before =
      hidden_where s.shown.all s.lines.items _ _ s.shown.context c.number line bare same follows.passed later
      (far_before s.lines.items next s.shown.context line subject.ascending low before)

  -- and where no mark is left, all are
  pub hidden_behind : (c : Cursor) (next : ℕ) → Follows s c → s.shown.all ≡ false → length s.lines.items ≤ next
      → ArePassedAlike s c.number next c.passed → (line : ℕ) → c.number ≤ line → is_shown s.shown s.lines.items line ≡ false
  hidden_behind c next follows bare all same line later =
      hidden_where s.shown.all s.lines.items _ _ s.shown.context c.number line bare same follows.passed later
      (none_tells s.lines.items next s.shown.context line all)

  -- so the cursor passes what is hidden before a mark
  pub jumps_before : (c : Cursor) (next : ℕ) (one : Bor Mark) → Follows s c → (HasMark s c → ⊥) → c.hidden ≡ true → s.shown.all ≡ false
      → (low : next < length s.lines.items) → ArePassedAlike s c.number next c.passed → one ≡ get_or s.order.items next one
      → c.start < length s.text.now → (near : ℕ) → near ≡ get_or s.lines.items next 0 - s.shown.context → c.number < near
      → (from : ℕ) → BeginsLine s.text.now from → line_at s.text.now from ≡ near - 1 → from ≤ one.now.at
      → (end : ℕ) → end ≡ line_end s.text.now from → IsPassed s c (record c { start = end + 1; last = from; number = near })
  jumps_before c next one follows no_mark shut bare low same one_is inside near near_is below from begins number within end end_is =
      let text = s.text.now in
      let at = one.now.at in
      let mark = mark_at s next one subject low one_is in
      let before : line_at text from < line_at text at = omega (arith, number, near_is, below, mark.line) in
      let short : from < at =
      ⊎_elim (λ (short : from < at). short)
      (λ (all : at ≤ from). absurd (omega (arith, before, line_further text at from all))) (cases_lt from at) in
      let hidden : AreHidden s c.number near = λ line later earlier. hidden_before c next follows bare low same line later (omega (arith, earlier, near_is)) in
      jumps c from near follows no_mark shut (omega (arith, inside)) (omega (arith, short, mark.within)) begins (omega (arith, number, below)) below
      hidden end end_is
