use Rattle.std.proofs.Common.{◌≡◌, ◌+◌, ◌-◌, ◌<◌, ℕ, List, ◌++◌, length, ap, sym, ◌∙◌, arith, length-append}
use Rattle.tt_base.specs.Place.{place_at}
use Rattle.input_dump.proofs.FollowLemmas.{mark_at, mark_follows, mark_left, on_last}
use Rattle.input_dump.specs.Dump.{mark_row}
use Rattle.input_dump.specs.Follow.{left}
use Rattle.input_dump.specs.Rows.{mark_row_at}
use Rattle.input_dump.specs.declared.marking.Mark.{Mark}
use Rattle.input_dump.proofs.cursor.take_mark.Goals as goal

some_bytes : (width before : ℕ) (mark : Mark) → 0 < length (mark_row_at width before mark)
some_bytes width before mark = omega (arith, length-append {A = ℕ})

pub overflow_sub-before : goal.overflow_sub-before
overflow_sub-before c =
    let s = c.args.subject.now in
    let k = c.args.cursor.now in
    let one = c.index-mark.result.now in
    let at = mark_at s k.told one c.requires.subject c.requires.some.0 c.index-mark.ensures in
    let last = on_last s k c.requires.subject c.requires.follows c.requires.some one.now at.first at.line in
    (c.requires.follows.column one.now.at at.within last).behind

pub returns-clause-moved : goal.returns-clause-moved
returns-clause-moved c =
    let s = c.args.subject.now in
    let k = c.args.cursor.now in
    let one = c.index-mark.result.now in
    let at = mark_at s k.told one c.requires.subject c.requires.some.0 c.index-mark.ensures in
    let last = on_last s k c.requires.subject c.requires.follows c.requires.some one.now at.first at.line in
    let column = c.requires.follows.column one.now.at at.within last in
    let before : one.now.at - k.last ≡ (place_at s.text.now one.now.at).col - 1 = omega (arith, column.col, column.behind) in
    let rest : List ℕ = left s (record k { told = k.told + 1 }) in
    ap (λ n. mark_row_at s.width n one.now ++ rest) before
    ∙ sym (mark_left s k c.requires.subject c.requires.follows c.requires.some one.now at.first at.line)

pub returns-clause-less : goal.returns-clause-less
returns-clause-less c =
    let s = c.args.subject.now in
    let k = c.args.cursor.now in
    let one = c.index-mark.result.now in
    let at = mark_at s k.told one c.requires.subject c.requires.some.0 c.index-mark.ensures in
    let rest : List ℕ = left s (record k { told = k.told + 1 }) in
    let row : List ℕ = mark_row s.width s.text.now one.now in
    let whole : length (left s k) ≡ length (row ++ rest) =
    ap length (mark_left s k c.requires.subject c.requires.follows c.requires.some one.now at.first at.line) in
    omega (arith, whole, length-append row rest, some_bytes s.width ((place_at s.text.now one.now.at).col - 1) one.now)

pub returns-clause-follows : goal.returns-clause-follows
returns-clause-follows c =
    let s = c.args.subject.now in
    let k = c.args.cursor.now in
    let one = c.index-mark.result.now in
    let at = mark_at s k.told one c.requires.subject c.requires.some.0 c.index-mark.ensures in
    mark_follows s k c.requires.subject c.requires.follows c.requires.some one.now at.first at.line
