use Rattle.std.proofs.Common.{◌≡◌, ◌++◌, ◌-◌, ◌+◌, ◌≤◌, ℕ, List, ◌∙◌, ap, arith, replicate, take}
use Rattle.std.proofs.lemmas.List.{replicate-append-replicate, take-replicate}
use Rattle.tt_pieces.specs.Telling.{state}
use Rattle.tt_pieces.proofs.PenLemmas.{tells_same, tells_then}
use Rattle.tt_pieces.proofs.pen.Pen.put_blanks.Goals as goal

abbrev blanks : ℕ → List ℕ
blanks count = replicate {A = ℕ} count 32

-- a run more is told
more : (count left run : ℕ) → left ≤ count → run ≤ left → blanks (count - left) ++ blanks run ≡ blanks (count - (left - run))
more count left run within low =
    let there : count - left + run ≡ count - (left - run) = omega (arith, within, low) in
    replicate-append-replicate {A = ℕ} (count - left) run 32 ∙ ap blanks there

-- and in the end all
last : (count left : ℕ) → left ≤ count → blanks (count - left) ++ blanks left ≡ blanks count
last count left within =
    let there : count - left + left ≡ count = omega (arith, within) in
    replicate-append-replicate {A = ℕ} (count - left) left 32 ∙ ap blanks there

pub loop-left-preserved : goal.loop-left-preserved
loop-left-preserved g c =
    let l = c.loop-left in
    let before = state g.S.Sink c.args.self.now c.args.sink.now in
    let now = state g.S.Sink l.self l.sink in
    let next = state g.S.Sink c.put.new.self c.put.new.sink in
    let run : 64 ≤ l.left = omega arith in
    record {
      within = omega (arith, l.invariant.within);
      told = tells_same before next _ _ (more c.args.count l.left 64 l.invariant.within run)
          (tells_then before now next (blanks (c.args.count - l.left)) (blanks 64) l.invariant.told c.put.ensures);
    }

pub returns : goal.returns
returns g c =
    let l = c.loop-left in
    let before = state g.S.Sink c.args.self.now c.args.sink.now in
    let now = state g.S.Sink l.self l.sink in
    let next = state g.S.Sink c.put-2.new.self c.put-2.new.sink in
    let rest : take l.left (blanks 64) ≡ blanks l.left = take-replicate l.left 64 32 (omega arith) in
    tells_same before next _ _ (ap (λ t. blanks (c.args.count - l.left) ++ t) rest ∙ last c.args.count l.left l.invariant.within)
    (tells_then before now next (blanks (c.args.count - l.left)) (take l.left (blanks 64)) l.invariant.told c.put-2.ensures)
