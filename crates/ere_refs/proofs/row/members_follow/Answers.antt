use Rattle.std.proofs.Common.{ℕ, ◌<◌, ◌⊎◌, List, refl, sym, subst, inl, inr, arith}
use Rattle.std.proofs.lemmas.Bool.{le-leb, leb-true}
use Rattle.std.specs.List.{Contains}
use Rattle.std.specs.Prelude.{nat_le}
use Rattle.ere_refs.proofs.RestLemmas.{members_end, members_none}
use Rattle.ere_refs.proofs.RowLemmas.{full_at, members_next, not_full, short_of, some_left}
use Rattle.ere_refs.specs.Course.{members_behind}
use Rattle.ere_refs.specs.Machine.{NextFits}
use Rattle.ere_tree.specs.View.{view}
use Rattle.ere_refs.proofs.row.members_follow.Goals as goal
use Rattle.ere_refs.proofs.row.members_follow.Goals.{else-at_end-via-then-at_end+else-further, else-at_end-via-else-at_end}

pub returns-then-further-clause-fits : goal.returns-then-further-clause-fits
returns-then-further-clause-fits c = λ live are. (
  c.if-at_end.true,
  (λ s j d e rs rest.
      members_end s (view c.args.inner.now) c.args.least c.args.most j c.args.stage d c.if-further.true rs e rest),
  (λ s j d low. ((omega (arith, c.if-further.true), some_left c.args.most c.args.stage), (refl, low, refl))),
)

pub returns-then-is_full-clause-fits : goal.returns-then-is_full-clause-fits
returns-then-is_full-clause-fits c = λ live are s p j d e rs at rest.
    let full = full_at c.args.most c.args.stage c.is_full.result c.is_full.ensures c.if-is_full.true in
    let more : (p < j) ⊎ (c.args.stage < c.args.least) = elim c.else-at_end.branch [
      | else-at_end-via-then-at_end+else-further w ↦ inr w.if-further.false
      | else-at_end-via-else-at_end w ↦ inl (short_of c.args.at_end p j at w.if-at_end.false)
    ] in
    members_none s (view c.args.inner.now) c.args.least c.args.most j c.args.stage p full.0 d full.1 full.2 more rs e rest

pub returns-clause-fits : goal.returns-clause-fits
returns-clause-fits c = λ live are s p j at.
    let t = view c.args.inner.now in
    let n = c.args.stage in
    let further = nat_le c.args.least n in
    let before = c.index-lives-0.result in
    let behind = c.index-lives-1.result in
    let some = not_full c.args.most n c.is_full.result c.is_full.ensures c.if-is_full.false in
    let more : (p < j) ⊎ (n < c.args.least) = elim c.else-at_end.branch [
      | else-at_end-via-then-at_end+else-further w ↦ inr w.if-further.false
      | else-at_end-via-else-at_end w ↦ inl (short_of c.args.at_end p j at w.if-at_end.false)
    ] in
    let Fits = λ (one other : List ℕ). NextFits s (members_behind s t c.args.least c.args.most j) (Contains live) n p j t further
    c.stage_behind.result one other in
    let fits = members_next s t c.args.least c.args.most j c.args.lives.now live are n c.stage_behind.result p further before behind
    (λ yes. leb-true c.args.least n yes) (λ low. le-leb c.args.least n low) some (c.stage_behind.ensures some) more
    c.index-lives-0.is c.index-lives-1.is in
    subst (λ xs. Fits c.as_slice.result.now xs) (sym c.as_slice-2.ensures.value)
    (subst (λ xs. Fits xs behind.items) (sym c.as_slice.ensures.value) fits)
