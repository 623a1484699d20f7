-- A prefix is added to the tree.
-- Shown: each prefix leads where it led, and the new one to its end; the loop has gone down as far as it was read.
-- The hard one is `loop-length-preserved`, where a byte leads on by a turn that was there or is made.
use Rattle.std.proofs.Common.{◌≡◌, ℕ, ◌+◌, ◌∷◌, ◌++◌, [], Some, get_or, length, take, take_all, refl, sym, subst, ◌∙◌, ap, inl, inr, ⊎_elim, arith}
use Rattle.std.proofs.lemmas.List.{get_or_default, length-take-le, take_more}
use Rattle.prefix_tree.specs.Tree.{EndStay, Leads, NextStay}
use Rattle.prefix_tree.specs.Turns.{end_of, next_of}
use Rattle.prefix_tree.proofs.TreeLemmas.{AreTurns, added, leads_more, leads_nowhere, leads_stay, turns_more}
use Rattle.prefix_tree.proofs.tree.add.Goals as goal

pub loop-length-init : goal.loop-length-init
loop-length-init c = record {
  same = refl;
  turns = c.requires.tree.turns;
  stay = λ owner count byte to was. was;
  ends = refl;
  leads = leads_nowhere (next_of c.args.turns.now) 0 0;
}

pub loop-length-preserved : goal.loop-length-preserved
loop-length-preserved c =
    let prefixes = c.args.prefixes.now in
    let prefix = c.as_slice-prefix.result.now in
    let count = c.loop-length.length in
    let owner = c.loop-length.owner in
    let to = c.in_ok-owner.owner in
    let byte = get_or prefix count 0 in
    let new = next_of c.go_on.new.self in
    let had = c.loop-length.invariant in
    let inside = c.loop-length-test.true in
    let more : take (count + 1) prefix ≡ take count prefix ++ byte ∷ [] = take_more prefix count 0 inside in
    let mine : prefix ≡ get_or prefixes c.args.index [] = c.as_slice-prefix.ensures ∙ c.index-prefixes-index.is
    ∙ get_or_default prefixes c.args.index c.index-prefixes-index.result [] c.requires.within in
    let long : 0 + length (take count prefix) ≡ count = omega (arith, length-take-le count prefix (omega (arith, inside))) in
    let turns = turns_more prefixes (next_of c.loop-length.turns) new owner count byte c.args.index had.turns
    (ap (take (count + 1)) (sym mine) ∙ more ∙ ap (λ l. l ++ byte ∷ []) (sym had.same)) c.in_ok-owner.ensures.only in
    record {
      same = turns owner count byte to c.in_ok-owner.ensures.went ∙ ap (λ l. l ++ byte ∷ []) had.same ∙ sym more;
      turns = turns;
      stay = λ from length one next was. c.in_ok-owner.ensures.stay from length one next (had.stay from length one next was);
      ends = c.in_ok-owner.ensures.ends ∙ had.ends;
      leads = subst (λ l. Leads new 0 0 l to) (sym more)
          (leads_more new 0 0 (take count prefix) owner byte to
          (leads_stay (next_of c.loop-length.turns) new c.in_ok-owner.ensures.stay 0 0 (take count prefix) owner had.leads)
          (ap (λ n. new owner n byte) long ∙ c.in_ok-owner.ensures.went));
    }

pub returns : goal.returns
returns c =
    let prefixes = c.args.prefixes.now in
    let index = c.args.index in
    let prefix = c.as_slice-prefix.result.now in
    let owner = c.loop-length.owner in
    let mine : prefix ≡ get_or prefixes index [] = c.as_slice-prefix.ensures ∙ c.index-prefixes-index.is
    ∙ get_or_default prefixes index c.index-prefixes-index.result [] c.requires.within in
    let had = c.loop-length.invariant in
    let done : c.loop-length.length ≡ length prefix = omega (arith, c.loop-length-test.false, c.loop-length.auto.length-end) in
    let whole : take (length prefix) prefix ≡ prefix = take_all (length prefix) prefix (omega arith) in
    let ended = c.in_ok-end_at.ensures in
    let next = next_of c.end_at.new.self in
    let of : next_of c.loop-length.turns ≡ next = ap (λ m. next_of (record { next = m; end = c.end_at.new.self.end })) (sym ended.nexts) in
    let old_ends : end_of c.loop-length.turns ≡ end_of c.args.turns.now =
    ap (λ m. end_of (record { next = c.loop-length.turns.next; end = m })) had.ends in
    added prefixes index (next_of c.args.turns.now) next (end_of c.args.turns.now) (end_of c.end_at.new.self) owner c.requires.tree
    (subst (NextStay (next_of c.args.turns.now)) of had.stay)
    (subst (λ e. EndStay e (end_of c.end_at.new.self)) old_ends ended.stay)
    (subst (AreTurns prefixes) of had.turns)
    (λ from count to is. ⊎_elim (λ was. inl (sym (ap (λ e. e from count) old_ends) ∙ was))
    (λ new. inr (new.0, new.1 ∙ ap length mine, new.2)) (ended.only from count to is))
    (subst (λ f. Leads f 0 0 (get_or prefixes index []) owner) of
    (subst (λ l. Leads (next_of c.loop-length.turns) 0 0 l owner) (ap (λ n. take n prefix) done ∙ whole ∙ mine) had.leads))
    (ap (λ n. take n (get_or prefixes owner [])) (ap length (sym mine) ∙ sym done) ∙ had.same
    ∙ ap (λ n. take n prefix) done ∙ whole ∙ mine)
    (subst (λ n. (to : ℕ) × (end_of c.end_at.new.self owner n ≡ Some to)) (ap length mine) ended.ended)
