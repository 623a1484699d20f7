use Rattle.std.proofs.Common.{◌≡◌, ℕ, ◌+◌, ◌<◌, false, List, Vec, Global, length, get_or, take, sym, ap, ◌∙◌, subst, inl, inr, take_all, true≢false}
use Rattle.std.specs.List.{Contains}
use Rattle.ere_places.proofs.ListLemmas.{taken}
use Rattle.ere_refs.specs.Live.{reads, surely_sets}
use Rattle.ere_tree.specs.Tree.{Tree}
use Rattle.ere_tree.specs.View.{view}
use Rattle.ere_refs.proofs.live.live_before.Goals as goal
use Rattle.ere_refs.proofs.live.live_before.Goals.{then-not-surely_sets+in_ok-put_number, else-not-surely_sets}

-- one number more, which is put where it isn't surely set
more : (t : Tree) (behind old new : List ℕ) (k : ℕ) → k < length behind
    → ((n : ℕ) → Contains old n → Contains new n)
    → (surely_sets t (get_or behind k 0) ≡ false → Contains new (get_or behind k 0))
    → ((n : ℕ) → Contains (take k behind) n → surely_sets t n ≡ false → Contains old n) → (n : ℕ)
    → Contains (take (k + 1) behind) n → surely_sets t n ≡ false → Contains new n
more t behind old new k low kept put before n has not = elim ((taken behind k low n).0 has) [
  | inl earlier ↦ kept n (before n earlier not)
  | inr is ↦ subst (Contains new) is (put (ap (surely_sets t) is ∙ not))
]

pub loop-number-preserved : goal.loop-number-preserved
loop-number-preserved c =
    let t = view c.args.ere.now in
    let old = c.loop-number.live.items in
    let behind = c.args.behind.now in
    let k = c.loop-number.number-index in
    elim c.if-not-surely_sets.branch [
      | then-not-surely_sets+in_ok-put_number w ↦
          let now : w.put_number.new.numbers.items ≡ c.if-not-surely_sets.live.items = ap (λ (v : Vec ℕ Global). v.items) (sym w.live-is) in
          record {
            refers = λ n r. subst (λ xs. Contains xs n) now (w.in_ok-put_number.ensures.kept n (c.loop-number.invariant.refers n r));
            behind = more t behind old c.if-not-surely_sets.live.items k c.loop-number-test.true
                (λ n has. subst (λ xs. Contains xs n) now (w.in_ok-put_number.ensures.kept n has))
                (λ not. subst (λ xs. Contains xs (get_or behind k 0)) now w.in_ok-put_number.ensures.there)
                c.loop-number.invariant.behind;
          }
      | else-not-surely_sets w ↦
          let now : old ≡ c.if-not-surely_sets.live.items = ap (λ (v : Vec ℕ Global). v.items) (sym w.live-is) in
          record {
            refers = λ n r. subst (λ xs. Contains xs n) now (c.loop-number.invariant.refers n r);
            behind = more t behind old c.if-not-surely_sets.live.items k c.loop-number-test.true
                (λ n has. subst (λ xs. Contains xs n) now has)
                (λ not. absurd (true≢false (sym w.if-not-surely_sets.false ∙ c.surely_sets.ensures ∙ not)))
                c.loop-number.invariant.behind;
          }
    ]

pub returns : goal.returns
returns c = λ n. each n
  where
    each : (n : ℕ) → reads (view c.args.ere.now) (Contains c.args.behind.now) n → Contains c.loop-number.live.items n
    each n (inl refers) = c.loop-number.invariant.refers n refers
    each n (inr (read, not)) =
        c.loop-number.invariant.behind n
        (subst (λ (xs : List ℕ). Contains xs n)
        (sym (take_all c.loop-number.number-index c.args.behind.now c.loop-number-test.false)) read) not
