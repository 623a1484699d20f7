use Rattle.std.proofs.Common.{ℕ, List, map, sym, ap, subst, inl, inr}
use Rattle.std.proofs.lemmas.Result.{IfOk-weaker}
use Rattle.std.specs.List.{Contains}
use Rattle.ere_refs.specs.Live.{reads, reads_all}
use Rattle.ere_tree.specs.Tree.{Tree, trees_of}
use Rattle.ere_tree.specs.View.{view}
use Rattle.ere_tree.specs.declared.ere.Ere.{Ere}
use Rattle.ere_refs.proofs.live.+live_from.Goals as goal

reads_more : (t : Tree) (P Q : ℕ → Type 0) (n : ℕ) → (P n → Q n) → reads t P n → reads t Q n
reads_more t P Q n more (inl refers) = inl refers
reads_more t P Q n more (inr (read, not)) = inr (more read, not)

pub returns-in_ok-later-in-Some : goal.returns-in_ok-later-in-Some
returns-in_ok-later-in-Some t c =
    let first = view c.in-Some.first.now in
    let others = trees_of (map view c.in-Some.others.now) in
    let trees = ap (λ (xs : List Ere). trees_of (map view xs)) c.in-Some.ensures.cases.0 in
    IfOk-weaker c.live_before.result
    (λ found. (n : ℕ) → reads first (Contains c.as_slice.result.now) n → Contains found.items n)
    (λ found. (n : ℕ) → reads_all (trees_of (map view c.args.all.now)) (Contains c.args.behind.now) n
    → Contains found.items n)
    (λ found h n read. h n (reads_more first (reads_all others (Contains c.args.behind.now)) (Contains c.as_slice.result.now) n
    (λ later. subst (λ (xs : List ℕ). Contains xs n) (sym c.as_slice.ensures.value) (c.in_ok-later-in-Some.ensures n later))
    (subst (λ us. reads_all us (Contains c.args.behind.now) n) trees read)))
    c.live_before.ensures
