use Rattle.std.proofs.Common.{ℕ, List, [], ◌∷◌, ◌++◌, Vec, Global, sym, ap, ◌∙◌, subst, inl, inr}
use Rattle.std.specs.List.{Contains}
use Rattle.ere_tree.specs.Tree.{Tree}
use Rattle.ere_tree.specs.View.{view}
use Rattle.ere_refs.specs.Live.{reads}
use Rattle.ere_refs.specs.Machine.{between}
use Rattle.ere_refs.specs.Refers.{Refers}
use Rattle.ere_refs.proofs.RowLemmas.{two_at}
use Rattle.ere_refs.proofs.row.member_lives.Goals as goal

covers : (t : Tree) (live found : List ℕ) → ((n : ℕ) → Refers t n → Contains found n)
    → ((n : ℕ) → Contains live n → Contains found n) → (n : ℕ) → between t live n → Contains found n
covers t live found refers behind n (inl r) = refers n r
covers t live found refers behind n (inr b) = behind n b

reads_more : (t : Tree) (P Q : ℕ → Type 0) (n : ℕ) → (P n → Q n) → reads t P n → reads t Q n
reads_more t P Q n more (inl refers) = inl refers
reads_more t P Q n more (inr (read, not)) = inr (more read, not)

pub returns-clause-lives : goal.returns-clause-lives
returns-clause-lives c =
    let t = view c.args.inner.now in
    let behind = c.args.behind.now in
    let second = c.in_ok-between.between in
    let first = c.in_ok-live_before.field-0 in
    let both = two_at c.push.new.self.items c.push-2.new.self.items first second (c.in_ok-push.ensures.items ∙ ap (λ xs. xs ++ first ∷ []) c.new-lives.ensures.items) c.in_ok-push-2.ensures.items in
    let all = covers t behind second.items c.in_ok-between.ensures.refers c.in_ok-between.ensures.behind in (
      (λ one is n read. subst (λ (v : Vec ℕ Global). Contains v.items n) (sym (both.0 one is))
          (c.in_ok-live_before.ensures n (reads_more t (between t behind) (Contains c.as_slice.result.now) n
          (λ b. subst (λ (xs : List ℕ). Contains xs n) (sym c.as_slice.ensures.value) (all n b)) read))),
      (λ one is n b. subst (λ (v : Vec ℕ Global). Contains v.items n) (sym (both.1 one is)) (all n b)),
    )
