use Rattle.lit_find.proofs.Names.{◌≡◌, All, map, rules, sym, subst, List, dedup, is_lt, on_texts, Test, IsFiled, test_in, IsInOrder}
use Rattle.std.specs.List.Sorted.{IsSortedBy}
use Rattle.std.proofs.lemmas.Fn.{dedup_same}
use Rattle.std.proofs.lemmas.List.Filters.{All-dedup}
use Rattle.std.proofs.lemmas.List.Sorted.{All-permutation, answers_always, ranks_by}
use Rattle.lit_find.proofs.SortLemmas.{file_cmp, in_order, same_path}
use Rattle.lit_find.proofs.discovery.Discovery.in_order.Goals as goal

pub invariant_of-result : goal.invariant_of-result
invariant_of-result c =
    let files = c.self.inside.files.items in
    let sorted = c.sort_unstable_by.new.self.items in
    let deduped : c.dedup_by.new.self.items ≡ dedup same_path sorted =
    dedup_same _ same_path _ (λ x y b f' x' y' k. search rules) _ _ c.dedup_by.ensures.filtered in
    subst (All IsFiled) (sym deduped) (All-dedup same_path IsFiled sorted
    (All-permutation IsFiled files sorted c.sort_unstable_by.ensures.permutation c.self.invariant))

pub returns : goal.returns
returns c =
    let files = c.self.inside.files.items in
    let sorted = c.sort_unstable_by.new.self.items in
    let deduped : c.dedup_by.new.self.items ≡ dedup same_path sorted =
    dedup_same _ same_path _ (λ x y b f' x' y' k. search rules) _ _ c.dedup_by.ensures.filtered in
    let up : IsSortedBy (λ one other. is_lt (file_cmp one other)) sorted =
    c.sort_unstable_by.ensures.sorted (λ one other. is_lt (file_cmp one other))
    (ranks_by {R = file_cmp} (on_texts (λ file. file.path)) (λ file. file))
    (answers_always _ _ _ (λ f a r g h. search rules)) in
    subst (λ (all : List Test). IsInOrder all (map test_in c.dedup_by.new.self.items)) c.self.view_is
    (subst (λ kept. IsInOrder (map test_in files) (map test_in kept)) (sym deduped)
    (in_order files sorted c.sort_unstable_by.ensures.permutation up))
