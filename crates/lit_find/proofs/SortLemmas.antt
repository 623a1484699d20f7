-- Tests in byte order of their paths, each path once.
-- Idea: files that are sorted and of which equal neighbours are dropped ascend, and have the paths that there were.
-- The hard one is `in_order`.
use Rattle.lit_find.proofs.Names.{◌≡◌, Bool, true, List, map, refl, sym, Any, Contains, dedup, eq_by_cmp_equiv, on_texts, slice_cmp, is_eq, is_lt, nat_cmp, Ordering, test_in, IsInOrder, TestFile}
use Rattle.std.specs.List.Sorted.{IsPermutation, IsSortedBy}
use Rattle.std.proofs.lemmas.List.Elements.{All-contains_itself, All-map, All-weaker}
use Rattle.std.proofs.lemmas.List.Filters.{All-dedup}
use Rattle.std.proofs.lemmas.List.Kept.{Any-dedup, IsStrictlySortedBy-dedup}
use Rattle.std.proofs.lemmas.List.Sorted.{All-permutation, Contains-permutation}
use Rattle.std.proofs.lemmas.Map.Lookups.{exact_bytes}
use Rattle.std.proofs.lemmas.Map.Views.{tells_apart}
use Rattle.lit_look.proofs.ListLemmas.{any_one, contains_map, its_one, sorted_mapped}

abbrev pub file_cmp : TestFile → TestFile → Ordering
file_cmp one other = slice_cmp nat_cmp one.path other.path

abbrev pub same_path : TestFile → TestFile → Bool
same_path one other = is_eq (file_cmp one other)

pub in_order : (files sorted : List TestFile) → IsPermutation files sorted
    → IsSortedBy (λ one other. is_lt (file_cmp one other)) sorted
    → IsInOrder (map test_in files) (map test_in (dedup same_path sorted))
in_order files sorted moved up = record {
  ascending = sorted_mapped (λ test. test.path) (slice_cmp nat_cmp) (map test_in ordered)
      (sorted_mapped test_in (λ one other. slice_cmp nat_cmp one.path other.path) ordered
      (IsStrictlySortedBy-dedup {R = file_cmp} (on_texts (λ file. file.path)) (λ one other. refl) sorted up));
  right = All-map (Contains (map test_in files)) test_in ordered
      (All-dedup same_path (λ file. Contains (map test_in files) (test_in file)) sorted
      (All-permutation (λ file. Contains (map test_in files) (test_in file)) files sorted moved
      (All-weaker (Contains files) (λ file. Contains (map test_in files) (test_in file)) (contains_map test_in files) files
      (All-contains_itself files))));
  whole = All-map (λ one. Any (λ test. test.path ≡ one.path) (map test_in ordered)) test_in files
      (All-weaker (Contains files) (λ file. Any (λ test. test.path ≡ file.path) (map test_in ordered))
      (λ file within. kept file (its_one (λ other. same_path file other ≡ true) ordered
      (Any-dedup (eq_by_cmp_equiv {R = file_cmp} (on_texts (λ one. one.path))) sorted file
      (Contains-permutation files sorted file moved within)))) files (All-contains_itself files));
}
  where
    ordered : List TestFile
    ordered = dedup same_path sorted

    kept : (file : TestFile) → (other : TestFile) × Contains ordered other × (same_path file other ≡ true)
        → Any (λ test. test.path ≡ file.path) (map test_in ordered)
    kept file (other, within, same) =
        any_one (λ test. test.path ≡ file.path) (map test_in ordered) (test_in other)
        (contains_map test_in ordered other within) (sym (tells_apart exact_bytes file.path other.path same))
