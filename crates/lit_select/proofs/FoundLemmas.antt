use Rattle.std.proofs.Common.{◌≡◌, ℕ, Option, Some, None, List, is_some, refl}
use Rattle.ere_hit.proofs.ValueLemmas.{value_is_one}
use Rattle.ere_hit.specs.Value.{Alike, hit_in}
use Rattle.ere_tree.specs.Hit.{FindsHit}
use Rattle.ere_tree.specs.Tree.{Tree}
use Rattle.ere_tree.specs.declared.hit.Hit.{Hit}
use Rattle.lit_select.specs.Selection.{is_found}

both_found : (from : ℕ) (a b : Option Hit) → Alike from a b → is_some a ≡ is_some b
both_found from None None same = refl
both_found from None (Some b) same = absurd same
both_found from (Some a) None same = absurd same
both_found from (Some a) (Some b) same = refl

-- a search finds something exactly where the definition does
pub found_is : (text : List ℕ) (t : Tree) (hit : Option Hit) → FindsHit text t 0 hit → is_some hit ≡ is_found t text
found_is text t hit finds = both_found 0 hit (hit_in text t 0) (value_is_one text t 0 hit finds)
