-- A closure that is being made.
use Rattle.std.specs.Prelude.{◌≡◌, ℕ, ◌+◌, ◌<◌, ◌≤◌, Bool, List, length}
use Rattle.ere_table.specs.Node.{Node}
use Rattle.ere_auto.specs.Closure.{Skips, Reaches, node_in, origin_in, HasBy, Rises}
use Rattle.ere_auto.specs.declared.thread.Thread.{Thread}

-- So many seeds are in the list with what they reach, but for what the last one reaches from `next` on.
pub record Closing (starts ends : Bool) (T : ℕ → Node) (seeds K : List Thread) (count next : ℕ) : Type 0 where
  pub within : next ≤ length K
  pub from : (x : ℕ) → x < length K → origin_in K x < count
  pub sound : (x : ℕ) → x < length K → Reaches starts ends T (node_in seeds (origin_in K x)) (node_in K x)
  pub seeded : (x : ℕ) → x < count → HasBy (λ k. k) K (node_in seeds x) x
  pub closed : (x p : ℕ) → x < next → Skips starts ends (T (node_in K x)) p → HasBy (λ k. k) K p (origin_in K x)
  pub rises : Rises (λ k. k) K
  pub last : (x : ℕ) → next ≤ x → x < length K → origin_in K x + 1 ≡ count
