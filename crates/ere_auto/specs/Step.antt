-- What one step of the threads promises, for every slice in which it may stand.
-- Own rule: a step knows no place and no start, so what it made once can be kept and taken again.
use Rattle.std.specs.Prelude.{◌≡◌, ℕ, ◌+◌, ◌<◌, ◌≤◌, ◌==◌, Bool, true, false, List, Option, Some, None, length, slice_index, is_none}
use Rattle.ere_tree.specs.Derivation.{is_line_start}
use Rattle.ere_table.specs.Node.{Node}
use Rattle.ere_table.specs.Path.{Leads}
use Rattle.ere_auto.specs.Closure.{Opened, origin_in, Apart, Counts, Follows}
use Rattle.ere_auto.specs.Threads.{Adds}
use Rattle.ere_auto.specs.declared.thread.Thread.{Thread}

-- the byte that stands at the place n of the slice, and none at its end
abbrev pub Shows : List ℕ → ℕ → Option ℕ → Type 0
Shows s n (Some b) = (n < length s) × (slice_index s n ≡ b)
Shows s n None = n ≡ length s

-- the starts of the threads are the same under two assignments
pub record Agrees (σ τ : ℕ → ℕ) (K : List Thread) : Type 0 where
  pub same : (x : ℕ) → x < length K → τ (origin_in K x) ≡ σ (origin_in K x)

-- whether a line ends before the byte that is shown next, or the slice does
abbrev pub ends_line : Option ℕ → Bool
ends_line None = true
ends_line (Some b) = b == 10

-- while a match is sought, a thread on the entry is added in a slot that no thread has
abbrev pub Seeds : List Thread → List Thread → ℕ → Bool → Option ℕ → Type 0
Seeds K L e true begun = (slot : ℕ) × (begun ≡ Some slot) × Adds K L e slot
Seeds K L e false begun = (L ≡ K) × (begun ≡ None)

-- the slot of the start at n, where one begins, holds n, and the others hold what they held
pub record Begun (σ τ : ℕ → ℕ) (K : List Thread) (begun : Option ℕ) (n : ℕ) : Type 0 where
  pub same : (x : ℕ) → x < length K → τ (origin_in K x) ≡ σ (origin_in K x)
  pub here : (slot : ℕ) → begun ≡ Some slot → τ slot ≡ n

-- the starts that count once the step is made
abbrev pub limit_behind : Option ℕ → (ℕ → ℕ) → Option ℕ → Option ℕ
limit_behind limit σ None = limit
limit_behind limit σ (Some m) = Some (σ m)

-- which thread was met at the stop, and that no start that counts before its own leads there
abbrev pub StopsBy : (ℕ → Type 0) → (ℕ → ℕ) → (ℕ → Type 0) → Option ℕ → Type 0
StopsBy Counted σ Stops None = (h : ℕ) → Counted h → Stops h → ⊥
StopsBy Counted σ Stops (Some m) = Counted (σ m) × Stops (σ m) × ((h : ℕ) → Counted h → Stops h → σ m ≤ h)

-- a match that is known began before this place
abbrev pub Past : Option ℕ → ℕ → Type 0
Past None n = Unit {0}
Past (Some last) n = last < n

-- the threads stand where the slice is at the place n
pub record StandsAt (s : List ℕ) (T : ℕ → Node) (e begin n : ℕ) (limit : Option ℕ) (σ : ℕ → ℕ) (K : List Thread) : Type 0 where
  pub follows : Follows (Opened s T e n) begin limit σ K
  pub apart : Apart σ K
  pub past : Past limit n

-- From the threads K, at a place where a line starts or doesn't, while a match is sought or one is known, the next
-- byte makes the threads L. Where the slice's end is shown, it tells the stop alone.
pub record IsStep (T : ℕ → Node) (e : ℕ) (K L : List Thread) (starts searching : Bool) (next : Option ℕ)
    (begun met : Option ℕ) : Type 0 where
  pub free : (slot : ℕ) → begun ≡ Some slot → (x : ℕ) → x < length K → origin_in K x ≡ slot → ⊥
  pub stops : (s : List ℕ) (begin n : ℕ) (limit : Option ℕ) (σ τ : ℕ → ℕ) → begin ≤ n → is_none limit ≡ searching
      → StandsAt s T e begin n limit σ K → is_line_start s n ≡ starts → Shows s n next → Begun σ τ K begun n
      → StopsBy (λ h. (begin ≤ h) × Counts limit h) τ (λ h. Leads s T e h 0 n) met
  pub moves : (s : List ℕ) (begin n : ℕ) (limit : Option ℕ) (σ τ : ℕ → ℕ) → begin ≤ n → is_none limit ≡ searching
      → StandsAt s T e begin n limit σ K → is_line_start s n ≡ starts → Shows s n next → Begun σ τ K begun n
      → n < length s → StandsAt s T e begin (n + 1) (limit_behind limit τ met) τ L
