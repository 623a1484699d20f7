-- What a table does at one place of a slice: which nodes are reached without a byte, and by one byte.
-- Own rule: the paths of a table, cut at each byte.
use Rattle.std.specs.Prelude.{◌≡◌, ℕ, ◌+◌, ◌<◌, ◌≤◌, ◌==◌, ◌||◌, Bool, false, List, [], ◌∷◌, Option, Some, None, zero, suc, length, slice_index, slice_index_or, IsTrue, ◌⊎◌}
use Rattle.std.specs.List.{Contains}
use Rattle.ere_table.specs.Node.{Node, stop, byte, fork, at_start, at_end, fail}
use Rattle.ere_table.specs.Path.{Leads}
use Rattle.ere_auto.specs.declared.thread.Thread.{Thread}

-- the node goes on to another without a byte, where a line starts or doesn't, and ends or doesn't
abbrev pub Skips : Bool → Bool → Node → ℕ → Type 0
Skips starts ends stop p = ⊥
Skips starts ends (byte bytes n) p = ⊥
Skips starts ends (fork a b) p = (p ≡ a) ⊎ (p ≡ b)
Skips starts ends (at_start n) p = IsTrue starts × (p ≡ n)
Skips starts ends (at_end n) p = IsTrue ends × (p ≡ n)
Skips starts ends fail p = ⊥

-- the node takes the byte, and goes on to another
abbrev pub Takes : Node → ℕ → ℕ → Type 0
Takes stop b p = ⊥
Takes (byte bytes n) b p = Contains bytes b × (p ≡ n)
Takes (fork a c) b p = ⊥
Takes (at_start n) b p = ⊥
Takes (at_end n) b p = ⊥
Takes fail b p = ⊥

-- so many nodes are skipped one behind the other
abbrev pub SkipPath : Bool → Bool → (ℕ → Node) → ℕ → ℕ → ℕ → Type 0
SkipPath starts ends T zero q p = p ≡ q
SkipPath starts ends T (suc l) q p = (r : ℕ) × Skips starts ends (T q) r × SkipPath starts ends T l r p

abbrev pub Reaches : Bool → Bool → (ℕ → Node) → ℕ → ℕ → Type 0
Reaches starts ends T q p = (l : ℕ) × SkipPath starts ends T l q p

-- a path from the entry at h comes to the node q by the byte before the place n
pub record Opened (s : List ℕ) (T : ℕ → Node) (e n h q : ℕ) : Type 0 where
  pub node : ℕ
  pub before : ℕ
  pub place : n ≡ before + 1
  pub inside : before < length s
  pub leads : Leads s T e h node before
  pub takes : Takes (T node) (slice_index s before) q

-- LISTS OF THREADS

abbrev pub node_in : List Thread → ℕ → ℕ
node_in K x = (slice_index_or K x (record { node = 0; origin = 0 })).node

abbrev pub origin_in : List Thread → ℕ → ℕ
origin_in K x = (slice_index_or K x (record { node = 0; origin = 0 })).origin

-- all origins lie below the bound
abbrev pub OriginsBelow : List Thread → ℕ → Type 0
OriginsBelow K bound = (x : ℕ) → x < length K → origin_in K x < bound

-- all origins lie at the bound or below it
abbrev pub OriginsUpTo : List Thread → ℕ → Type 0
OriginsUpTo K bound = (x : ℕ) → x < length K → origin_in K x ≤ bound

-- all nodes lie below the bound
abbrev pub NodesBelow : List Thread → ℕ → Type 0
NodesBelow K bound = (x : ℕ) → x < length K → node_in K x < bound

-- what lies above this node and all of the old list lies above all of the new one
abbrev pub StaysBelow : List Thread → List Thread → ℕ → Type 0
StaysBelow old new node = (n : ℕ) → node < n → NodesBelow old n → NodesBelow new n

-- no thread has this origin
abbrev pub IsFree : List Thread → ℕ → Type 0
IsFree K slot = (x : ℕ) → x < length K → origin_in K x ≡ slot → ⊥

-- whether the node is in the list
abbrev pub has_node : List Thread → ℕ → Bool
has_node [] q = false
has_node (t ∷ K) q = t.node == q || has_node K q

-- the node is in the list
pub record HasNode (K : List Thread) (q : ℕ) : Type 0 where
  pub index : ℕ
  pub inside : index < length K
  pub is : node_in K index ≡ q

-- the node is in the list, with an origin that doesn't lie behind a bound
pub record HasBy (σ : ℕ → ℕ) (K : List Thread) (q bound : ℕ) : Type 0 where
  pub index : ℕ
  pub inside : index < length K
  pub is : node_in K index ≡ q
  pub by : σ (origin_in K index) ≤ bound

-- the origins don't fall along the list
pub record Rises (σ : ℕ → ℕ) (K : List Thread) : Type 0 where
  pub rising : (x y : ℕ) → x ≤ y → y < length K → σ (origin_in K x) ≤ σ (origin_in K y)

-- two threads of one start have one origin
pub record Apart (σ : ℕ → ℕ) (K : List Thread) : Type 0 where
  pub apart : (x y : ℕ) → x < length K → y < length K → σ (origin_in K x) ≡ σ (origin_in K y)
      → origin_in K x ≡ origin_in K y

-- a start counts: once there is a match, none behind the start of that match
abbrev pub Counts : Option ℕ → ℕ → Type 0
Counts None h = Unit {0}
Counts (Some last) h = h ≤ last

-- The list has exactly the nodes at which a start arrives that counts, each with the least of these starts.
pub record Follows (A : ℕ → ℕ → Type 0) (begin : ℕ) (limit : Option ℕ) (σ : ℕ → ℕ) (K : List Thread) : Type 0 where
  pub arrives : (x : ℕ) → x < length K → A (σ (origin_in K x)) (node_in K x)
  pub begins : (x : ℕ) → x < length K → begin ≤ σ (origin_in K x)
  pub counts : (x : ℕ) → x < length K → Counts limit (σ (origin_in K x))
  pub complete : (h q : ℕ) → begin ≤ h → Counts limit h → A h q → HasBy σ K q h
  pub rises : Rises σ K

-- All that is reached from the seeds without a byte, each node with the first seed that reaches it.
pub record Closed (starts ends : Bool) (T : ℕ → Node) (seeds K : List Thread) : Type 0 where
  pub from : (x : ℕ) → x < length K → origin_in K x < length seeds
  pub sound : (x : ℕ) → x < length K → Reaches starts ends T (node_in seeds (origin_in K x)) (node_in K x)
  pub seeded : (x : ℕ) → x < length seeds → HasBy (λ k. k) K (node_in seeds x) x
  pub closed : (x p : ℕ) → x < length K → Skips starts ends (T (node_in K x)) p
      → HasBy (λ k. k) K p (origin_in K x)
  pub rises : Rises (λ k. k) K

-- a node of the table's stop that was met first, and the origin that counts from there on
pub record Met (seeds K : List Thread) (used m : ℕ) : Type 0 where
  pub first : ℕ
  pub inside : first < used
  pub stops : node_in K first ≡ 0
  pub is : origin_in seeds (origin_in K first) ≡ m
  pub none : (x : ℕ) → x < first → node_in K x ≡ 0 → ⊥
  pub one : (x : ℕ) → first ≤ x → x < used → origin_in seeds (origin_in K x) ≡ m

abbrev pub MetFirst : List Thread → List Thread → ℕ → Option ℕ → Type 0
MetFirst seeds K used None = (x : ℕ) → x < used → node_in K x ≡ 0 → ⊥
MetFirst seeds K used (Some m) = Met seeds K used m

-- those behind the ones that were used are of another origin than the match
abbrev pub CutAt : List Thread → List Thread → ℕ → Option ℕ → Type 0
CutAt seeds K used None = used ≡ length K
CutAt seeds K used (Some m) = used < length K → origin_in seeds (origin_in K used) ≡ m → ⊥
