-- The threads behind a byte.
use Rattle.std.specs.Prelude.{◌≡◌, ℕ, ◌<◌, ◌≤◌, ◌==◌, if◌then◌else◌, Option, Some, None, List, length}
use Rattle.ere_table.specs.Node.{Node}
use Rattle.ere_auto.specs.Closure.{Takes, node_in, origin_in, Rises}
use Rattle.ere_auto.specs.declared.thread.Thread.{Thread}

-- a thread of the new list comes from one of those that were used
pub record Comes (T : ℕ → Node) (seeds K new : List Thread) (next : Option ℕ) (used x : ℕ) : Type 0 where
  pub before : ℕ
  pub inside : before < used
  pub origin : origin_in new x ≡ origin_in seeds (origin_in K before)
  pub byte : ℕ
  pub shown : next ≡ Some byte
  pub takes : Takes (T (node_in K before)) byte (node_in new x)

-- the node is in the new list, with the origin of one that isn't behind x
pub record Goes (seeds K new : List Thread) (x q : ℕ) : Type 0 where
  pub index : ℕ
  pub inside : index < length new
  pub is : node_in new index ≡ q
  pub before : ℕ
  pub first : before ≤ x
  pub origin : origin_in new index ≡ origin_in seeds (origin_in K before)

-- those that take the byte have gone on, each node once
pub record Moved (T : ℕ → Node) (seeds K new : List Thread) (next : Option ℕ) (used : ℕ) : Type 0 where
  pub within : used ≤ length K
  pub sound : (x : ℕ) → x < length new → Comes T seeds K new next used x
  pub complete : (x b q : ℕ) → x < used → next ≡ Some b → Takes (T (node_in K x)) b q → Goes seeds K new x q
  pub rises : (σ : ℕ → ℕ) → Rises (λ k. σ (origin_in seeds k)) K → Rises σ new

-- another thread than this one was met
abbrev pub Differs : Option ℕ → ℕ → Type 0
Differs None origin = ⊥
Differs (Some m) origin = m ≡ origin → ⊥

-- none or this one was met
abbrev pub Agrees : Option ℕ → ℕ → Type 0
Agrees None origin = Unit {0}
Agrees (Some m) origin = m ≡ origin

-- which thread was met, once it is known on which node this one stands
abbrev pub met_behind : Option ℕ → ℕ → ℕ → Option ℕ
met_behind met node origin = if node == 0 then Some origin else met
