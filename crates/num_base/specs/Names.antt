-- Names as keys of finite maps. Own rule: a name is its bytes.
use Rattle.std.specs.Prelude.{ℕ, List, map, Vec}
use Rattle.std.specs.Cmp.Lexicographic.{slice_cmp}
use Rattle.std.specs.Ordering.{nat_cmp}
use Rattle.std.specs.declared.cmp.Ordering.{Ordering}
use Rattle.std.specs.declared.alloc.Global.{Global}
use Rattle.std.specs.FinMap.{FinMap, from_entries}

-- the order of names: byte by byte
abbrev pub name_cmp : List ℕ → List ℕ → Ordering
name_cmp = slice_cmp nat_cmp

-- an entry by its name's bytes
abbrev pub as_pair : {V : Type 0} → Vec ℕ Global × V → List ℕ × V
as_pair e = (e.0.items, e.1)

-- the map that entries make
abbrev pub by_names : {V : Type 0} → List (Vec ℕ Global × V) → FinMap name_cmp V
by_names es = from_entries (map as_pair es)
