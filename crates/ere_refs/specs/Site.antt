-- Where lists are made: over a part of a slice, from what groups hold before it, with what is read of them behind it.
-- Own rule: the slice begins in a text at a start, and groups hold offsets of that text.
use Rattle.std.specs.Prelude.{◌≡◌, ◌+◌, ◌<◌, ◌≤◌, ◌^◌, ℕ, Bool, true, Option, List, Vec, length, map}
use Rattle.std.specs.List.{All, Contains}
use Rattle.std.specs.declared.alloc.Global.{Global}
use Rattle.ere_tree.specs.Derivation.{Spans}
use Rattle.ere_tree.specs.Shape.{greatest_group}
use Rattle.ere_tree.specs.Tree.{Tree}
use Rattle.ere_tree.specs.declared.hit.Cap.{Cap}
use Rattle.ere_refs.specs.Lists.{ListsOver}
use Rattle.ere_refs.specs.Over.{HasEnds, RefersTo}
use Rattle.ere_refs.specs.Refers.{refs_fit}
use Rattle.ere_refs.specs.declared.ends.Ends.{Ends}
use Rattle.ere_refs.specs.declared.site.Site.{Site}

-- each list is of so many groups
abbrev pub AreLong : ℕ → List (List (Option Cap)) → Type 0
AreLong count lists = All (λ caps. length caps ≡ count) lists

-- the part lies in the slice, and the text's offsets are numbers of a machine
abbrev pub IsSite : Site → Type 0
IsSite site =
    (site.part.from ≤ site.part.to) × (site.part.to ≤ length site.text.now)
    × (site.part.start + length site.text.now < 2 ^ 64)

-- the tree refers to some of so many groups, and sets some of them
abbrev pub HasRoom : ℕ → Tree → Type 0
HasRoom count t = (refs_fit count t ≡ true) × (greatest_group t ≤ count)

-- the tree spans the part
abbrev pub SpansSite : Site → Tree → Type 0
SpansSite site t = Spans site.text.now t site.part.from site.part.to

-- these are where the tree can end from the part's start on, up to its end or beyond
abbrev pub EndsAt : Site → Tree → Ends → Type 0
EndsAt site t ends =
    HasEnds site.text.now t site.part.start site.part.from site.part.to (length site.caps.now) site.caps.now ends

-- the answer is whether the part is what the group of this number holds
abbrev pub RefersAt : Site → ℕ → Bool → Bool → Type 0
RefersAt site number fold answer =
    RefersTo site.text.now site.part.start site.part.from site.part.to number fold site.caps.now answer

-- these are the lists of what groups hold behind the tree's derivations over the part
abbrev pub ListsAt : Site → Tree → Vec (Vec (Option Cap) Global) Global → Type 0
ListsAt site t found =
    ListsOver site.text.now t site.part.start site.part.from site.part.to (length site.caps.now)
    (Contains site.live.now) site.caps.now found.items
    × AreLong (length site.caps.now) (map (λ held. held.items) found.items)
