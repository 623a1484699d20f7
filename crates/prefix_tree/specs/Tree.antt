-- Prefixes as a tree of bytes.
-- Own form, for speed alone: from front to front by one byte, so that a place costs the length of what stands there.
use Rattle.std.specs.Prelude.{◌≡◌, ◌⊎◌, ◌<◌, ◌≤◌, ℕ, ◌+◌, List, [], ◌∷◌, ◌++◌, take, length, slice_index_or, Option, None, Some}
use Rattle.prefix_tree.specs.declared.standing.Standing.{Standing}

-- the owner of a front with one more byte, by the front's owner, its length and the byte
abbrev pub Next : Type 0
Next = ℕ → ℕ → ℕ → Option ℕ

-- the first prefix that is a whole front, by its owner and its length
abbrev pub End : Type 0
End = ℕ → ℕ → Option ℕ

-- turns that were there stay
abbrev pub NextStay : Next → Next → Type 0
NextStay old new = (owner count byte to : ℕ) → old owner count byte ≡ Some to → new owner count byte ≡ Some to

abbrev pub EndStay : End → End → Type 0
EndStay old new = (owner count to : ℕ) → old owner count ≡ Some to → new owner count ≡ Some to

-- and at most one joins them: that of this front and this byte, to this prefix
abbrev pub NextOnly : Next → Next → ℕ → ℕ → ℕ → ℕ → Type 0
NextOnly old new owner length byte index = (from count one to : ℕ) → new from count one ≡ Some to
    → (old from count one ≡ Some to) ⊎ ((from ≡ owner) × (count ≡ length) × (one ≡ byte) × (to ≡ index))

-- or that of this whole front
abbrev pub EndOnly : End → End → ℕ → ℕ → ℕ → Type 0
EndOnly old new owner length index = (from count to : ℕ) → new from count ≡ Some to
    → (old from count ≡ Some to) ⊎ ((from ≡ owner) × (count ≡ length) × (to ≡ index))

-- by these turns the bytes of a text lead from a front to one with this owner
unfoldable pub Leads : Next → ℕ → ℕ → List ℕ → ℕ → Type 0
Leads next owner count [] last = owner ≡ last
Leads next owner count (byte ∷ rest) last =
    (to : ℕ) × (next owner count byte ≡ Some to) × Leads next to (count + 1) rest last

module _ (next : Next) (end : End) where
  -- the bytes of a text lead from a front to one of so many bytes that is a whole prefix, whose number is at most this
  abbrev pub LeadsToEnd : ℕ → ℕ → List ℕ → ℕ → ℕ → Type 0
  LeadsToEnd owner count text total index =
      (last to : ℕ) × Leads next owner count text last × (end last total ≡ Some to) × (to ≤ index)

  -- the first so many of the prefixes are in the tree: each turn is that of a prefix, and each prefix has its turns
  pub record IsTree (prefixes : List (List ℕ)) (count : ℕ) : Type 0 where
    pub turns : (owner length byte to : ℕ) → next owner length byte ≡ Some to
        → take (length + 1) (slice_index_or prefixes to []) ≡ take length (slice_index_or prefixes owner []) ++ byte ∷ []
    pub ends : (owner length to : ℕ) → end owner length ≡ Some to
        → (to < count) × (slice_index_or prefixes to [] ≡ take length (slice_index_or prefixes owner []))
    pub whole : (index : ℕ) → index < count
        → LeadsToEnd 0 0 (slice_index_or prefixes index []) (length (slice_index_or prefixes index [])) index

-- the prefix that ends at a length, or else the one that ended before
abbrev pub ended : Option ℕ → ℕ → Option Standing → Option Standing
ended (Some index) length before = Some (record { index = index; length = length })
ended None length before = before
