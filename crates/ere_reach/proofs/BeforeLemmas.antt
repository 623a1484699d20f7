-- There is a list of all that is read from before a tree on, so what rows lead to lies in the window.
use Rattle.std.proofs.Common.{ℕ, zero, List, [], ◌∷◌, ◌++◌, inl, inr, arith}
use Rattle.std.specs.List.{Contains}
use Rattle.std.proofs.lemmas.List.Elements.{Contains-append_left, Contains-append_right}
use Rattle.ere_tree.specs.Tree.{Tree, Trees, cat, alt, repeat, group, back, none, then}
use Rattle.ere_reach.specs.declared.rows.Rows.{Rows}
use Rattle.ere_reach.specs.declared.site.Site.{Site}
use Rattle.ere_reach.specs.Leads.{LeadsOver}
use Rattle.ere_reach.specs.Live.{HasRead, reads}
use Rattle.ere_reach.specs.Refers.{Refers, OneRefers}
use Rattle.ere_reach.specs.Rows.{AreInside}

mutual
  named : (t : Tree) → (all : List ℕ) × ((n : ℕ) → Refers t n → Contains all n)
  named (cat ts) = all_named ts
  named (alt ts) = all_named ts
  named (repeat t least most) = named t
  named (group number t) = named t
  named (back number fold) = (number ∷ [], λ n r. (zero, omega arith, r))
  named t = ([], λ n r. absurd r)

  all_named : (ts : Trees) → (all : List ℕ) × ((n : ℕ) → OneRefers ts n → Contains all n)
  all_named none = ([], λ n r. absurd r)
  all_named (then t ts) =
      let one = named t in
      let others = all_named ts in (
        one.0 ++ others.0,
        λ n r. elim r [
          | inl x ↦ Contains-append_left one.0 others.0 n (one.1 n x)
          | inr x ↦ Contains-append_right one.0 others.0 n (others.1 n x)
        ],
      )

pub some_before : (t : Tree) (live : List ℕ) → (before : List ℕ) × HasRead (reads t) live before
some_before t live =
    let one = named t in (
      one.0 ++ live,
      λ n r. elim r [
        | inl x ↦ Contains-append_left one.0 live n (one.1 n x)
        | inr x ↦ Contains-append_right one.0 live n x.0
      ],
    )

-- so what is found lies in the window
pub over_inside : (site : Site) (t : Tree) (live : List ℕ) (from found : Rows) → LeadsOver site t live from found
    → AreInside site.low site.high found
over_inside site t live from found leads = let b = some_before t live in (leads b.0 b.1).inside
