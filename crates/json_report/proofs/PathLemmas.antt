-- What a map under paths has at a path, and what it is with one more entry, as lists in byte order of the paths.
-- By induction over the entries, and by where the path lies to each. The hard one is `lookup_more`: behind an entry that lies before the new
-- one, a path can't be that of both.
use Rattle.std.proofs.Common.{◌≡◌, ℕ, Bool, true, false, cond, Option, Some, List, [], ◌∷◌, refl, ap, sym, ◌∙◌}
use Rattle.std.proofs.lemmas.Map.Lookups.{exact_bytes}
use Rattle.std.specs.Prelude.{Vec}
use Rattle.std.specs.BTreeMap.{is_at, insert_entry}
use Rattle.std.specs.BTreeSet.{insert_key}
use Rattle.std.specs.Cmp.Lexicographic.{slice_cmp}
use Rattle.std.specs.Map.{lookup}
use Rattle.std.specs.Ordering.{is_eq, nat_cmp, match_ordering}
use Rattle.std.specs.declared.alloc.Global.{Global}
use Rattle.std.specs.declared.cmp.Ordering.{Ordering}
use Rattle.std.specs.declared.cmp.Ordering.TheVariants.{Less, Equal, Greater}
use Rattle.num_base.specs.Names.{name_cmp, as_pair}
use Rattle.json_report.specs.Changes.{by_paths, paths_of}

module _ {V : Type 0} where
  pub found_under : (es : List (Vec ℕ Global × V)) (q : List ℕ)
      → lookup (is_at (name_cmp q)) (by_paths es) ≡ lookup (is_at (λ k. slice_cmp nat_cmp q k.items)) es
  found_under [] q = refl
  found_under (e ∷ es) q = ap (cond (is_at (λ k. slice_cmp nat_cmp q k.items) e.0) (Some e.1)) (found_under es q)

  pub put_under : (es : List (Vec ℕ Global × V)) (k : Vec ℕ Global) (v : V)
      → by_paths (insert_entry (λ x y. slice_cmp nat_cmp x.items y.items) es k v) ≡ insert_entry name_cmp (by_paths es) k.items v
  put_under [] k v = refl
  put_under (e ∷ es) k v =
      elim (name_cmp k.items e.0.items) as (λ r.
      by_paths (match_ordering r ((k, v) ∷ e ∷ es) ((e.0, v) ∷ es)
      (e ∷ insert_entry (λ x y. slice_cmp nat_cmp x.items y.items) es k v))
      ≡ match_ordering r ((k.items, v) ∷ as_pair e ∷ by_paths es) ((e.0.items, v) ∷ by_paths es)
      (as_pair e ∷ insert_entry name_cmp (by_paths es) k.items v)) [
        | Less ↦ refl
        | Equal ↦ refl
        | Greater ↦ ap (λ xs. as_pair e ∷ xs) (put_under es k v)
      ]

  -- which paths there are then goes by the paths alone
  pub paths_more : (known : List (List ℕ × V)) (path : List ℕ) (v : V)
      → paths_of (insert_entry name_cmp known path v) ≡ insert_key name_cmp (paths_of known) path
  paths_more [] path v = refl
  paths_more (e ∷ es) path v =
      elim (name_cmp path e.0) as (λ r. paths_of (match_ordering r ((path, v) ∷ e ∷ es) ((e.0, v) ∷ es) (e ∷ insert_entry name_cmp es path v))
      ≡ match_ordering r (path ∷ e.0 ∷ paths_of es) (e.0 ∷ paths_of es) (e.0 ∷ insert_key name_cmp (paths_of es) path)) [
        | Less ↦ refl
        | Equal ↦ refl
        | Greater ↦ ap (λ xs. e.0 ∷ xs) (paths_more es path v)
      ]

  once_more : (b : Bool) (v w : V) (rest : Option V) → cond b (Some v) rest ≡ cond b (Some v) (cond b (Some w) rest)
  once_more true v w rest = refl
  once_more false v w rest = refl

  pub lookup_more : (known : List (List ℕ × V)) (path one : List ℕ) (v : V)
      → lookup (is_at (name_cmp one)) (insert_entry name_cmp known path v)
      ≡ cond (is_at (name_cmp one) path) (Some v) (lookup (is_at (name_cmp one)) known)
  lookup_more [] path one v = refl
  lookup_more (e ∷ es) path one v =
      elim (name_cmp path e.0) as (λ r. name_cmp path e.0 ≡ r
      → lookup (is_at (name_cmp one)) (match_ordering r ((path, v) ∷ e ∷ es) ((e.0, v) ∷ es) (e ∷ insert_entry name_cmp es path v))
      ≡ cond (is_at (name_cmp one) path) (Some v) (cond (is_at (name_cmp one) e.0) (Some e.1) rest)) [
        | Less ↦ λ p. refl
        | Equal ↦ λ p. once_more (is_at (name_cmp one) e.0) v e.1 rest
            ∙ ap (λ x. cond (is_at (name_cmp one) x) (Some v) (cond (is_at (name_cmp one) e.0) (Some e.1) rest)) (sym (exact_bytes path e.0 p))
        | Greater ↦ λ p. ap (cond (is_at (name_cmp one) e.0) (Some e.1)) (lookup_more es path one v) ∙ apart p (name_cmp one path) refl
      ] refl
    where
      rest : Option V
      rest = lookup (is_at (name_cmp one)) es

      -- a path isn't both this one and that of an entry before it
      apart : name_cmp path e.0 ≡ Greater → (r : Ordering) → name_cmp one path ≡ r
          → cond (is_at (name_cmp one) e.0) (Some e.1) (cond (is_eq r) (Some v) rest)
          ≡ cond (is_eq r) (Some v) (cond (is_at (name_cmp one) e.0) (Some e.1) rest)
      apart p Less q = refl
      apart p Greater q = refl
      apart p Equal q =
          ap (λ b. cond b (Some e.1) (Some v)) (ap (λ x. is_at (name_cmp x) e.0) (exact_bytes one path q) ∙ ap is_eq p)
