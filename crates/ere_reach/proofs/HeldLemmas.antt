-- Lists of what groups hold that are made group by group: each group that is asked for has what is asked, or nothing came.
-- A group may be asked for twice; it has the same then.
-- The hard one is `made_push`, a group that gets a part.
use Rattle.std.proofs.Common.{◌≡◌, ◌≢◌, ◌⊎◌, ℕ, ◌+◌, ◌<◌, Bool, true, false, ◌==◌, if◌then◌else◌, Option, Some, None, List, [], ◌∷◌, ◌++◌, length, get_or, take, refl, sym, ap, ◌∙◌, inl, inr, arith, eq-eqb}
use Rattle.std.proofs.lemmas.Bool.{cases_eq, ne_eqb}
use Rattle.std.proofs.lemmas.Option.{none-some}
use Rattle.std.specs.List.{Contains}
use Rattle.ere_places.proofs.ListLemmas.{taken}
use Rattle.ere_tree.specs.declared.hit.Cap.{Cap}
use Rattle.ere_reach.specs.Held.{part_in}
use Rattle.ere_reach.specs.declared.held.Held.{Held}

append_none : (found : List Held) (one : Held) (n : ℕ) → part_in found n ≡ None
    → part_in (found ++ one ∷ []) n ≡ (if one.number == n then Some one.part else None)
append_none [] one n none = refl
append_none (x ∷ xs) one n none = each (x.number == n) none (append_none xs one n)
  where
    ends : Option Cap
    ends = if one.number == n then Some one.part else None

    each : (v : Bool) → (if v then Some x.part else part_in xs n) ≡ None
        → (part_in xs n ≡ None → part_in (xs ++ one ∷ []) n ≡ ends)
        → (if v then Some x.part else part_in (xs ++ one ∷ []) n) ≡ ends
    each true h rest = absurd (none-some x.part (sym h))
    each false h rest = rest h

append_some : (found : List Held) (one : Held) (n : ℕ) (held : Cap) → part_in found n ≡ Some held
    → part_in (found ++ one ∷ []) n ≡ Some held
append_some [] one n held some = absurd (none-some held some)
append_some (x ∷ xs) one n held some = each (x.number == n) some (append_some xs one n held)
  where
    each : (v : Bool) → (if v then Some x.part else part_in xs n) ≡ Some held
        → (part_in xs n ≡ Some held → part_in (xs ++ one ∷ []) n ≡ Some held)
        → (if v then Some x.part else part_in (xs ++ one ∷ []) n) ≡ Some held
    each true h rest = h
    each false h rest = rest h

-- each group has what is asked of it or nothing, and each that came has what is asked
pub record IsMade (g : ℕ → Option Cap) (live : List ℕ) (found : List Held) : Type 0 where
  pub own : (n : ℕ) → (part_in found n ≡ None) ⊎ (part_in found n ≡ g n)
  pub all : (n : ℕ) → Contains live n → part_in found n ≡ g n

pub made_none : (g : ℕ → Option Cap) → IsMade g [] []
made_none g = record { own = λ n. inl refl; all = λ n has. absurd (omega (arith, has.1)) }

pub made_push : (g : ℕ → Option Cap) (live : List ℕ) (i : ℕ) (found : List Held) (one : Held) → i < length live
    → one.number ≡ get_or live i 0 → g one.number ≡ Some one.part → IsMade g (take i live) found
    → IsMade g (take (i + 1) live) (found ++ one ∷ [])
made_push g live i found one low number asked made = record { own = own; all = all }
  where
    now : List Held
    now = found ++ one ∷ []

    -- a group has what is asked, or it isn't this one and has nothing as before
    told : (n : ℕ) → (part_in now n ≡ g n) ⊎ ((part_in now n ≡ part_in found n) × (part_in now n ≡ None) × (n ≢ one.number))
    told n = each (part_in found n) refl (made.own n)
      where
        each : (held : Option Cap) → part_in found n ≡ held → (part_in found n ≡ None) ⊎ (part_in found n ≡ g n)
            → (part_in now n ≡ g n)
            ⊎ ((part_in now n ≡ part_in found n) × (part_in now n ≡ None) × (n ≢ one.number))
        each (Some had) is (inl none) = absurd (none-some had (sym none ∙ is))
        each (Some had) is (inr same) = inl (append_some found one n had is ∙ sym is ∙ same)
        each None is h = elim (cases_eq n one.number) [
          | inl same ↦
              inl (append_none found one n is
              ∙ ap (λ v. if v then Some one.part else None) (eq-eqb one.number n (sym same))
              ∙ sym asked ∙ ap g (sym same))
          | inr other ↦
              let none : part_in now n ≡ None =
              append_none found one n is
              ∙ ap (λ v. if v then Some one.part else None) (ne_eqb one.number n (λ e. other (sym e))) in
              inr (none ∙ sym is, none, other)
        ]

    own : (n : ℕ) → (part_in now n ≡ None) ⊎ (part_in now n ≡ g n)
    own n = elim (told n) [ inl same ↦ inr same | inr none ↦ inl none.1 ]

    all : (n : ℕ) → Contains (take (i + 1) live) n → part_in now n ≡ g n
    all n has = elim (told n) [
      | inl same ↦ same
      | inr none ↦ elim ((taken live i low n).0 has) [
        | inl before ↦ none.0 ∙ made.all n before
        | inr is ↦ absurd (none.2 (sym is ∙ sym number))
      ]
    ]

pub made_stay : (g : ℕ → Option Cap) (live : List ℕ) (i : ℕ) (found : List Held) → i < length live
    → g (get_or live i 0) ≡ None → IsMade g (take i live) found → IsMade g (take (i + 1) live) found
made_stay g live i found low asked made = record {
  own = made.own;
  all = λ n has. elim ((taken live i low n).0 has) [
    | inl before ↦ made.all n before
    | inr is ↦ elim (made.own n) [ inl none ↦ none ∙ sym (ap g (sym is) ∙ asked) | inr same ↦ same ]
  ];
}
