-- Places of a line at which hits may begin, one behind the other, and what is told where nothing begins at one of them.
-- Places are gone through one by one: something may begin at the next one, or nothing does.
-- The hard one is `starts_more`: one place more, with how far what begins there may reach.
use Rattle.std.proofs.Common.{◌≡◌, ℕ, ◌+◌, ◌≤◌, List, [], ◌∷◌, ◌++◌, false, sym, subst, inl, inr, arith}
use Rattle.std.specs.FinMap.{empty}
use Rattle.std.specs.List.{All, Contains}
use Rattle.std.proofs.lemmas.Bool.{cases_lt}
use Rattle.std.proofs.lemmas.List.Elements.{All-cons, All-nil, All-push, Contains-append_left, Contains-push}
use Rattle.ere_match.proofs.LineLemmas.{begins_not}
use Rattle.ere_match.specs.Line.{HasLine, HasStarts}
use Rattle.ere_match.specs.Starts.{Passes}
use Rattle.ere_match.specs.declared.line.Line.{Line}
use Rattle.ere_match.specs.declared.starts.Starts.{Starts}
use Rattle.ere_places.specs.Seen.{is_held}
use Rattle.ere_reach.specs.Leads.{EndsNowhere}
use Rattle.ere_reach.specs.Rows.{IsIn}
use Rattle.ere_slow.specs.Slow.{HasNoHitBefore}
use Rattle.ere_tree.specs.Derivation.{Derives}
use Rattle.ere_tree.specs.Tree.{Tree}

module _ (s : List ℕ) (t : Tree) (place : ℕ) (line : Line) (has : HasLine s t place line) where
  pub starts_first : (starts : Starts) → starts.places.items ≡ place ∷ [] → starts.last ≡ place → starts.high ≡ line.high
      → HasStarts s t place starts
  starts_first starts places last high = record {
    from = omega (arith, last);
    within = omega (arith, high, has.inside);
    inside = subst (All (IsIn place starts.high)) (sym places)
        (All-cons (IsIn place starts.high) place [] (omega arith, omega (arith, high, has.order))
        (All-nil (IsIn place starts.high)));
    each = λ h k v d on low shows.
        let same : h ≡ place = omega (arith, low, last, on) in (
          subst (λ xs. Contains xs h) (sym places) (0, omega arith, sym same),
          omega (arith, high, (has.each h k v d on (omega (arith, same, has.order)) shows).1),
        );
  }

  -- the next place, at which something may begin
  pub starts_more : (old new : Starts) (next : ℕ) → HasStarts s t place old → old.high ≡ line.high → next ≡ old.last + 1
      → next ≤ line.high → new.places.items ≡ old.places.items ++ next ∷ [] → new.last ≡ next → new.high ≡ old.high
      → HasStarts s t place new
  starts_more old new next were line_high behind inside places last high = record {
    from = omega (arith, were.from, behind, last);
    within = omega (arith, were.within, high);
    inside = subst (All (IsIn place new.high)) (sym places)
        (subst (λ n. All (IsIn place n) (old.places.items ++ next ∷ [])) (sym high)
        (All-push (IsIn place old.high) old.places.items next were.inside
        (omega (arith, were.from, behind), omega (arith, inside, line_high))));
    each = λ h k v d on low shows. elim (cases_lt old.last h) [
      | inl past ↦
          let same : h ≡ next = omega (arith, low, last, behind, past) in (
            subst (λ xs. Contains xs h) (sym places) (subst (Contains (old.places.items ++ next ∷ [])) (sym same)
                (Contains-push old.places.items next)),
            omega (arith, high, line_high, (has.each h k v d on (omega (arith, same, inside)) shows).1),
          )
      | inr before ↦
          let was = were.each h k v d on before shows in (
            subst (λ xs. Contains xs h) (sym places) (Contains-append_left old.places.items (next ∷ []) h was.0),
            omega (arith, high, was.1),
          )
    ];
  }

  -- the next place, at which nothing begins
  pub starts_past : (old new : Starts) (next : ℕ) → HasStarts s t place old → next ≡ old.last + 1 → next ≤ line.high
      → is_held line.begins next ≡ false → new.places.items ≡ old.places.items → new.last ≡ next → new.high ≡ old.high
      → HasStarts s t place new
  starts_past old new next were behind inside none places last high = record {
    from = omega (arith, were.from, behind, last);
    within = omega (arith, were.within, high);
    inside = subst (All (IsIn place new.high)) (sym places)
        (subst (λ n. All (IsIn place n) old.places.items) (sym high) were.inside);
    each = λ h k v d on low shows. elim (cases_lt old.last h) [
      | inl past ↦
          let same : h ≡ next = omega (arith, low, last, behind, past) in
          absurd (begins_not s t place next line has (omega (arith, were.from, behind)) inside none k v d
          (subst (λ n. Derives s t v n k empty d) same shows))
      | inr before ↦
          let was = were.each h k v d on before shows in (
            subst (λ xs. Contains xs h) (sym places) was.0,
            omega (arith, high, was.1),
          )
    ];
  }

-- where nothing begins at one of them
pub passes : (s : List ℕ) (t : Tree) (place : ℕ) (starts : Starts) → HasNoHitBefore s t place → HasStarts s t place starts
    → EndsNowhere s t starts.places.items starts.high → Passes s t place starts.last
passes s t place starts before has nowhere = (
  has.from,
  λ h k v d low shows. elim (cases_lt h place) [
    | inl earlier ↦ before h k v d earlier shows
    | inr on ↦ let at = has.each h k v d on (omega (arith, low)) shows in nowhere h at.0 v k d at.1 shows
  ],
)
