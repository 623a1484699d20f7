-- What is kept of the insides of groups holds, whatever is taken out, put in or forgotten.
-- None is hard.
use Rattle.std.proofs.Common.{◌≡◌, ℕ, List, [], Some, Option, subst, sym, inl, inr, arith}
use Rattle.std.specs.List.{All, Contains}
use Rattle.std.proofs.lemmas.List.Elements.{All-nil}
use Rattle.ere_tree.specs.Tree.{Tree}
use Rattle.ere_tree.specs.View.{view}
use Rattle.ere_reach.specs.declared.held.Held.{Held}
use Rattle.ere_reach.specs.declared.memo.Memo.{Memo}
use Rattle.ere_reach.specs.declared.memo.Start.{Start}
use Rattle.ere_reach.specs.declared.memo.Told.{Told}
use Rattle.ere_reach.specs.declared.site.Site.{Site}
use Rattle.ere_reach.specs.Asked.{AreBuilt, IsBuilt}
use Rattle.ere_reach.specs.Memo.{AllHold, HasOld, HasOldOr, Holds, IsOf, LeadsFrom}

pub none_hold : (site : Site) (memo : Memo) → memo.slots.items ≡ [] → memo.asked.all.items ≡ [] → AllHold site memo
none_hold site memo none nothing = record {
  told = λ told at. let few = subst (λ (all : List (Option Told)). Contains all (Some told)) none at in
      absurd (omega (arith, few.1));
  asked = subst (All IsBuilt) (sym nothing) (All-nil IsBuilt);
}

pub still_hold : (site : Site) (old new : Memo) → HasOld old new → new.asked ≡ old.asked → AllHold site old
    → AllHold site new
still_hold site old new has same all = record {
  told = λ told at. all.told told (has told at);
  asked = subst AreBuilt (sym same) all.asked;
}

pub more_hold : (site : Site) (old : Memo) (told : Told) (new : Memo) → HasOldOr old told new → new.asked ≡ old.asked
    → AllHold site old → Holds site told → AllHold site new
more_hold site old told new has same all holds = record {
  told = λ one at. elim (has one at) [
    | inl was ↦ all.told one was
    | inr is ↦ subst (Holds site) (sym is) holds
  ];
  asked = subst AreBuilt (sym same) all.asked;
}

-- what is told of a start is what it leads to
pub told_leads : (site : Site) (t : Tree) (start : Start) (told : Told) → IsOf t start told → Holds site told
    → LeadsFrom site t start.live.now start.held.now start.from told.rows
told_leads site t start told is holds =
    subst (λ (x : Tree). LeadsFrom site x start.live.now start.held.now start.from told.rows) is.inner
    (subst (λ (x : List ℕ). LeadsFrom site (view told.inner.now) x start.held.now start.from told.rows) is.live
    (subst (λ (x : List Held). LeadsFrom site (view told.inner.now) told.live.items x start.from told.rows) is.held
    (subst (λ (x : ℕ). LeadsFrom site (view told.inner.now) told.live.items told.held.items x told.rows) is.from holds)))

pub told_holds : (site : Site) (t : Tree) (start : Start) (told : Told) → IsOf t start told
    → LeadsFrom site t start.live.now start.held.now start.from told.rows → Holds site told
told_holds site t start told is leads =
    subst (λ (x : ℕ). LeadsFrom site (view told.inner.now) told.live.items told.held.items x told.rows) (sym is.from)
    (subst (λ (x : List Held). LeadsFrom site (view told.inner.now) told.live.items x start.from told.rows) (sym is.held)
    (subst (λ (x : List ℕ). LeadsFrom site (view told.inner.now) x start.held.now start.from told.rows) (sym is.live)
    (subst (λ (x : Tree). LeadsFrom site x start.live.now start.held.now start.from told.rows) (sym is.inner) leads)))
