-- States that are entered once over all rounds: those that are fresh, with only those groups that are read before a member.
-- Each is kept from a state that is there, and what a member leads to from those gone on from is there.
-- The hard one is `rounds_more`: what was fresh is entered now or was before, and either way what follows is there.
use Rattle.std.proofs.Common.{◌≡◌, ◌⊎◌, ℕ, ◌+◌, ◌≤◌, List, [], length, take, refl, sym, ap, ◌∙◌, subst, inl, inr, arith, length-take}
use Rattle.std.proofs.lemmas.List.{nil_from_length, take_all}
use Rattle.ere_tree.specs.Captures.{Captures}
use Rattle.ere_tree.specs.Tree.{Tree}
use Rattle.ere_reach.specs.declared.held.Held.{Held}
use Rattle.ere_reach.specs.declared.row.Row.{Row}
use Rattle.ere_reach.specs.declared.rows.Rows.{Rows}
use Rattle.ere_reach.specs.declared.site.Site.{Site}
use Rattle.ere_reach.specs.Held.{Covers, IsKept}
use Rattle.ere_reach.specs.Leads.{DoesFurther, DoesOrStays, Enters, FitsText, Further, IsOldOrKept, IsSound, LeadsFurther, LeadsUpTo}
use Rattle.ere_reach.specs.Live.{AreRead, HasRead, reads}
use Rattle.ere_reach.specs.Rows.{AreInside, AreSame, HasAt, HasState, IsDone, IsFresh, IsJoined, IsPut, KeepsDone, States}
use Rattle.ere_reach.proofs.CoversLemmas.{covers_on}
use Rattle.ere_reach.proofs.KeepsLemmas.{Keeps, KeepsFully}
use Rattle.ere_reach.proofs.LeadsLemmas.{HasAll, same_itself}
use Rattle.ere_reach.proofs.MembersLemmas.{Follows, Round, fresh_there, gone_or_fresh, round_more, round_over}
use Rattle.ere_reach.proofs.RowsLemmas.{All, Fresh, no_rows}
use Rattle.ere_reach.proofs.TakenLemmas.{Gone, Grows, Stays, gone_none, gone_put, gone_skip}

-- ROWS THAT ARE ENTERED

stays : (read : List ℕ) → Stays (KeepsFully read)
stays read g p F G more whole = (whole.0, more whole.0 p whole.1, whole.2)

-- so far, row by row
pub record EntersSoFar (read : List ℕ) (old : Rows) (S : States) (new : Rows) : Type 0 where
  pub put : Gone (HasState old) (Keeps read) (KeepsFully read) S (HasState new)
  pub done : KeepsDone old new

module _ (read : List ℕ) (old : Rows) where
  pub enters_first : (rows : List Row) → EntersSoFar read old (HasAt Fresh (take 0 rows)) old
  enters_first rows = record {
    put = gone_none (HasState old) (Keeps read) (KeepsFully read) (HasAt Fresh (take 0 rows)) (HasState old)
        (no_rows Fresh (take 0 rows) (nil_from_length (take 0 rows) (omega (arith, length-take 0 rows)))) (same_itself old);
    done = λ h p. (λ x. x, λ x. x);
  }

  pub enters_more : (g h : List Held) (places : List ℕ) (S T : States) (all new : Rows) → IsKept read g h
      → Grows S g places T → IsPut all h places new → KeepsDone all new → EntersSoFar read old S all
      → EntersSoFar read old T new
  enters_more g h places S T all new kept grows put done known = record {
    put = gone_put (HasState old) (Keeps read) (KeepsFully read) S T all new g h places places (stays read) grows put
        (λ q at. (q, at, (refl, kept))) (λ p at. (h, (put h p).1 (inr (refl, at)), kept)) known.put;
    done = λ x p. (λ at. (known.done x p).0 ((done x p).0 at), λ at. (done x p).1 ((known.done x p).1 at));
  }

  -- a row without such places
  pub enters_skip : (g : List Held) (places : List ℕ) (S T : States) (all : Rows) → length places ≡ 0
      → Grows S g places T → EntersSoFar read old S all → EntersSoFar read old T all
  enters_skip g places S T all none grows known = record {
    put = gone_skip (HasState old) (Keeps read) (KeepsFully read) S T (HasState all) g places (stays read) grows
        (λ p at. absurd (omega (arith, none, at.1))) known.put;
    done = known.done;
  }

  pub enters_last : (from all new found : Rows) (rows : List Row) (k : ℕ) → rows ≡ from.rows.items → length rows ≤ k
      → EntersSoFar read old (HasAt Fresh (take k rows)) all → AreSame (HasState found) (IsFresh all)
      → AreSame (HasState new) (HasState all) → AreSame (IsDone new) (HasState all)
      → Enters read (IsFresh from) old new found
  enters_last from all new found rows k same past taken is news dones = record {
    sound = λ h p at. kept h p (fresh_there all h p ((is h p).0 at));
    kept = λ h p at. kept h p ((news h p).0 at);
    gone = λ h p at. either h p ((dones h p).0 at);
    whole = λ g p at. let h = known.put.whole g p at in (h.0, h.2, either h.0 p h.1);
  }
    where
      known : EntersSoFar read old (IsFresh from) all
      known = subst (λ (xs : List Row). EntersSoFar read old (HasAt Fresh xs) all) (take_all k rows past ∙ same) taken

      kept : (h : List Held) (p : ℕ) → HasState all h p → IsOldOrKept read (IsFresh from) old h p
      kept h p at = elim (known.put.sound h p at) [
        | inl was ↦ inl was
        | inr (g, q, there, (here, keeps)) ↦ inr (g, subst (IsFresh from g) (sym here) there, keeps)
      ]

      either : (h : List Held) (p : ℕ) → HasState all h p → IsDone old h p ⊎ HasState found h p
      either h p at = elim (gone_or_fresh all h p at) [
        | inl was ↦ inl ((known.done h p).0 was)
        | inr now ↦ inr ((is h p).1 now)
      ]

-- states that are given as they are
pub enters_all : (read : List ℕ) (from old found : Rows) → AreSame (HasState found) (IsFresh from)
    → Enters read (IsFresh from) old old found
enters_all read from old found are = record {
  sound = λ h p at. inr (h, (are h p).0 at, λ n r. refl);
  kept = λ h p at. inl at;
  gone = λ h p at. inl at;
  whole = λ g p at. (g, λ n r. refl, inr ((are g p).1 at));
}

-- ROUNDS

-- each state that was entered is one that is there, by what is read, and what a member leads to from those that were gone
-- on from is covered
pub record Entered (site : Site) (t : Tree) (live read : List ℕ) (all entered : Rows) : Type 0 where
  pub kept : (h : List Held) (p : ℕ) → HasState entered h p → (g : List Held) × HasState all g p × IsKept read g h
  pub gone : Follows site (DoesFurther site.text.now t) read live (IsDone entered) all

-- so many rounds, with what was entered
pub record Rounds (site : Site) (t : Tree) (live read : List ℕ) (rows all entered : Rows) (rounds : ℕ) : Type 0 where
  pub round : Round site t live rows all rounds
  pub entry : Entered site t live read all entered

pub entered_first : (site : Site) (t : Tree) (live read : List ℕ) (all entered : Rows) → entered.rows.items ≡ []
    → Entered site t live read all entered
entered_first site t live read all entered is = record {
  kept = λ h p has. absurd (omega (arith, has.1.1, ap length is));
  gone = λ g p c q d has covers on low. absurd (omega (arith, has.1.1, ap length is));
}

-- one round more
module _ (site : Site) (t : Tree) (live read : List ℕ) (old entered more first : Rows)
    (known : Entered site t live read old entered) (enters : Enters read (IsFresh old) entered more first) where
  from : (h : List Held) (p : ℕ) → IsOldOrKept read (IsFresh old) entered h p
      → (g : List Held) × HasState old g p × IsKept read g h
  from h p (inl was) = known.kept h p was
  from h p (inr (g, at, kept)) = (g, fresh_there old g p at, kept)

  pub first_inside : AreInside site.low site.high old → AreInside site.low site.high first
  first_inside inside h p has = let g = from h p (enters.sound h p has) in inside g.0 p g.1

  on : AreRead (reads t) live read → HasRead (reads t) live live → (g k : List Held) (p : ℕ) (c : Captures)
      → IsKept read g k → Covers site.text.now site.high live g p c → Covers site.text.now site.high read k p c
  on told has g k p c kept covers = covers_on site.text.now site.high live read g k p p c c (omega arith)
      (λ n r. has n ((told n).0 r)) kept (λ n r. refl) covers

  -- where none is left, what follows from each is there
  pub rounds_over : (rows mid : Rows) (r most : ℕ) → FitsText site → r ≤ most → AreRead (reads t) live read
      → HasRead (reads t) live live → Round site t live rows old r → AreSame (HasState mid) (HasState old)
      → length first.rows.items ≡ 0 → LeadsUpTo site t most live rows mid
  rounds_over rows mid r most fits less told has round same none =
      round_over site t live rows old mid r most fits less round same (λ g p c q d at covers step low.
      let k = enters.whole g p at in
      elim k.2 [
        | inl was ↦ known.gone k.0 p c q d was (on told has g k.0 p c k.1 covers) step low
        | inr now ↦ absurd (no_rows All first.rows.items (nil_from_length first.rows.items none) k.0 p now)
      ])

  pub rounds_more : (rows mid next new : Rows) (r : ℕ) → AreRead (reads t) live read → HasRead (reads t) live live
      → Round site t live rows old r → AreSame (HasState mid) (HasState old) → AreSame (IsDone mid) (HasState old)
      → LeadsFurther site t live first next → IsJoined mid next new → KeepsDone mid new
      → Rounds site t live read rows new more (r + 1)
  rounds_more rows mid next new r told has round same done leads join stays = record {
    round = round_more site t live rows old mid next new r round same done sound follows further.inside join stays;
    entry = record {
      kept = λ h p at. let g = from h p (enters.kept h p at) in (g.0, there g.0 p g.1, g.2);
      gone = λ k p c q d at. goes k p c q d (enters.gone k p at);
    };
  }
    where
      further : Further site t read live first next
      further = leads read (λ n r. (told n).1 r)

      there : HasAll old new
      there h p at = (join h p).1 (inl ((same h p).1 at))

      sound : IsSound site (DoesOrStays site.text.now t) live live old next
      sound h q at =
          let k = further.sound h q at in
          let g = from k.0 k.1 (enters.sound k.0 k.1 k.2) in
          (g.0, k.1, g.1, λ c covers. k.3 c (on told has g.0 k.0 k.1 c g.2 covers))

      goes : Follows site (DoesFurther site.text.now t) read live (λ k p. IsDone entered k p ⊎ HasState first k p) new
      goes k p c q d (inl was) covers step low =
          let f = known.gone k p c q d was covers step low in (f.0, there f.0 q f.1, f.2)
      goes k p c q d (inr now) covers step low =
          let f = further.complete k p c q d now covers step low in (f.0, (join f.0 q).1 (inr f.1), f.2)

      follows : Follows site (DoesFurther site.text.now t) live live (IsFresh old) new
      follows g p c q d at covers step low =
          let k = enters.whole g p at in
          goes k.0 p c q d k.2 (on told has g k.0 p c k.1 covers) step low
