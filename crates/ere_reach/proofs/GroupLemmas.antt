-- A group: where it isn't read, what it holds leads where it leads. Where it is, what is found behind what it holds is told
-- with what it is closed over, place by place.
-- The hard one is `group_more`: one place more from which the group is gone through.
use Rattle.std.proofs.Common.{◌≡◌, ◌≢◌, ◌↔◌, ℕ, ◌||◌, ◌≤◌, false, List, [], ◌∷◌, refl, sym, ap, ◌∙◌, subst, inl, inr, arith, ne_eqb}
use Rattle.std.specs.Prelude.{◌⊎◌, Vec}
use Rattle.std.specs.declared.alloc.Global.{Global}
use Rattle.std.specs.FinMap.{insert}
use Rattle.std.specs.List.{Contains}
use Rattle.ere_captures.proofs.KeepLemmas.{get_other}
use Rattle.ere_places.proofs.SpanLemmas.{spans_from}
use Rattle.ere_places.specs.Places.{Finds, Leads}
use Rattle.ere_places.specs.declared.window.Direction.{Direction}
use Rattle.ere_places.specs.declared.window.Direction.TheVariants.{Ahead}
use Rattle.ere_places.specs.declared.window.Window.{Window}
use Rattle.ere_tree.proofs.DerivationLemmas.{is_part}
use Rattle.ere_tree.specs.Captures.{Captures}
use Rattle.ere_tree.specs.Derivation.{Way, inside, Derives}
use Rattle.ere_tree.specs.Shape.{has_refs}
use Rattle.ere_tree.specs.Tree.{Tree, group}
use Rattle.ere_reach.specs.declared.held.Held.{Held}
use Rattle.ere_reach.specs.declared.rows.Rows.{Rows}
use Rattle.ere_reach.specs.declared.site.Site.{Site}
use Rattle.ere_reach.specs.Held.{Covers, Tells, part_in}
use Rattle.ere_reach.specs.Leads.{Does, IsClosed, LeadsOver, PutsClosed}
use Rattle.ere_reach.specs.Live.{HasRead, reads, surely_sets}
use Rattle.ere_reach.specs.Memo.{LeadsFrom}
use Rattle.ere_reach.specs.Moving.{sets_one}
use Rattle.ere_reach.specs.Rows.{HasState, States}
use Rattle.ere_reach.proofs.CoversLemmas.{covers_closed, covers_on}
use Rattle.ere_reach.proofs.KeepsLemmas.{PutsEnds}
use Rattle.ere_reach.proofs.StepLemmas.{FullBy, GoesBy, GoneBy, Never, full_stays, untouched}
use Rattle.ere_reach.proofs.TakenLemmas.{Grows, gone_more, one_has, one_is}

-- what a step from a state is, what is asked for of one, and what was gone through so far
abbrev pub Closes : Site → ℕ → Tree → List ℕ → List Held → ℕ → States
Closes site number t live = GoesBy site (Does site.text.now (group number t)) (reads (group number t)) live

abbrev pub ClosesFully : Site → ℕ → Tree → List ℕ → List Held → ℕ → States → Type 0
ClosesFully site number t live = FullBy site (Does site.text.now (group number t)) (reads (group number t)) live

abbrev pub ClosesSoFar : Site → ℕ → Tree → List ℕ → States → Rows → Type 0
ClosesSoFar site number t live = GoneBy site (Does site.text.now (group number t)) (reads (group number t)) live

group_out : (s : List ℕ) (number : ℕ) (t : Tree) (p q : ℕ) (c d : Captures) → Does s (group number t) p q c d
    → (w : Way) × (e : Captures) × Derives s t w p q c e × (d ≡ insert e number (p, q))
group_out s number t p q c d (inside w, h) = (w, h.0, h.1, h.2)
group_out s number t p q c d (w, h) = absurd h

-- what is read inside is read before
pub inside_read : (number : ℕ) (t : Tree) (live others before : List ℕ)
    → ((n : ℕ) → Contains others n → Contains live n × (number ≢ n)) → HasRead (reads (group number t)) live before
    → HasRead (reads t) others before
inside_read number t live others before rest has n (inl refers) = has n (inl refers)
inside_read number t live others before rest has n (inr (read, unset)) =
    let r = rest n read in
    has n (inr (r.0, ap (λ b. b || surely_sets t n) (ne_eqb number n r.1) ∙ unset))

-- WHERE THE GROUP ISN'T READ

pub group_over : (site : Site) (number : ℕ) (t : Tree) (live : List ℕ) (from found : Rows)
    → (Contains live number → ⊥) → LeadsOver site t live from found → LeadsOver site (group number t) live from found
group_over site number t live from found unread leads before has =
    let all = leads before (inside_read number t live live before (λ n read. (read, other n read)) has) in
    record {
      sound = λ h q f.
          let g = all.sound h q f in (
            g.0,
            g.1,
            g.2,
            λ c covers.
                let d = g.3 c covers in
                (insert d.0 number (g.1, q), (inside d.1.0, (d.0, d.1.1, refl)), behind h g.1 q d.0 d.2),
          );
      complete = λ g p c q d at covers does fits.
          let e = group_out site.text.now number t p q c d does in
          let f = all.complete g p c q e.1 at covers (e.0, e.2) fits in
          (f.0, f.1, subst (Covers site.text.now site.high live f.0 q) (sym e.3) (behind f.0 p q e.1 f.2));
      inside = all.inside;
    }
  where
    other : (n : ℕ) → Contains live n → number ≢ n
    other n read e = unread (subst (Contains live) (sym e) read)

    behind : (h : List Held) (p q : ℕ) (c : Captures) → Covers site.text.now site.high live h q c
        → Covers site.text.now site.high live h q (insert c number (p, q))
    behind h p q c covers n read =
        subst (Tells site.text.now site.high q (part_in h n)) (sym (get_other c number (p, q) n (λ e. other n read (sym e))))
        (covers n read)

-- WHERE IT IS

module _ (site : Site) (number : ℕ) (t : Tree) (live others : List ℕ)
    (rest : (n : ℕ) → Contains others n ↔ (Contains live n × (n ≢ number))) where
  within : (before : List ℕ) → HasRead (reads (group number t)) live before → HasRead (reads t) others before
  within before has = inside_read number t live others before
      (λ n read. let r = (rest n).0 read in (r.0, λ e. r.1 (sym e))) has

  pub group_more : (g : List Held) (p : ℕ) (inner old new : Rows) (S T : States) → site.low ≤ p
      → LeadsFrom site t others g p inner → PutsClosed site number p live inner old new → Grows S g (p ∷ []) T
      → ClosesSoFar site number t live S old
      → ClosesSoFar site number t live T new
  group_more g p inner old new S T in_low leads puts grows gone =
      gone_more Never (Closes site number t live)
      (ClosesFully site number t live) S T (HasState old)
      (HasState new) g (p ∷ []) (full_stays site (Does site.text.now (group number t)) (reads (group number t)) live)
      grows puts.kept from
      (λ b at. subst (λ x. ClosesFully site number t live g x (HasState new)) (one_is p b at) whole) gone
    where
      goes : (h k : List Held) (q : ℕ) → HasState inner k q → p ≤ q → q ≤ site.high
          → IsClosed site number p live k q h
          → Closes site number t live g p h q
      goes h k q at on fits (cap, tells, kept) = (
        omega arith,
        fits,
        λ before has c covers.
            let e = (leads before (within before has)).sound k q at c covers in (
              insert e.0 number (p, q),
              (inside e.1.0, (e.0, e.1.1, refl)),
              covers_closed site.text.now site.high others live number p q cap k h e.0
                  (λ n read apart. (rest n).1 (read, apart)) tells kept e.2,
            ),
      )

      from : (h : List Held) (q : ℕ) → HasState new h q
          → HasState old h q ⊎ ((b : ℕ) × Contains (p ∷ []) b × Closes site number t live g b h q)
      from h q f = elim (puts.alone h q f) [
        | inl was ↦ inl was
        | inr (k, at, on, fits, closed) ↦ inr (p, one_has p, goes h k q at on fits closed)
      ]

      whole : ClosesFully site number t live g p (HasState new)
      whole before has c q d covers does fits =
          let e = group_out site.text.now number t p q c d does in
          let on = is_part site.text.now t e.0 p q c e.1 e.2 in
          let f = (leads before (within before has)).complete c q e.1 covers (e.0, e.2) fits in
          let h = puts.put f.0 q f.1 on.0 fits in (
            h.0,
            h.1,
            subst (Covers site.text.now site.high live h.0 q) (sym e.3)
                (covers_closed site.text.now site.high others live number p q h.2.0 f.0 h.0 e.1
                (λ n read apart. (rest n).1 (read, apart)) h.2.1 h.2.2 f.2),
          )

  -- what it holds has no reference and sets no other group that is read
  free_covers : (before : List ℕ) (g : List Held) (w : Way) (p q : ℕ) (c d : Captures) → sets_one t others ≡ false
      → HasRead (reads t) others before → Covers site.text.now site.high before g p c → Derives site.text.now t w p q c d
      → Covers site.text.now site.high others g q d
  free_covers before g w p q c d unset has covers derives =
      let same = λ (n : ℕ) (read : Contains others n). untouched site.text.now others n read t w p q c d unset derives in
      covers_on site.text.now site.high before others g g p q c d (is_part site.text.now t w p q c d derives).0
      (λ n read. has n (inr (read, (same n read).1))) (λ n read. refl) (λ n read. (same n read).0) covers

  pub free_group_more : has_refs t ≡ false → sets_one t others ≡ false → (window : Window) → window.low ≡ site.low
      → window.high ≡ site.high → window.direction ≡ Ahead → (g : List Held) (p : ℕ) (ends : Vec ℕ Global)
      (old new : Rows) (S T : States) → site.low ≤ p → Finds site.text.now t window (p ∷ []) ends
      → PutsEnds site number p live g ends.items old new → Grows S g (p ∷ []) T
      → ClosesSoFar site number t live S old
      → ClosesSoFar site number t live T new
  free_group_more refs unset window low high ahead g p ends old new S T in_low finds puts grows gone =
      gone_more Never (Closes site number t live)
      (ClosesFully site number t live) S T (HasState old)
      (HasState new) g (p ∷ []) (full_stays site (Does site.text.now (group number t)) (reads (group number t)) live)
      grows puts.kept from
      (λ b at. subst (λ x. ClosesFully site number t live g x (HasState new)) (one_is p b at) whole) gone
    where
      goes : (h : List Held) (q : ℕ) → Contains ends.items q → p ≤ q → q ≤ site.high
          → IsClosed site number p live g q h
          → Closes site number t live g p h q
      goes h q at on fits (cap, tells, kept) = (
        omega arith,
        fits,
        λ before has c covers.
            let r = (finds q).0 at in
            let spans = subst (λ (x : Direction). Leads site.text.now t x p q) ahead
            (subst (λ b. Leads site.text.now t window.direction b q) (sym (one_is p r.0 r.1)) r.2.0) in
            let d = spans_from site.text.now t p q refs spans c in (
              insert d.1 number (p, q),
              (inside d.0, (d.1, d.2, refl)),
              covers_closed site.text.now site.high others live number p q cap g h d.1
                  (λ n read apart. (rest n).1 (read, apart)) tells kept
                  (free_covers before g d.0 p q c d.1 unset (within before has) covers d.2),
            ),
      )

      from : (h : List Held) (q : ℕ) → HasState new h q
          → HasState old h q ⊎ ((b : ℕ) × Contains (p ∷ []) b × Closes site number t live g b h q)
      from h q f = elim (puts.alone h q f) [
        | inl was ↦ inl was
        | inr (at, on, fits, closed) ↦ inr (p, one_has p, goes h q at on fits closed)
      ]

      whole : ClosesFully site number t live g p (HasState new)
      whole before has c q d covers does fits =
          let e = group_out site.text.now number t p q c d does in
          let on = (is_part site.text.now t e.0 p q c e.1 e.2).0 in
          let leads : Leads site.text.now t window.direction p q =
          subst (λ (x : Direction). Leads site.text.now t x p q) (sym ahead) (e.0, c, e.1, e.2) in
          let at = (finds q).1 (p, one_has p, (leads, (omega (arith, on, low, in_low), omega (arith, fits, high)))) in
          let h = puts.put q at on fits in (
            h.0,
            h.1,
            subst (Covers site.text.now site.high live h.0 q) (sym e.3)
                (covers_closed site.text.now site.high others live number p q h.2.0 g h.0 e.1
                (λ n read apart. (rest n).1 (read, apart)) h.2.1 h.2.2
                (free_covers before g e.0 p q c e.1 unset (within before has) covers e.2)),
          )
