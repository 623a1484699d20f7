-- Paths of a table, cut at a place: what comes there by a byte, and what goes on from there without one.
-- By induction on the path: its last edge skips, and so stays at the place, or takes the byte in front of it.
-- The hard one is `parted`, that what arrives at a place is a start there, or came by a byte from the place before.
use Rattle.std.proofs.Common.{◌≡◌, ℕ, ◌+◌, ◌<◌, ◌≤◌, ◌⊎◌, List, zero, suc, length, refl, sym, subst, inl, inr, arith, slice_index}
use Rattle.std.proofs.lemmas.Bool.{cases_eq}
use Rattle.ere_tree.specs.Derivation.{is_line_start, is_line_end}
use Rattle.ere_table.specs.Node.{Node, stop, byte, fork, at_start, at_end, fail}
use Rattle.ere_table.specs.Path.{Edge, Path, Leads}
use Rattle.ere_table.proofs.PathLemmas.{joined}
use Rattle.ere_auto.specs.Closure.{Skips, Takes, SkipPath, Reaches, Opened}

-- an edge skips, or takes the byte at its place
edge_cases : (s : List ℕ) (node : Node) (i r m : ℕ) → Edge s node i r m
    → (Skips (is_line_start s i) (is_line_end s i) node r × (m ≡ i))
    ⊎ (Takes node (slice_index s i) r × (m ≡ i + 1) × (i < length s))
edge_cases s stop i r m h = absurd h
edge_cases s (byte bytes n) i r m h = inr ((h.3, h.0), h.1, h.2)
edge_cases s (fork a b) i r m h = inl h
edge_cases s (at_start n) i r m h = inl ((h.2, h.0), h.1)
edge_cases s (at_end n) i r m h = inl ((h.2, h.0), h.1)
edge_cases s fail i r m h = absurd h

skip_edge : (s : List ℕ) (node : Node) (i r : ℕ) → Skips (is_line_start s i) (is_line_end s i) node r → Edge s node i r i
skip_edge s stop i r h = absurd h
skip_edge s (byte bytes n) i r h = absurd h
skip_edge s (fork a b) i r h = (h, refl)
skip_edge s (at_start n) i r h = (h.1, refl, h.0)
skip_edge s (at_end n) i r h = (h.1, refl, h.0)
skip_edge s fail i r h = absurd h

-- a path that is longer by an edge in front
ahead : (s : List ℕ) (T : ℕ → Node) (q i r m p j : ℕ) → Edge s (T q) i r m → Leads s T r m p j → Leads s T q i p j
ahead s T q i r m p j e h = (suc h.0, (r, m, e, h.1))

pub skips_lead : (s : List ℕ) (T : ℕ → Node) (i l q p : ℕ)
    → SkipPath (is_line_start s i) (is_line_end s i) T l q p → Leads s T q i p i
skips_lead s T i zero q p h = (0, (h, refl))
skips_lead s T i (suc l) q p h =
    ahead s T q i h.0 i p i (skip_edge s (T q) i h.0 h.1) (skips_lead s T i l h.0 p h.2)

take_edge : (s : List ℕ) (node : Node) (i r : ℕ) → i < length s → Takes node (slice_index s i) r
    → Edge s node i r (i + 1)
take_edge s stop i r b h = absurd h
take_edge s (byte bytes n) i r b h = (h.1, refl, b, h.0)
take_edge s (fork a c) i r b h = absurd h
take_edge s (at_start n) i r b h = absurd h
take_edge s (at_end n) i r b h = absurd h
take_edge s fail i r b h = absurd h

-- a path goes on, and stays in the slice
pub goes_on : (s : List ℕ) (T : ℕ → Node) (l q i p j : ℕ) → Path s T l q i p j → i ≤ j
goes_on s T zero q i p j h = omega arith
goes_on s T (suc l) q i p j h =
    elim (edge_cases s (T q) i h.0 h.1 h.2) [
      | inl skip ↦ omega (arith, goes_on s T l h.0 h.1 p j h.3, skip.1)
      | inr take ↦ omega (arith, goes_on s T l h.0 h.1 p j h.3, take.1)
    ]

pub stays_in : (s : List ℕ) (T : ℕ → Node) (l q i p j : ℕ) → Path s T l q i p j → i ≤ length s → j ≤ length s
stays_in s T zero q i p j h b = omega arith
stays_in s T (suc l) q i p j h b =
    elim (edge_cases s (T q) i h.0 h.1 h.2) [
      | inl skip ↦ stays_in s T l h.0 h.1 p j h.3 (omega (arith, skip.1))
      | inr take ↦ stays_in s T l h.0 h.1 p j h.3 (omega (arith, take.1, take.2))
    ]

-- a node that was opened is led to
pub opened_leads : (s : List ℕ) (T : ℕ → Node) (e n h q : ℕ) → Opened s T e n h q → Leads s T e h q n
opened_leads s T e n h q o =
    let step = take_edge s (T o.node) o.before q o.inside o.takes in
    subst (λ x. Leads s T e h q x) (sym o.place)
    (joined s T e h o.node o.before q (o.before + 1) o.leads
    (ahead s T o.node o.before q (o.before + 1) q (o.before + 1) step (0, (refl, refl))))

opened_ahead : (s : List ℕ) (T : ℕ → Node) (e n i r m q : ℕ) → Edge s (T e) i r m → Opened s T r n m q → Opened s T e n i q
opened_ahead s T e n i r m q g o = record {
  node = o.node;
  before = o.before;
  place = o.place;
  inside = o.inside;
  leads = ahead s T e i r m o.node o.before g o.leads;
  takes = o.takes;
}

opened_here : (s : List ℕ) (T : ℕ → Node) (e n i q : ℕ) → n ≡ i + 1 → i < length s → Takes (T e) (slice_index s i) q
    → Opened s T e n i q
opened_here s T e n i q a b t = record { node = e; before = i; place = a; inside = b; leads = (0, (refl, refl)); takes = t }

-- what arrives at the place n: a start there, or a node that was opened, and what is skipped from there
abbrev pub Parted : List ℕ → (ℕ → Node) → ℕ → ℕ → ℕ → ℕ → Type 0
Parted s T e n h p =
    ((h ≡ n) × Reaches (is_line_start s n) (is_line_end s n) T e p)
    ⊎ ((q : ℕ) × Opened s T e n h q × Reaches (is_line_start s n) (is_line_end s n) T q p)

pub parted : (s : List ℕ) (T : ℕ → Node) (l e n h p : ℕ) → Path s T l e h p n → Parted s T e n h p
parted s T zero e n h p g = inl (sym g.1, (0, g.0))
parted s T (suc l) e n h p g =
    elim (edge_cases s (T e) h g.0 g.1 g.2) [
      | inl skip ↦
          elim (parted s T l g.0 n g.1 p g.3) [
            | inl here ↦
                let same : h ≡ n = omega (arith, here.0, skip.1) in
                inl (
                  same,
                  (
                    suc here.1.0,
                    (
                      g.0,
                      subst (λ x. Skips (is_line_start s x) (is_line_end s x) (T e) g.0) same skip.0,
                      here.1.1,
                    ),
                  ),
                )
            | inr later ↦ inr (later.0, opened_ahead s T e n h g.0 g.1 later.0 g.2 later.1, later.2)
          ]
      | inr take ↦
          elim (parted s T l g.0 n g.1 p g.3) [
            | inl here ↦
                inr (g.0, opened_here s T e n h g.0 (omega (arith, here.0, take.1)) take.2 take.0, here.1)
            | inr later ↦ inr (later.0, opened_ahead s T e n h g.0 g.1 later.0 g.2 later.1, later.2)
          ]
    ]

-- a path that passes a place opens a node there
pub crosses : (s : List ℕ) (T : ℕ → Node) (l e i p j n : ℕ) → Path s T l e i p j → i < n → n ≤ j
    → (q : ℕ) × Opened s T e n i q
crosses s T zero e i p j n h a b = absurd (omega (arith, h.1))
crosses s T (suc l) e i p j n h a b =
    elim (edge_cases s (T e) i h.0 h.1 h.2) [
      | inl skip ↦
          let rest = crosses s T l h.0 h.1 p j n h.3 (omega (arith, skip.1)) b in
          (rest.0, opened_ahead s T e n i h.0 h.1 rest.0 h.2 rest.1)
      | inr take ↦
          elim (cases_eq n (i + 1)) [
            | inl here ↦ (h.0, opened_here s T e n i h.0 here take.2 take.0)
            | inr later ↦
                let behind : h.1 < n = omega (arith, take.1) in
                let rest = crosses s T l h.0 h.1 p j n h.3 behind b in
                (rest.0, opened_ahead s T e n i h.0 h.1 rest.0 h.2 rest.1)
          ]
    ]
