-- What a list tells of captures: at a later place, for fewer groups, where it is kept, and behind a group that is closed.
use Rattle.std.proofs.Common.{◌≡◌, ◌≢◌, ℕ, ◌≤◌, if◌then◌else◌, Option, Some, None, List, sym, ap, ◌∙◌, subst, inl, inr, arith, eq-eqb, ne_eqb}
use Rattle.std.specs.FinMap.{get, insert}
use Rattle.std.specs.List.{Contains}
use Rattle.std.proofs.lemmas.Bool.{cases_eq}
use Rattle.ere_captures.proofs.KeepLemmas.{get_set, get_other}
use Rattle.ere_tree.specs.Captures.{Captures}
use Rattle.ere_tree.specs.declared.hit.Cap.{Cap}
use Rattle.ere_reach.specs.declared.held.Held.{Held}
use Rattle.ere_reach.specs.Held.{Covers, IsKept, IsKeptWith, Tells, part_in}

tells_later : (s : List ℕ) (high p q : ℕ) → p ≤ q → (cap : Option Cap) (holds : Option (ℕ × ℕ))
    → Tells s high p cap holds → Tells s high q cap holds
tells_later s high p q on None None h = h
tells_later s high p q on None (Some r) h = λ i j low. h i j (omega arith)
tells_later s high p q on (Some cap) holds h = h

-- a list that is kept covers what holds the same in the groups that are read, from there on
pub covers_on : (s : List ℕ) (high : ℕ) (before live : List ℕ) (g h : List Held) (p q : ℕ) (c d : Captures) → p ≤ q
    → ((n : ℕ) → Contains live n → Contains before n) → IsKept live g h
    → ((n : ℕ) → Contains live n → get d n ≡ get c n) → Covers s high before g p c → Covers s high live h q d
covers_on s high before live g h p q c d on fewer kept same covers n has =
    subst (λ (cap : Option Cap). Tells s high q cap (get d n)) (sym (kept n has))
    (subst (λ (holds : Option (ℕ × ℕ)). Tells s high q (part_in g n) holds) (sym (same n has))
    (tells_later s high p q on (part_in g n) (get c n) (covers n (fewer n has))))

-- behind a group that is closed over [p, q)
pub covers_closed : (s : List ℕ) (high : ℕ) (others live : List ℕ) (number p q : ℕ) (cap : Option Cap)
    (g h : List Held) (c : Captures) → ((n : ℕ) → Contains live n → n ≢ number → Contains others n)
    → Tells s high q cap (Some (p, q)) → IsKeptWith live number cap g h → Covers s high others g q c
    → Covers s high live h q (insert c number (p, q))
covers_closed s high others live number p q cap g h c rest tells kept covers n has = elim (cases_eq n number) [
  | inl own ↦
      subst (λ (x : Option Cap). Tells s high q x (get (insert c number (p, q)) n))
      (sym (kept n has ∙ ap (λ b. if b then cap else part_in g n) (eq-eqb n number own)))
      (subst (λ (holds : Option (ℕ × ℕ)). Tells s high q cap holds)
      (sym (ap (get (insert c number (p, q))) own ∙ get_set c number (p, q))) tells)
  | inr other ↦
      subst (λ (x : Option Cap). Tells s high q x (get (insert c number (p, q)) n))
      (sym (kept n has ∙ ap (λ b. if b then cap else part_in g n) (ne_eqb n number other)))
      (subst (λ (holds : Option (ℕ × ℕ)). Tells s high q (part_in g n) holds)
      (sym (get_other c number (p, q) n other)) (covers n (rest n has other)))
]
