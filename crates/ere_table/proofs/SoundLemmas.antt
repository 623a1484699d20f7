-- What a table leads through is derived by the tree that stands in it.
-- By induction on the tree, with a path's length for loops: a path from a tree's first node passes its last one.
-- The hard one is `repeat_sound`, and in it `copies_sound`: which copies a path went through.
use Rattle.std.proofs.Common.{◌≡◌, ℕ, Bool, true, false, Option, Some, None, List, [], ◌∷◌, ◌+◌, ◌≤◌, zero, suc, length, refl, sym, ap, ◌∙◌, subst, inl, inr, arith, slice_index, true≢false}
use Rattle.std.specs.Prelude.{slice_index_or}
use Rattle.std.specs.List.{Contains}
use Rattle.std.proofs.lemmas.Bool.{cases_lt}
use Rattle.ere_tree.specs.Tree.{Tree, Trees, empty, plain, set, line_start, line_end, cat, alt, repeat, group, back, none, then}
use Rattle.ere_tree.specs.Captures.{Captures}
use Rattle.std.specs.FinMap.{insert}
use Rattle.ere_tree.specs.Derivation.{Way, Ways, leaf, parts, members, chosen, inside, done, next, Derives, DerivesAll, DerivesEach, tree_at, part, IsPart, CanRepeat, count_of}
use Rattle.ere_table.specs.Node.{Node, stop, byte, fork, at_start, at_end, fail}
use Rattle.ere_table.specs.Path.{Edge, Path}
use Rattle.ere_table.specs.Stands.{PlainStands, LoopStands, CopiesStand, RepeatStands, Stands, AllStand, OneStands}
use Rattle.ere_tree.proofs.DerivationLemmas.{is_part}
use Rattle.ere_table.proofs.PathLemmas.{part_more, part_none}

abbrev is_stop : Node → Bool
is_stop stop = true
is_stop (byte bytes n) = false
is_stop (fork a b) = false
is_stop (at_start n) = false
is_stop (at_end n) = false
is_stop fail = false

-- a path to the stop from a node that isn't it begins with an edge
taken : (s : List ℕ) (T : ℕ → Node) (f : ℕ) (node : Node) (l e i j : ℕ) → T f ≡ stop → T e ≡ node
    → is_stop node ≡ false → Path s T l e i f j
    → (k : ℕ) × (r : ℕ) × (m : ℕ) × (suc k ≤ l) × Edge s node i r m × Path s T k r m f j
taken s T f node zero e i j a b c h = absurd (true≢false (sym (ap is_stop (sym b ∙ ap T (sym h.0) ∙ a)) ∙ c))
taken s T f node (suc k) e i j a b c h =
    (k, h.0, h.1, omega arith, subst (λ x. Edge s x i h.0 h.1) b h.2, h.3)

moved : (s : List ℕ) (T : ℕ → Node) (k q i r m f j : ℕ) → r ≡ q → m ≡ i → Path s T k r m f j → Path s T k q i f j
moved s T k q i r m f j a b h = subst (λ x. Path s T k q x f j) b (subst (λ x. Path s T k x m f j) a h)

-- how a path goes on once the tree is derived
abbrev pub Left : List ℕ → (ℕ → Node) → ℕ → ℕ → (Way → ℕ → Captures → Type 0) → ℕ → ℕ → Type 0
Left s T f l D n j =
    (m : ℕ) × (k : ℕ) × (w : Way) × (d : Captures) × (k ≤ l) × D w m d × Path s T k n m f j

abbrev pub LeftRow : List ℕ → (ℕ → Node) → ℕ → ℕ → (Ways → ℕ → Captures → Type 0) → ℕ → ℕ → Type 0
LeftRow s T f l D n j =
    (m : ℕ) × (k : ℕ) × (w : Ways) × (d : Captures) × (k ≤ l) × D w m d × Path s T k n m f j

abbrev pub IsSound : List ℕ → (ℕ → Node) → ℕ → Tree → Type 0
IsSound s T f t = (l e n i j : ℕ) (c : Captures) → i ≤ length s → Stands T t e n → Path s T l e i f j
    → Left s T f l (λ w m d. Derives s t w i m c d) n j

only_one : (b y : ℕ) → Contains (b ∷ []) y → b ≡ y
only_one b y h = let z : h.0 ≡ 0 = omega (arith, h.1) in subst (λ k. slice_index_or (b ∷ []) k y ≡ y) z h.2

plain_sound : (s : List ℕ) (T : ℕ → Node) (f : ℕ) → T f ≡ stop → (bytes : List ℕ) (l e n i j : ℕ) → i ≤ length s
    → PlainStands T bytes e n → Path s T l e i f j
    → (m : ℕ) × (k : ℕ) × (k ≤ l) × IsPart s i m × (part s i m ≡ bytes) × Path s T k n m f j
plain_sound s T f z [] l e n i j b h p =
    (i, l, omega arith, (omega arith, b), part_none s i, moved s T l n i e i f j h refl p)
plain_sound s T f z (x ∷ bs) l e n i j b h p =
    let one = taken s T f (byte (x ∷ []) h.0) l e i j z h.1 refl p in
    let edge = one.4 in
    let rest = plain_sound s T f z bs one.0 h.0 n (i + 1) j (omega (arith, edge.2)) h.2
    (moved s T one.0 h.0 (i + 1) one.1 one.2 f j edge.0 edge.1 one.5) in
    let long : i + 1 ≤ rest.0 = rest.3.0 in (
      rest.0,
      rest.1,
      omega (arith, one.3, rest.2),
      (omega (arith, long), rest.3.1),
      part_more s i rest.0 (omega (arith, long)) rest.3.1
          ∙ (λ k. sym (only_one x (slice_index s i) edge.3) k ∷ rest.4 k),
      rest.5,
    )

-- REPEATS

loop_sound : (s : List ℕ) (T : ℕ → Node) (f : ℕ) (t : Tree) → T f ≡ stop → IsSound s T f t
    → (fuel l : ℕ) → l ≤ fuel → (e a n i j : ℕ) (c : Captures) → i ≤ length s → T e ≡ fork a n → Stands T t a e
    → Path s T l e i f j → LeftRow s T f l (λ ws m d. DerivesEach s t zero ws i m c d) n j
loop_sound s T f t z all zero l u e a n i j c b h g p =
    absurd (omega (arith, u, (taken s T f (fork a n) l e i j z h refl p).3))
loop_sound s T f t z all (suc fuel) l u e a n i j c b h g p =
    let one = taken s T f (fork a n) l e i j z h refl p in
    elim one.4.0 [
      | inr out ↦
          (i, one.0, done, c, omega (arith, one.3), (refl, b, refl), moved s T one.0 n i one.1 one.2 f j out one.4.1 one.5)
      | inl in_ ↦
          let member = all one.0 a e i j c b g (moved s T one.0 a i one.1 one.2 f j in_ one.4.1 one.5) in
          let within = (is_part s t member.2 i member.0 c member.3 member.5).1 in
          elim (cases_lt i member.0) [
            | inl more ↦
                let rest = loop_sound s T f t z all fuel member.1 (omega (arith, u, one.3, member.4)) e a n member.0 j
                member.3 within h g member.6 in (
                  rest.0,
                  rest.1,
                  next member.0 member.2 rest.2,
                  rest.3,
                  omega (arith, one.3, member.4, rest.4),
                  (member.3, member.5, more, rest.5),
                  rest.6,
                )
            | inr less ↦
                let same : member.0 ≡ i = omega (arith, less, (is_part s t member.2 i member.0 c member.3 member.5).0) in
                let rest = loop_sound s T f t z all fuel member.1 (omega (arith, u, one.3, member.4)) e a n i j c b h g
                (moved s T member.1 e i e member.0 f j refl same member.6) in
                (rest.0, rest.1, rest.2, rest.3, omega (arith, one.3, member.4, rest.4), rest.5, rest.6)
          ]
    ]

loops_sound : (s : List ℕ) (T : ℕ → Node) (f : ℕ) (t : Tree) → T f ≡ stop → IsSound s T f t
    → (least l e n i j : ℕ) (c : Captures) → i ≤ length s → LoopStands T (Stands T t) least e n → Path s T l e i f j
    → LeftRow s T f l (λ ws m d. (least ≤ count_of ws) × DerivesEach s t least ws i m c d) n j
loops_sound s T f t z all zero l e n i j c b h p =
    let r = loop_sound s T f t z all l l (omega arith) e h.0 n i j c b h.1 h.2 p in
    (r.0, r.1, r.2, r.3, r.4, (omega arith, r.5), r.6)
loops_sound s T f t z all (suc least) l e n i j c b h p =
    let member = all l e h.0 i j c b h.1 p in
    let within = (is_part s t member.2 i member.0 c member.3 member.5).1 in
    let rest = loops_sound s T f t z all least member.1 h.0 n member.0 j member.3 within h.2 member.6 in (
      rest.0,
      rest.1,
      next member.0 member.2 rest.2,
      rest.3,
      omega (arith, member.4, rest.4),
      (omega (arith, rest.5.0), (member.3, member.5, rest.5.1)),
      rest.6,
    )

abbrev Counted : ℕ → ℕ → Ways → Type 0
Counted least most ws = (least ≤ count_of ws) × (count_of ws ≤ most)

copies_sound : (s : List ℕ) (T : ℕ → Node) (f : ℕ) (t : Tree) → T f ≡ stop → IsSound s T f t
    → (least most l e n i j : ℕ) (c : Captures) → i ≤ length s → CopiesStand T (Stands T t) least most e n
    → Path s T l e i f j
    → LeftRow s T f l (λ ws m d. Counted least most ws × DerivesEach s t least ws i m c d) n j
copies_sound s T f t z all zero zero l e n i j c b h p =
    (i, l, done, c, omega arith, ((omega arith, omega arith), (refl, b, refl)), moved s T l n i e i f j h refl p)
copies_sound s T f t z all zero (suc most) l e n i j c b h p =
    let one = taken s T f (fork h.0 n) l e i j z h.2 refl p in
    elim one.4.0 [
      | inr out ↦ (
        i,
        one.0,
        done,
        c,
        omega (arith, one.3),
        ((omega arith, omega arith), (refl, b, refl)),
        moved s T one.0 n i one.1 one.2 f j out one.4.1 one.5,
      )
      | inl in_ ↦
          let member = all one.0 h.0 h.1 i j c b h.3 (moved s T one.0 h.0 i one.1 one.2 f j in_ one.4.1 one.5) in
          let within = (is_part s t member.2 i member.0 c member.3 member.5).1 in
          elim (cases_lt i member.0) [
            | inl more ↦
                let rest = copies_sound s T f t z all zero most member.1 h.1 n member.0 j member.3 within h.4 member.6 in (
                  rest.0,
                  rest.1,
                  next member.0 member.2 rest.2,
                  rest.3,
                  omega (arith, one.3, member.4, rest.4),
                  ((omega arith, omega (arith, rest.5.0.1)), (member.3, member.5, more, rest.5.1)),
                  rest.6,
                )
            | inr less ↦
                let same : member.0 ≡ i = omega (arith, less, (is_part s t member.2 i member.0 c member.3 member.5).0) in
                let rest = copies_sound s T f t z all zero most member.1 h.1 n i j c b h.4
                (moved s T member.1 h.1 i h.1 member.0 f j refl same member.6) in (
                  rest.0,
                  rest.1,
                  rest.2,
                  rest.3,
                  omega (arith, one.3, member.4, rest.4),
                  ((omega arith, omega (arith, rest.5.0.1)), rest.5.1),
                  rest.6,
                )
          ]
    ]
copies_sound s T f t z all (suc least) zero l e n i j c b h p = absurd ((taken s T f fail l e i j z h refl p).4)
copies_sound s T f t z all (suc least) (suc most) l e n i j c b h p =
    let member = all l e h.0 i j c b h.1 p in
    let within = (is_part s t member.2 i member.0 c member.3 member.5).1 in
    let rest = copies_sound s T f t z all least most member.1 h.0 n member.0 j member.3 within h.2 member.6 in (
      rest.0,
      rest.1,
      next member.0 member.2 rest.2,
      rest.3,
      omega (arith, member.4, rest.4),
      ((omega (arith, rest.5.0.0), omega (arith, rest.5.0.1)), (member.3, member.5, rest.5.1)),
      rest.6,
    )

repeat_sound : (s : List ℕ) (T : ℕ → Node) (f : ℕ) (t : Tree) → T f ≡ stop → IsSound s T f t
    → (least : ℕ) (most : Option ℕ) (l e n i j : ℕ) (c : Captures) → i ≤ length s
    → RepeatStands T (Stands T t) least most e n → Path s T l e i f j
    → LeftRow s T f l (λ ws m d. CanRepeat least most (count_of ws) × DerivesEach s t least ws i m c d) n j
repeat_sound s T f t z all least None l e n i j c b h p =
    let r = loops_sound s T f t z all least l e n i j c b h p in
    (r.0, r.1, r.2, r.3, r.4, ((r.5.0, tt), r.5.1), r.6)
repeat_sound s T f t z all least (Some most) l e n i j c b h p =
    copies_sound s T f t z all least most l e n i j c b h p

-- ALL TREES

mutual
  pub sound : (s : List ℕ) (T : ℕ → Node) (f : ℕ) → T f ≡ stop → (t : Tree) → IsSound s T f t
  sound s T f z empty l e n i j c b h p =
      (i, l, leaf, c, omega arith, (refl, b, refl), moved s T l n i e i f j h refl p)
  sound s T f z (plain bytes) l e n i j c b h p =
      let r = plain_sound s T f z bytes l e n i j b h p in
      (r.0, r.1, leaf, c, r.2, (r.3, r.4, refl), r.5)
  sound s T f z (set bytes) l e n i j c b h p =
      let one = taken s T f (byte bytes n) l e i j z h refl p in (
        i + 1,
        one.0,
        leaf,
        c,
        omega (arith, one.3),
        (refl, one.4.2, one.4.3, refl),
        moved s T one.0 n (i + 1) one.1 one.2 f j one.4.0 one.4.1 one.5,
      )
  sound s T f z line_start l e n i j c b h p =
      let one = taken s T f (at_start n) l e i j z h refl p in (
        i,
        one.0,
        leaf,
        c,
        omega (arith, one.3),
        (refl, one.4.2, refl),
        moved s T one.0 n i one.1 one.2 f j one.4.0 one.4.1 one.5,
      )
  sound s T f z line_end l e n i j c b h p =
      let one = taken s T f (at_end n) l e i j z h refl p in (
        i,
        one.0,
        leaf,
        c,
        omega (arith, one.3),
        (refl, one.4.2, refl),
        moved s T one.0 n i one.1 one.2 f j one.4.0 one.4.1 one.5,
      )
  sound s T f z (cat all) l e n i j c b h p =
      let r = all_sound s T f z all l e n i j c b h p in
      (r.0, r.1, parts r.2, r.3, r.4, r.5, r.6)
  sound s T f z (alt all) l e n i j c b h p =
      let r = one_sound s T f z all l e n i j c b h p in
      (r.0, r.2, chosen r.1 r.3, r.4, r.5, (r.6, r.7, r.8), r.9)
  sound s T f z (repeat inner least most) l e n i j c b h p =
      let r = repeat_sound s T f inner z (sound s T f z inner) least most l e n i j c b h p in
      (r.0, r.1, members r.2, r.3, r.4, r.5, r.6)
  sound s T f z (group number inner) l e n i j c b h p =
      let r = sound s T f z inner l e n i j c b h p in
      (r.0, r.1, inside r.2, insert r.3 number (i, r.0), r.4, (r.3, r.5, refl), r.6)
  sound s T f z (back number fold) l e n i j c b h p = absurd h

  all_sound : (s : List ℕ) (T : ℕ → Node) (f : ℕ) → T f ≡ stop → (ts : Trees) (l e n i j : ℕ) (c : Captures)
      → i ≤ length s → AllStand T ts e n → Path s T l e i f j
      → LeftRow s T f l (λ ws m d. DerivesAll s ts ws i m c d) n j
  all_sound s T f z none l e n i j c b h p =
      (i, l, done, c, omega arith, (refl, b, refl), moved s T l n i e i f j h refl p)
  all_sound s T f z (then t ts) l e n i j c b h p =
      let one = sound s T f z t l e h.0 i j c b h.1 p in
      let within = (is_part s t one.2 i one.0 c one.3 one.5).1 in
      let rest = all_sound s T f z ts one.1 h.0 n one.0 j one.3 within h.2 one.6 in
      (rest.0, rest.1, next one.0 one.2 rest.2, rest.3, omega (arith, one.4, rest.4), (one.3, one.5, rest.5), rest.6)

  one_sound : (s : List ℕ) (T : ℕ → Node) (f : ℕ) → T f ≡ stop → (ts : Trees) (l e n i j : ℕ) (c : Captures)
      → i ≤ length s → OneStands T ts e n → Path s T l e i f j
      → (m : ℕ) × (x : ℕ) × (k : ℕ) × (w : Way) × (d : Captures) × (k ≤ l) × (one : Tree)
      × (tree_at ts x ≡ Some one) × Derives s one w i m c d × Path s T k n m f j
  one_sound s T f z none l e n i j c b h p = absurd ((taken s T f fail l e i j z h refl p).4)
  one_sound s T f z (then t ts) l e n i j c b h p =
      let one = taken s T f (fork h.0 h.1) l e i j z h.2 refl p in
      elim one.4.0 [
        | inl left ↦
            let r = sound s T f z t one.0 h.0 n i j c b h.3 (moved s T one.0 h.0 i one.1 one.2 f j left one.4.1 one.5) in
            (r.0, 0, r.1, r.2, r.3, omega (arith, one.3, r.4), t, refl, r.5, r.6)
        | inr right ↦
            let r = one_sound s T f z ts one.0 h.1 n i j c b h.4
            (moved s T one.0 h.1 i one.1 one.2 f j right one.4.1 one.5) in
            (r.0, suc r.1, r.2, r.3, r.4, omega (arith, one.3, r.5), r.6, r.7, r.8, r.9)
      ]
