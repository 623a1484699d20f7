-- A derivation of a line's expression is the line, and the other way round.
-- Shown: part by part, from the front, what is read is the part, and the part is read (`sound`, `complete`).
-- The hard one is `sound`, where each other way of a part is impossible.
use Rattle.std.proofs.Common.{◌≡◌, ℕ, suc, ◌+◌, ◌-◌, ◌<◌, ◌≤◌, IsTrue, Some, None, List, [], ◌∷◌, ◌++◌, length, length-drop, take, drop, get_or, slice_index, refl, sym, ap, ◌∙◌, subst, arith, append_assoc}
use Rattle.std.proofs.lemmas.List.{take-append-drop, drop-drop, length-append}
use Rattle.std.proofs.Math.Seq.{drop-cons, drop-append_seam, take-append_seam}
use Rattle.std.specs.List.{Contains}
use Rattle.std.specs.FinMap.{empty}
use Rattle.ere_tree.proofs.DerivationLemmas.{is_part, length-part, line_start_within}
use Rattle.ere_tree.specs.Captures.{Captures}
use Rattle.ere_tree.specs.Derivation.{Way, Ways, leaf, parts, members, chosen, inside, done, next, Derives, DerivesAll, IsPart, part, is_line_end}
use Rattle.ere_tree.specs.Tree.{trees_of}
use Rattle.line_laws.specs.Line.{IsLineAt, LinesAreFound}
use Rattle.line_laws.specs.Quoted.{Bit, run, one, bytes_of, bytes_in, tree_of, trees_behind, line_tree}

-- what parts up to a line's end read
pub record Reads (s q : List ℕ) (i j : ℕ) (c d : Captures) : Type 0 where
  pub bytes : drop i s ≡ q ++ drop j s
  pub long : j ≡ i + length q
  pub ends : IsTrue (is_line_end s j)
  pub held : d ≡ c

-- what one part reads
pub record ReadsOne (s q : List ℕ) (i k : ℕ) (c e : Captures) : Type 0 where
  pub bytes : drop i s ≡ q ++ drop k s
  pub long : k ≡ i + length q
  pub held : e ≡ c

plain_reads : (s bytes : List ℕ) (i k : ℕ) → IsPart s i k → part s i k ≡ bytes
    → (drop i s ≡ bytes ++ drop k s) × (k ≡ i + length bytes)
plain_reads s bytes i k within is =
    let cut : part s i k ++ drop (k - i) (drop i s) ≡ drop i s = take-append-drop (k - i) (drop i s) in
    let same : drop (k - i) (drop i s) ≡ drop k s = drop-drop (k - i) i s ∙ ap (λ n. drop n s) (omega (arith, within.0)) in
    let long : length bytes ≡ k - i = ap length (sym is) ∙ length-part s i k within.0 within.1 in
    (sym cut ∙ ap (λ x. x ++ drop (k - i) (drop i s)) is ∙ ap (λ x. bytes ++ x) same, omega (arith, long, within.0))

-- the one byte of a list is it
only : (x b : ℕ) → Contains (b ∷ []) x → x ≡ b
only x b h = grind (arith, h.1, h.2)

one_reads : (s : List ℕ) (bit : Bit) (w : Way) (i k : ℕ) (c e : Captures) → Derives s (tree_of bit) w i k c e
    → ReadsOne s (bytes_of bit) i k c e
one_reads s (run bytes) leaf i k c e h =
    let reads = plain_reads s bytes i k h.0 h.1 in record { bytes = reads.0; long = reads.1; held = h.2 }
one_reads s (one b) leaf i k c e h =
    let is : slice_index s i ≡ b = only (slice_index s i) b h.2 in
    let first : drop i s ≡ slice_index s i ∷ drop (suc i) s = drop-cons s i 0 h.1 in
    let next : suc i ≡ k = omega (arith, h.0) in
    record { bytes = first ∙ ap (λ x. x ∷ drop (suc i) s) is ∙ ap (λ n. b ∷ drop n s) next; long = h.0; held = h.3 }
one_reads s (run bytes) (parts ws) i k c e h = absurd h
one_reads s (run bytes) (members ws) i k c e h = absurd h
one_reads s (run bytes) (chosen n w) i k c e h = absurd h
one_reads s (run bytes) (inside w) i k c e h = absurd h
one_reads s (one b) (parts ws) i k c e h = absurd h
one_reads s (one b) (members ws) i k c e h = absurd h
one_reads s (one b) (chosen n w) i k c e h = absurd h
one_reads s (one b) (inside w) i k c e h = absurd h

sound : (s : List ℕ) (bits : List Bit) (ws : Ways) (i j : ℕ) (c d : Captures)
    → DerivesAll s (trees_of (trees_behind bits)) ws i j c d → Reads s (bytes_in bits) i j c d
sound s [] (next k leaf done) i j c d h =
    let end : is_line_end s i ≡ is_line_end s j = ap (is_line_end s) (sym (h.2.0 ∙ h.1.0)) in
    record {
      bytes = ap (λ n. drop n s) (sym (h.2.0 ∙ h.1.0));
      long = omega (arith, h.2.0, h.1.0);
      ends = subst IsTrue end h.1.1;
      held = h.2.2 ∙ h.1.2;
    }
sound s [] done i j c d h = absurd h
sound s [] (next k leaf (next m w ws)) i j c d h = absurd h.2
sound s [] (next k (parts all) ws) i j c d h = absurd h.1
sound s [] (next k (members all) ws) i j c d h = absurd h.1
sound s [] (next k (chosen n w) ws) i j c d h = absurd h.1
sound s [] (next k (inside w) ws) i j c d h = absurd h.1
sound s (bit ∷ bits) done i j c d h = absurd h
sound s (bit ∷ bits) (next k w ws) i j c d h =
    let first = one_reads s bit w i k c h.0 h.1 in
    let rest = sound s bits ws k j h.0 d h.2 in
    record {
      bytes = first.bytes ∙ ap (λ x. bytes_of bit ++ x) rest.bytes
          ∙ sym (append_assoc (bytes_of bit) (bytes_in bits) (drop j s));
      long = omega (arith, first.long, rest.long, length-append (bytes_of bit) (bytes_in bits));
      ends = rest.ends;
      held = rest.held ∙ first.held;
    }

-- ---- the other way round

the_one : (b : ℕ) → Contains (b ∷ []) b
the_one b = (0, omega arith, refl)

one_derives : (s : List ℕ) (bit : Bit) (i : ℕ) (c : Captures) (behind : List ℕ) → i ≤ length s
    → drop i s ≡ bytes_of bit ++ behind
    → (k : ℕ) × (w : Way) × Derives s (tree_of bit) w i k c c × (drop k s ≡ behind) × (k ≡ i + length (bytes_of bit))
one_derives s (run bytes) i c behind low is =
    let long : length s - i ≡ length bytes + length behind =
    sym (length-drop i s) ∙ ap length is ∙ length-append bytes behind in
    let taken : take (length bytes) (drop i s) ≡ bytes =
    ap (λ x. take (length bytes) x) is ∙ take-append_seam bytes behind in
    let count : i + length bytes - i ≡ length bytes = omega arith in (
      i + length bytes,
      leaf,
      ((omega arith, omega (arith, long, low)), ap (λ n. take n (drop i s)) count ∙ taken, refl),
      sym (drop-drop (length bytes) i s) ∙ ap (λ x. drop (length bytes) x) is ∙ drop-append_seam bytes behind,
      refl,
    )
one_derives s (one b) i c behind low is =
    let long : length s - i ≡ suc (length behind) = sym (length-drop i s) ∙ ap length is in
    let within : i < length s = omega (arith, long, low) in
    let first : slice_index s i ∷ drop (suc i) s ≡ b ∷ behind = sym (drop-cons s i 0 within) ∙ is in
    let head : slice_index s i ≡ b = ap (λ x. get_or x 0 0) first in
    let rest : drop (suc i) s ≡ behind = ap (λ x. drop 1 x) first in
    let there : suc i ≡ i + 1 = omega arith in (
      i + 1,
      leaf,
      (refl, within, subst (Contains (b ∷ [])) (sym head) (the_one b), refl),
      ap (λ n. drop n s) (sym there) ∙ rest,
      refl,
    )

complete : (s : List ℕ) (bits : List Bit) (i : ℕ) (c : Captures) (behind : List ℕ) → i ≤ length s
    → drop i s ≡ bytes_in bits ++ behind → IsTrue (is_line_end s (i + length (bytes_in bits)))
    → (ws : Ways) × DerivesAll s (trees_of (trees_behind bits)) ws i (i + length (bytes_in bits)) c c
complete s [] i c behind low is ends =
    let here : i + 0 ≡ i = omega arith in
    let end : IsTrue (is_line_end s i) = subst (λ n. IsTrue (is_line_end s n)) here ends in
    (next i leaf done, (c, (refl, end, refl), (here, low, refl)))
complete s (bit ∷ bits) i c behind low is ends =
    let first = one_derives s bit i c (bytes_in bits ++ behind) low
    (is ∙ append_assoc (bytes_of bit) (bytes_in bits) behind) in
    let within = (is_part s (tree_of bit) first.1 i first.0 c c first.2).1 in
    let same : i + length (bytes_of bit ++ bytes_in bits) ≡ first.0 + length (bytes_in bits) =
    omega (arith, first.4, length-append (bytes_of bit) (bytes_in bits)) in
    let rest = complete s bits first.0 c behind within first.3 (subst (λ n. IsTrue (is_line_end s n)) same ends) in (
      next first.0 first.1 rest.0,
      (c, first.2, subst (λ n. DerivesAll s (trees_of (trees_behind bits)) rest.0 first.0 n c c) (sym same) rest.1),
    )

-- ---- the whole line

pub line_derives : (s : List ℕ) (bits : List Bit) (i : ℕ) → IsLineAt s (bytes_in bits) i
    → (w : Way) × Derives s (line_tree bits) w i (i + length (bytes_in bits)) empty empty
line_derives s bits i h =
    let within : i ≤ length s = line_start_within s i h.begins in
    let rest = complete s bits i empty (drop (i + length (bytes_in bits)) s) within h.bytes h.ends in
    (parts (next i leaf rest.0), (empty, (refl, h.begins, refl), rest.1))

pub derives_line : (s : List ℕ) (bits : List Bit) (w : Way) (i j : ℕ) (d : Captures)
    → Derives s (line_tree bits) w i j empty d → IsLineAt s (bytes_in bits) i × (j ≡ i + length (bytes_in bits))
derives_line s bits (parts (next k leaf ws)) i j d h =
    let rest = sound s bits ws k j h.0 d h.2 in
    let here : k ≡ i = h.1.0 in
    let long : j ≡ i + length (bytes_in bits) = omega (arith, here, rest.long) in (
      record {
        begins = h.1.1;
        bytes = ap (λ n. drop n s) (sym here) ∙ rest.bytes ∙ ap (λ n. bytes_in bits ++ drop n s) long;
        ends = subst (λ n. IsTrue (is_line_end s n)) long rest.ends;
      },
      long,
    )
derives_line s bits (parts done) i j d h = absurd h
derives_line s bits (parts (next k (parts all) ws)) i j d h = absurd h.1
derives_line s bits (parts (next k (members all) ws)) i j d h = absurd h.1
derives_line s bits (parts (next k (chosen n w) ws)) i j d h = absurd h.1
derives_line s bits (parts (next k (inside w) ws)) i j d h = absurd h.1
derives_line s bits leaf i j d h = absurd h
derives_line s bits (members all) i j d h = absurd h
derives_line s bits (chosen n w) i j d h = absurd h
derives_line s bits (inside w) i j d h = absurd h

pub lines_are_found : LinesAreFound
lines_are_found text bits from None h =
    λ i is. let shows = line_derives (drop from text) bits i is in
    h i (i + length (bytes_in bits)) shows.0 empty shows.1
lines_are_found text bits from (Some hit) h =
    let line = derives_line (drop from text) bits h.is_hit.way (hit.from - from) (hit.to - from) h.captures h.is_hit.shows in (
      line.0,
      line.1,
      λ i before is. let shows = line_derives (drop from text) bits i is in
          h.is_hit.leftmost i (i + length (bytes_in bits)) shows.0 empty before shows.1,
    )
