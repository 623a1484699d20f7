-- What an expression with references spans, its relaxed form spans. By induction on the tree.
-- Captures are handed on, and each setting of a group is one that the group's copy spans; nothing else is asked of them.
-- The hard one is `relaxed_gives`, a case for each form; a reference takes its group's copy, or any text.
use Rattle.std.proofs.Common.{◌≡◌, ℕ, zero, suc, ◌+◌, ◌-◌, ◌<◌, ◌≤◌, ◌==◌, Bool, true, false, cond, Option, Some, None, List, [], ◌∷◌, ◌++◌, length, refl, sym, ap, ◌∙◌, subst, inl, inr, arith, slice_index, eqb-true, true≢false}
use Rattle.std.proofs.lemmas.Option.{none-some}
use Rattle.std.specs.Cmp.{nat_cmp_total}
use Rattle.std.specs.Ordering.{nat_cmp, eq_by_cmp, is_eq}
use Rattle.std.specs.declared.cmp.Ordering.{Ordering}
use Rattle.std.specs.declared.cmp.Ordering.TheVariants.{Less, Equal, Greater}
use Rattle.std.specs.FinMap.{empty, insert, get, get-empty, get-insert, nat_cmp-IsAntisymmetric}
use Rattle.ere_tree.specs.Captures.{Captures}
use Rattle.ere_tree.specs.Derivation.{Way, Ways, leaf, parts, members, chosen, inside, done, next, Derives, DerivesAll, DerivesEach, CanRepeat, IsPart, count_of, tree_at}
use Rattle.ere_tree.specs.Shape.{has_refs, any_has_refs}
use Rattle.ere_tree.specs.Tree.{Tree, Trees, plain, set, line_start, line_end, cat, alt, repeat, group, back, none, then, trees_of}
use Rattle.ere_tree.specs.Tree as tree
use Rattle.ere_tree.proofs.CapturesLemmas.{some_same}
use Rattle.ere_tree.proofs.DerivationLemmas.{is_part, line_start_within, line_end_within}
use Rattle.ere_relaxed.specs.Moves.{Moves, AllMove}
use Rattle.ere_relaxed.specs.Relaxed.{Copies, copy_in, IsAnyText, IsRelaxed, AreRelaxed, HasGroup, HaveGroup, HasRelaxed, AreBytes, Takes, Know, IsWider, AreCopies, StandsIn, SpansAll}
use Rattle.ere_relaxed.proofs.MovesLemmas.{moved, alike_from}

-- REFERENCES ARE GONE

mutual
  moves_free : (fold : Bool) (u : Tree) → Moves fold u → has_refs u ≡ false
  moves_free fold tree.empty m = refl
  moves_free fold (plain bytes) m = refl
  moves_free fold (set bytes) m = refl
  moves_free fold line_start m = absurd m
  moves_free fold line_end m = absurd m
  moves_free fold (cat ts) m = all_move_free fold ts m
  moves_free fold (alt ts) m = all_move_free fold ts m
  moves_free fold (repeat t least most) m = moves_free fold t m
  moves_free fold (group number t) m = absurd m
  moves_free fold (back number also) m = absurd m

  all_move_free : (fold : Bool) (ts : Trees) → AllMove fold ts → any_has_refs ts ≡ false
  all_move_free fold none m = refl
  all_move_free fold (then t ts) m = rw (moves_free fold t m.0) (all_move_free fold ts m.1)

mutual
  pub relaxed_free : (copies : Copies) (t u : Tree) → IsRelaxed copies t u → has_refs u ≡ false
  relaxed_free copies tree.empty u r = ap has_refs r
  relaxed_free copies (plain bytes) u r = ap has_refs r
  relaxed_free copies (set bytes) u r = ap has_refs r
  relaxed_free copies line_start u (inl r) = ap has_refs r
  relaxed_free copies line_start u (inr r) = ap has_refs r
  relaxed_free copies line_end u (inl r) = ap has_refs r
  relaxed_free copies line_end u (inr r) = ap has_refs r
  relaxed_free copies (cat ts) u r = ap has_refs r.1 ∙ all_relaxed_free copies ts r.0 r.2
  relaxed_free copies (alt ts) u r = ap has_refs r.1 ∙ all_relaxed_free copies ts r.0 r.2
  relaxed_free copies (repeat t least most) u r = ap has_refs r.1 ∙ relaxed_free copies t r.0 r.2
  relaxed_free copies (group number t) u r = relaxed_free copies t u r
  relaxed_free copies (back number fold) u (inl r) = moves_free fold u r.moves
  relaxed_free copies (back number fold) u (inr r) = ap has_refs r.is

  all_relaxed_free : (copies : Copies) (ts us : Trees) → AreRelaxed copies ts us → any_has_refs us ≡ false
  all_relaxed_free copies none none r = refl
  all_relaxed_free copies (then t ts) (then u us) r =
      rw (relaxed_free copies t u r.0) (all_relaxed_free copies ts us r.1)
  all_relaxed_free copies none (then u us) r = absurd r
  all_relaxed_free copies (then t ts) none r = absurd r

-- ANY TEXT

any_from : (s bytes : List ℕ) → ((i : ℕ) → i < length s → (slice_index s i) < 256)
    → ((b : ℕ) → b < 256 → Rattle.std.specs.List.Contains bytes b)
    → (n i j : ℕ) → i + n ≡ j → j ≤ length s → (ws : Ways) × DerivesEach s (set bytes) zero ws i j empty empty
any_from s bytes all has zero i j e low = (done, (omega arith, omega arith, refl))
any_from s bytes all has (suc n) i j e low =
    let rest = any_from s bytes all has n (i + 1) j (omega arith) low in
    let here : i < length s = omega arith in
    (next (i + 1) leaf rest.0, (empty, (refl, here, has (slice_index s i) (all i here), refl), omega arith, rest.1))

pub any_takes : (s : List ℕ) (u : Tree) (i j : ℕ) → AreBytes s → IsAnyText u → IsPart s i j → Takes s u i j
any_takes s u i j all any lies =
    let ways = any_from s any.bytes all any.all (j - i) i j (omega (arith, lies.0)) lies.1 in
    let here : Derives s (repeat (set any.bytes) zero None) (members ways.0) i j empty empty =
    ((omega arith, tt), ways.1) in
    (members ways.0, subst (λ x. Derives s x (members ways.0) i j empty empty) (sym any.is) here)

-- WHAT IS KNOWN OF CAPTURES

pub know_none : (s : List ℕ) (copies : Copies) → Know s copies empty
know_none s copies number u p at e = absurd (none-some p (sym (get-empty nat_cmp number) ∙ e))

is_equal : (o : Ordering) → is_eq o ≡ true → o ≡ Equal
is_equal Less e = absurd (true≢false (sym e))
is_equal Equal e = refl
is_equal Greater e = absurd (true≢false (sym e))

cmp_same : (n m : ℕ) → eq_by_cmp nat_cmp n m ≡ true → n ≡ m
cmp_same n m e = nat_cmp-IsAntisymmetric n m (is_equal (nat_cmp n m) e)

pub know_more : (s : List ℕ) (copies : Copies) (c : Captures) (number i j : ℕ) → Know s copies c
    → ((u : Tree) → copy_in copies number ≡ Some u → Takes s u i j) → Know s copies (insert c number (i, j))
know_more s copies c number i j known here n u p at e =
    each (eq_by_cmp nat_cmp n number) refl (sym (get-insert nat_cmp_total c number (i, j) n) ∙ e)
  where
    each : (v : Bool) → eq_by_cmp nat_cmp n number ≡ v → cond v (Some (i, j)) (get c n) ≡ Some p → Takes s u p.0 p.1
    each true same f =
        let own : n ≡ number = cmp_same n number same in
        subst (λ (o : ℕ × ℕ). Takes s u o.0 o.1) (some_same (i, j) p f)
        (here u (ap (copy_in copies) (sym own) ∙ at))
    each false same f = known n u p at f

-- WHAT IS SPANNED

-- from captures of which all is known the second tree spans what the first does, and the first hands on such captures
abbrev pub Gives : List ℕ → Copies → Tree → Tree → Type 0
Gives s copies t u =
    (w : Way) (i j : ℕ) (c d : Captures) → Know s copies c → Derives s t w i j c d → Takes s u i j × Know s copies d

same_takes : (s : List ℕ) (u v : Tree) (i j : ℕ) → u ≡ v → Takes s v i j → Takes s u i j
same_takes s u v i j e h = subst (λ x. Takes s x i j) (sym e) h

-- nothing is set
leaf_gives : (s : List ℕ) (copies : Copies) (u v : Tree) (i j : ℕ) (c d : Captures) → u ≡ v
    → Derives s v leaf i j empty empty → Know s copies c → d ≡ c → Takes s u i j × Know s copies d
leaf_gives s copies u v i j c d same h known e =
    (same_takes s u v i j same (leaf, h), subst (Know s copies) (sym e) known)

each_gives : (s : List ℕ) (copies : Copies) (t u : Tree) → Gives s copies t u → (least : ℕ) (ws : Ways) (i j : ℕ)
    (c d : Captures) → Know s copies c → DerivesEach s t least ws i j c d
    → (vs : Ways) × (count_of vs ≡ count_of ws) × DerivesEach s u least vs i j empty empty × Know s copies d
each_gives s copies t u gives least done i j c d known h =
    (done, refl, (h.0, h.1, refl), subst (Know s copies) (sym h.2) known)
each_gives s copies t u gives zero (next k w ws) i j c d known h =
    let one = gives w i k c h.0 known h.1 in
    let rest = each_gives s copies t u gives zero ws k j h.0 d one.1 h.3 in
    (next k one.0.0 rest.0, ap (λ n. n + 1) rest.1, (empty, one.0.1, h.2, rest.2), rest.3)
each_gives s copies t u gives (suc least) (next k w ws) i j c d known h =
    let one = gives w i k c h.0 known h.1 in
    let rest = each_gives s copies t u gives least ws k j h.0 d one.1 h.2 in
    (next k one.0.0 rest.0, ap (λ n. n + 1) rest.1, (empty, one.0.1, rest.2), rest.3)

-- groups of these trees stand in the tree
abbrev pub AllStandIn : Trees → Tree → Type 0
AllStandIn ts whole = (number : ℕ) (inner : Tree) → HaveGroup ts number inner → HasGroup whole number inner

mutual
  pub relaxed_gives : (s : List ℕ) (copies : Copies) (whole t u : Tree) → AreBytes s → AreCopies whole copies
      → StandsIn t whole → IsRelaxed copies t u → Gives s copies t u
  relaxed_gives s copies whole tree.empty u all right stands r leaf i j c d known h =
      leaf_gives s copies u tree.empty i j c d r (h.0, h.1, refl) known h.2
  relaxed_gives s copies whole (plain bytes) u all right stands r leaf i j c d known h =
      leaf_gives s copies u (plain bytes) i j c d r (h.0, h.1, refl) known h.2
  relaxed_gives s copies whole (set bytes) u all right stands r leaf i j c d known h =
      leaf_gives s copies u (set bytes) i j c d r (h.0, h.1, h.2, refl) known h.3
  relaxed_gives s copies whole line_start u all right stands (inl r) leaf i j c d known h =
      leaf_gives s copies u line_start i j c d r (h.0, h.1, refl) known h.2
  relaxed_gives s copies whole line_start u all right stands (inr r) leaf i j c d known h =
      leaf_gives s copies u tree.empty i j c d r (h.0, line_start_within s i h.1, refl) known h.2
  relaxed_gives s copies whole line_end u all right stands (inl r) leaf i j c d known h =
      leaf_gives s copies u line_end i j c d r (h.0, h.1, refl) known h.2
  relaxed_gives s copies whole line_end u all right stands (inr r) leaf i j c d known h =
      leaf_gives s copies u tree.empty i j c d r (h.0, line_end_within s i h.1, refl) known h.2
  relaxed_gives s copies whole (cat ts) u all right stands r (parts ws) i j c d known h =
      let row = all_give s copies whole ts r.0 all right stands r.2 ws i j c d known h in
      (same_takes s u (cat r.0) i j r.1 (parts row.0, row.1), row.2)
  relaxed_gives s copies whole (alt ts) u all right stands r (chosen n w) i j c d known h =
      let one = one_gives s copies whole ts r.0 all right stands r.2 n h.0 h.1 w i j c d known h.2 in
      (same_takes s u (alt r.0) i j r.1 (chosen n one.2.0, (one.0, one.1, one.2.1)), one.3)
  relaxed_gives s copies whole (repeat t least most) u all right stands r (members ws) i j c d known h =
      let row = each_gives s copies t r.0
      (λ v a b e f g. relaxed_gives s copies whole t r.0 all right stands r.2 v a b e f g) least ws i j c d known h.1 in (
        same_takes s u (repeat r.0 least most) i j r.1
            (members row.0, (subst (CanRepeat least most) (sym row.1) h.0, row.2)),
        row.3,
      )
  relaxed_gives s copies whole (group number t) u all right stands r (inside w) i j c d known h =
      let one = relaxed_gives s copies whole t u all right (λ n v g. stands n v (inr g)) r w i j c h.0 known h.1 in (
        one.0,
        subst (Know s copies) (sym h.2) (know_more s copies h.0 number i j one.1
            (λ v at. right number v t at (stands number t (inl (refl, refl))) s w i j c h.0 all known h.1)),
      )
  relaxed_gives s copies whole (back number fold) u all right stands (inl r) leaf i j c d known h =
      let there = known number u h.0 r.at h.1 in (
        moved s fold u there.0 h.0.0 h.0.1 i j empty empty r.moves there.1
            (alike_from s fold h.0.0 h.0.1 i j (is_part s u there.0 h.0.0 h.0.1 empty empty there.1) h.2 h.3),
        subst (Know s copies) (sym h.4) known,
      )
  relaxed_gives s copies whole (back number fold) u all right stands (inr r) leaf i j c d known h =
      (any_takes s u i j all r h.2, subst (Know s copies) (sym h.4) known)
  relaxed_gives s copies whole t u all right stands r w i j c d known h = absurd h

  all_give : (s : List ℕ) (copies : Copies) (whole : Tree) (ts us : Trees) → AreBytes s → AreCopies whole copies
      → AllStandIn ts whole → AreRelaxed copies ts us → (ws : Ways) (i j : ℕ) (c d : Captures) → Know s copies c
      → DerivesAll s ts ws i j c d → (vs : Ways) × DerivesAll s us vs i j empty empty × Know s copies d
  all_give s copies whole none none all right stands r done i j c d known h =
      (done, (h.0, h.1, refl), subst (Know s copies) (sym h.2) known)
  all_give s copies whole none none all right stands r (next k w ws) i j c d known h = absurd h
  all_give s copies whole (then t ts) (then u us) all right stands r done i j c d known h = absurd h
  all_give s copies whole (then t ts) (then u us) all right stands r (next k w ws) i j c d known h =
      let one = relaxed_gives s copies whole t u all right (λ n v g. stands n v (inl g)) r.0 w i k c h.0 known h.1 in
      let rest = all_give s copies whole ts us all right (λ n v g. stands n v (inr g)) r.1 ws k j h.0 d one.1 h.2 in
      (next k one.0.0 rest.0, (empty, one.0.1, rest.1), rest.2)
  all_give s copies whole none (then u us) all right stands r ws i j c d known h = absurd r
  all_give s copies whole (then t ts) none all right stands r ws i j c d known h = absurd r

  one_gives : (s : List ℕ) (copies : Copies) (whole : Tree) (ts us : Trees) → AreBytes s → AreCopies whole copies
      → AllStandIn ts whole → AreRelaxed copies ts us → (n : ℕ) (t : Tree) → tree_at ts n ≡ Some t → (w : Way) (i j : ℕ)
      (c d : Captures) → Know s copies c → Derives s t w i j c d
      → (u : Tree) × (tree_at us n ≡ Some u) × Takes s u i j × Know s copies d
  one_gives s copies whole none us all right stands r n t at w i j c d known h = absurd (none-some t at)
  one_gives s copies whole (then t ts) none all right stands r n v at w i j c d known h = absurd r
  one_gives s copies whole (then t ts) (then u us) all right stands r zero v at w i j c d known h =
      let one = relaxed_gives s copies whole t u all right (λ n x g. stands n x (inl g)) r.0 w i j c d known
      (subst (λ x. Derives s x w i j c d) (sym (some_same t v at)) h) in
      (u, refl, one.0, one.1)
  one_gives s copies whole (then t ts) (then u us) all right stands r (suc n) v at w i j c d known h =
      one_gives s copies whole ts us all right (λ m x g. stands m x (inr g)) r.1 n v at w i j c d known h

pub spans_all : (copies : Copies) (t u : Tree) → AreCopies t copies → IsRelaxed copies t u → SpansAll t u
spans_all copies t u right r s w i j d all h =
    let one = relaxed_gives s copies t t u all right (λ n v g. g) r w i j empty d (know_none s copies) h in
    (one.0.0, empty, empty, one.0.1)

-- COPIES

pub no_copies : (t : Tree) → AreCopies t []
unfolding copy_in
no_copies t number u inner at g = absurd (none-some u at)

kept_by : (v : Bool) (one : Option Tree) (a b : Option Tree) (u : Tree) → (a ≡ Some u → b ≡ Some u)
    → cond v one a ≡ Some u → cond v one b ≡ Some u
kept_by true one a b u f e = e
kept_by false one a b u f e = f e

copy_kept : (copies others : Copies) (n : ℕ) (u : Tree) → copy_in copies n ≡ Some u
    → copy_in (copies ++ others) n ≡ Some u
unfolding copy_in
copy_kept [] others n u at = absurd (none-some u at)
copy_kept (one ∷ copies) others n u at =
    kept_by (one.0 == n) (Some one.1) (copy_in copies n) (copy_in (copies ++ others) n) u
    (copy_kept copies others n u) at

last_by : (v : Bool) (one : Tree) (a b o : Option Tree) → (a ≡ None → b ≡ o)
    → cond v (Some one) a ≡ None → cond v (Some one) b ≡ o
last_by true one a b o f e = absurd (none-some one (sym e))
last_by false one a b o f e = f e

copy_last : (copies others : Copies) (n : ℕ) → copy_in copies n ≡ None
    → copy_in (copies ++ others) n ≡ copy_in others n
unfolding copy_in
copy_last [] others n e = refl
copy_last (one ∷ copies) others n e =
    last_by (one.0 == n) one.1 (copy_in copies n) (copy_in (copies ++ others) n) (copy_in others n)
    (copy_last copies others n) e

know_fewer : (s : List ℕ) (copies others : Copies) (c : Captures) → Know s (copies ++ others) c → Know s copies c
know_fewer s copies others c known number u p at e = known number u p (copy_kept copies others number u at) e

copy_alone : (number n : ℕ) (u : Tree) → copy_in ((number, u) ∷ []) n ≡ cond (number == n) (Some u) None
unfolding copy_in
copy_alone number n u = refl

-- groups inside groups
mutual
  group_inside : (t inner v : Tree) (n m : ℕ) → HasGroup t n inner → HasGroup inner m v → HasGroup t m v
  group_inside (cat ts) inner v n m h g = all_inside ts inner v n m h g
  group_inside (alt ts) inner v n m h g = all_inside ts inner v n m h g
  group_inside (repeat t least most) inner v n m h g = group_inside t inner v n m h g
  group_inside (group k t) inner v n m (inl h) g = inr (subst (λ x. HasGroup x m v) (sym h.1) g)
  group_inside (group k t) inner v n m (inr h) g = inr (group_inside t inner v n m h g)
  group_inside tree.empty inner v n m h g = absurd h
  group_inside (plain bytes) inner v n m h g = absurd h
  group_inside (set bytes) inner v n m h g = absurd h
  group_inside line_start inner v n m h g = absurd h
  group_inside line_end inner v n m h g = absurd h
  group_inside (back number fold) inner v n m h g = absurd h

  all_inside : (ts : Trees) (inner v : Tree) (n m : ℕ) → HaveGroup ts n inner → HasGroup inner m v → HaveGroup ts m v
  all_inside none inner v n m h g = absurd h
  all_inside (then t ts) inner v n m (inl h) g = inl (group_inside t inner v n m h g)
  all_inside (then t ts) inner v n m (inr h) g = inr (all_inside ts inner v n m h g)

new_copy : (whole : Tree) (copies : Copies) (number : ℕ) (us : List Tree) → AreCopies whole copies
    → ((t : Tree) → HasGroup whole number t → HasRelaxed copies us t)
    → (n : ℕ) (u inner : Tree) → HasGroup whole n inner
    → (v : Bool) → (number == n) ≡ v → cond v (Some (alt (trees_of us))) None ≡ Some u
    → IsWider (copies ++ (number, alt (trees_of us)) ∷ []) inner u
new_copy whole copies number us right found n u inner g false same e s w i j c d all known h = absurd (none-some u e)
new_copy whole copies number us right found n u inner g true same e s w i j c d all known h =
    let own : number ≡ n = eqb-true number n same in
    let one = found inner (subst (λ m. HasGroup whole m inner) (sym own) g) in
    let stands : StandsIn inner whole = λ m v f. group_inside whole inner v n m g f in
    let takes = (relaxed_gives s copies whole inner one.1 all right stands one.3 w i j c d
    (know_fewer s copies ((number, alt (trees_of us)) ∷ []) c known) h).0 in
    same_takes s u (alt (trees_of us)) i j (sym (some_same (alt (trees_of us)) u e))
    (chosen one.0 takes.0, (one.1, one.2, takes.1))

pub copies_more : (whole : Tree) (copies : Copies) (number : ℕ) (us : List Tree) → AreCopies whole copies
    → ((t : Tree) → HasGroup whole number t → HasRelaxed copies us t)
    → AreCopies whole (copies ++ (number, alt (trees_of us)) ∷ [])
copies_more whole copies number us right found n u inner at g = each (copy_in copies n) refl
  where
    last : Copies
    last = (number, alt (trees_of us)) ∷ []

    each : (o : Option Tree) → copy_in copies n ≡ o → IsWider (copies ++ last) inner u
    each None e =
        new_copy whole copies number us right found n u inner g (number == n) refl
        (sym (copy_alone number n (alt (trees_of us))) ∙ sym (copy_last copies last n e) ∙ at)
    each (Some v) e =
        let same : v ≡ u = some_same v u (sym (copy_kept copies last n v e) ∙ at) in
        λ s w i j c d all known h.
        right n u inner (e ∙ ap (λ x. Some x) same) g s w i j c d all (know_fewer s copies last c known) h

-- LISTS, ONE MORE

pub relaxed_push : (copies : Copies) (ts us : List Tree) (t u : Tree) → AreRelaxed copies (trees_of ts) (trees_of us)
    → IsRelaxed copies t u → AreRelaxed copies (trees_of (ts ++ t ∷ [])) (trees_of (us ++ u ∷ []))
relaxed_push copies [] [] t u all one = (one, tt)
relaxed_push copies [] (v ∷ us) t u all one = absurd all
relaxed_push copies (x ∷ ts) [] t u all one = absurd all
relaxed_push copies (x ∷ ts) (v ∷ us) t u all one = (all.0, relaxed_push copies ts us t u all.1 one)

at_kept : (us : List Tree) (u v : Tree) (k : ℕ) → tree_at (trees_of us) k ≡ Some v
    → tree_at (trees_of (us ++ u ∷ [])) k ≡ Some v
at_kept [] u v k at = absurd (none-some v at)
at_kept (x ∷ us) u v zero at = at
at_kept (x ∷ us) u v (suc k) at = at_kept us u v k at

at_last : (us : List Tree) (u : Tree) → tree_at (trees_of (us ++ u ∷ [])) (length us) ≡ Some u
at_last [] u = refl
at_last (x ∷ us) u = at_last us u

pub has_push : (copies : Copies) (us : List Tree) (u t : Tree) → HasRelaxed copies us t
    → HasRelaxed copies (us ++ u ∷ []) t
has_push copies us u t h = (h.0, h.1, at_kept us u h.1 h.0 h.2, h.3)

pub has_last : (copies : Copies) (us : List Tree) (u t : Tree) → IsRelaxed copies t u
    → HasRelaxed copies (us ++ u ∷ []) t
has_last copies us u t r = (length us, u, at_last us u, r)
