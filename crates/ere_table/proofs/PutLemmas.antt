-- One more part in front of those that stand in a table: of a concatenation, of a choice, of a repeat.
-- The old parts still stand, for the table only grew; the new part stands at its own nodes and ends where they begin.
-- The hard ones are `loop_first`, whose fork is written over a stop that was kept for it, and `copy_more`.
use Rattle.std.proofs.Common.{◌≡◌, ◌≢◌, ℕ, false, List, [], ◌∷◌, ◌+◌, ◌<◌, ◌≤◌, zero, suc, length, drop, map, sym, ap, ◌∙◌, subst, inl, inr, arith, slice_index, slice_index_or}
use Rattle.std.proofs.Math.ListN.{set}
use Rattle.std.proofs.lemmas.List.{length-set, get_or-set_same, get_or-set_other}
use Rattle.std.proofs.lemmas.Bool.{cases_eq}
use Rattle.std.proofs.Math.Seq.{drop-cons}
use denote.Param.Weighed.{most, at_most}
use Rattle.ere_tree.proofs.ere.Ere.TheLaws.{the_size}
use Rattle.ere_tree.specs.Tree.{Tree, trees_of}
use Rattle.ere_tree.proofs.FreeLemmas.{no_left, no_right}
use Rattle.ere_table.specs.Node.{Node, stop, byte, fork, node_of, node_at}
use Rattle.ere_table.specs.Stands.{PlainStands, LoopStands, CopiesStand, Stands, AllStand, OneStands}
use Rattle.ere_table.specs.Table.{Grows}
use Rattle.ere_table.proofs.StandsLemmas.{grows_on, grows_stays, plain_stays, all_stay, one_stays, loop_stays, copies_stay, stands_stay}
use Rattle.ere_table.specs.declared.node.EreNode as code
use Rattle.ere_table.specs.declared.node.EreNode.TheVariants as kind
use Rattle.ere_tree.specs.declared.ere.Ere.{Ere}
use Rattle.ere_tree.specs.View.{view}
use Rattle.ere_tree.specs.Shape.{has_refs, any_has_refs}

drop_one : {X : Type 0} (l : List X) (i j : ℕ) (d : X) → i < length l → j ≡ i + 1
    → drop i l ≡ slice_index_or l i d ∷ drop j l
drop_one l i j d h e =
    let one : suc i ≡ j = omega (arith, e) in drop-cons l i d h ∙ ap (λ k. slice_index_or l i d ∷ drop k l) one

pub plain_more : (xs ys : List code.EreNode) (bytes : List ℕ) (i j e f n : ℕ) → Grows xs ys → j ≡ i + 1 → j ≤ length bytes
    → node_at ys f ≡ byte (slice_index bytes i ∷ []) e → PlainStands (node_at xs) (drop j bytes) e n
    → PlainStands (node_at ys) (drop i bytes) f n
plain_more xs ys bytes i j e f n g a b h rest =
    subst (λ l. PlainStands (node_at ys) l f n) (sym (drop_one bytes i j 0 (omega (arith, a, b)) a))
    (e, h, plain_stays (node_at xs) (node_at ys) (grows_stays xs ys g) (drop j bytes) e n rest)

pub all_more : (xs ys : List code.EreNode) (parts : List Ere) (one : Ere) (i j e f n : ℕ) → Grows xs ys → j ≡ i + 1
    → j ≤ length parts → one ≡ slice_index_or parts i one → Stands (node_at ys) (view one) f e
    → AllStand (node_at xs) (trees_of (map view (drop j parts))) e n
    → AllStand (node_at ys) (trees_of (map view (drop i parts))) f n
all_more xs ys parts one i j e f n g a b is h rest =
    subst (λ l. AllStand (node_at ys) (trees_of (map view l)) f n)
    (sym (drop_one parts i j one (omega (arith, a, b)) a ∙ ap (λ x. x ∷ drop j parts) (sym is)))
    (e, h, all_stay (node_at xs) (node_at ys) (grows_stays xs ys g) (trees_of (map view (drop j parts))) e n rest)

pub one_more : (xs ys zs : List code.EreNode) (choices : List Ere) (one : Ere) (i j a b f n : ℕ) → Grows xs ys
    → Grows ys zs → j ≡ i + 1 → j ≤ length choices → one ≡ slice_index_or choices i one
    → Stands (node_at ys) (view one) a n → node_at zs f ≡ fork a b
    → OneStands (node_at xs) (trees_of (map view (drop j choices))) b n
    → OneStands (node_at zs) (trees_of (map view (drop i choices))) f n
one_more xs ys zs choices one i j a b f n g k u v is h t rest =
    let on = grows_stays xs zs (grows_on xs ys zs g k) in
    subst (λ l. OneStands (node_at zs) (trees_of (map view l)) f n)
    (sym (drop_one choices i j one (omega (arith, u, v)) u ∙ ap (λ x. x ∷ drop j choices) (sym is))) (
      a,
      b,
      t,
      stands_stay (node_at ys) (node_at zs) (grows_stays ys zs k) (view one) a n h,
      one_stays (node_at xs) (node_at zs) on (trees_of (map view (drop j choices))) b n rest,
    )

-- no one of a list without references has one
pub none_has_refs : (xs : List Ere) (one : Ere) (i : ℕ) → any_has_refs (trees_of (map view xs)) ≡ false
    → i < length xs → one ≡ slice_index_or xs i one → has_refs (view one) ≡ false
none_has_refs [] one i h l is = absurd (omega (arith, l))
none_has_refs (x ∷ xs) one zero h l is = ap (λ e. has_refs (view e)) is ∙ no_left (has_refs (view x)) _ h
none_has_refs (x ∷ xs) one (suc i) h l is =
    none_has_refs xs one i (no_right (has_refs (view x)) _ h) (omega (arith, l)) is

-- one of a list is no deeper than the deepest
pub no_deeper : (xs : List Ere) (one : Ere) (i : ℕ) → one ≡ slice_index_or xs i one → i < length xs
    → the_size one ≤ most the_size xs
no_deeper xs one i is l = subst (λ x. the_size x ≤ most the_size xs) (sym is) (at_most the_size xs i one l)

-- REPEATS

-- the loop itself, once its fork is written over the stop that was kept for it
pub loop_first : (xs ys zs : List code.EreNode) (t : Tree) (a h n : ℕ) → Grows xs ys → Grows ys zs
    → node_at ys h ≡ stop → length xs ≤ h → h < length ys → Stands (node_at zs) t a h
    → LoopStands (node_at (set zs h (kind.Fork a n))) (Stands (node_at (set zs h (kind.Fork a n))) t) 0 h n
loop_first xs ys zs t a h n g k e l m s =
    let new = set zs h (kind.Fork a n) in (
      a,
      ap node_of (get_or-set_same zs h (kind.Fork a n) kind.Stop (omega (arith, m, k.longer))),
      stands_stay (node_at zs) (node_at new) (record {
        at = λ q. elim (cases_eq q h) [
          | inl same ↦ inr (ap (node_at zs) same ∙ k.same h m ∙ e)
          | inr other ↦ inl (ap node_of (get_or-set_other zs h q (kind.Fork a n) kind.Stop other))
        ];
      }) t a h s,
    )

pub loop_grows : (xs ys zs : List code.EreNode) (x : code.EreNode) (h : ℕ) → Grows xs ys → Grows ys zs → length xs ≤ h
    → Grows xs (set zs h x)
loop_grows xs ys zs x h g k l = record {
  longer = omega (arith, g.longer, k.longer, length-set zs h x);
  same = λ q m.
      let other : q ≢ h = omega (arith, l, m) in
      ap node_of (get_or-set_other zs h q x kind.Stop other) ∙ k.same q (omega (arith, m, g.longer)) ∙ g.same q m;
}

pub loop_more : (xs ys : List code.EreNode) (t : Tree) (k m e f n : ℕ) → Grows xs ys → m ≡ k + 1
    → Stands (node_at ys) t f e → LoopStands (node_at xs) (Stands (node_at xs) t) k e n
    → LoopStands (node_at ys) (Stands (node_at ys) t) m f n
loop_more xs ys t k m e f n g a h rest =
    let on = grows_stays xs ys g in
    let more : suc k ≡ m = omega (arith, a) in
    subst (λ c. LoopStands (node_at ys) (Stands (node_at ys) t) c f n) more (
      e,
      h,
      loop_stays (node_at xs) (node_at ys) on (Stands (node_at xs) t) (Stands (node_at ys) t)
          (stands_stay (node_at xs) (node_at ys) on t) k e n rest,
    )

-- a copy that has to be there
pub copy_more : (xs ys : List code.EreNode) (t : Tree) (k l m o e f n : ℕ) → Grows xs ys → l ≡ k + 1 → o ≡ m + 1
    → Stands (node_at ys) t f e → CopiesStand (node_at xs) (Stands (node_at xs) t) k m e n
    → CopiesStand (node_at ys) (Stands (node_at ys) t) l o f n
copy_more xs ys t k l m o e f n g a b h rest =
    let on = grows_stays xs ys g in
    let first : suc k ≡ l = omega (arith, a) in
    let second : suc m ≡ o = omega (arith, b) in
    subst (λ c. CopiesStand (node_at ys) (Stands (node_at ys) t) l c f n) second
    (subst (λ c. CopiesStand (node_at ys) (Stands (node_at ys) t) c (suc m) f n) first (
      e,
      h,
      copies_stay (node_at xs) (node_at ys) on (Stands (node_at xs) t) (Stands (node_at ys) t)
          (stands_stay (node_at xs) (node_at ys) on t) k m e n rest,
    ))

-- a copy that may be there
pub choice_more : (xs ys zs : List code.EreNode) (t : Tree) (k m o e a f n : ℕ) → Grows xs ys → Grows ys zs → k ≡ 0
    → o ≡ m + 1 → Stands (node_at ys) t a e → node_at zs f ≡ fork a n
    → CopiesStand (node_at xs) (Stands (node_at xs) t) k m e n
    → CopiesStand (node_at zs) (Stands (node_at zs) t) k o f n
choice_more xs ys zs t k m o e a f n g h z u s w rest =
    let on = grows_stays xs zs (grows_on xs ys zs g h) in
    let more : suc m ≡ o = omega (arith, u) in
    subst (λ c. CopiesStand (node_at zs) (Stands (node_at zs) t) c o f n) (sym z)
    (subst (λ c. CopiesStand (node_at zs) (Stands (node_at zs) t) 0 c f n) more (
      a,
      e,
      w,
      stands_stay (node_at ys) (node_at zs) (grows_stays ys zs h) t a e s,
      copies_stay (node_at xs) (node_at zs) on (Stands (node_at xs) t) (Stands (node_at zs) t)
          (stands_stay (node_at xs) (node_at zs) on t) 0 m e n
          (subst (λ c. CopiesStand (node_at xs) (Stands (node_at xs) t) c m e n) z rest),
    ))

pub copies_from : (T : ℕ → Node) (R : ℕ → ℕ → Type 0) (k m l o e n : ℕ) → l ≡ k → o ≡ m → CopiesStand T R k m e n
    → CopiesStand T R l o e n
copies_from T R k m l o e n a b h =
    subst (λ c. CopiesStand T R l c e n) (sym b) (subst (λ c. CopiesStand T R c m e n) (sym a) h)
