-- What stands in a table still stands where other nodes are added, or a stop gives way to another node.
-- No expression stands on a stop: so each node that an expression names is the same in both tables, node by node.
-- The hard one is `repeat_stays`.
use Rattle.std.proofs.Common.{◌≡◌, ℕ, Bool, true, false, Option, Some, None, List, [], ◌∷◌, ◌⊎◌, zero, suc, length, sym, ap, ◌∙◌, inl, inr, arith, true≢false}
use Rattle.std.proofs.lemmas.Bool.{cases_lt}
use Rattle.std.proofs.lemmas.List.{get_or_past}
use Rattle.ere_tree.specs.Tree.{Tree, Trees, empty, plain, set, line_start, line_end, cat, alt, repeat, group, back, none, then}
use Rattle.ere_table.specs.Node.{Node, stop, byte, fork, at_start, at_end, fail, node_of, node_at}
use Rattle.ere_table.specs.Stands.{PlainStands, LoopStands, CopiesStand, RepeatStands, Stands, AllStand, OneStands}
use Rattle.ere_table.specs.Table.{Grows}
use Rattle.ere_table.specs.declared.node.EreNode as code
use Rattle.ere_table.specs.declared.node.EreNode.TheVariants as kind

abbrev pub is_stop : Node → Bool
is_stop stop = true
is_stop (byte bytes n) = false
is_stop (fork a b) = false
is_stop (at_start n) = false
is_stop (at_end n) = false
is_stop fail = false

-- every node of the first table but for its stops is in the second
pub record Stays (T U : ℕ → Node) : Type 0 where
  pub at : (q : ℕ) → (U q ≡ T q) ⊎ (T q ≡ stop)

same_node : (T U : ℕ → Node) → Stays T U → (e : ℕ) (x : Node) → T e ≡ x → is_stop x ≡ false → U e ≡ x
same_node T U s e x h f = elim (s.at e) [
  | inl same ↦ same ∙ h
  | inr gone ↦ absurd (true≢false (ap is_stop (sym gone ∙ h) ∙ f))
]

pub plain_stays : (T U : ℕ → Node) → Stays T U → (bytes : List ℕ) (e n : ℕ) → PlainStands T bytes e n
    → PlainStands U bytes e n
plain_stays T U s [] e n h = h
plain_stays T U s (b ∷ bs) e n h =
    (h.0, same_node T U s e (byte (b ∷ []) h.0) h.1 (λ i. false), plain_stays T U s bs h.0 n h.2)

pub loop_stays : (T U : ℕ → Node) → Stays T U → (R Q : ℕ → ℕ → Type 0) → ((e n : ℕ) → R e n → Q e n)
    → (least e n : ℕ) → LoopStands T R least e n → LoopStands U Q least e n
loop_stays T U s R Q f zero e n h = (h.0, same_node T U s e (fork h.0 n) h.1 (λ i. false), f h.0 e h.2)
loop_stays T U s R Q f (suc least) e n h = (h.0, f e h.0 h.1, loop_stays T U s R Q f least h.0 n h.2)

pub copies_stay : (T U : ℕ → Node) → Stays T U → (R Q : ℕ → ℕ → Type 0) → ((e n : ℕ) → R e n → Q e n)
    → (least most e n : ℕ) → CopiesStand T R least most e n → CopiesStand U Q least most e n
copies_stay T U s R Q f zero zero e n h = h
copies_stay T U s R Q f zero (suc most) e n h =
    (h.0, h.1, same_node T U s e (fork h.0 n) h.2 (λ i. false), f h.0 h.1 h.3, copies_stay T U s R Q f zero most h.1 n h.4)
copies_stay T U s R Q f (suc least) zero e n h = same_node T U s e fail h (λ i. false)
copies_stay T U s R Q f (suc least) (suc most) e n h =
    (h.0, f e h.0 h.1, copies_stay T U s R Q f least most h.0 n h.2)

repeat_stays : (T U : ℕ → Node) → Stays T U → (R Q : ℕ → ℕ → Type 0) → ((e n : ℕ) → R e n → Q e n)
    → (least : ℕ) (most : Option ℕ) (e n : ℕ) → RepeatStands T R least most e n → RepeatStands U Q least most e n
repeat_stays T U s R Q f least None e n h = loop_stays T U s R Q f least e n h
repeat_stays T U s R Q f least (Some most) e n h = copies_stay T U s R Q f least most e n h

mutual
  pub stands_stay : (T U : ℕ → Node) → Stays T U → (t : Tree) (e n : ℕ) → Stands T t e n → Stands U t e n
  stands_stay T U s empty e n h = h
  stands_stay T U s (plain bytes) e n h = plain_stays T U s bytes e n h
  stands_stay T U s (set bytes) e n h = same_node T U s e (byte bytes n) h (λ i. false)
  stands_stay T U s line_start e n h = same_node T U s e (at_start n) h (λ i. false)
  stands_stay T U s line_end e n h = same_node T U s e (at_end n) h (λ i. false)
  stands_stay T U s (cat all) e n h = all_stay T U s all e n h
  stands_stay T U s (alt all) e n h = one_stays T U s all e n h
  stands_stay T U s (repeat inner least most) e n h =
      repeat_stays T U s (Stands T inner) (Stands U inner) (stands_stay T U s inner) least most e n h
  stands_stay T U s (group number inner) e n h = stands_stay T U s inner e n h
  stands_stay T U s (back number fold) e n h = absurd h

  pub all_stay : (T U : ℕ → Node) → Stays T U → (ts : Trees) (e n : ℕ) → AllStand T ts e n → AllStand U ts e n
  all_stay T U s none e n h = h
  all_stay T U s (then t ts) e n h = (h.0, stands_stay T U s t e h.0 h.1, all_stay T U s ts h.0 n h.2)

  pub one_stays : (T U : ℕ → Node) → Stays T U → (ts : Trees) (e n : ℕ) → OneStands T ts e n → OneStands U ts e n
  one_stays T U s none e n h = same_node T U s e fail h (λ i. false)
  one_stays T U s (then t ts) e n h = (
    h.0,
    h.1,
    same_node T U s e (fork h.0 h.1) h.2 (λ i. false),
    stands_stay T U s t h.0 n h.3,
    one_stays T U s ts h.1 n h.4,
  )

-- LISTS THAT GROW

pub grows_stays : (xs ys : List code.EreNode) → Grows xs ys → Stays (node_at xs) (node_at ys)
grows_stays xs ys g = record {
  at = λ q. elim (cases_lt q (length xs)) [
    | inl inside ↦ inl (g.same q inside)
    | inr past ↦ inr (ap node_of (get_or_past xs q kind.Stop past))
  ];
}

pub grows_on : (xs ys zs : List code.EreNode) → Grows xs ys → Grows ys zs → Grows xs zs
grows_on xs ys zs g h = record {
  longer = omega (arith, g.longer, h.longer);
  same = λ q l. h.same q (omega (arith, l, g.longer)) ∙ g.same q l;
}
