-- Lists of threads, one thread longer: which nodes they have, from which origin, and that origins rise.
-- A thread of the longer list is an old one or the new one, and the new one is at the old length.
-- The hard one is `rises_more`, that the origins still rise where the new one is at least the last.
use Rattle.std.proofs.Common.{◌≡◌, ℕ, ◌+◌, ◌<◌, ◌≤◌, ◌⊎◌, List, [], ◌∷◌, ◌++◌, zero, suc, length, refl, ap, ◌∙◌, inl, inr, arith, length-append, slice_index_or}
use Rattle.std.proofs.Math.Seq.{get_or-append_seam}
use Rattle.std.proofs.lemmas.List.{get_or_append_left}
use Rattle.std.proofs.lemmas.Bool.{cases_lt}
use Rattle.ere_table.specs.declared.node.EreNode as code
use Rattle.ere_table.specs.declared.node.EreNode.TheVariants as kind
use Rattle.ere_auto.specs.Closure.{node_in, origin_in, HasBy, Rises}
use Rattle.ere_auto.specs.declared.thread.Thread.{Thread}

pub nothing : Thread
nothing = record { node = 0; origin = 0 }

pub length_more : (K : List Thread) (t : Thread) → length (K ++ t ∷ []) ≡ length K + 1
length_more K t = length-append K (t ∷ [])

pub node_old : (K : List Thread) (t : Thread) (x : ℕ) → x < length K → node_in (K ++ t ∷ []) x ≡ node_in K x
node_old K t x h = ap (λ (k : Thread). k.node) (get_or_append_left K (t ∷ []) (record { node = 0; origin = 0 }) x h)

pub origin_old : (K : List Thread) (t : Thread) (x : ℕ) → x < length K → origin_in (K ++ t ∷ []) x ≡ origin_in K x
origin_old K t x h = ap (λ (k : Thread). k.origin) (get_or_append_left K (t ∷ []) (record { node = 0; origin = 0 }) x h)

pub node_new : (K : List Thread) (t : Thread) (x : ℕ) → x ≡ length K → node_in (K ++ t ∷ []) x ≡ t.node
node_new K t x h = ap (node_in (K ++ t ∷ [])) h ∙ ap (λ (k : Thread). k.node) (get_or-append_seam K t [] (record { node = 0; origin = 0 }))

pub origin_new : (K : List Thread) (t : Thread) (x : ℕ) → x ≡ length K → origin_in (K ++ t ∷ []) x ≡ t.origin
origin_new K t x h = ap (origin_in (K ++ t ∷ [])) h ∙ ap (λ (k : Thread). k.origin) (get_or-append_seam K t [] (record { node = 0; origin = 0 }))

-- a thread of the longer list is an old one or the new one
pub old_or_new : (K : List Thread) (t : Thread) (x : ℕ) → x < length (K ++ t ∷ []) → (x < length K) ⊎ (x ≡ length K)
old_or_new K t x h =
    elim (cases_lt x (length K)) [ inl old ↦ inl old | inr new ↦ inr (omega (arith, length_more K t)) ]

pub has_by_old : (σ : ℕ → ℕ) (K : List Thread) (t : Thread) (q b : ℕ) → HasBy σ K q b → HasBy σ (K ++ t ∷ []) q b
has_by_old σ K t q b h = record {
  index = h.index;
  inside = omega (arith, h.inside, length_more K t);
  is = node_old K t h.index h.inside ∙ h.is;
  by = omega (arith, ap σ (origin_old K t h.index h.inside), h.by);
}

pub has_by_new : (σ : ℕ → ℕ) (K : List Thread) (t : Thread) (q b : ℕ) → t.node ≡ q → σ t.origin ≤ b
    → HasBy σ (K ++ t ∷ []) q b
has_by_new σ K t q b e h = record {
  index = length K;
  inside = omega (arith, length_more K t);
  is = node_new K t (length K) refl ∙ e;
  by = omega (arith, ap σ (origin_new K t (length K) refl), h);
}

pub has_by_more : (σ : ℕ → ℕ) (K : List Thread) (q b c : ℕ) → b ≤ c → HasBy σ K q b → HasBy σ K q c
has_by_more σ K q b c l h = record { index = h.index; inside = h.inside; is = h.is; by = omega (arith, l, h.by) }

-- the origin of the new thread isn't below the others
pub rises_more : (σ : ℕ → ℕ) (K : List Thread) (t : Thread) → Rises σ K
    → ((x : ℕ) → x < length K → σ (origin_in K x) ≤ σ t.origin) → Rises σ (K ++ t ∷ [])
rises_more σ K t r below = record {
  rising = λ x y u v. elim (old_or_new K t y v) [
    | inl old ↦
        let both = r.rising x y u old in
        omega (arith, both, ap σ (origin_old K t x (omega (arith, u, old))), ap σ (origin_old K t y old))
    | inr new ↦ elim (old_or_new K t x (omega (arith, u, v))) [
      | inl before ↦
          omega (arith, below x before, ap σ (origin_old K t x before), ap σ (origin_new K t y new))
      | inr same ↦ omega (arith, ap σ (origin_new K t x same), ap σ (origin_new K t y new))
    ]
  ];
}

-- inside a list the default doesn't matter
pub any_default : {X : Type 0} (xs : List X) (i : ℕ) (d e : X) → i < length xs
    → slice_index_or xs i d ≡ slice_index_or xs i e
any_default [] i d e h = absurd (omega (arith, h))
any_default (x ∷ xs) zero d e h = refl
any_default (x ∷ xs) (suc i) d e h = any_default xs i d e (omega (arith, h))

-- the node that was read is that of the table
pub node_read : (nodes : List code.EreNode) (q : ℕ) (one : code.EreNode) → one ≡ slice_index_or nodes q one → q < length nodes
    → one ≡ slice_index_or nodes q kind.Stop
node_read nodes q one h l = h ∙ any_default nodes q one kind.Stop l

-- the thread that was read is that of the list
pub thread_node : (K : List Thread) (x : ℕ) (t : Thread) → t ≡ slice_index_or K x t → x < length K → t.node ≡ node_in K x
thread_node K x t h l =
    ap (λ (k : Thread). k.node) (h ∙ any_default K x t (record { node = 0; origin = 0 }) l)

pub thread_origin : (K : List Thread) (x : ℕ) (t : Thread) → t ≡ slice_index_or K x t → x < length K
    → t.origin ≡ origin_in K x
thread_origin K x t h l =
    ap (λ (k : Thread). k.origin) (h ∙ any_default K x t (record { node = 0; origin = 0 }) l)

-- and its node is that of the table
pub thread_at : (nodes : List code.EreNode) (K : List Thread) (x : ℕ) (t : Thread) (one : code.EreNode)
    → t ≡ slice_index_or K x t → x < length K → one ≡ slice_index_or nodes t.node one → node_in K x < length nodes
    → one ≡ slice_index_or nodes (node_in K x) kind.Stop
thread_at nodes K x t one h l g m =
    let same = thread_node K x t h l in
    node_read nodes t.node one g (omega (arith, same, m)) ∙ ap (λ q. slice_index_or nodes q kind.Stop) same
