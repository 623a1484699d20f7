-- Numbers that hold each name of an expression, as far as it has a value, give the expression the value that the variables
-- give it. Shown by what the numbers have at a name: once it is what the variables have there, it stays so. The hard one is
-- `names_agree`.
use Rattle.std.proofs.Common.{◌≡◌, ◌⊎◌, inl, inr, ℕ, ℤ, Bool, true, false, true≢false, cond, Option, Some, None, List, refl, sym, ap, ◌∙◌}
use Rattle.std.proofs.lemmas.Option.{none-some}
use Rattle.std.specs.Cmp.{eq_by_cmp_equiv}
use Rattle.std.specs.Ordering.{is_eq}
use Rattle.std.specs.FinMap.{FinMap, empty, get, insert, get-insert, get-empty}
use Rattle.std.specs.declared.cmp.Ordering.{Ordering}
use Rattle.std.specs.declared.cmp.Ordering.TheVariants.{Less, Equal, Greater}
use Rattle.std.proofs.lemmas.Map.Lookups.{exact_bytes}
use Rattle.std.proofs.lemmas.Cmp.{nat_list_cmp_total}
use Rattle.num_base.specs.Eval.{value_of, both, done, found}
use Rattle.num_base.specs.Names.{name_cmp}
use Rattle.num_base.specs.Term.{Term, literal, line, name, binary}
use Rattle.pattern_instance.specs.Views.{gathered}

is_equal : (r : Ordering) → is_eq r ≡ true → r ≡ Equal
is_equal Less e = absurd (true≢false (sym e))
is_equal Equal e = refl
is_equal Greater e = absurd (true≢false (sym e))

-- at this name the numbers have what the variables have
abbrev Agrees : (List ℕ → Option ℤ) → FinMap name_cmp ℤ → List ℕ → Type 0
Agrees f m q = get m q ≡ f q

-- where the numbers have something, they have what the variables have
abbrev AreSound : (List ℕ → Option ℤ) → FinMap name_cmp ℤ → Type 0
AreSound f m = (q : List ℕ) (z : ℤ) → get m q ≡ Some z → Agrees f m q

-- what stands under a name once a value of the variables was put under one
put_at : (f : List ℕ → Option ℤ) (m : FinMap name_cmp ℤ) (k q : List ℕ) (z : ℤ) → f k ≡ Some z
    → (get (insert m k z) q ≡ f q) ⊎ (get (insert m k z) q ≡ get m q)
put_at f m k q z has = each (is_eq (name_cmp q k)) refl
  where
    each : (same : Bool) → is_eq (name_cmp q k) ≡ same
        → (get (insert m k z) q ≡ f q) ⊎ (get (insert m k z) q ≡ get m q)
    each true is = inl (get-insert nat_list_cmp_total m k z q ∙ ap (λ b. cond b (Some z) (get m q)) is
        ∙ sym has ∙ ap f (sym (exact_bytes q k (is_equal _ is))))
    each false is = inr (get-insert nat_list_cmp_total m k z q ∙ ap (λ b. cond b (Some z) (get m q)) is)

put_stays : (f : List ℕ → Option ℤ) (m : FinMap name_cmp ℤ) (k q : List ℕ) (z : ℤ) → f k ≡ Some z
    → Agrees f m q → Agrees f (insert m k z) q
put_stays f m k q z has here = elim (put_at f m k q z has) [ inl e ↦ e | inr e ↦ e ∙ here ]

put_sound : (f : List ℕ → Option ℤ) (m : FinMap name_cmp ℤ) (k : List ℕ) (z : ℤ) → f k ≡ Some z
    → AreSound f m → AreSound f (insert m k z)
put_sound f m k z has sound q w is =
    elim (put_at f m k q z has) [ inl e ↦ e | inr e ↦ e ∙ sound q w (sym e ∙ is) ]

put_here : (f : List ℕ → Option ℤ) (m : FinMap name_cmp ℤ) (k : List ℕ) (z : ℤ) → f k ≡ Some z
    → Agrees f (insert m k z) k
put_here f m k z has =
    get-insert nat_list_cmp_total m k z k
    ∙ ap (λ b. cond b (Some z) (get m k)) ((eq_by_cmp_equiv nat_list_cmp_total).refl k) ∙ sym has

-- gathering keeps both
stays : (f : List ℕ → Option ℤ) (t : Term) (m : FinMap name_cmp ℤ) (q : List ℕ) → Agrees f m q
    → Agrees f (gathered f t m) q
stays f (literal z) m q here = here
stays f line m q here = here
stays f (name one) m q here = each (f one) refl
  where
    each : (o : Option ℤ) → f one ≡ o → Agrees f (elim o [ Some z ↦ insert m one z | None ↦ m ]) q
    each (Some z) has = put_stays f m one q z has here
    each None has = here
stays f (binary op l r) m q here = stays f r (gathered f l m) q (stays f l m q here)

sound : (f : List ℕ → Option ℤ) (t : Term) (m : FinMap name_cmp ℤ) → AreSound f m → AreSound f (gathered f t m)
sound f (literal z) m is = is
sound f line m is = is
sound f (name one) m is = each (f one) refl
  where
    each : (o : Option ℤ) → f one ≡ o → AreSound f (elim o [ Some z ↦ insert m one z | None ↦ m ])
    each (Some z) has = put_sound f m one z has is
    each None has = is
sound f (binary op l r) m is = sound f r (gathered f l m) (sound f l m is)

-- the numbers have what the variables have at each name of an expression
abbrev AllAgree : (List ℕ → Option ℤ) → FinMap name_cmp ℤ → Term → Type 0
AllAgree f m (literal z) = Unit {0}
AllAgree f m line = Unit {0}
AllAgree f m (name one) = Agrees f m one
AllAgree f m (binary op l r) = AllAgree f m l × AllAgree f m r

all_stay : (f : List ℕ → Option ℤ) (t u : Term) (m : FinMap name_cmp ℤ) → AllAgree f m t
    → AllAgree f (gathered f u m) t
all_stay f (literal z) u m h = tt
all_stay f line u m h = tt
all_stay f (name one) u m h = stays f u m one h
all_stay f (binary op l r) u m h = (all_stay f l u m h.0, all_stay f r u m h.1)

names_agree : (f : List ℕ → Option ℤ) (t : Term) (m : FinMap name_cmp ℤ) → AreSound f m → AllAgree f (gathered f t m) t
names_agree f (literal z) m is = tt
names_agree f line m is = tt
names_agree f (name one) m is = each (f one) refl
  where
    none : (o : Option ℤ) → get m one ≡ o → f one ≡ None → o ≡ f one
    none None has past = sym past
    none (Some z) has past = sym has ∙ is one z has

    each : (o : Option ℤ) → f one ≡ o → get (elim o [ Some z ↦ insert m one z | None ↦ m ]) one ≡ f one
    each (Some z) has = put_here f m one z has
    each None has = none (get m one) refl has
names_agree f (binary op l r) m is = (
  all_stay f l r (gathered f l m) (names_agree f l m is),
  names_agree f r (gathered f l m) (sound f l m is),
)

same_value : (f : List ℕ → Option ℤ) (at : ℕ) (t : Term) (m : FinMap name_cmp ℤ) → AllAgree f m t
    → value_of (get m) at t ≡ value_of f at t
same_value f at (literal z) m h = refl
same_value f at line m h = refl
same_value f at (name one) m h = ap found h
same_value f at (binary op l r) m h =
    λ n. both (done op) (same_value f at l m h.0 n) (same_value f at r m h.1 n)

empty_sound : (f : List ℕ → Option ℤ) → AreSound f empty
empty_sound f q z is = absurd (none-some z (sym (get-empty name_cmp q) ∙ is))

pub gathered_agree : (f : List ℕ → Option ℤ) (at : ℕ) (t : Term) (m : FinMap name_cmp ℤ) → m ≡ gathered f t empty
    → value_of (get m) at t ≡ value_of f at t
gathered_agree f at t m is =
    ap (λ held. value_of (get held) at t) is
    ∙ same_value f at t (gathered f t empty) (names_agree f t empty (empty_sound f))
