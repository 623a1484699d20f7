-- A body is cut in at most one way, and the code's lengths of text, expressions and blocks give that cut. What begins at
-- the front decides the piece (`kind_is`), and the grammar of what stands inside a block decides where it ends. The hard ones
-- are `one_inside`, sixteen cases of two insides of one text, and `filled`: a count of open brackets finds the block's end.
use Rattle.std.proofs.Common.{◌≡◌, ℕ, ◌+◌, ◌-◌, ◌<◌, zero, suc, Bool, true, false, IsTrue, IsFalse, true≢false, if◌then◌else◌, ◌==◌, List, [], ◌∷◌, ◌++◌, Option, Some, None, is_some, length, length-append, append_assoc, ◌&&◌, not, take, drop, inl, inr, arith, refl, sym, subst, ap, ◌∙◌}
use Rattle.std.proofs.lemmas.Option.{same_Some}
use Rattle.std.proofs.lemmas.Bool.{eqb-true}
use Rattle.std.proofs.lemmas.List.{drop-drop, drop_all, take_all}
use Rattle.std.proofs.Math.Nat.{le_refl}
use Rattle.std.proofs.Math.Seq.{drop-append_seam, take-append_seam}
use Rattle.std.proofs.lemmas.Bool.Decides.{nat_tests, eqb_tells}
use Rattle.pattern_parse.specs.Ends.{one_more, is_text, run_of, up_to_end, closed, end_of}
use Rattle.pattern_parse.specs.declared.cutting.Front.{Front}
use Rattle.pattern_parse.specs.declared.cutting.Front.TheVariants.{End, Regex, Block, Text}
use Rattle.pattern_parse.specs.Cut.{Inside, nothing, plain, escaped, bracket, written, is_plain, IsSound, Raw, text, regex, block, Ending, over, no_regex_end, no_block_end, starts_twice, front_at, IsRun, IsUpToEnd, IsBlock, IsCut, CutIsOne}

-- lists that begin alike
abbrev first_of_list : List ℕ → ℕ
first_of_list [] = 0
first_of_list (x ∷ xs) = x

abbrev tail_of : List ℕ → List ℕ
tail_of [] = []
tail_of (x ∷ xs) = xs

same_head : (x y : ℕ) (xs ys : List ℕ) → x ∷ xs ≡ y ∷ ys → x ≡ y
same_head x y xs ys e = ap first_of_list e

same_tail : (x y : ℕ) (xs ys : List ℕ) → x ∷ xs ≡ y ∷ ys → xs ≡ ys
same_tail x y xs ys e = ap tail_of e

no_plain : (b n : ℕ) (A : Type 0) → IsTrue (is_plain b) → b ≡ n → is_plain n ≡ false → A
no_plain b n A p e f = absurd (true≢false (sym p ∙ ap is_plain e ∙ f))

-- what stands inside a block is one
one_inside : (i j : Inside) (x y : List ℕ) → IsSound i → IsSound j → written i (93 ∷ x) ≡ written j (93 ∷ y)
    → (i ≡ j) × (x ≡ y)
one_inside nothing nothing x y p q e = (refl, same_tail 93 93 x y e)
one_inside nothing (plain b j) x y p q e = no_plain b 93 _ q.0 (sym (same_head 93 b x (written j (93 ∷ y)) e)) refl
one_inside nothing (escaped b j) x y p q e = absurd (omega (arith, same_head 93 92 x (b ∷ written j (93 ∷ y)) e))
one_inside nothing (bracket j k) x y p q e =
    absurd (omega (arith, same_head 93 91 x (written j (93 ∷ written k (93 ∷ y))) e))
one_inside (plain a i) nothing x y p q e = no_plain a 93 _ p.0 (same_head a 93 (written i (93 ∷ x)) y e) refl
one_inside (plain a i) (plain b j) x y p q e =
    let h = same_head a b (written i (93 ∷ x)) (written j (93 ∷ y)) e in
    let r = one_inside i j x y p.1 q.1 (same_tail a b (written i (93 ∷ x)) (written j (93 ∷ y)) e) in
    (λ n. plain (h n) (r.0 n), r.1)
one_inside (plain a i) (escaped b j) x y p q e =
    no_plain a 92 _ p.0 (same_head a 92 (written i (93 ∷ x)) (b ∷ written j (93 ∷ y)) e) refl
one_inside (plain a i) (bracket j k) x y p q e =
    no_plain a 91 _ p.0 (same_head a 91 (written i (93 ∷ x)) (written j (93 ∷ written k (93 ∷ y))) e) refl
one_inside (escaped a i) nothing x y p q e = absurd (omega (arith, same_head 92 93 (a ∷ written i (93 ∷ x)) y e))
one_inside (escaped a i) (plain b j) x y p q e =
    no_plain b 92 _ q.0 (sym (same_head 92 b (a ∷ written i (93 ∷ x)) (written j (93 ∷ y)) e)) refl
one_inside (escaped a i) (escaped b j) x y p q e =
    let t = same_tail 92 92 (a ∷ written i (93 ∷ x)) (b ∷ written j (93 ∷ y)) e in
    let h = same_head a b (written i (93 ∷ x)) (written j (93 ∷ y)) t in
    let r = one_inside i j x y p q (same_tail a b (written i (93 ∷ x)) (written j (93 ∷ y)) t) in
    (λ n. escaped (h n) (r.0 n), r.1)
one_inside (escaped a i) (bracket j k) x y p q e =
    absurd (omega (arith, same_head 92 91 (a ∷ written i (93 ∷ x)) (written j (93 ∷ written k (93 ∷ y))) e))
one_inside (bracket i l) nothing x y p q e =
    absurd (omega (arith, same_head 91 93 (written i (93 ∷ written l (93 ∷ x))) y e))
one_inside (bracket i l) (plain b j) x y p q e =
    no_plain b 91 _ q.0 (sym (same_head 91 b (written i (93 ∷ written l (93 ∷ x))) (written j (93 ∷ y)) e)) refl
one_inside (bracket i l) (escaped b j) x y p q e =
    absurd (omega (arith, same_head 91 92 (written i (93 ∷ written l (93 ∷ x))) (b ∷ written j (93 ∷ y)) e))
one_inside (bracket i l) (bracket j k) x y p q e =
    let r =
    one_inside i j (written l (93 ∷ x)) (written k (93 ∷ y)) p.0 q.0
    (same_tail 91 91 (written i (93 ∷ written l (93 ∷ x))) (written j (93 ∷ written k (93 ∷ y))) e) in
    let u = one_inside l k x y p.1 q.1 r.1 in
    (λ n. bracket (r.0 n) (u.0 n), u.1)

one_block : (bs cs body x y : List ℕ) → IsBlock bs body x → IsBlock cs body y → (bs ≡ cs) × (x ≡ y)
one_block bs cs body x y p q =
    let r = one_inside p.0 q.0 (93 ∷ x) (93 ∷ y) p.1 q.1 (sym p.3 ∙ q.3) in
    (p.2 ∙ ap (λ i. written i []) r.0 ∙ sym q.2, same_tail 93 93 x y r.1)

ends_here : (body rest : List ℕ) → body ≡ 125 ∷ 125 ∷ rest → IsFalse (starts_twice 125 body) → ⊥
ends_here body rest e f = true≢false (subst (λ t. IsFalse (starts_twice 125 t)) e f)

-- the first `}}` is one
one_end : (bs cs body x y : List ℕ) → IsUpToEnd bs body x → IsUpToEnd cs body y → (bs ≡ cs) × (x ≡ y)
one_end [] [] body x y p q =
    let t = same_tail 125 125 (125 ∷ x) (125 ∷ y) (sym p ∙ q) in
    (refl, same_tail 125 125 x y t)
one_end [] (c ∷ cs) body x y p q = absurd (ends_here body x p q.2)
one_end (b ∷ bs) [] body x y p q = absurd (ends_here body y q p.2)
one_end (b ∷ bs) (c ∷ cs) body x y p q =
    let e = sym p.1 ∙ q.1 in
    let h = same_head b c p.0 q.0 e in
    let t = same_tail b c p.0 q.0 e in
    let r = one_end bs cs p.0 x y p.3 (subst (λ m. IsUpToEnd cs m y) (sym t) q.3) in
    (λ n. h n ∷ r.0 n, r.1)

-- a run of plain text is one
one_run : (bs cs body x y : List ℕ) → IsRun bs body x → IsRun cs body y → (bs ≡ cs) × (x ≡ y)
one_run [] [] body x y p q = (refl, p.0 ∙ sym q.0)
one_run [] (c ∷ cs) body x y p q = absurd (p.1 q.0)
one_run (b ∷ bs) [] body x y p q = absurd (q.1 p.0)
one_run (b ∷ bs) (c ∷ cs) body x y p q =
    let e = sym p.2 ∙ q.2 in
    let h = same_head b c p.1 q.1 e in
    let t = same_tail b c p.1 q.1 e in
    let r = one_run bs cs p.1 x y p.3 (subst (λ m. IsRun cs m y) (sym t) q.3) in
    (λ n. h n ∷ r.0 n, r.1)

abbrev rank : Front → ℕ
rank End = 0
rank Regex = 1
rank Block = 2
rank Text = 3

abbrev kind_of : List Raw → Ending → ℕ
kind_of [] over = 0
kind_of [] no_regex_end = 1
kind_of [] no_block_end = 2
kind_of (text bs ∷ raws) e = 3
kind_of (regex bs ∷ raws) e = 1
kind_of (block bs ∷ raws) e = 2

kind_is : (body : List ℕ) (raws : List Raw) (e : Ending) → IsCut body raws e → rank (front_at body) ≡ kind_of raws e
kind_is body [] over p = ap rank p
kind_is body [] no_regex_end p = ap rank p.0
kind_is body [] no_block_end p = ap rank p.0
kind_is body (text bs ∷ raws) e p = ap rank p.0
kind_is body (regex bs ∷ raws) e p = ap rank p.0
kind_is body (block bs ∷ raws) e p = ap rank p.0

-- a body that ends doesn't go on
end_not_more : (body : List ℕ) (x : Raw) (xs : List Raw) (e f : Ending) → IsCut body [] e → IsCut body (x ∷ xs) f → ⊥
end_not_more body (text b) xs over f p q =
    absurd (omega (arith, kind_is body [] over p, kind_is body (text b ∷ xs) f q))
end_not_more body (regex bs) xs over f p q =
    absurd (omega (arith, kind_is body [] over p, kind_is body (regex bs ∷ xs) f q))
end_not_more body (block i) xs over f p q =
    absurd (omega (arith, kind_is body [] over p, kind_is body (block i ∷ xs) f q))
end_not_more body (text b) xs no_regex_end f p q =
    absurd (omega (arith, kind_is body [] no_regex_end p, kind_is body (text b ∷ xs) f q))
end_not_more body (regex bs) xs no_regex_end f p q = p.1 bs q.1 q.2
end_not_more body (block i) xs no_regex_end f p q =
    absurd (omega (arith, kind_is body [] no_regex_end p, kind_is body (block i ∷ xs) f q))
end_not_more body (text b) xs no_block_end f p q =
    absurd (omega (arith, kind_is body [] no_block_end p, kind_is body (text b ∷ xs) f q))
end_not_more body (regex bs) xs no_block_end f p q =
    absurd (omega (arith, kind_is body [] no_block_end p, kind_is body (regex bs ∷ xs) f q))
end_not_more body (block i) xs no_block_end f p q = p.1 i q.1 q.2

same_end : (body : List ℕ) (e f : Ending) → IsCut body [] e → IsCut body [] f → e ≡ f
same_end body over over p q = refl
same_end body over no_regex_end p q = absurd (omega (arith, kind_is body [] over p, kind_is body [] no_regex_end q))
same_end body over no_block_end p q = absurd (omega (arith, kind_is body [] over p, kind_is body [] no_block_end q))
same_end body no_regex_end over p q = absurd (omega (arith, kind_is body [] no_regex_end p, kind_is body [] over q))
same_end body no_regex_end no_regex_end p q = refl
same_end body no_regex_end no_block_end p q =
    absurd (omega (arith, kind_is body [] no_regex_end p, kind_is body [] no_block_end q))
same_end body no_block_end over p q = absurd (omega (arith, kind_is body [] no_block_end p, kind_is body [] over q))
same_end body no_block_end no_regex_end p q =
    absurd (omega (arith, kind_is body [] no_block_end p, kind_is body [] no_regex_end q))
same_end body no_block_end no_block_end p q = refl

pub one_cut : CutIsOne
one_cut body [] [] e f p q = (refl, same_end body e f p q)
one_cut body [] (x ∷ xs) e f p q = absurd (end_not_more body x xs e f p q)
one_cut body (x ∷ xs) [] e f p q = absurd (end_not_more body x xs f e q p)
one_cut body (text bs ∷ raws) (text cs ∷ others) e f p q =
    let h = one_run bs cs body p.1 q.1 p.2 q.2 in
    let r = one_cut p.1 raws others e f p.3 (subst (λ m. IsCut m others f) (sym h.1) q.3) in
    (λ n. text (h.0 n) ∷ r.0 n, r.1)
one_cut body (regex bs ∷ raws) (regex cs ∷ others) e f p q =
    let h = one_end bs cs (drop 2 body) p.1 q.1 p.2 q.2 in
    let r = one_cut p.1 raws others e f p.3 (subst (λ m. IsCut m others f) (sym h.1) q.3) in
    (λ n. regex (h.0 n) ∷ r.0 n, r.1)
one_cut body (block bs ∷ raws) (block cs ∷ others) e f p q =
    let h = one_block bs cs (drop 2 body) p.1 q.1 p.2 q.2 in
    let r = one_cut p.1 raws others e f p.3 (subst (λ m. IsCut m others f) (sym h.1) q.3) in
    (λ n. block (h.0 n) ∷ r.0 n, r.1)
one_cut body (x ∷ raws) (y ∷ others) e f p q =
    absurd (omega (arith, kind_is body (x ∷ raws) e p, kind_is body (y ∷ others) f q))

-- THE CUT THAT IS FOUND

none_some : {A : Type 0} (n : ℕ) → None ≡ Some n → A
none_some n h = absurd (true≢false (sym (ap is_some h)))

one_more_out : (o : Option ℕ) (n : ℕ) → one_more o ≡ Some n → (m : ℕ) × (o ≡ Some m) × (n ≡ suc m)
one_more_out None n h = none_some n h
one_more_out (Some m) n h = (m, refl, sym (same_Some (suc m) n h))

pub text_tells : (f : Front) → is_text f ≡ true → f ≡ Text
text_tells Text h = refl
text_tells End h = absurd (true≢false (sym h))
text_tells Regex h = absurd (true≢false (sym h))
text_tells Block h = absurd (true≢false (sym h))

-- a run of plain text
pub run_is : (body : List ℕ) → IsRun (take (run_of body) body) body (drop (run_of body) body)
run_is [] = (refl, λ e. absurd (omega (arith, ap rank e)))
run_is (b ∷ rest) = each (is_text (front_at (b ∷ rest))) refl (run_is rest)
  where
    each : (v : Bool) → is_text (front_at (b ∷ rest)) ≡ v
        → IsRun (take (run_of rest) rest) rest (drop (run_of rest) rest)
        → IsRun (take (if v then suc (run_of rest) else 0) (b ∷ rest)) (b ∷ rest)
        (drop (if v then suc (run_of rest) else 0) (b ∷ rest))
    each true is h = (text_tells (front_at (b ∷ rest)) is, rest, refl, h)
    each false is h = (refl, λ e. true≢false (sym (ap is_text e) ∙ is))

pub some_run : (body : List ℕ) → front_at body ≡ Text → 0 < run_of body
some_run [] h = absurd (omega (arith, ap rank h))
some_run (b ∷ rest) h = rw (ap is_text h) (omega arith)

-- a body of plain text alone is one piece
pub text_alone : (body : List ℕ) → 0 < length body → run_of body ≡ length body → IsCut body (text body ∷ []) over
text_alone body some whole = (
  front body (omega (arith, some, whole)),
  [],
  subst (λ rest. IsRun body body rest) (drop_all (length body) body (le_refl (length body)))
      (subst (λ bytes. IsRun bytes body (drop (length body) body)) (take_all (length body) body (le_refl (length body)))
      (subst (λ n. IsRun (take n body) body (drop n body)) whole (run_is body))),
  refl,
)
  where
    front : (body : List ℕ) → 0 < run_of body → front_at body ≡ Text
    front [] low = absurd (omega (arith, low))
    front (b ∷ rest) low = each (is_text (front_at (b ∷ rest))) refl low
      where
        each : (v : Bool) → is_text (front_at (b ∷ rest)) ≡ v → 0 < (if v then suc (run_of rest) else 0)
            → front_at (b ∷ rest) ≡ Text
        each true is low = text_tells (front_at (b ∷ rest)) is
        each false is low = absurd (omega (arith, low))

pub two_out : (a b : Bool) → (a && b) ≡ true → (a ≡ true) × (b ≡ true)
two_out true b h = (refl, h)
two_out false b h = absurd (true≢false (sym h))

twice_out : (x : ℕ) (body : List ℕ) → starts_twice x body ≡ true → body ≡ x ∷ x ∷ drop 2 body
twice_out x [] h = absurd (true≢false (sym h))
twice_out x (a ∷ []) h = absurd (true≢false (sym h))
twice_out x (a ∷ b ∷ rest) h =
    let two = two_out (a == x) (b == x) h in
    ap (λ n. n ∷ b ∷ rest) (eqb-true a x two.0) ∙ ap (λ n. x ∷ n ∷ rest) (eqb-true b x two.1)

-- the first `}}`
pub end_is : (body : List ℕ) (n : ℕ) → up_to_end body ≡ Some n → IsUpToEnd (take n body) body (drop (n + 2) body)
end_is [] n h = none_some n h
end_is (b ∷ rest) n h = elim (starts_twice 125 (b ∷ rest)) as (λ v. starts_twice 125 (b ∷ rest) ≡ v
    → (if v then Some 0 else one_more (up_to_end rest)) ≡ Some n
    → IsUpToEnd (take n (b ∷ rest)) (b ∷ rest) (drop (n + 2) (b ∷ rest))) [
      | true ↦ λ is h. subst (λ m. IsUpToEnd (take m (b ∷ rest)) (b ∷ rest) (drop (m + 2) (b ∷ rest)))
          (same_Some 0 n h) (twice_out 125 (b ∷ rest) is)
      | false ↦ λ is h.
          let m = one_more_out (up_to_end rest) n h in
          let two : suc m.0 + 2 ≡ suc (m.0 + 2) = omega arith in
          subst (λ k. IsUpToEnd (take k (b ∷ rest)) (b ∷ rest) (drop (k + 2) (b ∷ rest))) (sym m.2) (
            rest,
            refl,
            is,
            subst (λ k. IsUpToEnd (take m.0 rest) rest (drop k (b ∷ rest))) (sym two)
                (end_is rest m.0 m.1),
          )
    ] refl h

up_is : (bs body rest : List ℕ) → IsUpToEnd bs body rest → up_to_end body ≡ Some (length bs)
up_is [] body rest p = ap up_to_end p
up_is (b ∷ bs) body rest p =
    ap up_to_end p.1
    ∙ ap (λ v. if v then Some 0 else one_more (up_to_end p.0)) (ap (starts_twice 125) (sym p.1) ∙ p.2)
    ∙ ap one_more (up_is bs p.0 rest p.3)

pub no_end : (body bs rest : List ℕ) → up_to_end body ≡ None → IsUpToEnd bs body rest → ⊥
no_end body bs rest h p = none_some (length bs) (sym h ∙ up_is bs body rest p)

-- THE END OF A BLOCK

-- a number raised, where there is one
abbrev pub adds : ℕ → Option ℕ → Option ℕ
adds zero o = o
adds (suc n) o = one_more (adds n o)

adds_plus : (m n : ℕ) (o : Option ℕ) → adds (m + n) o ≡ adds m (adds n o)
adds_plus zero n o = let e : 0 + n ≡ n = omega arith in ap (λ k. adds k o) e
adds_plus (suc m) n o =
    let e : suc m + n ≡ suc (m + n) = omega arith in
    ap (λ k. adds k o) e ∙ ap one_more (adds_plus m n o)

adds_none : (n : ℕ) → adds n (Some 0) ≡ Some n
adds_none zero = refl
adds_none (suc n) = ap one_more (adds_none n)

abbrev count : Inside → ℕ
count nothing = 0
count (plain b i) = suc (count i)
count (escaped b i) = suc (suc (count i))
count (bracket i j) = suc (count i + suc (count j))

pub written_front : (i : Inside) (rest : List ℕ) → written i rest ≡ written i [] ++ rest
written_front nothing rest = refl
written_front (plain b i) rest = ap (λ xs. b ∷ xs) (written_front i rest)
written_front (escaped b i) rest = ap (λ xs. 92 ∷ b ∷ xs) (written_front i rest)
written_front (bracket i j) rest =
    ap (λ xs. 91 ∷ xs) (written_front i (93 ∷ written j rest)
    ∙ ap (λ xs. written i [] ++ 93 ∷ xs) (written_front j rest)
    ∙ sym (append_assoc (written i []) (93 ∷ written j []) rest)
    ∙ ap (λ xs. xs ++ rest) (sym (written_front i (93 ∷ written j []))))

length-written : (i : Inside) → length (written i []) ≡ count i
length-written nothing = refl
length-written (plain b i) = ap suc (length-written i)
length-written (escaped b i) = ap (λ n. suc (suc n)) (length-written i)
length-written (bracket i j) =
    ap suc (ap length (written_front i (93 ∷ written j [])) ∙ length-append (written i []) (93 ∷ written j [])
    ∙ ap (λ n. n + suc (length (written j []))) (length-written i)
    ∙ ap (λ n. count i + suc n) (length-written j))

-- no plain byte ends anything
plain_end : (d b : ℕ) (rest : List ℕ) → is_plain b ≡ true
    → end_of d false (b ∷ rest) ≡ one_more (end_of d false rest)
plain_end d b rest h =
    let first = two_out (not (b == 91) && not (b == 92)) (not (b == 93)) h in
    let second = two_out (not (b == 91)) (not (b == 92)) first.0 in
    let open_no : (b == 91) ≡ false = grind (arith, nat_tests, second.0) in
    let slash_no : (b == 92) ≡ false = grind (arith, nat_tests, second.1) in
    let close_no : (b == 93) ≡ false = grind (arith, nat_tests, first.1) in
    rw (slash_no, open_no, close_no) refl

-- what stands inside is passed over
passes : (i : Inside) (d : ℕ) (rest : List ℕ) → IsSound i
    → end_of d false (written i rest) ≡ adds (count i) (end_of d false rest)
passes nothing d rest h = refl
passes (plain b i) d rest h = plain_end d b (written i rest) h.0 ∙ ap one_more (passes i d rest h.1)
passes (escaped b i) d rest h = ap (λ o. one_more (one_more o)) (passes i d rest h)
passes (bracket i j) d rest h =
    ap one_more (passes i (suc d) (93 ∷ written j rest) h.0
    ∙ ap (λ o. adds (count i) (one_more o)) (passes j d rest h.1)
    ∙ sym (adds_plus (count i) (suc (count j)) (end_of d false rest)))

block_end : (bs body rest : List ℕ) → IsBlock bs body rest → end_of 0 false body ≡ Some (length bs)
block_end bs body rest p =
    ap (end_of 0 false) p.3 ∙ passes p.0 0 (93 ∷ 93 ∷ rest) p.1 ∙ adds_none (count p.0)
    ∙ ap Some (sym (ap length p.2 ∙ length-written p.0))

pub no_block : (body bs rest : List ℕ) → end_of 0 false body ≡ None → IsBlock bs body rest → ⊥
no_block body bs rest h p = none_some (length bs) (sym h ∙ block_end bs body rest p)

-- what stands inside the brackets that are open, innermost first, up to the end of the block
abbrev fill : List Inside → List ℕ → List ℕ
fill [] rest = 93 ∷ rest
fill (i ∷ is) rest = written i (93 ∷ fill is rest)

abbrev AllSound : List Inside → Type 0
AllSound [] = Unit {0}
AllSound (i ∷ is) = IsSound i × AllSound is

abbrev Filled : ℕ → List ℕ → Type 0
Filled d body =
    (i : Inside) × (is : List Inside) × (rest : List ℕ) × (length is ≡ d) × IsSound i × AllSound is
    × (body ≡ fill (i ∷ is) rest)

filled_plain : (d b : ℕ) (rest : List ℕ) → is_plain b ≡ true → Filled d rest → Filled d (b ∷ rest)
filled_plain d b rest h f = (plain b f.0, f.1, f.2, f.3, (h, f.4), f.5, ap (λ xs. b ∷ xs) f.6)

filled_open : (d : ℕ) (rest : List ℕ) → Filled (suc d) rest → Filled d (91 ∷ rest)
filled_open d rest (i, [], end, long, sound, all, is) = absurd (omega arith)
filled_open d rest (i, j ∷ more, end, long, sound, all, is) =
    (bracket i j, more, end, omega arith, (sound, all.0), all.1, ap (λ xs. 91 ∷ xs) is)

filled_close : (d : ℕ) (rest : List ℕ) → Filled d rest → Filled (suc d) (93 ∷ rest)
filled_close d rest f = (nothing, f.0 ∷ f.1, f.2, ap suc f.3, tt, (f.4, f.5), ap (λ xs. 93 ∷ xs) f.6)

filled_escaped : (d b : ℕ) (rest : List ℕ) → Filled d rest → Filled d (92 ∷ b ∷ rest)
filled_escaped d b rest f = (escaped b f.0, f.1, f.2, f.3, f.4, f.5, ap (λ xs. 92 ∷ b ∷ xs) f.6)

filled_end : (rest : List ℕ) → starts_twice 93 (93 ∷ rest) ≡ true → Filled 0 (93 ∷ rest)
filled_end rest h = (nothing, [], drop 1 rest, refl, tt, tt, twice_out 93 (93 ∷ rest) h)

closing : (d : ℕ) (rest : List ℕ) (n : ℕ)
    → closed d (93 ∷ rest) (λ e. one_more (end_of e false rest)) ≡ Some n
    → ((e m : ℕ) → end_of e false rest ≡ Some m → Filled e rest) → Filled d (93 ∷ rest)
closing zero rest n h here = each (starts_twice 93 (93 ∷ rest)) refl h
  where
    each : (v : Bool) → starts_twice 93 (93 ∷ rest) ≡ v → (if v then Some 0 else None) ≡ Some n → Filled 0 (93 ∷ rest)
    each true is h = filled_end rest is
    each false is h = none_some n h
closing (suc d) rest n h here =
    let m = one_more_out (end_of d false rest) n h in filled_close d rest (here d m.0 m.1)

found_step : (d b : ℕ) (rest : List ℕ) (n : ℕ) → end_of d false (b ∷ rest) ≡ Some n
    → ((e m : ℕ) → end_of e false rest ≡ Some m → Filled e rest)
    → ((m : ℕ) → end_of d true rest ≡ Some m → Filled d (92 ∷ rest)) → Filled d (b ∷ rest)
found_step d b rest n h here hidden = elim (eqb_tells b 92) [
  | inl (t, e) ↦
      let m = one_more_out (end_of d true rest) n (rw t at h) in
      subst (λ x. Filled d (x ∷ rest)) (sym e) (hidden m.0 m.1)
  | inr (t, e) ↦ elim (eqb_tells b 91) [
    | inl (u, f) ↦
        let m = one_more_out (end_of (suc d) false rest) n (rw (t, u) at h) in
        subst (λ x. Filled d (x ∷ rest)) (sym f) (filled_open d rest (here (suc d) m.0 m.1))
    | inr (u, f) ↦ elim (eqb_tells b 93) [
      | inl (v, g) ↦
          subst (λ x. Filled d (x ∷ rest)) (sym g)
          (closing d rest n (subst (λ x. closed d (x ∷ rest) (λ e. one_more (end_of e false rest)) ≡ Some n) g
          (rw (t, u, v) at h)) here)
      | inr (v, g) ↦
          let m = one_more_out (end_of d false rest) n (rw (t, u, v) at h) in
          let is : is_plain b ≡ true = grind (arith, nat_tests, t, u, v) in
          filled_plain d b rest is (here d m.0 m.1)
    ]
  ]
]

filled : (d : ℕ) (body : List ℕ) (n : ℕ) → end_of d false body ≡ Some n → Filled d body
filled d [] n h = none_some n h
filled d (b ∷ []) n h = found_step d b [] n h (λ e m k. none_some m k) (λ m k. none_some m k)
filled d (b ∷ c ∷ rest) n h =
    found_step d b (c ∷ rest) n h (λ e m k. filled e (c ∷ rest) m k)
    (λ m k. let o = one_more_out (end_of d false rest) m k in filled_escaped d c rest (filled d rest o.0 o.1))

-- the `]]` of a block
pub block_is : (body : List ℕ) (n : ℕ) → end_of 0 false body ≡ Some n
    → IsBlock (take n body) body (drop (n + 2) body)
block_is body n h = at_end (filled 0 body n h)
  where
    at_end : Filled 0 body → IsBlock (take n body) body (drop (n + 2) body)
    at_end (i, j ∷ more, rest, long, sound, all, is) = absurd (omega arith)
    at_end (i, [], rest, long, sound, all, is) =
        let bs : List ℕ = written i [] in
        let block : IsBlock bs body rest = (i, sound, refl, is) in
        let same : n ≡ length bs = same_Some n (length bs) (sym h ∙ block_end bs body rest block) in
        let whole : body ≡ bs ++ 93 ∷ 93 ∷ rest = is ∙ written_front i (93 ∷ 93 ∷ rest) in
        let front : take n body ≡ bs =
        ap (λ k. take k body) same ∙ ap (take (length bs)) whole ∙ take-append_seam bs (93 ∷ 93 ∷ rest) in
        let behind : drop (n + 2) body ≡ rest =
        sym (drop-drop 2 n body) ∙ ap (drop 2) (ap (λ k. drop k body) same ∙ ap (drop (length bs)) whole
        ∙ drop-append_seam bs (93 ∷ 93 ∷ rest)) in
        subst (λ xs. IsBlock xs body (drop (n + 2) body)) (sym front)
        (subst (λ r. IsBlock bs body r) (sym behind) block)

-- A PIECE MORE

-- the part of a body that the code names by its ends
named : (body : List ℕ) (from count : ℕ)
    → take (from + count - from) (drop from body) ≡ take count (drop from body)
named body from count = let e : from + count - from ≡ count = omega arith in ap (λ n. take n (drop from body)) e

pub text_cut : (body : List ℕ) (at : ℕ) (more : List Raw) (e : Ending) → front_at (drop at body) ≡ Text
    → IsCut (drop (at + run_of (drop at body)) body) more e
    → IsCut (drop at body)
    (text (take (at + run_of (drop at body) - at) (drop at body)) ∷ more) e
text_cut body at more e is h =
    let n : ℕ = run_of (drop at body) in
    subst (λ bs. IsCut (drop at body) (text bs ∷ more) e) (sym (named body at n)) (
      is,
      drop n (drop at body),
      run_is (drop at body),
      subst (λ rest. IsCut rest more e) (sym (drop-drop n at body)) h,
    )

pub regex_cut : (body : List ℕ) (at n : ℕ) (more : List Raw) (e : Ending) → front_at (drop at body) ≡ Regex
    → up_to_end (drop (at + 2) body) ≡ Some n → IsCut (drop (at + 2 + n + 2) body) more e
    → IsCut (drop at body) (regex (take (at + 2 + n - (at + 2)) (drop (at + 2) body)) ∷ more) e
regex_cut body at n more e is end h =
    let two : drop 2 (drop at body) ≡ drop (at + 2) body = drop-drop 2 at body in
    let far : at + 2 + (n + 2) ≡ at + 2 + n + 2 = omega arith in
    let rest : List ℕ = drop (n + 2) (drop (at + 2) body) in
    let same : rest ≡ drop (at + 2 + n + 2) body =
    drop-drop (n + 2) (at + 2) body ∙ ap (λ m. drop m body) far in
    subst (λ bs. IsCut (drop at body) (regex bs ∷ more) e) (sym (named body (at + 2) n)) (
      is,
      rest,
      subst (λ xs. IsUpToEnd (take n (drop (at + 2) body)) xs rest) (sym two) (end_is (drop (at + 2) body) n end),
      subst (λ r. IsCut r more e) (sym same) h,
    )

pub block_cut : (body : List ℕ) (at n : ℕ) (more : List Raw) (e : Ending) → front_at (drop at body) ≡ Block
    → end_of 0 false (drop (at + 2) body) ≡ Some n → IsCut (drop (at + 2 + n + 2) body) more e
    → IsCut (drop at body) (block (take (at + 2 + n - (at + 2)) (drop (at + 2) body)) ∷ more) e
block_cut body at n more e is end h =
    let two : drop 2 (drop at body) ≡ drop (at + 2) body = drop-drop 2 at body in
    let far : at + 2 + (n + 2) ≡ at + 2 + n + 2 = omega arith in
    let rest : List ℕ = drop (n + 2) (drop (at + 2) body) in
    let same : rest ≡ drop (at + 2 + n + 2) body =
    drop-drop (n + 2) (at + 2) body ∙ ap (λ m. drop m body) far in
    subst (λ bs. IsCut (drop at body) (block bs ∷ more) e) (sym (named body (at + 2) n)) (
      is,
      rest,
      subst (λ xs. IsBlock (take n (drop (at + 2) body)) xs rest) (sym two) (block_is (drop (at + 2) body) n end),
      subst (λ r. IsCut r more e) (sym same) h,
    )

pub regex_open : (body : List ℕ) (at : ℕ) → front_at (drop at body) ≡ Regex → up_to_end (drop (at + 2) body) ≡ None
    → IsCut (drop at body) [] no_regex_end
regex_open body at is none = (
  is,
  λ bs rest p. no_end (drop (at + 2) body) bs rest none
      (subst (λ xs. IsUpToEnd bs xs rest) (drop-drop 2 at body) p),
)

pub block_open : (body : List ℕ) (at : ℕ) → front_at (drop at body) ≡ Block
    → end_of 0 false (drop (at + 2) body) ≡ None → IsCut (drop at body) [] no_block_end
block_open body at is none = (
  is,
  λ bs rest p. no_block (drop (at + 2) body) bs rest none
      (subst (λ xs. IsBlock bs xs rest) (drop-drop 2 at body) p),
)
