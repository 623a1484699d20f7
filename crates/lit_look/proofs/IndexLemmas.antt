-- The numbers of directories, under their paths.
-- Shown: a number is found exactly where its directory was looked at, also behind one more directory.
-- Idea: a text tells its path, and a number its place. The hard one is `numbers_more`.
use Rattle.std.proofs.Common.{◌≡◌, ℕ, ◌+◌, ◌≤◌, Bool, true, false, cond, List, [], ◌∷◌, ◌++◌, length, map, Option, Some, None, MatchOption, inl, inr, refl, sym, ap, ◌∙◌, subst, arith}
use Rattle.std.specs.Prelude.{All, Vec, slice_get}
use Rattle.std.specs.BTreeMap.{insert_entry}
use Rattle.std.specs.Cmp.{eq_by_cmp_equiv}
use Rattle.std.specs.Cmp.Lexicographic.{slice_cmp}
use Rattle.std.specs.FinMap.{get, get-insert}
use Rattle.std.specs.List.{list_all}
use Rattle.std.specs.Option.{option_map}
use Rattle.std.specs.Ordering.{is_eq, nat_cmp}
use Rattle.std.specs.declared.alloc.Global.{Global}
use Rattle.std.proofs.lemmas.Cmp.{nat_list_cmp_total}
use Rattle.std.proofs.lemmas.List.{length-map, map_push}
use Rattle.std.proofs.lemmas.List.Elements.{All-contains, All-push}
use Rattle.std.proofs.lemmas.List.Sums.{sum_by_push}
use Rattle.std.proofs.lemmas.Map.Lookups.{exact_bytes}
use Rattle.std.proofs.lemmas.Map.Views.{tells_apart}
use Rattle.std.proofs.lemmas.Option.{slice_get-get_or, slice_get-map}
use Rattle.num_base.specs.Names.{by_names, name_cmp}
use Rattle.num_base.proofs.NamesLemmas.{put_under, value_under}
use Rattle.lit_paths.specs.Paths.{Parts, text_of}
use Rattle.lit_paths.proofs.LawLemmas.{texts_tell_paths}
use Rattle.lit_look.proofs.ListLemmas.{get_before, get_cases, get_last, has_at, mapped}
use Rattle.lit_look.proofs.SeenLemmas.{has_number}
use Rattle.lit_look.specs.Index.{AreNumbers, IsIndexed, number_at}
use Rattle.lit_look.specs.Looks.{IsNumberOf}
use Rattle.lit_look.specs.Seen.{Has, HasParts, HasRoot}
use Rattle.lit_look.specs.declared.seen.Looked.{Looked}
use Rattle.tt_outside.specs.TreeMap.{is_part}

-- ---- numbers of directories

abbrev path_of : Looked → List ℕ
path_of looked = text_of looked.dir

-- the directory of this path has the number
its_number : (seen : List Looked) (dir : Parts) (number : ℕ) → All HasParts seen → list_all is_part dir ≡ true
    → slice_get (map path_of seen) number ≡ Some (text_of dir) → IsNumberOf seen dir number
its_number seen dir number all parts is =
    by_item (slice_get seen number) refl (sym (slice_get-map path_of seen number) ∙ is)
  where
    by_item : (o : Option Looked) → slice_get seen number ≡ o → option_map path_of o ≡ Some (text_of dir)
        → IsNumberOf seen dir number
    by_item None here is = absurd (cc)
    by_item (Some looked) here is =
        (looked, here, texts_tell_paths looked.dir dir (All-contains HasParts seen looked all (has_at seen number looked here)) parts (cc))

-- what the numbers have under a path
pub number_found : (seen : List Looked) (numbers : List (Vec ℕ Global × ℕ)) (items : ℕ) (dir : Parts) (found : Option ℕ)
    → IsIndexed seen numbers items → list_all is_part dir ≡ true → number_at numbers (text_of dir) ≡ found
    → MatchOption found (¬ (Has seen dir)) (IsNumberOf seen dir)
number_found seen numbers items dir (Some number) index parts is =
    its_number seen dir number index.parts parts (index.numbered.right (text_of dir) number is)
number_found seen numbers items dir None index parts is = λ has.
    let (looked, (k, within, here), same) = mapped (λ one. one.dir) seen dir has in
    let at = slice_get-map path_of seen k
    ∙ ap (option_map path_of) (slice_get-get_or seen k looked within ∙ ap (λ one. Some one) here)
    ∙ ap (λ one. Some (text_of one)) same in
    let e = sym is ∙ index.numbered.whole (text_of dir) k at in
    absurd (cc)

-- ---- one more directory

put_number : (numbers : List (Vec ℕ Global × ℕ)) (key : Vec ℕ Global) (number : ℕ) (path : List ℕ)
    → number_at (insert_entry (λ x y. slice_cmp nat_cmp x.items y.items) numbers key number) path
    ≡ cond (is_eq (name_cmp path key.items)) (Some number) (number_at numbers path)
put_number numbers key number path =
    sym (value_under (insert_entry (λ x y. slice_cmp nat_cmp x.items y.items) numbers key number) path)
    ∙ ap (λ m. get m path) (put_under numbers key number)
    ∙ get-insert nat_list_cmp_total (by_names numbers) key.items number path
    ∙ ap (cond (is_eq (name_cmp path key.items)) (Some number)) (value_under numbers path)

numbers_more : (texts : List (List ℕ)) (numbers : List (Vec ℕ Global × ℕ)) (key : Vec ℕ Global) (number : ℕ)
    → AreNumbers texts numbers → number ≡ length texts → ((k : ℕ) → slice_get texts k ≡ Some key.items → ⊥)
    → AreNumbers (texts ++ key.items ∷ []) (insert_entry (λ x y. slice_cmp nat_cmp x.items y.items) numbers key number)
numbers_more texts numbers key number are last new = record {
  right = λ path other is. right path other (is_eq (name_cmp path key.items)) refl
      (sym (put_number numbers key number path) ∙ is);
  whole = λ path other at. put_number numbers key number path ∙ elim (get_cases texts key.items path other at) [
    | inl before ↦ earlier path other (is_eq (name_cmp path key.items)) refl before
    | inr (end, is) ↦
        ap (λ text. cond (is_eq (name_cmp text key.items)) (Some number) (number_at numbers path)) is
        ∙ ap (λ b. cond b (Some number) (number_at numbers path)) ((eq_by_cmp_equiv nat_list_cmp_total).refl key.items)
        ∙ ap (λ n. Some n) (last ∙ sym end)
  ];
}
  where
    right : (path : List ℕ) (other : ℕ) (b : Bool) → is_eq (name_cmp path key.items) ≡ b
        → cond b (Some number) (number_at numbers path) ≡ Some other
        → slice_get (texts ++ key.items ∷ []) other ≡ Some path
    right path other true e is =
        let same : number ≡ other = cc in
        ap (slice_get (texts ++ key.items ∷ [])) (sym same ∙ last) ∙ get_last texts key.items
        ∙ ap (λ text. Some text) (sym (tells_apart exact_bytes path key.items e))
    right path other false e is = get_before texts (key.items ∷ []) other path (are.right path other is)

    earlier : (path : List ℕ) (other : ℕ) (b : Bool) → is_eq (name_cmp path key.items) ≡ b
        → slice_get texts other ≡ Some path → cond b (Some number) (number_at numbers path) ≡ Some other
    earlier path other true e at =
        absurd (new other (at ∙ ap (λ text. Some text) (tells_apart exact_bytes path key.items e)))
    earlier path other false e at = are.whole path other at

pub one_more : (seen : List Looked) (numbers : List (Vec ℕ Global × ℕ)) (items now : ℕ) (one : Looked)
    (key : Vec ℕ Global) (number : ℕ) → IsIndexed seen numbers items → HasParts one → HasRoot one
    → ¬ (Has seen one.dir) → key.items ≡ text_of one.dir → number ≡ length seen → now ≡ items + one.count
    → now ≤ 1000000
    → IsIndexed (seen ++ one ∷ []) (insert_entry (λ x y. slice_cmp nat_cmp x.items y.items) numbers key number) now
one_more seen numbers items now one key number index parts its new named last sum room = record {
  numbered = subst (λ texts. AreNumbers texts (insert_entry (λ x y. slice_cmp nat_cmp x.items y.items) numbers key number))
      (ap (λ text. map path_of seen ++ text ∷ []) named ∙ sym (map_push path_of seen one))
      (numbers_more (map path_of seen) numbers key number index.numbered (last ∙ sym (length-map seen path_of))
      (λ k at. new (has_number seen one.dir k
      (its_number seen one.dir k index.parts parts (at ∙ ap (λ text. Some text) named)))));
  parts = All-push HasParts seen one index.parts parts;
  roots = All-push HasRoot seen one index.roots its;
  count = omega (arith, index.count, sum_by_push (λ looked. looked.count) seen one);
  within = room;
}
