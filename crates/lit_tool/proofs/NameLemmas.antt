-- What is made of tests and then named is made of their names. Where no expression selects, the code keeps names and no tests, so
-- what is promised of tests is carried over from their names: a shard of names is the names of that shard (`names_kept`), and what
-- is written of names is what is written of tests (`shows_names`), or why there are none is told (`shows_stop`). None is hard.
use Rattle.std.proofs.Common.{◌≡◌, ℕ, ◌+◌, Bool, true, false, if◌then◌else◌, List, [], ◌∷◌, ◌++◌, map, codes, inl, inr, subst, Option, Some, None, IfOk, Result, Ok, Err, ap, sym, ◌∙◌, refl}
use Rattle.std.specs.Option.{option_map}
use Rattle.std.proofs.lemmas.List.Folds.{flat_map-map}
use Rattle.ere_tree.specs.View.{view}
use Rattle.ere_tree.specs.declared.ere.Ere.{Ere}
use Rattle.lit_dirs.specs.declared.fault.DiscoverFault.TheVariants.{TreeFault, NoMemory}
use Rattle.lit_find.specs.Found.{Discovers}
use Rattle.lit_select.specs.Selection.{selected}
use Rattle.lit_words.specs.Asked.{Wanted, wanted}
use Rattle.lit_words.specs.declared.asked.LitAsked.{LitAsked}
use Rattle.lit_words.specs.declared.number.Shard.{Shard}
use Rattle.tt_outside.specs.declared.test_data.Test.{Test}
use Rattle.tt_run.specs.Run.{Stream, Written}
use Rattle.tt_run.specs.Frame.{cannot_write, newline}
use Rattle.run_report.specs.Run.{Rests}
use Rattle.lit_tool.specs.Answer.{TellsStop, WritesNames, name_line, showing, shown_names, shown_text}
use Rattle.lit_tool.specs.Kept.{has_place, names_in, names_of, shard_from, unless_none}
use Rattle.lit_tool.specs.Run.{NamesFrom, ShowsFrom, TestsFrom, TreeRests, TreeRun, shown_of}
use Rattle.lit_tool.specs.declared.stop.LitStop.{LitStop}

map_more : {A B : Type 0} (f : A → B) (b : Bool) (x : A) (xs : List A) (ys : List B) → map f xs ≡ ys
    → map f (if b then x ∷ xs else xs) ≡ (if b then f x ∷ ys else ys)
map_more f true x xs ys same = ap (λ all. f x ∷ all) same
map_more f false x xs ys same = same

-- a shard of what is mapped
shard_map : {A B : Type 0} (f : A → B) (s : Shard) (place : ℕ) (xs : List A)
    → map f (shard_from s place xs) ≡ shard_from s place (map f xs)
shard_map f s place [] = refl
shard_map f s place (x ∷ xs) =
    map_more f (has_place s place) x (shard_from s (place + 1) xs) (shard_from s (place + 1) (map f xs))
    (shard_map f s (place + 1) xs)

-- the names of those that are kept are those kept of the names
pub names_kept : (shard : Option Shard) (tests : List Test)
    → unless_none shard (names_of tests) ≡ names_in (unless_none shard tests)
names_kept shard [] = refl
names_kept None (test ∷ tests) = refl
names_kept (Some s) (test ∷ tests) = ap Ok (sym (shard_map (λ (t : Test). t.name) s 0 (test ∷ tests)))

-- what is written of the names is what is written of the tests
names_told : (tests : List Test) (names : List (List ℕ)) → names ≡ names_of tests → shown_names names ≡ shown_text tests
names_told tests names same =
    ap shown_names same
    ∙ ap (λ lines. (codes "-- Available Tests --" ++ newline) ++ lines)
    (flat_map-map name_line (λ (t : Test). t.name) tests)

ok_same : {A E : Type 0} (one : Result A E) (x y : A) → one ≡ Ok x → one ≡ Ok y → x ≡ y
ok_same one x y first second = cc

err_same : {A E : Type 0} (one : Result A E) (x y : E) → one ≡ Err x → one ≡ Err y → x ≡ y
err_same one x y first second = cc

no_both : {A E : Type 0} (one : Result A E) (x : A) (fault : E) → one ≡ Ok x → one ≡ Err fault → ⊥
no_both one x fault first second = cc

-- names are written
names_by : (t : TreeRun) (wanted : Wanted) (outcome : Result (List Test) LitStop) (named : Result (List (List ℕ)) LitStop)
    (names : List (List ℕ)) (status : ℕ) (out err : Stream) → TestsFrom t wanted outcome → named ≡ Ok names
    → named ≡ names_in outcome → Written (cannot_write (codes "lit")) (showing (shown_names names)) status out err
    → ShowsFrom t wanted status out err
names_by t wanted (Ok tests) named names status out err from is same written =
    inr (
      Ok tests,
      from,
      subst (λ text. Written (cannot_write (codes "lit")) (showing text) status out err)
          (names_told tests names (ok_same named names (names_of tests) is same)) written,
    )
names_by t wanted (Err stop) named names status out err from is same written = absurd (no_both named names stop is same)

pub shows_names : (t : TreeRun) (wanted : Wanted) (named : Result (List (List ℕ)) LitStop) (names : List (List ℕ)) (status : ℕ)
    (out err : Stream) → named ≡ Ok names → NamesFrom t wanted named → WritesNames names status out err
    → ShowsFrom t wanted status out err
shows_names t wanted named names status out err is from (inl lack) = inl lack
shows_names t wanted named names status out err is (found, searched, same) (inr written) =
    names_by t wanted (shown_of wanted found) named names status out err (found, searched, refl) is same written

-- why there are none is told
stop_by : (t : TreeRun) (wanted : Wanted) (outcome : Result (List Test) LitStop) (named : Result (List (List ℕ)) LitStop)
    (stop : LitStop) (status : ℕ) (out err : Stream) → TestsFrom t wanted outcome → named ≡ Err stop
    → named ≡ names_in outcome → Rests out → TellsStop stop status err → ShowsFrom t wanted status out err
stop_by t wanted (Ok tests) named stop status out err from is same rests told =
    absurd (no_both named (names_of tests) stop same is)
stop_by t wanted (Err other) named stop status out err from is same rests told =
    inr (Err other, from, (rests, subst (λ s. TellsStop s status err) (err_same named stop other is same) told))

pub shows_stop : (t : TreeRun) (wanted : Wanted) (named : Result (List (List ℕ)) LitStop) (stop : LitStop) (status : ℕ)
    (out err : Stream) → named ≡ Err stop → NamesFrom t wanted named → Rests out → TellsStop stop status err
    → ShowsFrom t wanted status out err
shows_stop t wanted named stop status out err is (found, searched, same) rests told =
    stop_by t wanted (shown_of wanted found) named stop status out err (found, searched, refl) is same rests told

-- no answer is a refusal
pub no_err : {A E : Type 0} (x : A) (fault : E) → Ok x ≡ Err fault → ⊥
no_err x fault is = cc

-- with no expression all tests are selected
all_selected : (select drop : Option Ere) (tests : List Test) → select ≡ None → drop ≡ None
    → tests ≡ selected (option_map view select) (option_map view drop) tests
all_selected select drop tests no_select no_drop = rw (no_select, no_drop)

-- then the names of those found are those of all tests
pub all_named : {E : Type 0} (t : TreeRun) (asked : LitAsked) (tests : List Test) (names : List (List ℕ))
    (result : Result (Result (List (List ℕ)) LitStop) E) → asked.select ≡ None → asked.drop ≡ None
    → Discovers t.nodes t.base asked.paths (Ok tests) → TreeRests t → names ≡ names_of tests
    → IfOk result (λ kept. kept ≡ unless_none asked.shard names) → IfOk result (NamesFrom t (wanted asked))
all_named t asked tests names (Err fault) no_select no_drop found rests same is = tt
all_named t asked tests names (Ok kept) no_select no_drop found rests same is = (
  Ok tests,
  (found, λ bad. absurd (no_err tests TreeFault bad), λ _. rests, no_err tests NoMemory),
  is ∙ ap (unless_none asked.shard) same ∙ names_kept asked.shard tests
      ∙ ap (λ all. names_in (unless_none asked.shard all))
      (all_selected asked.select asked.drop tests no_select no_drop),
)
