-- Looks behind others, and what a look gives where the directory was not looked at: its suite, or its fault.
-- Shown: what a further look adds, that looks at the same directories are the same, and what is refused. Idea: field by field.
-- The hard ones are `added`, a directory that was not looked at, and `suite_refuses`, a case for each fault it may have.
use Rattle.std.proofs.Common.{◌≡◌, true, None, ◌≢◌, ℕ, ◌+◌, ◌≤◌, List, [], ◌∷◌, ◌++◌, length, get_or, Some, ◌⊎◌, inl, inr, sym, ap, ◌∙◌, subst, arith, Option, IfSome, Ok, Err}
use Rattle.std.proofs.lemmas.Bool.{le-ltb}
use Rattle.std.proofs.lemmas.List.Elements.{All-push, Contains-get_or}
use Rattle.std.proofs.lemmas.List.Quantifiers.{all_pairs_push}
use Rattle.std.proofs.lemmas.List.Sums.{sum_by_push}
use Rattle.std.specs.List.{list_all}
use Rattle.std.specs.Option.{option_map}
use Rattle.std.specs.Prelude.{slice_get}
use Rattle.lit_paths.specs.Paths.{Parts, text_of}
use Rattle.lit_dirs.specs.Looks.{Counts, GivesSuite, Shows, fault_in}
use Rattle.lit_dirs.proofs.LookLemmas.{lists_show}
use Rattle.lit_dirs.specs.Suites.{suite_at}
use Rattle.lit_dirs.specs.declared.fault.DiscoverFault.{DiscoverFault}
use Rattle.lit_dirs.specs.declared.fault.DiscoverFault.TheVariants.{NoMemory, TreeFault}
use Rattle.lit_suite.specs.declared.suite_file.Suite.{Suite}
use Rattle.tt_outside.specs.declared.tree.Item.{Item}
use Rattle.tt_outside.specs.declared.tree.Node.{Node}
use Rattle.tt_outside.specs.TreeMap.{Lists, is_part}
use Rattle.lit_look.proofs.ListLemmas.{contains_map, get_last, has_at, push_cases, push_has}
use Rattle.lit_look.specs.Looks.{GivesDirLook, IsNumberOf}
use Rattle.lit_look.specs.Seen.{AreLooks, AreSeen, Has, IsLook, Roots, count_items}
use Rattle.lit_look.specs.declared.seen.Looked.{Looked}

pub has_number : (seen : List Looked) (dir : Parts) (number : ℕ) → IsNumberOf seen dir number → Has seen dir
has_number seen dir number (looked, here, is) =
    subst (Has seen) is (contains_map (λ one. one.dir) seen looked (has_at seen number looked here))

-- ---- looks

-- a directory that was not looked at is
pub added : (nodes : List Node) (old : List Looked) (one : Looked) → AreLooks nodes old → IsLook nodes one
    → ¬ (Has old one.dir) → count_items old + one.count ≤ 1000000
    → AreSeen nodes (λ dir. Has old dir ⊎ (dir ≡ one.dir)) (old ++ one ∷ [])
added nodes old one looks look new room = record {
  right = λ dir has. push_cases (λ looked. looked.dir) old one dir has;
  whole = λ dir before. push_has (λ looked. looked.dir) old one dir before;
  looks = All-push (IsLook nodes) old one looks.looks look;
  once = all_pairs_push (λ one other. one.dir ≢ other.dir) old one looks.once (λ k d within same.
      new (subst (Has old) same (contains_map (λ looked. looked.dir) old (get_or old k d) (Contains-get_or old k d within))));
  within = omega (arith, sum_by_push (λ looked. looked.count) old one);
}

pub same_seen : {nodes : List Node} (B C : Parts → Type 0) {seen : List Looked} → AreSeen nodes B seen
    → ((dir : Parts) → B dir → C dir) → ((dir : Parts) → C dir → B dir) → AreSeen nodes C seen
same_seen B C are to from = record {
  right = λ dir has. to dir (are.right dir has);
  whole = λ dir holds. are.whole dir (from dir holds);
  looks = are.looks;
  once = are.once;
  within = are.within;
}

-- all that were looked at
pub looks_of : {nodes : List Node} {B : Parts → Type 0} {seen : List Looked} → AreSeen nodes B seen → AreLooks nodes seen
looks_of {B = B} {seen = seen} are = same_seen B (Has seen) are are.whole are.right

-- a directory that was looked at is looked at again
pub again : (nodes : List Node) (seen : List Looked) (dir : Parts) → AreLooks nodes seen → Has seen dir
    → AreSeen nodes (λ one. Has seen one ⊎ (one ≡ dir)) seen
again nodes seen dir looks has =
    same_seen (Has seen) (λ one. Has seen one ⊎ (one ≡ dir)) looks (λ one h. inl h)
    (λ one h. elim h [ inl k ↦ k | inr is ↦ subst (Has seen) (sym is) has ])

-- looks behind looks
pub further : {nodes : List Node} (B M : Parts → Type 0) {mid new : List Looked} → AreSeen nodes B mid
    → AreSeen nodes (λ dir. Has mid dir ⊎ M dir) new → AreSeen nodes (λ dir. B dir ⊎ M dir) new
further B M {mid = mid} first last =
    same_seen (λ dir. Has mid dir ⊎ M dir) (λ dir. B dir ⊎ M dir) last
    (λ dir h. elim h [ inl has ↦ inl (first.right dir has) | inr more ↦ inr more ])
    (λ dir h. elim h [ inl before ↦ inl (first.whole dir before) | inr more ↦ inr more ])

-- ---- a directory that was not looked at

-- what is known of a directory of so many items, before its suite is read
pub record IsDue (told : Option (List Node)) (nodes : List Node) (old : List Looked) (dir : Parts) (count : ℕ) : Type 0 where
  pub is : told ≡ Some nodes
  pub looks : AreLooks nodes old
  pub new : ¬ (Has old dir)
  pub counted : IfSome told (λ nodes. Counts nodes dir count)
  pub room : count_items old + count ≤ 1000000

its_count : {told : Option (List Node)} {nodes : List Node} {old : List Looked} {dir : Parts} {count : ℕ}
    → IsDue told nodes old dir count → Counts nodes dir count
its_count {dir = dir} {count = count} due = subst (λ o. IfSome o (λ nodes. Counts nodes dir count)) due.is due.counted

pub entered : (told : Option (List Node)) (nodes : List Node) (old new : List Looked) (one : Looked)
    (suite : Option Suite) (dir : Parts) → IsDue told nodes old dir one.count → one.dir ≡ dir
    → GivesSuite told dir (Ok suite) → Roots dir suite one.suite → new ≡ old ++ one ∷ []
    → AreSeen nodes (λ other. Has old other ⊎ (other ≡ dir)) new
entered told nodes old new one suite dir due same gives roots adds =
    let its = subst (λ o. GivesSuite o dir (Ok suite)) due.is gives in
    rw adds (subst (λ (d : Parts). AreSeen nodes (λ other. Has old other ⊎ (other ≡ d)) (old ++ one ∷ [])) same
    (added nodes old one due.looks (record {
      counts = subst (λ (d : Parts). Counts nodes d one.count) (sym same) (its_count due);
      clear = ap (fault_in nodes) same ∙ its.0;
      suite = ap (suite_at nodes) same ∙ its.1 ∙ ap (option_map Ok) (sym roots.0);
      root = subst (λ (d : Parts). IfSome one.suite (λ root. root.dir ≡ d)) (sym same) roots.1;
    }) (subst (λ (d : Parts). ¬ (Has old d)) (sym same) due.new) due.room))

pub last_number : (old new : List Looked) (one : Looked) (dir : Parts) (number : ℕ) → new ≡ old ++ one ∷ []
    → one.dir ≡ dir → number ≡ length old → IsNumberOf new dir number
last_number old new one dir number adds same last =
    (one, (λ i. slice_get (adds i) (last i)) ∙ get_last old one, same)

pub suite_refuses : (told : Option (List Node)) (nodes : List Node) (old new : List Looked) (dir : Parts)
    (count : ℕ) (fault : DiscoverFault) → IsDue told nodes old dir count → GivesSuite told dir (Err fault)
    → GivesDirLook nodes dir old new (Err fault)
suite_refuses told nodes old new dir count fault due gives =
    by_fault fault (subst (λ o. GivesSuite o dir (Err fault)) due.is gives)
  where
    by_fault : (fault : DiscoverFault) → GivesSuite (Some nodes) dir (Err fault)
        → GivesDirLook nodes dir old new (Err fault)
    by_fault TreeFault is = tt
    by_fault NoMemory is = tt
    by_fault fault is = record {
      new = due.new;
      count = count;
      counts = its_count due;
      told = rw (le-ltb 1000000 (count_items old + count) due.room) is;
    }

pub listing_shows : (told : Option (List Node)) (dir : Parts) (items : List Item) → list_all is_part dir ≡ true
    → IfSome told (λ nodes. Lists nodes (text_of dir) items) → IfSome told (λ nodes. Shows nodes dir items)
listing_shows None dir items parts lists = tt
listing_shows (Some nodes) dir items parts lists = lists_show nodes dir items parts lists

pub dir_at : (seen : List Looked) (dir : Parts) (number : ℕ) (looked : Looked) → IsNumberOf seen dir number
    → slice_get seen number ≡ Some looked → looked.dir ≡ dir
dir_at seen dir number looked (one, there, is) here =
    let both : Some one ≡ Some looked = sym there ∙ here in
    let same : one ≡ looked = cc in
    ap (λ x. x.dir) (sym same) ∙ is
