-- In a program that breaches no rule, no two cases of an enum have one name, where the words of the
-- cases differ. Names that are repeated at one place are no breach.
use Rattle.std.proofs.Common.{◌≡◌, ℕ, zero, suc, ◌+◌, ◌<◌, ◌⊎◌, inl, inr, List, [], ◌∷◌, ◌++◌}
use Rattle.std.proofs.Common.{Option, Some, None, map, flat_map, option_map, Contains, refl, ap}
use Rattle.std.proofs.Common.{sym, ◌∙◌, subst}
use Rattle.std.proofs.lemmas.Bool.{cases_order}
use Rattle.std.proofs.lemmas.List.Elements.{All-append, All-cons, All-nil, Contains-append_left}
use Rattle.std.proofs.lemmas.Option.{none-some, same_Some, get_or_from_slice_get, slice_get-map}
use Rattle.std.proofs.lemmas.Option.{slice_get_within}
use Rattle.std.specs.Prelude.{All, slice_get}
use Rattle.sw_tree.specs.declared.decl.CaseTree.{CaseTree}
use Rattle.sw_tree.specs.declared.decl.Decl.{Decl}
use Rattle.sw_tree.specs.declared.decl.Decl.TheVariants.{Entry, Struct, Enum, Class, Actor}
use Rattle.sw_tree.specs.declared.decl.Decl.TheVariants.{GlobalActor, Func, Global}
use Rattle.sw_tree.specs.declared.decl.FuncTree.{FuncTree}
use Rattle.sw_tree.specs.declared.name.Name.{Name}
use Rattle.sw_types.specs.declared.shape.CaseShape.{CaseShape}
use Rattle.sw_types.specs.declared.shape.Shape.{Shape}
use Rattle.sw_list.proofs.ListLemmas.{at_index}
use Rattle.sw_decl_words.specs.Evident.{Meanings, meanings_of}
use Rattle.sw_decl_words.specs.Shaped.{case_of, shape_of, shapes_from}
use Rattle.sw_decl_words.specs.Words.{shapes_made, top_meaning}
use Rattle.sw_decl_words.specs.declared.words.Meaning.{Meaning}
use Rattle.sw_decl_names.specs.Repeats.{repeats}
use Rattle.sw_decl_members.specs.Members.{case_words, func_words, funcs_written, in_cases, in_decl}
use Rattle.sw_decl_members.specs.Members.{in_funcs, in_program}
use Rattle.sw_decl_values.specs.Profile.{values_from}
use Rattle.sw_decls.specs.Declaring.{IsFirstBreach, breaches_of_decls}
use Rattle.sw_decls.specs.declared.signature.AsyncDefault.{AsyncDefault}
use Rattle.sw_typing_rules.specs.Worlds.{IsWorldOf, World}
use Rattle.sw_tree.specs.CasePlaces.{CasesApart, NamesDiffer, case_names}
use Rattle.sw_tree.proofs.Members.{in_map}
use Rattle.sw_typing_facts.proofs.Lists.Listed.{in_place}
use Rattle.sw_typing_facts.proofs.Programs.DeclStands.{none_left, none_right}
use Rattle.sw_typing_facts.proofs.Programs.NamesApart.{one_place_of}
use Rattle.sw_lower_formed_facts.proofs.Statements.Cases.{CasesDiffer}

-- no two cases of the shape have one name
abbrev Differ : Shape → Type 0
Differ shape = CasesDiffer shape.cases

-- what is made to be at a place
made_at : {X Y : Type 0} (f : X → Y) (xs : List X) (i : ℕ) (y : Y)
    → slice_get (map f xs) i ≡ Some y → (x : X) × (slice_get xs i ≡ Some x) × (f x ≡ y)
made_at f [] i y at = absurd (none-some y at)
made_at f (x ∷ xs) zero y at = (x, refl, same_Some (f x) y at)
made_at f (x ∷ xs) (suc i) y at = made_at f xs i y at

-- the word of a case is among those of the enum's members
word_in : (cases : List CaseTree) (funcs : List FuncTree) (i : ℕ) (one : CaseTree)
    → slice_get cases i ≡ Some one → Contains (case_words cases ++ func_words funcs) one.word
word_in cases funcs i one at =
    Contains-append_left (case_words cases) (func_words funcs) one.word
    (in_map (λ (c : CaseTree). c.word) cases one (in_place cases i one at))

-- a name that stands at two places of names that differ stands at one
one_index : (names : List Name) → NamesDiffer names → (i j : ℕ) (name : Name)
    → slice_get names i ≡ Some name → slice_get names j ≡ Some name → i ≡ j
one_index names differ i j name at there = by (cases_order i j) where
  later : (i j : ℕ) → slice_get names i ≡ Some name → slice_get names j ≡ Some name → i < j → ⊥
  later i j at there less =
      differ i j name less (slice_get_within names j name there)
      (get_or_from_slice_get names i name name at
      ∙ sym (get_or_from_slice_get names j name name there))

  by : (i ≡ j) ⊎ ((i < j) ⊎ (j < i)) → i ≡ j
  by (inl same) = same
  by (inr (inl less)) = absurd (later i j at there less)
  by (inr (inr less)) = absurd (later j i there at less)

same_name : (one other : Name) → one.at ≡ other.at → one.id ≡ other.id → one ≡ other
same_name one other place id = ap (λ at. made at one.id) place ∙ ap (made other.at) id where
  made : ℕ → ℕ → Name
  made at id = record { at = at; id = id }

-- Cases whose words differ have names that differ, where no name is repeated.
enum_differs : (known : ℕ → Option Meaning) (cases : List CaseTree) (funcs : List FuncTree)
    → repeats (case_words cases ++ func_words funcs) ≡ []
    → NamesDiffer (case_words cases) → CasesDiffer (map (case_of known) cases)
enum_differs known cases funcs none differ i j one other at there same =
    let (tree, has, is) = made_at (case_of known) cases i one at in
    let (second, holds, made) = made_at (case_of known) cases j other there in
    let id : tree.word.id ≡ second.word.id = ap (λ (c : CaseShape). c.name) is ∙ same
    ∙ sym (ap (λ (c : CaseShape). c.name) made) in
    let place : tree.word.at ≡ second.word.at =
    one_place_of (case_words cases ++ func_words funcs) tree.word second.word none
    (word_in cases funcs i tree has) (word_in cases funcs j second holds) id in
    one_index (case_words cases) differ i j second.word
    (word_at i tree has ∙ ap Some (same_name tree.word second.word place id))
    (word_at j second holds)
  where
    word_at : (k : ℕ) (tree : CaseTree) → slice_get cases k ≡ Some tree
        → slice_get (case_words cases) k ≡ Some tree.word
    word_at k tree has = slice_get-map (λ (c : CaseTree). c.word) cases k
        ∙ ap (option_map (λ (c : CaseTree). c.word)) has

-- a shape without cases
without : (shape : Shape) → shape.cases ≡ [] → All Differ (shape ∷ [])
without shape empty =
    All-cons Differ shape []
    (λ i j one other at there same.
    absurd (none-some one (sym (ap (λ cases. slice_get cases i) empty) ∙ at))) (All-nil Differ)

-- what a declaration makes
declared_differ : (known : Meanings) (top : ℕ → Option Meaning) (number : ℕ) (decl : Decl)
    → in_decl top decl ≡ [] → NamesDiffer (case_names decl)
    → All Differ (shape_of known number decl)
unfolding shape_of in_decl
declared_differ known top number (Entry word written at is_async body) none differ = All-nil Differ
declared_differ known top number (Struct word conforms fields funcs) none differ = without _ refl
declared_differ known top number (Enum word conforms cases funcs) none differ =
    All-cons Differ _ []
    (enum_differs known.top cases funcs
    (none_right (funcs_written top funcs) _
    (none_right (in_funcs top funcs) _ (none_right (in_cases top cases) _ none))) differ)
    (All-nil Differ)
declared_differ known top number (Class written word conforms props inits funcs) none differ =
    without _ refl
declared_differ known top number (Actor word props inits funcs) none differ = without _ refl
declared_differ known top number (GlobalActor word made) none differ = All-nil Differ
declared_differ known top number (Func func) none differ = All-nil Differ
declared_differ known top number (Global global) none differ = All-nil Differ

-- what declarations make
all_differ : (known : Meanings) (top : ℕ → Option Meaning) (number : ℕ) (decls : List Decl)
    → flat_map (in_decl top) decls ≡ [] → CasesApart decls
    → All Differ (shapes_from known number decls)
all_differ known top number [] none differ = All-nil Differ
all_differ known top number (decl ∷ decls) none differ =
    All-append Differ (shape_of known number decl)
    (shapes_from known (number + shapes_made decl) decls)
    (declared_differ known top number decl (none_left (in_decl top decl) _ none) differ.0)
    (all_differ known top (number + shapes_made decl) decls (none_right (in_decl top decl) _ none)
    differ.1)

-- No rule is breached in a declaration.
none_in_decls : (decls : List Decl) → IsFirstBreach decls None
    → flat_map (in_decl (top_meaning decls)) decls ≡ []
unfolding in_program
none_in_decls decls (marks, (are, none)) =
    none_left (flat_map (in_decl (top_meaning decls)) decls) _
    (none_left (in_program (top_meaning decls) decls) (values_from (meanings_of decls) 0 decls)
    (none_left (breaches_of_decls decls) _ none))

-- In what a program declares, no two cases of an enum have one name.
pub cases_differ : (decls : List Decl) (rule : AsyncDefault) (world : World)
    → IsWorldOf decls rule world → IsFirstBreach decls None → CasesApart decls
    → (k : ℕ) (shape : Shape) → slice_get world.shapes k ≡ Some shape → CasesDiffer shape.cases
cases_differ decls rule world is none apart k shape at =
    at_index Differ world.shapes k shape
    (subst (All Differ) (sym is.shapes)
    (all_differ (meanings_of decls) (top_meaning decls) 0 decls (none_in_decls decls none) apart))
    at
