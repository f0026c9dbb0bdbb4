-- The entry of a program has a number, and so has what gives each global variable its first value.
use Rattle.std.proofs.Common.{◌≡◌, ℕ, ◌+◌, Option, Some, None, List, [], ◌∷◌, ◌++◌, map, flat_map}
use Rattle.std.proofs.Common.{Bool, Contains, inl, inr, refl, ap, sym, ◌∙◌, subst}
use Rattle.std.proofs.lemmas.List.Elements.{Contains-append_left}
use Rattle.std.specs.Prelude.{IsSome, slice_get}
use Rattle.sw_tree.specs.declared.decl.Decl.{Decl}
use Rattle.sw_tree.specs.declared.decl.Decl.TheVariants.{Entry, Struct, Enum, Class, Actor}
use Rattle.sw_tree.specs.declared.decl.Decl.TheVariants.{GlobalActor, Func, Global}
use Rattle.sw_tree.specs.declared.decl.PropTree.{PropTree}
use Rattle.sw_tree.specs.declared.decl.Written.{Written}
use Rattle.sw_tree.specs.declared.expr.Expr.{Expr}
use Rattle.sw_tree.specs.declared.name.Name.{Name}
use Rattle.sw_tree.specs.declared.stmt.Block.{Block}
use Rattle.sw_tree_facts.specs.Values.{AreValued}
use Rattle.sw_decl_words.specs.Evident.{meanings_of}
use Rattle.sw_decl_words.specs.Words.{shapes_made, top_meaning, word_of}
use Rattle.sw_decl_names.specs.Repeats.{repeats}
use Rattle.sw_decl_members.specs.Members.{bad_entries, entry_place, in_decl, in_program}
use Rattle.sw_decl_values.specs.Profile.{values_from}
use Rattle.sw_decls.specs.Declaring.{IsFirstBreach}
use Rattle.sw_decls.specs.Signatures.{funcs_of}
use Rattle.sw_decls.specs.declared.signature.AsyncDefault.{AsyncDefault}
use Rattle.sw_decls.specs.declared.signature.GlobalVar.{GlobalVar}
use Rattle.sw_typing_rules.specs.Worlds.{IsWorldOf, World, and_then}
use Rattle.sw_isolation_rules.specs.Answers.{Answers, for_some}
use Rattle.sw_lower_code.specs.Whole.{Body}
use Rattle.sw_lower_rules.specs.Bodies.{AreOrdered, decl_bodies, entry_key, first_value}
use Rattle.sw_lower_rules.specs.Bodies.{global_bodies, global_getter, numbers_of}
use Rattle.sw_decl_words.specs.Words.{globals_made}
use Rattle.sw_lower_rules.specs.Bodies.{tables_of, value_bodies}
use Rattle.sw_lower_rules.specs.Statements.{expr_code}
use Rattle.sw_lower_rules.specs.Tables.{Isolation, Tables, plain}
use Rattle.sw_lower_rules.specs.Bodies.{AreStarts, IsEntryNumber}
use Rattle.sw_typing_facts.proofs.Lists.Listed.{in_first, in_rest, place_in}
use Rattle.sw_typing_facts.proofs.Programs.DeclStands.{none_left, none_right}
use Rattle.sw_typing_facts.proofs.Programs.GlobalDecls.{global_at}
use Rattle.sw_typing_facts.proofs.Programs.Standing.{StandsFrom, stands_in}
use Rattle.sw_lower_total_facts.proofs.Proceeding.Using.{some_of}
use Rattle.sw_lower_total_facts.proofs.Programs.FuncBodies.{HasBody, declared_numbered, stands_numbered}

-- an entry among declarations
record EntryFrom (number index : ℕ) (decls : List Decl) : Type 0 where
  n : ℕ
  g : ℕ
  word : Name
  written : Written
  at : ℕ
  is_async : Bool
  body : Block
  stands : StandsFrom number index decls n g (Entry word written at is_async body)
  key : entry_key decls ≡ Some at

-- an entry after another declaration
entry_later : (number index : ℕ) (decl : Decl) (decls : List Decl)
    → entry_key (decl ∷ decls) ≡ entry_key decls
    → EntryFrom (number + shapes_made decl) (index + globals_made decl) decls
    → EntryFrom number index (decl ∷ decls)
entry_later number index decl decls same later = record {
  n = later.n;
  g = later.g;
  word = later.word;
  written = later.written;
  at = later.at;
  is_async = later.is_async;
  body = later.body;
  stands = inr later.stands;
  key = same ∙ later.key;
}

-- where an entry is missing, this is refused
entry_from : (number index : ℕ) (decls : List Decl)
    → bad_entries (flat_map entry_place decls) ≡ [] → EntryFrom number index decls
entry_from number index [] sound = cc
entry_from number index (Entry word written at is_async body ∷ decls) sound = record {
  n = number;
  g = index;
  word = word;
  written = written;
  at = at;
  is_async = is_async;
  body = body;
  stands = inl (refl, refl, refl);
  key = refl;
}
entry_from number index (Struct word conforms fields funcs ∷ decls) sound =
    entry_later number index (Struct word conforms fields funcs) decls refl
    (entry_from (number + 1) (index + 0) decls sound)
entry_from number index (Enum word conforms cases funcs ∷ decls) sound =
    entry_later number index (Enum word conforms cases funcs) decls refl
    (entry_from (number + 1) (index + 0) decls sound)
entry_from number index (Class written word conforms props inits funcs ∷ decls) sound =
    entry_later number index (Class written word conforms props inits funcs) decls refl
    (entry_from (number + 1) (index + 0) decls sound)
entry_from number index (Actor word props inits funcs ∷ decls) sound =
    entry_later number index (Actor word props inits funcs) decls refl
    (entry_from (number + 1) (index + 0) decls sound)
entry_from number index (GlobalActor word made ∷ decls) sound =
    entry_later number index (GlobalActor word made) decls refl
    (entry_from (number + 0) (index + 0) decls sound)
entry_from number index (Func func ∷ decls) sound =
    entry_later number index (Func func) decls refl
    (entry_from (number + 0) (index + 0) decls sound)
entry_from number index (Global global ∷ decls) sound =
    entry_later number index (Global global) decls refl
    (entry_from (number + 0) (index + 1) decls sound)

-- A program that keeps the rules has an entry.
has_entry : (decls : List Decl) → IsFirstBreach decls None → EntryFrom 0 0 decls
unfolding in_program
has_entry decls (marks, (are, none)) =
    let known = top_meaning decls in
    entry_from 0 0 decls
    (none_right (repeats (map word_of decls)) (bad_entries (flat_map entry_place decls))
    (none_right (flat_map (in_decl known) decls) _
    (none_left (in_program known decls) (values_from (meanings_of decls) 0 decls)
    (none_left (in_program known decls ++ values_from (meanings_of decls) 0 decls) _ none))))

-- what each of these is, where each is there
each_there : {X Y : Type 0} (f : X → Option Y) (xs : List X)
    → ((x : X) → Contains xs x → IsSome (f x)) → (ys : List Y) × (map Some ys ≡ map f xs)
each_there f [] all = ([], refl)
each_there f (x ∷ xs) all =
    let (y, is) = some_of (f x) (all x (in_first x xs)) in
    let (ys, are) = each_there f xs (λ one has. all one (in_rest x xs one has)) in
    (y ∷ ys, ap (λ one. one ∷ map Some ys) (sym is) ∙ ap (λ more. f x ∷ more) are)

module _ (tables : Tables) where
  -- what gives a global variable its first value
  value_body : (key index : ℕ) (value : Option Expr) → IsSome value
      → HasBody (value_bodies tables key index value) (plain key)
  value_body key index None never = cc
  value_body key index (Some value) is =
      let code = expr_code tables None value in
      let body = first_value tables key index code in
      record { body = body; has = in_first body code.inside; named = refl }

  start_body : (index : ℕ) (prop : PropTree) → IsSome prop.value
      → HasBody (global_bodies tables index prop) (plain prop.word.at)
  unfolding global_bodies
  start_body index prop is =
      let one = value_body prop.word.at index prop.value is in
      record {
        body = one.body;
        has = Contains-append_left (value_bodies tables prop.word.at index prop.value)
            (for_some (slice_get tables.world.globals index)
            (global_getter tables prop.word.at index)) one.body one.has;
        named = one.named;
      }

module _ (world : World) (answers : Answers) (isolation : Isolation) (decls : List Decl)
    (rule : AsyncDefault) (is : IsWorldOf decls rule world) (ordered : List Body)
    (are : AreOrdered (tables_of world answers isolation decls) decls ordered) where
  abbrev tables : Tables
  tables = tables_of world answers isolation decls

  -- the function of an entry is declared
  entry_numbered : (one : EntryFrom 0 0 decls) → IsSome (numbers_of ordered (plain one.at))
  unfolding funcs_of
  entry_numbered one =
      declared_numbered world answers isolation decls rule is ordered are one.n one.g
      (Entry one.word one.written one.at one.is_async one.body) _ one.stands (in_first _ [])

  -- The entry of a program that keeps the rules has a number.
  pub entry_is : IsFirstBreach decls None → (entry : ℕ) × IsEntryNumber decls ordered entry
  entry_is sound =
      let one = has_entry decls sound in
      let (entry, found) = some_of (numbers_of ordered (plain one.at)) (entry_numbered one) in (
        entry,
        sym (ap (λ key. and_then key (λ at. numbers_of ordered (plain at))) one.key ∙ found),
      )

  -- What gives a global variable its first value has a number.
  start_numbered : AreValued decls → (g : ℕ) (global : GlobalVar)
      → slice_get world.globals g ≡ Some global
      → IsSome (numbers_of ordered (plain global.key.at))
  unfolding decl_bodies
  start_numbered valued g global at =
      let here = global_at decls rule world is g global at in
      let value : IsSome here.prop.value =
      valued here.prop
      (stands_in 0 0 decls here.n g (Global here.prop) here.stands) in
      subst (λ name. IsSome (numbers_of ordered (plain name))) here.key
      (stands_numbered world answers isolation decls rule is ordered are here.n g
      (Global here.prop) (plain here.prop.word.at) here.stands
      (start_body tables g here.prop value))

  -- What gives the global variables their first values has numbers.
  pub starts_are : AreValued decls → (starts : List ℕ) × AreStarts world ordered starts
  starts_are valued =
      each_there (λ (global : GlobalVar). numbers_of ordered (plain global.key.at)) world.globals
      (λ global has.
      let (g, at) = place_in world.globals global has in start_numbered valued g global at)
