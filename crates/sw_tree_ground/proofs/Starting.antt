-- The bodies with which a program begins are those of the functions with which its graph does.
use Rattle.std.proofs.Common.{◌≡◌, ℕ, suc, ◌+◌, Bool, true, Some, None, List, [], ◌∷◌}
use Rattle.std.proofs.Common.{inl, inr, map, length, refl, ap, sym, ◌∙◌, subst, arith}
use Rattle.std.specs.List.{AllZip}
use Rattle.std.specs.Option.{option_map}
use Rattle.std.specs.Prelude.{slice_get, if◌then◌else◌}
use Rattle.sw_tree.specs.declared.decl.Decl.{Decl}
use Rattle.sw_tree.specs.declared.decl.Decl.TheVariants.{Entry, Struct, Enum, Class, Actor}
use Rattle.sw_tree.specs.declared.decl.Decl.TheVariants.{GlobalActor, Func, Global}
use Rattle.sw_tree.specs.declared.decl.Written.{Written}
use Rattle.sw_tree.specs.declared.name.Name.{Name}
use Rattle.sw_tree.specs.declared.stmt.Block.{Block}
use Rattle.sw_decl_words.specs.Words.{globals_made, shapes_made}
use Rattle.sw_decls.specs.Signatures.{funcs_of}
use Rattle.sw_decls.specs.declared.signature.AsyncDefault.{AsyncDefault}
use Rattle.sw_decls.specs.declared.signature.GlobalVar.{GlobalVar}
use Rattle.sw_typing_rules.specs.Worlds.{IsWorldOf, World, and_then}
use Rattle.sw_lower_plans.specs.Plan.{Numbers}
use Rattle.sw_lower_code.specs.Whole.{Body}
use Rattle.sw_lower_rules.specs.Bodies.{AreStarts, IsEntryNumber, entry_key, functions_of, numbers_of}
use Rattle.sw_lower_rules.specs.Bodies.{starts_in}
use Rattle.sw_lower_rules.specs.Tables.{Tables, plain}
use Rattle.sw_lower_total_facts.proofs.Programs.Found.{func_there}
use Rattle.sw_typing_facts.proofs.Lists.Found.{found_in_found}
use Rattle.sw_typing_facts.proofs.Lists.Listed.{in_first, place_in}
use Rattle.sw_typing_facts.proofs.Programs.Standing.{StandsFrom}
use Rattle.sw_tree_work.specs.Work.{BodyName, Function}
use Rattle.sw_tree_step.specs.Items.{entry_names, first_values}
use Rattle.sw_spots.specs.Forms.{is_declared, program}
use Rattle.sw_spots.specs.Spots.{Program}
use Rattle.sw_spots_expr.proofs.Calls.{declared_at}

-- the entry with a key among declarations
record EntryFrom (number index : ℕ) (decls : List Decl) (at : ℕ) : Type 0 where
  n : ℕ
  g : ℕ
  word : Name
  written : Written
  is_async : Bool
  body : Block
  stands : StandsFrom number index decls n g (Entry word written at is_async body)
  names : entry_names decls ≡ Function at ∷ []

-- after another declaration
later_entry : (number index : ℕ) (decl : Decl) (decls : List Decl) (at : ℕ)
    → entry_names (decl ∷ decls) ≡ entry_names decls
    → EntryFrom (number + shapes_made decl) (index + globals_made decl) decls at
    → EntryFrom number index (decl ∷ decls) at
later_entry number index decl decls at same later = record {
  n = later.n;
  g = later.g;
  word = later.word;
  written = later.written;
  is_async = later.is_async;
  body = later.body;
  stands = inr later.stands;
  names = same ∙ later.names;
}

entry_from : (number index : ℕ) (decls : List Decl) (at : ℕ) → entry_key decls ≡ Some at
    → EntryFrom number index decls at
entry_from number index [] at is = cc
entry_from number index (Entry word written key is_async body ∷ decls) at is =
    let same : key ≡ at = cc in record {
      n = number;
      g = index;
      word = word;
      written = written;
      is_async = is_async;
      body = body;
      stands = inl (refl, refl, ap (λ k. Entry word written k is_async body) same);
      names = ap (λ k. Function k ∷ []) same;
    }
entry_from number index (Struct word conforms fields funcs ∷ decls) at is =
    later_entry number index (Struct word conforms fields funcs) decls at refl
    (entry_from (number + 1) (index + 0) decls at is)
entry_from number index (Enum word conforms cases funcs ∷ decls) at is =
    later_entry number index (Enum word conforms cases funcs) decls at refl
    (entry_from (number + 1) (index + 0) decls at is)
entry_from number index (Class written word conforms props inits funcs ∷ decls) at is =
    later_entry number index (Class written word conforms props inits funcs) decls at refl
    (entry_from (number + 1) (index + 0) decls at is)
entry_from number index (Actor word props inits funcs ∷ decls) at is =
    later_entry number index (Actor word props inits funcs) decls at refl
    (entry_from (number + 1) (index + 0) decls at is)
entry_from number index (GlobalActor word made ∷ decls) at is =
    later_entry number index (GlobalActor word made) decls at refl
    (entry_from (number + 0) (index + 0) decls at is)
entry_from number index (Func func ∷ decls) at is =
    later_entry number index (Func func) decls at refl
    (entry_from (number + 0) (index + 0) decls at is)
entry_from number index (Global prop ∷ decls) at is =
    later_entry number index (Global prop) decls at refl
    (entry_from (number + 0) (index + 1) decls at is)

module _ (decls : List Decl) (rule : AsyncDefault) (world : World)
    (is : IsWorldOf decls rule world) (tables : Tables) (same_world : tables.world ≡ world)
    (ordered : List Body) where
  abbrev numbers : Numbers
  numbers = numbers_of ordered

  abbrev p : Program
  p = program tables numbers (functions_of ordered)

  abbrev IsNumbered : BodyName → ℕ → Type 0
  IsNumbered name number = p.number name ≡ Some number

  -- the entry's body and function
  pub record EntryBegins (entry : ℕ) : Type 0 where
    pub last : BodyName
    pub names : entry_names decls ≡ last ∷ []
    pub numbered : IsNumbered last entry

  pub entry_begins : (entry : ℕ) → IsEntryNumber decls ordered entry → EntryBegins entry
  unfolding funcs_of
  entry_begins entry numbered =
      let (at, key, number) = found_in_found (entry_key decls) (λ key. numbers (plain key)) entry
      (sym numbered) in
      let one = entry_from 0 0 decls at key in
      let has = func_there decls rule world is one.n one.g
      (Entry one.word one.written at one.is_async one.body) _ one.stands (in_first _ []) in
      let (k, there) = place_in world.funcs _ has in
      let known : is_declared tables.world.funcs at ≡ true =
      ap (λ (world : World). is_declared world.funcs at) same_world
      ∙ declared_at world.funcs k _ there in
      record {
        last = Function at;
        names = one.names;
        numbered = ap (λ is. and_then (if is then Some (plain at) else None) numbers) known ∙ number;
      }

  -- the first values of global variables, from one on
  firsts_from : (globals : List GlobalVar) (from : ℕ) (starts : List ℕ)
      → ((k : ℕ) (global : GlobalVar) → slice_get globals k ≡ Some global
      → slice_get world.globals (from + k) ≡ Some global)
      → map Some starts ≡ starts_in numbers globals
      → AllZip IsNumbered (first_values (length globals) from) starts
  firsts_from [] from [] there are = tt
  firsts_from (global ∷ globals) from (start ∷ starts) there are =
      let first : Some start ≡ numbers (plain global.key.at) = cc in
      let more : map Some starts ≡ starts_in numbers globals = cc in
      let here : slice_get tables.world.globals from ≡ Some global =
      ap (λ (world : World). slice_get world.globals from) same_world
      ∙ subst (λ k. slice_get world.globals k ≡ Some global)
      (let same : from + 0 ≡ from = omega arith in same) (there 0 global refl) in (
        ap (λ found. and_then (option_map (λ (one : GlobalVar). plain one.key.at) found) numbers) here
            ∙ sym first,
        firsts_from globals (from + 1) starts
            (λ k one at. subst (λ j. slice_get world.globals j ≡ Some one)
            (let next : from + suc k ≡ (from + 1) + k = omega arith in next)
            (there (suc k) one at)) more,
      )
  firsts_from [] from (start ∷ starts) there are = cc
  firsts_from (global ∷ globals) from [] there are = cc

  pub firsts_begin : (starts : List ℕ) → AreStarts world ordered starts
      → AllZip IsNumbered (first_values (length world.globals) 0) starts
  firsts_begin starts are =
      firsts_from world.globals 0 starts
      (λ k global at. subst (λ j. slice_get world.globals j ≡ Some global)
      (let same : k ≡ 0 + k = omega arith in same) at) are
