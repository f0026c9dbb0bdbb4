-- The breaches of names, written types and entries in declarations.
use Rattle.std.specs.Prelude.{ℕ, List, [], ◌∷◌, ◌++◌, Option, Some, None, map, flat_map, drop}
use Rattle.std.specs.Prelude.{◌==◌, if◌then◌else◌}
use Rattle.sw_tree.specs.declared.decl.CaseTree.{CaseTree}
use Rattle.sw_tree.specs.declared.decl.Decl.{Decl}
use Rattle.sw_tree.specs.declared.decl.Decl.TheVariants.{Entry, Struct, Enum, Class, Actor}
use Rattle.sw_tree.specs.declared.decl.Decl.TheVariants.{GlobalActor, Func, Global}
use Rattle.sw_tree.specs.declared.decl.FuncTree.{FuncTree}
use Rattle.sw_tree.specs.declared.decl.InitTree.{InitTree}
use Rattle.sw_tree.specs.declared.decl.ParamTree.{ParamTree}
use Rattle.sw_tree.specs.declared.decl.PropTree.{PropTree}
use Rattle.sw_tree.specs.declared.decl.Written.{Written}
use Rattle.sw_tree.specs.declared.decl.Written.TheVariants.{Absent, At, Nonisolated, Concurrent}
use Rattle.sw_tree.specs.declared.decl.Written.TheVariants.{Nonsending}
use Rattle.sw_tree.specs.declared.expr.Expr.{Expr}
use Rattle.sw_tree.specs.declared.name.Name.{Name}
use Rattle.sw_decl_names.specs.Bodies.{bad_attribute, bad_type, in_body, in_expr}
use Rattle.sw_decl_names.specs.Repeats.{repeats}
use Rattle.sw_decl_words.specs.TypeWords.{bad_words}
use Rattle.sw_decl_words.specs.Words.{word_of}
use Rattle.sw_decl_words.specs.declared.placed.Placed.{Placed}
use Rattle.sw_decl_words.specs.declared.words.Meaning.{Meaning}

abbrev pub prop_words : List PropTree → List Name
prop_words props = map (λ (prop : PropTree). prop.word) props

abbrev pub func_words : List FuncTree → List Name
func_words funcs = map (λ (func : FuncTree). func.word) funcs

abbrev pub case_words : List CaseTree → List Name
case_words cases = map (λ (one : CaseTree). one.word) cases

-- an initialiser after the first
abbrev pub later_inits : List InitTree → List Placed
later_inits inits = map (λ (one : InitTree). record { at = one.at; code = 301 }) (drop 1 inits)

-- an actor's member has no global actor
abbrev pub bad_in_actor : Written → List Placed
bad_in_actor Absent = []
bad_in_actor (At name) = record { at = name.at; code = 302 } ∷ []
bad_in_actor Nonisolated = []
bad_in_actor Concurrent = []
bad_in_actor Nonsending = []

abbrev pub funcs_in_actor : List FuncTree → List Placed
funcs_in_actor funcs = flat_map (λ (func : FuncTree). bad_in_actor func.written) funcs

-- a global actor's second word is its own
abbrev pub bad_made : Name → Name → List Placed
bad_made word made =
    if word.id == made.id then [] else record { at = made.at; code = 302 } ∷ []

abbrev pub entry_place : Decl → List ℕ
entry_place (Entry word written at is_async body) = at ∷ []
entry_place (Struct word conforms fields funcs) = []
entry_place (Enum word conforms cases funcs) = []
entry_place (Class written word conforms props inits funcs) = []
entry_place (Actor word props inits funcs) = []
entry_place (GlobalActor word made) = []
entry_place (Func func) = []
entry_place (Global global) = []

-- no entry, at the text's start; or one after the first
abbrev pub bad_entries : List ℕ → List Placed
bad_entries [] = record { at = 0; code = 304 } ∷ []
bad_entries (first ∷ more) = map (λ at. record { at = at; code = 304 }) more

module _ (known : ℕ → Option Meaning) where
  abbrev pub bad_written : Written → List Placed
  bad_written Absent = []
  bad_written (At name) = bad_attribute known name
  bad_written Nonisolated = []
  bad_written Concurrent = []
  bad_written Nonsending = []

  unfoldable pub in_params : List ParamTree → List Placed
  in_params params = flat_map (λ (param : ParamTree). bad_words known param.ty) params
      ++ repeats (map (λ (param : ParamTree). param.name) params)

  unfoldable pub in_func : FuncTree → List Placed
  in_func func = in_params func.params ++ (bad_type known func.result ++ in_body known func.body)

  abbrev pub in_value : Option Expr → List Placed
  in_value None = []
  in_value (Some value) = in_expr known value

  unfoldable pub in_prop : PropTree → List Placed
  in_prop prop = bad_type known prop.ty ++ in_value prop.value

  unfoldable pub in_init : InitTree → List Placed
  in_init init = in_params init.params ++ in_body known init.body

  abbrev pub in_props : List PropTree → List Placed
  in_props props = flat_map in_prop props

  abbrev pub in_inits : List InitTree → List Placed
  in_inits inits = flat_map in_init inits

  abbrev pub in_funcs : List FuncTree → List Placed
  in_funcs funcs = flat_map in_func funcs

  abbrev pub funcs_written : List FuncTree → List Placed
  funcs_written funcs = flat_map (λ (func : FuncTree). bad_written func.written) funcs

  abbrev pub in_cases : List CaseTree → List Placed
  in_cases cases = flat_map (λ (one : CaseTree). flat_map (bad_words known) one.types) cases

  -- the breaches among the members of a class or an actor
  unfoldable pub in_object : List PropTree → List InitTree → List FuncTree → List Placed
  in_object props inits funcs =
      in_props props ++ (in_inits inits ++ (in_funcs funcs ++ (later_inits inits
      ++ repeats (prop_words props ++ func_words funcs))))

  -- the breaches of names and written types in a declaration, but for its own word
  unfoldable pub in_decl : Decl → List Placed
  in_decl (Entry word written at is_async body) = bad_written written ++ in_body known body
  in_decl (Struct word conforms fields funcs) =
      in_props fields ++ (in_funcs funcs
      ++ (funcs_written funcs ++ repeats (prop_words fields ++ func_words funcs)))
  in_decl (Enum word conforms cases funcs) =
      in_cases cases ++ (in_funcs funcs
      ++ (funcs_written funcs ++ repeats (case_words cases ++ func_words funcs)))
  in_decl (Class written word conforms props inits funcs) =
      bad_written written ++ (funcs_written funcs ++ in_object props inits funcs)
  in_decl (Actor word props inits funcs) = funcs_in_actor funcs ++ in_object props inits funcs
  in_decl (GlobalActor word made) = bad_made word made
  in_decl (Func func) = bad_written func.written ++ in_func func
  in_decl (Global global) = bad_written global.written ++ in_prop global

  -- the breaches of names, written types and entries in a program
  unfoldable pub in_program : List Decl → List Placed
  in_program decls = flat_map in_decl decls ++ (repeats (map word_of decls)
      ++ bad_entries (flat_map entry_place decls))
