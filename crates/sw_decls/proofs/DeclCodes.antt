-- The codes of all breaches of a program.
use Rattle.std.proofs.Common.{ℕ, List, [], ◌∷◌, ◌++◌, map, flat_map}
use Rattle.std.proofs.Common.{drop, Option, None, Some, nat_eq, arith}
use Rattle.sw_tree.specs.declared.decl.CaseTree.{CaseTree}
use Rattle.sw_tree.specs.declared.decl.Decl.{Decl}
use Rattle.sw_tree.specs.declared.decl.Decl.TheVariants.{Entry, Struct, Enum, Class, Actor}
use Rattle.sw_tree.specs.declared.decl.Decl.TheVariants.{GlobalActor, Func, Global}
use Rattle.sw_tree.specs.declared.decl.FuncTree.{FuncTree}
use Rattle.sw_tree.specs.declared.decl.InitTree.{InitTree}
use Rattle.sw_tree.specs.declared.decl.ParamTree.{ParamTree}
use Rattle.sw_tree.specs.declared.decl.PropTree.{PropTree}
use Rattle.sw_tree.specs.declared.decl.Written.{Written}
use Rattle.sw_tree.specs.declared.decl.Written.TheVariants.{Absent, At, Nonisolated, Concurrent}
use Rattle.sw_tree.specs.declared.decl.Written.TheVariants.{Nonsending}
use Rattle.sw_tree.specs.declared.expr.Expr.{Expr}
use Rattle.sw_tree.specs.declared.name.Name.{Name}
use Rattle.sw_decl_words.specs.TypeWords.{bad_words}
use Rattle.sw_decl_words.specs.Words.{word_of}
use Rattle.sw_decl_words.specs.declared.placed.Placed.{Placed}
use Rattle.sw_decl_words.specs.declared.words.Meaning.{Meaning}
use Rattle.sw_decl_names.specs.Bodies.{bad_type, in_body}
use Rattle.sw_decl_names.specs.Repeats.{repeats}
use Rattle.sw_decl_members.specs.Members as members
use Rattle.sw_decl_members.specs.Members.{bad_entries, bad_in_actor, bad_made, bad_written, case_words}
use Rattle.sw_decl_members.specs.Members.{entry_place, func_words, funcs_in_actor, funcs_written}
use Rattle.sw_decl_members.specs.Members.{in_cases, in_decl, in_func}
use Rattle.sw_decl_members.specs.Members.{in_funcs, in_init, in_inits, in_params}
use Rattle.sw_decl_members.specs.Members.{in_program, in_prop, in_props, in_value, later_inits}
use Rattle.sw_decl_members.specs.Members.{prop_words}
use Rattle.sw_decls.proofs.BodyCodes.{coded_attribute, coded_body, coded_expr, coded_repeats}
use Rattle.sw_decls.proofs.BodyCodes.{coded_type, coded_words}
use Rattle.sw_decls.proofs.Coded.{AreCoded, coded_each, coded_join, coded_map, coded_one}
use Rattle.sw_decls.proofs.Coded.{coded_unless}

coded_in_actor : (written : Written) → AreCoded (bad_in_actor written)
coded_in_actor Absent = tt
coded_in_actor (At name) = coded_one name.at 302 (omega arith) (omega arith)
coded_in_actor Nonisolated = tt
coded_in_actor Concurrent = tt
coded_in_actor Nonsending = tt

coded_second_word : (word made : Name) → AreCoded (bad_made word made)
coded_second_word word made =
    coded_unless (nat_eq word.id made.id) (record { at = made.at; code = 302 } ∷ [])
    (coded_one made.at 302 (omega arith) (omega arith))

coded_entries : (places : List ℕ) → AreCoded (bad_entries places)
coded_entries [] = coded_one 0 304 (omega arith) (omega arith)
coded_entries (first ∷ more) =
    coded_map (λ at. record { at = at; code = 304 }) (λ at. (omega arith, omega arith)) more

coded_later : (inits : List InitTree) → AreCoded (later_inits inits)
coded_later inits = coded_map (λ (one : InitTree). record { at = one.at; code = 301 })
    (λ one. (omega arith, omega arith)) (drop 1 inits)

module _ (known : ℕ → Option Meaning) where
  coded_written : (written : Written) → AreCoded (bad_written known written)
  coded_written Absent = tt
  coded_written (At name) = coded_attribute known name
  coded_written Nonisolated = tt
  coded_written Concurrent = tt
  coded_written Nonsending = tt

  coded_params : (params : List ParamTree) → AreCoded (in_params known params)
  unfolding in_params
  coded_params params =
      coded_join (flat_map (λ (param : ParamTree). bad_words known param.ty) params)
      (repeats (map (λ (param : ParamTree). param.name) params))
      (coded_each (λ (param : ParamTree). bad_words known param.ty)
      (λ param. coded_words known param.ty) params)
      (coded_repeats (map (λ (param : ParamTree). param.name) params))

  coded_func : (func : FuncTree) → AreCoded (in_func known func)
  unfolding in_func
  coded_func func =
      coded_join (in_params known func.params)
      (bad_type known func.result ++ in_body known func.body) (coded_params func.params)
      (coded_join (bad_type known func.result) (in_body known func.body)
      (coded_type known func.result) (coded_body known func.body))

  coded_value : (value : Option Expr) → AreCoded (in_value known value)
  coded_value None = tt
  coded_value (Some value) = coded_expr known value

  coded_prop : (prop : PropTree) → AreCoded (in_prop known prop)
  unfolding in_prop
  coded_prop prop =
      coded_join (bad_type known prop.ty) (in_value known prop.value) (coded_type known prop.ty)
      (coded_value prop.value)

  coded_init : (init : InitTree) → AreCoded (in_init known init)
  unfolding in_init
  coded_init init =
      coded_join (in_params known init.params) (in_body known init.body)
      (coded_params init.params) (coded_body known init.body)

  coded_props : (props : List PropTree) → AreCoded (in_props known props)
  coded_props props = coded_each (in_prop known) coded_prop props

  coded_funcs : (funcs : List FuncTree) → AreCoded (in_funcs known funcs)
  coded_funcs funcs = coded_each (in_func known) coded_func funcs

  coded_funcs_written : (funcs : List FuncTree) → AreCoded (funcs_written known funcs)
  coded_funcs_written funcs =
      coded_each (λ (func : FuncTree). bad_written known func.written)
      (λ func. coded_written func.written) funcs

  coded_cases : (cases : List CaseTree) → AreCoded (in_cases known cases)
  coded_cases cases =
      coded_each (λ (one : CaseTree). flat_map (bad_words known) one.types)
      (λ one. coded_each (bad_words known) (coded_words known) one.types) cases

  coded_object : (props : List PropTree) (inits : List InitTree) (funcs : List FuncTree)
      → AreCoded (members.in_object known props inits funcs)
  unfolding members.in_object
  coded_object props inits funcs =
      let names = prop_words props ++ func_words funcs in
      coded_join (in_props known props) (in_inits known inits ++ (in_funcs known funcs
      ++ (later_inits inits ++ repeats names))) (coded_props props)
      (coded_join (in_inits known inits) (in_funcs known funcs ++ (later_inits inits
      ++ repeats names)) (coded_each (in_init known) coded_init inits)
      (coded_join (in_funcs known funcs) (later_inits inits ++ repeats names) (coded_funcs funcs)
      (coded_join (later_inits inits) (repeats names) (coded_later inits) (coded_repeats names))))

  -- the members of a struct or an enum
  coded_members : (first : List Placed) (funcs : List FuncTree) (names : List Name)
      → AreCoded first
      → AreCoded (first ++ (in_funcs known funcs ++ (funcs_written known funcs ++ repeats names)))
  coded_members first funcs names are =
      coded_join first (in_funcs known funcs ++ (funcs_written known funcs ++ repeats names)) are
      (coded_join (in_funcs known funcs) (funcs_written known funcs ++ repeats names)
      (coded_funcs funcs)
      (coded_join (funcs_written known funcs) (repeats names) (coded_funcs_written funcs)
      (coded_repeats names)))

  coded_decl : (decl : Decl) → AreCoded (in_decl known decl)
  unfolding in_decl
  coded_decl (Entry word written at is_async body) =
      coded_join (bad_written known written) (in_body known body) (coded_written written)
      (coded_body known body)
  coded_decl (Struct word conforms fields funcs) =
      coded_members (in_props known fields) funcs (prop_words fields ++ func_words funcs)
      (coded_props fields)
  coded_decl (Enum word conforms cases funcs) =
      coded_members (in_cases known cases) funcs (case_words cases ++ func_words funcs)
      (coded_cases cases)
  coded_decl (Class written word conforms props inits funcs) =
      coded_join (bad_written known written)
      (funcs_written known funcs ++ members.in_object known props inits funcs)
      (coded_written written)
      (coded_join (funcs_written known funcs) (members.in_object known props inits funcs)
      (coded_funcs_written funcs) (coded_object props inits funcs))
  coded_decl (Actor word props inits funcs) =
      coded_join (funcs_in_actor funcs) (members.in_object known props inits funcs)
      (coded_each (λ (func : FuncTree). bad_in_actor func.written)
      (λ func. coded_in_actor func.written) funcs)
      (coded_object props inits funcs)
  coded_decl (GlobalActor word made) = coded_second_word word made
  coded_decl (Func func) =
      coded_join (bad_written known func.written) (in_func known func)
      (coded_written func.written) (coded_func func)
  coded_decl (Global global) =
      coded_join (bad_written known global.written) (in_prop known global)
      (coded_written global.written) (coded_prop global)

  pub coded_program : (decls : List Decl) → AreCoded (in_program known decls)
  unfolding in_program
  coded_program decls =
      coded_join (flat_map (in_decl known) decls)
      (repeats (map word_of decls) ++ bad_entries (flat_map entry_place decls))
      (coded_each (in_decl known) coded_decl decls)
      (coded_join (repeats (map word_of decls)) (bad_entries (flat_map entry_place decls))
      (coded_repeats (map word_of decls)) (coded_entries (flat_map entry_place decls)))
