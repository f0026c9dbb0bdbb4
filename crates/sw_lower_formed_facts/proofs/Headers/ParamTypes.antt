-- The parameters of a function have the types that are written.
use Rattle.std.proofs.Common.{◌≡◌, ℕ, Option, Some, List, [], ◌∷◌, map, Contains, refl, ap, ◌∙◌}
use Rattle.std.proofs.Common.{subst}
use Rattle.std.proofs.lemmas.List.Elements.{Contains-append_left}
use Rattle.sw_list.proofs.Members.{in_flat_map}
use Rattle.sw_tree.specs.declared.decl.Decl.{Decl}
use Rattle.sw_tree.specs.declared.decl.ParamTree.{ParamTree}
use Rattle.sw_tree.proofs.Members.{in_map}
use Rattle.sw_types.specs.declared.ty.Ty.{Ty}
use Rattle.sw_graph.specs.declared.function.RegKind.{RegKind}
use Rattle.sw_graph.specs.declared.function.RegKind.TheVariants.{Plain}
use Rattle.sw_decl_words.specs.TypeWords.{type_of}
use Rattle.sw_decl_words.specs.Words.{top_meaning}
use Rattle.sw_decl_words.specs.declared.words.Meaning.{Meaning}
use Rattle.sw_decls.specs.Signatures.{param_of}
use Rattle.sw_decls.specs.declared.signature.AsyncDefault.{AsyncDefault}
use Rattle.sw_decls.specs.declared.signature.Param.{Param}
use Rattle.sw_typing_rules.specs.Judging.{leave_block}
use Rattle.sw_typing_rules.specs.Programs.{BodyOf, HasType, bodies_of, body_noted, body_state}
use Rattle.sw_typing_rules.specs.Programs.{func_body, of_body, param_var, params_of as vars_of}
use Rattle.sw_typing_rules.specs.Programs as typing
use Rattle.sw_typing_rules.specs.Statements.{body_rows, in_body, vars_rows}
use Rattle.sw_typing_rules.specs.Verdicts.{variable_rows}
use Rattle.sw_typing_rules.specs.Worlds.{IsWorldOf, World}
use Rattle.sw_typing_rules.specs.declared.row.Row.TheVariants.{Typed}
use Rattle.sw_typing_rules.specs.declared.scope.Var.{Var}
use Rattle.sw_typing_rules.proofs.Sound.{leaves_block}
use Rattle.sw_isolation_rules.specs.Answers.{Answers}
use Rattle.sw_lower_code.specs.declared.taken.Taken.{Taken}
use Rattle.sw_lower_rules.specs.Bodies.{param_taken}
use Rattle.sw_lower_rules.specs.Tables.{Tables, or_void}
use Rattle.sw_typing_facts.proofs.Lists.Listed.{in_first, in_rest}

-- Each type that the rules give is the one that is answered.
abbrev pub AreAnswered : World → Answers → List Decl → Type 0
AreAnswered world answers decls =
    (at : ℕ) (ty : Ty) → HasType world decls at ty → answers.type_at at ≡ Some ty

-- the kind of what is taken
abbrev pub kind_of : Taken → RegKind
kind_of taken = taken.kind

module _ (world : World) (decls : List Decl) where
  -- what is noted of a parameter
  var_row : (param : ParamTree)
      → Contains (variable_rows param.name.at (Some (type_of world.known.top param.ty)))
      (Typed param.name.at (type_of world.known.top param.ty))
  var_row param = in_first (Typed param.name.at (type_of world.known.top param.ty)) []

  -- A parameter has the type that is written.
  pub typed_param : (body : BodyOf) (param : ParamTree)
      → Contains (typing.bodies_from world 0 decls) body → Contains body.params param
      → HasType world decls param.name.at (type_of world.known.top param.ty)
  typed_param body param is has =
      let row = Typed param.name.at (type_of world.known.top param.ty) in
      let left = leave_block world body.block (in_body body.owner body.init)
      (body_state world body) in
      of_body body left row is
      (leaves_block world (in_body body.owner body.init) (body_state world body) body.block)
      (Contains-append_left (vars_rows (vars_of world body)) (body_rows body.at left) row
      (in_flat_map (λ (one : Var). variable_rows one.at one.ty) (vars_of world body)
      (param_var world param) row (in_map (param_var world) body.params param has)
      (var_row param)))

-- what words mean at top level in the world of a program
pub top_is : (decls : List Decl) (rule : AsyncDefault) (world : World)
    → IsWorldOf decls rule world → world.known.top ≡ top_meaning decls
top_is decls rule world is = λ i. λ id. is.words id i

-- the types of parameters are answered
abbrev pub AreTyped : Answers → (ℕ → Option Meaning) → List ParamTree → Type 0
AreTyped answers known params = (param : ParamTree) → Contains params param
    → answers.type_at param.name.at ≡ Some (type_of known param.ty)

-- the kinds of parameters are their types
pub kinds_are : (tables : Tables) (known : ℕ → Option Meaning) (params : List ParamTree)
    → AreTyped tables.answers known params
    → map kind_of (map (param_taken tables) params)
    ≡ map (λ (param : Param). Plain param.ty) (map (param_of known) params)
kinds_are tables known [] typed = refl
kinds_are tables known (param ∷ params) typed =
    ap (λ ty. Plain (or_void ty) ∷ map kind_of (map (param_taken tables) params))
    (typed param (in_first param params))
    ∙ ap (λ kinds. Plain (type_of known param.ty) ∷ kinds)
    (kinds_are tables known params (λ one has. typed one (in_rest param params one has)))

module _ (world : World) (answers : Answers) (decls : List Decl) (rule : AsyncDefault)
    (is : IsWorldOf decls rule world) (typed_once : AreAnswered world answers decls) where
  -- the parameters of a body have known types
  pub are_typed : (body : BodyOf) → Contains (typing.bodies_from world 0 decls) body
      → AreTyped answers (top_meaning decls) body.params
  are_typed body stands param has =
      subst (λ known. answers.type_at param.name.at ≡ Some (type_of known param.ty))
      (top_is decls rule world is)
      (typed_once param.name.at (type_of world.known.top param.ty)
      (typed_param world decls body param stands has))
