-- The functions of functions, methods and the entry fit.
use Rattle.std.proofs.Common.{ℕ, false, List, ◌++◌, Option, map, refl, sym, Contains, subst}
use Rattle.std.proofs.lemmas.List.Elements.{All-append, All-cons, All-head, All-tail}
use Rattle.std.specs.Prelude.{All}
use Rattle.sw_lower_formed_facts.specs.Programs.{tables_in}
use Rattle.sw_tree.specs.declared.decl.Decl.{Decl}
use Rattle.sw_tree.specs.declared.decl.ParamTree.{ParamTree}
use Rattle.sw_tree.specs.declared.stmt.Block.{Block}
use Rattle.sw_graph.specs.declared.function.Function.{Function}
use Rattle.sw_decl_words.specs.TypeWords.{type_of}
use Rattle.sw_decls.specs.declared.signature.AsyncDefault.{AsyncDefault}
use Rattle.sw_decls.specs.declared.signature.Signature.{Signature}
use Rattle.sw_typing_rules.proofs.Sound.{leaves_block}
use Rattle.sw_typing_rules.specs.Judging.{leave_block}
use Rattle.sw_typing_rules.specs.Programs.{BodyOf, bodies_from, body_state}
use Rattle.sw_typing_rules.specs.Statements.{Left, State, in_body}
use Rattle.sw_typing_rules.specs.Worlds.{World}
use Rattle.sw_typing_rules.specs.declared.scope.Inside.{Inside}
use Rattle.sw_lower_plans.specs.Plan.{Numbers}
use Rattle.sw_lower_code.specs.Whole.{Body}
use Rattle.sw_lower_rules.specs.Bodies.{func_signed, param_taken, self_taken, signed}
use Rattle.sw_lower_rules.specs.Carriers.{BlockCode}
use Rattle.sw_lower_rules.specs.Expressions.{body_code}
use Rattle.sw_lower_rules.specs.Statements.{block_code}
use Rattle.sw_lower_rules.specs.Tables.{Isolation, Tables}
use Rattle.sw_lower_formed_facts.specs.Forms.{BlockOk, BodiesFit, ReturnsOk}
use Rattle.sw_lower_formed_facts.specs.Ground.{IsDeclaredIn}
use Rattle.sw_lower_formed_facts.specs.Trees.{IsHere}
use Rattle.sw_lower_formed_facts.specs.Taking.{TakenOk}
use Rattle.sw_lower_formed_facts.proofs.Bodies.BodyCode.{body_code_ok}
use Rattle.sw_lower_formed_facts.proofs.Bodies.BodyFits.{body_fits}
use Rattle.sw_lower_formed_facts.proofs.Bodies.FuncTakes.{params_ok, self_taken_ok}
use Rattle.sw_lower_formed_facts.proofs.Bodies.Given.{AllFit, AllHere, Fits, IsProgram, fit_inside}
use Rattle.sw_typing_facts.proofs.Declared.Wanting.{block_wants}
use Rattle.sw_lower_formed_facts.proofs.Headers.ParamTypes.{typed_param}
use Rattle.sw_typing_facts.proofs.Said.Once.{typed_once}
use Rattle.sw_lower_formed_facts.proofs.Said.RowsOf.{body_rows_hold, params_hold}

-- the body of a signature that is no initialiser's
abbrev pub body_by : ℕ → List ParamTree → Block → Signature → BodyOf
body_by at params block func = record {
  at = at;
  owner = func.owner;
  init = false;
  params = params;
  wanted = func.result;
  block = block;
}

module _ (world : World) (isolation : Isolation) (decls : List Decl) (rule : AsyncDefault)
    (number : Numbers) (functions : List Function)
    (program : IsProgram world isolation decls rule number functions) where
  abbrev tables : Tables
  tables = tables_in world isolation decls

  -- What the parameters of a body take is as it is to be.
  pub params_taken_ok : (owner : Option ℕ) (body : BodyOf)
      → Contains (bodies_from world 0 decls) body
      → All (TakenOk tables owner) (map (param_taken tables) body.params)
  params_taken_ok owner body stands =
      params_ok tables number functions program.ground owner body.params
      (λ param has. (
        type_of world.known.top param.ty,
        typed_once world decls program.keyed param.name.at (type_of world.known.top param.ty)
            (typed_param world decls body param stands has),
      ))

  -- the function of a signature's body, with those of the bodies in it
  pub signed_fits : (at : ℕ) (params : List ParamTree) (block : Block) (func : Signature)
      → Contains (bodies_from world 0 decls) (body_by at params block func)
      → IsDeclaredIn tables func.result
      → AllHere tables number functions (func_signed tables params block func)
      → AllFit tables number functions (func_signed tables params block func)
  signed_fits at params block func stands declared here =
      All-cons (Fits tables number functions) body code.inside fits.0
      (fit_inside tables number functions code.inside inside fits.1) where
        from : BodyOf
        from = body_by at params block func

        state : State
        state = body_state world from

        around : Inside
        around = in_body func.owner false

        left : Left
        left = leave_block world block around state

        code : BlockCode
        code = block_code tables func.owner block

        body : Body
        body = signed tables func (self_taken tables func.owner ++ map (param_taken tables) params)
            (body_code func.result code)

        inside : AllHere tables number functions code.inside
        inside = All-tail (IsHere tables number functions) body code.inside here

        block_ok : BlockOk tables number functions func.owner around.only state code left
        block_ok = program.blocks around state block left (leaves_block world around state block)
            refl (params_hold world decls program.keyed program.well from stands)
            (body_rows_hold world decls program.keyed program.well from left stands
            (leaves_block world around state block)) inside

        returns : ReturnsOk left.state.returned func.result
        returns = subst (λ r. ReturnsOk r func.result)
            (sym (block_wants world func.result around state block left
            (leaves_block world around state block) refl)) refl

        takes : All (TakenOk tables func.owner) body.takes
        takes = All-append (TakenOk tables func.owner) (self_taken tables func.owner)
            (map (param_taken tables) params) (self_taken_ok tables func.owner)
            (params_taken_ok func.owner from stands)

        fits : Fits tables number functions body × BodiesFit tables number functions code.inside
        fits = body_fits tables number functions func.owner body takes declared
            (BodiesFit tables number functions code.inside)
            (body_code_ok tables number functions func.owner func.result state code left block_ok tt
            returns)
            (All-head (IsHere tables number functions) body code.inside here).made
