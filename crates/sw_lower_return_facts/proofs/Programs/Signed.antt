-- The functions of functions, methods and the entry return their results.
use Rattle.std.proofs.Common.{◌≡◌, ℕ, Bool, true, false, List, [], ◌++◌, Some, None, map, refl}
use Rattle.std.proofs.Common.{sym, subst, Contains, ap}
use Rattle.std.proofs.lemmas.List.Elements.{All-cons, All-tail, Contains-append_right}
use Rattle.std.specs.Prelude.{All}
use Rattle.sw_lower_formed_facts.specs.Programs.{tables_in}
use Rattle.sw_tree.specs.declared.decl.Decl.{Decl}
use Rattle.sw_tree.specs.declared.decl.ParamTree.{ParamTree}
use Rattle.sw_tree.specs.declared.stmt.Block.{Block}
use Rattle.sw_graph.specs.declared.function.Function.{Function}
use Rattle.sw_decls.specs.declared.signature.AsyncDefault.{AsyncDefault}
use Rattle.sw_decls.specs.declared.signature.Signature.{Signature}
use Rattle.sw_typing_rules.proofs.Sound.{leaves_block}
use Rattle.sw_typing_rules.specs.Judges.{LeavesBlock}
use Rattle.sw_typing_rules.specs.Judging.{leave_block}
use Rattle.sw_typing_rules.specs.Programs.{BodyOf, IsFirstIll, bodies_from, body_state, of_body}
use Rattle.sw_typing_rules.specs.Programs.{params_of}
use Rattle.sw_typing_rules.specs.Statements.{Left, State, body_result, in_body, lacks_result}
use Rattle.sw_typing_rules.specs.Statements.{vars_rows}
use Rattle.sw_typing_rules.specs.Verdicts.{ill_if}
use Rattle.sw_typing_rules.specs.Worlds.{World}
use Rattle.sw_typing_rules.specs.declared.row.Row.TheVariants.{Ill}
use Rattle.sw_typing_rules.specs.declared.scope.Inside.{Inside}
use Rattle.sw_lower_plans.specs.Plan.{Numbers}
use Rattle.sw_lower_code.specs.Whole.{Body}
use Rattle.sw_lower_rules.specs.Bodies.{func_signed, param_taken, self_taken, signed}
use Rattle.sw_lower_rules.specs.Carriers.{BlockCode}
use Rattle.sw_lower_rules.specs.Expressions.{body_code}
use Rattle.sw_lower_rules.specs.Statements.{block_code}
use Rattle.sw_lower_rules.specs.Tables.{Isolation, Tables}
use Rattle.sw_lower_formed_facts.specs.Trees.{IsHere}
use Rattle.sw_typing_facts.specs.Rows.{RowsHold}
use Rattle.sw_lower_formed_facts.proofs.Bodies.FuncBodies.{body_by}
use Rattle.sw_lower_formed_facts.proofs.Bodies.Given.{AllHere, IsProgram}
use Rattle.sw_typing_facts.proofs.Declared.Wanting.{block_wants}
use Rattle.sw_typing_facts.proofs.Lists.Listed.{in_first}
use Rattle.sw_lower_formed_facts.proofs.Said.RowsOf.{body_rows_hold, params_hold}
use Rattle.sw_lower_return_facts.specs.Forms.{BlockReturns, BodyReturns}
use Rattle.sw_lower_return_facts.proofs.Bodies.Codes.{body_closes}
use Rattle.sw_lower_return_facts.proofs.Functions.Bodies.{body_returns}
use Rattle.sw_lower_return_facts.proofs.Induction.{block_returns_of}
use Rattle.sw_lower_return_facts.proofs.Typing.Giving.{lacking_ends}

abbrev pub AllReturn : Numbers → List Body → Type 0
AllReturn number bodies = All (BodyReturns number) bodies

-- Where no node is ill, no body lacks a result.
lacks_none : (world : World) (decls : List Decl) → IsFirstIll world decls None → (body : BodyOf)
    (left : Left) → Contains (bodies_from world 0 decls) body
    → LeavesBlock world (in_body body.owner body.init) (body_state world body) body.block left
    → lacks_result left ≡ false
lacks_none world decls well body left stands leaves = by (lacks_result left) refl where
  by : (lacks : Bool) → lacks_result left ≡ lacks → lacks_result left ≡ false
  by false is = is
  by true is =
      let lacking = Ill body.at 406 None in
      absurd (well body.at 406 (
        None,
        of_body body left lacking stands leaves
            (Contains-append_right (vars_rows (params_of world body)) _ lacking
            (Contains-append_right left.rows _ lacking
            (subst (λ so. Contains (ill_if so body.at 406) lacking) (sym is)
            (in_first lacking [])))),
      ))

module _ (world : World) (isolation : Isolation) (decls : List Decl) (rule : AsyncDefault)
    (number : Numbers) (functions : List Function)
    (program : IsProgram world isolation decls rule number functions) where
  abbrev tables : Tables
  tables = tables_in world isolation decls

  -- the function of a signature's body, with those of the bodies in it
  pub signed_returns : (at : ℕ) (params : List ParamTree) (block : Block) (func : Signature)
      → Contains (bodies_from world 0 decls) (body_by at params block func)
      → AllHere tables number functions (func_signed tables params block func)
      → AllReturn number (func_signed tables params block func)
  signed_returns at params block func stands here =
      All-cons (BodyReturns number) body code.inside
      (body_returns number body
      (λ value. body_closes number func.result state code left block_ok
      result_is
      (lacking_ends tables.answers left func.result rows
      (lacks_none world decls program.well from left stands leaves) result_is value) value))
      block_ok.inside where
        from : BodyOf
        from = body_by at params block func

        state : State
        state = body_state world from

        around : Inside
        around = in_body func.owner false

        left : Left
        left = leave_block world block around state

        leaves : LeavesBlock world around state block left
        leaves = leaves_block world around state block

        code : BlockCode
        code = block_code tables func.owner block

        body : Body
        body = signed tables func (self_taken tables func.owner ++ map (param_taken tables) params)
            (body_code func.result code)

        rows : RowsHold tables.answers left.rows
        rows = body_rows_hold world decls program.keyed program.well from left stands leaves

        block_ok : BlockReturns number true state code left
        block_ok = block_returns_of tables number functions program.exprs around state block left
            leaves refl (params_hold world decls program.keyed program.well from stands) rows
            (All-tail (IsHere tables number functions) body code.inside here)

        result_is : body_result left.state.returned ≡ Some func.result
        result_is =
            ap body_result (block_wants world func.result around state block left leaves refl)
