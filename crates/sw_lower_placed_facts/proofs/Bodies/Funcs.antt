-- The bodies of functions, methods and the entry are placed.
use Rattle.std.proofs.Common.{◌≡◌, ℕ, true, false, List, [], ◌∷◌, ◌++◌, Option, Some}
use Rattle.std.proofs.Common.{map, refl, ap, sym, ◌∙◌, Contains, true≢false}
use Rattle.std.proofs.lemmas.List.Elements.{All-append, All-cons, All-head}
use Rattle.std.proofs.lemmas.Option.{none-some}
use Rattle.std.specs.Prelude.{All, slice_get}
use Rattle.sw_tree.specs.declared.decl.Decl.{Decl}
use Rattle.sw_tree.specs.declared.decl.ParamTree.{ParamTree}
use Rattle.sw_tree.specs.declared.stmt.Block.{Block}
use Rattle.sw_types.specs.declared.isolation.Iso.{Iso}
use Rattle.sw_types.specs.declared.isolation.Iso.TheVariants as iso
use Rattle.sw_types.specs.declared.shape.Shape.{Shape}
use Rattle.sw_types.specs.declared.ty.Ty.{Ty}
use Rattle.sw_graph.specs.Bodies.{is_own}
use Rattle.sw_decl_words.specs.TypeWords.{type_of}
use Rattle.sw_decls.specs.declared.signature.AsyncDefault.{AsyncDefault}
use Rattle.sw_decls.specs.declared.signature.Signature.{Signature}
use Rattle.sw_typing_rules.specs.Judging.{leave_block}
use Rattle.sw_typing_rules.specs.Programs.{BodyOf, bodies_from, body_state, param_var}
use Rattle.sw_typing_rules.specs.Statements.{Left, State, in_body}
use Rattle.sw_typing_rules.specs.Worlds.{World}
use Rattle.sw_typing_rules.specs.declared.scope.Inside.{Inside}
use Rattle.sw_typing_rules.proofs.Sound.{leaves_block}
use Rattle.sw_isolation_rules.specs.Answers.{for_some}
use Rattle.sw_isolation_rules.specs.Programs.{func_context}
use Rattle.sw_lower_code.specs.Whole.{Body}
use Rattle.sw_lower_code.specs.declared.taken.Taken.{Taken}
use Rattle.sw_lower_rules.specs.Bodies.{func_signed, param_taken, self_by, self_taken, signed}
use Rattle.sw_lower_rules.specs.Carriers.{BlockCode}
use Rattle.sw_lower_rules.specs.Expressions.{body_code}
use Rattle.sw_lower_rules.specs.Statements.{block_code}
use Rattle.sw_lower_rules.specs.Tables.{Tables}
use Rattle.sw_lower_rules.specs.Uses.{self_key}
use Rattle.sw_lower_formed_facts.specs.Taking.{TakenOk}
use Rattle.sw_lower_formed_facts.proofs.Bodies.FuncBodies.{body_by}
use Rattle.sw_lower_formed_facts.proofs.Bodies.FuncTakes.{params_ok, self_taken_ok}
use Rattle.sw_lower_formed_facts.proofs.Headers.ParamTypes.{typed_param}
use Rattle.sw_typing_facts.proofs.Said.Once.{typed_once}
use Rattle.sw_lower_formed_facts.proofs.Said.RowsOf.{body_rows_hold, params_hold}
use Rattle.sw_lower_call_facts.proofs.Functions.Owners.{owner_is_actor}
use Rattle.sw_lower_placed_facts.specs.Claims.{AreInside, AreOrdinary, BlockNoted, BlockPlaced}
use Rattle.sw_lower_placed_facts.specs.Claims.{IsOrdinary}
use Rattle.sw_lower_placed_facts.specs.Placing.{IsMe}
use Rattle.sw_lower_placed_facts.specs.Settled.{IsSettled}
use Rattle.sw_lower_placed_facts.specs.Hosts.{IsHost, Program, Host}
use Rattle.sw_lower_placed_facts.proofs.Bodies.BodyCode.{body_code_placed}
use Rattle.sw_lower_placed_facts.proofs.Bodies.Entering.{SelfFirst, TakesWell}
use Rattle.sw_lower_placed_facts.proofs.Bodies.Getters.{self_key_at}
use Rattle.sw_lower_placed_facts.proofs.Bodies.Given as the
use Rattle.sw_lower_placed_facts.proofs.Bodies.Given.{IsProgram}
use Rattle.sw_lower_placed_facts.proofs.Bodies.Ordinary.{ordinary_with}
use Rattle.sw_lower_placed_facts.proofs.Uses.Variables.{me_is}

-- what is isolated to `self`
pub own_is : (isolation : Iso) → is_own isolation ≡ true → isolation ≡ iso.Own
own_is iso.Free is = cc
own_is iso.Own is = refl
own_is (iso.Global actor) is = cc
own_is iso.Caller is = cc

-- where the body of a function stands
abbrev pub func_host : Signature → Host
func_host func = record {
  iso = func.iso;
  owner = func.owner;
  has_self = is_own func.iso;
}

-- what functions and methods take
abbrev pub func_takes : Tables → Signature → List ParamTree → List Taken
func_takes tables func params =
    self_taken tables func.owner ++ map (param_taken tables) params

-- `self` is taken first in a member of a type.
self_first : (tables : Tables) (owner : Option ℕ) (k : ℕ) (shape : Shape) (rest : List Taken)
    → owner ≡ Some k → slice_get tables.world.shapes k ≡ Some shape
    → self_taken tables owner ++ rest ≡ self_by k shape ∷ rest
self_first tables owner k shape rest same at =
    ap (λ (by : Option ℕ). self_taken tables by ++ rest) same
    ∙ ap (λ found. for_some found (λ shape. self_by k shape ∷ []) ++ rest) at

-- The key of a node that has a type isn't that of `self`.
pub not_me : (program : Program) (host : Host) → IsSettled program → (key : ℕ) (ty : Ty)
    → program.tables.answers.type_at key ≡ Some ty → IsMe program host key → ⊥
not_me program host settled key ty typed me =
    let self = me_is program host key me in
    none-some ty (sym (settled.selves self.number self.shape self.at)
    ∙ ap program.tables.answers.type_at self.word ∙ typed)

module _ (decls : List Decl) (rule : AsyncDefault) (world : World) (ordered : List Body)
    (given : IsProgram decls rule world ordered) where
  abbrev tables : Tables
  tables = the.tables decls rule world ordered given

  abbrev program : Program
  program = the.program decls rule world ordered given

  abbrev Here : Body → Type 0
  Here = the.Here decls rule world ordered given

  -- a parameter of a body has a type
  pub param_typed : (body : BodyOf) → Contains (bodies_from world 0 decls) body
      → (param : ParamTree) → Contains body.params param
      → (ty : Ty) × (tables.answers.type_at param.name.at ≡ Some ty)
  param_typed body stands param has = (
    type_of world.known.top param.ty,
    typed_once world decls given.typed.keyed param.name.at (type_of world.known.top param.ty)
        (typed_param world decls body param stands has),
  )

  -- What the parameters of a body take is as it is to be.
  pub params_taken : (owner : Option ℕ) (body : BodyOf)
      → Contains (bodies_from world 0 decls) body
      → All (TakenOk tables owner) (map (param_taken tables) body.params)
  params_taken owner body stands =
      params_ok tables (the.numbers decls rule world ordered given)
      (the.functions decls rule world ordered given) (the.ground decls rule world ordered given)
      owner body.params (param_typed body stands)

  -- A function that is isolated to `self` is one of an actor.
  func_host_is : (func : Signature) → Contains world.funcs func
      → IsHost program (func_host func)
  func_host_is func has = record {
    own = λ own. own;
    actor = λ own.
        let of = owner_is_actor decls rule world given.typed.declared func has
        (own_is func.iso own) in (of.k, of.owner, of.actor);
  }

  -- It takes that first.
  takes_self : (func : Signature) (params : List ParamTree) → Contains world.funcs func
      → is_own func.iso ≡ true
      → SelfFirst program (func_host func) (func_takes tables func params)
  takes_self func params has own =
      let of = owner_is_actor decls rule world given.typed.declared func has
      (own_is func.iso own) in
      record {
        first = self_by of.k of.actor.shape;
        more = map (param_taken tables) params;
        are = self_first tables func.owner of.k of.actor.shape (map (param_taken tables) params)
            of.owner of.actor.at;
        me = ap (self_key tables) of.owner ∙ self_key_at tables of.k of.actor.shape of.actor.at;
        plain = refl;
      }

  func_takes_well : (at : ℕ) (params : List ParamTree) (block : Block) (func : Signature)
      → Contains (bodies_from world 0 decls) (body_by at params block func)
      → Contains world.funcs func
      → TakesWell program (func_host func) (func_takes tables func params)
  func_takes_well at params block func stands has = record {
    typed = All-append (TakenOk tables func.owner) (self_taken tables func.owner)
        (map (param_taken tables) params) (self_taken_ok tables func.owner)
        (params_taken func.owner (body_by at params block func) stands);
    first = takes_self func params has;
    none = λ own none. absurd (true≢false (sym own ∙ none));
  }

  -- the block of a function
  block_placed : (at : ℕ) (params : List ParamTree) (block : Block) (func : Signature)
      → Contains (bodies_from world 0 decls) (body_by at params block func)
      → Contains world.funcs func
      → BlockNoted program (func_context func) [] (map (param_var world) params) block
      → AreInside program (block_code tables func.owner block).inside
      → BlockPlaced program (func_host func) (block_code tables func.owner block)
  block_placed at params block func stands has noted inside =
      given.blocks around state block left (leaves_block world around state block)
      (func_host func) (func_host_is func has) refl refl
      (params_hold world decls given.typed.keyed given.typed.well from stands)
      (body_rows_hold world decls given.typed.keyed given.typed.well from left stands
      (leaves_block world around state block)) inside (func_context func) []
      (record { iso = refl; owner = refl }) noted where
        from : BodyOf
        from = body_by at params block func

        around : Inside
        around = in_body func.owner false

        state : State
        state = body_state world from

        left : Left
        left = leave_block world block around state

  -- the body of a function, with those of closures and tasks in it
  pub signed_placed : (at : ℕ) (params : List ParamTree) (block : Block) (func : Signature)
      → Contains (bodies_from world 0 decls) (body_by at params block func)
      → Contains world.funcs func
      → BlockNoted program (func_context func) [] (map (param_var world) params) block
      → AreInside program (block_code tables func.owner block).inside
      → All Here (func_signed tables params block func)
      → AreOrdinary program (func_signed tables params block func)
  signed_placed at params block func stands has noted inside here =
      All-cons (IsOrdinary program) body code.inside placed.0 placed.1 where
        code : BlockCode
        code = block_code tables func.owner block

        body : Body
        body = signed tables func (func_takes tables func params) (body_code func.result code)

        placed : IsOrdinary program body × AreOrdinary program code.inside
        placed = ordinary_with program (func_host func) body (AreOrdinary program code.inside)
            (func_host_is func has) refl (λ own. own)
            (func_takes_well at params block func stands has)
            (All-head Here body code.inside here).made
            (body_code_placed program (func_host func) func.result code
            (block_placed at params block func stands has noted inside))
