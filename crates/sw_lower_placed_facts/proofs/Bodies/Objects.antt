-- The initialisers of classes and actors are placed.
use Rattle.std.proofs.Common.{◌≡◌, ℕ, ◌⊎◌, inl, inr, true, false, List, [], ◌∷◌, ◌++◌}
use Rattle.std.proofs.Common.{Option, Some, None, map, flat_map, Contains, refl, ap, sym, ◌∙◌}
use Rattle.std.proofs.Common.{subst}
use Rattle.std.proofs.Common.{length}
use Rattle.std.proofs.lemmas.List.Elements.{All-append, All-cons, All-contains_itself, All-head}
use Rattle.std.proofs.lemmas.List.Elements.{All-map, All-nil, Contains-append_right}
use Rattle.std.specs.Prelude.{All, IsOk, ◌==◌, if◌then◌else◌, slice_get}
use Rattle.sw_list.proofs.Members.{none_in, of_flat_map}
use Rattle.sw_tree.specs.declared.decl.Decl.{Decl}
use Rattle.sw_tree.specs.declared.decl.InitTree.{InitTree}
use Rattle.sw_tree.specs.declared.decl.ParamTree.{ParamTree}
use Rattle.sw_tree.specs.declared.decl.PropTree.{PropTree}
use Rattle.sw_tree.specs.declared.expr.Expr.{Expr}
use Rattle.sw_tree.specs.declared.name.Name.{Name}
use Rattle.sw_tree.proofs.Members.{in_map}
use Rattle.sw_types.specs.Accepts.{is_marked}
use Rattle.sw_types.specs.declared.shape.Shape.{Shape}
use Rattle.sw_types.specs.declared.ty.Ty.TheVariants as types
use Rattle.sw_graph.specs.Placed.{IsReturn, SetsApart}
use Rattle.sw_graph.specs.declared.function.RegKind.{RegKind}
use Rattle.sw_graph.specs.declared.instr.Block.{Block as CodeBlock}
use Rattle.sw_graph.specs.declared.instr.Instr.{Instr}
use Rattle.sw_graph.specs.declared.instr.Last.TheVariants.{Return}
use Rattle.sw_decl_words.specs.Evident.{meanings_of}
use Rattle.sw_decl_words.specs.Words.{top_meaning}
use Rattle.sw_decl_words.specs.declared.words.Meaning.{Meaning}
use Rattle.sw_decl_names.specs.Repeats.{first_place}
use Rattle.sw_decl_values.specs.Profile.{no_params, param_names}
use Rattle.sw_decls.specs.Declaring.{init_key}
use Rattle.sw_decls.specs.Signatures.{funcs_of, init_of, inits_of}
use Rattle.sw_decls.specs.declared.signature.AsyncDefault.{AsyncDefault}
use Rattle.sw_decls.specs.declared.signature.Signature.{Signature}
use Rattle.sw_typing_rules.specs.Expressions.{Judged}
use Rattle.sw_typing_rules.specs.Judges.{Judges}
use Rattle.sw_typing_rules.specs.Judging.{judge, leave_block}
use Rattle.sw_typing_rules.specs.Programs.{ValueOf, bodies_from, bodies_of, body_state, init_body}
use Rattle.sw_typing_rules.specs.Programs.{prop_value, value_setting, values_from}
use Rattle.sw_typing_rules.specs.Statements.{Left, State, in_body}
use Rattle.sw_typing_rules.specs.Worlds.{World, and_then, is_object_kind, item}
use Rattle.sw_typing_rules.proofs.Sound.{judges, leaves_block}
use Rattle.sw_isolation_rules.specs.Answers.{Answers, for_some}
use Rattle.sw_isolation_rules.specs.Kinds.{shape_iso}
use Rattle.sw_isolation_rules.specs.Programs.{context_of, func_at, func_context}
use Rattle.sw_isolation_rules.specs.Uses.{maker_at}
use Rattle.sw_lower_plans.specs.Run.{Making}
use Rattle.sw_lower_code.specs.Whole.{Body, lower_body}
use Rattle.sw_lower_code.specs.declared.taken.Taken.{Taken}
use Rattle.sw_lower_rules.specs.Bodies.{default_bodies, first_values, init_bodies, init_code}
use Rattle.sw_lower_rules.specs.Bodies.{init_signed, inits_bodies, made_instr, param_taken}
use Rattle.sw_lower_rules.specs.Bodies.{prop_given}
use Rattle.sw_lower_rules.specs.Bodies.{signed}
use Rattle.sw_lower_rules.specs.Carriers.{BlockCode, Given}
use Rattle.sw_lower_rules.specs.Statements.{block_code, expr_code}
use Rattle.sw_lower_rules.specs.Tables.{Tables}
use Rattle.sw_lower_rules.specs.Uses.{operand}
use Rattle.sw_lower_formed_facts.specs.Forms.{VarHolds}
use Rattle.sw_lower_formed_facts.specs.Taking.{TakenOk}
use Rattle.sw_lower_formed_facts.proofs.Bodies.InitBodies.{all_own, first_in, first_of}
use Rattle.sw_lower_formed_facts.proofs.Headers.FoundFuncs.{func_is}
use Rattle.sw_typing_facts.proofs.Lists.Joined.{all_left}
use Rattle.sw_typing_facts.proofs.Lists.Listed.{in_first, only_in}
use Rattle.sw_typing_facts.proofs.Programs.DeclParts.{inits_in, props_in}
use Rattle.sw_typing_facts.proofs.Programs.MadeOf.{func_stands, typed_stands}
use Rattle.sw_typing_facts.proofs.Programs.ObjectDecls.{ObjectOk}
use Rattle.sw_lower_formed_facts.proofs.Programs.SimpleInside.{simple_inside}
use Rattle.sw_typing_facts.proofs.Programs.Standing.{Stands}
use Rattle.sw_lower_formed_facts.proofs.Said.RowsOf.{body_rows_hold, params_hold, value_rows_hold}
use Rattle.sw_lower_total_facts.proofs.Programs.Found.{found_at, func_at_key, func_there}
use Rattle.sw_lower_call_facts.proofs.Calls.Insides.{init_inside}
use Rattle.sw_lower_placed_facts.specs.Allowed.{IsAllowed}
use Rattle.sw_lower_placed_facts.specs.Bodies.{IsMaker, MakesLast}
use Rattle.sw_lower_placed_facts.specs.Claims.{AreOrdinary, IsOrdinary}
use Rattle.sw_lower_placed_facts.specs.Placing.{IsMe}
use Rattle.sw_lower_placed_facts.specs.Hosts.{IsHost, Program, Host}
use Rattle.sw_lower_placed_facts.proofs.Bodies.Ends.{IsEnd}
use Rattle.sw_lower_placed_facts.proofs.Bodies.Entering.{TakesWell}
use Rattle.sw_lower_placed_facts.proofs.Bodies.Funcs.{not_me, param_typed, params_taken}
use Rattle.sw_lower_placed_facts.proofs.Bodies.Functions.{Ran, body_ran}
use Rattle.sw_lower_placed_facts.proofs.Bodies.Given as the
use Rattle.sw_lower_placed_facts.proofs.Bodies.Given.{IsProgram}
use Rattle.sw_lower_placed_facts.proofs.Bodies.InitValues.{BlockGives, block_gives, both_given}
use Rattle.sw_lower_placed_facts.proofs.Bodies.InitValues.{maker_host}
use Rattle.sw_lower_placed_facts.proofs.Bodies.InitValues.{maker_host_is, value_placed}
use Rattle.sw_lower_placed_facts.proofs.Bodies.Makers.{AreGiven, GivenPlaced, MakesOne, init_ends}
use Rattle.sw_lower_placed_facts.proofs.Bodies.Notes.{init_noted, prop_value_noted}

module _ (decls : List Decl) (rule : AsyncDefault) (world : World) (ordered : List Body)
    (given : IsProgram decls rule world ordered) where
  abbrev tables : Tables
  tables = the.tables decls rule world ordered given

  abbrev answers : Answers
  answers = the.answers decls rule world ordered given

  abbrev program : Program
  program = the.program decls rule world ordered given

  abbrev Here : Body → Type 0
  Here = the.Here decls rule world ordered given

  abbrev known : ℕ → Option Meaning
  known = top_meaning decls

  -- What is taken for parameters that have types is as it is to be, and none of it is `self`.
  pub record Takes (n : ℕ) (params : List ParamTree) : Type 0 where
    pub typed : All (TakenOk tables (Some n)) (map (param_taken tables) params)
    pub none : (host : Host) → All (λ (one : Taken). IsMe program host one.key → ⊥)
        (map (param_taken tables) params)

  takes_none : (n : ℕ) → Takes n []
  takes_none n = record {
    typed = All-nil (TakenOk tables (Some n));
    none = λ host. All-nil (λ (one : Taken). IsMe program host one.key → ⊥);
  }

  takes_params : (n : ℕ) (init : InitTree)
      → Contains (bodies_from world 0 decls) (init_body n init) → Takes n init.params
  takes_params n init stands = record {
    typed = params_taken decls rule world ordered given (Some n) (init_body n init) stands;
    none = λ host.
        All-map (λ (one : Taken). IsMe program host one.key → ⊥) (param_taken tables) init.params
        (λ k d below.
        let has = All-contains_itself init.params k d below in
        let ty = param_typed decls rule world ordered given (init_body n init) stands _ has in
        not_me program host given.settled _ ty.0 ty.1);
  }

  -- the body of the initialiser of a type with a shape
  pub record IsMakerOf (shape : Shape) (body : Body) : Type 0 where
    pub makes : IsMaker program body
    pub same : makes.shape ≡ shape

  module _ (n : ℕ) (shape : Shape) (there : slice_get world.shapes n ≡ Some shape)
      (object : is_object_kind shape.kind ≡ true) (func : Signature) (params : List ParamTree)
      (givens : List Given) where
    abbrev body : Body
    body = signed tables func (map (param_taken tables) params)
        (init_code func.key.at n shape givens)

    abbrev host : Host
    host = maker_host func.iso n

    maker_takes : Takes n params → TakesWell program host (map (param_taken tables) params)
    maker_takes takes = record {
      typed = takes.typed;
      first = λ has. cc;
      none = λ own none. takes.none host;
    }

    abbrev May : List RegKind → ℕ → CodeBlock → Instr → Type 0
    May regs index block instr = IsAllowed program host regs instr
        ⊎ MakesLast shape.kind n block index instr

    -- The instruction at the end of a block makes an object or an actor.
    end_makes : (key r : ℕ) (t : Making) (made : MakesOne program host shape.kind key n t)
        (index : ℕ) (block : CodeBlock) (instr : Instr)
        → IsEnd (made_instr shape.kind key made.r n made.operands)
        (Return (Some (operand made.r key))) block index instr
        → MakesLast shape.kind n block index instr
    end_makes key r t made index block instr end = record {
      key = key;
      r = made.r;
      operands = made.operands;
      is = end.is;
      apart = subst SetsApart (sym end.is) made.apart;
      last = record { last = end.at_end; returns = subst IsReturn (sym end.ends) tt };
    }

    -- The body of an initialiser makes one, where what it gives is placed.
    maker_placed : maker_at world n ≡ Some func → func.iso ≡ shape_iso shape
        → func.result ≡ types.Named n → Takes n params → AreGiven program host givens
        → IsOk (lower_body program.numbers body) → IsMakerOf shape body
    maker_placed maker iso result takes gives made = record { makes = makes; same = refl } where
      ran : Ran program host body
      ran = body_ran program host body (maker_takes takes) made

      one : MakesOne program host shape.kind func.key.at n ran.end
      one = init_ends program host func.key.at n shape givens gives ran.start ran.end ran.stood
          ran.ran ran.whole

      either : (index : ℕ) (block : CodeBlock) (instr : Instr)
          → IsAllowed program host ran.end.made.regs instr
          ⊎ IsEnd (made_instr shape.kind func.key.at one.r n one.operands)
          (Return (Some (operand one.r func.key.at))) block index instr
          → May ran.end.made.regs index block instr
      either index block instr (inl allowed) = inl allowed
      either index block instr (inr end) =
          inr (end_makes func.key.at one.r ran.end one index block instr end)

      makes : IsMaker program body
      makes = record {
        k = n;
        shape = shape;
        func = func;
        is_shape = there;
        object = object;
        maker = maker;
        named = refl;
        iso = iso;
        result = result;
        points = λ number index block instr at_block at_instr.
            subst (λ regs. May regs index block instr) (sym ran.regs)
            (either index block instr
            (one.ends.points number index block instr
            (subst (λ blocks. slice_get blocks number ≡ Some block) ran.blocks at_block) at_instr));
        number = one.ends.there.number;
        index = one.ends.there.index;
        block = one.ends.there.block;
        instr = made_instr shape.kind func.key.at one.r n one.operands;
        at_block = subst (λ blocks. slice_get blocks one.ends.there.number
            ≡ Some one.ends.there.block) (sym ran.blocks) one.ends.there.at_block;
        at_instr = one.ends.there.at_instr;
        makes = end_makes func.key.at one.r ran.end one one.ends.there.index one.ends.there.block
            (made_instr shape.kind func.key.at one.r n one.operands) one.ends.there.is_end;
      }

  -- a class or an actor, with what is declared of it
  pub record IsObject (n g : ℕ) (decl : Decl) (word : Name) (props : List PropTree)
      (inits : List InitTree) : Type 0 where
    pub stands : Stands decls n g decl
    pub props_are : props_in decl ≡ props
    pub inits_are : inits_in decl ≡ inits
    pub ok : ObjectOk (meanings_of decls) n props inits
    pub shape : Shape
    pub there : slice_get world.shapes n ≡ Some shape
    pub kind : is_object_kind shape.kind ≡ true
    pub maker : slice_get world.makers n ≡ Some (init_key word.at inits)
    pub signed : (func : Signature)
        → Contains (inits_of known word n (shape_iso shape) inits) func
        → Contains (funcs_of known rule n decl) func
    pub typed : (init : InitTree) → Contains inits init
        → Contains (bodies_of world n decl) (init_body n init)
    pub values : (value : ValueOf) → Contains (flat_map (prop_value world (Some n)) props) value
        → Contains (values_from world 0 decls) value

  module _ (n g : ℕ) (decl : Decl) (word : Name) (props : List PropTree) (inits : List InitTree)
      (object : IsObject n g decl word props inits) where
    abbrev Made : Body → Type 0
    Made = IsMakerOf object.shape

    -- the initialiser that is found by its key
    maker_found : (key : ℕ) (func : Signature) → func_at world answers key ≡ Some func
        → key ≡ init_key word.at inits → maker_at world n ≡ Some func
    unfolding maker_at func_at
    maker_found key func found same =
        ap (λ made. item (and_then made world.numbers) world.funcs)
        (object.maker ∙ ap Some (sym same)) ∙ found

    -- the first value of a property
    module _ (func : Signature) (iso : func.iso ≡ shape_iso object.shape) where
      abbrev at_host : Host
      at_host = maker_host func.iso n

      is_host : IsHost program at_host
      is_host = maker_host_is program func.iso n object.shape object.there iso

      first_placed : (prop : PropTree) (value : Expr) → Contains props prop
          → prop.value ≡ Some value
          → GivenPlaced program at_host
          (record { name = prop.word.id; read = (expr_code tables (Some n) value).read })
      first_placed prop value has value_is =
          value_placed decls rule world ordered given n func.iso is_host (value_setting made)
          (is_marked made.wanted) value judged is_judged refl (All-nil (VarHolds answers))
          (value_rows_hold world decls given.typed.keyed given.typed.well made judged stands
          is_judged)
          (simple_inside tables (Some n) (meanings_of decls) (Some n) no_params value
          (object.ok.firsts prop value has value_is))
          (context_of (shape_iso object.shape) false (Some n))
          (record { iso = sym iso; owner = refl })
          (record {
            stands = (the.trees_stand decls rule world ordered given).props n g decl object.stands
                prop object.shape value among object.there value_is;
            noted = λ note noted no_mention.
                prop_value_noted world answers decls n g decl object.stands prop object.shape value
                among object.there value_is note noted;
          }) where
            made : ValueOf
            made = first_of world n prop value

            stands : Contains (values_from world 0 decls) made
            stands = object.values made (first_in world n props prop value has value_is)

            judged : Judged
            judged = judge world value (value_setting made) (is_marked made.wanted)

            is_judged : Judges world (value_setting made) (is_marked made.wanted) value judged
            is_judged = judges world (value_setting made) (is_marked made.wanted) value

            among : Contains (props_in decl) prop
            among = subst (λ some. Contains some prop) (sym object.props_are) has

      firsts_placed : AreGiven program at_host (first_values tables n props)
      firsts_placed one has =
          let (prop, among, inside) =
          of_flat_map (λ (prop : PropTree). prop_given tables n prop prop.value) props one has in
          by prop among prop.value refl inside where
            by : (prop : PropTree) → Contains props prop → (found : Option Expr)
                → prop.value ≡ found → Contains (prop_given tables n prop found) one
                → GivenPlaced program at_host one
            by prop among None is inside = absurd (none_in one inside)
            by prop among (Some value) is inside =
                subst (GivenPlaced program at_host)
                (only_in (record {
                  name = prop.word.id;
                  read = (expr_code tables (Some n) value).read;
                }) one inside) (first_placed prop value among is)

    -- an initialiser by its signature, where what its statements give is placed
    signed_makes : (func : Signature) (params : List ParamTree) (gives : List Given)
        → maker_at world n ≡ Some func → func.iso ≡ shape_iso object.shape
        → func.result ≡ types.Named n → Takes n params
        → AreGiven program (maker_host func.iso n) gives
        → All Here (init_signed tables n props params gives func)
        → All Made (init_signed tables n props params gives func)
    signed_makes func params gives maker iso result takes placed =
        subst (λ found. All Here (for_some found (λ (s : Shape). made s ∷ []))
        → All Made (for_some found (λ (s : Shape). made s ∷ [])))
        (sym object.there)
        (λ here. All-cons Made (made object.shape) []
        (maker_placed n object.shape object.there object.kind func params
        (first_values tables n props ++ gives) maker iso result takes
        (both_given program (maker_host func.iso n) (first_values tables n props) gives
        (firsts_placed func iso) placed)
        (All-head Here (made object.shape) [] here).made)
        (All-nil Made)) where
          made : Shape → Body
          made s = signed tables func (map (param_taken tables) params)
              (init_code func.key.at n s (first_values tables n props ++ gives))

    -- the one that the type has where it writes none
    default_makes : inits ≡ [] → All Here (default_bodies tables n props word)
        → All Made (default_bodies tables n props word)
    unfolding default_bodies
    default_makes none = by (func_at world answers word.at) refl where
      one : Signature
      one = init_of known word n (shape_iso object.shape) []

      declared : Contains (inits_of known word n (shape_iso object.shape) inits) one
      declared = subst (λ all. Contains (inits_of known word n (shape_iso object.shape) all) one)
          (sym none) (in_first one [])

      by : (found : Option Signature) → func_at world answers word.at ≡ found
          → All Here (for_some found (init_signed tables n props [] []))
          → All Made (for_some found (init_signed tables n props [] []))
      by None is here = All-nil Made
      by (Some func) is here =
          let same : func ≡ one = func_is decls rule world answers given.typed.keyed
          given.typed.declared word.at func one is
          (func_stands known rule decls n g decl one object.stands (object.signed one declared))
          refl in
          signed_makes func [] []
          (maker_found word.at func is (ap (init_key word.at) (sym none)))
          (ap (λ (f : Signature). f.iso) same) (ap (λ (f : Signature). f.result) same)
          (takes_none n) (λ given has. absurd (none_in given has)) here

    -- the one that it writes
    module _ (init : InitTree) (more : List InitTree) (inits_are : inits ≡ init ∷ more) where
      abbrev code : BlockCode
      code = block_code tables (Some n) init.body

      abbrev one : Signature
      one = init_of known (record { at = init.at; id = word.id }) n (shape_iso object.shape)
          init.params

      among : Contains inits init
      among = subst (λ all. Contains all init) (sym inits_are) (in_first init more)

      declared : Contains (inits_of known word n (shape_iso object.shape) inits) one
      declared =
          Contains-append_right
          (if length inits == 0 then init_of known word n (shape_iso object.shape) [] ∷ [] else [])
          (map (λ (other : InitTree). init_of known (record { at = other.at; id = word.id }) n
          (shape_iso object.shape) other.params) inits) one
          (in_map (λ (other : InitTree). init_of known (record { at = other.at; id = word.id }) n
          (shape_iso object.shape) other.params) inits init among)

      func_one : (func : Signature) → func_at world answers init.at ≡ Some func → func ≡ one
      func_one func found =
          func_is decls rule world answers given.typed.keyed given.typed.declared init.at func one
          found
          (func_stands known rule decls n g decl one object.stands (object.signed one declared))
          refl

      stands : Contains (bodies_from world 0 decls) (init_body n init)
      stands =
          typed_stands world decls n g decl (init_body n init) object.stands
          (object.typed init among)

      abbrev params : ℕ → Option ℕ
      params = first_place (param_names init.params)

      abbrev state : State
      state = body_state world (init_body n init)

      abbrev left : Left
      left = leave_block world init.body (in_body (Some n) true) state

      gives : (func : Signature) (found : func_at world answers init.at ≡ Some func)
          → BlockGives decls rule world ordered given n func.iso
          (maker_host_is program func.iso n object.shape object.there
          (ap (λ (f : Signature). f.iso) (func_one func found))) params (func_context func)
          (record { iso = refl; owner = ap (λ (f : Signature). f.owner) (func_one func found) })
          init.body
      gives func found =
          block_gives decls rule world ordered given n func.iso _ params (func_context func) _
          state init.body left (leaves_block world (in_body (Some n) true) state init.body)
          (params_hold world decls given.typed.keyed given.typed.well (init_body n init) stands)
          (body_rows_hold world decls given.typed.keyed given.typed.well (init_body n init) left
          stands (leaves_block world (in_body (Some n) true) state init.body))
          ((the.trees_stand decls rule world ordered given).inits n g decl object.stands init func
          (subst (λ all. Contains all init) (sym object.inits_are) among) found)
          (init_noted world answers decls n g decl object.stands init func
          (subst (λ all. Contains all init) (sym object.inits_are) among) found)
          (all_own (meanings_of decls) n props inits object.ok init more inits_are)

      found_makes : (found : Option Signature) → func_at world answers init.at ≡ found
          → All Here (for_some found (init_signed tables n props init.params code.gives))
          → All Made
          (for_some found (init_signed tables n props init.params code.gives))
      found_makes None is here = All-nil Made
      found_makes (Some func) is here =
          let same = func_one func is in
          signed_makes func init.params code.gives
          (maker_found init.at func is (ap (init_key word.at) (sym inits_are)))
          (ap (λ (f : Signature). f.iso) same) (ap (λ (f : Signature). f.result) same)
          (takes_params n init stands) (gives func is).gives here

      -- There are no bodies in its statements.
      no_inside : code.inside ≡ []
      no_inside =
          let found = func_at_key decls rule world given.typed.declared one init.at
          (func_there decls rule world given.typed.declared n g decl one object.stands
          (object.signed one declared)) refl in
          (gives found.func (found_at world answers init.at found)).inside

      init_makes : All Here (init_bodies tables n props init)
          → All Made (init_bodies tables n props init)
      unfolding init_bodies
      init_makes here =
          let first = for_some (func_at world answers init.at)
          (init_signed tables n props init.params code.gives) in
          All-append Made first code.inside
          (found_makes (func_at world answers init.at) refl
          (all_left Here first code.inside here))
          (subst (All Made) (sym no_inside) (All-nil Made))

    -- the initialisers of the type
    pub inits_make : All Here (inits_bodies tables n props word inits)
        → All (IsMakerOf object.shape) (inits_bodies tables n props word inits)
    inits_make = by inits refl where
      by : (all : List InitTree) → inits ≡ all
          → All Here (inits_bodies tables n props word all)
          → All Made (inits_bodies tables n props word all)
      by [] is = default_makes is
      by (init ∷ more) is =
          subst (λ rest. All Here (init_bodies tables n props init
          ++ flat_map (init_bodies tables n props) rest)
          → All Made (init_bodies tables n props init
          ++ flat_map (init_bodies tables n props) rest)) (sym (object.ok.single init more is))
          (λ here. All-append Made (init_bodies tables n props init) []
          (init_makes init more is (all_left Here (init_bodies tables n props init) [] here))
          (All-nil Made))

    -- There are no closures in them.
    pub inits_inner : AreOrdinary program (flat_map (init_inside tables n) inits)
    inits_inner = by inits refl where
      by : (all : List InitTree) → inits ≡ all
          → AreOrdinary program (flat_map (init_inside tables n) all)
      by [] is = All-nil (IsOrdinary program)
      by (init ∷ more) is =
          subst (λ rest. AreOrdinary program
          (init_inside tables n init ++ flat_map (init_inside tables n) rest))
          (sym (object.ok.single init more is))
          (All-append (IsOrdinary program) (init_inside tables n init) []
          (subst (AreOrdinary program) (sym (no_inside init more is))
          (All-nil (IsOrdinary program)))
          (All-nil (IsOrdinary program)))
