-- The body of a closure or of a task is an ordinary one, and so are those in it.
use Rattle.std.proofs.Common.{◌≡◌, Bool, true, true≢false, List, [], ◌∷◌, ◌++◌, map, ap, sym}
use Rattle.std.proofs.Common.{◌∙◌, subst, Contains}
use Rattle.std.proofs.lemmas.List.Elements.{All-append, All-cons, All-nil}
use Rattle.std.specs.Prelude.{All, IsOk}
use Rattle.sw_tree.specs.declared.expr.ClosureParam.{ClosureParam}
use Rattle.sw_types.specs.declared.isolation.Iso.{Iso}
use Rattle.sw_types.specs.declared.ty.Ty.{Ty}
use Rattle.sw_graph.specs.Bodies.{is_own}
use Rattle.sw_graph.specs.declared.function.RegKind.TheVariants.{Plain}
use Rattle.sw_decl_words.specs.TypeWords.{type_of}
use Rattle.sw_typing_rules.specs.Statements.{param_var, vars_rows}
use Rattle.sw_isolation_rules.specs.declared.note.Capture.{Capture}
use Rattle.sw_lower_code.specs.Whole.{Body, lower_body}
use Rattle.sw_lower_code.specs.declared.taken.Taken.{Taken}
use Rattle.sw_lower_rules.specs.Carriers.{ClosureCode}
use Rattle.sw_lower_rules.specs.Expressions.{capture_taken, closure_body, closure_param_taken}
use Rattle.sw_lower_rules.specs.Tables.{or_void}
use Rattle.sw_typing_facts.specs.Rows.{RowsHold}
use Rattle.sw_lower_formed_facts.specs.Ground.{Ground}
use Rattle.sw_lower_formed_facts.specs.Taking.{TakenOk}
use Rattle.sw_lower_formed_facts.proofs.Bodies.Captures.{var_typed}
use Rattle.sw_typing_facts.proofs.Lists.Listed.{in_first}
use Rattle.sw_lower_placed_facts.specs.Allowed.{IsNoted}
use Rattle.sw_lower_placed_facts.specs.Claims.{AreOrdinary, BlockPlaced, IsOrdinary}
use Rattle.sw_lower_placed_facts.specs.Placing.{IsMe}
use Rattle.sw_lower_placed_facts.specs.Settled.{IsSettled}
use Rattle.sw_lower_placed_facts.specs.Hosts.{IsHost, Program, Host}
use Rattle.sw_lower_placed_facts.proofs.Bodies.BodyCode.{body_code_placed}
use Rattle.sw_lower_placed_facts.proofs.Bodies.Entering.{SelfFirst, TakesWell}
use Rattle.sw_lower_placed_facts.proofs.Bodies.Ordinary.{ordinary_with}
use Rattle.sw_lower_placed_facts.proofs.Uses.Captures.{CapturesOk}
use Rattle.sw_lower_placed_facts.proofs.Uses.Closures.{body_begins, own_me}

-- where the body of a closure or of a task stands that is isolated so
abbrev pub inner_host : Host → Iso → Host
inner_host host one = record { iso = one; owner = host.owner; has_self = is_own one }

-- It stands in an actor where what is around it does.
pub inner_is_host : (program : Program) (host : Host) (one : Iso) → IsHost program host
    → (is_own one ≡ true → is_own host.iso ≡ true) → IsHost program (inner_host host one)
inner_is_host program host one is_host own =
    record { own = λ has. has; actor = λ is. is_host.actor (own is) }

module _ (program : Program) (host : Host) (settled : IsSettled program)
    (is_host : IsHost program host)
    (ground : Ground program.tables program.numbers program.functions) (closure : ClosureCode)
    (result : Ty) (one : Iso) (is_async : Bool)
    (own : is_own one ≡ true → is_own host.iso ≡ true)
    (noted : IsNoted program closure.at one is_async)
    (has : Contains program.inside (closure_body program.tables host.owner closure result)) where
  abbrev inner : Host
  inner = inner_host host one

  abbrev body : Body
  body = closure_body program.tables host.owner closure result

  abbrev captures : List Capture
  captures = program.tables.isolation.captures_of closure.at

  abbrev params_taken : List ClosureParam → List Taken
  params_taken params = map (closure_param_taken program.tables) params

  abbrev captures_taken : List Capture → List Taken
  captures_taken these = map (capture_taken program.tables host.owner) these

  -- What it takes for its parameters has their types.
  params_typed : (params : List ClosureParam)
      → RowsHold program.tables.answers (vars_rows (map (param_var program.tables.world) params))
      → All (TakenOk program.tables host.owner) (params_taken params)
  params_typed [] hold = All-nil (TakenOk program.tables host.owner)
  params_typed (param ∷ params) hold =
      let ty = type_of program.tables.world.known.top param.ty in
      All-cons (TakenOk program.tables host.owner) (closure_param_taken program.tables param)
      (params_taken params)
      (record {
        ty = ty;
        typed = var_typed program.tables program.numbers program.functions ground host.owner
            param.name.at ty hold.0;
        kind = ap (λ found. Plain (or_void found)) hold.0;
        declared = ground.typed param.name.at ty hold.0;
      })
      (params_typed params hold.1)

  -- Where it is isolated to `self`, it takes that first.
  takes_self : CapturesOk program host settled is_host ground closure.at
      → is_own one ≡ true → SelfFirst program inner body.takes
  unfolding closure_body
  takes_self ok is =
      let me = own_me program host settled is_host ground (own is) in
      let begins = body_begins program host settled is_host ground closure result one is_async me.0
      has noted is me.1 in
      let mine : IsMe program host begins.first.variable =
      subst (IsMe program host) (sym begins.is) me.1 in
      record {
        first = capture_taken program.tables host.owner begins.first;
        more = captures_taken begins.more ++ params_taken closure.params;
        are = ap (λ these. captures_taken these ++ params_taken closure.params) begins.are;
        me = mine;
        plain = ok.first begins.first
            (subst (λ these. Contains these begins.first) (sym begins.are)
            (in_first begins.first begins.more)) (own is) mine;
      }

  takes_well : CapturesOk program host settled is_host ground closure.at
      → RowsHold program.tables.answers
      (vars_rows (map (param_var program.tables.world) closure.params))
      → TakesWell program inner body.takes
  unfolding closure_body
  takes_well ok params = record {
    typed = All-append (TakenOk program.tables host.owner) (captures_taken captures)
        (params_taken closure.params) ok.taken (params_typed closure.params params);
    first = takes_self ok;
    none = λ is without. absurd (true≢false (sym is ∙ without));
  }

  -- Its code is placed where its block is.
  pub closure_ordinary : CapturesOk program host settled is_host ground closure.at
      → RowsHold program.tables.answers
      (vars_rows (map (param_var program.tables.world) closure.params))
      → IsOk (lower_body program.numbers body) → BlockPlaced program inner closure.body
      → AreOrdinary program (body ∷ closure.body.inside)
  unfolding closure_body
  closure_ordinary ok params made block =
      let got = ordinary_with program inner body (AreOrdinary program closure.body.inside)
      (inner_is_host program host one is_host own) (sym noted.iso_is)
      (λ is. sym (ap is_own noted.iso_is) ∙ is) (takes_well ok params) made
      (body_code_placed program inner result closure.body block) in
      All-cons (IsOrdinary program) body closure.body.inside got.0 got.1
