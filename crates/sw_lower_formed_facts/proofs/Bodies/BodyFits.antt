-- A body whose code is safe has a function that fits into the graph.
use Rattle.std.proofs.Common.{◌≡◌, ℕ, ◌+◌, ◌<◌, ◌≤◌, inl, List, [], ◌∷◌, length, ap, sym, ◌∙◌}
use Rattle.std.proofs.Common.{subst, refl, arith, append-nil, length-append, Bool, true, false}
use Rattle.std.proofs.Common.{Option, Some, suc, zero}
use Rattle.std.proofs.lemmas.List.Elements.{All-head, All-nil, All-push, All-tail}
use Rattle.std.specs.Prelude.{All, Err, IsOk, Ok, Result, ◌||◌, if◌then◌else◌, map, nat_lt}
use Rattle.sw_types.specs.declared.ty.Ty.{Ty}
use Rattle.sw_graph.specs.WellFormed.{FunctionFits, type_in}
use Rattle.sw_graph.specs.declared.function.Function.{Function}
use Rattle.sw_graph.specs.declared.function.TheConstants.{MAX_POINTS}
use Rattle.sw_lower_builder.specs.Blocks.{new_block}
use Rattle.sw_lower_builder.specs.Unfinished.{finished}
use Rattle.sw_lower_plans.specs.Plan.{Numbers, Place}
use Rattle.sw_lower_plans.specs.Run.{Makes, Making, at_start, instrs_at, place_of, points}
use Rattle.sw_lower_plans.specs.declared.bound.Bound.{Bound}
use Rattle.sw_lower_plans.specs.declared.fault.CodeFault.{CodeFault}
use Rattle.sw_lower_plans.specs.declared.fault.CodeFault.TheVariants.{Blocks, Memory, Missing, Registers}
use Rattle.sw_lower_code.specs.Code.{Code, all, andthen, bind, reg}
use Rattle.sw_lower_code.specs.Whole.{Body, code_of, ended_by, enter, function_of, lower_body}
use Rattle.sw_lower_code.specs.Whole.{piece_of, sending_of}
use Rattle.sw_lower_code.specs.declared.fault.BodyFault.TheVariants as faults
use Rattle.sw_lower_code.specs.declared.taken.Taken.{Taken}
use Rattle.sw_lower_rules.specs.Bodies.{global_kind}
use Rattle.sw_lower_rules.specs.Tables.{Tables}
use Rattle.sw_lower_formed_facts.specs.Forms.{Wherever}
use Rattle.sw_lower_formed_facts.specs.Ground.{IsDeclaredIn, IsOfGraph, IsSeen, Knows, kind_by}
use Rattle.sw_lower_formed_facts.specs.Safe.{IsIn, MadeReg, Named, Position, SafeAt, IsAsPlanned, here}
use Rattle.sw_lower_formed_facts.specs.Safe.{moved}
use Rattle.sw_lower_formed_facts.specs.Taking.{TakenOk}
use Rattle.sw_lower_formed_facts.specs.Whole.{Whole, taken, whole_of}
use Rattle.sw_lower_formed_facts.proofs.Functions.FunctionFits.{function_fits}
use Rattle.sw_lower_formed_facts.proofs.Positions.Following.{knows_still, seen_stay}
use Rattle.sw_lower_formed_facts.proofs.Positions.Steps.{safe_bind, safe_done}
use Rattle.sw_lower_formed_facts.proofs.Positions.Then.{made_by, safe_then, safe_weaker}
use Rattle.sw_lower_formed_facts.proofs.Positions.Using.{reg_in}

-- Code makes as many registers as its plan says.
safe_count : {A : Type 0} (w : Whole) (p : Position) (code : Code A)
    (Post : A → Position → Type 0) → SafeAt w p code Post
    → SafeAt w p code (λ a q. Post a q
    × (length q.making.made.regs
    ≡ length p.making.made.regs + length (code.plan (place_of p.making)).regs))
safe_count w p code Post safe stands value t ran fits inside =
    let got = safe stands value t ran fits inside in
    let m = made_by code p stands value t ran in (
      got.0,
      (
        got.1,
        omega (
          arith,
          ap length m.1.regs,
          length-append p.making.made.regs (code.plan (place_of p.making)).regs,
        ),
      ),
    )

-- what is taken is one register
enter_makes : (one : Taken) (place : Place) → length ((enter one).plan place).regs ≡ 1
unfolding andthen bind reg
enter_makes one place = refl

-- the type that is named by a kind
type_of_kind : (boxed : Bool) (ty : Ty) → type_in (kind_by boxed ty) ≡ ty
type_of_kind true ty = refl
type_of_kind false ty = refl

-- the variable of what is taken
abbrev entered : Taken → ℕ → Bound
entered one number = record { key = one.key; reg = number; boxed = one.boxed }

module _ (tables : Tables) (number : Numbers) (functions : List Function) (owner : Option ℕ)
    (w : Whole) (of : IsOfGraph tables functions w) where
  -- what is taken is a variable that is seen
  enter_in : (p : Position) (one : Taken) → TakenOk tables owner one
      → Knows tables owner number w p → length p.making.made.regs < w.takes
      → SafeAt w p (enter one) (λ _. Knows tables owner number w)
  enter_in p one ok knows below =
      safe_then w p (reg one.kind) (λ r. bind (entered one r)) (MadeReg w p one.kind)
      (λ _. Knows tables owner number w)
      (reg_in tables functions w of p one.kind
      (subst (IsDeclaredIn tables) (sym (ap type_in ok.kind ∙ type_of_kind one.boxed ok.ty))
      ok.declared))
      (λ r q inside made.
      safe_weaker w q (bind (entered one r)) (λ _. Named w q (entered one r))
      (λ _. Knows tables owner number w) (safe_bind w q (entered one r))
      (λ _ s in_s named. knows_more r q s made named)) where
        knows_more : (r : ℕ) (q s : Position) → MadeReg w p one.kind r q
            → Named w q (entered one r) s → Knows tables owner number w s
        knows_more r q s made named =
            let before = knows_still tables owner number w p q made.keeps knows in
            record {
              vars = subst (All (IsSeen tables owner w s)) (sym named.vars)
                  (All-push (IsSeen tables owner w s) q.making.vars (entered one r)
                  (seen_stay tables owner w q s q.making.vars named.follows before.vars)
                  (record {
                    ty = ok.ty;
                    typed = ok.typed;
                    kind = made.kind ∙ ap Some ok.kind;
                    set = inl (taken (here s) r (subst (λ n. n < w.takes) (sym made.number) below));
                    made = omega (arith, made.below, named.follows.regs);
                  }));
              numbers = named.follows.numbers ∙ before.numbers;
            }

  -- The first registers are what the function takes.
  enters_in : (takes : List Taken) → All (TakenOk tables owner) takes → (p : Position)
      → Knows tables owner number w p → length p.making.made.regs + length takes ≤ w.takes
      → SafeAt w p (all enter takes) (λ _. Knows tables owner number w)
  unfolding all
  enters_in [] oks p knows within = safe_done w p tt (λ _. Knows tables owner number w) knows
  enters_in (one ∷ takes) oks p knows within =
      safe_then w p (enter one) (λ _. all enter takes)
      (λ _ q. Knows tables owner number w q
      × (length q.making.made.regs
      ≡ length p.making.made.regs + length ((enter one).plan (place_of p.making)).regs))
      (λ _. Knows tables owner number w)
      (safe_count w p (enter one) (λ _. Knows tables owner number w)
      (enter_in p one (All-head (TakenOk tables owner) one takes oks) knows
      (omega (arith, within))))
      (λ _ q inside mid.
      enters_in takes (All-tail (TakenOk tables owner) one takes oks) q mid.0
      (omega (arith, mid.1, enter_makes one (place_of p.making), within)))

-- where the code of a body begins
abbrev first_position : Numbers → Body → Position
first_position number body = record {
  making = at_start number body.key body.iso body.is_async;
  made = [];
  writes = [];
}

first_stands : (number : Numbers) (body : Body) → IsAsPlanned (first_position number body)
unfolding instrs_at
first_stands number body = record {
  going = omega arith;
  fits = refl;
  blocks = refl;
  instrs = none;
} where
  none : (n : ℕ) → instrs_at n (new_block ∷ []) ≡ []
  none zero = refl
  none (suc n) = refl

-- Where the run of a body's code ends, no instruction was dropped.
body_ends : (body : Body) (result : Result (Unit {0} × Making) CodeFault)
    → IsOk (ended_by body result)
    → (t : Making) × ((result ≡ Ok (tt, t)) × (t.over ≡ false))
body_ends body (Err Registers) ok = cc
body_ends body (Err Blocks) ok = cc
body_ends body (Err Missing) ok = cc
body_ends body (Err Memory) ok = cc
body_ends body (Ok at) ok = (at.1, (refl, by at.1.over refl ok)) where
  by : (over : Bool) → at.1.over ≡ over
      → IsOk (if over || nat_lt MAX_POINTS (points at.1)
      then Err (faults.TooManyPoints body.key)
      else Ok (finished at.1.made (length body.takes) (sending_of body) body.sends body.result))
      → at.1.over ≡ false
  by true is holds = cc
  by false is holds = is

module _ (tables : Tables) (number : Numbers) (functions : List Function) (owner : Option ℕ) where
  -- a function of the graph of these tables
  abbrev pub whole_in : Body → Whole
  whole_in body =
      whole_of tables.world.shapes (map global_kind tables.world.globals) functions number body

  -- The function of a body is one of the graph of its tables.
  pub is_of : (body : Body) → IsOfGraph tables functions (whole_in body)
  is_of body = record { shapes = refl; globals = refl; functions_are = refl }

  -- The code of a body is safe in its own function.
  abbrev pub SafeIn : Body → Type 0 → Type 0
  SafeIn body Post = (p : Position) → Knows tables owner number (whole_in body) p
      → SafeAt (whole_in body) p body.code (λ _ _. Post)

  body_safe : (body : Body) → All (TakenOk tables owner) body.takes → (Post : Type 0)
      → SafeIn body Post
      → SafeAt (whole_in body) (first_position number body) (code_of body) (λ _ _. Post)
  unfolding code_of
  body_safe body takes Post safe =
      safe_then (whole_in body) (first_position number body) (all enter body.takes)
      (λ _. body.code) (λ _. Knows tables owner number (whole_in body)) (λ _ _. Post)
      (enters_in tables number functions owner (whole_in body) (is_of body) body.takes takes
      (first_position number body) (record {
        vars = All-nil (IsSeen tables owner (whole_in body) (first_position number body));
        numbers = refl;
      }) (omega arith))
      (λ _ q inside knows. safe q knows)

  -- The function of a body whose code is safe fits, and what the run of the code shows holds.
  pub body_fits_at : (body : Body) → All (TakenOk tables owner) body.takes
      → IsDeclaredIn tables body.result → (Post : Type 0) → SafeIn body Post
      → IsOk (lower_body number body)
      → FunctionFits tables.world.shapes (map global_kind tables.world.globals) functions
      (function_of number body) × Post
  unfolding lower_body
  body_fits_at body takes declared Post safe ok =
      let ran = body_ends body ((code_of body).run
      (at_start number body.key body.iso body.is_async)) ok in
      let p = first_position number body in
      let stands = first_stands number body in
      let m = made_by (code_of body) p stands tt ran.0 ran.1.0 in
      let got =
      body_safe body takes Post safe stands tt ran.0 ran.1.0 ran.1.1 (whole ran.0 m.1) in (
        function_fits tables.world.shapes (map global_kind tables.world.globals) functions number
            body got.0 declared,
        got.1,
      ) where
        whole : (t : Making)
            → Makes (piece_of number body) (at_start number body.key body.iso body.is_async) t
            → IsIn (whole_in body) (moved (first_position number body) (piece_of number body) t)
        whole t made = record {
          regs = ([], sym made.regs ∙ sym (append-nil t.made.regs));
          made = ([], sym (append-nil (piece_of number body).made));
          writes = ([], sym (append-nil (piece_of number body).writes));
        }

  -- the same where the code is safe in every function
  pub body_fits : (body : Body) → All (TakenOk tables owner) body.takes
      → IsDeclaredIn tables body.result → (Post : Type 0)
      → Wherever tables number functions owner
      (λ w p. w.result ≡ body.result → SafeAt w p body.code (λ _ _. Post))
      → IsOk (lower_body number body)
      → FunctionFits tables.world.shapes (map global_kind tables.world.globals) functions
      (function_of number body) × Post
  body_fits body takes declared Post safe ok =
      body_fits_at body takes declared Post
      (λ p knows. safe (whole_in body) (is_of body) p knows refl) ok
