-- What a closure or a task captures: each variable with its box or by its value, `self` first where
-- it is isolated to that, and what may cross where it may be sent.
use Rattle.std.proofs.Common.{◌≡◌, ℕ, ◌+◌, ◌<◌, suc, zero, Bool, true, false, List, [], ◌∷◌}
use Rattle.std.proofs.Common.{Option, Some, None, refl, ap, sym, ◌∙◌, subst, inl, inr, arith, map}
use Rattle.std.proofs.Common.{length, true≢false}
use Rattle.std.proofs.lemmas.Bool.{false≢true}
use Rattle.std.proofs.lemmas.List.Elements.{All-cons, All-nil}
use Rattle.std.proofs.lemmas.Option.{slice_get_within}
use Rattle.std.specs.Option.{option_map_or}
use Rattle.std.specs.Prelude.{All, Contains, if◌then◌else◌, slice_get, ◌==◌}
use Rattle.sw_list.proofs.Members.{in_flat_map, none_in}
use Rattle.sw_types.specs.Sendable.{is_sendable}
use Rattle.sw_types.specs.declared.shape.Shape.{Shape}
use Rattle.sw_types.specs.declared.ty.Ty.{Ty}
use Rattle.sw_types.specs.declared.ty.Ty.TheVariants as types
use Rattle.sw_graph.specs.Bodies.{is_own}
use Rattle.sw_graph.specs.declared.function.RegKind.TheVariants.{Plain}
use Rattle.sw_graph.specs.declared.instr.Instr.{Instr}
use Rattle.sw_graph.specs.declared.instr.Instr.TheVariants.{LoadBox}
use Rattle.sw_graph.specs.declared.instr.Operand.{Operand}
use Rattle.sw_decl_words.specs.Words.{or_else}
use Rattle.sw_decl_words.specs.declared.placed.Placed.{Placed}
use Rattle.sw_typing_rules.specs.Statements.{marked_type}
use Rattle.sw_typing_rules.proofs.Steps.{not_false}
use Rattle.sw_isolation_rules.specs.Lists.{captures_in}
use Rattle.sw_isolation_rules.specs.Noting.{placed}
use Rattle.sw_isolation_rules.specs.Races.{capture_races, is_unsent, races_if, sent_races}
use Rattle.sw_isolation_rules.specs.Races.{shape_from, variable_type}
use Rattle.sw_isolation_rules.specs.declared.note.Capture.{Capture}
use Rattle.sw_lower_plans.specs.Plan.{var_in}
use Rattle.sw_lower_plans.specs.Run.{Making}
use Rattle.sw_lower_plans.specs.declared.bound.Bound.{Bound}
use Rattle.sw_lower_code.specs.Code.{done, emit, reg, ◌>>=◌, ◌>>◌}
use Rattle.sw_lower_rules.specs.Expressions.{capture_taken, captured, captured_type}
use Rattle.sw_lower_rules.specs.Tables.{Isolation, Tables, or_void}
use Rattle.sw_lower_rules.specs.Uses.{capture, capture_bound, listed_value, operand, unknown}
use Rattle.sw_lower_formed_facts.specs.Ground.{Ground, HasVarType, kind_by}
use Rattle.sw_lower_formed_facts.specs.Taking.{TakenOk}
use Rattle.sw_lower_formed_facts.proofs.Bodies.Captures.{var_declared, var_type_is}
use Rattle.sw_lower_formed_facts.proofs.Expressions.Variables.{self_is}
use Rattle.sw_typing_facts.proofs.Lists.Listed.{in_first, in_rest}
use Rattle.sw_lower_total_facts.proofs.Closures.Kept.{of_kept, same_key}
use Rattle.sw_lower_placed_facts.specs.Allowed.{RegisterHasType, SharesNone}
use Rattle.sw_lower_placed_facts.specs.Placing.{IsKnown, IsMe, PlacesAt, Stood}
use Rattle.sw_lower_placed_facts.specs.Settled.{BeginsWith, IsSettled}
use Rattle.sw_lower_placed_facts.specs.Hosts.{FirstIsOwn, IsOwnSelf, IsHost, Program, Host}
use Rattle.sw_lower_placed_facts.proofs.Placing.Asking.{places_typed_then, places_unknown}
use Rattle.sw_lower_placed_facts.proofs.Placing.Asking.{places_var_then}
use Rattle.sw_lower_placed_facts.proofs.Placing.Giving.{allowed_new}
use Rattle.sw_lower_placed_facts.proofs.Placing.Joining.{EachIs, places_each_with, places_in}
use Rattle.sw_lower_placed_facts.proofs.Placing.Joining.{places_done, places_then}
use Rattle.sw_lower_placed_facts.proofs.Placing.Later.{AreBelow, IsLater, reg_later}
use Rattle.sw_lower_placed_facts.proofs.Placing.Steps.{IsNew, IsStill, places_emit, places_reg}

-- what a closure takes for a variable that has a type
captured_type_is : (tables : Tables) (owner : Option ℕ) (key : ℕ) (ty : Ty)
    → HasVarType tables owner key ty → captured_type tables owner key ≡ ty
captured_type_is tables owner key ty (inl me) =
    ap (λ mine. if mine then option_map_or types.Named owner types.Unit
    else or_void (tables.answers.type_at key)) me.0 ∙ sym me.1
captured_type_is tables owner key ty (inr has) =
    ap (λ mine. if mine then option_map_or types.Named owner types.Unit
    else or_void (tables.answers.type_at key)) has.0 ∙ ap or_void has.1

-- A list with nothing in it is empty.
nothing_in : {X : Type 0} (xs : List X) → ((x : X) → Contains xs x → ⊥) → xs ≡ []
nothing_in [] none = refl
nothing_in (x ∷ xs) none = absurd (none x (in_first x xs))

module _ (program : Program) (host : Host) (settled : IsSettled program)
    (is_host : IsHost program host)
    (ground : Ground program.tables program.numbers program.functions) where
  -- A captured variable: its register has the kind that is captured, and `self` is the body's own.
  pub record IsCapture (one : Capture) (x : Operand) (t : Making) : Type 0 where
    pub ty : Ty
    pub typed : HasVarType program.tables host.owner one.variable ty
    pub kind : slice_get t.made.regs x.reg ≡ Some (kind_by one.by_ref ty)
    pub own : IsMe program host one.variable → IsOwnSelf host x
    pub value : is_own host.iso ≡ true → IsMe program host one.variable → one.by_ref ≡ false

  capture_stays : (one : Capture) (x : Operand) (s u : Making) → IsLater s u → IsCapture one x s
      → IsCapture one x u
  capture_stays one x s u later is = record {
    ty = is.ty;
    typed = is.typed;
    kind = reg_later s u x.reg (kind_by one.by_ref is.ty) later is.kind;
    own = is.own;
    value = is.value;
  }

  -- what is in a register or a box as it is captured
  as_it_is : (one : Capture) (bound : Bound) (s : Making) → Stood program host s
      → var_in one.variable s.vars ≡ Some bound → bound.key ≡ one.variable
      → IsKnown program host s.made.regs bound → bound.boxed ≡ one.by_ref
      → PlacesAt program host s (done (operand bound.reg one.first)) (IsCapture one)
  as_it_is one bound s stood found key known same =
      places_done s (operand bound.reg one.first) (IsCapture one) (record {
        ty = known.ty;
        typed = subst (λ k. HasVarType program.tables host.owner k known.ty) key known.typed;
        kind = known.kind ∙ ap (λ boxed. Some (kind_by boxed known.ty)) same;
        own = λ me. record {
          has = λ own. (stood.me one.variable bound own me found).has;
          first = λ own. (stood.me one.variable bound own me found).reg;
        };
        value = λ own me. sym same ∙ (stood.me one.variable bound own me found).plain;
      })

  -- the value in a box
  listed_placed : (at : ℕ) (one : Capture) (bound : Bound) (s : Making) → Stood program host s
      → var_in one.variable s.vars ≡ Some bound → bound.key ≡ one.variable
      → IsKnown program host s.made.regs bound → bound.boxed ≡ true → one.by_ref ≡ false
      → PlacesAt program host s (listed_value program.tables at one bound) (IsCapture one)
  listed_placed at one bound s stood found key known boxed by_ref =
      places_typed_then program.tables s bound.key
      (λ ty. reg (Plain ty)
      >>= λ r. emit (LoadBox at r (operand bound.reg one.first))
      >> done (operand r one.first))
      (IsCapture one) (λ ty is. loaded ty is) where
        load : ℕ → Instr
        load r = LoadBox at r (operand bound.reg one.first)

        typed : HasVarType program.tables host.owner one.variable known.ty
        typed = subst (λ k. HasVarType program.tables host.owner k known.ty) key known.typed

        not_boxed : is_own host.iso ≡ true → IsMe program host one.variable → ⊥
        not_boxed own me =
            true≢false (sym boxed ∙ (stood.me one.variable bound own me found).plain)

        loaded : (ty : Ty) → program.tables.answers.type_at bound.key ≡ Some ty
            → PlacesAt program host s (reg (Plain ty)
            >>= λ r. emit (load r) >> done (operand r one.first)) (IsCapture one)
        loaded ty is =
            let same = var_type_is program.tables program.numbers program.functions ground
            host.owner bound.key known.ty ty known.typed is in
            places_then s (reg (Plain ty)) (λ r. emit (load r) >> done (operand r one.first))
            (λ r t. IsNew host s (Plain ty) r t) (IsCapture one) (places_reg s (Plain ty))
            (λ r u later new.
            places_then u (emit (load r)) (λ _. done (operand r one.first))
            (λ value t. IsStill u t) (IsCapture one)
            (places_emit u (load r) (allowed_new s u (Plain ty) r (load r) new refl tt tt))
            (λ _ v after still.
            places_done v (operand r one.first) (IsCapture one) (record {
              ty = known.ty;
              typed = typed;
              kind = reg_later u v r (Plain ty) after new.kind_is
                  ∙ ap (λ t. Some (Plain t)) (sym same)
                  ∙ ap (λ by_value. Some (kind_by by_value known.ty)) (sym by_ref);
              own = λ me. record {
                has = λ own. absurd (not_boxed own me);
                first = λ own. absurd (not_boxed own me);
              };
              value = λ own me. by_ref;
            })))

  -- a variable that is captured
  capture_bound_placed : (at : ℕ) (one : Capture) (bound : Bound) (s : Making)
      → Stood program host s → var_in one.variable s.vars ≡ Some bound
      → bound.key ≡ one.variable → IsKnown program host s.made.regs bound
      → PlacesAt program host s (capture_bound program.tables at one bound) (IsCapture one)
  unfolding capture_bound
  capture_bound_placed at one bound s stood found key known =
      by one.by_ref bound.boxed refl refl where
        by : (by_ref boxed : Bool) → one.by_ref ≡ by_ref → bound.boxed ≡ boxed
            → PlacesAt program host s (if by_ref
            then (if boxed then done (operand bound.reg one.first) else unknown)
            else (if boxed then listed_value program.tables at one bound
            else done (operand bound.reg one.first))) (IsCapture one)
        by true true by_ref boxed =
            as_it_is one bound s stood found key known (boxed ∙ sym by_ref)
        by true false by_ref boxed = places_unknown s (IsCapture one)
        by false true by_ref boxed = listed_placed at one bound s stood found key known boxed by_ref
        by false false by_ref boxed =
            as_it_is one bound s stood found key known (boxed ∙ sym by_ref)

  capture_placed : (at : ℕ) (one : Capture) (s : Making)
      → PlacesAt program host s (capture program.tables at one) (IsCapture one)
  unfolding capture
  capture_placed at one s =
      places_in s (capture program.tables at one) (IsCapture one) (λ stood.
      places_var_then s one.variable (capture_bound program.tables at one) (IsCapture one)
      (λ bound found key known. capture_bound_placed at one bound s stood found key known))

  -- an operand for each capture, in order
  abbrev pub AreCaptures : List Capture → List Operand → Making → Type 0
  AreCaptures captures xs t = EachIs IsCapture captures xs t

  -- the captures of a closure
  pub captured_placed : (at closure : ℕ) (s : Making)
      → PlacesAt program host s (captured program.tables host.owner at closure)
      (AreCaptures (program.tables.isolation.captures_of closure))
  captured_placed at closure s =
      places_each_with IsCapture capture_stays (capture program.tables at)
      (program.tables.isolation.captures_of closure) (λ one has u. capture_placed at one u) s

  pub captures_stay : (captures : List Capture) (xs : List Operand) (s u : Making) → IsLater s u
      → AreCaptures captures xs s → AreCaptures captures xs u
  captures_stay [] [] s u later are = tt
  captures_stay [] (x ∷ xs) s u later are = absurd are
  captures_stay (one ∷ more) [] s u later are = absurd are
  captures_stay (one ∷ more) (x ∷ xs) s u later are =
      (capture_stays one x s u later are.0, captures_stay more xs s u later are.1)

  -- They are in registers that were made.
  pub captures_below : (captures : List Capture) (xs : List Operand) (t : Making)
      → AreCaptures captures xs t → AreBelow t xs
  captures_below [] [] t are = All-nil (λ (x : Operand). x.reg < length t.made.regs)
  captures_below [] (x ∷ xs) t are = absurd are
  captures_below (one ∷ more) [] t are = absurd are
  captures_below (one ∷ more) (x ∷ xs) t are =
      All-cons (λ (x : Operand). x.reg < length t.made.regs) x xs
      (slice_get_within t.made.regs x.reg (kind_by one.by_ref are.0.ty) are.0.kind)
      (captures_below more xs t are.1)

  -- What begins with `self` has the body's own first.
  pub captures_own : (captures : List Capture) (xs : List Operand) (t : Making) (me : ℕ)
      → AreCaptures captures xs t → IsMe program host me → BeginsWith captures me
      → FirstIsOwn host xs
  captures_own captures xs t me are mine begins =
      by xs (subst (λ list. AreCaptures list xs t) begins.are are) where
        by : (xs : List Operand) → AreCaptures (begins.first ∷ begins.more) xs t
            → FirstIsOwn host xs
        by [] are = absurd are
        by (x ∷ xs) are = are.0.own (subst (IsMe program host) (sym begins.is) mine)

  -- the capture that an operand is of
  captured_by : (captures : List Capture) (xs : List Operand) (t : Making) (x : Operand)
      → AreCaptures captures xs t → Contains xs x
      → (one : Capture) × Contains captures one × IsCapture one x t
  captured_by [] [] t x are has = absurd (none_in x has)
  captured_by [] (y ∷ xs) t x are has = absurd are
  captured_by (one ∷ more) [] t x are has = absurd are
  captured_by (one ∷ more) (y ∷ xs) t x are (zero, below, is) =
      (one, in_first one more, subst (λ z. IsCapture one z t) is are.0)
  captured_by (one ∷ more) (y ∷ xs) t x are (suc k, below, is) =
      let rest = captured_by more xs t x are.1 (k, omega (arith, below), is) in
      (rest.0, in_rest one more rest.0 rest.1, rest.2)

  -- What a closure takes has the types of its variables; and `self`, where the body has its own,
  -- goes by its value.
  pub record CapturesOk (closure : ℕ) : Type 0 where
    pub taken : All (TakenOk program.tables host.owner)
        (map (capture_taken program.tables host.owner)
        (program.tables.isolation.captures_of closure))
    pub first : (one : Capture) → Contains (program.tables.isolation.captures_of closure) one
        → is_own host.iso ≡ true → IsMe program host one.variable → one.by_ref ≡ false

  capture_taken_ok : (one : Capture) (x : Operand) (t : Making) → IsCapture one x t
      → TakenOk program.tables host.owner (capture_taken program.tables host.owner one)
  capture_taken_ok one x t is = record {
    ty = is.ty;
    typed = is.typed;
    kind = ap (kind_by one.by_ref)
        (captured_type_is program.tables host.owner one.variable is.ty is.typed);
    declared = var_declared program.tables program.numbers program.functions ground host.owner
        one.variable is.ty is.typed;
  }

  captures_taken : (captures : List Capture) (xs : List Operand) (t : Making)
      → AreCaptures captures xs t → All (TakenOk program.tables host.owner)
      (map (capture_taken program.tables host.owner) captures)
  captures_taken [] [] t are = All-nil (TakenOk program.tables host.owner)
  captures_taken [] (x ∷ xs) t are = absurd are
  captures_taken (one ∷ more) [] t are = absurd are
  captures_taken (one ∷ more) (x ∷ xs) t are =
      All-cons (TakenOk program.tables host.owner)
      (capture_taken program.tables host.owner one)
      (map (capture_taken program.tables host.owner) more) (capture_taken_ok one x t are.0)
      (captures_taken more xs t are.1)

  captures_first : (captures : List Capture) (xs : List Operand) (t : Making)
      → AreCaptures captures xs t → (one : Capture) → Contains captures one
      → is_own host.iso ≡ true → IsMe program host one.variable → one.by_ref ≡ false
  captures_first [] xs t are one has own me = absurd (none_in one has)
  captures_first (other ∷ more) [] t are one has own me = absurd are
  captures_first (other ∷ more) (x ∷ xs) t are one (zero, below, is) own me =
      sym (ap (λ (c : Capture). c.by_ref) is)
      ∙ are.0.value own (subst (λ (c : Capture). IsMe program host c.variable) (sym is) me)
  captures_first (other ∷ more) (x ∷ xs) t are one (suc k, below, is) own me =
      captures_first more xs t are.1 one (k, omega (arith, below), is) own me

  pub captures_ok : (closure : ℕ) (xs : List Operand) (t : Making)
      → AreCaptures (program.tables.isolation.captures_of closure) xs t → CapturesOk closure
  captures_ok closure xs t are = record {
    taken = captures_taken (program.tables.isolation.captures_of closure) xs t are;
    first = captures_first (program.tables.isolation.captures_of closure) xs t are;
  }

  -- Of the first type with a word, the type is found by the word.
  shape_found : (n k : ℕ) (shapes : List Shape) (shape : Shape) → slice_get shapes k ≡ Some shape
      → ((j : ℕ) (other : Shape) → slice_get shapes j ≡ Some other → other.at ≡ shape.at → j ≡ k)
      → shape_from n shapes shape.at ≡ Some (types.Named (n + k))
  shape_found n k [] shape is only = cc
  shape_found n zero (one ∷ shapes) shape is only =
      ap (λ test. or_else (if test then Some (types.Named n) else None)
      (shape_from (n + 1) shapes shape.at))
      (same_key one.at shape.at (ap (λ (s : Shape). s.at) (some is)))
      ∙ ap (λ m. Some (types.Named m)) (plus_zero n) where
        some : Some one ≡ Some shape → one ≡ shape
        some found = cc

        plus_zero : (m : ℕ) → m ≡ m + zero
        plus_zero m = omega arith
  shape_found n (suc k) (one ∷ shapes) shape is only =
      ap (λ test. or_else (if test then Some (types.Named n) else None)
      (shape_from (n + 1) shapes shape.at)) (differ (one.at == shape.at) refl)
      ∙ shape_found (n + 1) k shapes shape is
      (λ j other found same. less j (only (suc j) other found same))
      ∙ ap (λ m. Some (types.Named m)) (shift n k) where
        less : (j : ℕ) → suc j ≡ suc k → j ≡ k
        less j same = omega (arith, same)

        shift : (m l : ℕ) → (m + 1) + l ≡ m + suc l
        shift m l = omega arith

        no_zero : zero ≡ suc k → ⊥
        no_zero same = omega (arith, same)

        differ : (test : Bool) → (one.at == shape.at) ≡ test → test ≡ false
        differ true is = absurd (no_zero (only zero one refl (grind (arith, is))))
        differ false is = refl

  -- The type of a variable is found by its key.
  variable_type_is : (key : ℕ) (ty : Ty) → HasVarType program.tables host.owner key ty
      → variable_type program.tables.world program.tables.answers key ≡ Some ty
  unfolding variable_type
  variable_type_is key ty (inr local) =
      ap (λ found. or_else found (shape_from 0 program.tables.world.shapes key)) local.1
  variable_type_is key ty (inl self) =
      let is = self_is program.tables.world host.owner key self.0 in
      ap (λ found. or_else found (shape_from 0 program.tables.world.shapes key))
      (ap program.tables.answers.type_at (sym is.word)
      ∙ settled.selves is.number is.shape is.at)
      ∙ ap (shape_from 0 program.tables.world.shapes) (sym is.word)
      ∙ shape_found 0 is.number program.tables.world.shapes is.shape is.at
      (λ j other found same.
      settled.words j is.number other is.shape found is.at same)
      ∙ ap (λ m. Some (types.Named m)) (no_more is.number)
      ∙ ap Some (ap (λ o. option_map_or types.Named o types.Unit) (sym is.owner_is) ∙ sym self.1)
    where
      no_more : (n : ℕ) → 0 + n ≡ n
      no_more n = omega arith

  -- A breach is none where there are none.
  no_breach : (fails : Bool) (at code : ℕ) → races_if fails at code ≡ [] → fails ≡ false
  no_breach true at code none =
      absurd (none_in (placed at code)
      (subst (λ all. Contains all (placed at code)) none (in_first (placed at code) [])))
  no_breach false at code none = refl

  -- What a closure that may be sent captures may cross.
  capture_crosses : SharesNone program → (closure : ℕ) (one : Capture) (x : Operand) (t : Making)
      → marked_type (program.tables.answers.type_at closure) ≡ true
      → Contains (program.tables.isolation.captures_of closure) one → IsCapture one x t
      → (held : Ty) × RegisterHasType t.made.regs x.reg held
      × (is_sendable program.tables.world.shapes held ≡ true)
  unfolding capture_races
  capture_crosses shares closure one x t marked has is = (
    is.ty,
    is.kind ∙ ap (λ boxed. Some (kind_by boxed is.ty)) (by_value one.by_ref refl none),
    sendable,
  ) where
    all : List Capture
    all = captures_in program.notes

    kept : Contains all one × ((one.closure == closure) ≡ true)
    kept =
        of_kept (λ (c : Capture). c.closure == closure) all one
        (subst (λ (isolation : Isolation). Contains (isolation.captures_of closure) one)
        settled.isolation has)

    of_closure : one.closure ≡ closure
    of_closure = grind (arith, kept.1)

    races : List Placed
    races = sent_races program.tables.world one
        (variable_type program.tables.world program.tables.answers one.variable)

    none : races ≡ []
    none =
        sym (ap (λ (sends : Bool). if sends then races else [])
        (ap (λ at. marked_type (program.tables.answers.type_at at)) of_closure ∙ marked))
        ∙ nothing_in (capture_races program.tables.world program.tables.answers one)
        (λ breach found. none_in breach
        (subst (λ list. Contains list breach) shares.captures
        (in_flat_map (capture_races program.tables.world program.tables.answers) all one
        breach kept.0 found)))

    by_value : (by_ref : Bool) → one.by_ref ≡ by_ref
        → (if by_ref then races_if true one.first 603
        else races_if (is_unsent program.tables.world
        (variable_type program.tables.world program.tables.answers one.variable)) one.first
        602) ≡ [] → one.by_ref ≡ false
    by_value true same none = absurd (false≢true (sym (no_breach true one.first 603 none)))
    by_value false same none = same

    sent : is_unsent program.tables.world
        (variable_type program.tables.world program.tables.answers one.variable) ≡ false
    sent =
        no_breach _ one.first 602
        (sym (ap (λ (by_ref : Bool). if by_ref then races_if true one.first 603
        else races_if (is_unsent program.tables.world
        (variable_type program.tables.world program.tables.answers one.variable)) one.first
        602) (by_value one.by_ref refl none)) ∙ none)

    sendable : is_sendable program.tables.world.shapes is.ty ≡ true
    sendable =
        not_false (is_sendable program.tables.world.shapes is.ty)
        (ap (is_unsent program.tables.world)
        (sym (variable_type_is one.variable is.ty is.typed)) ∙ sent)

  pub captures_cross : SharesNone program → (closure : ℕ) (xs : List Operand) (t : Making)
      → AreCaptures (program.tables.isolation.captures_of closure) xs t
      → marked_type (program.tables.answers.type_at closure) ≡ true
      → (x : Operand) → Contains xs x → (held : Ty) × RegisterHasType t.made.regs x.reg held
      × (is_sendable program.tables.world.shapes held ≡ true)
  captures_cross shares closure xs t are marked x has =
      let found = captured_by (program.tables.isolation.captures_of closure) xs t x are has in
      capture_crosses shares closure found.0 x t marked found.1 found.2
