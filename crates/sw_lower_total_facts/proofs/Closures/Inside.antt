-- The body of a closure proceeds: what it takes is bound as what is seen and mentioned in it.
use Rattle.std.proofs.Common.{◌≡◌, ℕ, ◌<◌, ◌⊎◌, inl, inr, true, false, List, ◌++◌}
use Rattle.std.proofs.Common.{map, flat_map, Contains, ap, sym, ◌∙◌, subst, Option, Some}
use Rattle.std.proofs.lemmas.Bool.{false≢true}
use Rattle.std.proofs.lemmas.List.{map-append}
use Rattle.std.proofs.lemmas.List.Concat.{flat_map-append}
use Rattle.std.proofs.lemmas.List.Elements.{All-append, All-contains, All-map}
use Rattle.std.proofs.lemmas.List.Elements.{All-weaker, Contains-append_cases}
use Rattle.std.proofs.lemmas.List.Elements.{Contains-append_left, Contains-append_right}
use Rattle.std.specs.Prelude.{All}
use Rattle.sw_tree.specs.declared.expr.ClosureParam.{ClosureParam}
use Rattle.sw_tree.proofs.Members.{in_map, of_map}
use Rattle.sw_types.specs.declared.ty.Ty.{Ty}
use Rattle.sw_typing_rules.specs.Statements.{closure_vars, in_body}
use Rattle.sw_typing_rules.specs.declared.scope.Returned.{Returned}
use Rattle.sw_typing_rules.specs.declared.scope.Var.{Var}
use Rattle.sw_isolation_rules.specs.Captures.{is_among, list_mentions, mentioned, self_of}
use Rattle.sw_isolation_rules.specs.Captures.{variables}
use Rattle.sw_isolation_rules.specs.Kinds.{is_own}
use Rattle.sw_isolation_rules.specs.Lists.{vars_in}
use Rattle.sw_isolation_rules.specs.declared.note.Capture.{Capture}
use Rattle.sw_isolation_rules.specs.declared.note.Mention.{Mention}
use Rattle.sw_isolation_rules.specs.declared.note.Note.{Note}
use Rattle.sw_isolation_rules.specs.declared.note.Note.TheVariants.{Mentioned}
use Rattle.sw_lower_plans.specs.Plan.{Numbers}
use Rattle.sw_lower_plans.specs.Run.{Making}
use Rattle.sw_lower_code.specs.declared.taken.Taken.{Taken}
use Rattle.sw_lower_rules.specs.Carriers.{BlockCode}
use Rattle.sw_lower_rules.specs.Expressions.{capture_taken, closure_body, closure_param_taken}
use Rattle.sw_lower_rules.specs.Expressions.{closure_takes}
use Rattle.sw_lower_rules.specs.Tables.{Tables}
use Rattle.sw_lower_formed_facts.specs.Forms.{VarHolds, VarsHold}
use Rattle.sw_lower_total_facts.specs.Bound.{VariableIsBound, Ready, seen_in}
use Rattle.sw_lower_total_facts.specs.Forms.{BlockProceeds}
use Rattle.sw_lower_total_facts.specs.Known.{TablesAgree}
use Rattle.sw_lower_total_facts.specs.Noted.{mentions}
use Rattle.sw_lower_total_facts.specs.Proceeding.{BodyProceeds}
use Rattle.sw_lower_total_facts.proofs.Bodies.BodyCode.{body_code_proceeds}
use Rattle.sw_lower_total_facts.proofs.Bodies.Taking.{Entered, body_proceeds}
use Rattle.sw_lower_total_facts.proofs.Closures.Boxes.{boxed_is_var, ref_is_var, var_is_ref}
use Rattle.sw_lower_total_facts.proofs.Closures.Enclosed.{Enclosure, IsEnclosed, before_seen, block}
use Rattle.sw_lower_total_facts.proofs.Closures.Enclosed.{inside, lists, outside, seen_before}
use Rattle.sw_lower_total_facts.proofs.Closures.Enclosed.{takes, within}
use Rattle.sw_lower_total_facts.proofs.Closures.Firsts.{taken_held, taken_mentioned, taken_only}
use Rattle.sw_lower_total_facts.proofs.Closures.Fitting.{Fits, TakenFits, taken_in_boxes, taken_is_bound}
use Rattle.sw_lower_total_facts.proofs.Closures.Noted.{capture_as, mentioned_all}
use Rattle.sw_lower_total_facts.proofs.Closures.Seen.{seen_closure, self_fixed}
use Rattle.sw_lower_total_facts.proofs.Standing.Closures.{param_keys}
use Rattle.sw_lower_total_facts.proofs.Standing.Scopes.{all_of_each}

-- What is mentioned in the block of a closure is mentioned inside the closure, as are its words.
pub mentioned_inside : (tables : Tables) (closure : Enclosure)
    → variables (flat_map mentioned (inside tables closure))
    ≡ variables (list_mentions tables.world tables.answers closure.context.owner closure.words)
    ++ mentions (block tables closure)
mentioned_inside tables closure =
    ap variables (flat_map-append mentioned (map Mentioned (list_mentions tables.world
    tables.answers closure.context.owner closure.words)) (block tables closure)
    ∙ ap (λ first. first ++ flat_map mentioned (block tables closure)) (mentioned_all (list_mentions
    tables.world tables.answers closure.context.owner closure.words)))
    ∙ map-append (λ (one : Mention). one.variable)
    (list_mentions tables.world tables.answers closure.context.owner closure.words)
    (flat_map mentioned (block tables closure))

module _ (tables : Tables) (number : Numbers) (all : List Note)
    (known : TablesAgree tables number all)
    (closure : Enclosure) (enclosed : IsEnclosed tables all closure)
    (vars : VarsHold tables.answers closure.vars) (owner : Option ℕ) where
  -- A `var` that is seen around the closure has a type.
  var_typed : (key : ℕ) → Contains (outside tables closure) key
      → is_among (vars_in all) key ≡ true → (ty : Ty) × (tables.answers.type_at key ≡ Some ty)
  var_typed key has is =
      by (Contains-append_cases (self_of tables.world closure.context.owner)
      (map (λ (one : Var). one.at) closure.vars) key has) where
        by : Contains (self_of tables.world closure.context.owner) key
            ⊎ Contains (map (λ (one : Var). one.at) closure.vars) key
            → (ty : Ty) × (tables.answers.type_at key ≡ Some ty)
        by (inl me) =
            absurd (false≢true
            (sym (self_fixed tables number all known closure.context.owner key me) ∙ is))
        by (inr var) =
            let (one, among, same) = of_map (λ (one : Var). one.at) closure.vars key var in
            let holds = All-contains (VarHolds tables.answers) closure.vars one vars among in
            (holds.ty, ap tables.answers.type_at (sym same) ∙ holds.typed)

  -- What a closure takes is as it has to be inside it.
  mention_fits : (one : Mention) → Contains (takes tables closure) one
      → Fits tables (lists tables closure) one.variable
      (capture_as all closure.at (lists tables closure) one).by_ref
  mention_fits one has = record {
    typed = λ by_ref. typed (ref_is_var all closure.at (lists tables closure) one by_ref).0;
    in_box = λ boxed unlisted.
        var_is_ref all closure.at (lists tables closure) one
        (boxed_is_var tables all known.noted one.variable boxed) unlisted;
  } where
    typed : is_among (vars_in all) one.variable ≡ true
        → (ty : Ty) × (tables.answers.type_at one.variable ≡ Some ty)
    typed is =
        let only = taken_only tables.world (within tables closure) closure.at
        (inside tables closure) one has in
        by only.1 only.0 where
          by : one.variable < closure.at
              → Contains (variables (flat_map mentioned (inside tables closure))) one.variable
              ⊎ ((is_own closure.iso ≡ true)
              × Contains (self_of tables.world closure.context.owner) one.variable)
              → (ty : Ty) × (tables.answers.type_at one.variable ≡ Some ty)
          by before (inl there) =
              var_typed one.variable
              (seen_before tables all closure enclosed one.variable there before) is
          by before (inr me) =
              var_typed one.variable
              (Contains-append_left (self_of tables.world closure.context.owner)
              (map (λ (one : Var). one.at) closure.vars) one.variable me.1) is

  captures_fit : All (TakenFits tables (lists tables closure))
      (map (capture_taken tables owner) (tables.isolation.captures_of closure.at))
  captures_fit =
      All-map (TakenFits tables (lists tables closure)) (capture_taken tables owner)
      (tables.isolation.captures_of closure.at)
      (all_of_each (λ (one : Capture). Fits tables (lists tables closure) one.variable one.by_ref)
      (tables.isolation.captures_of closure.at) fits) where
        fits : (one : Capture) → Contains (tables.isolation.captures_of closure.at) one
            → Fits tables (lists tables closure) one.variable one.by_ref
        fits one has =
            let (mention, among, is) = of_map
            (capture_as all closure.at (lists tables closure)) (takes tables closure) one
            (subst (λ captures. Contains captures one) enclosed.captures has) in
            subst (λ (other : Capture).
            Fits tables (lists tables closure) other.variable other.by_ref) is
            (mention_fits mention among)

  -- So are its parameters, which are never in boxes.
  params_fit : All (TakenFits tables (lists tables closure))
      (map (closure_param_taken tables) closure.params)
  params_fit =
      All-map (TakenFits tables (lists tables closure)) (closure_param_taken tables) closure.params
      (All-weaker (λ (param : ClosureParam). is_among (vars_in all) param.name.at ≡ false)
      (λ (param : ClosureParam). Fits tables (lists tables closure) param.name.at false)
      fits closure.params enclosed.params_fixed) where
        fits : (param : ClosureParam) → is_among (vars_in all) param.name.at ≡ false
            → Fits tables (lists tables closure) param.name.at false
        fits param fixed = record {
          typed = λ boxed. absurd (false≢true boxed);
          in_box = λ boxed unlisted.
              sym fixed ∙ boxed_is_var tables all known.noted param.name.at boxed;
        }

  -- all that its body takes
  abbrev all_taken : List Taken
  all_taken = closure_takes tables owner closure.at closure.params

  all_fit : All (TakenFits tables (lists tables closure)) all_taken
  all_fit =
      All-append (TakenFits tables (lists tables closure))
      (map (capture_taken tables owner) (tables.isolation.captures_of closure.at))
      (map (closure_param_taken tables) closure.params) captures_fit params_fit

  -- the keys of what it takes
  abbrev key_of : Taken → ℕ
  key_of one = one.key

  -- What a closure takes is among what its body takes.
  takes_capture : (key : ℕ) → Contains (variables (takes tables closure)) key
      → Contains (map key_of all_taken) key
  takes_capture key has =
      let (one, among, is) = of_map (λ (one : Mention). one.variable) (takes tables closure) key
      has in
      let capture = capture_as all closure.at (lists tables closure) one in
      subst (Contains (map key_of all_taken)) is
      (in_map key_of all_taken (capture_taken tables owner capture)
      (Contains-append_left
      (map (capture_taken tables owner) (tables.isolation.captures_of closure.at))
      (map (closure_param_taken tables) closure.params) (capture_taken tables owner capture)
      (in_map (capture_taken tables owner) (tables.isolation.captures_of closure.at) capture
      (subst (λ captures. Contains captures capture) (sym enclosed.captures)
      (in_map (capture_as all closure.at (lists tables closure)) (takes tables closure) one
      among)))))

  -- And so are its parameters.
  takes_param : (key : ℕ) → Contains (param_keys closure.params) key
      → Contains (map key_of all_taken) key
  takes_param key has =
      let (param, among, is) = of_map (λ (param : ClosureParam). param.name.at) closure.params key
      has in
      subst (Contains (map key_of all_taken)) is
      (in_map key_of all_taken (closure_param_taken tables param)
      (Contains-append_right
      (map (capture_taken tables owner) (tables.isolation.captures_of closure.at))
      (map (closure_param_taken tables) closure.params) (closure_param_taken tables param)
      (in_map (closure_param_taken tables) closure.params param among)))

  -- the variables that are seen inside
  abbrev seen_inside : List Var
  seen_inside = closure_vars tables.world closure.vars closure.words closure.params

  -- What is known where the code of the body begins.
  ready_inside : (t : Making) → Entered number all_taken t
      → Ready tables number (within tables closure) (lists tables closure)
      (seen_in tables closure.context.owner seen_inside) (block tables closure) t
  ready_inside t entered = record {
    going = entered.going;
    numbers = entered.numbers;
    vars = λ key seen has.
        bound key (by key has
        (seen_closure tables closure.context.owner closure.vars closure.words closure.params key
        seen));
    held = λ own holds key me.
        bound key (takes_capture key
        (taken_held tables.world (within tables closure) closure.at (inside tables closure) key own
        me (enclosed.own key me)));
  } where
    bound : (key : ℕ) → Contains (map key_of all_taken) key
        → VariableIsBound tables (lists tables closure) t.vars key
    bound key has =
        taken_is_bound tables (lists tables closure) all_taken t.vars entered.vars all_fit key has

    by : (key : ℕ) → Contains (mentions (block tables closure)) key
        → Contains (outside tables closure) key ⊎ Contains (param_keys closure.params) key
        → Contains (map key_of all_taken) key
    by key has (inl around) =
        let there = subst (λ list. Contains list key) (sym (mentioned_inside tables closure))
        (Contains-append_right (variables (list_mentions tables.world tables.answers
        closure.context.owner closure.words)) (mentions (block tables closure)) key has) in
        takes_capture key
        (taken_mentioned tables.world (within tables closure) closure.at (inside tables closure)
        key there (before_seen tables all closure enclosed key there around))
    by key has (inr param) = takes_param key param

  -- The body of a closure proceeds where its block does.
  pub closure_proceeds : (code : BlockCode) (result : Ty) (returned : Returned)
      → BlockProceeds tables number (within tables closure) (lists tables closure)
      (in_body owner false) (record { vars = seen_inside; returned = returned })
      (block tables closure) code
      → BodyProceeds number (closure_body tables owner
      (record { at = closure.at; params = closure.params; body = code }) result)
  unfolding closure_body
  closure_proceeds code result returned proceeds =
      body_proceeds number (closure_body tables owner
      (record { at = closure.at; params = closure.params; body = code }) result)
      (λ t entered.
      body_code_proceeds tables number (within tables closure) (lists tables closure) owner false
      (record { vars = seen_inside; returned = returned }) (block tables closure) code proceeds
      result t (ready_inside t entered)
      (taken_in_boxes tables (lists tables closure) all_taken t.vars entered.vars all_fit))
