-- The patterns of an arm: they are taken at the front of its block, and declare what they name.
use Rattle.std.proofs.Common.{◌≡◌, ℕ, ◌+◌, ◌≤◌, Bool, true, false, ◌==◌, ◌||◌, if◌then◌else◌, List}
use Rattle.std.proofs.Common.{[], ◌∷◌, ◌++◌, Option, Some, None, length, ap, sym, ◌∙◌, subst, refl}
use Rattle.std.proofs.Common.{arith, flat_map, map, inl, inr, ◌⊎◌, true≢false}
use Rattle.std.proofs.lemmas.Bool.{eqb-true}
use Rattle.std.proofs.lemmas.List.{map-append}
use Rattle.std.proofs.lemmas.List.Elements.{All-append, All-cons, All-head, All-nil, All-tail}
use Rattle.std.proofs.lemmas.List.Elements.{Contains-append_cases}
use Rattle.std.specs.Prelude.{All, Contains}
use Rattle.sw_tree.specs.Keys.{pattern_keys}
use Rattle.sw_tree.specs.declared.name.Name.{Name}
use Rattle.sw_tree.specs.declared.stmt.Pattern.{Pattern}
use Rattle.sw_tree.specs.declared.stmt.Pattern.TheVariants.{Let, Skip}
use Rattle.sw_types.specs.declared.ty.Ty.{Ty}
use Rattle.sw_types.specs.declared.ty.Ty.TheVariants as types
use Rattle.sw_graph.specs.declared.function.RegKind.TheVariants.{Plain}
use Rattle.sw_graph.specs.declared.instr.Instr.TheVariants.{Payload}
use Rattle.sw_graph.specs.declared.instr.Operand.{Operand}
use Rattle.sw_typing_rules.specs.Statements.{more_types, pattern_types, pattern_vars, patterns_fit}
use Rattle.sw_typing_rules.specs.Statements.{vars_rows}
use Rattle.sw_typing_rules.specs.declared.scope.Var.{Var}
use Rattle.sw_isolation_rules.specs.declared.uses.Context.{Context}
use Rattle.sw_lower_plans.specs.Plan.{Numbers, Place, after, var_in}
use Rattle.sw_lower_plans.specs.Run.{IsGoing, Making, place_of}
use Rattle.sw_lower_plans.specs.declared.bound.Bound.{Bound}
use Rattle.sw_lower_code.specs.Code.{Code, andthen, bind, done, front, known, reg, ◌>>=◌, ◌>>◌}
use Rattle.sw_lower_rules.specs.Statements.{pattern_code, patterns_code}
use Rattle.sw_lower_rules.specs.Tables.{Tables}
use Rattle.sw_lower_rules.specs.Uses.{typed}
use Rattle.sw_typing_facts.specs.Rows.{RowsHold}
use Rattle.sw_typing_facts.proofs.Lists.Listed.{only_in}
use Rattle.sw_lower_total_facts.specs.Bound.{InBox, InBoxes, VariableIsBound}
use Rattle.sw_lower_total_facts.specs.Forms.{AreBound}
use Rattle.sw_lower_total_facts.specs.Proceeding.{Proceeds}
use Rattle.sw_lower_total_facts.proofs.Proceeding.Steps.{proceeds_bind, proceeds_done, proceeds_front}
use Rattle.sw_lower_total_facts.proofs.Proceeding.Steps.{proceeds_known, proceeds_reg}
use Rattle.sw_lower_total_facts.proofs.Proceeding.Then.{Ran}
use Rattle.sw_lower_total_facts.proofs.Statements.Bounds.{bound_of}
use Rattle.sw_lower_total_facts.proofs.Statements.Fronts.{InFront, KeepsFront, front_bind, front_done}
use Rattle.sw_lower_total_facts.proofs.Statements.Fronts.{front_front, front_known, front_reg, front_then}
use Rattle.sw_lower_total_facts.proofs.Statements.Fronts.{then_front}

-- Patterns that fit a payload have types.
pub fit_types : (patterns : List Pattern) (payload : Option (List Ty))
    → patterns_fit patterns payload ≡ true
    → length patterns ≤ length (pattern_types patterns payload)
fit_types patterns None fit = absurd (true≢false (sym fit))
fit_types patterns (Some payload) fit =
    by (length patterns == length payload) refl (length patterns == 0) refl fit where
      by : (same : Bool) → (length patterns == length payload) ≡ same → (empty : Bool)
          → (length patterns == 0) ≡ empty → (empty || same) ≡ true
          → length patterns ≤ length (if same then payload else [])
      by true is empty none fits =
          let equal = eqb-true (length patterns) (length payload) is in omega (arith, equal)
      by false is true none fits =
          let equal = eqb-true (length patterns) 0 none in omega (arith, equal)
      by false is false none fits = absurd (true≢false (sym fits))

-- variables for patterns, in order; none of them is in a box
abbrev pub AreFor : List Pattern → List Bound → Type 0
AreFor [] vars = vars ≡ []
AreFor (Skip at ∷ patterns) vars = AreFor patterns vars
AreFor (Let name ∷ patterns) vars = (register : ℕ) × (more : List Bound)
    × (vars ≡ record { key = name.at; reg = register; boxed = false } ∷ more)
    × AreFor patterns more

-- What is found among variables is found by its key among more before them.
found_more : (key : ℕ) (before vars : List Bound) (one : Bound) → var_in key vars ≡ Some one
    → (found : Bound) × (var_in key (before ++ vars) ≡ Some found)
found_more key [] vars one is = (one, is)
found_more key (other ∷ before) vars one is =
    by (other.key == key) (found_more key before vars one is) where
      by : (same : Bool) → ((found : Bound) × (var_in key (before ++ vars) ≡ Some found))
          → (found : Bound)
          × ((if same then Some other else var_in key (before ++ vars)) ≡ Some found)
      by true later = (other, refl)
      by false later = later

module _ (tables : Tables) where
  -- the names of patterns have types
  abbrev pub AreTyped : List Pattern → Type 0
  AreTyped [] = Unit {0}
  AreTyped (Skip at ∷ patterns) = AreTyped patterns
  AreTyped (Let name ∷ patterns) =
      ((ty : Ty) × (tables.answers.type_at name.at ≡ Some ty)) × AreTyped patterns

  pub typed_patterns : (patterns : List Pattern) (tys : List Ty) → length patterns ≤ length tys
      → RowsHold tables.answers (vars_rows (pattern_vars patterns tys)) → AreTyped patterns
  typed_patterns [] tys many hold = tt
  typed_patterns (Skip at ∷ patterns) [] many hold = absurd (omega (arith, many))
  typed_patterns (Let name ∷ patterns) [] many hold = absurd (omega (arith, many))
  typed_patterns (Skip at ∷ patterns) (ty ∷ tys) many hold =
      typed_patterns patterns tys (omega (arith, many)) hold
  typed_patterns (Let name ∷ patterns) (ty ∷ tys) many hold =
      ((ty, hold.0), typed_patterns patterns tys (omega (arith, many)) hold.1)

  -- a variable of patterns has a type
  pub pattern_typed : (patterns : List Pattern) (tys : List Ty) → AreTyped patterns → (key : ℕ)
      → Contains (map (λ (one : Var). one.at) (pattern_vars patterns tys)) key
      → (ty : Ty) × (tables.answers.type_at key ≡ Some ty)
  pattern_typed [] tys are key has = absurd (none_in key has) where
    none_in : (k : ℕ) → Contains [] k → ⊥
    none_in k (place, below, is) = omega (arith, below)
  pattern_typed (Skip at ∷ patterns) tys are key has =
      pattern_typed patterns (more_types tys) are key has
  pattern_typed (Let name ∷ patterns) tys are key has =
      by (Contains-append_cases (name.at ∷ []) rest key has)
      (λ later. pattern_typed patterns (more_types tys) are.1 key later) where
        rest : List ℕ
        rest = map (λ (one : Var). one.at) (pattern_vars patterns (more_types tys))

        by : Contains (name.at ∷ []) key ⊎ Contains rest key
            → (Contains rest key → (ty : Ty) × (tables.answers.type_at key ≡ Some ty))
            → (ty : Ty) × (tables.answers.type_at key ≡ Some ty)
        by (inl this) others =
            (are.0.0, ap tables.answers.type_at (sym (only_in name.at key this)) ∙ are.0.1)
        by (inr later) others = others later

  -- and is found among the variables for them
  pub pattern_found : (patterns : List Pattern) (tys : List Ty) (vars : List Bound)
      → AreFor patterns vars → (key : ℕ)
      → Contains (map (λ (one : Var). one.at) (pattern_vars patterns tys)) key
      → (found : Bound) × (var_in key vars ≡ Some found)
  pattern_found [] tys vars are key has = absurd (none_in key has) where
    none_in : (k : ℕ) → Contains [] k → ⊥
    none_in k (place, below, is) = omega (arith, below)
  pattern_found (Skip at ∷ patterns) tys vars are key has =
      pattern_found patterns (more_types tys) vars are key has
  pattern_found (Let name ∷ patterns) tys vars (register, more, is, are) key has =
      let one = by (name.at == key) refl (Contains-append_cases (name.at ∷ []) rest key has)
      (λ later. pattern_found patterns (more_types tys) more are key later) in
      (one.0, ap (var_in key) is ∙ one.1) where
        own : Bound
        own = record { key = name.at; reg = register; boxed = false }

        rest : List ℕ
        rest = map (λ (one : Var). one.at) (pattern_vars patterns (more_types tys))

        by : (same : Bool) → (name.at == key) ≡ same
            → Contains (name.at ∷ []) key ⊎ Contains rest key
            → (Contains rest key → (found : Bound) × (var_in key more ≡ Some found))
            → (found : Bound) × ((if same then Some own else var_in key more) ≡ Some found)
        by true same one others = (own, refl)
        by false same (inl this) others =
            absurd (apart (only_in name.at key this)) where
              apart : name.at ≡ key → ⊥
              apart equal = grind (arith, same, equal)
        by false same (inr later) others = others later

  -- each has its box where it is to have one, if none is to
  pattern_boxes : (listed : List ℕ) (patterns : List Pattern) (vars : List Bound)
      → AreFor patterns vars
      → All (λ key. tables.isolation.is_boxed key ≡ false) (flat_map pattern_keys patterns)
      → InBoxes tables listed vars
  pattern_boxes listed [] vars are none =
      subst (InBoxes tables listed) (sym are) (All-nil (InBox tables listed))
  pattern_boxes listed (Skip at ∷ patterns) vars are none =
      pattern_boxes listed patterns vars are none
  pattern_boxes listed (Let name ∷ patterns) vars (register, more, is, are) none =
      subst (InBoxes tables listed) (sym is)
      (All-cons (InBox tables listed)
      (record { key = name.at; reg = register; boxed = false }) more
      (λ boxed unlisted.
      absurd (true≢false (sym boxed
      ∙ All-head (λ key. tables.isolation.is_boxed key ≡ false) name.at
      (flat_map pattern_keys patterns) none)))
      (pattern_boxes listed patterns more are
      (All-tail (λ key. tables.isolation.is_boxed key ≡ false) name.at
      (flat_map pattern_keys patterns) none)))

  -- The code of patterns declares these variables.
  patterns_vars : (subject : Operand) (i : ℕ) (patterns : List Pattern) (place : Place)
      → AreFor patterns ((patterns_code tables subject i patterns).plan place).vars
  unfolding patterns_code andthen typed known reg front bind done
  patterns_vars subject i [] place = refl
  patterns_vars subject i (Skip at ∷ patterns) place =
      patterns_vars subject (i + 1) patterns
      (after place ((pattern_code tables subject i (Skip at)).plan place))
  patterns_vars subject i (Let name ∷ patterns) place =
      let first = (pattern_code tables subject i (Let name)).plan place in (
        _,
        ((patterns_code tables subject (i + 1) patterns).plan (after place first)).vars,
        refl,
        patterns_vars subject (i + 1) patterns (after place first),
      )

  -- Their payloads are taken one after the other.
  pattern_front : (subject : Operand) (i : ℕ) (pattern : Pattern)
      → KeepsFront (pattern_code tables subject i pattern)
  unfolding typed
  pattern_front subject i (Skip at) = front_done tt
  pattern_front subject i (Let name) =
      front_then (typed tables name.at) (λ ty. reg (Plain ty) >>= take)
      (front_known types.Unit (tables.answers.type_at name.at))
      (λ ty. front_then (reg (Plain ty)) take (front_reg (Plain ty))
      (λ r. front_then (front (Payload name.at r subject i)) (λ _. bind (own r))
      (front_front (Payload name.at r subject i) refl) (λ _. front_bind (own r)))) where
        own : ℕ → Bound
        own r = record { key = name.at; reg = r; boxed = false }

        take : ℕ → Code (Unit {0})
        take r = front (Payload name.at r subject i) >> bind (own r)

  let_proceeds : (subject : Operand) (i : ℕ) (name : Name) (ty : Ty) (s : Making) → IsGoing s
      → InFront s → tables.answers.type_at name.at ≡ Some ty
      → Proceeds s (pattern_code tables subject i (Let name))
  unfolding typed
  let_proceeds subject i name ty s going alone has =
      then_front (typed tables name.at) (λ found. reg (Plain found) >>= take) s going alone
      (front_known types.Unit (tables.answers.type_at name.at))
      (proceeds_known types.Unit (tables.answers.type_at name.at) ty s has)
      (λ found t going_t alone_t.
      then_front (reg (Plain found)) take t going_t alone_t (front_reg (Plain found))
      (proceeds_reg (Plain found) t)
      (λ r u going_u alone_u.
      then_front (front (Payload name.at r subject i)) (λ _. bind (own r)) u going_u alone_u
      (front_front (Payload name.at r subject i) refl)
      (proceeds_front (Payload name.at r subject i) u refl alone_u)
      (λ _ v going_v alone_v. proceeds_bind (own r) v))) where
        own : ℕ → Bound
        own r = record { key = name.at; reg = r; boxed = false }

        take : ℕ → Code (Unit {0})
        take r = front (Payload name.at r subject i) >> bind (own r)

  -- Patterns with types proceed in a block that has payloads alone.
  pub patterns_proceed : (subject : Operand) (i : ℕ) (patterns : List Pattern)
      → AreTyped patterns → (s : Making) → IsGoing s → InFront s
      → Proceeds s (patterns_code tables subject i patterns)
  unfolding patterns_code
  patterns_proceed subject i [] are s going alone = proceeds_done tt s
  patterns_proceed subject i (Skip at ∷ patterns) are s going alone =
      then_front (done tt) (λ _. patterns_code tables subject (i + 1) patterns) s going alone
      (front_done tt) (proceeds_done tt s)
      (λ _ t going_t alone_t.
      patterns_proceed subject (i + 1) patterns are t going_t alone_t)
  patterns_proceed subject i (Let name ∷ patterns) are s going alone =
      then_front (pattern_code tables subject i (Let name))
      (λ _. patterns_code tables subject (i + 1) patterns) s going alone
      (pattern_front subject i (Let name))
      (let_proceeds subject i name are.0.0 s going alone are.0.1)
      (λ _ t going_t alone_t.
      patterns_proceed subject (i + 1) patterns are.1 t going_t alone_t)

module _ (tables : Tables) (number : Numbers) (context : Context) (listed : List ℕ) where
  -- After them the variables that they name are bound.
  pub patterns_bound : (subject : Operand) (patterns : List Pattern) (before : List Var)
      (tys : List Ty) (s t : Making) → AreTyped tables patterns
      → All (λ key. tables.isolation.is_boxed key ≡ false) (flat_map pattern_keys patterns)
      → InBoxes tables listed s.vars
      → Ran (patterns_code tables subject 0 patterns) s tt t
      → AreBound tables number context listed before (before ++ pattern_vars patterns tys) t.vars
  patterns_bound subject patterns before tys s t are none boxes ran = record {
    new = λ key has.
        by key (Contains-append_cases (map (λ (one : Var). one.at) before) own key
        (subst (λ list. Contains list key)
        (map-append (λ (one : Var). one.at) before (pattern_vars patterns tys)) has));
    boxes = subst (InBoxes tables listed) (sym ran.1.vars) boxes_then;
  } where
    own : List ℕ
    own = map (λ (one : Var). one.at) (pattern_vars patterns tys)

    news : List Bound
    news = ((patterns_code tables subject 0 patterns).plan (place_of s)).vars

    news_for : AreFor patterns news
    news_for = patterns_vars tables subject 0 patterns (place_of s)

    boxes_then : InBoxes tables listed (s.vars ++ news)
    boxes_then = All-append (InBox tables listed) s.vars news boxes
        (pattern_boxes tables listed patterns news news_for none)

    here : (key : ℕ) → Contains own key → VariableIsBound tables listed (s.vars ++ news) key
    here key has =
        let one = pattern_found tables patterns tys news news_for key has in
        let found = found_more key s.vars news one.0 one.1 in
        let ty = pattern_typed tables patterns tys are key has in
        bound_of tables listed (s.vars ++ news) key ty.0 found.0 boxes_then found.1 ty.1

    by : (key : ℕ) → Contains (map (λ (one : Var). one.at) before) key ⊎ Contains own key
        → Contains (map (λ (one : Var). one.at) before) key
        ⊎ VariableIsBound tables listed t.vars key
    by key (inl old) = inl old
    by key (inr this) =
        inr (subst (λ vars. VariableIsBound tables listed vars key) (sym ran.1.vars)
        (here key this))
