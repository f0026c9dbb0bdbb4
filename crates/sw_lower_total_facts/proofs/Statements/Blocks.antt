-- Statements after each other, and blocks of them, whose variables are seen in them alone.
use Rattle.std.proofs.Common.{ℕ, Bool, List, [], ◌∷◌, ◌++◌, inl, inr, ◌⊎◌, map, refl}
use Rattle.std.proofs.lemmas.List.Elements.{All-append, All-nil, Contains-append_cases}
use Rattle.std.proofs.lemmas.List.Elements.{Contains-append_left, Contains-append_right}
use Rattle.std.proofs.lemmas.Option.{none-some}
use Rattle.std.specs.Prelude.{All, Contains}
use Rattle.sw_typing_rules.specs.Statements.{Left, State, with_only}
use Rattle.sw_typing_rules.specs.declared.scope.Inside.{Inside}
use Rattle.sw_typing_rules.specs.declared.scope.Var.{Var}
use Rattle.sw_isolation_rules.specs.Captures.{self_of}
use Rattle.sw_isolation_rules.specs.declared.note.Note.{Note}
use Rattle.sw_isolation_rules.specs.declared.uses.Context.{Context}
use Rattle.sw_lower_plans.specs.Plan.{Numbers}
use Rattle.sw_lower_plans.specs.Run.{Making, place_of}
use Rattle.sw_lower_plans.specs.declared.bound.Bound.{Bound}
use Rattle.sw_lower_code.specs.Code.{Code, all}
use Rattle.sw_lower_rules.specs.Carriers.{StmtCode}
use Rattle.sw_lower_rules.specs.Statements.{block_layer, block_only}
use Rattle.sw_lower_rules.specs.Tables.{Tables}
use Rattle.sw_lower_rules.specs.declared.targets.Targets.{Targets}
use Rattle.sw_lower_formed_facts.proofs.Statements.Blocks.{stmts_code, stmts_inside}
use Rattle.sw_lower_total_facts.specs.Bound.{VariableIsBound, seen_in}
use Rattle.sw_lower_total_facts.specs.Forms.{AreBound, BlockProceeds, CodeProceeds, OnlyProceeds}
use Rattle.sw_lower_total_facts.specs.Forms.{StmtProceeds}
use Rattle.sw_lower_total_facts.specs.Proceeding.{BodyProceeds}
use Rattle.sw_lower_total_facts.proofs.Proceeding.Ready.{ready_after, ready_left, ready_right, ready_seen}
use Rattle.sw_lower_total_facts.proofs.Proceeding.Steps.{proceeds_done}
use Rattle.sw_lower_total_facts.proofs.Proceeding.Then.{Ran, proceeds_scope, proceeds_then}
use Rattle.sw_lower_total_facts.proofs.Statements.Beginning.{Begins, begins_left, blocks_more, by_begins}
use Rattle.sw_lower_total_facts.proofs.Statements.Beginning.{proceeds_by, targets_for, targets_still}

module _ (tables : Tables) (number : Numbers) (context : Context) (listed : List ℕ) where
  -- Statements in order.
  pub record StmtsProceed (inside : Inside) (state : State) (notes : List Note)
      (stmts : List StmtCode) : Type 0 where
    pub code_proceeds : CodeProceeds tables number context listed inside state.vars notes
        (stmts_code stmts)
    pub only : OnlyProceeds tables number context listed state.vars notes (block_only stmts)
    pub inside_proceed : All (BodyProceeds number) (stmts_inside stmts)

  -- no statements
  pub no_stmts_proceed : (inside : Inside) (state : State) → StmtsProceed inside state [] []
  unfolding all
  no_stmts_proceed inside state = record {
    code_proceeds = λ targets s ready boxes has. proceeds_done tt s;
    only = λ read is. absurd (none-some read is);
    inside_proceed = All-nil (BodyProceeds number);
  }

  -- What is seen with more variables is seen before, or is bound.
  pub seen_more : (owner : List ℕ) (before after : List ℕ) (vars : List Bound)
      → ((key : ℕ) → Contains after key
      → Contains before key ⊎ VariableIsBound tables listed vars key) → (key : ℕ)
      → Contains (owner ++ after) key
      → Contains (owner ++ before) key ⊎ VariableIsBound tables listed vars key
  seen_more owner before after vars new key has =
      by (Contains-append_cases owner after key has) where
        later : Contains before key ⊎ VariableIsBound tables listed vars key
            → Contains (owner ++ before) key ⊎ VariableIsBound tables listed vars key
        later (inl old) = inl (Contains-append_right owner before key old)
        later (inr bound) = inr bound

        by : Contains owner key ⊎ Contains after key
            → Contains (owner ++ before) key ⊎ VariableIsBound tables listed vars key
        by (inl me) = inl (Contains-append_left owner before key me)
        by (inr one) = later (new key one)

  -- Where a statement has come to its end, its variables are seen.
  pub begins_then : {A : Type 0} (inside : Inside) (before after : List Var)
      (first notes : List Note) (targets : Targets) (code : Code A) (s t : Making) (value : A)
      → Begins tables number context listed inside before (first ++ notes) targets s
      → Ran code s value t → AreBound tables number context listed before after t.vars
      → Begins tables number context listed inside after notes targets t
  begins_then inside before after first notes targets code s t value begins ran bound = record {
    ready = ready_right tables number context listed (seen_in tables context.owner after) first
        notes
        t
        (ready_seen tables number context listed (seen_in tables context.owner before)
        (seen_in tables context.owner after) (first ++ notes) t
        (seen_more (self_of tables.world context.owner)
        (map (λ (one : Var). one.at) before) (map (λ (one : Var). one.at) after) t.vars bound.new)
        (ready_after tables number context listed (code.plan (place_of s))
        (seen_in tables context.owner before) (first ++ notes) s t ran.1 begins.ready));
    boxes = bound.boxes;
    has = targets_still inside s t targets (blocks_more code s t value ran) begins.has;
  }

  more_stmts_only : (inside : Inside) (state : State) (first notes : List Note)
      (stmt : StmtCode) (stmts : List StmtCode) (left : Left)
      → StmtProceeds tables number context listed inside state first stmt left
      → OnlyProceeds tables number context listed state.vars (first ++ notes)
      (block_only (stmt ∷ stmts))
  more_stmts_only inside state first notes stmt [] left one read is s ready =
      one.only read is s
      (ready_left tables number context listed (seen_in tables context.owner state.vars) first notes
      s ready)
  more_stmts_only inside state first notes stmt (other ∷ stmts) left one read is s
      ready = absurd (none-some read is)

  -- a statement before others
  pub more_stmts_proceed : (inside : Inside) (state : State) (first notes : List Note)
      (stmt : StmtCode) (stmts : List StmtCode) (left : Left)
      → StmtProceeds tables number context listed inside state first stmt left
      → StmtsProceed inside left.state notes stmts
      → StmtsProceed inside state (first ++ notes) (stmt ∷ stmts)
  unfolding all
  more_stmts_proceed inside state first notes stmt stmts left one more = record {
    code_proceeds = proceeds_by tables number context listed inside state.vars (first ++ notes)
        (stmts_code (stmt ∷ stmts))
        (λ targets s begins.
        proceeds_then (stmt.code targets) (λ _. stmts_code stmts targets) s begins.ready.going
        (by_begins tables number context listed inside state.vars first stmt.code targets s
        one.code_proceeds
        (begins_left tables number context listed inside state.vars first notes targets s begins))
        (λ value t is ran.
        by_begins tables number context listed inside left.state.vars notes (stmts_code stmts)
        targets t more.code_proceeds
        (begins_then inside state.vars left.state.vars first notes targets (stmt.code targets) s t
        value begins ran (one.binds targets s t begins.ready.going begins.boxes is))));
    only = more_stmts_only inside state first notes stmt stmts left one;
    inside_proceed = All-append (BodyProceeds number) stmt.inside (stmts_inside stmts)
        one.inside_proceed more.inside_proceed;
  }

  -- a block of statements; `one` says whether it is one statement
  pub block_proceeds : (inside : Inside) (one : Bool) (state : State) (notes : List Note)
      (stmts : List StmtCode) → StmtsProceed (with_only inside one) state notes stmts
      → BlockProceeds tables number context listed inside state notes (block_layer stmts)
  block_proceeds inside one state notes stmts all_proceed = record {
    code_proceeds = λ targets s ready boxes has.
        proceeds_scope (stmts_code stmts targets) s
        (all_proceed.code_proceeds targets s ready boxes
        (targets_for inside (with_only inside one) s targets refl refl has));
    only = all_proceed.only;
    inside_proceed = all_proceed.inside_proceed;
  }
