-- A statement by its code.
use Rattle.std.proofs.Common.{◌≡◌, ℕ, List, map, inl, sym, subst}
use Rattle.std.proofs.lemmas.Option.{none-some}
use Rattle.std.specs.Prelude.{All, Contains, None}
use Rattle.sw_typing_rules.specs.Statements.{Left, State}
use Rattle.sw_typing_rules.specs.declared.scope.Inside.{Inside}
use Rattle.sw_typing_rules.specs.declared.scope.Var.{Var}
use Rattle.sw_isolation_rules.specs.declared.note.Note.{Note}
use Rattle.sw_isolation_rules.specs.declared.uses.Context.{Context}
use Rattle.sw_lower_plans.specs.Plan.{Numbers}
use Rattle.sw_lower_code.specs.Code.{Code}
use Rattle.sw_lower_code.specs.Whole.{Body}
use Rattle.sw_lower_rules.specs.Statements.{statement}
use Rattle.sw_lower_rules.specs.Tables.{Tables}
use Rattle.sw_lower_rules.specs.declared.targets.Targets.{Targets}
use Rattle.sw_lower_total_facts.specs.Binding.{BindsNothing}
use Rattle.sw_lower_total_facts.specs.Bound.{InBoxes}
use Rattle.sw_lower_total_facts.specs.Forms.{Binds, CodeProceeds, OnlyProceeds, StmtProceeds}
use Rattle.sw_lower_total_facts.specs.Proceeding.{BodyProceeds}
use Rattle.sw_lower_total_facts.proofs.Proceeding.Then.{ran_of}
use Rattle.sw_lower_total_facts.proofs.Statements.Beginning.{vars_still}

module _ (tables : Tables) (number : Numbers) (context : Context) (listed : List ℕ) where
  -- code that declares nothing, where no variable is new
  pub binds_still : (before after : List Var) (code : Targets → Code (Unit {0})) → after ≡ before
      → ((targets : Targets) → BindsNothing (code targets))
      → Binds tables number context listed before after code
  binds_still before after code same nothing targets s t going boxes is = record {
    new = λ key has.
        inl (subst (λ vars. Contains (map (λ (one : Var). one.at) vars) key) same has);
    boxes = subst (InBoxes tables listed)
        (sym (vars_still (code targets) s t tt (nothing targets)
        (ran_of (code targets) s going tt t is))) boxes;
  }

  -- a statement that is no expression
  pub no_only : (vars : List Var) (notes : List Note)
      → OnlyProceeds tables number context listed vars notes None
  no_only vars notes read is = absurd (none-some read is)

  pub stmt_of : (inside : Inside) (state : State) (notes : List Note)
      (code : Targets → Code (Unit {0})) (bodies : List Body) (left : Left)
      → CodeProceeds tables number context listed inside state.vars notes code
      → Binds tables number context listed state.vars left.state.vars code
      → All (BodyProceeds number) bodies
      → StmtProceeds tables number context listed inside state notes (statement code bodies) left
  stmt_of inside state notes code bodies left proceeds binds inner = record {
    code_proceeds = proceeds;
    binds = binds;
    only = no_only state.vars notes;
    inside_proceed = inner;
  }

  -- one that declares nothing
  pub stmt_still : (inside : Inside) (state : State) (notes : List Note)
      (code : Targets → Code (Unit {0})) (bodies : List Body) (left : Left)
      → left.state.vars ≡ state.vars
      → CodeProceeds tables number context listed inside state.vars notes code
      → ((targets : Targets) → BindsNothing (code targets)) → All (BodyProceeds number) bodies
      → StmtProceeds tables number context listed inside state notes (statement code bodies) left
  stmt_still inside state notes code bodies left same proceeds nothing inner =
      stmt_of inside state notes code bodies left proceeds
      (binds_still state.vars left.state.vars code same nothing) inner
