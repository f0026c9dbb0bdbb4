-- What is noted of a place that is assigned.
use Rattle.std.proofs.Common.{◌≢◌, ℕ, List, refl, subst}
use Rattle.sw_tree.specs.declared.expr.Expr.{Expr}
use Rattle.sw_tree.specs.declared.expr.Expr.TheVariants as exprs
use Rattle.sw_tree.specs.declared.name.Name.{Name}
use Rattle.sw_tree.specs.declared.operator.AssignOp.{AssignOp}
use Rattle.sw_tree.specs.declared.operator.AssignOp.TheVariants as assigns
use Rattle.sw_tree.specs.declared.stmt.Stmt.TheVariants as stmts
use Rattle.sw_typing_rules.specs.Worlds.{World}
use Rattle.sw_typing_rules.specs.declared.scope.Var.{Var}
use Rattle.sw_isolation_rules.specs.Answers.{Answers}
use Rattle.sw_isolation_rules.specs.Noting.{Seen, place_notes, see}
use Rattle.sw_isolation_rules.specs.declared.uses.Context.{Context}
use Rattle.sw_lower_total_facts.proofs.Standing.NoteForms as noted
use Rattle.sw_lower_total_facts.proofs.Standing.NoteForms.{expr_notes}
use Rattle.sw_lower_total_facts.proofs.Standing.Trees as standing
use Rattle.sw_lower_placed_facts.specs.Claims.{AreNoted, BaseNoted, ExprNoted}
use Rattle.sw_lower_placed_facts.specs.Hosts.{Program}
use Rattle.sw_lower_placed_facts.proofs.Forms.Noted.{StmtNoted, member_base_noted, noted_by}
use Rattle.sw_lower_placed_facts.proofs.Uses.Noted.{noted_left, noted_right}

module _ (program : Program) (context : Context) (listed : List ℕ) where
  abbrev world : World
  world = program.tables.world

  abbrev answers : Answers
  answers = program.tables.answers

  abbrev PlaceNoted : AssignOp → Seen → Type 0
  PlaceNoted op place = AreNoted program (place_notes world answers op place context listed)

  -- the assignment itself
  stores_noted : (op : AssignOp) (place : Seen) → PlaceNoted op place
      → AreNoted program (place.stores context place.key)
  stores_noted assigns.Set place noted = noted_right program (place.before context listed) _ noted
  stores_noted assigns.Add place noted = noted_right program (place.notes context listed) _ noted
  stores_noted assigns.Subtract place noted =
      noted_right program (place.notes context listed) _ noted
  stores_noted assigns.Multiply place noted =
      noted_right program (place.notes context listed) _ noted
  stores_noted assigns.Divide place noted =
      noted_right program (place.notes context listed) _ noted
  stores_noted assigns.Remainder place noted =
      noted_right program (place.notes context listed) _ noted

  -- what is read by each operator but `=`
  read_noted : (op : AssignOp) (place : Seen) → op ≢ assigns.Set → PlaceNoted op place
      → AreNoted program (place.notes context listed)
  read_noted assigns.Set place other noted = absurd (other refl)
  read_noted assigns.Add place other noted =
      noted_left program (place.notes context listed) _ noted
  read_noted assigns.Subtract place other noted =
      noted_left program (place.notes context listed) _ noted
  read_noted assigns.Multiply place other noted =
      noted_left program (place.notes context listed) _ noted
  read_noted assigns.Divide place other noted =
      noted_left program (place.notes context listed) _ noted
  read_noted assigns.Remainder place other noted =
      noted_left program (place.notes context listed) _ noted

  module _ (vars : List Var) (at : ℕ) where
    -- what is noted of the place
    of_place : (op : AssignOp) (place value : Expr)
        → StmtNoted program context listed vars (stmts.Assign at op place value)
        → PlaceNoted op (see world answers place)
    of_place op place value whole =
        noted_left program
        (place_notes world answers op (see world answers place) context listed)
        (expr_notes world answers context listed value)
        (noted_by program _ _ (noted.notes-Assign world answers context listed at op place value)
        whole.noted)

    pub assign_stores_noted : (op : AssignOp) (place value : Expr)
        → StmtNoted program context listed vars (stmts.Assign at op place value)
        → AreNoted program
        ((see world answers place).stores context (see world answers place).key)
    assign_stores_noted op place value whole =
        stores_noted op (see world answers place) (of_place op place value whole)

    pub assign_place_noted : (op : AssignOp) (place value : Expr) → op ≢ assigns.Set
        → StmtNoted program context listed vars (stmts.Assign at op place value)
        → ExprNoted program context listed vars place
    assign_place_noted op place value other whole = record {
      stands = standing.change_place_stands program.tables program.notes context listed vars at op
          place value other whole.stands;
      noted = read_noted op (see world answers place) other (of_place op place value whole);
    }

    -- The base of a place that is read stands,
    pub base_noted : (place : Expr) → ExprNoted program context listed vars place
        → BaseNoted program context listed vars place
    base_noted place whole base name is =
        member_base_noted program context listed vars base name
        (subst (ExprNoted program context listed vars) is whole)

    set_base_noted : (base : Expr) (name : Name) (value : Expr)
        → StmtNoted program context listed vars
        (stmts.Assign at assigns.Set (exprs.Member base name) value)
        → ExprNoted program context listed vars base
    set_base_noted base name value whole = record {
      stands = standing.set_base_stands program.tables program.notes context listed vars at base
          name value whole.stands;
      noted = noted_by program _ _ (noted.before-Member world answers context listed base name)
          (noted_left program ((see world answers (exprs.Member base name)).before context listed)
          _ (of_place assigns.Set (exprs.Member base name) value whole));
    }

    -- and that of one that is assigned.
    pub assign_base_noted : (op : AssignOp) (place value : Expr)
        → StmtNoted program context listed vars (stmts.Assign at op place value)
        → BaseNoted program context listed vars place
    assign_base_noted assigns.Set place value whole base name is =
        set_base_noted base name value
        (subst (λ these. StmtNoted program context listed vars
        (stmts.Assign at assigns.Set these value)) is whole)
    assign_base_noted assigns.Add place value whole base name is =
        base_noted place (assign_place_noted assigns.Add place value (λ same. cc) whole) base name
        is
    assign_base_noted assigns.Subtract place value whole base name is =
        base_noted place (assign_place_noted assigns.Subtract place value (λ same. cc) whole) base
        name
        is
    assign_base_noted assigns.Multiply place value whole base name is =
        base_noted place (assign_place_noted assigns.Multiply place value (λ same. cc) whole) base
        name
        is
    assign_base_noted assigns.Divide place value whole base name is =
        base_noted place (assign_place_noted assigns.Divide place value (λ same. cc) whole) base
        name
        is
    assign_base_noted assigns.Remainder place value whole base name is =
        base_noted place (assign_place_noted assigns.Remainder place value (λ same. cc) whole) base
        name
        is
