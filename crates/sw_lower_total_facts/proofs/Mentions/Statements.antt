-- What the forms of statements mention.
use Rattle.std.proofs.Common.{◌≡◌, ℕ, Bool, true, List, [], ◌++◌, subst, flat_map, is_some, Option}
use Rattle.sw_tree.specs.declared.name.Name.{Name}
use Rattle.sw_tree.specs.declared.operator.AssignOp.{AssignOp}
use Rattle.sw_tree.specs.declared.operator.AssignOp.TheVariants as assigns
use Rattle.sw_tree.specs.declared.stmt.Pattern.{Pattern}
use Rattle.sw_types.specs.declared.shape.CaseShape.{CaseShape}
use Rattle.sw_types.specs.declared.ty.Ty.{Ty}
use Rattle.sw_typing_rules.specs.Expressions.{Judged}
use Rattle.sw_typing_rules.specs.Statements.{Head, Left, heads_fit, pattern_vars, switch_left}
use Rattle.sw_typing_rules.specs.declared.scope.Var.{Var}
use Rattle.sw_typing_rules.proofs.Steps.{fits_heads}
use Rattle.sw_isolation_rules.specs.Answers.{Answers}
use Rattle.sw_isolation_rules.specs.Noting.{Notes, Seen, place_notes, var_notes}
use Rattle.sw_isolation_rules.specs.declared.uses.Context.{Context}
use Rattle.sw_lower_rules.specs.Tables.{Tables}
use Rattle.sw_typing_facts.specs.Rows.{RowsHold}
use Rattle.sw_lower_formed_facts.proofs.Statements.Cases.{fits_cases}
use Rattle.sw_tree.specs.Scopes.{Scoped, both, declaring, pattern_names}
use Rattle.sw_lower_total_facts.proofs.Mentions.Declared.{Declares, declared_covers, patterns_named}
use Rattle.sw_lower_total_facts.proofs.Mentions.Notes.{Silent}
use Rattle.sw_lower_total_facts.proofs.Mentions.Seen.{SeenWithin, Within, after, within_both}
use Rattle.sw_lower_total_facts.proofs.Mentions.Seen.{within_joined, within_more, within_silent}
use Rattle.sw_lower_total_facts.proofs.Mentions.Silent.{var_silent}

module _ (tables : Tables) where
  pub bind_within : (vars : List Var) (scoped : Scoped) (mutable : Bool) (at : ℕ) (value : Notes)
      → Within tables vars scoped value
      → Within tables vars scoped (λ context listed. var_notes mutable at ++ value context listed)
  bind_within vars scoped mutable at value within =
      within_both tables vars scoped (λ context listed. var_notes mutable at) value
      (within_silent tables vars scoped _
      (λ context listed. var_silent tables.world tables.answers mutable at)) within

  -- assignments
  place_within : (vars : List Var) (scoped : Scoped) (op : AssignOp) (place : Seen)
      → SeenWithin tables vars scoped place
      → ((context : Context) (at : ℕ) → Silent (place.stores context at))
      → Within tables vars scoped (place_notes tables.world tables.answers op place)
  place_within vars scoped op place within silent = by op where
    stores : Within tables vars scoped (λ context listed. place.stores context place.key)
    stores = within_silent tables vars scoped _ (λ context listed. silent context place.key)

    read : Within tables vars scoped
        (λ context listed. place.notes context listed ++ place.stores context place.key)
    read = within_both tables vars scoped place.notes _ within.notes stores

    by : (one : AssignOp)
        → Within tables vars scoped (place_notes tables.world tables.answers one place)
    by assigns.Set = within_both tables vars scoped place.before _ within.before stores
    by assigns.Add = read
    by assigns.Subtract = read
    by assigns.Multiply = read
    by assigns.Divide = read
    by assigns.Remainder = read

  pub assign_within : (vars : List Var) (scoped more : Scoped) (op : AssignOp)
      (place value : Seen) → SeenWithin tables vars scoped place
      → ((context : Context) (at : ℕ) → Silent (place.stores context at))
      → Within tables vars more value.notes
      → Within tables vars (both scoped more)
      (λ context listed. place_notes tables.world tables.answers op place context listed
      ++ value.notes context listed)
  assign_within vars scoped more op place value of_place silent of_value =
      within_joined tables vars scoped more (place_notes tables.world tables.answers op place)
      value.notes (place_within vars scoped op place of_place silent) of_value

  -- three parts
  pub three_within : (vars : List Var) (first second third : Scoped) (one two three : Notes)
      → Within tables vars first one → Within tables vars second two
      → Within tables vars third three
      → Within tables vars (both (both first second) third)
      (λ context listed. one context listed ++ two context listed ++ three context listed)
  three_within vars first second third one two three of_one of_two of_three =
      within_joined tables vars (both first second) third (after tables one two) three
      (within_joined tables vars first second one two of_one of_two) of_three

  -- statements after a statement
  pub then_within : (vars later : List Var) (names : List Name) (scoped more : Scoped)
      (one other : Notes) → Declares vars later names → Within tables vars scoped one
      → Within tables later more other
      → Within tables vars (both scoped (declaring names [] more)) (after tables one other)
  then_within vars later names scoped more one other declares first rest =
      within_joined tables vars scoped (declaring names [] more) one other first
      (within_more tables (vars ++ declares.more) vars more (declaring names [] more) other
      (declared_covers tables vars declares.more names more declares.named)
      (subst (λ seen. Within tables seen more other) declares.are rest))

  -- an arm of a `switch`, whose patterns are variables
  pub case_within : (vars : List Var) (patterns : List Pattern) (tys : List Ty) (scoped : Scoped)
      (body : Notes) → Within tables (vars ++ pattern_vars patterns tys) scoped body
      → Within tables vars (declaring (flat_map pattern_names patterns) [] scoped) body
  case_within vars patterns tys scoped body within =
      within_more tables (vars ++ pattern_vars patterns tys) vars scoped
      (declaring (flat_map pattern_names patterns) [] scoped) body
      (declared_covers tables vars (pattern_vars patterns tys) (flat_map pattern_names patterns)
      scoped (patterns_named patterns tys)) within

-- The arms of a `switch` that isn't ill fit its cases.
pub heads_of : (answers : Answers) (cases : Option (List CaseShape)) (at : ℕ) (judged : Judged)
    (heads : List Head) (otherwise : Bool) (inner : Left) → is_some judged.ty ≡ true
    → RowsHold answers (switch_left cases at judged heads otherwise inner).rows
    → heads_fit cases heads ≡ true
heads_of answers cases at judged heads otherwise inner typed hold =
    fits_heads cases heads otherwise
    (fits_cases answers cases at judged heads otherwise inner typed hold)
