-- Tables to which more is noted.
use Rattle.std.proofs.Common.{◌≡◌, ℕ, Bool, List, [], ◌∷◌, ◌++◌, Some, None, drop, take, refl}
use Rattle.std.proofs.Common.{ap, sym}
use Rattle.std.proofs.Common.{append_assoc, ◌∙◌, arith, Option}
use Rattle.std.proofs.Common.{◌+◌, ◌<◌, zero, suc, length, get_or, map, is_some, not}
use Rattle.std.proofs.lemmas.Grind.{common_steps, flat_map-append}
use Rattle.std.proofs.lemmas.List.{take-append-drop}
use Rattle.std.specs.Prelude.{◌&&◌}
use Rattle.std.specs.List.{slice_get}
use Rattle.sw_tree.specs.declared.name.Name.{Name}
use Rattle.sw_tree.specs.declared.stmt.CaseArm.{CaseArm}
use Rattle.sw_tree.specs.declared.stmt.Pattern.{Pattern}
use Rattle.sw_tree.specs.declared.stmt.Pattern.TheVariants.{Skip, Let}
use Rattle.sw_types.specs.declared.shape.CaseShape.{CaseShape}
use Rattle.sw_types.specs.declared.ty.Ty.{Ty}
use Rattle.sw_typing_rules.specs.Doubts.{bare_in}
use Rattle.sw_typing_rules.specs.Statements.{bind_left, refused, return_value, variable, vars_rows}
use Rattle.sw_typing_rules.specs.Statements.{pattern_vars, switch_fits}
use Rattle.sw_typing_rules.specs.Verdicts.{all_well, ill_unless, variable_rows}
use Rattle.sw_typing_rules.specs.declared.row.Row.{Row}
use Rattle.sw_typing_rules.specs.declared.scope.Returned.{Returned}
use Rattle.sw_typing_rules.specs.declared.scope.Returned.TheVariants.{Wants, Open, Gives}
use Rattle.sw_typing_rules.specs.declared.scope.Var.{Var}
use Rattle.sw_typing_steps.specs.Results.{value_rows, with_value}
use Rattle.sw_typing_steps.specs.Steps.{after, cut, judged_since, state_of, with_rows}
use Rattle.sw_typing_steps.specs.Variables.{with_variables}
use Rattle.sw_typing_steps.specs.declared.known.Known.{Known}
use Rattle.sw_typing_steps.specs.declared.known.Went.{Went}
use Rattle.sw_typing_steps.specs.Switches.{head_at, pattern_var, switched}
use Rattle.sw_typing_steps.specs.declared.table.Table.{Table}

-- what was noted since the table had `start` rows stands before what is noted then
pub seam : (start : ℕ) (rows more : List Row)
    → rows ++ more ≡ take start rows ++ (drop start rows ++ more)
seam start rows more = ap (λ all. all ++ more) (sym (take-append-drop start rows))
    ∙ append_assoc (take start rows) (drop start rows) more

seam_end : (start : ℕ) (rows : List Row) → rows ++ [] ≡ take start rows ++ drop start rows
seam_end start rows = grind (arith, common_steps, take-append-drop start rows)

-- the table with these rows
abbrev with : Table → List Var → Returned → List Row → Table
with table vars returned rows = record { vars = vars; rows = rows; returned = returned }

pub bound_open : (start : ℕ) (table : Table) (mutable : Bool) (name : Name) (value : Known)
    → record table {
      vars = table.vars ++ variable name mutable value.ty ∷ [];
      rows = table.rows ++ variable_rows name.at value.ty;
    } ≡ after (cut start table) (bind_left (state_of table) mutable name None
    (judged_since value start table))
bound_open start table mutable name value =
    ap (with table (table.vars ++ variable name mutable value.ty ∷ []) table.returned)
    (seam start table.rows (variable_rows name.at value.ty))

pub bound_written : (start : ℕ) (table : Table) (mutable : Bool) (name : Name) (ty : Ty)
    (value : Known)
    → record table {
      vars = table.vars ++ variable name mutable (Some ty) ∷ [];
      rows = (table.rows ++ refused name.at value.ty ty) ++ variable_rows name.at (Some ty);
    } ≡ after (cut start table) (bind_left (state_of table) mutable name (Some ty)
    (judged_since value start table))
bound_written start table mutable name ty value =
    ap (with table (table.vars ++ variable name mutable (Some ty) ∷ []) table.returned)
    (append_assoc table.rows (refused name.at value.ty ty) (variable_rows name.at (Some ty))
    ∙ seam start table.rows (refused name.at value.ty ty
    ++ variable_rows name.at (Some ty)))

value_by : (start at : ℕ) (vars : List Var) (rows : List Row) (returned : Returned) (value : Known)
    → record {
      vars = vars;
      rows = rows ++ value_rows at value.ty returned;
      returned = with_value value.ty returned;
    } ≡ after (cut start (record { vars = vars; rows = rows; returned = returned }))
    (return_value returned (record { vars = vars; returned = returned }) at
    (judged_since value start (record { vars = vars; rows = rows; returned = returned })))
value_by start at vars rows (Wants ty) value =
    ap (λ all. record { vars = vars; rows = all; returned = Wants ty }) (seam start rows _)
value_by start at vars rows (Open places) value =
    ap (λ all. record { vars = vars; rows = all; returned = Gives value.ty }) (seam start rows _)
value_by start at vars rows (Gives None) value =
    ap (λ all. record { vars = vars; rows = all; returned = Gives None }) (seam_end start rows)
value_by start at vars rows (Gives (Some ty)) value =
    ap (λ all. record { vars = vars; rows = all; returned = Gives (Some ty) }) (seam start rows _)

pub returned_value : (start at : ℕ) (table : Table) (value : Known)
    → record {
      vars = table.vars;
      rows = table.rows ++ value_rows at value.ty table.returned;
      returned = with_value value.ty table.returned;
    } ≡ after (cut start table) (return_value table.returned (state_of table) at
    (judged_since value start table))
returned_value start at table value =
    value_by start at table.vars table.rows table.returned value

-- variables that are declared after one
pub one_more : (table : Table) (var : Var) (vars : List Var)
    → with_variables (record table {
      vars = table.vars ++ var ∷ [];
      rows = table.rows ++ variable_rows var.at var.ty;
    }) vars ≡ with_variables table (var ∷ vars)
one_more table var vars =
    ap (λ all. record {
      vars = all;
      rows = (table.rows ++ variable_rows var.at var.ty) ++ vars_rows vars;
      returned = table.returned;
    }) (append_assoc table.vars (var ∷ []) vars)
    ∙ ap (with table (table.vars ++ var ∷ vars) table.returned)
    (append_assoc table.rows (variable_rows var.at var.ty) (vars_rows vars))

pub more_variables : (table : Table) (vars more : List Var)
    → with_variables (with_variables table vars) more ≡ with_variables table (vars ++ more)
more_variables table vars more =
    ap (λ all. record {
      vars = all;
      rows = (table.rows ++ vars_rows vars) ++ vars_rows more;
      returned = table.returned;
    }) (append_assoc table.vars vars more)
    ∙ ap (with table (table.vars ++ (vars ++ more)) table.returned)
    (append_assoc table.rows (vars_rows vars) (vars_rows more)
    ∙ ap (λ all. table.rows ++ all)
    (sym (flat_map-append (λ (one : Var). variable_rows one.at one.ty) vars more)))

-- the variables of a pattern and of those after it
pub pattern_step : (patterns : List Pattern) (tys : List Ty) (i : ℕ) (other : Pattern)
    → i < length patterns → pattern_vars (drop i patterns) (drop i tys)
    ≡ pattern_var (get_or patterns i other) (slice_get tys i)
    ++ pattern_vars (drop (i + 1) patterns) (drop (i + 1) tys)
pattern_step [] tys i other within = absurd (omega arith)
pattern_step (Skip at ∷ patterns) [] zero other within = refl
pattern_step (Skip at ∷ patterns) (ty ∷ tys) zero other within = refl
pattern_step (Let name ∷ patterns) [] zero other within = refl
pattern_step (Let name ∷ patterns) (ty ∷ tys) zero other within = refl
pattern_step (pattern ∷ patterns) [] (suc i) other within =
    let below : i < length patterns = omega arith in
    grind (arith, pattern_step patterns [] i other below)
pattern_step (pattern ∷ patterns) (ty ∷ tys) (suc i) other within =
    let below : i < length patterns = omega arith in
    grind (arith, pattern_step patterns tys i other below)

-- the table after one more pattern
pub patterns_more : (table more : Table) (patterns : List Pattern) (tys : List Ty) (i : ℕ)
    (other : Pattern) (ty : Option Ty) (all : Table) → i < length patterns → ty ≡ slice_get tys i
    → more ≡ with_variables table (pattern_var (get_or patterns i other) ty)
    → with_variables table (pattern_vars (drop i patterns) (drop i tys)) ≡ all
    → with_variables more (pattern_vars (drop (i + 1) patterns) (drop (i + 1) tys)) ≡ all
patterns_more table more patterns tys i other ty all within typed one rest =
    let later = pattern_vars (drop (i + 1) patterns) (drop (i + 1) tys) in
    ap (λ t. with_variables t later) one
    ∙ ap (λ t. with_variables (with_variables table
    (pattern_var (get_or patterns i other) t)) later) typed
    ∙ more_variables table (pattern_var (get_or patterns i other) (slice_get tys i)) later
    ∙ ap (with_variables table) (sym (pattern_step patterns tys i other within))
    ∙ rest

pub switched_end : (cases : Option (List CaseShape)) (start at : ℕ) (subject : Known)
    (arms : List CaseArm) (otherwise : Bool) (inner : Went) (table now : Table) (typed fits : Bool)
    → typed ≡ is_some subject.ty → fits ≡ switch_fits cases (map head_at arms) otherwise
    → now ≡ with_rows table (ill_unless (typed && (all_well (drop start table.rows) && not fits))
    at 405 (bare_in at table.returned))
    → now ≡ after (cut start table) (switched cases start at subject arms otherwise inner table)
switched_end cases start at subject arms otherwise inner table now typed fits is_typed is_fit
    noted =
    let bare = bare_in at table.returned in
    noted
    ∙ ap (λ b. with_rows table
    (ill_unless (b && (all_well (drop start table.rows) && not fits)) at 405 bare)) is_typed
    ∙ ap (λ b. with_rows table (ill_unless (is_some subject.ty
    && (all_well (drop start table.rows) && not b)) at 405 bare)) is_fit
    ∙ ap (with table table.vars table.returned) (seam start table.rows _)
