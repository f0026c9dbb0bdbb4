-- A call by a word and a call of a member, by how they are judged.
use Rattle.std.proofs.Common.{◌≡◌, ℕ, Bool, false, List, [], ◌++◌, map, Option, Some, None, refl}
use Rattle.std.proofs.Common.{ap, sym, ◌∙◌, subst}
use Rattle.sw_tree.specs.Folds.{fold_arg}
use Rattle.sw_tree.specs.declared.expr.Arg.{Arg}
use Rattle.sw_tree.specs.declared.expr.Expr.{Expr}
use Rattle.sw_tree.specs.declared.expr.Expr.TheVariants as exprs
use Rattle.sw_tree.specs.declared.name.Name.{Name}
use Rattle.sw_tree.proofs.FoldEquations as eq
use Rattle.sw_typing_rules.specs.Calls.{slots_of}
use Rattle.sw_typing_rules.specs.Expressions.{Judged, Passed, base_rows, call_callee}
use Rattle.sw_typing_rules.specs.Expressions.{method_callee}
use Rattle.sw_typing_rules.specs.Judges as is
use Rattle.sw_typing_rules.specs.Words.{Setting}
use Rattle.sw_typing_rules.specs.declared.row.Meaning.{Meaning}
use Rattle.sw_isolation_rules.specs.Uses.{used}
use Rattle.sw_isolation_rules.specs.declared.uses.Context.{Context}
use Rattle.sw_lower_plans.specs.Run.{Making}
use Rattle.sw_lower_rules.specs.Carriers.{ArgCode, ExprCode}
use Rattle.sw_lower_rules.specs.Expressions.{args_inside, call_read, method_read, value}
use Rattle.sw_lower_rules.specs.Statements.{code_steps, expr_code}
use Rattle.sw_lower_formed_facts.specs.Forms.{ExprOk}
use Rattle.sw_typing_facts.specs.Rows.{RowsHold}
use Rattle.sw_lower_formed_facts.proofs.Expressions.Typed.{has_type, valued_rows}
use Rattle.sw_typing_facts.proofs.Said.Rows.{rows_left, rows_right}
use Rattle.sw_lower_total_facts.proofs.Trees.Enums.{enum_alone}
use Rattle.sw_lower_placed_facts.specs.Claims.{AreOrdinary, ReadPlaced}
use Rattle.sw_lower_placed_facts.specs.Hosts.{IsSeenFrom, IsHost, Program, Host}
use Rattle.sw_lower_placed_facts.proofs.Forms.Bases.{func_use, part_use, same_base, seen_base, code_base}
use Rattle.sw_lower_placed_facts.proofs.Forms.Callees.{MethodMeans, called_means, method_means}
use Rattle.sw_lower_placed_facts.proofs.Forms.Calls.{call_by, case_called, method_by}
use Rattle.sw_lower_placed_facts.proofs.Forms.Claims.{ArgsClaim, ArgsPlaced, ExprClaim}
use Rattle.sw_lower_placed_facts.proofs.Forms.Joining.{inside_left, inside_right}
use Rattle.sw_lower_placed_facts.proofs.Forms.Noted.{call_args_noted, method_args_noted}
use Rattle.sw_lower_placed_facts.proofs.Forms.Noted.{method_base_noted}
use Rattle.sw_lower_placed_facts.proofs.Forms.Shaping.{inside_form, value_by}
use Rattle.sw_lower_placed_facts.proofs.Forms.Typed.{Sound, typed_ok}
use Rattle.sw_lower_placed_facts.proofs.Forms.UseNotes.{call_used, method_used}
use Rattle.sw_lower_placed_facts.proofs.Forms.Values.{Gives}
use Rattle.sw_lower_placed_facts.proofs.Uses.Using.{IsUsed}

-- A call of a member means what it may, and its base is read.
module _ (program : Program) (sound : Sound program) (host : Host)
    (is_host : IsHost program host) (context : Context) (seen : IsSeenFrom host context)
    (base : Expr) (one : Judged) (at : ℕ) (args : List ArgCode)
    (args_placed : ArgsPlaced program host args)
    (same : seen_base program base
    ≡ code_base program (expr_code program.tables host.owner base)) where
  abbrev code : ExprCode
  code = expr_code program.tables host.owner base

  abbrev Inside : Type 0
  Inside = AreOrdinary program (code.inside ++ args_inside args)

  abbrev Called : Option Meaning → Type 0
  Called meaning = (s : Making)
      → Gives program host s (method_read program.tables host.owner at code args meaning) Inside

  method_called : (meaning : Meaning) → program.tables.answers.meaning_at at ≡ Some meaning
      → (named : Option ℕ) → one.enum ≡ named → MethodMeans named meaning
      → ((k : ℕ) → one.enum ≡ Some k → code.inside ≡ [])
      → (one.enum ≡ None
      → ExprOk program.tables program.numbers program.functions host.owner code one)
      → (one.enum ≡ None → ReadPlaced program host code)
      → IsUsed program context at (used program.tables.world program.tables.answers context.owner
      (seen_base program base) at)
      → Called (Some meaning)
  method_called meaning means_is (Some k) is so alone ok read used =
      subst (λ m. Called (Some m)) (sym so.1)
      (case_called program host sound.settled is_host context seen at args args_placed code k so.0
      (alone k is))
  method_called meaning means_is None is so alone ok read used =
      method_by program host sound.settled is_host context seen at args args_placed code meaning
      means_is so one (ok is) (read is)
      (λ n same_func. func_use program context (IsUsed program context at) at
      (seen_base program base) code same n (means_is ∙ ap Some same_func) used)
      (λ i same_part. part_use program context (IsUsed program context at) at
      (seen_base program base) code same i (means_is ∙ ap Some same_part) used)

  -- the call, as its meaning says
  pub member_called : (meaning : Meaning) → program.tables.answers.meaning_at at ≡ Some meaning
      → MethodMeans one.enum meaning → ((k : ℕ) → one.enum ≡ Some k → code.inside ≡ [])
      → (one.enum ≡ None
      → ExprOk program.tables program.numbers program.functions host.owner code one)
      → (one.enum ≡ None → ReadPlaced program host code)
      → IsUsed program context at (used program.tables.world program.tables.answers context.owner
      (seen_base program base) at)
      → Called (program.tables.answers.meaning_at at)
  member_called meaning means_is so alone ok read used =
      subst Called (sym means_is)
      (method_called meaning means_is one.enum refl so alone ok read used)

module _ (program : Program) (sound : Sound program) where
  pub call_claim : (setting : Setting) (expected : Bool) (name : Name) (args : List Arg)
      (passed : Passed)
      (of_args : is.Passes program.tables.world setting
      (slots_of (call_callee program.tables.world setting name)) args passed)
      → ArgsClaim program of_args
      → ExprClaim program (is.call setting expected name args passed of_args)
  unfolding expr_code used
  call_claim setting expected name args passed of_args claims host is_host same vars rows inside
      context listed seen =
      let these = map (fold_arg (code_steps program.tables host.owner)) args in
      let form = value name.at
      (call_read program.tables host.owner name.at these
      (program.tables.answers.meaning_at name.at)) (args_inside these) in
      let shape = eq.fold_expr-Call (code_steps program.tables host.owner) name args in
      let passed_rows = rows_left program.tables.answers passed.rows _
      (rows_left program.tables.answers _ _ rows) in
      value_by program host context listed setting.vars (exprs.Call name args) false name.at
      form.read form.inside shape
      (λ noted. call_by program host sound.settled is_host context seen name.at these
      (claims host is_host same vars passed_rows (inside_form program _ form shape inside) context
      listed seen (call_args_noted program context listed setting.vars name args noted))
      (program.tables.answers.meaning_at name.at) refl
      (call_used program sound.known context listed setting.vars name args noted))

  pub method_claim : (setting : Setting) (expected : Bool) (base : Expr) (name : Name)
      (args : List Arg) (one : Judged) (passed : Passed)
      (of_base : is.Judges program.tables.world setting false base one)
      (of_args : is.Passes program.tables.world setting
      (slots_of (method_callee program.tables.world one name)) args passed)
      → ExprClaim program of_base → ArgsClaim program of_args
      → ExprClaim program (is.method setting expected base name args one passed of_base of_args)
  unfolding expr_code
  method_claim setting expected base name args one passed of_base of_args claim claims host
      is_host same vars rows inside context listed seen =
      let these = map (fold_arg (code_steps program.tables host.owner)) args in
      let code = expr_code program.tables host.owner base in
      let form = value name.at
      (method_read program.tables host.owner name.at code these
      (program.tables.answers.meaning_at name.at)) (code.inside ++ args_inside these) in
      let shape = eq.fold_expr-Method (code_steps program.tables host.owner) base name args in
      let now = inside_form program _ form shape inside in
      let base_inside = inside_left program code.inside (args_inside these) now in
      let noted_rows = rows_left program.tables.answers _ _ rows in
      let value_rows : one.enum ≡ None → RowsHold program.tables.answers one.rows =
      λ none. valued_rows program.tables.world program.tables.answers one none
      (rows_left program.tables.answers (base_rows one) _ noted_rows) in
      let passed_rows = rows_left program.tables.answers passed.rows _
      (rows_right program.tables.answers (base_rows one) _ noted_rows) in
      let meant = called_means program.tables.answers name.at (base_rows one) passed
      (method_callee program.tables.world one name)
      (has_type program.tables setting expected _ _
      (is.method setting expected base name args one passed of_base of_args) vars rows) rows in
      value_by program host context listed setting.vars (exprs.Method base name args) false name.at
      form.read form.inside shape
      (λ noted. member_called program sound host is_host context seen base one name.at these
      (claims host is_host same vars passed_rows
      (inside_right program code.inside (args_inside these) now) context listed seen
      (method_args_noted program context listed setting.vars base name args noted))
      (same_base program host.owner setting false base one of_base) meant.0 meant.2
      (method_means program.tables.world one.enum one.ty name.id meant.0 meant.1)
      (λ k is. subst (λ owner. (expr_code program.tables owner base).inside ≡ []) same
      (enum_alone program.tables setting false base one of_base k is))
      (λ none. typed_ok program sound setting false base one of_base host same vars
      (value_rows none) base_inside)
      (λ none. (claim host is_host same vars (value_rows none) base_inside context listed
      seen).read (method_base_noted program context listed setting.vars base name args noted))
      (method_used program sound.known context listed setting.vars base name args noted))
