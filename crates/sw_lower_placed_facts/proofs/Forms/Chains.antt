-- Operators, `await` and arguments, by how they are judged.
use Rattle.std.proofs.Common.{ℕ, ◌<◌, Bool, false, List, ◌∷◌, ◌++◌, map, flat_map, Option}
use Rattle.std.proofs.Common.{length, sym, subst}
use Rattle.sw_tree.specs.Folds.{fold_arg, fold_link}
use Rattle.sw_tree.specs.declared.expr.Arg.{Arg}
use Rattle.sw_tree.specs.declared.expr.Expr.{Expr}
use Rattle.sw_tree.specs.declared.expr.Expr.TheVariants as exprs
use Rattle.sw_tree.specs.declared.expr.Link.{Link}
use Rattle.sw_tree.specs.declared.name.Name.{Name}
use Rattle.sw_tree.specs.declared.operator.InfixOp.{InfixOp}
use Rattle.sw_tree.specs.declared.operator.PrefixOp.{PrefixOp}
use Rattle.sw_tree.proofs.FoldEquations as eq
use Rattle.sw_typing_rules.specs.Calls.{Slot}
use Rattle.sw_typing_rules.specs.Expressions.{Judged, Passed, first_marked, infix_judged, later}
use Rattle.sw_typing_rules.specs.Judges as is
use Rattle.sw_typing_rules.specs.Words.{Setting}
use Rattle.sw_isolation_rules.specs.Noting.{in_await}
use Rattle.sw_lower_code.specs.Code.{done}
use Rattle.sw_lower_code.specs.Whole.{Body}
use Rattle.sw_lower_rules.specs.Carriers.{ArgCode, LinkCode}
use Rattle.sw_lower_rules.specs.Expressions.{args_inside, awaited, chain_code, links_read, prefixed}
use Rattle.sw_lower_rules.specs.Expressions.{value}
use Rattle.sw_lower_rules.specs.Statements.{code_steps, expr_code}
use Rattle.sw_lower_rules.specs.Uses.{operand}
use Rattle.sw_lower_formed_facts.proofs.Expressions.Typed.{rows_before}
use Rattle.sw_typing_facts.proofs.Said.Rows.{rows_left, rows_right}
use Rattle.sw_lower_placed_facts.specs.Claims.{AreInside, AreOrdinary}
use Rattle.sw_lower_placed_facts.specs.Hosts.{IsSeenFrom, Program}
use Rattle.sw_lower_placed_facts.proofs.Forms.Claims.{ArgsClaim, ArgsPlaced, ExprClaim, LinksClaim}
use Rattle.sw_lower_placed_facts.proofs.Forms.Claims.{LinksPlaced}
use Rattle.sw_lower_placed_facts.proofs.Forms.Joining.{both_ordinary, inside_left, inside_right}
use Rattle.sw_lower_placed_facts.proofs.Forms.Noted.{args_first_noted, args_more_noted}
use Rattle.sw_lower_placed_facts.proofs.Forms.Noted.{await_inner_noted, chain_first_noted}
use Rattle.sw_lower_placed_facts.proofs.Forms.Noted.{chain_rest_noted, links_first_noted}
use Rattle.sw_lower_placed_facts.proofs.Forms.Noted.{links_more_noted, prefix_inner_noted}
use Rattle.sw_lower_placed_facts.proofs.Forms.Operators.{more_args_placed, more_links_placed}
use Rattle.sw_lower_placed_facts.proofs.Forms.Operators.{no_args_placed, no_links_placed}
use Rattle.sw_lower_placed_facts.proofs.Forms.Operators.{prefixed_placed}
use Rattle.sw_lower_placed_facts.proofs.Forms.Shaping.{inside_form, value_by}
use Rattle.sw_lower_placed_facts.proofs.Forms.Values.{goes_read}
use Rattle.sw_lower_placed_facts.proofs.Placing.Joining.{places_done, places_then, places_weaker}

module _ (program : Program) where
  -- arguments
  pub no_args_claim : (setting : Setting) (slots : List Slot)
      → ArgsClaim program (is.passes_none setting slots)
  no_args_claim setting slots host is_host same vars rows inside context listed seen noted =
      no_args_placed program host

  pub more_args_claim : (setting : Setting) (slots : List Slot) (label : Option Name)
      (value : Expr) (args : List Arg) (one : Judged) (rest : Passed)
      (of_value : is.Judges program.tables.world setting (first_marked slots) value one)
      (of_rest : is.Passes program.tables.world setting (later slots) args rest)
      → ExprClaim program of_value → ArgsClaim program of_rest
      → ArgsClaim program
      (is.passes_one setting slots label value args one rest of_value of_rest)
  unfolding expr_code
  more_args_claim setting slots label value args one rest of_value of_rest claim claims host
      is_host same vars rows inside context listed seen noted =
      let head_is = eq.fold_arg-roll (code_steps program.tables host.owner) label value in
      let code = expr_code program.tables host.owner value in
      let more = map (fold_arg (code_steps program.tables host.owner)) args in
      let now = subst (λ (arg : ArgCode). AreInside program (arg.inside ++ args_inside more))
      head_is inside in
      subst (λ arg. ArgsPlaced program host (arg ∷ more)) (sym head_is)
      (more_args_placed program host code more
      ((claim host is_host same vars (rows_left program.tables.answers one.rows rest.rows rows)
      (inside_left program code.inside (args_inside more) now) context listed seen).read
      (args_first_noted program context listed setting.vars label value args noted))
      (claims host is_host same vars (rows_right program.tables.answers one.rows rest.rows rows)
      (inside_right program code.inside (args_inside more) now) context listed seen
      (args_more_noted program context listed setting.vars _ args noted)))

  -- the operators of a chain
  pub no_links_claim : (setting : Setting) (left : Judged)
      → LinksClaim program (is.no_link setting left)
  no_links_claim setting left host is_host same vars rows inside context listed seen noted =
      no_links_placed program host

  abbrev links_inside : List LinkCode → List Body
  links_inside links = flat_map (λ (link : LinkCode). link.inside) links

  pub more_links_claim : (setting : Setting) (left : Judged) (op : InfixOp) (at : ℕ)
      (operand : Expr) (links : List Link) (right judged : Judged)
      (of_right : is.Judges program.tables.world setting false operand right)
      (of_rest : is.Links program.tables.world setting (infix_judged op at left right) links judged)
      → ExprClaim program of_right → LinksClaim program of_rest
      → LinksClaim program
      (is.one_link setting left op at operand links right judged of_right of_rest)
  unfolding expr_code
  more_links_claim setting left op at operand links right judged of_right of_rest claim claims
      host is_host same vars rows inside context listed seen noted =
      let head_is = eq.fold_link-roll (code_steps program.tables host.owner) op at operand in
      let code = expr_code program.tables host.owner operand in
      let more = map (fold_link (code_steps program.tables host.owner)) links in
      let now = subst (λ (link : LinkCode). AreInside program (link.inside ++ links_inside more))
      head_is inside in
      let before = rows_before program.tables setting (infix_judged op at left right) judged links
      of_rest rows in
      let right_rows = rows_right program.tables.answers left.rows right.rows
      (rows_left program.tables.answers (left.rows ++ right.rows) _ before) in
      subst (λ link. LinksPlaced program host (link ∷ more)) (sym head_is)
      (more_links_placed program host
      (record { op = op; at = at; read = code.read; inside = code.inside }) more
      (goes_read program host code
      ((claim host is_host same vars right_rows
      (inside_left program code.inside (links_inside more) now) context listed seen).read
      (links_first_noted program context listed setting.vars op at operand links noted)))
      (claims host is_host same vars rows
      (inside_right program code.inside (links_inside more) now) context listed seen
      (links_more_noted program context listed setting.vars _ links noted)))

  pub chain_claim : (setting : Setting) (expected : Bool) (first : Expr) (rest : List Link)
      (left judged : Judged) (of_first : is.Judges program.tables.world setting false first left)
      (of_rest : is.Links program.tables.world setting left rest judged)
      → ExprClaim program of_first → LinksClaim program of_rest
      → ExprClaim program (is.chain setting expected first rest left judged of_first of_rest)
  unfolding expr_code
  chain_claim setting expected first rest left judged of_first of_rest claim claims host is_host
      same vars rows inside context listed seen =
      let code = expr_code program.tables host.owner first in
      let links = map (fold_link (code_steps program.tables host.owner)) rest in
      let form = chain_code program.tables host.owner code links in
      let shape = eq.fold_expr-Chain (code_steps program.tables host.owner) first rest in
      let now = inside_form program _ form shape inside in
      value_by program host context listed setting.vars (exprs.Chain first rest) judged.settable
      form.key form.read form.inside shape
      (λ noted s.
      places_then s code.read (links_read links)
      (λ x t. (x.reg < length t.made.regs) × AreOrdinary program code.inside)
      (λ x t. (x.reg < length t.made.regs)
      × AreOrdinary program (code.inside ++ links_inside links))
      (places_weaker s code.read _ _
      ((claim host is_host same vars
      (rows_before program.tables setting left judged rest of_rest rows)
      (inside_left program code.inside (links_inside links) now) context listed seen).read
      (chain_first_noted program context listed setting.vars first rest noted) s)
      (λ x t later so. (so.0, so.1.1)))
      (λ x u later so.
      places_weaker u (links_read links x) _ _
      (claims host is_host same vars rows
      (inside_right program code.inside (links_inside links) now) context listed seen
      (chain_rest_noted program context listed setting.vars first rest noted) x u so.0)
      (λ y t after more. (
        more.0,
        both_ordinary program code.inside (links_inside links) so.1 more.1,
      ))))

  pub prefix_claim : (setting : Setting) (expected : Bool) (op : PrefixOp) (at : ℕ)
      (inner : Expr) (one : Judged)
      (of_inner : is.Judges program.tables.world setting false inner one)
      → ExprClaim program of_inner
      → ExprClaim program (is.prefix setting expected op at inner one of_inner)
  unfolding expr_code
  prefix_claim setting expected op at inner one of_inner claim host is_host same vars rows inside
      context listed seen =
      let code = expr_code program.tables host.owner inner in
      let shape = eq.fold_expr-Prefix (code_steps program.tables host.owner) op at inner in
      let now = inside_form program _ (value at _ code.inside) shape inside in
      value_by program host context listed setting.vars (exprs.Prefix op at inner) false at _
      code.inside shape
      (λ noted s.
      places_then s code.read (prefixed op at) (λ x t. AreOrdinary program code.inside) _
      (goes_read program host code
      ((claim host is_host same vars (rows_left program.tables.answers one.rows _ rows) now context
      listed seen).read
      (prefix_inner_noted program context listed setting.vars op at inner noted)) s)
      (λ x u later so. prefixed_placed program host op at x _ so u))

  pub await_claim : (setting : Setting) (expected : Bool) (at : ℕ) (inner : Expr) (one : Judged)
      (of_inner : is.Judges program.tables.world setting false inner one)
      → ExprClaim program of_inner
      → ExprClaim program (is.await setting expected at inner one of_inner)
  unfolding expr_code
  await_claim setting expected at inner one of_inner claim host is_host same vars rows inside
      context listed seen =
      let code = expr_code program.tables host.owner inner in
      let shape = eq.fold_expr-Await (code_steps program.tables host.owner) at inner in
      let now = inside_form program _ (value at _ code.inside) shape inside in
      let within : IsSeenFrom host (in_await context) =
      record { iso = seen.iso; owner = seen.owner } in
      value_by program host context listed setting.vars (exprs.Await at inner) false at
      (awaited program.tables host.owner at code) code.inside shape
      (λ noted s.
      places_then s code.read (λ given. done (operand given.reg at)) _
      (λ x t. (x.reg < length t.made.regs) × AreOrdinary program code.inside)
      ((claim host is_host same vars (rows_left program.tables.answers one.rows _ rows) now
      (in_await context) listed within).read
      (await_inner_noted program context listed setting.vars at inner noted) s)
      (λ x u later so.
      places_done u (operand x.reg at)
      (λ x t. (x.reg < length t.made.regs) × AreOrdinary program code.inside) (so.0, so.1.1)))
