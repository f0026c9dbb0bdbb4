-- The code of the parts of an expression.
use Rattle.std.specs.Prelude.{ℕ, List, [], ◌∷◌, map, Option, Some, Ok}
use Rattle.sw_tree.specs.Folds.{fold_arg, fold_link}
use Rattle.sw_tree.specs.declared.expr.Arg.{Arg, out-Arg}
use Rattle.sw_tree.specs.declared.expr.Link.{Link, out-Link}
use Rattle.sw_graph.specs.declared.instr.Instr.TheVariants as instr
use Rattle.sw_graph.specs.declared.instr.Operand.{Operand}
use Rattle.sw_lower_plans.specs.Run.{Run, run_after}
use Rattle.sw_lower_code.specs.Code.{Code, each, emit, number, ◌>>=◌}
use Rattle.sw_lower_rules.specs.Carriers.{ArgCode, LinkCode}
use Rattle.sw_lower_rules.specs.Expressions.{args_read, by_op}
use Rattle.sw_lower_rules.specs.Statements.{code_steps, expr_code}
use Rattle.sw_lower_rules.specs.Tables.{Tables, plain}
use Rattle.sw_lower_rules.specs.Uses.{call_closure, call_func, capture, give, make_value, typed}

-- a value of a case of an enum
abbrev pub case_made : ℕ → ℕ → ℕ → List ArgCode → Code Operand
case_made at shape number args = args_read args >>= make_value at shape (Some number)

-- an assignment to a property of a cell
abbrev pub cell_written : ℕ → ℕ → Code Operand → Operand → Code (Unit {0})
cell_written at number read given = read >>= λ cell. emit (instr.StoreProp at cell number given)

module _ (tables : Tables) where
  -- a call of a closure, which was read
  abbrev pub held_called : ℕ → List ArgCode → Operand → Code Operand
  held_called at args closure =
      args_read args >>= λ operands. call_closure tables at closure operands

  -- a call of a method of a value, which was read
  abbrev pub method_called : ℕ → ℕ → List ArgCode → Operand → Code Operand
  method_called at number args receiver = args_read args
      >>= λ operands. call_func tables at number (receiver ∷ operands)

  -- the result of a task
  abbrev pub waited : ℕ → Operand → Code Operand
  waited at task = typed tables at >>= λ ty. give at ty (λ dst. instr.Await at dst task)

  -- what a closure captures, in order
  abbrev pub captured : ℕ → ℕ → Code (List Operand)
  captured at closure = each (capture tables at) (tables.isolation.captures_of closure)

  -- a closure as a value, by the key of its body
  abbrev pub closure_made : ℕ → Code Operand
  closure_made at = captured at at
      >>= λ operands. number (plain at)
      >>= λ function. typed tables at
      >>= λ ty. give at ty (λ dst. instr.NewClosure at dst function operands)

  -- a task, by the keys of its word and of its body
  abbrev pub task_made : ℕ → ℕ → Code Operand
  task_made at body = captured at body
      >>= λ operands. number (plain body)
      >>= λ function. typed tables at
      >>= λ ty. give at ty (λ dst. instr.NewTask at dst function operands)

  module _ (owner : Option ℕ) where
    unfoldable pub arg_codes : List Arg → List ArgCode
    arg_codes args = map (fold_arg (code_steps tables owner)) args

    unfoldable pub link_codes : List Link → List LinkCode
    link_codes links = map (fold_link (code_steps tables owner)) links

    -- the value of an argument
    abbrev pub arg_value : Arg → Code Operand
    arg_value arg = (expr_code tables owner (out-Arg arg).value).read

    -- an operator with its right operand, after its left value
    abbrev pub link_value : Link → Operand → Code Operand
    link_value link =
        by_op (out-Link link).op (out-Link link).at
        (expr_code tables owner (out-Link link).operand).read

    -- what runs for the operators of a chain, from the left
    abbrev pub links_run : List Link → Operand → Run Operand
    links_run [] left making = Ok (left, making)
    links_run (link ∷ links) left making =
        run_after ((link_value link left).run making) (links_run links)
