-- The body that a part of a program's tree is.
use Rattle.std.specs.Prelude.{ℕ, Bool, false, List, [], ◌∷◌, ◌++◌, map, Option, Some, None}
use Rattle.std.specs.Option.{option_copied}
use Rattle.sw_tree.specs.Folds.{fold_closure}
use Rattle.sw_tree.specs.declared.expr.Closure.{Closure}
use Rattle.sw_tree.specs.declared.decl.ParamTree.{ParamTree}
use Rattle.sw_tree.specs.declared.decl.PropTree.{PropTree}
use Rattle.sw_tree.specs.declared.stmt.Block.{Block}
use Rattle.sw_types.specs.declared.ty.Ty.{Ty}
use Rattle.sw_types.specs.declared.ty.Ty.TheVariants as types
use Rattle.sw_isolation_rules.specs.Answers.{for_some}
use Rattle.sw_isolation_rules.specs.Programs.{func_at}
use Rattle.sw_lower_bodies.specs.declared.body_tree.BodyForm.{BodyForm}
use Rattle.sw_lower_bodies.specs.declared.body_tree.BodyForm.TheVariants as form
use Rattle.sw_lower_bodies.specs.declared.body_tree.BodyTree.{BodyTree}
use Rattle.sw_lower_code.specs.Code.{Code}
use Rattle.sw_lower_code.specs.Whole.{Body}
use Rattle.sw_lower_code.specs.declared.taken.Taken.{Taken}
use Rattle.sw_lower_rules.specs.Bodies.{first_code, first_values, getter_code, init_code}
use Rattle.sw_lower_rules.specs.Bodies.{init_signed, param_taken, part_read, self_by, self_taken}
use Rattle.sw_lower_rules.specs.Bodies.{stored_read}
use Rattle.sw_lower_rules.specs.Carriers.{ClosureCode, Given}
use Rattle.sw_lower_rules.specs.Expressions.{body_code, closure_takes, fun_result, is_async_of}
use Rattle.sw_lower_rules.specs.Expressions.{iso_of, spawn_result}
use Rattle.sw_lower_rules.specs.Statements.{block_code, code_steps, expr_code}
use Rattle.sw_lower_rules.specs.Tables.{Tables}

module _ (tables : Tables) where
  -- a closure or the body of a task, in a member of the type with a number
  unfoldable pub closure_code : Option ℕ → Closure → ClosureCode
  closure_code owner = fold_closure (code_steps tables owner)

  -- what it takes
  abbrev pub takes_by : BodyForm → List Taken
  takes_by (form.Declared params block func) =
      self_taken tables func.now.owner ++ map (param_taken tables) params.now
  takes_by (form.Init number shape props params block func) = map (param_taken tables) params.now
  takes_by (form.Closure owner closure) = closure_takes tables owner
      (closure_code owner closure.now).at (closure_code owner closure.now).params
  takes_by (form.Task owner at closure) =
      closure_takes tables owner (closure_code owner closure.now).at []
  takes_by (form.PartGetter number index shape part) = self_by number shape.now ∷ []
  takes_by (form.GlobalGetter index global) = []
  takes_by (form.FirstValue index value) = []

  -- whether its result is `sending` (SE-0430)
  abbrev pub sends_by : BodyForm → Bool
  sends_by (form.Declared params block func) = func.now.sends
  sends_by (form.Init number shape props params block func) = func.now.sends
  sends_by (form.Closure owner closure) = false
  sends_by (form.Task owner at closure) = false
  sends_by (form.PartGetter number index shape part) = false
  sends_by (form.GlobalGetter index global) = false
  sends_by (form.FirstValue index value) = false

  abbrev pub result_by : BodyForm → Ty
  result_by (form.Declared params block func) = func.now.result
  result_by (form.Init number shape props params block func) = func.now.result
  result_by (form.Closure owner closure) =
      fun_result tables owner (closure_code owner closure.now).at
  result_by (form.Task owner at closure) = spawn_result tables owner at
  result_by (form.PartGetter number index shape part) = part.now.ty
  result_by (form.GlobalGetter index global) = global.now.ty
  result_by (form.FirstValue index value) = types.Unit

  -- what the statements of an initialiser give, where it is written
  abbrev pub gives_by : ℕ → Option Block → List Given
  gives_by number None = []
  gives_by number (Some block) = (block_code tables (Some number) block).gives

  abbrev pub code_by : ℕ → BodyForm → Code (Unit {0})
  code_by key (form.Declared params block func) =
      body_code func.now.result (block_code tables func.now.owner block.now)
  code_by key (form.Init number shape props params block func) =
      init_code key number shape.now
      (first_values tables number props.now ++ gives_by number (option_copied block))
  code_by key (form.Closure owner closure) =
      body_code (fun_result tables owner (closure_code owner closure.now).at)
      (closure_code owner closure.now).body
  code_by key (form.Task owner at closure) =
      body_code (spawn_result tables owner at) (closure_code owner closure.now).body
  code_by key (form.PartGetter number index shape part) =
      getter_code (part_read key index part.now.ty)
  code_by key (form.GlobalGetter index global) =
      getter_code (stored_read key index global.now.ty)
  code_by key (form.FirstValue index value) =
      first_code key index (expr_code tables None value.now).read

  abbrev pub body_by : BodyTree → Body
  body_by tree = record {
    key = tree.key;
    getter = tree.getter;
    iso = tree.iso;
    is_async = tree.is_async;
    takes = takes_by tree.form;
    sends = sends_by tree.form;
    result = result_by tree.form;
    code = code_by tree.key tree.form;
  }

  -- the body with a key, a getter or not, isolated as is known
  abbrev pub known_body : ℕ → Bool → BodyForm → Body
  known_body key getter form = body_by (record {
    key = key;
    getter = getter;
    iso = iso_of (tables.isolation.body_at key);
    is_async = is_async_of (tables.isolation.body_at key);
    form = form;
  })

  -- bodies in order
  unfoldable pub bodies_by : List BodyTree → List Body
  bodies_by trees = map body_by trees

  -- the initialiser with a key of the type with a number
  abbrev pub init_with : ℕ → List PropTree → ℕ → List ParamTree → Option Block → List Body
  init_with number props key params block =
      for_some (func_at tables.world tables.answers key)
      (init_signed tables number props params (gives_by number block))
