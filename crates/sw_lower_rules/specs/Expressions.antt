-- The code of expressions, by one step for each form.
use Rattle.std.specs.Prelude.{ℕ, Bool, true, false, List, [], ◌∷◌, ◌++◌, map, flat_map, Option}
use Rattle.std.specs.Prelude.{Some, None, if◌then◌else◌}
use Rattle.std.specs.Option.{option_map_or}
use Rattle.sw_tree.specs.NodeKey.{last_or}
use Rattle.sw_tree.specs.declared.expr.ClosureParam.{ClosureParam}
use Rattle.sw_tree.specs.declared.expr.Expr.TheOpen as layer
use Rattle.sw_tree.specs.declared.operator.InfixOp.{InfixOp}
use Rattle.sw_tree.specs.declared.operator.InfixOp.TheVariants as infix_of
use Rattle.sw_tree.specs.declared.operator.PrefixOp.{PrefixOp}
use Rattle.sw_tree.specs.declared.operator.PrefixOp.TheVariants as prefix_of
use Rattle.sw_types.specs.declared.isolation.Iso.{Iso}
use Rattle.sw_types.specs.declared.isolation.Iso.TheVariants as iso
use Rattle.sw_types.specs.declared.shape.ShapeKind.{ShapeKind}
use Rattle.sw_types.specs.declared.shape.ShapeKind.TheVariants as shapes
use Rattle.sw_types.specs.declared.ty.Ty.{Ty}
use Rattle.sw_types.specs.declared.ty.Ty.TheVariants as types
use Rattle.sw_graph.specs.declared.function.RegKind.{RegKind}
use Rattle.sw_graph.specs.declared.function.RegKind.TheVariants.{Plain, BoxOf}
use Rattle.sw_graph.specs.declared.instr.BinOp.{BinOp}
use Rattle.sw_graph.specs.declared.instr.BinOp.TheVariants as bin
use Rattle.sw_graph.specs.declared.instr.Instr.TheVariants as instr
use Rattle.sw_graph.specs.declared.instr.Last.TheVariants as last
use Rattle.sw_graph.specs.declared.instr.Literal.TheVariants as literals
use Rattle.sw_graph.specs.declared.instr.Operand.{Operand}
use Rattle.sw_graph.specs.declared.instr.UnOp.TheVariants as un
use Rattle.sw_typing_rules.specs.Verdicts.{is_unit}
use Rattle.sw_typing_rules.specs.declared.row.Meaning.{Meaning}
use Rattle.sw_typing_rules.specs.declared.row.Meaning.TheVariants as means
use Rattle.sw_isolation_rules.specs.Captures.{is_among, self_of}
use Rattle.sw_isolation_rules.specs.Noting.{task_result}
use Rattle.sw_isolation_rules.specs.declared.note.BodyIso.{BodyIso}
use Rattle.sw_isolation_rules.specs.declared.note.Capture.{Capture}
use Rattle.sw_lower_code.specs.Code.{Code, block_for, close, done, each, emit, known, number, reg}
use Rattle.sw_lower_code.specs.Code.{resume, ◌>>=◌, ◌>>◌}
use Rattle.sw_lower_plans.specs.Plan.{Anywhere}
use Rattle.sw_lower_code.specs.Whole.{Body}
use Rattle.sw_lower_code.specs.declared.taken.Taken.{Taken}
use Rattle.sw_lower_rules.specs.Carriers.{ArgCode, BlockCode, CaseCode, ClosureCode, ExprCode}
use Rattle.sw_lower_rules.specs.Carriers.{IfCode, LinkCode, StmtCode, no_targets}
use Rattle.sw_lower_rules.specs.Tables.{Tables, func_result, or_void, plain}
use Rattle.sw_lower_rules.specs.Uses.{call_closure, call_func, capture, give, make, make_value}
use Rattle.sw_lower_rules.specs.Uses.{operand, read_global, read_own, read_part, read_self}
use Rattle.sw_lower_rules.specs.Uses.{read_var, read_word, shape_at, shape_of, typed, unknown}
use Rattle.sw_lower_rules.specs.Uses.{write_var}

abbrev pub block_made : Code ℕ
block_made = block_for Anywhere

-- the block that goes on ends with a jump
abbrev pub jump : ℕ → Code (Unit {0})
jump to = close (last.Jump to)

-- an operator between two values
abbrev pub binary : ℕ → BinOp → Ty → Code Operand → Operand → Code Operand
binary at op ty right left = right >>= λ other. give at ty (λ dst. instr.Bin at dst op left other)

-- `&&` and `||` keep the left value where the right one isn't looked at.
abbrev pub copied : ℕ → Operand → Code ℕ
copied at value = reg (Plain types.Bool) >>= λ dst. emit (instr.Copy at dst value) >> done dst

-- the right value, in the block that is its own
abbrev pub right_in : ℕ → ℕ → Code Operand → ℕ → ℕ → Code Operand
right_in at dst right own merge = resume own
    >> right >>= λ other. emit (instr.Copy at dst other)
    >> jump merge >> resume merge >> done (operand dst at)

abbrev pub both : ℕ → Code Operand → Operand → Code Operand
both at right left = copied at left
    >>= λ dst. block_made
    >>= λ own. block_made
    >>= λ merge. close (last.Branch left own merge) >> right_in at dst right own merge

abbrev pub either : ℕ → Code Operand → Operand → Code Operand
either at right left = copied at left
    >>= λ dst. block_made
    >>= λ own. block_made
    >>= λ merge. close (last.Branch left merge own) >> right_in at dst right own merge

abbrev pub by_op : InfixOp → ℕ → Code Operand → Operand → Code Operand
by_op infix_of.Or at right left = either at right left
by_op infix_of.And at right left = both at right left
by_op infix_of.Equal at right left = binary at bin.Eq types.Bool right left
by_op infix_of.NotEqual at right left = binary at bin.Ne types.Bool right left
by_op infix_of.Less at right left = binary at bin.Lt types.Bool right left
by_op infix_of.LessEqual at right left = binary at bin.Le types.Bool right left
by_op infix_of.Greater at right left = binary at bin.Gt types.Bool right left
by_op infix_of.GreaterEqual at right left = binary at bin.Ge types.Bool right left
by_op infix_of.Add at right left = binary at bin.Add types.Int right left
by_op infix_of.Subtract at right left = binary at bin.Sub types.Int right left
by_op infix_of.Multiply at right left = binary at bin.Mul types.Int right left
by_op infix_of.Divide at right left = binary at bin.Div types.Int right left
by_op infix_of.Remainder at right left = binary at bin.Rem types.Int right left

-- the operators of a chain, from the left
unfoldable pub links_read : List LinkCode → Operand → Code Operand
links_read [] left = done left
links_read (link ∷ links) left = by_op link.op link.at link.read left >>= links_read links

abbrev pub prefixed : PrefixOp → ℕ → Operand → Code Operand
prefixed prefix_of.Not at value = give at types.Bool (λ dst. instr.Un at dst un.Not value)
prefixed prefix_of.Negate at value = give at types.Int (λ dst. instr.Un at dst un.Neg value)

abbrev pub args_read : List ArgCode → Code (List Operand)
args_read args = each (λ (arg : ArgCode). arg.read) args

abbrev pub args_inside : List ArgCode → List Body
args_inside args = flat_map (λ (arg : ArgCode). arg.inside) args

-- no accepted program assigns to this
abbrev pub unwritten : Operand → Code (Unit {0})
unwritten given = known tt None

-- an expression that is no place
abbrev pub value : ℕ → Code Operand → List Body → ExprCode
value key read inside = record {
  key = key;
  is_self = false;
  own_part = None;
  read = read;
  write = unwritten;
  inside = inside;
}

-- A body ends with its only expression where that is its result, else with nothing.
abbrev pub with_result : Option (Code Operand) → BlockCode → Code (Unit {0})
with_result None block = block.code no_targets >> close (last.Return None)
with_result (Some read) block = read >>= λ given. close (last.Return (Some given))

unfoldable pub body_code : Ty → BlockCode → Code (Unit {0})
body_code result block =
    with_result (if is_unit result then None else block.only) block

abbrev pub iso_of : Option BodyIso → Iso
iso_of None = iso.Free
iso_of (Some body) = body.iso

abbrev pub is_async_of : Option BodyIso → Bool
is_async_of None = false
is_async_of (Some body) = body.is_async

abbrev pub own_part_of : Bool → ℕ → Option ℕ
own_part_of true name = Some name
own_part_of false name = None

abbrev pub closure_param_taken : Tables → ClosureParam → Taken
closure_param_taken tables param = record {
  key = param.name.at;
  kind = Plain (or_void (tables.answers.type_at param.name.at));
  boxed = false;
  sending = false;
}

module _ (tables : Tables) (owner : Option ℕ) where
  -- A variable is captured with its box or by its value; `self` has the type around.
  abbrev pub captured_type : ℕ → Ty
  captured_type key =
      if is_among (self_of tables.world owner) key then option_map_or types.Named owner types.Unit
      else or_void (tables.answers.type_at key)

  abbrev pub captured_kind : Capture → RegKind
  captured_kind one =
      if one.by_ref then BoxOf (captured_type one.variable)
      else Plain (captured_type one.variable)

  abbrev pub capture_taken : Capture → Taken
  capture_taken one = record {
    key = one.variable;
    kind = captured_kind one;
    boxed = one.by_ref;
    sending = false;
  }

  -- A closure takes its captures and then its parameters.
  abbrev pub closure_takes : ℕ → List ClosureParam → List Taken
  closure_takes at params =
      map capture_taken (tables.isolation.captures_of at) ++ map (closure_param_taken tables) params

  -- the body of a closure, by its result
  unfoldable pub closure_body : ClosureCode → Ty → Body
  closure_body closure result = record {
    key = closure.at;
    getter = false;
    iso = iso_of (tables.isolation.body_at closure.at);
    is_async = is_async_of (tables.isolation.body_at closure.at);
    takes = closure_takes closure.at closure.params;
    sends = false;
    result = result;
    code = body_code result closure.body;
  }

  -- the body of a task, which takes its captures alone
  abbrev pub task_body : ClosureCode → Ty → Body
  task_body closure result = closure_body (record closure { params = [] }) result

  -- the captures of a closure, and its number
  abbrev pub captured : ℕ → ℕ → Code (List Operand)
  captured at closure = each (capture tables at) (tables.isolation.captures_of closure)

  abbrev pub fun_read : ClosureCode → Code Operand
  fun_read closure = captured closure.at closure.at
      >>= λ operands. number (plain closure.at)
      >>= λ function. typed tables closure.at
      >>= λ ty. give closure.at ty (λ dst. instr.NewClosure closure.at dst function operands)

  abbrev pub spawn_read : ℕ → ClosureCode → Code Operand
  spawn_read at closure = captured at closure.at
      >>= λ operands. number (plain closure.at)
      >>= λ function. typed tables at
      >>= λ ty. give at ty (λ dst. instr.NewTask at dst function operands)

  -- an assignment to a part of a cell, or of a struct's value, which is assigned with it
  abbrev pub set_part : ShapeKind → ℕ → ℕ → ℕ → ExprCode → Operand → Code (Unit {0})
  set_part shapes.Struct at shape number base given = base.read
      >>= λ old. reg (Plain (types.Named shape))
      >>= λ dst. emit (instr.Copy at dst old)
      >> emit (instr.SetField at (operand dst base.key) number given)
      >> base.write (operand dst base.key)
  set_part shapes.Enum at shape number base given = known tt None
  set_part shapes.Class at shape number base given = base.read
      >>= λ cell. emit (instr.StoreProp at cell number given)
  set_part shapes.Actor at shape number base given = base.read
      >>= λ cell. emit (instr.StoreProp at cell number given)

  unfoldable pub write_part : ℕ → ℕ → ℕ → ExprCode → Operand → Code (Unit {0})
  write_part at shape number base given = shape_at tables shape
      >>= λ s. set_part s.kind at shape number base given

  -- `self`, which is left out before a word
  abbrev pub own_base : ℕ → ExprCode
  own_base at = value at (read_self tables owner at) []

  abbrev pub word_write : ℕ → Option Meaning → Operand → Code (Unit {0})
  word_write at (Some (means.Local variable)) given = write_var tables at variable given
  word_write at (Some (means.OwnPart number)) given = known 0 owner
      >>= λ shape. write_part at shape number (own_base at) given
  word_write at (Some (means.GlobalOf number)) given = emit (instr.StoreGlobal at number given)
  word_write at _ given = known tt None

  abbrev pub read_of_base : ℕ → ExprCode → ℕ → Code Operand
  read_of_base at base number = base.read
      >>= λ from. shape_of tables base.key
      >>= λ shape. read_part tables at shape number from

  -- a member, by its meaning; the word of an enum before its case is no expression
  abbrev pub member_read : ℕ → ExprCode → Option Meaning → Code Operand
  member_read at base (Some (means.CaseOf shape number)) = make_value at shape (Some number) []
  member_read at base (Some (means.PartOf number)) = read_of_base at base number
  member_read at base (Some means.TaskValue) = base.read
      >>= λ task. typed tables at >>= λ ty. give at ty (λ dst. instr.Await at dst task)
  member_read at base _ = unknown

  abbrev pub member_write : ℕ → ExprCode → Option Meaning → Operand → Code (Unit {0})
  member_write at base (Some (means.PartOf number)) given = shape_of tables base.key
      >>= λ shape. write_part at shape number base given
  member_write at base _ given = known tt None

  -- a call of what holds a closure
  abbrev pub closure_called : ℕ → Code Operand → List ArgCode → Code Operand
  closure_called at read args = read
      >>= λ closure. args_read args >>= λ operands. call_closure tables at closure operands

  -- The code of a call by a word, by the word's meaning: of a closure that a variable, a property
  -- of `self` or a global variable holds; of a method of `self`; of a function; of a type, which
  -- makes a value; or of `print`.
  abbrev pub call_read : ℕ → List ArgCode → Option Meaning → Code Operand
  call_read at args (Some (means.Local variable)) =
      closure_called at (read_var tables at variable) args
  call_read at args (Some (means.OwnPart number)) =
      closure_called at (read_own tables owner at number) args
  call_read at args (Some (means.OwnFunc number)) = read_self tables owner at
      >>= λ me. args_read args >>= λ operands. call_func tables at number (me ∷ operands)
  call_read at args (Some (means.GlobalOf number)) =
      closure_called at (read_global tables at number) args
  call_read at args (Some (means.FuncOf number)) = args_read args >>= call_func tables at number
  call_read at args (Some (means.MakeOf shape)) = args_read args >>= make tables at shape
  call_read at args (Some means.Print) = args_read args
      >>= λ operands. give at types.Unit (λ dst. instr.Print at dst operands)
  call_read at args _ = unknown

  -- the code of a call by a member, by the member's meaning
  abbrev pub method_read : ℕ → ExprCode → List ArgCode → Option Meaning → Code Operand
  method_read at base args (Some (means.FuncOf number)) = base.read
      >>= λ receiver. args_read args
      >>= λ operands. call_func tables at number (receiver ∷ operands)
  method_read at base args (Some (means.CaseOf shape number)) =
      args_read args >>= make_value at shape (Some number)
  method_read at base args (Some (means.PartOf number)) =
      closure_called at (read_of_base at base number) args
  method_read at base args _ = unknown

  abbrev pub word_code : ℕ → ExprCode
  word_code at = record {
    key = at;
    is_self = false;
    own_part = None;
    read = read_word tables owner at;
    write = word_write at (tables.answers.meaning_at at);
    inside = [];
  }

  abbrev pub self_code : ℕ → ExprCode
  self_code at = record (value at (read_self tables owner at) []) { is_self = true }

  abbrev pub member_code : ExprCode → ℕ → ℕ → ExprCode
  member_code base at name = record {
    key = at;
    is_self = false;
    own_part = own_part_of base.is_self name;
    read = member_read at base (tables.answers.meaning_at at);
    write = member_write at base (tables.answers.meaning_at at);
    inside = base.inside;
  }

  abbrev pub chain_code : ExprCode → List LinkCode → ExprCode
  chain_code first rest =
      value (last_or first.key (map (λ (link : LinkCode). link.at) rest))
      (first.read >>= links_read rest)
      (first.inside ++ flat_map (λ (link : LinkCode). link.inside) rest)

  -- an awaited value has the key of its `await`
  abbrev pub awaited : ℕ → ExprCode → Code Operand
  awaited at inner = inner.read >>= λ given. done (operand given.reg at)

  -- the result of a closure, and of a task
  abbrev pub fun_result : ℕ → Ty
  fun_result at = func_result (tables.answers.type_at at)

  abbrev pub spawn_result : ℕ → Ty
  spawn_result at = or_void (task_result (tables.answers.type_at at))

  abbrev pub fun_code : ClosureCode → ExprCode
  fun_code closure =
      value closure.at (fun_read closure)
      (closure_body closure (fun_result closure.at)
      ∷ closure.body.inside)

  abbrev pub spawn_code : ℕ → ClosureCode → ExprCode
  spawn_code at closure =
      value at (spawn_read at closure)
      (task_body closure (spawn_result at)
      ∷ closure.body.inside)

  abbrev pub expr_layer : layer.Expr-F ExprCode StmtCode ArgCode ClosureCode LinkCode BlockCode
      CaseCode IfCode → ExprCode
  expr_layer (layer.Int at literal) =
      value at (give at types.Int (λ dst. instr.Const at dst (literals.Int literal))) []
  expr_layer (layer.Bool at literal) =
      value at (give at types.Bool (λ dst. instr.Const at dst (literals.Bool literal))) []
  expr_layer (layer.Use name) = word_code name.at
  expr_layer (layer.Me at) = self_code at
  expr_layer (layer.Member base name) = member_code base name.at name.id
  expr_layer (layer.Call name args) =
      value name.at (call_read name.at args (tables.answers.meaning_at name.at))
      (args_inside args)
  expr_layer (layer.Method base name args) =
      value name.at (method_read name.at base args (tables.answers.meaning_at name.at))
      (base.inside ++ args_inside args)
  expr_layer (layer.Chain first rest) = chain_code first rest
  expr_layer (layer.Prefix op at inner) =
      value at (inner.read >>= prefixed op at) inner.inside
  expr_layer (layer.Await at inner) = value at (awaited at inner) inner.inside
  expr_layer (layer.Fun closure) = fun_code closure
  expr_layer (layer.Spawn at detached body) = spawn_code at body
  expr_layer (layer.Yield at) =
      value at (give at types.Unit (λ dst. instr.Yield at dst)) []
