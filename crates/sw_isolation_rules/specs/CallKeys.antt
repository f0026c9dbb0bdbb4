-- The calls that stand in a tree. A `var` of another actor is read by a call of its getter, so a
-- read that crosses is one of them.
use Rattle.std.specs.Prelude.{◌≡◌, ℕ, Bool, true, false, ◌&&◌, List, [], ◌∷◌, ◌++◌, Option, Some}
use Rattle.std.specs.Prelude.{None, map, flat_map, unwrap_or, Contains, if◌then◌else◌}
use Rattle.std.specs.List.{AllByRecursion}
use Rattle.sw_tree.specs.Folds.{Steps, fold_expr, fold_block}
use Rattle.sw_tree.specs.NodeKey.{last_or}
use Rattle.sw_tree.specs.declared.expr.Expr.{Expr}
use Rattle.sw_tree.specs.declared.expr.Expr.TheOpen as layer
use Rattle.sw_tree.specs.declared.name.Name.{Name}
use Rattle.sw_tree.specs.declared.operator.AssignOp.{AssignOp}
use Rattle.sw_tree.specs.declared.operator.AssignOp.TheVariants as assigns
use Rattle.sw_tree.specs.declared.stmt.Block.{Block}
use Rattle.sw_typing_rules.specs.Worlds.{World}
use Rattle.sw_isolation_rules.specs.Answers.{Answers}
use Rattle.sw_isolation_rules.specs.Kinds.{is_outside}
use Rattle.sw_isolation_rules.specs.Lists.{kinds_in}
use Rattle.sw_isolation_rules.specs.Noting.{closure_iso, in_await, in_closure, task_iso}
use Rattle.sw_isolation_rules.specs.Uses.{used, base_of, no_base}
use Rattle.sw_isolation_rules.specs.declared.note.Kinded.{Kinded}
use Rattle.sw_isolation_rules.specs.declared.note.Note.{Note}
use Rattle.sw_isolation_rules.specs.declared.uses.Context.{Context}
use Rattle.sw_isolation_rules.specs.declared.uses.Storage.{Storage}
use Rattle.sw_isolation_rules.specs.declared.uses.Used.{Used}
use Rattle.sw_isolation_rules.specs.declared.uses.Used.TheVariants.{Called, Stored, Field, Waited}
use Rattle.sw_isolation_rules.specs.declared.uses.Used.TheVariants.{Nothing}

abbrev pub Keys : Type 0
Keys = List ℕ

-- the keys of the calls in a part of a tree, where a context is given
abbrev pub Calls : Type 0
Calls = Context → Keys

-- an expression: its key, whether it is the word `self`, the calls in it, and as a place that is
-- assigned those in what stands before its last word
pub record Calling : Type 0 where
  pub key : ℕ
  pub is_self : Bool
  pub calls : Calls
  pub before : Calls

-- an operator with the calls of its right operand
pub record Operating : Type 0 where
  pub at : ℕ
  pub calls : Calls

-- a closure or the body of a task, with the calls in it in the context of its body
pub record Closing : Type 0 where
  pub at : ℕ
  pub mark : Option Name
  pub calls : Calls

-- whether storage is read by a call of its getter
abbrev pub is_called : Context → Storage → Bool
is_called context storage = is_outside context storage && storage.mutable

-- the key of a call of a function, a method, an initialiser or a getter
abbrev pub call_keys : Context → ℕ → Used → Keys
call_keys context at (Called callee may_cross) = at ∷ []
call_keys context at (Stored storage) = if is_called context storage then at ∷ [] else []
call_keys context at Field = []
call_keys context at Waited = []
call_keys context at Nothing = []

abbrev pub no_calls : Calls
no_calls context = []

-- calls after each other
abbrev pub joined : List Calls → Calls
joined list context = flat_map (λ (calls : Calls). calls context) list

-- an expression that is no place
abbrev pub calling : ℕ → Calls → Calling
calling at calls = record { key = at; is_self = false; calls = calls; before = no_calls }

-- the notes have the kind of a call with this key
abbrev pub HasNotedKind : List Note → ℕ → Type 0
HasNotedKind notes key = (kinded : Kinded) × (Contains (kinds_in notes) kinded × (kinded.at ≡ key))

-- the notes have the kinds of calls with these keys
abbrev pub HaveNotedKinds : List Note → Keys → Type 0
HaveNotedKinds notes keys = AllByRecursion (HasNotedKind notes) keys

module _ (world : World) (answers : Answers) where
  abbrev pub word_calls : ℕ → Calls
  word_calls at context = call_keys context at (used world answers context.owner no_base at)

  abbrev pub member_calls : Calling → ℕ → Calls
  member_calls base at context =
      call_keys context at
      (used world answers context.owner (base_of answers base.key base.is_self) at)

  abbrev pub fun_calls : Closing → Calls
  fun_calls closure context =
      closure.calls (in_closure context (closure_iso answers closure.at context.iso) false)

  abbrev pub task_calls : Bool → Closing → Calls
  task_calls detached body context =
      body.calls (in_closure context (task_iso world body.mark detached context.iso) true)

  abbrev pub expr_layer : layer.Expr-F Calling Calls Calls Closing Operating Calls Calls Calls
      → Calling
  expr_layer (layer.Int at literal) = calling at no_calls
  expr_layer (layer.Bool at literal) = calling at no_calls
  expr_layer (layer.Use name) = calling name.at (word_calls name.at)
  expr_layer (layer.Me at) =
      record { key = at; is_self = true; calls = no_calls; before = no_calls }
  expr_layer (layer.Member base name) = record {
    key = name.at;
    is_self = false;
    calls = λ context. base.calls context ++ member_calls base name.at context;
    before = base.calls;
  }
  expr_layer (layer.Call name args) =
      calling name.at (λ context. word_calls name.at context ++ joined args context)
  expr_layer (layer.Method base name args) = calling name.at (λ context.
      base.calls context ++ member_calls base name.at context ++ joined args context)
  expr_layer (layer.Chain first rest) =
      calling (last_or first.key (map (λ (link : Operating). link.at) rest)) (λ context.
      first.calls context ++ joined (map (λ (link : Operating). link.calls) rest) context)
  expr_layer (layer.Prefix op at inner) = calling at inner.calls
  expr_layer (layer.Await at inner) = calling at (λ context. inner.calls (in_await context))
  expr_layer (layer.Fun closure) = calling closure.at (fun_calls closure)
  expr_layer (layer.Spawn at detached body) = calling at (task_calls detached body)
  expr_layer (layer.Yield at) = calling at no_calls

  -- A place that is assigned by `=` isn't read; by another operator it is.
  abbrev pub place_calls : AssignOp → Calling → Calls
  place_calls assigns.Set place = place.before
  place_calls _ place = place.calls

  abbrev pub stmt_layer : layer.Stmt-F Calling Calls Calls Closing Operating Calls Calls Calls
      → Calls
  stmt_layer (layer.Bind mutable name ty bound) context = bound.calls context
  stmt_layer (layer.Assign at op place assigned) context =
      place_calls op place context ++ assigned.calls context
  stmt_layer (layer.Discard at ignored) context = ignored.calls context
  stmt_layer (layer.If arms otherwise) context =
      joined arms context ++ unwrap_or otherwise no_calls context
  stmt_layer (layer.While at cond body) context = cond.calls context ++ body context
  stmt_layer (layer.Switch at subject arms otherwise) context =
      subject.calls context ++ joined arms context ++ unwrap_or otherwise no_calls context
  stmt_layer (layer.Return at None) context = []
  stmt_layer (layer.Return at (Some given)) context = given.calls context
  stmt_layer (layer.Break at) context = []
  stmt_layer (layer.Continue at) context = []
  stmt_layer (layer.Plain plain) context = plain.calls context

  abbrev pub call_steps : Steps
  call_steps = record {
    E = Calling;
    S = Calls;
    A = Calls;
    C = Closing;
    L = Operating;
    B = Calls;
    K = Calls;
    I = Calls;
    expr = expr_layer;
    stmt = stmt_layer;
    arg = λ arg. arg.value.calls;
    closure = λ closure. record { at = closure.at; mark = closure.mark; calls = closure.body };
    link = λ link. record { at = link.at; calls = link.operand.calls };
    block = λ block. joined block.stmts;
    case_arm = λ arm. arm.body;
    if_arm = λ arm context. arm.cond.calls context ++ arm.body context;
  }

  -- the keys of the calls in an expression
  unfoldable pub expr_calls : Expr → Calls
  expr_calls expr = (fold_expr call_steps expr).calls

  -- the keys of the calls in a block
  unfoldable pub block_calls : Block → Calls
  block_calls = fold_block call_steps
