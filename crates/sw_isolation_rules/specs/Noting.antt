-- What is noted of expressions and statements: a function over whole trees, whose notes stand in
-- the order of the text.
use Rattle.std.specs.Prelude.{ℕ, Bool, true, false, not, ◌&&◌, List, [], ◌∷◌, ◌++◌, Option, Some}
use Rattle.std.specs.Prelude.{None, map, unwrap_or, if◌then◌else◌}
use Rattle.sw_tree.specs.Folds.{Steps, fold_expr, fold_stmt, fold_block}
use Rattle.sw_tree.specs.NodeKey.{last_or}
use Rattle.sw_tree.specs.declared.expr.Expr.{Expr}
use Rattle.sw_tree.specs.declared.expr.Expr.TheOpen as layer
use Rattle.sw_tree.specs.declared.name.Name.{Name}
use Rattle.sw_tree.specs.declared.operator.AssignOp.{AssignOp}
use Rattle.sw_tree.specs.declared.operator.AssignOp.TheVariants as assigns
use Rattle.sw_tree.specs.declared.stmt.Block.{Block}
use Rattle.sw_tree.specs.declared.stmt.Stmt.{Stmt}
use Rattle.sw_types.specs.Sendable.{is_sendable}
use Rattle.sw_types.specs.declared.isolation.Iso.{Iso}
use Rattle.sw_types.specs.declared.isolation.Iso.TheVariants as iso
use Rattle.sw_types.specs.declared.ty.Ty.{Ty, out-Ty}
use Rattle.sw_types.specs.declared.ty.Ty.TheOpen as types
use Rattle.sw_decl_words.specs.Shaped.{actor_of}
use Rattle.sw_decl_words.specs.declared.placed.Placed.{Placed}
use Rattle.sw_decls.specs.Signatures.{actor_iso}
use Rattle.sw_typing_rules.specs.Statements.{marked_type}
use Rattle.sw_typing_rules.specs.Worlds.{World}
use Rattle.sw_isolation_rules.specs.Answers.{Answers}
use Rattle.sw_isolation_rules.specs.Captures.{word_mentions, me_mentions, list_mentions, variables}
use Rattle.sw_isolation_rules.specs.Captures.{closed}
use Rattle.sw_isolation_rules.specs.Kinds.{kind_of, needs_await, is_strong, accessor, is_outside}
use Rattle.sw_isolation_rules.specs.Kinds.{inherited}
use Rattle.sw_isolation_rules.specs.Uses.{used, base_of, no_base}
use Rattle.sw_isolation_rules.specs.declared.note.Note.{Note}
use Rattle.sw_isolation_rules.specs.declared.note.Note.TheVariants.{Body, Kind, Refused, Race, Var}
use Rattle.sw_isolation_rules.specs.declared.note.Note.TheVariants.{Mentioned}
use Rattle.sw_isolation_rules.specs.declared.uses.Base.{Base}
use Rattle.sw_isolation_rules.specs.declared.uses.Callee.{Callee}
use Rattle.sw_isolation_rules.specs.declared.uses.Context.{Context}
use Rattle.sw_isolation_rules.specs.declared.uses.Storage.{Storage}
use Rattle.sw_isolation_rules.specs.declared.uses.Used.{Used}
use Rattle.sw_isolation_rules.specs.declared.uses.Used.TheVariants.{Called, Stored, Field, Waited}
use Rattle.sw_isolation_rules.specs.declared.uses.Used.TheVariants.{Nothing}

abbrev pub placed : ℕ → ℕ → Placed
placed at code = record { at = at; code = code }

abbrev pub refused_if : Bool → ℕ → ℕ → List Note
refused_if fails at code = if fails then Refused (placed at code) ∷ [] else []

abbrev pub race_if : Bool → ℕ → ℕ → List Note
race_if fails at code = if fails then Race (placed at code) ∷ [] else []

-- Something that needs an `await`. In a synchronous body what is asynchronous is E503, and what is
-- synchronous and another actor's E501. In an asynchronous body the missing `await` is E502.
abbrev pub await_notes : Context → ℕ → Bool → List Note
await_notes context at is_async =
    if context.is_async then refused_if (not context.awaited) at 502
    else (if is_async then refused_if true at 503 else refused_if true at 501)

-- a call of this kind, and whether its result may cross (E604)
abbrev pub call_notes : Context → ℕ → Callee → Bool → List Note
call_notes context at callee may_cross =
    let kind = kind_of callee context.iso in
    Kind (record { at = at; kind = kind })
    ∷ (if needs_await kind callee.is_async then await_notes context at callee.is_async else [])
    ++ race_if (is_strong kind && not may_cross) at 604

-- A `var` of another actor is read by a call of its getter. A `let` is read directly: it never
-- changes, but its value must be Sendable (E606).
abbrev pub read_notes : Context → ℕ → Storage → List Note
read_notes context at storage =
    if is_outside context storage
    then (if storage.mutable then call_notes context at (accessor storage) storage.may_cross
    else race_if (not storage.may_cross) at 606) else []

-- storage is written in a body of its own isolation alone (E504)
abbrev pub write_notes : Context → ℕ → Storage → List Note
write_notes context at storage = refused_if (is_outside context storage) at 504

-- what is noted of a use
abbrev pub use_notes : Context → ℕ → Used → List Note
use_notes context at (Called callee may_cross) = call_notes context at callee may_cross
use_notes context at (Stored storage) = read_notes context at storage
use_notes context at Field = []
use_notes context at Waited = await_notes context at true
use_notes context at Nothing = []

-- What is noted of an assignment to a place: a part of a struct is written as what holds the
-- struct.
abbrev pub store_notes : Context → ℕ → Used → List Note → List Note
store_notes context at (Called callee may_cross) inside = []
store_notes context at (Stored storage) inside = write_notes context at storage
store_notes context at Field inside = inside
store_notes context at Waited inside = []
store_notes context at Nothing inside = []

-- What is noted where a context is given, and the variables that the closures around list.
abbrev pub Notes : Type 0
Notes = Context → List ℕ → List Note

-- What is noted of an expression: its key, whether it is the word `self`, the notes of its value,
-- and as a place that is assigned those of what stands before its last word, and those of the
-- assignment at a key.
pub record Seen : Type 0 where
  pub key : ℕ
  pub is_self : Bool
  pub notes : Notes
  pub before : Notes
  pub stores : Context → ℕ → List Note

-- a closure or the body of a task, in the context of its body
pub record NotedClosure : Type 0 where
  pub at : ℕ
  pub mark : Option Name
  pub inside : Notes

-- an operator with its right operand
pub record Linked : Type 0 where
  pub at : ℕ
  pub operand : Notes

abbrev pub no_notes : Notes
no_notes context listed = []

-- notes after each other
abbrev pub all_of : List Notes → Notes
all_of [] context listed = []
all_of (notes ∷ more) context listed = notes context listed ++ all_of more context listed

-- an expression that is no place
abbrev pub value : ℕ → Notes → Seen
value at notes = record {
  key = at;
  is_self = false;
  notes = notes;
  before = no_notes;
  stores = λ context at. [];
}

abbrev pub in_await : Context → Context
in_await context = record context { awaited = true }

-- the context of the body of a closure or a task: no `await` outside covers what is inside
abbrev pub in_closure : Context → Iso → Bool → Context
in_closure context iso is_async =
    record context { iso = iso; is_async = is_async; awaited = false }

abbrev pub body_note : ℕ → Iso → Bool → Note
body_note key iso is_async = Body (record { key = key; iso = iso; is_async = is_async })

-- the type of a task's result
abbrev pub result_layer : types.Ty-F Ty → Option Ty
result_layer (types.Task inner) = Some inner
result_layer _ = None

abbrev pub task_result : Option Ty → Option Ty
task_result None = None
task_result (Some ty) = result_layer (out-Ty ty)

abbrev pub var_notes : Bool → ℕ → List Note
var_notes true at = Var at ∷ []
var_notes false at = []

-- A closure that may be sent is isolated to no actor, another as what is around it (SE-0302,
-- SE-0306).
unfoldable pub closure_iso : Answers → ℕ → Iso → Iso
closure_iso answers at around =
    if marked_type (answers.type_at at) then iso.Free else inherited around

-- A task with a global actor is isolated to that, a detached one to none, and another as what is
-- around it.
abbrev pub unmarked_iso : Bool → Iso → Iso
unmarked_iso true around = iso.Free
unmarked_iso false around = inherited around

module _ (world : World) where
  unfoldable pub task_iso : Option Name → Bool → Iso → Iso
  task_iso None detached around = unmarked_iso detached around
  task_iso (Some mark) detached around = actor_iso (actor_of (world.known.top mark.id))

  abbrev pub result_races : ℕ → Option Ty → List Note
  result_races at None = []
  result_races at (Some ty) = race_if (not (is_sendable world.shapes ty)) at 605

  abbrev pub me_notes : Context → ℕ → List Note
  me_notes context at = map Mentioned (me_mentions world context.owner at)

module _ (world : World) (answers : Answers) where
  abbrev pub mention_notes : Context → ℕ → List Note
  mention_notes context at = map Mentioned (word_mentions world answers context.owner at)

  -- what is used by the name, member or call with a key
  abbrev pub used_at : Context → Base → ℕ → Used
  used_at context base at = used world answers context.owner base at

  -- a word, which may leave out `self.`
  abbrev pub word_notes : Context → ℕ → List Note
  word_notes context at =
      mention_notes context at ++ use_notes context at (used_at context no_base at)

  -- a member, after what is noted of its base
  abbrev pub member_notes : Seen → ℕ → Context → List Note
  member_notes base at context =
      use_notes context at (used_at context (base_of answers base.key base.is_self) at)

  -- the result of a task crosses (E605)
  unfoldable pub task_races : ℕ → List Note
  task_races at = result_races world at (task_result (answers.type_at at))

  abbrev pub fun_notes : NotedClosure → Notes
  fun_notes closure context listed =
      let iso = closure_iso answers closure.at context.iso in
      body_note closure.at iso false
      ∷ closure.inside (in_closure context iso false) listed

  abbrev pub task_notes : ℕ → Bool → NotedClosure → Notes
  task_notes at detached closure context listed =
      let iso = task_iso world closure.mark detached context.iso in
      body_note closure.at iso true
      ∷ task_races at ++ closure.inside (in_closure context iso true) listed

  abbrev pub word_seen : ℕ → Seen
  word_seen at = record {
    key = at;
    is_self = false;
    notes = λ context listed. word_notes context at;
    before = λ context listed. mention_notes context at;
    stores = λ context place. store_notes context place (used_at context no_base at) [];
  }

  abbrev pub me_seen : ℕ → Seen
  me_seen at = record {
    key = at;
    is_self = true;
    notes = λ context listed. me_notes world context at;
    before = λ context listed. me_notes world context at;
    stores = λ context place. [];
  }

  abbrev pub member_seen : Seen → ℕ → Seen
  member_seen base at = record {
    key = at;
    is_self = false;
    notes = λ context listed. base.notes context listed ++ member_notes base at context;
    before = base.notes;
    stores = λ context place.
        store_notes context place
        (used_at context (base_of answers base.key base.is_self) at)
        (base.stores context place);
  }

  abbrev pub expr_layer : layer.Expr-F Seen Notes Notes NotedClosure Linked Notes Notes Notes → Seen
  expr_layer (layer.Int at literal) = value at no_notes
  expr_layer (layer.Bool at literal) = value at no_notes
  expr_layer (layer.Use name) = word_seen name.at
  expr_layer (layer.Me at) = me_seen at
  expr_layer (layer.Member base name) = member_seen base name.at
  expr_layer (layer.Call name args) = value name.at (λ context listed.
      word_notes context name.at ++ all_of args context listed)
  expr_layer (layer.Method base name args) = value name.at (λ context listed.
      base.notes context listed ++ member_notes base name.at context ++ all_of args context listed)
  expr_layer (layer.Chain first rest) =
      value (last_or first.key (map (λ (link : Linked). link.at) rest)) (λ context listed.
      first.notes context listed
      ++ all_of (map (λ (link : Linked). link.operand) rest) context listed)
  expr_layer (layer.Prefix op at inner) = value at inner.notes
  expr_layer (layer.Await at inner) =
      value at (λ context listed. inner.notes (in_await context) listed)
  expr_layer (layer.Fun closure) = value closure.at (fun_notes closure)
  expr_layer (layer.Spawn at detached body) = value at (task_notes at detached body)
  expr_layer (layer.Yield at) = value at (λ context listed. await_notes context at true)

  -- A place that is assigned by `=` isn't read; by another operator it is.
  abbrev pub place_notes : AssignOp → Seen → Notes
  place_notes assigns.Set place context listed =
      place.before context listed ++ place.stores context place.key
  place_notes _ place context listed =
      place.notes context listed ++ place.stores context place.key

  abbrev pub stmt_layer : layer.Stmt-F Seen Notes Notes NotedClosure Linked Notes Notes Notes
      → Notes
  stmt_layer (layer.Bind mutable name ty bound) context listed =
      var_notes mutable name.at ++ bound.notes context listed
  stmt_layer (layer.Assign at op place assigned) context listed =
      place_notes op place context listed ++ assigned.notes context listed
  stmt_layer (layer.Discard at ignored) context listed = ignored.notes context listed
  stmt_layer (layer.If arms otherwise) context listed =
      all_of arms context listed ++ unwrap_or otherwise no_notes context listed
  stmt_layer (layer.While at cond body) context listed =
      cond.notes context listed ++ body context listed
  stmt_layer (layer.Switch at subject arms otherwise) context listed =
      subject.notes context listed
      ++ all_of arms context listed ++ unwrap_or otherwise no_notes context listed
  stmt_layer (layer.Return at None) context listed = []
  stmt_layer (layer.Return at (Some given)) context listed = given.notes context listed
  stmt_layer (layer.Break at) context listed = []
  stmt_layer (layer.Continue at) context listed = []
  stmt_layer (layer.Plain plain) context listed = plain.notes context listed

  -- the variables that a closure lists, with those that are listed around it
  abbrev pub with_list : Context → List ℕ → List Name → List ℕ
  with_list context listed words =
      listed ++ variables (list_mentions world answers context.owner words)

  -- what is noted inside a closure: the words of its list are mentions of it
  abbrev pub inner_notes : List Name → Notes → Notes
  inner_notes words body context listed =
      map Mentioned (list_mentions world answers context.owner words)
      ++ body context (with_list context listed words)

  abbrev pub closure_layer : layer.Closure-F Seen Notes Notes NotedClosure Linked Notes Notes Notes
      → NotedClosure
  closure_layer closure = record {
    at = closure.at;
    mark = closure.mark;
    inside = λ context listed.
        closed world context closure.at (with_list context listed closure.captures)
        (inner_notes closure.captures closure.body context listed);
  }

  abbrev pub note_steps : Steps
  note_steps = record {
    E = Seen;
    S = Notes;
    A = Notes;
    C = NotedClosure;
    L = Linked;
    B = Notes;
    K = Notes;
    I = Notes;
    expr = expr_layer;
    stmt = stmt_layer;
    arg = λ arg. arg.value.notes;
    closure = closure_layer;
    link = λ link. record { at = link.at; operand = link.operand.notes };
    block = λ block. all_of block.stmts;
    case_arm = λ arm. arm.body;
    if_arm = λ arm context listed. arm.cond.notes context listed ++ arm.body context listed;
  }

  -- what is noted of an expression
  unfoldable pub see : Expr → Seen
  see = fold_expr note_steps

  -- what is noted of a statement
  unfoldable pub stmt_notes : Stmt → Notes
  stmt_notes = fold_stmt note_steps

  -- what is noted of the statements of a block
  unfoldable pub block_notes : Block → Notes
  block_notes = fold_block note_steps
