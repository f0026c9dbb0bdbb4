-- What is known of an expression by what is known of its parts: the table of types.
use Rattle.std.specs.Prelude.{ℕ, Bool, false, ◌||◌, List, [], ◌∷◌, ◌++◌, Option, Some, None}
use Rattle.sw_tree.specs.declared.name.Name.{Name}
use Rattle.sw_decls.specs.Signatures.{label_id}
use Rattle.sw_tree.specs.declared.operator.InfixOp.{InfixOp}
use Rattle.sw_tree.specs.declared.operator.PrefixOp.{PrefixOp}
use Rattle.sw_types.specs.Accepts.{is_marked}
use Rattle.sw_types.specs.declared.ty.Ty.{Ty}
use Rattle.sw_types.specs.declared.ty.Ty.TheVariants as types
use Rattle.sw_typing_rules.specs.Calls.{Callee, Untyped, Slot, callee_meaning}
use Rattle.sw_typing_rules.specs.declared.verdict.Given.{Given}
use Rattle.sw_typing_rules.specs.Calls.{call_types, word_callee, found_callee, enum_callee}
use Rattle.sw_typing_rules.specs.Calls.{enum_types, case_in, case_meaning}
use Rattle.sw_typing_rules.specs.Operators.{infix_types, prefix_types}
use Rattle.sw_typing_rules.specs.Verdicts.{type_in, rows_of, meaning_rows}
use Rattle.sw_typing_rules.specs.declared.verdict.Verdict.{Verdict}
use Rattle.sw_typing_rules.specs.declared.verdict.Verdict.TheVariants.{Has, Held}
use Rattle.sw_typing_rules.specs.Words.{Setting, Sense, sense, word_types, word_settable, word_enum}
use Rattle.sw_typing_rules.specs.Words.{word_meaning, var_types, me_types, found_in, found_types}
use Rattle.sw_typing_rules.specs.Words.{found_settable, found_meaning}
use Rattle.sw_typing_rules.specs.declared.found.Found.{Found}
use Rattle.sw_typing_rules.specs.Worlds.{World}
use Rattle.sw_typing_rules.specs.declared.row.Row.{Row}

-- What is known of an expression: its key, its type, the enum that it names before a `.`, whether
-- it can be assigned, whether it is the word `true`, and what is noted of its nodes.
pub record Judged : Type 0 where
  pub key : ℕ
  pub ty : Option Ty
  pub enum : Option ℕ
  pub settable : Bool
  pub is_true : Bool
  pub rows : List Row

-- a node of which the rule says this, after what is noted of its parts
abbrev pub noted : ℕ → Verdict → List Row → Judged
noted at verdict rows = record {
  key = at;
  ty = type_in verdict;
  enum = None;
  settable = false;
  is_true = false;
  rows = rows ++ rows_of at verdict;
}

-- a literal
abbrev pub int_judged : ℕ → Judged
int_judged at = noted at (Has types.Int) []

abbrev pub bool_judged : ℕ → Bool → Judged
bool_judged at value = record (noted at (Has types.Bool) []) { is_true = value }

-- `self`: the type whose method or initialiser holds it
abbrev pub me_judged : Option ℕ → ℕ → Judged
me_judged owner at = noted at (me_types owner) []

-- an operator, `await`, `Task.yield()`
abbrev pub prefix_judged : PrefixOp → ℕ → Judged → Judged
prefix_judged op at inner = noted at (prefix_types op inner.ty) inner.rows

abbrev pub infix_judged : InfixOp → ℕ → Judged → Judged → Judged
infix_judged op at left right = noted at (infix_types op left.ty right.ty) (left.rows ++ right.rows)

abbrev pub await_judged : ℕ → Judged → Judged
await_judged at inner = noted at (var_types inner.ty) inner.rows

abbrev pub yield_judged : ℕ → Judged
yield_judged at = noted at (Has types.Unit) []

-- what is known of arguments, and noted of them
pub record Passed : Type 0 where
  pub given : List Given
  pub rows : List Row

abbrev pub none_passed : Passed
none_passed = record { given = []; rows = [] }

abbrev pub one_passed : Option Name → Judged → Passed → Passed
one_passed label value more = record {
  given = record { label = label_id label; ty = value.ty } ∷ more.given;
  rows = value.rows ++ more.rows;
}

-- whether a `@Sendable` function is expected of the next argument
abbrev pub first_marked : List Slot → Bool
first_marked [] = false
first_marked (slot ∷ slots) = is_marked slot.ty

abbrev pub later : List Slot → List Slot
later [] = []
later (slot ∷ slots) = slots

abbrev pub call_judged : Callee → ℕ → List Row → Passed → Judged
call_judged callee at before passed =
    noted at (call_types callee passed.given)
    (before ++ (passed.rows ++ meaning_rows at (callee_meaning callee)))

-- what is known of a closure or the body of a task: its key, the types of its parameters, whether
-- it is marked `@Sendable`, its result, and what is noted inside
pub record Closed : Type 0 where
  pub at : ℕ
  pub params : List Ty
  pub marked : Bool
  pub result : Option Ty
  pub rows : List Row

abbrev pub fun_types : Bool → List Ty → Option Ty → Verdict
fun_types marked params None = Held
fun_types marked params (Some result) = Has (types.Func marked params result)

abbrev pub task_types : Option Ty → Verdict
task_types None = Held
task_types (Some result) = Has (types.Task result)

-- a closure: `@Sendable` where it is marked, or stands where that is expected (SE-0302)
abbrev pub fun_judged : Bool → Closed → Judged
fun_judged expected closed =
    noted closed.at (fun_types (closed.marked || expected) closed.params closed.result) closed.rows

-- a task
abbrev pub spawn_judged : ℕ → Closed → Judged
spawn_judged at closed = noted at (task_types closed.result) closed.rows

module _ (world : World) where
  -- a word
  abbrev pub sensed : Sense → ℕ → Judged
  sensed meant at = record {
    key = at;
    ty = type_in (word_types world meant);
    enum = word_enum meant;
    settable = word_settable world meant;
    is_true = false;
    rows = meaning_rows at (word_meaning meant) ++ rows_of at (word_types world meant);
  }

  abbrev pub word_judged : Setting → Name → Judged
  word_judged setting name = sensed (sense world setting name.id) name.at

  -- a case of an enum without payload
  abbrev pub case_judged : ℕ → Name → Judged
  case_judged shape name =
      noted name.at (enum_types world shape (case_in world shape name.id))
      (meaning_rows name.at (case_meaning shape (case_in world shape name.id)))

  abbrev pub found_judged : Judged → Found → ℕ → Judged
  found_judged base found at = record {
    key = at;
    ty = type_in (found_types world found);
    enum = None;
    settable = found_settable world base.settable found;
    is_true = false;
    rows = base.rows ++ (meaning_rows at (found_meaning found) ++ rows_of at
        (found_types world found));
  }

  abbrev pub value_member : Judged → Option Ty → Name → Judged
  value_member base None name = noted name.at Held base.rows
  value_member base (Some ty) name =
      found_judged base (found_in world ty name.id) name.at

  abbrev pub member_by : Judged → Option ℕ → Name → Judged
  member_by base None name = value_member base base.ty name
  member_by base (Some shape) name = case_judged shape name

  -- a member: of a value, or a case where a word before it names an enum and is no node
  abbrev pub member_judged : Judged → Name → Judged
  member_judged base name = member_by base base.enum name

  -- what a call calls
  abbrev pub call_callee : Setting → Name → Callee
  call_callee setting name = word_callee world (sense world setting name.id)

  abbrev pub value_method : Option Ty → ℕ → Callee
  value_method None id = Untyped None
  value_method (Some ty) id = found_callee world (found_in world ty id)

  abbrev pub method_by : Option ℕ → Option Ty → ℕ → Callee
  method_by None ty id = value_method ty id
  method_by (Some shape) ty id = enum_callee world shape (case_in world shape id)

  abbrev pub method_callee : Judged → Name → Callee
  method_callee base name = method_by base.enum base.ty name.id

-- what is noted of a base: a word that names an enum is no node there
abbrev pub rows_by : Option ℕ → List Row → List Row
rows_by None rows = rows
rows_by (Some shape) rows = []

abbrev pub base_rows : Judged → List Row
base_rows base = rows_by base.enum base.rows
