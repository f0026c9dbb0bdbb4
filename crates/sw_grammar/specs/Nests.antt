-- The nests: what stands after a token that opens one.
use Rattle.std.specs.Prelude.{ℕ, Bool, Option, List, [], ◌∷◌, ◌++◌, codes}
use Rattle.sw_grammar_forms.specs.Sets.{Set, quoted, one_of, word}
use Rattle.sw_grammar_forms.specs.Form.{Shape, solid}
use Rattle.sw_grammar_forms.specs.Form as forms
use Rattle.sw_tree.specs.declared.name.Name.{Name}
use Rattle.sw_tree.specs.declared.type_tree.TypeTree.{TypeTree}
use Rattle.sw_tree.specs.declared.expr.Expr.{Expr}
use Rattle.sw_tree.specs.declared.expr.Arg.{Arg}
use Rattle.sw_tree.specs.declared.expr.ClosureParam.{ClosureParam}
use Rattle.sw_tree.specs.declared.stmt.Stmt.{Stmt}
use Rattle.sw_tree.specs.declared.stmt.Block.{Block}
use Rattle.sw_tree.specs.declared.stmt.CaseArm.{CaseArm}
use Rattle.sw_tree.specs.declared.stmt.Pattern.{Pattern}
use Rattle.sw_tree.specs.declared.decl.Written.{Written}
use Rattle.sw_tree.specs.declared.decl.ParamTree.{ParamTree}
use Rattle.sw_tree.specs.declared.decl.PropTree.{PropTree}
use Rattle.sw_tree.specs.declared.decl.InitTree.{InitTree}
use Rattle.sw_tree.specs.declared.decl.FuncTree.{FuncTree}
use Rattle.sw_tree.specs.declared.decl.CaseTree.{CaseTree}
use Rattle.sw_grammar.specs.Around.{Here}
use Rattle.sw_grammar.specs.Tokens.{type_first, type_ext, expr_first, item_first, postfix_ext}
use Rattle.sw_grammar.specs.Tokens.{at_word, binding_first}

pub data Nest : Type 0 where
  -- after `(` of types: types and `)`
  in_types : Nest
  -- after `(` of an enum's case: one type at least, and `)`
  in_payload : Nest
  -- after `->` inside a function type: its result
  in_result : Nest
  -- after the `<` of `Task`: a type, `, Never >`
  in_task_type : Nest
  -- after `(`: an expression and `)`
  in_round : Here → Nest
  -- after `(` of a call: arguments and `)`
  in_args : Here → Nest
  -- after the `.` of a member: its word, its arguments and the members after it
  in_member : Here → Nest
  -- after `(`: `)`
  in_empty : Nest
  -- after `[`: the words of a capture list and `]`
  in_captures : Nest
  -- after `(` of a closure: its parameters and `)`
  in_closure_params : Here → Nest
  -- after `{` of a closure, or of a task
  in_closure : Here → Nest
  in_task : Here → Nest
  -- after `{`: statements and `}`
  in_block : Here → Nest
  -- after the `{` of a `switch`
  in_switch : Here → Nest
  -- after the `let` of an `if`: its word and value, its block, and all later arms of the `if`
  in_if_let : Here → Nest
  -- after the `(` of a `case`: patterns and `)`
  in_patterns : Here → Nest
  -- after `(` of a function: its parameters and `)`
  in_params : Nest
  -- after `(` of `nonisolated`: `nonsending )`
  in_isolation : Nest
  -- after `{` of an entry, a global actor, and of types
  in_entry : Nest
  in_global_actor : Nest
  in_struct : Nest
  in_enum : Nest
  in_class : Nest

-- a member: its word, and its arguments where it is called
abbrev pub Link : Type 0
Link = Name × Option (List Arg)

-- what a closure has beside its `{`
pub record ClosureInside : Type 0 where
  pub mark : Option Name
  pub captures : List Name
  pub params : List ClosureParam
  pub result : Option TypeTree
  pub body : List Stmt

-- what `if let` has beside its words: a variable, its value, and the blocks where there is one and
-- where there is none
pub record IfLet : Type 0 where
  pub name : Name
  pub subject : Expr
  pub chosen : Block
  pub otherwise : Block

-- what an entry has beside its word
pub record Main : Type 0 where
  pub written : Written
  pub at : ℕ
  pub is_async : Bool
  pub body : Block

-- a member of a type
pub data Member : Type 0 where
  property : PropTree → Member
  initialiser : InitTree → Member
  function : FuncTree → Member
  cases : List CaseTree → Member

abbrev pub El : Nest → Type 0
El in_types = List TypeTree
El in_payload = List TypeTree
El in_result = TypeTree
El in_task_type = TypeTree
El (in_round here) = Expr
El (in_args here) = List Arg
El (in_member here) = List Link
El in_empty = ℕ
El in_captures = List Name
El (in_closure_params here) = List ClosureParam
El (in_closure here) = ClosureInside
El (in_task here) = ClosureInside
El (in_block here) = List Stmt
El (in_switch here) = List CaseArm × Option Block
El (in_if_let here) = IfLet
El (in_patterns here) = List Pattern
El in_params = List ParamTree
El in_isolation = ℕ
El in_entry = Main
El in_global_actor = Name
El in_struct = List Member
El in_enum = List Member
El in_class = List Member

-- what may begin a member of a type, beside its own kinds
abbrev pub method_first : Set
method_first =
    at_word ++ one_of (codes "nonisolated" ∷ codes "@concurrent" ∷ codes "func" ∷ [])

abbrev pub closed_by : List ℕ → Set → Shape
closed_by text first = solid (quoted text ++ first) [] 0

abbrev pub shape_of : Nest → Shape
shape_of in_types = closed_by (codes ")") type_first
shape_of in_payload = solid type_first [] 0
shape_of in_result = solid type_first type_ext 0
shape_of in_task_type = solid type_first [] 0
shape_of (in_round here) = solid expr_first [] 0
shape_of (in_args here) = closed_by (codes ")") expr_first
shape_of (in_member here) = solid word postfix_ext 0
shape_of in_empty = solid (quoted (codes ")")) [] 0
shape_of in_captures = solid word [] 0
shape_of (in_closure_params here) = closed_by (codes ")") word
shape_of (in_closure here) =
    solid (one_of (codes "}" ∷ codes "@Sendable" ∷ codes "[" ∷ codes "(" ∷ []) ++ item_first) [] 0
shape_of (in_task here) =
    solid (at_word ++ one_of (codes "}" ∷ codes "[" ∷ codes "(" ∷ []) ++ item_first) [] 0
shape_of (in_block here) = closed_by (codes "}") item_first
shape_of (in_switch here) = solid (one_of (codes "case" ∷ codes "default" ∷ codes "}" ∷ [])) [] 0
shape_of (in_if_let here) = solid word (quoted (codes "else")) 1
shape_of (in_patterns here) = solid (one_of (codes "_" ∷ codes "let" ∷ [])) [] 0
shape_of in_params = closed_by (codes ")") (word ++ quoted (codes "_"))
shape_of in_isolation = solid (quoted (codes "nonsending")) [] 0
shape_of in_entry = solid (at_word ++ one_of (codes "nonisolated" ∷ codes "static" ∷ [])) [] 1
shape_of in_global_actor = solid (quoted (codes "static")) [] 1
shape_of in_struct = closed_by (codes "}") (binding_first ++ method_first)
shape_of in_enum = closed_by (codes "}") (quoted (codes "case") ++ method_first)
shape_of in_class =
    closed_by (codes "}") (binding_first ++ quoted (codes "init") ++ method_first)

-- a form of this grammar
abbrev pub Form : Shape → Type 0 → Type 1
Form s A = forms.Form El shape_of s A
