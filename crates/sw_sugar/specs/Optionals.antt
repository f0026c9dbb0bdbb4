-- The trees of the forms with optionals. A new form is spelled as a plain tree, so nothing that
-- works on trees sees it. The ids are those of the texts `none`, `some`, `T?`, `x?` and `x??`.
use Rattle.std.specs.Prelude.{ℕ, suc, true, false, Some, None, List, [], ◌∷◌}
use Rattle.sw_sugar.specs.declared.words.OrLiteral.{OrLiteral}
use Rattle.sw_tree.specs.declared.decl.Decl.{Decl}
use Rattle.sw_tree.specs.declared.decl.Decl.TheVariants as decls
use Rattle.sw_tree.specs.declared.expr.Arg.{roll-Arg}
use Rattle.sw_tree.specs.declared.expr.Expr.{Expr}
use Rattle.sw_tree.specs.declared.expr.Expr.TheVariants as exprs
use Rattle.sw_tree.specs.declared.name.Name.{Name}
use Rattle.sw_tree.specs.declared.operator.AssignOp.TheVariants as assigns
use Rattle.sw_tree.specs.declared.stmt.Block.{Block, roll-Block}
use Rattle.sw_tree.specs.declared.stmt.CaseArm.{CaseArm, roll-CaseArm}
use Rattle.sw_tree.specs.declared.stmt.Pattern.TheVariants as patterns
use Rattle.sw_tree.specs.declared.stmt.Stmt.{Stmt}
use Rattle.sw_tree.specs.declared.stmt.Stmt.TheVariants as stmts
use Rattle.sw_tree.specs.declared.type_tree.TypeTree.{TypeTree}
use Rattle.sw_tree.specs.declared.type_tree.TypeTree.TheVariants as types

abbrev pub name_at : ℕ → ℕ → Name
name_at at id = record { at = at; id = id }

abbrev pub use_at : ℕ → ℕ → Expr
use_at at id = exprs.Use (name_at at id)

abbrev pub block_of : List Stmt → Block
block_of body = roll-Block (record { stmts = body })

-- `nil` at a position, of an optional type
abbrev pub none_tree : ℕ → ℕ → ℕ → Expr
none_tree none of at = exprs.Member (use_at (suc at) of) (name_at at none)

-- `Optional(value)` at a position, of an optional type
abbrev pub some_tree : ℕ → ℕ → ℕ → Expr → Expr
some_tree some of at value =
    exprs.Method (use_at (suc at) of) (name_at at some)
    (roll-Arg (record { label = None; value = value }) ∷ [])

-- the arm for a value that is there, which is known by a name in the block
abbrev pub some_arm : ℕ → ℕ → Name → Block → CaseArm
some_arm some at name body = roll-CaseArm (record {
  name = name_at at some;
  patterns = patterns.Let name ∷ [];
  body = body;
})

-- a choice by whether a value is there: that arm, or the other block
abbrev pub if_some : ℕ → Expr → CaseArm → Block → Stmt
if_some at subject arm otherwise = stmts.Switch at subject (arm ∷ []) (Some otherwise)

-- `if let name = subject chosen otherwise`, with the places of `if` and `let`
abbrev pub if_let_tree : ℕ → ℕ → ℕ → Name → Expr → Block → Block → Stmt
if_let_tree some at let_at name subject chosen otherwise =
    if_some at subject (some_arm some let_at name chosen) otherwise

-- Parts of `let x: T = e ?? d`.

-- the whole is the literal at first
abbrev pub begun : OrLiteral → TypeTree → Expr → Stmt
begun form ty literal =
    stmts.Bind true (name_at form.op_at form.word.whole) (Some ty) literal

-- the value of the optional is taken for the whole
abbrev pub taken : OrLiteral → Stmt
taken form =
    stmts.Assign form.let_at assigns.Set (use_at (suc form.op_at) form.word.whole)
    (use_at (suc form.let_at) form.word.part)

-- where the optional has a value, it is taken
abbrev pub or_switch : OrLiteral → Expr → Stmt
or_switch form value =
    if_some form.eq_at value
    (some_arm form.some form.colon_at (name_at form.colon_at form.word.part)
    (block_of (taken form ∷ [])))
    (block_of [])

-- the word is the whole from then on
abbrev pub declared : OrLiteral → TypeTree → Stmt
declared form ty =
    stmts.Bind form.mutable form.word.name (Some ty)
    (use_at (suc (suc form.let_at)) form.word.whole)

-- `let x: T = value ?? literal`, also with `var`
abbrev pub or_literal_stmts : OrLiteral → TypeTree → Expr → Expr → List Stmt
or_literal_stmts form ty value literal =
    begun form ty literal ∷ or_switch form value ∷ declared form ty ∷ []

-- the enum of a type `T?`, where `of` is the word `T`, `optional` the id of `T?` and the position
-- that of its `?`
abbrev pub optional_enum_tree : ℕ → ℕ → ℕ → Name → ℕ → Decl
optional_enum_tree none some optional of mark_at =
    decls.Enum (name_at mark_at optional) false
    (record { word = name_at mark_at none; types = [] }
    ∷ record { word = name_at mark_at some; types = types.Named of ∷ [] } ∷ [])
    []
