-- The code of each form of expression has what its steps have.
use Rattle.std.proofs.Common.{◌≡◌, ℕ, List, [], ◌∷◌, Option, Some, None, inl, inr, refl}
use Rattle.std.specs.List.{AllByRecursion}
use Rattle.sw_tree.specs.declared.operator.InfixOp.{InfixOp}
use Rattle.sw_tree.specs.declared.operator.InfixOp.TheVariants as infix_of
use Rattle.sw_tree.specs.declared.operator.PrefixOp.{PrefixOp}
use Rattle.sw_tree.specs.declared.operator.PrefixOp.TheVariants as prefix_of
use Rattle.sw_types.specs.declared.shape.ShapeKind.{ShapeKind}
use Rattle.sw_types.specs.declared.shape.ShapeKind.TheVariants as shapes
use Rattle.sw_types.specs.declared.ty.Ty.{Ty}
use Rattle.sw_types.specs.declared.ty.Ty.TheVariants as types
use Rattle.sw_graph.specs.declared.function.RegKind.TheVariants.{Plain}
use Rattle.sw_graph.specs.declared.instr.BinOp.{BinOp}
use Rattle.sw_graph.specs.declared.instr.Operand.{Operand}
use Rattle.sw_typing_rules.specs.declared.row.Meaning.{Meaning}
use Rattle.sw_typing_rules.specs.declared.row.Meaning.TheVariants as means
use Rattle.sw_lower_code.specs.Code.{Code, andthen}
use Rattle.sw_lower_code.specs.Whole.{Body}
use Rattle.sw_lower_rules.specs.Carriers.{ArgCode, ClosureCode, ExprCode, LinkCode}
use Rattle.sw_lower_rules.specs.Expressions.{args_read, awaited, binary, by_op, call_read, captured}
use Rattle.sw_lower_rules.specs.Expressions.{chain_code, closure_called, fun_read, links_read}
use Rattle.sw_lower_rules.specs.Expressions.{member_code, member_read, member_write, method_read}
use Rattle.sw_lower_rules.specs.Expressions.{own_base, prefixed, read_of_base, self_code, set_part}
use Rattle.sw_lower_rules.specs.Expressions.{value, word_code, word_write, write_part}
use Rattle.sw_lower_rules.specs.Tables.{Tables, plain}
use Rattle.sw_lower_rules.specs.Uses.{operand}
use Rattle.sw_lower_code_facts.specs.Kept.{ArgHas, ExprHas, Kept, KeptByForms, LinkHas}
use Rattle.sw_lower_code_facts.proofs.Uses.{has_call_closure, has_capture, has_each, has_each_of}
use Rattle.sw_lower_code_facts.proofs.Uses.{has_give, has_make_value, has_read_global, has_read_own}
use Rattle.sw_lower_code_facts.proofs.Uses.{has_read_part, has_read_self, has_read_var, has_read_word}
use Rattle.sw_lower_code_facts.proofs.Uses.{has_shape_at, has_shape_of, has_typed, has_unknown}
use Rattle.sw_lower_code_facts.proofs.Uses.{has_write_var}

module _ (kept : Kept) where
  abbrev Has : {A : Type 0} → Code A → Type 0
  Has code = kept.Has code

  has_prefixed : (op : PrefixOp) (at : ℕ) (given : Operand) → Has (prefixed op at given)
  has_prefixed prefix_of.Not at given = has_give kept at types.Bool _ (λ r. tt)
  has_prefixed prefix_of.Negate at given = has_give kept at types.Int _ (λ r. tt)

  -- arguments
  has_args : (args : List ArgCode) → AllByRecursion (ArgHas kept) args → Has (args_read args)
  has_args args all = has_each kept (λ (arg : ArgCode). arg.read) args all

  -- an expression that is no place
  pub value_has : (key : ℕ) (read : Code Operand) (inside : List Body) → Has read
      → ExprHas kept (value key read inside)
  value_has key read inside has = record { read = has; write = λ given. kept.known _ _ }

  pub prefix_has : (op : PrefixOp) (at : ℕ) (inner : ExprCode) → ExprHas kept inner
      → ExprHas kept (value at (andthen inner.read (prefixed op at)) inner.inside)
  prefix_has op at inner has =
      value_has at _ inner.inside (kept.after inner.read _ has.read (has_prefixed op at))

  module _ (tables : Tables) (owner : Option ℕ) (forms : KeptByForms kept tables owner) where
    -- operators
    has_binary : (at : ℕ) (op : BinOp) (ty : Ty) (right : Code Operand) (left : Operand)
        → Has right → Has (binary at op ty right left)
    has_binary at op ty right left has =
        kept.after right _ has (λ other. has_give kept at ty _ (λ r. tt))

    has_by_op : (op : InfixOp) (at : ℕ) (right : Code Operand) (left : Operand) → Has right
        → Has (by_op op at right left)
    has_by_op infix_of.Or at right left has = forms.disjoined at right left has
    has_by_op infix_of.And at right left has = forms.conjoined at right left has
    has_by_op infix_of.Equal at right left has = has_binary at _ _ right left has
    has_by_op infix_of.NotEqual at right left has = has_binary at _ _ right left has
    has_by_op infix_of.Less at right left has = has_binary at _ _ right left has
    has_by_op infix_of.LessEqual at right left has = has_binary at _ _ right left has
    has_by_op infix_of.Greater at right left has = has_binary at _ _ right left has
    has_by_op infix_of.GreaterEqual at right left has = has_binary at _ _ right left has
    has_by_op infix_of.Add at right left has = has_binary at _ _ right left has
    has_by_op infix_of.Subtract at right left has = has_binary at _ _ right left has
    has_by_op infix_of.Multiply at right left has = has_binary at _ _ right left has
    has_by_op infix_of.Divide at right left has = has_binary at _ _ right left has
    has_by_op infix_of.Remainder at right left has = has_binary at _ _ right left has

    has_links : (links : List LinkCode) (left : Operand) → AllByRecursion (LinkHas kept) links
        → Has (links_read links left)
    unfolding links_read
    has_links [] left all = kept.done left
    has_links (link ∷ links) left all =
        kept.after _ _ (has_by_op link.op link.at link.read left all.0) (λ given.
        has_links links given all.1)

    pub chain_has : (first : ExprCode) (rest : List LinkCode) → ExprHas kept first
        → AllByRecursion (LinkHas kept) rest → ExprHas kept (chain_code tables owner first rest)
    chain_has first rest has all =
        value_has _ _ _
        (kept.after first.read _ has.read (λ given. has_links rest given all))

    pub await_has : (at : ℕ) (inner : ExprCode) → ExprHas kept inner
        → ExprHas kept (value at (awaited tables owner at inner) inner.inside)
    await_has at inner has =
        value_has at _ inner.inside (kept.after inner.read _ has.read (λ given. kept.done _))

    -- closures
    has_captured : (at closure : ℕ) → Has (captured tables owner at closure)
    has_captured at closure =
        has_each_of kept _ (tables.isolation.captures_of closure) (has_capture kept tables at)

    pub has_fun : (closure : ClosureCode) → Has (fun_read tables owner closure)
    has_fun closure =
        kept.after _ _ (has_captured closure.at closure.at) (λ operands.
        kept.after _ _ (kept.number (plain closure.at)) (λ f.
        kept.after _ _ (has_typed kept tables closure.at) (λ ty.
        has_give kept closure.at ty _ (λ r. tt))))

    -- assignments to parts
    has_set_part : (kind : ShapeKind) (at shape number : ℕ) (base : ExprCode) (given : Operand)
        → ExprHas kept base → Has (set_part tables owner kind at shape number base given)
    has_set_part shapes.Struct at shape number base given has =
        kept.after base.read _ has.read (λ old.
        kept.after _ _ (kept.reg (Plain (types.Named shape))) (λ r.
        kept.after _ _ (kept.emit _ tt) (λ copied.
        kept.after _ _ (kept.emit _ tt) (λ set. has.write (operand r base.key)))))
    has_set_part shapes.Enum at shape number base given has = kept.known _ _
    has_set_part shapes.Class at shape number base given has =
        kept.after base.read _ has.read (λ cell. kept.emit _ tt)
    has_set_part shapes.Actor at shape number base given has =
        kept.after base.read _ has.read (λ cell. kept.emit _ tt)

    has_write_part : (at shape number : ℕ) (base : ExprCode) (given : Operand)
        → ExprHas kept base → Has (write_part tables owner at shape number base given)
    unfolding write_part
    has_write_part at shape number base given has =
        kept.after _ _ (has_shape_at kept tables shape) (λ s.
        has_set_part s.kind at shape number base given has)

    -- words
    own_has : (at : ℕ) → ExprHas kept (own_base tables owner at)
    own_has at = value_has at _ [] (has_read_self kept tables owner forms.getter at)

    has_word_write : (at : ℕ) (meaning : Option Meaning) (given : Operand)
        → Has (word_write tables owner at meaning given)
    has_word_write at None given = kept.known _ _
    has_word_write at (Some (means.Local variable)) given =
        has_write_var kept tables at variable given
    has_word_write at (Some (means.OwnPart number)) given =
        kept.after _ _ (kept.known _ _) (λ shape.
        has_write_part at shape number (own_base tables owner at) given (own_has at))
    has_word_write at (Some (means.OwnFunc number)) given = kept.known _ _
    has_word_write at (Some (means.GlobalOf number)) given = kept.emit _ tt
    has_word_write at (Some (means.FuncOf number)) given = kept.known _ _
    has_word_write at (Some (means.MakeOf shape)) given = kept.known _ _
    has_word_write at (Some (means.CaseOf shape number)) given = kept.known _ _
    has_word_write at (Some (means.PartOf number)) given = kept.known _ _
    has_word_write at (Some means.Print) given = kept.known _ _
    has_word_write at (Some means.TaskValue) given = kept.known _ _

    pub word_has : (at : ℕ) → ExprHas kept (word_code tables owner at)
    word_has at = record {
      read = has_read_word kept tables owner forms.getter at;
      write = has_word_write at (tables.answers.meaning_at at);
    }

    pub self_has : (at : ℕ) → ExprHas kept (self_code tables owner at)
    self_has at = record {
      read = has_read_self kept tables owner forms.getter at;
      write = λ given. kept.known _ _;
    }

    -- members
    has_of_base : (at : ℕ) (base : ExprCode) (number : ℕ) → ExprHas kept base
        → Has (read_of_base tables owner at base number)
    has_of_base at base number has =
        kept.after base.read _ has.read (λ from.
        kept.after _ _ (has_shape_of kept tables base.key) (λ shape.
        has_read_part kept tables owner forms.getter at shape number from))

    has_member_read : (at : ℕ) (base : ExprCode) (meaning : Option Meaning) → ExprHas kept base
        → Has (member_read tables owner at base meaning)
    has_member_read at base None has = has_unknown kept
    has_member_read at base (Some (means.Local variable)) has = has_unknown kept
    has_member_read at base (Some (means.OwnPart number)) has = has_unknown kept
    has_member_read at base (Some (means.OwnFunc number)) has = has_unknown kept
    has_member_read at base (Some (means.GlobalOf number)) has = has_unknown kept
    has_member_read at base (Some (means.FuncOf number)) has = has_unknown kept
    has_member_read at base (Some (means.MakeOf shape)) has = has_unknown kept
    has_member_read at base (Some (means.CaseOf shape number)) has =
        has_make_value kept at shape (Some number) []
    has_member_read at base (Some (means.PartOf number)) has = has_of_base at base number has
    has_member_read at base (Some means.Print) has = has_unknown kept
    has_member_read at base (Some means.TaskValue) has =
        kept.after base.read _ has.read (λ task.
        kept.after _ _ (has_typed kept tables at) (λ ty. has_give kept at ty _ (λ r. tt)))

    has_member_write : (at : ℕ) (base : ExprCode) (meaning : Option Meaning) (given : Operand)
        → ExprHas kept base → Has (member_write tables owner at base meaning given)
    has_member_write at base None given has = kept.known _ _
    has_member_write at base (Some (means.Local variable)) given has = kept.known _ _
    has_member_write at base (Some (means.OwnPart number)) given has = kept.known _ _
    has_member_write at base (Some (means.OwnFunc number)) given has = kept.known _ _
    has_member_write at base (Some (means.GlobalOf number)) given has = kept.known _ _
    has_member_write at base (Some (means.FuncOf number)) given has = kept.known _ _
    has_member_write at base (Some (means.MakeOf shape)) given has = kept.known _ _
    has_member_write at base (Some (means.CaseOf shape number)) given has = kept.known _ _
    has_member_write at base (Some (means.PartOf number)) given has =
        kept.after _ _ (has_shape_of kept tables base.key) (λ shape.
        has_write_part at shape number base given has)
    has_member_write at base (Some means.Print) given has = kept.known _ _
    has_member_write at base (Some means.TaskValue) given has = kept.known _ _

    pub member_has : (base : ExprCode) (at name : ℕ) → ExprHas kept base
        → ExprHas kept (member_code tables owner base at name)
    member_has base at name has = record {
      read = has_member_read at base (tables.answers.meaning_at at) has;
      write = λ given. has_member_write at base (tables.answers.meaning_at at) given has;
    }

    -- calls
    has_called : (at : ℕ) (read : Code Operand) (args : List ArgCode) → Has read
        → AllByRecursion (ArgHas kept) args → Has (closure_called tables owner at read args)
    has_called at read args has all =
        kept.after read _ has (λ closure.
        kept.after _ _ (has_args args all) (has_call_closure kept tables at closure))

    has_call : (at : ℕ) (args : List ArgCode) (meaning : Option Meaning)
        → tables.answers.meaning_at at ≡ meaning → AllByRecursion (ArgHas kept) args
        → Has (call_read tables owner at args meaning)
    has_call at args None is all = has_unknown kept
    has_call at args (Some (means.Local variable)) is all =
        has_called at _ args (has_read_var kept tables at variable) all
    has_call at args (Some (means.OwnPart number)) is all =
        has_called at _ args (has_read_own kept tables owner forms.getter at number) all
    has_call at args (Some (means.OwnFunc number)) is all =
        kept.after _ _ (has_read_self kept tables owner forms.getter at) (λ me.
        kept.after _ _ (has_args args all) (λ operands.
        forms.func at number (me ∷ operands) (inr is)))
    has_call at args (Some (means.GlobalOf number)) is all =
        has_called at _ args (has_read_global kept tables owner forms.getter at number) all
    has_call at args (Some (means.FuncOf number)) is all =
        kept.after _ _ (has_args args all) (λ operands.
        forms.func at number operands (inl is))
    has_call at args (Some (means.MakeOf shape)) is all =
        kept.after _ _ (has_args args all) (λ operands. forms.maker at shape operands is)
    has_call at args (Some (means.CaseOf shape number)) is all = has_unknown kept
    has_call at args (Some (means.PartOf number)) is all = has_unknown kept
    has_call at args (Some means.Print) is all =
        kept.after _ _ (has_args args all)
        (λ operands. has_give kept at types.Unit _ (λ r. tt))
    has_call at args (Some means.TaskValue) is all = has_unknown kept

    pub call_has : (at : ℕ) (args : List ArgCode) (inside : List Body)
        → AllByRecursion (ArgHas kept) args → ExprHas kept
        (value at (call_read tables owner at args (tables.answers.meaning_at at)) inside)
    call_has at args inside all =
        value_has at _ inside (has_call at args (tables.answers.meaning_at at) refl all)

    has_method : (at : ℕ) (base : ExprCode) (args : List ArgCode) (meaning : Option Meaning)
        → tables.answers.meaning_at at ≡ meaning → ExprHas kept base
        → AllByRecursion (ArgHas kept) args
        → Has (method_read tables owner at base args meaning)
    has_method at base args None is has all = has_unknown kept
    has_method at base args (Some (means.Local variable)) is has all = has_unknown kept
    has_method at base args (Some (means.OwnPart number)) is has all = has_unknown kept
    has_method at base args (Some (means.OwnFunc number)) is has all = has_unknown kept
    has_method at base args (Some (means.GlobalOf number)) is has all = has_unknown kept
    has_method at base args (Some (means.FuncOf number)) is has all =
        kept.after base.read _ has.read (λ receiver.
        kept.after _ _ (has_args args all) (λ operands.
        forms.func at number (receiver ∷ operands) (inl is)))
    has_method at base args (Some (means.MakeOf shape)) is has all = has_unknown kept
    has_method at base args (Some (means.CaseOf shape number)) is has all =
        kept.after _ _ (has_args args all) (has_make_value kept at shape (Some number))
    has_method at base args (Some (means.PartOf number)) is has all =
        has_called at _ args (has_of_base at base number has) all
    has_method at base args (Some means.Print) is has all = has_unknown kept
    has_method at base args (Some means.TaskValue) is has all = has_unknown kept

    pub method_has : (at : ℕ) (base : ExprCode) (args : List ArgCode) (inside : List Body)
        → ExprHas kept base → AllByRecursion (ArgHas kept) args → ExprHas kept
        (value at (method_read tables owner at base args (tables.answers.meaning_at at)) inside)
    method_has at base args inside has all =
        value_has at _ inside
        (has_method at base args (tables.answers.meaning_at at) refl has all)
