-- A weight of everything that trees hold, by laws that say what each form of node adds to its
-- parts, and that tokens weigh what they give. Where variables are declared, a law may use that
-- earlier tokens pay for them than for what they are declared for.
use Rattle.std.proofs.Common.{◌≡◌, ℕ, ℤ, suc, ◌+◌, ◌≤◌, Bool, true, IsSome, IsTrue, List, [], ◌∷◌, ◌++◌}
use Rattle.std.proofs.Common.{Option, length, codes}
use Rattle.sw_token.specs.Spelling.{Spelled}
use Rattle.sw_grammar_forms.proofs.Rising.{HasTokenText}
use Rattle.sw_grammar_forms.specs.Sets.{has, word, attribute, quoted}
use Rattle.sw_tree.specs.Place.{is_place}
use Rattle.sw_tree.proofs.Counting.{Weight, in_all, in_option}
use Rattle.sw_tree.specs.declared.name.Name.{Name}
use Rattle.sw_tree.specs.declared.operator.AssignOp.{AssignOp}
use Rattle.sw_tree.specs.declared.operator.InfixOp.{InfixOp}
use Rattle.sw_tree.specs.declared.operator.PrefixOp.{PrefixOp}
use Rattle.sw_tree.specs.declared.type_tree.TypeTree.{TypeTree}
use Rattle.sw_tree.specs.declared.type_tree.TypeTree.TheVariants as types
use Rattle.sw_tree.specs.declared.expr.Expr.{Expr}
use Rattle.sw_tree.specs.declared.expr.Expr.TheVariants as exprs
use Rattle.sw_tree.specs.declared.expr.Arg.{Arg, roll-Arg}
use Rattle.sw_tree.specs.declared.expr.Closure.{Closure}
use Rattle.sw_tree.specs.declared.expr.ClosureParam.{ClosureParam}
use Rattle.sw_tree.specs.declared.expr.Link.{Link, roll-Link}
use Rattle.sw_tree.specs.declared.stmt.Block.{Block, roll-Block}
use Rattle.sw_tree.specs.declared.stmt.CaseArm.{CaseArm, roll-CaseArm}
use Rattle.sw_tree.specs.declared.stmt.IfArm.{IfArm, roll-IfArm}
use Rattle.sw_tree.specs.declared.stmt.Pattern.{Pattern}
use Rattle.sw_tree.specs.declared.stmt.Pattern.TheVariants as patterns
use Rattle.sw_tree.specs.declared.stmt.Stmt.{Stmt}
use Rattle.sw_tree.specs.declared.stmt.Stmt.TheVariants as statements
use Rattle.sw_tree.specs.declared.decl.CaseTree.{CaseTree}
use Rattle.sw_tree.specs.declared.decl.Decl.{Decl}
use Rattle.sw_tree.specs.declared.decl.Decl.TheVariants as decls
use Rattle.sw_tree.specs.declared.decl.FuncTree.{FuncTree}
use Rattle.sw_tree.specs.declared.decl.InitTree.{InitTree}
use Rattle.sw_tree.specs.declared.decl.ParamTree.{ParamTree}
use Rattle.sw_tree.specs.declared.decl.PropTree.{PropTree}
use Rattle.sw_tree.specs.declared.decl.Written.{Written}
use Rattle.sw_tree.specs.declared.decl.Written.TheVariants as writtens
use Rattle.sw_sugar.specs.AsyncLet.{task_body}
use Rattle.sw_sugar.specs.Calls.{or_literal_form}
use Rattle.sw_sugar.specs.Optionals.{name_at, none_tree, or_literal_stmts, some_arm, some_tree}
use Rattle.sw_sugar.specs.Optionals.{use_at}
use Rattle.sw_sugar.specs.Tasks.{of_task}
use Rattle.sw_grammar.specs.Tokens.{name_of, at_name, optional_text}
use Rattle.sw_grammar.specs.Nests.{ClosureInside}
use Rattle.sw_grammar.specs.Exprs.{closure_at}
use Rattle.sw_grammar.specs.Stmts.{Binding, Or}
use Rattle.sw_grammar_facts.specs.Interned.{is_binding}
use Rattle.sw_grammar_facts.proofs.Owning.{Tally, InTurn, PaidAfter}
use Rattle.sw_grammar_facts.proofs.Questions.{IsOther}
use Rattle.sw_grammar_facts.proofs.Spread.{spread}
use Rattle.sw_grammar_facts.proofs.Unmarked.{is_unmarked}

-- the word of a binding, with the `let` or `var` before it and the `:` after it
pub record IsTyped (id_of : List ℕ → ℕ) (binding : Binding) (word_token colon : Spelled) : Type 0
  where
    pub let_token : Spelled
    pub is_let : is_binding let_token.text ≡ true
    pub whole_text : HasTokenText word_token
    pub is_word : IsTrue (has word word_token)
    pub is_colon : IsTrue (has (quoted (codes ":")) colon)
    pub text : binding.word.text ≡ word_token.text
    pub name : binding.word.name ≡ name_of id_of word_token

pub record Weighing (id_of : List ℕ → ℕ) : Type 0 where
  pub tally : Tally
  -- a position that is a node's key, the name of a node, and any other name
  pub place : ℕ → Weight
  pub node : Name → Weight
  pub label : Name → Weight
  -- the position that is the entry's key, of which a token has one, however long it is
  pub entry : ℕ → Weight
  -- a type by its tokens, which a form may name twice
  pub type : TypeTree → Weight
  pub expr : Expr → Weight
  pub arg : Arg → Weight
  pub closure_param : ClosureParam → Weight
  -- a parameter of a task, which no text can write
  pub task_param : ClosureParam → Weight
  pub closure : Closure → Weight
  -- what a closure has after its `{`
  pub inside : ClosureInside → Weight
  pub link : Link → Weight
  pub block : Block → Weight
  pub stmt : Stmt → Weight
  -- statements one after another
  pub stmts : List Stmt → Weight
  -- a block, and a variable that is declared for it alone
  pub for_block : Name → Block → Weight
  pub pattern : Pattern → Weight
  pub case_arm : CaseArm → Weight
  pub if_arm : IfArm → Weight
  pub written : Written → Weight
  pub param : ParamTree → Weight
  pub func : FuncTree → Weight
  pub prop : PropTree → Weight
  pub init : InitTree → Weight
  pub case : CaseTree → Weight
  pub decl : Decl → Weight
  -- tokens
  pub of_place : (token : Spelled) → IsOther token → (k : ℕ)
      → place token.at k ≤ tally.of_token token k
  pub of_span : (token : Spelled) → IsOther token → length token.text ≤ 16 → (k : ℕ)
      → spread place (length token.text) token.at k ≤ tally.of_token token k
  pub of_entry : (token : Spelled) → IsOther token → (k : ℕ)
      → entry token.at k ≤ tally.of_token token k
  pub of_word : (token : Spelled) → IsOther token → HasTokenText token → IsTrue (has word token)
      → (k : ℕ)
      → node (name_of id_of token) k + label (name_of id_of token) k ≤ tally.of_token token k
  pub of_mark : (token : Spelled) → IsOther token → IsTrue (has attribute token) → (k : ℕ)
      → label (at_name id_of token) k ≤ tally.of_token token k
  pub of_node : (name : Name) (k : ℕ) → place name.at k ≤ node name k
  pub of_optional_type : (name : Name) (text : List ℕ) (k : ℕ)
      → type (types.Named (name_at name.at (id_of (optional_text text)))) k ≤ label name k
  -- types
  pub type-Named : (name : Name) (k : ℕ) → type (types.Named name) k ≤ label name k
  pub type-Unit : (at k : ℕ) → type (types.Unit at) k ≤ 0
  pub type-Arrow : (at : ℕ) (mark : Option Name) (params : List TypeTree) (result : TypeTree)
      (k : ℕ)
      → type (types.Arrow at mark params result) k
      ≤ in_option label mark k + in_all type params k + type result k
  pub type-TaskOf : (at : ℕ) (inner : TypeTree) (k : ℕ)
      → type (types.TaskOf at inner) k ≤ type inner k
  -- expressions
  pub expr-Int : (at : ℕ) (value : ℤ) (k : ℕ) → expr (exprs.Int at value) k ≤ place at k
  pub expr-Bool : (at : ℕ) (value : Bool) (k : ℕ) → expr (exprs.Bool at value) k ≤ place at k
  pub expr-Use : (name : Name) (k : ℕ) → expr (exprs.Use name) k ≤ node name k
  pub expr-Me : (at k : ℕ) → expr (exprs.Me at) k ≤ place at k
  pub expr-Member : (base : Expr) (name : Name) (k : ℕ)
      → expr (exprs.Member base name) k ≤ node name k + expr base k
  pub expr-Call : (name : Name) (args : List Arg) (k : ℕ)
      → expr (exprs.Call name args) k ≤ node name k + in_all arg args k
  pub expr-Method : (base : Expr) (name : Name) (args : List Arg) (k : ℕ)
      → expr (exprs.Method base name args) k ≤ node name k + expr base k + in_all arg args k
  -- a chain has an operator
  pub expr-Chain : (first : Expr) (next : Link) (rest : List Link) (k : ℕ)
      → expr (exprs.Chain first (next ∷ rest)) k ≤ expr first k + in_all link (next ∷ rest) k
  pub expr-Prefix : (op : PrefixOp) (at : ℕ) (inner : Expr) (k : ℕ)
      → expr (exprs.Prefix op at inner) k ≤ place at k + expr inner k
  pub expr-Await : (at : ℕ) (inner : Expr) (k : ℕ)
      → expr (exprs.Await at inner) k ≤ place at k + expr inner k
  pub expr-Fun : (body : Closure) (k : ℕ) → expr (exprs.Fun body) k ≤ closure body k
  pub expr-Spawn : (at : ℕ) (detached : Bool) (opened : ℕ) (body : ClosureInside) (k : ℕ)
      → expr (exprs.Spawn at detached (closure_at opened body)) k
      ≤ place at k + closure (closure_at opened body) k + in_all task_param body.params k
  pub expr-Yield : (at k : ℕ) → expr (exprs.Yield at) k ≤ place at k
  -- values of the optional of a text without `?`, and `Optional` as a name
  pub expr-None : (at : ℕ) (text : List ℕ) → IsTrue (is_unmarked text) → (k : ℕ)
      → expr (none_tree (id_of (codes "none")) (id_of (optional_text text)) at) k
      ≤ place at k + place (suc at) k
  pub expr-Some : (at : ℕ) (text : List ℕ) (value : Expr) → IsTrue (is_unmarked text) → (k : ℕ)
      → expr (some_tree (id_of (codes "some")) (id_of (optional_text text)) at value) k
      ≤ place at k + place (suc at) k + expr value k
  pub expr-Optional : (at k : ℕ) → expr (use_at at (id_of (codes "Optional"))) k ≤ place at k
  -- what an `await` awaits: of a word that stands for a task, a use of it besides
  pub expr-Task : (tasks : List ℕ) (at : ℕ) (tree : Expr) (k : ℕ)
      → expr (of_task tasks at tree) k ≤ place at k + expr tree k
  pub arg-roll : (name : Option Name) (value : Expr) (k : ℕ)
      → arg (roll-Arg (record { label = name; value = value })) k
      ≤ in_option label name k + expr value k
  pub closure_param-is : (given : ClosureParam) (k : ℕ)
      → closure_param given k ≤ node given.name k + type given.ty k
  pub inside-is : (it : ClosureInside)
      → InTurn tally (in_all closure_param it.params) (stmts it.body) → (k : ℕ)
      → inside it k
      ≤ in_option label it.mark k + in_all node it.captures k
      + in_all closure_param it.params k + in_option type it.result k + stmts it.body k
  pub closure-opened : (at : ℕ) (it : ClosureInside) → PaidAfter tally at (inside it) → (k : ℕ)
      → closure (closure_at at it) k ≤ place at k + inside it k
  -- the body of a task that awaits a value, where later tokens pay the value
  pub closure-Task : (eq_at await_at : ℕ) (tasks : List ℕ) (value : Expr)
      → PaidAfter tally eq_at (expr value) → (k : ℕ)
      → closure (task_body eq_at await_at (of_task tasks (suc await_at) value)) k
      ≤ place eq_at k + place await_at k + place (suc await_at) k + expr value k
  pub link-roll : (op : InfixOp) (at : ℕ) (operand : Expr) (k : ℕ)
      → link (roll-Link (record { op = op; at = at; operand = operand })) k
      ≤ place at k + expr operand k
  -- statements
  pub block-roll : (body : List Stmt) (k : ℕ)
      → block (roll-Block (record { stmts = body })) k ≤ stmts body k
  pub stmts-nil : (k : ℕ) → stmts [] k ≤ 0
  pub stmts-one : (one : Stmt) (k : ℕ) → stmts (one ∷ []) k ≤ stmt one k
  pub stmts-append : (xs ys : List Stmt) → InTurn tally (stmts xs) (stmts ys) → (k : ℕ)
      → stmts (xs ++ ys) k ≤ stmts xs k + stmts ys k
  pub stmt-Bind : (mutable : Bool) (name : Name) (ty : Option TypeTree) (value : Expr) (k : ℕ)
      → stmt (statements.Bind mutable name ty value) k
      ≤ node name k + in_option type ty k + expr value k
  -- `let x: T = e ?? d`
  pub stmts-Or : (binding : Binding) (word_token colon : Spelled)
      → (typed : IsTyped id_of binding word_token colon)
      → IsTrue (tally.known (typed.let_token ∷ word_token ∷ colon ∷ []))
      → (colon_at : ℕ) (ty : TypeTree) (eq_at : ℕ) (value : Expr) (or : Or) (k : ℕ)
      → stmts (or_literal_stmts (or_literal_form id_of binding.word.text binding.mutable
      binding.word.name binding.let_at colon_at eq_at or.op_at) ty value or.other) k
      ≤ spread place 3 binding.let_at k + node binding.word.name k + place colon_at k + type ty k
      + place eq_at k + expr value k + spread place 2 or.op_at k + expr or.other k
  -- what is assigned to is a place
  pub stmt-Assign : (at : ℕ) (op : AssignOp) (first value : Expr) → IsTrue (is_place first)
      → (k : ℕ)
      → stmt (statements.Assign at op first value) k ≤ place at k + expr first k + expr value k
  pub stmt-Discard : (at : ℕ) (value : Expr) (k : ℕ)
      → stmt (statements.Discard at value) k ≤ place at k + expr value k
  -- an `if` has an arm
  pub stmt-If : (arm : IfArm) (arms : List IfArm) (otherwise : Option Block) (k : ℕ)
      → stmt (statements.If (arm ∷ arms) otherwise) k
      ≤ in_all if_arm (arm ∷ arms) k + in_option block otherwise k
  pub stmt-While : (at : ℕ) (cond : Expr) (body : Block) (k : ℕ)
      → stmt (statements.While at cond body) k ≤ place at k + expr cond k + block body k
  pub stmt-Switch : (at : ℕ) (subject : Expr) (arms : List CaseArm) (otherwise : Option Block)
      (k : ℕ)
      → stmt (statements.Switch at subject arms otherwise) k
      ≤ place at k + expr subject k + in_all case_arm arms k + in_option block otherwise k
  pub stmt-Return : (at : ℕ) (value : Option Expr) (k : ℕ)
      → stmt (statements.Return at value) k ≤ place at k + in_option expr value k
  pub stmt-Break : (at k : ℕ) → stmt (statements.Break at) k ≤ place at k
  pub stmt-Continue : (at k : ℕ) → stmt (statements.Continue at) k ≤ place at k
  pub stmt-Plain : (value : Expr) (k : ℕ) → stmt (statements.Plain value) k ≤ expr value k
  pub pattern-Skip : (at k : ℕ) → pattern (patterns.Skip at) k ≤ place at k
  pub pattern-Let : (name : Name) (k : ℕ) → pattern (patterns.Let name) k ≤ node name k
  pub for_block-is : (name : Name) (body : Block) → InTurn tally (node name) (block body)
      → (k : ℕ) → for_block name body k ≤ node name k + block body k
  pub arm-Some : (at : ℕ) (name : Name) (body : Block) (k : ℕ)
      → case_arm (some_arm (id_of (codes "some")) at name body) k
      ≤ place at k + for_block name body k
  pub case_arm-roll : (name : Name) (given : List Pattern) (body : Block)
      → InTurn tally (in_all pattern given) (block body) → (k : ℕ)
      → case_arm (roll-CaseArm (record { name = name; patterns = given; body = body })) k
      ≤ label name k + in_all pattern given k + block body k
  pub if_arm-roll : (at : ℕ) (cond : Expr) (body : Block) (k : ℕ)
      → if_arm (roll-IfArm (record { at = at; cond = cond; body = body })) k
      ≤ place at k + expr cond k + block body k
  -- declarations
  pub written-Absent : (k : ℕ) → written writtens.Absent k ≤ 0
  pub written-At : (name : Name) (k : ℕ) → written (writtens.At name) k ≤ label name k
  pub written-Nonisolated : (k : ℕ) → written writtens.Nonisolated k ≤ 0
  pub written-Concurrent : (k : ℕ) → written writtens.Concurrent k ≤ 0
  pub written-Nonsending : (k : ℕ) → written writtens.Nonsending k ≤ 0
  pub param-is : (given : ParamTree) (k : ℕ)
      → param given k ≤ node given.name k + in_option label given.label k + type given.ty k
  pub func-is : (given : FuncTree) → InTurn tally (in_all param given.params) (block given.body)
      → (k : ℕ)
      → func given k
      ≤ node given.word k + written given.written k + in_all param given.params k
      + in_option type given.result k + block given.body k
  pub prop-is : (given : PropTree) (k : ℕ)
      → prop given k
      ≤ node given.word k + written given.written k + in_option type given.ty k
      + in_option expr given.value k
  pub init-is : (given : InitTree) → InTurn tally (in_all param given.params) (block given.body)
      → (k : ℕ)
      → init given k ≤ place given.at k + in_all param given.params k + block given.body k
  pub case-is : (given : CaseTree) (k : ℕ)
      → case given k ≤ label given.word k + in_all type given.types k
  pub decl-Entry : (word : Name) (mark : Written) (at : ℕ) (is_async : Bool) (body : Block) (k : ℕ)
      → decl (decls.Entry word mark at is_async body) k
      ≤ label word k + written mark k + entry at k + block body k
  pub decl-Struct : (word : Name) (conforms : Bool) (fields : List PropTree)
      (funcs : List FuncTree)
      → InTurn tally (node word) (λ k. in_all prop fields k + in_all func funcs k) → (k : ℕ)
      → decl (decls.Struct word conforms fields funcs) k
      ≤ node word k + in_all prop fields k + in_all func funcs k
  pub decl-Enum : (word : Name) (conforms : Bool) (given : List CaseTree)
      (funcs : List FuncTree) → InTurn tally (node word) (in_all func funcs) → (k : ℕ)
      → decl (decls.Enum word conforms given funcs) k
      ≤ node word k + in_all case given k + in_all func funcs k
  pub decl-Class : (mark : Written) (word : Name) (conforms : Bool) (props : List PropTree)
      (inits : List InitTree) (funcs : List FuncTree)
      → InTurn tally (node word)
      (λ k. in_all prop props k + in_all init inits k + in_all func funcs k) → (k : ℕ)
      → decl (decls.Class mark word conforms props inits funcs) k
      ≤ node word k + written mark k + in_all prop props k + in_all init inits k
      + in_all func funcs k
  pub decl-Actor : (word : Name) (props : List PropTree) (inits : List InitTree)
      (funcs : List FuncTree)
      → InTurn tally (node word)
      (λ k. in_all prop props k + in_all init inits k + in_all func funcs k) → (k : ℕ)
      → decl (decls.Actor word props inits funcs) k
      ≤ node word k + in_all prop props k + in_all init inits k + in_all func funcs k
  pub decl-GlobalActor : (word made : Name) (k : ℕ)
      → decl (decls.GlobalActor word made) k ≤ node word k + label made k
  pub decl-Func : (given : FuncTree) (k : ℕ) → decl (decls.Func given) k ≤ func given k
  -- a global variable has a value
  pub decl-Global : (given : PropTree) → IsSome given.value → (k : ℕ)
      → decl (decls.Global given) k ≤ prop given k
