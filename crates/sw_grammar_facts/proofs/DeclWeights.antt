-- Weights of declarations and their members, in which types, expressions and statements weigh
-- nothing.
use Rattle.std.proofs.Common.{ℕ, ◌+◌, ◌≤◌, Bool, IsSome, IsTrue, List, length, arith}
use Rattle.sw_token.specs.Spelling.{Spelled}
use Rattle.sw_grammar_forms.specs.Sets.{has, word, attribute}
use Rattle.sw_tree.proofs.Counting.{Weight, in_all}
use Rattle.sw_tree.specs.declared.decl.CaseTree.{CaseTree}
use Rattle.sw_tree.specs.declared.decl.Decl.{Decl}
use Rattle.sw_tree.specs.declared.decl.Decl.TheVariants as decls
use Rattle.sw_tree.specs.declared.decl.FuncTree.{FuncTree}
use Rattle.sw_tree.specs.declared.decl.InitTree.{InitTree}
use Rattle.sw_tree.specs.declared.decl.PropTree.{PropTree}
use Rattle.sw_tree.specs.declared.decl.Written.{Written}
use Rattle.sw_tree.specs.declared.name.Name.{Name}
use Rattle.sw_tree.specs.declared.stmt.Block.{Block}
use Rattle.sw_grammar_facts.proofs.Owning.{none, tally_of}
use Rattle.sw_grammar_facts.proofs.Questions.{IsOther}
use Rattle.sw_grammar.specs.Tokens.{name_of, at_name}
use Rattle.sw_grammar_facts.proofs.Spread.{spread_none}
use Rattle.sw_grammar_facts.proofs.Weighing.{Weighing}

-- the laws that are left of those of a weighing
pub record DeclWeights (id_of : List ℕ → ℕ) : Type 0 where
  pub of_token : Spelled → Weight
  pub entry : ℕ → Weight
  pub node : Name → Weight
  pub label : Name → Weight
  pub func : FuncTree → Weight
  pub prop : PropTree → Weight
  pub case : CaseTree → Weight
  pub decl : Decl → Weight
  pub of_entry : (token : Spelled) → IsOther token → (k : ℕ)
      → entry token.at k ≤ of_token token k
  pub of_word : (token : Spelled) → IsOther token → IsTrue (has word token) → (k : ℕ)
      → node (name_of id_of token) k + label (name_of id_of token) k ≤ of_token token k
  pub of_mark : (token : Spelled) → IsOther token → IsTrue (has attribute token) → (k : ℕ)
      → label (at_name id_of token) k ≤ of_token token k
  pub func-is : (given : FuncTree) (k : ℕ) → func given k ≤ node given.word k
  pub prop-is : (given : PropTree) (k : ℕ) → prop given k ≤ node given.word k
  pub case-is : (given : CaseTree) (k : ℕ) → case given k ≤ label given.word k
  pub decl-Entry : (word : Name) (mark : Written) (at : ℕ) (is_async : Bool) (body : Block) (k : ℕ)
      → decl (decls.Entry word mark at is_async body) k ≤ label word k + entry at k
  pub decl-Struct : (word : Name) (conforms : Bool) (fields : List PropTree)
      (funcs : List FuncTree) (k : ℕ)
      → decl (decls.Struct word conforms fields funcs) k
      ≤ node word k + in_all prop fields k + in_all func funcs k
  pub decl-Enum : (word : Name) (conforms : Bool) (given : List CaseTree)
      (funcs : List FuncTree) (k : ℕ)
      → decl (decls.Enum word conforms given funcs) k
      ≤ node word k + in_all case given k + in_all func funcs k
  pub decl-Class : (mark : Written) (word : Name) (conforms : Bool) (props : List PropTree)
      (inits : List InitTree) (funcs : List FuncTree) (k : ℕ)
      → decl (decls.Class mark word conforms props inits funcs) k
      ≤ node word k + in_all prop props k + in_all func funcs k
  pub decl-Actor : (word : Name) (props : List PropTree) (inits : List InitTree)
      (funcs : List FuncTree) (k : ℕ)
      → decl (decls.Actor word props inits funcs) k
      ≤ node word k + in_all prop props k + in_all func funcs k
  pub decl-GlobalActor : (word made : Name) (k : ℕ)
      → decl (decls.GlobalActor word made) k ≤ node word k + label made k
  pub decl-Func : (given : FuncTree) (k : ℕ) → decl (decls.Func given) k ≤ func given k
  pub decl-Global : (given : PropTree) → IsSome given.value → (k : ℕ)
      → decl (decls.Global given) k ≤ prop given k

-- They make a weighing.
unfoldable pub weighing : {id_of : List ℕ → ℕ} → DeclWeights id_of → Weighing id_of
weighing w = record {
  tally = tally_of w.of_token;
  place = λ at. none;
  entry = w.entry;
  node = w.node;
  label = w.label;
  type = λ ty. none;
  expr = λ expr. none;
  arg = λ arg. none;
  closure_param = λ param. none;
  task_param = λ param. none;
  closure = λ closure. none;
  inside = λ it. none;
  link = λ link. none;
  block = λ block. none;
  stmt = λ stmt. none;
  stmts = λ all. none;
  for_block = λ name body. none;
  pattern = λ pattern. none;
  case_arm = λ arm. none;
  if_arm = λ arm. none;
  written = λ mark. none;
  param = λ param. none;
  func = w.func;
  prop = w.prop;
  init = λ init. none;
  case = w.case;
  decl = w.decl;
  of_place = λ token _ k. omega arith;
  of_span = λ token _ _ k. omega (arith, spread_none (length token.text) token.at k);
  of_entry = w.of_entry;
  of_word = λ token other _ is k. w.of_word token other is k;
  of_mark = w.of_mark;
  of_node = λ name k. omega arith;
  of_optional_type = λ name text k. omega arith;
  type-Named = λ name k. omega arith;
  type-Unit = λ at k. omega arith;
  type-Arrow = λ at mark params result k. omega arith;
  type-TaskOf = λ at inner k. omega arith;
  expr-Int = λ at value k. omega arith;
  expr-Bool = λ at value k. omega arith;
  expr-Use = λ name k. omega arith;
  expr-Me = λ at k. omega arith;
  expr-Member = λ base name k. omega arith;
  expr-Call = λ name args k. omega arith;
  expr-Method = λ base name args k. omega arith;
  expr-Chain = λ first next rest k. omega arith;
  expr-Prefix = λ op at inner k. omega arith;
  expr-Await = λ at inner k. omega arith;
  expr-Fun = λ body k. omega arith;
  expr-Spawn = λ at detached opened body k. omega arith;
  expr-Yield = λ at k. omega arith;
  expr-None = λ at text _ k. omega arith;
  expr-Some = λ at text value _ k. omega arith;
  expr-Optional = λ at k. omega arith;
  expr-Task = λ tasks at tree k. omega arith;
  arg-roll = λ name value k. omega arith;
  closure_param-is = λ given k. omega arith;
  inside-is = λ it _ k. omega arith;
  closure-opened = λ at it _ k. omega arith;
  closure-Task = λ eq_at await_at tasks value _ k. omega arith;
  link-roll = λ op at operand k. omega arith;
  block-roll = λ body k. omega arith;
  stmts-nil = λ k. omega arith;
  stmts-one = λ one k. omega arith;
  stmts-append = λ xs ys _ k. omega arith;
  stmt-Bind = λ mutable name ty value k. omega arith;
  stmts-Or = λ binding _ _ _ _ colon_at ty eq_at value or k. omega arith;
  stmt-Assign = λ at op first value _ k. omega arith;
  stmt-Discard = λ at value k. omega arith;
  stmt-If = λ arm arms otherwise k. omega arith;
  stmt-While = λ at cond body k. omega arith;
  stmt-Switch = λ at subject arms otherwise k. omega arith;
  stmt-Return = λ at value k. omega arith;
  stmt-Break = λ at k. omega arith;
  stmt-Continue = λ at k. omega arith;
  stmt-Plain = λ value k. omega arith;
  pattern-Skip = λ at k. omega arith;
  pattern-Let = λ name k. omega arith;
  for_block-is = λ name body _ k. omega arith;
  arm-Some = λ at name body k. omega arith;
  case_arm-roll = λ name given body _ k. omega arith;
  if_arm-roll = λ at cond body k. omega arith;
  written-Absent = λ k. omega arith;
  written-At = λ name k. omega arith;
  written-Nonisolated = λ k. omega arith;
  written-Concurrent = λ k. omega arith;
  written-Nonsending = λ k. omega arith;
  param-is = λ given k. omega arith;
  func-is = λ given _ k. omega (arith, w.func-is given k);
  prop-is = λ given k. omega (arith, w.prop-is given k);
  init-is = λ given _ k. omega arith;
  case-is = λ given k. omega (arith, w.case-is given k);
  decl-Entry = λ word mark at is_async body k.
      omega (arith, w.decl-Entry word mark at is_async body k);
  decl-Struct = λ word conforms fields funcs _ k.
      omega (arith, w.decl-Struct word conforms fields funcs k);
  decl-Enum = λ word conforms given funcs _ k.
      omega (arith, w.decl-Enum word conforms given funcs k);
  decl-Class = λ mark word conforms props inits funcs _ k.
      omega (arith, w.decl-Class mark word conforms props inits funcs k);
  decl-Actor = λ word props inits funcs _ k.
      omega (arith, w.decl-Actor word props inits funcs k);
  decl-GlobalActor = w.decl-GlobalActor;
  decl-Func = w.decl-Func;
  decl-Global = w.decl-Global;
}
