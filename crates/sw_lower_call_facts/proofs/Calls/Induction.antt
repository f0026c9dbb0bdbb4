-- Each call and each task in the code of a tree is of something.
use Rattle.std.proofs.Common.{◌≡◌, ℕ, false, true, List, [], ◌∷◌, ◌++◌, Option}
use Rattle.std.proofs.lemmas.List.Elements.{All-cons, All-nil, Contains-append_left}
use Rattle.std.proofs.lemmas.List.Elements.{Contains-append_right}
use Rattle.std.specs.Prelude.{All}
use Rattle.sw_tree.specs.declared.expr.Expr.{Expr}
use Rattle.sw_tree.specs.declared.stmt.Block.{Block}
use Rattle.sw_lower_plans.specs.Plan.{Numbers}
use Rattle.sw_lower_code.specs.Code.{Code, block_for}
use Rattle.sw_lower_code.specs.Whole.{Body}
use Rattle.sw_lower_rules.specs.Carriers.{Given}
use Rattle.sw_lower_rules.specs.Expressions.{spawn_result, task_body}
use Rattle.sw_lower_rules.specs.Statements.{block_code, expr_code}
use Rattle.sw_lower_rules.specs.Tables.{Tables}
use Rattle.sw_lower_code_facts.specs.Kept.{GivesHave, KeptByForms}
use Rattle.sw_lower_code_facts.specs.Said.{BodySo, Said}
use Rattle.sw_lower_code_facts.specs.Steps.{KeptByBlocks, KeptByStatements, KeptByVariables}
use Rattle.sw_lower_code_facts.proofs.Induction.{every_block_code, every_expr_code}
use Rattle.sw_lower_code_facts.proofs.Inside.{body_code_so}
use Rattle.sw_lower_code_facts.proofs.Logic.{has_both, has_either}
use Rattle.sw_lower_code_facts.proofs.Statements.{said_by_steps, said_has}
use Rattle.sw_typing_facts.proofs.Lists.Listed.{in_first}
use Rattle.sw_lower_call_facts.specs.Calls.{CodeIsOfBodies}
use Rattle.sw_lower_call_facts.specs.Carried.{AreIn, BlockCalls, BodyCalls, ExprCalls, GivenCalls}
use Rattle.sw_lower_call_facts.proofs.Calls.Uses.{calling, func_calls, getter_calls, harmless}
use Rattle.sw_lower_call_facts.proofs.Calls.Uses.{make_calls, task_calls}
use Rattle.sw_lower_call_facts.proofs.Writing.Joining.{Gives, gives_done, gives_then, writes_scope}
use Rattle.sw_lower_call_facts.proofs.Writing.Joining.{writes_then, writes_with}
use Rattle.sw_lower_call_facts.proofs.Writing.Steps.{writes_bind, writes_block, writes_close}
use Rattle.sw_lower_call_facts.proofs.Writing.Steps.{writes_front, writes_resume}

module _ (tables : Tables) (numbers : Numbers) (bodies : List Body) where
  abbrev In : List Body → Type 0
  In some = AreIn tables numbers bodies some

  -- bodies among more of them
  pub in_left : (xs ys : List Body) → In (xs ++ ys) → In xs
  in_left xs ys are body has = are body (Contains-append_left xs ys body has)

  pub in_right : (xs ys : List Body) → In (xs ++ ys) → In ys
  in_right xs ys are body has = are body (Contains-append_right xs ys body has)

  abbrev blocks : KeptByBlocks (calling tables numbers bodies)
  blocks = record {
    Fresh = λ block. Unit {0};
    after_block = λ entry next so.
        writes_then (block_for entry) next (writes_block entry) (λ block. so block tt);
    close = writes_close;
    resume = λ block fresh. writes_resume block;
  }

  abbrev variables : KeptByVariables (calling tables numbers bodies)
  variables = record { bind = writes_bind; front = λ one so. writes_front one (harmless tables numbers bodies one so) }

  abbrev statements : KeptByStatements (calling tables numbers bodies) blocks
  statements = record {
    Gives = λ Q code. Gives Q code;
    gives_any = λ code s t value ran. tt;
    gives_done = gives_done;
    gives_after = gives_then;
    gives_block = λ entry s t value ran. tt;
    after_given = writes_with;
    scope = writes_scope;
  }

  abbrev said : Said (calling tables numbers bodies) tables
  said = said_by_steps (calling tables numbers bodies) blocks variables statements tables

  abbrev forms : (owner : Option ℕ) → KeptByForms (calling tables numbers bodies) tables owner
  forms owner = record {
    Inside = λ some. In some;
    first = in_left;
    rest = in_right;
    conjoined = has_both (calling tables numbers bodies) blocks;
    disjoined = has_either (calling tables numbers bodies) blocks;
    getter = getter_calls tables numbers bodies;
    func = func_calls tables numbers bodies;
    maker = make_calls tables numbers bodies;
    task = λ at closure are.
        let body = task_body tables owner closure (spawn_result tables owner at) in
        task_calls tables numbers bodies owner at closure
        (are body (in_first body closure.body.inside));
  }

  abbrev has : (code : Code (Unit {0})) → said.Says code
      → CodeIsOfBodies tables numbers bodies code
  has = said_has (calling tables numbers bodies) blocks variables statements tables

  -- the bodies of closures and tasks, which are no getters
  body_calls : (body : Body) → BodySo said body → BodyCalls tables numbers bodies body
  body_calls body so = record {
    code = has body.code so.code;
    isolated = λ is. never is so.closure;
  } where
    never : {A : Type 0} → body.getter ≡ true → body.getter ≡ false → A
    never getter closure = cc

  givens_call : (givens : List Given) → GivesHave (calling tables numbers bodies) givens
      → All (GivenCalls tables numbers bodies) givens
  givens_call [] have = All-nil (GivenCalls tables numbers bodies)
  givens_call (given ∷ givens) have =
      All-cons (GivenCalls tables numbers bodies) given givens (record { read = have.0 })
      (givens_call givens have.1)

  pub expr_calls : (owner : Option ℕ) (expr : Expr) → In (expr_code tables owner expr).inside
      → ExprCalls tables numbers bodies (expr_code tables owner expr)
  expr_calls owner expr are =
      let so = every_expr_code (calling tables numbers bodies) tables owner (forms owner) said expr
      are in
      record { read = so.has.read; inside = λ k d below. body_calls _ (so.inside k d below) }

  pub block_code_calls : (owner : Option ℕ) (block : Block)
      → In (block_code tables owner block).inside
      → BlockCalls tables numbers bodies (block_code tables owner block)
  block_code_calls owner block are =
      let so = every_block_code (calling tables numbers bodies) tables owner (forms owner) said
      block are in
      record {
        code = λ result. has _ (body_code_so said result (block_code tables owner block) so);
        gives = givens_call (block_code tables owner block).gives so.gives;
        inside = λ k d below. body_calls _ (so.inside k d below);
      }
