-- The bodies of functions, methods and initialisers have their signatures.
use Rattle.std.proofs.Common.{◌≡◌, ℕ, List, [], ◌∷◌, ◌++◌, map, flat_map, Some}
use Rattle.std.proofs.Common.{Contains, ap, sym, ◌∙◌}
use Rattle.std.proofs.lemmas.List.Elements.{Contains-append_left}
use Rattle.std.specs.Prelude.{slice_get}
use Rattle.sw_tree.specs.declared.decl.Decl.{Decl}
use Rattle.sw_tree.specs.declared.decl.Decl.TheVariants.{Func}
use Rattle.sw_tree.specs.declared.decl.FuncTree.{FuncTree}
use Rattle.sw_tree.specs.declared.decl.InitTree.{InitTree}
use Rattle.sw_tree.specs.declared.decl.ParamTree.{ParamTree}
use Rattle.sw_tree.specs.declared.decl.PropTree.{PropTree}
use Rattle.sw_tree.specs.declared.name.Name.{Name}
use Rattle.sw_types.specs.declared.shape.Shape.{Shape}
use Rattle.sw_decls.specs.Declaring.{init_key}
use Rattle.sw_decls.specs.declared.signature.AsyncDefault.{AsyncDefault}
use Rattle.sw_decls.specs.declared.signature.Signature.{Signature}
use Rattle.sw_typing_rules.specs.Worlds.{IsWorldOf, item}
use Rattle.sw_isolation_rules.specs.Programs.{func_at}
use Rattle.sw_lower_code.specs.Code.{Code}
use Rattle.sw_lower_code.specs.Whole.{Body}
use Rattle.sw_lower_code.specs.declared.taken.Taken.{Taken}
use Rattle.sw_lower_rules.specs.Bodies.{default_bodies, first_values}
use Rattle.sw_lower_rules.specs.Bodies.{func_bodies, func_signed, func_tree_bodies}
use Rattle.sw_lower_rules.specs.Bodies.{init_bodies, init_code, init_signed, inits_bodies}
use Rattle.sw_lower_rules.specs.Bodies.{param_taken, program_bodies, self_taken, signed}
use Rattle.sw_lower_rules.specs.Carriers.{Given}
use Rattle.sw_lower_rules.specs.Expressions.{body_code}
use Rattle.sw_lower_rules.specs.Statements.{block_code}
use Rattle.sw_lower_rules.specs.Tables.{Tables}
use Rattle.sw_lower_formed_facts.proofs.Headers.Funcs.{func_made, func_place}
use Rattle.sw_lower_formed_facts.proofs.Headers.Methods.{method_made}
use Rattle.sw_lower_formed_facts.proofs.Headers.Signed.{for_found}
use Rattle.sw_typing_facts.proofs.Lists.Listed.{in_first}
use Rattle.sw_lower_formed_facts.proofs.Bodies.MadeOf.{body_stands}
use Rattle.sw_typing_facts.proofs.Programs.MemberTrees.{method_place}
use Rattle.sw_lower_call_facts.specs.Meant.{IsFuncKey, IsFuncNumber}
use Rattle.sw_lower_call_facts.specs.Meant.IsFuncKey.{of_top, of_type}

-- a body with a signature, among bodies
pub record IsSigned (tables : Tables) (bodies : List Body) (func : Signature) : Type 0 where
  pub takes : List Taken
  pub code : Code (Unit {0})
  pub has : Contains bodies (signed tables func takes code)

-- and so among more
pub signed_among : (tables : Tables) (bodies more : List Body) (func : Signature)
    → ((body : Body) → Contains bodies body → Contains more body) → IsSigned tables bodies func
    → IsSigned tables more func
signed_among tables bodies more func among one = record {
  takes = one.takes;
  code = one.code;
  has = among (signed tables func one.takes one.code) one.has;
}

-- Functions and methods.
module _ (tables : Tables) (decls : List Decl) (rule : AsyncDefault)
    (is : IsWorldOf decls rule tables.world) where
  -- the bodies of a function's tree are the program's, and it has a key
  pub record TreeOf (key : ℕ) : Type 0 where
    pub tree : FuncTree
    pub word : tree.word.at ≡ key
    pub made : (body : Body) → Contains (func_tree_bodies tables tree) body
        → Contains (program_bodies tables decls) body

  pub tree_of : (key : ℕ) → IsFuncKey tables.world key → TreeOf key
  tree_of key (of_top id meant) =
      let one = func_place decls id key (sym (is.words id) ∙ meant) in record {
        tree = one.tree;
        word = one.word;
        made = λ body has.
            body_stands tables decls one.n one.g (Func one.tree) body one.stands
            (func_made tables one.n one.g one.tree body has);
      }
  tree_of key (of_type k id member found role same) =
      let one = method_place decls k id member (sym (is.members k id) ∙ found) role in
      record {
        tree = one.tree;
        word = one.word ∙ same;
        made = λ body has.
            body_stands tables decls one.n one.g one.decl body one.stands
            (method_made tables one.n one.g one.decl one.tree one.has body has);
      }

  pub func_body_signed : (n : ℕ) (func : Signature) → IsFuncNumber tables.world n
      → slice_get tables.world.funcs n ≡ Some func
      → IsSigned tables (program_bodies tables decls) func
  unfolding func_bodies func_at
  func_body_signed n func meant at =
      let one = tree_of meant.key meant.is in
      let tree = one.tree in
      let code = block_code tables func.owner tree.body in
      let takes : List Taken =
      self_taken tables func.owner ++ map (param_taken tables) tree.params in
      let body = signed tables func takes (body_code func.result code) in
      let number : tables.world.numbers tree.word.at ≡ Some n =
      ap tables.world.numbers one.word ∙ meant.number in record {
        takes = takes;
        code = body_code func.result code;
        has = one.made body
            (for_found (func_at tables.world tables.answers tree.word.at) func
            (func_signed tables tree.params tree.body) body
            (ap (λ place. item place tables.world.funcs) number ∙ at)
            (in_first body code.inside));
      }

-- Initialisers.
module _ (tables : Tables) (n : ℕ) (props : List PropTree) (shape : Shape)
    (there : slice_get tables.world.shapes n ≡ Some shape) where
  init_body_signed : (func : Signature) (params : List ParamTree) (givens : List Given)
      → IsSigned tables (init_signed tables n props params givens func) func
  init_body_signed func params givens =
      let takes : List Taken = map (param_taken tables) params in
      let code = init_code func.key.at n shape (first_values tables n props ++ givens) in
      record {
        takes = takes;
        code = code;
        has = for_found (slice_get tables.world.shapes n) shape (λ shape.
            signed tables func takes
            (init_code func.key.at n shape (first_values tables n props ++ givens)) ∷ [])
            (signed tables func takes code) there (in_first (signed tables func takes code) []);
      }

  pub maker_body_signed : (word : Name) (inits : List InitTree) (func : Signature)
      → func_at tables.world tables.answers (init_key word.at inits) ≡ Some func
      → IsSigned tables (inits_bodies tables n props word inits) func
  unfolding default_bodies init_bodies
  maker_body_signed word [] func at =
      signed_among tables (init_signed tables n props [] [] func) _ func
      (λ body has. for_found (func_at tables.world tables.answers word.at) func
      (init_signed tables n props [] []) body at has)
      (init_body_signed func [] [])
  maker_body_signed word (init ∷ inits) func at =
      let code = block_code tables (Some n) init.body in
      signed_among tables (init_signed tables n props init.params code.gives func) _ func
      (λ body has.
      Contains-append_left (init_bodies tables n props init)
      (flat_map (init_bodies tables n props) inits) body
      (Contains-append_left _ code.inside body
      (for_found (func_at tables.world tables.answers init.at) func
      (init_signed tables n props init.params code.gives) body at has)))
      (init_body_signed func init.params code.gives)
