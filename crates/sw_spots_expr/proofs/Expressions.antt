-- The work of each form of expression stands where its code is.
use Rattle.std.proofs.Common.{◌≡◌, ℕ, ℤ, Bool, true, false, Option, Some, None, List, [], ◌∷◌}
use Rattle.std.proofs.Common.{map, refl, ap, ◌∙◌}
use Rattle.std.specs.Prelude.{if◌then◌else◌}
use Rattle.sw_tree.specs.NodeKey.{last_or}
use Rattle.sw_tree.specs.declared.name.Name.{Name}
use Rattle.sw_types.specs.declared.ty.Ty.{Ty}
use Rattle.sw_types.specs.declared.ty.Ty.TheVariants as types
use Rattle.sw_graph.specs.declared.function.Function.{Function}
use Rattle.sw_graph.specs.declared.instr.Instr.TheVariants as instr
use Rattle.sw_graph.specs.declared.instr.Literal.{Literal}
use Rattle.sw_graph.specs.declared.instr.Literal.TheVariants as literals
use Rattle.sw_graph.specs.declared.instr.Operand.{Operand}
use Rattle.sw_value.specs.Value.{value_of}
use Rattle.sw_lower_plans.specs.Plan.{Numbers}
use Rattle.sw_lower_code.specs.Code.{Code}
use Rattle.sw_lower_code.specs.Whole.{Body}
use Rattle.sw_lower_rules.specs.Carriers.{ArgCode, ExprCode, LinkCode}
use Rattle.sw_lower_rules.specs.Expressions as code
use Rattle.sw_lower_rules.specs.Expressions.{own_part_of}
use Rattle.sw_lower_rules.specs.Tables.{Tables}
use Rattle.sw_lower_rules.specs.Uses.{give}
use Rattle.sw_tree_work.specs.Forms.{ExprWork, LinkWork, value_at}
use Rattle.sw_tree_work.specs.Meanings as meanings
use Rattle.sw_tree_work.specs.Trees as works
use Rattle.sw_tree_work.specs.Work as work
use Rattle.sw_tree_work.specs.Work.{Before, Work}
use Rattle.sw_spots.specs.Forms.{ExprStands, ValueStands, facts_of, program}
use Rattle.sw_spots.specs.Spots.{Program}
use Rattle.sw_spots.proofs.Writing.{does_give}
use Rattle.sw_spots_expr.proofs.Calls.{ArgsStand, reads_call, reads_method}
use Rattle.sw_spots_expr.proofs.Chains.{LinksStand, reads_chain}
use Rattle.sw_spots_expr.proofs.Members.{reads_member, writes_member}
use Rattle.sw_spots_expr.proofs.Words.{reads_self, reads_word}
use Rattle.sw_spots_expr.proofs.Writes.{writes_none, writes_word}

module _ (tables : Tables) (numbers : Numbers) (functions : List Function) (owner : Option ℕ) where
  abbrev p : Program
  p = program tables numbers functions

  abbrev Value : Code Operand → Before → Type 0
  Value read before = ValueStands tables numbers functions read before

  abbrev Stands : ExprCode → ExprWork → Type 0
  Stands expr one = ExprStands tables numbers functions expr one

  -- an expression that nothing is assigned to
  pub value_stands : (key : ℕ) (read : Code Operand) (inside : List Body) (before : Before)
      → Value read before → Stands (code.value key read inside) (value_at key before)
  value_stands key read inside before is = record {
    key = refl;
    is_self = refl;
    own_part = refl;
    read = is;
    write = writes_none tables numbers functions owner _;
  }

  -- values that are written, and what suspends a job
  reads_literal : (at : ℕ) (ty : Ty) (literal : Literal)
      → Value (give at ty (λ r. instr.Const at r literal))
      (work.Then (work.Literal (value_of literal)))
  reads_literal at ty literal temps =
      does_give p numbers temps temps at ty (λ r. instr.Const at r literal)
      (work.Then (work.Literal (value_of literal))) (λ n all. all)
      (λ f rings rest s gives. (at, literal, refl, gives))

  pub int_stands : (at : ℕ) (literal : ℤ)
      → Stands (code.value at (give at types.Int (λ r. instr.Const at r (literals.Int literal))) [])
      (value_at at (work.Then (work.Literal (value_of (literals.Int literal)))))
  int_stands at literal =
      value_stands at _ [] _ (reads_literal at types.Int (literals.Int literal))

  pub bool_stands : (at : ℕ) (literal : Bool)
      → Stands (code.value at (give at types.Bool (λ r. instr.Const at r (literals.Bool literal))) [])
      (value_at at (work.Then (work.Literal (value_of (literals.Bool literal)))))
  bool_stands at literal =
      value_stands at _ [] _ (reads_literal at types.Bool (literals.Bool literal))

  pub yield_stands : (at : ℕ)
      → Stands (code.value at (give at types.Unit (λ r. instr.Yield at r)) [])
      (value_at at (work.Then work.Yield))
  yield_stands at = value_stands at _ [] _ (λ temps. does_give p numbers temps temps at types.Unit
      (λ r. instr.Yield at r) (work.Then work.Yield) (λ n all. all)
      (λ f rings rest s gives. (at, gives)))

  -- words and members
  pub word_stands : (at : ℕ)
      → Stands (code.word_code tables owner at) (works.word_work (facts_of tables) owner at)
  word_stands at = record {
    key = refl;
    is_self = refl;
    own_part = refl;
    read = reads_word tables numbers functions owner at;
    write = writes_word tables numbers functions owner at (tables.answers.meaning_at at);
  }

  pub self_stands : (at : ℕ)
      → Stands (code.self_code tables owner at) (works.self_work (facts_of tables) owner at)
  self_stands at = record {
    key = refl;
    is_self = refl;
    own_part = refl;
    read = reads_self tables numbers functions owner at;
    write = writes_none tables numbers functions owner _;
  }

  own_part_same : (is : Bool) (name : ℕ)
      → own_part_of is name ≡ (if is then Some name else None)
  own_part_same true name = refl
  own_part_same false name = refl

  pub member_stands : (base : ExprCode) (one : ExprWork) (name : Name) → Stands base one
      → Stands (code.member_code tables owner base name.at name.id)
      (works.member_work (facts_of tables) owner one name)
  member_stands base one name is = record {
    key = refl;
    is_self = refl;
    own_part = own_part_same base.is_self name.id
        ∙ ap (λ is. if is then Some name.id else None) is.is_self;
    read = reads_member tables numbers functions owner base one is name.at
        (tables.answers.meaning_at name.at);
    write = writes_member tables numbers functions owner base one is name.at
        (tables.answers.meaning_at name.at);
  }

  -- calls
  pub call_stands : (at : ℕ) (args : List ArgCode) (ones : List Before) (inside : List Body)
      → ArgsStand tables numbers functions args ones
      → Value (code.call_read tables owner at args (tables.answers.meaning_at at))
      (meanings.call_read (facts_of tables) owner at ones (tables.answers.meaning_at at))
  call_stands at args ones inside are =
      reads_call tables numbers functions owner args ones are at (tables.answers.meaning_at at)

  pub method_stands : (at : ℕ) (base : ExprCode) (one : ExprWork) (args : List ArgCode)
      (ones : List Before) → Stands base one → ArgsStand tables numbers functions args ones
      → Value (code.method_read tables owner at base args (tables.answers.meaning_at at))
      (meanings.method_read (facts_of tables) owner at one ones (tables.answers.meaning_at at))
  method_stands at base one args ones is are =
      reads_method tables numbers functions owner args ones are at base one
      (tables.answers.meaning_at at) is

  -- operators
  pub chain_stands : (first : ExprCode) (one : ExprWork) (links : List LinkCode)
      (ones : List LinkWork) → Stands first one → LinksStand tables numbers functions links ones
      → Stands (code.chain_code tables owner first links)
      (works.chain_work (facts_of tables) owner one ones)
  chain_stands first one links ones is are = record {
    key = ap (λ key. last_or key (map (λ (link : LinkCode). link.at) links)) is.key
        ∙ ap (last_or one.key) (same_keys links ones are);
    is_self = refl;
    own_part = refl;
    read = reads_chain tables numbers functions first.read one.read links ones is.read are;
    write = writes_none tables numbers functions owner _;
  } where
    same_keys : (links : List LinkCode) (ones : List LinkWork)
        → LinksStand tables numbers functions links ones
        → map (λ (link : LinkCode). link.at) links ≡ map (λ (one : LinkWork). one.at) ones
    same_keys [] [] are = refl
    same_keys (link ∷ links) (one ∷ ones) are =
        ap (λ at. at ∷ map (λ (link : LinkCode). link.at) links) are.0.at
        ∙ ap (λ keys. one.at ∷ keys) (same_keys links ones are.1)
    same_keys [] (one ∷ ones) are = absurd are
    same_keys (link ∷ links) [] are = absurd are
