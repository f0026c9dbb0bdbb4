-- The arms of a `switch` by their trees.
use Rattle.std.proofs.Common.{◌≡◌, ◌==◌, ℕ, List, [], ◌∷◌, Option}
use Rattle.std.proofs.Common.{Some, Ok, ap, length, refl, sym, ◌∙◌}
use Rattle.std.proofs.Common.{if◌then◌else◌, ◌⊎◌, inl, inr}
use Rattle.std.proofs.lemmas.List.{nil_from_length}
use Rattle.std.specs.Option.{unwrap_or}
use Rattle.sw_tree.proofs.FoldEquations as eq
use Rattle.sw_tree.specs.declared.name.Name.{Name}
use Rattle.sw_tree.specs.declared.stmt.CaseArm.{CaseArm, out-CaseArm}
use Rattle.sw_graph.specs.declared.instr.Operand.{Operand}
use Rattle.sw_types.specs.declared.shape.CaseShape.{CaseShape}
use Rattle.sw_types.specs.declared.shape.Shape.{Shape}
use Rattle.sw_lower_plans.specs.Run.{Making, Run, run_after, run_block, run_known}
use Rattle.sw_lower_code.specs.Code.{andthen, block_for, done, each, known}
use Rattle.sw_lower_rules.specs.Statements.{Arm, arm_block, block_of, case_from, code_steps}
use Rattle.sw_lower_rules.specs.Statements.{switch_to}
use Rattle.sw_lower_rules.specs.Tables.{Tables}
use Rattle.sw_lower_stmt.proofs.Loops.{after_then}
use Rattle.sw_lower_stmt.specs.Parts.{arm_number, block_named, case_code, case_codes}
use Rattle.sw_lower_stmt.specs.Parts.{goes_to, numbered}

module _ (tables : Tables) (owner : Option ℕ) where
  pub case_name : (tree : CaseArm)
      → (case_code tables owner tree).name ≡ (out-CaseArm tree).name
  unfolding case_code
  case_name tree = ap (λ code. code.name) (eq.fold_case_arm-out (code_steps tables owner) tree)

  abbrev one : CaseArm → ℕ → Arm
  one tree block = record { arm = case_code tables owner tree; block = block }

  -- the block of an arm by its number
  pub arm_block_is : (subject : Operand) (number : ℕ) (shape : Shape) (tree : CaseArm) (s : Making)
      → (arm_block tables subject number shape (case_code tables owner tree)).run s
      ≡ run_after ((arm_number subject number shape tree).run s)
      (λ block t. Ok (one tree block, t))
  unfolding andthen block_for done known arm_number
  arm_block_is subject number shape tree s =
      ap (λ name. run_after (run_known (case_from 0 shape.cases name.id) s) (λ tag t.
      run_after (run_block t) (λ block u. Ok (one tree block, u)))) (case_name tree)
      ∙ sym (after_then (run_known (case_from 0 shape.cases (out-CaseArm tree).name.id) s)
      (λ tag. run_block) (λ block u. Ok (one tree block, u))
      (λ tag t. run_after (run_block t) (λ block u. Ok (one tree block, u)))
      (λ tag t. refl))

  -- the arms with their blocks, by their numbers
  pub arms_numbered : (subject : Operand) (number : ℕ) (shape : Shape) (trees : List CaseArm)
      (s : Making)
      → (each (arm_block tables subject number shape) (case_codes tables owner trees)).run s
      ≡ run_after ((each (arm_number subject number shape) trees).run s)
      (λ blocks t. Ok (numbered tables owner trees blocks, t))
  unfolding each andthen done
  arms_numbered subject number shape [] s = refl
  arms_numbered subject number shape (tree ∷ trees) s =
      let made : Run (List ℕ) = (each (arm_number subject number shape) trees).run in
      let coded : Run (List Arm) =
      (each (arm_block tables subject number shape) (case_codes tables owner trees)).run in
      let whole : ℕ → Run (List Arm) = λ block t. run_after (made t)
      (λ blocks u. Ok (one tree block ∷ numbered tables owner trees blocks, u)) in
      ap (λ run. run_after run (λ arm t. run_after (coded t) (λ arms u. Ok (arm ∷ arms, u))))
      (arm_block_is subject number shape tree s)
      ∙ (after_then ((arm_number subject number shape tree).run s)
      (λ block t. Ok (one tree block, t))
      (λ arm t. run_after (coded t) (λ arms u. Ok (arm ∷ arms, u))) whole (λ block t.
      ap (λ run. run_after run (λ arms u. Ok (one tree block ∷ arms, u)))
      (arms_numbered subject number shape trees t)
      ∙ after_then (made t) (λ blocks u. Ok (numbered tables owner trees blocks, u))
      (λ arms u. Ok (one tree block ∷ arms, u))
      (λ blocks u. Ok (one tree block ∷ numbered tables owner trees blocks, u)) (λ blocks u. refl))
      ∙ sym (after_then ((arm_number subject number shape tree).run s)
      (λ block t. run_after (made t) (λ blocks u. Ok (block ∷ blocks, u)))
      (λ blocks t. Ok (numbered tables owner (tree ∷ trees) blocks, t)) whole (λ block t.
      after_then (made t) (λ blocks u. Ok (block ∷ blocks, u))
      (λ blocks u. Ok (numbered tables owner (tree ∷ trees) blocks, u))
      (λ blocks u. Ok (one tree block ∷ numbered tables owner trees blocks, u))
      (λ blocks u. refl))))

  -- the first arm with its block, and those after it
  pub next_numbered : (trees more : List CaseArm) (numbers others : List ℕ) (tree : CaseArm)
      (number : ℕ) → trees ≡ tree ∷ more → numbers ≡ number ∷ others
      → numbered tables owner trees numbers ≡ one tree number ∷ numbered tables owner more others
  next_numbered trees more numbers others tree number is are =
      ap (λ xs. numbered tables owner xs numbers) is
      ∙ ap (λ ns. numbered tables owner (tree ∷ more) ns) are

  -- no arm is left
  pub none_numbered : (trees : List CaseArm) (numbers : List ℕ)
      → (length trees ≡ 0) ⊎ (length numbers ≡ 0) → numbered tables owner trees numbers ≡ []
  none_numbered trees numbers (inl none_left) =
      ap (λ xs. numbered tables owner xs numbers) (nil_from_length trees none_left)
  none_numbered [] numbers (inr none_left) = refl
  none_numbered (tree ∷ trees) numbers (inr none_left) =
      ap (λ ns. numbered tables owner (tree ∷ trees) ns) (nil_from_length numbers none_left)

  -- the block of an arm, by the trees
  pub named : (trees : List CaseArm) (blocks : List ℕ) (name : ℕ)
      → block_of (numbered tables owner trees blocks) name ≡ block_named trees blocks name
  named [] blocks name = refl
  named (tree ∷ trees) [] name = refl
  named (tree ∷ trees) (block ∷ blocks) name =
      ap (λ (word : Name). if word.id == name then Some block
      else block_of (numbered tables owner trees blocks) name) (case_name tree)
      ∙ ap (λ found. if (out-CaseArm tree).name.id == name then Some block else found)
      (named trees blocks name)

  -- where a `switch` goes, by the trees
  pub goes : (cases : List CaseShape) (trees : List CaseArm) (blocks : List ℕ) (otherwise : ℕ)
      → switch_to cases (numbered tables owner trees blocks) otherwise
      ≡ goes_to cases trees blocks otherwise
  goes [] trees blocks otherwise = refl
  goes (one ∷ cases) trees blocks otherwise =
      ap (λ found. unwrap_or found otherwise
      ∷ switch_to cases (numbered tables owner trees blocks) otherwise)
      (named trees blocks one.name)
      ∙ ap (λ to. unwrap_or (block_named trees blocks one.name) otherwise ∷ to)
      (goes cases trees blocks otherwise)
