-- Which blocks of a function are reached, said as its code is made: each block is marked where it
-- is made, and what is reached leads only to what is reached.
use Rattle.std.specs.Prelude.{◌≡◌, ◌≢◌, ℕ, ◌≤◌, ◌⊎◌, Bool, true, false, Some, None}
use Rattle.std.specs.Prelude.{List, [], ◌∷◌, ◌++◌, length, slice_get, All}
use Rattle.std.specs.Option.{unwrap_or}
use Rattle.sw_graph.specs.Mentions.{blocks_of}
use Rattle.sw_graph.specs.declared.instr.Instr.TheVariants.{Const}
use Rattle.sw_graph.specs.declared.instr.Last.{Last}
use Rattle.sw_graph.specs.declared.instr.Last.TheVariants.{Branch, Return}
use Rattle.sw_graph.specs.declared.instr.Literal.TheVariants.{Bool as BoolOf}
use Rattle.sw_graph.specs.declared.instr.Operand.{Operand}
use Rattle.sw_lower_plans.specs.Plan.{Ended, Piece, Place, Written, after, written_in}
use Rattle.sw_lower_code.specs.Code.{Code}
use Rattle.sw_lower_rules.specs.declared.targets.Targets.{Targets}

-- What is said of a block: no sure way leads to it, some may, or some may and its code is the
-- condition `true` of a loop alone.
pub data Mark : Type 0 where
  Dead : Mark
  Live : Mark
  Fixed : Mark

abbrev pub mark_of : Bool → Mark
mark_of true = Live
mark_of false = Dead

-- A function as it is made until somewhere: the place, what is said of each block, and all
-- instructions and last instructions.
pub record FlowState : Type 0 where
  pub place : Place
  pub marks : List Mark
  pub writes : List Written
  pub lasts : List Ended

abbrev pub IsMark : List Mark → ℕ → Mark → Type 0
IsMark marks number mark = slice_get marks number ≡ Some mark

abbrev pub IsReached : List Mark → ℕ → Type 0
IsReached marks number = IsMark marks number Live ⊎ IsMark marks number Fixed

-- What is said of a block is said of it later.
abbrev pub Extend : List Mark → List Mark → Type 0
Extend marks more = (number : ℕ) (mark : Mark) → IsMark marks number mark → IsMark more number mark

-- A last instruction leads only to blocks that are reached, and returns a value if it returns.
pub record IsLiveLast (marks : List Mark) (last : Last) : Type 0 where
  pub leads : (k block : ℕ) → slice_get (blocks_of last) k ≡ Some block → IsReached marks block
  pub gives : last ≢ Return None

-- A block with nothing but the condition `true` branches on it, and the side of `true` is reached.
pub record IsFixed (marks : List Mark) (writes : List Written) (one : Ended) : Type 0 where
  pub on : Operand
  pub holds : ℕ
  pub fails : ℕ
  pub at : ℕ
  pub last : one.last ≡ Branch on holds fails
  pub alone : written_in one.block writes ≡ Const at on.reg (BoolOf true) ∷ []
  pub reached : IsReached marks holds

-- what a block's last instruction is, by what is said of the block
pub data LastFlows (marks : List Mark) (writes : List Written) (one : Ended) : Type 0 where
  AtDead : IsMark marks one.block Dead → LastFlows marks writes one
  AtLive : IsMark marks one.block Live → IsLiveLast marks one.last → LastFlows marks writes one
  AtFixed : IsMark marks one.block Fixed → IsFixed marks writes one → LastFlows marks writes one

-- The block got a last instruction.
abbrev pub HasLast : ℕ → List Ended → Type 0
HasLast number [] = ⊥
HasLast number (one ∷ more) = (one.block ≡ number) ⊎ HasLast number more

abbrev pub OneOf : ℕ → List ℕ → Type 0
OneOf number [] = ⊥
OneOf number (one ∷ more) = (number ≡ one) ⊎ OneOf number more

-- Each block is marked, instructions are in blocks that were made, each last instruction is as the
-- mark of its block says, and the blocks that are reached have one, but those that are pending.
pub record Flows (s : FlowState) (pending : List ℕ) : Type 0 where
  pub counted : length s.marks ≡ s.place.blocks
  pub fresh : (number : ℕ) → s.place.blocks ≤ number → written_in number s.writes ≡ []
  pub lasts : All (LastFlows s.marks s.writes) s.lasts
  pub closed : (number : ℕ) → IsReached s.marks number
      → OneOf number pending ⊎ HasLast number s.lasts

-- The block that goes on is reached or not, and pending with some others.
pub record FlowsHere (s : FlowState) (live : Bool) (rest : List ℕ) : Type 0 where
  pub flows : Flows s (s.place.here ∷ rest)
  pub here : IsMark s.marks s.place.here (mark_of live)

-- the function after a piece of code, with what is said of the blocks that this makes
abbrev pub moved : {A : Type 0} → FlowState → Piece A → List Mark → FlowState
moved s piece marks = record {
  place = after s.place piece;
  marks = s.marks ++ marks;
  writes = s.writes ++ piece.writes;
  lasts = s.lasts ++ piece.lasts;
}

-- After code the claim holds, where the right marks are given to the blocks that it makes.
abbrev pub FlowAt : {A : Type 0} → FlowState → Code A → (A → FlowState → Type 0) → Type 0
FlowAt {A} s code Post = (marks : List Mark)
    × Post (code.plan s.place).value (moved s (code.plan s.place) marks)

-- Where the block that goes on is reached, so is the one that goes on after the code.
abbrev pub CodeFlows : {A : Type 0} → Code A → Type 0
CodeFlows code = (s : FlowState) (live : Bool) (rest : List ℕ) → FlowsHere s live rest
    → FlowAt s code (λ _ t. FlowsHere t live rest)

-- where `break` and `continue` lead
pub record TargetsFlow (marks : List Mark) (live breaks : Bool) (targets : Targets) : Type 0 where
  pub breaks_to : live ≡ true → breaks ≡ true → IsReached marks (unwrap_or targets.breaks 0)
  pub continues_to : live ≡ true → IsReached marks (unwrap_or targets.continues 0)

-- whether a block that is reached goes on after ways that end, or don't
abbrev pub passes : Bool → Bool → Bool
passes true live = false
passes false live = live

-- After code of statements a block that is reached goes on only if their ways don't end.
abbrev pub WaysFlow : Bool → Bool → (Targets → Code (Unit {0})) → Type 0
WaysFlow ends breaks code = (s : FlowState) (live : Bool) (rest : List ℕ) (targets : Targets)
    → FlowsHere s live rest → TargetsFlow s.marks live breaks targets
    → FlowAt s (code targets) (λ _ t. FlowsHere t (passes ends live) rest)
