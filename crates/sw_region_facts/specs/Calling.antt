-- What the operations of a call come to for the elements of the caller's frame, by the kind of the
-- call (SE-0414, SE-0430).
use Rattle.std.specs.Prelude.{slice_get, slice_index_or, ◌≡◌, ℕ, ◌+◌, Bool, true, false}
use Rattle.std.specs.Prelude.{if◌then◌else◌, Option, Some, None, List, [], ◌∷◌, ◌++◌}
use Rattle.sw_types.specs.declared.isolation.CallKind.{CallKind}
use Rattle.sw_types.specs.declared.isolation.CallKind.TheVariants.{Plain, Same, Weak, Strong, Make}
use Rattle.sw_graph.specs.declared.function.Function.{Function}
use Rattle.sw_graph.specs.declared.instr.Operand.{Operand}
use Rattle.sw_owner_facts.specs.View.{Element, Here, Register}
use Rattle.sw_partition.specs.Regions.{Regions}
use Rattle.sw_region_ops.specs.Elements.{element_at}
use Rattle.sw_region_ops.specs.Marks.{is_wanted}
use Rattle.sw_region_facts.specs.FrameRegions.{IsWeaker}
use Rattle.sw_region_facts.specs.Moves.{if_tracked, Sets, Gathers, GathersApart, Sends, SendsEach}

-- Of a call's arguments, the first of which is for parameter k of the callee, the registers of those
-- that are tracked and whose parameter is wanted.
abbrev pub passed_from : List (Option ℕ) → List Bool → Bool → ℕ → List Operand → List Element
passed_from elements sending wanted k [] = []
passed_from elements sending wanted k (operand ∷ operands) =
    (if is_wanted sending wanted k
    then if_tracked (element_at elements operand.reg) (Register operand.reg ∷ []) else [])
    ++ passed_from elements sending wanted (k + 1) operands

-- the tracked arguments whose parameter is `sending`, and those whose parameter isn't
abbrev pub sent_of : List (Option ℕ) → List Bool → List Operand → List Element
sent_of elements sending operands = passed_from elements sending true 0 operands

abbrev pub lent_of : List (Option ℕ) → List Bool → List Operand → List Element
lent_of elements sending operands = passed_from elements sending false 0 operands

-- The argument for parameter k is tracked, and its parameter is wanted.
pub record IsArgument (elements : List (Option ℕ)) (sending : List Bool) (wanted : Bool)
    (operands : List Operand) (k : ℕ) (x : Element) : Type 0 where
  pub operand : Operand
  pub at : slice_get operands k ≡ Some operand
  pub is_wanted : slice_index_or sending k false ≡ wanted
  pub number : ℕ
  pub tracked : element_at elements operand.reg ≡ Some number
  pub is : x ≡ Register operand.reg

-- What becomes of the arguments that are lent. A plain callee may bring them together, one of the
-- caller's isolation with `Here` too. A weak call leaves the actor, so that they may not be with
-- `Here`. To another isolation, or to an actor's initialiser, they are given away.
abbrev pub Lends : CallKind → List (Option ℕ) → List Element → Regions → Regions → Type 0
Lends Plain elements xs a c = Gathers elements xs a c
Lends Same elements xs a c = Gathers elements (Here ∷ xs) a c
Lends Weak elements xs a c = GathersApart elements xs a c
Lends Strong elements xs a c = Sends elements xs a c
Lends Make elements xs a c = Sends elements xs a c

-- what a result comes from that isn't `sending`
abbrev pub result_from : CallKind → List Element → List Element
result_from Plain xs = xs
result_from Same xs = Here ∷ xs
result_from Weak xs = xs
result_from Strong xs = []
result_from Make xs = []

-- A call that sets register r: arguments are given away, then the others are lent, then there is the
-- result, which comes from nothing if it is `sending`.
pub record Calls (elements : List (Option ℕ)) (kind : CallKind) (sends : Bool) (r : ℕ)
    (sent lent : List Element) (a c : Regions) : Type 0 where
  pub given : Regions
  pub gives : SendsEach elements sent a given
  pub taken : Regions
  pub lends : Lends kind elements lent given taken
  pub result : Sets elements r
      (if sends then [] else if_tracked (element_at elements r) (result_from kind lent)) taken c

-- a call of a function, if there is that function
abbrev pub CallsFunction : List (Option ℕ) → CallKind → ℕ → List Operand → Option Function
    → Regions → Regions → Type 0
CallsFunction elements kind r operands None a c = IsWeaker elements a c
CallsFunction elements kind r operands (Some callee) a c =
    Calls elements kind callee.sends r (sent_of elements callee.sending operands)
    (lent_of elements callee.sending operands) a c
