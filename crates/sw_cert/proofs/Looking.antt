-- The entries of functions, and the lines of a certificate, one after the other.
use Rattle.std.proofs.Common.{◌≡◌, ℕ, ◌+◌, ◌^◌, ◌<◌, ◌≤◌, inl, inr, Option, Some, List, []}
use Rattle.std.proofs.Common.{◌∷◌, ◌++◌, length, take, drop, slice_index_or, IfSome}
use Rattle.std.proofs.Common.{sym, subst, ap, ◌∙◌, arith}
use Rattle.std.proofs.lemmas.Bool.{cases_lt}
use Rattle.std.proofs.lemmas.List.{take_more, drop_more, take-append-drop, length-append}
use Rattle.std.proofs.lemmas.List.Elements.{All-from_recursion}
use Rattle.std.proofs.lemmas.Grind.{flat_map-append}
use Rattle.std.proofs.lemmas.Option.{slice_get_within, get_or_from_slice_get}
use Rattle.std.specs.List.{slice_get, AllByRecursion}
use Rattle.sw_list.proofs.ListLemmas.{some_injective}
use Rattle.sw_partition.specs.Regions.{Regions, size_of, IsWithin}
use Rattle.sw_region_flow.specs.Analysis.{facts_of}
use Rattle.sw_solve.specs.Annotation.{value_at, IsBelow}
use Rattle.sw_dictation.specs.Lines.{line_text}
use Rattle.sw_cert.proofs.Putting.{at_get, states_there}
use Rattle.sw_cert.proofs.Tabling.{member_pushed}
use Rattle.sw_cert.specs.Certificate.{numbers_of}
use Rattle.sw_cert.specs.Flows.{AreSized}
use Rattle.sw_cert.specs.ReadLines.{text_of, AreStarts}
use Rattle.sw_cert.specs.Reading.{states_of}
use Rattle.sw_cert.specs.Tables.{AreTabled}
use Rattle.sw_cert.specs.Tests.{AreOfSize, AreTablesOfSize, IsAllBelow, EntersBy, HoldsBy, IsLineOn}
use Rattle.sw_cert.specs.Tests.{LineFault, IsFirstFault}
use Rattle.sw_cert.specs.Verified.{Annotations, PassesAt, ClosedAt}
use Rattle.sw_cert.specs.declared.flows.FunctionFlow.{FunctionFlow}
use Rattle.sw_cert.specs.declared.line.Line.{Line}
use Rattle.sw_cert.specs.declared.verdict.CertFault.{CertFault}

-- ---- the entry of a function
module _ (flows : List FunctionFlow) (tables : Annotations) (count : length tables ≡ length flows)
    (n : ℕ) (within : n < length flows) (flow : FunctionFlow)
    (flow_is : flow ≡ slice_index_or flows n flow) (table : List (Option Regions))
    (table_is : table ≡ slice_index_or tables n table) where
  here : slice_get flows n ≡ Some flow
  here = at_get flows n flow within flow_is

  table_states : table ≡ states_of tables n
  table_states = states_there tables n table (omega (arith, within, count)) table_is

  pub entry_sized : AreTablesOfSize flows tables
      → AreOfSize (size_of (slice_index_or flows n flow).entry) table
  entry_sized sized block =
      subst (λ f. IfSome (value_at table block) (λ state. size_of state ≡ size_of f.entry)) flow_is
      (subst (λ t. IfSome (value_at t block) (λ state. size_of state ≡ size_of flow.entry))
      (sym table_states) (sized n flow here block))

  pub enters_here : IsBelow IsWithin (slice_index_or flows n flow).entry (value_at table 0)
      → EntersBy flows tables n
  enters_here below other is =
      let same : flow ≡ other = some_injective (sym here ∙ is) in
      subst (λ f. IsBelow IsWithin f.entry (value_at (states_of tables n) 0)) same
      (subst (λ t. IsBelow IsWithin flow.entry (value_at t 0)) table_states
      (subst (λ f. IsBelow IsWithin f.entry (value_at table 0)) (sym flow_is) below))

  pub enters_not_here : ¬ (IsBelow IsWithin (slice_index_or flows n flow).entry (value_at table 0))
      → ¬ (EntersBy flows tables n)
  enters_not_here not enters = not
      (subst (λ f. IsBelow IsWithin f.entry (value_at table 0)) flow_is
      (subst (λ t. IsBelow IsWithin flow.entry (value_at t 0)) (sym table_states)
      (enters flow here)))

pub enters_more : (flows : List FunctionFlow) (tables : Annotations) (n : ℕ)
    → ((other : ℕ) → other < n → EntersBy flows tables other) → EntersBy flows tables n
    → (other : ℕ) → other < n + 1 → EntersBy flows tables other
enters_more flows tables n before here other below = elim (cases_lt other n) [
  | inl lower ↦ before other lower
  | inr past ↦ (
      let same : n ≡ other = omega (arith, below, past) in subst (EntersBy flows tables) same here
      )
]

pub enters_all : (flows : List FunctionFlow) (tables : Annotations) (n : ℕ) → length flows ≤ n
    → ((other : ℕ) → other < n → EntersBy flows tables other)
    → (other : ℕ) → EntersBy flows tables other
enters_all flows tables n past before other flow is =
    before other (let h = slice_get_within flows other flow is in omega (arith, h, past)) flow is

-- ---- blocks that follow
pub all_below_more : (state : Regions) (table : List (Option Regions)) (blocks : List ℕ) (n : ℕ)
    → n < length blocks → IsAllBelow state table (take n blocks)
    → IsBelow IsWithin state (value_at table (slice_index_or blocks n 0))
    → IsAllBelow state table (take (n + 1) blocks)
all_below_more state table blocks n within before below =
    subst (IsAllBelow state table) (sym (take_more blocks n 0 within))
    (λ block member. elim (member_pushed (take n blocks) block (slice_index_or blocks n 0) member) [
      | inl earlier ↦ before block earlier
      | inr last ↦ subst (λ b. IsBelow IsWithin state (value_at table b)) last below
    ])

-- ---- a line
-- the text of the first lines is a part of that of all
pub first_text : (lines : List Line) (n : ℕ)
    → length (text_of (take n lines)) ≤ length (text_of lines)
first_text lines n =
    let f = λ (l : Line). line_text (numbers_of l) in
    let whole : text_of lines ≡ text_of (take n lines) ++ text_of (drop n lines) =
    ap text_of (sym (take-append-drop n lines)) ∙ flat_map-append f (take n lines) (drop n lines) in
    omega (arith, ap length whole, length-append (text_of (take n lines)) (text_of (drop n lines)))

module _ (flows : List FunctionFlow) (tables : Annotations) (lines : List Line)
    (sized : AreSized flows) (tabled : AreTabled flows lines tables)
    (on : AllByRecursion (IsLineOn flows) lines) (n : ℕ) (within : n < length lines) (line : Line)
    (line_is : line ≡ slice_index_or lines n line) where
  line_on : IsLineOn flows line
  line_on = subst (IsLineOn flows) (sym line_is)
      (All-from_recursion (IsLineOn flows) lines on n line within)

  pub block_fits : line.block < 2 ^ 32
  block_fits = omega (
    arith,
    line_on.block,
    (sized line.function line_on.flow line_on.is_flow).fits.few,
  )

  pub line_function : line.function < length flows
  line_function = slice_get_within flows line.function line_on.flow line_on.is_flow

  found : (d : FunctionFlow) → slice_index_or flows line.function d ≡ line_on.flow
  found d = get_or_from_slice_get flows line.function line_on.flow d line_on.is_flow

  pub line_block : (d : FunctionFlow) → line.block
      < length (slice_index_or flows line.function d).blocks.setting.body.blocks
  line_block d = subst (λ f. line.block < length f.blocks.setting.body.blocks) (sym (found d))
      line_on.block

  module _ (d : FunctionFlow) (table : List (Option Regions))
      (table_is : table ≡ slice_index_or tables line.function table) where
    of_states : table ≡ states_of tables line.function
    of_states = states_there tables line.function table
        (omega (arith, line_function, tabled.count)) table_is

    pub table_sized :
        AreOfSize (facts_of (slice_index_or flows line.function d).blocks) table
    table_sized block =
        let own = sized line.function line_on.flow line_on.is_flow in
        let is = tabled.sized line.function line_on.flow line_on.is_flow block in
        subst (λ f. IfSome (value_at table block) (λ state. size_of state ≡ facts_of f.blocks))
        (sym (found d))
        (subst (λ size. IfSome (value_at table block) (λ state. size_of state ≡ size)) own.size
        (subst (λ t. IfSome (value_at t block) (λ state. size_of state ≡ size_of line_on.flow.entry))
        (sym of_states) is))

    pub line_holds : PassesAt (slice_index_or flows line.function d).blocks.setting table line.block
        → ClosedAt (slice_index_or flows line.function d).blocks.setting table line.block
        → HoldsBy flows tables line
    line_holds passes closed flow is =
        let same = found d ∙ some_injective (sym line_on.is_flow ∙ is) in
        let both = subst (λ f. PassesAt f.blocks.setting table line.block
        × ClosedAt f.blocks.setting table line.block) same (passes, closed) in
        subst (λ t. PassesAt flow.blocks.setting t line.block
        × ClosedAt flow.blocks.setting t line.block) of_states both

    pub holds_more : AllByRecursion (HoldsBy flows tables) (take n lines)
        → PassesAt (slice_index_or flows line.function d).blocks.setting table line.block
        → ClosedAt (slice_index_or flows line.function d).blocks.setting table line.block
        → AllByRecursion (HoldsBy flows tables) (take (n + 1) lines)
    holds_more before passes closed =
        subst (AllByRecursion (HoldsBy flows tables))
        (ap (λ l. take n lines ++ l ∷ []) line_is ∙ sym (take_more lines n line within))
        (push (take n lines) before)
      where
        push : (ls : List Line) → AllByRecursion (HoldsBy flows tables) ls
            → AllByRecursion (HoldsBy flows tables) (ls ++ line ∷ [])
        push [] all = (line_holds passes closed, tt)
        push (l ∷ ls) (first, all) = (first, push ls all)

    pub first_fault : (starts : List ℕ) (fault : CertFault) → AreStarts lines starts
        → AllByRecursion (HoldsBy flows tables) (take n lines)
        → LineFault (slice_index_or flows line.function d).blocks.setting table line.block
        (slice_index_or starts n 0) fault
        → IsFirstFault flows tables lines fault
    first_fault starts fault are before is = record {
      before = take n lines;
      line = line;
      behind = drop (n + 1) lines;
      splits = sym (take-append-drop n lines) ∙ ap (λ ls. take n lines ++ ls)
          (drop_more lines n line within ∙ ap (λ l. l ∷ drop (n + 1) lines) (sym line_is));
      hold = before;
      flow = line_on.flow;
      is_flow = line_on.is_flow;
      is_fault = subst (λ at. LineFault line_on.flow.blocks.setting
          (states_of tables line.function) line.block at fault) (are.each n within)
          (subst (λ t. LineFault line_on.flow.blocks.setting t line.block
          (slice_index_or starts n 0) fault) of_states
          (subst (λ f. LineFault f.blocks.setting table line.block (slice_index_or starts n 0)
          fault) (found d) is));
    }

  pub start_fits : (starts : List ℕ) → AreStarts lines starts
      → length (text_of lines) ≤ 4194304 → slice_index_or starts n 0 < 2 ^ 32
  start_fits starts are few = omega (arith, are.each n within, first_text lines n, few)
