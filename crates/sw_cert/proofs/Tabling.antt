-- Tables of states that lines fill, one after the other.
use Rattle.std.proofs.Common.{◌≡◌, ◌≢◌, ℕ, zero, suc, ◌<◌, ◌⊎◌, inl, inr, Option, Some, None}
use Rattle.std.proofs.Common.{List, [], ◌∷◌, ◌++◌, length, map, replicate, Contains, IfSome, IsSome}
use Rattle.std.proofs.Common.{slice_set, refl, sym, subst, ap, ◌∙◌, arith}
use Rattle.std.proofs.lemmas.Bool.{cases_eq}
use Rattle.std.proofs.lemmas.List.{get_or-set_same, get_or-set_other, length-set, length-map}
use Rattle.std.proofs.lemmas.List.{length-replicate}
use Rattle.std.proofs.lemmas.Option.{slice_get_within}
use Rattle.std.specs.List.{slice_get}
use Rattle.sw_list.proofs.ListLemmas.{some_injective}
use Rattle.sw_partition.specs.Regions.{Regions, size_of}
use Rattle.sw_solve.specs.Annotation.{value_at}
use Rattle.sw_cert.specs.Flows.{extent_for}
use Rattle.sw_cert.specs.Reading.{IsStated, AreStated, states_of}
use Rattle.sw_cert.specs.Shown.{Shows}
use Rattle.sw_cert.specs.Tables.{blank_for, IsTabled, AreTabled}
use Rattle.sw_cert.specs.declared.flows.FunctionFlow.{FunctionFlow}
use Rattle.sw_cert.specs.declared.line.Line.{Line}

abbrev Table : Type 0
Table = List (Option Regions)

-- ---- nothing at any block
none_at : (count block : ℕ) → value_at {X = Regions} (replicate count None) block ≡ None
none_at zero block = refl
none_at (suc count) zero = refl
none_at (suc count) (suc block) = none_at count block

blank_at : (flows : List FunctionFlow) (n : ℕ) (flow : FunctionFlow)
    → slice_get flows n ≡ Some flow → states_of (map blank_for flows) n ≡ blank_for flow
blank_at [] n flow e = cc
blank_at (other ∷ flows) zero flow e = ap blank_for (some_injective e)
blank_at (other ∷ flows) (suc n) flow e = blank_at flows n flow e

if_none : (o : Option Regions) (P : Regions → Type 0) → o ≡ None → IfSome o P
if_none o P e = subst (λ x. IfSome x P) (sym e) tt

pub none_tabled : (flows : List FunctionFlow) (tables : List Table)
    → tables ≡ map blank_for flows → AreTabled flows [] tables
none_tabled flows tables value = record {
  count = ap length value ∙ length-map flows blank_for;
  places = λ n flow is. ap length (here n flow is)
      ∙ length-replicate (length flow.blocks.setting.body.blocks) None;
  sized = λ n flow is block. if_none _ _ (empty n flow is block);
  stated = λ n flow is. record {
    sites = λ block state at. let none = empty n flow is block in cc;
    stated = λ block state at. let none = empty n flow is block in cc;
    all = λ line (k, within, e) same. absurd (omega (arith, within));
  };
}
  where
    here : (n : ℕ) (flow : FunctionFlow) → slice_get flows n ≡ Some flow
        → states_of tables n ≡ blank_for flow
    here n flow is = ap (λ ts. states_of ts n) value ∙ blank_at flows n flow is

    empty : (n : ℕ) (flow : FunctionFlow) → slice_get flows n ≡ Some flow → (block : ℕ)
        → value_at (states_of tables n) block ≡ None
    empty n flow is block = ap (λ t. value_at t block) (here n flow is)
        ∙ none_at (length flow.blocks.setting.body.blocks) block

-- ---- one line more
pub member_push : {X : Type 0} (xs : List X) (x y : X) → Contains xs x → Contains (xs ++ y ∷ []) x
member_push [] x y (k, within, e) = absurd (omega (arith, within))
member_push (z ∷ xs) x y (zero, within, e) = (0, omega arith, e)
member_push (z ∷ xs) x y (suc k, within, e) =
    let h = member_push xs x y (k, omega (arith, within), e) in
    (suc h.0, omega (arith, h.1), h.2)

pub member_last : {X : Type 0} (xs : List X) (y : X) → Contains (xs ++ y ∷ []) y
member_last [] y = (0, omega arith, refl)
member_last (x ∷ xs) y = let h = member_last xs y in (suc h.0, omega (arith, h.1), h.2)

pub member_pushed : {X : Type 0} (xs : List X) (x y : X) → Contains (xs ++ y ∷ []) x
    → Contains xs x ⊎ (y ≡ x)
member_pushed [] x y (zero, within, e) = inr e
member_pushed [] x y (suc k, within, e) = absurd (omega (arith, within))
member_pushed (z ∷ xs) x y (zero, within, e) = inl (0, omega arith, e)
member_pushed (z ∷ xs) x y (suc k, within, e) =
    elim (member_pushed xs x y (k, omega (arith, within), e)) [
      | inl (j, inside, is) ↦ inl (suc j, omega (arith, inside), is)
      | inr last ↦ inr last
    ]

module _ (flows : List FunctionFlow) (lines : List Line) (line : Line) (old new : List Table)
    (so_far : AreTabled flows lines old) (puts : IsTabled flows line old new) where
  is_within : line.function < length old
  is_within = let h = slice_get_within flows line.function puts.flow puts.is_flow in
      omega (arith, h, so_far.count)

  -- the table of the line's function, and those of others
  here : states_of new line.function
      ≡ slice_set (states_of old line.function) line.block (Some puts.state)
  here = ap (λ ts. states_of ts line.function) puts.value
      ∙ get_or-set_same old line.function
      (slice_set (states_of old line.function) line.block (Some puts.state)) [] is_within

  there : (n : ℕ) → n ≢ line.function → states_of new n ≡ states_of old n
  there n other = ap (λ ts. states_of ts n) puts.value
      ∙ get_or-set_other old line.function n
      (slice_set (states_of old line.function) line.block (Some puts.state)) [] other

  block_within : line.block < length (states_of old line.function)
  block_within = let h = so_far.places line.function puts.flow puts.is_flow in
      omega (arith, h, puts.room)

  at_block : value_at (states_of new line.function) line.block ≡ Some puts.state
  at_block = ap (λ t. value_at t line.block) here
      ∙ get_or-set_same (states_of old line.function) line.block (Some puts.state) None block_within

  at_other : (block : ℕ) → block ≢ line.block
      → value_at (states_of new line.function) block
      ≡ value_at (states_of old line.function) block
  at_other block other = ap (λ t. value_at t block) here
      ∙ get_or-set_other (states_of old line.function) line.block block (Some puts.state) None other

  -- the value at a block is the line's state, or the one before
  cases : (n block : ℕ) → ((n ≡ line.function) × (block ≡ line.block))
      ⊎ (value_at (states_of new n) block ≡ value_at (states_of old n) block)
  cases n block = elim (cases_eq n line.function) [
    | inr other ↦ inr (ap (λ t. value_at t block) (there n other))
    | inl same ↦ elim (cases_eq block line.block) [
      | inl same_too ↦ inl (same, same_too)
      | inr other ↦ inr (subst (λ m. value_at (states_of new m) block
          ≡ value_at (states_of old m) block) (sym same) (at_other block other))
    ]
  ]

  at_line : (n block : ℕ) → n ≡ line.function → block ≡ line.block
      → value_at (states_of new n) block ≡ Some puts.state
  at_line n block same same_too =
      ap (λ m. value_at (states_of new m) block) same
      ∙ ap (λ b. value_at (states_of new line.function) b) same_too ∙ at_block

  flow_is : (n : ℕ) (flow : FunctionFlow) → slice_get flows n ≡ Some flow → n ≡ line.function
      → puts.flow ≡ flow
  flow_is n flow is same =
      some_injective (sym puts.is_flow ∙ ap (slice_get flows) (sym same) ∙ is)

  stated_kept : (n block : ℕ) (state : Regions) → IsStated lines n block state
      → IsStated (lines ++ line ∷ []) n block state
  stated_kept n block state is = record {
    line = is.line;
    is_line = member_push lines is.line line is.is_line;
    function_is = is.function_is;
    block_is = is.block_is;
    shows = is.shows;
  }

  places : (n : ℕ) (flow : FunctionFlow) → slice_get flows n ≡ Some flow
      → length (states_of new n) ≡ length flow.blocks.setting.body.blocks
  places n flow is = elim (cases_eq n line.function) [
    | inr other ↦ ap length (there n other) ∙ so_far.places n flow is
    | inl same ↦ ap (λ m. length (states_of new m)) same ∙ ap length here
        ∙ length-set (states_of old line.function) line.block (Some puts.state)
        ∙ ap (λ m. length (states_of old m)) (sym same) ∙ so_far.places n flow is
  ]

  sized : (n : ℕ) (flow : FunctionFlow) → slice_get flows n ≡ Some flow → (block : ℕ)
      → IfSome (value_at (states_of new n) block) (λ state. size_of state ≡ size_of flow.entry)
  sized n flow is block = elim (cases n block) [
    | inl (same, same_too) ↦ subst (λ o. IfSome o (λ s. size_of s ≡ size_of flow.entry))
        (sym (at_line n block same same_too))
        (puts.size ∙ ap (λ f. size_of f.entry) (flow_is n flow is same))
    | inr kept ↦ subst (λ o. IfSome o (λ s. size_of s ≡ size_of flow.entry)) (sym kept)
        (so_far.sized n flow is block)
  ]

  sites_of_size : (a b : Regions) → size_of a ≡ size_of b → a.sites ≡ b.sites
  sites_of_size a b e = cc

  stated : (n : ℕ) (flow : FunctionFlow) → slice_get flows n ≡ Some flow
      → AreStated (extent_for flow) (lines ++ line ∷ []) n (states_of new n)
  stated n flow is = record {
    sites = λ block state at. elim (cases n block) [
      | inl (same, same_too) ↦ (
          let e = some_injective (sym (at_line n block same same_too) ∙ at) in
          sym (ap (λ s. s.sites) e) ∙ sites_of_size puts.state puts.flow.entry puts.size
          ∙ ap (λ f. f.entry.sites) (flow_is n flow is same)
          )
      | inr kept ↦ (so_far.stated n flow is).sites block state (sym kept ∙ at)
    ];
    stated = λ block state at. elim (cases n block) [
      | inl (same, same_too) ↦ record {
        line = line;
        is_line = member_last lines line;
        function_is = sym same;
        block_is = sym same_too;
        shows = subst (Shows line) (some_injective (sym (at_line n block same same_too) ∙ at))
            puts.shows;
      }
      | inr kept ↦ stated_kept n block state
          ((so_far.stated n flow is).stated block state (sym kept ∙ at))
    ];
    all = λ other member of. elim (cases n other.block) [
      | inl (same, same_too) ↦ subst IsSome (sym (at_line n other.block same same_too)) refl
      | inr kept ↦ elim (member_pushed lines other line member) [
        | inl before ↦ subst IsSome (sym kept) ((so_far.stated n flow is).all other before of)
        | inr last ↦ subst IsSome
            (sym (at_line n other.block (sym of ∙ ap (λ l. l.function) (sym last))
            (ap (λ l. l.block) (sym last)))) refl
      ]
    ];
  }

  pub one_tabled : AreTabled flows (lines ++ line ∷ []) new
  one_tabled = record {
    count = ap length puts.value
        ∙ length-set old line.function
        (slice_set (states_of old line.function) line.block (Some puts.state)) ∙ so_far.count;
    places = places;
    sized = sized;
    stated = stated;
  }
